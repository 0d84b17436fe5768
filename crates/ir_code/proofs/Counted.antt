-- What is mentioned, counted: names, and words of literals.
use Rattle.std.proofs.Common.{◌≡◌, ℕ, ◌+◌, ◌≤◌, ◌++◌, List, [], ◌∷◌, length, map, refl, ap, sym, ◌∙◌, arith}
use Rattle.std.specs.Prelude.{flat_map}
use Rattle.std.specs.List.{sum_by}
use Rattle.std.proofs.lemmas.List.Concat.{flat_map-cons}
use Rattle.std.proofs.lemmas.List.Sums.{sum_by-append, sum_by-cons}
use Rattle.beam_code.specs.declared.instr.Operand.{Operand}
use Rattle.beam_code.specs.declared.instr.Operand.TheVariants as o
use Rattle.beam_code.specs.declared.module.Function.{Function}
use Rattle.beam_code.specs.declared.module.Module.{Module}
use Rattle.beam_code.specs.Lined.{Lined}
use Rattle.beam_code.specs.Shape.{Target, Inside, Outside, Reason, Clause, Shape, Calls, Raises, shape_of}
use Rattle.ir_code.specs.Constants.{with_mention, with_mentions}
use Rattle.ir_code.specs.Mentions.{Mention, Named, Literal, literals_of, operand_mentions, target_mentions, reason_mentions, bare_mentions, shape_mentions, function_mentions, module_mentions, mentions_of}
use Rattle.module_sizes.specs.Atoms.{atoms_of, atoms_of_all}
use Rattle.module_sizes.specs.Counts.{all_operands, operand_names, operand_words, target_names, reason_names, bare_names, instr_names, instr_words, function_names, function_words, names_in, literal_words_in}
use Rattle.tagged_words.proofs.Tables.{few_with}
use Rattle.tagged_words.specs.Laid.{with_atoms, with_all_atoms}
use Rattle.term_tree.specs.Size.{words_of}
use Rattle.term_tree.specs.Term.{tree_of}
use Rattle.term_tree.specs.Tree as u
use Rattle.word_laying.specs.Count.{row_words}

sum-flat_map : {X Y : Type 0} (w : Y → ℕ) (f : X → List Y) (c : X → ℕ) → ((x : X) → sum_by w (f x) ≡ c x) → (xs : List X) → sum_by w (flat_map f xs) ≡ sum_by c xs
sum-flat_map w f c each [] = refl
sum-flat_map w f c each (x ∷ xs) =
    let one = each x in
    let rest = sum-flat_map w f c each xs in
    ap (sum_by w) (flat_map-cons f x xs) ∙ omega (arith, one, rest, sum_by-append w (f x) (flat_map f xs), sum_by-cons c x xs)

-- what a mention counts: one name or those of a literal; the words of a literal
abbrev pub mention_names : Mention → ℕ
mention_names (Named a) = 1
mention_names (Literal v) = atoms_of v

abbrev pub mention_words : Mention → ℕ
mention_words (Named a) = 0
mention_words (Literal v) = words_of v

-- ---- names

names-operand : (x : Operand) → sum_by mention_names (operand_mentions x) ≡ operand_names x
names-operand (o.Atom a) = refl
names-operand (o.Literal t) = sum_by-cons mention_names (Literal (tree_of t)) [] ∙ omega arith
names-operand x = refl

names-target : (t : Target) → sum_by mention_names (target_mentions t) ≡ target_names t
names-target (Inside label) = refl
names-target (Outside callee) = refl

names-reason : (r : Reason) → sum_by mention_names (reason_mentions r) ≡ reason_names r
names-reason (Clause m f arity) = refl
names-reason r = refl

names-bare : (s : Shape) → sum_by mention_names (bare_mentions s) ≡ bare_names s
names-bare (Calls target arity leaving) = names-target target
names-bare (Raises reason) = names-reason reason
names-bare s = refl

names-shape : (s : Shape) → sum_by mention_names (shape_mentions s) ≡ bare_names s + sum_by operand_names (all_operands s)
names-shape s =
    let bare = names-bare s in
    let operands = sum-flat_map mention_names operand_mentions operand_names names-operand (all_operands s) in
    sum_by-append mention_names (bare_mentions s) (flat_map operand_mentions (all_operands s)) ∙ omega arith

names-function : (f : Function) → sum_by mention_names (function_mentions f) ≡ function_names f
names-function f =
    let items = sum-flat_map mention_names (λ (x : Lined). shape_mentions (shape_of x.instr)) (λ x. instr_names x.instr) (λ x. names-shape (shape_of x.instr)) f.items in
    sum_by-cons mention_names (Named f.name) (flat_map (λ x. shape_mentions (shape_of x.instr)) f.items) ∙ omega arith

names-exports : (es : List (List ℕ × ℕ)) → sum_by mention_names (map (λ e. Named e.0) es) ≡ length es
names-exports [] = refl
names-exports (e ∷ es) = let rest = names-exports es in sum_by-cons mention_names (Named e.0) (map (λ e. Named e.0) es) ∙ omega arith

names-module : (m : Module) → sum_by mention_names (module_mentions m) ≡ names_in m
names-module m =
    let exports = names-exports m.exports in
    let functions = sum-flat_map mention_names function_mentions function_names names-function m.functions in
    let both = sum_by-append mention_names (map (λ e. Named e.0) m.exports) (flat_map function_mentions m.functions) in
    sum_by-cons mention_names (Named m.name) (map (λ e. Named e.0) m.exports ++ flat_map function_mentions m.functions) ∙ omega arith

pub names-mentions : (ms : List Module) → sum_by mention_names (mentions_of ms) ≡ sum_by names_in ms
names-mentions ms = sum-flat_map mention_names module_mentions names_in names-module ms

-- a table grows by no more than these
mutual
  few_atoms : (names : List (List ℕ)) (v : u.Tree) → length (with_atoms names v) ≤ length names + atoms_of v
  few_atoms names (u.Int i) = omega arith
  few_atoms names (u.Atom a) = few_with names a
  few_atoms names u.Nil = omega arith
  few_atoms names (u.Cons head tail) = let a = few_atoms names head in let b = few_atoms (with_atoms names head) tail in omega arith
  few_atoms names (u.Tuple vs) = all_few names vs

  all_few : (names : List (List ℕ)) (vs : u.Trees) → length (with_all_atoms names vs) ≤ length names + atoms_of_all vs
  all_few names u.No = omega arith
  all_few names (u.More v vs) = let a = few_atoms names v in let b = all_few (with_atoms names v) vs in omega arith

few_mention : (names : List (List ℕ)) (m : Mention) → length (with_mention names m) ≤ length names + mention_names m
few_mention names (Named a) = few_with names a
few_mention names (Literal v) = few_atoms names v

pub few_mentions : (names : List (List ℕ)) (ms : List Mention) → length (with_mentions names ms) ≤ length names + sum_by mention_names ms
few_mentions names [] = omega arith
few_mentions names (m ∷ ms) =
    let one = few_mention names m in
    let rest = few_mentions (with_mention names m) ms in
    omega (arith, one, rest, sum_by-cons mention_names m ms)

-- ---- words

words-operand : (x : Operand) → sum_by mention_words (operand_mentions x) ≡ operand_words x
words-operand (o.Atom a) = refl
words-operand (o.Literal t) = sum_by-cons mention_words (Literal (tree_of t)) [] ∙ omega arith
words-operand x = refl

words-target : (t : Target) → sum_by mention_words (target_mentions t) ≡ 0
words-target (Inside label) = refl
words-target (Outside callee) = refl

words-reason : (r : Reason) → sum_by mention_words (reason_mentions r) ≡ 0
words-reason (Clause m f arity) = refl
words-reason r = refl

words-bare : (s : Shape) → sum_by mention_words (bare_mentions s) ≡ 0
words-bare (Calls target arity leaving) = words-target target
words-bare (Raises reason) = words-reason reason
words-bare s = refl

words-shape : (s : Shape) → sum_by mention_words (shape_mentions s) ≡ sum_by operand_words (all_operands s)
words-shape s =
    let bare = words-bare s in
    let operands = sum-flat_map mention_words operand_mentions operand_words words-operand (all_operands s) in
    sum_by-append mention_words (bare_mentions s) (flat_map operand_mentions (all_operands s)) ∙ omega arith

words-function : (f : Function) → sum_by mention_words (function_mentions f) ≡ function_words f
words-function f =
    let items = sum-flat_map mention_words (λ (x : Lined). shape_mentions (shape_of x.instr)) (λ x. instr_words x.instr) (λ x. words-shape (shape_of x.instr)) f.items in
    sum_by-cons mention_words (Named f.name) (flat_map (λ x. shape_mentions (shape_of x.instr)) f.items) ∙ omega arith

words-exports : (es : List (List ℕ × ℕ)) → sum_by mention_words (map (λ e. Named e.0) es) ≡ 0
words-exports [] = refl
words-exports (e ∷ es) = let rest = words-exports es in sum_by-cons mention_words (Named e.0) (map (λ e. Named e.0) es) ∙ omega arith

words-module : (m : Module) → sum_by mention_words (module_mentions m) ≡ literal_words_in m
words-module m =
    let exports = words-exports m.exports in
    let functions = sum-flat_map mention_words function_mentions function_words words-function m.functions in
    let both = sum_by-append mention_words (map (λ e. Named e.0) m.exports) (flat_map function_mentions m.functions) in
    sum_by-cons mention_words (Named m.name) (map (λ e. Named e.0) m.exports ++ flat_map function_mentions m.functions) ∙ omega arith

words-literals : (all : List Mention) → row_words 0 (literals_of all) ≡ sum_by mention_words all
words-literals [] = refl
words-literals (Named a ∷ all) = let rest = words-literals all in sym (sum_by-cons mention_words (Named a) all ∙ omega (arith, rest))
words-literals (Literal v ∷ all) = let rest = words-literals all in sym (sum_by-cons mention_words (Literal v) all ∙ omega (arith, rest))

-- the words of all literals
pub words-mentions : (ms : List Module) → row_words 0 (literals_of (mentions_of ms)) ≡ sum_by literal_words_in ms
words-mentions ms = words-literals (mentions_of ms) ∙ sum-flat_map mention_words module_mentions literal_words_in words-module ms
