-- The literals of modules are terms, and a table of what is mentioned has their names.
use Rattle.std.proofs.Common.{◌≡◌, ℕ, ℤ, pos, negsuc, ◌≤◌, ◌++◌, Bool, true, false, ◌||◌, List, [], ◌∷◌, None, Some, map, refl, sym, subst, ◌∙◌, arith}
use Rattle.std.specs.Prelude.{◌&&◌, flat_map}
use Rattle.std.specs.Cmp.Lexicographic.{same_text}
use Rattle.std.specs.List.{AllByRecursion, list_all}
use Rattle.std.proofs.lemmas.Bool.{and_from}
use Rattle.std.proofs.lemmas.Bool.Decides.{nat_tests}
use Rattle.beam_code.specs.Canonical.{is_canonical_operand, are_canonical_operands, are_canonical_cases, is_canonical_instr, are_canonical_items}
use Rattle.beam_code.specs.CanonicalModule.{are_canonical_functions}
use Rattle.beam_code.specs.declared.instr.Case.{Case}
use Rattle.beam_code.specs.declared.instr.Instr.{Instr}
use Rattle.beam_code.specs.declared.instr.Instr.TheVariants as i
use Rattle.beam_code.specs.declared.instr.Operand.{Operand}
use Rattle.beam_code.specs.declared.instr.Operand.TheVariants as o
use Rattle.beam_code.specs.declared.instr.Place.{Place}
use Rattle.beam_code.specs.declared.instr.Place.TheVariants as place
use Rattle.beam_code.specs.declared.module.Function.{Function}
use Rattle.beam_code.specs.declared.module.Module.{Module}
use Rattle.beam_code.specs.Lined.{Lined}
use Rattle.beam_code.specs.Row.{place_operand}
use Rattle.beam_code.specs.Shape.{Target, Inside, Outside, Reason, Clause, Shape, Calls, Raises, shape_of}
use Rattle.image_format.specs.declared.limits.TheConstants.{MOST_LITERALS}
use Rattle.ir_code.specs.Laying.{CanStand}
use Rattle.ir_code.specs.Mentions.{Mention, Named, Literal, literals_of, operand_mentions, target_mentions, reason_mentions, bare_mentions, shape_mentions, function_mentions, module_mentions, mentions_of}
use Rattle.laid_terms.specs.Named.{IsNamed, AreNamed}
use Rattle.module_sizes.specs.Counts.{all_operands}
use Rattle.tagged_words.specs.Atoms.{is_among}
use Rattle.term_tree.proofs.TermLaws.{tree_of-Int, tree_of-Atom, tree_of-proper, tree_of-improper, tree_of-Tuple, canonical-Int, canonical-proper, canonical-Tuple, improper_parts, both_hold, term_ind}
use Rattle.term_tree.specs.declared.term.Term as t
use Rattle.term_tree.specs.declared.term.Term.{Term}
use Rattle.term_tree.specs.IsTerm.{IsTerm, AreTerms}
use Rattle.term_tree.specs.Name.{is_name, same_name}
use Rattle.term_tree.specs.Size.{words_of, words_of_all}
use Rattle.term_tree.specs.Small.{IsSmall, is_small}
use Rattle.term_tree.specs.Term.{is_canonical, tree_of}
use Rattle.term_tree.specs.Tree as u
use Rattle.term_tree.specs.Tree.{Tree, conses, trees_of}
use Rattle.word_laying.specs.Count.{row_words}

-- at every depth small integers
abbrev mutual
  pub HasSmalls : Tree → Type 0
  HasSmalls (u.Int i) = IsSmall i
  HasSmalls (u.Atom a) = Unit {0}
  HasSmalls u.Nil = Unit {0}
  HasSmalls (u.Cons head tail) = HasSmalls head × HasSmalls tail
  HasSmalls (u.Tuple vs) = HaveSmalls vs

  pub HaveSmalls : u.Trees → Type 0
  HaveSmalls u.No = Unit {0}
  HaveSmalls (u.More v vs) = HasSmalls v × HaveSmalls vs

small_is : (i : ℤ) → is_small i ≡ true → IsSmall i
small_is (pos n) e = grind (arith, nat_tests)
small_is (negsuc n) e = grind (arith, nat_tests)

-- the terms of a canonical one are canonical
abbrev IsGood : Term → Type 0
IsGood x = is_canonical x ≡ true → HasSmalls (tree_of x)

abbrev Good : Type 0
Good = (x : Term) × IsGood x

conses_good : (all : List Good) (end : Tree) → list_all is_canonical (map (λ e. e.0) all) ≡ true → HasSmalls end → HasSmalls (conses (map tree_of (map (λ e. e.0) all)) end)
conses_good [] end fine last = last
conses_good (e ∷ all) end fine last =
    let both = both_hold (is_canonical e.0) (list_all is_canonical (map (λ e. e.0) all)) fine in
    (e.1 both.0, conses_good all end both.1 last)

trees_good : (all : List Good) → list_all is_canonical (map (λ e. e.0) all) ≡ true → HaveSmalls (trees_of (map tree_of (map (λ e. e.0) all)))
trees_good [] fine = tt
trees_good (e ∷ all) fine =
    let both = both_hold (is_canonical e.0) (list_all is_canonical (map (λ e. e.0) all)) fine in
    (e.1 both.0, trees_good all both.1)

int_good : (i : ℤ) → IsGood (t.Int i)
int_good i fine = subst HasSmalls (sym (tree_of-Int i)) (small_is i (sym (canonical-Int i) ∙ fine))

atom_good : (a : List ℕ) → IsGood (t.Atom a)
atom_good a fine = subst HasSmalls (sym (tree_of-Atom a)) tt

proper_good : (all : List Good) → IsGood (t.List (map (λ e. e.0) all) None)
proper_good all fine =
    subst HasSmalls (sym (tree_of-proper (map (λ e. e.0) all))) (conses_good all u.Nil (sym (canonical-proper (map (λ e. e.0) all)) ∙ fine) tt)

improper_good : (all : List Good) (e : Term) → IsGood e → IsGood (t.List (map (λ e. e.0) all) (Some e))
improper_good all e good fine =
    let parts = improper_parts (map (λ e. e.0) all) e fine in
    subst HasSmalls (sym (tree_of-improper (map (λ e. e.0) all) e)) (conses_good all (tree_of e) parts.front (good parts.tail))

tuple_good : (all : List Good) → IsGood (t.Tuple (map (λ e. e.0) all))
tuple_good all fine = subst HasSmalls (sym (tree_of-Tuple (map (λ e. e.0) all))) (trees_good all (sym (canonical-Tuple (map (λ e. e.0) all)) ∙ fine))

canonical_good : (x : Term) → IsGood x
canonical_good = term_ind IsGood int_good atom_good proper_good improper_good tuple_good

-- canonical terms are so
pub terms_good : (xs : List Term) → list_all is_canonical xs ≡ true → AllByRecursion HasSmalls (map tree_of xs)
terms_good [] fine = tt
terms_good (x ∷ xs) fine =
    let both = both_hold (is_canonical x) (list_all is_canonical xs) fine in
    (canonical_good x both.0, terms_good xs both.1)

-- ---- the literals of modules

abbrev AreGood : List Mention → Type 0
AreGood all = AllByRecursion HasSmalls (literals_of all)

good_both : (xs ys : List Mention) → AreGood xs → AreGood ys → AreGood (xs ++ ys)
good_both [] ys a b = b
good_both (Named n ∷ xs) ys a b = good_both xs ys a b
good_both (Literal v ∷ xs) ys a b = (a.0, good_both xs ys a.1 b)

good_all : {X : Type 0} (f : X → List Mention) (test : X → Bool) → ((x : X) → test x ≡ true → AreGood (f x)) → (xs : List X) → list_all test xs ≡ true → AreGood (flat_map f xs)
good_all f test each [] fine = tt
good_all f test each (x ∷ xs) fine =
    let both = both_hold (test x) (list_all test xs) fine in
    good_both (f x) (flat_map f xs) (each x both.0) (good_all f test each xs both.1)

operand_good : (x : Operand) → is_canonical_operand x ≡ true → AreGood (operand_mentions x)
operand_good (o.Atom a) fine = tt
operand_good (o.Literal x) fine = (canonical_good x fine, tt)
operand_good x fine = tt

target_good : (target : Target) → AreGood (target_mentions target)
target_good (Inside label) = tt
target_good (Outside callee) = tt

reason_good : (r : Reason) → AreGood (reason_mentions r)
reason_good (Clause m f arity) = tt
reason_good r = tt

bare_good : (s : Shape) → AreGood (bare_mentions s)
bare_good (Calls target arity leaving) = target_good target
bare_good (Raises reason) = reason_good reason
bare_good s = tt

place_fine : (p : Place) → is_canonical_operand (place_operand p) ≡ true
place_fine (place.X n) = refl
place_fine (place.Y n) = refl

cases_fine : (cases : List Case) → are_canonical_cases cases ≡ true → are_canonical_operands (map (λ c. c.value) cases) ≡ true
cases_fine [] fine = refl
cases_fine (c ∷ cases) fine =
    let both = both_hold (is_canonical_operand c.value) (are_canonical_cases cases) fine in
    and_from (is_canonical_operand c.value) (are_canonical_operands (map (λ c. c.value) cases)) both.0 (cases_fine cases both.1)

one_fine : (a : Operand) → is_canonical_operand a ≡ true → are_canonical_operands (a ∷ []) ≡ true
one_fine a fine = and_from (is_canonical_operand a) true fine refl

two_fine : (a b : Operand) → is_canonical_operand a && is_canonical_operand b ≡ true → are_canonical_operands (a ∷ b ∷ []) ≡ true
two_fine a b fine =
    let both = both_hold (is_canonical_operand a) (is_canonical_operand b) fine in
    and_from (is_canonical_operand a) (are_canonical_operands (b ∷ [])) both.0 (one_fine b both.1)

instr_fine : (x : Instr) → is_canonical_instr x ≡ true → are_canonical_operands (all_operands (shape_of x)) ≡ true
instr_fine (i.Move from to) fine = one_fine from fine
instr_fine (i.Swap a b) fine = two_fine (place_operand a) (place_operand b) (and_from (is_canonical_operand (place_operand a)) (is_canonical_operand (place_operand b)) (place_fine a) (place_fine b))
instr_fine (i.GetList from head tail) fine = one_fine from fine
instr_fine (i.GetHd from to) fine = one_fine from fine
instr_fine (i.GetTl from to) fine = one_fine from fine
instr_fine (i.GetTupleElement from at to) fine = one_fine from fine
instr_fine (i.PutList head tail to) fine = two_fine head tail fine
instr_fine (i.PutTuple2 to parts) fine = fine
instr_fine (i.Test name label operands) fine = fine
instr_fine (i.SelectVal from label cases) fine =
    let both = both_hold (is_canonical_operand from) (are_canonical_cases cases) fine in
    and_from (is_canonical_operand from) (are_canonical_operands (map (λ c. c.value) cases)) both.0 (cases_fine cases both.1)
instr_fine (i.SelectTupleArity from label cases) fine = one_fine from fine
instr_fine (i.Bif name fail operands to) fine = fine
instr_fine (i.GcBif name fail live operands to) fine = fine
instr_fine (i.Badmatch value) fine = one_fine value fine
instr_fine (i.CaseEnd value) fine = one_fine value fine
instr_fine (i.TryCaseEnd value) fine = one_fine value fine
instr_fine (i.BifRaise class reason to) fine = two_fine class reason fine
instr_fine (i.Raise class reason to) fine = two_fine class reason fine
instr_fine x fine = refl

instr_good : (x : Instr) → is_canonical_instr x ≡ true → AreGood (shape_mentions (shape_of x))
instr_good x fine =
    good_both (bare_mentions (shape_of x)) (flat_map operand_mentions (all_operands (shape_of x))) (bare_good (shape_of x))
    (good_all operand_mentions is_canonical_operand operand_good (all_operands (shape_of x)) (instr_fine x fine))

function_good : (f : Function) → are_canonical_items f.items ≡ true → AreGood (function_mentions f)
function_good f fine = good_all (λ (x : Lined). shape_mentions (shape_of x.instr)) (λ x. is_canonical_instr x.instr) (λ x here. instr_good x.instr here) f.items fine

exports_good : (es : List (List ℕ × ℕ)) → AreGood (map (λ e. Named e.0) es)
exports_good [] = tt
exports_good (e ∷ es) = exports_good es

module_good : (m : Module) → are_canonical_functions m.functions ≡ true → AreGood (module_mentions m)
module_good m fine =
    good_both (map (λ e. Named e.0) m.exports) (flat_map function_mentions m.functions) (exports_good m.exports)
    (good_all function_mentions (λ f. are_canonical_items f.items) function_good m.functions fine)

pub literals_good : (ms : List Module) → list_all (λ m. are_canonical_functions m.functions) ms ≡ true → AllByRecursion HasSmalls (literals_of (mentions_of ms))
literals_good ms fine = good_all module_mentions (λ m. are_canonical_functions m.functions) module_good ms fine

-- ---- terms

name_if : (a n : List ℕ) (ns : List (List ℕ)) (b : Bool) → same_name a n ≡ b → is_name n ≡ true → (is_among a ns ≡ true → is_name a ≡ true) → b || is_among a ns ≡ true → is_name a ≡ true
name_if a n ns true same name rest here = subst (λ x. is_name x ≡ true) (sym (same_text a n (sym same))) name
name_if a n ns false same name rest here = rest here

name_among : (a : List ℕ) (names : List (List ℕ)) → list_all is_name names ≡ true → is_among a names ≡ true → is_name a ≡ true
name_among a [] all here = absurd cc
name_among a (n ∷ ns) all here =
    let both = both_hold (is_name n) (list_all is_name ns) all in
    name_if a n ns (same_name a n) refl both.0 (name_among a ns both.1) here

module _ (names : List (List ℕ)) (all : list_all is_name names ≡ true) where
  mutual
    is_term : (v : Tree) → IsNamed names v → HasSmalls v → words_of v ≤ MOST_LITERALS → IsTerm v
    is_term (u.Int i) named smalls few = smalls
    is_term (u.Atom a) named smalls few = name_among a names all named
    is_term u.Nil named smalls few = tt
    is_term (u.Cons head tail) named smalls few = (is_term head named.0 smalls.0 (omega arith), is_term tail named.1 smalls.1 (omega arith))
    is_term (u.Tuple vs) named smalls few = (omega arith, are_terms vs named smalls (omega arith))

    are_terms : (vs : u.Trees) → AreNamed names vs → HaveSmalls vs → words_of_all vs ≤ MOST_LITERALS → AreTerms vs
    are_terms u.No named smalls few = tt
    are_terms (u.More v vs) named smalls few = (is_term v named.0 smalls.0 (omega arith), are_terms vs named.1 smalls.1 (omega arith))

  pub all_stand : (vs : List Tree) → AllByRecursion (IsNamed names) vs → AllByRecursion HasSmalls vs → row_words 0 vs ≤ MOST_LITERALS → AllByRecursion (CanStand names) vs
  all_stand [] named smalls few = tt
  all_stand (v ∷ vs) named smalls few =
      (record { term = is_term v named.0 smalls.0 (omega arith); named = named.0 }, all_stand vs named.1 smalls.1 (omega arith))
