-- Where the mentions of an item stand among those of all modules.
use Rattle.std.proofs.Common.{◌≡◌, ℕ, zero, suc, ◌+◌, ◌≤◌, ◌++◌, true, List, [], ◌∷◌, Option, Some, None, length, map, take, slice_get, refl, ap, subst, sym, ◌∙◌, append_assoc, arith, length-append}
use Rattle.std.specs.Prelude.{flat_map, is_some}
use Rattle.std.proofs.lemmas.Grind.{flat_map-append}
use Rattle.term_tree.proofs.TermLaws.{both_hold}
use Rattle.term_tree.specs.Tree.{Tree}
use Rattle.beam_code.specs.declared.instr.Instr.{Instr}
use Rattle.beam_code.specs.declared.instr.Instr.TheVariants as i
use Rattle.beam_code.specs.declared.instr.Operand.{Operand}
use Rattle.beam_code.specs.declared.instr.Operand.TheVariants as o
use Rattle.beam_code.specs.declared.module.Function.{Function}
use Rattle.beam_code.specs.declared.module.Module.{Module}
use Rattle.beam_code.specs.Function.{Placed, all_functions, function_at, items_in, items_of}
use Rattle.beam_code.specs.Lined.{Lined}
use Rattle.beam_code.specs.Shape.{shape_of}
use Rattle.ir_code.specs.Mentions.{Mention, Named, Literal, literal_of, literals_of, operand_mentions, shape_mentions, function_mentions, mentions_of}
use Rattle.laid_terms.proofs.Standing.{behind}
use Rattle.trivial_code.specs.Image.{literals_before}
use Rattle.trivial_code.specs.Returned.{literals_at, literals_among, literals_in, literals_within}
use Rattle.trivial_code.specs.Trivial.{action_of, are_plain, moved_operand}

abbrev item_mentions : Lined → List Mention
item_mentions x = shape_mentions (shape_of x.instr)

abbrev pub many : List Mention → ℕ
many ms = length (literals_of ms)

many-both : (xs ys : List Mention) → many (xs ++ ys) ≡ many xs + many ys
many-both xs ys = ap (λ (vs : List Tree). length vs) (flat_map-append literal_of xs ys) ∙ length-append (literals_of xs) (literals_of ys)

-- mentions stand among others, so many literals behind the first
pub record Split (all : List Mention) (before : ℕ) (here : List Mention) : Type 0 where
  pub front : List Mention
  pub back : List Mention
  pub is : all ≡ front ++ (here ++ back)
  pub count : length (literals_of front) ≡ before

at_front : (here back : List Mention) → Split (here ++ back) 0 here
at_front here back = record { front = []; back = back; is = refl; count = refl }

-- behind others
further : (pre all here : List Mention) (n before : ℕ) → many pre ≡ n → Split all before here → Split (pre ++ all) (n + before) here
further pre all here n before is s =
    record {
      front = pre ++ s.front;
      back = s.back;
      is = ap (λ ms. pre ++ ms) s.is ∙ sym (append_assoc pre s.front (here ++ s.back));
      count = (let c = s.count in many-both pre s.front ∙ omega arith);
    }

-- behind others without literals
behind_none : (pre all here : List Mention) (before : ℕ) → many pre ≡ 0 → Split all before here → Split (pre ++ all) before here
behind_none pre all here before none s =
    let same : 0 + before ≡ before = omega arith in
    subst (λ n. Split (pre ++ all) n here) same (further pre all here 0 before none s)

-- with others behind
with_more : (all post here : List Mention) (before : ℕ) → Split all before here → Split (all ++ post) before here
with_more all post here before s =
    record {
      front = s.front;
      back = s.back ++ post;
      is = ap (λ ms. ms ++ post) s.is ∙ append_assoc s.front (here ++ s.back) post ∙ ap (λ ms. s.front ++ ms) (append_assoc here s.back post);
      count = s.count;
    }

-- within others
within : (all outer here : List Mention) (a b : ℕ) → Split all a outer → Split outer b here → Split all (a + b) here
within all outer here a b s t =
    subst (λ ms. Split ms (a + b) here) (sym s.is) (further s.front (outer ++ s.back) here a b s.count (with_more outer s.back here b t))

-- ---- how many literals plain items mention

from_many : (from : Operand) → many (operand_mentions from ++ []) ≡ literals_at (Some from)
from_many (o.X n) = refl
from_many (o.Y n) = refl
from_many (o.Int n) = refl
from_many (o.Atom a) = refl
from_many o.Nil = refl
from_many (o.Literal u) = refl

instr_many : (instr : Instr) → is_some (action_of instr) ≡ true → many (shape_mentions (shape_of instr)) ≡ literals_at (moved_operand instr)
instr_many (i.Label n) is = refl
instr_many (i.Line about) is = refl
instr_many (i.Comment about) is = refl
instr_many (i.FuncInfo m f arity) is = refl
instr_many (i.Move from to) is = from_many from
instr_many i.Return is = refl
instr_many instr is = absurd cc

items_many : (items : List Lined) → are_plain items ≡ true → many (flat_map item_mentions items) ≡ literals_in items
items_many [] plain = refl
items_many (x ∷ items) plain =
    let b = both_hold (is_some (action_of x.instr)) (are_plain items) plain in
    let own = instr_many x.instr b.0 in
    let rest = items_many items b.1 in
    many-both (item_mentions x) (flat_map item_mentions items) ∙ omega arith

-- ---- an item among those of its function, a function among those of the modules

item_split : (items : List Lined) (at : ℕ) (x : Lined) → are_plain items ≡ true → slice_get items at ≡ Some x → Split (flat_map item_mentions items) (literals_in (take at items)) (item_mentions x)
item_split [] at x plain there = absurd cc
item_split (y ∷ items) zero x plain there =
    let same : y ≡ x = cc in
    subst (λ z. Split (flat_map item_mentions (y ∷ items)) 0 (item_mentions z)) same (at_front (item_mentions y) (flat_map item_mentions items))
item_split (y ∷ items) (suc at) x plain there =
    let b = both_hold (is_some (action_of y.instr)) (are_plain items) plain in
    further (item_mentions y) (flat_map item_mentions items) (item_mentions x) (literals_at (moved_operand y.instr)) (literals_in (take at items)) (instr_many y.instr b.0) (item_split items at x b.1 there)

abbrev pub ArePlain : List Placed → Type 0
ArePlain ps = (k : ℕ) (p : Placed) → slice_get ps k ≡ Some p → are_plain p.function.items ≡ true

abbrev plain : List Placed → List Function
plain ps = map (λ p. p.function) ps

abbrev placed : Module → Function → Placed
placed m f = record { owner = m; function = f }

exports_many : (es : List (List ℕ × ℕ)) → many (map (λ e. Named e.0) es) ≡ 0
exports_many [] = refl
exports_many (e ∷ es) = exports_many es

-- functions before which others stand, and behind which others are split
abbrev Splits : List Placed → List Mention → Type 0
Splits ps all = (fid : ℕ) (p : Placed) → ArePlain ps → slice_get ps fid ≡ Some p → Split all (literals_among (take fid (plain ps))) (function_mentions p.function)

functions_split : (m : Module) (fs : List Function) (rest : List Placed) (behind : List Mention) → Splits rest behind → Splits (map (placed m) fs ++ rest) (flat_map function_mentions fs ++ behind)
functions_split m [] rest behind split fid p are there = split fid p are there
functions_split m (f ∷ fs) rest behind split zero p are there =
    let same : placed m f ≡ p = cc in
    subst (λ (q : Placed). Split (flat_map function_mentions (f ∷ fs) ++ behind) 0 (function_mentions q.function)) same
    (with_more (flat_map function_mentions (f ∷ fs)) behind (function_mentions f) 0 (at_front (function_mentions f) (flat_map function_mentions fs)))
functions_split m (f ∷ fs) rest behind split (suc fid) p are there =
    subst (λ x. Split x (literals_in f.items + literals_among (take fid (plain (map (placed m) fs ++ rest)))) (function_mentions p.function))
    (sym (append_assoc (function_mentions f) (flat_map function_mentions fs) behind))
    (further (function_mentions f) (flat_map function_mentions fs ++ behind) (function_mentions p.function) (literals_in f.items) (literals_among (take fid (plain (map (placed m) fs ++ rest))))
    (items_many f.items (are 0 (placed m f) refl))
    (functions_split m fs rest behind split fid p (λ k q e. are (suc k) q e) there))

function_split : (ms : List Module) → Splits (all_functions ms) (mentions_of ms)
function_split [] fid p are there = absurd cc
function_split (m ∷ ms) fid p are there =
    let pre : List Mention = Named m.name ∷ map (λ e. Named e.0) m.exports in
    let before : ℕ = literals_among (take fid (plain (map (placed m) m.functions ++ all_functions ms))) in
    let all = functions_split m m.functions (all_functions ms) (mentions_of ms) (function_split ms) fid p are there in
    subst (λ x. Split x before (function_mentions p.function))
    (sym (append_assoc pre (flat_map function_mentions m.functions) (mentions_of ms)))
    (behind_none pre (flat_map function_mentions m.functions ++ mentions_of ms) (function_mentions p.function) before (exports_many m.exports) all)

pub located : (ms : List Module) (fid at : ℕ) (p : Placed) (x : Lined) → ArePlain (all_functions ms) → function_at ms fid ≡ Some p → slice_get p.function.items at ≡ Some x
    → Split (mentions_of ms) (literals_before ms fid + literals_in (take at p.function.items)) (shape_mentions (shape_of x.instr))
located ms fid at p x are there item =
    within (mentions_of ms) (function_mentions p.function) (item_mentions x) (literals_before ms fid) (literals_in (take at p.function.items)) (function_split ms fid p are there)
    (behind_none (Named p.function.name ∷ []) (flat_map item_mentions p.function.items) (item_mentions x) (literals_in (take at p.function.items)) refl
    (item_split p.function.items at x (are fid p there) item))

-- literals are no more than items

items_low : (items : List Lined) → literals_in items ≤ length items
items_low [] = omega arith
items_low (x ∷ items) = let own = one_low (moved_operand x.instr) in let rest = items_low items in omega arith
  where
    one_low : (o : Option Operand) → literals_at o ≤ 1
    one_low None = omega arith
    one_low (Some (o.Literal u)) = omega arith
    one_low (Some from) = omega arith

-- those before an item are no more than all
pub front_low : (items : List Lined) (at : ℕ) → literals_in (take at items) ≤ literals_in items
front_low [] zero = omega arith
front_low [] (suc at) = omega arith
front_low (x ∷ items) zero = omega arith
front_low (x ∷ items) (suc at) = let rest = front_low items at in omega arith

functions_low : (m : Module) (fs : List Function) (rest : List Placed) (more : ℕ) → more ≤ items_in rest → literals_among fs + more ≤ items_in (map (placed m) fs ++ rest)
functions_low m [] rest more low = omega arith
functions_low m (f ∷ fs) rest more low = let own = items_low f.items in let next = functions_low m fs rest more low in omega arith

pub within_low : (ms : List Module) → literals_within ms ≤ items_of ms
within_low [] = omega arith
within_low (m ∷ ms) = let rest = within_low ms in functions_low m m.functions (all_functions ms) (literals_within ms) rest

functions_few : (m : Module) (fs : List Function) (rest : List Placed) (behind : List Mention) → (ArePlain rest → many behind ≤ items_in rest) → ArePlain (map (placed m) fs ++ rest) → many (flat_map function_mentions fs ++ behind) ≤ items_in (map (placed m) fs ++ rest)
functions_few m [] rest behind few are = few are
functions_few m (f ∷ fs) rest behind few are =
    let own = items_many f.items (are 0 (placed m f) refl) in
    let low = items_low f.items in
    let more = functions_few m fs rest behind few (λ k q e. are (suc k) q e) in
    let both = many-both (function_mentions f) (flat_map function_mentions fs ++ behind) in
    let same = ap many (append_assoc (function_mentions f) (flat_map function_mentions fs) behind) in
    omega arith

pub mentions_few : (ms : List Module) → ArePlain (all_functions ms) → many (mentions_of ms) ≤ items_of ms
mentions_few [] are = omega arith
mentions_few (m ∷ ms) are =
    let pre : List Mention = Named m.name ∷ map (λ e. Named e.0) m.exports in
    let none : many pre ≡ 0 = exports_many m.exports in
    let more = functions_few m m.functions (all_functions ms) (mentions_of ms) (mentions_few ms) are in
    let both = many-both pre (flat_map function_mentions m.functions ++ mentions_of ms) in
    let same = ap many (append_assoc pre (flat_map function_mentions m.functions) (mentions_of ms)) in
    omega arith

-- a mention that stands alone, and a literal
pub mention_there : (all : List Mention) (before : ℕ) (m : Mention) → (s : Split all before (m ∷ [])) → slice_get all (length s.front) ≡ Some m
mention_there all before m s =
    ap (λ (ms : List Mention). slice_get ms (length s.front)) s.is ∙ behind s.front (m ∷ s.back) (length s.front) 0 (omega arith)

pub literal_there : (all : List Mention) (before : ℕ) (v : Tree) → Split all before (Literal v ∷ []) → slice_get (literals_of all) before ≡ Some v
literal_there all before v s =
    let count = s.count in
    ap (λ (ms : List Mention). slice_get (literals_of ms) before) s.is
    ∙ ap (λ (vs : List Tree). slice_get vs before) (flat_map-append literal_of s.front (Literal v ∷ s.back))
    ∙ behind (literals_of s.front) (v ∷ literals_of s.back) before 0 (omega arith)
