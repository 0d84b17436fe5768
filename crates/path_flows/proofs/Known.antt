-- What is known of a function when these rules are looked at, and what follows of its items and paths.
use Rattle.std.proofs.Common.{◌≡◌, ℕ, zero, suc, ◌+◌, ◌≤◌, Bool, true, false, not, ◌&&◌, Option, Some, List, [], ◌∷◌, slice_get, nat_le, refl, ap, sym, ◌∙◌, arith, inl, inr}
use Rattle.std.specs.List.{Contains, list_all}
use Rattle.std.proofs.lemmas.Bool.Decides.{nat_tests}
use Rattle.paths.specs.Paths.{Free}
use Rattle.paths.specs.Rules.{Holds}
use Rattle.paths.proofs.Free.{TwoRules, free_alone, free_fine_a}
use Rattle.paths.proofs.Tests.{first_or_later}
use Rattle.beam_code.specs.declared.module.Function.{Function}
use Rattle.beam_code.specs.declared.module.Module.{Module}
use Rattle.beam_code.specs.Function.{Placed}
use Rattle.beam_code.specs.Lined.{Lined}
use Rattle.beam_code.specs.Shape.{Shape, Conses, Tuples, shape_of}
use Rattle.beam_code.specs.Uses.{shape_units, units}
use Rattle.path_rules.specs.declared.frame_table.Frame.{Frame}
use Rattle.path_rules.specs.declared.limits.TheConstants.{MOST_FUNCTION_UNITS}
use Rattle.path_rules.specs.declared.rule.Rule.TheVariants.{StackSize, TagState}
use Rattle.path_rules.specs.FrameTable.{AreFrames}
use Rattle.path_rules.specs.Points.{Point, graph}
use Rattle.path_rules.specs.Profile.{units_of}
use Rattle.path_rules.specs.Ranges.{all_in_range, allocated, is_in_range, operand_in_range, place_in_range}
use Rattle.path_rules.specs.Registers.{cell_words, operand_passes, operands_of, place_passes, places_of, reads_of}
use Rattle.path_rules.specs.Rules.{are_apart, breaks_at, is_in_stack, same_item, same_stack, shape_fits, splits, stack_fits, ways}
use Rattle.path_rules.specs.Registers.{others_pass, uses_pass}
use Rattle.path_rules.specs.Tags.{same_tags}
use Rattle.path_flows.specs.FlowOf.{AreCells, most_need, need_of}

pub record IsKnown (ms : List Module) (f : Placed) (frames : List (Option Frame)) : Type 0 where
  pub table : AreFrames ms f frames
  pub ranges : all_in_range f.function ≡ true
  pub stack : Holds (ways ms f StackSize)
  pub tags : Holds (ways ms f TagState)

-- ---- lists

both : (a b : Bool) → (a && b) ≡ true → (a ≡ true) × (b ≡ true)
both true b h = (refl, h)
both false b h = absurd cc

all_at : {X : Type 0} (p : X → Bool) (xs : List X) (k : ℕ) (x : X) → list_all p xs ≡ true → slice_get xs k ≡ Some x → p x ≡ true
all_at p [] k x h e = cc
all_at p (y ∷ ys) zero x h e = let s : y ≡ x = cc in ap p (sym s) ∙ (both (p y) (list_all p ys) h).0
all_at p (y ∷ ys) (suc k) x h e = all_at p ys k x (both (p y) (list_all p ys) h).1 e

pub need_below : (items : List Lined) (k : ℕ) (i : Lined) → slice_get items k ≡ Some i → need_of i ≤ most_need items
need_below [] k i e = cc
need_below (j ∷ js) zero i e = let s : j ≡ i = cc in let n = ap need_of s in omega arith
need_below (j ∷ js) (suc k) i e = let h = need_below js k i e in omega arith

units_below : (items : List Lined) (i : Lined) → Contains items i → units i.instr ≤ units_of items
units_below [] i c = absurd (omega (arith, c.1))
units_below (j ∷ js) i c = elim (first_or_later j js i c) [
  | inl e ↦ (let n = ap (λ (q : Lined). units q.instr) e in omega arith)
  | inr d ↦ (let h = units_below js i d in omega arith)
]

cell_units : (shape : Shape) → cell_words shape ≤ shape_units shape + 1
cell_units (Conses head tail to) = omega arith
cell_units (Tuples parts to) = omega arith
cell_units shape = omega arith

-- a function of few units makes no cell that is too large to be counted
pub cells_few : (items : List Lined) → units_of items ≤ MOST_FUNCTION_UNITS → AreCells items
cells_few items few i c = let a = units_below items i c in let b = cell_units (shape_of i.instr) in omega arith

-- ---- ranges

pub record InRange (shape : Shape) : Type 0 where
  pub reads : list_all operand_in_range (reads_of shape) ≡ true
  pub stack : allocated shape ≤ 256

le_is : (m n : ℕ) → nat_le m n ≡ true → m ≤ n
le_is m n e = grind (arith, nat_tests)

pub range_of : (shape : Shape) → is_in_range shape ≡ true → InRange shape
range_of shape h =
    let a = both (list_all operand_in_range (reads_of shape) && list_all place_in_range (places_of shape)) (nat_le (allocated shape) 256) h in
    record { reads = (both (list_all operand_in_range (reads_of shape)) (list_all place_in_range (places_of shape)) a.0).0; stack = le_is (allocated shape) 256 a.1 }

pub item_range : (f : Function) → all_in_range f ≡ true → (k : ℕ) (i : Lined) → slice_get f.items k ≡ Some i → InRange (shape_of i.instr)
item_range f h k i e = range_of (shape_of i.instr) (all_at (λ (i : Lined). is_in_range (shape_of i.instr)) f.items k i h e)

-- ---- stacks and tags

seen : (i a b : Bool) → (i && not a) ≡ false → (i && not b) ≡ false → (i && not (a && b)) ≡ false
seen false a b p q = refl
seen true true b p q = q
seen true false b p q = cc

abbrev two_rules : (ms : List Module) (f : Placed) → TwoRules (graph ms f.function) are_apart
two_rules ms f = record {
  breaks_a = (ways ms f StackSize).breaks;
  breaks_b = (ways ms f TagState).breaks;
  splits_a = splits StackSize;
  splits_b = splits TagState;
  seen = λ x y a b. seen (same_item x y) (same_stack x.stack y.stack) (same_tags x.tags y.tags) a b;
}

module _ (ms : List Module) (f : Placed) (frames : List (Option Frame)) (known : IsKnown ms f frames) where
  -- no path ends another
  pub alone : (m n : ℕ) (x y : Point) → Free (graph ms f.function) m x → Free (graph ms f.function) n y → are_apart x y ≡ false
  alone m n x y a b = free_alone (graph ms f.function) are_apart (two_rules ms f) known.stack known.tags m n x y a b

  fits_stack : (shape : Shape) (stack : Option ℕ) → not (stack_fits shape stack) ≡ false → list_all (operand_passes (is_in_stack stack)) (operands_of shape) ≡ true
  fits_stack shape stack h =
      let a = both (uses_pass (is_in_stack stack) shape && others_pass (is_in_stack stack) shape) (shape_fits shape stack) (not_false (stack_fits shape stack) h) in
      let b = both (uses_pass (is_in_stack stack) shape) (others_pass (is_in_stack stack) shape) a.0 in
      (both (list_all (operand_passes (is_in_stack stack)) (operands_of shape)) (list_all (place_passes (is_in_stack stack)) (places_of shape)) b.0).0
    where
      not_false : (b : Bool) → not b ≡ false → b ≡ true
      not_false true h = refl
      not_false false h = absurd cc

  -- each y register that is read is one of the stack
  pub stacked : (n : ℕ) (p : Point) (i : Lined) → Free (graph ms f.function) n p → slice_get f.function.items p.item ≡ Some i → list_all (operand_passes (is_in_stack p.stack)) (operands_of (shape_of i.instr)) ≡ true
  stacked n p i free e =
      fits_stack (shape_of i.instr) p.stack
      (sym (ap (λ o. breaks_at ms f StackSize p o) e) ∙ free_fine_a (graph ms f.function) are_apart (two_rules ms f) known.stack known.tags n p free)
