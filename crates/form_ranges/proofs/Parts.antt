-- Parts that are not past their limits are in range.
use Rattle.std.proofs.Common.{◌≡◌, ℕ, zero, suc, ◌≤◌, ◌+◌, Bool, true, false, ◌||◌, refl, arith, List, [], ◌∷◌, ◌++◌, nat_lt}
use Rattle.std.specs.Prelude.{nat_le}
use Rattle.std.specs.List.{list_all}
use Rattle.std.proofs.lemmas.Bool.{and_from}
use Rattle.std.proofs.lemmas.Bool.Decides.{nat_tests}
use Rattle.term_tree.proofs.TermLaws.{both_hold}
use Rattle.beam_code.specs.declared.instr.Operand.{Operand}
use Rattle.beam_code.specs.declared.instr.Operand.TheVariants as o
use Rattle.beam_code.specs.declared.instr.Place.{Place}
use Rattle.beam_code.specs.declared.instr.Place.TheVariants as p
use Rattle.beam_code.specs.State.{x_registers}
use Rattle.module_forms.specs.Kind.{Spelled, Full, Bare}
use Rattle.module_forms.specs.Part.{operands_from}
use Rattle.path_rules.specs.Points.{y_registers}
use Rattle.path_rules.specs.Ranges.{operand_in_range, place_in_range}
use Rattle.path_rules.specs.Registers.{first_xs}
use Rattle.form_laws.proofs.Parts.{or_false}
use Rattle.form_laws.specs.Written.{any_wide, is_arity, place_wide, source_wide, spelled_wide}
use Rattle.form_ranges.specs.Ranges.{IsLast}

pub first : (a b : Bool) → (a || b) ≡ false → a ≡ false
first a b e = (or_false a b e).0

pub rest : (a b : Bool) → (a || b) ≡ false → b ≡ false
rest a b e = (or_false a b e).1

module _ (last : ℕ) (is : IsLast last) where
  index : (n : ℕ) → nat_lt last n ≡ false → nat_lt n x_registers ≡ true
  index n e = let low = is.xs in grind (arith, nat_tests)

  pub source : (s : Operand) → source_wide last s ≡ false → operand_in_range s ≡ true
  source (o.X n) e = index n e
  source (o.Y n) e = refl
  source (o.Int i) e = refl
  source (o.Atom a) e = refl
  source o.Nil e = refl
  source (o.Literal u) e = refl

  pub place : (d : Place) → place_wide last d ≡ false → place_in_range d ≡ true
  place (p.X n) e = index n e
  place (p.Y n) e = refl

  pub sources : (ss : List Operand) → any_wide (source_wide last) ss ≡ false → list_all operand_in_range ss ≡ true
  sources [] e = refl
  sources (s ∷ ss) e =
      and_from _ _ (source s (first (source_wide last s) (any_wide (source_wide last) ss) e)) (sources ss (rest (source_wide last s) (any_wide (source_wide last) ss) e))

  spelled : (s : Spelled) (ss : List Spelled) → spelled_wide last s ≡ false → list_all operand_in_range (operands_from ss) ≡ true → list_all operand_in_range (operands_from (s ∷ ss)) ≡ true
  spelled (Full operand) ss e all = and_from _ _ (source operand e) all
  spelled (Bare n) ss e all = all

  pub looks : (ss : List Spelled) → any_wide (spelled_wide last) ss ≡ false → list_all operand_in_range (operands_from ss) ≡ true
  looks [] e = refl
  looks (s ∷ ss) e =
      spelled s ss (first (spelled_wide last s) (any_wide (spelled_wide last) ss) e)
      (looks ss (rest (spelled_wide last s) (any_wide (spelled_wide last) ss) e))

  pub stack : (n : ℕ) → nat_lt (last + 1) n ≡ false → nat_le n y_registers ≡ true
  stack n e = let low = is.ys in grind (arith, nat_tests)

  first_from : (n : ℕ) → n ≤ 255 → list_all operand_in_range (first_xs n) ≡ true
  first_from zero low = refl
  first_from (suc n) low = and_from _ _ (let high = is.arities in let t : nat_lt n x_registers ≡ true = grind (arith, nat_tests) in t) (first_from n (omega arith))

  pub arity : (n : ℕ) → is_arity n ≡ true → list_all operand_in_range (first_xs n) ≡ true
  arity n e = first_from n (grind (arith, nat_tests))

  -- operands in front of the x registers that are read unnamed
  pub in_front : (ss : List Operand) (n : ℕ) → list_all operand_in_range ss ≡ true → n ≤ 255 → list_all operand_in_range (ss ++ first_xs n) ≡ true
  in_front [] n all low = first_from n low
  in_front (s ∷ ss) n all low = let both = both_hold (operand_in_range s) (list_all operand_in_range ss) all in and_from _ _ both.0 (in_front ss n both.1 low)
