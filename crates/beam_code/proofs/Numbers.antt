-- Functions by number and by name.
use Rattle.std.proofs.Common.{◌≡◌, ℕ, zero, suc, ◌+◌, ◌-◌, ◌*◌, ◌/◌, ◌<◌, ◌≤◌, Bool, true, false, ◌&&◌, Some, None, List, [], ◌∷◌, length, take, slice_get, nat_eq, if◌then◌else◌, refl, ap, arith}
use Rattle.beam_code.specs.declared.module.Module.{Module}
use Rattle.beam_code.specs.Function.{Placed, all_functions, same_name, is_named, first_that, number_of, is_exported, exports_of, exported_number}

-- the one that is found is there, and passes
pub record Found (test : Placed → Bool) (at k : ℕ) (ps : List Placed) : Type 0 where
  pub index : ℕ
  pub is : k ≡ at + index
  pub function : Placed
  pub there : slice_get ps index ≡ Some function
  pub passes : test function ≡ true

found_next : (test : Placed → Bool) (at k : ℕ) (p : Placed) (ps : List Placed) → Found test (at + 1) k ps → Found test at k (p ∷ ps)
found_next test at k p ps f = record { index = suc f.index; is = omega (arith, f.is); function = f.function; there = f.there; passes = f.passes }

found_by : (test : Placed → Bool) (at k : ℕ) (p : Placed) (ps : List Placed) (t : Bool) → test p ≡ t → (if t then Some at else first_that test (at + 1) ps) ≡ Some k → (first_that test (at + 1) ps ≡ Some k → Found test (at + 1) k ps) → Found test at k (p ∷ ps)
found_by test at k p ps true is e more = record { index = 0; is = (let same : at ≡ k = cc in omega arith); function = p; there = refl; passes = is }
found_by test at k p ps false is e more = found_next test at k p ps (more e)

pub found_in : (test : Placed → Bool) (at k : ℕ) (ps : List Placed) → first_that test at ps ≡ Some k → Found test at k ps
found_in test at k [] e = absurd cc
found_in test at k (p ∷ ps) e = found_by test at k p ps (test p) refl e (λ r. found_in test (at + 1) k ps r)

named_by : (ms : List Module) (m f : List ℕ) (arity fid : ℕ) (t : Bool) → (if t then number_of ms m f arity else None) ≡ Some fid → Found (is_named m f arity) 0 fid (all_functions ms)
named_by ms m f arity fid true e = found_in (is_named m f arity) 0 fid (all_functions ms) e
named_by ms m f arity fid false e = absurd cc

pub named : (ms : List Module) (m f : List ℕ) (arity fid : ℕ) → exported_number ms m f arity ≡ Some fid → Found (is_named m f arity) 0 fid (all_functions ms)
named ms m f arity fid e = named_by ms m f arity fid (is_exported f arity (exports_of ms m)) e

and_right : (a b : Bool) → (a && b) ≡ true → b ≡ true
and_right true b e = e
and_right false b e = absurd cc

pub arity_passes : (m f : List ℕ) (arity : ℕ) (p : Placed) → is_named m f arity p ≡ true → nat_eq arity p.function.arity ≡ true
arity_passes m f arity p e = and_right (same_name m p.owner.name && same_name f p.function.name) (nat_eq arity p.function.arity) e
