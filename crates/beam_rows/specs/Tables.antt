-- The tables of built-ins and tests, looked at whole (docs/BEAM.md, Built-ins and Tests).
use Rattle.std.specs.Prelude.{ℕ, ◌≡◌, ◌+◌, Bool, true, false, not, ◌&&◌, ◌||◌, Option, Some, None, List, [], ◌∷◌, length, nat_eq}
use Rattle.std.specs.List.{list_all}
use Rattle.beam_code.specs.BuiltIns.{BuiltIn, Failure, First, Making, Nothing, Test, built_ins, built_in_number, inline_number, tests, test_number}
use Rattle.beam_code.specs.Uses.{never_returns}

abbrev pub is_number : Option ℕ → ℕ → Bool
is_number (Some n) k = nat_eq n k
is_number None k = false

-- each row's names and arity lead to its number, counted from k on; and where it may stand in `bif` its name and arity do
abbrev pub is_row : ℕ → BuiltIn → Bool
is_row k b =
    is_number (built_in_number b.owner b.name b.arity) k && (not b.inline || is_number (inline_number b.name b.arity) k)

abbrev pub are_rows : ℕ → List BuiltIn → Bool
are_rows k [] = true
are_rows k (b ∷ bs) = is_row k b && are_rows (k + 1) bs

abbrev pub are_test_rows : ℕ → List Test → Bool
are_test_rows k [] = true
are_test_rows k (t ∷ ts) = is_number (test_number t.name t.arity) k && are_test_rows (k + 1) ts

abbrev pub RowsHaveTheirNumbers : Type 0
RowsHaveTheirNumbers = (length built_ins ≡ 57) × (are_rows 0 built_ins ≡ true) × (length tests ≡ 25) × (are_test_rows 0 tests ≡ true)

-- exactly those that raise their first argument never return; what may stand in `bif` makes no words
abbrev pub only_raises : Failure → Bool
only_raises (First class) = true
only_raises other = false

abbrev pub makes_nothing : Making → Bool
makes_nothing Nothing = true
makes_nothing other = false

abbrev pub same_truth : Bool → Bool → Bool
same_truth a b = a && b || not a && not b

abbrev pub is_well_said : BuiltIn → Bool
is_well_said b = same_truth (never_returns b.owner b.name b.arity) (only_raises b.failure) && (not b.inline || makes_nothing b.making)

abbrev pub RowsAreWellSaid : Type 0
RowsAreWellSaid = list_all is_well_said built_ins ≡ true
