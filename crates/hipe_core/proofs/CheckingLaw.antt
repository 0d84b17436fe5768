-- Units of items, functions and modules, and what is said of them.
use Rattle.std.proofs.Common.{◌≡◌, ℕ, zero, suc, ◌+◌, ◌-◌, ◌^◌, ◌<◌, ◌≤◌, List, [], ◌∷◌, ◌++◌, length, get_or, drop, map, sym, ap, ◌∙◌, arith, add-one, drop-cons}
use Rattle.beam_code.specs.declared.module.Function.{Function}
use Rattle.beam_code.specs.declared.module.Module.{Module}
use Rattle.beam_code.specs.Function.{Placed, all_functions}
use Rattle.beam_code.specs.Lined.{Lined}
use Rattle.beam_code.specs.Uses.{units}
use Rattle.hipe_core.specs.Checking.{ok_line, ok_lines, units_among}
use Rattle.path_rules.specs.Profile.{InProfile, units_in, units_of}
use Rattle.path_rules.specs.Sites.{placed_in}

split : {A : Type 0} (xs : List A) (i : ℕ) (x : A) → i < length xs → x ≡ get_or xs i x → drop i xs ≡ x ∷ drop (i + 1) xs
split xs i x low e = drop-cons xs i x low ∙ ap (λ y. y ∷ drop (suc i) xs) (sym e) ∙ ap (λ k. x ∷ drop k xs) (sym (add-one i))

-- from a place on
pub units_at : (is : List Lined) (k : ℕ) (i : Lined) → k < length is → i ≡ get_or is k i → units_of (drop k is) ≡ units i.instr + units_of (drop (k + 1) is)
units_at is k i low e = ap units_of (split is k i low e)

pub functions_at : (fs : List Function) (k : ℕ) (f : Function) → k < length fs → f ≡ get_or fs k f → units_among (drop k fs) ≡ units_of f.items + units_among (drop (k + 1) fs)
functions_at fs k f low e = ap units_among (split fs k f low e)

pub lines_at : (ms : List Module) (k : ℕ) (m : Module) → k < length ms → m ≡ get_or ms k m → ok_lines (drop k ms) ≡ ok_line m ++ ok_lines (drop (k + 1) ms)
lines_at ms k m low e = ap ok_lines (split ms k m low e)

-- the units of one module are among those of all
own : (m : Module) (fs : List Function) (rest : List Placed) → units_in (map (placed_in m) fs ++ rest) ≡ units_among fs + units_in rest
own m [] rest = omega arith
own m (f ∷ fs) rest = omega (arith, own m fs rest)

one_among : (ms : List Module) (k : ℕ) (d : Module) → k < length ms → units_among (get_or ms k d).functions ≤ units_in (all_functions ms)
one_among [] k d low = absurd (omega arith)
one_among (m ∷ ms) zero d low = omega (arith, own m m.functions (all_functions ms))
one_among (m ∷ ms) (suc k) d low = omega (arith, own m m.functions (all_functions ms), one_among ms k d (omega arith))

pub few_units : (ms : List Module) → InProfile ms → (k : ℕ) (d : Module) → k < length ms → units_among (get_or ms k d).functions < 2 ^ 32 - 1
few_units ms profile k d low = omega (arith, one_among ms k d low, profile.few.all)
