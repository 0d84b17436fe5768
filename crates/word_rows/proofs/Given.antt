-- One module more whose name is given.
use Rattle.std.proofs.Common.{◌≡◌, ℕ, ◌||◌, ◌∙◌, Bool, true, false, cond, List, ◌∷◌, ap, refl, if◌then◌else◌}
use Rattle.beam_code.specs.declared.module.Module.{Module}
use Rattle.beam_code.specs.Function.{is_given, same_name}
use Rattle.function_numbers.proofs.Places.{name_turned}

pub one_given : (n : List ℕ) (m : Module) (ms : List Module) (old new : Bool) → new ≡ cond (same_name m.name n) true old → (new || is_given ms n) ≡ (old || is_given (m ∷ ms) n)
one_given n m ms old new is = ap (λ b. b || is_given ms n) (is ∙ ap (λ b. cond b true old) (name_turned m.name n)) ∙ by old (same_name n m.name)
  where
    by : (a b : Bool) → (cond b true a || is_given ms n) ≡ (a || (if b then true else is_given ms n))
    by true true = refl
    by true false = refl
    by false true = refl
    by false false = refl
