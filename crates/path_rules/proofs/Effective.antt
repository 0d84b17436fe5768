-- Past the last item no item has an effect.
use Rattle.std.proofs.Common.{◌≡◌, ℕ, ◌≤◌, ap, length, List}
use Rattle.std.proofs.Math.ListN.{drop_of_length-le}
use Rattle.beam_code.specs.declared.module.Function.{Function}
use Rattle.beam_code.specs.Lined.{Lined}
use Rattle.path_rules.specs.Rules.{effective_item, past_passed}

pub effective_past : (f : Function) (k : ℕ) → length f.items ≤ k → effective_item f k ≡ k
effective_past f k past = ap (λ (is : List Lined). past_passed k is) (drop_of_length-le f.items past)
