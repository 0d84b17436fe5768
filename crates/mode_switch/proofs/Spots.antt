-- The items of modules in order: the first module's, and then the others'.
use Rattle.std.proofs.Common.{◌≡◌, ℕ, suc, ◌+◌, ◌<◌, List, [], ◌∷◌, ◌++◌, length, drop, get_or, map, ap, sym, ◌∙◌, arith, add-one, drop-cons}
use Rattle.beam_code.specs.Function.{Placed, all_functions, items_in, items_of}
use Rattle.beam_code.specs.declared.module.Function.{Function}
use Rattle.beam_code.specs.declared.module.Module.{Module}
use Rattle.mode_switch.specs.Lookup.{length_sum}

-- from a place on
pub split_at : (m : Module) (ms : List Module) (i : ℕ) → i < length ms → m ≡ get_or ms i m → drop i ms ≡ m ∷ drop (i + 1) ms
split_at m ms i lt e = drop-cons ms i m lt ∙ ap (λ k. k ∷ drop (suc i) ms) (sym e) ∙ ap (λ k. m ∷ drop k ms) (sym (add-one i))

abbrev placed : Module → Function → Placed
placed m f = record { owner = m; function = f }

items_after : (m : Module) (fs : List Function) (rest : List Placed) → items_in (map (placed m) fs ++ rest) ≡ length_sum fs + items_in rest
items_after m [] rest = omega arith
items_after m (f ∷ fs) rest = omega (arith, items_after m fs rest)

pub items_at : (m : Module) (ms : List Module) (i : ℕ) → i < length ms → m ≡ get_or ms i m → items_of (drop i ms) ≡ length_sum m.functions + items_of (drop (i + 1) ms)
items_at m ms i lt e = ap items_of (split_at m ms i lt e) ∙ items_after m m.functions (all_functions (drop (i + 1) ms))
