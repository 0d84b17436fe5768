-- What is known of a function whose turn it is, and why all are refused where it is.
use Rattle.std.proofs.Common.{◌≡◌, ℕ, ◌+◌, ◌<◌, ◌≤◌, ◌^◌, refl, ap, inl, inr, subst, arith, List, [], ◌∷◌, ◌++◌, length, map, Some, slice_get, take}
use Rattle.std.specs.List.{Contains}
use Rattle.std.proofs.lemmas.List.{length-append, length-map, length-take-le}
use Rattle.std.proofs.lemmas.Option.{slice_get_within}
use Rattle.paths.proofs.Tests.{first_or_later}
use Rattle.beam_code.specs.declared.module.Function.{Function}
use Rattle.beam_code.specs.declared.module.Module.{Module}
use Rattle.beam_code.specs.Function.{Placed, all_functions, items_in}
use Rattle.path_rules.specs.Sites.{placed_in}
use Rattle.function_check.specs.Order.{AllHold}
use Rattle.module_check.specs.declared.refusal.CheckRefusal.{CheckRefusal}
use Rattle.module_check.specs.declared.refusal.CheckRefusal.TheVariants.{Duplicate, TooMany, Broken, Memory}
use Rattle.module_check.specs.Entries.{AreReady, before}
use Rattle.module_check.specs.Refusals.{StopsAt, StopsIn}
use Rattle.module_check.proofs.Placing.{around_one, items_append, behind}

-- the items of one function are among those of all
pub own_items : (fs : List Placed) (f : Placed) → Contains fs f → length f.function.items ≤ items_in fs
own_items [] f c = absurd (omega (arith, c.1))
own_items (g ∷ fs) f c =
    elim (first_or_later g fs f c) [
      | inl e ↦ subst (λ (h : Placed). length h.function.items ≤ items_in (g ∷ fs)) e (omega arith)
      | inr later ↦ (let rest = own_items fs f later in omega arith)
    ]

pub few_items : (ms : List Module) → AreReady ms → (f : Placed) → Contains (all_functions ms) f → length f.function.items < 2 ^ 32
few_items ms ready f c = let own = own_items (all_functions ms) f c in let all = ready.items in omega arith

module _ (ms : List Module) (n : ℕ) (m : Module) (at : slice_get ms n ≡ Some m) (k : ℕ) (f : Function) (here : slice_get m.functions k ≡ Some f) where
  pub items_so_far : items_in (before ms n m k) + length f.items ≤ items_in (all_functions ms)
  items_so_far =
      let all = ap items_in (around_one ms n m at k f here) in
      let sum = items_append (before ms n m k) (placed_in m f ∷ behind ms n m at k f here) in
      omega arith

  pub stops_in : (r : CheckRefusal) → ((g : Placed) → Contains (before ms n m k) g → AllHold ms g) → StopsAt ms (placed_in m f) r → StopsIn ms (all_functions ms) r
  stops_in (Duplicate name) hold stops = absurd stops
  stops_in TooMany hold stops = absurd stops
  stops_in (Broken rule owner name arity item) hold stops = record {
    front = before ms n m k;
    f = placed_in m f;
    rest = behind ms n m at k f here;
    all = around_one ms n m at k f here;
    before = hold;
    first = stops.0;
    owner_is = stops.1;
    name_is = stops.2;
    arity_is = stops.3;
  }
  stops_in (Memory e) hold stops = tt

  -- a function's place is one of all
  pub few_places : length (all_functions ms) < 2 ^ 32 → k < 2 ^ 32
  few_places few =
      let all = ap (λ (fs : List Placed). length fs) (around_one ms n m at k f here) in
      let sum = length-append (before ms n m k) (placed_in m f ∷ behind ms n m at k f here) in
      let front = length-append (all_functions (take n ms)) (map (placed_in m) (take k m.functions)) in
      let own = length-map (take k m.functions) (placed_in m) in
      let low = length-take-le k m.functions (let l = slice_get_within m.functions k f here in omega arith) in
      omega arith
