-- A number that is noted where there is none yet, and the functions of one more module.
use Rattle.std.proofs.Common.{◌≡◌, ℕ, ◌+◌, Bool, true, false, refl, sym, ap, ◌∙◌, cond, List, ◌∷◌, map, length, if◌then◌else◌, Option, Some, None, is_some, length-append}
use Rattle.std.specs.Option.{option_or}
use Rattle.std.proofs.lemmas.List.{length-map}
use Rattle.beam_code.specs.declared.module.Module.{Module}
use Rattle.beam_code.specs.Function.{Placed, all_functions, first_that}
use Rattle.function_numbers.specs.Keys.{Key, is_function_at, is_placed_at, same_key}
use Rattle.function_numbers.proofs.Any.{first_append, first_map, or_grouped, or_none}
use Rattle.function_numbers.proofs.Keys.{key_is}

none_where : {A : Type 0} (o : Option A) → is_some o ≡ false → o ≡ None
none_where None f = refl
none_where (Some x) f = cc

pub first_noted : (old new : Key → Option ℕ) (key : Key) (number : ℕ) → is_some (old key) ≡ false → ((k : Key) → new k ≡ cond (same_key key k) (Some number) (old k)) → (k : Key) →
    new k ≡ option_or (old k) (if same_key key k then Some number else None)
first_noted old new key number none is k = is k ∙ by (same_key key k) refl
  where
    by : (b : Bool) → same_key key k ≡ b → cond b (Some number) (old k) ≡ option_or (old k) (if b then Some number else None)
    by true t = sym (ap (λ o. option_or o (Some number)) (ap old (sym (key_is key k t)) ∙ none_where (old key) none))
    by false f = sym (or_none (old k))

placed_first : (names : List (List ℕ)) (k : Key) (at : ℕ) (m : Module) (ms : List Module) →
    first_that (is_placed_at names k) at (all_functions (m ∷ ms)) ≡ option_or (first_that (is_function_at names k m.name) at m.functions) (first_that (is_placed_at names k) (at + length m.functions) (all_functions ms))
placed_first names k at m ms =
    first_append (is_placed_at names k) at (map (λ f. (let p : Placed = record { owner = m; function = f } in p)) m.functions) (all_functions ms)
    ∙ (ap (λ o. option_or o (first_that (is_placed_at names k) (at + length (map (λ f. (let p : Placed = record { owner = m; function = f } in p)) m.functions)) (all_functions ms))) (first_map (is_placed_at names k) (λ f. record { owner = m; function = f }) at m.functions)
    ∙ ap (λ n. option_or (first_that (is_function_at names k m.name) at m.functions) (first_that (is_placed_at names k) (at + n) (all_functions ms))) (length-map m.functions (λ f. (let p : Placed = record { owner = m; function = f } in p))))

pub one_more : (names : List (List ℕ)) (k : Key) (at : ℕ) (m : Module) (ms : List Module) (old new : Option ℕ) → new ≡ option_or old (first_that (is_function_at names k m.name) at m.functions) →
    option_or new (first_that (is_placed_at names k) (at + length m.functions) (all_functions ms)) ≡ option_or old (first_that (is_placed_at names k) at (all_functions (m ∷ ms)))
one_more names k at m ms old new is =
    ap (λ o. option_or o (first_that (is_placed_at names k) (at + length m.functions) (all_functions ms))) is
    ∙ (or_grouped old (first_that (is_function_at names k m.name) at m.functions) (first_that (is_placed_at names k) (at + length m.functions) (all_functions ms))
    ∙ ap (option_or old) (sym (placed_first names k at m ms)))

pub all_long : (m : Module) (ms : List Module) → length (all_functions (m ∷ ms)) ≡ length m.functions + length (all_functions ms)
all_long m ms =
    length-append (map (λ f. (let p : Placed = record { owner = m; function = f } in p)) m.functions) (all_functions ms)
    ∙ ap (λ n. n + length (all_functions ms)) (length-map m.functions (λ f. (let p : Placed = record { owner = m; function = f } in p)))
