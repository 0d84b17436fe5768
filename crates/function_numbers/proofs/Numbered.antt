-- What is noted by keys is what all functions say of names.
use Rattle.std.proofs.Common.{◌≡◌, ℕ, Bool, true, false, ◌&&◌, ◌||◌, refl, sym, ap, ◌∙◌, List, [], ◌∷◌, map, nat_eq, if◌then◌else◌, Option, Some, None}
use Rattle.std.specs.List.{list_any}
use Rattle.std.proofs.lemmas.List.Folds.{list_any-append}
use Rattle.indexmap.specs.IndexMap.{get}
use Rattle.indexmap.specs.IndexSet.{contains}
use Rattle.beam_code.specs.declared.module.Function.{Function}
use Rattle.beam_code.specs.declared.module.Module.{Module}
use Rattle.beam_code.specs.Function.{Placed, all_functions, exported_number, exports_of, first_that, is_exported, is_named, number_of, same_name}
use Rattle.function_numbers.specs.declared.numbers.FunctionNumbers.{FunctionNumbers}
use Rattle.function_numbers.specs.Keys.{Key, exports_at, has_name, is_among, is_of_function, is_placed_at, key_with, mentions, number_in, same_key}
use Rattle.function_numbers.specs.Numbers.{AreNumbersOf, noted, noted_export}
use Rattle.function_numbers.proofs.Any.{first_same, no_first}
use Rattle.function_numbers.proofs.Keys.{placed_is}
use Rattle.function_numbers.proofs.Places.{has_number_is, name_turned, number_turned, unplaced}

abbrev place : Module → Function → Placed
place m f = record { owner = m; function = f }

neither : (a b : Bool) → (a || b) ≡ false → (a ≡ false) × (b ≡ false)
neither true b e = cc
neither false b e = (refl, e)

-- where no module passes that would have the function, no function is the one
none_in : (m f : List ℕ) (arity : ℕ) (test : Module → Bool) → ((x : Module) → test x ≡ false → list_any (is_named m f arity) (map (place x) x.functions) ≡ false) → (ms : List Module) → list_any test ms ≡ false →
    list_any (is_named m f arity) (all_functions ms) ≡ false
none_in m f arity test each [] none = refl
none_in m f arity test each (x ∷ xs) none =
    let n = neither (test x) (list_any test xs) none in
    list_any-append (is_named m f arity) (map (place x) x.functions) (all_functions xs)
    ∙ (ap (λ b. b || list_any (is_named m f arity) (all_functions xs)) (each x n.0) ∙ none_in m f arity test each xs n.1)

not_owner : (m f : List ℕ) (arity : ℕ) (x : Module) → same_name x.name m ≡ false → (fs : List Function) → list_any (is_named m f arity) (map (place x) fs) ≡ false
not_owner m f arity x e [] = refl
not_owner m f arity x e (g ∷ gs) =
    ap (λ b. b && same_name f g.name && nat_eq arity g.arity || list_any (is_named m f arity) (map (place x) gs)) (name_turned m x.name ∙ e) ∙ not_owner m f arity x e gs

second_false : (a b : Bool) → (a && false && b) ≡ false
second_false true b = refl
second_false false b = refl

not_function : (m f : List ℕ) (arity : ℕ) (x : Module) (fs : List Function) → list_any (is_of_function f) fs ≡ false → list_any (is_named m f arity) (map (place x) fs) ≡ false
not_function m f arity x [] e = refl
not_function m f arity x (g ∷ gs) e =
    let n = neither (same_name g.name f) (list_any (is_of_function f) gs) e in
    ap (λ b. same_name m x.name && b && nat_eq arity g.arity || list_any (is_named m f arity) (map (place x) gs)) (name_turned f g.name ∙ n.0)
    ∙ (ap (λ b. b || list_any (is_named m f arity) (map (place x) gs)) (second_false (same_name m x.name) (nat_eq arity g.arity)) ∙ not_function m f arity x gs n.1)

-- exports by numbers are those by names
exports_named : (names : List (List ℕ)) (m : List ℕ) (owner : ℕ) → number_in names m ≡ Some owner → (ms : List Module) → exports_at names owner ms ≡ exports_of ms m
exports_named names m owner at [] = refl
exports_named names m owner at (x ∷ xs) =
    ap (λ b. if b then x.exports else exports_at names owner xs) (has_number_is names m owner at x.name)
    ∙ ap (λ (es : List (List ℕ × ℕ)). if same_name m x.name then x.exports else es) (exports_named names m owner at xs)

among_named : (names : List (List ℕ)) (k : Key) (f : List ℕ) → number_in names f ≡ Some k.name → (es : List (List ℕ × ℕ)) → is_among names k es ≡ is_exported f k.arity es
among_named names k f at [] = refl
among_named names k f at (e ∷ es) =
    ap (λ b. b || is_among names k es) (ap (λ b. b && nat_eq e.1 k.arity) (has_number_is names f k.name at e.0) ∙ ap (λ b. same_name f e.0 && b) (number_turned e.1 k.arity))
    ∙ by (same_name f e.0 && nat_eq k.arity e.1) (among_named names k f at es)
  where
    by : (b : Bool) → is_among names k es ≡ is_exported f k.arity es → (b || is_among names k es) ≡ (if b then true else is_exported f k.arity es)
    by true rest = refl
    by false rest = rest

none_either_way : {A : Type 0} (b : Bool) → (if b then (let n : Option A = None in n) else None) ≡ None
none_either_way true = refl
none_either_way false = refl

-- what is noted in a table
record IsNoted (ms : List Module) (t : FunctionNumbers) : Type 0 where
  names : (n : List ℕ) → has_name t.names.keys n ≡ list_any (mentions n) ms
  functions : (k : Key) → get same_key t.functions k ≡ first_that (is_placed_at t.names.keys k) 0 (all_functions ms)
  exports : (k : Key) → contains same_key t.exports k ≡ is_among t.names.keys k (exports_at t.names.keys k.owner ms)

none_mentions : (ms : List Module) (t : FunctionNumbers) → IsNoted ms t → (n : List ℕ) → number_in t.names.keys n ≡ None → list_any (mentions n) ms ≡ false
none_mentions ms t is n none = sym (is.names n) ∙ unplaced (same_name n) t.names.keys none

no_owner : (ms : List Module) (t : FunctionNumbers) → IsNoted ms t → (m f : List ℕ) (arity : ℕ) → number_in t.names.keys m ≡ None → number_of ms m f arity ≡ None
no_owner ms t is m f arity none =
    no_first (is_named m f arity) 0 (all_functions ms)
    (none_in m f arity (mentions m) (λ x e. not_owner m f arity x (neither (same_name x.name m) (list_any (is_of_function m) x.functions) e).0 x.functions) ms (none_mentions ms t is m none))

no_name : (ms : List Module) (t : FunctionNumbers) → IsNoted ms t → (m f : List ℕ) (arity : ℕ) → number_in t.names.keys f ≡ None → number_of ms m f arity ≡ None
no_name ms t is m f arity none =
    no_first (is_named m f arity) 0 (all_functions ms)
    (none_in m f arity (mentions f) (λ x e. not_function m f arity x x.functions (neither (same_name x.name f) (list_any (is_of_function f) x.functions) e).1) ms (none_mentions ms t is f none))

found : (ms : List Module) (t : FunctionNumbers) → IsNoted ms t → (m f : List ℕ) (k : Key) → number_in t.names.keys m ≡ Some k.owner → number_in t.names.keys f ≡ Some k.name → get same_key t.functions k ≡ number_of ms m f k.arity
found ms t is m f k owner name =
    is.functions k ∙ first_same (is_placed_at t.names.keys k) (is_named m f k.arity) 0 (all_functions ms) (placed_is t.names.keys k m f owner name)

exported : (ms : List Module) (t : FunctionNumbers) → IsNoted ms t → (m f : List ℕ) (k : Key) → number_in t.names.keys m ≡ Some k.owner → number_in t.names.keys f ≡ Some k.name →
    contains same_key t.exports k ≡ is_exported f k.arity (exports_of ms m)
exported ms t is m f k owner name =
    is.exports k
    ∙ (ap (λ (es : List (List ℕ × ℕ)). is_among t.names.keys k es) (exports_named t.names.keys m k.owner owner ms) ∙ among_named t.names.keys k f name (exports_of ms m))

pub numbers_are : (ms : List Module) (t : FunctionNumbers) →
    ((n : List ℕ) → has_name t.names.keys n ≡ list_any (mentions n) ms) →
    ((k : Key) → get same_key t.functions k ≡ first_that (is_placed_at t.names.keys k) 0 (all_functions ms)) →
    ((k : Key) → contains same_key t.exports k ≡ is_among t.names.keys k (exports_at t.names.keys k.owner ms)) → AreNumbersOf ms t
numbers_are ms t names functions exports = record {
  functions = λ m f arity. by_functions m f arity (number_in t.names.keys m) (number_in t.names.keys f) refl refl;
  exports = λ m f arity. by_exports m f arity (number_in t.names.keys m) (number_in t.names.keys f) refl refl;
}
  where
    is : IsNoted ms t
    is = record { names = names; functions = functions; exports = exports }

    by_functions : (m f : List ℕ) (arity : ℕ) (o n : Option ℕ) → number_in t.names.keys m ≡ o → number_in t.names.keys f ≡ n → noted t (key_with arity o n) ≡ number_of ms m f arity
    by_functions m f arity None n owner name = sym (no_owner ms t is m f arity owner)
    by_functions m f arity (Some o) None owner name = sym (no_name ms t is m f arity name)
    by_functions m f arity (Some o) (Some n) owner name = found ms t is m f (record { owner = o; name = n; arity = arity }) owner name

    by_exports : (m f : List ℕ) (arity : ℕ) (o n : Option ℕ) → number_in t.names.keys m ≡ o → number_in t.names.keys f ≡ n → noted_export t (key_with arity o n) ≡ exported_number ms m f arity
    by_exports m f arity None n owner name =
        sym (ap (λ (r : Option ℕ). if is_exported f arity (exports_of ms m) then r else None) (no_owner ms t is m f arity owner) ∙ none_either_way (is_exported f arity (exports_of ms m)))
    by_exports m f arity (Some o) None owner name =
        sym (ap (λ (r : Option ℕ). if is_exported f arity (exports_of ms m) then r else None) (no_name ms t is m f arity name) ∙ none_either_way (is_exported f arity (exports_of ms m)))
    by_exports m f arity (Some o) (Some n) owner name =
        let k : Key = record { owner = o; name = n; arity = arity } in
        ap (λ (r : Option ℕ). if contains same_key t.exports k then r else None) (found ms t is m f k owner name)
        ∙ ap (λ b. if b then number_of ms m f arity else None) (exported ms t is m f k owner name)
