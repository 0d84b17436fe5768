-- The first module whose name came before.
use Rattle.std.proofs.Common.{◌≡◌, ℕ, zero, suc, ◌+◌, inl, inr, Bool, true, false, ◌||◌, refl, ap, sym, ◌∙◌, subst, arith, List, [], ◌∷◌, ◌++◌, length, map, Option, Some, None, slice_get}
use Rattle.std.specs.Prelude.{if◌then◌else◌}
use Rattle.std.specs.List.{list_any}
use Rattle.std.proofs.lemmas.Bool.{cases_Bool}
use Rattle.std.proofs.lemmas.List.{append_assoc, append-nil, length_push, map-append}
use Rattle.beam_code.specs.declared.module.Module.{Module}
use Rattle.beam_code.specs.Function.{is_given, same_name}
use Rattle.path_rules.specs.Profile.{AreDistinct}
use Rattle.path_rules.proofs.Owners.{name_is}
use Rattle.module_check.specs.Duplicates.{second_from}
use Rattle.module_check.specs.Refusals.{IsDuplicate}

pub second_here : (names : List (List ℕ)) (n : ℕ) (m : Module) (rest : List Module) → list_any (same_name m.name) names ≡ true → second_from names n (m ∷ rest) ≡ Some n
second_here names n m rest t = ap (λ b. if b then Some n else second_from (names ++ m.name ∷ []) (n + 1) rest) t

pub second_later : (names : List (List ℕ)) (n : ℕ) (m : Module) (rest : List Module) → list_any (same_name m.name) names ≡ false → second_from names n (m ∷ rest) ≡ second_from (names ++ m.name ∷ []) (n + 1) rest
second_later names n m rest f = ap (λ b. if b then Some n else second_from (names ++ m.name ∷ []) (n + 1) rest) f

abbrev names_of : List Module → List (List ℕ)
names_of ms = map (λ m. m.name) ms

seen_given : (front : List Module) (n : List ℕ) → list_any (same_name n) (names_of front) ≡ is_given front n
seen_given [] n = refl
seen_given (m ∷ ms) n = by (same_name n m.name) (seen_given ms n)
  where
    by : (b : Bool) → list_any (same_name n) (names_of ms) ≡ is_given ms n → (b || list_any (same_name n) (names_of ms)) ≡ (if b then true else is_given ms n)
    by true e = refl
    by false e = e

turned : (a b : List ℕ) → same_name a b ≡ false → same_name b a ≡ false
turned a b f = elim (cases_Bool (same_name b a)) [
  | inl t ↦ (let is : b ≡ a = name_is b a t in let clash : same_name a b ≡ true = subst (λ (x : List ℕ). same_name x b ≡ true) is (subst (λ (y : List ℕ). same_name b y ≡ true) (sym is) t) in cc)
  | inr g ↦ g
]

-- a name among modules with one more, or around one
not_given : (front : List Module) (m : Module) (rest : List Module) (n : List ℕ) → is_given front n ≡ false → same_name n m.name ≡ false → is_given rest n ≡ false → is_given (front ++ m ∷ rest) n ≡ false
not_given [] m rest n none other last = ap (λ b. if b then true else is_given rest n) other ∙ last
not_given (a ∷ others) m rest n none other last = by (same_name n a.name) none (λ f. not_given others m rest n f other last)
  where
    by : (b : Bool) → (if b then true else is_given others n) ≡ false → (is_given others n ≡ false → is_given (others ++ m ∷ rest) n ≡ false) → (if b then true else is_given (others ++ m ∷ rest) n) ≡ false
    by true e rec = cc
    by false e rec = rec e

halves : (front : List Module) (m : Module) (rest : List Module) (n : List ℕ) → is_given (front ++ m ∷ rest) n ≡ false → (is_given front n ≡ false) × (same_name n m.name ≡ false)
halves [] m rest n none = (refl, first (same_name n m.name) none)
  where
    first : (b : Bool) → (if b then true else is_given rest n) ≡ false → b ≡ false
    first true e = e
    first false e = refl
halves (a ∷ others) m rest n none = by (same_name n a.name) none (λ f. halves others m rest n f)
  where
    by : (b : Bool) → (if b then true else is_given (others ++ m ∷ rest) n) ≡ false → (is_given (others ++ m ∷ rest) n ≡ false → (is_given others n ≡ false) × (same_name n m.name ≡ false)) → ((if b then true else is_given others n) ≡ false) × (same_name n m.name ≡ false)
    by true e rec = absurd cc
    by false e rec = rec e

first_not : (a : Module) (others : List Module) (n : List ℕ) → is_given (a ∷ others) n ≡ false → (same_name n a.name ≡ false) × (is_given others n ≡ false)
first_not a others n none = by (same_name n a.name) none
  where
    by : (b : Bool) → (if b then true else is_given others n) ≡ false → (b ≡ false) × (is_given others n ≡ false)
    by true e = absurd cc
    by false e = (refl, e)

distinct_push : (front : List Module) (m : Module) → AreDistinct front → is_given front m.name ≡ false → AreDistinct (front ++ m ∷ [])
distinct_push [] m d none = (refl, tt)
distinct_push (a ∷ others) m d none =
    let other = first_not a others m.name none in
    (not_given others m [] a.name d.0 (turned m.name a.name other.0) refl, distinct_push others m d.1 other.1)

-- where names differ none came before
pub distinct_split : (front : List Module) (m : Module) (rest : List Module) → AreDistinct (front ++ m ∷ rest) → is_given front m.name ≡ false
distinct_split [] m rest d = refl
distinct_split (a ∷ others) m rest d =
    ap (λ b. if b then true else is_given others m.name) (turned a.name m.name (halves others m rest a.name d.0).1) ∙ distinct_split others m rest d.1

one_more : (front : List Module) (m : Module) (n : ℕ) (rest : List Module) → is_given front m.name ≡ false → second_from (names_of front) n (m ∷ rest) ≡ second_from (names_of (front ++ m ∷ [])) (n + 1) rest
one_more front m n rest none =
    second_later (names_of front) n m rest (seen_given front m.name ∙ none)
    ∙ ap (λ names. second_from names (n + 1) rest) (sym (map-append (λ x. x.name) front (m ∷ [])))

second_none : (front rest : List Module) (n : ℕ) → AreDistinct front → second_from (names_of front) n rest ≡ None → AreDistinct (front ++ rest)
second_none front [] n d e = subst AreDistinct (sym (append-nil front)) d
second_none front (m ∷ ms) n d e =
    elim (cases_Bool (is_given front m.name)) [
      | inl t ↦ (let here = second_here (names_of front) n m ms (seen_given front m.name ∙ t) in absurd cc)
      | inr f ↦ subst AreDistinct (append_assoc front (m ∷ []) ms) (second_none (front ++ m ∷ []) ms (n + 1) (distinct_push front m d f) (sym (one_more front m n ms f) ∙ e))
    ]

record Found (ms : List Module) (k : ℕ) : Type 0 where
  m : Module
  at : slice_get ms k ≡ Some m
  is : IsDuplicate ms m.name

at_length : (front : List Module) (m : Module) (rest : List Module) → slice_get (front ++ m ∷ rest) (length front) ≡ Some m
at_length [] m rest = refl
at_length (a ∷ others) m rest = at_length others m rest

second_some : (front rest : List Module) (n k : ℕ) → AreDistinct front → n ≡ length front → second_from (names_of front) n rest ≡ Some k → Found (front ++ rest) k
second_some front [] n k d long e = absurd cc
second_some front (m ∷ ms) n k d long e =
    elim (cases_Bool (is_given front m.name)) [
      | inl t ↦
          let here = second_here (names_of front) n m ms (seen_given front m.name ∙ t) in
          let is : n ≡ k = some_is (sym here ∙ e) in
          record {
            m = m;
            at = subst (λ j. slice_get (front ++ m ∷ ms) j ≡ Some m) (sym long ∙ is) (at_length front m ms);
            is = record { front = front; second = m; rest = ms; all = refl; distinct = d; given = t; name_is = refl };
          }
      | inr f ↦
          subst (λ (l : List Module). Found l k) (append_assoc front (m ∷ []) ms)
          (second_some (front ++ m ∷ []) ms (n + 1) k (distinct_push front m d f) (let longer = length_push front m in omega (arith, long, longer)) (sym (one_more front m n ms f) ∙ e))
    ]
  where
    some_is : {a b : ℕ} → Some a ≡ Some b → a ≡ b
    some_is e = cc

pub none_twice : (ms : List Module) → second_from [] 0 ms ≡ None → AreDistinct ms
none_twice ms e = second_none [] ms 0 tt e

pub one_twice : (ms : List Module) (k : ℕ) → second_from [] 0 ms ≡ Some k → (m : Module) × (slice_get ms k ≡ Some m) × IsDuplicate ms m.name
one_twice ms k e = let f = second_some [] ms 0 k tt refl e in (f.m, f.at, f.is)
