-- What is left behind functions says whether they are few.
use Rattle.std.proofs.Common.{◌≡◌, ℕ, ◌+◌, ◌-◌, ◌<◌, ◌≤◌, ◌^◌, ◌↔◌, ◌&&◌, Bool, true, false, refl, ap, sym, ◌∙◌, subst, ◌⊎◌, arith, suc, List, [], ◌∷◌, ◌++◌, drop, get_or, length, Option, Some, None, map, inl, inr}
use Rattle.std.specs.Prelude.{min, nat_le, is_some, option_and_then, if◌then◌else◌}
use Rattle.std.specs.List.{Contains}
use Rattle.std.proofs.lemmas.Bool.{and_from}
use Rattle.term_tree.proofs.TermLaws.{both_hold}
use Rattle.paths.proofs.Tests.{first_or_later, here, later}
use Rattle.std.proofs.lemmas.Bool.{cases_Bool}
use Rattle.std.proofs.lemmas.Bool.Decides.{nat_tests}
use Rattle.std.proofs.Math.Seq.{drop-cons}
use Rattle.beam_code.specs.declared.module.Module.{Module}
use Rattle.beam_code.specs.Function.{Placed, all_functions}
use Rattle.path_rules.specs.declared.limits.TheConstants.{MOST_FUNCTION_UNITS}
use Rattle.path_rules.specs.declared.limits.TheConstants.{MOST_MODULES, MOST_UNITS}
use Rattle.path_rules.specs.Sites.{placed_in}
use Rattle.path_rules.specs.Profile.{AreFew, units_of, units_in}
use Rattle.module_check.specs.Sizes.{left, left_behind, left_behind_all}

le_or_lt : (a b : ℕ) → (a ≤ b) ⊎ (b < a)
le_or_lt a b = elim (cases_Bool (nat_le a b)) [ inl t ↦ inl (grind (arith, nat_tests)) | inr f ↦ inr (grind (arith, nat_tests)) ]

enough : (most n : ℕ) → n ≤ most → left most n ≡ Some (most - n)
enough most n low = ap (λ t. if t then Some (most - n) else None) (let t : nat_le n most ≡ true = grind (arith, nat_tests) in t)

too_many : (most n : ℕ) → most < n → left most n ≡ None
too_many most n high = ap (λ t. if t then Some (most - n) else None) (let t : nat_le n most ≡ false = grind (arith, nat_tests) in t)

-- taken one after the other
pub left_again : (most a b : ℕ) → left most (a + b) ≡ option_and_then (λ n. left n b) (left most a)
left_again most a b =
    elim (le_or_lt a most) [
      | inl low ↦ elim (le_or_lt b (most - a)) [
        | inl fits ↦ enough most (a + b) (omega arith) ∙ (ap (λ n. Some n) (let e : most - (a + b) ≡ most - a - b = omega arith in e) ∙ (sym (enough (most - a) b fits) ∙ sym (ap (λ o. option_and_then (λ n. left n b) o) (enough most a low))))
        | inr over ↦ too_many most (a + b) (omega arith) ∙ (sym (too_many (most - a) b over) ∙ sym (ap (λ o. option_and_then (λ n. left n b) o) (enough most a low)))
      ]
      | inr high ↦ too_many most (a + b) (omega arith) ∙ sym (ap (λ o. option_and_then (λ n. left n b) o) (too_many most a high))
    ]

pub left_append : (most : ℕ) (fs gs : List Placed) → left_behind_all most (fs ++ gs) ≡ option_and_then (λ n. left_behind_all n gs) (left_behind_all most fs)
left_append most [] gs = refl
left_append most (f ∷ fs) gs = by (left_behind most f.function) (λ n. left_append n fs gs)
  where
    by : (o : Option ℕ) → ((n : ℕ) → left_behind_all n (fs ++ gs) ≡ option_and_then (λ k. left_behind_all k gs) (left_behind_all n fs))
        → option_and_then (λ n. left_behind_all n (fs ++ gs)) o ≡ option_and_then (λ n. left_behind_all n gs) (option_and_then (λ n. left_behind_all n fs) o)
    by None rest = refl
    by (Some n) rest = rest n

-- a number that is cut off above what is there
pub left_capped : (most n : ℕ) → most < 2 ^ 32 - 1 → left most (min n (2 ^ 32 - 1)) ≡ left most n
left_capped most n low =
    elim (le_or_lt n most) [
      | inl fits ↦ (let e : min n (2 ^ 32 - 1) ≡ n = omega (arith, low, fits) in ap (λ k. left most k) e)
      | inr over ↦ (let high : most < min n (2 ^ 32 - 1) = omega (arith, low, over) in too_many most (min n (2 ^ 32 - 1)) high ∙ sym (too_many most n over))
    ]

pub left_low : (most n rest : ℕ) → left most n ≡ Some rest → rest ≤ most
left_low most n rest e =
    elim (le_or_lt n most) [
      | inl fits ↦ (let same : Some (most - n) ≡ Some rest = sym (enough most n fits) ∙ e in let is : most - n ≡ rest = some_is same in omega arith)
      | inr over ↦ (let none : None ≡ Some rest = sym (too_many most n over) ∙ e in cc)
    ]
  where
    some_is : {a b : ℕ} → Some a ≡ Some b → a ≡ b
    some_is e = cc

-- what was taken, by what is left
pub taken_back : (most n rest : ℕ) → left most n ≡ Some rest → (n ≤ most) × (most - rest ≡ n)
taken_back most n rest e =
    elim (le_or_lt n most) [
      | inl fits ↦ (let same : Some (most - n) ≡ Some rest = sym (enough most n fits) ∙ e in let is : most - n ≡ rest = some_is same in (fits, omega arith))
      | inr over ↦ (let none : None ≡ Some rest = sym (too_many most n over) ∙ e in absurd cc)
    ]
  where
    some_is : {a b : ℕ} → Some a ≡ Some b → a ≡ b
    some_is e = cc

-- whether something is left

is_left : (most n : ℕ) → is_some (left most n) ≡ true → n ≤ most
is_left most n t = elim (le_or_lt n most) [ inl fits ↦ fits | inr over ↦ (let f : is_some (left most n) ≡ false = ap is_some (too_many most n over) in absurd cc) ]

record IsEnough (most : ℕ) (fs : List Placed) : Type 0 where
  each : (f : Placed) → Contains fs f → units_of f.function.items ≤ MOST_FUNCTION_UNITS
  all : units_in fs ≤ most

fits_one : (most : ℕ) (f : Placed) → units_of f.function.items ≤ MOST_FUNCTION_UNITS → left_behind most f.function ≡ left most (units_of f.function.items)
fits_one most f low = ap (λ t. if t then left most (units_of f.function.items) else None) (let t : nat_le (units_of f.function.items) MOST_FUNCTION_UNITS ≡ true = grind (arith, nat_tests) in t)

over_one : (most : ℕ) (f : Placed) → MOST_FUNCTION_UNITS < units_of f.function.items → left_behind most f.function ≡ None
over_one most f high = ap (λ t. if t then left most (units_of f.function.items) else None) (let t : nat_le (units_of f.function.items) MOST_FUNCTION_UNITS ≡ false = grind (arith, nat_tests) in t)

then_all : List Placed → Option ℕ → Option ℕ
then_all fs o = option_and_then (λ n. left_behind_all n fs) o

enough_is : (most : ℕ) (fs : List Placed) → is_some (left_behind_all most fs) ≡ true → IsEnough most fs
unfolding then_all
enough_is most [] t = record { each = λ f c. absurd (omega (arith, c.1)); all = omega arith }
enough_is most (f ∷ fs) t =
    elim (le_or_lt (units_of f.function.items) MOST_FUNCTION_UNITS) [
      | inl own ↦ elim (le_or_lt (units_of f.function.items) most) [
        | inl low ↦
            let e : left_behind most f.function ≡ Some (most - units_of f.function.items) = fits_one most f own ∙ enough most (units_of f.function.items) low in
            let rest = enough_is (most - units_of f.function.items) fs (sym (ap (λ o. is_some (then_all fs o)) e) ∙ t) in
            record { each = λ g c. elim (first_or_later f fs g c) [ inl is ↦ subst (λ (h : Placed). units_of h.function.items ≤ MOST_FUNCTION_UNITS) is own | inr later ↦ rest.each g later ]; all = (let all = rest.all in omega arith) }
        | inr over ↦
            let e : left_behind most f.function ≡ None = fits_one most f own ∙ too_many most (units_of f.function.items) over in
            let none : is_some (then_all fs (left_behind most f.function)) ≡ false = ap (λ o. is_some (then_all fs o)) e in
            absurd cc
      ]
      | inr high ↦ (let none : is_some (then_all fs (left_behind most f.function)) ≡ false = ap (λ o. is_some (then_all fs o)) (over_one most f high) in absurd cc)
    ]

is_enough : (most : ℕ) (fs : List Placed) → IsEnough most fs → is_some (left_behind_all most fs) ≡ true
unfolding then_all
is_enough most [] is = refl
is_enough most (f ∷ fs) is =
    let own = is.each f (here f fs f refl) in
    let all = is.all in
    let e : left_behind most f.function ≡ Some (most - units_of f.function.items) = fits_one most f own ∙ enough most (units_of f.function.items) (omega arith) in
    ap (λ o. is_some (then_all fs o)) e
    ∙ is_enough (most - units_of f.function.items) fs (record { each = λ g c. is.each g (later f fs g c); all = omega arith })

pub few_is : (ms : List Module) → (is_some (left_behind_all MOST_UNITS (all_functions ms)) && nat_le (length ms) MOST_MODULES) ≡ true ↔ AreFew ms
few_is ms = (forth, back)
  where
    forth : (is_some (left_behind_all MOST_UNITS (all_functions ms)) && nat_le (length ms) MOST_MODULES) ≡ true → AreFew ms
    forth t =
        let both = both_hold (is_some (left_behind_all MOST_UNITS (all_functions ms))) (nat_le (length ms) MOST_MODULES) t in
        let is = enough_is MOST_UNITS (all_functions ms) both.0 in
        record { modules = (let u = both.1 in grind (arith, nat_tests)); each = is.each; all = is.all }

    back : AreFew ms → (is_some (left_behind_all MOST_UNITS (all_functions ms)) && nat_le (length ms) MOST_MODULES) ≡ true
    back few = and_from _ _ (is_enough MOST_UNITS (all_functions ms) (record { each = few.each; all = few.all })) (let low = few.modules in let t : nat_le (length ms) MOST_MODULES ≡ true = grind (arith, nat_tests) in t)

-- a module's functions first, then those of the others
pub left_next : (most less : ℕ) (m : Module) (ms : List Module) → left_behind_all most (map (placed_in m) m.functions) ≡ Some less → left_behind_all most (all_functions (m ∷ ms)) ≡ left_behind_all less (all_functions ms)
left_next most less m ms e = left_append most (map (placed_in m) m.functions) (all_functions ms) ∙ ap (λ o. option_and_then (λ n. left_behind_all n (all_functions ms)) o) e

pub left_none : (most : ℕ) (m : Module) (ms : List Module) → left_behind_all most (map (placed_in m) m.functions) ≡ None → left_behind_all most (all_functions (m ∷ ms)) ≡ None
left_none most m ms e = left_append most (map (placed_in m) m.functions) (all_functions ms) ∙ ap (λ o. option_and_then (λ n. left_behind_all n (all_functions ms)) o) e

-- the module at a place first, then those behind it
module _ (ms : List Module) (i : ℕ) (m : Module) (most : ℕ) (low : i < length ms) (is : m ≡ get_or ms i m) where
  from_here : drop i ms ≡ m ∷ drop (i + 1) ms
  from_here = drop-cons ms i m low ∙ (ap (λ (x : Module). x ∷ drop (suc i) ms) (sym is) ∙ ap (λ j. m ∷ drop j ms) (let e : suc i ≡ i + 1 = omega arith in e))

  pub left_at : (less : ℕ) → left_behind_all most (map (placed_in m) m.functions) ≡ Some less → left_behind_all less (all_functions (drop (i + 1) ms)) ≡ left_behind_all most (all_functions (drop i ms))
  left_at less e = sym (ap (λ l. left_behind_all most (all_functions l)) from_here ∙ left_next most less m (drop (i + 1) ms) e)

  pub none_at : left_behind_all most (map (placed_in m) m.functions) ≡ None → left_behind_all most (all_functions (drop i ms)) ≡ None
  none_at e = ap (λ l. left_behind_all most (all_functions l)) from_here ∙ left_none most m (drop (i + 1) ms) e
