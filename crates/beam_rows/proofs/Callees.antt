-- Functions that are called, and built-ins that give a value.
use Rattle.std.proofs.Common.{inl, inr, ◌≡◌, ℕ, zero, suc, ◌+◌, Bool, true, false, not, ◌&&◌, ◌||◌, ◌⊎◌, codes, Some, None, List, [], ◌∷◌, nat_eq, slice_get, refl, ap, subst, sym, ◌∙◌, arith, if◌then◌else◌}
use Rattle.std.specs.List.{AllByRecursion, list_all}
use Rattle.std.specs.Str.{bytes_eq}
use Rattle.std.proofs.lemmas.Bool.Decides.{nat_tests}
use Rattle.term_tree.proofs.TermLaws.{both_hold}
use Rattle.term_tree.specs.Tree.{Tree}
use Rattle.beam_code.specs.declared.module.Module.{Module}
use Rattle.beam_code.specs.Answer.{Value, Is}
use Rattle.beam_code.specs.Answer as value
use Rattle.beam_code.specs.BuiltIns.{BuiltIn, Failure, NoFailure, Badarith, Badarg, First, failed, Gives, Making, Nothing, ATuple, AList, answer_of, answered, builtin, built_in_number, built_ins, inline_number, is_built_in, is_inline, words_made}
use Rattle.beam_code.specs.Function.{Placed, all_functions, exported_number, exports_of, first_that, function_at, is_exported, is_named, is_target, number_of, same_name, target_of}
use Rattle.beam_code.specs.Uses.{never_returns}
use Rattle.beam_rows.proofs.BuiltInLaws.{built_ins_make_their_words}
use Rattle.beam_rows.specs.Tables.{is_well_said, makes_nothing, only_raises, same_truth}
use Rattle.std.specs.Cmp.Lexicographic.{same_text}

name_is : (a b : List ℕ) → same_name a b ≡ true → a ≡ b
name_is a b t = same_text a b (sym t)

-- the first one that passes is there, and passes
pub record IsFound {A : Type 0} (test : A → Bool) (at : ℕ) (xs : List A) (n : ℕ) : Type 0 where
  pub place : ℕ
  pub number : n ≡ at + place
  pub found : A
  pub there : slice_get xs place ≡ Some found
  pub passes : test found ≡ true

pub found_first : {A : Type 0} (test : A → Bool) (at : ℕ) (xs : List A) (n : ℕ) → first_that test at xs ≡ Some n → IsFound test at xs n
found_first test at [] n e = absurd cc
found_first test at (x ∷ xs) n e = by (test x) refl e (λ e. found_first test (at + 1) xs n e)
  where
    by : (b : Bool) → test x ≡ b → (if b then Some at else first_that test (at + 1) xs) ≡ Some n → (first_that test (at + 1) xs ≡ Some n → IsFound test (at + 1) xs n) → IsFound test at (x ∷ xs) n
    by true is e rest = let here : at ≡ n = cc in record { place = 0; number = omega arith; found = x; there = refl; passes = is }
    by false is e rest = let f = rest e in let number = f.number in record { place = suc f.place; number = omega arith; found = f.found; there = f.there; passes = f.passes }

pub record IsCalled (ms : List Module) (arity callee : ℕ) : Type 0 where
  pub placed : Placed
  pub is : function_at ms callee ≡ Some placed
  pub many : arity ≡ placed.function.arity

pub same_number : (a b : ℕ) → nat_eq a b ≡ true → a ≡ b
same_number a b e = grind (arith, nat_tests)

-- the first function that passes a test, which looks at the arity too
first_called : (ms : List Module) (test : Placed → Bool) (arity callee : ℕ) → first_that test 0 (all_functions ms) ≡ Some callee → ((p : Placed) → test p ≡ true → nat_eq arity p.function.arity ≡ true) → IsCalled ms arity callee
first_called ms test arity callee e counts =
    let f = found_first test 0 (all_functions ms) callee e in
    let number = f.number in
    let place : callee ≡ f.place = omega arith in
    record { placed = f.found; is = ap (function_at ms) place ∙ f.there; many = same_number arity f.found.function.arity (counts f.found f.passes) }

pub target_called : (ms : List Module) (p : Placed) (label arity callee : ℕ) → target_of ms p label arity ≡ Some callee → IsCalled ms arity callee
target_called ms p label arity callee e = first_called ms (is_target p.owner.name label arity) arity callee e (λ q passes. (both_hold _ (nat_eq arity q.function.arity) passes).1)

named_called : (ms : List Module) (m f : List ℕ) (arity callee : ℕ) → number_of ms m f arity ≡ Some callee → IsCalled ms arity callee
named_called ms m g arity callee e = first_called ms (is_named m g arity) arity callee e (λ q passes. (both_hold _ (nat_eq arity q.function.arity) passes).1)

pub export_called : (ms : List Module) (m f : List ℕ) (arity callee : ℕ) → exported_number ms m f arity ≡ Some callee → IsCalled ms arity callee
export_called ms m f arity callee e = by (is_exported f arity (exports_of ms m)) e
  where
    by : (b : Bool) → (if b then number_of ms m f arity else None) ≡ Some callee → IsCalled ms arity callee
    by true e = named_called ms m f arity callee e
    by false e = absurd cc

-- ---- built-ins that give a value come back

pub all_at : {A : Type 0} (test : A → Bool) (xs : List A) (k : ℕ) (x : A) → list_all test xs ≡ true → slice_get xs k ≡ Some x → test x ≡ true
all_at test [] k x all e = absurd cc
all_at test (y ∷ xs) zero x all e = let same : y ≡ x = cc in subst (λ z. test z ≡ true) same (both_hold (test y) (list_all test xs) all).0
all_at test (y ∷ xs) (suc k) x all e = all_at test xs k x (both_hold (test y) (list_all test xs) all).1 e

abbrev ComesBack : BuiltIn → Type 0
ComesBack b = (vs : List Tree) (v : Tree) → b.value vs ≡ Is v → never_returns b.owner b.name b.arity ≡ false

no_value : (v : Tree) → value.Fails ≡ Is v → ⊥
no_value v e = cc

all_come_back : AllByRecursion ComesBack built_ins
all_come_back = (λ vs v e. refl, (λ vs v e. refl, (λ vs v e. refl, (λ vs v e. refl, (λ vs v e. refl, (λ vs v e. refl, (λ vs v e. refl, (λ vs v e. refl, (λ vs v e. refl, (λ vs v e. refl, (λ vs v e. refl, (λ vs v e. refl, (λ vs v e. refl, (λ vs v e. refl, (λ vs v e. refl, (λ vs v e. refl, (λ vs v e. refl, (λ vs v e. refl, (λ vs v e. refl, (λ vs v e. refl, (λ vs v e. refl, (λ vs v e. refl, (λ vs v e. refl, (λ vs v e. refl, (λ vs v e. refl, (λ vs v e. refl, (λ vs v e. refl, (λ vs v e. refl, (λ vs v e. refl, (λ vs v e. refl, (λ vs v e. refl, (λ vs v e. refl, (λ vs v e. refl, (λ vs v e. refl, (λ vs v e. refl, (λ vs v e. refl, (λ vs v e. refl, (λ vs v e. refl, (λ vs v e. refl, (λ vs v e. refl, (λ vs v e. refl, (λ vs v e. refl, (λ vs v e. refl, (λ vs v e. refl, (λ vs v e. refl, (λ vs v e. absurd (no_value v e), (λ vs v e. absurd (no_value v e), (λ vs v e. absurd (no_value v e), (λ vs v e. absurd (no_value v e), (λ vs v e. refl, (λ vs v e. refl, (λ vs v e. refl, (λ vs v e. refl, (λ vs v e. refl, (λ vs v e. refl, (λ vs v e. refl, (λ vs v e. refl, tt)))))))))))))))))))))))))))))))))))))))))))))))))))))))))

at_place : {A : Type 0} (P : A → Type 0) (xs : List A) (k : ℕ) (x : A) → AllByRecursion P xs → slice_get xs k ≡ Some x → P x
at_place P [] k x all e = absurd cc
at_place P (y ∷ xs) zero x all e = let same : y ≡ x = cc in subst P same all.0
at_place P (y ∷ xs) (suc k) x all e = at_place P xs k x all.1 e

no_gift : (f : Failure) (vs : List Tree) (v : Tree) (words : ℕ) → failed f vs ≡ Gives v words → ⊥
no_gift NoFailure vs v words e = cc
no_gift Badarith vs v words e = cc
no_gift Badarg vs v words e = cc
no_gift (First class) vs v words e = cc

given_value : (b : BuiltIn) (vs : List Tree) (v : Tree) (words : ℕ) (o : Value) → answered b vs o ≡ Gives v words → o ≡ Is v
given_value b vs v words (Is w) e = let same : w ≡ v = cc in ap (λ u. Is u) same
given_value b vs v words value.Fails e = absurd (no_gift b.failure vs v words e)
given_value b vs v words value.TooWide e = absurd cc

-- a built-in of these names that gives a value is one that returns
pub comes_back_with : (m f : List ℕ) (arity k : ℕ) (vs : List Tree) (v : Tree) (words : ℕ) → built_in_number m f arity ≡ Some k → builtin k vs ≡ Gives v words → never_returns m f arity ≡ false
comes_back_with m g arity k vs v words number gives =
    let f = found_first (is_built_in m g arity) 0 built_ins k number in
    let n = f.number in
    let place : k ≡ f.place = omega arith in
    let b = f.found in
    let at : slice_get built_ins k ≡ Some b = ap (slice_get built_ins) place ∙ f.there in
    let is : answered b vs (b.value vs) ≡ Gives v words = sym (ap (λ o. answer_of o vs) at) ∙ gives in
    let back : never_returns b.owner b.name b.arity ≡ false = at_place ComesBack built_ins k b all_come_back at vs v (given_value b vs v words (b.value vs) is) in
    let names = both_hold (same_name m b.owner && same_name g b.name) (nat_eq arity b.arity) f.passes in
    let two = both_hold (same_name m b.owner) (same_name g b.name) names.0 in
    ap (λ x. never_returns x g arity) (name_is m b.owner two.0) ∙ ap (λ x. never_returns b.owner x arity) (name_is g b.name two.1) ∙ ap (never_returns b.owner b.name) (same_number arity b.arity names.1) ∙ back

-- ---- an instruction's built-in makes no words

makes_none : (m : Making) (vs : List Tree) → makes_nothing m ≡ true → words_made m vs ≡ 0
makes_none Nothing vs e = refl
makes_none (ATuple at) vs e = absurd cc
makes_none AList vs e = absurd cc

pub inline_makes_none : (name : List ℕ) (arity k : ℕ) (vs : List Tree) (v : Tree) (words : ℕ) → inline_number name arity ≡ Some k → builtin k vs ≡ Gives v words → words ≡ 0
inline_makes_none name arity k vs v words number gives =
    let f = found_first (is_inline name arity) 0 built_ins k number in
    let n = f.number in
    let place : k ≡ f.place = omega arith in
    let b = f.found in
    let at : slice_get built_ins k ≡ Some b = ap (slice_get built_ins) place ∙ f.there in
    let names = (both_hold (b.inline && same_name name b.name) (nat_eq arity b.arity) f.passes).0 in
    let here : b.inline ≡ true = (both_hold b.inline (same_name name b.name) names).0 in
    let said = (both_hold (same_truth (never_returns b.owner b.name b.arity) (only_raises b.failure)) (not b.inline || makes_nothing b.making) (all_at is_well_said built_ins k b refl at)).1 in
    built_ins_make_their_words k b vs v words at gives ∙ makes_none b.making vs (subst (λ x. not x || makes_nothing b.making ≡ true) here said)

-- the built-ins that only raise are in the table
either : (a b : Bool) → a || b ≡ true → (a ≡ true) ⊎ (b ≡ true)
either true b e = inl refl
either false b e = inr e

abbrev IsNone : List ℕ → List ℕ → ℕ → Type 0
IsNone m f arity = built_in_number m f arity ≡ None

one_of : (f : List ℕ) (arity : ℕ) → arity ≡ 1 → (bytes_eq f (codes "throw") || bytes_eq f (codes "exit")) || bytes_eq f (codes "error") ≡ true → IsNone (codes "erlang") f arity → ⊥
one_of f arity is e none = elim (either (bytes_eq f (codes "throw") || bytes_eq f (codes "exit")) (bytes_eq f (codes "error")) e) [
  | inl two ↦ elim (either (bytes_eq f (codes "throw")) (bytes_eq f (codes "exit")) two) [
    | inl a ↦ at_names (codes "throw") a (λ n. cc)
    | inr b ↦ at_names (codes "exit") b (λ n. cc)
  ]
  | inr c ↦ at_names (codes "error") c (λ n. cc)
]
  where
    at_names : (g : List ℕ) → bytes_eq f g ≡ true → (IsNone (codes "erlang") g 1 → ⊥) → ⊥
    at_names g same off = off (subst (λ n. IsNone (codes "erlang") g n) is (subst (λ h. IsNone (codes "erlang") h arity) (name_is f g same) none))

raiser_found : (m f : List ℕ) (arity : ℕ) → never_returns m f arity ≡ true → IsNone m f arity → ⊥
raiser_found m f arity e none =
    let b = both_hold (bytes_eq m (codes "erlang")) (nat_eq arity 1 && ((bytes_eq f (codes "throw") || bytes_eq f (codes "exit")) || bytes_eq f (codes "error")) || nat_eq arity 2 && bytes_eq f (codes "error")) e in
    let owned : IsNone (codes "erlang") f arity = subst (λ x. IsNone x f arity) (name_is m (codes "erlang") b.0) none in
    elim (either (nat_eq arity 1 && ((bytes_eq f (codes "throw") || bytes_eq f (codes "exit")) || bytes_eq f (codes "error"))) (nat_eq arity 2 && bytes_eq f (codes "error")) b.1) [
      | inl one ↦
          (let a = both_hold (nat_eq arity 1) ((bytes_eq f (codes "throw") || bytes_eq f (codes "exit")) || bytes_eq f (codes "error")) one in
          one_of f arity (same_number arity 1 a.0) a.1 owned)
      | inr two ↦
          (let a = both_hold (nat_eq arity 2) (bytes_eq f (codes "error")) two in
          two_args (subst (λ n. IsNone (codes "erlang") (codes "error") n) (same_number arity 2 a.0) (subst (λ h. IsNone (codes "erlang") h arity) (name_is f (codes "error") a.1) owned)))
    ]
  where
    two_args : IsNone (codes "erlang") (codes "error") 2 → ⊥
    two_args n = cc

pub no_raiser : (m f : List ℕ) (arity : ℕ) → built_in_number m f arity ≡ None → never_returns m f arity ≡ false
no_raiser m f arity none = by (never_returns m f arity) refl
  where
    by : (b : Bool) → never_returns m f arity ≡ b → b ≡ false
    by true e = absurd (raiser_found m f arity e none)
    by false e = refl
