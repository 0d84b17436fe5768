-- The built-ins of a range of numbers have one shape.
use Rattle.std.proofs.Common.{◌≡◌, ℕ, zero, suc, ◌+◌, ◌<◌, ◌≤◌, Bool, true, false, ◌&&◌, ◌||◌, Option, Some, None, IsTrue, [], ◌∷◌, get_or, slice_get, nat_eq, nat_lt, if◌then◌else◌, refl, ap, sym, subst, ◌∙◌, arith}
use Rattle.std.proofs.lemmas.Bool.Decides.{nat_tests}
use Rattle.beam_code.specs.Answer as a
use Rattle.beam_code.specs.BuiltIns.{BuiltIn, Failure, NoFailure, Badarith, Badarg, First, built_ins, inline}
use Rattle.prim_gates.specs.Gate.{Memory, Shape, OneTerm, TwoIntegers, TwoTruths, shapes, shaped, of_number, prim}
use Rattle.prim_gates.specs.Reply.{Reply, Raise, Argument, raised, valued, says}
use Rattle.prim_gates.specs.Shallow.{by_row, is_on_one, on_one, on_two, second_taken}
use Rattle.prim_gates.specs.Shapes.{look_then, shown, is_integer, is_truth, of_two, of_either}
use Rattle.tagged_words.specs.Seen.{Seen}
use Rattle.term_tree.specs.Tree.{Tree}

-- the built-in with a number
abbrev pub built_in : ℕ → BuiltIn
built_in k = get_or built_ins k (inline [] 0 NoFailure (λ vs. a.Fails))

-- so many numbers from one on
abbrev AllFrom : (ℕ → Type 0) → ℕ → ℕ → Type 0
AllFrom P from zero = Unit {0}
AllFrom P from (suc n) = P from × AllFrom P (from + 1) n

first_or : (P : ℕ → Type 0) (from k : ℕ) → from ≤ k → P from → (from + 1 ≤ k → P k) → P k
first_or P from k low here later = go (nat_eq k from) refl
  where
    go : (b : Bool) → nat_eq k from ≡ b → P k
    go true e = let same : from ≡ k = grind (arith, nat_tests) in subst P same here
    go false e = later (grind (arith, nat_tests))

all_at : (P : ℕ → Type 0) (from n : ℕ) → AllFrom P from n → (k : ℕ) → from ≤ k → k < from + n → P k
all_at P from zero all k low high = absurd (omega arith)
all_at P from (suc n) all k low high = first_or P from k low all.0 (λ up. all_at P (from + 1) n all.1 k up (omega arith))

-- a failure that does not raise the first argument
abbrev pub HasReason : Failure → Type 0
HasReason (First class) = ⊥
HasReason why = Unit {0}

pub any_first : (why : Failure) (u w : ℕ) (v : a.Value) → HasReason why → valued why u v ≡ valued why w v
any_first why u w (a.Is v) h = refl
any_first NoFailure u w a.Fails h = refl
any_first Badarith u w a.Fails h = refl
any_first Badarg u w a.Fails h = refl
any_first (First class) u w a.Fails h = absurd h
any_first why u w a.TooWide h = refl

-- the built-in with a number has a shape, and fails so
pub record IsRow (k : ℕ) (shape : Shape) (why : Failure) : Type 0 where
  pub built : BuiltIn
  pub there : slice_get built_ins k ≡ Some built
  pub shaped : slice_get shapes k ≡ Some shape
  pub fails : built.failure ≡ why

row : {k : ℕ} {shape : Shape} (b : BuiltIn) → slice_get built_ins k ≡ Some b → slice_get shapes k ≡ Some shape → IsRow k shape b.failure
row b there is = record { built = b; there = there; shaped = is; fails = refl }

pub row_is : (k : ℕ) (shape : Shape) (why : Failure) (r : IsRow k shape why) (m : Memory) (x y z : Argument) → prim k m x y z ≡ shaped m r.built shape x y z
row_is k shape why r m x y z = ap (λ o. of_number m o (slice_get shapes k) x y z) r.there ∙ ap (λ o. of_number m (Some r.built) o x y z) r.shaped

-- ---- one term by itself

abbrev IsOne : ℕ → Type 0
IsOne k = (m : Memory) (x y z : Argument) → prim k m x y z ≡ look_then x.seen (on_one k (shown x.seen))

one_by : (k : ℕ) (why : Failure) → HasReason why → IsRow k OneTerm why → IsOne k
one_by k why reason r m x y z =
    row_is k OneTerm why r m x y z
    ∙ ap (look_then x.seen) (
    ap (λ w. valued w x.word (r.built.value (shown x.seen ∷ []))) r.fails ∙ any_first why x.word 0 (r.built.value (shown x.seen ∷ [])) reason
    ∙ sym (ap (λ o. by_row o (shown x.seen ∷ [])) r.there ∙ ap (λ w. valued w 0 (r.built.value (shown x.seen ∷ []))) r.fails)
    )

one_at : (k : ℕ) → HasReason (built_in k).failure → slice_get built_ins k ≡ Some (built_in k) → slice_get shapes k ≡ Some OneTerm → IsOne k
one_at k reason there is = one_by k (built_in k).failure reason (row (built_in k) there is)

pub one_is : (k : ℕ) → IsTrue (is_on_one k) → IsOne k
one_is k h = go (nat_lt k 14) (nat_lt k 32) refl refl
  where
    go : (b c : Bool) → nat_lt k 14 ≡ b → nat_lt k 32 ≡ c → IsOne k
    go true c e f = all_at IsOne 10 4 (one_at 10 tt refl refl, (one_at 11 tt refl refl, (one_at 12 tt refl refl, (one_at 13 tt refl refl, tt)))) k (grind (arith, nat_tests)) (grind (arith, nat_tests))
    go false true e f =
        all_at IsOne 25 7 (one_at 25 tt refl refl, (one_at 26 tt refl refl, (one_at 27 tt refl refl, (one_at 28 tt refl refl, (one_at 29 tt refl refl, (one_at 30 tt refl refl, (one_at 31 tt refl refl, tt)))))))
        k (grind (arith, nat_tests)) (grind (arith, nat_tests))
    go false false e f = all_at IsOne 35 1 (one_at 35 tt refl refl, tt) k (grind (arith, nat_tests)) (grind (arith, nat_tests))

-- ---- two integers, and two truths

-- the answer on what is shown, where the first argument is of the kind that is wanted
abbrev pub on_both : ℕ → Failure → (Seen → Bool) → Seen → Seen → Reply
on_both k why wanted v u = look_then v (if wanted v then look_then u (by_row (slice_get built_ins k) (shown v ∷ shown u ∷ [])) else raised why 0)

abbrev IsBoth : Failure → (Seen → Bool) → ℕ → Type 0
IsBoth why wanted k = (m : Memory) (x y z : Argument) → prim k m x y z ≡ on_both k why wanted x.seen y.seen

module _ (shape : Shape) (why : Failure) (wanted : Seen → Bool) (reason : HasReason why) (is : (m : Memory) (b : BuiltIn) (x y z : Argument) → shaped m b shape x y z ≡ of_two wanted b x y) where
  both_by : (k : ℕ) → IsRow k shape why → IsBoth why wanted k
  both_by k r m x y z =
      row_is k shape why r m x y z ∙ is m r.built x y z
      ∙ ap (λ w. look_then x.seen (if wanted x.seen then look_then y.seen (valued w x.word (r.built.value (shown x.seen ∷ shown y.seen ∷ []))) else raised w x.word)) r.fails
      ∙ ap (λ q. look_then x.seen (if wanted x.seen then look_then y.seen (valued why x.word (r.built.value (shown x.seen ∷ shown y.seen ∷ []))) else q)) (any_first why x.word 0 a.Fails reason)
      ∙ ap (λ q. look_then x.seen (if wanted x.seen then look_then y.seen q else raised why 0)) (
      any_first why x.word 0 (r.built.value (shown x.seen ∷ shown y.seen ∷ [])) reason
      ∙ sym (ap (λ o. by_row o (shown x.seen ∷ shown y.seen ∷ [])) r.there ∙ ap (λ w. valued w 0 (r.built.value (shown x.seen ∷ shown y.seen ∷ []))) r.fails)
      )

integers_at : (k : ℕ) → slice_get built_ins k ≡ Some (built_in k) → slice_get shapes k ≡ Some TwoIntegers → (built_in k).failure ≡ Badarith → IsBoth Badarith is_integer k
integers_at k there is fails = both_by TwoIntegers Badarith is_integer tt (λ m b x y z. refl) k (record { built = built_in k; there = there; shaped = is; fails = fails })

pub integers_are : (k : ℕ) → k < 10 → IsBoth Badarith is_integer k
integers_are k low =
    all_at (IsBoth Badarith is_integer) 0 10 (integers_at 0 refl refl refl, (integers_at 1 refl refl refl, (integers_at 2 refl refl refl, (integers_at 3 refl refl refl, (integers_at 4 refl refl refl, (integers_at 5 refl refl refl, (integers_at 6 refl refl refl, (integers_at 7 refl refl refl, (integers_at 8 refl refl refl, (integers_at 9 refl refl refl, tt))))))))))
    k (omega arith) low

truths_at : (k : ℕ) → slice_get built_ins k ≡ Some (built_in k) → slice_get shapes k ≡ Some TwoTruths → (built_in k).failure ≡ Badarg → IsBoth Badarg is_truth k
truths_at k there is fails = both_by TwoTruths Badarg is_truth tt (λ m b x y z. refl) k (record { built = built_in k; there = there; shaped = is; fails = fails })

pub truths_are : (k : ℕ) → 22 ≤ k → k ≤ 24 → IsBoth Badarg is_truth k
truths_are k low high = all_at (IsBoth Badarg is_truth) 22 3 (truths_at 22 refl refl refl, (truths_at 23 refl refl refl, (truths_at 24 refl refl refl, tt))) k low (omega arith)

-- ---- the others

pub either_is : (k : ℕ) → 37 ≤ k → k ≤ 38 → (m : Memory) (x y z : Argument) → prim k m x y z ≡ of_either (second_taken k) x y
either_is k low high = all_at (λ k. (m : Memory) (x y z : Argument) → prim k m x y z ≡ of_either (second_taken k) x y) 37 2 (λ m x y z. refl, (λ m x y z. refl, tt)) k low (omega arith)

pub never_is : (k : ℕ) → 49 ≤ k → k < 57 → (m : Memory) (x y z : Argument) → prim k m x y z ≡ says false
never_is k low high =
    all_at (λ k. (m : Memory) (x y z : Argument) → prim k m x y z ≡ says false) 49 8 (λ m x y z. refl, (λ m x y z. refl, (λ m x y z. refl, (λ m x y z. refl, (λ m x y z. refl, (λ m x y z. refl, (λ m x y z. refl, (λ m x y z. refl, tt)))))))) k low (omega arith)

pub raise_is : (k : ℕ) → 47 ≤ k → k ≤ 48 → (m : Memory) (x y z : Argument) → prim k m x y z ≡ Raise 0 x.word
raise_is k low high = all_at (λ k. (m : Memory) (x y z : Argument) → prim k m x y z ≡ Raise 0 x.word) 47 2 (λ m x y z. refl, (λ m x y z. refl, tt)) k low (omega arith)

-- the second of two is no truth
both_none : (f : Bool → Bool → Bool) (o p : Option Bool) → p ≡ None → valued Badarg 0 (a.both_true f o p) ≡ raised Badarg 0
both_none f None p e = refl
both_none f (Some b) None e = refl
both_none f (Some b) (Some c) e = absurd cc

abbrev FailsSo : ℕ → Type 0
FailsSo k = (v u : Tree) → a.truth_of u ≡ None → on_two k v u ≡ raised Badarg 0

fails_at : (k : ℕ) (f : Bool → Bool → Bool) → ((v u : Tree) → on_two k v u ≡ valued Badarg 0 (a.both_true f (a.truth_of v) (a.truth_of u))) → FailsSo k
fails_at k f is v u e = is v u ∙ both_none f (a.truth_of v) (a.truth_of u) e

pub second_fails : (k : ℕ) → 22 ≤ k → k ≤ 24 → FailsSo k
second_fails k low high =
    all_at FailsSo 22 3 (fails_at 22 (λ x y. x && y) (λ v u. refl), (fails_at 23 (λ x y. x || y) (λ v u. refl), (fails_at 24 a.differ (λ v u. refl), tt))) k low (omega arith)
