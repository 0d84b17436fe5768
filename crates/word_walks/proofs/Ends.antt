-- The first word that a walk comes by, the steps between, and what the last one says.
use Rattle.std.proofs.Common.{◌≡◌, ℕ, ◌+◌, ◌<◌, ◌≤◌, Bool, true, false, List, [], ◌++◌, Some, None, nat_eq, nat_lt, if◌then◌else◌, refl, sym, ap, subst, ◌∙◌, arith}
use Rattle.std.proofs.lemmas.Bool.Decides.{nat_tests}
use Rattle.std.proofs.lemmas.List.{append-nil}
use Rattle.tagged_words.specs.Seen.{Seen, Sees}
use Rattle.tagged_words.specs.Store.{Store}
use Rattle.term_tree.specs.Text.{text_of}
use Rattle.word_walks.proofs.Waiting.{none_waits}
use Rattle.word_walks.proofs.Walked.{nothing_first, nothing_last}
use Rattle.word_walks.specs.declared.scratch.Row.{Row}
use Rattle.word_walks.specs.declared.shown.Place.TheVariants.{First}
use Rattle.word_walks.specs.declared.walk.Step.{Step}
use Rattle.word_walks.specs.declared.walk.Step.TheVariants as step
use Rattle.word_walks.specs.declared.walk.Walk.{Walk}
use Rattle.word_walks.specs.Spelt.{Walked, then_walked, walked, tree_in, Spelling, Text, Large, spelling, spelt}
use Rattle.word_walks.specs.Texts.{going, step_spelling}
use Rattle.word_walks.specs.Waiting.{so_far, Waits, Left, Ahead, StepHolds, RowsFit, walk_weight, StepFits}

-- ---- the root

nothing_waits : (s : Store) (names : List (List ℕ)) (rows : List Row) → Waits s names rows 0 [] (so_far 0)
unfolding Waits
nothing_waits s names rows = (refl, refl)

pub root_ahead : (s : Store) (names : List (List ℕ)) (rows : List Row) (out : List ℕ) (limit word : ℕ) (v : Seen) → out ≡ [] → Sees s names limit word v → Ahead s names rows 0 out 0 limit word First (text_of (tree_in v)) (walked v)
root_ahead s names rows out limit word v empty sees = record {
  seen = v;
  more = [];
  later = so_far 0;
  sees = sees;
  waits = nothing_waits s names rows;
  end = λ e. absurd cc;
  spelt = sym (append-nil (text_of (tree_in v))) ∙ ap (λ o. o ++ (text_of (tree_in v) ++ [])) (sym empty);
  walked = sym (nothing_last (walked v)) ∙ sym (nothing_first (then_walked (walked v) (so_far 0)));
}

-- ---- between two steps

-- a walk that goes on is within the budget, and its rows are low
abbrev pub IsWithin : Store → List Row → ℕ → Step → Type 0
IsWithin s rows budget (step.Goes walk) = (walk.nodes ≤ budget) × RowsFit s rows walk.used
IsWithin s rows budget step.Large = Unit {0}
IsWithin s rows budget (step.Bad w) = Unit {0}

abbrev pub step_weight : ℕ → Step → ℕ
step_weight budget (step.Goes walk) = 1 + walk_weight budget walk
step_weight budget step.Large = 0
step_weight budget (step.Bad w) = 0

pub within_by_fit : (s : Store) (rows : List Row) (budget bound : ℕ) (x : Step) → StepFits s rows budget bound x → IsWithin s rows budget x
within_by_fit s rows budget bound (step.Goes walk) fit = (fit.0, fit.2)
within_by_fit s rows budget bound step.Large fit = tt
within_by_fit s rows budget bound (step.Bad w) fit = tt

weight_by_fit : (s : Store) (rows : List Row) (budget bound : ℕ) (x : Step) → StepFits s rows budget bound x → step_weight budget x ≤ bound
weight_by_fit s rows budget bound (step.Goes walk) fit = let less = fit.1 in omega arith
weight_by_fit s rows budget bound step.Large fit = omega arith
weight_by_fit s rows budget bound (step.Bad w) fit = omega arith

pub record GoesOn (x : Step) (walk : Walk) : Type 0 where
  pub is : x ≡ step.Goes walk
  pub some : 0 < walk.used

open_if : (b : Bool) (w walk : Walk) → nat_eq w.used 0 ≡ b → (if b then None else Some w) ≡ Some walk → GoesOn (step.Goes w) walk
open_if true w walk is e = absurd cc
open_if false w walk is e =
    let same : w ≡ walk = cc in
    let above : 0 < w.used = grind (arith, nat_tests) in
    record { is = ap step.Goes same; some = subst (λ y. 0 < y.used) same above }

pub goes_on : (x : Step) (walk : Walk) → going x ≡ Some walk → GoesOn x walk
goes_on (step.Goes w) walk e = open_if (nat_eq w.used 0) w walk refl e
goes_on step.Large walk e = absurd cc
goes_on (step.Bad w) walk e = absurd cc

pub step_lighter : (s : Store) (rows : List Row) (budget : ℕ) (x y : Step) (walk : Walk) → GoesOn x walk → StepFits s rows budget (walk_weight budget walk) y → step_weight budget y < step_weight budget x
step_lighter s rows budget x y walk goes fit =
    let weight : step_weight budget x ≡ 1 + walk_weight budget walk = ap (step_weight budget) goes.is in
    let lighter = weight_by_fit s rows budget (walk_weight budget walk) y fit in
    omega arith

-- ---- the last step

-- what is spelt of a text and its nodes
abbrev spelt_of : ℕ → List ℕ → Walked → Spelling
spelt_of budget text all = if nat_lt budget all.nodes then Large else spelling text all.nodes all.bad

not_large : (b : Bool) (x : Spelling) → b ≡ false → x ≡ (if b then Large else x)
not_large true x e = absurd cc
not_large false x e = refl

is_large : (b : Bool) (x : Spelling) → b ≡ true → Large ≡ (if b then Large else x)
is_large true x e = refl
is_large false x e = absurd cc

no_less : (m n : ℕ) → n ≤ m → nat_lt m n ≡ false
no_less m n h = grind (arith, nat_tests)

yes_less : (m n : ℕ) → m < n → nat_lt m n ≡ true
yes_less m n h = grind (arith, nat_tests)

ends_whole : (b : Bool) (s : Store) (names : List (List ℕ)) (rows : List Row) (out : List ℕ) (budget : ℕ) (walk : Walk) (text : List ℕ) (all : Walked) → nat_eq walk.used 0 ≡ b → (if b then None else Some walk) ≡ None → walk.nodes ≤ budget
    → Left s names rows walk.used out walk.nodes text all → Text out walk.nodes ≡ spelt_of budget text all
ends_whole false s names rows out budget walk text all is e within left = absurd cc
ends_whole true s names rows out budget walk text all is e within left =
    let none : walk.used ≡ 0 = grind (arith, nat_tests) in
    let waits : Waits s names rows 0 left.more left.later = subst (λ n. Waits s names rows n left.more left.later) none left.waits in
    let rest = none_waits s names rows left.more left.later waits in
    let text_is : text ≡ out = left.spelt ∙ ap (λ m. out ++ m) rest.0 ∙ append-nil out in
    let all_is : all ≡ so_far walk.nodes = left.walked ∙ ap (λ l. then_walked (so_far walk.nodes) l) rest.1 ∙ nothing_last (so_far walk.nodes) in
    not_large (nat_lt budget walk.nodes) (Text out walk.nodes) (no_less budget walk.nodes within) ∙ ap (λ a. spelt_of budget out a) (sym all_is) ∙ ap (λ t. spelt_of budget t all) (sym text_is)

ends : (s : Store) (names : List (List ℕ)) (rows : List Row) (out : List ℕ) (budget : ℕ) (x : Step) (text : List ℕ) (all : Walked) → going x ≡ None → IsWithin s rows budget x → StepHolds s names rows out budget x text all
    → step_spelling out x ≡ spelt_of budget text all
ends s names rows out budget (step.Goes walk) text all last within holds = ends_whole (nat_eq walk.used 0) s names rows out budget walk text all refl last within.0 holds
ends s names rows out budget step.Large text all last within holds = is_large (nat_lt budget all.nodes) (spelling text all.nodes all.bad) (yes_less budget all.nodes holds)
ends s names rows out budget (step.Bad w) text all last within holds =
    ap (spelling text all.nodes) (sym holds.1) ∙ not_large (nat_lt budget all.nodes) (spelling text all.nodes all.bad) (no_less budget all.nodes holds.0)

pub ends_spelt : (s : Store) (names : List (List ℕ)) (rows : List Row) (out : List ℕ) (budget : ℕ) (x : Step) (v : Seen) → going x ≡ None → IsWithin s rows budget x → StepHolds s names rows out budget x (text_of (tree_in v)) (walked v)
    → step_spelling out x ≡ spelt budget v
ends_spelt s names rows out budget x v last within holds = ends s names rows out budget x (text_of (tree_in v)) (walked v) last within holds
