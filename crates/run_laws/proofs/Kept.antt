-- The example keeps every rule: its points are counted up, and each is looked at.
use Rattle.std.proofs.Common.{inl, inr, ◌≡◌, ℕ, zero, suc, ◌+◌, ◌-◌, ◌<◌, ◌≤◌, Bool, true, false, not, ◌||◌, List, [], ◌∷◌, ◌++◌, codes, nat_lt, refl, ap, subst, sym, arith}
use Rattle.std.specs.List.{Contains, list_any}
use Rattle.std.proofs.lemmas.Bool.{or_parts}
use Rattle.std.proofs.lemmas.Bool.Decides.{nat_tests}
use Rattle.std.proofs.lemmas.List.Elements.{Contains-append_left, Contains-append_right}
use Rattle.paths.proofs.Free.{holds_from_free}
use Rattle.paths.proofs.Reaching.{reached_free}
use Rattle.paths.proofs.Tests.{first_or_later, here, none_in}
use Rattle.paths.specs.Paths.{Free, Graph}
use Rattle.paths.specs.Rules.{Holds, Leads, Step}
use Rattle.beam_code.specs.declared.instr.Instr.TheVariants.{Label}
use Rattle.beam_code.specs.Function.{Placed, all_functions}
use Rattle.beam_rows.specs.Hand.{item}
use Rattle.path_rules.specs.declared.rule.Rule.{Rule}
use Rattle.path_rules.specs.declared.rule.Rule.TheVariants as rule
use Rattle.path_rules.specs.Points.{Point, graph, item_of}
use Rattle.path_rules.specs.declared.limits.TheConstants.{MOST_FUNCTION_UNITS}
use Rattle.path_rules.specs.Profile.{units_of}
use Rattle.path_rules.specs.Rules.{RuleHolds, ways}
use Rattle.run_laws.specs.Example.{example, made, module_n, tried}
use Rattle.run_laws.specs.Formed.{AreChecked, IsFormed}

module _ (g : Graph Point) where
  abbrev next : List Point → List Point
  next [] = []
  next (p ∷ ps) = g.moves p ++ next ps

  -- the points where paths of n moves end, and of fewer
  abbrev level : ℕ → List Point
  level zero = g.start ∷ []
  level (suc n) = next (level n)

  abbrev before : ℕ → List Point
  before zero = []
  before (suc n) = before n ++ level n

  in_next : (ps : List Point) (p q : Point) → Contains ps p → Contains (g.moves p) q → Contains (next ps) q
  in_next [] p q c m = absurd (let low = c.1 in omega arith)
  in_next (x ∷ ps) p q c m = elim (first_or_later x ps p c) [
    | inl e ↦ Contains-append_left (g.moves x) (next ps) q (subst (λ y. Contains (g.moves y) q) (sym e) m)
    | inr rest ↦ Contains-append_right (g.moves x) (next ps) q (in_next ps p q rest m)
  ]

  in_level : (n : ℕ) (p : Point) → Free g n p → Contains (level n) p
  in_level zero p free = here g.start [] p (sym free)
  in_level (suc n) p free = in_next (level n) free.0 p (in_level n free.0 free.1) free.2

  in_before : (most n : ℕ) (p : Point) → n < most → Contains (level n) p → Contains (before most) p
  in_before zero n p low c = absurd (omega arith)
  in_before (suc most) n p low c = by (nat_lt n most) refl (λ less. in_before most n p less c)
    where
      by : (b : Bool) → nat_lt n most ≡ b → (n < most → Contains (before most) p) → Contains (before most ++ level most) p
      by true e less = Contains-append_left (before most) (level most) p (less (let low : n < most = grind (arith, nat_tests) in low))
      by false e less = let same : n ≡ most = grind (arith, nat_tests) in Contains-append_right (before most) (level most) p (subst (λ k. Contains (level k) p) same c)

  late : (most k : ℕ) → level most ≡ [] → level (most + k) ≡ []
  late most zero e = let same : most ≡ most + 0 = omega arith in subst (λ k. level k ≡ []) same e
  late most (suc k) e = let same : suc (most + k) ≡ most + suc k = omega arith in subst (λ j. level j ≡ []) same (ap next (late most k e))

  -- where no path makes so many moves
  all_before : (most : ℕ) → level most ≡ [] → (n : ℕ) (p : Point) → Free g n p → Contains (before most) p
  all_before most e n p free = by (nat_lt n most) refl
    where
      by : (b : Bool) → nat_lt n most ≡ b → Contains (before most) p
      by true t = in_before most n p (let low : n < most = grind (arith, nat_tests) in low) (in_level n p free)
      by false t =
          let long : n ≡ most + (n - most) = grind (arith, nat_tests) in
          let none : Contains [] p = subst (λ ps. Contains ps p) (late most (n - most) e) (subst (λ k. Contains (level k) p) long (in_level n p free)) in
          absurd (let low = none.1 in omega arith)

abbrev rules : List Rule
rules = rule.FallsOff ∷ rule.CallTarget ∷ rule.BadHandler ∷ rule.Loop ∷ rule.StackSize ∷ rule.TagState ∷ rule.TagOrder ∷ rule.Undefined ∷ rule.HeapUncovered ∷ []

-- a rule is broken at a point, alone or with another one; or a path goes back
abbrev is_wrong : Placed → List Point → Rule → Point → Bool
is_wrong f ps rule p =
    (ways example f rule).breaks p || list_any ((ways example f rule).splits p) ps || list_any (λ q. not (nat_lt p.item q.item)) ((graph example f.function).moves p)

module _ (f : Placed) (ps : List Point) (all : (n : ℕ) (p : Point) → Free (graph example f.function) n p → Contains ps p) (right : list_any (λ rule. list_any (is_wrong f ps rule) ps) rules ≡ false) where
  module _ (rule : Rule) (listed : Contains rules rule) where
    fine : (p : Point) → Contains ps p → ((ways example f rule).breaks p ≡ false) × (list_any ((ways example f rule).splits p) ps ≡ false) × (list_any (λ q. not (nat_lt p.item q.item)) ((graph example f.function).moves p) ≡ false)
    fine p c =
        let none = none_in (is_wrong f ps rule) ps p (none_in (λ r. list_any (is_wrong f ps r) ps) rules rule right listed) c in
        let all = or_parts ((ways example f rule).breaks p || list_any ((ways example f rule).splits p) ps) (list_any (λ q. not (nat_lt p.item q.item)) ((graph example f.function).moves p)) none in
        let alone = or_parts ((ways example f rule).breaks p) (list_any ((ways example f rule).splits p) ps) all.0 in
        (alone.0, alone.1, all.1)

    holds : Holds (ways example f rule)
    holds = holds_from_free (ways example f rule) (λ n p free. (fine p (all n p free)).0) (λ m n p q free other. none_in ((ways example f rule).splits p) ps q (fine p (all m p free)).1 (all n q other))

    onward : (a b : ℕ) → Step (ways example f rule) item_of a b → a < b
    onward a b s =
        let free = reached_free (ways example f rule) s.n s.from s.reached in
        let on = none_in (λ q. not (nat_lt s.from.item q.item)) ((graph example f.function).moves s.from) s.to (fine s.from (all free.0 s.from free.2)).2 s.move in
        let leaves : s.from.item ≡ a = s.leaves in
        let arrives : s.to.item ≡ b = s.arrives in
        let low : s.from.item < s.to.item = grind (arith, nat_tests) in
        omega arith

    all_onward : (n a b : ℕ) → Leads (ways example f rule) item_of n a b → a < b
    all_onward zero a b s = onward a b s
    all_onward (suc n) a b l = let low = all_onward n a l.0 l.1 in let more = onward l.0 b l.2 in omega arith

  kept : (rule : Rule) → RuleHolds example f rule
  kept rule.FallsOff = holds rule.FallsOff (0, omega arith, refl)
  kept rule.CallTarget = holds rule.CallTarget (1, omega arith, refl)
  kept rule.BadHandler = holds rule.BadHandler (2, omega arith, refl)
  kept rule.Loop = λ n a l. (let low = all_onward rule.Loop (3, omega arith, refl) n a a l in omega arith)
  kept rule.StackSize = holds rule.StackSize (4, omega arith, refl)
  kept rule.TagState = holds rule.TagState (5, omega arith, refl)
  kept rule.TagOrder = holds rule.TagOrder (6, omega arith, refl)
  kept rule.Undefined = holds rule.Undefined (7, omega arith, refl)
  kept rule.HeapUncovered = holds rule.HeapUncovered (8, omega arith, refl)

abbrev tried_in : Placed
tried_in = record { owner = record { name = codes "m"; exports = (codes "f", 1) ∷ []; functions = tried ∷ []; text = [] }; function = tried }

abbrev made_in : Placed
made_in = record { owner = module_n; function = made }

-- one of two
each : (P : Placed → Type 0) → P tried_in → P made_in → (f : Placed) → Contains (all_functions example) f → P f
each P a b f c = elim (first_or_later tried_in (made_in ∷ []) f c) [
  | inl e ↦ subst P e a
  | inr rest ↦ elim (first_or_later made_in [] f rest) [ inl e ↦ subst P e b | inr none ↦ absurd (let low = none.1 in omega arith) ]
]

pub example_is_checked : AreChecked example
example_is_checked = record {
  profile = record {
    distinct = (refl, (refl, tt));
    few = record { modules = omega arith; each = each (λ f. units_of f.function.items ≤ MOST_FUNCTION_UNITS) (omega arith) (omega arith); all = omega arith };
    rules = each (λ f. (rule : Rule) → RuleHolds example f rule)
        (kept tried_in (before (graph example tried) 12) (all_before (graph example tried) 12 refl) refl)
        (kept made_in (before (graph example made) 8) (all_before (graph example made) 8 refl) refl);
  };
  formed = each (λ f. IsFormed f.function)
      (record { arity = omega arith; entry = item (Label 2); begins = refl; passes = refl; items = refl })
      (record { arity = omega arith; entry = item (Label 2); begins = refl; passes = refl; items = refl });
}
