-- Paths cut to what is needed go the same ways; where no path lacks anything, there is one of them a node.
use Rattle.std.proofs.Common.{◌≡◌, ℕ, suc, ◌<◌, ◌≤◌, inl, inr, Bool, true, false, ◌||◌, not, refl, ap, sym, ◌∙◌, arith, subst, List, [], ◌∷◌, length, map, replicate, min, nat_lt}
use Rattle.std.specs.Prelude.{slice_set}
use Rattle.std.specs.List.{Contains}
use Rattle.std.proofs.lemmas.Bool.{cases_eq, cases_lt}
use Rattle.std.proofs.lemmas.Bool.Decides.{nat_tests}
use Rattle.paths.specs.Paths.{Free}
use Rattle.paths.specs.Rules.{Reached, Holds, Forgets}
use Rattle.paths.proofs.Free.{free_fine}
use Rattle.paths.proofs.Reaching.{reached_free}
use Rattle.paths.proofs.Forgetting.{alike}
use Rattle.paths.proofs.Tests.{Contains-map, Contains-from_map, here, later}
use Rattle.data_flow.specs.declared.flow.Change.{Change}
use Rattle.data_flow.specs.declared.flow.Change.TheVariants.{Keeps, Spends, Asks}
use Rattle.data_flow.specs.declared.flow.Flow.{Flow}
use Rattle.data_flow.specs.declared.flow.Need.{Need}
use Rattle.data_flow.specs.declared.flow.Point.{Point}
use Rattle.data_flow.specs.declared.flow.Step.{Step}
use Rattle.data_flow.specs.Names.{meet, join, same, Within}
use Rattle.data_flow.specs.Flow.{nothing, need_at, reads_at, puts_at, steps_at, changed, land, lacks, flow_ways, cut, cut_ways, asked, IsFlow}
use Rattle.data_flow.specs.Rows.{Has, before_at, own_need, count_before, looked, IsClosed, AreNeeded}
use Rattle.data_flow.proofs.Sets.{meet_comm, step_from_cut, there_before, reads_from_cut, same_is}
use Rattle.data_flow.proofs.Looks.{has_both, has_ahead, has_nothing, need_same, need_other, need_none}

-- ---- where no path lacks anything

module _ (flow : Flow) (holds : Holds (flow_ways flow)) where
  neither : (a b : Bool) → (not a || b) ≡ false → (a ≡ true) × (b ≡ false)
  neither true b e = (refl, e)
  neither false b e = absurd cc

  not_below : (c n : ℕ) → nat_lt c n ≡ false → n ≤ c
  not_below c n e = grind (arith, nat_tests)

  has_all : (n : ℕ) (p : Point) → Free (flow_ways flow).graph n p → Within (reads_at flow p.item) p.names × (puts_at flow p.item ≤ p.count)
  has_all n p f =
      let h = neither (same (meet (reads_at flow p.item) p.names) (reads_at flow p.item)) (nat_lt p.count (puts_at flow p.item)) (fine n p f) in
      (same_is (meet (reads_at flow p.item) p.names) (reads_at flow p.item) h.0, not_below p.count (puts_at flow p.item) h.1)
    where
      fine : (n : ℕ) (p : Point) → Free (flow_ways flow).graph n p → lacks flow p ≡ false
      fine n p f = free_fine (flow_ways flow) (λ m k x y a b. refl) holds n p f

  pub has_own : (n : ℕ) (p : Point) → Free (flow_ways flow).graph n p → Has p (own_need flow p.item)
  has_own n p f = let h = has_all n p f in record { names = h.0; count = omega (arith, h.1) }

  spent_back : (bound puts c m : ℕ) (change : Change) → puts ≤ c → m ≤ changed change puts c → count_before bound puts change m ≤ c
  spent_back bound puts c m Keeps h e = omega arith
  spent_back bound puts c m Spends h e = omega arith
  spent_back bound puts c m (Asks k) h e = omega arith

  -- what is needed behind a step was there before it
  pub has_before : (needs : List Need) → IsFlow flow → AreNeeded flow needs → (n : ℕ) (p : Point) → Free (flow_ways flow).graph n p → (s : Step) → Contains (steps_at flow p.item) s → Has p (before_at flow needs p.item s)
  has_before needs is needed n p f s c =
      let to = land (puts_at flow p.item) p s in
      let h = needed holds (suc n) to (p, f, Contains-map (land (puts_at flow p.item) p) (steps_at flow p.item) s c) in
      let own = has_all n p f in
      record {
        names = there_before (need_at needs s.to).names p.names s.keep s.gain (is.adds p.item s c) h.names;
        count = spent_back flow.bound (puts_at flow p.item) p.count (need_at needs s.to).count s.change own.1 h.count;
      }

pub needed_none : (flow : Flow) (n : ℕ) → AreNeeded flow (replicate n nothing)
needed_none flow n holds m p f = subst (λ (q : Need). Has p q) (sym (need_none n p.item)) (has_nothing p)

pub needed_set : (flow : Flow) (needs : List Need) (node : ℕ) → IsFlow flow → node < length needs → AreNeeded flow needs → AreNeeded flow (slice_set needs node (looked flow needs node))
needed_set flow needs node is low needed holds n p f =
    elim (cases_eq p.item node) [
      | inl e ↦
          let has : Has p (looked flow needs p.item) = has_ahead flow.bound (puts_at flow p.item) needs p _ (steps_at flow p.item)
          (has_both p (need_at needs p.item) (own_need flow p.item) (needed holds n p f) (has_own flow holds n p f)) (has_before flow holds needs is needed n p f) in
          subst (λ (q : Need). Has p q) (sym (ap (need_at (slice_set needs node (looked flow needs node))) e ∙ need_same needs node (looked flow needs node) low)) (subst (λ (i : ℕ). Has p (looked flow needs i)) e has)
      | inr o ↦ subst (λ (q : Need). Has p q) (sym (need_other needs node p.item (looked flow needs node) o)) (needed holds n p f)
    ]

-- ---- cut paths

same_maps : {A B : Type 0} → (f g : A → B) (xs : List A) → ((x : A) → Contains xs x → f x ≡ g x) → map f xs ≡ map g xs
same_maps f g [] h = refl
same_maps {B = B} f g (x ∷ xs) h = ap (λ (y : B). y ∷ map f xs) (h x (here x xs x refl)) ∙ ap (λ (l : List B). g x ∷ l) (same_maps f g xs (λ y c. h y (later x xs y c)))

two_maps : {A B C : Type 0} → (f : A → B) (g : B → C) (xs : List A) → map g (map f xs) ≡ map (λ x. g (f x)) xs
two_maps f g [] = refl
two_maps {C = C} f g (x ∷ xs) = ap (λ (l : List C). g (f x) ∷ l) (two_maps f g xs)

lt_same : (c d n : ℕ) → (c < n → d < n) → (d < n → c < n) → nat_lt c n ≡ nat_lt d n
lt_same c d n h j =
    elim (cases_lt c n) [
      | inl a ↦ (let b = h a in let s : nat_lt c n ≡ true = grind (arith, nat_tests) in let t : nat_lt d n ≡ true = grind (arith, nat_tests) in s ∙ sym t)
      | inr a ↦ elim (cases_lt d n) [
        | inl b ↦ absurd (let e = j b in omega arith)
        | inr b ↦ (let s : nat_lt c n ≡ false = grind (arith, nat_tests) in let t : nat_lt d n ≡ false = grind (arith, nat_tests) in s ∙ sym t)
      ]
    ]

count_from_cut : (bound puts c m n : ℕ) (change : Change) → c ≤ bound → count_before bound puts change n ≤ m → min (changed change puts (min c m)) n ≡ min (changed change puts c) n
count_from_cut bound puts c m n Keeps h e = omega arith
count_from_cut bound puts c m n Spends h e = omega arith
count_from_cut bound puts c m n (Asks k) h e = refl

count_low : (bound puts c : ℕ) (change : Change) → c ≤ bound → asked change ≤ bound → changed change puts c ≤ bound
count_low bound puts c Keeps h a = h
count_low bound puts c Spends h a = omega arith
count_low bound puts c (Asks k) h a = a

module _ (flow : Flow) (needs : List Need) (is : IsFlow flow) (closed : IsClosed flow needs) where
  abbrev Low : Point → Type 0
  Low p = p.count ≤ flow.bound

  one_step : (p : Point) → Low p → (s : Step) → Contains (steps_at flow p.item) s → cut needs (land (puts_at flow p.item) (cut needs p) s) ≡ cut needs (land (puts_at flow p.item) p s)
  one_step p low s c =
      let here = need_at needs p.item in
      let there = need_at needs s.to in
      let less = (closed p.item).ahead s c in
      ap (λ names. record { item = s.to; names = names; count = min (changed s.change (puts_at flow p.item) (min p.count here.count)) there.count }) (step_from_cut p.names here.names s.keep s.gain there.names less.names)
      ∙ ap (λ count. record { item = s.to; names = meet (join (meet p.names s.keep) s.gain) there.names; count = count }) (count_from_cut flow.bound (puts_at flow p.item) p.count here.count there.count s.change low less.count)

  same_lack : (p : Point) → Low p → lacks flow (cut needs p) ≡ lacks flow p
  same_lack p low =
      let here = need_at needs p.item in
      let own = (closed p.item).own in
      let reads = reads_at flow p.item in
      let puts = puts_at flow p.item in
      ap (λ q. not (same q reads) || nat_lt (min p.count here.count) puts) (reads_from_cut reads p.names here.names own.names)
      ∙ ap (λ b. not (same (meet reads p.names) reads) || b) (let h = own.count in lt_same (min p.count here.count) p.count puts (λ l. omega arith) (λ l. omega arith))

  pub cuts : Forgets (flow_ways flow) (cut_ways flow needs) (cut needs) Low
  cuts = record {
    on_start = omega arith;
    on_move = λ p q low c. (let s = Contains-from_map (land (puts_at flow p.item) p) (steps_at flow p.item) q c in
        subst (λ (z : Point). z.count ≤ flow.bound) s.2 (count_low flow.bound (puts_at flow p.item) p.count s.0.change low (is.asks p.item s.0 s.1)));
    start = refl;
    moves = λ p low.
        two_maps (land (puts_at flow p.item) (cut needs p)) (cut needs) (steps_at flow p.item)
        ∙ (same_maps (λ s. cut needs (land (puts_at flow p.item) (cut needs p) s)) (λ s. cut needs (land (puts_at flow p.item) p s)) (steps_at flow p.item) (one_step p low)
        ∙ sym (two_maps (land (puts_at flow p.item) p) (cut needs) (steps_at flow p.item)));
    breaks = same_lack;
    splits = λ p q o r. refl;
    apart = λ p q o r. refl;
  }

  -- a cut path has what is needed, and so does any other there
  pub one_point : AreNeeded flow needs → Holds (flow_ways flow) → (m n : ℕ) (z y : Point) → Reached (cut_ways flow needs) m z → Reached (cut_ways flow needs) n y → z.item ≡ y.item → z ≡ y
  one_point needed holds m n z y r s e = is_need m z r ∙ (ap (λ i. with_need i (need_at needs i)) e ∙ sym (is_need n y s))
    where
      with_need : ℕ → Need → Point
      with_need item n = record { item = item; names = n.names; count = n.count }

      is_need : (n : ℕ) (z : Point) → Reached (cut_ways flow needs) n z → z ≡ with_need z.item (need_at needs z.item)
      is_need n z r =
          let x = (alike (flow_ways flow) (cut_ways flow needs) (cut needs) Low cuts n).up z r in
          let f = reached_free (flow_ways flow) n x.0 x.1 in
          let h = needed holds f.0 x.0 f.2 in
          let there = need_at needs x.0.item in
          let names : meet x.0.names there.names ≡ there.names = meet_comm x.0.names there.names ∙ h.names in
          let count : min x.0.count there.count ≡ there.count = omega (arith, h.count) in
          subst (λ (q : Point). q ≡ with_need q.item (need_at needs q.item)) x.2
          (ap (λ m. record { item = x.0.item; names = m; count = min x.0.count there.count }) names ∙ ap (λ k. record { item = x.0.item; names = there.names; count = k }) count)
