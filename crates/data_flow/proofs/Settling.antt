-- Looks at nodes until nothing is pending.
use Rattle.std.proofs.Common.{◌≡◌, ◌≢◌, ℕ, zero, ◌+◌, ◌^◌, ◌<◌, ◌≤◌, ◌⊎◌, inl, inr, Bool, true, false, refl, ap, sym, ◌∙◌, arith, subst, List, [], ◌∷◌, ◌++◌, length, get_or}
use Rattle.std.specs.Prelude.{slice_get, slice_set, Option, None}
use Rattle.std.specs.List.{Contains}
use Rattle.std.proofs.lemmas.Bool.{cases_eq, cases_lt}
use Rattle.std.proofs.lemmas.List.{length-set, length_push, get_or-set_same, get_or-set_other}
use Rattle.std.proofs.lemmas.List.Elements.{Contains-append_left, Contains-push, Contains-push_cases}
use Rattle.std.proofs.lemmas.Option.{slice_get_past}
use Rattle.paths.proofs.Tests.{first_or_later}
use Rattle.path_search.specs.Found.{row_of}
use Rattle.data_flow.specs.declared.flow.Flow.{Flow}
use Rattle.data_flow.specs.declared.flow.Need.{Need}
use Rattle.data_flow.specs.declared.flow.Node.{Node}
use Rattle.data_flow.specs.declared.flow.Step.{Step}
use Rattle.data_flow.specs.Names.{AreNames, Within, meet}
use Rattle.data_flow.specs.Flow.{nothing, need_at, reads_of, puts_of, steps_of, puts_at, IsFlow}
use Rattle.data_flow.specs.Rows.{IsLess, before_at, own_need, looked, same_need, count_before, IsClosed, AreNeeded, IsBackwardOf, FirstLooks, Notes, spare, Visits, Spreads, IsClosedBut, NoException, IsSettling, work}
use Rattle.data_flow.proofs.Sets.{none_within}
use Rattle.data_flow.proofs.Looks.{need_same, need_other, need_read, looked_own, looked_ahead, same_need_is, spare_falls}
use Rattle.data_flow.proofs.Cuts.{needed_set}

-- ---- one look

pub grows : (flow : Flow) (needs : List Need) (pending : List ℕ) (node : ℕ) (new : Need) (more : List ℕ) → node < length needs → new ≡ looked flow needs node → AreNames new.names → new.count < 2 ^ 32
    → (b : Bool) → b ≡ same_need new (get_or needs node nothing) → b ≡ false → more ≡ pending ++ node ∷ [] → Visits flow node needs pending (slice_set needs node new) more
grows flow needs pending node new more low is names count b same other e =
    inr (
      low,
      ap (slice_set needs node) is,
      e,
      subst (λ (n : Need). spare (slice_set needs node n) < spare needs) (sym is) (
          spare_falls flow needs node low (subst (λ (n : Need). AreNames n.names) is names) (subst (λ (n : Need). n.count < 2 ^ 32) is count)
          (ap (λ (n : Need). same_need n (need_at needs node)) (sym is) ∙ (ap (λ (n : Need). same_need new n) (sym (need_read needs node)) ∙ (sym same ∙ other)))),
    )

pub stays : (flow : Flow) (needs : List Need) (pending : List ℕ) (node : ℕ) (new : Need) → new ≡ looked flow needs node
    → (b : Bool) → b ≡ same_need new (get_or needs node nothing) → b ≡ true → Visits flow node needs pending needs pending
stays flow needs pending node new is b same t =
    inl (refl, refl, λ low. sym is ∙ (same_need_is new (get_or needs node nothing) (sym same ∙ t) ∙ need_read needs node))

pub visit_long : (flow : Flow) (node : ℕ) (needs : List Need) (pending : List ℕ) (new : List Need) (more : List ℕ) → Visits flow node needs pending new more → length new ≡ length needs
visit_long flow node needs pending new more (inl s) = ap (λ (l : List Need). length l) s.0
visit_long flow node needs pending new more (inr g) = ap (λ (l : List Need). length l) g.1 ∙ length-set needs node (looked flow needs node)

pub visit_needed : (flow : Flow) → IsFlow flow → (node : ℕ) (needs : List Need) (pending : List ℕ) (new : List Need) (more : List ℕ) → Visits flow node needs pending new more → AreNeeded flow needs → AreNeeded flow new
visit_needed flow is node needs pending new more (inl s) n = subst (λ (l : List Need). AreNeeded flow l) (sym s.0) n
visit_needed flow is node needs pending new more (inr g) n = subst (λ (l : List Need). AreNeeded flow l) (sym g.1) (needed_set flow needs node is g.0 n)

visit_low : (flow : Flow) (node : ℕ) (needs : List Need) (pending : List ℕ) (new : List Need) (more : List ℕ) → Visits flow node needs pending new more → (k : ℕ) → Contains more k → Contains pending k ⊎ (k < length needs)
visit_low flow node needs pending new more (inl s) k c = inl (subst (λ (l : List ℕ). Contains l k) s.1 c)
visit_low flow node needs pending new more (inr g) k c =
    elim (Contains-push_cases pending node k (subst (λ (l : List ℕ). Contains l k) g.2 c)) [ inl o ↦ inl o | inr e ↦ inr (subst (λ (n : ℕ). n < length needs) e g.0) ]

visit_work : (flow : Flow) (node : ℕ) (needs : List Need) (pending : List ℕ) (new : List Need) (more : List ℕ) → Visits flow node needs pending new more → work new more ≤ work needs pending
visit_work flow node needs pending new more (inl s) = let a = ap spare s.0 in let b = ap (λ (l : List ℕ). length l) s.1 in omega arith
visit_work flow node needs pending new more (inr g) = let b = ap (λ (l : List ℕ). length l) g.2 ∙ length_push pending node in let a = g.3 in omega arith

-- past the last node nothing is needed
closed_past : (flow : Flow) (needs : List Need) (pending : List ℕ) (Except : ℕ → ℕ → Type 0) (node : ℕ) → length flow.nodes ≤ node → IsClosedBut flow needs pending Except node
closed_past flow needs pending Except node high =
    let none : slice_get flow.nodes node ≡ None = slice_get_past flow.nodes node high in
    record {
      own = record {
        names = subst (λ (o : Option Node). Within (reads_of o) (need_at needs node).names) (sym none) (none_within (need_at needs node).names);
        count = (let p : puts_at flow node ≡ 0 = ap puts_of none in omega arith);
      };
      ahead = λ s c. absurd (no_step s (subst (λ (o : Option Node). Contains (steps_of o) s) none c));
    }
  where
    no_step : (s : Step) → Contains [] s → ⊥
    no_step s c = let low = c.1 in omega arith

-- what is needed before a step, of another list with the same need behind it
same_before : (flow : Flow) (needs new : List Need) (node : ℕ) (s : Step) → need_at new s.to ≡ need_at needs s.to → before_at flow new node s ≡ before_at flow needs node s
same_before flow needs new node s e = ap (λ (n : Need). record { names = meet n.names s.keep; count = count_before flow.bound (puts_at flow node) s.change n.count }) e

module _ (flow : Flow) (node : ℕ) (needs : List Need) (pending : List ℕ) (Except : ℕ → ℕ → Type 0) where
  -- the node that was looked at misses nothing
  here : (new : List Need) (more : List ℕ) → length needs ≡ length flow.nodes → Visits flow node needs pending new more → IsClosedBut flow new more Except node
  here new more long (inl s) =
      elim (cases_lt node (length needs)) [
        | inl low ↦ (let e = s.2 low in
            subst (λ (l : List Need). IsClosedBut flow l more Except node) (sym s.0) (record {
              own = subst (λ (n : Need). IsLess (own_need flow node) n) e (looked_own flow needs node);
              ahead = λ t c. inl (subst (λ (n : Need). IsLess (before_at flow needs node t) n) e (looked_ahead flow needs node t c));
            }))
        | inr high ↦ closed_past flow new more Except node (omega arith)
      ]
  here new more long (inr g) =
      subst (λ (l : List Need). IsClosedBut flow l more Except node) (sym g.1)
      (subst (λ (l : List ℕ). IsClosedBut flow (slice_set needs node (looked flow needs node)) l Except node) (sym g.2) (record {
        own = subst (λ (n : Need). IsLess (own_need flow node) n) (sym (need_same needs node (looked flow needs node) g.0)) (looked_own flow needs node);
        ahead = λ t c. elim (cases_eq t.to node) [
          | inl e ↦ inr (inl (subst (λ (k : ℕ). Contains (pending ++ node ∷ []) k) (sym e) (Contains-push pending node)))
          | inr o ↦ inl (subst (λ (m : Need). IsLess m (need_at (slice_set needs node (looked flow needs node)) node)) (sym (same_before flow needs (slice_set needs node (looked flow needs node)) node t (need_other needs node t.to (looked flow needs node) o)))
              (subst (λ (n : Need). IsLess (before_at flow needs node t) n) (sym (need_same needs node (looked flow needs node) g.0)) (looked_ahead flow needs node t c)))
        ];
      }))

  -- another node misses nothing new but what is pending
  elsewhere : (new : List Need) (more : List ℕ) → Visits flow node needs pending new more → (j : ℕ) → j ≢ node → IsClosedBut flow needs pending Except j → IsClosedBut flow new more Except j
  elsewhere new more (inl s) j o b = subst (λ (l : List Need). IsClosedBut flow l more Except j) (sym s.0) (subst (λ (l : List ℕ). IsClosedBut flow needs l Except j) (sym s.1) b)
  elsewhere new more (inr g) j o b =
      let new_needs = slice_set needs node (looked flow needs node) in
      let same = need_other needs node j (looked flow needs node) o in
      subst (λ (l : List Need). IsClosedBut flow l more Except j) (sym g.1)
      (subst (λ (l : List ℕ). IsClosedBut flow new_needs l Except j) (sym g.2) (record {
        own = subst (λ (n : Need). IsLess (own_need flow j) n) (sym same) b.own;
        ahead = λ t c. elim (b.ahead t c) [
          | inl less ↦ elim (cases_eq t.to node) [
            | inl e ↦ inr (inl (subst (λ (k : ℕ). Contains (pending ++ node ∷ []) k) (sym e) (Contains-push pending node)))
            | inr p ↦ inl (subst (λ (n : Need). IsLess (before_at flow new_needs j t) n) (sym same) (subst (λ (m : Need). IsLess m (need_at needs j)) (sym (same_before flow needs new_needs j t (need_other needs node t.to (looked flow needs node) p))) less))
          ]
          | inr q ↦ elim q [ inl w ↦ inr (inl (Contains-append_left pending (node ∷ []) t.to w)) | inr x ↦ inr (inr x) ]
        ];
      }))

-- ---- looks at several nodes

module _ (flow : Flow) where
  pub spreads_more : (ks : List ℕ) (k : ℕ) (needs : List Need) (pending : List ℕ) (m : List Need) (q : List ℕ) (new : List Need) (more : List ℕ) → Spreads flow ks needs pending m q → Visits flow k m q new more → Spreads flow (ks ++ k ∷ []) needs pending new more
  spreads_more [] k needs pending m q new more s v =
      (new, more, subst (λ (l : List Need). Visits flow k l pending new more) s.0 (subst (λ (l : List ℕ). Visits flow k m l new more) s.1 v), (refl, refl))
  spreads_more (j ∷ ks) k needs pending m q new more s v = (s.0, s.1, s.2, spreads_more ks k s.0 s.1 m q new more s.3 v)

  pub spreads_long : (ks : List ℕ) (needs : List Need) (pending : List ℕ) (new : List Need) (more : List ℕ) → Spreads flow ks needs pending new more → length new ≡ length needs
  spreads_long [] needs pending new more s = ap (λ (l : List Need). length l) s.0
  spreads_long (k ∷ ks) needs pending new more s = spreads_long ks s.0 s.1 new more s.3 ∙ visit_long flow k needs pending s.0 s.1 s.2

module _ (flow : Flow) (is : IsFlow flow) where
  pub spreads_needed : (ks : List ℕ) (needs : List Need) (pending : List ℕ) (new : List Need) (more : List ℕ) → Spreads flow ks needs pending new more → AreNeeded flow needs → AreNeeded flow new
  spreads_needed [] needs pending new more s n = subst (λ (l : List Need). AreNeeded flow l) (sym s.0) n
  spreads_needed (k ∷ ks) needs pending new more s n = spreads_needed ks s.0 s.1 new more s.3 (visit_needed flow is k needs pending s.0 s.1 s.2 n)

  spreads_work : (ks : List ℕ) (needs : List Need) (pending : List ℕ) (new : List Need) (more : List ℕ) → Spreads flow ks needs pending new more → work new more ≤ work needs pending
  spreads_work [] needs pending new more s = let a = ap spare s.0 in let b = ap (λ (l : List ℕ). length l) s.1 in omega arith
  spreads_work (k ∷ ks) needs pending new more s = let a = visit_work flow k needs pending s.0 s.1 s.2 in let b = spreads_work ks s.0 s.1 new more s.3 in omega arith

  pub spreads_low : (ks : List ℕ) (needs : List Need) (pending : List ℕ) (new : List Need) (more : List ℕ) → Spreads flow ks needs pending new more → (n : ℕ) → n ≡ length needs → ((k : ℕ) → Contains pending k → k < n) → (k : ℕ) → Contains more k → k < n
  spreads_low [] needs pending new more s n e low k c = low k (subst (λ (l : List ℕ). Contains l k) s.1 c)
  spreads_low (j ∷ ks) needs pending new more s n e low k c =
      spreads_low ks s.0 s.1 new more s.3 n (e ∙ sym (visit_long flow j needs pending s.0 s.1 s.2))
      (λ i d. elim (visit_low flow j needs pending s.0 s.1 s.2 i d) [ inl o ↦ low i o | inr h ↦ omega (arith, h, e) ]) k c

  -- the nodes that lead to m, as far as they are not looked at
  abbrev Excepted : ℕ → List ℕ → ℕ → ℕ → Type 0
  Excepted m ks node to = (to ≡ m) × Contains ks node

  but_fewer : (m k : ℕ) (ks : List ℕ) (needs : List Need) (pending : List ℕ) (j : ℕ) → j ≢ k → IsClosedBut flow needs pending (Excepted m (k ∷ ks)) j → IsClosedBut flow needs pending (Excepted m ks) j
  but_fewer m k ks needs pending j o b = record {
    own = b.own;
    ahead = λ t c. elim (b.ahead t c) [
      | inl l ↦ inl l
      | inr q ↦ elim q [ inl w ↦ inr (inl w) | inr x ↦ elim (first_or_later k ks j x.1) [ inl e ↦ absurd (o (sym e)) | inr r ↦ inr (inr (x.0, r)) ] ]
    ];
  }

  spreads_closed : (m : ℕ) (ks : List ℕ) (needs : List Need) (pending : List ℕ) (new : List Need) (more : List ℕ) → Spreads flow ks needs pending new more → length needs ≡ length flow.nodes
      → ((j : ℕ) → IsClosedBut flow needs pending (Excepted m ks) j) → (j : ℕ) → IsClosedBut flow new more (Excepted m []) j
  spreads_closed m [] needs pending new more s long b j =
      subst (λ (l : List Need). IsClosedBut flow l more (Excepted m []) j) (sym s.0) (subst (λ (l : List ℕ). IsClosedBut flow needs l (Excepted m []) j) (sym s.1) (b j))
  spreads_closed m (k ∷ ks) needs pending new more s long b i =
      spreads_closed m ks s.0 s.1 new more s.3 (visit_long flow k needs pending s.0 s.1 s.2 ∙ long)
      (λ j. elim (cases_eq j k) [
        | inl e ↦ subst (λ (i : ℕ). IsClosedBut flow s.0 s.1 (Excepted m ks) i) (sym e) (here flow k needs pending (Excepted m ks) s.0 s.1 long s.2)
        | inr o ↦ elsewhere flow k needs pending (Excepted m ks) s.0 s.1 s.2 j o (but_fewer m k ks needs pending j o (b j))
      ]) i

  -- a node is no longer pending, but its row is
  taken_out : (prev : List (List ℕ)) (needs : List Need) (rest : List ℕ) (m : ℕ) → IsBackwardOf flow.nodes prev → IsSettling flow needs (rest ++ m ∷ []) → (j : ℕ) → IsClosedBut flow needs rest (Excepted m (row_of prev m)) j
  taken_out prev needs rest m back s j =
      let b = s.closed j in
      record {
        own = b.own;
        ahead = λ t c. elim (b.ahead t c) [
          | inl l ↦ inl l
          | inr q ↦ elim q [
            | inl w ↦ elim (Contains-push_cases rest m t.to w) [
              | inl o ↦ inr (inl o)
              | inr e ↦ (let low = s.low m (Contains-push rest m) in let long = s.long in
                  inr (inr (sym e, subst (λ (k : ℕ). Contains (row_of prev k) j) (sym e) (back.has j t c (omega (arith, low, long, back.wide, e))))))
            ]
            | inr x ↦ absurd x
          ]
        ];
      }

  no_exceptions : (m : ℕ) (needs : List Need) (pending : List ℕ) (j : ℕ) → IsClosedBut flow needs pending (Excepted m []) j → IsClosedBut flow needs pending NoException j
  no_exceptions m needs pending j b = record {
    own = b.own;
    ahead = λ t c. elim (b.ahead t c) [ inl l ↦ inl l | inr q ↦ elim q [ inl w ↦ inr (inl w) | inr x ↦ absurd (let low = x.1.1 in omega arith) ] ];
  }

  pub settling_next : (prev : List (List ℕ)) (needs : List Need) (rest : List ℕ) (m : ℕ) (new : List Need) (more : List ℕ) → IsBackwardOf flow.nodes prev
      → IsSettling flow needs (rest ++ m ∷ []) → Spreads flow (row_of prev m) needs rest new more → IsSettling flow new more × (work new more < work needs (rest ++ m ∷ []))
  settling_next prev needs rest m new more back s r = (
    record {
      needed = spreads_needed (row_of prev m) needs rest new more r s.needed;
      long = spreads_long flow (row_of prev m) needs rest new more r ∙ s.long;
      low = (let e = spreads_long flow (row_of prev m) needs rest new more r in λ k c. (let h = spreads_low (row_of prev m) needs rest new more r (length needs) refl (λ i d. s.low i (Contains-append_left rest (m ∷ []) i d)) k c in omega (arith, h, e)));
      closed = λ j. no_exceptions m new more j (spreads_closed m (row_of prev m) needs rest new more r s.long (taken_out prev needs rest m back s) j);
    },
    (let a = spreads_work (row_of prev m) needs rest new more r in let b = length_push rest m in omega arith),
  )

  pub settled : (needs : List Need) → IsSettling flow needs [] → IsClosed flow needs
  settled needs s j = record {
    own = (s.closed j).own;
    ahead = λ t c. elim ((s.closed j).ahead t c) [ inl l ↦ l | inr q ↦ elim q [ inl w ↦ absurd (let low = w.1 in omega arith) | inr x ↦ absurd x ] ];
  }

  -- ---- the first look at each node, from the last to the first

  pub first_start : (needs : List Need) (pending : List ℕ) → AreNeeded flow needs → length needs ≡ length flow.nodes → ((k : ℕ) → Contains pending k → k < length needs) → FirstLooks flow needs pending 0
  first_start needs pending needed long low = record { needed = needed; long = long; low = low; closed = λ node h. closed_past flow needs pending NoException node (omega arith) }

  pub first_next : (needs : List Need) (pending : List ℕ) (i node : ℕ) (new : List Need) (more : List ℕ) → node + i + 1 ≡ length flow.nodes → FirstLooks flow needs pending i → Visits flow node needs pending new more → FirstLooks flow new more (i + 1)
  first_next needs pending i node new more at f v =
      let same = visit_long flow node needs pending new more v in
      record {
        needed = visit_needed flow is node needs pending new more v f.needed;
        long = same ∙ f.long;
        low = λ k c. elim (visit_low flow node needs pending new more v k c) [ inl o ↦ (let h = f.low k o in omega (arith, h, same)) | inr h ↦ omega (arith, h, same) ];
        closed = λ j h. elim (cases_eq j node) [
          | inl e ↦ subst (λ (k : ℕ). IsClosedBut flow new more NoException k) (sym e) (here flow node needs pending NoException new more f.long v)
          | inr o ↦ elsewhere flow node needs pending NoException new more v j o (f.closed j (omega arith))
        ];
      }

  pub first_done : (needs : List Need) (pending : List ℕ) (i : ℕ) → length flow.nodes ≤ i → FirstLooks flow needs pending i → IsSettling flow needs pending
  first_done needs pending i h f = record { needed = f.needed; long = f.long; low = f.low; closed = λ node. f.closed node (omega arith) }

-- ---- nodes that lead to others

pub note_out : (node : ℕ) (s : Step) (prev : List (List ℕ)) → length prev ≤ s.to → Notes node (s ∷ []) prev prev
note_out node s prev high = record {
  long = refl;
  keeps = λ i k c. c;
  has = λ t c low. absurd (let e : s.to ≡ t.to = only t c in omega arith);
}
  where
    only : (t : Step) → Contains (s ∷ []) t → s.to ≡ t.to
    only t c = elim (first_or_later s [] t c) [ inl e ↦ ap (λ (x : Step). x.to) e | inr d ↦ absurd (let low = d.1 in omega arith) ]

pub note_in : (node : ℕ) (s : Step) (prev : List (List ℕ)) → s.to < length prev → Notes node (s ∷ []) prev (slice_set prev s.to (row_of prev s.to ++ node ∷ []))
note_in node s prev low = record {
  long = length-set prev s.to (row_of prev s.to ++ node ∷ []);
  keeps = λ i k c. elim (cases_eq i s.to) [
    | inl e ↦ subst (λ (r : List ℕ). Contains r k) (sym (ap (row_of (slice_set prev s.to (row_of prev s.to ++ node ∷ []))) e ∙ get_or-set_same prev s.to (row_of prev s.to ++ node ∷ []) [] low))
        (Contains-append_left (row_of prev s.to) (node ∷ []) k (subst (λ (j : ℕ). Contains (row_of prev j) k) e c))
    | inr o ↦ subst (λ (r : List ℕ). Contains r k) (sym (get_or-set_other prev s.to i (row_of prev s.to ++ node ∷ []) [] o)) c
  ];
  has = λ t c within. (let e : t.to ≡ s.to = sym (only t c) in
      subst (λ (r : List ℕ). Contains r node) (sym (ap (row_of (slice_set prev s.to (row_of prev s.to ++ node ∷ []))) e ∙ get_or-set_same prev s.to (row_of prev s.to ++ node ∷ []) [] low))
      (Contains-push (row_of prev s.to) node));
}
  where
    only : (t : Step) → Contains (s ∷ []) t → s.to ≡ t.to
    only t c = elim (first_or_later s [] t c) [ inl e ↦ ap (λ (x : Step). x.to) e | inr d ↦ absurd (let low = d.1 in omega arith) ]

pub note_none : (node : ℕ) (prev : List (List ℕ)) → Notes node [] prev prev
note_none node prev = record { long = refl; keeps = λ i k c. c; has = λ t c low. absurd (let h = c.1 in omega arith) }

pub note_more : (node : ℕ) (ss : List Step) (s : Step) (prev m new : List (List ℕ)) → Notes node ss prev m → Notes node (s ∷ []) m new → Notes node (ss ++ s ∷ []) prev new
note_more node ss s prev m new a b = record {
  long = b.long ∙ a.long;
  keeps = λ i k c. b.keeps i k (a.keeps i k c);
  has = λ t c low. elim (Contains-push_cases ss s t c) [
    | inl o ↦ b.keeps t.to node (a.has t o low)
    | inr e ↦ b.has t (subst (λ (x : Step). Contains (s ∷ []) x) e (here_one s)) (let l = a.long in omega (arith, low, l))
  ];
}
  where
    here_one : (s : Step) → Contains (s ∷ []) s
    here_one s = (zero, omega arith, refl)

-- the first i nodes are noted
pub record Noted (nodes : List Node) (prev : List (List ℕ)) (i : ℕ) : Type 0 where
  pub wide : length prev ≡ length nodes
  pub has : (node : ℕ) (s : Step) → node < i → Contains (steps_of (slice_get nodes node)) s → s.to < length prev → Contains (row_of prev s.to) node

pub noted_next : (nodes : List Node) (prev new : List (List ℕ)) (i : ℕ) (steps : List Step) → Noted nodes prev i → steps ≡ steps_of (slice_get nodes i) → Notes i steps prev new → Noted nodes new (i + 1)
noted_next nodes prev new i steps n e s = record {
  wide = s.long ∙ n.wide;
  has = λ node t low c within. (let l = s.long in elim (cases_eq node i) [
    | inl same ↦ subst (λ (k : ℕ). Contains (row_of new t.to) k) (sym same) (s.has t (subst (λ (q : List Step). Contains q t) (sym e) (subst (λ (k : ℕ). Contains (steps_of (slice_get nodes k)) t) same c)) (omega (arith, within, l)))
    | inr o ↦ s.keeps t.to node (n.has node t (omega (arith, low, o)) c (omega (arith, within, l)))
  ]);
}

pub noted_all : (nodes : List Node) (prev : List (List ℕ)) (i : ℕ) → length nodes ≤ i → Noted nodes prev i → IsBackwardOf nodes prev
noted_all nodes prev i high n = record {
  wide = n.wide;
  has = λ node t c within. elim (cases_lt node (length nodes)) [
    | inl low ↦ n.has node t (omega arith) c within
    | inr past ↦ absurd (no_step t (subst (λ (o : Option Node). Contains (steps_of o) t) (slice_get_past nodes node past) c))
  ];
}
  where
    no_step : (s : Step) → Contains [] s → ⊥
    no_step s c = let low = c.1 in omega arith
