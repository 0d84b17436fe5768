-- A node lies on a cycle exactly where its number is live at one of those to which it leads.
use Rattle.std.proofs.Common.{◌≡◌, ℕ, zero, suc, ◌+◌, ◌<◌, ◌≤◌, inl, inr, ◌↔◌, Bool, true, false, List, [], ◌∷◌, ◌++◌, None, Some, ap, sym, ◌∙◌, subst, refl, arith, length, get_or, ◌||◌}
use Rattle.std.specs.List.{All, Contains, list_any}
use Rattle.std.proofs.lemmas.Bool.{cases_Bool, cases_eq, cases_lt}
use Rattle.std.proofs.lemmas.List.{length_push}
use Rattle.std.proofs.lemmas.List.Elements.{All-contains_itself, All-from_get_or, All-weaker}
use Rattle.std.proofs.lemmas.List.Folds.{list_any_at}
use Rattle.std.proofs.lemmas.Option.{unwrap_or-slice_get}
use Rattle.liveness.specs.declared.graph.Graph.{Graph}
use Rattle.liveness.specs.declared.graph.Rows.{Rows}
use Rattle.liveness.specs.Live.{IsGraph, Leads, list_of}
use Rattle.liveness.specs.Rows.{AreRowsOf, is_live}
use Rattle.cycles.specs.Cycles.{AreWithin, IsLowest, OnCycle, Walk}
use Rattle.cycles.specs.Marked.{AreNone, AreOwn, IsMarked}

row_within : (lists : List (List ℕ)) (a b : ℕ) → Contains (list_of lists a) b → a < length lists
row_within [] a b c = absurd (let low = c.1 in omega arith)
row_within (x ∷ xs) zero b c = omega arith
row_within (x ∷ xs) (suc a) b c = (let r = row_within xs a b c in omega arith)

row_past : (lists : List (List ℕ)) (node : ℕ) → length lists ≤ node → list_of lists node ≡ []
row_past [] node h = refl
row_past (x ∷ xs) zero h = absurd (omega arith)
row_past (x ∷ xs) (suc n) h = row_past xs n (omega arith)

row_before : (lists : List (List ℕ)) (list : List ℕ) (k : ℕ) → k < length lists → list_of (lists ++ list ∷ []) k ≡ list_of lists k
row_before [] list k h = absurd (omega arith)
row_before (x ∷ xs) list zero h = refl
row_before (x ∷ xs) list (suc k) h = row_before xs list k (omega arith)

row_last : (lists : List (List ℕ)) (list : List ℕ) → list_of (lists ++ list ∷ []) (length lists) ≡ list
row_last [] list = refl
row_last (x ∷ xs) list = row_last xs list

pub own_more : (n : ℕ) (uses : List (List ℕ)) (list : List ℕ) → list ≡ n ∷ [] → AreOwn n uses → AreOwn (n + 1) (uses ++ list ∷ [])
own_more n uses list is own = record {
  long = (let a = length_push uses list in let b = own.long in omega arith);
  own = λ k h. elim (cases_lt k n) [
    | inl low ↦ (let b = own.long in row_before uses list k (omega arith) ∙ own.own k low)
    | inr high ↦ (let b = own.long in let e : length uses ≡ k = omega arith in let f : n ≡ k = omega arith in ap (λ i. list_of (uses ++ list ∷ []) i) (sym e) ∙ (row_last uses list ∙ (is ∙ ap (λ i. i ∷ []) f)))
  ];
}

pub none_more : (n : ℕ) (writes : List (List ℕ)) (list : List ℕ) → list ≡ [] → AreNone n writes → AreNone (n + 1) (writes ++ list ∷ [])
none_more n writes list empty none = record {
  long = (let a = length_push writes list in let b = none.long in omega arith);
  none = λ k. elim (cases_lt k (length writes)) [
    | inl low ↦ row_before writes list k low ∙ none.none k
    | inr high ↦ elim (cases_eq k (length writes)) [
      | inl e ↦ ap (λ i. list_of (writes ++ list ∷ []) i) e ∙ (row_last writes list ∙ empty)
      | inr n ↦ row_past (writes ++ list ∷ []) k (let a = length_push writes list in omega arith)
    ]
  ];
}

one : (a b : ℕ) → Contains (a ∷ []) b → a ≡ b
one a b (zero, low, e) = e
one a b (suc k, low, e) = absurd (omega arith)

module _ (graph : Graph) (marked : IsMarked graph.next graph) (within : AreWithin graph.next) where
  pub graph_is : IsGraph graph
  graph_is = record {
    uses = marked.uses.long;
    writes = marked.writes.long;
    next_nodes = rows_all graph.next (λ m. m < length graph.next) (λ a b c. within a b c);
    used_names = rows_all graph.uses (λ m. m < graph.names) (λ a b c. used a b c);
    written_names = rows_all graph.writes (λ m. m < graph.names) (λ a b c. absurd (nothing a b c));
  }
    where
      rows_all : (lists : List (List ℕ)) (P : ℕ → Type 0) → ((a b : ℕ) → Contains (list_of lists a) b → P b) → All (All P) lists
      rows_all lists P each = All-from_get_or (All P) lists [] (λ i low. All-weaker (Contains (get_or lists i [])) P (λ b c. each i b (subst (λ (l : List ℕ). Contains l b) (sym (unwrap_or-slice_get lists i [])) c)) (get_or lists i []) (All-contains_itself (get_or lists i [])))

      used : (a b : ℕ) → Contains (list_of graph.uses a) b → b < graph.names
      used a b c =
          let long = marked.uses.long in
          let low = row_within graph.uses a b c in
          let names = marked.names in
          let e = one a b (subst (λ (l : List ℕ). Contains l b) (marked.uses.own a (omega arith)) c) in
          omega arith

      nothing : (a b : ℕ) → Contains (list_of graph.writes a) b → ⊥
      nothing a b c = (let n = subst (λ (l : List ℕ). Contains l b) (marked.writes.none a) c in let low = n.1 in omega arith)

  to_walk : (b a : ℕ) (path : List ℕ) → Leads graph b a path → Walk graph.next a b path
  to_walk b a [] h = (let low = row_within graph.uses a b h in let long = marked.uses.long in one a b (subst (λ (l : List ℕ). Contains l b) (marked.uses.own a (omega arith)) h))
  to_walk b a (m ∷ path) h = (h.0, to_walk b m path h.2)

  to_leads : (b a : ℕ) (path : List ℕ) → b < length graph.next → Walk graph.next a b path → Leads graph b a path
  to_leads b a [] low w = subst (λ (l : List ℕ). Contains l b) (sym (marked.uses.own a (omega arith))) (0, omega arith, w)
  to_leads b a (m ∷ path) low w =
      (w.0, λ c. (let n = subst (λ (l : List ℕ). Contains l b) (marked.writes.none a) c in let no = n.1 in omega arith), to_leads b m path low w.1)

  module _ (rows : Rows) (are : AreRowsOf graph rows) where
    -- the test of a node is whether it lies on a cycle
    pub cycle_is : (i : ℕ) (list : List ℕ) → list ≡ list_of graph.next i → (list_any (λ m. is_live rows m i) list ≡ true) ↔ OnCycle graph.next i
    cycle_is i list is = (
      λ t. (let m = any_found list t in let l = (are m.0 i).0 m.2 in (m.0, l.0, (subst (λ (q : List ℕ). Contains q m.0) is m.1, to_walk i m.0 l.0 l.1))),
      λ c.
          let d = subst (λ (q : List ℕ). Contains q c.0) (sym is) c.2.0 in
          let live = (are c.0 i).1 (c.1, to_leads i c.0 c.1 (row_within graph.next i c.0 c.2.0) c.2.1) in
          list_any_at (λ m. is_live rows m i) list d.0 c.0 d.1 (ap (λ m. is_live rows m i) d.2 ∙ live),
    )
      where
        any_found : (xs : List ℕ) → list_any (λ m. is_live rows m i) xs ≡ true → (m : ℕ) × Contains xs m × (is_live rows m i ≡ true)
        any_found [] t = cc
        any_found (x ∷ xs) t = elim (cases_Bool (is_live rows x i)) [
          | inl a ↦ (x, (0, omega arith, refl), a)
          | inr f ↦ (let r = any_found xs (sym (ap (λ b. b || list_any (λ m. is_live rows m i) xs) f) ∙ t) in let c = r.1 in (r.0, (suc c.0, (let low = c.1 in omega arith), c.2), r.2))
        ]

    pub found : (i : ℕ) (list : List ℕ) (said : Bool) → list ≡ list_of graph.next i → said ≡ list_any (λ m. is_live rows m i) list → said ≡ true
        → ((k : ℕ) → k < i → OnCycle graph.next k → ⊥) → IsLowest graph.next (Some i)
    found i list said row is t before = record {
      none = λ e. absurd cc;
      some = λ k e. (let same : i ≡ k = cc in (subst (λ q. OnCycle graph.next q) same ((cycle_is i list row).0 (sym is ∙ t)), λ j c. elim (cases_lt j i) [ inl low ↦ absurd (before j low c) | inr high ↦ (omega arith) ]));
    }

    pub not_found : (i : ℕ) (list : List ℕ) (said : Bool) → list ≡ list_of graph.next i → said ≡ list_any (λ m. is_live rows m i) list → said ≡ false
        → ((k : ℕ) → k < i → OnCycle graph.next k → ⊥) → (k : ℕ) → k < i + 1 → OnCycle graph.next k → ⊥
    not_found i list said row is f before k h c = elim (cases_eq k i) [
      | inr n ↦ before k (omega arith) c
      | inl e ↦ (let t : said ≡ true = is ∙ (cycle_is i list row).1 (subst (λ q. OnCycle graph.next q) e c) in cc)
    ]

  pub none_left : ((k : ℕ) → k < graph.names → OnCycle graph.next k → ⊥) → IsLowest graph.next None
  none_left all = record { none = λ e i c. all i (let names = marked.names in let low = row_within graph.next i c.0 c.2.0 in omega arith) c; some = λ i e. absurd cc }
