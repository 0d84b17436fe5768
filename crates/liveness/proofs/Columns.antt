-- Settled words are the names that are live.
use Rattle.std.proofs.Common.{◌≡◌, ℕ, zero, suc, true, refl, ◌+◌, ◌*◌, ◌/◌, ◌%◌, ◌<◌, ◌≤◌, inl, inr, List, [], ◌∷◌, ◌++◌, get_or, length, map, ap, sym, subst, ◌∙◌, arith, nat_eq, slice_index, eq-eqb}
use Rattle.std.specs.List.{All, Contains}
use Rattle.std.specs.Int.{bit_at}
use Rattle.std.proofs.lemmas.Bool.{cases_eq, cases_lt}
use Rattle.std.proofs.lemmas.Bool.Decides.{nat_tests}
use Rattle.std.proofs.lemmas.List.{length-append}
use Rattle.std.proofs.lemmas.List.Elements.{Contains-get_or}
use Rattle.std.proofs.lemmas.Nat.Bits.{bit_at-lt, bit_at-zero}
use Rattle.liveness.specs.declared.graph.Graph.{Graph}
use Rattle.liveness.specs.declared.graph.Rows.{Rows}
use Rattle.liveness.specs.Live.{IsGraph, IsLive, Leads, list_of}
use Rattle.liveness.specs.Words.{HasBit, LacksBit, word_from}
use Rattle.liveness.specs.Backward.{IsBackward}
use Rattle.liveness.specs.Settling.{Settled, Goes}
use Rattle.liveness.specs.Rows.{IsColumn, AreRowsOf, is_live}
use Rattle.liveness.proofs.Bits.{bits_are}
use Rattle.liveness.proofs.Edges.{all_of, within, list_of-get_or}

abbrev AreWords : ℕ → List (List ℕ) → List ℕ → Type 0
AreWords first lists words = words ≡ map (word_from 0 first) lists

module _ (graph : Graph) (first : ℕ) (prev : List (List ℕ)) (uses writes column : List ℕ) (used : AreWords first graph.uses uses) (written : AreWords first graph.writes writes) (back : IsBackward graph.next prev) where
  lacks_bit : (k : ℕ) → k < 64 → (node : ℕ) → (Contains (list_of graph.writes node) (first + k) → ⊥) → LacksBit writes node k
  lacks_bit k low node out =
      elim (cases_eq (bit_at (slice_index writes node) k) 1) [
        | inl e ↦ absurd (out ((bits_are first graph.writes writes written node k low).0 e))
        | inr ne ↦ (let l = bit_at-lt (slice_index writes node) k in omega arith)
      ]

  to_leads : (k : ℕ) → k < 64 → (node : ℕ) (path : List ℕ) → Goes prev writes uses k node path → Leads graph (first + k) node path
  to_leads k low node [] h = (bits_are first graph.uses uses used node k low).0 h
  to_leads k low node (m ∷ path) h = (
    (back.edges node m).0 h.0,
    λ c. (let has = (bits_are first graph.writes writes written node k low).1 c in let lacks = h.1 in omega arith),
    to_leads k low m path h.2,
  )

  has_of_leads : Settled prev writes uses column → (k : ℕ) → k < 64 → (node : ℕ) (path : List ℕ) → Leads graph (first + k) node path → HasBit column node k
  has_of_leads s k low node [] h = s.kept node k low ((bits_are first graph.uses uses used node k low).1 h)
  has_of_leads s k low node (m ∷ path) h = s.closed node m ((back.edges node m).1 h.0) k low (lacks_bit k low node h.1) (has_of_leads s k low m path h.2)

  pub column_is : Settled prev writes uses column → IsColumn graph first column
  column_is s node k low = (
    λ h. (let p = s.sound node k low h in (p.0, to_leads k low node p.0 p.1)),
    λ l. has_of_leads s k low node l.0 l.1,
  )

-- who leads to a node is a node
pub back_nodes : (next prev : List (List ℕ)) → IsBackward next prev → (n : ℕ) → length next ≡ n → All (All (λ a. a < n)) prev
back_nodes next prev back n long k d low j e within_row =
    let row : List ℕ = get_or prev k d in
    let in_row : Contains row (get_or row j e) = Contains-get_or row j e within_row in
    let in_list : Contains (list_of prev k) (get_or row j e) = subst (λ (l : List ℕ). Contains l (get_or row j e)) (sym (list_of-get_or prev k d low)) in_row in
    let low_node = within next (get_or row j e) k ((back.edges (get_or row j e) k).0 in_list) in
    omega arith

-- the first columns, each for the 64 names after those of the one before
pub record ColumnsTo (graph : Graph) (count : ℕ) (columns : List (List ℕ)) : Type 0 where
  pub long : length columns ≡ count
  pub each : (j : ℕ) → j < length columns → IsColumn graph (j * 64) (list_of columns j)

list_of-push_before : (lists : List (List ℕ)) (list : List ℕ) (j : ℕ) → j < length lists → list_of (lists ++ list ∷ []) j ≡ list_of lists j
list_of-push_before [] list j low = absurd (omega arith)
list_of-push_before (x ∷ xs) list zero low = refl
list_of-push_before (x ∷ xs) list (suc j) low = list_of-push_before xs list j (omega arith)

list_of-push_last : (lists : List (List ℕ)) (list : List ℕ) → list_of (lists ++ list ∷ []) (length lists) ≡ list
list_of-push_last [] list = refl
list_of-push_last (x ∷ xs) list = list_of-push_last xs list

pub one_more_column : (graph : Graph) (count : ℕ) (columns : List (List ℕ)) (column : List ℕ) → ColumnsTo graph count columns → IsColumn graph (count * 64) column → ColumnsTo graph (count + 1) (columns ++ column ∷ [])
one_more_column graph count columns column s is =
    record {
      long = (let more = length-append columns (column ∷ []) in let long = s.long in omega arith);
      each = λ j low. elim (cases_lt j (length columns)) [
        | inl before ↦ subst (λ (l : List ℕ). IsColumn graph (j * 64) l) (sym (list_of-push_before columns column j before)) (s.each j before)
        | inr past ↦
            let more = length-append columns (column ∷ []) in
            let last : j ≡ length columns = omega arith in
            let at : j ≡ count = last ∙ s.long in
            subst (λ (l : List ℕ). IsColumn graph (j * 64) l) (sym (ap (λ i. list_of (columns ++ column ∷ []) i) last ∙ list_of-push_last columns column))
            (subst (λ i. IsColumn graph (i * 64) column) (sym at) is)
      ];
    }

-- a live name is a name of the graph
live_below : (graph : Graph) → IsGraph graph → (name node : ℕ) (path : List ℕ) → Leads graph name node path → name < graph.names
live_below graph ok name node [] h = all_of (λ n. n < graph.names) graph.uses node name ok.used_names h
live_below graph ok name node (m ∷ path) h = live_below graph ok name m path h.2

no_list : (lists : List (List ℕ)) (i : ℕ) → length lists ≤ i → list_of lists i ≡ []
no_list [] i h = refl
no_list (x ∷ xs) zero h = absurd (omega arith)
no_list (x ∷ xs) (suc i) h = no_list xs i (omega arith)

to_eq : (x y : ℕ) → nat_eq x y ≡ true → x ≡ y
to_eq x y t = grind (arith, nat_tests)

pub rows_are : (graph : Graph) (rows : Rows) → IsGraph graph → graph.names ≤ length rows.columns * 64 → ((j : ℕ) → j < length rows.columns → IsColumn graph (j * 64) (list_of rows.columns j)) → AreRowsOf graph rows
unfolding is_live
rows_are graph rows ok enough each node name =
    let block : ℕ = name / 64 in
    let k : ℕ = name % 64 in
    let low : k < 64 = omega arith in
    let at : block * 64 + k ≡ name = omega arith in (
      λ t.
          let bit : HasBit (list_of rows.columns block) node k = to_eq _ _ t in
          elim (cases_lt block (length rows.columns)) [
            | inl inside ↦ subst (λ a. IsLive graph node a) at ((each block inside node k low).0 bit)
            | inr past ↦
                let none : list_of rows.columns block ≡ [] = no_list rows.columns block past in
                let z = bit_at-zero k in
                let e : bit_at 0 k ≡ 1 = sym (ap (λ (c : List ℕ). bit_at (slice_index c node) k) none) ∙ bit in
                absurd (omega arith)
          ],
      λ l.
          let below = live_below graph ok name node l.0 l.1 in
          let inside : block < length rows.columns = omega arith in
          eq-eqb _ _ ((each block inside node k low).1 (subst (λ a. IsLive graph node a) (sym at) l)),
    )
