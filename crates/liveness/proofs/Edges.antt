-- Lists of nodes, and edges turned round.
use Rattle.std.proofs.Common.{◌≡◌, ◌≢◌, ℕ, zero, suc, ◌+◌, ◌<◌, inl, inr, List, [], ◌∷◌, ◌++◌, length, get_or, set, replicate, refl, ap, sym, subst, ◌∙◌, arith, ◌↔◌}
use Rattle.std.specs.List.{All, Contains}
use Rattle.std.proofs.lemmas.Bool.{cases_eq}
use Rattle.std.proofs.lemmas.List.{length-set, length-replicate}
use Rattle.std.proofs.lemmas.List.Elements.{All-head, All-tail, Contains-push, Contains-push_cases, Contains-append_left}
use Rattle.liveness.specs.Live.{list_of}
use Rattle.liveness.specs.Backward.{IsBackward, Adds}

pub list_of-get_or : {A : Type 0} (lists : List (List A)) (i : ℕ) (d : List A) → i < length lists → list_of lists i ≡ get_or lists i d
list_of-get_or [] i d low = absurd (omega arith)
list_of-get_or (x ∷ xs) zero d low = refl
list_of-get_or (x ∷ xs) (suc i) d low = list_of-get_or xs i d (omega arith)

pub list_of-set_same : {A : Type 0} (lists : List (List A)) (i : ℕ) (v : List A) → i < length lists → list_of (set lists i v) i ≡ v
list_of-set_same [] i v low = absurd (omega arith)
list_of-set_same (x ∷ xs) zero v low = refl
list_of-set_same (x ∷ xs) (suc i) v low = list_of-set_same xs i v (omega arith)

pub list_of-set_other : {A : Type 0} (lists : List (List A)) (i j : ℕ) (v : List A) → j ≢ i → list_of (set lists i v) j ≡ list_of lists j
list_of-set_other [] i j v ne = refl
list_of-set_other (x ∷ xs) zero zero v ne = absurd (ne refl)
list_of-set_other (x ∷ xs) zero (suc j) v ne = refl
list_of-set_other (x ∷ xs) (suc i) zero v ne = refl
list_of-set_other (x ∷ xs) (suc i) (suc j) v ne = list_of-set_other xs i j v (λ e. ne (ap suc e))

abbrev none : List ℕ
none = []

list_of-replicate : (n i : ℕ) → list_of (replicate n none) i ≡ none
list_of-replicate zero i = refl
list_of-replicate (suc n) zero = refl
list_of-replicate (suc n) (suc i) = list_of-replicate n i

-- what has an element is a list of a node
pub within : (lists : List (List ℕ)) (node name : ℕ) → Contains (list_of lists node) name → node < length lists
within [] node name c = absurd (omega (arith, c.1))
within (x ∷ xs) zero name c = omega arith
within (x ∷ xs) (suc n) name c = let r = within xs n name c in omega arith

-- what holds of each element of each list
pub all_of : (P : ℕ → Type 0) (lists : List (List ℕ)) (node name : ℕ) → All (All P) lists → Contains (list_of lists node) name → P name
all_of P [] node name all c = absurd (omega (arith, c.1))
all_of P (x ∷ xs) zero name all c = subst P c.2 (All-head (All P) x xs all c.0 name c.1)
all_of P (x ∷ xs) (suc n) name all c = all_of P xs n name (All-tail (All P) x xs all) c

pub none_added : (node : ℕ) (old : List (List ℕ)) → Adds node [] old old
none_added node old = record { long = refl; edges = λ a m. (λ c. inl c, λ h. elim h [ inl c ↦ c | inr t ↦ absurd (omega (arith, t.1.1)) ]) }

pub one_added : (node target : ℕ) (targets : List ℕ) (old now new : List (List ℕ)) → target < length now → new ≡ set now target (list_of now target ++ node ∷ []) → Adds node targets old now → Adds node (targets ++ target ∷ []) old new
one_added node target targets old now new low is added =
    record {
      long = ap length is ∙ length-set now target (list_of now target ++ node ∷ []) ∙ added.long;
      edges = λ a m. elim (cases_eq m target) [
        | inl e ↦
            (let same : list_of new m ≡ list_of now target ++ node ∷ [] = ap (λ ls. list_of ls m) is ∙ (ap (λ i. list_of (set now target (list_of now target ++ node ∷ [])) i) e ∙ list_of-set_same now target (list_of now target ++ node ∷ []) low) in (
              λ c. elim (Contains-push_cases (list_of now target) node a (subst (λ (l : List ℕ). Contains l a) same c)) [
                | inl before ↦ (elim ((added.edges a m).0 (subst (λ i. Contains (list_of now i) a) (sym e) before)) [ inl first ↦ inl first | inr t ↦ inr (t.0, Contains-append_left targets (target ∷ []) m t.1) ])
                | inr it ↦ inr (sym it, subst (λ i. Contains (targets ++ target ∷ []) i) (sym e) (Contains-push targets target))
              ],
              λ h. subst (λ (l : List ℕ). Contains l a) (sym same) (elim h [
                | inl first ↦ Contains-append_left (list_of now target) (node ∷ []) a (subst (λ i. Contains (list_of now i) a) e ((added.edges a m).1 (inl first)))
                | inr t ↦ subst (λ i. Contains (list_of now target ++ node ∷ []) i) (sym t.0) (Contains-push (list_of now target) node)
              ]),
            ))
        | inr ne ↦
            (let same : list_of new m ≡ list_of now m = ap (λ ls. list_of ls m) is ∙ list_of-set_other now target m (list_of now target ++ node ∷ []) ne in (
              λ c. elim ((added.edges a m).0 (subst (λ (l : List ℕ). Contains l a) same c)) [ inl first ↦ inl first | inr t ↦ inr (t.0, Contains-append_left targets (target ∷ []) m t.1) ],
              λ h. subst (λ (l : List ℕ). Contains l a) (sym same) ((added.edges a m).1 (elim h [
                | inl first ↦ inl first
                | inr t ↦ elim (Contains-push_cases targets target m t.1) [ inl c ↦ inr (t.0, c) | inr e ↦ absurd (ne (sym e)) ]
              ])),
            ))
      ];
    }

-- the edges of the nodes below `done`, turned round
pub record BackwardTo (done : ℕ) (next prev : List (List ℕ)) : Type 0 where
  pub long : length prev ≡ length next
  pub edges : (a m : ℕ) → Contains (list_of prev m) a ↔ ((a < done) × Contains (list_of next a) m)

pub no_edges : (next prev : List (List ℕ)) → prev ≡ replicate (length next) none → BackwardTo 0 next prev
no_edges next prev e =
    record {
      long = ap length e ∙ length-replicate (length next) none;
      edges = λ a m. (
        λ c. (let empty : Contains none a = subst (λ (l : List ℕ). Contains l a) (ap (λ ls. list_of ls m) e ∙ list_of-replicate (length next) m) c in absurd (omega (arith, empty.1))),
        λ t. absurd (omega (arith, t.0)),
      );
    }

pub edges_more : (done : ℕ) (next prev new : List (List ℕ)) → BackwardTo done next prev → Adds done (list_of next done) prev new → BackwardTo (done + 1) next new
edges_more done next prev new b added =
    record {
      long = added.long ∙ b.long;
      edges = λ a m. (
        λ c. elim ((added.edges a m).0 c) [
          | inl first ↦ (let t = (b.edges a m).0 first in ((let low = t.0 in omega arith), t.1))
          | inr t ↦ ((let e = t.0 in omega arith), subst (λ i. Contains (list_of next i) m) (sym t.0) t.1)
        ],
        λ t. (added.edges a m).1 (elim (cases_eq a done) [
          | inl e ↦ inr (e, subst (λ i. Contains (list_of next i) m) e t.1)
          | inr ne ↦ inl ((b.edges a m).1 ((let low = t.0 in omega arith), t.1))
        ]),
      );
    }

pub edges_all : (next prev : List (List ℕ)) → BackwardTo (length next) next prev → IsBackward next prev
edges_all next prev b =
    record {
      long = b.long;
      edges = λ a m. (λ c. ((b.edges a m).0 c).1, λ c. (b.edges a m).1 (within next a m c, c));
    }
