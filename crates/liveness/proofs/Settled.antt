-- A node that was pending has given what it has.
use Rattle.std.proofs.Common.{◌≡◌, ℕ, ◌+◌, ◌<◌, ◌⊎◌, inl, inr, List, [], ◌∷◌, ◌++◌, length, ap, sym, subst, ◌∙◌, arith, slice_index, refl}
use Rattle.std.specs.List.{All, Contains}
use Rattle.std.specs.Int.{bit_at}
use Rattle.std.proofs.lemmas.Bool.{cases_eq}
use Rattle.std.proofs.lemmas.List.{length-append, get_or_append_left}
use Rattle.std.proofs.lemmas.List.Elements.{All-contains, All-push, Contains-append_left, Contains-push, Contains-push_cases}
use Rattle.liveness.specs.Live.{list_of}
use Rattle.liveness.specs.Words.{HasBit}
use Rattle.liveness.specs.Settling.{Spread, Settled, Goes, TakesFrom}
use Rattle.liveness.proofs.Edges.{within}

-- as `Settled`, but for what pending nodes have still to give
pub record Settling (prev : List (List ℕ)) (writes old column pending : List ℕ) : Type 0 where
  pub long : length column ≡ length old
  pub kept : (a k : ℕ) → k < 64 → HasBit old a k → HasBit column a k
  pub sound : (a k : ℕ) → k < 64 → HasBit column a k → (path : List ℕ) × Goes prev writes old k a path
  pub closing : (a m : ℕ) → Contains (list_of prev m) a → TakesFrom writes column a m ⊎ Contains pending m
  pub nodes : All (λ a. a < length old) pending

pub all_pending : (prev : List (List ℕ)) (writes old pending : List ℕ) → length prev ≡ length old → ((a : ℕ) → a < length old → Contains pending a) → All (λ a. a < length old) pending → Settling prev writes old old pending
all_pending prev writes old pending long each nodes =
    record {
      long = refl;
      kept = λ a k low h. h;
      sound = λ a k low h. ([], h);
      closing = λ a m c. inr (each m (let w = within prev m a c in omega arith));
      nodes = nodes;
    }

-- the nodes below `made` are pending
pub record PendingTo (made most : ℕ) (pending : List ℕ) : Type 0 where
  pub each : (a : ℕ) → a < made → Contains pending a
  pub nodes : All (λ a. a < most) pending

pub one_more_pending : (made most : ℕ) (pending : List ℕ) → made < most → PendingTo made most pending → PendingTo (made + 1) most (pending ++ made ∷ [])
one_more_pending made most pending low p =
    record {
      each = λ a h. elim (cases_eq a made) [
        | inl e ↦ subst (λ i. Contains (pending ++ made ∷ []) i) (sym e) (Contains-push pending made)
        | inr ne ↦ Contains-append_left pending (made ∷ []) a (p.each a (omega arith))
      ];
      nodes = All-push (λ a. a < most) pending made p.nodes low;
    }

-- the last of what is pending is a node
pub last_node : (most : ℕ) (rest : List ℕ) (node : ℕ) → All (λ a. a < most) (rest ++ node ∷ []) → node < most
last_node most rest node all = All-contains (λ a. a < most) (rest ++ node ∷ []) node all (Contains-push rest node)

pub rest_nodes : (most : ℕ) (rest : List ℕ) (node : ℕ) → All (λ a. a < most) (rest ++ node ∷ []) → All (λ a. a < most) rest
rest_nodes most rest node all k d low = let long = length-append rest (node ∷ []) in subst (λ i. i < most) (get_or_append_left rest (node ∷ []) d k low) (all k d (omega arith))

-- a pending node that is taken off is a node
pub popped_low : (prev : List (List ℕ)) (writes old column pending rest : List ℕ) (node : ℕ) → Settling prev writes old column pending → pending ≡ rest ++ node ∷ [] → node < length old
popped_low prev writes old column pending rest node s e = last_node (length old) rest node (subst (λ (l : List ℕ). All (λ a. a < length old) l) e s.nodes)

pub settling_next : (prev : List (List ℕ)) (writes old column rest : List ℕ) (node : ℕ) (new after : List ℕ) → Settling prev writes old column (rest ++ node ∷ []) → Spread (list_of prev node) (slice_index column node) writes column rest new after → Settling prev writes old new after
settling_next prev writes old column rest node new after s t =
    record {
      long = t.long ∙ s.long;
      kept = λ a k low h. t.kept a k low (s.kept a k low h);
      sound = λ a k low h. elim (t.only a k low h) [
        | inl first ↦ s.sound a k low first
        | inr r ↦ (let p = s.sound node k low r.1 in (node ∷ p.0, (r.0, r.2, p.1)))
      ];
      closing = λ a m c. elim (t.told m) [
        | inr p ↦ inr p
        | inl same ↦ elim (s.closing a m c) [
          | inl takes ↦ inl (λ k low lacks h. t.kept a k low (takes k low lacks (sym (ap (λ w. bit_at w k) same) ∙ h)))
          | inr p ↦ elim (Contains-push_cases rest node m p) [
            | inl before ↦ inr (t.pending m before)
            | inr e ↦ inl (λ k low lacks h. t.given a k low (subst (λ i. Contains (list_of prev i) a) (sym e) c) (subst (λ i. HasBit column i k) (sym e) (sym (ap (λ w. bit_at w k) same) ∙ h)) lacks)
          ]
        ]
      ];
      nodes = subst (λ (n : ℕ). All (λ a. a < n) after) s.long (t.nodes (subst (λ (n : ℕ). All (λ a. a < n) rest) (sym s.long) (rest_nodes (length old) rest node s.nodes)));
    }

pub settled : (prev : List (List ℕ)) (writes old column : List ℕ) → Settling prev writes old column [] → Settled prev writes old column
settled prev writes old column s =
    record {
      long = s.long;
      kept = s.kept;
      sound = s.sound;
      closed = λ a m c. elim (s.closing a m c) [ inl takes ↦ takes | inr p ↦ absurd (omega (arith, p.1)) ];
    }

pub nothing_left : (pending : List ℕ) → length pending ≡ 0 → pending ≡ []
nothing_left [] e = refl
nothing_left (x ∷ xs) e = absurd (omega arith)
