-- Ranks fall at each move of a path, since no path has as many moves as its function has items; and all paths to an item have one rank there.
use Rattle.std.proofs.Common.{◌≡◌, ℕ, zero, suc, ◌+◌, ◌<◌, ◌≤◌, max, List, [], ◌∷◌, Option, Some, None, Bool, true, false, ◌&&◌, ◌++◌, length, nat_lt, slice_get, inl, inr, refl, ap, subst, sym, ◌∙◌, arith, if◌then◌else◌}
use Rattle.std.specs.List.{Contains}
use Rattle.paths.proofs.Tests.{first_or_later, here, later}
use Rattle.paths.specs.Paths.{Free, Graph}
use Rattle.beam_code.specs.declared.module.Module.{Module}
use Rattle.beam_code.specs.declared.module.Function.{Function}
use Rattle.beam_code.specs.Function.{Placed, function_at, label_in}
use Rattle.beam_code.specs.Gates.{may_raise}
use Rattle.beam_code.specs.Lined.{Lined}
use Rattle.beam_code.specs.Shape.{Shape, shape_of}
use Rattle.beam_code.specs.Uses.{shape_goes_on}
use Rattle.path_rules.specs.declared.tag.Tag.{Tag}
use Rattle.path_rules.specs.declared.tag.TagKind.{TagKind}
use Rattle.path_rules.specs.Points.{Point, at_handler, at_item, at_labels, behind, graph, handlers, labels_of, moves_at, moves_of, onward}
use Rattle.path_rules.specs.Tags.{lowest_tag}
use Rattle.run_laws.proofs.Local.{keeps, short}
use Rattle.run_laws.specs.Formed.{AreChecked}
use Rattle.run_laws.specs.Ranks.{RanksAreOfItems, RanksFall, most_by, rank}

most_there : {P : Type 0} (number : P → ℕ) (ps : List P) (p : P) → Contains ps p → number p ≤ most_by number ps
most_there number [] p c = let low = c.1 in absurd (omega arith)
most_there number (q ∷ ps) p c = elim (first_or_later q ps p c) [
  | inl e ↦ (let same : number q ≡ number p = ap number e in omega arith)
  | inr more ↦ (let rest = most_there number ps p more in omega arith)
]

most_same : {P : Type 0} (a b : P → ℕ) (ps : List P) → ((p : P) → Contains ps p → a p ≡ b p) → most_by a ps ≡ most_by b ps
most_same a b [] same = refl
most_same a b (p ∷ ps) same =
    ap (λ n. max n (most_by a ps)) (same p (here p ps p refl)) ∙ ap (max (b p)) (most_same a b ps (λ q c. same q (later p ps q c)))

most_none : {P : Type 0} (a : P → ℕ) (ps : List P) → ((p : P) → Contains ps p → ⊥) → most_by a ps ≡ 0
most_none a [] none = refl
most_none a (p ∷ ps) none = absurd (none p (here p ps p refl))

module _ (ms : List Module) (checked : AreChecked ms) (function : ℕ) (f : Placed) (is : function_at ms function ≡ Some f) where
  abbrev g : Graph Point
  g = graph ms f.function

  -- with rounds enough for what is left of the items one more changes nothing
  stands : (m n : ℕ) (p : Point) → Free g n p → length f.function.items ≤ n + m + 1 → rank g m p ≡ rank g (suc m) p
  stands zero n p free enough =
      sym (most_none (λ q. 1 + rank g 0 q) (g.moves p) (λ q c. (let low = short ms 0 checked function f is (suc n) q (p, free, c) in omega arith)))
  stands (suc m) n p free enough =
      most_same (λ q. 1 + rank g m q) (λ q. 1 + rank g (suc m) q) (g.moves p) (λ q c. ap (λ k. 1 + k) (stands m (suc n) q (p, free, c) (omega arith)))

  pub falls : (n : ℕ) (p q : Point) → Free g n p → Contains (g.moves p) q → rank g (length f.function.items) q < rank g (length f.function.items) p
  falls n p q free c =
      let still = stands (length f.function.items) n p free (omega arith) in
      let most = most_there (λ q. 1 + rank g (length f.function.items) q) (g.moves p) q c in
      omega arith

pub ranks_fall : RanksFall
ranks_fall ms function f checked is n p q free c = falls ms checked function f is n p q free c

-- ---- what two paths to one item go on to is at the same items

abbrev Paired : List Point → List Point → Type 0
Paired [] [] = Unit {0}
Paired (p ∷ ps) (q ∷ qs) = (p.item ≡ q.item) × Paired ps qs
Paired ps qs = ⊥

most_paired : (number : Point → ℕ) (ps qs : List Point) → Paired ps qs → ((p q : Point) → Contains ps p → Contains qs q → p.item ≡ q.item → number p ≡ number q) → most_by number ps ≡ most_by number qs
most_paired number [] [] pairs same = refl
most_paired number (p ∷ ps) (q ∷ qs) pairs same =
    ap (λ n. max n (most_by number ps)) (same p q (here p ps p refl) (here q qs q refl) pairs.0)
    ∙ ap (max (number q)) (most_paired number ps qs pairs.1 (λ x y c d e. same x y (later p ps x c) (later q qs y d) e))
most_paired number [] (q ∷ qs) pairs same = absurd pairs
most_paired number (p ∷ ps) [] pairs same = absurd pairs

both : (ps qs rs ss : List Point) → Paired ps qs → Paired rs ss → Paired (ps ++ rs) (qs ++ ss)
both [] [] rs ss a b = b
both (p ∷ ps) (q ∷ qs) rs ss a b = (a.0, both ps qs rs ss a.1 b)
both [] (q ∷ qs) rs ss a b = absurd a
both (p ∷ ps) [] rs ss a b = absurd a

where_so : (b : Bool) (ps qs : List Point) → Paired ps qs → Paired (if b then ps else []) (if b then qs else [])
where_so true ps qs a = a
where_so false ps qs a = tt

module _ (ms : List Module) (f : Function) (p q : Point) (item : p.item ≡ q.item) (tags : p.tags ≡ q.tags) where
  to_item : (o : Option ℕ) → Paired (at_item p o) (at_item q o)
  to_item None = tt
  to_item (Some i) = (refl, tt)

  to_labels : (labels : List ℕ) → Paired (at_labels f p labels) (at_labels f q labels)
  to_labels [] = tt
  to_labels (label ∷ labels) = both (at_item p (label_in f label)) (at_item q (label_in f label)) (at_labels f p labels) (at_labels f q labels) (to_item (label_in f label)) (to_labels labels)

  at_one : (kind : TagKind) (o : Option ℕ) → Paired (at_handler p kind o) (at_handler q kind o)
  at_one kind None = tt
  at_one kind (Some i) = (refl, tt)

  to_handler : (o : Option Tag) → Paired (handlers f p o) (handlers f q o)
  to_handler None = tt
  to_handler (Some t) = at_one t.kind (label_in f t.label)

  paired : (shape : Shape) → Paired (moves_of ms f p shape) (moves_of ms f q shape)
  paired shape =
      both (onward f shape p) (onward f shape q) _ _
      (subst (λ k. Paired (onward f shape p) (if shape_goes_on shape && nat_lt (k + 1) (length f.items) then behind shape q ∷ [] else [])) item
      (where_so (shape_goes_on shape && nat_lt (p.item + 1) (length f.items)) (behind shape p ∷ []) (behind shape q ∷ []) (ap (λ k. k + 1) item, tt)))
      (both (at_labels f p (labels_of shape)) (at_labels f q (labels_of shape)) _ _ (to_labels (labels_of shape))
      (where_so (may_raise ms shape) (handlers f p (lowest_tag p.tags)) (handlers f q (lowest_tag q.tags)) (subst (λ ts. Paired (handlers f p (lowest_tag p.tags)) (handlers f q (lowest_tag ts))) tags (to_handler (lowest_tag p.tags)))))

  paired_at : (o : Option Lined) → Paired (moves_at ms f p o) (moves_at ms f q o)
  paired_at None = tt
  paired_at (Some i) = paired (shape_of i.instr)

pub ranks_are_of_items : RanksAreOfItems
ranks_are_of_items ms function f checked is m n p q free other item = same_rank (length f.function.items) m n p q free other item
  where
    g : Graph Point
    g = graph ms f.function

    same_rank : (k m n : ℕ) (p q : Point) → Free g m p → Free g n q → p.item ≡ q.item → rank g k p ≡ rank g k q
    same_rank zero m n p q free other item = refl
    same_rank (suc k) m n p q free other item =
        let tags = (keeps ms 0 checked function f is).tags m n p q free other item in
        most_paired (λ x. 1 + rank g k x) (g.moves p) (g.moves q)
        (subst (λ i. Paired (g.moves p) (moves_at ms f.function q (slice_get f.function.items i))) item (paired_at ms f.function p q item tags (slice_get f.function.items p.item)))
        (λ x y c d e. ap (λ j. 1 + j) (same_rank k (suc m) (suc n) x y (p, free, c) (q, other, d) e))
