-- The equations of `tree_of` and `is_canonical`, and induction over terms.
use Rattle.std.proofs.Common.{◌≡◌, ℕ, ℤ, Bool, true, false, List, [], ◌∷◌, map, length, Option, Some, None, refl, sym, ap, subst, ◌∙◌, arith, ◌&&◌, ◌<◌, nat_lt, not}
use Rattle.std.proofs.lemmas.List.{length-map}
use borrow.Author.Tests.{ltb-true, lt-ltb}
use Rattle.std.specs.List.{list_all}
use Rattle.term_tree.specs.declared.term.Term as t
use Rattle.term_tree.specs.declared.term.Term.{Term, fold-Term, fold-roll-Term, ind-Term, roll-Term}
use Rattle.term_tree.specs.declared.term.Term.TheOpen.{Term-F}
use Rattle.term_tree.specs.Tree as u
use Rattle.term_tree.specs.Small.{is_small}
use Rattle.term_tree.specs.Term.{tree_of, layer_tree, is_canonical, is_list, layer_mark, Mark}
use denote.Hole.Carrier.{roll}

pub tree_of-Int : (i : ℤ) → tree_of (t.Int i) ≡ u.Int i
unfolding roll-Term roll
tree_of-Int i = fold-roll-Term u.Tree layer_tree (Term-F.Int i)

pub tree_of-Atom : (a : List ℕ) → tree_of (t.Atom a) ≡ u.Atom a
unfolding roll-Term roll
tree_of-Atom a = fold-roll-Term u.Tree layer_tree (Term-F.Atom a)

pub tree_of-proper : (all : List Term) → tree_of (t.List all None) ≡ u.conses (map tree_of all) u.Nil
unfolding roll-Term roll
tree_of-proper all = fold-roll-Term u.Tree layer_tree (Term-F.List all None)

pub tree_of-improper : (all : List Term) (e : Term) → tree_of (t.List all (Some e)) ≡ u.conses (map tree_of all) (tree_of e)
unfolding roll-Term roll
tree_of-improper all e = fold-roll-Term u.Tree layer_tree (Term-F.List all (Some e))

pub tree_of-Tuple : (all : List Term) → tree_of (t.Tuple all) ≡ u.Tuple (u.trees_of (map tree_of all))
unfolding roll-Term roll
tree_of-Tuple all = fold-roll-Term u.Tree layer_tree (Term-F.Tuple all)

-- ---- canonical terms

abbrev pub mark_of : Term → Mark
mark_of x = fold-Term Mark layer_mark x

all_fine : (all : List Term) → list_all (λ m. m.fine) (map mark_of all) ≡ list_all is_canonical all
all_fine [] = refl
all_fine (x ∷ xs) = ap (λ b. is_canonical x && b) (all_fine xs)

and_true : (b : Bool) → b && true ≡ b
and_true true = refl
and_true false = refl

-- both of two tests that hold
pub both_hold : (a b : Bool) → a && b ≡ true → (a ≡ true) × (b ≡ true)
both_hold true b h = (refl, h)
both_hold false b h = absurd (cc)

pub not_true : (b : Bool) → not b ≡ true → b ≡ false
not_true true h = absurd (cc)
not_true false h = refl

pub canonical-Int : (i : ℤ) → is_canonical (t.Int i) ≡ is_small i
unfolding roll-Term roll
canonical-Int i = ap (λ m. m.fine) (fold-roll-Term Mark layer_mark (Term-F.Int i))

pub canonical-proper : (all : List Term) → is_canonical (t.List all None) ≡ list_all is_canonical all
unfolding roll-Term roll
canonical-proper all = ap (λ m. m.fine) (fold-roll-Term Mark layer_mark (Term-F.List all None)) ∙ and_true (list_all (λ m. m.fine) (map mark_of all) && true) ∙ and_true (list_all (λ m. m.fine) (map mark_of all)) ∙ all_fine all

pub canonical-Tuple : (all : List Term) → is_canonical (t.Tuple all) ≡ list_all is_canonical all
unfolding roll-Term roll
canonical-Tuple all = ap (λ m. m.fine) (fold-roll-Term Mark layer_mark (Term-F.Tuple all)) ∙ all_fine all

pub record IsImproper (all : List Term) (e : Term) : Type 0 where
  pub front : list_all is_canonical all ≡ true
  pub tail : is_canonical e ≡ true
  pub no_list : is_list e ≡ false
  pub some : 0 < length all

pub canonical-improper : (all : List Term) (e : Term) → is_canonical (t.List all (Some e)) ≡ list_all is_canonical all && (is_canonical e && not (is_list e)) && nat_lt 0 (length all)
unfolding roll-Term roll
canonical-improper all e =
    ap (λ m. m.fine) (fold-roll-Term Mark layer_mark (Term-F.List all (Some e)))
    ∙ ap (λ b. b && (is_canonical e && not (is_list e)) && nat_lt 0 (length (map mark_of all))) (all_fine all)
    ∙ ap (λ n. list_all is_canonical all && (is_canonical e && not (is_list e)) && nat_lt 0 n) (length-map all mark_of)

pub improper_front : (all : List Term) (e : Term) → (all ≡ [] → ⊥) → is_list e ≡ false → is_canonical e ≡ true → is_canonical (t.List all (Some e)) ≡ list_all is_canonical all
improper_front [] e n h k = absurd (n refl)
improper_front (x ∷ all) e n h k =
    canonical-improper (x ∷ all) e
    ∙ ap (λ b. list_all is_canonical (x ∷ all) && (b && not (is_list e)) && nat_lt 0 (length (x ∷ all))) k
    ∙ ap (λ b. list_all is_canonical (x ∷ all) && (true && not b) && nat_lt 0 (length (x ∷ all))) h
    ∙ ap (λ b. list_all is_canonical (x ∷ all) && true && b) (lt-ltb 0 (length (x ∷ all)) (omega arith))
    ∙ and_true (list_all is_canonical (x ∷ all) && true) ∙ and_true (list_all is_canonical (x ∷ all))

pub improper_parts : (all : List Term) (e : Term) → is_canonical (t.List all (Some e)) ≡ true → IsImproper all e
improper_parts all e h =
    let whole = both_hold (list_all is_canonical all && (is_canonical e && not (is_list e))) (nat_lt 0 (length all)) (sym (canonical-improper all e) ∙ h) in
    let parts = both_hold (list_all is_canonical all) (is_canonical e && not (is_list e)) whole.0 in
    let tail = both_hold (is_canonical e) (not (is_list e)) parts.1 in
    record { front = parts.0; tail = tail.0; no_list = not_true (is_list e) tail.1; some = ltb-true 0 (length all) whole.1 }

pub is_list-List : (all : List Term) (tail : Option Term) → is_list (t.List all tail) ≡ true
unfolding roll-Term roll
is_list-List all tail = ap (λ m. m.is_list) (fold-roll-Term Mark layer_mark (Term-F.List all tail))

-- ---- induction

module _ (P : Term → Type 0) (int : (i : ℤ) → P (t.Int i)) (atom : (a : List ℕ) → P (t.Atom a)) (proper : (all : List ((x : Term) × P x)) → P (t.List (map (λ e. e.0) all) None))
    (improper : (all : List ((x : Term) × P x)) (e : Term) → P e → P (t.List (map (λ e. e.0) all) (Some e))) (tuple : (all : List ((x : Term) × P x)) → P (t.Tuple (map (λ e. e.0) all))) where
  by_layer : (y : Term-F ((x : Term) × P x)) → P (roll-Term (t.map-Term ((x : Term) × P x) Term (λ e. e.0) y))
  unfolding roll-Term roll
  by_layer (Term-F.Int i) = int i
  by_layer (Term-F.Atom a) = atom a
  by_layer (Term-F.List all None) = proper all
  by_layer (Term-F.List all (Some e)) = improper all e.0 e.1
  by_layer (Term-F.Tuple all) = tuple all

  pub term_ind : (x : Term) → P x
  term_ind = ind-Term P (λ x y is. subst (λ z. P (roll-Term z)) is (by_layer y))
