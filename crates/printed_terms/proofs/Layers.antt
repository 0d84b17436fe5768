-- The depth of a term and the names in it, by what the term is made of.
use Rattle.std.proofs.Common.{◌≡◌, ℕ, ◌+◌, max, Bool, false, List, map, Some, None, ap, ◌∙◌, ◌&&◌}
use Rattle.std.specs.List.{list_all}
use Rattle.std.proofs.Math.Bool.{and-true}
use Rattle.std.proofs.lemmas.List.Folds.{list_all-map}
use Rattle.term_tree.specs.declared.term.Term as t
use Rattle.term_tree.specs.declared.term.Term.{Term, fold-roll-Term, roll-Term, out-Term, out-roll-Term}
use Rattle.term_tree.specs.declared.term.Term.TheOpen.{Term-F}
use denote.Hole.Carrier.{roll}
use Rattle.term_tree.specs.Term.{is_list}
use Rattle.term_tree.proofs.TermLaws.{term_ind, is_list-List}
use Rattle.text_forms.specs.Spelling.{with_tail, with_layer}
use Rattle.printed_terms.specs.Printable.{has_names, layer_names, depth_of, layer_depth, deepest}
use Rattle.term_tree.specs.Name.{is_name}

pub depth-proper : (all : List Term) → depth_of (t.List all None) ≡ 1 + max (deepest (map depth_of all)) 0
unfolding roll-Term roll
depth-proper all = fold-roll-Term ℕ layer_depth (Term-F.List all None)

pub depth-improper : (all : List Term) (e : Term) → depth_of (t.List all (Some e)) ≡ 1 + max (deepest (map depth_of all)) (depth_of e)
unfolding roll-Term roll
depth-improper all e = fold-roll-Term ℕ layer_depth (Term-F.List all (Some e))

pub depth-Tuple : (all : List Term) → depth_of (t.Tuple all) ≡ 1 + deepest (map depth_of all)
unfolding roll-Term roll
depth-Tuple all = fold-roll-Term ℕ layer_depth (Term-F.Tuple all)

pub names-Atom : (a : List ℕ) → has_names (t.Atom a) ≡ is_name a
unfolding roll-Term roll
names-Atom a = fold-roll-Term Bool layer_names (Term-F.Atom a)

pub names-proper : (all : List Term) → has_names (t.List all None) ≡ list_all has_names all
unfolding roll-Term roll
names-proper all = fold-roll-Term Bool layer_names (Term-F.List all None) ∙ and-true (list_all (λ b. b) (map has_names all)) ∙ list_all-map (λ b. b) has_names all

pub names-improper : (all : List Term) (e : Term) → has_names (t.List all (Some e)) ≡ list_all has_names all && has_names e
unfolding roll-Term roll
names-improper all e = fold-roll-Term Bool layer_names (Term-F.List all (Some e)) ∙ ap (λ b. b && has_names e) (list_all-map (λ b. b) has_names all)

pub names-Tuple : (all : List Term) → has_names (t.Tuple all) ≡ list_all has_names all
unfolding roll-Term roll
names-Tuple all = fold-roll-Term Bool layer_names (Term-F.Tuple all) ∙ list_all-map (λ b. b) has_names all

-- a tail that is no list stays the end
KeepsTail : Term → Type 0
KeepsTail e = (all : List Term) → is_list e ≡ false → with_tail all e ≡ t.List all (Some e)

keeps_tail : (e : Term) → KeepsTail e
unfolding KeepsTail roll-Term roll
keeps_tail = term_ind KeepsTail
    (λ i all h. ap (with_layer all (t.Int i)) (out-roll-Term (Term-F.Int i)))
    (λ a all h. ap (with_layer all (t.Atom a)) (out-roll-Term (Term-F.Atom a)))
    (λ parts all h. let e = is_list-List (map (λ e. e.0) parts) None in absurd (cc))
    (λ parts x p all h. let e = is_list-List (map (λ e. e.0) parts) (Some x) in absurd (cc))
    (λ parts all h. ap (with_layer all (t.Tuple (map (λ e. e.0) parts))) (out-roll-Term (Term-F.Tuple (map (λ e. e.0) parts))))

pub with_tail-end : (all : List Term) (e : Term) → is_list e ≡ false → with_tail all e ≡ t.List all (Some e)
unfolding KeepsTail
with_tail-end all e h = keeps_tail e all h
