-- Tables grow as terms and mentions come in, and lists of terms come in one after the other.
use Rattle.std.proofs.Common.{◌≡◌, ℕ, ◌≤◌, ◌++◌, Bool, true, false, List, [], ◌∷◌, Option, map, length, refl, ap, ◌∙◌, arith, length-append, if◌then◌else◌}
use Rattle.ir_code.specs.Constants.{with_mention, with_mentions}
use Rattle.ir_code.specs.Mentions.{Mention, Named, Literal}
use Rattle.tagged_words.specs.Atoms.{is_among}
use Rattle.tagged_words.specs.Laid.{with_atom, with_atoms, with_all_atoms, with_atoms_of}
use Rattle.term_tree.proofs.CompareLaws.{tree_of-List}
use Rattle.term_tree.proofs.TermLaws.{tree_of-Tuple}
use Rattle.term_tree.specs.declared.term.Term as t
use Rattle.term_tree.specs.declared.term.Term.{Term}
use Rattle.term_tree.specs.Term.{tree_of, end_tree}
use Rattle.term_tree.specs.Tree as u
use Rattle.term_tree.specs.Tree.{Tree, conses, trees_of}

more_if : (b : Bool) (names : List (List ℕ)) (a : List ℕ) → length names ≤ length (if b then names else names ++ a ∷ [])
more_if true names a = omega arith
more_if false names a = omega (arith, length-append names (a ∷ []))

pub more_with : (names : List (List ℕ)) (a : List ℕ) → length names ≤ length (with_atom names a)
more_with names a = more_if (is_among a names) names a

mutual
  pub longer : (names : List (List ℕ)) (v : Tree) → length names ≤ length (with_atoms names v)
  longer names (u.Int i) = omega arith
  longer names (u.Atom a) = more_with names a
  longer names u.Nil = omega arith
  longer names (u.Cons head tail) = let a = longer names head in let b = longer (with_atoms names head) tail in omega arith
  longer names (u.Tuple vs) = all_longer names vs

  pub all_longer : (names : List (List ℕ)) (vs : u.Trees) → length names ≤ length (with_all_atoms names vs)
  all_longer names u.No = omega arith
  all_longer names (u.More v vs) = let a = longer names v in let b = all_longer (with_atoms names v) vs in omega arith

pub row_longer : (names : List (List ℕ)) (vs : List Tree) → length names ≤ length (with_atoms_of names vs)
row_longer names [] = omega arith
row_longer names (v ∷ vs) = let a = longer names v in let b = row_longer (with_atoms names v) vs in omega arith

pub mention_longer : (names : List (List ℕ)) (m : Mention) → length names ≤ length (with_mention names m)
mention_longer names (Named a) = more_with names a
mention_longer names (Literal v) = longer names v

pub mentions_longer : (names : List (List ℕ)) (ms : List Mention) → length names ≤ length (with_mentions names ms)
mentions_longer names [] = omega arith
mentions_longer names (m ∷ ms) = let a = mention_longer names m in let b = mentions_longer (with_mention names m) ms in omega arith

-- ---- the terms of a list and of a tuple

atoms-conses : (names : List (List ℕ)) (vs : List Tree) (end : Tree) → with_atoms names (conses vs end) ≡ with_atoms (with_atoms_of names vs) end
atoms-conses names [] end = refl
atoms-conses names (v ∷ vs) end = atoms-conses (with_atoms names v) vs end

atoms-trees : (names : List (List ℕ)) (vs : List Tree) → with_all_atoms names (trees_of vs) ≡ with_atoms_of names vs
atoms-trees names [] = refl
atoms-trees names (v ∷ vs) = atoms-trees (with_atoms names v) vs

pub atoms-List : (names : List (List ℕ)) (xs : List Term) (end : Option Term) → with_atoms names (tree_of (t.List xs end)) ≡ with_atoms (with_atoms_of names (map tree_of xs)) (end_tree end)
atoms-List names xs end = ap (with_atoms names) (tree_of-List xs end) ∙ atoms-conses names (map tree_of xs) (end_tree end)

pub atoms-Tuple : (names : List (List ℕ)) (xs : List Term) → with_atoms names (tree_of (t.Tuple xs)) ≡ with_atoms_of names (map tree_of xs)
atoms-Tuple names xs = ap (with_atoms names) (tree_of-Tuple xs) ∙ atoms-trees names (map tree_of xs)
