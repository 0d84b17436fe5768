-- The test of a table is whether the names of what is mentioned are there.
use Rattle.std.proofs.Common.{◌≡◌, ℕ, zero, suc, Bool, true, false, ◌&&◌, List, [], ◌∷◌, Option, map, refl, ap, subst, ◌∙◌}
use Rattle.std.specs.List.{list_all}
use Rattle.std.proofs.lemmas.Bool.{and_from}
use Rattle.ir_code.specs.Constants.{IsKnown}
use Rattle.ir_code.specs.Known.{AreKnown, knows, knows_each, knows_mention, knows_all}
use Rattle.ir_code.specs.Laws.{KnownMentionsHaveNames}
use Rattle.ir_code.specs.Mentions.{Mention, Named, Literal}
use Rattle.laid_terms.specs.Named.{IsNamed, AreNamed}
use Rattle.term_tree.proofs.CompareLaws.{tree_of-List}
use Rattle.term_tree.proofs.TermLaws.{tree_of-Tuple, both_hold}
use Rattle.term_tree.specs.declared.term.Term as t
use Rattle.term_tree.specs.declared.term.Term.{Term}
use Rattle.term_tree.specs.Term.{tree_of, end_tree}
use Rattle.term_tree.specs.Tree as u
use Rattle.term_tree.specs.Tree.{Tree, conses, trees_of}

-- ---- the terms of a list and of a tuple

one_by_one : (a b c : Bool) → a && (b && c) ≡ (a && b) && c
one_by_one true b c = refl
one_by_one false b c = refl

knows-conses : (names : List (List ℕ)) (vs : List Tree) (end : Tree) → knows names (conses vs end) ≡ list_all (knows names) vs && knows names end
knows-conses names [] end = refl
knows-conses names (v ∷ vs) end = ap (λ b. knows names v && b) (knows-conses names vs end) ∙ one_by_one (knows names v) (list_all (knows names) vs) (knows names end)

knows-trees : (names : List (List ℕ)) (vs : List Tree) → knows_each names (trees_of vs) ≡ list_all (knows names) vs
knows-trees names [] = refl
knows-trees names (v ∷ vs) = ap (λ b. knows names v && b) (knows-trees names vs)

pub knows-List : (names : List (List ℕ)) (xs : List Term) (end : Option Term) → knows names (tree_of (t.List xs end)) ≡ list_all (knows names) (map tree_of xs) && knows names (end_tree end)
knows-List names xs end = ap (knows names) (tree_of-List xs end) ∙ knows-conses names (map tree_of xs) (end_tree end)

pub knows-Tuple : (names : List (List ℕ)) (xs : List Term) → knows names (tree_of (t.Tuple xs)) ≡ list_all (knows names) (map tree_of xs)
knows-Tuple names xs = ap (knows names) (tree_of-Tuple xs) ∙ knows-trees names (map tree_of xs)

-- ---- what the test says

module _ (names : List (List ℕ)) where
  mutual
    named : (v : Tree) → knows names v ≡ true → IsNamed names v
    named (u.Int i) e = tt
    named (u.Atom a) e = e
    named u.Nil e = tt
    named (u.Cons head tail) e = let b = both_hold (knows names head) (knows names tail) e in (named head b.0, named tail b.1)
    named (u.Tuple vs) e = each_named vs e

    each_named : (vs : u.Trees) → knows_each names vs ≡ true → AreNamed names vs
    each_named u.No e = tt
    each_named (u.More v vs) e = let b = both_hold (knows names v) (knows_each names vs) e in (named v b.0, each_named vs b.1)

  mutual
    tested : (v : Tree) → IsNamed names v → knows names v ≡ true
    tested (u.Int i) is = refl
    tested (u.Atom a) is = is
    tested u.Nil is = refl
    tested (u.Cons head tail) is = and_from (knows names head) (knows names tail) (tested head is.0) (tested tail is.1)
    tested (u.Tuple vs) is = each_tested vs is

    each_tested : (vs : u.Trees) → AreNamed names vs → knows_each names vs ≡ true
    each_tested u.No is = refl
    each_tested (u.More v vs) is = and_from (knows names v) (knows_each names vs) (tested v is.0) (each_tested vs is.1)

  mention_known : (m : Mention) → knows_mention names m ≡ true → IsKnown names m
  mention_known (Named a) e = e
  mention_known (Literal v) e = named v e

  mention_tested : (m : Mention) → IsKnown names m → knows_mention names m ≡ true
  mention_tested (Named a) is = is
  mention_tested (Literal v) is = tested v is

  all_known : (all : List Mention) → knows_all names all ≡ true → AreKnown names all
  all_known [] e k m there = absurd cc
  all_known (x ∷ all) e zero m there =
      let b = both_hold (knows_mention names x) (knows_all names all) e in
      let same : x ≡ m = cc in
      subst (IsKnown names) same (mention_known x b.0)
  all_known (x ∷ all) e (suc k) m there =
      let b = both_hold (knows_mention names x) (knows_all names all) e in
      all_known all b.1 k m there

  all_tested : (all : List Mention) → AreKnown names all → knows_all names all ≡ true
  all_tested [] is = refl
  all_tested (x ∷ all) is = and_from (knows_mention names x) (knows_all names all) (mention_tested x (is 0 x refl)) (all_tested all (λ k m there. is (suc k) m there))

pub known_mentions_have_names : KnownMentionsHaveNames
known_mentions_have_names names all = (all_known names all, all_tested names all)
