-- What makes lists and tuples that can be laid.
use Rattle.std.proofs.Common.{◌≡◌, ℕ, ◌≤◌, List, [], ◌∷◌, All, map, length, Option, refl, subst, sym, true, false, nat_lt, arith}
use Rattle.std.proofs.lemmas.List.Elements.{All-head, All-tail}
use Rattle.hand_words.specs.Fitting.{IsFitting, Fits}
use Rattle.laid_terms.specs.Named.{AreNamed}
use Rattle.term_tree.specs.declared.term.Term as t
use Rattle.term_tree.specs.declared.term.Term.{Term}
use Rattle.term_tree.specs.IsTerm.{AreTerms, most_elements}
use Rattle.std.specs.Str.{IsUtf8}
use Rattle.std.proofs.lemmas.Str.{is_utf8-from_IsUtf8}
use Rattle.std.proofs.lemmas.Bool.Decides.{nat_tests}
use Rattle.term_tree.specs.Name.{is_name, characters_in}
use Rattle.term_tree.specs.declared.name.TheConstants.{MOST_CHARACTERS}
use Rattle.term_tree.specs.Size.{size_of}
use Rattle.term_tree.specs.Term.{tree_of, end_tree}
use Rattle.term_tree.specs.Tree as u
use Rattle.term_tree.specs.Tree.{Tree, conses, trees_of}
use Rattle.term_tree.proofs.CompareLaws.{tree_of-List}
use Rattle.term_tree.proofs.TermLaws.{tree_of-Tuple}

conses_fit : (names : List (List ℕ)) (xs : List Term) (end : Tree) → All (Fits names) xs → IsFitting names end → IsFitting names (conses (map tree_of xs) end)
conses_fit names [] end all fits = fits
conses_fit names (x ∷ xs) end all fits =
    let head : Fits names x = All-head (Fits names) x xs all in
    let rest = conses_fit names xs end (All-tail (Fits names) x xs all) fits in
    record { term = (head.term, rest.term); named = (head.named, rest.named) }

pub list_fits : (names : List (List ℕ)) (xs : List Term) (end : Option Term) → All (Fits names) xs → IsFitting names (end_tree end) → Fits names (t.List xs end)
list_fits names xs end all fits = subst (IsFitting names) (sym (tree_of-List xs end)) (conses_fit names xs (end_tree end) all fits)

are_terms : (names : List (List ℕ)) (xs : List Term) → All (Fits names) xs → AreTerms (trees_of (map tree_of xs)) × AreNamed names (trees_of (map tree_of xs))
are_terms names [] all = (tt, tt)
are_terms names (x ∷ xs) all =
    let head : Fits names x = All-head (Fits names) x xs all in
    let rest = are_terms names xs (All-tail (Fits names) x xs all) in
    ((head.term, rest.0), (head.named, rest.1))

size_same : (xs : List Term) → size_of (trees_of (map tree_of xs)) ≡ length xs
size_same [] = refl
size_same (x ∷ xs) = let rest = size_same xs in omega arith

pub tuple_fits : (names : List (List ℕ)) (xs : List Term) → All (Fits names) xs → length xs ≤ most_elements → Fits names (t.Tuple xs)
tuple_fits names xs all few =
    let both = are_terms names xs all in
    let size = size_same xs in
    let whole : IsFitting names (u.Tuple (trees_of (map tree_of xs))) = record { term = (omega arith, both.0); named = both.1 } in
    subst (IsFitting names) (sym (tree_of-Tuple xs)) whole

pub is_a_name : (a : List ℕ) → IsUtf8 a → characters_in a ≤ 255 → is_name a ≡ true
is_a_name a utf8 short = let few : nat_lt MOST_CHARACTERS (characters_in a) ≡ false = grind (arith, nat_tests) in rw (is_utf8-from_IsUtf8 a utf8, few) refl
