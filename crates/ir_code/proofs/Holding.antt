-- The constants of modules hold.
use Rattle.std.proofs.Common.{◌≡◌, ℕ, zero, suc, ◌+◌, ◌*◌, ◌%◌, ◌<◌, ◌≤◌, List, [], ◌∷◌, Some, length, slice_get, refl, ap, subst, ◌∙◌, arith}
use Rattle.std.proofs.lemmas.Bool.Decides.{nat_tests}
use Rattle.std.proofs.lemmas.Option.{slice_get_within}
use Rattle.std.specs.List.{AllByRecursion}
use Rattle.ir_code.proofs.Counted.{few_mentions, names-mentions, words-mentions}
use Rattle.ir_code.proofs.Growing.{all_longer, longer, mentions_longer, more_with}
use Rattle.ir_code.proofs.Ready.{all_named, mentions_have}
use Rattle.ir_code.specs.Constants.{IsKnown, with_mention, with_mentions}
use Rattle.word_terms.specs.Literals.{literal_store}
use Rattle.ir_code.specs.Laws.{TheyHold}
use Rattle.ir_code.specs.Mentions.{Mention, Named, Literal, literals_of, mentions_of}
use Rattle.laid_terms.proofs.Standing.{behind, in_front, laid_term_stands, length-laid}
use Rattle.laid_terms.proofs.Tables.{there_with}
use Rattle.laid_terms.specs.Laid.{HasWords}
use Rattle.laid_terms.specs.Named.{IsNamed}
use Rattle.tagged_words.proofs.Tables.{first_is_table, with_atom_is_table}
use Rattle.tagged_words.specs.Atoms.{IsTable, first_atoms}
use Rattle.tagged_words.specs.declared.addresses.TheConstants.{HEAP_START, LITERAL_START, MOST_ATOM_NUMBERS}
use Rattle.tagged_words.specs.Laid.{laid, laid_in_turn, word_for, words_in_turn, with_atom, with_atoms, with_all_atoms}
use Rattle.tagged_words.specs.Seen.{IsTreeOf}
use Rattle.tagged_words.specs.Store.{Store, word_of}
use Rattle.term_tree.specs.IsTerm.{IsTerm}
use Rattle.term_tree.specs.Size.{words_of}
use Rattle.term_tree.specs.Tree as u
use Rattle.term_tree.specs.Tree.{Tree}
use Rattle.word_laying.proofs.Cells.{length-row}
use Rattle.word_laying.specs.Count.{row_words}

mutual
  atoms_table : (names : List (List ℕ)) (v : Tree) → IsTable names → length (with_atoms names v) < MOST_ATOM_NUMBERS → IsTable (with_atoms names v)
  atoms_table names (u.Int i) t room = t
  atoms_table names (u.Atom a) t room = with_atom_is_table names a t (let more = more_with names a in omega arith)
  atoms_table names u.Nil t room = t
  atoms_table names (u.Cons head tail) t room =
      atoms_table (with_atoms names head) tail (atoms_table names head t (let more = longer (with_atoms names head) tail in omega arith)) room
  atoms_table names (u.Tuple vs) t room = all_table names vs t room

  all_table : (names : List (List ℕ)) (vs : u.Trees) → IsTable names → length (with_all_atoms names vs) < MOST_ATOM_NUMBERS → IsTable (with_all_atoms names vs)
  all_table names u.No t room = t
  all_table names (u.More v vs) t room =
      all_table (with_atoms names v) vs (atoms_table names v t (let more = all_longer (with_atoms names v) vs in omega arith)) room

mention_table : (names : List (List ℕ)) (m : Mention) → IsTable names → length (with_mention names m) < MOST_ATOM_NUMBERS → IsTable (with_mention names m)
mention_table names (Named a) t room = with_atom_is_table names a t (let more = more_with names a in omega arith)
mention_table names (Literal v) t room = atoms_table names v t room

mentions_table : (names : List (List ℕ)) (ms : List Mention) → IsTable names → length (with_mentions names ms) < MOST_ATOM_NUMBERS → IsTable (with_mentions names ms)
mentions_table names [] t room = t
mentions_table names (m ∷ ms) t room =
    mentions_table (with_mention names m) ms (mention_table names m t (let more = mentions_longer (with_mention names m) ms in omega arith)) room

all_known : (names : List (List ℕ)) (ms : List Mention) (k : ℕ) (m : Mention) → slice_get ms k ≡ Some m → IsKnown (with_mentions names ms) m
all_known names [] k m e = absurd cc
all_known names (Named a ∷ ms) zero m e =
    let same : Named a ≡ m = cc in
    subst (λ (x : Mention). IsKnown (with_mentions (with_atom names a) ms) x) same (mentions_have (with_atom names a) ms a (there_with names a))
all_known names (Literal v ∷ ms) zero m e =
    let same : Literal v ≡ m = cc in
    subst (λ (x : Mention). IsKnown (with_mentions (with_atoms names v) ms) x) same (all_named names (Literal v ∷ ms)).0
all_known names (n ∷ ms) (suc k) m e = all_known (with_mention names n) ms k m e

pub as_many : (names : List (List ℕ)) (vs : List Tree) (at : ℕ) → length (words_in_turn names at vs) ≡ length vs
as_many names [] at = refl
as_many names (v ∷ vs) at = ap suc (as_many names vs (at + 4 * words_of v))

all_stand : (s : Store) (names : List (List ℕ)) (vs : List Tree) (at : ℕ) → at % 4 ≡ 0 → at + 4 * row_words 0 vs ≤ HEAP_START → AllByRecursion IsTerm vs → AllByRecursion (IsNamed names) vs
    → HasWords s at (laid_in_turn names at vs) → (k w : ℕ) (v : Tree) → slice_get (words_in_turn names at vs) k ≡ Some w → slice_get vs k ≡ Some v → IsTreeOf s names w v
all_stand s names [] at whole room terms named has k w v f e = absurd cc
all_stand s names (x ∷ vs) at whole room terms named has zero w v f e =
    let tree : x ≡ v = cc in
    let word : word_for names (at + 4 * words_of x) x ≡ w = cc in
    subst (λ y. IsTreeOf s names y v) word
    (subst (IsTreeOf s names (word_for names (at + 4 * words_of x) x)) tree
    (laid_term_stands s names x at terms.0 named.0 whole (λ low. omega arith) (omega arith)
    (λ j y there. has j y (in_front (laid names at x) (laid_in_turn names (at + 4 * words_of x) vs) j y there))))
all_stand s names (x ∷ vs) at whole room terms named has (suc k) w v f e =
    let next : ℕ = at + 4 * words_of x in
    let long = length-laid names x at in
    all_stand s names vs next (omega arith) (omega arith) terms.1 named.1
    (λ j y there.
    let place : next + 4 * j ≡ at + 4 * (length (laid names at x) + j) = omega arith in
    ap (word_of s) place ∙ has (length (laid names at x) + j) y (behind (laid names at x) (laid_in_turn names next vs) (length (laid names at x) + j) j refl ∙ there))
    k w v f e

literal_word : (ws : List ℕ) (j w : ℕ) → length ws ≤ 33554432 → slice_get ws j ≡ Some w → word_of (literal_store ws) (LITERAL_START + 4 * j) ≡ Some w
literal_word ws j w few e = let low : j < length ws = slice_get_within ws j w e in grind (arith, nat_tests)

pub they_hold : TheyHold
they_hold ms room terms =
    let all : List Mention = mentions_of ms in
    let names : List (List ℕ) = with_mentions first_atoms all in
    let vs : List Tree = literals_of all in
    let few = few_mentions first_atoms all in
    let count = names-mentions ms in
    let own : length first_atoms ≡ 14 = refl in
    let words = words-mentions ms in
    let long = length-row names vs LITERAL_START in
    record {
      table = mentions_table first_atoms all first_is_table (omega (arith, few, count, own, room.names));
      known = all_known first_atoms all;
      many = as_many names vs LITERAL_START;
      stand = λ k w v. all_stand (literal_store (laid_in_turn names LITERAL_START vs)) names vs LITERAL_START refl (omega (arith, words, room.words)) terms (all_named first_atoms all)
          (λ j x there. literal_word (laid_in_turn names LITERAL_START vs) j x (omega (arith, words, long, room.words)) there) k w v;
    }
