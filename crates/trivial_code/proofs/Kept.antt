-- What the run of a trivial function keeps: literals and names, and where its arguments are.
use Rattle.std.proofs.Common.{◌≡◌, ℕ, zero, suc, ◌+◌, ◌-◌, ◌*◌, ◌/◌, ◌%◌, ◌<◌, ◌≤◌, ◌++◌, Bool, true, false, List, [], ◌∷◌, Some, None, drop, length, replicate, slice_get, slice_index, nat_eq, nat_lt, nat_le, refl, ap, ◌∙◌, arith, length-append, if◌then◌else◌}
use Rattle.std.specs.Prelude.{◌&&◌}
use Rattle.std.proofs.lemmas.List.{length-replicate}
use Rattle.std.proofs.lemmas.Option.{get_or_from_slice_get, slice_get-get_or}
use Rattle.laid_terms.proofs.Standing.{in_front, behind}
use Rattle.mode_switch.specs.declared.addresses.TheConstants.{X_WORDS}
use Rattle.tagged_words.specs.Atoms.{is_among}
use Rattle.tagged_words.specs.declared.addresses.TheConstants.{HEAP_START, LITERAL_START}
use Rattle.tagged_words.specs.Laid.{with_atoms, with_all_atoms, with_atoms_of, words_in_turn}
use Rattle.tagged_words.specs.Region.{word_at, word_in}
use Rattle.tagged_words.specs.Seen.{Keeps, KeepsNames}
use Rattle.term_tree.specs.Size.{words_of}
use Rattle.term_tree.specs.Tree as t
use Rattle.word_terms.specs.Literals.{literal_store}

-- the literals alone are read as before, whatever the heap has
no_words : (b : Bool) (at w : ℕ) → word_in [] (if b then Some ((at - HEAP_START) / 4) else None) ≡ Some w → ⊥
no_words true at w e = cc
no_words false at w e = cc

region_keeps : (literals heap : List ℕ) (at w : ℕ) (b : Bool)
    → (if b then word_at (record { start = LITERAL_START; words = literals }) at else word_at (record { start = HEAP_START; words = [] }) at) ≡ Some w
    → (if b then word_at (record { start = LITERAL_START; words = literals }) at else word_at (record { start = HEAP_START; words = heap }) at) ≡ Some w
region_keeps literals heap at w true is = is
region_keeps literals heap at w false is = absurd (no_words (nat_eq (at % 4) 0 && (nat_le HEAP_START at && nat_lt ((at - HEAP_START) / 4) 0)) at w is)

pub literals_keep : (literals heap : List ℕ) → Keeps (literal_store literals) (record { literals = literals; heap = heap })
literals_keep literals heap at w is = region_keeps literals heap at w (nat_lt at HEAP_START) is

-- names stay in longer tables
atom_keeps_if : (b : Bool) (names : List (List ℕ)) (a : List ℕ) → KeepsNames names (if b then names else names ++ a ∷ [])
atom_keeps_if true names a n x e = e
atom_keeps_if false names a n x e = in_front names (a ∷ []) n x e

mutual
  tree_keeps : (names : List (List ℕ)) (v : t.Tree) → KeepsNames names (with_atoms names v)
  tree_keeps names (t.Int i) n x e = e
  tree_keeps names (t.Atom a) n x e = atom_keeps_if (is_among a names) names a n x e
  tree_keeps names t.Nil n x e = e
  tree_keeps names (t.Cons head tail) n x e = tree_keeps (with_atoms names head) tail n x (tree_keeps names head n x e)
  tree_keeps names (t.Tuple vs) n x e = all_keeps names vs n x e

  all_keeps : (names : List (List ℕ)) (vs : t.Trees) → KeepsNames names (with_all_atoms names vs)
  all_keeps names t.No n x e = e
  all_keeps names (t.More v vs) n x e = all_keeps (with_atoms names v) vs n x (tree_keeps names v n x e)

pub names_keep : (names : List (List ℕ)) (args : List t.Tree) → KeepsNames names (with_atoms_of names args)
names_keep names [] n x e = e
names_keep names (v ∷ args) n x e = names_keep (with_atoms names v) args n x (tree_keeps names v n x e)

pub length-words_in_turn : (names : List (List ℕ)) (at : ℕ) (vs : List t.Tree) → length (words_in_turn names at vs) ≡ length vs
length-words_in_turn names at [] = refl
length-words_in_turn names at (v ∷ vs) = ap suc (length-words_in_turn names (at + 4 * words_of v) vs)

-- the words of the x area at the start
abbrev pub area_of : List ℕ → List ℕ
area_of words = replicate 5 0 ++ drop 5 words ++ replicate (X_WORDS - 5 - length (drop 5 words)) 0

pub area_large : (words : List ℕ) → X_WORDS ≤ length (area_of words)
area_large words =
    let more : List ℕ = drop 5 words in
    let rest : List ℕ = replicate (X_WORDS - 5 - length more) 0 in
    let zeros : length rest ≡ X_WORDS - 5 - length more = length-replicate (X_WORDS - 5 - length more) 0 in
    let both : length (more ++ rest) ≡ length more + length rest = length-append more rest in
    omega arith

dropped_at : (k : ℕ) (words : List ℕ) (n m : ℕ) → m ≡ k + n → slice_get (drop k words) n ≡ slice_get words m
dropped_at zero words n m e = let same : n ≡ m = omega arith in ap (slice_get words) same
dropped_at (suc k) [] n m e = none_at n m
  where
    none_at : (a b : ℕ) → slice_get {X = ℕ} [] a ≡ slice_get [] b
    none_at zero zero = refl
    none_at zero (suc b) = refl
    none_at (suc a) zero = refl
    none_at (suc a) (suc b) = refl
dropped_at (suc k) (w ∷ words) n zero e = absurd (omega arith)
dropped_at (suc k) (w ∷ words) n (suc m) e = dropped_at k words n m (omega arith)

pub area_at : (words : List ℕ) (n : ℕ) → 5 ≤ n → n < length words → slice_index (area_of words) n ≡ slice_index words n
area_at words n past low =
    let here : slice_get (drop 5 words) (n - 5) ≡ Some (slice_index words n) = dropped_at 5 words (n - 5) n (omega arith) ∙ slice_get-get_or words n 0 low in
    get_or_from_slice_get (area_of words) n (slice_index words n) 0
    (behind (replicate 5 0) (drop 5 words ++ replicate (X_WORDS - 5 - length (drop 5 words)) 0) n (n - 5) (omega arith)
    ∙ in_front (drop 5 words) (replicate (X_WORDS - 5 - length (drop 5 words)) 0) (n - 5) (slice_index words n) here)
