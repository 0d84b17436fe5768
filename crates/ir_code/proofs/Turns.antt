-- Literals that are laid one list after the other, and a region that is filled with words.
use Rattle.std.proofs.Common.{◌≡◌, ℕ, zero, suc, ◌+◌, ◌*◌, ◌%◌, ◌<◌, ◌≤◌, ◌++◌, List, [], ◌∷◌, Some, drop, get_or, length, slice_set, refl, ap, sym, subst, ◌∙◌, append-nil, append_assoc, arith, length-append}
use Rattle.std.specs.List.{AllByRecursion}
use Rattle.std.proofs.lemmas.Bool.Decides.{nat_tests}
use Rattle.std.proofs.Math.ListN.{drop_of_length-le}
use Rattle.std.proofs.lemmas.List.{drop_more}
use Rattle.ir_code.specs.declared.mentioning.Mention as code
use Rattle.ir_code.specs.Laying.{CanStand, literals_in}
use Rattle.ir_code.specs.Mentions.{literal_of}
use Rattle.ir_code.specs.Shown.{mention_shown}
use Rattle.tagged_words.specs.Laid.{laid, laid_in_turn, word_for, words_in_turn}
use Rattle.tagged_words.specs.Region.{Region, place_of, with_word}
use Rattle.term_tree.specs.Size.{words_of}
use Rattle.term_tree.specs.Tree.{Tree}
use Rattle.word_laying.proofs.Cells.{length-row}
use Rattle.word_laying.proofs.WrittenLaws.{place_behind, regions_stay, written-append}
use Rattle.word_laying.specs.Count.{row_words}
use Rattle.word_laying.specs.Laying.{IsPlace, region_end}
use Rattle.word_laying.specs.Written.{written}

pub row-both : (us vs : List Tree) → row_words 0 (us ++ vs) ≡ row_words 0 us + row_words 0 vs
row-both [] vs = omega arith
row-both (u ∷ us) vs = let rest = row-both us vs in omega arith

pub laid-both : (names : List (List ℕ)) (us vs : List Tree) (at : ℕ) → laid_in_turn names at (us ++ vs) ≡ laid_in_turn names at us ++ laid_in_turn names (at + 4 * row_words 0 us) vs
laid-both names [] vs at = let same : at ≡ at + 4 * 0 = omega arith in ap (λ a. laid_in_turn names a vs) same
laid-both names (u ∷ us) vs at =
    let behind : ℕ = at + 4 * words_of u in
    let same : behind + 4 * row_words 0 us ≡ at + 4 * row_words 0 (u ∷ us) = omega arith in
    ap (λ ws. laid names at u ++ ws) (laid-both names us vs behind)
    ∙ ap (λ a. laid names at u ++ (laid_in_turn names behind us ++ laid_in_turn names a vs)) same
    ∙ sym (append_assoc (laid names at u) (laid_in_turn names behind us) (laid_in_turn names (at + 4 * row_words 0 (u ∷ us)) vs))

pub words-both : (names : List (List ℕ)) (us vs : List Tree) (at : ℕ) → words_in_turn names at (us ++ vs) ≡ words_in_turn names at us ++ words_in_turn names (at + 4 * row_words 0 us) vs
words-both names [] vs at = let same : at ≡ at + 4 * 0 = omega arith in ap (λ a. words_in_turn names a vs) same
words-both names (u ∷ us) vs at =
    let behind : ℕ = at + 4 * words_of u in
    let same : behind + 4 * row_words 0 us ≡ at + 4 * row_words 0 (u ∷ us) = omega arith in
    ap (λ ws. word_for names behind u ∷ ws) (words-both names us vs behind)
    ∙ ap (λ a. word_for names behind u ∷ (words_in_turn names behind us ++ words_in_turn names a vs)) same

pub written-both : (names : List (List ℕ)) (r : Region) (us vs : List Tree) (at : ℕ)
    → written r at (laid_in_turn names at (us ++ vs)) ≡ written (written r at (laid_in_turn names at us)) (at + 4 * row_words 0 us) (laid_in_turn names (at + 4 * row_words 0 us) vs)
written-both names r us vs at =
    let long : at + 4 * length (laid_in_turn names at us) ≡ at + 4 * row_words 0 us = ap (λ n. at + 4 * n) (length-row names us at) in
    ap (written r at) (laid-both names us vs at)
    ∙ written-append r at (laid_in_turn names at us) (laid_in_turn names (at + 4 * row_words 0 us) vs)
    ∙ ap (λ a. written (written r at (laid_in_turn names at us)) a (laid_in_turn names (at + 4 * row_words 0 us) vs)) long

pub both_all : (P : Tree → Type 0) (us vs : List Tree) → AllByRecursion P (us ++ vs) → AllByRecursion P us × AllByRecursion P vs
both_all P [] vs all = (tt, all)
both_all P (u ∷ us) vs all = let rest = both_all P us vs all.1 in ((all.0, rest.0), rest.1)

-- what is left to lay of terms, and the room for it: what holds before some of them holds behind them
pub record Left (names : List (List ℕ)) (block : Region) (roots : List ℕ) (at : ℕ) (left : List Tree) (end : Region) (all : List ℕ) : Type 0 where
  pub words : written block at (laid_in_turn names at left) ≡ end
  pub words_left : roots ++ words_in_turn names at left ≡ all
  pub place : IsPlace block at
  pub room : at + 4 * row_words 0 left ≤ region_end block
  pub stand : AllByRecursion (CanStand names) left

pub goes_on : (names : List (List ℕ)) (block : Region) (roots : List ℕ) (at : ℕ) (us vs : List Tree) (end : Region) (all : List ℕ) → Left names block roots at (us ++ vs) end all
    → Left names (written block at (laid_in_turn names at us)) (roots ++ words_in_turn names at us) (at + 4 * row_words 0 us) vs end all
goes_on names block roots at us vs end all l =
    let words : List ℕ = laid_in_turn names at us in
    let sum = row-both us vs in
    let long = length-row names us at in
    let stays = regions_stay block at words in
    let there : at + 4 * length words ≡ at + 4 * row_words 0 us = ap (λ n. at + 4 * n) long in
    record {
      words = sym (written-both names block us vs at) ∙ l.words;
      words_left = append_assoc roots (words_in_turn names at us) (words_in_turn names (at + 4 * row_words 0 us) vs)
          ∙ ap (λ ws. roots ++ ws) (sym (words-both names us vs at)) ∙ l.words_left;
      place = subst (IsPlace (written block at words)) there (place_behind block at words l.place (omega (arith, l.room)));
      room = omega (arith, l.room, stays.0, stays.1);
      stand = (both_all (CanStand names) us vs l.stand).1;
    }

-- the literals that are left begin with that of the next mention
pub next_mention : (xs : List code.Mention) (i : ℕ) (x : code.Mention) → i < length xs → x ≡ get_or xs i x → literals_in (drop i xs) ≡ literal_of (mention_shown x) ++ literals_in (drop (i + 1) xs)
next_mention xs i x low is = ap literals_in (drop_more xs i x low ∙ ap (λ y. y ∷ drop (i + 1) xs) (sym is))

pub no_mention : (xs : List code.Mention) (i : ℕ) → length xs ≤ i → literals_in (drop i xs) ≡ []
no_mention [] zero h = refl
no_mention [] (suc i) h = refl
no_mention (x ∷ xs) zero h = absurd (omega arith)
no_mention (x ∷ xs) (suc i) h = no_mention xs i (omega arith)

-- ---- a region that is filled

abbrev pub region : ℕ → List ℕ → Region
region start words = record { start = start; words = words }

set_behind : (front rest : List ℕ) (x w : ℕ) → slice_set (front ++ x ∷ rest) (length front) w ≡ front ++ w ∷ rest
set_behind [] rest x w = refl
set_behind (f ∷ front) rest x w = ap (λ l. f ∷ l) (set_behind front rest x w)

one_filled : (start : ℕ) (front rest : List ℕ) (x w : ℕ) → start % 4 ≡ 0 → with_word (region start (front ++ x ∷ rest)) (start + 4 * length front) w ≡ region start ((front ++ w ∷ []) ++ rest)
one_filled start front rest x w whole =
    let long = length-append front (x ∷ rest) in
    let place : place_of (region start (front ++ x ∷ rest)) (start + 4 * length front) ≡ Some (length front) = grind (arith, nat_tests, long) in
    rw place (ap (region start) (set_behind front rest x w ∙ sym (append_assoc front (w ∷ []) rest)))

-- words are written over as many that were there
pub filled_from : (start : ℕ) (front rest ws : List ℕ) → start % 4 ≡ 0 → length ws ≤ length rest
    → written (region start (front ++ rest)) (start + 4 * length front) ws ≡ region start (front ++ (ws ++ drop (length ws) rest))
filled_from start front rest [] whole few = refl
filled_from start front [] (w ∷ ws) whole few = absurd (omega (arith, few))
filled_from start front (x ∷ rest) (w ∷ ws) whole few =
    let more = length-append front (w ∷ []) in
    let place : start + 4 * length front + 4 ≡ start + 4 * length (front ++ w ∷ []) = omega (arith, more) in
    ap (λ r. written r (start + 4 * length front + 4) ws) (one_filled start front rest x w whole)
    ∙ ap (λ a. written (region start ((front ++ w ∷ []) ++ rest)) a ws) place
    ∙ filled_from start (front ++ w ∷ []) rest ws whole (omega (arith, few))
    ∙ ap (region start) (append_assoc front (w ∷ []) (ws ++ drop (length ws) rest))

-- as many words as a region has fill it
pub filled : (start : ℕ) (zeros ws : List ℕ) → start % 4 ≡ 0 → length ws ≡ length zeros → (written (region start zeros) start ws).words ≡ ws
filled start zeros ws whole long =
    let same : start ≡ start + 4 * 0 = omega arith in
    let none : drop (length ws) zeros ≡ [] = drop_of_length-le zeros (omega (arith, long)) in
    ap (λ a. (written (region start zeros) a ws).words) same ∙ ap (λ (r : Region). r.words) (filled_from start [] zeros ws whole (omega (arith, long)))
    ∙ ap (λ l. ws ++ l) none ∙ append-nil ws
