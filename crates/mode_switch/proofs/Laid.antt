-- The arguments of a call: how many names and words they bring, and regions in which they are written.
use Rattle.std.proofs.Common.{◌≡◌, ℕ, ◌+◌, ◌-◌, ◌*◌, ◌%◌, ◌≤◌, ◌++◌, List, [], ◌∷◌, length, drop, replicate, refl, ap, sym, subst, ◌∙◌, append_assoc, arith, ◌<◌, ◌^◌}
use Rattle.std.proofs.lemmas.List.{drop-replicate, length-replicate, replicate-append-replicate}
use Rattle.beam_code.specs.Meaning.{words_in}
use Rattle.ir_code.proofs.Turns.{Left, filled_from, goes_on, region}
use Rattle.mode_switch.specs.Laying.{region_with}
use Rattle.tagged_words.proofs.Tables.{few_with}
use Rattle.tagged_words.specs.Laid.{laid_in_turn, with_atoms, with_all_atoms, with_atoms_of, words_in_turn}
use Rattle.tagged_words.specs.Region.{Region, zeros_from}
use Rattle.term_tree.specs.Size.{size_of, words_of, words_of_all}
use Rattle.term_tree.specs.Tree as u
use Rattle.term_tree.specs.Tree.{Tree}
use Rattle.word_laying.specs.Count.{row_words, saturated}
use Rattle.word_laying.specs.Laying.{end_at}
use Rattle.word_laying.specs.Written.{written}

-- a row takes the words of its terms
pub row_is : (vs : List Tree) → row_words 0 vs ≡ words_in vs
row_is [] = refl
row_is (v ∷ vs) = let rest = row_is vs in omega arith

-- where a count stops, it tells which of these fit
pub fit_by : (vs : List Tree) (n most : ℕ) → n ≡ saturated (row_words 0 vs) → n ≤ most → most < 2 ^ 32 → words_in vs ≤ most
fit_by vs n most is low small = let row = row_is vs in omega (arith, row, is, low, small)

pub pass_by : (vs : List Tree) (n most : ℕ) → n ≡ saturated (row_words 0 vs) → most < n → most < words_in vs
pass_by vs n most is high = let row = row_is vs in omega (arith, row, is, high)

pub counted_by : (vs : List Tree) (n most : ℕ) → n ≡ saturated (row_words 0 vs) → words_in vs ≤ most → most < 2 ^ 32 → n ≡ words_in vs
counted_by vs n most is low small = let row = row_is vs in omega (arith, row, is, low, small)

-- a term brings no more names than it takes words, and one
mutual
  few_names : (names : List (List ℕ)) (v : Tree) → length (with_atoms names v) ≤ length names + words_of v + 1
  few_names names (u.Int i) = omega arith
  few_names names (u.Atom a) = let few = few_with names a in omega arith
  few_names names u.Nil = omega arith
  few_names names (u.Cons head tail) = let a = few_names names head in let b = few_names (with_atoms names head) tail in omega arith
  few_names names (u.Tuple vs) = let all = all_few names vs in omega arith

  all_few : (names : List (List ℕ)) (vs : u.Trees) → length (with_all_atoms names vs) ≤ length names + words_of_all vs + size_of vs
  all_few names u.No = omega arith
  all_few names (u.More v vs) = let a = few_names names v in let b = all_few (with_atoms names v) vs in omega arith

pub few_names_of : (names : List (List ℕ)) (vs : List Tree) → length (with_atoms_of names vs) ≤ length names + words_in vs + length vs
few_names_of names [] = omega arith
few_names_of names (v ∷ vs) = let a = few_names names v in let b = few_names_of (with_atoms names v) vs in omega arith

-- one argument is laid
pub one_laid : (names : List (List ℕ)) (block : Region) (roots : List ℕ) (at : ℕ) (v : Tree) (vs : List Tree) (end : Region) (all : List ℕ) → Left names block roots at (v ∷ vs) end all
    → Left names (written block at (laid_in_turn names at (v ∷ []))) (roots ++ words_in_turn names at (v ∷ [])) (end_at at v) vs end all
one_laid names block roots at v vs end all l =
    let block_then : Region = written block at (laid_in_turn names at (v ∷ [])) in
    let roots_then : List ℕ = roots ++ words_in_turn names at (v ∷ []) in
    let behind : at + 4 * row_words 0 (v ∷ []) ≡ end_at at v = omega arith in
    subst (λ n. Left names block_then roots_then n vs end all) behind (goes_on names block roots at (v ∷ []) vs end all l)

-- words that are written over some of those that are 0
pub written_over : (start count before : ℕ) (ws : List ℕ) → start % 4 ≡ 0 → before + length ws ≤ count → written (zeros_from start count) (start + 4 * before) ws ≡ region_with start count before ws
written_over start count before ws whole room =
    let front : List ℕ = replicate before 0 in
    let rest : List ℕ = replicate (count - before) 0 in
    let long : length front ≡ before = length-replicate before 0 in
    let more : length rest ≡ count - before = length-replicate (count - before) 0 in
    let sum : before + (count - before) ≡ count = omega (arith, room) in
    let last : List ℕ = replicate (count - before - length ws) 0 in
    let left : drop (length ws) rest ≡ last = drop-replicate (length ws) (count - before) 0 in
    let both : replicate count 0 ≡ front ++ rest = sym (replicate-append-replicate before (count - before) 0 ∙ ap (λ n. replicate n 0) sum) in
    ap (λ l. written (region start l) (start + 4 * before) ws) both
    ∙ ap (λ n. written (region start (front ++ rest)) (start + 4 * n) ws) (sym long)
    ∙ filled_from start front rest ws whole (omega (arith, room, more))
    ∙ ap (λ l. region start (front ++ (ws ++ l))) left
    ∙ ap (region start) (sym (append_assoc front ws last))
