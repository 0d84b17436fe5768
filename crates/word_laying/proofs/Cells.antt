-- The words of a list and of a tuple, as they are written: elements, then a list's tail, then cells.
use Rattle.std.proofs.Common.{◌≡◌, ℕ, suc, ◌+◌, ◌-◌, ◌*◌, ◌<◌, ◌++◌, List, [], ◌∷◌, length, reverse, refl, ap, sym, ◌∙◌, append_assoc, arith}
use Rattle.std.proofs.lemmas.List.{append-nil, reverse-append, length-reverse}
use Rattle.laid_terms.proofs.Standing.{length-laid, length-laid_in_turn}
use Rattle.tagged_words.specs.Laid.{laid, laid_all, laid_in_turn, word_for, words_in_turn, element_words}
use Rattle.tagged_words.specs.Region.{Region, with_word}
use Rattle.tagged_words.specs.Word.{header_word}
use Rattle.term_tree.specs.Size.{size_of, words_of, words_of_all}
use Rattle.term_tree.specs.Tree.{Tree, Tuple, conses, trees_of}
use Rattle.word_laying.proofs.Rows.{words-conses, row-append, row-more}
use Rattle.word_laying.proofs.WrittenLaws.{written-append}
use Rattle.word_laying.specs.Count.{row_words}
use Rattle.word_laying.specs.Laying.{cells}
use Rattle.word_laying.specs.Written.{written}

-- ---- rows

pub row-snoc : (v : Tree) (vs : List Tree) → reverse (v ∷ vs) ≡ reverse vs ++ v ∷ []
row-snoc v vs = reverse-append (v ∷ []) vs

row-reverse : (vs : List Tree) → row_words 0 (reverse vs) ≡ row_words 0 vs
row-reverse [] = refl
row-reverse (v ∷ vs) =
    let rest = row-reverse vs in
    ap (row_words 0) (row-snoc v vs) ∙ row-append (reverse vs) v ∙ omega arith

pub row-trees : (vs : List Tree) → row_words 0 vs ≡ words_of_all (trees_of vs)
row-trees [] = refl
row-trees (v ∷ vs) = let rest = row-trees vs in omega arith

pub length-row : (names : List (List ℕ)) (vs : List Tree) (at : ℕ) → length (laid_in_turn names at vs) ≡ row_words 0 vs
length-row names vs at = length-laid_in_turn names vs at ∙ sym (row-trees vs)

-- ---- the cells of a list

-- the word behind these elements, from the last one on
abbrev word_behind : ℕ → ℕ → List Tree → ℕ
word_behind at rest [] = rest
word_behind at rest (v ∷ before) = word_behind (at + 8) (at + 1) before

cells-append : (names : List (List ℕ)) (end at rest : ℕ) (us : List Tree) (v : Tree)
    → cells names end at rest (us ++ v ∷ []) ≡ cells names end at rest us ++ (word_for names (end - 4 * row_words 0 us) v ∷ word_behind at rest us ∷ [])
cells-append names end at rest [] v = let same : end ≡ end - 4 * 0 = omega arith in ap (λ e. word_for names e v ∷ rest ∷ []) same
cells-append names end at rest (u ∷ us) v =
    let same : end - 4 * words_of u - 4 * row_words 0 us ≡ end - 4 * (0 + words_of u + row_words 0 us) = omega arith in
    ap (λ ws. word_for names end u ∷ rest ∷ ws)
    (cells-append names (end - 4 * words_of u) (at + 8) (at + 1) us v
    ∙ ap (λ e. cells names (end - 4 * words_of u) (at + 8) (at + 1) us ++ (word_for names e v ∷ word_behind (at + 8) (at + 1) us ∷ [])) same)

behind_some : (at rest : ℕ) (u : Tree) (us : List Tree) → word_behind at rest (u ∷ us) ≡ at + 8 * suc (length us) - 7
behind_some at rest u [] = omega arith
behind_some at rest u (v ∷ us) = behind_some (at + 8) (at + 1) v us ∙ (omega arith)

behind_any : (at rest : ℕ) (us : List Tree) → 0 < length us → word_behind at rest us ≡ at + 8 * length us - 7
behind_any at rest [] some = absurd (omega arith)
behind_any at rest (u ∷ us) some = behind_some at rest u us

-- the word of a list whose elements end at an address, with the cells of its end behind them
behind_is : (names : List (List ℕ)) (from : ℕ) (vs : List Tree) (e : Tree) (at : ℕ) → at ≡ from + 4 * row_words 0 vs + 4 * words_of e
    → word_behind at (word_for names at e) (reverse vs) ≡ word_for names (from + 4 * words_of (conses vs e)) (conses vs e)
behind_is names from [] e at is = let same : at ≡ from + 4 * words_of e = omega arith in ap (λ a. word_for names a e) same
behind_is names from (v ∷ vs) e at is =
    let long = length-reverse (v ∷ vs) in
    let words = words-conses (v ∷ vs) e in
    let one = row-more 1 (v ∷ vs) in
    let none = row-more 0 (v ∷ vs) in
    behind_any at (word_for names at e) (reverse (v ∷ vs)) (omega arith) ∙ (omega arith)

regroup : (a l m c w : List ℕ) → (a ++ (l ++ (m ++ c))) ++ w ≡ (a ++ l) ++ (m ++ (c ++ w))
regroup a l m c w = simp append_assoc

pair_is : (c : List ℕ) (x y z w : ℕ) → x ≡ z → y ≡ w → c ++ (x ∷ y ∷ []) ≡ c ++ (z ∷ w ∷ [])
pair_is c x y z w e f = cc

pub laid-conses : (names : List (List ℕ)) (vs : List Tree) (e : Tree) (at front cell : ℕ) → front ≡ at + 4 * row_words 0 vs → cell ≡ front + 4 * words_of e
    → laid names at (conses vs e) ≡ laid_in_turn names at vs ++ (laid names front e ++ cells names front cell (word_for names cell e) (reverse vs))
laid-conses names [] e at front cell is behind = let same : at ≡ front = omega arith in ap (λ a. laid names a e) same ∙ sym (append-nil (laid names front e))
laid-conses names (v ∷ vs) e at front cell is behind =
    let middle : ℕ = at + 4 * words_of v in
    let last : ℕ = word_for names cell e in
    let before : List ℕ = cells names front cell last (reverse vs) in
    let end : ℕ = middle + 4 * words_of (conses vs e) in
    let rest = laid-conses names vs e middle front cell (omega arith) behind in
    let turned = row-reverse vs in
    let here : front - 4 * row_words 0 (reverse vs) ≡ middle = omega arith in
    let others = behind_is names middle vs e cell (omega arith) in
    let first = ap (cells names front cell last) (row-snoc v vs) ∙ cells-append names front cell last (reverse vs) v
    ∙ pair_is before (word_for names (front - 4 * row_words 0 (reverse vs)) v) (word_behind cell last (reverse vs)) (word_for names middle v) (word_for names end (conses vs e)) (ap (λ a. word_for names a v) here) others in
    let pair : List ℕ = word_for names middle v ∷ word_for names end (conses vs e) ∷ [] in
    ap (λ ws. (laid names at v ++ ws) ++ pair) rest
    ∙ regroup (laid names at v) (laid_in_turn names middle vs) (laid names front e) before pair
    ∙ ap (λ ws. (laid names at v ++ laid_in_turn names middle vs) ++ (laid names front e ++ ws)) (sym first)

-- one cell is written
pub written-cell : (r : Region) (at w rest : ℕ) (ws : List ℕ) → written r at (w ∷ rest ∷ ws) ≡ written (with_word (with_word r at w) (at + 4) rest) (at + 8) ws
written-cell r at w rest ws = let same : at + 4 + 4 ≡ at + 8 = omega arith in ap (λ a. written (with_word (with_word r at w) (at + 4) rest) a ws) same

-- a list is written: its elements, its end, its cells
pub written-conses : (names : List (List ℕ)) (r : Region) (vs : List Tree) (e : Tree) (at front cell : ℕ) → front ≡ at + 4 * row_words 0 vs → cell ≡ front + 4 * words_of e
    → written r at (laid names at (conses vs e)) ≡ written (written (written r at (laid_in_turn names at vs)) front (laid names front e)) cell (cells names front cell (word_for names cell e) (reverse vs))
written-conses names r vs e at front cell is behind =
    let first : List ℕ = laid_in_turn names at vs in
    let second : List ℕ = laid names front e in
    let third : List ℕ = cells names front cell (word_for names cell e) (reverse vs) in
    let one = length-row names vs at in
    let two = length-laid names e front in
    let there : at + 4 * length first ≡ front = omega arith in
    let then : front + 4 * length second ≡ cell = omega arith in
    ap (written r at) (laid-conses names vs e at front cell is behind)
    ∙ written-append r at first (second ++ third)
    ∙ ap (λ a. written (written r at first) a (second ++ third)) there
    ∙ written-append (written r at first) front second third
    ∙ ap (λ a. written (written (written r at first) front second) a third) then

-- one more term of a row is written
pub written-row : (names : List (List ℕ)) (r : Region) (at : ℕ) (v : Tree) (vs : List Tree)
    → written r at (laid_in_turn names at (v ∷ vs)) ≡ written (written r at (laid names at v)) (at + 4 * words_of v) (laid_in_turn names (at + 4 * words_of v) vs)
written-row names r at v vs =
    let long = length-laid names v at in
    let there : at + 4 * length (laid names at v) ≡ at + 4 * words_of v = omega arith in
    written-append r at (laid names at v) (laid_in_turn names (at + 4 * words_of v) vs)
    ∙ ap (λ a. written (written r at (laid names at v)) a (laid_in_turn names (at + 4 * words_of v) vs)) there

-- ---- tuples

laid_all-trees : (names : List (List ℕ)) (vs : List Tree) (at : ℕ) → laid_all names at (trees_of vs) ≡ laid_in_turn names at vs
laid_all-trees names [] at = refl
laid_all-trees names (v ∷ vs) at = ap (λ ws. laid names at v ++ ws) (laid_all-trees names vs (at + 4 * words_of v))

element_words-trees : (names : List (List ℕ)) (vs : List Tree) (at : ℕ) → element_words names at (trees_of vs) ≡ words_in_turn names at vs
element_words-trees names [] at = refl
element_words-trees names (v ∷ vs) at = ap (λ ws. word_for names (at + 4 * words_of v) v ∷ ws) (element_words-trees names vs (at + 4 * words_of v))

size-trees : (vs : List Tree) → size_of (trees_of vs) ≡ length vs
size-trees [] = refl
size-trees (v ∷ vs) = let rest = size-trees vs in omega arith

-- a tuple is written: its elements, its header, their words
pub written-tuple : (names : List (List ℕ)) (r : Region) (vs : List Tree) (at cell : ℕ) → cell ≡ at + 4 * row_words 0 vs
    → written r at (laid names at (Tuple (trees_of vs))) ≡ written (with_word (written r at (laid_in_turn names at vs)) cell (header_word (length vs))) (cell + 4) (words_in_turn names at vs)
written-tuple names r vs at cell is =
    let first : List ℕ = laid_in_turn names at vs in
    let one = length-row names vs at in
    let there : at + 4 * length first ≡ cell = omega arith in
    ap (λ ws. written r at (ws ++ (header_word (size_of (trees_of vs)) ∷ element_words names at (trees_of vs)))) (laid_all-trees names vs at)
    ∙ ap (λ n. written r at (first ++ (header_word n ∷ element_words names at (trees_of vs)))) (size-trees vs)
    ∙ ap (λ ws. written r at (first ++ (header_word (length vs) ∷ ws))) (element_words-trees names vs at)
    ∙ written-append r at first (header_word (length vs) ∷ words_in_turn names at vs)
    ∙ ap (λ a. written (written r at first) a (header_word (length vs) ∷ words_in_turn names at vs)) there
