-- The rows that wait lead ever lower, so that there are never more of them than words, and their words are there.
use Rattle.std.proofs.Common.{◌≡◌, ◌≢◌, ℕ, zero, suc, ◌+◌, ◌-◌, ◌*◌, ◌%◌, ◌^◌, ◌<◌, ◌≤◌, true, List, length, set, get_or, Option, Some, None, is_some, refl, sym, ap, subst, arith, below_more}
use Rattle.std.proofs.lemmas.List.{get_or-set_same, get_or-set_other}
use Rattle.tagged_words.specs.declared.addresses.TheConstants.{HEAP_START}
use Rattle.tagged_words.specs.declared.look.Look.{Look}
use Rattle.tagged_words.specs.declared.look.Look.TheVariants as look
use Rattle.tagged_words.specs.Look.{look_of}
use Rattle.tagged_words.specs.Store.{Store, word_of, is_whole, words_in}
use Rattle.word_walks.proofs.Cells.{IsCell, first_word, later_words, whole_end, cons_shown, tuple_shown}
use Rattle.word_walks.proofs.Ordinals.{higher}
use Rattle.word_walks.specs.declared.scratch.Row.{Row}
use Rattle.word_walks.specs.declared.scratch.TheConstants.{BLANK}
use Rattle.word_walks.specs.declared.shown.Place.{Place}
use Rattle.word_walks.specs.declared.shown.Place.TheVariants.{First, Behind, Tail}
use Rattle.word_walks.specs.Ordinal.{ordinal}
use Rattle.word_walks.specs.Shown.{opened, row_index, rows_with, used_with, rest_of}
use Rattle.word_walks.specs.Waiting.{RowFits, RowsFit}

-- ---- the words of a cell

some_word : (o : Option ℕ) → is_some o ≡ true → (x : ℕ) × (o ≡ Some x)
some_word None e = absurd cc
some_word (Some x) e = (x, refl)

-- a cell below a limit has a lower place
pub cell_lower : (s : Store) (limit at n : ℕ) → 0 < n → IsCell s limit at n → ordinal s at + 1 ≤ ordinal s limit
cell_lower s limit at n some cell =
    let there = some_word (word_of s at) (first_word s at n some cell.there) in
    higher s at there.0 limit there.1 cell.low

-- behind its first word
behind_first : (s : Store) (at n m : ℕ) → HEAP_START + 4 * length s.heap ≤ 2 ^ 32 → m ≡ n + 1 → 0 < n → is_whole s at m ≡ true → is_whole s ((at + 4) % 2 ^ 32) n ≡ true
behind_first s at n m top e some there =
    let end : at + 4 * m ≤ 2 ^ 32 = whole_end s at m top (omega arith) there in
    let same : at + 4 ≡ (at + 4) % 2 ^ 32 = omega arith in
    subst (λ a. is_whole s a n ≡ true) same (later_words s at n m e some there)

-- ---- a row more

index_upto : (place : Place) (l : Look) (used : ℕ) → row_index place l used ≤ used
index_upto First l used = omega arith
index_upto Behind l used = omega arith
index_upto Tail (look.Small i) used = omega arith
index_upto Tail (look.Atom n) used = omega arith
index_upto Tail look.Nil used = omega arith
index_upto Tail (look.Cons at) used = omega arith
index_upto Tail (look.Tuple at n) used = omega arith
index_upto Tail look.Bad used = omega arith

-- rows fit, the last of them by what is put there
put_fits : (s : Store) (rows : List Row) (used index : ℕ) (row : Row) → index ≤ used → index < length rows → RowsFit s rows used → RowFits s index row → RowsFit s (set rows index row) (index + 1)
put_fits s rows used index row upto room fit here =
    below_more (λ k. RowFits s k (get_or (set rows index row) k BLANK)) index
    (λ k before.
    let other : k ≢ index = omega arith in
    subst (RowFits s k) (sym (get_or-set_other rows index k row BLANK other)) (fit k (omega arith)))
    (subst (RowFits s index) (sym (get_or-set_same rows index row BLANK room)) here)

pub shown_fits : (s : Store) (names : List (List ℕ)) (limit word : ℕ) (rows : List Row) (used : ℕ) (place : Place) (l : Look) → HEAP_START + 4 * length s.heap ≤ 2 ^ 32 → look_of s names limit word ≡ l → used < length rows
    → used + ordinal s limit ≤ words_in s → RowsFit s rows used → RowsFit s (rows_with (opened l) (row_index place l used) rows) (used_with (opened l) (row_index place l used) used)
shown_fits s names limit word rows used place (look.Small i) top e room below fit = fit
shown_fits s names limit word rows used place (look.Atom n) top e room below fit = fit
shown_fits s names limit word rows used place look.Nil top e room below fit = fit
shown_fits s names limit word rows used place (look.Cons at) top e room below fit =
    let upto = index_upto place (look.Cons at) used in
    let cell = cons_shown s names limit word at e in
    let lower = cell_lower s limit at 2 (omega arith) cell in
    put_fits s rows used (row_index place (look.Cons at) used) _ upto (omega arith) fit (record { low = omega arith; there = λ some. cell.there })
shown_fits s names limit word rows used place (look.Tuple at n) top e room below fit =
    let upto = index_upto place (look.Tuple at n) used in
    let cell = tuple_shown s names limit word at n e in
    let lower = cell_lower s limit at (1 + n) (omega arith) cell in
    put_fits s rows used (row_index place (look.Tuple at n) used) _ upto (omega arith) fit (record { low = omega arith; there = λ some. behind_first s at n (1 + n) top (omega arith) some cell.there })
shown_fits s names limit word rows used place look.Bad top e room below fit = fit

pub used_upto : (place : Place) (l : Look) (used : ℕ) → used_with (opened l) (row_index place l used) used ≤ used + 1
used_upto place (look.Small i) used = omega arith
used_upto place (look.Atom n) used = omega arith
used_upto place look.Nil used = omega arith
used_upto place (look.Cons at) used = let upto = index_upto place (look.Cons at) used in omega arith
used_upto place (look.Tuple at n) used = let upto = index_upto place (look.Tuple at n) used in omega arith
used_upto place look.Bad used = omega arith

-- ---- a row goes on

rest_fits : (s : Store) (k : ℕ) (row : Row) → HEAP_START + 4 * length s.heap ≤ 2 ^ 32 → 0 < row.count → RowFits s k row → RowFits s k (rest_of row)
rest_fits s k row top some fit = record { low = fit.low; there = λ more. behind_first s row.left (row.count - 1) row.count top (omega arith) more (fit.there some) }

pub rows_fit_on : (s : Store) (rows : List Row) (used last : ℕ) → HEAP_START + 4 * length s.heap ≤ 2 ^ 32 → used ≡ last + 1 → used ≤ length rows → 0 < (get_or rows last BLANK).count → RowsFit s rows used
    → RowsFit s (set rows last (rest_of (get_or rows last BLANK))) used
rows_fit_on s rows used last top e room some fit =
    let row : Row = get_or rows last BLANK in
    subst (RowsFit s (set rows last (rest_of row))) (sym e) (put_fits s rows used last (rest_of row) (omega arith) (omega arith) fit (rest_fits s last row top some (fit last (omega arith))))

-- its next word is there
pub word_there : (s : Store) (rows : List Row) (used last : ℕ) → used ≡ last + 1 → 0 < (get_or rows last BLANK).count → RowsFit s rows used → word_of s (get_or rows last BLANK).left ≡ None → ⊥
word_there s rows used last e some fit none =
    let row : Row = get_or rows last BLANK in
    let first : is_some (word_of s row.left) ≡ true = first_word s row.left row.count some ((fit last (omega arith)).there some) in
    let no = ap is_some none in
    cc

-- there are no more rows than words
pub used_within : (s : Store) (rows : List Row) (used : ℕ) → RowsFit s rows used → words_in s < length rows → used ≤ length rows
used_within s rows zero fit room = omega arith
used_within s rows (suc k) fit room = let top = (fit k (omega arith)).low in omega arith
