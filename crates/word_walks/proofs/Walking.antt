-- Why a comparison has room for its rows, and why it ends.
use Rattle.std.proofs.Common.{◌≡◌, ℕ, zero, suc, ◌+◌, ◌-◌, ◌*◌, ◌^◌, ◌<◌, ◌≤◌, Option, Some, None, List, length, get_or, set, refl, ap, sym, subst, arith}
use Rattle.std.proofs.lemmas.List.{get_or-set_same, get_or-set_other}
use Rattle.std.proofs.Math.Nat.{pow-le-pow_right, pow-suc, one-le-pow, mul-le-mul_right}
use Rattle.tagged_words.specs.declared.addresses.TheConstants.{HEAP_START}
use Rattle.tagged_words.specs.Store.{Store, words_in}
use Rattle.word_walks.specs.declared.comparing.Place.{Place}
use Rattle.word_walks.specs.declared.scratch.Row.{Row}
use Rattle.word_walks.specs.Pairs.{next_row, no_row, left_place, entered, entered_rows, HasNext, IsRow}
use Rattle.word_walks.proofs.Cells.{later_words, whole_few, whole_end}
use Rattle.word_walks.proofs.Descents.{Inner, lower_place, some_place}
use Rattle.word_walks.proofs.Ordinals.{ordinal}
use Rattle.word_walks.proofs.PairsAhead.{Pairs, Others, Last, pairs_of, place_more, place_end, place_down, entered_more, entered_last}

-- ---- room

-- a row whose words are there, at a place of the scratch; a lower cell has room for more rows above its own
pub record Fits (s : Store) (k : ℕ) (r : Row) : Type 0 where
  pub row : IsRow s r
  pub room : k + 1 + ordinal s r.left_cell ≤ words_in s

-- the row of a place, and all that wait
pub record Fit (s : Store) (rows : List Row) (p : Place) : Type 0 where
  pub row : Fits s p.used p.row
  pub below : (k : ℕ) → k < p.used → Fits s k (get_or rows k no_row)

pub fits_first : (s : Store) (rows : List Row) (row : Row) → IsRow s row → Fit s rows (record { row = row; used = 0 })
fits_first s rows row r = record { row = record { row = r; room = omega (arith, some_place s row r) }; below = λ k low. absurd (omega arith) }

is_next : (s : Store) (row : Row) → IsRow s row → 1 < row.count → IsRow s (next_row row)
is_next s row r more = record {
  some = omega arith;
  cell = r.cell;
  left = later_words s row.left (row.count - 1) row.count (omega arith) (omega arith) r.left;
  right = later_words s row.right (row.count - 1) row.count (omega arith) (omega arith) r.right;
}

-- the next words of a row have addresses
pub has_next : (s : Store) (row : Row) → HEAP_START + 4 * length s.heap ≤ 2 ^ 32 → IsRow s row → HasNext row
has_next s row within r =
    let left = whole_end s row.left row.count within r.some r.left in
    let right = whole_end s row.right row.count within r.some r.right in
    record { left = λ more. omega arith; right = λ more. omega arith }

-- ---- the end

-- what a word costs whose pointer leads below a place: more than all words of a lower cell
power : Store → ℕ → ℕ
power s e = (words_in s + 1) ^ e

power_some : (s : Store) (e : ℕ) → 0 < power s e
unfolding power
power_some s e = omega (arith, one-le-pow e (words_in s + 1) (omega arith))

power_more : (s : Store) (n e d : ℕ) → n ≤ words_in s → e + 1 ≤ d → n * power s e < power s d
unfolding power
power_more s n e d few low =
    let some = one-le-pow e (words_in s + 1) (omega arith) in
    let all = mul-le-mul_right ((words_in s + 1) ^ e) few in
    let next = pow-suc (words_in s + 1) e in
    let up : (words_in s + 1) ^ suc e ≤ (words_in s + 1) ^ d = pow-le-pow_right {n = words_in s + 1} (omega arith) (omega arith) in
    omega arith

-- what the words of a row cost, and those of all rows that wait
pub cost : Store → Row → ℕ
cost s row = row.count * power s (ordinal s row.left_cell)

abbrev pub costs : Store → List Row → ℕ → ℕ
costs s rows zero = 0
costs s rows (suc k) = cost s (get_or rows k no_row) + costs s rows k

abbrev pub to_do : Store → List Row → Place → ℕ
to_do s rows p = cost s p.row + costs s rows p.used

cost_some : (s : Store) (row : Row) → 0 < row.count → 0 < cost s row
unfolding cost
cost_some s row some =
    let one = power_some s (ordinal s row.left_cell) in
    let all = mul-le-mul_right (power s (ordinal s row.left_cell)) some in
    omega arith

cost_next : (s : Store) (row : Row) → 0 < row.count → cost s (next_row row) + power s (ordinal s row.left_cell) ≡ cost s row
unfolding cost
cost_next s row some =
    let e : row.count ≡ (row.count - 1) + 1 = omega arith in
    let i = ap (λ n. n * power s (ordinal s row.left_cell)) e in
    omega arith

cost_inner : (s : Store) (outer row : Row) → Inner s outer.left_cell row → cost s row < power s (ordinal s outer.left_cell)
unfolding cost
cost_inner s outer row i = power_more s row.count (ordinal s row.left_cell) (ordinal s outer.left_cell) (whole_few s row.left row.count i.row.left) (lower_place s outer.left_cell row i)

-- a place that fits and has less to do
pub record Goes (s : Store) (rows : List Row) (most : ℕ) (p : Place) : Type 0 where
  pub fit : Fit s rows p
  pub less : to_do s rows p < most

abbrev pub MayGo : Store → List Row → ℕ → Option Place → Type 0
MayGo s rows most None = Unit {0}
MayGo s rows most (Some p) = Goes s rows most p

pub leaves : (s : Store) (rows : List Row) (p : Place) → Fit s rows p → MayGo s rows (to_do s rows p) (left_place rows p)
leaves s rows p fit = by (pairs_of p.row.count) where
  down : (used : ℕ) → p.used ≡ used → p.row.count ≤ 1 → MayGo s rows (to_do s rows p) (left_place rows p)
  down zero i one = subst (MayGo s rows (to_do s rows p)) (sym (place_end rows p one i)) tt
  down (suc k) i one =
      let some = cost_some s p.row fit.row.row.some in
      let all = ap (costs s rows) i in
      subst (MayGo s rows (to_do s rows p)) (sym (place_down rows p k one i)) (record {
        fit = record { row = fit.below k (omega arith); below = λ j low. fit.below j (omega arith) };
        less = omega arith;
      })

  by : Pairs p.row.count → MayGo s rows (to_do s rows p) (left_place rows p)
  by (Others more) =
      let less = cost_next s p.row fit.row.row.some in
      let one = power_some s (ordinal s p.row.left_cell) in
      subst (MayGo s rows (to_do s rows p)) (sym (place_more rows p more)) (record {
        fit = record { row = record { row = is_next s p.row fit.row.row more; room = fit.row.room }; below = fit.below };
        less = omega arith;
      })
  by (Last one) = down p.used refl one

costs_kept : (s : Store) (rows : List Row) (used : ℕ) (row : Row) (k : ℕ) → k ≤ used → costs s (set rows used row) k ≡ costs s rows k
costs_kept s rows used row zero low = refl
costs_kept s rows used row (suc k) low =
    let same = get_or-set_other rows used k row no_row (omega arith) in
    let one = ap (cost s) same in
    let all = costs_kept s rows used row k (omega arith) in
    omega arith

-- which of two rows lies at a place up to the written one
data Upto (n : ℕ) : ℕ → Type 0 where
  Here : {k : ℕ} → k ≡ n → Upto n k
  Below : {k : ℕ} → k < n → Upto n k

upto : (k n : ℕ) → k < suc n → Upto n k
upto zero zero low = Here refl
upto zero (suc n) low = Below (omega arith)
upto (suc k) zero low = absurd (omega arith)
upto (suc k) (suc n) low = more (upto k n (omega arith)) where
  more : Upto n k → Upto (suc n) (suc k)
  more (Here e) = Here (ap suc e)
  more (Below l) = Below (omega arith)

pub enters : (s : Store) (rows : List Row) (p : Place) (row : Row) → Fit s rows p → p.used < length rows → Inner s p.row.left_cell row
    → Goes s (entered_rows rows p) (to_do s rows p) (entered p row)
enters s rows p row fit room i = by (pairs_of p.row.count) where
  waiting : 1 < p.row.count → (k : ℕ) → Upto p.used k → Fits s k (get_or (set rows p.used (next_row p.row)) k no_row)
  waiting more k (Here e) =
      subst (λ k. Fits s k (get_or (set rows p.used (next_row p.row)) k no_row)) (sym e)
      (subst (Fits s p.used) (sym (get_or-set_same rows p.used (next_row p.row) no_row room)) (record { row = is_next s p.row fit.row.row more; room = fit.row.room }))
  waiting more k (Below low) = subst (Fits s k) (sym (get_or-set_other rows p.used k (next_row p.row) no_row (omega arith))) (fit.below k low)

  by : Pairs p.row.count → Goes s (entered_rows rows p) (to_do s rows p) (entered p row)
  by (Others more) =
      let place = lower_place s p.row.left_cell row i in
      let less = cost_inner s p.row row i in
      let rest = cost_next s p.row fit.row.row.some in
      let one = ap (cost s) (get_or-set_same rows p.used (next_row p.row) no_row room) in
      let all = costs_kept s rows p.used (next_row p.row) p.used (omega arith) in
      subst (λ e. Goes s e.0 (to_do s rows p) e.1) (sym (entered_more rows p row more)) (record {
        fit = record { row = record { row = i.row; room = omega (arith, fit.row.room) }; below = λ k low. waiting more k (upto k p.used low) };
        less = omega arith;
      })
  by (Last one) =
      let place = lower_place s p.row.left_cell row i in
      let less = cost_inner s p.row row i in
      let rest = cost_next s p.row fit.row.row.some in
      subst (λ e. Goes s e.0 (to_do s rows p) e.1) (sym (entered_last rows p row one)) (record {
        fit = record { row = record { row = i.row; room = omega (arith, fit.row.room) }; below = fit.below };
        less = omega arith;
      })
