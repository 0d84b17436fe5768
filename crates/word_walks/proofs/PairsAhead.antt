-- What a comparison has still to look at: the rows that wait, what is found of them, and why there is an end and room.
use Rattle.std.proofs.Common.{◌≡◌, ℕ, zero, suc, ◌+◌, ◌-◌, ◌<◌, ◌≤◌, Option, Some, None, List, length, get_or, slice_index_or, set, refl, ap, sym, subst, ◌∙◌, arith}
use Rattle.std.specs.declared.cmp.Ordering.TheVariants.{Less, Equal, Greater}
use Rattle.std.proofs.lemmas.Bool.Decides.{nat_tests}
use Rattle.std.proofs.lemmas.List.{get_or-set_same, get_or-set_other}
use Rattle.tagged_words.specs.Seen.{AllSeen, No, More, seen_size, SeesAll}
use Rattle.tagged_words.specs.Store.{Store, word_of}
use Rattle.word_walks.specs.declared.comparing.Place.{Place}
use Rattle.word_walks.specs.declared.scratch.Row.{Row}
use Rattle.word_walks.specs.Compared.{Found, Is, Meets, then_found, compared, all_compared}
use Rattle.word_walks.specs.Pairs.{row_meets, pair_meets, next_row, no_row, left_place, entered, entered_rows, SeesRows}
use Rattle.word_walks.proofs.Meetings.{Outcome, Opened, outcome, none_compared}

-- ---- what is found

-- what is found of the words of a row and, behind them, of what P says
pub record Behind (s : Store) (names : List (List ℕ)) (row : Row) (P : Found → Type 0) (f : Found) : Type 0 where
  pub xs : AllSeen
  pub ys : AllSeen
  pub rest : Found
  pub sees : SeesRows s names row xs ys
  pub is : f ≡ then_found (all_compared xs ys) rest
  pub waits : P rest

-- the rows that wait, from the last one down
abbrev pub Waits : Store → List (List ℕ) → List Row → ℕ → Found → Type 0
Waits s names rows zero f = f ≡ Is Equal
Waits s names rows (suc k) f = Behind s names (get_or rows k no_row) (Waits s names rows k) f

abbrev pub Stands : Store → List (List ℕ) → List Row → Place → Found → Type 0
Stands s names rows p f = Behind s names p.row (Waits s names rows p.used) f

-- the first pair of a row apart from the others
pub record First (s : Store) (names : List (List ℕ)) (row : Row) (P : Found → Type 0) (f : Found) : Type 0 where
  pub head : Found
  pub xs : AllSeen
  pub ys : AllSeen
  pub rest : Found
  pub meets : Outcome s names (row_meets s names row) head
  pub left_size : 1 + seen_size xs ≡ row.count
  pub right_size : 1 + seen_size ys ≡ row.count
  pub left : SeesAll s names row.left_cell (row.left + 4) xs
  pub right : SeesAll s names row.right_cell (row.right + 4) ys
  pub is : f ≡ then_found (then_found head (all_compared xs ys)) rest
  pub waits : P rest

pub first_of : (s : Store) (names : List (List ℕ)) (row : Row) (P : Found → Type 0) (f : Found) → 0 < row.count → Behind s names row P f → First s names row P f
first_of s names row P f some b = parts b.xs b.ys b.sees b.is where
  parts : (xs ys : AllSeen) → SeesRows s names row xs ys → f ≡ then_found (all_compared xs ys) b.rest → First s names row P f
  parts No ys sees is = absurd (omega (arith, sees.left_size))
  parts (More x xs) No sees is = absurd (omega (arith, sees.right_size))
  parts (More x xs) (More y ys) sees is = record {
    head = compared x y;
    xs = xs;
    ys = ys;
    rest = b.rest;
    meets = subst (λ m. Outcome s names m (compared x y)) (sym (ap (λ a. pair_meets s names row a (word_of s row.right)) sees.left.1 ∙ ap (pair_meets s names row (Some sees.left.0)) sees.right.1))
        (outcome s names row.left_cell sees.left.0 row.right_cell sees.right.0 x y sees.left.2 sees.right.2);
    left_size = sees.left_size;
    right_size = sees.right_size;
    left = sees.left.3;
    right = sees.right.3;
    is = is;
    waits = b.waits;
  }

then_then : (f g h : Found) → then_found (then_found f g) h ≡ then_found f (then_found g h)
then_then (Is Less) g h = refl
then_then (Is Equal) g h = refl
then_then (Is Greater) g h = refl
then_then (Meets w) g h = refl

then_unequal : (f g : Found) → (f ≡ Is Equal → ⊥) → then_found f g ≡ f
then_unequal (Is Less) g n = refl
then_unequal (Is Equal) g n = absurd (n refl)
then_unequal (Is Greater) g n = refl
then_unequal (Meets w) g n = refl

-- a first pair that decides
pub decided : (s : Store) (names : List (List ℕ)) (row : Row) (P : Found → Type 0) (f : Found) (h : First s names row P f) → (h.head ≡ Is Equal → ⊥) → f ≡ h.head
decided s names row P f h n =
    h.is ∙ then_then h.head (all_compared h.xs h.ys) h.rest ∙ then_unequal h.head (then_found (all_compared h.xs h.ys) h.rest) n

-- the other pairs of a row that has more than one
others : (s : Store) (names : List (List ℕ)) (row : Row) (P : Found → Type 0) (f : Found) (h : First s names row P f) → Behind s names (next_row row) P (then_found (all_compared h.xs h.ys) h.rest)
others s names row P f h = record {
  xs = h.xs;
  ys = h.ys;
  rest = h.rest;
  sees = record { left_size = omega (arith, h.left_size); right_size = omega (arith, h.right_size); left = h.left; right = h.right };
  is = refl;
  waits = h.waits;
}

-- there is none in a row of one
no_others : (s : Store) (names : List (List ℕ)) (row : Row) (P : Found → Type 0) (f : Found) (h : First s names row P f) → row.count ≤ 1 → then_found (all_compared h.xs h.ys) h.rest ≡ h.rest
no_others s names row P f h one = ap (λ g. then_found g h.rest) (none_compared h.xs h.ys (omega (arith, h.left_size)))

-- what is found where the first pair is equal
behind_same : (s : Store) (names : List (List ℕ)) (row : Row) (P : Found → Type 0) (f : Found) (h : First s names row P f) → h.head ≡ Is Equal → f ≡ then_found (all_compared h.xs h.ys) h.rest
behind_same s names row P f h e = h.is ∙ then_then h.head (all_compared h.xs h.ys) h.rest ∙ ap (λ g. then_found g (then_found (all_compared h.xs h.ys) h.rest)) e

-- what is found behind a pair, by the place that is next
abbrev pub Next : Store → List (List ℕ) → List Row → Found → Option Place → Type 0
Next s names rows f None = f ≡ Is Equal
Next s names rows f (Some p) = Stands s names rows p f

pub place_more : (rows : List Row) (p : Place) → 1 < p.row.count → left_place rows p ≡ Some (record { row = next_row p.row; used = p.used })
place_more rows p more = grind (arith, nat_tests)

pub place_end : (rows : List Row) (p : Place) → p.row.count ≤ 1 → p.used ≡ 0 → left_place rows p ≡ None
place_end rows p one e = grind (arith, nat_tests)

pub place_down : (rows : List Row) (p : Place) (k : ℕ) → p.row.count ≤ 1 → p.used ≡ suc k → left_place rows p ≡ Some (record { row = get_or rows k no_row; used = k })
place_down rows p k one e =
    let j : p.used - 1 ≡ k = omega (arith, e) in
    let i : left_place rows p ≡ Some (record { row = slice_index_or rows (p.used - 1) no_row; used = p.used - 1 }) = grind (arith, nat_tests) in
    subst (λ n. left_place rows p ≡ Some (record { row = get_or rows n no_row; used = n })) j i

-- how many pairs a row has
pub data Pairs : ℕ → Type 0 where
  Others : {n : ℕ} → 1 < n → Pairs n
  Last : {n : ℕ} → n ≤ 1 → Pairs n

pub pairs_of : (n : ℕ) → Pairs n
pairs_of zero = Last (omega arith)
pairs_of (suc zero) = Last (omega arith)
pairs_of (suc (suc n)) = Others (omega arith)

pub goes_on : (s : Store) (names : List (List ℕ)) (rows : List Row) (p : Place) (f : Found) (h : First s names p.row (Waits s names rows p.used) f) → h.head ≡ Is Equal
    → Next s names rows f (left_place rows p)
goes_on s names rows p f h e = by (pairs_of p.row.count) where
  found : f ≡ then_found (all_compared h.xs h.ys) h.rest
  found = behind_same s names p.row (Waits s names rows p.used) f h e

  down : (used : ℕ) → p.used ≡ used → p.row.count ≤ 1 → Waits s names rows used f → Next s names rows f (left_place rows p)
  down zero i one w = subst (Next s names rows f) (sym (place_end rows p one i)) w
  down (suc k) i one w = subst (Next s names rows f) (sym (place_down rows p k one i)) w

  by : Pairs p.row.count → Next s names rows f (left_place rows p)
  by (Others more) = subst (Next s names rows f) (sym (place_more rows p more))
      (subst (Behind s names (next_row p.row) (Waits s names rows p.used)) (sym found) (others s names p.row (Waits s names rows p.used) f h))
  by (Last one) = down p.used refl one (subst (Waits s names rows p.used) (sym (found ∙ no_others s names p.row (Waits s names rows p.used) f h one)) h.waits)

-- where a first pair leads to a row
pub entered_more : (rows : List Row) (p : Place) (row : Row) → 1 < p.row.count
    → ◌≡◌ {A = List Row × Place} (entered_rows rows p, entered p row) (set rows p.used (next_row p.row), record { row = row; used = suc p.used })
entered_more rows p row more =
    let i : entered_rows rows p ≡ set rows p.used (next_row p.row) = grind (arith, nat_tests) in
    let j : entered p row ≡ record { row = row; used = suc p.used } = grind (arith, nat_tests) in
    rw (i, j) refl

pub entered_last : (rows : List Row) (p : Place) (row : Row) → p.row.count ≤ 1
    → ◌≡◌ {A = List Row × Place} (entered_rows rows p, entered p row) (rows, record { row = row; used = p.used })
entered_last rows p row one =
    let i : entered_rows rows p ≡ rows = grind (arith, nat_tests) in
    let j : entered p row ≡ record { row = row; used = p.used } = grind (arith, nat_tests) in
    rw (i, j) refl

-- rows that wait do not change with those above them
kept : (s : Store) (names : List (List ℕ)) (rows : List Row) (used : ℕ) (row : Row) (k : ℕ) (f : Found) → k ≤ used → Waits s names rows k f → Waits s names (set rows used row) k f
kept s names rows used row zero f low w = w
kept s names rows used row (suc k) f low w =
    let same = get_or-set_other rows used k row no_row (omega arith) in
    record { xs = w.xs; ys = w.ys; rest = w.rest; sees = subst (λ r. SeesRows s names r w.xs w.ys) (sym same) w.sees; is = w.is; waits = kept s names rows used row k w.rest (omega arith) w.waits }

pub goes_down : (s : Store) (names : List (List ℕ)) (rows : List Row) (p : Place) (row : Row) (f : Found) (h : First s names p.row (Waits s names rows p.used) f) → p.used < length rows → Opened s names row h.head
    → Stands s names (entered_rows rows p) (entered p row) f
goes_down s names rows p row f h room o = by (pairs_of p.row.count) where
  found : f ≡ then_found (all_compared o.xs o.ys) (then_found (all_compared h.xs h.ys) h.rest)
  found = h.is ∙ then_then h.head (all_compared h.xs h.ys) h.rest ∙ ap (λ g. then_found g (then_found (all_compared h.xs h.ys) h.rest)) o.is

  waits : Waits s names (set rows p.used (next_row p.row)) (suc p.used) (then_found (all_compared h.xs h.ys) h.rest)
  waits =
      let b = others s names p.row (Waits s names rows p.used) f h in
      record {
        xs = b.xs;
        ys = b.ys;
        rest = b.rest;
        sees = subst (λ r. SeesRows s names r b.xs b.ys) (sym (get_or-set_same rows p.used (next_row p.row) no_row room)) b.sees;
        is = b.is;
        waits = kept s names rows p.used (next_row p.row) p.used b.rest (omega arith) b.waits;
      }

  by : Pairs p.row.count → Stands s names (entered_rows rows p) (entered p row) f
  by (Others more) = subst (λ e. Stands s names e.0 e.1 f) (sym (entered_more rows p row more))
      (record { xs = o.xs; ys = o.ys; rest = then_found (all_compared h.xs h.ys) h.rest; sees = o.sees; is = found; waits = waits })
  by (Last one) = subst (λ e. Stands s names e.0 e.1 f) (sym (entered_last rows p row one))
      (record { xs = o.xs; ys = o.ys; rest = h.rest; sees = o.sees; is = found ∙ ap (then_found (all_compared o.xs o.ys)) (no_others s names p.row (Waits s names rows p.used) f h one); waits = h.waits })
