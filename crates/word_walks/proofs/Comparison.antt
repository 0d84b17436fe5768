-- What holds wherever a comparison of two cells stands, step by step.
use Rattle.std.proofs.Common.{◌≡◌, ℕ, ◌<◌, Option, Some, List, length, length-set, refl, ap, sym, subst, ◌∙◌, arith}
use Rattle.std.specs.declared.cmp.Ordering.{Ordering}
use Rattle.std.specs.declared.cmp.Ordering.TheVariants.{Equal}
use Rattle.tagged_words.specs.Seen.{AllSeen}
use Rattle.tagged_words.specs.Store.{Store, words_in}
use Rattle.word_walks.specs.declared.comparing.Meeting.TheVariants as meeting
use Rattle.word_walks.specs.declared.comparing.Place.{Place}
use Rattle.word_walks.specs.declared.scratch.Row.{Row}
use Rattle.word_walks.specs.Compared.{Is, Meets, all_compared}
use Rattle.word_walks.specs.Pairs.{row_meets, left_place, entered, entered_rows, IsRow, SeesRows}
use Rattle.word_walks.proofs.Descents.{row_descends}
use Rattle.word_walks.proofs.Meetings.{Outcome, then_end}
use Rattle.word_walks.proofs.PairsAhead.{Waits, Stands, Next, First, first_of, decided, goes_on, goes_down, Pairs, Others, Last, pairs_of, entered_more, entered_last}
use Rattle.word_walks.proofs.Walking.{Fit, Goes, MayGo, fits_first, leaves, enters, to_do}

-- what is found of the first two cells is found from here, all words are there, and there is room
pub record Walks (s : Store) (names : List (List ℕ)) (first : Row) (rows : List Row) (p : Place) : Type 0 where
  pub stands : (xs ys : AllSeen) → SeesRows s names first xs ys → Stands s names rows p (all_compared xs ys)
  pub fit : Fit s rows p
  pub room : words_in s < length rows

pub begins : (s : Store) (names : List (List ℕ)) (first : Row) (rows : List Row) → IsRow s first → words_in s < length rows → Walks s names first rows (record { row = first; used = 0 })
begins s names first rows r room = record {
  stands = λ xs ys sees. record { xs = xs; ys = ys; rest = Is Equal; sees = sees; is = sym (then_end (all_compared xs ys)); waits = refl };
  fit = fits_first s rows first r;
  room = room;
}

module _ (s : Store) (names : List (List ℕ)) (first : Row) (rows : List Row) (p : Place) (w : Walks s names first rows p) where
  pub pair : (xs ys : AllSeen) → SeesRows s names first xs ys → First s names p.row (Waits s names rows p.used) (all_compared xs ys)
  pair xs ys sees = first_of s names p.row (Waits s names rows p.used) (all_compared xs ys) w.fit.row.row.some (w.stands xs ys sees)

  pub meets_bad : (v : ℕ) → row_meets s names p.row ≡ meeting.Bad v → (xs ys : AllSeen) → SeesRows s names first xs ys → Meets v ≡ all_compared xs ys
  meets_bad v e xs ys sees =
      let h = pair xs ys sees in
      let is = subst (λ m. Outcome s names m h.head) e h.meets in
      sym (decided s names p.row (Waits s names rows p.used) (all_compared xs ys) h (λ same. let j = sym is ∙ same in cc) ∙ is)

  pub meets_different : (o : Ordering) → row_meets s names p.row ≡ meeting.Differ o → (xs ys : AllSeen) → SeesRows s names first xs ys → Is o ≡ all_compared xs ys
  meets_different o e xs ys sees =
      let h = pair xs ys sees in
      let is = subst (λ m. Outcome s names m h.head) e h.meets in
      sym (decided s names p.row (Waits s names rows p.used) (all_compared xs ys) h (λ same. is.1 (let j = sym is.0 ∙ same in cc)) ∙ is.0)

  pub has_next_place : row_meets s names p.row ≡ meeting.Same → (place : Option Place) → place ≡ left_place rows p → (xs ys : AllSeen) → SeesRows s names first xs ys → Next s names rows (all_compared xs ys) place
  has_next_place e place i xs ys sees =
      let h = pair xs ys sees in
      subst (Next s names rows (all_compared xs ys)) (sym i) (goes_on s names rows p (all_compared xs ys) h (subst (λ m. Outcome s names m h.head) e h.meets))

  pub may_go : (place : Option Place) → place ≡ left_place rows p → MayGo s rows (to_do s rows p) place
  may_go place i = subst (MayGo s rows (to_do s rows p)) (sym i) (leaves s rows p w.fit)

  pub walks_on : row_meets s names p.row ≡ meeting.Same → (q : Place) → Some q ≡ left_place rows p → Walks s names first rows q
  walks_on e q i = record { stands = has_next_place e (Some q) i; fit = (may_go (Some q) i).fit; room = w.room }

  pub enters_row : (row : Row) → row_meets s names p.row ≡ meeting.Deeper row → Goes s (entered_rows rows p) (to_do s rows p) (entered p row)
  enters_row row e = enters s rows p row w.fit (omega (arith, w.room, w.fit.row.room)) (row_descends s names p.row row e)

  length-entered : (row : Row) → length (entered_rows rows p) ≡ length rows
  length-entered row = by (pairs_of p.row.count) where
    by : Pairs p.row.count → length (entered_rows rows p) ≡ length rows
    by (Others more) = ap (λ e. length e.0) (entered_more rows p row more) ∙ length-set rows p.used _
    by (Last one) = ap (λ e. length e.0) (entered_last rows p row one)

  pub walks_down : (row : Row) → row_meets s names p.row ≡ meeting.Deeper row → Walks s names first (entered_rows rows p) (entered p row)
  walks_down row e = record {
    stands = λ xs ys sees. let h = pair xs ys sees in goes_down s names rows p row (all_compared xs ys) h (omega (arith, w.room, w.fit.row.room)) (subst (λ m. Outcome s names m h.head) e h.meets);
    fit = (enters_row row e).fit;
    room = let same = length-entered row in omega (arith, w.room);
  }
