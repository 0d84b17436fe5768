-- Rows that wait: one is pushed, one goes on by a word, one is closed.
use Rattle.std.proofs.Common.{◌≡◌, ◌≢◌, ℕ, zero, suc, ◌+◌, ◌-◌, ◌*◌, ◌%◌, ◌^◌, ◌<◌, ◌≤◌, Bool, true, false, List, [], ◌++◌, length, set, get_or, Some, nat_eq, if◌then◌else◌, refl, sym, ap, subst, ◌∙◌, arith, append_assoc, codes}
use Rattle.std.proofs.lemmas.Bool.Decides.{nat_tests}
use Rattle.std.proofs.lemmas.List.{get_or-set_same, get_or-set_other}
use Rattle.tagged_words.specs.declared.addresses.TheConstants.{HEAP_START}
use Rattle.tagged_words.specs.Seen.{Seen, AllSeen, No, More, Sees, SeesAll, seen_size}
use Rattle.tagged_words.specs.Store.{Store, word_of}
use Rattle.term_tree.specs.Text.{text_of, behind_head, behind_element}
use Rattle.term_tree.specs.Tree as t
use Rattle.word_walks.proofs.Walked.{then_assoc, nothing_first}
use Rattle.word_walks.specs.declared.scratch.Inside.{Inside}
use Rattle.word_walks.specs.declared.scratch.Inside.TheVariants as inside
use Rattle.word_walks.specs.declared.scratch.Row.{Row}
use Rattle.word_walks.specs.declared.scratch.TheConstants.{BLANK}
use Rattle.word_walks.specs.declared.shown.Place.{Place}
use Rattle.word_walks.specs.declared.shown.Place.TheVariants.{First, Tail}
use Rattle.word_walks.specs.Shown.{mark_of, place_of, inside_after, rest_of}
use Rattle.word_walks.specs.Spelt.{Walked, then_walked, walked, all_walked, tree_in, trees_in}
use Rattle.word_walks.specs.Waiting.{tail_text, place_text, list_text, row_text, so_far, RowWaits, Waits, Left, IsListEnd, Ahead}

-- ---- texts

pub behind_tail : (v : t.Tree) → behind_head v ≡ tail_text v ++ codes "]"
behind_tail (t.Int i) = refl
behind_tail (t.Atom a) = refl
behind_tail t.Nil = refl
behind_tail (t.Cons h v) = ap (λ r. codes "," ++ (text_of h ++ r)) (behind_tail v) ∙ ap (λ r. codes "," ++ r) (sym (append_assoc (text_of h) (tail_text v) (codes "]")))
behind_tail (t.Tuple ts) = refl

-- ---- an address of a word is below 2^32

pub address_low : (s : Store) (at x : ℕ) → HEAP_START + 4 * length s.heap ≤ 2 ^ 32 → word_of s at ≡ Some x → at < 2 ^ 32
address_low s at x end there = grind (arith, nat_tests)

pub wrapped : (s : Store) (names : List (List ℕ)) (limit at : ℕ) (vs : AllSeen) → HEAP_START + 4 * length s.heap ≤ 2 ^ 32 → SeesAll s names limit at vs → SeesAll s names limit (at % 2 ^ 32) vs
wrapped s names limit at No end sees = tt
wrapped s names limit at (More v vs) end sees =
    let low : at < 2 ^ 32 = address_low s at sees.0 end sees.1 in
    let same : at ≡ at % 2 ^ 32 = omega arith in
    subst (λ a. SeesAll s names limit a (More v vs)) same sees

-- ---- rows

module _ (s : Store) (names : List (List ℕ)) where
  -- a row behind those that wait changes nothing
  pub still_waits : (rows : List Row) (used index : ℕ) (row : Row) (text : List ℕ) (all : Walked) → used ≤ index → Waits s names rows used text all → Waits s names (set rows index row) used text all
  unfolding Waits
  still_waits rows zero index row text all behind w = w
  still_waits rows (suc k) index row text all behind w =
      let other : k ≢ index = omega arith in
      let same : get_or rows k BLANK ≡ get_or (set rows index row) k BLANK = sym (get_or-set_other rows index k row BLANK other) in
      (w.0, w.1, subst (λ r. RowWaits s names r w.0 w.1 text all) same w.2, still_waits rows k index row w.0 w.1 (omega arith) w.3)

  -- one row more waits
  pub one_more_waits : (rows : List Row) (used : ℕ) (row : Row) (more text : List ℕ) (later all : Walked) → used < length rows → Waits s names rows used more later → RowWaits s names row more later text all
      → Waits s names (set rows used row) (used + 1) text all
  unfolding Waits
  one_more_waits rows used row more text later all room w r =
      let next : suc used ≡ used + 1 = omega arith in
      let same : row ≡ get_or (set rows used row) used BLANK = sym (get_or-set_same rows used row BLANK room) in
      let first : RowWaits s names (get_or (set rows used row) used BLANK) more later text all = subst (λ y. RowWaits s names y more later text all) same r in
      let others : Waits s names (set rows used row) used more later = still_waits rows used used row more later (omega arith) w in
      let both : Waits s names (set rows used row) (suc used) text all = (more, later, first, others) in
      subst (λ n. Waits s names (set rows used row) n text all) next both

  -- the last row that waits
  pub record LastWaits (rows : List Row) (last : ℕ) (text : List ℕ) (all : Walked) : Type 0 where
    pub more : List ℕ
    pub later : Walked
    pub row : RowWaits s names (get_or rows last BLANK) more later text all
    pub others : Waits s names rows last more later

  pub last_waits : (rows : List Row) (used last : ℕ) (text : List ℕ) (all : Walked) → used ≡ last + 1 → Waits s names rows used text all → LastWaits rows last text all
  unfolding Waits
  last_waits rows used last text all e w =
      let is : used ≡ suc last = omega arith in
      let z : Waits s names rows (suc last) text all = subst (λ n. Waits s names rows n text all) is w in
      record { more = z.0; later = z.1; row = z.2; others = z.3 }

  pub none_waits : (rows : List Row) (text : List ℕ) (all : Walked) → Waits s names rows 0 text all → (text ≡ []) × (all ≡ so_far 0)
  unfolding Waits
  none_waits rows text all w = w

  -- only the closing bracket of a list is left of a row
  pub list_closed : (row : Row) (more text : List ℕ) (later all : Walked) → IsListEnd row → RowWaits s names row more later text all → (text ≡ codes "]" ++ more) × (all ≡ later)
  list_closed row more text later all end r = all_taken r.words (r.count ∙ end.count) r.spelt r.walked
    where
      all_taken : (words : AllSeen) → seen_size words ≡ 0 → text ≡ row_text row.inside (trees_in words) ++ more → all ≡ then_walked (all_walked words) later → (text ≡ codes "]" ++ more) × (all ≡ later)
      all_taken No none spelt nodes = (spelt ∙ ap (λ i. row_text i t.No ++ more) end.inside, nodes ∙ nothing_first later)
      all_taken (More v vs) none spelt nodes = absurd (omega arith)

  -- the bracket of a row with no word left comes, and the row goes
  pub row_closes : (rows : List Row) (used last : ℕ) (out out_after : List ℕ) (nodes : ℕ) (row : Row) (text : List ℕ) (all : Walked) → used ≡ last + 1 → row ≡ get_or rows last BLANK → row.count ≡ 0
      → out_after ≡ out ++ mark_of row.inside → Left s names rows used out nodes text all → Left s names rows last out_after nodes text all
  row_closes rows used last out out_after nodes row text all e is none out_is left =
      let w : LastWaits rows last left.more left.later = last_waits rows used last left.more left.later e left.waits in
      let r : RowWaits s names row w.more w.later left.more left.later = subst (λ y. RowWaits s names y w.more w.later left.more left.later) (sym is) w.row in
      let closed = all_taken row w.more left.more w.later left.later none r in
      record {
        more = w.more;
        later = w.later;
        waits = w.others;
        spelt = left.spelt ∙ ap (λ m. out ++ m) closed.0 ∙ sym (append_assoc out (mark_of row.inside) w.more) ∙ ap (λ o. o ++ w.more) (sym out_is);
        walked = left.walked ∙ ap (λ l. then_walked (so_far nodes) l) closed.1;
      }
    where
      mark_only : (i : Inside) → row_text i t.No ≡ mark_of i
      mark_only inside.List = refl
      mark_only inside.Elements = refl
      mark_only inside.Others = refl

      all_taken : (row : Row) (more text : List ℕ) (later all : Walked) → row.count ≡ 0 → RowWaits s names row more later text all → (text ≡ mark_of row.inside ++ more) × (all ≡ later)
      all_taken row more text later all none r = go r.words (r.count ∙ none) r.spelt r.walked
        where
          go : (words : AllSeen) → seen_size words ≡ 0 → text ≡ row_text row.inside (trees_in words) ++ more → all ≡ then_walked (all_walked words) later → (text ≡ mark_of row.inside ++ more) × (all ≡ later)
          go No none spelt nodes = (spelt ∙ ap (λ m. m ++ more) (mark_only row.inside), nodes ∙ nothing_first later)
          go (More v vs) none spelt nodes = absurd (omega arith)

  -- ---- a row goes on by a word

  one_left : (n : ℕ) → nat_eq (1 + (1 + n)) 1 ≡ false
  one_left n = grind (arith, nat_tests)

  text_by_word : (i : Inside) (v : Seen) (vs : AllSeen) → row_text i (trees_in (More v vs)) ≡ place_text (place_of i (1 + seen_size vs)) (tree_in v) ++ row_text (inside_after i) (trees_in vs)
  text_by_word inside.List v No = refl
  text_by_word inside.List v (More u us) = ap (λ b. place_text (if b then Tail else First) (tree_in v) ++ list_text (trees_in (More u us))) (sym (one_left (seen_size us)))
  text_by_word inside.Elements v vs = append_assoc (text_of (tree_in v)) (behind_element (trees_in vs)) (codes "}")
  text_by_word inside.Others v vs = ap (λ r. codes "," ++ r) (append_assoc (text_of (tree_in v)) (behind_element (trees_in vs)) (codes "}"))

  tail_is_last : (i : Inside) (count : ℕ) → place_of i count ≡ Tail → (count ≡ 1) × (inside_after i ≡ inside.List)
  tail_is_last inside.List count e = (last count (nat_eq count 1) refl e, refl)
    where
      last : (n : ℕ) (b : Bool) → nat_eq n 1 ≡ b → (if b then Tail else First) ≡ Tail → n ≡ 1
      last n true is e = grind (arith, nat_tests)
      last n false is e = absurd cc
  tail_is_last inside.Elements count e = absurd cc
  tail_is_last inside.Others count e = absurd cc

  -- the next word of a row, and what is left of the row
  record TakesWord (row : Row) (more : List ℕ) (later : Walked) (text : List ℕ) (all : Walked) : Type 0 where
    first : Seen
    word : ℕ
    there : word_of s row.left ≡ Some word
    sees : Sees s names row.left_cell word first
    rest_text : List ℕ
    rest_nodes : Walked
    rest : RowWaits s names (rest_of row) more later rest_text rest_nodes
    spelt : text ≡ place_text (place_of row.inside row.count) (tree_in first) ++ rest_text
    walked : all ≡ then_walked (walked first) rest_nodes

  takes_word : (row : Row) (more text : List ℕ) (later all : Walked) → HEAP_START + 4 * length s.heap ≤ 2 ^ 32 → (row.count ≡ 0 → ⊥) → RowWaits s names row more later text all → TakesWord row more later text all
  takes_word row more text later all top some r = go r.words r.count r.seen r.spelt r.walked
    where
      go : (words : AllSeen) → seen_size words ≡ row.count → SeesAll s names row.left_cell row.left words → text ≡ row_text row.inside (trees_in words) ++ more → all ≡ then_walked (all_walked words) later → TakesWord row more later text all
      go No count seen spelt nodes = absurd (some (sym count))
      go (More v vs) count seen spelt nodes =
          let behind : List ℕ = row_text (inside_after row.inside) (trees_in vs) in
          let fewer : seen_size vs ≡ row.count - 1 = omega arith in
          let place : place_text (place_of row.inside (1 + seen_size vs)) (tree_in v) ≡ place_text (place_of row.inside row.count) (tree_in v) = ap (λ n. place_text (place_of row.inside n) (tree_in v)) count in
          record {
            first = v;
            word = seen.0;
            there = seen.1;
            sees = seen.2;
            rest_text = behind ++ more;
            rest_nodes = then_walked (all_walked vs) later;
            rest = record { words = vs; count = fewer; seen = wrapped s names row.left_cell (row.left + 4) vs top seen.3; spelt = refl; walked = refl };
            spelt = spelt ∙ ap (λ x. x ++ more) (text_by_word row.inside v vs ∙ ap (λ x. x ++ behind) place) ∙ append_assoc (place_text (place_of row.inside row.count) (tree_in v)) behind more;
            walked = nodes ∙ sym (then_assoc (walked v) (all_walked vs) later);
          }

  pub row_goes_on : (rows after : List Row) (used last : ℕ) (out : List ℕ) (nodes word : ℕ) (row : Row) (place : Place) (text : List ℕ) (all : Walked) → HEAP_START + 4 * length s.heap ≤ 2 ^ 32 → used ≡ last + 1 → used ≤ length rows
      → row ≡ get_or rows last BLANK → (row.count ≡ 0 → ⊥) → word_of s row.left ≡ Some word → after ≡ set rows last (rest_of row) → place ≡ place_of row.inside row.count
      → Left s names rows used out nodes text all → Ahead s names after used out nodes row.left_cell word place text all
  row_goes_on rows after used last out nodes word row place text all top e room is some word_is after_is place_is left =
      let w : LastWaits rows last left.more left.later = last_waits rows used last left.more left.later e left.waits in
      let r : RowWaits s names row w.more w.later left.more left.later = subst (λ y. RowWaits s names y w.more w.later left.more left.later) (sym is) w.row in
      let within : last < length rows = omega arith in
      let take = takes_word row w.more left.more w.later left.later top some r in
      let same_word : take.word ≡ word = cc in
      let waits : Waits s names (set rows last (rest_of row)) (last + 1) take.rest_text take.rest_nodes = one_more_waits rows last (rest_of row) w.more take.rest_text w.later take.rest_nodes within w.others take.rest in
      let at_used : Waits s names (set rows last (rest_of row)) used take.rest_text take.rest_nodes = subst (λ n. Waits s names (set rows last (rest_of row)) n take.rest_text take.rest_nodes) (sym e) waits in
      let before : used - 1 ≡ last = omega arith in
      let here : get_or after (used - 1) BLANK ≡ rest_of row = ap (λ n. get_or after n BLANK) before ∙ ap (λ a. get_or a last BLANK) after_is ∙ get_or-set_same rows last (rest_of row) BLANK within in
      record {
        seen = take.first;
        more = take.rest_text;
        later = take.rest_nodes;
        sees = subst (λ x. Sees s names row.left_cell x take.first) same_word take.sees;
        waits = subst (λ a. Waits s names a used take.rest_text take.rest_nodes) (sym after_is) at_used;
        end = λ tail. (omega arith, subst IsListEnd (sym here) (list_end row (tail_is_last row.inside row.count (sym place_is ∙ tail))));
        spelt = left.spelt ∙ ap (λ m. out ++ m) (take.spelt ∙ ap (λ p. place_text p (tree_in take.first) ++ take.rest_text) (sym place_is));
        walked = left.walked ∙ ap (λ l. then_walked (so_far nodes) l) take.walked;
      }
    where
      list_end : (row : Row) → (row.count ≡ 1) × (inside_after row.inside ≡ inside.List) → IsListEnd (rest_of row)
      list_end row h = let one = h.0 in record { count = omega arith; inside = h.1 }
