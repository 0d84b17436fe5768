-- A word that is come by: what it shows goes to the text, and what is in its cell waits.
use Rattle.std.proofs.Common.{◌≡◌, ℕ, ℤ, ◌+◌, ◌-◌, ◌*◌, ◌%◌, ◌^◌, ◌<◌, ◌≤◌, Bool, true, false, List, ◌++◌, length, set, get_or, Some, None, slice_get, nat_eq, if◌then◌else◌, refl, sym, ap, subst, ◌∙◌, arith, append_assoc, codes}
use Rattle.std.proofs.lemmas.Bool.Decides.{nat_tests}
use Rattle.tagged_words.specs.declared.addresses.TheConstants.{HEAP_START}
use Rattle.tagged_words.specs.declared.look.Look.{Look}
use Rattle.tagged_words.specs.declared.look.Look.TheVariants as look
use Rattle.tagged_words.specs.Look.{look_of}
use Rattle.tagged_words.specs.Seen.{Seen, AllSeen, Int, Atom, Nil, Cons, Tuple, Bad, No, More, Sees, SeesAll, seen_size}
use Rattle.tagged_words.specs.Store.{Store}
use Rattle.term_tree.specs.Text.{text_of, behind_head}
use Rattle.term_tree.specs.Tree as t
use Rattle.word_walks.proofs.Waiting.{behind_tail, wrapped, one_more_waits, last_waits, list_closed, LastWaits}
use Rattle.word_walks.proofs.Walked.{then_assoc, then_grows, nothing_last, one_more}
use Rattle.word_walks.specs.declared.scratch.Inside.TheVariants as inside
use Rattle.word_walks.specs.declared.scratch.Row.{Row}
use Rattle.word_walks.specs.declared.scratch.TheConstants.{BLANK}
use Rattle.word_walks.specs.declared.shown.Place.{Place}
use Rattle.word_walks.specs.declared.shown.Place.TheVariants.{First, Behind, Tail}
use Rattle.word_walks.specs.Shown.{is_bad, name_shown, shown, opened, row_index, rows_with, used_with}
use Rattle.word_walks.specs.declared.walk.Step.{Step}
use Rattle.word_walks.specs.declared.walk.Step.TheVariants as step
use Rattle.word_walks.specs.Spelt.{Walked, one_node, then_walked, walked, all_walked, tree_in, trees_in}
use Rattle.word_walks.specs.Waiting.{tail_text, place_text, list_text, row_text, so_far, RowWaits, Waits, Left, IsListEnd, Ahead, StepHolds, stop}

-- ---- the row of a cell

-- the head and the tail of a cons
abbrev both : Seen → Seen → AllSeen
both head tail = More head (More tail No)

text_both : (h v : t.Tree) → text_of h ++ behind_head v ≡ list_text (t.More h (t.More v t.No))
text_both h v = ap (λ r. text_of h ++ r) (behind_tail v)

walked_both : (head tail : Seen) → walked (Cons head tail) ≡ then_walked one_node (all_walked (both head tail))
walked_both head tail = ap (λ r. then_walked one_node (then_walked (walked head) r)) (sym (nothing_last (walked tail)))

module _ (s : Store) (names : List (List ℕ)) where
  -- a term is known by one word
  pub shows_itself : (rows : List Row) (used : ℕ) (out front : List ℕ) (nodes : ℕ) (more text : List ℕ) (later all : Walked) → Waits s names rows used more later → text ≡ out ++ (front ++ more)
      → all ≡ then_walked (so_far nodes) (then_walked one_node later) → Left s names rows used (out ++ front) (nodes + 1) text all
  shows_itself rows used out front nodes more text later all waits spelt nodes_are = record {
    more = more;
    later = later;
    waits = waits;
    spelt = spelt ∙ sym (append_assoc out front more);
    walked = nodes_are ∙ one_more nodes later;
  }

  -- a cell is opened
  pub is_opened : (rows : List Row) (used : ℕ) (out front : List ℕ) (nodes : ℕ) (row : Row) (words : AllSeen) (more text : List ℕ) (later all : Walked) → used < length rows → seen_size words ≡ row.count
      → SeesAll s names row.left_cell row.left words → Waits s names rows used more later → text ≡ out ++ (front ++ (row_text row.inside (trees_in words) ++ more))
      → all ≡ then_walked (so_far nodes) (then_walked one_node (then_walked (all_walked words) later)) → Left s names (set rows used row) (used + 1) (out ++ front) (nodes + 1) text all
  is_opened rows used out front nodes row words more text later all room count sees waits spelt nodes_are =
      let next : List ℕ = row_text row.inside (trees_in words) ++ more in
      let rest : Walked = then_walked (all_walked words) later in
      let one : RowWaits s names row more later next rest = record { words = words; count = count; seen = sees; spelt = refl; walked = refl } in record {
        more = next;
        later = rest;
        waits = one_more_waits s names rows used row more next later rest room waits one;
        spelt = spelt ∙ sym (append_assoc out front next);
        walked = nodes_are ∙ one_more nodes rest;
      }

  -- ---- what a word shows by itself

  -- nothing but the whole text of an integer, an atom or `[]`
  by_itself : (place : Place) (rows : List Row) (used : ℕ) (out : List ℕ) (nodes : ℕ) (v : Seen) (l : Look) (more text : List ℕ) (later all : Walked) → opened l ≡ None → walked v ≡ one_node
      → place_text place (tree_in v) ≡ shown names place l → Waits s names rows used more later → text ≡ out ++ (place_text place (tree_in v) ++ more) → all ≡ then_walked (so_far nodes) (then_walked (walked v) later)
      → Left s names (rows_with (opened l) (row_index place l used) rows) (used_with (opened l) (row_index place l used) used) (out ++ shown names place l) (nodes + 1) text all
  by_itself place rows used out nodes v l more text later all none one same waits spelt nodes_are =
      let front : List ℕ = shown names place l in
      let spelt_so : text ≡ out ++ (front ++ more) = spelt ∙ ap (λ f. out ++ (f ++ more)) same in
      let nodes_so : all ≡ then_walked (so_far nodes) (then_walked one_node later) = nodes_are ∙ ap (λ w. then_walked (so_far nodes) (then_walked w later)) one in
      let left : Left s names rows used (out ++ front) (nodes + 1) text all = shows_itself rows used out front nodes more text later all waits spelt_so nodes_so in
      subst (λ o. Left s names (rows_with o (row_index place l used) rows) (used_with o (row_index place l used) used) (out ++ front) (nodes + 1) text all) (sym none) left

  -- its opening bracket, and a row behind the others
  by_cell : (place : Place) (rows : List Row) (used : ℕ) (out : List ℕ) (nodes : ℕ) (v : Seen) (l : Look) (row : Row) (words : AllSeen) (more text : List ℕ) (later all : Walked) → used < length rows → opened l ≡ Some row
      → row_index place l used ≡ used → seen_size words ≡ row.count → SeesAll s names row.left_cell row.left words → walked v ≡ then_walked one_node (all_walked words)
      → place_text place (tree_in v) ≡ shown names place l ++ row_text row.inside (trees_in words) → Waits s names rows used more later → text ≡ out ++ (place_text place (tree_in v) ++ more)
      → all ≡ then_walked (so_far nodes) (then_walked (walked v) later)
      → Left s names (rows_with (opened l) (row_index place l used) rows) (used_with (opened l) (row_index place l used) used) (out ++ shown names place l) (nodes + 1) text all
  by_cell place rows used out nodes v l row words more text later all room is at_end count sees nodes_of text_is waits spelt nodes_are =
      let front : List ℕ = shown names place l in
      let inner : List ℕ = row_text row.inside (trees_in words) in
      let spelt_so : text ≡ out ++ (front ++ (inner ++ more)) = spelt ∙ ap (λ f. out ++ (f ++ more)) text_is ∙ ap (λ r. out ++ r) (append_assoc front inner more) in
      let nodes_so : all ≡ then_walked (so_far nodes) (then_walked one_node (then_walked (all_walked words) later)) =
      nodes_are ∙ ap (λ w. then_walked (so_far nodes) (then_walked w later)) nodes_of ∙ ap (λ w. then_walked (so_far nodes) w) (sym (then_assoc one_node (all_walked words) later)) in
      let left : Left s names (set rows used row) (used + 1) (out ++ front) (nodes + 1) text all = is_opened rows used out front nodes row words more text later all room count sees waits spelt_so nodes_so in
      subst (λ o. Left s names (rows_with o (row_index place l used) rows) (used_with o (row_index place l used) used) (out ++ front) (nodes + 1) text all) (sym is)
      (subst (λ k. Left s names (set rows k row) (k + 1) (out ++ front) (nodes + 1) text all) (sym at_end) left)

  -- a comma, and a row in place of the last one, which had only its bracket left
  by_tail : (rows : List Row) (used : ℕ) (out : List ℕ) (nodes at : ℕ) (head tail : Seen) (row : Row) (more text : List ℕ) (later all : Walked) → used < length rows
      → 2 ≡ row.count → row.inside ≡ inside.List → SeesAll s names row.left_cell row.left (both head tail)
      → Waits s names rows used more later → (0 < used) × IsListEnd (get_or rows (used - 1) BLANK) → text ≡ out ++ (tail_text (tree_in (Cons head tail)) ++ more)
      → all ≡ then_walked (so_far nodes) (then_walked (walked (Cons head tail)) later)
      → Left s names (set rows (used - 1) row) (used - 1 + 1) (out ++ codes ",") (nodes + 1) text all
  by_tail rows used out nodes at head tail row more text later all room count is_list sees waits end spelt nodes_are =
      let above : 0 < used = end.0 in
      let last : LastWaits s names rows (used - 1) more later = last_waits s names rows used (used - 1) more later (omega arith) waits in
      let closed = list_closed s names (get_or rows (used - 1) BLANK) last.more more last.later later end.1 last.row in
      let h : t.Tree = tree_in head in
      let v : t.Tree = tree_in tail in
      let joined : (text_of h ++ tail_text v) ++ (codes "]" ++ last.more) ≡ row_text row.inside (trees_in (both head tail)) ++ last.more =
      append_assoc (text_of h) (tail_text v) (codes "]" ++ last.more) ∙ ap (λ r. text_of h ++ r) (sym (append_assoc (tail_text v) (codes "]") last.more))
      ∙ sym (append_assoc (text_of h) (tail_text v ++ codes "]") last.more) ∙ ap (λ i. row_text i (trees_in (both head tail)) ++ last.more) (sym is_list) in
      let spelt_so : text ≡ out ++ (codes "," ++ (row_text row.inside (trees_in (both head tail)) ++ last.more)) =
      spelt ∙ ap (λ m. out ++ (tail_text (t.Cons h v) ++ m)) closed.0 ∙ ap (λ r. out ++ (codes "," ++ r)) joined in
      let nodes_so : all ≡ then_walked (so_far nodes) (then_walked one_node (then_walked (all_walked (both head tail)) last.later)) =
      nodes_are ∙ ap (λ w. then_walked (so_far nodes) (then_walked (walked (Cons head tail)) w)) closed.1 ∙ ap (λ w. then_walked (so_far nodes) (then_walked w last.later)) (walked_both head tail)
      ∙ ap (λ w. then_walked (so_far nodes) w) (sym (then_assoc one_node (all_walked (both head tail)) last.later)) in
      is_opened rows (used - 1) out (codes ",") nodes row (both head tail) last.more text last.later all (omega arith) count sees last.others spelt_so nodes_so

  -- ---- all words

  -- what is to be shown of a word that shows a look
  abbrev Shows : Place → List Row → ℕ → List ℕ → ℕ → List ℕ → Walked → Look → Type 0
  Shows place rows used out nodes text all l =
      Left s names (rows_with (opened l) (row_index place l used) rows) (used_with (opened l) (row_index place l used) used) (out ++ shown names place l) (nodes + 1) text all

  text_int : (place : Place) (i : ℤ) → place_text place (t.Int i) ≡ shown names place (look.Small i)
  text_int First i = refl
  text_int Behind i = refl
  text_int Tail i = refl

  text_atom : (place : Place) (n : ℕ) (a : List ℕ) → slice_get names n ≡ Some a → place_text place (t.Atom a) ≡ shown names place (look.Atom n)
  text_atom First n a e = ap name_shown (sym e)
  text_atom Behind n a e = ap (λ o. codes "," ++ name_shown o) (sym e)
  text_atom Tail n a e = ap (λ o. codes "|" ++ name_shown o) (sym e)

  text_nil : (place : Place) → place_text place t.Nil ≡ shown names place look.Nil
  text_nil First = refl
  text_nil Behind = refl
  text_nil Tail = refl

  text_tuple : (place : Place) (at n : ℕ) (ts : t.Trees) → place_text place (t.Tuple ts) ≡ shown names place (look.Tuple at n) ++ row_text inside.Elements ts
  text_tuple First at n ts = refl
  text_tuple Behind at n ts = refl
  text_tuple Tail at n ts = refl

  index_tuple : (place : Place) (at n used : ℕ) → row_index place (look.Tuple at n) used ≡ used
  index_tuple First at n used = refl
  index_tuple Behind at n used = refl
  index_tuple Tail at n used = refl

  by_cons : (place : Place) (rows : List Row) (used : ℕ) (out : List ℕ) (nodes at : ℕ) (head tail : Seen) (more text : List ℕ) (later all : Walked) → used < length rows
      → SeesAll s names at at (both head tail) → Waits s names rows used more later → (place ≡ Tail → (0 < used) × IsListEnd (get_or rows (used - 1) BLANK))
      → text ≡ out ++ (place_text place (tree_in (Cons head tail)) ++ more) → all ≡ then_walked (so_far nodes) (then_walked (walked (Cons head tail)) later)
      → Shows place rows used out nodes text all (look.Cons at)
  by_cons First rows used out nodes at head tail more text later all room sees waits end spelt nodes_are =
      by_cell First rows used out nodes (Cons head tail) (look.Cons at) (record BLANK { left = at; left_cell = at; count = 2; inside = inside.List }) (both head tail) more text later all room refl refl refl sees
      (walked_both head tail) (ap (λ r. codes "[" ++ r) (text_both (tree_in head) (tree_in tail))) waits spelt nodes_are
  by_cons Behind rows used out nodes at head tail more text later all room sees waits end spelt nodes_are =
      by_cell Behind rows used out nodes (Cons head tail) (look.Cons at) (record BLANK { left = at; left_cell = at; count = 2; inside = inside.List }) (both head tail) more text later all room refl refl refl sees
      (walked_both head tail) (ap (λ r. codes "," ++ (codes "[" ++ r)) (text_both (tree_in head) (tree_in tail))) waits spelt nodes_are
  by_cons Tail rows used out nodes at head tail more text later all room sees waits end spelt nodes_are =
      by_tail rows used out nodes at head tail (record BLANK { left = at; left_cell = at; count = 2; inside = inside.List }) more text later all room refl refl sees waits (end refl) spelt nodes_are

  by_seen : (place : Place) (rows : List Row) (used : ℕ) (out : List ℕ) (nodes limit word : ℕ) (v : Seen) (more text : List ℕ) (later all : Walked) → HEAP_START + 4 * length s.heap ≤ 2 ^ 32
      → used < length rows → is_bad (look_of s names limit word) ≡ false → Sees s names limit word v → Waits s names rows used more later
      → (place ≡ Tail → (0 < used) × IsListEnd (get_or rows (used - 1) BLANK)) → text ≡ out ++ (place_text place (tree_in v) ++ more) → all ≡ then_walked (so_far nodes) (then_walked (walked v) later)
      → Shows place rows used out nodes text all (look_of s names limit word)
  by_seen place rows used out nodes limit word (Int i) more text later all top room good sees waits end spelt nodes_are =
      subst (Shows place rows used out nodes text all) (sym sees)
      (by_itself place rows used out nodes (Int i) (look.Small i) more text later all refl refl (text_int place i) waits spelt nodes_are)
  by_seen place rows used out nodes limit word (Atom a) more text later all top room good sees waits end spelt nodes_are =
      subst (Shows place rows used out nodes text all) (sym sees.1)
      (by_itself place rows used out nodes (Atom a) (look.Atom sees.0) more text later all refl refl (text_atom place sees.0 a sees.2) waits spelt nodes_are)
  by_seen place rows used out nodes limit word Nil more text later all top room good sees waits end spelt nodes_are =
      subst (Shows place rows used out nodes text all) (sym sees) (by_itself place rows used out nodes Nil look.Nil more text later all refl refl (text_nil place) waits spelt nodes_are)
  by_seen place rows used out nodes limit word (Cons head tail) more text later all top room good sees waits end spelt nodes_are =
      subst (Shows place rows used out nodes text all) (sym sees.3)
      (by_cons place rows used out nodes sees.0 head tail more text later all room (sees.1, sees.4, sees.6, (sees.2, sees.5, sees.7, tt)) waits end spelt nodes_are)
  by_seen place rows used out nodes limit word (Tuple vs) more text later all top room good sees waits end spelt nodes_are =
      let row : Row = record BLANK { left = (sees.0 + 4) % 2 ^ 32; left_cell = sees.0; count = seen_size vs; inside = inside.Elements } in
      subst (Shows place rows used out nodes text all) (sym sees.1)
      (by_cell place rows used out nodes (Tuple vs) (look.Tuple sees.0 (seen_size vs)) row vs more text later all room refl (index_tuple place sees.0 (seen_size vs) used) refl
      (wrapped s names sees.0 (sees.0 + 4) vs top sees.2) refl (text_tuple place sees.0 (seen_size vs) (trees_in vs)) waits spelt nodes_are)
  by_seen place rows used out nodes limit word (Bad w) more text later all top room good sees waits end spelt nodes_are =
      let e : is_bad (look_of s names limit word) ≡ true = ap is_bad sees.0 in absurd cc

  -- a word that stands for a term, where there is a node left
  pub is_shown : (rows : List Row) (used : ℕ) (out : List ℕ) (nodes limit word : ℕ) (place : Place) (text : List ℕ) (all : Walked) → HEAP_START + 4 * length s.heap ≤ 2 ^ 32
      → used < length rows → is_bad (look_of s names limit word) ≡ false → Ahead s names rows used out nodes limit word place text all
      → Shows place rows used out nodes text all (look_of s names limit word)
  is_shown rows used out nodes limit word place text all top room good a =
      by_seen place rows used out nodes limit word a.seen a.more text a.later all top room good a.sees a.waits a.end a.spelt a.walked

  -- ---- a word that stands for no term, and a budget that is used up

  bad_seen : (limit word : ℕ) (v : Seen) → is_bad (look_of s names limit word) ≡ true → Sees s names limit word v → v ≡ Bad word
  bad_seen limit word (Int i) bad sees = let e = ap is_bad sees in absurd cc
  bad_seen limit word (Atom a) bad sees = let e = ap is_bad sees.1 in absurd cc
  bad_seen limit word Nil bad sees = let e = ap is_bad sees in absurd cc
  bad_seen limit word (Cons head tail) bad sees = let e = ap is_bad sees.3 in absurd cc
  bad_seen limit word (Tuple vs) bad sees = let e = ap is_bad sees.1 in absurd cc
  bad_seen limit word (Bad w) bad sees = ap Bad sees.1

  pub meets_bad : (rows : List Row) (used : ℕ) (out : List ℕ) (nodes limit word budget : ℕ) (place : Place) (text : List ℕ) (all : Walked) → nodes ≤ budget → is_bad (look_of s names limit word) ≡ true
      → Ahead s names rows used out nodes limit word place text all → (all.nodes ≤ budget) × (all.bad ≡ Some word)
  meets_bad rows used out nodes limit word budget place text all within bad a =
      let is : a.seen ≡ Bad word = bad_seen limit word a.seen bad a.sees in
      let all_is : all ≡ then_walked (so_far nodes) (then_walked (walked (Bad word)) a.later) = a.walked ∙ ap (λ v. then_walked (so_far nodes) (then_walked (walked v) a.later)) is in
      let nodes_are : all.nodes ≡ nodes + 0 = ap (λ w. w.nodes) all_is in
      (omega arith, ap (λ w. w.bad) all_is)

  some_node : (limit word : ℕ) (v : Seen) → is_bad (look_of s names limit word) ≡ false → Sees s names limit word v → 1 ≤ (walked v).nodes
  some_node limit word (Int i) good sees = omega arith
  some_node limit word (Atom a) good sees = omega arith
  some_node limit word Nil good sees = omega arith
  some_node limit word (Cons head tail) good sees = then_grows one_node (then_walked (walked head) (walked tail))
  some_node limit word (Tuple vs) good sees = then_grows one_node (all_walked vs)
  some_node limit word (Bad w) good sees = let e : is_bad (look_of s names limit word) ≡ true = ap is_bad sees.0 in absurd cc

  pub meets_more : (rows : List Row) (used : ℕ) (out : List ℕ) (nodes limit word budget : ℕ) (place : Place) (text : List ℕ) (all : Walked) → nodes ≡ budget → is_bad (look_of s names limit word) ≡ false
      → Ahead s names rows used out nodes limit word place text all → budget < all.nodes
  meets_more rows used out nodes limit word budget place text all full good a =
      let one : 1 ≤ (walked a.seen).nodes = some_node limit word a.seen good a.sees in
      let grows : (walked a.seen).nodes ≤ (then_walked (walked a.seen) a.later).nodes = then_grows (walked a.seen) a.later in
      let nodes_are : all.nodes ≡ nodes + (then_walked (walked a.seen) a.later).nodes = ap (λ w. w.nodes) a.walked in
      omega arith

  -- the same of what was done for it
  pub was_shown : (rows after : List Row) (used behind : ℕ) (out text_after : List ℕ) (nodes limit word : ℕ) (place : Place) (l : Look) (text : List ℕ) (all : Walked) → HEAP_START + 4 * length s.heap ≤ 2 ^ 32
      → used < length rows → l ≡ look_of s names limit word → is_bad l ≡ false → after ≡ rows_with (opened l) (row_index place l used) rows → behind ≡ used_with (opened l) (row_index place l used) used
      → text_after ≡ out ++ shown names place l → Ahead s names rows used out nodes limit word place text all → Left s names after behind text_after (nodes + 1) text all
  was_shown rows after used behind out text_after nodes limit word place l text all top room look_is good rows_are used_is out_is a =
      let at_look : Shows place rows used out nodes text all (look_of s names limit word) = is_shown rows used out nodes limit word place text all top room (ap is_bad (sym look_is) ∙ good) a in
      let at_l : Shows place rows used out nodes text all l = subst (Shows place rows used out nodes text all) (sym look_is) at_look in
      subst (λ r. Left s names r behind text_after (nodes + 1) text all) (sym rows_are)
      (subst (λ u. Left s names (rows_with (opened l) (row_index place l used) rows) u text_after (nodes + 1) text all) (sym used_is)
      (subst (λ o. Left s names (rows_with (opened l) (row_index place l used) rows) (used_with (opened l) (row_index place l used) used) o (nodes + 1) text all) (sym out_is) at_l))

  -- ---- where the walk ends

  stopped_by : (rows : List Row) (used : ℕ) (out : List ℕ) (nodes limit word budget : ℕ) (place : Place) (text : List ℕ) (all : Walked) (bad full : Bool) (x : Step) → nodes ≤ budget → is_bad (look_of s names limit word) ≡ bad
      → nat_eq nodes budget ≡ full → (if bad then Some (step.Bad word) else if full then Some step.Large else None) ≡ Some x → Ahead s names rows used out nodes limit word place text all
      → StepHolds s names rows out budget x text all
  stopped_by rows used out nodes limit word budget place text all true full x within bad_is full_is e a =
      let same : step.Bad word ≡ x = cc in
      subst (λ y. StepHolds s names rows out budget y text all) same (meets_bad rows used out nodes limit word budget place text all within bad_is a)
  stopped_by rows used out nodes limit word budget place text all false true x within bad_is full_is e a =
      let same : step.Large ≡ x = cc in
      let equal : nodes ≡ budget = grind (arith, nat_tests) in
      subst (λ y. StepHolds s names rows out budget y text all) same (meets_more rows used out nodes limit word budget place text all equal bad_is a)
  stopped_by rows used out nodes limit word budget place text all false false x within bad_is full_is e a = absurd cc

  pub stopped : (rows : List Row) (used : ℕ) (out : List ℕ) (nodes limit word budget : ℕ) (place : Place) (l : Look) (text : List ℕ) (all : Walked) (x : Step) → nodes ≤ budget → l ≡ look_of s names limit word
      → stop l word nodes budget ≡ Some x → Ahead s names rows used out nodes limit word place text all → StepHolds s names rows out budget x text all
  stopped rows used out nodes limit word budget place l text all x within look_is e a =
      stopped_by rows used out nodes limit word budget place text all (is_bad (look_of s names limit word)) (nat_eq nodes budget) x within refl refl (ap (λ y. stop y word nodes budget) (sym look_is) ∙ e) a

-- one that does not end has a node left for a word that stands for a term
goes_by : (nodes budget word : ℕ) (bad full : Bool) (l : Look) → is_bad l ≡ bad → nat_eq nodes budget ≡ full → nodes ≤ budget → (if bad then Some (step.Bad word) else if full then Some step.Large else None) ≡ None
    → (is_bad l ≡ false) × (nodes < budget)
goes_by nodes budget word true full l bad_is full_is within e = absurd cc
goes_by nodes budget word false true l bad_is full_is within e = absurd cc
goes_by nodes budget word false false l bad_is full_is within e = (bad_is, grind (arith, nat_tests))

pub goes : (nodes budget word : ℕ) (l : Look) → nodes ≤ budget → stop l word nodes budget ≡ None → (is_bad l ≡ false) × (nodes < budget)
goes nodes budget word l within e = goes_by nodes budget word (is_bad l) (nat_eq nodes budget) l refl refl within e
