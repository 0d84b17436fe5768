-- Each row, by its shape, from what a path's point shows where no rule is broken.
use Rattle.std.proofs.Common.{inl, inr, ◌≡◌, ℕ, ◌+◌, ◌-◌, ◌≤◌, Bool, true, false, not, ◌&&◌, Option, Some, None, is_none, List, [], ◌∷◌, drop, length, map, replicate, nat_eq, nat_le, nat_lt, slice_get, slice_set, slice_index_or, refl, ap, subst, sym, ◌∙◌, arith, if◌then◌else◌, codes}
use Rattle.std.specs.List.{Contains, list_all}
use Rattle.std.proofs.lemmas.Bool.Decides.{nat_tests}
use Rattle.std.proofs.lemmas.List.Folds.{list_all-append}
use Rattle.small_step.specs.Stage.{Stage, Done}
use Rattle.paths.proofs.Tests.{first_or_later, here, later}
use Rattle.term_tree.proofs.TermLaws.{both_hold}
use Rattle.term_tree.specs.Size as sizes
use Rattle.term_tree.specs.Tree as t
use Rattle.term_tree.specs.Tree.{Tree}
use Rattle.beam_code.specs.declared.call.Limits.{Limits}
use Rattle.beam_code.specs.declared.call.RaiseClass.{RaiseClass}
use Rattle.beam_code.specs.declared.instr.ArityCase.{ArityCase}
use Rattle.beam_code.specs.declared.instr.Case.{Case}
use Rattle.beam_code.specs.declared.instr.Operand.{Operand}
use Rattle.beam_code.specs.declared.instr.Operand.TheVariants.{X}
use Rattle.beam_code.specs.declared.instr.Place.{Place}
use Rattle.beam_code.specs.declared.instr.Place.TheVariants as place
use Rattle.beam_code.specs.declared.module.Module.{Module}
use Rattle.beam_code.specs.BuiltIns.{Answer, Gives, Fails, builtin, built_in_number, holds, inline_number, test_number}
use Rattle.beam_code.specs.BuiltIns as answer
use Rattle.beam_code.specs.declared.call.RaiseClass.TheVariants.{Error}
use Rattle.beam_code.specs.declared.instr.Callee.{Callee}
use Rattle.beam_code.specs.Function.{Placed, exported_number, is_given, target_of}
use Rattle.beam_code.specs.Row as row
use Rattle.beam_code.specs.Shape as s
use Rattle.beam_code.specs.State.{Local, Event, TailCalls, Returns, Ends, BadOperand, HeapFull, NotProvided, only, Undefined, Tag, TagKind, OfTry, OfCatch}
use Rattle.beam_code.specs.Uses.{call_goes_on, comes_back, shape_goes_on}
use Rattle.path_rules.specs.declared.rule.Rule.{Rule}
use Rattle.path_rules.specs.declared.rule.Rule.TheVariants as rule
use Rattle.path_rules.specs.declared.tag.TagKind.{TagKind as Kind}
use Rattle.path_rules.specs.declared.tag.TagKind.TheVariants.{Try, Catch}
use Rattle.path_rules.specs.Points.{Point, y_registers, covered_behind, defined, fail_labels, kept_below, kept_live, undefined}
use Rattle.path_rules.specs.Ranges.{allocated, is_in_range, operand_in_range, place_in_range}
use Rattle.path_rules.specs.Registers.{cell_words, first_xs, implied_xs, names_pass, operand_passes, operands_of, others_pass, place_passes, places_of, reads_of, uses_pass, xs_in, ys_in}
use Rattle.path_rules.specs.Rules.{breaks_of, calls_well, leaving_fits, is_at_label_of, is_tag_of, is_defined, is_in_stack, same_stack, shape_ends_well, shape_fits, shape_keeps_tags, stack_fits, tags_fit}
use Rattle.path_rules.specs.declared.tag.Tag.{Tag as Mark}
use Rattle.path_rules.specs.Tags.{is_untagged, lowest_tag, mark_kind, tagged, untagged, untouched}
use Rattle.run_laws.proofs.Held.{AllFit, Fits, Has, all_fit, first_there, put_has, reads_all, reads_one, y_set_is, y_there}
use Rattle.beam_rows.proofs.Callees.{comes_back_with, export_called, inline_makes_none, no_raiser, same_number, target_called}
use Rattle.run_laws.proofs.Landing.{HasLeft, HasPoint, IsCallee, IsLeft, Lands, lands_at, lands_on, not_false}
use Rattle.beam_rows.proofs.Lists.{some_is, AreArguments, arguments_there, only_wide, length_kept}
use Rattle.run_laws.proofs.Lists.{index_set, only_shows, registers_kept}
use Rattle.run_laws.proofs.Slots.{cleared_shown, marked_shown, new_shown, no_slots, none_shown_there, so_many_slots, trimmed_shown}
use Rattle.run_laws.proofs.Tags.{kind_is, untouched_is, untouched_none}
use Rattle.run_laws.specs.Formed.{has_labels, is_formed, is_known}
use Rattle.run_laws.specs.Shown.{ShowsRegisters, ShowsStack, kind_of}

-- no rule is broken at an item, and it is formed
pub record IsFine (ms : List Module) (f : Placed) (p : Point) (shape : s.Shape) : Type 0 where
  pub rules : (x : Rule) → breaks_of ms f x p shape ≡ false
  pub formed : is_formed f.function shape ≡ true

module _ (ms : List Module) (f : Placed) (p : Point) (shape : s.Shape) (fine : IsFine ms f p shape) where
  range_and_known : is_in_range shape && is_known shape ≡ true
  range_and_known = (both_hold (is_in_range shape && is_known shape) (has_labels f.function shape) fine.formed).0

  pub known : is_known shape ≡ true
  known = (both_hold (is_in_range shape) (is_known shape) range_and_known).1

  pub labelled : has_labels f.function shape ≡ true
  labelled = (both_hold (is_in_range shape && is_known shape) (has_labels f.function shape) fine.formed).1

  places_in_range : list_all place_in_range (places_of shape) ≡ true
  places_in_range =
      let range = (both_hold (is_in_range shape) (is_known shape) range_and_known).0 in
      let both = (both_hold (list_all operand_in_range (reads_of shape) && list_all place_in_range (places_of shape)) (nat_le (allocated shape) y_registers) range).0 in
      (both_hold (list_all operand_in_range (reads_of shape)) (list_all place_in_range (places_of shape)) both).1

  stack_is : stack_fits shape p.stack ≡ true
  stack_is = not_false (stack_fits shape p.stack) (fine.rules rule.StackSize)

  pub fits : shape_fits shape p.stack ≡ true
  fits = (both_hold (names_pass (is_in_stack p.stack) shape) (shape_fits shape p.stack) stack_is).1

  named : uses_pass (is_in_stack p.stack) shape && others_pass (is_in_stack p.stack) shape ≡ true
  named = (both_hold (names_pass (is_in_stack p.stack) shape) (shape_fits shape p.stack) stack_is).0

  pub others_there : others_pass (is_in_stack p.stack) shape ≡ true
  others_there = (both_hold (uses_pass (is_in_stack p.stack) shape) (others_pass (is_in_stack p.stack) shape) named).1

  places_there : list_all (place_passes (is_in_stack p.stack)) (places_of shape) ≡ true
  places_there =
      let uses = (both_hold (uses_pass (is_in_stack p.stack) shape) (others_pass (is_in_stack p.stack) shape) named).0 in
      (both_hold (list_all (operand_passes (is_in_stack p.stack)) (operands_of shape)) (list_all (place_passes (is_in_stack p.stack)) (places_of shape)) uses).1

  tags_are : uses_pass (is_untagged p.tags) shape && shape_keeps_tags p.tags shape && shape_ends_well f.function p.item p.tags shape ≡ true
  tags_are = not_false (tags_fit f.function p.item p.tags shape) (fine.rules rule.TagState)

  pub ended : shape_ends_well f.function p.item p.tags shape ≡ true
  ended = (both_hold (uses_pass (is_untagged p.tags) shape && shape_keeps_tags p.tags shape) (shape_ends_well f.function p.item p.tags shape) tags_are).1

  places_untagged : list_all (place_passes (is_untagged p.tags)) (places_of shape) ≡ true
  places_untagged =
      let both = (both_hold (uses_pass (is_untagged p.tags) shape && shape_keeps_tags p.tags shape) (shape_ends_well f.function p.item p.tags shape) tags_are).0 in
      let uses = (both_hold (uses_pass (is_untagged p.tags) shape) (shape_keeps_tags p.tags shape) both).0 in
      (both_hold (list_all (operand_passes (is_untagged p.tags)) (operands_of shape)) (list_all (place_passes (is_untagged p.tags)) (places_of shape)) uses).1

  pub places_fit : AllFit p.stack p.tags (places_of shape)
  places_fit = all_fit p.stack p.tags (places_of shape) places_there places_untagged places_in_range

  pub same_tags : untouched (places_of shape) p.tags ≡ p.tags
  same_tags = untouched_is (places_of shape) p.tags places_untagged

  all_defined : list_all (is_defined p.xs p.ys) (reads_of shape) ≡ true
  all_defined = not_false (list_all (is_defined p.xs p.ys) (reads_of shape)) (fine.rules rule.Undefined)

  both_defined : (list_all (is_defined p.xs p.ys) (operands_of shape) ≡ true) × (list_all (is_defined p.xs p.ys) (first_xs (implied_xs shape)) ≡ true)
  both_defined = both_hold _ _ (sym (list_all-append (is_defined p.xs p.ys) (operands_of shape) (first_xs (implied_xs shape))) ∙ all_defined)

  pub operands_defined : list_all (is_defined p.xs p.ys) (operands_of shape) ≡ true
  operands_defined = both_defined.0

  pub implied_defined : list_all (is_defined p.xs p.ys) (first_xs (implied_xs shape)) ≡ true
  implied_defined = both_defined.1

pub not_less : (a b : ℕ) → nat_lt a b ≡ false → b ≤ a
not_less a b e = grind (arith, nat_tests)

-- the label of a selection is one of its labels
pub value_label : (v : Tree) (other : ℕ) (cases : List Case) → Contains (other ∷ map (λ c. c.label) cases) (row.label_by_value v other cases)
value_label v other [] = here other [] other refl
value_label v other (c ∷ cases) = by (row.is_constant c.value v) (value_label v other cases)
  where
    by : (b : Bool) → Contains (other ∷ map (λ c. c.label) cases) (row.label_by_value v other cases) → Contains (other ∷ c.label ∷ map (λ c. c.label) cases) (if b then c.label else row.label_by_value v other cases)
    by true rest = later other (c.label ∷ map (λ c. c.label) cases) c.label (here c.label (map (λ c. c.label) cases) c.label refl)
    by false rest = elim (first_or_later other (map (λ c. c.label) cases) (row.label_by_value v other cases) rest) [
      | inl e ↦ here other (c.label ∷ map (λ c. c.label) cases) (row.label_by_value v other cases) e
      | inr more ↦ later other (c.label ∷ map (λ c. c.label) cases) (row.label_by_value v other cases) (later c.label (map (λ c. c.label) cases) (row.label_by_value v other cases) more)
    ]

pub size_label : (n : ℕ) (other : ℕ) (cases : List ArityCase) → Contains (other ∷ map (λ c. c.label) cases) (row.label_by_size n other cases)
size_label n other [] = here other [] other refl
size_label n other (c ∷ cases) = by (nat_eq n c.arity) (size_label n other cases)
  where
    by : (b : Bool) → Contains (other ∷ map (λ c. c.label) cases) (row.label_by_size n other cases) → Contains (other ∷ c.label ∷ map (λ c. c.label) cases) (if b then c.label else row.label_by_size n other cases)
    by true rest = later other (c.label ∷ map (λ c. c.label) cases) c.label (here c.label (map (λ c. c.label) cases) c.label refl)
    by false rest = elim (first_or_later other (map (λ c. c.label) cases) (row.label_by_size n other cases) rest) [
      | inl e ↦ here other (c.label ∷ map (λ c. c.label) cases) (row.label_by_size n other cases) e
      | inr more ↦ later other (c.label ∷ map (λ c. c.label) cases) (row.label_by_size n other cases) (later c.label (map (λ c. c.label) cases) (row.label_by_size n other cases) more)
    ]

-- what a point shows, with other marks that are the same
pub with_tags : (r most c item : ℕ) (stack : Option ℕ) (tags others : List Mark) (xs ys : List Bool) (l : Local) → tags ≡ others → Has r most c item stack others xs ys l → Has r most c item stack tags xs ys l
with_tags r most c item stack tags others xs ys l e h = subst (λ ts. Has r most c item stack ts xs ys l) (sym e) h

module _ (ms : List Module) (limits : Limits) (r most : ℕ) (big : limits.heap ≤ most) (f : Placed) (p : Point) (l : Local) (h : HasPoint r most p l) where
  abbrev Row : s.Shape → Type 0
  Row shape = IsFine ms f p shape → Lands ms r most f p shape (row.row ms limits f l shape)

  -- an operand that is read alone
  one_read : (o : Operand) (os : List Operand) → list_all (is_defined p.xs p.ys) (o ∷ os) ≡ true → (v : Tree) × (row.read_of l o ≡ Some v)
  one_read o os e = reads_one r most p.covered p.item p.stack p.tags p.xs p.ys l h o (both_hold (is_defined p.xs p.ys o) (list_all (is_defined p.xs p.ys) os) e).0

  passes_row : Row s.Passes
  passes_row fine =
      lands_on ms r most f p s.Passes refl (fine.rules rule.FallsOff) p.covered (omega arith) l
      (with_tags r most p.covered p.item p.stack (untouched [] p.tags) p.tags p.xs p.ys l (untouched_none p.tags) h)

  -- a stage that is known
  at_stage : (shape : s.Shape) (a b : Stage Local Event) → a ≡ b → Lands ms r most f p shape b → Lands ms r most f p shape a
  at_stage shape a b e x = subst (Lands ms r most f p shape) (sym e) x

  -- ---- places one after the other

  xs_first : (to : Place) (ps : List Place) (xs : List Bool) → defined (xs_in (to ∷ ps)) xs ≡ defined (xs_in ps) (defined (xs_in (to ∷ [])) xs)
  xs_first (place.X n) ps xs = refl
  xs_first (place.Y n) ps xs = refl

  ys_first : (to : Place) (ps : List Place) (ys : List Bool) → defined (ys_in (to ∷ ps)) ys ≡ defined (ys_in ps) (defined (ys_in (to ∷ [])) ys)
  ys_first (place.X n) ps ys = refl
  ys_first (place.Y n) ps ys = refl

  abbrev Filled : ℕ → List Place → List Bool → List Bool → Local → Type 0
  Filled c places xs ys n = Has r most c p.item p.stack p.tags (defined (xs_in places) xs) (defined (ys_in places) ys) n

  filled_more : (c : ℕ) (to : Place) (ps : List Place) (xs ys : List Bool) (n : Local) → Filled c ps (defined (xs_in (to ∷ [])) xs) (defined (ys_in (to ∷ [])) ys) n → Filled c (to ∷ ps) xs ys n
  filled_more c to ps xs ys n has =
      subst (λ a. Has r most c p.item p.stack p.tags a (defined (ys_in (to ∷ ps)) ys) n) (sym (xs_first to ps xs))
      (subst (λ b. Has r most c p.item p.stack p.tags (defined (xs_in ps) (defined (xs_in (to ∷ [])) xs)) b n) (sym (ys_first to ps ys)) has)

  module _ (P : Stage Local Event → Type 0) where
    -- one place takes a term
    put_so : (c : ℕ) (xs ys : List Bool) (m : Local) (to : Place) (v : Tree) (more : Local → Stage Local Event) → Has r most c p.item p.stack p.tags xs ys m → Fits p.stack p.tags to
        → ((n : Local) → Filled c (to ∷ []) xs ys n → P (more n)) → P (row.put m to v more)
    put_so c xs ys m to v more has fit done =
        let put = put_has r most c p.item p.stack p.tags xs ys m to v has fit in
        subst P (sym (put.is more)) (done put.local put.has)

    piece_so : (m : Local) (to : Place) (more : Local → Stage Local Event) → P (Done (Ends BadOperand m)) → ((w : Tree) → P (row.put m to w more)) → (o : Option Tree) → P (row.put_piece m to o more)
    piece_so m to more bad each None = bad
    piece_so m to more bad each (Some w) = each w

    moved_so : (parts : List (s.Piece × Place)) (xs ys : List Bool) (m : Local) (v : Tree) → ((n : Local) → P (Done (Ends BadOperand n))) → Has r most p.covered p.item p.stack p.tags xs ys m
        → AllFit p.stack p.tags (map (λ part. part.1) parts) → ((n : Local) → Filled p.covered (map (λ part. part.1) parts) xs ys n → P (row.goes_on n)) → P (row.moved m parts v)
    moved_so [] xs ys m v bad has fit done = done m has
    moved_so (part ∷ parts) xs ys m v bad has fit done =
        piece_so m part.1 (λ n. row.moved n parts v) (bad m)
        (λ w. put_so p.covered xs ys m part.1 w (λ n. row.moved n parts v) has fit.0
        (λ n filled. moved_so parts (defined (xs_in (part.1 ∷ [])) xs) (defined (ys_in (part.1 ∷ [])) ys) n v bad filled fit.1
        (λ o more. done o (filled_more p.covered part.1 (map (λ part. part.1) parts) xs ys o more))))
        (row.piece_of part.0 v)

  moves_row : (from : Operand) (parts : List (s.Piece × Place)) → Row (s.Moves from parts)
  moves_row from parts fine =
      let shape : s.Shape = s.Moves from parts in
      let v = one_read from [] (operands_defined ms f p shape fine) in
      at_stage shape (row.given l (row.read_of l from) (row.moved l parts)) (row.moved l parts v.0) (ap (λ o. row.given l o (row.moved l parts)) v.1)
      (moved_so (Lands ms r most f p shape) parts p.xs p.ys l v.0 (λ n. tt) h (places_fit ms f p shape fine)
      (λ n filled. lands_on ms r most f p shape refl (fine.rules rule.FallsOff) p.covered (omega arith) n
      (with_tags r most p.covered p.item p.stack (untouched (places_of shape) p.tags) p.tags (defined (xs_in (places_of shape)) p.xs) (defined (ys_in (places_of shape)) p.ys) n (same_tags ms f p shape fine) filled)))

  swaps_row : (a b : Place) → Row (s.Swaps a b)
  swaps_row a b fine =
      let shape : s.Shape = s.Swaps a b in
      let v = one_read (row.place_operand a) (row.place_operand b ∷ []) (operands_defined ms f p shape fine) in
      let rest = (both_hold (is_defined p.xs p.ys (row.place_operand a)) (list_all (is_defined p.xs p.ys) (row.place_operand b ∷ [])) (operands_defined ms f p shape fine)).1 in
      let w = one_read (row.place_operand b) [] rest in
      let fit = places_fit ms f p shape fine in
      at_stage shape (row.swapped l a b (row.read_of l (row.place_operand a)) (row.read_of l (row.place_operand b))) (row.put l a w.0 (λ m. row.put m b v.0 row.goes_on))
      (ap (λ o. row.swapped l a b o (row.read_of l (row.place_operand b))) v.1 ∙ ap (row.swapped l a b (Some v.0)) w.1)
      (put_so (Lands ms r most f p shape) p.covered p.xs p.ys l a w.0 (λ m. row.put m b v.0 row.goes_on) h fit.0
      (λ m has. put_so (Lands ms r most f p shape) p.covered (defined (xs_in (a ∷ [])) p.xs) (defined (ys_in (a ∷ [])) p.ys) m b v.0 row.goes_on has fit.1.0
      (λ n filled. lands_on ms r most f p shape refl (fine.rules rule.FallsOff) p.covered (omega arith) n
      (with_tags r most p.covered p.item p.stack (untouched (places_of shape) p.tags) p.tags (defined (xs_in (a ∷ b ∷ [])) p.xs) (defined (ys_in (a ∷ b ∷ [])) p.ys) n (same_tags ms f p shape fine)
      (filled_more p.covered a (b ∷ []) p.xs p.ys n filled)))))

  -- covered words that are used change nothing else
  using_has : (words : ℕ) (xs ys : List Bool) (m : Local) → words ≤ p.covered → Has r most p.covered p.item p.stack p.tags xs ys m → Has r most (p.covered - words) p.item p.stack p.tags xs ys (row.using words m)
  using_has words xs ys m few has = record { left = has.left; room = (let room = has.room in omega arith); at = has.at; registers = has.registers; wide = has.wide; shows = has.shows }

  -- a new cell comes to the one place of an item
  celled_so : (shape : s.Shape) (to : Place) (words : ℕ) (v : Tree) → IsFine ms f p shape → places_of shape ≡ to ∷ [] → words ≡ cell_words shape
      → ((n : Local) → Filled (p.covered - words) (to ∷ []) p.xs p.ys n → Lands ms r most f p shape (row.goes_on n)) → Lands ms r most f p shape (row.celled l to words v)
  celled_so shape to words v fine one cell done =
      put_so (Lands ms r most f p shape) (p.covered - words) p.xs p.ys (row.using words l) to v row.goes_on
      (using_has words p.xs p.ys l (subst (λ k. k ≤ p.covered) (sym cell) (not_less p.covered (cell_words shape) (fine.rules rule.HeapUncovered))) h)
      (subst (AllFit p.stack p.tags) one (places_fit ms f p shape fine)).0 done

  conses_row : (head tail : Operand) (to : Place) → Row (s.Conses head tail to)
  conses_row head tail to fine =
      let shape : s.Shape = s.Conses head tail to in
      let v = one_read head (tail ∷ []) (operands_defined ms f p shape fine) in
      let rest = (both_hold (is_defined p.xs p.ys head) (list_all (is_defined p.xs p.ys) (tail ∷ [])) (operands_defined ms f p shape fine)).1 in
      let w = one_read tail [] rest in
      at_stage shape (row.consed l to (row.read_of l head) (row.read_of l tail)) (row.celled l to 2 (t.Cons v.0 w.0))
      (ap (λ o. row.consed l to o (row.read_of l tail)) v.1 ∙ ap (row.consed l to (Some v.0)) w.1)
      (celled_so shape to 2 (t.Cons v.0 w.0) fine refl refl
      (λ n filled. lands_on ms r most f p shape refl (fine.rules rule.FallsOff) (p.covered - 2) (omega arith) n
      (with_tags r most (p.covered - 2) p.item p.stack (untouched (places_of shape) p.tags) p.tags (defined (xs_in (to ∷ [])) p.xs) (defined (ys_in (to ∷ [])) p.ys) n (same_tags ms f p shape fine) filled)))

  tuples_row : (parts : List Operand) (to : Place) → Row (s.Tuples parts to)
  tuples_row parts to fine =
      let shape : s.Shape = s.Tuples parts to in
      let vs = reads_all r most p.covered p.item p.stack p.tags p.xs p.ys l h parts (operands_defined ms f p shape fine) in
      let made : List Tree → Stage Local Event = λ us. row.celled l to (length parts + 1) (t.Tuple (t.trees_of us)) in
      at_stage shape (row.given l (row.reads_of l parts) made) (made vs.0) (ap (λ o. row.given l o made) vs.1)
      (celled_so shape to (length parts + 1) (t.Tuple (t.trees_of vs.0)) fine refl refl
      (λ n filled. lands_on ms r most f p shape refl (fine.rules rule.FallsOff) (p.covered - (length parts + 1)) (omega arith) n
      (with_tags r most (p.covered - (length parts + 1)) p.item p.stack (untouched (places_of shape) p.tags) p.tags (defined (xs_in (to ∷ [])) p.xs) (defined (ys_in (to ∷ [])) p.ys) n (same_tags ms f p shape fine) filled)))

  -- ---- tests, selections, jumps

  tests_row : (name : List ℕ) (operands : List Operand) (label : ℕ) → Row (s.Tests name operands label)
  tests_row name operands label fine =
      let shape : s.Shape = s.Tests name operands label in
      let vs = reads_all r most p.covered p.item p.stack p.tags p.xs p.ys l h operands (operands_defined ms f p shape fine) in
      let k = some_is (test_number name (length operands)) (known ms f p shape fine) in
      at_stage shape (row.test_row f.function l label (test_number name (length operands)) (row.reads_of l operands)) (row.tested f.function l label (holds k.0 vs.0))
      (ap (λ o. row.test_row f.function l label o (row.reads_of l operands)) k.1 ∙ ap (row.test_row f.function l label (Some k.0)) vs.1)
      (by (holds k.0 vs.0)
      (lands_on ms r most f p shape refl (fine.rules rule.FallsOff) p.covered (omega arith) l (with_tags r most p.covered p.item p.stack (untouched [] p.tags) p.tags p.xs p.ys l (untouched_none p.tags) h))
      (lands_at ms r most f p shape label l (here label [] label refl) (labelled ms f p shape fine) h))
    where
      by : (b : Bool) → Lands ms r most f p (s.Tests name operands label) (row.goes_on l) → Lands ms r most f p (s.Tests name operands label) (row.jumped f.function l label)
          → Lands ms r most f p (s.Tests name operands label) (row.tested f.function l label b)
      by true on off = on
      by false on off = off

  selected_so : (from : Operand) (branches : s.Branches) (other : ℕ) (v : Tree) → IsFine ms f p (s.Selects from branches other) → Lands ms r most f p (s.Selects from branches other) (row.selected f.function l branches other v)
  selected_so from (s.ByValue cases) other v fine =
      lands_at ms r most f p (s.Selects from (s.ByValue cases) other) (row.label_by_value v other cases) l (value_label v other cases) (labelled ms f p (s.Selects from (s.ByValue cases) other) fine) h
  selected_so from (s.BySize cases) other (t.Tuple ts) fine =
      lands_at ms r most f p (s.Selects from (s.BySize cases) other) (row.label_by_size (sizes.size_of ts) other cases) l (size_label (sizes.size_of ts) other cases)
      (labelled ms f p (s.Selects from (s.BySize cases) other) fine) h
  selected_so from (s.BySize cases) other (t.Int i) fine = tt
  selected_so from (s.BySize cases) other (t.Atom a) fine = tt
  selected_so from (s.BySize cases) other t.Nil fine = tt
  selected_so from (s.BySize cases) other (t.Cons x y) fine = tt

  selects_row : (from : Operand) (branches : s.Branches) (other : ℕ) → Row (s.Selects from branches other)
  selects_row from branches other fine =
      let shape : s.Shape = s.Selects from branches other in
      let v = one_read from [] (operands_defined ms f p shape fine) in
      at_stage shape (row.given l (row.read_of l from) (row.selected f.function l branches other)) (row.selected f.function l branches other v.0)
      (ap (λ o. row.given l o (row.selected f.function l branches other)) v.1) (selected_so from branches other v.0 fine)

  jumps_row : (label : ℕ) → Row (s.Jumps label)
  jumps_row label fine = lands_at ms r most f p (s.Jumps label) label l (here label [] label refl) (labelled ms f p (s.Jumps label) fine) h

  -- ---- the stack

  asked_so : (shape : s.Shape) (need : ℕ) (more : Local → Stage Local Event) → (l.used + need ≤ most → Lands ms r most f p shape (more l)) → Lands ms r most f p shape (row.asked limits l need more)
  asked_so shape need more done = by (nat_lt limits.heap (l.used + need)) refl
    where
      by : (b : Bool) → nat_lt limits.heap (l.used + need) ≡ b → Lands ms r most f p shape (if b then Done (Ends HeapFull l) else more l)
      by true e = tt
      by false e = done (let room = not_less limits.heap (l.used + need) e in omega arith)

  -- other words are covered from here on
  covers : (c : ℕ) (stack : Option ℕ) (tags : List Mark) (xs ys : List Bool) (m : Local) → m.used + c ≤ most → Has r most p.covered p.item stack tags xs ys m → Has r most c p.item stack tags xs ys m
  covers c stack tags xs ys m room has = record { left = has.left; room = room; at = has.at; registers = has.registers; wide = has.wide; shows = has.shows }

  cut_has : (live : Option ℕ) → Has r most p.covered p.item p.stack p.tags (kept_live live p.xs) p.ys (row.cut live l)
  cut_has None = h
  cut_has (Some live) = record { left = h.left; room = h.room; at = h.at; registers = registers_kept live p.xs l.xs h.registers; wide = length_kept live l.xs ∙ h.wide; shows = h.shows }

  allocated_so : (n : ℕ) (need : Option ℕ) (live : ℕ) → l.used + covered_behind (s.Stacks (s.Allocates n need live)) p.covered ≤ most → IsFine ms f p (s.Stacks (s.Allocates n need live))
      → Lands ms r most f p (s.Stacks (s.Allocates n need live)) (row.allocated (row.cut (Some live) l) n l.ys)
  allocated_so n need live room fine =
      let shape : s.Shape = s.Stacks (s.Allocates n need live) in
      let none : l.ys ≡ None = no_slots p.stack p.tags p.ys l.ys h.shows (fits ms f p shape fine) in
      let c = cut_has (Some live) in
      at_stage shape (row.allocated (row.cut (Some live) l) n l.ys) (row.allocated (row.cut (Some live) l) n None) (ap (row.allocated (row.cut (Some live) l) n) none)
      (lands_on ms r most f p shape refl (fine.rules rule.FallsOff) (covered_behind shape p.covered) (omega arith) (record (row.cut (Some live) l) { ys = Some (replicate n Undefined) })
      (record { left = c.left; room = room; at = c.at; registers = c.registers; wide = c.wide; shows = new_shown n }))

  allocates_row : (n : ℕ) (need : Option ℕ) (live : ℕ) → Row (s.Stacks (s.Allocates n need live))
  allocates_row n None live fine = allocated_so n None live h.room fine
  allocates_row n (Some need) live fine =
      asked_so (s.Stacks (s.Allocates n (Some need) live)) need (λ m. row.allocated (row.cut (Some live) m) n m.ys) (λ room. allocated_so n (Some need) live room fine)

  asks_row : (need live : ℕ) → Row (s.Stacks (s.Asks need live))
  asks_row need live fine =
      asked_so (s.Stacks (s.Asks need live)) need (λ m. row.goes_on (row.cut (Some live) m))
      (λ room. lands_on ms r most f p (s.Stacks (s.Asks need live)) refl (fine.rules rule.FallsOff) need (omega arith) (row.cut (Some live) l)
      (covers need p.stack p.tags (kept_below live p.xs) p.ys (row.cut (Some live) l) room (cut_has (Some live))))

  trims_row : (n rest : ℕ) → Row (s.Stacks (s.Trims n rest))
  trims_row n rest fine =
      let shape : s.Shape = s.Stacks (s.Trims n rest) in
      let slots = so_many_slots p.stack p.tags p.ys l.ys (n + rest) h.shows (fits ms f p shape fine) in
      let after : Local = record l { ys = Some (drop n slots.slots) } in
      at_stage shape (row.trimmed l n rest l.ys) (row.goes_on after)
      (ap (row.trimmed l n rest) slots.is ∙ ap (λ b. if b then row.goes_on after else row.stuck l) slots.many)
      (lands_on ms r most f p shape refl (fine.rules rule.FallsOff) p.covered (omega arith) after
      (record { left = h.left; room = h.room; at = h.at; registers = h.registers; wide = h.wide; shows = trimmed_shown p.stack p.tags p.ys slots.slots n (subst (ShowsStack p.stack p.tags p.ys) slots.is h.shows) }))

  -- the stack goes
  freed_is : (n : ℕ) (more : Local → Stage Local Event) → same_stack p.stack (Some n) ≡ true → row.freed l n l.ys more ≡ more (record l { ys = None })
  freed_is n more e =
      let slots = so_many_slots p.stack p.tags p.ys l.ys n h.shows e in
      ap (λ o. row.freed l n o more) slots.is ∙ ap (λ b. if b then more (record l { ys = None }) else row.stuck l) slots.many

  frees_row : (n : ℕ) → Row (s.Stacks (s.Frees n))
  frees_row n fine =
      let shape : s.Shape = s.Stacks (s.Frees n) in
      at_stage shape (row.freed l n l.ys row.goes_on) (row.goes_on (record l { ys = None })) (freed_is n row.goes_on (fits ms f p shape fine))
      (lands_on ms r most f p shape refl (fine.rules rule.FallsOff) p.covered (omega arith) (record l { ys = None })
      (record { left = h.left; room = h.room; at = h.at; registers = h.registers; wide = h.wide; shows = none_shown_there }))

  clears_row : (n : ℕ) → Row (s.Stacks (s.Clears n))
  clears_row n fine =
      let shape : s.Shape = s.Stacks (s.Clears n) in
      let there = y_there p.stack p.tags p.ys l.ys n h.shows (others_there ms f p shape fine) in
      at_stage shape (row.y_set l l.ys n Undefined row.goes_on) (row.goes_on (record l { ys = Some (slice_set there.slots n Undefined) })) (y_set_is l l.ys n Undefined there row.goes_on)
      (lands_on ms r most f p shape refl (fine.rules rule.FallsOff) p.covered (omega arith) (record l { ys = Some (slice_set there.slots n Undefined) })
      (record { left = h.left; room = h.room; at = h.at; registers = h.registers; wide = h.wide; shows = cleared_shown p.stack p.tags p.ys there.slots n (subst (ShowsStack p.stack p.tags p.ys) there.is h.shows) there.low }))

  stack_row : (op : s.StackOp) → Row (s.Stacks op)
  stack_row (s.Allocates n need live) fine = allocates_row n need live fine
  stack_row (s.Asks need live) fine = asks_row need live fine
  stack_row (s.Trims n rest) fine = trims_row n rest fine
  stack_row (s.Frees n) fine = frees_row n fine
  stack_row (s.Clears n) fine = clears_row n fine

  -- ---- marks of handlers

  marks_so : (shape : s.Shape) (n : ℕ) (kind : TagKind) (label : ℕ) → IsFine ms f p shape → shape_goes_on shape ≡ true → is_in_stack p.stack n ≡ true
      → ((m : Local) → Has r most p.covered p.item p.stack (tagged (record { y = n; kind = kind_of kind; label = label }) p.tags) p.xs (undefined n p.ys) m → Lands ms r most f p shape (row.goes_on m))
      → Lands ms r most f p shape (row.y_set l l.ys n (Tag kind label) row.goes_on)
  marks_so shape n kind label fine goes inside done =
      let there = y_there p.stack p.tags p.ys l.ys n h.shows inside in
      let after : Local = record l { ys = Some (slice_set there.slots n (Tag kind label)) } in
      at_stage shape (row.y_set l l.ys n (Tag kind label) row.goes_on) (row.goes_on after) (y_set_is l l.ys n (Tag kind label) there row.goes_on)
      (done after
      (record { left = h.left; room = h.room; at = h.at; registers = h.registers; wide = h.wide; shows = marked_shown p.stack p.tags p.ys there.slots n kind label (subst (ShowsStack p.stack p.tags p.ys) there.is h.shows) there.low }))

  -- a mark of this kind goes
  ends_so : (shape : s.Shape) (n : ℕ) (kind : Kind) → IsFine ms f p shape → is_in_stack p.stack n ≡ true → is_tag_of kind n (lowest_tag p.tags) ≡ true
      → ((m : Local) → m.xs ≡ l.xs → Has r most p.covered p.item p.stack (untagged n p.tags) p.xs (undefined n p.ys) m → Lands ms r most f p shape (row.goes_on m))
      → Lands ms r most f p shape (row.untagged l l.ys (mark_kind kind) n)
  ends_so shape n kind fine inside marked done =
      let there = y_there p.stack p.tags p.ys l.ys n h.shows inside in
      let after : Local = record l { ys = Some (slice_set there.slots n Undefined) } in
      let shown : ShowsStack p.stack p.tags p.ys (Some there.slots) = subst (ShowsStack p.stack p.tags p.ys) there.is h.shows in
      let here : row.is_kind (mark_kind kind) (slice_get there.slots n) ≡ true = kind_is there.slots n kind (sym (ap (λ ts. is_tag_of kind n (lowest_tag ts)) shown.tags_are) ∙ marked) in
      at_stage shape (row.untagged l l.ys (mark_kind kind) n) (row.goes_on after)
      (ap (λ o. row.untagged l o (mark_kind kind) n) there.is ∙ ap (λ b. if b then row.y_set l (Some there.slots) n Undefined row.goes_on else row.stuck l) here
      ∙ y_set_is l (Some there.slots) n Undefined (record { slots = there.slots; is = refl; low = there.low }) row.goes_on)
      (done after refl
      (record { left = h.left; room = h.room; at = h.at; registers = h.registers; wide = h.wide; shows = cleared_shown p.stack p.tags p.ys there.slots n shown there.low }))

  -- a register that is read is defined
  one_more : (n : ℕ) (xs : List Bool) (held : List (Option Tree)) → ShowsRegisters xs held → slice_index_or xs n false ≡ true → ShowsRegisters (slice_set xs n true) held
  one_more n xs held shows on m e = elim (index_set xs n m e) [
    | inl same ↦ shows m (subst (λ k. slice_index_or xs k false ≡ true) (sym same) on)
    | inr g ↦ shows m g
  ]

  tag_row : (op : s.TagOp) → Row (s.Tags op)
  tag_row (s.Tries n label) fine =
      marks_so (s.Tags (s.Tries n label)) n OfTry label fine refl (others_there ms f p (s.Tags (s.Tries n label)) fine)
      (λ m has. lands_on ms r most f p (s.Tags (s.Tries n label)) refl (fine.rules rule.FallsOff) p.covered (omega arith) m has)
  tag_row (s.Catches n label) fine =
      marks_so (s.Tags (s.Catches n label)) n OfCatch label fine refl (others_there ms f p (s.Tags (s.Catches n label)) fine)
      (λ m has. lands_on ms r most f p (s.Tags (s.Catches n label)) refl (fine.rules rule.FallsOff) p.covered (omega arith) m has)
  tag_row (s.TryEnds n) fine =
      ends_so (s.Tags (s.TryEnds n)) n Try fine (others_there ms f p (s.Tags (s.TryEnds n)) fine) (ended ms f p (s.Tags (s.TryEnds n)) fine)
      (λ m e has. lands_on ms r most f p (s.Tags (s.TryEnds n)) refl (fine.rules rule.FallsOff) p.covered (omega arith) m has)
  tag_row (s.TryHandles n) fine =
      ends_so (s.Tags (s.TryHandles n)) n Try fine (others_there ms f p (s.Tags (s.TryHandles n)) fine) (ended ms f p (s.Tags (s.TryHandles n)) fine)
      (λ m e has. lands_on ms r most f p (s.Tags (s.TryHandles n)) refl (fine.rules rule.FallsOff) p.covered (omega arith) m has)
  tag_row (s.CatchEnds n) fine =
      let shape : s.Shape = s.Tags (s.CatchEnds n) in
      let first = (both_hold (slice_index_or p.xs 0 false) true (implied_defined ms f p shape fine)).0 in
      let v = reads_one r most p.covered p.item p.stack p.tags p.xs p.ys l h (X 0) first in
      let marked = (both_hold (is_tag_of Catch n (lowest_tag p.tags)) (is_at_label_of f.function p.item (lowest_tag p.tags)) (ended ms f p shape fine)).0 in
      at_stage shape (row.given l (row.read_of l (X 0)) (λ v. row.untagged l l.ys OfCatch n)) (row.untagged l l.ys OfCatch n)
      (ap (λ o. row.given l o (λ v. row.untagged l l.ys OfCatch n)) v.1)
      (ends_so shape n Catch fine (others_there ms f p shape fine) marked
      (λ m e has. lands_on ms r most f p shape refl (fine.rules rule.FallsOff) p.covered (omega arith) m
      (record { left = has.left; room = has.room; at = has.at; registers = one_more 0 p.xs m.xs has.registers first; wide = has.wide; shows = has.shows })))

  -- ---- built-ins

  fail_label : (fail : ℕ) → nat_eq fail 0 ≡ false → Contains (fail_labels fail) fail
  fail_label fail e = subst (λ b. Contains (if b then [] else fail ∷ []) fail) (sym e) (here fail [] fail refl)

  has_left : HasLeft r most l
  has_left = record { left = h.left; used = (let room = h.room in omega arith) }

  left_so : IsLeft r most p l
  left_so = record { has = has_left; at = h.at; shows = h.shows }

  computes_row : (name : List ℕ) (operands : List Operand) (fail : ℕ) (live : Option ℕ) (to : Place) → Row (s.Computes name operands fail live to)
  computes_row name operands fail live to fine =
      let shape : s.Shape = s.Computes name operands fail live to in
      let vs = reads_all r most p.covered p.item p.stack p.tags p.xs p.ys l h operands (operands_defined ms f p shape fine) in
      let k = some_is (inline_number name (length operands)) (known ms f p shape fine) in
      at_stage shape (row.computed limits f.function l fail live to (inline_number name (length operands)) (row.reads_of l operands)) (row.computed limits f.function l fail live to (Some k.0) (Some vs.0))
      (ap (λ o. row.computed limits f.function l fail live to o (row.reads_of l operands)) k.1 ∙ ap (row.computed limits f.function l fail live to (Some k.0)) vs.1)
      (by (builtin k.0 vs.0) (λ v words gives. inline_makes_none name (length operands) k.0 vs.0 v words k.1 gives))
    where
      shape : s.Shape
      shape = s.Computes name operands fail live to

      failed : (b : Bool) (class : RaiseClass) (reason : Tree) → nat_eq fail 0 ≡ b → Lands ms r most f p shape (if b then row.raised l class reason else row.jumped f.function l fail)
      failed true class reason e = left_so
      failed false class reason e = lands_at ms r most f p shape fail l (fail_label fail e) (labelled ms f p shape fine) h

      value : (v : Tree) (words : ℕ) → words ≡ 0 → Lands ms r most f p shape (row.put (row.cut live (row.using words l)) to v row.goes_on)
      value v words none =
          put_so (Lands ms r most f p shape) p.covered (kept_live live p.xs) p.ys (row.cut live (row.using words l)) to v row.goes_on (used live (cut_has live)) (places_fit ms f p shape fine).0
          (λ n filled. lands_on ms r most f p shape refl (fine.rules rule.FallsOff) p.covered (omega arith) n
          (with_tags r most p.covered p.item p.stack (untouched (places_of shape) p.tags) p.tags (defined (xs_in (to ∷ [])) (kept_live live p.xs)) (defined (ys_in (to ∷ [])) p.ys) n (same_tags ms f p shape fine) filled))
        where
          used : (live : Option ℕ) → Has r most p.covered p.item p.stack p.tags (kept_live live p.xs) p.ys (row.cut live l) → Has r most p.covered p.item p.stack p.tags (kept_live live p.xs) p.ys (row.cut live (row.using words l))
          used None c = record { left = c.left; room = (let room = c.room in omega arith); at = c.at; registers = c.registers; wide = c.wide; shows = c.shows }
          used (Some n) c = record { left = c.left; room = (let room = c.room in omega arith); at = c.at; registers = c.registers; wide = c.wide; shows = c.shows }

      by : (a : Answer) → ((v : Tree) (words : ℕ) → a ≡ Gives v words → words ≡ 0) → Lands ms r most f p shape (row.answered limits l a (λ v m. row.put (row.cut live m) to v row.goes_on) (row.failed f.function l fail))
      by (Gives v words) none = asked_so shape words (λ m. row.put (row.cut live (row.using words m)) to v row.goes_on) (λ room. value v words (none v words refl))
      by (Fails class reason) none = failed (nat_eq fail 0) class reason refl
      by answer.Bignum none = tt

  -- ---- calls

  -- the arguments of a call, from registers that are defined
  arguments_read : (k : ℕ) → list_all (is_defined p.xs p.ys) (first_xs k) ≡ true → AreArguments k l.xs
  arguments_read k e = arguments_there k l.xs (first_there r most p.covered p.item p.stack p.tags p.xs p.ys l h k e)

  without_so : (shape : s.Shape) (more : Local → Stage Local Event) → is_none p.stack ≡ true → Lands ms r most f p shape (more l) → Lands ms r most f p shape (row.without_stack l l.ys more)
  without_so shape more none done =
      at_stage shape (row.without_stack l l.ys more) (more l) (ap (λ o. row.without_stack l o more) (no_slots p.stack p.tags p.ys l.ys h.shows none)) done

  module _ (target : s.Target) (arity : ℕ) (leaving : s.Leaving) (fine : IsFine ms f p (s.Calls target arity leaving)) where
    abbrev C : Stage Local Event → Type 0
    C st = Lands ms r most f p (s.Calls target arity leaving) st

    -- a callee that is there
    callee_so : (vs : List Tree) (callee : ℕ) → IsCallee ms callee vs → (leaving ≡ s.Stays → comes_back target ≡ true) → C (row.callee_left leaving l vs callee)
    callee_so vs callee is comes = by leaving refl (fits ms f p (s.Calls target arity leaving) fine)
      where
        by : (x : s.Leaving) → leaving ≡ x → leaving_fits x p.stack ≡ true → C (row.callee_left x l vs callee)
        by s.Stays e fit = (left_so, record { target = target; arity = arity; is = ap (s.Calls target arity) e; comes = comes e }, is)
        by (s.Drops n) e fit =
            at_stage (s.Calls target arity leaving) (row.freed l n l.ys (λ m. Done (TailCalls callee vs m))) (Done (TailCalls callee vs (record l { ys = None })))
            (freed_is n (λ m. Done (TailCalls callee vs m)) fit) (record { left = h.left; used = has_left.used }, is)
        by s.HasNone e fit = without_so (s.Calls target arity leaving) (λ m. Done (TailCalls callee vs m)) fit (has_left, is)

    -- a value that a built-in gives; only its heap words are used
    value_so : (v : Tree) (words : ℕ) → l.used + words ≤ most → (leaving ≡ s.Stays → comes_back target ≡ true) → C (row.value_left leaving v (row.using words l))
    value_so v words room comes = by leaving refl (fits ms f p (s.Calls target arity leaving) fine)
      where
        by : (x : s.Leaving) → leaving ≡ x → leaving_fits x p.stack ≡ true → C (row.value_left x v (row.using words l))
        by s.Stays e fit =
            let shape : s.Shape = s.Calls target arity leaving in
            let goes : shape_goes_on shape ≡ true = ap (call_goes_on target) e ∙ comes e in
            lands_on ms r most f p shape goes (fine.rules rule.FallsOff) 0 (omega arith) (record (row.using words l) { xs = only (v ∷ []) })
            (record {
              left = h.left;
              room = omega arith;
              at = h.at;
              registers = only_shows (v ∷ []) 1 refl;
              wide = only_wide (v ∷ []) (omega arith);
              shows = subst (λ ts. ShowsStack p.stack ts p.ys l.ys) (sym (untouched_none p.tags)) h.shows;
            })
        by (s.Drops n) e fit =
            at_stage (s.Calls target arity leaving) (row.freed (row.using words l) n l.ys (λ m. Done (Returns v m))) (Done (Returns v (record (row.using words l) { ys = None })))
            (let slots = so_many_slots p.stack p.tags p.ys l.ys n h.shows fit in
            ap (λ o. row.freed (row.using words l) n o (λ m. Done (Returns v m))) slots.is
            ∙ ap (λ b. if b then Done (Returns v (record (row.using words l) { ys = None })) else row.stuck (row.using words l)) slots.many) (record { left = h.left; used = room })
        by s.HasNone e fit =
            at_stage (s.Calls target arity leaving) (row.without_stack (row.using words l) l.ys (λ m. Done (Returns v m))) (Done (Returns v (row.using words l)))
            (ap (λ o. row.without_stack (row.using words l) o (λ m. Done (Returns v m))) (no_slots p.stack p.tags p.ys l.ys h.shows fit)) (record { left = h.left; used = room })

  called_in : (label arity : ℕ) (leaving : s.Leaving) (vs : List Tree) → IsFine ms f p (s.Calls (s.Inside label) arity leaving) → length vs ≡ arity
      → Lands ms r most f p (s.Calls (s.Inside label) arity leaving) (row.called ms limits f leaving l arity (s.Inside label) vs)
  called_in label arity leaving vs fine many =
      let shape : s.Shape = s.Calls (s.Inside label) arity leaving in
      let callee = some_is (target_of ms f label arity) (not_false (calls_well ms f shape) (fine.rules rule.CallTarget)) in
      let is = target_called ms f label arity callee.0 callee.1 in
      at_stage shape (row.given l (target_of ms f label arity) (row.callee_left leaving l vs)) (row.callee_left leaving l vs callee.0) (ap (λ o. row.given l o (row.callee_left leaving l vs)) callee.1)
      (callee_so (s.Inside label) arity leaving fine vs callee.0 (record { placed = is.placed; is = is.is; many = many ∙ is.many }) (λ e. refl))

  called_out : (c : Callee) (arity : ℕ) (leaving : s.Leaving) (vs : List Tree) → IsFine ms f p (s.Calls (s.Outside c) arity leaving) → length vs ≡ arity
      → Lands ms r most f p (s.Calls (s.Outside c) arity leaving) (row.called ms limits f leaving l arity (s.Outside c) vs)
  called_out c arity leaving vs fine many =
      let well : nat_eq arity c.arity ≡ true = not_false (calls_well ms f (s.Calls (s.Outside c) arity leaving)) (fine.rules rule.CallTarget) in
      at_stage shape (row.called ms limits f leaving l arity (s.Outside c) vs) (row.resolved ms limits leaving l vs c (built_in_number c.owner c.name c.arity))
      (ap (λ b. if b then row.resolved ms limits leaving l vs c (built_in_number c.owner c.name c.arity) else row.stuck l) well)
      (by (built_in_number c.owner c.name c.arity) refl (many ∙ same_number arity c.arity well))
    where
      shape : s.Shape
      shape = s.Calls (s.Outside c) arity leaving

      given_so : (k : ℕ) (a : Answer) → built_in_number c.owner c.name c.arity ≡ Some k → builtin k vs ≡ a → Lands ms r most f p shape (row.answered limits l a (row.value_left leaving) (row.raised l))
      given_so k (Gives v words) number e =
          asked_so shape words (λ m. row.value_left leaving v (row.using words m))
          (λ room. value_so (s.Outside c) arity leaving fine v words room (λ stays. ap not (comes_back_with c.owner c.name c.arity k vs v words number e)))
      given_so k (Fails class reason) number e = left_so
      given_so k answer.Bignum number e = tt

      undefined_so : (b : Bool) → Lands ms r most f p shape (if b then row.error l (codes "undef") else Done (Ends (NotProvided c.owner c.name c.arity) l))
      undefined_so true = left_so
      undefined_so false = tt

      -- a function that is exported is no built-in that only raises
      function_so : (o : Option ℕ) → built_in_number c.owner c.name c.arity ≡ None → exported_number ms c.owner c.name c.arity ≡ o → length vs ≡ c.arity → Lands ms r most f p shape (row.called_outside ms leaving l vs c o)
      function_so None none e n = undefined_so (is_given ms c.owner)
      function_so (Some callee) none e n =
          let is = export_called ms c.owner c.name c.arity callee e in
          callee_so (s.Outside c) arity leaving fine vs callee (record { placed = is.placed; is = is.is; many = n ∙ is.many }) (λ stays. ap not (no_raiser c.owner c.name c.arity none))

      by : (o : Option ℕ) → built_in_number c.owner c.name c.arity ≡ o → length vs ≡ c.arity → Lands ms r most f p shape (row.resolved ms limits leaving l vs c o)
      by (Some k) e n = given_so k (builtin k vs) e refl
      by None e n = function_so (exported_number ms c.owner c.name c.arity) e refl n

  called_so : (target : s.Target) (arity : ℕ) (leaving : s.Leaving) (vs : List Tree) → IsFine ms f p (s.Calls target arity leaving) → length vs ≡ arity
      → Lands ms r most f p (s.Calls target arity leaving) (row.called ms limits f leaving l arity target vs)
  called_so (s.Inside label) arity leaving vs fine many = called_in label arity leaving vs fine many
  called_so (s.Outside c) arity leaving vs fine many = called_out c arity leaving vs fine many

  calls_row : (target : s.Target) (arity : ℕ) (leaving : s.Leaving) → Row (s.Calls target arity leaving)
  calls_row target arity leaving fine =
      let shape : s.Shape = s.Calls target arity leaving in
      let args = arguments_read arity (implied_defined ms f p shape fine) in
      at_stage shape (row.given l (row.arguments arity l.xs) (row.called ms limits f leaving l arity target)) (row.called ms limits f leaving l arity target args.terms)
      (ap (λ o. row.given l o (row.called ms limits f leaving l arity target)) args.are) (called_so target arity leaving args.terms fine args.many)

  returns_row : Row s.Returns
  returns_row fine =
      let first = (both_hold (slice_index_or p.xs 0 false) true (implied_defined ms f p s.Returns fine)).0 in
      let v = reads_one r most p.covered p.item p.stack p.tags p.xs p.ys l h (X 0) first in
      at_stage s.Returns (row.given l (row.read_of l (X 0)) (row.returned l)) (row.returned l v.0) (ap (λ o. row.given l o (row.returned l)) v.1)
      (without_so s.Returns (λ m. Done (Returns v.0 m)) (fits ms f p s.Returns fine) has_left)

  -- ---- exceptions

  pair_so : (shape : s.Shape) (name : List ℕ) (v : Tree) → Lands ms r most f p shape (row.pair_raised limits l name v)
  pair_so shape name v =
      asked_so shape 3 (λ m. row.raised (row.using 3 m) Error (t.Tuple (t.More (t.Atom name) (t.More v t.No)))) (λ room. record { has = record { left = h.left; used = room }; at = h.at; shows = h.shows })

  given_pair : (shape : s.Shape) (name : List ℕ) (o : Operand) → list_all (is_defined p.xs p.ys) (o ∷ []) ≡ true → Lands ms r most f p shape (row.given l (row.read_of l o) (row.pair_raised limits l name))
  given_pair shape name o e =
      let v = one_read o [] e in
      at_stage shape (row.given l (row.read_of l o) (row.pair_raised limits l name)) (row.pair_raised limits l name v.0) (ap (λ x. row.given l x (row.pair_raised limits l name)) v.1) (pair_so shape name v.0)

  raised_so : (shape : s.Shape) (o : Option RaiseClass) (reason : Tree) (else_so : Stage Local Event) → Lands ms r most f p shape else_so → Lands ms r most f p shape (row.raised_as l o reason else_so)
  raised_so shape (Some class) reason else_so done = left_so
  raised_so shape None reason else_so done = done

  raw_so : (vs : List Tree) → length vs ≡ 3 → IsFine ms f p (s.Raises s.Raw) → Lands ms r most f p (s.Raises s.Raw) (row.raw_raised l (Some vs))
  raw_so [] many fine = absurd (omega arith)
  raw_so (a ∷ []) many fine = absurd (omega arith)
  raw_so (a ∷ b ∷ []) many fine = absurd (omega arith)
  raw_so (a ∷ b ∷ c ∷ d ∷ vs) many fine = absurd (omega arith)
  raw_so (class ∷ reason ∷ trace ∷ []) many fine =
      let shape : s.Shape = s.Raises s.Raw in
      raised_so shape (row.class_of class) reason (row.put l (place.X 0) (t.Atom (codes "badarg")) row.goes_on)
      (put_so (Lands ms r most f p shape) p.covered p.xs p.ys l (place.X 0) (t.Atom (codes "badarg")) row.goes_on h (omega arith)
      (λ n filled. lands_on ms r most f p shape refl (fine.rules rule.FallsOff) p.covered (omega arith) n
      (with_tags r most p.covered p.item p.stack (untouched [] p.tags) p.tags (defined (0 ∷ []) p.xs) p.ys n (untouched_none p.tags) filled)))

  raises_row : (reason : s.Reason) → Row (s.Raises reason)
  raises_row (s.Clause m g arity) fine = left_so
  raises_row (s.Match o) fine = given_pair (s.Raises (s.Match o)) (codes "badmatch") o (operands_defined ms f p (s.Raises (s.Match o)) fine)
  raises_row (s.InCase o) fine = given_pair (s.Raises (s.InCase o)) (codes "case_clause") o (operands_defined ms f p (s.Raises (s.InCase o)) fine)
  raises_row (s.InTry o) fine = given_pair (s.Raises (s.InTry o)) (codes "try_clause") o (operands_defined ms f p (s.Raises (s.InTry o)) fine)
  raises_row s.InIf fine = left_so
  raises_row (s.Given class reason to) fine =
      let shape : s.Shape = s.Raises (s.Given class reason to) in
      let v = one_read class (reason ∷ []) (operands_defined ms f p shape fine) in
      let rest = (both_hold (is_defined p.xs p.ys class) (list_all (is_defined p.xs p.ys) (reason ∷ [])) (operands_defined ms f p shape fine)).1 in
      let w = one_read reason [] rest in
      at_stage shape (row.given_raised l (row.read_of l class) (row.read_of l reason)) (row.raised_as l (row.class_of v.0) w.0 (Done (Ends BadOperand l)))
      (ap (λ o. row.given_raised l o (row.read_of l reason)) v.1 ∙ ap (row.given_raised l (Some v.0)) w.1)
      (raised_so shape (row.class_of v.0) w.0 (Done (Ends BadOperand l)) tt)
  raises_row s.Raw fine =
      let shape : s.Shape = s.Raises s.Raw in
      let args = arguments_read 3 (implied_defined ms f p shape fine) in
      at_stage shape (row.raw_raised l (row.arguments 3 l.xs)) (row.raw_raised l (Some args.terms)) (ap (row.raw_raised l) args.are) (raw_so args.terms args.many fine)

  -- every row
  pub row_lands : (shape : s.Shape) → Row shape
  row_lands s.Passes fine = passes_row fine
  row_lands (s.Moves from parts) fine = moves_row from parts fine
  row_lands (s.Swaps a b) fine = swaps_row a b fine
  row_lands (s.Conses head tail to) fine = conses_row head tail to fine
  row_lands (s.Tuples parts to) fine = tuples_row parts to fine
  row_lands (s.Tests name operands label) fine = tests_row name operands label fine
  row_lands (s.Selects from branches other) fine = selects_row from branches other fine
  row_lands (s.Jumps label) fine = jumps_row label fine
  row_lands (s.Stacks op) fine = stack_row op fine
  row_lands (s.Tags op) fine = tag_row op fine
  row_lands (s.Computes name operands fail live to) fine = computes_row name operands fail live to fine
  row_lands (s.Calls target arity leaving) fine = calls_row target arity leaving fine
  row_lands s.Returns fine = returns_row fine
  row_lands (s.Raises reason) fine = raises_row reason fine
