-- A running function by itself: each state shows the end of a path, and so does what a row of it leads to.
use Rattle.std.proofs.Common.{◌≡◌, ℕ, zero, suc, ◌+◌, ◌-◌, ◌<◌, ◌≤◌, Bool, true, false, ◌||◌, Option, Some, None, List, [], ◌∷◌, ◌++◌, length, nat_eq, nat_lt, slice_get, refl, ap, subst, sym, ◌∙◌, arith, if◌then◌else◌}
use Rattle.std.specs.List.{Contains}
use Rattle.std.proofs.Math.Bool.{or-true}
use Rattle.std.proofs.lemmas.Bool.Decides.{nat_tests}
use Rattle.std.proofs.lemmas.List.Elements.{Contains-append_right}
use Rattle.std.proofs.lemmas.Option.{slice_get_within}
use Rattle.small_step.specs.Stage.{Stage, Still, Done}
use Rattle.paths.proofs.Tests.{here}
use Rattle.paths.specs.Paths.{Free}
use Rattle.term_tree.specs.Tree.{Tree}
use Rattle.beam_code.specs.declared.call.Limits.{Limits}
use Rattle.beam_code.specs.declared.module.Module.{Module}
use Rattle.beam_code.specs.Frame.{begun}
use Rattle.beam_code.specs.Function.{Placed, all_functions, cost_of, function_at, label_in}
use Rattle.beam_code.specs.Gates.{has_some, is_call_that_waits, may_raise, raise_gates}
use Rattle.beam_code.specs.Lined.{Lined}
use Rattle.beam_code.specs.Raise.{Handler, lowest_tag as lowest_mark}
use Rattle.beam_code.specs.Row.{enters, item_row, local_step, row}
use Rattle.beam_code.specs.Shape as s
use Rattle.beam_code.specs.State.{Event, Calls, TailCalls, Returns, Raises, Ends, Local, OutOfReductions, StackFull, Slot, TagKind, OfTry, OfCatch, only, x_registers}
use Rattle.beam_rows.proofs.Raising.{rows_raise_through_gates}
use Rattle.path_rules.proofs.Profiled.{profile_ends, profile_keeps}
use Rattle.path_rules.proofs.Staying.{free_stays}
use Rattle.path_rules.specs.declared.rule.Rule.{Rule}
use Rattle.path_rules.specs.declared.rule.Rule.TheVariants.{FallsOff}
use Rattle.path_rules.specs.declared.tag.Tag.{Tag}
use Rattle.path_rules.specs.Laws.{Ends as PathsEnd, KeepsRules, Onward}
use Rattle.path_rules.specs.Points.{Point, at_handler, at_labels, behind, caught_xs, first_defined, graph, handlers, labels_of, moves_at, moves_of, onward, start_of}
use Rattle.path_rules.specs.Rules.{breaks_at, breaks_of}
use Rattle.path_rules.specs.Tags.{lowest_tag}
use Rattle.beam_rows.proofs.Callees.{all_at}
use Rattle.run_laws.proofs.Landing.{HasLeft, HasPoint, IsCallee, IsEnd, IsWaiting, Lands, moves_on}
use Rattle.beam_rows.proofs.Lists.{contains_at, there_at, only_wide}
use Rattle.run_laws.proofs.Lists.{only_shows}
use Rattle.run_laws.proofs.Marks.{handler_there}
use Rattle.run_laws.proofs.Rows.{IsFine, row_lands}
use Rattle.run_laws.proofs.Slots.{none_shown_there}
use Rattle.run_laws.proofs.Tags.{IsLowest, lowest_is, untouched_none}
use Rattle.run_laws.specs.Formed.{AreChecked, IsFormed, is_formed}
use Rattle.run_laws.specs.Shown.{ShowsStack, kind_of, slots_of}

-- reductions that are left after a row: the entry takes one
abbrev pub Spends : ℕ → ℕ → ℕ → Type 0
Spends zero r left = left + 1 ≡ r
Spends (suc n) r left = left ≡ r

abbrev pub IsEvent : Stage Local Event → Type 0
IsEvent (Still l) = ⊥
IsEvent (Done (Ends e l)) = ⊥
IsEvent (Done e) = Unit {0}

module _ (ms : List Module) (most : ℕ) (f : Placed) where
  -- a function that has passed n items
  pub record Shown (n : ℕ) (l : Local) : Type 0 where
    pub p : Point
    pub free : Free (graph ms f.function) n p
    pub has : HasPoint l.left most p l

  -- shown by a point to which paths go on from this one
  pub record Moved (p : Point) (l : Local) : Type 0 where
    pub to : Point
    pub move : Contains ((graph ms f.function).moves p) to
    pub has : HasPoint l.left most to l

  pub passed : (n : ℕ) (p : Point) (l : Local) → Free (graph ms f.function) n p → Moved p l → Shown (suc n) l
  passed n p l free m = record { p = m.to; free = (p, free, m.move); has = m.has }

  -- left at an item that may raise
  pub record LeftAt (p : Point) (ys : Option (List Slot)) (item : ℕ) : Type 0 where
    pub i : Lined
    pub at : slice_get f.function.items p.item ≡ Some i
    pub may : may_raise ms (s.shape_of i.instr) ≡ true
    pub item_is : p.item ≡ item
    pub shows : ShowsStack p.stack p.tags p.ys ys

  pub record LeftAtCall (p : Point) (ys : Option (List Slot)) (item : ℕ) : Type 0 where
    pub left : LeftAt p ys item
    pub call : IsWaiting (s.shape_of left.i.instr)

  abbrev pub Next : ℕ → Point → ℕ → Stage Local Event → Type 0
  Next n p r (Still l) = Moved p l × Spends n r l.left
  Next n p r (Done (Calls callee args l)) = LeftAtCall p l.ys l.item × IsCallee ms callee args × HasLeft r most l
  Next n p r (Done (TailCalls callee args l)) = IsCallee ms callee args × HasLeft r most l
  Next n p r (Done (Returns v l)) = HasLeft r most l
  Next n p r (Done (Raises class reason l)) = LeftAt p l.ys l.item × HasLeft r most l
  Next n p r (Done (Ends e l)) = IsEnd e

module _ (ms : List Module) (most : ℕ) (checked : AreChecked ms) (fid : ℕ) (f : Placed) (is : function_at ms fid ≡ Some f) where
  pub among : Contains (all_functions ms) f
  among = contains_at (all_functions ms) fid f is

  formed : IsFormed f.function
  formed = checked.formed f among

  pub keeps : KeepsRules ms f
  keeps = profile_keeps ms f checked.profile among

  ends : PathsEnd ms f
  ends = profile_ends ms f checked.profile among

  stays : (n : ℕ) (p : Point) → Free (graph ms f.function) n p → p.item < length f.function.items
  stays n p free = free_stays ms f.function (slice_get_within f.function.items f.function.entry formed.entry formed.begins) n p free

  pub short : (n : ℕ) (p : Point) → Free (graph ms f.function) n p → n < length f.function.items
  short n p free = ends.short n p free (stays n p free)

  onward_from : (n : ℕ) (p : Point) → Free (graph ms f.function) n p → Onward (graph ms f.function) n (start_of f.function) p
  onward_from zero p free = free
  onward_from (suc n) p free = (free.0, onward_from n free.0 free.1, free.2)

  past_entry : (n : ℕ) (p : Point) → Free (graph ms f.function) (suc n) p → f.function.entry ≡ p.item → ⊥
  past_entry n p free e = ends.once 0 n (start_of f.function) p refl (onward_from (suc n) p free) e

  fine_at : (n : ℕ) (p : Point) (i : Lined) → Free (graph ms f.function) n p → slice_get f.function.items p.item ≡ Some i → (x : Rule) → breaks_of ms f x p (s.shape_of i.instr) ≡ false
  fine_at n p i free at x = subst (λ o. breaks_at ms f x p o ≡ false) at (keeps.fine x n p free)

  is_fine : (n : ℕ) (p : Point) (i : Lined) → Free (graph ms f.function) n p → slice_get f.function.items p.item ≡ Some i → IsFine ms f p (s.shape_of i.instr)
  is_fine n p i free at =
      record { rules = fine_at n p i free at; formed = all_at (λ x. is_formed f.function (s.shape_of x.instr)) f.function.items p.item i formed.items at }

  -- what a row leads to
  landed : (limits : Limits) (n r : ℕ) (p : Point) (l : Local) (i : Lined) → Free (graph ms f.function) (suc n) p → slice_get f.function.items p.item ≡ Some i
      → (st : Stage Local Event) → row ms limits f l (s.shape_of i.instr) ≡ st → Lands ms r most f p (s.shape_of i.instr) st → Next ms most f (suc n) p r st
  landed limits n r p l i free at (Still m) e t = (
    record { to = t.0; move = subst (λ o. Contains (moves_at ms f.function p o) t.0) (sym at) t.1; has = subst (λ k. HasPoint k most t.0 m) (sym t.2.left) t.2 },
    t.2.left,
  )
  landed limits n r p l i free at (Done (Calls callee args m)) e t = (
    record {
      left = record { i = i; at = at; may = subst (λ x. may_raise ms x ≡ true) (sym t.1.is) refl; item_is = sym t.0.at; shows = t.0.shows };
      call = t.1;
    },
    t.2,
    t.0.has,
  )
  landed limits n r p l i free at (Done (TailCalls callee args m)) e t = (t.1, t.0)
  landed limits n r p l i free at (Done (Returns v m)) e t = t
  landed limits n r p l i free at (Done (Raises class reason m)) e t =
      let gates : has_some (raise_gates ms (s.shape_of i.instr)) ≡ true = rows_raise_through_gates ms limits f l (s.shape_of i.instr) class reason m e in (
        record { i = i; at = at; may = ap (λ b. is_call_that_waits (s.shape_of i.instr) || b) gates ∙ or-true (is_call_that_waits (s.shape_of i.instr)); item_is = sym t.at; shows = t.shows },
        t.has,
      )
  landed limits n r p l i free at (Done (Ends x m)) e t = t

  less_one : (r : ℕ) → nat_eq r 0 ≡ false → r - 1 + 1 ≡ r
  less_one r h = grind (arith, nat_tests)

  abbrev first_point : Point
  first_point = behind s.Passes (start_of f.function)

  entry_move : Contains (moves_at ms f.function (start_of f.function) (slice_get f.function.items f.function.entry)) first_point
  entry_move =
      let fine : breaks_of ms f FallsOff (start_of f.function) s.Passes ≡ false =
      subst (λ shape. breaks_of ms f FallsOff (start_of f.function) shape ≡ false) formed.passes (fine_at 0 (start_of f.function) formed.entry refl formed.begins FallsOff) in
      subst (λ o. Contains (moves_at ms f.function (start_of f.function) o) first_point) (sym formed.begins)
      (subst (λ shape. Contains (moves_of ms f.function (start_of f.function) shape) first_point) (sym formed.passes) (moves_on ms 0 0 f (start_of f.function) s.Passes refl fine))

  abbrev entered : Local → Bool → Bool → Stage Local Event
  entered l out tight =
      if out then Done (Ends OutOfReductions l) else if tight then Done (Ends StackFull l) else Still (record l { left = l.left - 1; item = l.item + 1 })

  entry_next : (l : Local) → HasPoint l.left most (start_of f.function) l → (out tight : Bool) → nat_eq l.left 0 ≡ out → Next ms most f 0 (start_of f.function) l.left (entered l out tight)
  entry_next l h true tight e = tt
  entry_next l h false true e = tt
  entry_next l h false false e = (
    record {
      to = first_point;
      move = entry_move;
      has = record { left = refl; room = h.room; at = ap (λ k. k + 1) h.at; registers = h.registers; wide = h.wide; shows = h.shows };
    },
    less_one l.left e,
  )

  next_by : (limits : Limits) (big : limits.heap ≤ most) (room : ℕ) (l : Local) (n : ℕ) (p : Point) → Free (graph ms f.function) n p → HasPoint l.left most p l → Next ms most f n p l.left (local_step ms limits room f l)
  next_by limits big room l zero p free h =
      let t : HasPoint l.left most (start_of f.function) l = subst (λ q. HasPoint l.left most q l) free h in
      let same : l.item ≡ f.function.entry = t.at in
      let at : nat_eq l.item f.function.entry ≡ true = grind (arith, nat_tests) in
      subst (λ q. Next ms most f 0 q l.left (local_step ms limits room f l)) (sym free)
      (subst (λ b. Next ms most f 0 (start_of f.function) l.left (if b then enters room f.function l else item_row ms limits f l (slice_get f.function.items l.item))) (sym at)
      (entry_next l t (nat_eq l.left 0) (nat_lt room (cost_of f.function)) refl))
  next_by limits big room l (suc n) p free h =
      let i = there_at f.function.items p.item (stays (suc n) p free) in
      let away : l.item ≡ f.function.entry → ⊥ = λ e. past_entry n p free (sym e ∙ h.at) in
      let not_entry : nat_eq l.item f.function.entry ≡ false = grind (arith, nat_tests) in
      let item_is : slice_get f.function.items l.item ≡ Some i.0 = ap (slice_get f.function.items) h.at ∙ i.1 in
      subst (λ b. Next ms most f (suc n) p l.left (if b then enters room f.function l else item_row ms limits f l (slice_get f.function.items l.item))) (sym not_entry)
      (subst (λ o. Next ms most f (suc n) p l.left (item_row ms limits f l o)) (sym item_is)
      (landed limits n l.left p l i.0 free i.1 (row ms limits f l (s.shape_of i.0.instr)) refl
      (row_lands ms limits l.left most big f p l h (s.shape_of i.0.instr) (is_fine (suc n) p i.0 free i.1))))

  -- one row
  pub next : (limits : Limits) (big : limits.heap ≤ most) (room n : ℕ) (l : Local) (shown : Shown ms most f n l) → Next ms most f n shown.p l.left (local_step ms limits room f l)
  next limits big room n l shown = next_by limits big room l n shown.p shown.free shown.has

  entry_quiet : (l : Local) (out tight : Bool) → IsEvent (entered l out tight) → ⊥
  entry_quiet l true tight e = e
  entry_quiet l false true e = e
  entry_quiet l false false e = e

  late_by : (limits : Limits) (room n : ℕ) (l : Local) (p : Point) → Free (graph ms f.function) n p → HasPoint l.left most p l → IsEvent (local_step ms limits room f l) → 0 < n
  late_by limits room zero l p free h e =
      let t : HasPoint l.left most (start_of f.function) l = subst (λ q. HasPoint l.left most q l) free h in
      let same : l.item ≡ f.function.entry = t.at in
      let at : nat_eq l.item f.function.entry ≡ true = grind (arith, nat_tests) in
      absurd (entry_quiet l (nat_eq l.left 0) (nat_lt room (cost_of f.function))
      (subst (λ b. IsEvent (if b then enters room f.function l else item_row ms limits f l (slice_get f.function.items l.item))) at e))
  late_by limits room (suc n) l p free h e = omega arith

  -- the first row, at the entry, has no event but an end
  pub events_late : (limits : Limits) (room n : ℕ) (l : Local) → Shown ms most f n l → IsEvent (local_step ms limits room f l) → 0 < n
  events_late limits room n l shown e = late_by limits room n l shown.p shown.free shown.has e

  -- ---- from these a function goes on

  pub starts : (args : List Tree) (l : Local) → length args ≡ f.function.arity → l.used ≤ most → Shown ms most f 0 (begun f.function.entry args l)
  starts args l many used =
      let few = formed.arity in
      record {
        p = start_of f.function;
        free = refl;
        has = record { left = refl; room = omega arith; at = refl; registers = only_shows args f.function.arity many; wide = only_wide args (omega arith); shows = none_shown_there };
      }

  pub answered : (n : ℕ) (p : Point) (item : ℕ) (ys : Option (List Slot)) (v : Tree) (used left : ℕ) → Free (graph ms f.function) n p → used ≤ most → LeftAtCall ms most f p ys item
      → Moved ms most f p (record { item = item + 1; xs = only (v ∷ []); ys = ys; used = used; left = left })
  answered n p item ys v used left free low w =
      let t = w.left in
      let call : s.Shape = s.Calls w.call.target w.call.arity s.Stays in
      let q : Point = behind call p in
      let fine : breaks_of ms f FallsOff p call ≡ false = subst (λ shape. breaks_of ms f FallsOff p shape ≡ false) w.call.is (fine_at n p t.i free t.at FallsOff) in
      let move : Contains (moves_of ms f.function p (s.shape_of t.i.instr)) q = subst (λ shape. Contains (moves_of ms f.function p shape) q) (sym w.call.is) (moves_on ms 0 0 f p call w.call.comes fine) in
      record {
        to = q;
        move = subst (λ o. Contains (moves_at ms f.function p o) q) (sym t.at) move;
        has = record {
          left = refl;
          room = omega arith;
          at = ap (λ k. k + 1) (sym t.item_is);
          registers = only_shows (v ∷ []) 1 refl;
          wide = only_wide (v ∷ []) (omega arith);
          shows = subst (λ ts. ShowsStack p.stack ts p.ys ys) (sym (untouched_none p.tags)) t.shows;
        };
      }

  few : (kind : TagKind) → caught_xs (kind_of kind) ≤ 3
  few OfTry = omega arith
  few OfCatch = omega arith

  pub record HasHandler (p : Point) (h : Handler) : Type 0 where
    pub mark : Tag
    pub lowest : lowest_tag p.tags ≡ Some mark
    pub kind : mark.kind ≡ kind_of h.kind
    pub label : mark.label ≡ h.label
    pub to : ℕ
    pub there : label_in f.function h.label ≡ Some to

  lowest_in : (o : Option (List Slot)) (h : Handler) → lowest_mark o ≡ Some h → IsLowest 0 (slots_of o) h
  lowest_in None h e = absurd cc
  lowest_in (Some ss) h e = lowest_is ss 0 h e

  pub handler_of : (n : ℕ) (p : Point) (ys : Option (List Slot)) (item : ℕ) (h : Handler) → Free (graph ms f.function) n p → LeftAt ms most f p ys item → lowest_mark ys ≡ Some h → HasHandler p h
  handler_of n p ys item h free t e =
      let low = lowest_in ys h e in
      let mark : Tag = record { y = low.y; kind = kind_of h.kind; label = h.label } in
      let on : lowest_tag p.tags ≡ Some mark = ap lowest_tag t.shows.tags_are ∙ low.is in
      let there = handler_there ms f keeps n p mark free on in
      record { mark = mark; lowest = on; kind = refl; label = refl; to = there.0; there = there.1 }

  pub handled_at : (p : Point) (was item used left : ℕ) (ys : Option (List Slot)) (h : Handler) (vs : List Tree) → LeftAt ms most f p ys was → HasHandler p h → length vs ≡ caught_xs (kind_of h.kind)
      → used ≤ most → label_in f.function h.label ≡ Some item → Moved ms most f p (record { item = item; xs = only vs; ys = ys; used = used; left = left })
  handled_at p was item used left ys h vs t handler many low at =
      let most_three = few h.kind in
      let q : Point = record p { item = item; xs = first_defined (caught_xs handler.mark.kind) x_registers; covered = 0; raised = true } in
      let to : label_in f.function handler.mark.label ≡ Some item = ap (label_in f.function) handler.label ∙ at in
      let into : Contains (handlers f.function p (lowest_tag p.tags)) q =
      subst (λ o. Contains (handlers f.function p o) q) (sym handler.lowest) (subst (λ o. Contains (at_handler p handler.mark.kind o) q) (sym to) (here q [] q refl)) in
      let shape : s.Shape = s.shape_of t.i.instr in
      let move : Contains (moves_of ms f.function p shape) q =
      Contains-append_right (onward f.function shape p) (at_labels f.function p (labels_of shape) ++ (if may_raise ms shape then handlers f.function p (lowest_tag p.tags) else [])) q
      (Contains-append_right (at_labels f.function p (labels_of shape)) (if may_raise ms shape then handlers f.function p (lowest_tag p.tags) else []) q
      (subst (λ b. Contains (if b then handlers f.function p (lowest_tag p.tags) else []) q) (sym t.may) into)) in
      record {
        to = q;
        move = subst (λ o. Contains (moves_at ms f.function p o) q) (sym t.at) move;
        has = record {
          left = refl;
          room = omega arith;
          at = refl;
          registers = only_shows vs (caught_xs handler.mark.kind) (many ∙ ap caught_xs (sym handler.kind));
          wide = only_wide vs (omega arith);
          shows = t.shows;
        };
      }
