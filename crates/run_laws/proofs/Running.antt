-- Runs of checked modules: each state is shown by paths, and a budget of rows falls.
use Rattle.std.proofs.Common.{◌≡◌, ◌≢◌, ℕ, zero, suc, ◌+◌, ◌-◌, ◌*◌, ◌≤◌, ◌<◌, Bool, true, false, Option, Some, None, List, [], ◌∷◌, length, nat_lt, slice_get, refl, ap, subst, sym, ◌∙◌, arith, if◌then◌else◌}
use Rattle.std.specs.Option.{option_and_then}
use Rattle.small_step.proofs.Runs.{done_stays, steps_on}
use Rattle.small_step.specs.Stage.{Stage, Still, Done, run, and_then}
use Rattle.term_tree.specs.Tree.{Tree}
use Rattle.beam_code.specs.declared.call.Limits.{Limits}
use Rattle.beam_code.specs.declared.module.Module.{Module}
use Rattle.beam_code.specs.Frame.{after, back_in, beam_step, begun, costs_of, entered, frame_of, row_at, state_of}
use Rattle.beam_code.specs.Function.{Placed, all_functions, function_at, items_in, items_of, label_in}
use Rattle.beam_code.specs.Meaning.{entry_of, first_state, most_rows, words_in}
use Rattle.beam_code.specs.Raise.{Handler, Search, caught, caught_words, class_atom, handled, label_at, lowest_tag, raise_in, resumed, searching}
use Rattle.beam_code.specs.Row.{local_step}
use Rattle.beam_code.specs.State.{BeamState, End, Bignum, HeapFull, StackFull, OutOfReductions, BadOperand, NotProvided, Stuck, Ended, Event, Calls, TailCalls, Returns, Raises, Ends, Finish, Frame, Local, Outcome, TagKind, OfTry, OfCatch, only}
use Rattle.paths.specs.Paths.{Free}
use Rattle.path_rules.specs.Points.{Point, caught_xs, graph}
use Rattle.run_laws.proofs.Landing.{HasLeft, IsCallee, IsEnd}
use Rattle.run_laws.proofs.Local.{HasHandler, IsEvent, LeftAt, LeftAtCall, Next, Shown, Spends, answered, events_late, handled_at, handler_of, next, passed, short, starts}
use Rattle.run_laws.proofs.Rows.{not_less}
use Rattle.run_laws.specs.Formed.{AreChecked}
use Rattle.run_laws.specs.Runs.{IsCall, NoRowIsStuck, RunsEnd, StatesAreShown, most_words}
use Rattle.run_laws.specs.Shown.{AllWait as AllShown, StateIsShown, kind_of}

abbrev NotStuck : Outcome → Type 0
NotStuck (Ended Stuck) = ⊥
NotStuck _ = Unit {0}

-- the rows that reductions pay for, and those that an activation has left which has passed n items
abbrev purse : ℕ → ℕ → ℕ
purse full zero = 1
purse full (suc r) = full + purse full r

abbrev rest : Placed → ℕ → ℕ
rest f zero = 0
rest f (suc n) = length f.function.items - suc n

-- a frame that waits at a call, and what is below it
record Waits (ms : List Module) (most : ℕ) (frame : Frame) (b : ℕ) (below : ℕ → Type 0) : Type 0 where
  f : Placed
  is : function_at ms frame.function ≡ Some f
  n : ℕ
  p : Point
  free : Free (graph ms f.function) n p
  left : LeftAtCall ms most f p frame.ys frame.item
  budget : ℕ
  pays : rest f (suc n) + budget ≤ b
  under : below budget

abbrev AllWait : List Module → ℕ → List Frame → ℕ → Type 0
AllWait ms most [] b = Unit {0}
AllWait ms most (frame ∷ frames) b = Waits ms most frame b (AllWait ms most frames)

-- a state of the run, with a budget of rows
record Paid (ms : List Module) (most b : ℕ) (s : BeamState) : Type 0 where
  f : Placed
  is : function_at ms s.function ≡ Some f
  n : ℕ
  shown : Shown ms most f n s.here
  budget : ℕ
  pays : purse (items_of ms) s.here.left + (rest f n + budget) ≤ b
  frames : AllWait ms most s.frames budget

abbrev Follows : List Module → ℕ → ℕ → Stage BeamState Finish → Type 0
Follows ms most b (Still s) = (c : ℕ) × (c < b) × Paid ms most c s
Follows ms most b (Done o) = NotStuck o.outcome

items_most_in : (ps : List Placed) (k : ℕ) (f : Placed) → slice_get ps k ≡ Some f → length f.function.items ≤ items_in ps
items_most_in [] k f e = absurd cc
items_most_in (p ∷ ps) zero f e = let same : p ≡ f = cc in subst (λ h. length h.function.items ≤ items_in (p ∷ ps)) same (omega arith)
items_most_in (p ∷ ps) (suc k) f e = let r = items_most_in ps k f e in omega arith

items_most : (ms : List Module) (fid : ℕ) (f : Placed) → function_at ms fid ≡ Some f → length f.function.items ≤ items_of ms
items_most ms fid f e = items_most_in (all_functions ms) fid f e

end_fine : (e : End) → IsEnd e → NotStuck (Ended e)
end_fine Stuck h = h
end_fine Bignum h = tt
end_fine HeapFull h = tt
end_fine StackFull h = tt
end_fine OutOfReductions h = tt
end_fine BadOperand h = tt
end_fine (NotProvided m g n) h = tt

purse_some : (full r : ℕ) → 1 ≤ purse full r
purse_some full zero = omega arith
purse_some full (suc r) = let h = purse_some full r in omega arith

-- a row costs one
row_costs : (full : ℕ) (f : Placed) (n r left : ℕ) → n < length f.function.items → length f.function.items ≤ full → Spends n r left → purse full left + rest f (suc n) < purse full r + rest f n
row_costs full f zero r left low le s = let e : suc left ≡ r = omega arith in subst (λ k. purse full left + rest f 1 < purse full k + rest f 0) e (omega arith)
row_costs full f (suc n) r left low le s = let e : purse full left ≡ purse full r = ap (purse full) s in omega arith

rest_falls : (full : ℕ) (f : Placed) (n r : ℕ) → n < length f.function.items → 0 < n → purse full r + rest f (suc n) < purse full r + rest f n
rest_falls full f zero r low some = absurd (omega arith)
rest_falls full f (suc n) r low some = omega arith

module _ (ms : List Module) (limits : Limits) (most : ℕ) (big : limits.heap ≤ most) (checked : AreChecked ms) where
  -- a state that a row leads to
  goes_to : (b budget fid n : ℕ) (f : Placed) (l : Local) (frames : List Frame) → function_at ms fid ≡ Some f → Shown ms most f n l → AllWait ms most frames budget → purse (items_of ms) l.left + (rest f n + budget) < b
      → Follows ms most b (Still (state_of fid frames l))
  goes_to b budget fid n f l frames is shown wait pays =
      (purse (items_of ms) l.left + (rest f n + budget), pays, record { f = f; is = is; n = n; shown = shown; budget = budget; pays = omega arith; frames = wait })

  -- a callee begins
  begins : (b budget callee r : ℕ) (args : List Tree) (frames : List Frame) (l : Local) → IsCallee ms callee args → HasLeft r most l → AllWait ms most frames budget → purse (items_of ms) r + budget < b
      → Follows ms most b (entered frames callee args l (function_at ms callee))
  begins b budget callee r args frames l e left wait pays =
      subst (λ o. Follows ms most b (entered frames callee args l o)) (sym e.is)
      (goes_to b budget callee 0 e.placed (begun e.placed.function.entry args l) frames e.is (starts ms most checked callee e.placed e.is args l e.many left.used) wait
      (subst (λ k. purse (items_of ms) k + (0 + budget) < b) (sym left.left) (omega arith)))

  -- a value comes back
  backs : (b budget r fid : ℕ) (v : Tree) (frames : List Frame) (l : Local) → HasLeft r most l → AllWait ms most frames budget → purse (items_of ms) r + budget < b → Follows ms most b (back_in frames fid v l)
  backs b budget r fid v [] l left wait pays = tt
  backs b budget r fid v (frame ∷ frames) l left wait pays =
      let p = wait.pays in
      goes_to b wait.budget frame.function (suc wait.n) wait.f (record l { item = frame.item + 1; xs = only (v ∷ []); ys = frame.ys }) frames wait.is
      (passed ms most wait.f wait.n wait.p (record l { item = frame.item + 1; xs = only (v ∷ []); ys = frame.ys }) wait.free
      (answered ms most checked frame.function wait.f wait.is wait.n wait.p frame.item frame.ys v l.used l.left wait.free left.used wait.left)) wait.under
      (subst (λ k. purse (items_of ms) k + (rest wait.f (suc wait.n) + wait.budget) < b) (sym left.left) (omega arith))

  -- a frame goes on at its handler with these terms
  resumes : (b budget n : ℕ) (s : Search) (frame : Frame) (frames : List Frame) (f : Placed) (is : function_at ms frame.function ≡ Some f) (p : Point) → Free (graph ms f.function) n p
      → LeftAt ms most f p frame.ys frame.item → (h : Handler) (vs : List Tree) (words item : ℕ) → HasHandler ms most checked frame.function f is p h → label_in f.function h.label ≡ Some item
      → length vs ≡ caught_xs (kind_of h.kind) → s.used + words ≤ most → AllWait ms most frames budget → purse (items_of ms) s.left + (rest f (suc n) + budget) < b
      → Follows ms most b (Still (resumed s frame frames item vs words))
  resumes b budget n s frame frames f is p free left h vs words item has there many room wait pays =
      let l : Local = (resumed s frame frames item vs words).here in
      goes_to b budget frame.function (suc n) f l frames is
      (passed ms most f n p l free (handled_at ms most checked frame.function f is p frame.item item (s.used + words) s.left frame.ys h vs left has many room there)) wait pays

  -- the handler of this frame takes it
  taken : (b budget n : ℕ) (s : Search) (frame : Frame) (frames : List Frame) (f : Placed) (is : function_at ms frame.function ≡ Some f) (p : Point) → Free (graph ms f.function) n p
      → LeftAt ms most f p frame.ys frame.item → (h : Handler) (item : ℕ) → HasHandler ms most checked frame.function f is p h → label_in f.function h.label ≡ Some item → AllWait ms most frames budget
      → purse (items_of ms) s.left + (rest f (suc n) + budget) < b → s.used ≤ most → (kind : TagKind) → h.kind ≡ kind → Follows ms most b (handled limits s frame frames kind (Some item))
  taken b budget n s frame frames f is p free left h item has at wait pays used OfTry e =
      resumes b budget n s frame frames f is p free left h (class_atom s.class ∷ s.reason ∷ class_atom s.class ∷ []) 0 item has at (ap (λ k. caught_xs (kind_of k)) (sym e)) (omega arith) wait pays
  taken b budget n s frame frames f is p free left h item has at wait pays used OfCatch e = by (nat_lt limits.heap (s.used + caught_words s.class)) refl
    where
      goes_on : Stage BeamState Finish
      goes_on = Still (resumed s frame frames item (caught s.class s.reason ∷ []) (caught_words s.class))

      by : (full : Bool) → nat_lt limits.heap (s.used + caught_words s.class) ≡ full → Follows ms most b (if full then Done (record { outcome = Ended HeapFull; state = searching s frame frames }) else goes_on)
      by true t = tt
      by false t =
          let room = not_less limits.heap (s.used + caught_words s.class) t in
          resumes b budget n s frame frames f is p free left h (caught s.class s.reason ∷ []) (caught_words s.class) item has at (ap (λ k. caught_xs (kind_of k)) (sym e)) (omega arith) wait pays

  raise_by : (b budget n : ℕ) (s : Search) (from : BeamState) (frame : Frame) (frames : List Frame) (f : Placed) → function_at ms frame.function ≡ Some f → (p : Point) → Free (graph ms f.function) n p
      → LeftAt ms most f p frame.ys frame.item → AllWait ms most frames budget → purse (items_of ms) s.left + (rest f (suc n) + budget) < b → s.used ≤ most → Follows ms most b (raise_in ms limits s from frames)
      → (o : Option Handler) → lowest_tag frame.ys ≡ o → Follows ms most b (raise_in ms limits s from (frame ∷ frames))
  raise_by b budget n s from frame frames f is p free left wait pays used outer None e = rw (e, Follows) outer
  raise_by b budget n s from frame frames f is p free left wait pays used outer (Some h) e =
      let has = handler_of ms most checked frame.function f is n p frame.ys frame.item h free left e in
      rw (e, Follows)
      (subst (λ o. Follows ms most b (handled limits s frame frames h.kind (option_and_then (label_at h.label) o))) (sym is)
      (subst (λ o. Follows ms most b (handled limits s frame frames h.kind o)) (sym has.there)
      (taken b budget n s frame frames f is p free left h has.to has has.there wait pays used h.kind refl)))

  raises : (b budget : ℕ) (s : Search) (from : BeamState) (frames : List Frame) → AllWait ms most frames budget → purse (items_of ms) s.left + budget < b → s.used ≤ most
      → Follows ms most b (raise_in ms limits s from frames)
  raises b budget s from [] wait pays used = tt
  raises b budget s from (frame ∷ frames) wait pays used =
      let p = wait.pays in
      raise_by b wait.budget wait.n s from frame frames wait.f wait.is wait.p wait.free wait.left.left wait.under (omega arith) used (raises b wait.budget s from frames wait.under (omega arith) used) (lowest_tag frame.ys) refl

  -- what an event does to the frames
  follows : (b budget n r fid : ℕ) (f : Placed) (frames : List Frame) → function_at ms fid ≡ Some f → (p : Point) → Free (graph ms f.function) n p → n < length f.function.items
      → AllWait ms most frames budget → purse (items_of ms) r + (rest f n + budget) ≤ b → (st : Stage Local Event) → (IsEvent st → 0 < n) → Next ms most f n p r st → Follows ms most b (after ms limits fid frames st)
  follows b budget n r fid f frames is p free low wait pays (Still l) some t =
      let cost = row_costs (items_of ms) f n r l.left low (items_most ms fid f is) t.1 in
      goes_to b budget fid (suc n) f l frames is (passed ms most f n p l free t.0) wait (omega arith)
  follows b budget n r fid f frames is p free low wait pays (Done (Calls callee args l)) some t =
      let cost = rest_falls (items_of ms) f n r low (some tt) in
      begins b (rest f (suc n) + budget) callee r args (frame_of fid l ∷ frames) l t.1 t.2
      (record { f = f; is = is; n = n; p = p; free = free; left = t.0; budget = budget; pays = omega arith; under = wait }) (omega arith)
  follows b budget n r fid f frames is p free low wait pays (Done (TailCalls callee args l)) some t =
      let cost = rest_falls (items_of ms) f n r low (some tt) in
      begins b budget callee r args frames l t.0 t.1 wait (omega arith)
  follows b budget n r fid f frames is p free low wait pays (Done (Returns v l)) some t =
      let cost = rest_falls (items_of ms) f n r low (some tt) in
      backs b budget r fid v frames l t wait (omega arith)
  follows b budget n r fid f frames is p free low wait pays (Done (Raises class reason l)) some t =
      let cost = rest_falls (items_of ms) f n r low (some tt) in
      let spent : purse (items_of ms) l.left + (rest f (suc n) + budget) < b = subst (λ k. purse (items_of ms) k + (rest f (suc n) + budget) < b) (sym t.1.left) (omega arith) in
      raise_by b budget n (record { class = class; reason = reason; used = l.used; left = l.left }) (state_of fid frames l) (frame_of fid l) frames f is p free t.0 wait spent t.1.used
      (raises b budget (record { class = class; reason = reason; used = l.used; left = l.left }) (state_of fid frames l) frames wait (omega arith) t.1.used) (lowest_tag l.ys) refl
  follows b budget n r fid f frames is p free low wait pays (Done (Ends e l)) some t = end_fine e t

  step_on : (b : ℕ) (s : BeamState) → Paid ms most b s → Follows ms most b (beam_step ms limits s)
  step_on b s w =
      let room = limits.stack - costs_of ms s.frames in
      subst (λ o. Follows ms most b (row_at ms limits s o)) (sym w.is)
      (follows b w.budget w.n s.here.left s.function w.f s.frames w.is w.shown.p w.shown.free (short ms most checked s.function w.f w.is w.n w.shown.p w.shown.free) w.frames w.pays (local_step ms limits room w.f s.here)
      (λ e. events_late ms most checked s.function w.f w.is limits room w.n s.here w.shown e) (next ms most checked s.function w.f w.is limits big room w.n s.here w.shown))

  some_left : (b : ℕ) (s : BeamState) → Paid ms most b s → 1 ≤ b
  some_left b s w = let h = purse_some (items_of ms) s.here.left in let p = w.pays in omega arith

  record EndsIn (b : ℕ) (s : BeamState) : Type 0 where
    finish : Finish
    within : run (beam_step ms limits) b s ≡ Done finish
    well : NotStuck finish.outcome

  ends_by : (b : ℕ) (s : BeamState) (st : Stage BeamState Finish) → beam_step ms limits s ≡ st → 1 ≤ b → Follows ms most b st → ((c : ℕ) (u : BeamState) → c < b → Paid ms most c u → EndsIn c u) → EndsIn b s
  ends_by b s (Done o) e some well more = record { finish = o; within = done_stays (beam_step ms limits) 1 b s o (ap (λ st. and_then st (run (beam_step ms limits) 0)) e) some; well = well }
  ends_by b s (Still u) e some follows more =
      let r = more follows.0 u follows.1 follows.2 in
      record {
        finish = r.finish;
        within = done_stays (beam_step ms limits) (suc follows.0) b s r.finish (steps_on (beam_step ms limits) follows.0 s u e ∙ r.within) (let low = follows.1 in omega arith);
        well = r.well;
      }

  ends_within : (fuel b : ℕ) (s : BeamState) → b ≤ fuel → Paid ms most b s → EndsIn b s
  ends_within zero b s low w = let some = some_left b s w in absurd (omega arith)
  ends_within (suc fuel) b s low w =
      ends_by b s (beam_step ms limits s) refl (some_left b s w) (step_on b s w) (λ c u less paid. ends_within fuel c u (omega arith) paid)

  -- every state that a run comes to is paid for, and every end is none that is stuck
  abbrev Kept : Stage BeamState Finish → Type 0
  Kept (Still s) = (c : ℕ) × Paid ms most c s
  Kept (Done o) = NotStuck o.outcome

  kept : (k b : ℕ) (s : BeamState) → Paid ms most b s → Kept (run (beam_step ms limits) k s)
  kept zero b s w = (b, w)
  kept (suc k) b s w = by (beam_step ms limits s) (step_on b s w) (λ c u paid. kept k c u paid)
    where
      by : (st : Stage BeamState Finish) → Follows ms most b st → ((c : ℕ) (u : BeamState) → Paid ms most c u → Kept (run (beam_step ms limits) k u)) → Kept (and_then st (run (beam_step ms limits) k))
      by (Done o) well more = well
      by (Still u) follows more = more follows.0 u follows.2

purse_most : (full r : ℕ) → purse full r ≤ (r + 2) * (full + 2)
purse_most full zero = omega arith
purse_most full (suc r) =
    let h = purse_most full r in
    let e : (suc r + 2) * (full + 2) ≡ full + 2 + (r + 2) * (full + 2) = grind arith in
    omega arith

begin : (ms : List Module) (limits : Limits) (fid : ℕ) (args : List Tree) → AreChecked ms → IsCall ms fid args → Paid ms (most_words limits args) (most_rows ms limits) (first_state ms limits fid args)
begin ms limits fid args checked call =
    let f = call.placed in
    record {
      f = f;
      is = call.is;
      n = 0;
      shown = subst (λ o. Shown ms (most_words limits args) f 0 (record { item = entry_of o; xs = only args; ys = None; used = words_in args; left = limits.reductions })) (sym call.is)
          (starts ms (most_words limits args) checked fid f call.is args (first_state ms limits fid args).here call.arity (omega arith));
      budget = 0;
      pays = (let h = purse_most (items_of ms) limits.reductions in omega arith);
      frames = tt;
    }

-- ---- the laws

frames_shown : (ms : List Module) (most : ℕ) (frames : List Frame) (b : ℕ) → AllWait ms most frames b → AllShown ms frames
frames_shown ms most [] b w = tt
frames_shown ms most (frame ∷ frames) b w =
    let t = w.left.left in (
      record {
        placed = w.f;
        is = w.is;
        moves = w.n;
        point = w.p;
        free = w.free;
        item = t.item_is;
        stack = t.shows;
        call = t.i;
        there = subst (λ k. slice_get w.f.function.items k ≡ Some t.i) t.item_is t.at;
        target = w.left.call.target;
        arity = w.left.call.arity;
        calls = w.left.call.is;
      },
      frames_shown ms most frames w.budget w.under,
    )

state_shown : (ms : List Module) (most b : ℕ) (s : BeamState) → Paid ms most b s → StateIsShown ms most s
state_shown ms most b s w =
    let h = w.shown.has in
    record {
      here = record {
        placed = w.f;
        is = w.is;
        moves = w.n;
        point = w.shown.p;
        free = w.shown.free;
        shows = record { item = sym h.at; room = h.room; xs = h.registers; wide = h.wide; stack = h.shows };
      };
      frames = frames_shown ms most s.frames w.budget w.frames;
    }

not_stuck : (o : Outcome) → NotStuck o → o ≢ Ended Stuck
not_stuck o h e = subst NotStuck e h

enough : (limits : Limits) (args : List Tree) → limits.heap ≤ most_words limits args
enough limits args = omega arith

module _ (ms : List Module) (limits : Limits) (fid : ℕ) (args : List Tree) (checked : AreChecked ms) (call : IsCall ms fid args) where
  all_kept : (k : ℕ) → Kept ms limits (most_words limits args) (enough limits args) checked (run (beam_step ms limits) k (first_state ms limits fid args))
  all_kept k = kept ms limits (most_words limits args) (enough limits args) checked k (most_rows ms limits) (first_state ms limits fid args) (begin ms limits fid args checked call)

  kept_at : (k : ℕ) (st : Stage BeamState Finish) → run (beam_step ms limits) k (first_state ms limits fid args) ≡ st → Kept ms limits (most_words limits args) (enough limits args) checked st
  kept_at k st e = subst (Kept ms limits (most_words limits args) (enough limits args) checked) e (all_kept k)

pub states_are_shown : StatesAreShown
states_are_shown ms limits fid args checked call k s e = let q = kept_at ms limits fid args checked call k (Still s) e in state_shown ms (most_words limits args) q.0 s q.1

pub no_row_is_stuck : NoRowIsStuck
no_row_is_stuck ms limits fid args checked call k finish e = not_stuck finish.outcome (kept_at ms limits fid args checked call k (Done finish) e)

pub runs_end : RunsEnd
runs_end ms limits fid args checked call =
    let start = begin ms limits fid args checked call in
    let r = ends_within ms limits (most_words limits args) (enough limits args) checked (most_rows ms limits) (most_rows ms limits) (first_state ms limits fid args) (omega arith) start in
    (r.finish, r.within, not_stuck r.finish.outcome r.well)
