-- An activation follows one path, and comes to no item twice.
use Rattle.std.proofs.Common.{◌≡◌, ℕ, ◌+◌, inl, inr, List, [], ◌∷◌, Option, Some, refl, subst, sym, ◌∙◌}
use Rattle.std.specs.List.{Contains}
use Rattle.small_step.specs.Stage.{Stage, Still, Done}
use Rattle.paths.specs.Paths.{Free}
use Rattle.path_rules.proofs.Profiled.{profile_ends}
use Rattle.beam_code.specs.declared.module.Module.{Module}
use Rattle.beam_code.specs.Function.{Placed, function_at}
use Rattle.beam_code.specs.Row.{local_step}
use Rattle.beam_code.specs.State.{Event, Calls, TailCalls, Returns, Raises, Ends, Local, Slot, only}
use Rattle.path_rules.specs.Points.{Point, graph}
use Rattle.term_tree.specs.Tree.{Tree}
use Rattle.run_laws.proofs.Landing.{HasPoint}
use Rattle.run_laws.proofs.Local.{LeftAt, Moved, Next, among, answered, handled_at, handler_of, next, short}
use Rattle.run_laws.specs.Activations.{ActivationsAreShort, ActivationsFollowPaths, IsHandled, Succeeds}
use Rattle.run_laws.specs.Formed.{AreChecked}
use Rattle.run_laws.specs.Shown.{Shows}

pub activations_are_short : ActivationsAreShort
activations_are_short ms heap function l shown checked = record {
  rows = short ms heap checked function shown.placed shown.is shown.moves shown.point shown.free;
  once = λ n k q free onward at. (profile_ends ms shown.placed checked.profile (among ms heap checked function shown.placed shown.is)).once n k q shown.point free onward (at ∙ sym shown.shows.item);
}

module _ (ms : List Module) (heap : ℕ) (checked : AreChecked ms) (function : ℕ) (f : Placed) (is : function_at ms function ≡ Some f) (n : ℕ) (p : Point) (free : Free (graph ms f.function) n p) where
  abbrev Next_shown : Local → Type 0
  Next_shown m = (q : Point) × Contains ((graph ms f.function).moves p) q × Shows heap q m

  shown_by : (m : Local) → Moved ms heap f p m → Next_shown m
  shown_by m t = (t.to, t.move, record { item = sym t.has.at; room = t.has.room; xs = t.has.registers; wide = t.has.wide; stack = t.has.shows })

  -- the same state, by its parts
  of_parts : (m : Local) (i : ℕ) (x : List (Option Tree)) (y : Option (List Slot)) → m.item ≡ i → m.xs ≡ x → m.ys ≡ y → Next_shown (record { item = i; xs = x; ys = y; used = m.used; left = m.left }) → Next_shown m
  of_parts m i x y a b c t =
      subst (λ z. Next_shown (record m { ys = z })) (sym c) (subst (λ z. Next_shown (record m { xs = z; ys = y })) (sym b) (subst (λ z. Next_shown (record m { item = z; xs = x; ys = y })) (sym a) t))

  handled : (l m : Local) → LeftAt ms heap f p l.ys l.item → IsHandled heap f l m → Next_shown m
  handled l m left h =
      let t = handler_of ms heap checked function f is n p l.ys l.item h.handler free left h.lowest in
      of_parts m m.item (only h.caught) l.ys refl h.xs h.ys
      (shown_by _ (handled_at ms heap checked function f is p l.item m.item m.used m.left l.ys h.handler h.caught left t h.many h.used h.there))

  follows : (r : ℕ) (st : Stage Local Event) (m : Local) → Next ms heap f n p r st → Succeeds heap f st m → Next_shown m
  follows r (Still l) m t e = subst (λ x. Next_shown x) (sym e) (shown_by l t.0)
  follows r (Done (Calls callee args l)) m t (inl a) =
      of_parts m (l.item + 1) (only (a.value ∷ [])) l.ys a.item a.xs a.ys (shown_by _ (answered ms heap checked function f is n p l.item l.ys a.value m.used m.left free a.used t.0))
  follows r (Done (Calls callee args l)) m t (inr h) = handled l m t.0.left h
  follows r (Done (Raises class reason l)) m t h = handled l m t.0 h
  follows r (Done (TailCalls callee args l)) m t e = absurd e
  follows r (Done (Returns v l)) m t e = absurd e
  follows r (Done (Ends x l)) m t e = absurd e

pub activations_follow_paths : ActivationsFollowPaths
activations_follow_paths ms limits heap room function l m shown checked big e =
    let h = shown.shows in
    let has : HasPoint l.left heap shown.point l = record { left = refl; room = h.room; at = sym h.item; registers = h.xs; wide = h.wide; shows = h.stack } in
    follows ms heap checked function shown.placed shown.is shown.moves shown.point shown.free l.left (local_step ms limits room shown.placed l) m
    (next ms heap checked function shown.placed shown.is limits big room shown.moves l (record { p = shown.point; free = shown.free; has = has })) e
