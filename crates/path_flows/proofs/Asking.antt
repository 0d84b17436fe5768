-- The flow of a function is one: no step keeps what it adds, or asks for more than the most that an item asks for.
use Rattle.std.proofs.Common.{◌≡◌, ℕ, ◌+◌, ◌<◌, ◌≤◌, Bool, true, false, ◌&&◌, if◌then◌else◌, Option, Some, None, List, [], ◌∷◌, ◌++◌, length, slice_get, nat_lt, refl, subst, arith, inl, inr}
use Rattle.std.specs.List.{Contains}
use Rattle.std.proofs.lemmas.Bool.{cases_lt}
use Rattle.std.proofs.lemmas.Option.{slice_get_past}
use Rattle.paths.proofs.Tests.{Contains-from_map, first_or_later}
use Rattle.beam_code.specs.declared.module.Function.{Function}
use Rattle.beam_code.specs.declared.module.Module.{Module}
use Rattle.beam_code.specs.Function.{label_in}
use Rattle.beam_code.specs.Gates.{may_raise}
use Rattle.beam_code.specs.Lined.{Lined}
use Rattle.beam_code.specs.Shape.{Shape, shape_of}
use Rattle.beam_code.specs.Uses.{shape_goes_on}
use Rattle.data_flow.specs.declared.flow.Change.{Change}
use Rattle.data_flow.specs.declared.flow.Flow.{Flow}
use Rattle.data_flow.specs.declared.flow.Node.{Node}
use Rattle.data_flow.specs.declared.flow.Step.{Step}
use Rattle.data_flow.specs.Flow.{IsFlow, asked, steps_at, steps_of}
use Rattle.data_flow.specs.Names.{meet, no_names}
use Rattle.path_rules.specs.declared.frame_table.Frame.{Frame}
use Rattle.path_rules.specs.declared.tag.Tag.{Tag}
use Rattle.path_rules.specs.declared.tag.TagKind.{TagKind}
use Rattle.path_rules.specs.Points.{labels_of}
use Rattle.path_flows.specs.declared.way.Way.{Way}
use Rattle.path_flows.specs.FlowOf.{IsFlowOf, frame_in, most_need, need_of, node_where, seen_change, step_of}
use Rattle.path_flows.specs.Sets.{below, without}
use Rattle.path_flows.specs.Ways.{change_of, handler_ways, label_ways, onward_way, onward_ways, raised_ways, way_to, way_to_handler, ways_of}
use Rattle.path_flows.proofs.Known.{need_below}
use Rattle.path_flows.proofs.Sets.{never_both}

-- none of these ways asks for more
abbrev AllAsk : ℕ → List Way → Type 0
AllAsk n [] = Unit {0}
AllAsk n (w ∷ ws) = (asked w.change ≤ n) × AllAsk n ws

ask_both : (n : ℕ) (ws us : List Way) → AllAsk n ws → AllAsk n us → AllAsk n (ws ++ us)
ask_both n [] us a b = b
ask_both n (w ∷ ws) us a b = (a.0, ask_both n ws us a.1 b)

ask_at : (n : ℕ) (ws : List Way) (w : Way) → AllAsk n ws → Contains ws w → asked w.change ≤ n
ask_at n [] w a c = absurd (omega (arith, c.1))
ask_at n (v ∷ vs) w a c = elim (first_or_later v vs w c) [ inl e ↦ subst (λ (u : Way). asked u.change ≤ n) e a.0 | inr d ↦ ask_at n vs w a.1 d ]

onward_asks : (f : Function) (stack : Option ℕ) (item : ℕ) (shape : Shape) → AllAsk (asked (change_of shape)) (onward_ways f stack item shape)
onward_asks f stack item shape = choice (shape_goes_on shape && nat_lt (item + 1) (length f.items))
  where
    choice : (b : Bool) → AllAsk (asked (change_of shape)) (if b then onward_way stack (item + 1) shape ∷ [] else [])
    choice true = (omega arith, tt)
    choice false = tt

label_asks : (n : ℕ) (o : Option ℕ) → AllAsk n (way_to o)
label_asks n None = tt
label_asks n (Some item) = (omega arith, tt)

labels_ask : (n : ℕ) (f : Function) (labels : List ℕ) → AllAsk n (label_ways f labels)
labels_ask n f [] = tt
labels_ask n f (label ∷ labels) = ask_both n (way_to (label_in f label)) (label_ways f labels) (label_asks n (label_in f label)) (labels_ask n f labels)

handler_asks : (n : ℕ) (kind : TagKind) (o : Option ℕ) → AllAsk n (way_to_handler kind o)
handler_asks n kind None = tt
handler_asks n kind (Some item) = (omega arith, tt)

handlers_ask : (n : ℕ) (f : Function) (o : Option Tag) → AllAsk n (handler_ways f o)
handlers_ask n f None = tt
handlers_ask n f (Some t) = handler_asks n t.kind (label_in f t.label)

raised_ask : (n : ℕ) (f : Function) (lowest : Option Tag) (b : Bool) → AllAsk n (if b then handler_ways f lowest else [])
raised_ask n f lowest true = handlers_ask n f lowest
raised_ask n f lowest false = tt

ways_ask : (ms : List Module) (f : Function) (frame : Frame) (item : ℕ) (shape : Shape) → AllAsk (asked (change_of shape)) (ways_of ms f frame item shape)
ways_ask ms f frame item shape =
    let n = asked (change_of shape) in
    ask_both n (onward_ways f frame.stack item shape) (label_ways f (labels_of shape) ++ raised_ways ms f frame.lowest shape) (onward_asks f frame.stack item shape)
    (ask_both n (label_ways f (labels_of shape)) (raised_ways ms f frame.lowest shape) (labels_ask n f (labels_of shape)) (raised_ask n f frame.lowest (may_raise ms shape)))

seen_asks : (counts : Bool) (c : Change) (n : ℕ) → asked c ≤ n → asked (seen_change counts c) ≤ n
seen_asks true c n h = h
seen_asks false c n h = omega arith

module _ (ms : List Module) (f : Function) (counts : Bool) (i : ℕ) where
  step_adds : (w : Way) → meet (step_of counts w).gain (step_of counts w).keep ≡ no_names
  step_adds w = never_both (without (below w.xs w.slots) w.lost) w.gain

  node_adds : (frame : Option Frame) (o : Option Lined) (s : Step) → Contains (node_where ms f counts frame i o).steps s → meet s.gain s.keep ≡ no_names
  node_adds None o s c = absurd (omega (arith, c.1))
  node_adds (Some frame) None s c = absurd (omega (arith, c.1))
  node_adds (Some frame) (Some l) s c =
      let w = Contains-from_map (step_of counts) (ways_of ms f frame i (shape_of l.instr)) s c in
      subst (λ (t : Step). meet t.gain t.keep ≡ no_names) w.2 (step_adds w.0)

  node_asks : (frame : Option Frame) (o : Option Lined) (s : Step) → slice_get f.items i ≡ o → Contains (node_where ms f counts frame i o).steps s → asked s.change ≤ most_need f.items
  node_asks None o s e c = absurd (omega (arith, c.1))
  node_asks (Some frame) None s e c = absurd (omega (arith, c.1))
  node_asks (Some frame) (Some l) s e c =
      let w = Contains-from_map (step_of counts) (ways_of ms f frame i (shape_of l.instr)) s c in
      let h = need_below f.items i l e in
      let a = ask_at (need_of l) (ways_of ms f frame i (shape_of l.instr)) w.0 (ways_ask ms f frame i (shape_of l.instr)) w.1 in
      subst (λ (t : Step). asked t.change ≤ most_need f.items) w.2 (seen_asks counts w.0.change (most_need f.items) (omega (arith, a, h)))

module _ (ms : List Module) (f : Function) (counts : Bool) (frames : List (Option Frame)) (flow : Flow) (is : IsFlowOf ms f counts frames flow) where
  -- a node past the last has no steps
  none_past : (i : ℕ) (s : Step) → length f.items ≤ i → Contains (steps_at flow i) s → ⊥
  none_past i s past c =
      no_step s (subst (λ (o : Option Node). Contains (steps_of o) s) (slice_get_past flow.nodes i (let e = is.nodes.long in omega arith)) c)
    where
      no_step : (s : Step) → Contains [] s → ⊥
      no_step s c = omega (arith, c.1)

  here : (i : ℕ) (s : Step) → i < length f.items → Contains (steps_at flow i) s → Contains (node_where ms f counts (frame_in (slice_get frames i)) i (slice_get f.items i)).steps s
  here i s low c = subst (λ (o : Option Node). Contains (steps_of o) s) (is.nodes.each i low) c

  pub is_flow : IsFlow flow
  is_flow = record {
    adds = λ i s c. elim (cases_lt i (length f.items)) [
      | inl low ↦ node_adds ms f counts i (frame_in (slice_get frames i)) (slice_get f.items i) s (here i s low c)
      | inr past ↦ absurd (none_past i s past c)
    ];
    asks = λ i s c. elim (cases_lt i (length f.items)) [
      | inl low ↦ (let a = node_asks ms f counts i (frame_in (slice_get frames i)) (slice_get f.items i) s refl (here i s low c) in let b = is.bound in omega arith)
      | inr past ↦ absurd (none_past i s past c)
    ];
  }
