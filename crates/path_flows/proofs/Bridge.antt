-- What is said of the flow of a function is said of the rule.
use Rattle.std.proofs.Common.{◌≡◌, ℕ, suc, ◌-◌, Bool, true, false, not, ◌||◌, Option, Some, None, List, length, map, slice_get, nat_lt, refl, ap, sym, ◌∙◌, arith, inl, inr}
use Rattle.std.specs.List.{Contains, list_all}
use Rattle.std.proofs.lemmas.Bool.{cases_lt}
use Rattle.std.proofs.lemmas.Bool.Decides.{nat_tests}
use Rattle.std.proofs.lemmas.List.{length-replicate}
use Rattle.std.proofs.lemmas.Option.{slice_get_past}
use Rattle.paths.specs.Paths.{Free}
use Rattle.paths.specs.Rules.{Forgets, Holds, Says}
use Rattle.paths.proofs.Forgetting.{holds_down, says_up}
use Rattle.beam_code.specs.declared.module.Module.{Module}
use Rattle.beam_code.specs.Function.{Placed}
use Rattle.beam_code.specs.Lined.{Lined}
use Rattle.beam_code.specs.Shape.{Shape, shape_of}
use Rattle.data_flow.specs.declared.flow.Flow.{Flow}
use Rattle.data_flow.specs.declared.flow.Node.{Node}
use Rattle.data_flow.specs.declared.flow.Point as point
use Rattle.data_flow.specs.declared.names.Names.{Names}
use Rattle.data_flow.specs.Flow as flows
use Rattle.data_flow.specs.Flow.{flow_ways, lacks, land, puts_at, puts_of, reads_at, reads_of, steps_at, steps_of}
use Rattle.data_flow.specs.Names.{meet, no_names, same}
use Rattle.data_flow.proofs.Sets.{meet_none, same_self}
use Rattle.path_rules.specs.declared.frame_table.Frame.{Frame}
use Rattle.path_rules.specs.declared.rule.Rule.{Rule}
use Rattle.path_rules.specs.declared.rule.Rule.TheVariants.{FallsOff, CallTarget, BadHandler, Loop, StackSize, TagState, TagOrder, Undefined, HeapUncovered}
use Rattle.path_rules.specs.FrameTable.{table_frame}
use Rattle.path_rules.specs.Points.{Point, graph, item_of, moves_at, start_of}
use Rattle.path_rules.specs.Registers.{cell_words, reads_of as registers_of}
use Rattle.path_rules.specs.Rules.{breaks_at, is_defined, looks_at_frames, splits, ways}
use Rattle.path_flows.specs.FlowOf.{IsFlowOf, counts_words, frame_in, no_node, node_where, read_names}
use Rattle.path_flows.specs.Ways.{ways_of}
use Rattle.path_flows.proofs.Known.{IsKnown, alone, item_range, stacked}
use Rattle.path_flows.proofs.Lacking.{all_stacked, reads_are, same_defined}
use Rattle.path_flows.proofs.Moved.{first_at, has, held, length_first}
use Rattle.path_flows.proofs.Sets.{names_same, or_none}
use Rattle.path_flows.proofs.Steps.{Wide, lands_map, lands_wide, less, moves_land, names_of, seen_count}

below_none : (k : ℕ) → nat_lt k 0 ≡ false
below_none k = grind (arith, nat_tests)

nothing_seen : (s : Names) → (not (same (meet no_names s) no_names)) ≡ false
nothing_seen s = ap (λ t. not (same t no_names)) (meet_none s) ∙ ap not (same_self no_names)

abbrev flow_point : ℕ → Names → ℕ → point.Point
flow_point item names count = record { item = item; names = names; count = count }

no_count : (counts : Bool) → seen_count counts 0 ≡ 0
no_count true = refl
no_count false = refl

-- no two paths break these rules together
no_splits : (rule : Rule) (p q : Point) → looks_at_frames rule ≡ false → false ≡ splits rule p q
no_splits Undefined p q h = refl
no_splits HeapUncovered p q h = refl
no_splits FallsOff p q h = cc
no_splits CallTarget p q h = cc
no_splits BadHandler p q h = cc
no_splits Loop p q h = cc
no_splits StackSize p q h = cc
no_splits TagState p q h = cc
no_splits TagOrder p q h = cc

-- what an item reads is there just where each register of it is defined
abbrev SameReads : Point → Shape → Type 0
SameReads p shape = same (meet (read_names p.stack shape) (names_of p)) (read_names p.stack shape) ≡ list_all (is_defined p.xs p.ys) (registers_of shape)

module _ (ms : List Module) (f : Placed) where
  abbrev node_by : Rule → Point → Option Lined → Node
  node_by rule p o = node_where ms f.function (counts_words rule) (Some (table_frame p)) p.item o

  abbrev lacks_by : Rule → Point → Option Lined → Bool
  lacks_by rule p o = not (same (meet (node_by rule p o).reads (names_of p)) (node_by rule p o).reads) || nat_lt (seen_count (counts_words rule) p.covered) (node_by rule p o).puts

  breaks_are : (rule : Rule) (p : Point) (o : Option Lined) → looks_at_frames rule ≡ false → ((i : Lined) → o ≡ Some i → SameReads p (shape_of i.instr)) → lacks_by rule p o ≡ breaks_at ms f rule p o
  breaks_are Undefined p None h reads = ap (λ b. b || false) (nothing_seen (names_of p))
  breaks_are Undefined p (Some i) h reads =
      sym (or_none (not (same (meet (read_names p.stack (shape_of i.instr)) (names_of p)) (read_names p.stack (shape_of i.instr))))) ∙ ap not (reads i refl)
  breaks_are HeapUncovered p None h reads = ap (λ b. b || nat_lt p.covered 0) (nothing_seen (names_of p)) ∙ below_none p.covered
  breaks_are HeapUncovered p (Some i) h reads = ap (λ b. b || nat_lt p.covered (cell_words (shape_of i.instr))) (nothing_seen (names_of p))
  breaks_are FallsOff p o h reads = cc
  breaks_are CallTarget p o h reads = cc
  breaks_are BadHandler p o h reads = cc
  breaks_are Loop p o h reads = cc
  breaks_are StackSize p o h reads = cc
  breaks_are TagState p o h reads = cc
  breaks_are TagOrder p o h reads = cc

module _ (ms : List Module) (f : Placed) (rule : Rule) (frames : List (Option Frame)) (known : IsKnown ms f frames) (flow : Flow) (is : IsFlowOf ms f.function (counts_words rule) frames flow) (seen : looks_at_frames rule ≡ false) where
  abbrev counts : Bool
  counts = counts_words rule

  abbrev On : Point → Type 0
  On p = ((n : ℕ) × Free (graph ms f.function) n p) × Wide p

  abbrev item_at : Point → Option Lined
  item_at p = slice_get f.function.items p.item

  abbrev node : Point → Option Lined → Node
  node p o = node_where ms f.function counts (Some (table_frame p)) p.item o

  -- what the node of a path's item has, by the path's own frame
  at_node : {A : Type 0} (get : Option Node → A) → get None ≡ get (Some no_node) → (p : Point) → On p → get (slice_get flow.nodes p.item) ≡ get (Some (node p (item_at p)))
  at_node get none p on =
      elim (cases_lt p.item (length f.function.items)) [
        | inl low ↦
            ap get (is.nodes.each p.item low)
            ∙ ap (λ (o : Option (Option Frame)). get (Some (node_where ms f.function counts (frame_in o) p.item (item_at p)))) (known.table.known on.0.0 p on.0.1 low)
        | inr past ↦
            ap get (slice_get_past flow.nodes p.item (let e = is.nodes.long in omega arith))
            ∙ (none ∙ ap (λ (o : Option Lined). get (Some (node p o))) (sym (slice_get_past f.function.items p.item past)))
      ]

  -- ---- moves

  moves_are : (p : Point) (o : Option Lined) → item_at p ≡ o → Wide p → map (land (node p o).puts (less counts p)) (node p o).steps ≡ map (less counts) (moves_at ms f.function p o)
  moves_are p None e w = refl
  moves_are p (Some i) e w =
      let shape = shape_of i.instr in
      lands_map counts shape p (moves_at ms f.function p (Some i)) (ways_of ms f.function (table_frame p) p.item shape)
      (moves_land ms f.function p shape w (item_range f.function known.ranges p.item i e).stack)

  wide_next : (p q : Point) (o : Option Lined) → item_at p ≡ o → Wide p → Contains (moves_at ms f.function p o) q → Wide q
  wide_next p q None e w c = absurd (omega (arith, c.1))
  wide_next p q (Some i) e w c =
      let shape = shape_of i.instr in
      lands_wide (cell_words shape) p (moves_at ms f.function p (Some i)) (ways_of ms f.function (table_frame p) p.item shape) q
      (moves_land ms f.function p shape w (item_range f.function known.ranges p.item i e).stack) c

  -- ---- where the rule is broken

  reads_same : (p : Point) (i : Lined) → item_at p ≡ Some i → On p → SameReads p (shape_of i.instr)
  reads_same p i e on =
      let shape = shape_of i.instr in
      ap (λ s. same (meet s (names_of p)) s) (reads_are p.stack shape)
      ∙ same_defined p.stack p.xs p.ys on.1.stack (registers_of shape) (item_range f.function known.ranges p.item i e).reads (all_stacked p.stack shape (stacked ms f frames known on.0.0 p i on.0.1 e))

  breaks_same : (p : Point) → On p → lacks flow (less counts p) ≡ breaks_at ms f rule p (item_at p)
  breaks_same p on =
      at_node (λ o. not (same (meet (reads_of o) (names_of p)) (reads_of o)) || nat_lt (seen_count counts p.covered) (puts_of o)) refl p on
      ∙ breaks_are ms f rule p (item_at p) seen (λ i e. reads_same p i e on)

  -- ---- the start

  start_names : names_of (start_of f.function) ≡ flow.first
  start_names =
      names_same (has (start_of f.function).xs) (held None (start_of f.function).ys) (λ r. nat_lt r f.function.arity) (λ k. nat_lt k 0)
      (λ r l. first_at f.function.arity (256 - f.function.arity) r) (λ k l. sym (below_none k))
      ∙ sym is.first

  start_wide : Wide (start_of f.function)
  start_wide = record { xs = length_first f.function.arity; ys = omega (arith, length-replicate 256 false); stack = tt }

  -- ---- so paths go the same ways

  pub forgets : Forgets (ways ms f rule) (flow_ways flow) (less counts) On
  forgets = record {
    on_start = ((0, refl), start_wide);
    on_move = λ p q on c. ((suc on.0.0, (p, on.0.1, c)), wide_next p q (item_at p) refl on.1 c);
    start = ap (λ s. flow_point f.function.entry s (seen_count counts 0)) start_names ∙ (ap (λ c. flow_point f.function.entry flow.first c) (no_count counts) ∙ ap (λ i. flow_point i flow.first 0) (sym is.start));
    moves = λ p on. at_node (λ o. map (land (puts_of o) (less counts p)) (steps_of o)) refl p on ∙ moves_are p (item_at p) refl on.1;
    breaks = breaks_same;
    splits = λ p q a b. no_splits rule p q seen;
    apart = λ p q a b. sym (alone ms f frames known a.0.0 b.0.0 p q a.0.1 b.0.1);
  }

  -- and what is said of the flow is said of the rule
  pub says_of : (said : Option ℕ) → Says (flow_ways flow) flows.item_of said → Says (ways ms f rule) item_of said
  says_of said s = says_up (ways ms f rule) (flow_ways flow) (less counts) On forgets item_of flows.item_of (λ p. refl) said s

  pub broken_of : (Holds (flow_ways flow) → ⊥) → Holds (ways ms f rule) → ⊥
  broken_of bad h = bad (holds_down (ways ms f rule) (flow_ways flow) (less counts) On forgets h)
