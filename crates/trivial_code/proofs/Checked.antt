-- Modules of the profile and of their texts, whose functions are all trivial, are compiled.
use Rattle.std.proofs.Common.{◌≡◌, ℕ, ◌+◌, ◌<◌, ◌≤◌, ◌++◌, Bool, true, false, List, [], ◌∷◌, Option, Some, None, drop, length, map, nat_eq, nat_lt, nat_le, unwrap_or, refl, subst, sym, arith, if◌then◌else◌}
use Rattle.std.specs.Prelude.{◌&&◌, is_some}
use Rattle.std.proofs.lemmas.Bool.Decides.{nat_tests}
use Rattle.std.specs.List.{AllByRecursion, Contains, list_all}
use Rattle.paths.proofs.Tests.{here, later}
use Rattle.term_tree.proofs.TermLaws.{both_hold}
use Rattle.beam_code.specs.declared.instr.Instr.{Instr}
use Rattle.beam_code.specs.declared.module.Function.{Function}
use Rattle.beam_code.specs.declared.module.Module.{Module}
use Rattle.beam_code.specs.declared.module.TheConstants.{MOST_TEXT_BYTES}
use Rattle.beam_code.specs.declared.instr.Operand.{Operand}
use Rattle.beam_code.specs.declared.instr.Operand.TheVariants as o
use Rattle.beam_code.specs.declared.instr.Place.TheVariants as p
use Rattle.beam_code.specs.State.{x_registers}
use Rattle.beam_code.specs.Function.{Placed, all_functions, cost_of, most_of}
use Rattle.beam_code.specs.Lined.{Lined}
use Rattle.beam_code.specs.Registers.{instr_xs, instr_ys, operand_xs, shape_xs, shape_ys}
use Rattle.beam_code.specs.Shape as s
use Rattle.beam_check.proofs.Sound.{sound}
use Rattle.beam_check.specs.Texts.{AreOfTheirTexts}
use Rattle.module_check.proofs.Units.{functions_in_items, items_in_units}
use Rattle.image_format.specs.Fitting.{total_length}
use Rattle.path_rules.proofs.Profiled.{profile_keeps}
use Rattle.path_rules.specs.Profile.{InProfile}
use Rattle.image_format.specs.declared.limits.TheConstants.{MOST_FRAME}
use Rattle.ir_code.specs.Mentions.{literals_of, mentions_of}
use Rattle.ir_code.specs.Room.{HaveRoom}
use Rattle.path_rules.specs.Points.{y_registers}
use Rattle.path_rules.specs.Ranges.{is_in_range, operand_in_range, place_in_range}
use Rattle.term_tree.specs.IsTerm.{IsTerm}
use Rattle.trivial_code.proofs.Acts.{HasShape, shape_by, origin_behind}
use Rattle.trivial_code.proofs.CompiledLaw.{ready_at}
use Rattle.trivial_code.proofs.Defined.{reads_of_text}
use Rattle.trivial_code.proofs.OfTexts.{IsOfText, each_text}
use Rattle.trivial_code.specs.declared.trivial.Action.{Action}
use Rattle.trivial_code.specs.declared.trivial.Action.TheVariants.{Passes, Moves, Returns, Raises}
use Rattle.trivial_code.specs.declared.trivial.Origin.{Origin}
use Rattle.trivial_code.specs.declared.trivial.Origin.TheVariants.{Argument, Moved}
use Rattle.trivial_code.specs.declared.trivial.Source.{Source}
use Rattle.trivial_code.specs.declared.trivial.Source.TheVariants.{Register, Constant}
use Rattle.trivial_code.specs.Compiled.{AllCanBePut, CanBePut, IsCompilable, IsCompilableFunction, returned_by}
use Rattle.trivial_code.specs.Image.{IsInReach, TrivialFunctionsAreReady}
use Rattle.trivial_code.specs.Trivial.{acted, action_of, are_plain, are_trivial, is_defined, is_trivial, moved, origin_from, origin_of, read_by, reads_well}

-- a trivial function's frame is small
operand_small : (from : Operand) → operand_in_range from ≡ true → operand_xs from ≤ x_registers
operand_small (o.X n) range = grind (arith, nat_tests)
operand_small (o.Y n) range = omega arith
operand_small (o.Int n) range = omega arith
operand_small (o.Atom a) range = omega arith
operand_small o.Nil range = omega arith
operand_small (o.Literal u) range = omega arith

abbrev IsLow : s.Shape → Type 0
IsLow shape = (shape_xs shape ≤ x_registers) × (shape_ys shape ≡ 0)

low_move : (from : Operand) → is_in_range (s.Moves from ((s.Whole, p.X 0) ∷ [])) ≡ true → IsLow (s.Moves from ((s.Whole, p.X 0) ∷ []))
low_move from range =
    let reads = both_hold (list_all operand_in_range (from ∷ []) && list_all place_in_range (p.X 0 ∷ [])) (nat_le 0 y_registers) range in
    let first = both_hold (list_all operand_in_range (from ∷ [])) (list_all place_in_range (p.X 0 ∷ [])) reads.0 in
    let own = both_hold (operand_in_range from) true first.0 in
    let low = operand_small from own.0 in
    (omega arith, refl)

instr_low : (a : Action) (instr : Instr) → HasShape a instr → is_in_range (s.shape_of instr) ≡ true → IsLow (s.shape_of instr)
instr_low Passes instr is range = subst IsLow (sym is) (omega arith, refl)
instr_low (Moves source) instr is range = subst IsLow (sym is.shape) (low_move is.from (subst (λ x. is_in_range x ≡ true) is.shape range))
instr_low Returns instr is range = subst IsLow (sym is) (omega arith, refl)
instr_low Raises instr is range = subst IsLow (sym is.3) (omega arith, refl)

instr_small : (o : Option Action) (instr : Instr) → action_of instr ≡ o → is_some o ≡ true → is_in_range (s.shape_of instr) ≡ true → IsLow (s.shape_of instr)
instr_small (Some a) instr is some range = instr_low a instr (shape_by instr a is) range
instr_small None instr is some range = absurd cc

items_small : (items : List Lined) → are_plain items ≡ true → list_all (λ i. is_in_range (s.shape_of i.instr)) items ≡ true → (most_of instr_xs items ≤ x_registers) × (most_of instr_ys items ≡ 0)
items_small [] plain range = (omega arith, refl)
items_small (x ∷ items) plain range =
    let b = both_hold (is_some (action_of x.instr)) (are_plain items) plain in
    let r = both_hold (is_in_range (s.shape_of x.instr)) (list_all (λ i. is_in_range (s.shape_of i.instr)) items) range in
    let own = instr_small (action_of x.instr) x.instr refl b.0 r.0 in
    let rest = items_small items b.1 r.1 in
    (omega arith, omega arith)

frame_small : (f : Function) → are_plain f.items ≡ true → IsOfText f → cost_of f ≤ MOST_FRAME
frame_small f plain text = let small = items_small f.items plain text.range in let low = text.arity in omega arith

-- what is returned is an argument of the function, or a constant
abbrev IsInArity : ℕ → Origin → Type 0
IsInArity arity (Argument n) = n < arity
IsInArity arity (Moved at) = Unit {0}

register_in : (arity at n : ℕ) (first zeroth : Bool) (so : Origin) → (first ≡ true → IsInArity arity so) → (if zeroth then first else nat_lt n arity) ≡ true → IsInArity arity (if zeroth then so else Argument n)
register_in arity at n first true so known e = known e
register_in arity at n first false so known e = grind (arith, nat_tests)

moved_in : (source : Source) (arity at : ℕ) (first : Bool) (so : Origin) → (first ≡ true → IsInArity arity so) → is_defined arity first source ≡ true → IsInArity arity (moved at so source)
moved_in (Register n) arity at first so known e = register_in arity at n first (nat_eq n 0) so known e
moved_in Constant arity at first so known e = tt

in_arity_by : (o : Option Action) (arity at : ℕ) (first : Bool) (x : Lined) (items : List Lined) (so origin : Origin) → acted o at so (λ next. origin_from (at + 1) next items) ≡ Some origin → read_by o arity first (λ next. reads_well arity next items) ≡ true → (first ≡ true → IsInArity arity so)
    → ((first : Bool) (so : Origin) → origin_from (at + 1) so items ≡ Some origin → reads_well arity first items ≡ true → (first ≡ true → IsInArity arity so) → IsInArity arity origin) → IsInArity arity origin
in_arity_by (Some Passes) arity at first x items so origin e well known rest = rest first so e well known
in_arity_by (Some (Moves source)) arity at first x items so origin e well known rest =
    let b = both_hold (is_defined arity first source) (reads_well arity true items) well in
    rest true (moved at so source) e b.1 (λ yes. moved_in source arity at first so known b.0)
in_arity_by (Some Returns) arity at first x items so origin e well known rest = let same : so ≡ origin = cc in subst (IsInArity arity) same (known well)
in_arity_by (Some Raises) arity at first x items so origin e well known rest = absurd cc
in_arity_by None arity at first x items so origin e well known rest = absurd cc

in_arity : (items : List Lined) (arity at : ℕ) (first : Bool) (so origin : Origin) → origin_from at so items ≡ Some origin → reads_well arity first items ≡ true → (first ≡ true → IsInArity arity so) → IsInArity arity origin
in_arity [] arity at first so origin e well known = absurd cc
in_arity (x ∷ items) arity at first so origin e well known =
    in_arity_by (action_of x.instr) arity at first x items so origin e well known (λ f s e w i. in_arity items arity (at + 1) f s origin e w i)

in_reach : (origin : Origin) (arity : ℕ) → arity ≤ 255 → IsInArity arity origin → IsInReach origin
in_reach (Argument n) arity low known = omega arith
in_reach (Moved at) arity low known = tt

-- ---- functions one by one

origin_there : (f : Function) (o : Option Origin) → origin_of f ≡ o → is_some o ≡ true → (origin : Origin) × (origin_of f ≡ Some origin)
origin_there f (Some origin) is some = (origin, is)
origin_there f None is some = absurd cc

abbrev placed : Module → Function → Placed
placed m f = record { owner = m; function = f }

module _ (ms : List Module) (profile : InProfile ms) where
  ready_one : (p : Placed) → Contains (all_functions ms) p → IsOfText p.function → is_trivial p.function ≡ true → IsCompilableFunction p
  ready_one p among text trivial =
      let g = origin_there p.function (origin_of p.function) refl trivial in
      let items = origin_behind p.function g.0 g.1 in
      let reads = reads_of_text ms p (profile_keeps ms p profile among) text g.0 g.1 in
      record {
        origin = g.0;
        ready = record { is = g.1; reads = reads };
        reach = in_reach g.0 p.function.arity text.arity (in_arity (drop (p.function.entry + 1) p.function.items) p.function.arity (p.function.entry + 1) (nat_lt 0 p.function.arity) (Argument 0) g.0 items.1 reads (λ some. grind (arith, nat_tests)));
        frame = frame_small p.function items.0 text;
      }

  -- those of one module, where all functions from it on are among those of the modules
  ready_in : (m : Module) (fs : List Function) (rest : List Placed) → ((p : Placed) → Contains (map (placed m) fs ++ rest) p → Contains (all_functions ms) p) → AllByRecursion IsOfText fs → list_all is_trivial fs ≡ true → AllByRecursion IsCompilableFunction rest →
      AllByRecursion IsCompilableFunction (map (placed m) fs ++ rest)
  ready_in m [] rest among texts trivial all = all
  ready_in m (f ∷ fs) rest among texts trivial all =
      let b = both_hold (is_trivial f) (list_all is_trivial fs) trivial in (
        ready_one (placed m f) (among (placed m f) (here (placed m f) (map (placed m) fs ++ rest) (placed m f) refl)) texts.0 b.0,
        ready_in m fs rest (λ p c. among p (later (placed m f) (map (placed m) fs ++ rest) p c)) texts.1 b.1 all,
      )

  behind_all : (xs ys : List Placed) (p : Placed) → Contains ys p → Contains (xs ++ ys) p
  behind_all [] ys p c = c
  behind_all (x ∷ xs) ys p c = later x (xs ++ ys) p (behind_all xs ys p c)

  ready_from : (ns : List Module) → ((p : Placed) → Contains (all_functions ns) p → Contains (all_functions ms) p) → AllByRecursion (λ (m : Module). AllByRecursion IsOfText m.functions) ns → are_trivial ns ≡ true → AllByRecursion IsCompilableFunction (all_functions ns)
  ready_from [] among texts trivial = tt
  ready_from (m ∷ ns) among texts trivial =
      let b = both_hold (list_all is_trivial m.functions) (are_trivial ns) trivial in
      ready_in m m.functions (all_functions ns) among texts.0 b.0
      (ready_from ns (λ p c. among p (behind_all (map (placed m) m.functions) (all_functions ns) p c)) texts.1 b.1)

abbrev AllReady : List Module → Type 0
AllReady ms = AllByRecursion IsCompilableFunction (all_functions ms)

all_ready : (ms : List Module) → InProfile ms → AreOfTheirTexts ms → are_trivial ms ≡ true → AllReady ms
all_ready ms profile texts trivial = ready_from ms profile ms (λ p c. c) (each_text ms texts) trivial

pub trivial_functions_are_ready : TrivialFunctionsAreReady
trivial_functions_are_ready ms profile texts trivial = ready_at ms (all_ready ms profile texts trivial)

pub compilable : (ms : List Module) → InProfile ms → AreOfTheirTexts ms → are_trivial ms ≡ true → 1 ≤ length ms → total_length (map (λ m. m.text) ms) ≤ MOST_TEXT_BYTES → HaveRoom ms → AllByRecursion IsTerm (literals_of (mentions_of ms)) → IsCompilable ms
compilable ms profile texts trivial some bytes room terms =
    let few = profile.few in
    let all = few.all in
    let modules = few.modules in
    let items = items_in_units (all_functions ms) in
    let functions = functions_in_items (all_functions ms) (sound ms texts).has_item in
    record {
      functions = all_ready ms profile texts trivial;
      some = some;
      modules = omega arith;
      few = omega arith;
      items = omega arith;
      texts = bytes;
      room = room;
      terms = terms;
    }

-- ---- what can be put, module by module

put_in : (m : Module) (fs : List Function) (rest : List Placed) → AllByRecursion IsCompilableFunction (map (placed m) fs ++ rest) → AllByRecursion CanBePut fs × AllByRecursion IsCompilableFunction rest
put_in m [] rest all = (tt, all)
put_in m (f ∷ fs) rest all =
    let r = put_in m fs rest all.1 in
    let reach : IsInReach (returned_by f) = subst (λ o. IsInReach (unwrap_or o (Argument 0))) (sym all.0.ready.is) all.0.reach in
    (((all.0.frame, reach), r.0), r.1)

pub can_be_put : (ms : List Module) → AllByRecursion IsCompilableFunction (all_functions ms) → AllByRecursion AllCanBePut ms
can_be_put [] all = tt
can_be_put (m ∷ ms) all = let r = put_in m m.functions (all_functions ms) all in (r.0, can_be_put ms r.1)
