-- What the items of trivial functions do.
use Rattle.std.proofs.Common.{◌≡◌, ℕ, ℤ, pos, negsuc, ◌+◌, Bool, true, false, List, [], ◌∷◌, Option, Some, None, drop, nat_eq, refl, ap, subst, arith, if◌then◌else◌}
use Rattle.std.proofs.lemmas.Bool.Decides.{nat_tests}
use Rattle.beam_code.specs.declared.instr.Instr.{Instr}
use Rattle.beam_code.specs.declared.instr.Instr.TheVariants as i
use Rattle.beam_code.specs.declared.instr.Operand.{Operand}
use Rattle.beam_code.specs.declared.instr.Place.{Place}
use Rattle.beam_code.specs.declared.instr.Place.TheVariants as p
use Rattle.beam_code.specs.declared.module.Function.{Function}
use Rattle.beam_code.specs.Shape as s
use Rattle.term_tree.specs.Small.{IsSmall, is_small}
use Rattle.trivial_code.specs.declared.trivial.Action.{Action}
use Rattle.trivial_code.specs.declared.trivial.Action.TheVariants.{Passes, Moves, Returns, Raises}
use Rattle.trivial_code.specs.declared.trivial.Origin.{Origin}
use Rattle.trivial_code.specs.declared.trivial.Origin.TheVariants.{Argument}
use Rattle.trivial_code.specs.declared.trivial.Source.{Source}
use Rattle.trivial_code.specs.Trivial.{action_of, moves, move_from, source_of, moved_operand, origin_from, are_plain, origin_of}

-- an instruction moves this to x0
pub record MovesFrom (instr : Instr) (moving : Source) : Type 0 where
  pub from : Operand
  pub operand : moved_operand instr ≡ Some from
  pub source : source_of from ≡ Some moving
  pub shape : s.shape_of instr ≡ s.Moves from ((s.Whole, p.X 0) ∷ [])

-- the shape of an instruction by what it does
abbrev pub HasShape : Action → Instr → Type 0
HasShape Passes instr = s.shape_of instr ≡ s.Passes
HasShape (Moves source) instr = MovesFrom instr source
HasShape Returns instr = s.shape_of instr ≡ s.Returns
HasShape Raises instr = (m f : List ℕ) × (arity : ℕ) × (s.shape_of instr ≡ s.Raises (s.Clause m f arity))

pub small_so : (value : ℤ) → is_small value ≡ true → IsSmall value
small_so (pos n) e = grind (arith, nat_tests)
small_so (negsuc n) e = grind (arith, nat_tests)

moved_by : (from : Operand) (n : ℕ) (source : Option Source) → source_of from ≡ source → n ≡ 0 → (a : Action) → moves source ≡ Some a → HasShape a (i.Move from (p.X n))
moved_by from n (Some source) is zero a e =
    let same : Moves source ≡ a = cc in
    subst (λ x. HasShape x (i.Move from (p.X n))) same
    (record { from = from; operand = refl; source = is; shape = ap (λ k. s.Moves from ((s.Whole, p.X k) ∷ [])) zero })
moved_by from n None is zero a e = absurd cc

x0_by : (from : Operand) (n : ℕ) (first : Bool) → nat_eq n 0 ≡ first → (a : Action) → (if first then moves (source_of from) else None) ≡ Some a → HasShape a (i.Move from (p.X n))
x0_by from n true is a e = moved_by from n (source_of from) refl (grind (arith, nat_tests)) a e
x0_by from n false is a e = absurd cc

move_shape : (from : Operand) (to : Place) (a : Action) → move_from from to ≡ Some a → HasShape a (i.Move from to)
move_shape from (p.X n) a e = x0_by from n (nat_eq n 0) refl a e
move_shape from (p.Y n) a e = absurd cc

as_shape : (act a : Action) (instr : Instr) → HasShape act instr → Some act ≡ Some a → HasShape a instr
as_shape act a instr has e = let same : act ≡ a = cc in subst (λ x. HasShape x instr) same has

pub shape_by : (instr : Instr) (a : Action) → action_of instr ≡ Some a → HasShape a instr
shape_by (i.Label n) a e = as_shape Passes a (i.Label n) refl e
shape_by (i.Line about) a e = as_shape Passes a (i.Line about) refl e
shape_by (i.Comment about) a e = as_shape Passes a (i.Comment about) refl e
shape_by (i.FuncInfo m f arity) a e = as_shape Raises a (i.FuncInfo m f arity) (m, f, arity, refl) e
shape_by (i.Move from to) a e = move_shape from to a e
shape_by i.Return a e = as_shape Returns a i.Return refl e
shape_by instr a e = absurd cc

origin_by : (f : Function) (plain : Bool) (origin : Origin) → are_plain f.items ≡ plain → (if plain then origin_from (f.entry + 1) (Argument 0) (drop (f.entry + 1) f.items) else None) ≡ Some origin →
    (are_plain f.items ≡ true) × (origin_from (f.entry + 1) (Argument 0) (drop (f.entry + 1) f.items) ≡ Some origin)
origin_by f true origin is e = (is, e)
origin_by f false origin is e = absurd cc

-- the items of a trivial function are plain, and those behind its entry give what it returns
pub origin_behind : (f : Function) (origin : Origin) → origin_of f ≡ Some origin → (are_plain f.items ≡ true) × (origin_from (f.entry + 1) (Argument 0) (drop (f.entry + 1) f.items) ≡ Some origin)
origin_behind f origin e = origin_by f (are_plain f.items) origin refl e
