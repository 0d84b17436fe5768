-- What small functions return, worked by hand.
use Rattle.std.proofs.Common.{◌≡◌, pos, Some, None, List, [], ◌∷◌, refl, map}
use Rattle.std.specs.Prelude.{codes}
use Rattle.beam_code.specs.declared.instr.Instr.{Instr}
use Rattle.beam_code.specs.declared.instr.Instr.TheVariants as i
use Rattle.beam_code.specs.declared.instr.Operand.{Operand}
use Rattle.beam_code.specs.declared.instr.Operand.TheVariants as o
use Rattle.beam_code.specs.declared.instr.Place.TheVariants as p
use Rattle.beam_code.specs.declared.module.Function.{Function}
use Rattle.trivial_code.specs.declared.trivial.Origin.TheVariants.{Argument, Moved}
use Rattle.trivial_code.specs.Trivial.{origin_of}

-- f/1 with its calls at item 2, and these items behind that
abbrev function : List Instr → Function
function instrs = record {
  name = codes "f";
  arity = 1;
  entry = 2;
  items = map (λ (instr : Instr). record { line = 1; instr = instr }) (i.Label 1 ∷ i.FuncInfo (codes "m") (codes "g") 1 ∷ i.Label 2 ∷ instrs);
}

abbrev move : Operand → Instr
move from = i.Move from (p.X 0)

-- the last move wins; with none the argument comes back
last : origin_of (function (move (o.Int (pos 5)) ∷ i.Label 3 ∷ move (o.Atom (codes "a")) ∷ i.Return ∷ move o.Nil ∷ [])) ≡ Some (Moved 5)
last = refl

same : origin_of (function (i.Return ∷ [])) ≡ Some (Argument 0)
same = refl

-- x0 keeps what was moved to it; another register has what came
kept : origin_of (function (move o.Nil ∷ move (o.X 0) ∷ i.Return ∷ [])) ≡ Some (Moved 3)
kept = refl

other : origin_of (function (move o.Nil ∷ move (o.X 7) ∷ i.Return ∷ [])) ≡ Some (Argument 7)
other = refl

-- no `return`, a `func_info` before it, a move to another register, from a y register, an integer of more than 28 bits, another item behind it
falls : origin_of (function (move (o.Int (pos 5)) ∷ [])) ≡ None
falls = refl

raises : origin_of (function (move (o.Int (pos 5)) ∷ i.FuncInfo (codes "m") (codes "f") 1 ∷ i.Return ∷ [])) ≡ None
raises = refl

elsewhere : origin_of (function (i.Move (o.Int (pos 5)) (p.X 1) ∷ i.Return ∷ [])) ≡ None
elsewhere = refl

slot : origin_of (function (move (o.Y 0) ∷ i.Return ∷ [])) ≡ None
slot = refl

large : origin_of (function (move (o.Int (pos 134217728)) ∷ i.Return ∷ [])) ≡ None
large = refl

behind : origin_of (function (i.Return ∷ i.Jump 2 ∷ [])) ≡ None
behind = refl
