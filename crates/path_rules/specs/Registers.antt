-- The registers that an item reads, gives a value and names (docs/BEAM.md, Paths and Rules).
use Rattle.std.specs.List.{list_all}
use Rattle.std.specs.Prelude.{◌&&◌, Bool, true, ℕ, zero, suc, ◌+◌, List, [], ◌∷◌, ◌++◌, length, map}
use Rattle.beam_code.specs.declared.instr.Operand.{Operand}
use Rattle.beam_code.specs.declared.instr.Operand.TheVariants.{X, Y}
use Rattle.beam_code.specs.declared.instr.Place.{Place}
use Rattle.beam_code.specs.declared.instr.Place.TheVariants as place
use Rattle.beam_code.specs.Row.{place_operand}
use Rattle.beam_code.specs.Shape.{Shape, Moves, Swaps, Conses, Tuples, Tests, Selects, Stacks, Tags, Computes, Calls, Returns, Raises, StackOp, Clears, TagOp, Tries, Catches, TryEnds, TryHandles, CatchEnds, Reason, Match, InCase, InTry, Given, Raw}

abbrev pub reason_operands : Reason → List Operand
reason_operands (Match s) = s ∷ []
reason_operands (InCase s) = s ∷ []
reason_operands (InTry s) = s ∷ []
reason_operands (Given class reason to) = class ∷ reason ∷ []
reason_operands _ = []

-- what an item names and reads
abbrev pub operands_of : Shape → List Operand
operands_of (Moves from parts) = from ∷ []
operands_of (Swaps a b) = place_operand a ∷ place_operand b ∷ []
operands_of (Conses head tail to) = head ∷ tail ∷ []
operands_of (Tuples parts to) = parts
operands_of (Tests name operands label) = operands
operands_of (Selects from branches other) = from ∷ []
operands_of (Computes name operands fail live to) = operands
operands_of (Raises reason) = reason_operands reason
operands_of _ = []

abbrev pub tag_implied : TagOp → ℕ
tag_implied (CatchEnds y) = 1
tag_implied _ = 0

abbrev pub reason_implied : Reason → ℕ
reason_implied Raw = 3
reason_implied _ = 0

-- how many x registers, from x0 on, it reads without naming them
abbrev pub implied_xs : Shape → ℕ
implied_xs (Tags op) = tag_implied op
implied_xs (Calls target arity leaving) = arity
implied_xs Returns = 1
implied_xs (Raises reason) = reason_implied reason
implied_xs _ = 0

-- the first n x registers
abbrev pub first_xs : ℕ → List Operand
first_xs zero = []
first_xs (suc n) = X n ∷ first_xs n

-- all that it reads
abbrev pub reads_of : Shape → List Operand
reads_of shape = operands_of shape ++ first_xs (implied_xs shape)

-- the places that take a value
abbrev pub places_of : Shape → List Place
places_of (Moves from parts) = map (λ part. part.1) parts
places_of (Swaps a b) = a ∷ b ∷ []
places_of (Conses head tail to) = to ∷ []
places_of (Tuples parts to) = to ∷ []
places_of (Computes name operands fail live to) = to ∷ []
places_of _ = []

-- the x registers and the y registers among these
abbrev pub xs_in : List Place → List ℕ
xs_in [] = []
xs_in (place.X n ∷ ps) = n ∷ xs_in ps
xs_in (place.Y n ∷ ps) = xs_in ps

abbrev pub ys_in : List Place → List ℕ
ys_in [] = []
ys_in (place.X n ∷ ps) = ys_in ps
ys_in (place.Y n ∷ ps) = n ∷ ys_in ps

-- whether a test holds of the y register that is read or takes a value, if it is one
abbrev pub operand_passes : (ℕ → Bool) → Operand → Bool
operand_passes test (Y n) = test n
operand_passes test _ = true

abbrev pub place_passes : (ℕ → Bool) → Place → Bool
place_passes test (place.X n) = true
place_passes test (place.Y n) = test n

-- whether it holds of each y register that an item reads or gives a value
abbrev pub uses_pass : (ℕ → Bool) → Shape → Bool
uses_pass test shape = list_all (operand_passes test) (operands_of shape) && list_all (place_passes test) (places_of shape)

abbrev pub tag_y : TagOp → ℕ
tag_y (Tries y label) = y
tag_y (Catches y label) = y
tag_y (TryEnds y) = y
tag_y (TryHandles y) = y
tag_y (CatchEnds y) = y

abbrev pub stack_op_passes : (ℕ → Bool) → StackOp → Bool
stack_op_passes test (Clears y) = test y
stack_op_passes test _ = true

-- the place of a `raise` is named, though it takes no value
abbrev pub reason_passes : (ℕ → Bool) → Reason → Bool
reason_passes test (Given class reason to) = place_passes test to
reason_passes test _ = true

abbrev pub others_pass : (ℕ → Bool) → Shape → Bool
others_pass test (Stacks op) = stack_op_passes test op
others_pass test (Tags op) = test (tag_y op)
others_pass test (Raises reason) = reason_passes test reason
others_pass test _ = true

-- whether it holds of each y register that an item names
abbrev pub names_pass : (ℕ → Bool) → Shape → Bool
names_pass test shape = uses_pass test shape && others_pass test shape

-- the words of the cell that it makes
abbrev pub cell_words : Shape → ℕ
cell_words (Conses head tail to) = 2
cell_words (Tuples parts to) = length parts + 1
cell_words _ = 0
