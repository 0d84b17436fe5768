-- What instructions read and write, whether they go on, and their units, by shape (docs/BEAM.md, Instructions).
use Rattle.std.specs.Prelude.{ℕ, ◌+◌, ◌*◌, Bool, true, false, ◌||◌, ◌&&◌, not, nat_lt, nat_eq, List, length, codes}
use Rattle.std.specs.List.{list_any}
use Rattle.std.specs.Str.{bytes_eq}
use Rattle.beam_code.specs.declared.instr.Instr.{Instr}
use Rattle.beam_code.specs.declared.instr.Operand.{Operand}
use Rattle.beam_code.specs.declared.instr.Operand.TheVariants as o
use Rattle.beam_code.specs.declared.instr.Place.{Place}
use Rattle.beam_code.specs.declared.instr.Place.TheVariants as p
use Rattle.beam_code.specs.Shape.{Shape, Moves, Swaps, Conses, Tuples, Tests, Selects, Jumps, Stacks, Tags, Computes, Calls, Returns, Raises, Branches, ByValue, BySize, StackOp, Allocates, Frees, Clears, TagOp, Tries, Catches, TryEnds, TryHandles, CatchEnds, Target, Inside, Outside, Leaving, Stays, Reason, Clause, Match, InCase, InTry, Given, Raw, shape_of}

abbrev pub same_place : Place → Place → Bool
same_place (p.X n) (p.X m) = nat_eq n m
same_place (p.Y n) (p.Y m) = nat_eq n m
same_place a b = false

abbrev pub names : Operand → Place → Bool
names (o.X n) q = same_place (p.X n) q
names (o.Y n) q = same_place (p.Y n) q
names other q = false

abbrev pub any_names : List Operand → Place → Bool
any_names ss q = list_any (λ s. names s q) ss

-- x0 up to the x before this number, and the same of y
abbrev pub is_below : ℕ → Place → Bool
is_below n (p.X m) = nat_lt m n
is_below n (p.Y m) = false

abbrev pub is_slot_below : ℕ → Place → Bool
is_slot_below n (p.X m) = false
is_slot_below n (p.Y m) = nat_lt m n

abbrev pub tag_reads : TagOp → Place → Bool
tag_reads (CatchEnds n) q = is_below 1 q
tag_reads other q = false

abbrev pub reason_reads : Reason → Place → Bool
reason_reads (Match s) q = names s q
reason_reads (InCase s) q = names s q
reason_reads (InTry s) q = names s q
reason_reads (Given s u to) q = names s q || names u q
reason_reads Raw q = is_below 3 q
reason_reads other q = false

abbrev pub shape_reads : Shape → Place → Bool
shape_reads (Moves from parts) q = names from q
shape_reads (Swaps a b) q = same_place a q || same_place b q
shape_reads (Conses head tail to) q = names head q || names tail q
shape_reads (Tuples parts to) q = any_names parts q
shape_reads (Tests name operands label) q = any_names operands q
shape_reads (Selects from branches label) q = names from q
shape_reads (Tags op) q = tag_reads op q
shape_reads (Computes name operands fail live to) q = any_names operands q
shape_reads (Calls target arity leaving) q = is_below arity q
shape_reads Returns q = is_below 1 q
shape_reads (Raises reason) q = reason_reads reason q
shape_reads other q = false

-- an allocation writes its y registers, and so does what lets them go
abbrev pub stack_writes : StackOp → Place → Bool
stack_writes (Allocates n need live) q = is_slot_below n q
stack_writes (Frees n) q = is_slot_below n q
stack_writes (Clears n) q = same_place (p.Y n) q
stack_writes other q = false

abbrev pub tag_writes : TagOp → Place → Bool
tag_writes (Tries n label) q = same_place (p.Y n) q
tag_writes (Catches n label) q = same_place (p.Y n) q
tag_writes (TryEnds n) q = same_place (p.Y n) q
tag_writes (TryHandles n) q = same_place (p.Y n) q
tag_writes (CatchEnds n) q = same_place (p.Y n) q || is_below 1 q

abbrev pub reason_writes : Reason → Place → Bool
reason_writes Raw q = is_below 1 q
reason_writes other q = false

abbrev pub shape_writes : Shape → Place → Bool
shape_writes (Moves from parts) q = list_any (λ part. same_place part.1 q) parts
shape_writes (Swaps a b) q = same_place a q || same_place b q
shape_writes (Conses head tail to) q = same_place to q
shape_writes (Tuples parts to) q = same_place to q
shape_writes (Stacks op) q = stack_writes op q
shape_writes (Tags op) q = tag_writes op q
shape_writes (Computes name operands fail live to) q = same_place to q
shape_writes (Calls target arity leaving) q = is_below 1 q
shape_writes (Raises reason) q = reason_writes reason q
shape_writes other q = false

-- the built-ins that only raise
abbrev pub never_returns : List ℕ → List ℕ → ℕ → Bool
never_returns m f arity =
    bytes_eq m (codes "erlang")
    && (nat_eq arity 1 && (bytes_eq f (codes "throw") || bytes_eq f (codes "exit") || bytes_eq f (codes "error"))
    || nat_eq arity 2 && bytes_eq f (codes "error"))

abbrev pub comes_back : Target → Bool
comes_back (Inside label) = true
comes_back (Outside c) = not (never_returns c.owner c.name c.arity)

abbrev pub call_goes_on : Target → Leaving → Bool
call_goes_on target Stays = comes_back target
call_goes_on target other = false

abbrev pub reason_goes_on : Reason → Bool
reason_goes_on Raw = true
reason_goes_on other = false

-- whether the next item may follow
abbrev pub shape_goes_on : Shape → Bool
shape_goes_on (Selects from branches label) = false
shape_goes_on (Jumps label) = false
shape_goes_on (Calls target arity leaving) = call_goes_on target leaving
shape_goes_on Returns = false
shape_goes_on (Raises reason) = reason_goes_on reason
shape_goes_on other = true

abbrev pub branches_units : Branches → ℕ
branches_units (ByValue cases) = 2 * length cases + 1
branches_units (BySize cases) = 2 * length cases + 1

abbrev pub reason_units : Reason → ℕ
reason_units (Clause m f arity) = arity + 1
reason_units other = 1

-- 1, and the elements of its list, and the arity of a call or a `func_info`
abbrev pub shape_units : Shape → ℕ
shape_units (Tuples parts to) = length parts + 1
shape_units (Selects from branches label) = branches_units branches
shape_units (Calls target arity leaving) = arity + 1
shape_units (Raises reason) = reason_units reason
shape_units other = 1

abbrev pub reads : Instr → Place → Bool
reads i q = shape_reads (shape_of i) q

abbrev pub writes : Instr → Place → Bool
writes i q = shape_writes (shape_of i) q

abbrev pub goes_on : Instr → Bool
goes_on i = shape_goes_on (shape_of i)

abbrev pub units : Instr → ℕ
units i = shape_units (shape_of i)
