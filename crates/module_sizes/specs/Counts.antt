-- How many names and literal operands a module has, and how many words its literals take together (docs/BEAM.md,
-- Instructions; docs/MACHINE.md, Words). What stands there twice counts twice. The names of tests and of built-ins are
-- no names of the module.
use Rattle.std.specs.Prelude.{ℕ, ◌+◌, List, [], ◌∷◌, length, map}
use Rattle.std.specs.List.{sum_by}
use Rattle.term_tree.specs.Size.{words_of}
use Rattle.term_tree.specs.Term.{tree_of}
use Rattle.beam_code.specs.declared.instr.Instr.{Instr}
use Rattle.beam_code.specs.declared.instr.Operand.{Operand}
use Rattle.beam_code.specs.declared.instr.Operand.TheVariants.{Atom, Literal}
use Rattle.beam_code.specs.declared.module.Function.{Function}
use Rattle.beam_code.specs.declared.module.Module.{Module}
use Rattle.beam_code.specs.Shape.{Branches, ByValue, BySize, Target, Inside, Outside, Reason, Clause, Shape, Selects, Calls, Raises, shape_of}
use Rattle.path_rules.specs.Registers.{operands_of}
use Rattle.module_sizes.specs.Atoms.{atoms_of}

-- what one operand counts: the atoms in it, itself as a literal, its words as a literal
abbrev pub operand_names : Operand → ℕ
operand_names (Atom a) = 1
operand_names (Literal u) = atoms_of (tree_of u)
operand_names other = 0

abbrev pub operand_literals : Operand → ℕ
operand_literals (Literal u) = 1
operand_literals other = 0

abbrev pub operand_words : Operand → ℕ
operand_words (Literal u) = words_of (tree_of u)
operand_words other = 0

-- the operands of an instruction, the values that a selection tells apart among them
abbrev pub branch_operands : Branches → List Operand
branch_operands (ByValue cases) = map (λ c. c.value) cases
branch_operands (BySize cases) = []

abbrev pub all_operands : Shape → List Operand
all_operands (Selects from branches label) = from ∷ branch_operands branches
all_operands other = operands_of other

-- the names beside its operands: those of a function of any module, and those of a `func_info`
abbrev pub target_names : Target → ℕ
target_names (Inside label) = 0
target_names (Outside callee) = 2

abbrev pub reason_names : Reason → ℕ
reason_names (Clause m f arity) = 2
reason_names other = 0

abbrev pub bare_names : Shape → ℕ
bare_names (Calls target arity leaving) = target_names target
bare_names (Raises reason) = reason_names reason
bare_names other = 0

abbrev pub instr_names : Instr → ℕ
instr_names i = bare_names (shape_of i) + sum_by operand_names (all_operands (shape_of i))

abbrev pub instr_literals : Instr → ℕ
instr_literals i = sum_by operand_literals (all_operands (shape_of i))

abbrev pub instr_words : Instr → ℕ
instr_words i = sum_by operand_words (all_operands (shape_of i))

-- a function has its own name too
abbrev pub function_names : Function → ℕ
function_names f = 1 + sum_by (λ x. instr_names x.instr) f.items

abbrev pub function_literals : Function → ℕ
function_literals f = sum_by (λ x. instr_literals x.instr) f.items

abbrev pub function_words : Function → ℕ
function_words f = sum_by (λ x. instr_words x.instr) f.items

-- and a module its own name, and the names of its exports
abbrev pub names_in : Module → ℕ
names_in m = 1 + length m.exports + sum_by function_names m.functions

abbrev pub literals_in : Module → ℕ
literals_in m = sum_by function_literals m.functions

abbrev pub literal_words_in : Module → ℕ
literal_words_in m = sum_by function_words m.functions
