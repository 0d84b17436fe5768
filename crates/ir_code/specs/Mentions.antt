-- What modules mention, in the order of their texts (docs/FORMAT.md, Atoms, Literals): names, and literal operands. The names of tests and of
-- built-ins, and what stands in `line` and in comments, are no mentions.
use Rattle.std.specs.Prelude.{ℕ, List, [], ◌∷◌, ◌++◌, map, flat_map}
use Rattle.beam_code.specs.declared.instr.Operand.{Operand}
use Rattle.beam_code.specs.declared.instr.Operand.TheVariants as operand
use Rattle.beam_code.specs.declared.module.Function.{Function}
use Rattle.beam_code.specs.declared.module.Module.{Module}
use Rattle.beam_code.specs.Shape.{Target, Inside, Outside, Reason, Clause, Shape, Calls, Raises, shape_of}
use Rattle.module_sizes.specs.Counts.{all_operands}
use Rattle.term_tree.specs.Term.{tree_of}
use Rattle.term_tree.specs.Tree.{Tree}

pub data Mention : Type 0 where
  Named : List ℕ → Mention
  Literal : Tree → Mention

abbrev pub operand_mentions : Operand → List Mention
operand_mentions (operand.Atom a) = Named a ∷ []
operand_mentions (operand.Literal u) = Literal (tree_of u) ∷ []
operand_mentions other = []

-- beside its operands an instruction names a function of any module, or that of a `func_info`
abbrev pub target_mentions : Target → List Mention
target_mentions (Inside label) = []
target_mentions (Outside callee) = Named callee.owner ∷ Named callee.name ∷ []

abbrev pub reason_mentions : Reason → List Mention
reason_mentions (Clause m f arity) = Named m ∷ Named f ∷ []
reason_mentions other = []

abbrev pub bare_mentions : Shape → List Mention
bare_mentions (Calls target arity leaving) = target_mentions target
bare_mentions (Raises reason) = reason_mentions reason
bare_mentions other = []

abbrev pub shape_mentions : Shape → List Mention
shape_mentions shape = bare_mentions shape ++ flat_map operand_mentions (all_operands shape)

abbrev pub function_mentions : Function → List Mention
function_mentions f = Named f.name ∷ flat_map (λ x. shape_mentions (shape_of x.instr)) f.items

-- of a module: its name, the names of its exports, and what its functions mention
abbrev pub module_mentions : Module → List Mention
module_mentions m = Named m.name ∷ (map (λ e. Named e.0) m.exports ++ flat_map function_mentions m.functions)

abbrev pub mentions_of : List Module → List Mention
mentions_of ms = flat_map module_mentions ms

-- the literals among them
abbrev pub literal_of : Mention → List Tree
literal_of (Named a) = []
literal_of (Literal v) = v ∷ []

abbrev pub literals_of : List Mention → List Tree
literals_of all = flat_map literal_of all
