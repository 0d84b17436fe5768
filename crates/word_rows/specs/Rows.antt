-- What an item of an image is as a row on words (docs/MACHINE.md, Items).
use Rattle.std.specs.Prelude.{ℕ, ◌≡◌, ◌+◌, ◌-◌, ◌^◌, min, Option, Some, None, List, [], ◌∷◌, ◌++◌, codes, drop, length, nat_eq, if◌then◌else◌, slice_index}
use Rattle.beam_code.specs.declared.instr.ArityCase.{ArityCase}
use Rattle.beam_code.specs.declared.instr.Callee.{Callee}
use Rattle.beam_code.specs.declared.instr.Case.{Case}
use Rattle.beam_code.specs.declared.instr.Operand.{Operand}
use Rattle.beam_code.specs.declared.instr.Operand.TheVariants as operand
use Rattle.beam_code.specs.declared.instr.Place.{Place}
use Rattle.beam_code.specs.declared.instr.Place.TheVariants as place
use Rattle.beam_code.specs.declared.module.Function.{Function}
use Rattle.beam_code.specs.Function.{Placed, all_functions, cost_of, exported_number, function_at, is_given, label_in, target_of}
use Rattle.beam_code.specs.Lined.{Lined}
use Rattle.beam_code.specs.Shape as s
use Rattle.module_sizes.specs.Counts.{all_operands}
use Rattle.native_link.specs.Checking.{Linked}
use Rattle.native_link.specs.Places.{first_item, item_address}
use Rattle.tagged_words.specs.Atoms.{first_atoms}
use Rattle.tagged_words.specs.Laid.{atom_number}
use Rattle.tagged_words.specs.Word.{atom_word, nil_word, small_word}
use Rattle.word_rows.specs.declared.row.Branch.{Branch}
use Rattle.word_rows.specs.declared.row.Piece.{Piece}
use Rattle.word_rows.specs.declared.row.Piece.TheVariants as piece
use Rattle.word_rows.specs.declared.row.Row.{Row}
use Rattle.word_rows.specs.declared.row.Row.TheVariants as row
use Rattle.word_rows.specs.declared.row.Source.{Source}
use Rattle.word_rows.specs.declared.row.Source.TheVariants.{At, Word}
use Rattle.word_rows.specs.declared.row.Spot.{Spot}
use Rattle.word_rows.specs.declared.row.Spot.TheVariants.{X, Slot}
use Rattle.word_rows.specs.Entries.{entry_address}
use Rattle.word_rows.specs.Names.{built_in_number, inline_number, test_number}
use Rattle.word_rows.specs.Standing.{stack_at}

-- a function of an image, and how many items stand before it
pub record Here : Type 0 where
  pub linked : Linked
  pub placed : Placed
  pub first : ℕ

-- ---- operands

-- y_n of so many is the slot as far from their number
abbrev pub spot_of : ℕ → Place → Spot
spot_of size (place.X n) = X n
spot_of size (place.Y n) = Slot (size - n)

-- the word of an atom by the names of the image, and of one of the machine's own
abbrev pub name_word : List (List ℕ) → List ℕ → ℕ
name_word names a = atom_word (atom_number names a)

-- with these names, so many y registers, and the roots of the literals from here on
abbrev pub source_of : List (List ℕ) → ℕ → List ℕ → Operand → Source
source_of names size roots (operand.X n) = At (X n)
source_of names size roots (operand.Y n) = At (Slot (size - n))
source_of names size roots (operand.Int i) = Word (small_word i)
source_of names size roots (operand.Atom a) = Word (name_word names a)
source_of names size roots operand.Nil = Word nil_word
source_of names size roots (operand.Literal u) = Word (slice_index roots 0)

-- the roots behind an operand: a literal has the first
abbrev pub behind : Operand → List ℕ → List ℕ
behind (operand.Literal u) roots = drop 1 roots
behind other roots = roots

abbrev pub behind_all : List Operand → List ℕ → List ℕ
behind_all [] roots = roots
behind_all (o ∷ os) roots = behind_all os (behind o roots)

abbrev pub behind_item : Lined → List ℕ → List ℕ
behind_item i roots = behind_all (all_operands (s.shape_of i.instr)) roots

abbrev pub behind_items : List Lined → List ℕ → List ℕ
behind_items [] roots = roots
behind_items (i ∷ is) roots = behind_items is (behind_item i roots)

abbrev pub sources_of : List (List ℕ) → ℕ → List ℕ → List Operand → List Source
sources_of names size roots [] = []
sources_of names size roots (o ∷ os) = source_of names size roots o ∷ sources_of names size (behind o roots) os

-- ---- labels and functions

abbrev pub address_of : Here → Option ℕ → ℕ
address_of h None = 0
address_of h (Some item) = item_address (h.first + item)

abbrev pub label_address : Here → ℕ → ℕ
label_address h label = address_of h (label_in h.placed.function label)

-- 0 is no fail label
abbrev pub fail_address : Here → ℕ → Option ℕ
fail_address h fail = if nat_eq fail 0 then None else Some (label_address h fail)

-- the words of a frame, as far as a word counts them
abbrev pub frame_words : Function → ℕ
frame_words f = min (cost_of f) (2 ^ 32 - 1)

-- the frame that a call gives back, where it leaves its function
abbrev pub frame_left : Function → s.Leaving → Option ℕ
frame_left f s.Stays = None
frame_left f (s.Drops n) = Some (frame_words f)
frame_left f s.HasNone = Some (frame_words f)

-- ---- rows by shape

abbrev pub piece_of : s.Piece → Piece
piece_of s.Whole = piece.Whole
piece_of s.Head = piece.Head
piece_of s.Tail = piece.Tail
piece_of (s.Element n) = piece.Element n

-- one part of a term is moved, or head and tail are; there are no other moves
abbrev pub moves_row : ℕ → Source → List (s.Piece × Place) → Row
moves_row size from ((part, to) ∷ []) = row.Moves from (piece_of part) (spot_of size to)
moves_row size from ((s.Head, a) ∷ (s.Tail, b) ∷ []) = row.Splits from (spot_of size a) (spot_of size b)
moves_row size from other = row.Nothing

-- the branches of a selection by value: those of integers and atoms
abbrev pub with_branch : Option ℕ → ℕ → List Branch → List Branch
with_branch None to rest = rest
with_branch (Some key) to rest = record { key = key; to = to } ∷ rest

abbrev pub key_of : List (List ℕ) → Operand → Option ℕ
key_of names (operand.Int i) = Some (small_word i)
key_of names (operand.Atom a) = Some (name_word names a)
key_of names other = None

abbrev pub branches_by_value : Here → List Case → List Branch
branches_by_value h [] = []
branches_by_value h (c ∷ cs) = with_branch (key_of h.linked.parts.atoms c.value) (label_address h c.label) (branches_by_value h cs)

abbrev pub branches_by_size : Here → List ArityCase → List Branch
branches_by_size h [] = []
branches_by_size h (c ∷ cs) = record { key = c.arity; to = label_address h c.label } ∷ branches_by_size h cs

abbrev pub selection : Here → Source → s.Branches → ℕ → Row
selection h from (s.ByValue cases) other = row.SelectsWord from (branches_by_value h cases) (label_address h other)
selection h from (s.BySize cases) other = row.SelectsSize from (branches_by_size h cases) (label_address h other)

-- of what goes on with the stack only a heap test is left, and of marks nothing
abbrev pub stack_row : s.StackOp → Row
stack_row (s.Allocates n (Some need) live) = row.Asks need
stack_row (s.Asks need live) = row.Asks need
stack_row other = row.Passes

abbrev pub test_row : Option ℕ → List Source → ℕ → Row
test_row None sources to = row.Nothing
test_row (Some number) sources to = row.Tests number sources to

abbrev pub computing_row : Option ℕ → List Source → Option ℕ → Spot → Row
computing_row None sources fail to = row.Nothing
computing_row (Some k) sources fail to = row.Computes k sources fail to

-- a built-in by its name: its operands, its fail label or 0, its place
abbrev pub computes_row : Here → ℕ → List ℕ → List ℕ → List Operand → ℕ → Place → Row
computes_row h size roots name operands fail to =
    computing_row (inline_number name (length operands)) (sources_of h.linked.parts.atoms size roots operands) (fail_address h fail) (spot_of size to)

-- calls
abbrev pub call_row : Here → s.Leaving → Option ℕ → Row
call_row h leaving None = row.Nothing
call_row h leaving (Some fid) = row.Calls (entry_address h.linked.modules h.linked.parts.natives fid) (frame_left h.placed.function leaving)

abbrev pub own_word : List ℕ → ℕ
own_word a = name_word first_atoms a

-- no function of these names: an error where the module is given, else the end
abbrev pub missing_row : Here → Callee → Row
missing_row h c =
    if is_given h.linked.modules c.owner then row.Raises (own_word (codes "undef"))
    else row.NotProvided (atom_number h.linked.parts.atoms c.owner) (atom_number h.linked.parts.atoms c.name) c.arity

abbrev pub outside_row : Here → s.Leaving → Callee → Option ℕ → Row
outside_row h leaving c None = missing_row h c
outside_row h leaving c (Some fid) = call_row h leaving (Some fid)

abbrev pub callee_row : Here → s.Leaving → Callee → Option ℕ → Row
callee_row h leaving c (Some k) = row.CallsBuiltIn k (frame_left h.placed.function leaving)
callee_row h leaving c None = outside_row h leaving c (exported_number h.linked.modules c.owner c.name c.arity)

abbrev pub target_row : Here → s.Leaving → ℕ → s.Target → Row
target_row h leaving arity (s.Inside label) = call_row h leaving (target_of h.linked.modules h.placed label arity)
target_row h leaving arity (s.Outside c) = if nat_eq arity c.arity then callee_row h leaving c (built_in_number c.owner c.name c.arity) else row.Nothing

-- exceptions
abbrev pub pair_row : List ℕ → Source → Row
pair_row name from = row.RaisesPair (own_word name) from

abbrev pub raise_row : List (List ℕ) → ℕ → List ℕ → s.Reason → Row
raise_row names size roots (s.Clause m f arity) = row.Raises (own_word (codes "function_clause"))
raise_row names size roots (s.Match o) = pair_row (codes "badmatch") (source_of names size roots o)
raise_row names size roots (s.InCase o) = pair_row (codes "case_clause") (source_of names size roots o)
raise_row names size roots (s.InTry o) = pair_row (codes "try_clause") (source_of names size roots o)
raise_row names size roots s.InIf = row.Raises (own_word (codes "if_clause"))
raise_row names size roots (s.Given class reason to) = row.RaisesGiven (source_of names size roots class) (source_of names size (behind class roots) reason)
raise_row names size roots s.Raw = row.RaisesRaw

-- with so many y registers, and the roots of the literals from here on
abbrev pub shape_row : Here → ℕ → List ℕ → s.Shape → Row
shape_row h size roots s.Passes = row.Passes
shape_row h size roots (s.Moves from parts) = moves_row size (source_of h.linked.parts.atoms size roots from) parts
shape_row h size roots (s.Swaps a b) = row.Swaps (spot_of size a) (spot_of size b)
shape_row h size roots (s.Conses head tail to) =
    row.Conses (source_of h.linked.parts.atoms size roots head) (source_of h.linked.parts.atoms size (behind head roots) tail) (spot_of size to)
shape_row h size roots (s.Tuples parts to) = row.Tuples (sources_of h.linked.parts.atoms size roots parts) (spot_of size to)
shape_row h size roots (s.Tests name operands label) =
    test_row (test_number name (length operands)) (sources_of h.linked.parts.atoms size roots operands) (label_address h label)
shape_row h size roots (s.Selects from branches other) = selection h (source_of h.linked.parts.atoms size roots from) branches other
shape_row h size roots (s.Jumps label) = row.Jumps (label_address h label)
shape_row h size roots (s.Stacks op) = stack_row op
shape_row h size roots (s.Tags op) = row.Passes
shape_row h size roots (s.Computes name operands fail live to) = computes_row h size roots name operands fail to
shape_row h size roots (s.Calls target arity leaving) = target_row h leaving arity target
shape_row h size roots s.Returns = row.Returns (frame_words h.placed.function)
shape_row h size roots (s.Raises reason) = raise_row h.linked.parts.atoms size roots reason

-- ---- items

abbrev pub stack_size : Option ℕ → ℕ
stack_size None = 0
stack_size (Some size) = size

-- an item that no path comes to is no code
abbrev pub reached_row : Here → Option (Option ℕ) → List ℕ → s.Shape → Row
reached_row h None roots shape = row.Nothing
reached_row h (Some stack) roots shape = shape_row h (stack_size stack) roots shape

abbrev pub item_row : Here → ℕ → List ℕ → Lined → Row
item_row h at roots i =
    if nat_eq at h.placed.function.entry then row.Enters (frame_words h.placed.function)
    else reached_row h (stack_at h.linked.modules h.placed.function at) roots (s.shape_of i.instr)

-- the items of a function from one on
abbrev pub rows_from : Here → ℕ → List ℕ → List Lined → List Row
rows_from h at roots [] = []
rows_from h at roots (i ∷ is) = item_row h at roots i ∷ rows_from h (at + 1) (behind_item i roots) is

-- functions, where so many items stand before the first
abbrev pub here_of : Linked → Placed → ℕ → Here
here_of l p first = record { linked = l; placed = p; first = first }

abbrev pub rows_in : Linked → ℕ → List ℕ → List Placed → List Row
rows_in l first roots [] = []
rows_in l first roots (p ∷ ps) =
    rows_from (here_of l p first) 0 roots p.function.items
    ++ rows_in l (first + length p.function.items) (behind_items p.function.items roots) ps

-- the rows of the function with a number, with these roots, stand behind others
abbrev pub AreAdded : Linked → ℕ → List ℕ → List Row → List Row → Type 0
AreAdded l n roots before after =
    (p : Placed) → function_at l.modules n ≡ Some p → after ≡ before ++ rows_from (here_of l p (first_item l.modules n)) 0 roots p.function.items

-- all items of an image, by their numbers
abbrev pub rows_of : Linked → List Row
rows_of l = rows_in l 0 l.parts.roots (all_functions l.modules)
