-- What a path of a function carries, and where it goes on to (docs/BEAM.md, Paths).
use Rattle.std.specs.Prelude.{ℕ, zero, suc, ◌+◌, ◌-◌, Bool, true, false, ◌&&◌, Option, Some, None, List, [], ◌∷◌, ◌++◌, map, drop, length, replicate, slice_get, slice_set, option_map, nat_eq, nat_lt, if◌then◌else◌}
use Rattle.paths.specs.Paths.{Graph}
use Rattle.beam_code.specs.declared.module.Function.{Function}
use Rattle.beam_code.specs.Lined.{Lined}
use Rattle.beam_code.specs.declared.module.Module.{Module}
use Rattle.beam_code.specs.Function.{label_in}
use Rattle.beam_code.specs.Gates.{may_raise}
use Rattle.beam_code.specs.Shape.{Shape, Passes, Tests, Selects, Jumps, Stacks, Tags, Computes, Calls, Raises, Branches, ByValue, BySize, StackOp, Allocates, Asks, Trims, Frees, Clears, TagOp, Tries, Catches, TryEnds, TryHandles, CatchEnds, shape_of}
use Rattle.beam_code.specs.State.{x_registers}
use Rattle.beam_code.specs.Uses.{shape_goes_on}
use Rattle.path_rules.specs.declared.tag.Tag.{Tag}
use Rattle.path_rules.specs.declared.tag.TagKind.{TagKind}
use Rattle.path_rules.specs.declared.tag.TagKind.TheVariants.{Try, Catch}
use Rattle.path_rules.specs.Registers.{cell_words, places_of, tag_y, xs_in, ys_in}
use Rattle.path_rules.specs.Tags.{tagged, untagged, untouched, trimmed, lowest_tag}

abbrev pub y_registers : ℕ
y_registers = 256

-- a path's last item, and what the path carries there
pub record Point : Type 0 where
  pub item : ℕ
  pub stack : Option ℕ  -- how many y registers there are, or no stack
  pub tags : List Tag  -- the tagged ones, the lowest first
  pub xs : List Bool  -- which x registers it defined
  pub ys : List Bool  -- which y registers it defined; a tagged one is not defined
  pub covered : ℕ  -- heap words that were asked for last and are not put
  pub raised : Bool  -- it came here by an exception, and since then through items without effect alone

-- registers

abbrev pub none_defined : ℕ → List Bool
none_defined n = replicate n false

-- the first n of so many registers
abbrev pub first_defined : ℕ → ℕ → List Bool
first_defined n registers = replicate n true ++ none_defined (registers - n)

-- as before in the first n, undefined in the others
abbrev pub kept_below : ℕ → List Bool → List Bool
kept_below n [] = []
kept_below zero (x ∷ xs) = false ∷ kept_below zero xs
kept_below (suc n) (x ∷ xs) = x ∷ kept_below n xs

-- the x registers below Live stay
abbrev pub kept_live : Option ℕ → List Bool → List Bool
kept_live None xs = xs
kept_live (Some live) xs = kept_below live xs

abbrev pub defined : List ℕ → List Bool → List Bool
defined [] registers = registers
defined (n ∷ ns) registers = defined ns (slice_set registers n true)

abbrev pub undefined : ℕ → List Bool → List Bool
undefined n registers = slice_set registers n false

-- what a path carries behind an item that goes on

abbrev pub stack_behind_op : StackOp → Option ℕ → Option ℕ
stack_behind_op (Allocates n need live) stack = Some n
stack_behind_op (Trims n rest) stack = option_map (λ size. size - n) stack
stack_behind_op (Frees n) stack = None
stack_behind_op _ stack = stack

abbrev pub stack_behind : Shape → Option ℕ → Option ℕ
stack_behind (Stacks op) stack = stack_behind_op op stack
stack_behind _ stack = stack

abbrev pub tags_behind_stack_op : StackOp → List Tag → List Tag
tags_behind_stack_op (Allocates n need live) tags = []
tags_behind_stack_op (Asks need live) tags = tags
tags_behind_stack_op (Trims n rest) tags = trimmed n tags
tags_behind_stack_op (Frees n) tags = []
tags_behind_stack_op (Clears y) tags = untagged y tags

abbrev pub tags_behind_tag_op : TagOp → List Tag → List Tag
tags_behind_tag_op (Tries y label) tags = tagged (record { y = y; kind = Try; label = label }) tags
tags_behind_tag_op (Catches y label) tags = tagged (record { y = y; kind = Catch; label = label }) tags
tags_behind_tag_op (TryEnds y) tags = untagged y tags
tags_behind_tag_op (TryHandles y) tags = untagged y tags
tags_behind_tag_op (CatchEnds y) tags = untagged y tags

-- a y register that takes a value loses its tag
abbrev pub tags_behind : Shape → List Tag → List Tag
tags_behind (Stacks op) tags = tags_behind_stack_op op tags
tags_behind (Tags op) tags = tags_behind_tag_op op tags
tags_behind shape tags = untouched (places_of shape) tags

abbrev pub xs_behind_stack_op : StackOp → List Bool → List Bool
xs_behind_stack_op (Allocates n need live) xs = kept_below live xs
xs_behind_stack_op (Asks need live) xs = kept_below live xs
xs_behind_stack_op _ xs = xs

abbrev pub xs_behind_tag_op : TagOp → List Bool → List Bool
xs_behind_tag_op (CatchEnds y) xs = defined (0 ∷ []) xs
xs_behind_tag_op _ xs = xs

-- behind a call x0 has its value, and the others are undefined; of what raises only `raw_raise` goes on
abbrev pub xs_behind : Shape → List Bool → List Bool
xs_behind (Stacks op) xs = xs_behind_stack_op op xs
xs_behind (Tags op) xs = xs_behind_tag_op op xs
xs_behind (Computes name operands fail live to) xs = defined (xs_in (to ∷ [])) (kept_live live xs)
xs_behind (Calls target arity leaving) xs = first_defined 1 x_registers
xs_behind (Raises reason) xs = defined (0 ∷ []) xs
xs_behind shape xs = defined (xs_in (places_of shape)) xs

abbrev pub ys_behind_stack_op : StackOp → List Bool → List Bool
ys_behind_stack_op (Allocates n need live) ys = none_defined y_registers
ys_behind_stack_op (Asks need live) ys = ys
ys_behind_stack_op (Trims n rest) ys = drop n ys ++ none_defined n
ys_behind_stack_op (Frees n) ys = none_defined y_registers
ys_behind_stack_op (Clears y) ys = undefined y ys

abbrev pub ys_behind : Shape → List Bool → List Bool
ys_behind (Stacks op) ys = ys_behind_stack_op op ys
ys_behind (Tags op) ys = undefined (tag_y op) ys
ys_behind shape ys = defined (ys_in (places_of shape)) ys

abbrev pub covered_behind_stack_op : StackOp → ℕ → ℕ
covered_behind_stack_op (Allocates n (Some need) live) covered = need
covered_behind_stack_op (Asks need live) covered = need
covered_behind_stack_op _ covered = covered

-- a call counts as a heap test of no words
abbrev pub covered_behind : Shape → ℕ → ℕ
covered_behind (Stacks op) covered = covered_behind_stack_op op covered
covered_behind (Calls target arity leaving) covered = 0
covered_behind shape covered = covered - cell_words shape

-- where a path goes on to

-- an item without effect: a label, a line, a comment
abbrev pub is_passed : Shape → Bool
is_passed Passes = true
is_passed _ = false

abbrev pub behind : Shape → Point → Point
behind shape p = record {
  item = p.item + 1;
  stack = stack_behind shape p.stack;
  tags = tags_behind shape p.tags;
  xs = xs_behind shape p.xs;
  ys = ys_behind shape p.ys;
  covered = covered_behind shape p.covered;
  raised = is_passed shape && p.raised;
}

-- the next item, where the item goes on and is not the last
abbrev pub onward : Function → Shape → Point → List Point
onward f shape p = if shape_goes_on shape && nat_lt (p.item + 1) (length f.items) then behind shape p ∷ [] else []

abbrev pub branch_labels : Branches → List ℕ
branch_labels (ByValue cases) = map (λ c. c.label) cases
branch_labels (BySize cases) = map (λ c. c.label) cases

-- 0 in the place of a fail label is none
abbrev pub fail_labels : ℕ → List ℕ
fail_labels fail = if nat_eq fail 0 then [] else fail ∷ []

-- the labels that an item leads to itself
abbrev pub labels_of : Shape → List ℕ
labels_of (Tests name operands label) = label ∷ []
labels_of (Selects from branches other) = other ∷ branch_labels branches
labels_of (Jumps label) = label ∷ []
labels_of (Computes name operands fail live to) = fail_labels fail
labels_of _ = []

-- a path comes to a label with what it carried at the item
abbrev pub at_item : Point → Option ℕ → List Point
at_item p None = []
at_item p (Some item) = record p { item = item; raised = false } ∷ []

abbrev pub at_labels : Function → Point → List ℕ → List Point
at_labels f p [] = []
at_labels f p (label ∷ labels) = at_item p (label_in f label) ++ at_labels f p labels

-- the class, the reason and the class at a `try`, one term at a `catch`
abbrev pub caught_xs : TagKind → ℕ
caught_xs Try = 3
caught_xs Catch = 1

-- an exception leads to the label of the lowest tag
abbrev pub at_handler : Point → TagKind → Option ℕ → List Point
at_handler p kind None = []
at_handler p kind (Some item) = record p { item = item; xs = first_defined (caught_xs kind) x_registers; covered = 0; raised = true } ∷ []

abbrev pub handlers : Function → Point → Option Tag → List Point
handlers f p None = []
handlers f p (Some t) = at_handler p t.kind (label_in f t.label)

abbrev pub moves_of : List Module → Function → Point → Shape → List Point
moves_of ms f p shape =
    onward f shape p ++ (at_labels f p (labels_of shape) ++ (if may_raise ms shape then handlers f p (lowest_tag p.tags) else []))

abbrev pub moves_at : List Module → Function → Point → Option Lined → List Point
moves_at ms f p None = []
moves_at ms f p (Some i) = moves_of ms f p (shape_of i.instr)

-- the paths of a function

abbrev pub start_of : Function → Point
start_of f = record {
  item = f.entry;
  stack = None;
  tags = [];
  xs = first_defined f.arity x_registers;
  ys = none_defined y_registers;
  covered = 0;
  raised = false;
}

abbrev pub graph : List Module → Function → Graph Point
graph ms f = record { start = start_of f; moves = λ p. moves_at ms f p (slice_get f.items p.item) }

abbrev pub item_of : Point → ℕ
item_of p = p.item
