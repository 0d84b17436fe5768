-- Modules, functions and states that are made by hand, for rows that are worked by hand (docs/BEAM.md).
use Rattle.std.specs.Prelude.{ℕ, pos, Option, None, List, [], ◌∷◌, codes}
use Rattle.beam_code.specs.declared.call.Limits.{Limits}
use Rattle.beam_code.specs.declared.instr.Callee.{Callee}
use Rattle.beam_code.specs.declared.instr.Instr.{Instr}
use Rattle.beam_code.specs.declared.instr.Instr.TheVariants as i
use Rattle.beam_code.specs.declared.module.Function.{Function}
use Rattle.beam_code.specs.declared.item.Item.{Item}
use Rattle.beam_code.specs.declared.module.Module.{Module}
use Rattle.beam_code.specs.Function.{Placed}
use Rattle.beam_code.specs.State.{Local, Slot, only}
use Rattle.term_tree.specs.Tree as t

abbrev pub callee : List ℕ → List ℕ → ℕ → Callee
callee m f arity = record { owner = m; name = f; arity = arity }

abbrev pub item : Instr → Item
item instr = record { line = 1; instr = instr }

-- a function with the labels of its beginning, and the items behind its entry
abbrev pub function : List ℕ → List ℕ → ℕ → ℕ → ℕ → List Item → Function
function m f arity a b items =
    record { name = f; arity = arity; entry = 2; items = item (i.Label a) ∷ item (i.FuncInfo m f arity) ∷ item (i.Label b) ∷ items }

abbrev pub name : List ℕ
name = codes "m"

-- m:f/1 with the labels 1 and 2, which is exported, and m:g/0 with 3 and 4, which is not: each returns x0 at once
abbrev pub first : Function
first = function name (codes "f") 1 1 2 (item i.Return ∷ [])

abbrev pub second : Function
second = function name (codes "g") 0 3 4 (item i.Return ∷ [])

abbrev pub module_m : Module
module_m =
    record { name = name; exports = (codes "f", 1) ∷ []; functions = first ∷ second ∷ []; text = [] }

abbrev pub modules : List Module
modules = module_m ∷ []

abbrev pub placed : Placed
placed = record { owner = module_m; function = first }

-- 5 reductions, 100 words of heap, 50 of stack
abbrev pub limits : Limits
limits = record { reductions = 5; heap = 100; stack = 50 }

abbrev pub int : ℕ → t.Tree
int n = t.Int (pos n)

abbrev pub atom : List ℕ → t.Tree
atom a = t.Atom a

-- at item 3, with these x registers and y registers, so many heap words used, and 4 reductions left
abbrev pub at : List t.Tree → Option (List Slot) → ℕ → Local
at xs ys used = record { item = 3; xs = only xs; ys = ys; used = used; left = 4 }

-- the same one item on
abbrev pub past : List t.Tree → Option (List Slot) → ℕ → Local
past xs ys used = record { item = 4; xs = only xs; ys = ys; used = used; left = 4 }

abbrev pub no_stack : Option (List Slot)
no_stack = None
