-- Two modules: m:f/1 calls n:g/1 under a `try`, and n:g/1 makes a list of one element or raises (docs/BEAM.md, Meaning).
use Rattle.std.specs.Prelude.{List, [], ◌∷◌, ◌++◌, codes, map}
use Rattle.beam_code.specs.declared.instr.Instr.TheVariants as i
use Rattle.beam_code.specs.declared.module.Function.{Function}
use Rattle.beam_code.specs.declared.module.Module.{Module}
use Rattle.beam_code.specs.State.{Returned}
use Rattle.beam_rows.specs.Hand.{atom, callee, function, int, item}
use Rattle.beam_rows.specs.Small.{Means, list, main, num, plenty, program, to_x, tuple, x}

-- n:g/1: a list of one element for the empty list, and `badmatch` of any other term
abbrev pub made : Function
made = function (codes "n") (codes "g") 1 1 2 (map item (
    i.Test (codes "is_nil") 3 (x 0 ∷ [])  -- item 3
    ∷ i.TestHeap 2 1
    ∷ i.PutList (num 1) (x 0) (to_x 0)
    ∷ i.Return
    ∷ i.Label 3  -- item 7
    ∷ i.Badmatch (x 0)
    ∷ []))

-- m:f/1: what n:g/1 gives, or the reason of its exception
abbrev pub tried : Function
tried = main 1 (
    i.Allocate 1 1  -- item 3
    ∷ i.Try 0 3
    ∷ i.CallExt 1 (callee (codes "n") (codes "g") 1)
    ∷ i.TryEnd 0  -- item 6
    ∷ i.Deallocate 1
    ∷ i.Return
    ∷ i.Label 3  -- item 9
    ∷ i.TryCase 0
    ∷ i.Move (x 1) (to_x 0)
    ∷ i.Deallocate 1
    ∷ i.Return
    ∷ [])

abbrev pub module_n : Module
module_n = record { name = codes "n"; exports = (codes "g", 1) ∷ []; functions = made ∷ []; text = [] }

abbrev pub example : List Module
example = program 1 (tried ∷ []) ++ (module_n ∷ [])

-- without an exception, and with one that the handler takes
abbrev pub ExampleMeans : Type 0
ExampleMeans =
    Means example plenty (list [] ∷ []) (Returned (list (int 1 ∷ [])))
    × Means example plenty (int 5 ∷ []) (Returned (tuple (atom (codes "badmatch") ∷ int 5 ∷ [])))
