-- Functions that are few have few items, and are few themselves where each has an item.
use Rattle.std.proofs.Common.{◌≡◌, ℕ, ◌+◌, ◌<◌, ◌≤◌, ◌^◌, arith, refl, List, [], ◌∷◌, length}
use Rattle.std.specs.List.{Contains}
use Rattle.paths.proofs.Tests.{here, later}
use Rattle.beam_code.specs.declared.instr.Instr.{Instr}
use Rattle.beam_code.specs.Lined.{Lined}
use Rattle.beam_code.specs.Function.{Placed, items_in}
use Rattle.beam_code.specs.Shape.{Shape, Tuples, Selects, Calls, Raises, Branches, ByValue, BySize, Reason, Clause, shape_of}
use Rattle.beam_code.specs.Uses.{branches_units, reason_units, shape_units, units}
use Rattle.path_rules.specs.Profile.{units_in, units_of}

branches_one : (b : Branches) → 1 ≤ branches_units b
branches_one (ByValue cases) = omega arith
branches_one (BySize cases) = omega arith

reason_one : (r : Reason) → 1 ≤ reason_units r
reason_one (Clause m f arity) = omega arith
reason_one _ = omega arith

shape_one : (s : Shape) → 1 ≤ shape_units s
shape_one (Tuples parts to) = omega arith
shape_one (Selects from branches label) = branches_one branches
shape_one (Calls target arity leaving) = omega arith
shape_one (Raises reason) = reason_one reason
shape_one _ = omega arith

items_units : (is : List Lined) → length is ≤ units_of is
items_units [] = omega arith
items_units (i ∷ is) = let one = shape_one (shape_of i.instr) in let rest = items_units is in omega arith

pub items_in_units : (fs : List Placed) → items_in fs ≤ units_in fs
items_in_units [] = omega arith
items_in_units (f ∷ fs) = let own = items_units f.function.items in let rest = items_in_units fs in omega arith

pub functions_in_items : (fs : List Placed) → ((f : Placed) → Contains fs f → 1 ≤ length f.function.items) → length fs ≤ items_in fs
functions_in_items [] each = omega arith
functions_in_items (f ∷ fs) each =
    let own = each f (here f fs f refl) in
    let rest = functions_in_items fs (λ g c. each g (later f fs g c)) in
    omega arith
