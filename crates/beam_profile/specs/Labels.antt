-- Which labels an item may define and name (docs/BEAM.md, Forms).
use Rattle.std.specs.Prelude.{ℕ, Bool, true, false, ◌&&◌, ◌||◌, not, nat_eq, if◌then◌else◌, List, [], ◌∷◌, ◌++◌, Option, Some, None}
use Rattle.std.specs.List.{list_any, list_all}
use Rattle.beam_code.specs.declared.instr.Instr.{Instr}
use Rattle.beam_code.specs.declared.instr.Instr.TheVariants as i
use Rattle.beam_code.specs.declared.instr.Case.{Case}
use Rattle.beam_code.specs.declared.instr.ArityCase.{ArityCase}
use Rattle.beam_code.specs.declared.item.Item.{Item}
use Rattle.beam_code.specs.declared.module.Function.{Function}
use Rattle.beam_code.specs.Shape.{Shape, Branches, ByValue, BySize, TagOp, Tries, Catches, Target, Inside, Outside, Tests, Selects, Jumps, Tags, Computes, Calls, shape_of}

abbrev pub is_among : List ℕ → ℕ → Bool
is_among ns n = list_any (nat_eq n) ns

-- one more of these, unless it is there
abbrev pub with_label : List ℕ → ℕ → List ℕ
with_label ns n = if is_among ns n then ns else ns ++ n ∷ []

abbrev pub label_in : Instr → Option ℕ
label_in (i.Label n) = Some n
label_in other = None

abbrev pub with_item : List ℕ → Option ℕ → List ℕ
with_item ns None = ns
with_item ns (Some n) = with_label ns n

-- these labels and those of some items, each once
abbrev pub collected : List ℕ → List Item → List ℕ
collected ns [] = ns
collected ns (x ∷ xs) = collected (with_item ns (label_in x.instr)) xs

-- ---- what an item names, where its function has these labels

abbrev pub is_bound : List ℕ → ℕ → Bool
is_bound own n = not (nat_eq n 0) && is_among own n

-- a fail label may be none
abbrev pub is_bound_or_none : List ℕ → ℕ → Bool
is_bound_or_none own n = nat_eq n 0 || is_among own n

abbrev pub case_bound : List ℕ → Case → Bool
case_bound own c = is_bound own c.label

abbrev pub arity_case_bound : List ℕ → ArityCase → Bool
arity_case_bound own c = is_bound own c.label

abbrev pub branches_bound : List ℕ → Branches → Bool
branches_bound own (ByValue cases) = list_all (case_bound own) cases
branches_bound own (BySize cases) = list_all (arity_case_bound own) cases

abbrev pub tag_bound : List ℕ → TagOp → Bool
tag_bound own (Tries y label) = is_bound own label
tag_bound own (Catches y label) = is_bound own label
tag_bound own other = true

abbrev pub target_bound : Target → Bool
target_bound (Inside label) = not (nat_eq label 0)
target_bound (Outside callee) = true

abbrev pub shape_bound : List ℕ → Shape → Bool
shape_bound own (Tests name operands label) = is_bound own label
shape_bound own (Selects from branches label) = is_bound own label && branches_bound own branches
shape_bound own (Jumps label) = is_bound own label
shape_bound own (Tags op) = tag_bound own op
shape_bound own (Computes name operands fail live to) = is_bound_or_none own fail
shape_bound own (Calls target arity leaving) = target_bound target
shape_bound own other = true

-- ---- the first item that breaks this

abbrev pub is_again : List ℕ → Option ℕ → Bool
is_again before None = false
is_again before (Some n) = is_among before n

abbrev pub breaks : List ℕ → List ℕ → Instr → Bool
breaks before own instr = not (shape_bound own (shape_of instr)) || is_again before (label_in instr)

abbrev pub broken_in : List ℕ → List ℕ → List Item → Option ℕ
broken_in before own [] = None
broken_in before own (x ∷ xs) = if breaks before own x.instr then Some x.line else broken_in (with_item before (label_in x.instr)) own xs

-- its line, where the functions before have these labels
abbrev pub or_later : Option ℕ → Option ℕ → Option ℕ
or_later (Some line) later = Some line
or_later None later = later

abbrev pub first_broken : List ℕ → List Function → Option ℕ
first_broken before [] = None
first_broken before (f ∷ fs) = or_later (broken_in before (collected [] f.items) f.items) (first_broken (collected before f.items) fs)
