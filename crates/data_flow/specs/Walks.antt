-- No path of a flow ends another, or breaks a rule with another.
use Rattle.std.specs.Prelude.{List}
use Rattle.path_search.specs.Found.{IsByItem}
use Rattle.data_flow.specs.declared.flow.Flow.{Flow}
use Rattle.data_flow.specs.declared.flow.Need.{Need}
use Rattle.data_flow.specs.Flow.{cut_ways, item_of}

pub cut_by_item : (flow : Flow) (needs : List Need) → IsByItem (cut_ways flow needs) item_of
cut_by_item flow needs = record { apart = λ x y e. absurd cc; splits = λ x y e. absurd cc; third = λ x y z e f. absurd cc }
