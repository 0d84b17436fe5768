-- Steps that are added one after the other are those of all ways.
use Rattle.std.proofs.Common.{◌≡◌, Bool, List, ◌++◌, map, ap, sym, ◌∙◌}
use Rattle.std.proofs.lemmas.List.{append_assoc, map-append}
use Rattle.data_flow.specs.declared.flow.Step.{Step}
use Rattle.path_flows.specs.declared.way.Way.{Way}
use Rattle.path_flows.specs.FlowOf.{step_of}

-- some more at the end
pub added : (counts : Bool) (to : List Step) (a b : List Way) → (to ++ map (step_of counts) a) ++ map (step_of counts) b ≡ to ++ map (step_of counts) (a ++ b)
added counts to a b = append_assoc to (map (step_of counts) a) (map (step_of counts) b) ∙ ap (λ (xs : List Step). to ++ xs) (sym (map-append (step_of counts) a b))

pub all_added : (counts : Bool) (to : List Step) (a b c : List Way) → ((to ++ map (step_of counts) a) ++ map (step_of counts) b) ++ map (step_of counts) c ≡ to ++ map (step_of counts) (a ++ (b ++ c))
all_added counts to a b c =
    ap (λ (xs : List Step). xs ++ map (step_of counts) c) (added counts to a b)
    ∙ (added counts to (a ++ b) c ∙ ap (λ (xs : List Way). to ++ map (step_of counts) xs) (append_assoc a b c))
