-- Points that are added one after the other are those that a path may go on to.
use Rattle.std.proofs.Common.{◌≡◌, List, ◌++◌, map, ap, sym, ◌∙◌}
use Rattle.std.proofs.lemmas.List.{append_assoc, map-append}
use Rattle.path_rules.specs.declared.frame.FramePoint.{FramePoint}
use Rattle.path_rules.specs.Frames.{frame_of}
use Rattle.path_rules.specs.Points.{Point}

-- some more at the end
pub added : (to : List FramePoint) (a b : List Point) → (to ++ map frame_of a) ++ map frame_of b ≡ to ++ map frame_of (a ++ b)
added to a b = append_assoc to (map frame_of a) (map frame_of b) ∙ ap (λ (xs : List FramePoint). to ++ xs) (sym (map-append frame_of a b))

pub all_added : (to : List FramePoint) (a b c : List Point) → ((to ++ map frame_of a) ++ map frame_of b) ++ map frame_of c ≡ to ++ map frame_of (a ++ (b ++ c))
all_added to a b c =
    ap (λ (xs : List FramePoint). xs ++ map frame_of c) (added to a b) ∙ (added to (a ++ b) c ∙ ap (λ (xs : List Point). to ++ map frame_of xs) (append_assoc a b c))
