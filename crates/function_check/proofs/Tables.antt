-- A table of frames, with labels looked up, says how paths stand.
use Rattle.std.proofs.Common.{◌≡◌, ℕ, ◌<◌, refl, ap, sym, ◌∙◌, subst, List, Option, Some, None, map, slice_get, length}
use Rattle.std.specs.Prelude.{option_map}
use Rattle.std.proofs.lemmas.Option.{slice_get-map}
use Rattle.std.proofs.lemmas.List.{length-map}
use Rattle.paths.specs.Paths.{Free}
use Rattle.beam_code.specs.declared.module.Module.{Module}
use Rattle.beam_code.specs.Function.{Placed}
use Rattle.path_rules.specs.declared.frame_table.Frame.{Frame}
use Rattle.path_rules.specs.FrameTable.{AreFrames}
use Rattle.path_rules.specs.Points.{Point, graph}
use Rattle.function_check.specs.declared.standing.Standing.{Standing}
use Rattle.function_check.specs.Standings.{AreStandings, standing_in}

module _ (ms : List Module) (f : Placed) (frames : List (Option Frame)) (are : AreFrames ms f frames) where
  abbrev pub looked_up : Option Frame → Option Standing
  looked_up g = option_map (standing_in f.function) g

  -- where a frame was looked up there is one
  back : (o : Option (Option Frame)) (s : Standing) → option_map looked_up o ≡ Some (Some s) → (g : Frame) × (o ≡ Some (Some g))
  back None s e = cc
  back (Some None) s e = cc
  back (Some (Some g)) s e = (g, refl)

  pub standings_of : AreStandings ms f (map looked_up frames)
  standings_of = record {
    long = length-map frames looked_up ∙ are.long;
    known = λ n p free low. slice_get-map looked_up frames p.item ∙ ap (λ o. option_map looked_up o) (are.known n p free low);
    reached = λ i s e. (let g = back (slice_get frames i) s (sym (slice_get-map looked_up frames i) ∙ e) in are.reached i g.0 g.1);
  }
