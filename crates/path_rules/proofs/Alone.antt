-- Where StackSize and TagState hold, no path of a function ever ended another, and all paths to an item carry the same there.
use Rattle.std.proofs.Common.{◌≡◌, ℕ, Bool, true, false, not, ◌&&◌, refl, List}
use Rattle.std.specs.Prelude.{Option, Some, None, slice_get}
use Rattle.std.proofs.lemmas.Bool.{eq-eqb}
use Rattle.paths.specs.Paths.{Free}
use Rattle.paths.specs.Rules.{Holds, Reached}
use Rattle.paths.proofs.Forgetting.{alike}
use Rattle.paths.proofs.Free.{TwoRules, free_alone, free_fine, free_reached, holds_from_free}
use Rattle.paths.proofs.Reaching.{reached_free}
use Rattle.beam_code.specs.declared.module.Module.{Module}
use Rattle.beam_code.specs.Lined.{Lined}
use Rattle.beam_code.specs.Function.{Placed}
use Rattle.path_rules.specs.declared.frame.FramePoint.{FramePoint}
use Rattle.path_rules.specs.declared.rule.Rule.{Rule}
use Rattle.path_rules.specs.declared.rule.Rule.TheVariants.{Loop, StackSize, TagState}
use Rattle.path_rules.specs.Frames.{frame_of, frame_ways}
use Rattle.path_rules.specs.Points.{Point, graph}
use Rattle.path_rules.specs.Rules.{are_apart, breaks_at, looks_at_frames, same_item, same_stack, splits, ways}
use Rattle.path_rules.specs.Same.{stack_is, tags_are}
use Rattle.path_rules.specs.Tags.{same_tags}
use Rattle.path_rules.proofs.Forgets.{forgets}

neither : (i s t : Bool) → (i && not s) ≡ false → (i && not t) ≡ false → (i && not (s && t)) ≡ false
neither true true t a b = b
neither true false t a b = cc
neither false s t a b = refl

abbrev two_rules : (ms : List Module) (f : Placed) → TwoRules (graph ms f.function) are_apart
two_rules ms f = record {
  breaks_a = (ways ms f StackSize).breaks;
  breaks_b = (ways ms f TagState).breaks;
  splits_a = splits StackSize;
  splits_b = splits TagState;
  seen = λ p q a b. neither (same_item p q) (same_stack p.stack q.stack) (same_tags p.tags q.tags) a b;
}

module _ (ms : List Module) (f : Placed) (stack : Holds (ways ms f StackSize)) (tags : Holds (ways ms f TagState)) where
  -- no path ends another
  pub alone : (m n : ℕ) (p q : Point) → Free (graph ms f.function) m p → Free (graph ms f.function) n q → are_apart p q ≡ false
  alone m n p q a b = free_alone (graph ms f.function) are_apart (two_rules ms f) stack tags m n p q a b

  both_same : (i s t : Bool) → i ≡ true → (i && not (s && t)) ≡ false → (s ≡ true) × (t ≡ true)
  both_same i true true at e = (refl, refl)
  both_same i true false at e = cc
  both_same i false t at e = cc

  -- two paths to one item have the same stack and the same tags there
  pub one_frame : (m n : ℕ) (p q : Point) → Free (graph ms f.function) m p → Free (graph ms f.function) n q → p.item ≡ q.item → (p.stack ≡ q.stack) × (p.tags ≡ q.tags)
  one_frame m n p q a b at =
      let same = both_same (same_item p q) (same_stack p.stack q.stack) (same_tags p.tags q.tags) (eq-eqb p.item q.item at) (alone m n p q a b) in
      (stack_is p.stack q.stack same.0, tags_are p.tags q.tags same.1)

  -- a rule that holds looks at each path, and no path breaks it
  pub free_is_reached : (rule : Rule) → Holds (ways ms f rule) → (n : ℕ) (p : Point) → Free (graph ms f.function) n p → Reached (ways ms f rule) n p
  free_is_reached rule holds n p free = free_reached (ways ms f rule) alone holds n p free

  pub free_is_fine : (rule : Rule) → Holds (ways ms f rule) → (n : ℕ) (p : Point) → Free (graph ms f.function) n p → breaks_at ms f rule p (slice_get f.function.items p.item) ≡ false
  free_is_fine rule holds n p free = free_fine (ways ms f rule) alone holds n p free

  -- it is one of those by stack and tags
  pub free_in_frames : (rule : Rule) → looks_at_frames rule ≡ true → Holds (ways ms f rule) → (n : ℕ) (p : Point) → Free (graph ms f.function) n p → Reached (frame_ways ms f rule) n (frame_of p)
  free_in_frames rule frames holds n p free =
      (alike (ways ms f rule) (frame_ways ms f rule) frame_of (λ p. Unit {0}) (forgets ms f rule frames) n).down p (free_is_reached rule holds n p free)

-- and each of those is a path's
pub frames_are_free : (ms : List Module) (f : Placed) (rule : Rule) → looks_at_frames rule ≡ true → (n : ℕ) (q : FramePoint) → Reached (frame_ways ms f rule) n q →
    (m : ℕ) × (p : Point) × Free (graph ms f.function) m p × (frame_of p ≡ q)
frames_are_free ms f rule frames n q reached =
    let p = (alike (ways ms f rule) (frame_ways ms f rule) frame_of (λ p. Unit {0}) (forgets ms f rule frames) n).up q reached in
    let free = reached_free (ways ms f rule) n p.0 p.1 in
    (free.0, p.0, free.2, p.2)

-- nothing breaks Loop at a single item
no_break : (ms : List Module) (f : Placed) (p : Point) (o : Option Lined) → breaks_at ms f Loop p o ≡ false
no_break ms f p None = refl
no_break ms f p (Some i) = refl

pub loop_unbroken : (ms : List Module) (f : Placed) → Holds (ways ms f Loop)
loop_unbroken ms f = holds_from_free (ways ms f Loop) (λ n p free. no_break ms f p (slice_get f.function.items p.item)) (λ m n p q a b. refl)
