-- A table that is filled from the points of paths says what every path carries.
use Rattle.std.proofs.Common.{◌≡◌, ℕ, zero, suc, ◌<◌, ◌≤◌, ◌⊎◌, inl, inr, refl, ap, sym, ◌∙◌, subst, List, [], ◌∷◌, Option, Some, None, length, set, replicate, arith}
use Rattle.std.specs.Prelude.{slice_get}
use Rattle.std.specs.List.{Contains}
use Rattle.std.proofs.lemmas.List.{length-replicate, length-set}
use Rattle.paths.specs.Paths.{Free}
use Rattle.paths.proofs.Tests.{first_or_later, later, here}
use Rattle.beam_code.specs.declared.module.Function.{Function}
use Rattle.beam_code.specs.declared.module.Module.{Module}
use Rattle.beam_code.specs.Function.{Placed}
use Rattle.path_rules.specs.declared.frame.FramePoint.{FramePoint}
use Rattle.path_rules.specs.declared.frame_table.Frame.{Frame}
use Rattle.path_rules.specs.declared.rule.Rule.{Rule}
use Rattle.path_rules.specs.declared.tag.Tag.{Tag}
use Rattle.path_rules.specs.Frames.{frame_of}
use Rattle.path_rules.specs.FrameTable.{AreFrames, AreSearched, filled, frames_from, said_frame, table_frame}
use Rattle.path_rules.specs.Points.{Point, graph}
use Rattle.path_rules.specs.Tags.{lowest_tag}
use Rattle.path_rules.proofs.Alone.{frames_are_free, free_in_frames, one_frame}

-- a write past the end changes nothing
pub set_past : {A : Type 0} (xs : List A) (i : ℕ) (v : A) → length xs ≤ i → set xs i v ≡ xs
set_past [] i v past = refl
set_past (x ∷ xs) zero v past = absurd (omega arith)
set_past (x ∷ xs) (suc i) v past = ap (λ (ys : List _). x ∷ ys) (set_past xs i v (omega arith))

set_cases : {A : Type 0} (xs : List A) (j : ℕ) (v : A) (i : ℕ) (y : A) → slice_get (set xs j v) i ≡ Some y → (slice_get xs i ≡ Some y) ⊎ ((j ≡ i) × (v ≡ y))
set_cases [] j v i y e = inl e
set_cases (x ∷ xs) zero v zero y e = inr (refl, cc)
set_cases (x ∷ xs) zero v (suc i) y e = inl e
set_cases (x ∷ xs) (suc j) v zero y e = inl e
set_cases (x ∷ xs) (suc j) v (suc i) y e = elim (set_cases xs j v i y e) [ inl h ↦ inl h | inr h ↦ inr (ap suc h.0, h.1) ]

set_same : {A : Type 0} (xs : List A) (i : ℕ) (v : A) → i < length xs → slice_get (set xs i v) i ≡ Some v
set_same [] i v within = absurd (omega arith)
set_same (x ∷ xs) zero v within = refl
set_same (x ∷ xs) (suc i) v within = set_same xs i v (omega arith)

-- that something is said of an item
abbrev IsFilled : List (Option Frame) → ℕ → Type 0
IsFilled frames i = (g : Frame) × (slice_get frames i ≡ Some (Some g))

set_filled : (frames : List (Option Frame)) (j : ℕ) (v : Frame) (i : ℕ) → IsFilled frames i → IsFilled (set frames j (Some v)) i
set_filled [] j v i is = is
set_filled (x ∷ xs) zero v zero is = (v, refl)
set_filled (x ∷ xs) zero v (suc i) is = is
set_filled (x ∷ xs) (suc j) v zero is = is
set_filled (x ∷ xs) (suc j) v (suc i) is = set_filled xs j v i is

kept : (qs : List FramePoint) (frames : List (Option Frame)) (i : ℕ) → IsFilled frames i → IsFilled (filled qs frames) i
kept [] frames i is = is
kept (q ∷ qs) frames i is = kept qs (set frames q.item (Some (said_frame q))) i (set_filled frames q.item (said_frame q) i is)

filled_long : (qs : List FramePoint) (frames : List (Option Frame)) → length (filled qs frames) ≡ length frames
filled_long [] frames = refl
filled_long (q ∷ qs) frames = filled_long qs (set frames q.item (Some (said_frame q))) ∙ length-set frames q.item (Some (said_frame q))

-- each point fills its item
there : (qs : List FramePoint) (frames : List (Option Frame)) (q : FramePoint) → Contains qs q → q.item < length frames → IsFilled (filled qs frames) q.item
there [] frames q on within = (let none = on.1 in absurd (omega arith))
there (r ∷ rs) frames q on within =
    elim (first_or_later r rs q on) [
      | inl e ↦ kept rs (set frames r.item (Some (said_frame r))) q.item (subst (λ (p : FramePoint). IsFilled (set frames r.item (Some (said_frame r))) p.item) e (said_frame r, set_same frames r.item (Some (said_frame r)) (subst (λ (p : FramePoint). p.item < length frames) (sym e) within)))
      | inr rest ↦ there rs (set frames r.item (Some (said_frame r))) q rest (let long = length-set frames r.item (Some (said_frame r)) in omega arith)
    ]

-- what is said comes from a point
record Said (qs : List FramePoint) (i : ℕ) (g : Frame) : Type 0 where
  by : FramePoint
  among : Contains qs by
  at : by.item ≡ i
  is : said_frame by ≡ g

said_or_before : (qs : List FramePoint) (frames : List (Option Frame)) (i : ℕ) (g : Frame) → slice_get (filled qs frames) i ≡ Some (Some g) → (slice_get frames i ≡ Some (Some g)) ⊎ Said qs i g
said_or_before [] frames i g e = inl e
said_or_before (q ∷ qs) frames i g e =
    elim (said_or_before qs (set frames q.item (Some (said_frame q))) i g e) [
      | inl before ↦ elim (set_cases frames q.item (Some (said_frame q)) i (Some g) before) [
        | inl h ↦ inl h
        | inr h ↦ inr (record { by = q; among = here q qs q refl; at = h.0; is = (let w = h.1 in cc) })
      ]
      | inr s ↦ inr (record { by = s.by; among = later q qs s.by s.among; at = s.at; is = s.is })
    ]

not_none : (n i : ℕ) (g : Frame) → slice_get (replicate n None) i ≡ Some (Some g) → ⊥
not_none zero i g e = cc
not_none (suc n) zero g e = cc
not_none (suc n) (suc i) g e = not_none n i g e

said : (f : Function) (points : List FramePoint) (i : ℕ) (g : Frame) → slice_get (frames_from f points) i ≡ Some (Some g) → Said points i g
said f points i g e = elim (said_or_before points (replicate (length f.items) None) i g e) [ inl none ↦ absurd (not_none (length f.items) i g none) | inr s ↦ s ]

frame_with : Option ℕ → Option Tag → Frame
frame_with stack lowest = record { stack = stack; lowest = lowest }

module _ (ms : List Module) (f : Placed) (rule : Rule) (points : List FramePoint) (s : AreSearched ms f rule points) where
  frames : List (Option Frame)
  frames = frames_from f.function points

  -- a path that comes to the item of a point
  from_point : (q : FramePoint) → Contains points q → (m : ℕ) × (p : Point) × Free (graph ms f.function) m p × (frame_of p ≡ q)
  from_point q on = (let r = s.reach.sound q on in frames_are_free ms f rule s.frames r.0 q r.1)

  same_said : (n : ℕ) (p : Point) → Free (graph ms f.function) n p → (g : Frame) → Said points p.item g → table_frame p ≡ g
  same_said n p free g said =
      let from = from_point said.by said.among in
      let at : from.1.item ≡ p.item = ap (λ (q : FramePoint). q.item) from.3 ∙ said.at in
      let same = one_frame ms f s.stack s.tags from.0 n from.1 p from.2 free at in
      let stack : p.stack ≡ said.by.stack = sym same.0 ∙ ap (λ (q : FramePoint). q.stack) from.3 in
      let tags : p.tags ≡ said.by.tags = sym same.1 ∙ ap (λ (q : FramePoint). q.tags) from.3 in
      carried p said.by stack tags ∙ said.is
    where
      carried : (p : Point) (q : FramePoint) → p.stack ≡ q.stack → p.tags ≡ q.tags → table_frame p ≡ said_frame q
      carried p q stack tags = (let lowest : lowest_tag p.tags ≡ lowest_tag q.tags = ap lowest_tag tags in cc)

  pub are_frames : AreFrames ms f (frames_from f.function points)
  are_frames = record {
    long = filled_long points (replicate (length f.function.items) None) ∙ length-replicate (length f.function.items) None;
    known = λ n p free within.
        let on = s.reach.full n (frame_of p) (free_in_frames ms f s.stack s.tags rule s.frames s.holds n p free) in
        let g = there points (replicate (length f.function.items) None) (frame_of p) on (subst (λ k. p.item < k) (sym (length-replicate (length f.function.items) None)) within) in
        g.1 ∙ ap (λ h. Some (Some h)) (sym (same_said n p free g.0 (said f.function points p.item g.0 g.1)));
    reached = λ i g at.
        let from = said f.function points i g at in
        let p = from_point from.by from.among in
        (p.0, p.1, p.2, ap (λ (q : FramePoint). q.item) p.3 ∙ from.at);
  }

pub are_frames_at : (ms : List Module) (f : Placed) (rule : Rule) (function : Function) (points : List FramePoint) → f.function ≡ function → AreSearched ms f rule points → AreFrames ms f (frames_from function points)
are_frames_at ms f rule function points is s = subst (λ g. AreFrames ms f (frames_from g points)) is (are_frames ms f rule points s)
