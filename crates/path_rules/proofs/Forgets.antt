-- The rules but Undefined and HeapUncovered look at stack and tags alone.
use Rattle.std.proofs.Common.{◌≡◌, ℕ, ◌++◌, Bool, true, false, refl, ap, sym, ◌∙◌, List, [], ◌∷◌, map, Option, Some, None}
use Rattle.std.specs.Prelude.{slice_get, nat_lt, ◌+◌, ◌&&◌, length, if◌then◌else◌}
use Rattle.std.proofs.lemmas.List.{map-append}
use Rattle.paths.specs.Rules.{Forgets, Says}
use Rattle.paths.proofs.Forgetting.{says_up}
use Rattle.beam_code.specs.declared.module.Function.{Function}
use Rattle.beam_code.specs.Lined.{Lined}
use Rattle.beam_code.specs.declared.module.Module.{Module}
use Rattle.beam_code.specs.Function.{Placed, label_in}
use Rattle.beam_code.specs.Gates.{may_raise}
use Rattle.beam_code.specs.Shape.{Shape, shape_of}
use Rattle.beam_code.specs.Uses.{shape_goes_on}
use Rattle.path_rules.specs.declared.frame.FramePoint.{FramePoint}
use Rattle.path_rules.specs.declared.rule.Rule.{Rule}
use Rattle.path_rules.specs.declared.rule.Rule.TheVariants.{FallsOff, CallTarget, BadHandler, Loop, StackSize, TagState, TagOrder, Undefined, HeapUncovered}
use Rattle.path_rules.specs.declared.tag.Tag.{Tag}
use Rattle.path_rules.specs.declared.tag.TagKind.{TagKind}
use Rattle.path_rules.specs.Frames.{frame_item, frame_of, point_of, frame_ways}
use Rattle.path_rules.specs.Points.{Point, at_handler, at_item, at_labels, behind, handlers, item_of, labels_of, moves_at, moves_of, onward}
use Rattle.path_rules.specs.Rules.{breaks_at, looks_at_frames, splits, ways}
use Rattle.path_rules.specs.Tags.{lowest_tag}

-- a path without registers goes the same ways
abbrev back : Point → Point
back p = point_of (frame_of p)

-- the same where what it carries is forgotten before or behind
abbrev Same : List Point → List Point → Type 0
Same xs ys = map frame_of xs ≡ map frame_of ys

choice : (b : Bool) (x y : Point) → frame_of x ≡ frame_of y → map frame_of (if b then x ∷ [] else []) ≡ map frame_of (if b then y ∷ [] else [])
choice true x y e = ap (λ q. q ∷ []) e
choice false x y e = refl

onward_same : (f : Function) (shape : Shape) (p : Point) → Same (onward f shape (back p)) (onward f shape p)
onward_same f shape p = choice (shape_goes_on shape && nat_lt (p.item + 1) (length f.items)) (behind shape (back p)) (behind shape p) refl

at_item_same : (p : Point) (o : Option ℕ) → Same (at_item (back p) o) (at_item p o)
at_item_same p None = refl
at_item_same p (Some item) = refl

joined : (a b c d : List Point) → Same a b → Same c d → Same (a ++ c) (b ++ d)
joined a b c d e g = map-append frame_of a c ∙ (ap (λ (xs : List FramePoint). xs ++ map frame_of c) e ∙ (ap (λ (xs : List FramePoint). map frame_of b ++ xs) g ∙ sym (map-append frame_of b d)))

at_labels_same : (f : Function) (p : Point) (labels : List ℕ) → Same (at_labels f (back p) labels) (at_labels f p labels)
at_labels_same f p [] = refl
at_labels_same f p (label ∷ labels) =
    joined (at_item (back p) (label_in f label)) (at_item p (label_in f label)) (at_labels f (back p) labels) (at_labels f p labels) (at_item_same p (label_in f label)) (at_labels_same f p labels)

at_handler_same : (p : Point) (kind : TagKind) (o : Option ℕ) → Same (at_handler (back p) kind o) (at_handler p kind o)
at_handler_same p kind None = refl
at_handler_same p kind (Some item) = refl

handlers_same : (f : Function) (p : Point) (o : Option Tag) → Same (handlers f (back p) o) (handlers f p o)
handlers_same f p None = refl
handlers_same f p (Some t) = at_handler_same p t.kind (label_in f t.label)

raised_same : (f : Function) (p : Point) (b : Bool) →
    Same (if b then handlers f (back p) (lowest_tag p.tags) else []) (if b then handlers f p (lowest_tag p.tags) else [])
raised_same f p true = handlers_same f p (lowest_tag p.tags)
raised_same f p false = refl

moves_same : (ms : List Module) (f : Function) (p : Point) (shape : Shape) → Same (moves_of ms f (back p) shape) (moves_of ms f p shape)
moves_same ms f p shape =
    joined _ _ _ _ (onward_same f shape p)
    (joined _ _ _ _ (at_labels_same f p (labels_of shape)) (raised_same f p (may_raise ms shape)))

moves_at_same : (ms : List Module) (f : Function) (p : Point) (o : Option Lined) → Same (moves_at ms f (back p) o) (moves_at ms f p o)
moves_at_same ms f p None = refl
moves_at_same ms f p (Some i) = moves_same ms f p (shape_of i.instr)

breaks_same : (ms : List Module) (f : Placed) (rule : Rule) (p : Point) (o : Option Lined) → looks_at_frames rule ≡ true → breaks_at ms f rule (back p) o ≡ breaks_at ms f rule p o
breaks_same ms f rule p None frames = refl
breaks_same ms f FallsOff p (Some i) frames = refl
breaks_same ms f CallTarget p (Some i) frames = refl
breaks_same ms f BadHandler p (Some i) frames = refl
breaks_same ms f Loop p (Some i) frames = refl
breaks_same ms f StackSize p (Some i) frames = refl
breaks_same ms f TagState p (Some i) frames = refl
breaks_same ms f TagOrder p (Some i) frames = refl
breaks_same ms f Undefined p (Some i) frames = cc
breaks_same ms f HeapUncovered p (Some i) frames = cc

splits_same : (rule : Rule) (p q : Point) → splits rule (back p) (back q) ≡ splits rule p q
splits_same StackSize p q = refl
splits_same TagState p q = refl
splits_same FallsOff p q = refl
splits_same CallTarget p q = refl
splits_same BadHandler p q = refl
splits_same Loop p q = refl
splits_same TagOrder p q = refl
splits_same Undefined p q = refl
splits_same HeapUncovered p q = refl

-- so what is said of the paths by stack and tags is said of the paths
pub forgets : (ms : List Module) (f : Placed) (rule : Rule) → looks_at_frames rule ≡ true → Forgets (ways ms f rule) (frame_ways ms f rule) frame_of (λ p. Unit {0})
forgets ms f rule frames = record {
  on_start = tt;
  on_move = λ x y on move. tt;
  start = refl;
  moves = λ p on. moves_at_same ms f.function p (slice_get f.function.items p.item);
  breaks = λ p on. breaks_same ms f rule p (slice_get f.function.items p.item) frames;
  splits = λ p q on on2. splits_same rule p q;
  apart = λ p q on on2. refl;
}

pub says_of : (ms : List Module) (f : Placed) (rule : Rule) (said : Option ℕ) → looks_at_frames rule ≡ true → Says (frame_ways ms f rule) frame_item said → Says (ways ms f rule) item_of said
says_of ms f rule said frames says =
    says_up (ways ms f rule) (frame_ways ms f rule) frame_of (λ p. Unit {0}) (forgets ms f rule frames) item_of frame_item (λ p. refl) said says
