-- The stack and the handler of a state are those of every path to its item.
use Rattle.std.proofs.Common.{◌≡◌, ℕ, ◌+◌, Option, Some, None, List, [], ◌∷◌, refl, ap, subst, sym, ◌∙◌}
use Rattle.paths.specs.Paths.{Free}
use Rattle.beam_code.specs.declared.module.Module.{Module}
use Rattle.beam_code.specs.Function.{Placed, function_at}
use Rattle.beam_code.specs.Raise.{lowest, lowest_tag as lowest_mark}
use Rattle.beam_code.specs.State.{Frame, Slot, Undefined, Holds, Tag, TagKind, OfTry, OfCatch}
use Rattle.path_rules.specs.Points.{Point, graph}
use Rattle.path_rules.specs.Tags.{lowest_tag, mark_kind}
use Rattle.run_laws.proofs.Local.{keeps}
use Rattle.run_laws.proofs.Running.{states_are_shown}
use Rattle.run_laws.specs.Formed.{AreChecked}
use Rattle.run_laws.specs.Shown.{AllWait, ShowsStack, kind_of, slots_of, tags_from}
use Rattle.run_laws.specs.Static.{AllStatic, HandlersAreStatic, IsStatic, handler_of}

same_kind : (kind : TagKind) → mark_kind (kind_of kind) ≡ kind
same_kind OfTry = refl
same_kind OfCatch = refl

same_lowest : (ss : List Slot) (at : ℕ) → handler_of (lowest_tag (tags_from at ss)) ≡ lowest ss
same_lowest [] at = refl
same_lowest (Undefined ∷ ss) at = same_lowest ss (at + 1)
same_lowest (Holds v ∷ ss) at = same_lowest ss (at + 1)
same_lowest (Tag kind label ∷ ss) at = ap (λ k. Some (record { kind = k; label = label })) (same_kind kind)

same_handler : (o : Option (List Slot)) → handler_of (lowest_tag (tags_from 0 (slots_of o))) ≡ lowest_mark o
same_handler None = refl
same_handler (Some ss) = same_lowest ss 0

one_function : (f g : Placed) (o : Option Placed) → o ≡ Some f → o ≡ Some g → f ≡ g
one_function f g o a b = let same : Some f ≡ Some g = sym a ∙ b in cc

module _ (ms : List Module) (checked : AreChecked ms) where
  static : (function item m : ℕ) (g : Placed) (q : Point) (ys : Option (List Slot)) → function_at ms function ≡ Some g → Free (graph ms g.function) m q → q.item ≡ item
      → ShowsStack q.stack q.tags q.ys ys → IsStatic ms function item ys
  static function item m g q ys is free at shows =
      record {
        stack = λ f named n p other here.
            let same = one_function g f (function_at ms function) is named in
            (keeps ms 0 checked function f named).stack n m p q other (subst (λ (x : Placed). Free (graph ms x.function) m q) same free) (here ∙ sym at) ∙ shows.size;
        handler = λ f named n p other here.
            let same = one_function g f (function_at ms function) is named in
            ap (λ ts. handler_of (lowest_tag ts))
            ((keeps ms 0 checked function f named).tags n m p q other (subst (λ (x : Placed). Free (graph ms x.function) m q) same free) (here ∙ sym at) ∙ shows.tags_are)
            ∙ same_handler ys;
      }

  all_static : (frames : List Frame) → AllWait ms frames → AllStatic ms frames
  all_static [] w = tt
  all_static (frame ∷ frames) w =
      (static frame.function frame.item w.0.moves w.0.placed w.0.point frame.ys w.0.is w.0.free w.0.item w.0.stack, all_static frames w.1)

pub handlers_are_static : HandlersAreStatic
handlers_are_static ms limits function args checked call k s e =
    let shown = states_are_shown ms limits function args checked call k s e in
    let h = shown.here in
    (static ms checked s.function s.here.item h.moves h.placed h.point s.here.ys h.is h.free h.shows.item h.shows.stack, all_static ms checked s.frames shown.frames)
