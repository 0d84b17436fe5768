use Rattle.std.proofs.Common.{◌≡◌, ◌+◌, ◌*◌, ◌%◌, ◌^◌, Some, Ok, ◌∷◌, length, nat_eq, false, arith, sym, ap, ◌∙◌}
use Rattle.std.proofs.lemmas.Bool.{ne_eqb}
use Rattle.std.specs.Option.{option_map}
use Rattle.frame_walk.proofs.Walks.{first_frame, is_at}
use Rattle.frame_walk.specs.Walk.{Shown, behind, frame_of, others_up, return_of, shown_frame, walked_up}
use Rattle.frame_walk.specs.declared.frame.TheConstants.{STOP_ADDRESS}
use Rattle.native_link.specs.Lookup.{descriptor_of}
use Rattle.frame_walk.proofs.walking.FrameWalkIterator.next.Goals as goal

pub returns-in-Some-clause-steps : goal.returns-in-Some-clause-steps
returns-in-Some-clause-steps c =
    let ds = c.self.inside.image.now.parts.descriptors in
    let ret = c.self.inside.ret in
    let at = c.self.inside.at in
    let ws = c.self.inside.words.now in
    let f : Shown = shown_frame c.in-Some.frame in
    let is : frame_of ds ret at ws ≡ Some f = sym c.frame_of-frame.ensures ∙ ap (option_map shown_frame) c.in-Some.is in
    let goes : nat_eq ret STOP_ADDRESS ≡ false = ne_eqb ret STOP_ADDRESS c.if-ret-eq-STOP_ADDRESS.false in
    let place : behind f ≡ (at + f.descriptor.frame * 4 % 2 ^ 32) % 2 ^ 32 = omega (arith, (is_at at ws (descriptor_of ds ret) f is).place) in
    sym c.self.view_is ∙ first_frame ds ret at ws f goes is ∙ ap (λ later. Ok f ∷ walked_up ds (return_of f.slots) later (others_up f ws)) place
    ∙ ap (λ others. Ok f ∷ walked_up ds (return_of f.slots) ((at + f.descriptor.frame * 4 % 2 ^ 32) % 2 ^ 32) others) (sym c.behind-self-inside.ensures)

pub returns-in-Some-clause-goes : goal.returns-in-Some-clause-goes
returns-in-Some-clause-goes c = record { on = λ _. (tt, tt, omega (arith, ap length (returns-in-Some-clause-steps c))); keeps = tt; rests = λ _. tt }
