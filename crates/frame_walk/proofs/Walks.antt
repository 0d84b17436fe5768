-- A walk has no more frames than words.
use Rattle.std.proofs.Common.{ℕ, zero, suc, ◌≡◌, ◌≤◌, ◌&&◌, Bool, true, false, Option, Some, None, Ok, List, [], ◌∷◌, length, take, nat_eq, nat_lt, nat_le, if◌then◌else◌, arith, refl, sym, ap, ◌∙◌}
use Rattle.std.proofs.lemmas.List.{length-drop}
use Rattle.image_format.specs.declared.parts.Descriptor.{Descriptor}
use Rattle.frame_walk.specs.Walk.{Shown, Found, frame_in, frame_of, from_frame, return_of, behind, others_up, walked, walked_up}
use Rattle.frame_walk.specs.declared.frame.TheConstants.{STOP_ADDRESS}
use Rattle.native_link.specs.Lookup.{descriptor_of}

-- without words there is no frame
pub no_frame : (at : ℕ) (o : Option Descriptor) → frame_in at [] o ≡ None
no_frame at None = refl
no_frame at (Some d) = grind arith

-- a frame has a word, no more than there are, and these in its slots
pub record IsAt (at : ℕ) (ws : List ℕ) (f : Shown) : Type 0 where
  pub some : 1 ≤ f.descriptor.frame
  pub most : f.descriptor.frame ≤ length ws
  pub place : f.at ≡ at
  pub slots : f.slots ≡ take f.descriptor.frame ws

-- the frame with a descriptor, where a test says that it lies there
abbrev frame_if : Bool → Descriptor → ℕ → List ℕ → Option Shown
frame_if b d at ws = if b then Some (record { descriptor = d; at = at; slots = take d.frame ws }) else None

is_at_if : (d : Descriptor) (at : ℕ) (ws : List ℕ) (b : Bool) (f : Shown) → nat_lt 0 d.frame && nat_le d.frame (length ws) ≡ b
    → frame_if b d at ws ≡ Some f → IsAt at ws f
is_at_if d at ws true f e is =
    let same : record { descriptor = d; at = at; slots = take d.frame ws } ≡ f = cc in
    rw (← same) (record { some = grind (arith, e); most = grind (arith, e); place = refl; slots = refl })
is_at_if d at ws false f e is = absurd cc

pub is_at : (at : ℕ) (ws : List ℕ) (o : Option Descriptor) (f : Shown) → frame_in at ws o ≡ Some f → IsAt at ws f
is_at at ws None f is = absurd cc
is_at at ws (Some d) f is = is_at_if d at ws (nat_lt 0 d.frame && nat_le d.frame (length ws)) f refl is

known_if : (d : Descriptor) (at : ℕ) (ws : List ℕ) (b : Bool) (f : Shown) → frame_if b d at ws ≡ Some f → d ≡ f.descriptor
known_if d at ws true f is =
    let same : record { descriptor = d; at = at; slots = take d.frame ws } ≡ f = cc in
    ap (λ (f : Shown). f.descriptor) same
known_if d at ws false f is = absurd cc

-- the frame is that of what is known
pub known_in : (at : ℕ) (ws : List ℕ) (o : Option Descriptor) (f : Shown) → frame_in at ws o ≡ Some f → o ≡ Some f.descriptor
known_in at ws None f is = absurd cc
known_in at ws (Some d) f is = ap Some (known_if d at ws (nat_lt 0 d.frame && nat_le d.frame (length ws)) f is)

-- the frames behind a frame, by two ways
same_frames : (some more : ℕ → ℕ → List ℕ → List Found) (ret : ℕ) (ws : List ℕ) (o : Option Shown)
    → ((f : Shown) → o ≡ Some f → some (return_of f.slots) (behind f) (others_up f ws) ≡ more (return_of f.slots) (behind f) (others_up f ws))
    → from_frame some ret ws o ≡ from_frame more ret ws o
same_frames some more ret ws None same = refl
same_frames some more ret ws (Some f) same = ap (λ rest. Ok f ∷ rest) (same f refl)

shorter : (ds : List Descriptor) (n ret at : ℕ) (ws : List ℕ) (f : Shown) → frame_of ds ret at ws ≡ Some f → length ws ≤ suc n → length (others_up f ws) ≤ n
shorter ds n ret at ws f is few = omega (arith, length-drop f.descriptor.frame ws, (is_at at ws (descriptor_of ds ret) f is).some, few)

-- a walk, unless it is at the stop
abbrev unless : ℕ → List Found → List Found
unless ret found = if nat_eq ret STOP_ADDRESS then [] else found

-- where there is room for as many frames as words, more room changes nothing
pub enough : (ds : List Descriptor) (n m ret at : ℕ) (ws : List ℕ) → length ws ≤ n → length ws ≤ m → walked ds n ret at ws ≡ walked ds m ret at ws
enough ds zero zero ret at ws p q = refl
enough ds zero (suc m) ret at [] p q = ap (λ f. unless ret (from_frame (walked ds m) ret [] f)) (sym (no_frame at (descriptor_of ds ret)))
enough ds zero (suc m) ret at (w ∷ ws) p q = absurd (omega (arith, p))
enough ds (suc n) zero ret at [] p q = ap (λ f. unless ret (from_frame (walked ds n) ret [] f)) (no_frame at (descriptor_of ds ret))
enough ds (suc n) zero ret at (w ∷ ws) p q = absurd (omega (arith, q))
enough ds (suc n) (suc m) ret at ws p q =
    ap (unless ret) (same_frames (walked ds n) (walked ds m) ret ws (frame_of ds ret at ws)
    (λ f is. enough ds n m (return_of f.slots) (behind f) (others_up f ws) (shorter ds n ret at ws f is p) (shorter ds m ret at ws f is q)))

-- the first frame, and the walk from there on
pub first_frame : (ds : List Descriptor) (ret at : ℕ) (ws : List ℕ) (f : Shown) → nat_eq ret STOP_ADDRESS ≡ false → frame_of ds ret at ws ≡ Some f
    → walked_up ds ret at ws ≡ Ok f ∷ walked_up ds (return_of f.slots) (behind f) (others_up f ws)
first_frame ds ret at [] f goes is = let none : None ≡ Some f = sym (no_frame at (descriptor_of ds ret)) ∙ is in absurd cc
first_frame ds ret at (w ∷ ws) f goes is =
    let others : List ℕ = others_up f (w ∷ ws) in
    let fewer : length others ≤ length ws = shorter ds (length ws) ret at (w ∷ ws) f is (omega arith) in
    rw (goes, is) (ap (λ rest. Ok f ∷ rest) (enough ds (length ws) (length others) (return_of f.slots) (behind f) others fewer (omega arith)))
