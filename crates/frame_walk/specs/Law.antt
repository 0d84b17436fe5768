-- What a walk over frames is, frame by frame (docs/MACHINE.md, Walks over frames).
use Rattle.std.specs.Prelude.{ℕ, ◌≡◌, ◌≢◌, ◌+◌, ◌*◌, ◌^◌, ◌≤◌, Some, None, Ok, Err, List, [], ◌∷◌, length}
use Rattle.frame_walk.specs.Walk.{Shown, Found, return_of, behind, walk}
use Rattle.frame_walk.specs.declared.frame.TheConstants.{STOP_ADDRESS}
use Rattle.image_format.specs.declared.parts.Descriptor.{Descriptor}
use Rattle.image_format.specs.Fitting.{DescriptorFits, after_descriptor}
use Rattle.native_link.specs.Lookup.{descriptor_of}
use Rattle.tagged_words.specs.Follow.{Follow}
use Rattle.tagged_words.specs.Region.{Region, words_at}

-- the frame at an address whose call returns to another one: its slots are the words of the stack
pub record IsFrame (ds : List Descriptor) (stack : Region) (ret sp : ℕ) (f : Shown) : Type 0 where
  pub known : descriptor_of ds ret ≡ Some f.descriptor
  pub place : f.at ≡ sp
  pub slots : words_at stack sp f.descriptor.frame ≡ Some f.slots

-- nothing is known of the return address, or what is known has a frame that does not lie in the stack
abbrev pub IsNoFrame : List Descriptor → Region → ℕ → ℕ → Type 0
IsNoFrame ds stack ret sp = (d : Descriptor) → descriptor_of ds ret ≡ Some d → words_at stack sp d.frame ≡ None

-- a walk ends at the stop address; before that it gives the frame of the return address, and goes on behind it at the
-- address to which that frame returns, or it breaks, once, and ends
abbrev pub IsWalk : List Descriptor → Region → ℕ → ℕ → List Found → Type 0
IsWalk ds stack ret sp [] = ret ≡ STOP_ADDRESS
IsWalk ds stack ret sp (Ok f ∷ rest) = (ret ≢ STOP_ADDRESS) × IsFrame ds stack ret sp f × IsWalk ds stack (return_of f.slots) (behind f) rest
IsWalk ds stack ret sp (Err b ∷ rest) = (ret ≢ STOP_ADDRESS) × (b.ret ≡ ret) × IsNoFrame ds stack ret sp × (rest ≡ [])

-- with the descriptors of an image, on every stack and from every place
abbrev pub WalksGoByFrames : Type 0
WalksGoByFrames =
    (ds : List Descriptor) (stack : Region) (ret sp : ℕ) → Follow DescriptorFits after_descriptor 0 ds → stack.start + 4 * length stack.words ≤ 2 ^ 31
    → IsWalk ds stack ret sp (walk ds stack ret sp)

-- and it gives at most as many frames as the stack has words, and a break
abbrev pub WalksEnd : Type 0
WalksEnd = (ds : List Descriptor) (stack : Region) (ret sp : ℕ) → length (walk ds stack ret sp) ≤ length stack.words + 1
