-- The one spelling of an image's parts (docs/FORMAT.md).
use Rattle.std.specs.Prelude.{ℕ, ◌≡◌, All, ◌-◌, ◌%◌, List, ◌++◌, length, replicate}
use Rattle.std.specs.List.{flat_map}
use Rattle.std.specs.Int.{w32, to_be_bytes}
use Rattle.beam_code.specs.declared.module.HandlerKind.{HandlerKind}
use Rattle.beam_code.specs.declared.module.HandlerKind.TheVariants as kinds
use Rattle.image_format.specs.declared.limits.TheConstants.{MAGIC, VERSION}
use Rattle.image_format.specs.declared.parts.Parts.{Parts}
use Rattle.image_format.specs.declared.parts.Native.{Native}
use Rattle.image_format.specs.declared.parts.Descriptor.{Descriptor}
use Rattle.image_format.specs.Mask.{mask}

-- a number is a word of four bytes, the most significant byte first
unfoldable pub word : ℕ → List ℕ
word n = to_be_bytes w32 n

-- how many zeros follow a text of this many bytes: up to a multiple of four
abbrev pub padding : ℕ → ℕ
padding n = (4 - n % 4) % 4

-- a text is its length, its bytes, and zeros
abbrev pub text : List ℕ → List ℕ
text bytes = word (length bytes) ++ bytes ++ replicate (padding (length bytes)) 0

-- a list is its length and its elements
abbrev pub counted : {A : Type 0} → (A → List ℕ) → List A → List ℕ
counted spell xs = word (length xs) ++ flat_map spell xs

abbrev pub native : Native → List ℕ
native n = word n.fid ++ word n.first ++ word n.count

abbrev pub kind_number : HandlerKind → ℕ
kind_number kinds.None = 0
kind_number kinds.Try = 1
kind_number kinds.Catch = 2

abbrev pub descriptor : Descriptor → List ℕ
descriptor d =
    word d.ret ++ word d.fid ++ word d.item ++ word d.frame ++ word (kind_number d.kind) ++ word d.handler ++ flat_map word (mask d.frame d.live)

-- the bytes of an image
abbrev pub spelling : Parts → List ℕ
spelling p =
    word MAGIC ++ word VERSION ++ counted text p.texts ++ counted text p.atoms ++ counted word p.literals ++ counted word p.roots ++ counted native p.natives ++ counted word p.code ++ counted descriptor p.descriptors

-- ---- writing

-- behind the bytes before stands the spelling of a value, which is as its type says
abbrev pub Puts : {A : Type 0} → (A → List ℕ) → (A → Type 0) → A → List ℕ → List ℕ → Type 0
Puts spell Sized x before after = (after ≡ before ++ spell x) × Sized x

-- the same of values one after the other
abbrev pub PutsAll : {A : Type 0} → (A → List ℕ) → (A → Type 0) → List A → List ℕ → List ℕ → Type 0
PutsAll spell Sized xs before after = (after ≡ before ++ flat_map spell xs) × All Sized xs
