-- The rules that an image's parts meet (docs/FORMAT.md).
use Rattle.std.specs.Prelude.{ℕ, ◌≡◌, ◌+◌, ◌-◌, ◌^◌, ◌<◌, ◌≤◌, List, [], ◌∷◌, length, Bool, true, not, ◌==◌}
use Rattle.std.specs.List.{AllByRecursion}
use Rattle.beam_code.specs.declared.module.HandlerKind.{HandlerKind}
use Rattle.beam_code.specs.declared.module.HandlerKind.TheVariants as kinds
use Rattle.beam_code.specs.declared.module.TheConstants.{MOST_TEXT_BYTES}
use Rattle.image_format.specs.declared.limits.TheConstants.{MOST_MODULES, MOST_ATOMS, MOST_LITERALS, MOST_NATIVES, MOST_CODE, MOST_DESCRIPTORS, MOST_FRAME}
use Rattle.image_format.specs.declared.parts.Parts.{Parts}
use Rattle.image_format.specs.declared.parts.Native.{Native}
use Rattle.image_format.specs.declared.parts.Descriptor.{Descriptor}
use Rattle.tagged_words.specs.Follow.{Follow}
use Rattle.image_format.specs.Mask.{Ascends}
use Rattle.tagged_words.specs.Atoms.{IsNew, and_atom}
use Rattle.term_tree.specs.Name.{is_name}

-- how many bytes all texts have together
abbrev pub total_length : List (List ℕ) → ℕ
total_length [] = 0
total_length (t ∷ ts) = length t + total_length ts

-- how many bytes the texts after this one may have
abbrev pub after_text : ℕ → List ℕ → ℕ
after_text room text = room - length text

-- the least number that the next function may have, and the place of its first code word
pub record Turn : Type 0 where
  pub least : ℕ
  pub place : ℕ

abbrev pub turn : ℕ → ℕ → Turn
turn least place = record { least = least; place = place }

-- numbers ascend, and code words stand one after the other
pub record NativeFits (t : Turn) (n : Native) : Type 0 where
  pub ascends : t.least ≤ n.fid
  pub place : n.first ≡ t.place
  pub some : 1 ≤ n.count

abbrev pub after_native : Turn → Native → Turn
after_native t n = turn (n.fid + 1) (n.first + n.count)

abbrev pub first_turn : Turn
first_turn = turn 0 0

-- how many code words all native functions have together
abbrev pub total_count : List Native → ℕ
total_count [] = 0
total_count (n ∷ ns) = n.count + total_count ns

-- a handler is 0 exactly where there is none
abbrev pub is_handler : HandlerKind → ℕ → Bool
is_handler kinds.None handler = handler == 0
is_handler kinds.Try handler = not (handler == 0)
is_handler kinds.Catch handler = not (handler == 0)

-- return addresses ascend; a frame has a size, and its live slots are slots of it but slot 0
pub record DescriptorFits (least : ℕ) (d : Descriptor) : Type 0 where
  pub ascends : least ≤ d.ret
  pub some : 1 ≤ d.frame
  pub most : d.frame ≤ MOST_FRAME
  pub handler : is_handler d.kind d.handler ≡ true
  pub live : Ascends 1 d.frame d.live

abbrev pub after_descriptor : ℕ → Descriptor → ℕ
after_descriptor least d = d.ret + 1

pub record IsFitting (p : Parts) : Type 0 where
  pub some_module : 1 ≤ length p.texts
  pub modules : length p.texts ≤ MOST_MODULES
  pub text_bytes : total_length p.texts ≤ MOST_TEXT_BYTES
  pub atoms : length p.atoms ≤ MOST_ATOMS
  pub distinct : Follow IsNew and_atom [] p.atoms
  pub literals : length p.literals ≤ MOST_LITERALS
  pub roots : length p.roots < 2 ^ 32
  pub natives : length p.natives ≤ MOST_NATIVES
  pub native_places : Follow NativeFits after_native first_turn p.natives
  pub code : length p.code ≤ MOST_CODE
  pub code_of_natives : length p.code ≡ total_count p.natives
  pub descriptors : length p.descriptors ≤ MOST_DESCRIPTORS
  pub sites : Follow DescriptorFits after_descriptor 0 p.descriptors

-- ---- what the type of the parts says by itself: numbers are words, and atoms are texts of atoms

abbrev pub IsWord : ℕ → Type 0
IsWord n = n < 2 ^ 32

abbrev pub IsName : List ℕ → Type 0
IsName bytes = is_name bytes ≡ true

pub record IsSizedNative (n : Native) : Type 0 where
  pub fid : IsWord n.fid
  pub first : IsWord n.first
  pub count : IsWord n.count

pub record IsSizedDescriptor (d : Descriptor) : Type 0 where
  pub ret : IsWord d.ret
  pub fid : IsWord d.fid
  pub item : IsWord d.item
  pub handler : IsWord d.handler

pub record IsSized (p : Parts) : Type 0 where
  pub atoms : AllByRecursion IsName p.atoms
  pub literals : AllByRecursion IsWord p.literals
  pub roots : AllByRecursion IsWord p.roots
  pub natives : AllByRecursion IsSizedNative p.natives
  pub code : AllByRecursion IsWord p.code
  pub descriptors : AllByRecursion IsSizedDescriptor p.descriptors
