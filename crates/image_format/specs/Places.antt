-- An image as fields, one after the other (docs/FORMAT.md): how many bytes each has, what may stand there, and which is next.
use Rattle.std.specs.Prelude.{ℕ, zero, suc, ◌≡◌, ◌⊎◌, ◌+◌, ◌<◌, ◌≤◌, List, [], ◌∷◌, ◌++◌, length, take, drop, Option, Some, None, ◌==◌, if◌then◌else◌}
use Rattle.std.specs.List.{list_all, concat}
use Rattle.std.specs.Int.{w32, from_be_bytes}
use Rattle.beam_code.specs.declared.module.HandlerKind.{HandlerKind}
use Rattle.beam_code.specs.declared.module.TheConstants.{MOST_TEXT_BYTES}
use Rattle.image_format.specs.declared.limits.TheConstants.{MAGIC, VERSION, MOST_ATOMS, MOST_LITERALS, MOST_NATIVES, MOST_DESCRIPTORS, MOST_MODULES, MOST_FRAME}
use Rattle.image_format.specs.declared.refusal.Flaw.{Flaw}
use Rattle.image_format.specs.declared.refusal.Flaw.TheVariants.{Magic, Version, Short, Count, Value, Order, Long}
use Rattle.tagged_words.specs.Atoms.{and_atom}
use Rattle.tagged_words.specs.Follow.{Follow}
use Rattle.image_format.specs.Cursor.{FieldFault}
use Rattle.image_format.specs.Fitting.{Turn, turn, first_turn, after_text}
use Rattle.image_format.specs.Mask.{mask_words}
use Rattle.image_format.specs.Rules.{any, exactly, at_most, at_least, within, code_count, kind_numbered, handler_of, new_name, mask_word}
use Rattle.image_format.specs.Spelling.{padding}

-- which field comes next. Of a list, how many elements come after this one, and what the earlier ones leave: the bytes that texts
-- may still have; the earlier atoms; the turn of a native function; the least return address
pub data Place : Type 0 where
  AtMagic : Place
  AtVersion : Place
  AtModules : Place
  AtTextLength : ℕ → ℕ → Place
  AtText : ℕ → ℕ → ℕ → Place
  AtAtoms : Place
  AtAtomLength : ℕ → List (List ℕ) → Place
  AtAtom : ℕ → List (List ℕ) → ℕ → Place
  AtLiterals : Place
  AtLiteral : ℕ → Place
  AtRoots : Place
  AtRoot : ℕ → Place
  AtNatives : Place
  AtNative : ℕ → Turn → Place
  AtFirst : ℕ → ℕ → ℕ → Place
  AtWords : ℕ → ℕ → ℕ → Place
  AtCode : ℕ → Place
  AtCodeWord : ℕ → Place
  AtDescriptors : Place
  AtRet : ℕ → ℕ → Place
  AtFid : ℕ → ℕ → Place
  AtItem : ℕ → ℕ → Place
  AtFrame : ℕ → ℕ → Place
  AtKind : ℕ → ℕ → ℕ → Place
  AtHandler : ℕ → ℕ → ℕ → HandlerKind → Place
  AtMask : ℕ → ℕ → ℕ → ℕ → ℕ → Place
  AtEnd : Place

-- a field: how many bytes it has, the flaw of such bytes, and the place after them; or the end of the image
pub data Field : Type 0 where
  Bytes : ℕ → (List ℕ → Option Flaw) → (List ℕ → Place) → Field
  End : Field

abbrev pub number : List ℕ → ℕ
number bytes = from_be_bytes w32 bytes

-- a number of four bytes; a text of that many bytes, and the zeros after it
abbrev pub word : (ℕ → Option Flaw) → (ℕ → Place) → Field
word flaw next = Bytes 4 (λ bytes. flaw (number bytes)) (λ bytes. next (number bytes))

abbrev pub text : ℕ → (List ℕ → Option Flaw) → (List ℕ → Place) → Field
text len flaw next =
    Bytes (len + padding len) (λ bytes. if list_all (λ b. b == 0) (drop len bytes) then flaw (take len bytes) else Some Value) (λ bytes. next (take len bytes))

-- the places before so many elements
abbrev pub texts : ℕ → ℕ → Place
texts zero room = AtAtoms
texts (suc n) room = AtTextLength n room

abbrev pub atoms : ℕ → List (List ℕ) → Place
atoms zero earlier = AtLiterals
atoms (suc n) earlier = AtAtomLength n earlier

abbrev pub literals : ℕ → Place
literals zero = AtRoots
literals (suc n) = AtLiteral n

abbrev pub roots : ℕ → Place
roots zero = AtNatives
roots (suc n) = AtRoot n

abbrev pub natives : ℕ → Turn → Place
natives zero t = AtCode t.place
natives (suc n) t = AtNative n t

abbrev pub code : ℕ → Place
code zero = AtDescriptors
code (suc n) = AtCodeWord n

abbrev pub descriptors : ℕ → ℕ → Place
descriptors zero least = AtEnd
descriptors (suc n) least = AtRet n least

abbrev pub masks : ℕ → ℕ → ℕ → ℕ → ℕ → Place
masks zero n least frame k = descriptors n least
masks (suc words) n least frame k = AtMask words n least frame k

-- the fields, each with its rule and the place after it
abbrev pub row : Place → Field
row AtMagic = word (exactly Magic MAGIC) (λ x. AtVersion)
row AtVersion = word (exactly Version VERSION) (λ x. AtModules)
row AtModules = word (within Count 1 MOST_MODULES) (λ n. texts n MOST_TEXT_BYTES)
row (AtTextLength n room) = word (at_most Count room) (λ len. AtText n room len)
row (AtText n room len) = text len any (λ t. texts n (after_text room t))
row AtAtoms = word (at_most Count MOST_ATOMS) (λ n. atoms n [])
row (AtAtomLength n earlier) = word any (λ len. AtAtom n earlier len)
row (AtAtom n earlier len) = text len (new_name earlier) (λ a. atoms n (and_atom earlier a))
row AtLiterals = word (at_most Count MOST_LITERALS) literals
row (AtLiteral n) = word any (λ x. literals n)
row AtRoots = word any roots
row (AtRoot n) = word any (λ x. roots n)
row AtNatives = word (at_most Count MOST_NATIVES) (λ n. natives n first_turn)
row (AtNative n t) = word (at_least Order t.least) (λ fid. AtFirst n fid t.place)
row (AtFirst n fid place) = word (exactly Value place) (λ first. AtWords n fid first)
row (AtWords n fid first) = word (at_least Value 1) (λ count. natives n (turn (fid + 1) (first + count)))
row (AtCode total) = word (code_count total) code
row (AtCodeWord n) = word any (λ x. code n)
row AtDescriptors = word (at_most Count MOST_DESCRIPTORS) (λ n. descriptors n 0)
row (AtRet n least) = word (at_least Order least) (λ ret. AtFid n (ret + 1))
row (AtFid n least) = word any (λ fid. AtItem n least)
row (AtItem n least) = word any (λ item. AtFrame n least)
row (AtFrame n least) = word (within Value 1 MOST_FRAME) (λ frame. AtKind n least frame)
row (AtKind n least frame) = word (at_most Value 2) (λ kind. AtHandler n least frame (kind_numbered kind))
row (AtHandler n least frame kind) = word (handler_of kind) (λ handler. masks (mask_words frame) n least frame 0)
row (AtMask words n least frame k) = word (mask_word frame k) (λ w. masks words n least frame (k + 1))
row AtEnd = End

-- ---- whole fields, and one that breaks its rule

abbrev pub Keeps : Field → List ℕ → Type 0
Keeps (Bytes size flaw next) bytes = (length bytes ≡ size) × (flaw bytes ≡ None)
Keeps End bytes = ⊥

abbrev pub next_of : Field → List ℕ → Place
next_of (Bytes size flaw next) bytes = next bytes
next_of End bytes = AtEnd

abbrev pub after : Place → List ℕ → Place
after place bytes = next_of (row place) bytes

abbrev pub after_all : Place → List (List ℕ) → Place
after_all place [] = place
after_all place (f ∷ fs) = after_all (after place f) fs

-- whole fields from a place on, each of which keeps its rule
abbrev pub AreFields : Place → List (List ℕ) → Type 0
AreFields place fs = Follow (λ at bytes. Keeps (row at) bytes) after place fs

-- how the field at the front of the bytes breaks its rule: it is cut off, its bytes have a flaw, or there is none
abbrev pub Breaks : Field → Flaw → List ℕ → Type 0
Breaks (Bytes size flaw next) fault bytes =
    ((length bytes < size) × (fault ≡ Short)) ⊎ ((size ≤ length bytes) × (flaw (take size bytes) ≡ Some fault))
Breaks End fault bytes = (0 < length bytes) × (fault ≡ Long)

-- the bytes before the offset are whole fields that keep their rules, and the field there has the flaw
pub record IsRefused (bytes : List ℕ) (e : FieldFault) : Type 0 where
  pub fields : List (List ℕ)
  pub rest : List ℕ
  pub parts : bytes ≡ concat fields ++ rest
  pub keep : AreFields AtMagic fields
  pub before : e.offset ≡ length (concat fields)
  pub breaks : Breaks (row (after_all AtMagic fields)) e.flaw rest
