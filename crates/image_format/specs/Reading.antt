-- The fields of an image in their order, read from left to right (docs/FORMAT.md).
use Rattle.std.specs.Prelude.{ℕ, ◌+◌, List, [], length, take, drop, Result, Ok, Err, Option, nat_lt, ◌==◌, if◌then◌else◌}
use Rattle.std.specs.List.{list_all}
use Rattle.std.specs.Int.{w32, from_be_bytes}
use Rattle.beam_code.specs.declared.module.HandlerKind.{HandlerKind}
use Rattle.beam_code.specs.declared.module.TheConstants.{MOST_TEXT_BYTES}
use Rattle.image_format.specs.declared.limits.TheConstants.{MAGIC, VERSION, MOST_ATOMS, MOST_LITERALS, MOST_NATIVES, MOST_DESCRIPTORS, MOST_MODULES, MOST_FRAME}
use Rattle.image_format.specs.declared.parts.Parts.{Parts}
use Rattle.image_format.specs.declared.parts.Native.{Native}
use Rattle.image_format.specs.declared.parts.Descriptor.{Descriptor}
use Rattle.image_format.specs.declared.refusal.Flaw.{Flaw}
use Rattle.image_format.specs.declared.refusal.Flaw.TheVariants.{Magic, Version, Short, Count, Value, Order, Long}
use Rattle.tagged_words.specs.Atoms.{and_atom}
use Rattle.image_format.specs.Fitting.{Turn, after_native, first_turn, total_count, after_text, after_descriptor}
use Rattle.image_format.specs.Mask.{mask_words, live_slots}
use Rattle.image_format.specs.Rules.{any, exactly, at_most, at_least, within, code_count, kind_numbered, handler_of, new_name, mask_word}
use Rattle.image_format.specs.Cursor.{Cursor, FieldFault, fault, Read, ◌>>=◌, kept, start, many_at}
use Rattle.image_format.specs.Spelling.{padding}

unfoldable pub word_at : Cursor → Read ℕ
word_at p = if nat_lt (length p.rest) 4 then Err (fault Short p) else Ok (from_be_bytes w32 (take 4 p.rest), record { rest = drop 4 p.rest; at = p.at + 4 })

-- a number that keeps a rule
unfoldable pub number_at : (ℕ → Option Flaw) → Cursor → Read ℕ
number_at flaw p = do
  n ← word_at p
  kept (flaw n.0) p n

-- that many bytes, and zeros up to a multiple of four
unfoldable pub bytes_at : ℕ → Cursor → Read (List ℕ)
bytes_at len p =
    let padded = len + padding len in
    if nat_lt (length p.rest) padded then Err (fault Short p)
    else if list_all (λ b. b == 0) (drop len (take padded p.rest)) then Ok (take len (take padded p.rest), record { rest = drop padded p.rest; at = p.at + padded })
    else Err (fault Value p)

-- a text, with how many bytes the texts may still have
unfoldable pub text_at : ℕ → Cursor → Read (List ℕ)
text_at room p = do
  n ← number_at (at_most Count room) p
  bytes_at n.0 n.1

-- the text of an atom that is none of the earlier ones
unfoldable pub atom_at : List (List ℕ) → Cursor → Read (List ℕ)
atom_at earlier p = do
  n ← word_at p
  text ← bytes_at n.0 n.1
  kept (new_name earlier text.0) n.1 text

-- words that are read one after the other
abbrev pub each_word : Unit {0} → Cursor → Read ℕ
each_word s p = word_at p

abbrev pub no_more : Unit {0} → ℕ → Unit {0}
no_more s w = s

-- the place of the first code word is where the words of the earlier functions end
unfoldable pub native_at : Turn → Cursor → Read Native
native_at t p = do
  fid ← number_at (at_least Order t.least) p
  first ← number_at (exactly Value t.place) fid.1
  count ← number_at (at_least Value 1) first.1
  Ok (record { fid = fid.0; first = first.0; count = count.0 }, count.1)

unfoldable pub kind_at : Cursor → Read HandlerKind
kind_at p = do
  n ← number_at (at_most Value 2) p
  Ok (kind_numbered n.0, n.1)

-- the k-th word of a mask
abbrev pub mask_at : ℕ → ℕ → Cursor → Read ℕ
mask_at frame k p = number_at (mask_word frame k) p

abbrev pub after_mask : ℕ → ℕ → ℕ
after_mask k w = k + 1

abbrev pub masks_at : ℕ → Cursor → Read (List ℕ)
masks_at frame p = many_at (mask_at frame) after_mask (mask_words frame) 0 p

-- the live slots of a frame
unfoldable pub live_at : ℕ → Cursor → Read (List ℕ)
live_at frame p = do
  words ← masks_at frame p
  Ok (live_slots words.0, words.1)

unfoldable pub descriptor_at : ℕ → Cursor → Read Descriptor
descriptor_at least p = do
  ret ← number_at (at_least Order least) p
  fid ← word_at ret.1
  item ← word_at fid.1
  frame ← number_at (within Value 1 MOST_FRAME) item.1
  kind ← kind_at frame.1
  handler ← number_at (handler_of kind.0) kind.1
  live ← live_at frame.0 handler.1
  Ok (record { ret = ret.0; fid = fid.0; item = item.0; frame = frame.0; kind = kind.0; handler = handler.0; live = live.0 }, live.1)

-- a list behind its length
unfoldable pub list_at : {S A : Type 0} → (ℕ → Option Flaw) → (S → Cursor → Read A) → (S → A → S) → S → Cursor → Read (List A)
list_at flaw item next s p = do
  n ← number_at flaw p
  many_at item next n.0 s n.1

abbrev pub texts_at : Cursor → Read (List (List ℕ))
texts_at p = list_at (within Count 1 MOST_MODULES) text_at after_text MOST_TEXT_BYTES p

abbrev pub atoms_at : Cursor → Read (List (List ℕ))
atoms_at p = list_at (at_most Count MOST_ATOMS) atom_at and_atom [] p

abbrev pub word_list_at : (ℕ → Option Flaw) → Cursor → Read (List ℕ)
word_list_at flaw p = list_at flaw each_word no_more tt p

abbrev pub natives_at : Cursor → Read (List Native)
natives_at p = list_at (at_most Count MOST_NATIVES) native_at after_native first_turn p

abbrev pub descriptors_at : Cursor → Read (List Descriptor)
descriptors_at p = list_at (at_most Count MOST_DESCRIPTORS) descriptor_at after_descriptor 0 p

-- all fields of an image
unfoldable pub parts_at : Cursor → Read Parts
parts_at p = do
  magic ← number_at (exactly Magic MAGIC) p
  version ← number_at (exactly Version VERSION) magic.1
  texts ← texts_at version.1
  atoms ← atoms_at texts.1
  literals ← word_list_at (at_most Count MOST_LITERALS) atoms.1
  roots ← word_list_at any literals.1
  natives ← natives_at roots.1
  code ← word_list_at (code_count (total_count natives.0)) natives.1
  descriptors ← descriptors_at code.1
  Ok (record { texts = texts.0; atoms = atoms.0; literals = literals.0; roots = roots.0; natives = natives.0; code = code.0; descriptors = descriptors.0 }, descriptors.1)

-- no bytes are left
unfoldable pub end_at : Cursor → Result (Unit {0}) FieldFault
end_at p = if length p.rest == 0 then Ok tt else Err (fault Long p)

-- the parts of an image, which are all of its bytes, or why the bytes are none
unfoldable pub reading : List ℕ → Result Parts FieldFault
reading bytes = do
  p ← parts_at (start bytes)
  end ← end_at p.1
  Ok p.0
