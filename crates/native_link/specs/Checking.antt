-- What the modules of an image ask of its other parts, in the order of the fields (docs/FORMAT.md).
use Rattle.std.specs.Prelude.{ℕ, ◌+◌, ◌*◌, Bool, not, Option, Some, None, List, [], ◌∷◌, ◌++◌, length, Result, Ok, Err, nat_eq, nat_lt, position, if◌then◌else◌}
use Rattle.beam_code.specs.declared.module.Module.{Module}
use Rattle.beam_code.specs.Function.{all_functions}
use Rattle.image_format.specs.declared.limits.TheConstants.{MAGIC, VERSION}
use Rattle.image_format.specs.declared.parts.Descriptor.{Descriptor}
use Rattle.image_format.specs.declared.parts.Native.{Native}
use Rattle.image_format.specs.declared.parts.Parts.{Parts}
use Rattle.image_format.specs.declared.refusal.Flaw.TheVariants.{Value}
use Rattle.image_format.specs.Cursor.{FieldFault, ◌>>=◌}
use Rattle.image_format.specs.Spelling.{word, text, counted, descriptor, native}
use Rattle.ir_code.specs.Constants.{Constants}
use Rattle.ir_code.specs.Known.{knows_all}
use Rattle.ir_code.specs.Mentions.{Mention, literals_of, mentions_of}
use Rattle.tagged_words.specs.Atoms.{begins, first_atoms}
use Rattle.tagged_words.specs.Look.{address_end}
use Rattle.tagged_words.specs.Store.{Store}
use Rattle.term_tree.specs.Tree.{Tree}
use Rattle.word_terms.specs.Literals.{literal_store}
use Rattle.word_terms.specs.Standing.{stands}
use Rattle.native_link.specs.Places.{wrong_field}

-- ---- where fields stand: behind the bytes of the fields before them

abbrev pub before_atoms : Parts → List ℕ
before_atoms p = word MAGIC ++ word VERSION ++ counted text p.texts

abbrev pub before_roots : Parts → List ℕ
before_roots p = before_atoms p ++ counted text p.atoms ++ counted word p.literals

abbrev pub before_natives : Parts → List ℕ
before_natives p = before_roots p ++ counted word p.roots

abbrev pub before_descriptors : Parts → List ℕ
before_descriptors p = before_natives p ++ counted native p.natives ++ counted word p.code

abbrev pub atom_count_offset : Parts → ℕ
atom_count_offset p = length (before_atoms p)

abbrev pub root_count_offset : Parts → ℕ
root_count_offset p = length (before_roots p)

-- behind the count, a word for each root before it, and three for each native function
abbrev pub root_offset : Parts → ℕ → ℕ
root_offset p i = length (before_roots p) + 4 + 4 * i

abbrev pub native_offset : Parts → ℕ → ℕ
native_offset p i = length (before_natives p) + 4 + 12 * i

abbrev pub first_descriptor_offset : Parts → ℕ
first_descriptor_offset p = length (before_descriptors p) + 4

-- ---- what is asked

-- the first root, counted from a number on, that does not stand for its literal
abbrev pub wrong_root : Store → List (List ℕ) → ℕ → List ℕ → List Tree → Option ℕ
wrong_root s names i [] vs = None
wrong_root s names i (w ∷ ws) [] = None
wrong_root s names i (w ∷ ws) (v ∷ vs) = if stands s names address_end w v then wrong_root s names (i + 1) ws vs else Some i

-- a native function of no module
abbrev pub is_foreign : ℕ → Native → Bool
is_foreign functions n = not (nat_lt n.fid functions)

-- the place of the first field of descriptors that breaks its rule, where the first of them stands at an offset
abbrev pub wrong_descriptor : List Native → List Module → ℕ → List Descriptor → Option ℕ
wrong_descriptor natives ms at [] = None
wrong_descriptor natives ms at (d ∷ ds) =
    elim (wrong_field natives ms d) [ None ↦ wrong_descriptor natives ms (at + length (descriptor d)) ds | Some field ↦ Some (at + field) ]

-- the field at an offset has a value that it may not have
abbrev pub wrong : ℕ → FieldFault
wrong offset = record { flaw = Value; offset = offset }

abbrev pub asked : Bool → ℕ → Result (Unit {0}) FieldFault
asked holds offset = if holds then Ok tt else Err (wrong offset)

abbrev pub none_wrong : (ℕ → ℕ) → Option ℕ → Result (Unit {0}) FieldFault
none_wrong offset None = Ok tt
none_wrong offset (Some i) = Err (wrong (offset i))

-- the atoms that are mentioned and the roots, with a table
abbrev pub constants_checked : Parts → List (List ℕ) → List Mention → Result (Unit {0}) FieldFault
constants_checked p table all = do
  atoms ← asked (knows_all table all) (atom_count_offset p)
  count ← asked (nat_eq (length p.roots) (length (literals_of all))) (root_count_offset p)
  none_wrong (root_offset p) (wrong_root (literal_store p.literals) table 0 p.roots (literals_of all))

-- the table begins as each image's does, and then the rest
abbrev pub all_constants_checked : Parts → List Module → Result (Unit {0}) FieldFault
all_constants_checked p ms = do
  begun ← asked (begins first_atoms p.atoms) (atom_count_offset p)
  constants_checked p p.atoms (mentions_of ms)

abbrev pub checking : Parts → List Module → Result (Unit {0}) FieldFault
checking p ms = do
  constants ← all_constants_checked p ms
  natives ← none_wrong (native_offset p) (position (is_foreign (length (all_functions ms))) p.natives)
  none_wrong (λ offset. offset) (wrong_descriptor p.natives ms (first_descriptor_offset p) p.descriptors)

-- ---- an image

-- the parts of an image, and the modules of its texts
pub record Linked : Type 0 where
  pub parts : Parts
  pub modules : List Module

abbrev pub linked : Parts → List Module → Linked
linked p ms = record { parts = p; modules = ms }

-- the image of these, or what the modules ask for in vain
abbrev pub checked_image : Parts → List Module → Result Linked FieldFault
checked_image p ms = do
  done ← checking p ms
  Ok (linked p ms)

-- the constants that an image carries
abbrev pub constants_in : Parts → Constants
constants_in p = record { atoms = p.atoms; literals = p.literals; roots = p.roots }
