-- An image that was read (docs/FORMAT.md): its parts meet the rules, its texts are those of modules in the profile, and
-- these ask nothing of the parts in vain.
use Rattle.std.specs.Prelude.{ℕ, ◌≡◌, ◌⊎◌, List, Result, Ok, Err}
use Rattle.beam_code.specs.declared.module.Module.{Module}
use Rattle.image_format.specs.declared.parts.Parts.{Parts}
use Rattle.image_format.specs.declared.refusal.Flaw.{Flaw}
use Rattle.image_format.specs.declared.refusal.FormatRefusal.{FormatRefusal}
use Rattle.image_format.specs.declared.refusal.FormatRefusal.TheVariants as format
use Rattle.image_format.specs.Cursor.{FieldFault}
use Rattle.image_format.specs.Fitting.{IsFitting, IsSized}
use Rattle.image_format.specs.Reading.{reading}
use Rattle.module_texts.specs.Texts.{AreOut, AreProfiled, IsUnread}
use Rattle.native_link.specs.Checking.{Linked, checking}
use Rattle.native_link.specs.declared.refusal.ImageRefusal.{ImageRefusal}
use Rattle.native_link.specs.declared.refusal.ImageRefusal.TheVariants as image

-- what an image keeps true
pub record IsLinked (l : Linked) : Type 0 where
  pub fitting : IsFitting l.parts
  pub sized : IsSized l.parts
  pub profiled : AreProfiled l.parts.texts l.modules
  pub checked : checking l.parts l.modules ≡ Ok tt

-- the bytes have these parts, whose texts are those of these modules in the profile
pub record Readable (bytes : List ℕ) (p : Parts) (ms : List Module) : Type 0 where
  pub parts : reading bytes ≡ Ok p
  pub profiled : AreProfiled p.texts ms

-- a field of the parts is refused by what the modules ask of it
pub record IsAskedInVain (bytes : List ℕ) (fault : FieldFault) : Type 0 where
  pub parts : Parts
  pub modules : List Module
  pub read : Readable bytes parts modules
  pub is : checking parts modules ≡ Err fault

abbrev pub at_field : Flaw → ℕ → FieldFault
at_field flaw offset = record { flaw = flaw; offset = offset }

-- what reading an image answers: the image; or the first field that breaks its rule; or the first text that is none of a
-- module; or why the modules are out of the profile; or the first field that they refuse
abbrev pub Answers : List ℕ → Result Linked ImageRefusal → Type 0
Answers bytes (Ok l) = Readable bytes l.parts l.modules × (checking l.parts l.modules ≡ Ok tt)
Answers bytes (Err (image.Field flaw offset)) = (reading bytes ≡ Err (at_field flaw offset)) ⊎ IsAskedInVain bytes (at_field flaw offset)
Answers bytes (Err (image.Module index e)) = (p : Parts) × (reading bytes ≡ Ok p) × IsUnread p.texts index e
Answers bytes (Err (image.Check r)) = (p : Parts) × (reading bytes ≡ Ok p) × AreOut p.texts r
Answers bytes (Err (image.Memory e)) = Unit {0}

-- the modules of an image's texts, or why there are none
abbrev pub Built : Result (List Module) ImageRefusal → Parts → Type 0
Built (Ok ms) p = AreProfiled p.texts ms
Built (Err (image.Field flaw offset)) p = ⊥
Built (Err (image.Module index e)) p = IsUnread p.texts index e
Built (Err (image.Check r)) p = AreOut p.texts r
Built (Err (image.Memory e)) p = Unit {0}

-- the refusal of a field, as one of an image
abbrev pub of_format : FormatRefusal → ImageRefusal
of_format (format.Field flaw offset) = image.Field flaw offset
of_format (format.Memory e) = image.Memory e

-- the image with these bytes, or want of memory
abbrev pub IsReadAs : Linked → Result Linked ImageRefusal → Type 0
IsReadAs l (Ok read) = read ≡ l
IsReadAs l (Err (image.Memory e)) = Unit {0}
IsReadAs l (Err e) = ⊥
