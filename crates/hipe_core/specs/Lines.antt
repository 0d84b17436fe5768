-- The status of each ending, and its line on standard error (docs/COMMANDS.md, Messages).
use Rattle.std.specs.Prelude.{ℕ, ◌≡◌, Bool, Option, Some, None, List, [], ◌++◌, codes, decimal}
use Rattle.asm_text.specs.Entry.{entry_of}
use Rattle.text_tokens.specs.declared.token.Kind.{Kind}
use Rattle.text_tokens.specs.declared.token.Kind.TheVariants as kind
use Rattle.text_forms.specs.declared.refusal.TextRefusal.{TextRefusal}
use Rattle.text_forms.specs.declared.refusal.TextRefusal.TheVariants as text
use Rattle.beam_profile.specs.declared.refusal.ModuleRefusal.{ModuleRefusal}
use Rattle.beam_profile.specs.declared.refusal.ModuleRefusal.TheVariants as unread
use Rattle.module_check.specs.declared.refusal.CheckRefusal.{CheckRefusal}
use Rattle.module_check.specs.declared.refusal.CheckRefusal.TheVariants as check
use Rattle.path_rules.specs.declared.rule.Rule.{Rule}
use Rattle.path_rules.specs.declared.rule.Rule.TheVariants as rule
use Rattle.image_format.specs.declared.refusal.Flaw.{Flaw}
use Rattle.image_format.specs.declared.refusal.Flaw.TheVariants as flaw
use Rattle.native_link.specs.declared.refusal.ImageRefusal.{ImageRefusal}
use Rattle.native_link.specs.declared.refusal.ImageRefusal.TheVariants as image
use Rattle.hipe_base.specs.Sink.{Seen}
use Rattle.hipe_core.specs.declared.ending.Ending.{Ending}
use Rattle.hipe_core.specs.declared.ending.Ending.TheVariants.{Said, Usage, ArgsRefused, ModuleRefused, CheckRefused, ImageRefused, NotExported, ArgsDoNotFit, CannotRead, CannotWrite, NoMemory, TooLong, NotBuilt}
use Rattle.hipe_core.specs.Saying.{Says}
use Rattle.term_tree.specs.Text.{atom_text}

-- a text that has no forms is refused as a text, one whose forms are those of no module as a module
abbrev pub module_status : ModuleRefusal → ℕ
module_status (unread.Text e) = 3
module_status e = 4

abbrev pub status_of : Ending → ℕ
status_of (Said status) = status
status_of (ArgsRefused e) = 3
status_of (ModuleRefused file e) = module_status e
status_of (CheckRefused r) = 4
status_of (ImageRefused file e) = 5
status_of Usage = 6
status_of (NotExported entry count) = 6
status_of ArgsDoNotFit = 6
status_of (CannotRead file) = 7
status_of CannotWrite = 8
status_of NoMemory = 9
status_of (TooLong file) = 10
status_of (NotBuilt file) = 11

-- ---- what is wrong, in words

abbrev pub kind_name : Kind → List ℕ
kind_name kind.Float = codes "kind float"
kind_name kind.Based = codes "kind based"
kind_name kind.Character = codes "kind character"
kind_name kind.Binary = codes "kind binary"
kind_name kind.Map = codes "kind map"

abbrev pub rule_name : Rule → List ℕ
rule_name rule.FallsOff = codes "falls_off"
rule_name rule.CallTarget = codes "call_target"
rule_name rule.BadHandler = codes "bad_handler"
rule_name rule.Loop = codes "loop"
rule_name rule.StackSize = codes "stack_size"
rule_name rule.TagState = codes "tag_state"
rule_name rule.TagOrder = codes "tag_order"
rule_name rule.Undefined = codes "undefined"
rule_name rule.HeapUncovered = codes "heap_uncovered"

abbrev pub flaw_name : Flaw → List ℕ
flaw_name flaw.Magic = codes "magic"
flaw_name flaw.Version = codes "version"
flaw_name flaw.Short = codes "short"
flaw_name flaw.Count = codes "count"
flaw_name flaw.Value = codes "value"
flaw_name flaw.Order = codes "order"
flaw_name flaw.Long = codes "long"

-- ---- lines

abbrev pub memory_line : List ℕ
memory_line = codes "hipe: want of memory\n"

-- about a line of a text
abbrev pub at_line : List ℕ → ℕ → List ℕ → List ℕ
at_line file line why = codes "hipe: " ++ file ++ codes ":" ++ decimal line ++ codes ": " ++ why ++ codes "\n"

abbrev pub text_line : List ℕ → TextRefusal → List ℕ
text_line file (text.Syntax line) = at_line file line (codes "syntax")
text_line file (text.Wide line) = at_line file line (codes "wide")
text_line file (text.Deep line) = at_line file line (codes "deep")
text_line file (text.Kind line k) = at_line file line (kind_name k)
text_line file (text.Memory e) = memory_line

abbrev pub module_line : List ℕ → ModuleRefusal → List ℕ
module_line file (unread.Text e) = text_line file e
module_line file (unread.Shape line) = at_line file line (codes "shape")
module_line file (unread.Unsupported line name) = at_line file line (codes "unsupported " ++ atom_text name)
module_line file (unread.Register line) = at_line file line (codes "register")
module_line file (unread.Label line) = at_line file line (codes "label")
module_line file (unread.Memory e) = memory_line

-- a function by its module's name, its own and its number of arguments
abbrev pub function_text : List ℕ → List ℕ → ℕ → List ℕ
function_text owner name arity = atom_text owner ++ codes ":" ++ atom_text name ++ codes "/" ++ decimal arity

abbrev pub check_line : CheckRefusal → List ℕ
check_line (check.Duplicate name) = codes "hipe: duplicate module " ++ atom_text name ++ codes "\n"
check_line check.TooMany = codes "hipe: too many modules or units\n"
check_line (check.Broken r owner name arity item) =
    codes "hipe: " ++ function_text owner name arity ++ codes " item " ++ decimal item ++ codes ": " ++ rule_name r ++ codes "\n"
check_line (check.Memory e) = memory_line

-- about the bytes of an image
abbrev pub image_with : List ℕ → List ℕ → List ℕ
image_with file why = codes "hipe: " ++ file ++ codes ": image " ++ why ++ codes "\n"

abbrev pub not_built_line : List ℕ → List ℕ
not_built_line file = codes "hipe: " ++ file ++ codes ": not built\n"

abbrev pub image_line : List ℕ → ImageRefusal → List ℕ
image_line file (image.Field f at) = image_with file (flaw_name f ++ codes " at " ++ decimal at)
image_line file (image.Module index e) = image_with file (codes "module " ++ decimal index)
image_line file (image.Check r) = image_with file (codes "check")
image_line file (image.Memory e) = memory_line

abbrev pub entry_text : Option (List ℕ × List ℕ) → ℕ → List ℕ
entry_text None arity = []
entry_text (Some names) arity = function_text names.0 names.1 arity

abbrev pub line_of : Ending → List ℕ
line_of (Said status) = []
line_of Usage = codes "hipe: usage\n"
line_of (ArgsRefused e) = text_line (codes "args") e
line_of (ModuleRefused file e) = module_line file.now e
line_of (CheckRefused r) = check_line r
line_of (ImageRefused file e) = image_line file.now e
line_of (NotExported entry count) = codes "hipe: not exported " ++ entry_text (entry_of entry.now) count ++ codes "\n"
line_of ArgsDoNotFit = codes "hipe: arguments do not fit\n"
line_of (CannotRead file) = codes "hipe: cannot read " ++ file.now ++ codes "\n"
line_of CannotWrite = codes "hipe: cannot write\n"
line_of NoMemory = memory_line
line_of (TooLong file) = codes "hipe: " ++ file.now ++ codes ": too long\n"
line_of (NotBuilt file) = not_built_line file.now

-- what standard error got of an ending: nothing where the output was written, else its line or, where it failed, a
-- prefix of it
abbrev pub IsTold : Ending → Seen → Seen → Type 0
IsTold (Said status) before after = after ≡ before
IsTold e before after = (whole : Bool) × Says whole (line_of e) before after
