-- The forms of functions, one after another (docs/BEAM.md, Forms): what each form does to the function that is read.
use Rattle.std.specs.Prelude.{◌≡◌, IsTrue, ℕ, Bool, true, false, ◌&&◌, nat_eq, if◌then◌else◌, List, [], ◌∷◌, ◌++◌, length, Option, Some, None, Result, Ok, Err}
use Rattle.std.specs.List.{list_any}
use Rattle.term_tree.specs.declared.term.Term.{Term}
use Rattle.term_tree.specs.Name.{same_name}
use Rattle.text_forms.specs.declared.form.Form.{Form}
use Rattle.beam_code.specs.declared.instr.Instr.{Instr}
use Rattle.beam_code.specs.declared.instr.Instr.TheVariants as i
use Rattle.beam_code.specs.declared.item.Item.{Item}
use Rattle.beam_code.specs.declared.module.Function.{Function}
use Rattle.module_forms.specs.Form.{Answer, Reads, Register, Shape, Unknown, form_of}
use Rattle.beam_profile.specs.declared.header.Head.{Head}
use Rattle.beam_profile.specs.declared.refusal.ModuleRefusal.{ModuleRefusal}
use Rattle.beam_profile.specs.declared.refusal.ModuleRefusal.TheVariants as refusal
use Rattle.beam_profile.specs.declared.sequence.Stage.{Stage}
use Rattle.beam_profile.specs.declared.sequence.Stage.TheVariants as stage
use Rattle.beam_profile.specs.declared.sequence.State.{State}
use Rattle.beam_profile.specs.Header.{Key, same_key, key_at, head_of}

-- what an instruction is for the beginning of its function: nothing; a label; a `func_info`; another one
pub data Mark : Type 0 where
  Passive : Mark
  Marks : ℕ → Mark
  Info : List ℕ → List ℕ → ℕ → Mark
  Other : Mark

abbrev pub mark_of : Instr → Mark
mark_of (i.Label n) = Marks n
mark_of (i.Line about) = Passive
mark_of (i.Comment about) = Passive
mark_of (i.FuncInfo m f arity) = Info m f arity
mark_of other = Other

abbrev pub is_own : List ℕ → Head → List ℕ → List ℕ → ℕ → Bool
is_own owner h m f arity = same_name m owner && same_name f h.name && nat_eq arity h.arity

-- what an item does to the beginning, where it is the one with this index: first comes a label, then the function's own
-- `func_info`, then its entry label
abbrev pub after_label : Head → ℕ → Stage → ℕ → Option Stage
after_label h at stage.WantsLabel n = Some stage.WantsInfo
after_label h at stage.WantsInfo n = None
after_label h at stage.WantsEntry n = if nat_eq n h.entry then Some (stage.Begun at) else None
after_label h at (stage.Begun k) n = Some (stage.Begun k)

abbrev pub after_info : Stage → Bool → Option Stage
after_info stage.WantsLabel own = None
after_info stage.WantsInfo own = if own then Some stage.WantsEntry else None
after_info stage.WantsEntry own = None
after_info (stage.Begun k) own = Some (stage.Begun k)

abbrev pub after_other : Stage → Option Stage
after_other stage.WantsLabel = None
after_other stage.WantsInfo = None
after_other stage.WantsEntry = None
after_other (stage.Begun k) = Some (stage.Begun k)

abbrev pub next : List ℕ → Head → ℕ → Stage → Mark → Option Stage
next owner h at s Passive = Some s
next owner h at s (Marks n) = after_label h at s n
next owner h at s (Info m f arity) = after_info s (is_own owner h m f arity)
next owner h at s Other = after_other s

-- ---- one form

-- the functions that began, and the one that is read behind them
abbrev pub Goes : Type 0
Goes = Result (State × List Key) ModuleRefusal

-- on with what there is, else the form is out of its rule
abbrev pub with : {A B : Type 0} → ℕ → Option A → (A → Result B ModuleRefusal) → Result B ModuleRefusal
with line None goes = Err (refusal.Shape line)
with line (Some a) goes = goes a

-- a form that is none by itself; in the beginning of a function it is out of its rule whatever its numbers
abbrev pub register_at : ℕ → Stage → ModuleRefusal
register_at line (stage.Begun n) = refusal.Register line
register_at line other = refusal.Shape line

abbrev pub with_item : State → List Key → ℕ → Instr → Goes
with_item s seen line instr =
    with line (next s.owner s.head (length s.items) s.stage (mark_of instr)) (λ t.
    Ok (record { owner = s.owner; head = s.head; stage = t; items = s.items ++ record { line = line; instr = instr } ∷ []; done = s.done }, seen))

-- the functions with the one that is read, where it may end
abbrev pub closed_with : Head → List Item → List Function → Stage → Option (List Function)
closed_with h items done (stage.Begun k) = Some (done ++ record { name = h.name; arity = h.arity; entry = k; items = items } ∷ [])
closed_with h items done other = None

abbrev pub closed : State → Option (List Function)
closed s = closed_with s.head s.items s.done s.stage

-- a function begins behind these
abbrev pub begun : List ℕ → Head → List Function → State
begun owner h fs = record { owner = owner; head = h; stage = stage.WantsLabel; items = []; done = fs }

-- those that began, and one more that is none of them
abbrev pub with_new : List Key → Key → Option (List Key)
with_new seen k = if list_any (same_key k) seen then None else Some (seen ++ k ∷ [])

abbrev pub with_function : State → List Key → ℕ → Head → Goes
with_function s seen line h = with line (closed s) (λ fs. with line (with_new seen (key_at h)) (λ more. Ok (begun s.owner h fs, more)))

abbrev pub with_answer : State → List Key → ℕ → Answer → Goes
with_answer s seen line (Reads instr) = with_item s seen line instr
with_answer s seen line Register = Err (register_at line s.stage)
with_answer s seen line Shape = Err (refusal.Shape line)
with_answer s seen line (Unknown name) = Err (refusal.Unsupported line name)

abbrev pub step_with : ℕ → State → List Key → ℕ → Option Head → Term → Goes
step_with last s seen line (Some h) t = with_function s seen line h
step_with last s seen line None t = with_answer s seen line (form_of last t)

abbrev pub step : ℕ → State → List Key → Form → Goes
step last s seen f = step_with last s seen f.line (head_of f.term) f.term

-- ---- all forms

-- the functions, where the text may end behind this line
abbrev pub ended : ℕ → State → Result (List Function) ModuleRefusal
ended line s = with line (closed s) (λ fs. Ok fs)

abbrev pub onward : {A B : Type 0} → Result A ModuleRefusal → (A → Result B ModuleRefusal) → Result B ModuleRefusal
onward (Err e) goes = Err e
onward (Ok a) goes = goes a

-- the rest of the forms, behind one with this line
abbrev pub go : ℕ → ℕ → State → List Key → List Form → Result (List Function) ModuleRefusal
go last line s seen [] = ended line s
go last line s seen (f ∷ fs) = onward (step last s seen f) (λ n. go last f.line n.0 n.1 fs)

-- the functions of these forms: the first form is that of a function
abbrev pub functions : ℕ → List ℕ → List Form → Result (List Function) ModuleRefusal
functions last owner [] = Ok []
functions last owner (f ∷ fs) = with f.line (head_of f.term) (λ h. go last f.line (begun owner h []) (key_at h ∷ []) fs)

-- but for want of memory, what a step of the code comes to, with the functions that began
abbrev pub has_cause : ModuleRefusal → Bool
has_cause (refusal.Memory e) = false
has_cause _ = true

abbrev pub Stepped : Result State ModuleRefusal → List Key → Goes → Type 0
Stepped (Ok s) seen wanted = wanted ≡ Ok (s, seen)
Stepped (Err e) seen wanted = IsTrue (has_cause e) → wanted ≡ Err e

-- and what another call of it comes to
abbrev pub Meets : {A : Type 0} → Result A ModuleRefusal → Result A ModuleRefusal → Type 0
Meets (Ok answer) wanted = wanted ≡ Ok answer
Meets (Err e) wanted = IsTrue (has_cause e) → wanted ≡ Err e

-- what is there of a form in this line, or its refusal
abbrev pub Found : {A : Type 0} → Result A ModuleRefusal → ℕ → Option A → Type 0
Found (Ok a) line gives = gives ≡ Some a
Found (Err e) line gives = IsTrue (has_cause e) → (gives ≡ None) × (e ≡ refusal.Shape line)

-- whether one more began, and those that began then
abbrev pub Added : Bool → List Key → Option (List Key) → Type 0
Added true seen wanted = wanted ≡ Some seen
Added false seen wanted = wanted ≡ None
