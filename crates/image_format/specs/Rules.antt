-- What may stand in a field (docs/FORMAT.md): the flaw of what may not.
use Rattle.std.specs.Prelude.{ℕ, ◌+◌, ◌*◌, Option, Some, None, List, Bool, not, ◌&&◌, ◌||◌, ◌==◌, nat_lt, if◌then◌else◌}
use Rattle.std.specs.List.{list_all}
use Rattle.beam_code.specs.declared.module.HandlerKind.{HandlerKind}
use Rattle.beam_code.specs.declared.module.HandlerKind.TheVariants as kinds
use Rattle.image_format.specs.declared.limits.TheConstants.{MOST_CODE}
use Rattle.image_format.specs.declared.refusal.Flaw.{Flaw}
use Rattle.image_format.specs.declared.refusal.Flaw.TheVariants.{Count, Value}
use Rattle.term_tree.specs.Name.{is_name}
use Rattle.tagged_words.specs.Atoms.{is_among}
use Rattle.image_format.specs.Fitting.{is_handler}
use Rattle.image_format.specs.Mask.{bit, numbers, is_slot}

-- what has to pass a test
abbrev pub passes : Flaw → Bool → Option Flaw
passes flaw test = if test then None else Some flaw

-- a number of one value; up to a most; from a least on
abbrev pub exactly : Flaw → ℕ → ℕ → Option Flaw
exactly flaw value n = passes flaw (n == value)

abbrev pub at_most : Flaw → ℕ → ℕ → Option Flaw
at_most flaw most n = if nat_lt most n then Some flaw else None

abbrev pub at_least : Flaw → ℕ → ℕ → Option Flaw
at_least flaw least n = if nat_lt n least then Some flaw else None

-- what may be anything
abbrev pub any : {A : Type 0} → A → Option Flaw
any x = None

-- the first flaw of two
abbrev pub or_then : Option Flaw → Option Flaw → Option Flaw
or_then (Some flaw) second = Some flaw
or_then None second = second

abbrev pub within : Flaw → ℕ → ℕ → ℕ → Option Flaw
within flaw least most n = or_then (at_least flaw least n) (at_most flaw most n)

abbrev pub code_count : ℕ → ℕ → Option Flaw
code_count total n = or_then (at_most Count MOST_CODE n) (exactly Value total n)

-- the kind of handler with a number of 0 to 2
abbrev pub kind_numbered : ℕ → HandlerKind
kind_numbered n = if n == 0 then kinds.None else if n == 1 then kinds.Try else kinds.Catch

abbrev pub handler_of : HandlerKind → ℕ → Option Flaw
handler_of kind n = passes Value (is_handler kind n)

-- the text of an atom that is none of the earlier ones
abbrev pub new_name : List (List ℕ) → List ℕ → Option Flaw
new_name earlier text = passes Value (is_name text && not (is_among text earlier))

-- the bits of the k-th word of a mask stand for slots of the frame but slot 0
abbrev pub mask_word : ℕ → ℕ → ℕ → Option Flaw
mask_word frame k word = passes Value (list_all (λ j. not (bit word j) || is_slot frame (32 * k + j)) (numbers 32 0))
