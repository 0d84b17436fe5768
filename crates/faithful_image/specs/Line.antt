-- The line that a run prints of a call, and the line that the call's meaning stands for (docs/MACHINE.md, Outcomes).
use Rattle.std.specs.Prelude.{ℕ, ◌≡◌, List, ◌++◌, codes, nat_lt, if◌then◌else◌}
use Rattle.beam_code.specs.declared.module.Module.{Module}
use Rattle.beam_code.specs.State as b
use Rattle.faithful_image.specs.Faithful.{IsFaithful}
use Rattle.faithful_image.specs.Meaning.{meaning_of}
use Rattle.mode_switch.specs.Call.{Call, IsCallOf}
use Rattle.mode_switch.specs.Machine.{Ran, opened, ran}
use Rattle.mode_switch.specs.declared.text.TheConstants.{VALUE_STATUS, RAISE_STATUS, MOST_PRINTED}
use Rattle.mode_switch.specs.Text.{Says, end_line, not_built, not_provided, raise_head, value_head}
use Rattle.image_format.specs.declared.parts.Parts.{Parts}
use Rattle.small_step.specs.Stage.{Done}
use Rattle.term_tree.specs.Text.{text_of}
use Rattle.term_tree.specs.Tree as t
use Rattle.word_walks.specs.Nodes.{nodes_of}

-- the line of an end of the language; a text that breaks its rules has none
abbrev pub meant_end : b.End → List ℕ × ℕ
meant_end b.Bignum = end_line (codes "bignum")
meant_end b.HeapFull = end_line (codes "heap_full")
meant_end b.StackFull = end_line (codes "stack_full")
meant_end b.OutOfReductions = end_line (codes "out_of_reductions")
meant_end b.BadOperand = end_line (codes "bad_operand")
meant_end (b.NotProvided module_name name arity) = end_line (not_provided module_name name arity)
meant_end b.Stuck = not_built

-- the text of a term, or three dots where it has too many nodes
abbrev pub term_text : t.Tree → List ℕ
term_text v = if nat_lt MOST_PRINTED (nodes_of v) then codes "..." else text_of v

-- the line of a term behind a head
abbrev pub meant_term : List ℕ → ℕ → t.Tree → List ℕ × ℕ
meant_term head status v = (head ++ term_text v ++ codes "\n", status)

-- the line of an outcome of the language, and its status
abbrev pub meant_line : b.Outcome → List ℕ × ℕ
meant_line (b.Returned v) = meant_term value_head VALUE_STATUS v
meant_line (b.Raised class v) = meant_term (raise_head class) RAISE_STATUS v
meant_line (b.Ended end) = meant_end end

-- a line of a run: that of its answer, in the state that it came to, with its status
abbrev pub IsLineOf : Ran → List ℕ × ℕ → Type 0
IsLineOf r line = Says r.progress.loaded r.progress.state r.answer line

-- a line that is printed of a call
abbrev pub IsPrinted : List Module → Parts → Call → List ℕ × ℕ → Type 0
IsPrinted ms parts call line = IsLineOf (ran (opened ms parts call)) line

-- the meaning of a call is an outcome, and this is its line
pub record MeansLine (ms : List Module) (call : Call) (line : List ℕ × ℕ) : Type 0 where
  pub finish : b.Finish
  pub means : meaning_of ms call ≡ Done finish
  pub is : meant_line finish.outcome ≡ line

-- each line that the machine prints of a call on a faithful image is the line that the call means
abbrev pub FaithfulRunsPrintTheirMeaning : Type 0
FaithfulRunsPrintTheirMeaning =
    (ms : List Module) (chosen : List ℕ) (parts : Parts) → IsFaithful ms chosen parts → (call : Call) → IsCallOf ms call
    → (line : List ℕ × ℕ) → IsPrinted ms parts call line → MeansLine ms call line
