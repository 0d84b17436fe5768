-- What a test looks at, as the operands that its instruction has: a bare number is an integer.
use Rattle.std.specs.Prelude.{ℕ, pos, List, [], ◌∷◌, Option, Some, None, option_and_then}
use Rattle.std.specs.Option.{option_map}
use Rattle.term_tree.specs.declared.term.Term.{Term}
use Rattle.beam_code.specs.declared.instr.Operand.{Operand}
use Rattle.beam_code.specs.declared.instr.Operand.TheVariants as o
use Rattle.module_forms.specs.declared.part.Got.{Got}
use Rattle.module_forms.specs.declared.part.Look.{Look}
use Rattle.module_forms.specs.declared.part.Look.TheVariants as look
use Rattle.module_forms.specs.Part.{plain, one_more, number_of, named_of, operand_of, list_of}
use Rattle.module_forms.specs.Rest.{Rest, next_of, take}
use Rattle.module_forms.specs.Kind.{Jump}
use Rattle.beam_code.specs.declared.instr.Instr.{Instr}
use Rattle.beam_code.specs.declared.instr.Instr.TheVariants as i

abbrev pub bare_number : Term → Option (Got Operand)
bare_number t = option_map (λ n. plain (o.Int (pos n))) (number_of t)

abbrev pub named_operand : Term → Option (Got Operand)
named_operand t = option_map (λ a. plain (o.Atom a)) (named_of t)

abbrev pub first_of : Option (Got Operand) → Option (Got Operand) → Option (Got Operand)
first_of (Some g) other = Some g
first_of None other = other

abbrev pub seen_of : ℕ → Look → Term → Option (Got Operand)
seen_of last look.Source t = operand_of last t
seen_of last look.Number t = bare_number t
seen_of last look.Atom t = named_operand t
seen_of last look.Either t = first_of (bare_number t) (operand_of last t)

abbrev pub seen_with : ℕ → List Look → List Term → Option (Got (List Operand))
seen_with last [] [] = Some (plain [])
seen_with last (l ∷ ls) [] = None
seen_with last [] (t ∷ ts) = None
seen_with last (l ∷ ls) (t ∷ ts) = option_and_then (λ g. option_map (one_more g) (seen_with last ls ts)) (seen_of last l t)

abbrev pub seen_in : ℕ → List Look → Term → Option (Got (List Operand))
seen_in last ls t = option_and_then (seen_with last ls) (list_of t)

-- the next part
abbrev pub saw : List Look → Rest → Option (List Operand × Rest)
saw ls r = next_of (seen_in r.last ls) r.wide r.last r.parts

-- a test with this name
abbrev pub tested : List ℕ → List Look → Rest → Option (Instr × Rest)
tested name ls r = option_and_then (λ v. option_map (λ w. (i.Test name v.0 w.0, w.1)) (saw ls v.1)) (take Jump r)
