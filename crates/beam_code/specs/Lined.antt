-- An instruction with the line of the text that it stands in (docs/BEAM.md, Functions).
use Rattle.std.specs.Prelude.{ℕ}
use Rattle.beam_code.specs.declared.instr.Instr.{Instr}

pub record Lined : Type 0 where
  pub line : ℕ
  pub instr : Instr
