-- The sources so far, and those of the operands that are left.
use Rattle.std.proofs.Common.{◌≡◌, true, ◌++◌, drop}
use Rattle.beam_code.specs.Canonical.{are_canonical_operands}
use Rattle.word_rows.specs.Rows.{behind_all, sources_of}
use Rattle.word_rows.proofs.setting.Setting.sources.Given as goal

abbrev pub invariant-loop-operand : goal.invariant-loop-operand
invariant-loop-operand l = record {
  all : l.all ++ sources_of l.self.image.now.parts.atoms l.size l.roots.left.now (drop l.operand-index l.operands) ≡ sources_of l.self.image.now.parts.atoms l.size l.fn.roots.left.now l.operands;
  left : behind_all (drop l.operand-index l.operands) l.roots.left.now ≡ behind_all l.operands l.fn.roots.left.now;
  canonical : are_canonical_operands (drop l.operand-index l.operands) ≡ true;
}
