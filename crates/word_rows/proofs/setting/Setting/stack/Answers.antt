use Rattle.std.proofs.Common.{◌≡◌, List, Some, option_map, subst}
use Rattle.beam_code.specs.declared.module.Function.{Function}
use Rattle.beam_code.specs.declared.module.Module.{Module}
use Rattle.beam_code.specs.Function.{function_at}
use Rattle.word_rows.specs.Standing.{stack_at}
use Rattle.word_rows.proofs.setting.Setting.stack.Goals as goal

pub returns : goal.returns
returns c =
    let s = c.args.self.now in
    let P : List Module → Type 0 = λ ms. (f : Function) → option_map (λ p. p.function) (function_at ms s.number) ≡ Some f → c.stack_of.result ≡ stack_at ms f c.args.at in
    subst P c.checked.ensures c.stack_of.ensures s.function.now s.bodied
