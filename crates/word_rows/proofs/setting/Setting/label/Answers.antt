use Rattle.std.proofs.Common.{◌∙◌, arith}
use Rattle.word_rows.proofs.Functions.{label_low}
use Rattle.word_rows.proofs.setting.Setting.label.Goals as goal

pub overflow_add-result : goal.overflow_add-result
overflow_add-result c =
    let s = c.args.self.now in
    let low = label_low s.image.now.modules s.number s.first c.args.label c.in-Some.item.now s.function.now s.bounded s.before s.bodied (c.in-Some.ensures.value ∙ s.labelled c.args.label) in
    omega (arith, low)

pub overflow_mul-result : goal.overflow_mul-result
overflow_mul-result c =
    let s = c.args.self.now in
    let low = label_low s.image.now.modules s.number s.first c.args.label c.in-Some.item.now s.function.now s.bounded s.before s.bodied (c.in-Some.ensures.value ∙ s.labelled c.args.label) in
    omega (arith, low)

pub overflow_add-result-in-Some : goal.overflow_add-result-in-Some
overflow_add-result-in-Some c =
    let s = c.args.self.now in
    let low = label_low s.image.now.modules s.number s.first c.args.label c.in-Some.item.now s.function.now s.bounded s.before s.bodied (c.in-Some.ensures.value ∙ s.labelled c.args.label) in
    omega (arith, low)
