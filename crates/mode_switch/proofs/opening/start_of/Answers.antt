-- The words of the arguments pass the heap, or fit it.
use Rattle.std.proofs.Common.{◌≡◌, ◌<◌, ◌≤◌, ◌∙◌, List, length, map, ap, arith}
use Rattle.beam_code.specs.declared.module.Module.{Module}
use Rattle.beam_code.specs.Function.{exported_number}
use Rattle.mode_switch.proofs.Laid.{fit_by, pass_by}
use Rattle.mode_switch.proofs.Starts.{lacks, passes}
use Rattle.term_tree.specs.declared.term.Term.{Term}
use Rattle.term_tree.specs.Term.{tree_of}
use Rattle.word_laying.specs.Count.{row_words, saturated}
use Rattle.mode_switch.proofs.opening.start_of.Goals as goal

pub returns-then-words_of_row-from : goal.returns-then-words_of_row-from
returns-then-words_of_row-from c =
    let call = c.args.call.now in
    let vs = map tree_of call.args in
    let is : c.words_of_row.result ≡ saturated (row_words 0 vs) = c.words_of_row.ensures ∙ ap (λ (l : List Term). saturated (row_words 0 (map tree_of l))) c.as_slice-args.ensures in
    let high : c.args.limits.now.heap < c.words_of_row.result = omega (arith, c.from.ensures, c.if-words_of_row-from.true) in
    let exported = c.in-Some.ensures ∙ ap (λ (ms : List Module). exported_number ms call.«module» call.function (length call.args)) c.checked.ensures in
    record {
      start = passes c.args.image.now.modules c.args.image.now.parts c.args.limits.now (exported_number c.args.image.now.modules call.«module» call.function (length call.args)) vs c.in-Some.function exported
          (pass_by vs c.words_of_row.result c.args.limits.now.heap is high);
    }

pub start_at-requires-clause-heap : goal.start_at-requires-clause-heap
start_at-requires-clause-heap c =
    let low : c.words_of_row.result ≤ c.args.limits.now.heap = omega (arith, c.from.ensures, c.if-words_of_row-from.false) in
    fit_by (map tree_of c.as_slice-args.result.now) c.words_of_row.result c.args.limits.now.heap c.words_of_row.ensures low (omega (arith, c.requires.limits.heap))

pub returns-in-Err : goal.returns-in-Err
returns-in-Err c =
    let call = c.args.call.now in
    let vs = map tree_of call.args in
    let is : c.words_of_row.result ≡ saturated (row_words 0 vs) = c.words_of_row.ensures ∙ ap (λ (l : List Term). saturated (row_words 0 (map tree_of l))) c.as_slice-args.ensures in
    let low : c.words_of_row.result ≤ c.args.limits.now.heap = omega (arith, c.from.ensures, c.if-words_of_row-from.false) in
    let exported = c.in-Some.ensures ∙ ap (λ (ms : List Module). exported_number ms call.«module» call.function (length call.args)) c.checked.ensures in
    record {
      start = lacks c.args.image.now.modules c.args.image.now.parts c.args.limits.now (exported_number c.args.image.now.modules call.«module» call.function (length call.args)) vs c.in-Some.function c.in-Err.e exported
          (fit_by vs c.words_of_row.result c.args.limits.now.heap is low (omega (arith, c.requires.limits.heap)));
    }
