-- One function more: its code, and the literals that stand before the next.
use Rattle.std.proofs.Common.{◌≡◌, ◌+◌, ◌++◌, ◌∷◌, List, drop, ap, subst, sym, ◌∙◌, append_assoc, arith}
use Rattle.std.proofs.lemmas.List.{drop_more}
use Rattle.std.specs.List.{AllByRecursion}
use Rattle.beam_code.specs.declared.module.Function.{Function}
use Rattle.trivial_code.specs.Compiled.{CanBePut, code_of, words_of}
use Rattle.trivial_code.specs.Returned.{literals_among, literals_in}
use Rattle.trivial_code.proofs.building.put_functions.Goals as goal

pub loop-f-preserved : goal.loop-f-preserved
loop-f-preserved c =
    let x : Function = c.f-item.result in
    let k = c.args.constants.now in
    let rest : List Function = drop (c.loop-f.f-index + 1) c.args.functions.now in
    let here : drop c.loop-f.f-index c.args.functions.now ≡ x ∷ rest =
    drop_more c.args.functions.now c.loop-f.f-index x c.loop-f-test.true ∙ ap (λ y. y ∷ rest) (sym c.f-item.is) in
    let n : c.count_literals-count.result ≡ literals_in x.items = c.count_literals-count.ensures ∙ ap literals_in c.as_slice.ensures in
    let left : c.loop-f.count + (literals_in x.items + literals_among rest) ≡ c.args.before + literals_among c.args.functions.now =
    sym (ap (λ fs. c.loop-f.count + literals_among fs) here) ∙ c.loop-f.invariant.count in
    record {
      fit = (subst (AllByRecursion CanBePut) here c.loop-f.invariant.fit).1;
      count = omega arith;
      words =
          ap (λ ws. ws ++ code_of k (c.loop-f.count + c.count_literals-count.result) rest) c.in_ok-put_words.ensures
          ∙ append_assoc c.loop-f.code.items (words_of k c.loop-f.count x) (code_of k (c.loop-f.count + c.count_literals-count.result) rest)
          ∙ ap (λ m. c.loop-f.code.items ++ (words_of k c.loop-f.count x ++ code_of k (c.loop-f.count + m) rest)) n
          ∙ sym (ap (λ fs. c.loop-f.code.items ++ code_of k c.loop-f.count fs) here)
          ∙ c.loop-f.invariant.words;
    }
