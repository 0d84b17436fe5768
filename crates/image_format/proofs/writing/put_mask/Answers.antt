use Rattle.std.proofs.Common.{ℕ, List, ◌*◌, ◌++◌, map, sym, ap, ◌∙◌, append_assoc}
use Rattle.std.specs.List.{flat_map}
use Rattle.std.proofs.lemmas.List.{append-nil}
use Rattle.image_format.specs.Mask.{has, numbers, word_of}
use Rattle.image_format.specs.Spelling.{word}
use Rattle.image_format.proofs.Masks.{word_more, no_word}
use Rattle.image_format.proofs.writing.put_mask.Goals as goal

pub loop-k-init : goal.loop-k-init
loop-k-init c =
    let before = c.args.out.now.items in
    sym (append-nil before) ∙ ap (λ (l : List ℕ). before ++ l) (sym (no_word (λ k. word_of (has c.args.live.now) 32 (32 * k))))

pub loop-k-preserved : goal.loop-k-preserved
loop-k-preserved c =
    let g = λ (k : ℕ). word_of (has c.args.live.now) 32 (32 * k) in
    let k = c.loop-k.k in
    let before = c.args.out.now.items in
    let words = flat_map word (map g (numbers k 0)) in
    rw (c.in_ok-put_word.ensures.0, c.word_of_slots-word.ensures, c.loop-k.invariant) (append_assoc before words (word (g k)) ∙ ap (λ (l : List ℕ). before ++ l) (sym (word_more g k)))
