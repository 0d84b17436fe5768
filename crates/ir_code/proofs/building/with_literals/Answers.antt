-- The block is filled with the words of the literals.
use Rattle.std.proofs.Common.{◌≡◌, ℕ, ◌++◌, ◌∙◌, List, length, replicate, refl, ap, sym}
use Rattle.std.proofs.lemmas.List.{length-replicate}
use Rattle.ir_code.proofs.Turns.{filled}
use Rattle.ir_code.specs.Constants.{Constants}
use Rattle.ir_code.specs.Laying.{literals_in}
use Rattle.tagged_words.specs.Laid.{laid_in_turn, words_in_turn}
use Rattle.tagged_words.specs.Region.{Region}
use Rattle.tagged_words.specs.declared.addresses.TheConstants.{LITERAL_START}
use Rattle.word_laying.proofs.Cells.{length-row}
use Rattle.word_laying.proofs.WrittenLaws.{regions_stay}
use Rattle.word_laying.specs.Written.{written}
use Rattle.ir_code.proofs.building.with_literals.Goals as goal

abbrev made : List (List ℕ) → List ℕ → List ℕ → Constants
made names literals roots = record { atoms = names; literals = literals; roots = roots }

same_parts : (names : List (List ℕ)) (ls ms rs ss : List ℕ) → ls ≡ ms → rs ≡ ss → made names ls rs ≡ made names ms ss
same_parts names ls ms rs ss a b = ap (λ l. made names l rs) a ∙ ap (made names ms) b

pub words_from-requires-clause-start : goal.words_from-requires-clause-start
words_from-requires-clause-start c =
    let ws = laid_in_turn c.args.atoms LITERAL_START (literals_in c.args.mentions.now) in
    ap (λ (r : Region). r.start) c.in_ok-lay_mentions.ensures.words
    ∙ (regions_stay c.in_ok-block.block LITERAL_START ws).0 ∙ ap (λ (r : Region). r.start) c.in_ok-block.ensures.zeros

pub words_from-requires-clause-count : goal.words_from-requires-clause-count
words_from-requires-clause-count c =
    let ws = laid_in_turn c.args.atoms LITERAL_START (literals_in c.args.mentions.now) in
    sym (ap (λ (r : Region). length r.words) c.in_ok-lay_mentions.ensures.words
    ∙ (regions_stay c.in_ok-block.block LITERAL_START ws).1 ∙ ap (λ (r : Region). length r.words) c.in_ok-block.ensures.zeros
    ∙ length-replicate c.count_words-count.result 0)

pub returns : goal.returns
returns c =
    let names = c.args.atoms in
    let all = literals_in c.args.mentions.now in
    let ws = laid_in_turn names LITERAL_START all in
    let count = c.count_words-count.result in
    let long = length-row names all LITERAL_START ∙ sym c.count_words-count.ensures ∙ sym (length-replicate count 0) in
    let literals = c.in_ok-literals.ensures ∙ ap (λ (r : Region). r.words) c.in_ok-lay_mentions.ensures.words
    ∙ ap (λ (r : Region). (written r LITERAL_START ws).words) c.in_ok-block.ensures.zeros ∙ filled LITERAL_START (replicate count 0) ws refl long in
    let roots = c.in_ok-lay_mentions.ensures.roots ∙ ap (λ rs. rs ++ words_in_turn names LITERAL_START all) c.new-roots.ensures.items in
    same_parts names c.in_ok-literals.literals.items ws c.lay_mentions.new.roots.items (words_in_turn names LITERAL_START all) literals roots
