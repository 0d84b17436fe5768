-- What is mentioned has room, and its literals can be laid.
use Rattle.std.proofs.Common.{◌≡◌, ◌∙◌, length, refl, ap, sym, subst, arith}
use Rattle.std.specs.List.{list_all}
use Rattle.ir_code.proofs.Counted.{few_mentions, names-mentions, words-mentions}
use Rattle.ir_code.proofs.Holding.{they_hold}
use Rattle.ir_code.proofs.Ready.{all_terms, can_stand}
use Rattle.ir_code.specs.Constants.{ConstantsHold, constants_of, table_of, with_literals, with_mentions}
use Rattle.ir_code.specs.Mentions.{literals_of, mentions_of}
use Rattle.ir_code.specs.Shown.{shown}
use Rattle.tagged_words.specs.Atoms.{first_atoms}
use Rattle.term_tree.specs.Name.{is_name}
use Rattle.ir_code.proofs.building.constants.Goals as goal

pub table-requires : goal.table-requires
table-requires c =
    let all : shown c.as_slice.result.now ≡ mentions_of c.args.modules.now = ap shown c.as_slice.ensures.value ∙ c.in_ok-all.ensures in
    let few = few_mentions first_atoms (mentions_of c.args.modules.now) in
    let sum = names-mentions c.args.modules.now in
    let own : length first_atoms ≡ 14 = refl in
    rw all (omega (arith, few, sum, own, c.requires.names))

pub with_literals-requires-clause-room : goal.with_literals-requires-clause-room
with_literals-requires-clause-room c =
    let all : shown c.as_slice-2.result.now ≡ mentions_of c.args.modules.now = ap shown c.as_slice-2.ensures.value ∙ c.in_ok-all.ensures in
    let sum = words-mentions c.args.modules.now in
    rw all (omega (arith, sum, c.requires.words))

pub with_literals-requires-clause-stand : goal.with_literals-requires-clause-stand
with_literals-requires-clause-stand c =
    can_stand c.args.modules.now c.in_ok-atoms.atoms (shown c.as_slice-2.result.now) (ap shown c.as_slice-2.ensures.value ∙ c.in_ok-all.ensures)
    (c.in_ok-atoms.ensures ∙ ap (λ xs. with_mentions first_atoms (shown xs)) (c.as_slice.ensures.value ∙ sym c.as_slice-2.ensures.value))
    (ap (list_all is_name) (sym c.names.ensures) ∙ c.are_names.ensures) c.are_canonical.ensures c.requires.words

pub returns-clause-hold : goal.returns-clause-hold
returns-clause-hold c =
    let ms = c.args.modules.now in
    let first : shown c.as_slice.result.now ≡ mentions_of ms = ap shown c.as_slice.ensures.value ∙ c.in_ok-all.ensures in
    let second : shown c.as_slice-2.result.now ≡ mentions_of ms = ap shown c.as_slice-2.ensures.value ∙ c.in_ok-all.ensures in
    let table : c.in_ok-atoms.atoms ≡ table_of ms = c.in_ok-atoms.ensures ∙ ap (with_mentions first_atoms) first in
    let terms = all_terms ms c.in_ok-atoms.atoms table (ap (list_all is_name) (sym c.names.ensures) ∙ c.are_names.ensures) c.are_canonical.ensures c.requires.words in
    let is : c.in_ok-made.made ≡ constants_of ms =
    c.in_ok-made.ensures ∙ ap (λ n. with_literals n (literals_of (shown c.as_slice-2.result.now))) table ∙ ap (λ a. with_literals (table_of ms) (literals_of a)) second in
    subst (λ x. ConstantsHold x ms) (sym is) (they_hold ms (record { words = c.requires.words; names = c.requires.names }) terms)

pub returns-clause-terms : goal.returns-clause-terms
returns-clause-terms c =
    let ms = c.args.modules.now in
    let first : shown c.as_slice.result.now ≡ mentions_of ms = ap shown c.as_slice.ensures.value ∙ c.in_ok-all.ensures in
    let table : c.in_ok-atoms.atoms ≡ table_of ms = c.in_ok-atoms.ensures ∙ ap (with_mentions first_atoms) first in
    all_terms ms c.in_ok-atoms.atoms table (ap (list_all is_name) (sym c.names.ensures) ∙ c.are_names.ensures) c.are_canonical.ensures c.requires.words
