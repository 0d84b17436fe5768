use Rattle.std.proofs.Common.{◌≡◌, ℕ, length, List, map, ap, sym, subst, ◌∙◌, arith}
use Rattle.std.proofs.lemmas.Grind.{common_steps}
use Rattle.liveness.specs.Words.{word_from}
use Rattle.liveness.specs.Rows.{IsColumn}
use Rattle.liveness.proofs.Columns.{back_nodes, column_is}
use Rattle.liveness.proofs.graph.column.Goals as goal

pub settle-requires-clause-nodes : goal.settle-requires-clause-nodes
settle-requires-clause-nodes c =
    let long : length c.args.graph.now.next ≡ length c.deref_mut.result.now = grind (arith, common_steps) in
    back_nodes c.args.graph.now.next c.args.prev.now c.requires.prev (length c.deref_mut.result.now) long

pub returns : goal.returns
returns c =
    let used = c.deref_mut.ensures.value ∙ (c.in_ok-column.ensures ∙ ap (λ (ls : List (List ℕ)). map (word_from 0 c.args.first) ls) c.as_slice-2.ensures) in
    let written = c.deref.ensures.value ∙ (c.in_ok-writes.ensures ∙ ap (λ (ls : List (List ℕ)). map (word_from 0 c.args.first) ls) c.as_slice.ensures) in
    let end : c.from_vec.result ≡ c.settle.new.column = grind (arith, common_steps) in
    subst (λ (l : List ℕ). IsColumn c.args.graph.now c.args.first l) (sym end)
    (column_is c.args.graph.now c.args.first c.args.prev.now c.deref_mut.result.now c.deref.result.now c.settle.new.column used written c.requires.prev c.in_ok-settle.ensures)
