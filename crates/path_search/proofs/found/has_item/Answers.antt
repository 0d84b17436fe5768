use Rattle.std.proofs.Common.{ℕ, List, length, nat_lt, ap, ◌∙◌}
use Rattle.path_search.specs.Found.{row_of}
use Rattle.path_search.proofs.Keeping.{has_row}
use Rattle.path_search.proofs.found.has_item.Goals as goal

pub returns : goal.returns
returns g c =
    ap (λ (l : List ℕ). nat_lt 0 (length l)) (c.row.ensures ∙ ap (λ (r : List (List ℕ)). row_of r c.args.item) c.deref.ensures.value)
    ∙ has_row (g.W.Walk.item_of c.args.walk.now) c.args.found.now.points c.args.found.now.rows.items c.args.item c.requires
