use Rattle.std.proofs.Common.{◌≡◌, ℕ, false, ◌||◌, not, ap, sym, ◌∙◌, arith, nat_lt, Option, None}
use Rattle.std.proofs.lemmas.Bool.Decides.{nat_tests}
use Rattle.std.specs.Prelude.{slice_get}
use Rattle.data_flow.specs.declared.flow.Flow.{Flow}
use Rattle.data_flow.specs.declared.flow.Node.{Node}
use Rattle.data_flow.specs.declared.flow.Point.{Point}
use Rattle.data_flow.specs.Names.{meet, same, no_names}
use Rattle.data_flow.specs.Flow.{lacks, reads_of, puts_of}
use Rattle.data_flow.proofs.Sets.{meet_none, same_self}
use Rattle.data_flow.proofs.cut.lacks.Goals as goal

not_below : (n : ℕ) → nat_lt n 0 ≡ false
not_below n = grind (arith, nat_tests)

nothing_lacks : (flow : Flow) (p : Point) → slice_get flow.nodes p.item ≡ None → false ≡ lacks flow p
nothing_lacks flow p e =
    sym (ap (λ (o : Option Node). not (same (meet (reads_of o) p.names) (reads_of o)) || nat_lt p.count (puts_of o)) e
    ∙ (ap (λ n. not (same n no_names) || nat_lt p.count 0) (meet_none p.names) ∙ (ap (λ b. not b || nat_lt p.count 0) (same_self no_names) ∙ not_below p.count)))

pub returns-in-None : goal.returns-in-None
returns-in-None c = nothing_lacks c.args.flow.now c.args.point (sym c.in-None.ensures.value)
