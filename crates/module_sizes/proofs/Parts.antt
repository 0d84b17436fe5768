-- The operands and names among the values of a form's parts weigh no more than the parts, written out.
use Rattle.std.proofs.Common.{◌≡◌, ℕ, ◌+◌, ◌*◌, ◌≤◌, List, [], ◌∷◌, map, codes, arith}
use Rattle.std.specs.List.{sum_by}
use Rattle.std.proofs.lemmas.List.Sums.{sum_by-cons}
use Rattle.term_tree.specs.declared.term.Term as t
use Rattle.term_tree.specs.declared.term.Term.{Term}
use Rattle.beam_code.specs.declared.instr.Case.{Case}
use Rattle.beam_code.specs.declared.instr.Operand.{Operand}
use Rattle.beam_code.specs.declared.instr.Operand.TheVariants as o
use Rattle.module_forms.specs.Kind.{Kind, Val, Vals, Spelled, Full, Bare}
use Rattle.module_forms.specs.Kind as kind
use Rattle.module_forms.specs.Part.{operand_from, operands_from}
use Rattle.form_laws.specs.Written.{tagged, proper, number, source, spelling, pair_parts, case_value, case_label, written, written_all}
use Rattle.module_sizes.specs.Counts.{operand_names, operand_literals, operand_words}
use Rattle.module_sizes.proofs.Weights.{weight, weights, weight-Atom, weight-proper, weight-Tuple}

abbrev pub operand_weight : Operand → ℕ
operand_weight s = 2 * (operand_names s + operand_literals s) + operand_words s

abbrev pub operand_weights : List Operand → ℕ
operand_weights ss = sum_by operand_weight ss

abbrev pub part_weight : (k : Kind) → Val k → ℕ
part_weight kind.Named a = 2
part_weight kind.Source s = operand_weight s
part_weight kind.TwoSources v = operand_weight v.0 + operand_weight v.1
part_weight kind.Elements ss = operand_weights ss
part_weight kind.Cases cs = operand_weights (map (λ c. c.value) cs)
part_weight kind.Function c = 4
part_weight (kind.Looks ls) ss = operand_weights (operands_from ss)
part_weight (kind.Arguments name) ss = operand_weights ss
part_weight other v = 0

-- the values of parts of these kinds
abbrev pub part_weights : (ks : List Kind) → Vals ks → ℕ
part_weights [] vs = 0
part_weights (k ∷ ks) vs = part_weight k vs.0 + part_weights ks vs.1

pub tagged_weighs : (word : List ℕ) (u : Term) → weight (tagged word u) ≡ 5 + weight u
tagged_weighs word u = omega (arith, weight-Tuple (t.Atom word ∷ u ∷ []), weight-Atom word)

source_weighs : (s : Operand) → operand_weight s ≤ weight (source s)
source_weighs (o.Atom a) = omega (arith, tagged_weighs (codes "atom") (t.Atom a))
source_weighs (o.Literal u) = omega (arith, tagged_weighs (codes "literal") u)
source_weighs other = omega arith

sources_weigh : (ss : List Operand) → operand_weights ss ≤ weights (map source ss)
sources_weigh [] = omega arith
sources_weigh (s ∷ ss) =
    let rest = sources_weigh ss in
    omega (arith, rest, source_weighs s, sum_by-cons operand_weight s ss, sum_by-cons weight (source s) (map source ss))

spelled_weighs : (s : Spelled) → operand_weight (operand_from s) ≤ weight (spelling s)
spelled_weighs (Full operand) = source_weighs operand
spelled_weighs (Bare n) = omega arith

looks_weigh : (ss : List Spelled) → operand_weights (operands_from ss) ≤ weights (map spelling ss)
looks_weigh [] = omega arith
looks_weigh (s ∷ ss) =
    let rest = looks_weigh ss in
    omega (arith, rest, spelled_weighs s, sum_by-cons operand_weight (operand_from s) (operands_from ss), sum_by-cons weight (spelling s) (map spelling ss))

cases_weigh : (cs : List Case) → operand_weights (map (λ c. c.value) cs) ≤ weights (pair_parts case_value case_label cs)
cases_weigh [] = omega arith
cases_weigh (c ∷ cs) =
    let rest = cases_weigh cs in
    let parts = pair_parts case_value case_label cs in
    let first = sum_by-cons operand_weight c.value (map (λ c. c.value) cs) in
    omega (arith, rest, source_weighs c.value, first, sum_by-cons weight (case_value c) (case_label c ∷ parts), sum_by-cons weight (case_label c) parts)

proper_weighs : (ts : List Term) → weights ts ≤ weight (proper ts)
proper_weighs ts = omega (arith, weight-proper ts)

listed_weighs : (ts : List Term) → weights ts ≤ weight (tagged (codes "list") (proper ts))
listed_weighs ts = omega (arith, tagged_weighs (codes "list") (proper ts), proper_weighs ts)

part_weighs : (k : Kind) (v : Val k) → part_weight k v ≤ weight (written k v)
part_weighs kind.Named a = omega (arith, tagged_weighs (codes "atom") (t.Atom a))
part_weighs kind.Source s = source_weighs s
part_weighs kind.TwoSources v = omega (arith, source_weighs v.0, source_weighs v.1, proper_weighs (source v.0 ∷ source v.1 ∷ []))
part_weighs kind.Elements ss = omega (arith, sources_weigh ss, listed_weighs (map source ss))
part_weighs kind.Cases cs = omega (arith, cases_weigh cs, listed_weighs (pair_parts case_value case_label cs))
part_weighs kind.ArityCases cs = omega arith
part_weighs kind.Function c =
    omega (arith, weight-Tuple (t.Atom (codes "extfunc") ∷ t.Atom c.owner ∷ t.Atom c.name ∷ number c.arity ∷ []), weight-Atom c.owner, weight-Atom c.name)
part_weighs (kind.Looks ls) ss = omega (arith, looks_weigh ss, proper_weighs (map spelling ss))
part_weighs (kind.Arguments name) ss = omega (arith, sources_weigh ss, proper_weighs (map source ss))
part_weighs other v = omega arith

-- all parts of a form
pub parts_weigh : (ks : List Kind) (vs : Vals ks) → part_weights ks vs ≤ weights (written_all ks vs)
parts_weigh [] vs = omega arith
parts_weigh (k ∷ ks) vs =
    let rest = parts_weigh ks vs.1 in
    omega (arith, rest, part_weighs k vs.0, sum_by-cons weight (written k vs.0) (written_all ks vs.1))
