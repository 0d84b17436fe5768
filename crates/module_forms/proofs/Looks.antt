-- What a test looks at is read as the operands of its instruction.
use Rattle.std.proofs.Common.{◌≡◌, ◌≤◌, ℕ, pos, length, arith, Bool, List, [], ◌∷◌, Option, Some, None, refl, ap, ◌∙◌}
use Rattle.std.specs.Prelude.{option_and_then}
use Rattle.std.specs.Option.{option_map}
use Rattle.term_tree.specs.declared.term.Term.{Term}
use Rattle.beam_code.specs.declared.instr.Instr.{Instr}
use Rattle.beam_code.specs.declared.instr.Instr.TheVariants as i
use Rattle.beam_code.specs.declared.instr.Operand.{Operand}
use Rattle.beam_code.specs.declared.instr.Operand.TheVariants as o
use Rattle.module_forms.specs.declared.part.Got.{Got}
use Rattle.module_forms.specs.declared.part.Look.{Look}
use Rattle.module_forms.specs.declared.part.Look.TheVariants as look
use Rattle.module_forms.specs.Kind.{Vals, Spelled, Full, Jump, Looks}
use Rattle.module_forms.specs.Part.{got, onto, plain, bare, number_or, one_more, number_of, named_of, operand_of, list_of, look_of, looks_with, looks_of, operand_from, operands_from}
use Rattle.module_forms.specs.Seen.{first_of, seen_of, seen_with, seen_in, saw, tested}
use Rattle.module_forms.specs.Rest.{Rest, next_of, take, take_all}
use Rattle.module_forms.specs.Rows.{taken, test_row}

full_again : (r : Option (Got Operand)) → r ≡ option_map (got operand_from) (option_map (got Full) r)
full_again None = refl
full_again (Some g) = refl

number_again : (r : Option ℕ) → option_map (λ n. plain (o.Int (pos n))) r ≡ option_map (got operand_from) (option_map bare r)
number_again None = refl
number_again (Some n) = refl

atom_again : (r : Option (List ℕ)) → option_map (λ a. plain (o.Atom a)) r ≡ option_map (got operand_from) (option_map (λ a. plain (Full (o.Atom a))) r)
atom_again None = refl
atom_again (Some a) = refl

either_again : (r : Option ℕ) (s : Option (Got Operand)) → first_of (option_map (λ n. plain (o.Int (pos n))) r) s ≡ option_map (got operand_from) (number_or r s)
either_again (Some n) s = refl
either_again None s = full_again s

seen-is : (last : ℕ) (l : Look) (t : Term) → seen_of last l t ≡ option_map (got operand_from) (look_of last l t)
seen-is last look.Source t = full_again (operand_of last t)
seen-is last look.Number t = number_again (number_of t)
seen-is last look.Atom t = atom_again (named_of t)
seen-is last look.Either t = either_again (number_of t) (operand_of last t)

more_again : (r : Option (Got Spelled)) (rs : Option (Got (List Spelled))) →
    option_and_then (λ g. option_map (one_more g) (option_map (got operands_from) rs)) (option_map (got operand_from) r) ≡ option_map (got operands_from) (option_and_then (λ g. option_map (one_more g) rs) r)
more_again None rs = refl
more_again (Some g) None = refl
more_again (Some g) (Some gs) = refl

seen_with-is : (last : ℕ) (ls : List Look) (ts : List Term) → seen_with last ls ts ≡ option_map (got operands_from) (looks_with last ls ts)
seen_with-is last [] [] = refl
seen_with-is last [] (t ∷ ts) = refl
seen_with-is last (l ∷ ls) [] = refl
seen_with-is last (l ∷ ls) (t ∷ ts) =
    ap (λ r. option_and_then (λ g. option_map (one_more g) (seen_with last ls ts)) r) (seen-is last l t)
    ∙ ap (λ rs. option_and_then (λ g. option_map (one_more g) rs) (option_map (got operand_from) (look_of last l t))) (seen_with-is last ls ts)
    ∙ more_again (look_of last l t) (looks_with last ls ts)

list_again : (last : ℕ) (ls : List Look) (us : Option (List Term)) → option_and_then (seen_with last ls) us ≡ option_map (got operands_from) (option_and_then (looks_with last ls) us)
list_again last ls None = refl
list_again last ls (Some ts) = seen_with-is last ls ts

abbrev as_seen : List Spelled × Rest → List Operand × Rest
as_seen q = (operands_from q.0, q.1)

next_again : (r : Option (Got (List Spelled))) (ts : List Term) (wide : Bool) (last : ℕ) →
    next_of (λ t. option_map (got operands_from) r) wide last ts ≡ option_map as_seen (next_of (λ (t : Term). r) wide last ts)
next_again None [] wide last = refl
next_again None (t ∷ ts) wide last = refl
next_again (Some g) [] wide last = refl
next_again (Some g) (t ∷ ts) wide last = refl

parts_again : (ls : List Look) (ts : List Term) (wide : Bool) (last : ℕ) → next_of (seen_in last ls) wide last ts ≡ option_map as_seen (next_of (looks_of last ls) wide last ts)
parts_again ls [] wide last = refl
parts_again ls (t ∷ ts) wide last =
    ap (λ r. next_of (λ (u : Term). r) wide last (t ∷ ts)) (list_again last ls (list_of t)) ∙ next_again (looks_of last ls t) (t ∷ ts) wide last

abbrev as_test : List ℕ → ℕ → List Operand × Rest → Instr × Rest
as_test name label w = (i.Test name label w.0, w.1)

abbrev last_part : (looks : List Look) → List Spelled × Rest → Option (Vals (Looks looks ∷ []) × Rest)
last_part looks v = option_map (λ vs. ((v.0, vs.0), vs.1)) (take_all [] v.1)

abbrev with_label : (looks : List Look) → ℕ → Vals (Looks looks ∷ []) × Rest → Vals (Jump ∷ Looks looks ∷ []) × Rest
with_label looks label vs = ((label, vs.0), vs.1)

abbrev made : List ℕ → (looks : List Look) → Vals (Jump ∷ Looks looks ∷ []) × Rest → Instr × Rest
made name looks ws = (i.Test name ws.0.0 (operands_from ws.0.1.0), ws.1)

test_again : (name : List ℕ) (looks : List Look) (label : ℕ) (q : Option (List Spelled × Rest)) →
    option_map (as_test name label) (option_map as_seen q) ≡ option_map (made name looks) (option_map (with_label looks label) (option_and_then (last_part looks) q))
test_again name looks label None = refl
test_again name looks label (Some q) = refl

abbrev all_parts : (looks : List Look) → ℕ × Rest → Option (Vals (Jump ∷ Looks looks ∷ []) × Rest)
all_parts looks p = option_map (with_label looks p.0) (take_all (Looks looks ∷ []) p.1)

label_again : (name : List ℕ) (looks : List Look) (v : Option (ℕ × Rest)) →
    option_and_then (λ p. option_map (as_test name p.0) (saw looks p.1)) v ≡ option_map (made name looks) (option_and_then (all_parts looks) v)
label_again name looks None = refl
label_again name looks (Some p) = ap (option_map (as_test name p.0)) (parts_again looks p.1.parts p.1.wide p.1.last) ∙ test_again name looks p.0 (take (Looks looks) p.1)

pub tested_is : (name : List ℕ) (looks : List Look) (r : Rest) → tested name looks r ≡ taken (test_row name looks) r
tested_is name looks r = label_again name looks (take Jump r)

-- nothing is left to stand for what a test looks at
pub none_left : (last : ℕ) (g : Got (List Operand)) (ls : List Look) → 1 ≤ length ls → onto g (seen_with last ls []) ≡ None
none_left last g [] few = absurd (omega arith)
none_left last g (l ∷ ls) few = refl
