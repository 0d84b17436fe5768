-- What is written weighs no more than its tokens, and the terms of a text no more than its bytes bear.
use Rattle.std.proofs.Common.{◌≡◌, ℕ, pos, ◌+◌, ◌-◌, ◌*◌, ◌≤◌, List, [], ◌∷◌, ◌++◌, length, Ok, arith, length-append}
use Rattle.std.specs.List.{sum_by}
use Rattle.std.proofs.lemmas.List.Sums.{sum_by-append, sum_by-cons, sum_by_push}
use Rattle.text_tokens.specs.declared.token.Token.TheVariants as k
use Rattle.text_tokens.specs.Tokens.{Lined, at}
use Rattle.text_forms.specs.declared.form.Form.{Form}
use Rattle.text_forms.specs.Spelling.{Phrase, One, Strings, Terms, Pairs, Spells, integer, atom, wide, float, strings, empty_tuple, tuple, empty_list, list, tail, empty_map, map as map_of, one_string, more_strings, one_term, more_terms, one_pair, more_pairs, AreForms, no_forms, more_forms, first_line}
use Rattle.asm_text.specs.Reading.{reading}
use Rattle.asm_text.proofs.ReadingLaws.{reading-spelled}
use Rattle.module_sizes.proofs.Tokens.{lined_weight, all_weights, tokens_weigh}
use Rattle.module_sizes.proofs.Weights.{weight, weights, weight-Int, weight-Atom, weight-proper, weight-Tuple, weight-with_tail}

-- tokens between two others, and before and behind one
between : (a z : Lined) (ts : List Lined) → all_weights (a ∷ (ts ++ z ∷ [])) ≡ lined_weight a + all_weights ts + lined_weight z
between a z ts = omega (arith, sum_by-cons lined_weight a (ts ++ z ∷ []), sum_by_push lined_weight ts z)

around : (a : Lined) (ts us : List Lined) → all_weights ((ts ++ a ∷ []) ++ us) ≡ all_weights ts + lined_weight a + all_weights us
around a ts us = omega (arith, sum_by-append lined_weight (ts ++ a ∷ []) us, sum_by_push lined_weight ts a)

-- with commas between them, terms weigh no more as the elements of a list, but for the comma that the last one lacks
abbrev Weighs : Phrase → List Lined → Type 0
Weighs (One term) ts = weight term ≤ all_weights ts
Weighs (Strings codes) ts = 2 * length codes + weights codes ≤ all_weights ts
Weighs (Terms all) ts = 2 * length all + weights all ≤ all_weights ts + 2
Weighs Pairs ts = Unit {0}

weighs : (phrase : Phrase) (ts : List Lined) → Spells phrase ts → Weighs phrase ts
weighs _ _ (integer line n) = omega (arith, weight-Int n)
weighs _ _ (atom line a) = omega (arith, weight-Atom a)
weighs _ _ (wide line) = omega (arith, weight-Int (pos 0))
weighs _ _ (float line) = omega (arith, weight-Int (pos 0))
weighs _ _ (strings codes ts s) = let n = weighs (Strings codes) ts s in omega (arith, n, weight-proper codes)
weighs _ _ (empty_tuple line end) = omega (arith, weight-Tuple [])
weighs _ _ (tuple line end all ts s) =
    let n = weighs (Terms all) ts s in
    omega (arith, n, weight-Tuple all, between (at line k.OpenTuple) (at end k.CloseBrace) ts)
weighs _ _ (empty_list line end) = omega (arith, weight-proper [])
weighs _ _ (list line end all ts s) =
    let n = weighs (Terms all) ts s in
    omega (arith, n, weight-proper all, between (at line k.OpenList) (at end k.CloseBracket) ts)
weighs _ _ (tail line bar end all ts last us s r) =
    let n = weighs (Terms all) ts s in
    let m = weighs (One last) us r in
    omega (arith, n, m, weight-with_tail all last, between (at line k.OpenList) (at end k.CloseBracket) ((ts ++ at bar k.Bar ∷ []) ++ us), around (at bar k.Bar) ts us)
weighs _ _ (empty_map line end) = omega (arith, weight-Int (pos 0))
weighs _ _ (map_of line end ts s) = omega (arith, weight-Int (pos 0))
weighs _ _ (one_string line codes) = omega arith
weighs _ _ (more_strings line codes more ts s) =
    let n = weighs (Strings codes) ts s in
    omega (arith, n, length-append codes more, sum_by-append weight codes more, sum_by_push lined_weight ts (at line (k.Text more)))
weighs _ _ (one_term term ts s) = let n = weighs (One term) ts s in omega (arith, n)
weighs _ _ (more_terms line all ts term us s r) =
    let n = weighs (Terms all) ts s in
    let m = weighs (One term) us r in
    omega (arith, n, m, length-append all (term ∷ []), sum_by_push weight all term, around (at line k.Comma) ts us)
weighs _ _ (one_pair line key value ts us s r) = tt
weighs _ _ (more_pairs comma line key value ts us vs s r q) = tt

-- ---- forms

abbrev pub form_weight : Form → ℕ
form_weight form = weight form.term

abbrev pub form_weights : List Form → ℕ
form_weights forms = sum_by form_weight forms

forms_weigh : (forms : List Form) (ts : List Lined) → AreForms forms ts → form_weights forms ≤ all_weights ts
forms_weigh _ _ no_forms = omega arith
forms_weigh _ _ (more_forms forms ts term us dot s r) =
    let n = forms_weigh forms ts s in
    let m = weighs (One term) us r in
    let form : Form = record { line = first_line us; term = term } in
    omega (arith, n, m, sum_by_push form_weight forms form, sum_by-append lined_weight ts (us ++ at dot k.Dot ∷ []), sum_by_push lined_weight us (at dot k.Dot))

pub read_weigh : (text : List ℕ) (forms : List Form) → reading text ≡ Ok forms → form_weights forms ≤ 2 * length text
read_weigh text forms e =
    let s = reading-spelled text forms e in
    let few : all_weights s.0 ≤ 2 * (length text - 0) = tokens_weigh text 0 1 1 s.1 s.0 s.2 in
    omega (arith, few, forms_weigh forms s.0 s.3.0)
