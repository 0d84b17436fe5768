-- What is written with canonical tokens is canonical.
use Rattle.std.proofs.Common.{◌≡◌, ℕ, ◌<◌, Bool, true, false, List, [], ◌∷◌, ◌++◌, length, Option, Some, None, refl, sym, ap, ◌∙◌, arith}
use Rattle.std.specs.List.{list_all}
use Rattle.std.specs.Cmp.Derive.{both_true}
use Rattle.std.proofs.lemmas.List.Folds.{list_all-append}
use Rattle.std.proofs.lemmas.List.{length-append}
use denote.Hole.Carrier.{roll}
use Rattle.term_tree.specs.declared.term.Term as t
use Rattle.term_tree.specs.declared.term.Term.{Term, fold-Term, fold-roll-Term, fold_out-Term, roll-Term, out-Term}
use Rattle.term_tree.specs.declared.term.Term.TheOpen.{Term-F}
use Rattle.term_tree.specs.Term.{is_canonical, is_list, layer_mark, Mark}
use Rattle.term_tree.proofs.TermLaws.{canonical-Int, canonical-proper, canonical-Tuple, improper_front, improper_parts, both_hold}
use Rattle.text_tokens.specs.declared.token.Token.TheVariants as k
use Rattle.text_tokens.specs.Tokens.{Lined, at}
use Rattle.text_tokens.proofs.CanonicalTokens.{in_lined}
use Rattle.text_forms.specs.declared.form.Form.{Form}
use Rattle.text_forms.specs.Spelling.{stand_in, with_layer, with_tail, Phrase, One, Strings, Terms, Pairs, Spells, integer, atom, wide, float, strings, empty_tuple, tuple, empty_list, list, tail as tail_of, empty_map, map, one_string, more_strings, one_term, more_terms, one_pair, more_pairs, AreForms, no_forms, more_forms, AreArguments, no_arguments, some_arguments, first_line}

-- ---- terms

canonical-Atom : (a : List ℕ) → is_canonical (t.Atom a) ≡ true
unfolding roll-Term roll
canonical-Atom a = ap (λ m. m.fine) (fold-roll-Term Mark layer_mark (Term-F.Atom a))

canonical-stand_in : is_canonical stand_in ≡ true
canonical-stand_in = canonical-Int _

-- a list with a tail
improper : (items : List Term) (tail : Term) → list_all is_canonical items ≡ true → 0 < length items → is_canonical tail ≡ true → is_list tail ≡ false → is_canonical (t.List items (Some tail)) ≡ true
improper items tail all some fine plain = improper_front items tail (λ none. absurd (omega (arith, ap length none))) plain fine ∙ all

-- a list whose tail is a list
longer : (items more : List Term) (end : Option Term) → list_all is_canonical items ≡ true → is_canonical (t.List more end) ≡ true → is_canonical (t.List (items ++ more) end) ≡ true
longer items more None all fine = canonical-proper (items ++ more) ∙ list_all-append is_canonical items more ∙ both_true all (sym (canonical-proper more) ∙ fine)
longer items more (Some e) all fine =
    let parts = improper_parts more e fine in
    improper (items ++ more) e (list_all-append is_canonical items more ∙ both_true all parts.front) (omega (arith, length-append items more, parts.some)) parts.tail parts.no_list

abbrev mark_of : Term → Mark
mark_of x = fold-Term Mark layer_mark x

opened : (tail : Term) → mark_of tail ≡ mark_of (roll-Term (out-Term tail))
opened tail = fold_out-Term Mark layer_mark tail ∙ sym (fold-roll-Term Mark layer_mark (out-Term tail))

with_layer-canonical : (items : List Term) (tail : Term) (y : Term-F Term) → mark_of tail ≡ mark_of (roll-Term y) →
    list_all is_canonical items ≡ true → 0 < length items → is_canonical tail ≡ true → is_canonical (with_layer items tail y) ≡ true
unfolding roll-Term roll
with_layer-canonical items tail (Term-F.Int n) e all some fine = improper items tail all some fine (ap (λ m. m.is_list) (e ∙ fold-roll-Term Mark layer_mark (Term-F.Int n)))
with_layer-canonical items tail (Term-F.Atom a) e all some fine = improper items tail all some fine (ap (λ m. m.is_list) (e ∙ fold-roll-Term Mark layer_mark (Term-F.Atom a)))
with_layer-canonical items tail (Term-F.Tuple parts) e all some fine = improper items tail all some fine (ap (λ m. m.is_list) (e ∙ fold-roll-Term Mark layer_mark (Term-F.Tuple parts)))
with_layer-canonical items tail (Term-F.List more end) e all some fine = longer items more end all (sym (ap (λ m. m.fine) e) ∙ fine)

with_tail-canonical : (items : List Term) (tail : Term) → list_all is_canonical items ≡ true → 0 < length items → is_canonical tail ≡ true → is_canonical (with_tail items tail) ≡ true
with_tail-canonical items tail all some fine = with_layer-canonical items tail (out-Term tail) (opened tail) all some fine

-- ---- phrases

parts_of : {A : Type 0} (p : A → Bool) (xs ys : List A) → list_all p (xs ++ ys) ≡ true → (list_all p xs ≡ true) × (list_all p ys ≡ true)
parts_of p xs ys e = both_hold (list_all p xs) (list_all p ys) (sym (list_all-append p xs ys) ∙ e)

abbrev Fine : Phrase → Type 0
Fine (One term) = is_canonical term ≡ true
Fine (Strings codes) = list_all is_canonical codes ≡ true
Fine (Terms all) = (list_all is_canonical all ≡ true) × (0 < length all)
Fine Pairs = Unit {0}

canonical : (phrase : Phrase) (ts : List Lined) → Spells phrase ts → list_all in_lined ts ≡ true → Fine phrase
canonical _ _ (integer line n) e = canonical-Int n ∙ (both_hold _ true e).0
canonical _ _ (atom line a) e = canonical-Atom a
canonical _ _ (wide line) e = canonical-stand_in
canonical _ _ (float line) e = canonical-stand_in
canonical _ _ (strings codes ts d) e = canonical-proper codes ∙ canonical (Strings codes) ts d e
canonical _ _ (empty_tuple line end) e = canonical-Tuple []
canonical _ _ (tuple line end all ts d) e = canonical-Tuple all ∙ (canonical (Terms all) ts d (parts_of in_lined ts (at end k.CloseBrace ∷ []) e).0).0
canonical _ _ (empty_list line end) e = canonical-proper []
canonical _ _ (list line end all ts d) e = canonical-proper all ∙ (canonical (Terms all) ts d (parts_of in_lined ts (at end k.CloseBracket ∷ []) e).0).0
canonical _ _ (tail_of line bar end all ts last us d f) e =
    let inside = (parts_of in_lined ((ts ++ at bar k.Bar ∷ []) ++ us) (at end k.CloseBracket ∷ []) e).0 in
    let both_parts = parts_of in_lined (ts ++ at bar k.Bar ∷ []) us inside in
    let front = canonical (Terms all) ts d (parts_of in_lined ts (at bar k.Bar ∷ []) both_parts.0).0 in
    with_tail-canonical all last front.0 front.1 (canonical (One last) us f both_parts.1)
canonical _ _ (empty_map line end) e = canonical-stand_in
canonical _ _ (map line end ts d) e = canonical-stand_in
canonical _ _ (one_string line codes) e = (both_hold (list_all is_canonical codes) true e).0
canonical _ _ (more_strings line codes more ts d) e =
    let parts = parts_of in_lined ts (at line (k.Text more) ∷ []) e in
    list_all-append is_canonical codes more ∙ both_true (canonical (Strings codes) ts d parts.0) (both_hold (list_all is_canonical more) true parts.1).0
canonical _ _ (one_term term ts d) e = (both_true (canonical (One term) ts d e) refl, omega arith)
canonical _ _ (more_terms line all ts term us d f) e =
    let parts = parts_of in_lined (ts ++ at line k.Comma ∷ []) us e in
    let front = canonical (Terms all) ts d (parts_of in_lined ts (at line k.Comma ∷ []) parts.0).0 in
    (list_all-append is_canonical all (term ∷ []) ∙ both_true front.0 (both_true (canonical (One term) us f parts.1) refl), omega (arith, length-append all (term ∷ [])))
canonical _ _ (one_pair line key value ts us d f) e = tt
canonical _ _ (more_pairs comma line key value ts us vs d f g) e = tt

pub canonical_forms : (forms : List Form) (ts : List Lined) → AreForms forms ts → list_all in_lined ts ≡ true → list_all (λ form. is_canonical form.term) forms ≡ true
canonical_forms _ _ no_forms e = refl
canonical_forms _ _ (more_forms forms ts term us dot d f) e =
    let parts = parts_of in_lined ts (us ++ at dot k.Dot ∷ []) e in
    list_all-append (λ form. is_canonical form.term) forms (record { line = first_line us; term = term } ∷ [])
    ∙ both_true (canonical_forms forms ts d parts.0) (both_true (canonical (One term) us f (parts_of in_lined us (at dot k.Dot ∷ []) parts.1).0) refl)

pub canonical_arguments : (all : List Term) (ts : List Lined) → AreArguments all ts → list_all in_lined ts ≡ true → list_all is_canonical all ≡ true
canonical_arguments _ _ (no_arguments line end) e = refl
canonical_arguments _ _ (some_arguments line end all ts d) e = (canonical (Terms all) ts d (parts_of in_lined ts (at end k.CloseBracket ∷ []) e).0).0
