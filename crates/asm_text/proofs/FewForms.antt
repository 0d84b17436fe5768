-- A text has at least as many bytes as tokens, and its forms take some tokens each.
use Rattle.std.proofs.Common.{◌≡◌, ℕ, ℤ, pos, ◌+◌, ◌-◌, ◌≤◌, Bool, true, false, nat_lt, if◌then◌else◌, List, [], ◌∷◌, ◌++◌, length, Option, Some, None, Ok, ap, arith, length-append}
use denote.Hole.Carrier.{roll}
use Rattle.term_tree.specs.declared.term.Term as t
use Rattle.term_tree.specs.declared.term.Term.{Term, out-Term, roll-Term, out-roll-Term}
use Rattle.term_tree.specs.declared.term.Term.TheOpen.{Term-F}
use Rattle.text_tokens.specs.declared.token.Token.TheVariants as k
use Rattle.text_tokens.specs.declared.token.Piece.{Piece}
use Rattle.text_tokens.specs.declared.token.Piece.TheVariants as p
use Rattle.text_forms.specs.declared.form.Form.{Form}
use Rattle.text_forms.specs.Spelling.{with_layer}
use Rattle.text_tokens.specs.Pieces.{piece}
use Rattle.text_tokens.specs.Tokens.{Stop, Bad, More, Lined, at, lined, tokens_after, line_after}
use Rattle.asm_text.specs.Reading.{reading}
use Rattle.text_forms.specs.Spelling.{Phrase, One, Strings, Terms, Pairs, Spells, integer, atom, wide, float, strings, empty_tuple, tuple, empty_list, list, tail, empty_map, map as map_of, one_string, more_strings, one_term, more_terms, one_pair, more_pairs, AreForms, no_forms, more_forms, first_line}
use Rattle.asm_text.proofs.ReadingLaws.{reading-spelled}

-- ---- tokens and bytes

-- a piece has a byte at least
many_tokens : (bs : List ℕ) (skip before line end : ℕ) (ts : List Lined) → tokens_after skip before line bs ≡ lined ts (Stop end) → length ts ≤ length bs
many_tokens [] skip before line end [] e = omega arith
many_tokens [] skip before line end (a ∷ ts) e = absurd cc
many_tokens (b ∷ bs) skip before line end ts e = go (nat_lt 0 skip) (piece (b ∷ bs)) ts (λ k us h. many_tokens bs k line (line_after line b) end us h) e
  where
    go : (skips : Bool) (q : Piece) (ts : List Lined) → ((k : ℕ) (us : List Lined) → tokens_after k line (line_after line b) bs ≡ lined us (Stop end) → length us ≤ length bs) →
        (if skips then tokens_after (skip - 1) line (line_after line b) bs
        else elim q [ p.Blank size ↦ tokens_after (size - 1) line (line_after line b) bs | p.Whole token size ↦ More line token (tokens_after (size - 1) line (line_after line b) bs) | p.Bad reason ↦ Bad line reason ]) ≡ lined ts (Stop end) →
        length ts ≤ length (b ∷ bs)
    go true q ts ih e = omega (arith, ih (skip - 1) ts e)
    go false (p.Blank size) ts ih e = omega (arith, ih (size - 1) ts e)
    go false (p.Bad reason) [] ih e = omega arith
    go false (p.Bad reason) (a ∷ ts) ih e = absurd cc
    go false (p.Whole token size) [] ih e = omega arith
    go false (p.Whole token size) (a ∷ ts) ih e = let same : tokens_after (size - 1) line (line_after line b) bs ≡ lined ts (Stop end) = cc in omega (arith, ih (size - 1) ts same)

-- ---- terms and tokens

-- the least tokens of a term: those of a tuple are its brackets and one for each element
abbrev pub least_in : Term-F Term → ℕ
least_in (Term-F.Tuple parts) = length parts + 2
least_in (Term-F.Int i) = 1
least_in (Term-F.Atom a) = 1
least_in (Term-F.List parts end) = 1

abbrev pub least : Term → ℕ
least term = least_in (out-Term term)

least-Int : (i : ℤ) → least (t.Int i) ≡ 1
unfolding roll-Term roll
least-Int i = ap least_in (out-roll-Term (Term-F.Int i))

least-Atom : (a : List ℕ) → least (t.Atom a) ≡ 1
unfolding roll-Term roll
least-Atom a = ap least_in (out-roll-Term (Term-F.Atom a))

least-List : (all : List Term) (end : Option Term) → least (t.List all end) ≡ 1
unfolding roll-Term roll
least-List all end = ap least_in (out-roll-Term (Term-F.List all end))

pub least-Tuple : (all : List Term) → least (t.Tuple all) ≡ length all + 2
unfolding roll-Term roll
least-Tuple all = ap least_in (out-roll-Term (Term-F.Tuple all))

least_layer : (items : List Term) (end : Term) (layer : Term-F Term) → least (with_layer items end layer) ≡ 1
least_layer items end (Term-F.List more last) = least-List (items ++ more) last
least_layer items end (Term-F.Int i) = least-List items (Some end)
least_layer items end (Term-F.Atom a) = least-List items (Some end)
least_layer items end (Term-F.Tuple parts) = least-List items (Some end)

Takes : Phrase → List Lined → Type 0
Takes (One term) ts = least term ≤ length ts
Takes (Strings codes) ts = 1 ≤ length ts
Takes (Terms all) ts = length all ≤ length ts
Takes Pairs ts = 1 ≤ length ts

least_some : (layer : Term-F Term) → 1 ≤ least_in layer
least_some (Term-F.Tuple parts) = omega arith
least_some (Term-F.Int i) = omega arith
least_some (Term-F.Atom a) = omega arith
least_some (Term-F.List parts end) = omega arith

takes : (phrase : Phrase) (ts : List Lined) → Spells phrase ts → Takes phrase ts
unfolding Takes
takes _ _ (integer line n) = omega (arith, least-Int n)
takes _ _ (atom line a) = omega (arith, least-Atom a)
takes _ _ (wide line) = omega (arith, least-Int (pos 0))
takes _ _ (float line) = omega (arith, least-Int (pos 0))
takes _ _ (strings codes ts s) = let n = takes (Strings codes) ts s in omega (arith, least-List codes None, n)
takes _ _ (empty_tuple line end) = omega (arith, least-Tuple [])
takes _ _ (tuple line end all ts s) = let n = takes (Terms all) ts s in omega (arith, least-Tuple all, n, length-append ts (at end k.CloseBrace ∷ []))
takes _ _ (empty_list line end) = omega (arith, least-List [] None)
takes _ _ (list line end all ts s) = omega (arith, least-List all None)
takes _ _ (tail line bar end all ts last us s r) = omega (arith, least_layer all last (out-Term last))
takes _ _ (empty_map line end) = omega (arith, least-Int (pos 0))
takes _ _ (map_of line end ts s) = omega (arith, least-Int (pos 0))
takes _ _ (one_string line codes) = omega arith
takes _ _ (more_strings line codes more ts s) = omega (arith, length-append ts (at line (k.Text more) ∷ []))
takes _ _ (one_term term ts s) = let n = takes (One term) ts s in omega (arith, n, least_some (out-Term term))
takes _ _ (more_terms line all ts term us s r) =
    let n = takes (Terms all) ts s in
    let m = takes (One term) us r in
    omega (arith, n, m, least_some (out-Term term), length-append all (term ∷ []), length-append ts (at line k.Comma ∷ []), length-append (ts ++ at line k.Comma ∷ []) us)
takes _ _ (one_pair line key value ts us s r) = omega (arith, length-append ts (at line k.Arrow ∷ []), length-append (ts ++ at line k.Arrow ∷ []) us)
takes _ _ (more_pairs comma line key value ts us vs s r q) =
    omega (arith, length-append ts (at comma k.Comma ∷ []), length-append (ts ++ at comma k.Comma ∷ []) ((us ++ at line k.Arrow ∷ []) ++ vs))

-- the least tokens of forms: those of their terms, and the dots
abbrev pub weight : List Form → ℕ
weight [] = 0
weight (form ∷ forms) = least form.term + 1 + weight forms

weight_more : (forms : List Form) (form : Form) → weight (forms ++ form ∷ []) ≡ weight forms + (least form.term + 1)
weight_more [] form = omega arith
weight_more (f ∷ forms) form = let n = weight_more forms form in omega (arith, n)

forms_take : (forms : List Form) (ts : List Lined) → AreForms forms ts → weight forms ≤ length ts
unfolding Takes
forms_take _ _ no_forms = omega arith
forms_take _ _ (more_forms forms ts term us dot s r) =
    let n = forms_take forms ts s in
    let m = takes (One term) us r in
    let w = weight_more forms (record { line = first_line us; term = term }) in
    omega (arith, n, m, w, length-append us (at dot k.Dot ∷ []), length-append ts (us ++ at dot k.Dot ∷ []))

-- a text has at least as many bytes as its forms have tokens
pub forms_weigh : (text : List ℕ) (forms : List Form) → reading text ≡ Ok forms → weight forms ≤ length text
forms_weigh text forms e =
    let s = reading-spelled text forms e in
    let few : length s.0 ≤ length text = many_tokens text 0 1 1 s.1 s.0 s.2 in
    omega (arith, few, forms_take forms s.0 s.3.0)

some_weight : (forms : List Form) → length forms ≤ weight forms
some_weight [] = omega arith
some_weight (form ∷ forms) = let n = some_weight forms in omega (arith, n)

pub forms_few : (text : List ℕ) (forms : List Form) → reading text ≡ Ok forms → length forms ≤ length text
forms_few text forms e = omega (arith, some_weight forms, forms_weigh text forms e)
