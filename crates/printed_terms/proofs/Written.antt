-- The tokens of the text of a term spell that term.
use Rattle.std.proofs.Common.{◌≡◌, ◌≤◌, nat_lt, ℕ, ℤ, max, Bool, true, false, List, [], ◌∷◌, ◌++◌, map, Some, None, refl, sym, ap, ◌∙◌, subst, arith, append_assoc, append-nil, ◌&&◌, not, if◌then◌else◌}
use Rattle.std.proofs.Math.Nat.{le-max_left, le-max_right}
use Rattle.std.proofs.lemmas.Bool.Decides.{nat_tests}
use Rattle.std.proofs.lemmas.Str.{IsUtf8-from_is_utf8}
use Rattle.std.specs.List.{list_all, flat_map}
use Rattle.std.specs.Str.{chars, is_utf8}
use Rattle.term_tree.specs.declared.term.Term as t
use Rattle.term_tree.specs.declared.term.Term.{Term}
use Rattle.term_tree.specs.declared.name.TheConstants.{MOST_CHARACTERS}
use Rattle.term_tree.specs.Name.{characters_in, is_name}
use Rattle.term_tree.specs.Term.{tree_of, is_canonical}
use Rattle.term_tree.specs.Text.{text_of, joined, atom_text, is_bare, is_reserved, quoted_character}
use Rattle.text_forms.specs.Spelling.{with_tail}
use Rattle.term_tree.proofs.TermLaws.{term_ind, tree_of-Int, tree_of-Atom, both_hold, canonical-Int, canonical-proper, canonical-Tuple, improper_parts}
use Rattle.term_tree.proofs.TextLaws.{text-List, text-Tuple}
use Rattle.text_tokens.specs.declared.token.Token.{Token}
use Rattle.text_tokens.specs.declared.token.Token.TheVariants as k
use Rattle.text_tokens.specs.Tokens.{More, tokens, Lined, at, lined}
use Rattle.text_forms.specs.Spelling.{first_line, Spells, One, Terms, integer, atom, empty_tuple, tuple, empty_list, list, tail, one_term, more_terms}
use Rattle.text_forms.proofs.Readings.{lined-joined}
use Rattle.printed_terms.proofs.Allowed.{Allows, joined_allows, tuple_allows, list_allows, deeper_allows, integer_allows, atom_allows, comma_allows, bar_allows, nothing_allows}
use Rattle.printed_terms.specs.Printable.{has_names, depth_of, deepest}
use Rattle.printed_terms.proofs.Lexing.{Stops, IsMark, comma, bar, open_list, close_list, open_tuple, close_tuple}
use Rattle.printed_terms.proofs.Numbers.{integer_token}
use Rattle.printed_terms.proofs.BareAtoms.{bare_token}
use Rattle.printed_terms.proofs.QuotedAtoms.{quoted_token}
use Rattle.printed_terms.proofs.Layers.{depth-proper, depth-improper, depth-Tuple, names-Atom, names-proper, names-improper, names-Tuple, with_tail-end}

-- ---- atoms

few : (n : ℕ) → not (nat_lt MOST_CHARACTERS n) ≡ true → n ≤ MOST_CHARACTERS
few n h = grind (arith, nat_tests)

by_form : (a rest : List ℕ) (plain : Bool) → (is_bare a && not (is_reserved a)) ≡ plain → is_name a ≡ true → Stops rest
    → tokens ((if plain then a else 39 ∷ (flat_map quoted_character (chars a) ++ 39 ∷ [])) ++ rest) ≡ More 1 (k.Atom a) (tokens rest)
by_form a rest true e h stop =
    let parts = both_hold (is_utf8 a) _ h in
    let form = both_hold (is_bare a) (not (is_reserved a)) e in
    bare_token a rest form.0 (few (characters_in a) parts.1) stop
by_form a rest false e h stop =
    let parts = both_hold (is_utf8 a) _ h in
    quoted_token a rest (IsUtf8-from_is_utf8 a parts.0) (few (characters_in a) parts.1)

atom_token : (a rest : List ℕ) → is_name a ≡ true → Stops rest → tokens (atom_text a ++ rest) ≡ More 1 (k.Atom a) (tokens rest)
unfolding atom_text
atom_token a rest h stop = by_form a rest (is_bare a && not (is_reserved a)) refl h stop

-- ---- commas and brackets

-- the text and its tokens, before a place where each token stops
abbrev Reads : List ℕ → List Lined → Type 0
Reads text ts = (rest : List ℕ) → Stops rest → tokens (text ++ rest) ≡ lined ts (tokens rest)

-- with a mark between them
mark_reads : (b : ℕ) (token : Token) (text others : List ℕ) (ts us : List Lined) → IsMark b token → Reads text ts → Reads others us → Reads (text ++ b ∷ others) (ts ++ at 1 token ∷ us)
mark_reads b token text others ts us is reads more rest stop =
    ap tokens (append_assoc text (b ∷ others) rest)
    ∙ reads (b ∷ (others ++ rest)) (is.stops (others ++ rest))
    ∙ ap (lined ts) (is.reads (others ++ rest) ∙ ap (More 1 token) (more rest stop))
    ∙ sym (lined-joined ts (at 1 token ∷ us) (tokens rest))

-- in brackets
pub brackets_read : (b c : ℕ) (left right : Token) (text : List ℕ) (ts : List Lined) → IsMark b left → IsMark c right → Reads text ts → (rest : List ℕ) →
    tokens (b ∷ ((text ++ c ∷ []) ++ rest)) ≡ lined (at 1 left ∷ (ts ++ at 1 right ∷ [])) (tokens rest)
brackets_read b c left right text ts begins ends reads rest =
    begins.reads ((text ++ c ∷ []) ++ rest)
    ∙ ap (λ bs. More 1 left (tokens bs)) (append_assoc text (c ∷ []) rest)
    ∙ ap (More 1 left) (reads (c ∷ rest) (ends.stops rest) ∙ ap (lined ts) (ends.reads rest) ∙ sym (lined-joined ts (at 1 right ∷ []) (tokens rest)))

-- ---- terms

-- the tokens of the text of a term, all in the first line, with no more brackets open than the term is deep
pub record Written (x : Term) : Type 0 where
  pub ts : List Lined
  pub spells : Spells (One x) ts
  pub allows : Allows (depth_of x) ts
  pub first : first_line ts ≡ 1
  pub reads : Reads (text_of (tree_of x)) ts

-- the same of one or more terms with commas between them
record WrittenAll (xs : List Term) : Type 0 where
  ts : List Lined
  spells : Spells (Terms xs) ts
  allows : Allows (deepest (map depth_of xs)) ts
  reads : Reads (joined (map tree_of xs)) ts

IsWritten : Term → Type 0
IsWritten x = is_canonical x ≡ true → has_names x ≡ true → Written x

abbrev bare : List ((x : Term) × IsWritten x) → List Term
bare all = map (λ e. e.0) all

-- a term before others
terms_of : (x : Term) (ts : List Lined) (all : List Term) (us : List Lined) → Spells (One x) ts → Spells (Terms all) us → Spells (Terms (x ∷ all)) (ts ++ at 1 k.Comma ∷ us)
terms_of x ts _ us d (one_term y _ e) =
    let P : List Lined → Type 0 = λ vs. Spells (Terms (x ∷ y ∷ [])) vs in subst P (append_assoc ts (at 1 k.Comma ∷ []) us) (more_terms 1 (x ∷ []) ts y us (one_term x ts d) e)
terms_of x ts _ _ d (more_terms line all us y vs e f) =
    let joins : ((ts ++ at 1 k.Comma ∷ us) ++ at line k.Comma ∷ []) ++ vs ≡ ts ++ at 1 k.Comma ∷ ((us ++ at line k.Comma ∷ []) ++ vs) = simp append_assoc in
    let P : List Lined → Type 0 = λ ws. Spells (Terms (x ∷ (all ++ y ∷ []))) ws in
    subst P joins (more_terms line (x ∷ all) (ts ++ at 1 k.Comma ∷ us) y vs (terms_of x ts all us d e) f)

all_written : (x : (x : Term) × IsWritten x) (all : List ((x : Term) × IsWritten x)) → list_all is_canonical (bare (x ∷ all)) ≡ true → list_all has_names (bare (x ∷ all)) ≡ true → WrittenAll (bare (x ∷ all))
unfolding IsWritten
all_written x [] c n =
    let w = x.1 (both_hold (is_canonical x.0) true c).0 (both_hold (has_names x.0) true n).0 in
    record {
      ts = w.ts;
      spells = one_term x.0 w.ts w.spells;
      allows = deeper_allows (depth_of x.0) (deepest (map depth_of (bare (x ∷ [])))) w.ts (le-max_left (depth_of x.0) 0) w.allows;
      reads = (λ rest stop. ap (λ bs. tokens (bs ++ rest)) (append-nil (text_of (tree_of x.0))) ∙ w.reads rest stop);
    }
all_written x (y ∷ all) c n =
    let fine = both_hold (is_canonical x.0) (list_all is_canonical (bare (y ∷ all))) c in
    let named = both_hold (has_names x.0) (list_all has_names (bare (y ∷ all))) n in
    let w = x.1 fine.0 named.0 in
    let more = all_written y all fine.1 named.1 in
    let deep : ℕ = deepest (map depth_of (bare (y ∷ all))) in
    let most : ℕ = deepest (map depth_of (bare (x ∷ y ∷ all))) in
    record {
      ts = w.ts ++ at 1 k.Comma ∷ more.ts;
      spells = terms_of x.0 w.ts (bare (y ∷ all)) more.ts w.spells more.spells;
      allows = joined_allows most w.ts (at 1 k.Comma ∷ more.ts) (deeper_allows (depth_of x.0) most w.ts (le-max_left (depth_of x.0) deep) w.allows)
          (joined_allows most (at 1 k.Comma ∷ []) more.ts (comma_allows most) (deeper_allows deep most more.ts (le-max_right (depth_of x.0) deep) more.allows));
      reads = mark_reads 44 k.Comma (text_of (tree_of x.0)) (joined (map tree_of (bare (y ∷ all)))) w.ts more.ts comma w.reads more.reads;
    }

int_written : (i : ℤ) → IsWritten (t.Int i)
unfolding IsWritten
int_written i c n = record {
  ts = at 1 (k.Integer i) ∷ [];
  spells = integer 1 i;
  allows = integer_allows (depth_of (t.Int i)) i;
  first = refl;
  reads = (λ rest stop. ap (λ tree. tokens (text_of tree ++ rest)) (tree_of-Int i) ∙ integer_token i rest (sym (canonical-Int i) ∙ c) stop);
}

atom_written : (a : List ℕ) → IsWritten (t.Atom a)
unfolding IsWritten
atom_written a c n = record {
  ts = at 1 (k.Atom a) ∷ [];
  spells = atom 1 a;
  allows = atom_allows (depth_of (t.Atom a)) a;
  first = refl;
  reads = (λ rest stop. ap (λ tree. tokens (text_of tree ++ rest)) (tree_of-Atom a) ∙ atom_token a rest (sym (names-Atom a) ∙ n) stop);
}

-- what stands in the brackets of a list or of a tuple
bracketed : (x : Term) (b c : ℕ) (left right : Token) (text : List ℕ) (ts : List Lined) → IsMark b left → IsMark c right → text_of (tree_of x) ≡ b ∷ (text ++ c ∷ []) → Spells (One x) (at 1 left ∷ (ts ++ at 1 right ∷ [])) →
    Allows (depth_of x) (at 1 left ∷ (ts ++ at 1 right ∷ [])) → Reads text ts → Written x
bracketed x b c left right text ts begins ends is spells allows reads =
    record { ts = at 1 left ∷ (ts ++ at 1 right ∷ []); spells = spells; allows = allows; first = refl; reads = (λ rest stop. ap (λ bs. tokens (bs ++ rest)) is ∙ brackets_read b c left right text ts begins ends reads rest) }

proper_written : (all : List ((x : Term) × IsWritten x)) → IsWritten (t.List (bare all) None)
unfolding IsWritten
proper_written [] c n =
    bracketed (t.List [] None) 91 93 k.OpenList k.CloseBracket [] [] open_list close_list (text-List [] None c) (empty_list 1 1)
    (list_allows 0 (depth_of (t.List [] None)) [] (omega (arith, depth-proper [])) (nothing_allows 0)) (λ rest stop. refl)
proper_written (x ∷ all) c n =
    let items : List Term = bare (x ∷ all) in
    let w = all_written x all (sym (canonical-proper items) ∙ c) (sym (names-proper items) ∙ n) in
    bracketed (t.List items None) 91 93 k.OpenList k.CloseBracket (joined (map tree_of items)) w.ts open_list close_list (text-List items None c) (list 1 1 items w.ts w.spells)
    (list_allows (deepest (map depth_of items)) (depth_of (t.List items None)) w.ts (omega (arith, depth-proper items, le-max_left (deepest (map depth_of items)) 0)) w.allows) w.reads

improper_written : (all : List ((x : Term) × IsWritten x)) (e : Term) → IsWritten e → IsWritten (t.List (bare all) (Some e))
unfolding IsWritten
improper_written [] e p c n = absurd (omega (arith, (improper_parts [] e c).some))
improper_written (x ∷ all) e p c n =
    let items : List Term = bare (x ∷ all) in
    let parts = improper_parts items e c in
    let named = both_hold (list_all has_names items) (has_names e) (sym (names-improper items e) ∙ n) in
    let front : ℕ = deepest (map depth_of items) in
    let deep : ℕ = max front (depth_of e) in
    let w = all_written x all parts.front named.0 in
    let v = p parts.tail named.1 in
    let ts : List Lined = w.ts ++ at 1 k.Bar ∷ v.ts in
    let text : List ℕ = joined (map tree_of items) ++ 124 ∷ text_of (tree_of e) in
    let P : Term → Type 0 = λ z. Spells (One z) (at 1 k.OpenList ∷ (ts ++ at 1 k.CloseBracket ∷ [])) in
    let Q : List Lined → Type 0 = λ us. Spells (One (with_tail items e)) (at 1 k.OpenList ∷ (us ++ at 1 k.CloseBracket ∷ [])) in
    bracketed (t.List items (Some e)) 91 93 k.OpenList k.CloseBracket text ts open_list close_list
    (text-List items (Some e) c ∙ ap (λ bs. 91 ∷ bs) (sym (append_assoc (joined (map tree_of items)) (124 ∷ text_of (tree_of e)) (93 ∷ []))))
    (subst P (with_tail-end items e parts.no_list) (subst Q (append_assoc w.ts (at 1 k.Bar ∷ []) v.ts) (tail 1 1 1 items w.ts e v.ts w.spells v.spells)))
    (list_allows deep (depth_of (t.List items (Some e))) ts (omega (arith, depth-improper items e))
    (joined_allows deep w.ts (at 1 k.Bar ∷ v.ts) (deeper_allows front deep w.ts (le-max_left front (depth_of e)) w.allows)
    (joined_allows deep (at 1 k.Bar ∷ []) v.ts (bar_allows deep) (deeper_allows (depth_of e) deep v.ts (le-max_right front (depth_of e)) v.allows))))
    (mark_reads 124 k.Bar (joined (map tree_of items)) (text_of (tree_of e)) w.ts v.ts bar w.reads v.reads)

tuple_written : (all : List ((x : Term) × IsWritten x)) → IsWritten (t.Tuple (bare all))
unfolding IsWritten
tuple_written [] c n =
    bracketed (t.Tuple []) 123 125 k.OpenTuple k.CloseBrace [] [] open_tuple close_tuple (text-Tuple []) (empty_tuple 1 1)
    (tuple_allows 0 (depth_of (t.Tuple [])) [] (omega (arith, depth-Tuple [])) (nothing_allows 0)) (λ rest stop. refl)
tuple_written (x ∷ all) c n =
    let items : List Term = bare (x ∷ all) in
    let w = all_written x all (sym (canonical-Tuple items) ∙ c) (sym (names-Tuple items) ∙ n) in
    bracketed (t.Tuple items) 123 125 k.OpenTuple k.CloseBrace (joined (map tree_of items)) w.ts open_tuple close_tuple (text-Tuple items) (tuple 1 1 items w.ts w.spells)
    (tuple_allows (deepest (map depth_of items)) (depth_of (t.Tuple items)) w.ts (omega (arith, depth-Tuple items)) w.allows) w.reads

all_are_written : (x : Term) → IsWritten x
all_are_written = term_ind IsWritten int_written atom_written proper_written improper_written tuple_written

-- what a term prints spells it
pub written : (x : Term) → is_canonical x ≡ true → has_names x ≡ true → Written x
unfolding IsWritten
written x c n = all_are_written x c n
