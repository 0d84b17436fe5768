-- How terms and forms are written, as a relation between them and tokens at their lines (Erlang reference manual, Data
-- Types; docs/TEXT.md, Terms and forms). Which of the tokens are allowed where is said apart, in Places.antt.
use Rattle.std.specs.Prelude.{ℕ, ℤ, pos, List, [], ◌∷◌, ◌++◌, Some, None}
use Rattle.term_tree.specs.declared.term.Term as t
use Rattle.term_tree.specs.declared.term.Term.{Term, out-Term}
use Rattle.term_tree.specs.declared.term.Term.TheOpen.{Term-F}
use Rattle.text_tokens.specs.declared.token.Token.TheVariants as k
use Rattle.text_tokens.specs.Tokens.{Lined, at}
use Rattle.text_forms.specs.declared.form.Form.{Form}

-- the value of a map, and of other terms of a loose place that no term of ours is
abbrev pub stand_in : Term
stand_in = t.Int (pos 0)

-- these terms with a tail of this layer; a list as a tail makes one longer list
abbrev pub with_layer : List Term → Term → Term-F Term → Term
with_layer items tail (Term-F.List more end) = t.List (items ++ more) end
with_layer items tail (Term-F.Int n) = t.List items (Some tail)
with_layer items tail (Term-F.Atom a) = t.List items (Some tail)
with_layer items tail (Term-F.Tuple parts) = t.List items (Some tail)

abbrev pub with_tail : List Term → Term → Term
with_tail items tail = with_layer items tail (out-Term tail)

pub data Phrase : Type 0 where
  One : Term → Phrase  -- a term
  Strings : List Term → Phrase  -- one or more adjacent strings with these code points
  Terms : List Term → Phrase  -- one or more terms with commas between them
  Pairs : Phrase  -- one or more pairs of a map with commas between them

-- the phrase is written so
pub data Spells : Phrase → List Lined → Type 0 where
  integer : (line : ℕ) (n : ℤ) → Spells (One (t.Int n)) (at line (k.Integer n) ∷ [])
  atom : (line : ℕ) (a : List ℕ) → Spells (One (t.Atom a)) (at line (k.Atom a) ∷ [])
  wide : (line : ℕ) → Spells (One stand_in) (at line k.Wide ∷ [])
  float : (line : ℕ) → Spells (One stand_in) (at line k.Float ∷ [])
  strings : (codes : List Term) (ts : List Lined) → Spells (Strings codes) ts → Spells (One (t.List codes None)) ts
  empty_tuple : (line end : ℕ) → Spells (One (t.Tuple [])) (at line k.OpenTuple ∷ at end k.CloseBrace ∷ [])
  tuple : (line end : ℕ) (all : List Term) (ts : List Lined) → Spells (Terms all) ts → Spells (One (t.Tuple all)) (at line k.OpenTuple ∷ (ts ++ at end k.CloseBrace ∷ []))
  empty_list : (line end : ℕ) → Spells (One (t.List [] None)) (at line k.OpenList ∷ at end k.CloseBracket ∷ [])
  list : (line end : ℕ) (all : List Term) (ts : List Lined) → Spells (Terms all) ts → Spells (One (t.List all None)) (at line k.OpenList ∷ (ts ++ at end k.CloseBracket ∷ []))
  tail : (line bar end : ℕ) (all : List Term) (ts : List Lined) (last : Term) (us : List Lined) → Spells (Terms all) ts → Spells (One last) us →
      Spells (One (with_tail all last)) (at line k.OpenList ∷ (((ts ++ at bar k.Bar ∷ []) ++ us) ++ at end k.CloseBracket ∷ []))
  empty_map : (line end : ℕ) → Spells (One stand_in) (at line k.OpenMap ∷ at end k.CloseBrace ∷ [])
  map : (line end : ℕ) (ts : List Lined) → Spells Pairs ts → Spells (One stand_in) (at line k.OpenMap ∷ (ts ++ at end k.CloseBrace ∷ []))
  one_string : (line : ℕ) (codes : List Term) → Spells (Strings codes) (at line (k.Text codes) ∷ [])
  more_strings : (line : ℕ) (codes more : List Term) (ts : List Lined) → Spells (Strings codes) ts → Spells (Strings (codes ++ more)) (ts ++ at line (k.Text more) ∷ [])
  one_term : (term : Term) (ts : List Lined) → Spells (One term) ts → Spells (Terms (term ∷ [])) ts
  more_terms : (line : ℕ) (all : List Term) (ts : List Lined) (term : Term) (us : List Lined) → Spells (Terms all) ts → Spells (One term) us →
      Spells (Terms (all ++ term ∷ [])) ((ts ++ at line k.Comma ∷ []) ++ us)
  one_pair : (line : ℕ) (key value : Term) (ts us : List Lined) → Spells (One key) ts → Spells (One value) us → Spells Pairs ((ts ++ at line k.Arrow ∷ []) ++ us)
  more_pairs : (comma line : ℕ) (key value : Term) (ts us vs : List Lined) → Spells Pairs ts → Spells (One key) us → Spells (One value) vs →
      Spells Pairs ((ts ++ at comma k.Comma ∷ []) ++ ((us ++ at line k.Arrow ∷ []) ++ vs))

abbrev pub first_line : List Lined → ℕ
first_line [] = 1
first_line (a ∷ ts) = a.line

-- forms one after the other, each a term and a dot, with the line of its first token
pub data AreForms : List Form → List Lined → Type 0 where
  no_forms : AreForms [] []
  more_forms : (forms : List Form) (ts : List Lined) (term : Term) (us : List Lined) (dot : ℕ) → AreForms forms ts → Spells (One term) us →
      AreForms (forms ++ record { line = first_line us; term = term } ∷ []) (ts ++ (us ++ at dot k.Dot ∷ []))

-- arguments: terms in the brackets of one list
pub data AreArguments : List Term → List Lined → Type 0 where
  no_arguments : (line end : ℕ) → AreArguments [] (at line k.OpenList ∷ at end k.CloseBracket ∷ [])
  some_arguments : (line end : ℕ) (all : List Term) (ts : List Lined) → Spells (Terms all) ts → AreArguments all (at line k.OpenList ∷ (ts ++ at end k.CloseBracket ∷ []))
