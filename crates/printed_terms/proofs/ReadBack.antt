-- What a term prints is read as that term.
use Rattle.std.proofs.Common.{◌≡◌, ℕ, suc, ◌≤◌, Bool, true, false, if◌then◌else◌, nat_lt, List, [], ◌∷◌, ◌++◌, Ok, refl, sym, ap, ◌∙◌, subst, arith, append-nil}
use lib.Chars.{codes}
use Rattle.term_tree.specs.declared.term.Term.{Term}
use Rattle.term_tree.specs.Term.{tree_of, is_canonical}
use Rattle.term_tree.specs.Text.{text_of}
use Rattle.text_forms.specs.declared.form.Form.{Form}
use Rattle.text_tokens.specs.declared.token.Token.TheVariants as k
use Rattle.text_tokens.specs.Tokens.{Stop, tokens, at, lined}
use Rattle.text_forms.specs.Spelling.{one_term, AreForms, no_forms, more_forms, some_arguments}
use Rattle.text_forms.proofs.Readings.{lined-joined}
use Rattle.text_forms.proofs.Reached.{allowed_joined}
use Rattle.asm_text.specs.Reading.{reading, arguments}
use Rattle.asm_text.proofs.ReadingLaws.{reading-one, arguments-one}
use Rattle.printed_terms.specs.Printable.{has_names, depth_of}
use Rattle.printed_terms.proofs.Lexing.{stops_dot, dot_token, open_list, close_list}
use Rattle.printed_terms.proofs.Allowed.{list_allows}
use Rattle.printed_terms.proofs.Written.{brackets_read, written}
use Rattle.tagged_words.specs.Seen.{whole}
use Rattle.word_walks.proofs.WholeTexts.{whole_terms_are_spelt}
use Rattle.word_walks.specs.Nodes.{nodes_of}
use Rattle.word_walks.specs.Spelt.{Large, Text, spelt}

pub in_brackets : (x : Term) → is_canonical x ≡ true → has_names x ≡ true → depth_of x ≤ 199 → arguments (codes "[" ++ text_of (tree_of x) ++ codes "]") ≡ Ok (x ∷ [])
in_brackets x c n d =
    let w = written x c n in
    let is : tokens (91 ∷ (text_of (tree_of x) ++ 93 ∷ [])) ≡ lined (at 1 k.OpenList ∷ (w.ts ++ at 1 k.CloseBracket ∷ [])) (Stop 1) =
    ap (λ bs. tokens (91 ∷ bs)) (sym (append-nil (text_of (tree_of x) ++ 93 ∷ []))) ∙ brackets_read 91 93 k.OpenList k.CloseBracket (text_of (tree_of x)) w.ts open_list close_list w.reads [] in
    arguments-one (91 ∷ (text_of (tree_of x) ++ 93 ∷ [])) (Ok (x ∷ []))
    (at 1 k.OpenList ∷ (w.ts ++ at 1 k.CloseBracket ∷ []), 1, is, (some_arguments 1 1 (x ∷ []) w.ts (one_term x w.ts w.spells), (list_allows (depth_of x) (suc (depth_of x)) w.ts (omega arith) w.allows [] (omega arith)).fine))

-- the one form of a text in the first line
abbrev form_of : ℕ → Term → Form
form_of line x = record { line = line; term = x }

pub before_dot : (x : Term) → is_canonical x ≡ true → has_names x ≡ true → depth_of x ≤ 200 → reading (text_of (tree_of x) ++ codes ".") ≡ Ok (form_of 1 x ∷ [])
before_dot x c n d =
    let w = written x c n in
    let is : tokens (text_of (tree_of x) ++ 46 ∷ []) ≡ lined (w.ts ++ at 1 k.Dot ∷ []) (Stop 1) =
    w.reads (46 ∷ []) stops_dot ∙ ap (lined w.ts) dot_token ∙ sym (lined-joined w.ts (at 1 k.Dot ∷ []) (Stop 1)) in
    let P : ℕ → Type 0 = λ line. AreForms (form_of line x ∷ []) (w.ts ++ at 1 k.Dot ∷ []) in
    let forms : P 1 = subst P w.first (more_forms [] [] x w.ts 1 no_forms w.spells) in
    reading-one (text_of (tree_of x) ++ 46 ∷ []) (Ok (form_of 1 x ∷ [])) (w.ts ++ at 1 k.Dot ∷ [], 1, is, (forms, allowed_joined [] w.ts (at 1 k.Dot ∷ []) (w.allows [] (omega arith)).fine (refl, tt)))

-- two terms with one text are one term
pub one_text : (x y : Term) → is_canonical x ≡ true → is_canonical y ≡ true → has_names x ≡ true → has_names y ≡ true → depth_of x ≤ 200 → depth_of y ≤ 200
    → text_of (tree_of x) ≡ text_of (tree_of y) → x ≡ y
one_text x y c e n m d f same =
    let forms : Ok (form_of 1 x ∷ []) ≡ Ok (form_of 1 y ∷ []) = sym (before_dot x c n d) ∙ ap (λ text. reading (text ++ codes ".")) same ∙ before_dot y e m f in
    let first : form_of 1 x ≡ form_of 1 y = cc in
    ap (λ form. form.term) first

-- what is printed of a word that stands for such a term
spelt_read : (x : Term) (large : Bool) (nodes n : ℕ) (text : List ℕ) → (if large then Large else Text (text_of (tree_of x)) n) ≡ Text text nodes → text_of (tree_of x) ≡ text
spelt_read x true nodes n text e = absurd cc
spelt_read x false nodes n text e = cc

pub word_read : (x : Term) (budget nodes : ℕ) (text : List ℕ) → is_canonical x ≡ true → has_names x ≡ true → depth_of x ≤ 199 → spelt budget (whole (tree_of x)) ≡ Text text nodes → arguments (codes "[" ++ text ++ codes "]") ≡ Ok (x ∷ [])
word_read x budget nodes text c n d e =
    let same = spelt_read x (nat_lt budget (nodes_of (tree_of x))) nodes (nodes_of (tree_of x)) text (sym (whole_terms_are_spelt budget (tree_of x)) ∙ e) in
    subst (λ bytes. arguments (codes "[" ++ bytes ++ codes "]") ≡ Ok (x ∷ [])) same (in_brackets x c n d)

pub word_form : (x : Term) (budget nodes : ℕ) (text : List ℕ) → is_canonical x ≡ true → has_names x ≡ true → depth_of x ≤ 200 → spelt budget (whole (tree_of x)) ≡ Text text nodes → reading (text ++ codes ".") ≡ Ok (form_of 1 x ∷ [])
word_form x budget nodes text c n d e =
    let same = spelt_read x (nat_lt budget (nodes_of (tree_of x))) nodes (nodes_of (tree_of x)) text (sym (whole_terms_are_spelt budget (tree_of x)) ∙ e) in
    subst (λ bytes. reading (bytes ++ codes ".") ≡ Ok (form_of 1 x ∷ [])) same (before_dot x c n d)
