-- A form with its words: what each answer says, and what is answered, both ways.
use Rattle.std.proofs.Common.{◌≡◌, ℕ, Bool, true, false, ◌||◌, List, [], ◌∷◌, ◌++◌, map, Option, Some, None, if◌then◌else◌, codes, refl, sym, ap, subst, ◌∙◌}
use Rattle.std.specs.Prelude.{option_map, is_some}
use Rattle.std.specs.Str.{bytes_eq}
use Rattle.term_tree.specs.declared.term.Term as t
use Rattle.term_tree.specs.declared.term.Term.{Term, out-Term, roll-Term}
use denote.Hole.Carrier.{roll}
use Rattle.term_tree.specs.declared.term.Term.TheOpen.{Term-F}
use Rattle.beam_code.specs.declared.instr.Instr.{Instr}
use Rattle.beam_code.specs.declared.instr.Instr.TheVariants as i
use Rattle.module_forms.specs.declared.rows.Op.{Op}
use Rattle.module_forms.specs.Part.{atom_of}
use Rattle.module_forms.specs.Rows.{Row, Parts, row, op_named}
use Rattle.module_forms.specs.Form.{Answer, Reads, Register, Shape, Unknown, in_limits, answer, answered, headed_with, headed_by, by_name, by_word, rows_behind, bare_instr, is_bare_word, is_front_word, is_known, unless_known, row_of, tagged_with, tagged_of, bare_with, form_in, form_of, test_named_row, bif_named_row, gc_bif_named_row}
use Rattle.form_laws.specs.Form.{IsWritten, HasRow, OneWord, TwoWords, atom, IsForm, Alone, Whole, IsUnsupported, AnAtom, ATuple, AName, IsRight}
use Rattle.form_laws.proofs.Terms.{mapped, atom_of-is, atom_of-back, out-Atom, out-Tuple, opened}
use Rattle.form_laws.proofs.Parts.{or_false}
use Rattle.form_laws.proofs.Whole as parts
use Rattle.form_laws.proofs.Whole.{RightParts}

-- ---- the words of a form decide its row

pub record HasAnswer (last : ℕ) (a : Answer) (i : Instr) (wide : Bool) : Type 0 where
  pub got : Instr
  pub is : a ≡ in_limits wide got
  pub kept : wide ≡ false → got ≡ i

row-back : (last : ℕ) (r : Row) (ts : List Term) (i : Instr) (wide : Bool) → IsWritten last r ts i wide → HasAnswer last (answer last r ts) i wide
row-back last (Parts ks make) ts i wide p = let r = parts.back last ks make ts i wide p in record { got = make r.got; is = r.is; kept = r.kept }

headed-back : (w : List ℕ) (ts : List Term) → headed_by (t.Atom w ∷ ts) ≡ Some (w, ts)
headed-back w ts = ap (λ o. headed_with o ts) (atom_of-back w)

tuple-back : (last : ℕ) (w : List ℕ) (ts : List Term) → form_of last (t.Tuple (t.Atom w ∷ ts)) ≡ tagged_of last w ts
tuple-back last w ts = ap (form_in last) (out-Tuple (t.Atom w ∷ ts)) ∙ ap (by_word last) (headed-back w ts)

second-back : (last : ℕ) (w name : List ℕ) (rows : List ℕ → Option Row) (ts : List Term) → rows_behind w ≡ Some rows → form_of last (t.Tuple (t.Atom w ∷ t.Atom name ∷ ts)) ≡ answered last name (rows name) ts
second-back last w name rows ts e =
    tuple-back last w (t.Atom name ∷ ts) ∙ ap (λ o. tagged_with last w o (t.Atom name ∷ ts)) e ∙ ap (by_name last rows) (headed-back name ts)

words-back : (last : ℕ) (words : List (List ℕ)) (r : Row) (ts : List Term) → HasRow words r → form_of last (t.Tuple (map atom words ++ ts)) ≡ answer last r ts
words-back last _ _ ts (OneWord w r n e) =
    let m = mapped row (op_named w) r e in
    tuple-back last w ts ∙ ap (λ o. tagged_with last w o ts) n ∙ ap (λ o. row_of last w o ts) m.1 ∙ ap (λ q. answer last q ts) m.2
words-back last _ _ ts (TwoWords w name rows r e h) = second-back last w name rows ts e ∙ ap (λ o. answered last name o ts) h

-- ---- what a form writes is answered

pub form-back : (last : ℕ) (x : Term) (i : Instr) (wide : Bool) → IsForm last x i wide → HasAnswer last (form_of last x) i wide
form-back last _ _ _ (Alone w i e) = record { got = i; is = ap (form_in last) (out-Atom w) ∙ ap (bare_with w) e; kept = λ h. refl }
form-back last _ _ _ (Whole words r ts i wide has is) =
    let b = row-back last r ts i wide is in
    record { got = b.got; is = words-back last words r ts has ∙ b.is; kept = b.kept }

-- what is written within the limits is read
pub reads-back : (last : ℕ) (x : Term) (i : Instr) → IsForm last x i false → form_of last x ≡ Reads i
reads-back last x i f = let b = form-back last x i false f in b.is ∙ ap (λ j. Reads j) (b.kept refl)

-- and beyond them it is refused so
pub register-back : (last : ℕ) (x : Term) (i : Instr) → IsForm last x i true → form_of last x ≡ Register
register-back last x i f = (form-back last x i true f).is

-- ---- what is not supported is answered so

record Unheard (w : List ℕ) : Type 0 where
  alone : bare_instr w ≡ None
  behind : rows_behind w ≡ None
  rowless : op_named w ≡ None

none-of : {A : Type 0} (o : Option A) → is_some o ≡ false → o ≡ None
none-of None e = refl
none-of (Some x) e = absurd cc

none-chosen : {A : Type 0} (a b c : Bool) (x y z : A) → a ≡ false → b ≡ false → c ≡ false → (if a then Some x else if b then Some y else if c then Some z else None) ≡ None
none-chosen a b c x y z d e f = rw (d, e, f) refl

unheard : (w : List ℕ) → is_known w ≡ false → Unheard w
unheard w e =
    let whole = or_false (is_bare_word w) (is_front_word w || is_some (op_named w)) e in
    let rest = or_false (is_front_word w) (is_some (op_named w)) whole.1 in
    let bare_one = or_false (bytes_eq w (codes "return")) (bytes_eq w (codes "if_end") || bytes_eq w (codes "raw_raise")) whole.0 in
    let bare_two = or_false (bytes_eq w (codes "if_end")) (bytes_eq w (codes "raw_raise")) bare_one.1 in
    let front_one = or_false (bytes_eq w (codes "function")) (bytes_eq w (codes "test") || (bytes_eq w (codes "bif") || bytes_eq w (codes "gc_bif"))) rest.0 in
    let front_two = or_false (bytes_eq w (codes "test")) (bytes_eq w (codes "bif") || bytes_eq w (codes "gc_bif")) front_one.1 in
    let front_three = or_false (bytes_eq w (codes "bif")) (bytes_eq w (codes "gc_bif")) front_two.1 in
    record {
      alone = none-chosen (bytes_eq w (codes "return")) (bytes_eq w (codes "if_end")) (bytes_eq w (codes "raw_raise")) i.Return i.IfEnd i.RawRaise bare_one.0 bare_two.0 bare_two.1;
      behind = none-chosen (bytes_eq w (codes "test")) (bytes_eq w (codes "bif")) (bytes_eq w (codes "gc_bif")) test_named_row bif_named_row gc_bif_named_row front_two.0 front_three.0 front_three.1;
      rowless = none-of (op_named w) rest.1;
    }

unless-back : (w : List ℕ) → is_known w ≡ false → unless_known w ≡ Unknown w
unless-back w e = ap (λ b. if b then Shape else Unknown w) e

pub unsupported-back : (last : ℕ) (x : Term) (name : List ℕ) → IsUnsupported x name → form_of last x ≡ Unknown name
unsupported-back last _ _ (AnAtom w e) = ap (form_in last) (out-Atom w) ∙ ap (bare_with w) (unheard w e).alone ∙ unless-back w e
unsupported-back last _ _ (ATuple w ts e) =
    let u = unheard w e in
    tuple-back last w ts ∙ ap (λ o. tagged_with last w o ts) u.behind ∙ ap (λ o. row_of last w o ts) u.rowless ∙ unless-back w e
unsupported-back last _ _ (AName w name rows ts e h) = second-back last w name rows ts e ∙ ap (λ o. answered last name o ts) h

-- ---- each answer says what the form writes

abbrev Says : ℕ → Term → Answer → Type 0
Says last x (Reads i) = IsForm last x i false
Says last x Register = (i : Instr) × IsForm last x i true
Says last x Shape = Unit {0}
Says last x (Unknown name) = IsUnsupported x name

row-says : (last : ℕ) (words : List (List ℕ)) (r : Row) (ts : List Term) (a : Answer) → HasRow words r → RightParts last r ts a → Says last (t.Tuple (map atom words ++ ts)) a
row-says last words r ts (Reads i) has is = Whole words r ts i false has is
row-says last words r ts Register has is = (is.0, Whole words r ts is.0 true has is.1)
row-says last words r ts Shape has is = tt
row-says last words r ts (Unknown name) has is = absurd is

unless-says : (last : ℕ) (x : Term) (w : List ℕ) (b : Bool) → is_known w ≡ b → (is_known w ≡ false → IsUnsupported x w) → Says last x (if b then Shape else Unknown w)
unless-says last x w true e is = tt
unless-says last x w false e is = is e

alone-says : (last : ℕ) (w : List ℕ) (o : Option Instr) → bare_instr w ≡ o → Says last (t.Atom w) (bare_with w o)
alone-says last w (Some i) e = Alone w i e
alone-says last w None e = unless-says last (t.Atom w) w (is_known w) refl (λ k. AnAtom w k)

op-says : (last : ℕ) (w : List ℕ) (ts : List Term) (o : Option Op) → rows_behind w ≡ None → op_named w ≡ o → Says last (t.Tuple (t.Atom w ∷ ts)) (row_of last w o ts)
op-says last w ts (Some op) n e = row-says last (w ∷ []) (row op) ts (answer last (row op) ts) (OneWord w (row op) n (ap (option_map row) e)) (parts.right last (row op) ts)
op-says last w ts None n e = unless-says last (t.Tuple (t.Atom w ∷ ts)) w (is_known w) refl (λ k. ATuple w ts k)

name-says : (last : ℕ) (w name : List ℕ) (rows : List ℕ → Option Row) (ts : List Term) (o : Option Row) → rows_behind w ≡ Some rows → rows name ≡ o → Says last (t.Tuple (t.Atom w ∷ t.Atom name ∷ ts)) (answered last name o ts)
name-says last w name rows ts (Some r) e h = row-says last (w ∷ name ∷ []) r ts (answer last r ts) (TwoWords w name rows r e h) (parts.right last r ts)
name-says last w name rows ts None e h = AName w name rows ts e h

second-says : (last : ℕ) (w : List ℕ) (rows : List ℕ → Option Row) (x : Term) (ts : List Term) (o : Option (List ℕ)) → rows_behind w ≡ Some rows → atom_of x ≡ o → Says last (t.Tuple (t.Atom w ∷ x ∷ ts)) (by_name last rows (headed_with o ts))
second-says last w rows x ts None e h = tt
second-says last w rows x ts (Some name) e h =
    subst (λ (y : Term). Says last (t.Tuple (t.Atom w ∷ y ∷ ts)) (answered last name (rows name) ts)) (sym (atom_of-is x name h)) (name-says last w name rows ts (rows name) e refl)

behind-says : (last : ℕ) (w : List ℕ) (ts : List Term) (o : Option (List ℕ → Option Row)) → rows_behind w ≡ o → Says last (t.Tuple (t.Atom w ∷ ts)) (tagged_with last w o ts)
behind-says last w ts None e = op-says last w ts (op_named w) e refl
behind-says last w [] (Some rows) e = tt
behind-says last w (x ∷ ts) (Some rows) e = second-says last w rows x ts (atom_of x) e refl

word-says : (last : ℕ) (x : Term) (ts : List Term) (o : Option (List ℕ)) → atom_of x ≡ o → Says last (t.Tuple (x ∷ ts)) (by_word last (headed_with o ts))
word-says last x ts None e = tt
word-says last x ts (Some w) e =
    subst (λ (y : Term). Says last (t.Tuple (y ∷ ts)) (tagged_of last w ts)) (sym (atom_of-is x w e)) (behind-says last w ts (rows_behind w) refl)

tuple-says : (last : ℕ) (ts : List Term) → Says last (t.Tuple ts) (by_word last (headed_by ts))
tuple-says last [] = tt
tuple-says last (x ∷ ts) = word-says last x ts (atom_of x) refl

layer-says : (last : ℕ) (y : Term-F Term) → Says last (roll-Term y) (form_in last y)
unfolding roll-Term roll
layer-says last (Term-F.Int n) = tt
layer-says last (Term-F.Atom w) = alone-says last w (bare_instr w) refl
layer-says last (Term-F.List ts e) = tt
layer-says last (Term-F.Tuple ts) = tuple-says last ts

form-says : (last : ℕ) (x : Term) → Says last x (form_of last x)
form-says last x = subst (λ (y : Term). Says last y (form_of last x)) (sym (opened x (out-Term x) refl)) (layer-says last (out-Term x))

in_limits-shape : (wide : Bool) (i : Instr) → in_limits wide i ≡ Shape → ⊥
in_limits-shape true i e = cc
in_limits-shape false i e = cc

ended : (last : ℕ) (x : Term) (a : Answer) → form_of last x ≡ a → Says last x a → IsRight last x a
ended last x (Reads i) e s = s
ended last x Register e s = s
ended last x Shape e s = (λ i wide f. let b = form-back last x i wide f in in_limits-shape wide b.got (sym b.is ∙ e), λ name u. let h = unsupported-back last x name u in absurd cc)
ended last x (Unknown name) e s = s

-- the answer that comes is right
pub form-right : (last : ℕ) (x : Term) → IsRight last x (form_of last x)
form-right last x = ended last x (form_of last x) refl (form-says last x)
