-- Each reader of a part reads what is written so, and nothing else.
use Rattle.std.proofs.Common.{◌≡◌, inl, inr, ℕ, Bool, true, false, ◌||◌, List, [], ◌∷◌, Option, Some, None, if◌then◌else◌, codes, map, refl, sym, ap, subst, ◌∙◌}
use Rattle.std.specs.Prelude.{option_and_then, option_map}
use Rattle.std.specs.Str.{bytes_eq}
use Rattle.term_tree.specs.declared.term.Term as t
use Rattle.term_tree.specs.declared.term.Term.{Term, out-Term}
use Rattle.term_tree.specs.declared.term.Term.TheOpen.{Term-F}
use Rattle.module_forms.specs.declared.part.Got.{Got}
use Rattle.beam_code.specs.declared.instr.Operand.{Operand}
use Rattle.beam_code.specs.declared.instr.Operand.TheVariants as o
use Rattle.beam_code.specs.declared.instr.Place.{Place}
use Rattle.beam_code.specs.declared.instr.Place.TheVariants as p
use Rattle.module_forms.specs.Part as f
use Rattle.module_forms.specs.Part.{number_of, integer_of, atom_of, list_of, atom_in, pair_in, pair_with, pair_of, behind, label_of, named_of, got, plain, register, integer_operand, atom_operand, bare_operand, one_more, each_of}
use Rattle.form_laws.specs.Written as w
use Rattle.form_laws.specs.Written.{number, tagged, proper, place, source, label}
use Rattle.form_laws.proofs.Terms.{mapped, chained, tested, tested_last, word_is, atom_of-is, atom_of-back, integer_of-is, integer_of-back, number_of-is, number_of-back, pair_of-is, pair_of-back, pair_with-back, behind-is, behind-back, out-Atom, out-Tuple}

-- a value that is written so stands there, and is what was got unless it is too wide
pub record Stands {A : Type 0} (write : A → Term) (fine wide : A → Bool) (x : Term) (g : Got A) : Type 0 where
  pub value : A
  pub spelled : x ≡ write value
  pub is_fine : fine value ≡ true
  pub is_wide : g.wide ≡ wide value
  pub kept : g.wide ≡ false → g.value ≡ value

abbrev pub Forth : {A : Type 0} → (Term → Option (Got A)) → (A → Term) → (A → Bool) → (A → Bool) → Type 0
Forth {A} read write fine wide = (x : Term) (g : Got A) → read x ≡ Some g → Stands write fine wide x g

pub record Found {A : Type 0} (read : Option (Got A)) (wide : A → Bool) (v : A) : Type 0 where
  pub got : Got A
  pub is : read ≡ Some got
  pub is_wide : got.wide ≡ wide v
  pub kept : got.wide ≡ false → got.value ≡ v

abbrev pub Back : {A : Type 0} → (Term → Option (Got A)) → (A → Term) → (A → Bool) → (A → Bool) → Type 0
Back {A} read write fine wide = (v : A) → fine v ≡ true → Found (read (write v)) wide v

abbrev pub any : {A : Type 0} → A → Bool
any x = true

abbrev pub never : {A : Type 0} → A → Bool
never x = false

-- readers that know no limit
pub plain-forth : {A : Type 0} (read : Term → Option A) (write : A → Term) (fine : A → Bool) → ((x : Term) (v : A) → read x ≡ Some v → (x ≡ write v) × (fine v ≡ true)) → Forth (λ x. option_map plain (read x)) write fine never
plain-forth read write fine is x g e =
    let m = mapped plain (read x) g e in
    let both = is x m.0 m.1 in
    record { value = m.0; spelled = both.0; is_fine = both.1; is_wide = sym (ap (λ h. h.wide) m.2); kept = λ w. sym (ap (λ h. h.value) m.2) }

pub plain-back : {A : Type 0} (read : Term → Option A) (write : A → Term) (fine : A → Bool) → ((v : A) → fine v ≡ true → read (write v) ≡ Some v) → Back (λ x. option_map plain (read x)) write fine never
plain-back read write fine is v h = record { got = plain v; is = ap (option_map plain) (is v h); is_wide = refl; kept = λ w. refl }

pub label-is : (x : Term) (n : ℕ) → label_of x ≡ Some n → x ≡ label n
label-is x n e =
    let c = chained number_of (behind (codes "f") x) n e in
    behind-is (codes "f") x c.0 c.1 ∙ ap (tagged (codes "f")) (number_of-is c.0 n c.2)

pub label-back : (n : ℕ) → label_of (label n) ≡ Some n
label-back n = ap (option_and_then number_of) (behind-back (codes "f") (number n)) ∙ number_of-back n

pub or_false : (a b : Bool) → (a || b) ≡ false → (a ≡ false) × (b ≡ false)
or_false true b e = absurd cc
or_false false b e = (refl, e)

fixed-forth : {A B : Type 0} (f : A → B) (r : Option A) (write : B → Term) (wide : B → Bool) (x : Term) (g : Got B) → option_map (λ a. plain (f a)) r ≡ Some g → ((a : A) → wide (f a) ≡ false) → ((a : A) → r ≡ Some a → x ≡ write (f a)) → Stands write any wide x g
fixed-forth f r write wide x g e never_wide is =
    let m = mapped (λ a. plain (f a)) r g e in
    record { value = f m.0; spelled = is m.0 m.1; is_fine = refl; is_wide = sym (ap (λ h. h.wide) m.2) ∙ sym (never_wide m.0); kept = λ w. sym (ap (λ h. h.value) m.2) }

found_at : {A : Type 0} {r s : Option (Got A)} (wide : A → Bool) (v : A) → r ≡ s → Found s wide v → Found r wide v
found_at wide v e f = record { got = f.got; is = e ∙ f.is; is_wide = f.is_wide; kept = f.kept }

register-source : (d : Place) → place d ≡ source (register d)
register-source (p.X n) = refl
register-source (p.Y n) = refl

-- with a greatest index
module _ (last : ℕ) where
  abbrev index : ℕ → Got ℕ
  index = f.index last

  abbrev past : ℕ → Bool
  past = w.past last

  abbrev place_wide : Place → Bool
  place_wide = w.place_wide last

  abbrev source_wide : Operand → Bool
  source_wide = w.source_wide last

  abbrev any_wide : List Operand → Bool
  any_wide = w.any_wide (w.source_wide last)

  abbrev x_place : Term → Option (Got Place)
  x_place = f.x_place last

  abbrev y_place : Term → Option (Got Place)
  y_place = f.y_place last

  abbrev place_with : Option (List ℕ × Term) → Option (Got Place)
  place_with = f.place_with last

  abbrev place_of : Term → Option (Got Place)
  place_of = f.place_of last

  abbrev tagged_operand : List ℕ → Term → Option (Got Operand)
  tagged_operand = f.tagged_operand last

  abbrev operand_with : Option (List ℕ × Term) → Option (Got Operand)
  operand_with = f.operand_with last

  abbrev operand_in : Term-F Term → Option (Got Operand)
  operand_in = f.operand_in last

  abbrev operand_of : Term → Option (Got Operand)
  operand_of = f.operand_of last

  -- an index
  abbrev index_at : ℕ → Bool → Got ℕ
  index_at n b = if b then record { value = 0; wide = true } else record { value = n; wide = false }

  pub index-wide : (n : ℕ) → (index n).wide ≡ past n
  index-wide n = elim (past n) as (λ b. (index_at n b).wide ≡ b) [ true ↦ refl | false ↦ refl ]

  pub index-kept : (n : ℕ) → (index n).wide ≡ false → (index n).value ≡ n
  index-kept n = elim (past n) as (λ b. (index_at n b).wide ≡ false → (index_at n b).value ≡ n) [ true ↦ λ e. absurd cc | false ↦ λ e. refl ]

  -- x and y
  indexed-forth : {A : Type 0} (f : ℕ → A) (word : List ℕ) (write : A → Term) (wide : A → Bool) → ((n : ℕ) → write (f n) ≡ tagged word (number n)) → ((n : ℕ) → wide (f n) ≡ past n) →
      (x u : Term) (g : Got A) → x ≡ tagged word u → option_map (λ n. got f (index n)) (number_of u) ≡ Some g → Stands write any wide x g
  indexed-forth f word write wide ws wd x u g here e =
      let m = mapped (λ n. got f (index n)) (number_of u) g e in
      record {
        value = f m.0;
        spelled = here ∙ ap (tagged word) (number_of-is u m.0 m.1) ∙ sym (ws m.0);
        is_fine = refl;
        is_wide = sym (ap (λ h. h.wide) m.2) ∙ index-wide m.0 ∙ sym (wd m.0);
        kept = λ w. sym (ap (λ h. h.value) m.2) ∙ ap f (index-kept m.0 (ap (λ h. h.wide) m.2 ∙ w));
      }

  indexed-back : {A : Type 0} (f : ℕ → A) (wide : A → Bool) (n : ℕ) → wide (f n) ≡ past n → Found (option_map (λ m. got f (index m)) (number_of (number n))) wide (f n)
  indexed-back f wide n wd =
      record { got = got f (index n); is = ap (option_map (λ m. got f (index m))) (number_of-back n); is_wide = index-wide n ∙ sym wd; kept = λ w. ap f (index-kept n w) }

  place_with-forth : (x : Term) (q : Option (List ℕ × Term)) (g : Got Place) → ((w : List ℕ) (u : Term) → q ≡ Some (w, u) → x ≡ tagged w u) → place_with q ≡ Some g → Stands place any place_wide x g
  place_with-forth x None g is e = absurd cc
  place_with-forth x (Some q) g is e =
      let here : x ≡ tagged q.0 q.1 = is q.0 q.1 refl in
      elim (tested (bytes_eq q.0 (codes "x")) g (if bytes_eq q.0 (codes "y") then y_place q.1 else None) (x_place q.1) e) [
        | inl h ↦ indexed-forth p.X (codes "x") place place_wide (λ n. refl) (λ n. refl) x q.1 g (here ∙ ap (λ w. tagged w q.1) (word_is q.0 (codes "x") h.0)) h.1
        | inr r ↦ let h = tested_last (bytes_eq q.0 (codes "y")) g (y_place q.1) r in
            indexed-forth p.Y (codes "y") place place_wide (λ n. refl) (λ n. refl) x q.1 g (here ∙ ap (λ w. tagged w q.1) (word_is q.0 (codes "y") h.0)) h.1
      ]

  pub place-forth : Forth place_of place any place_wide
  place-forth x g e = place_with-forth x (pair_of x) g (λ w u h. pair_of-is x (w, u) h) e

  pub place-back : Back place_of place any place_wide
  place-back (p.X n) h = found_at place_wide (p.X n) (ap place_with (pair_of-back (codes "x") (number n))) (indexed-back p.X place_wide n refl)
  place-back (p.Y n) h = found_at place_wide (p.Y n) (ap place_with (pair_of-back (codes "y") (number n))) (indexed-back p.Y place_wide n refl)

  -- operands
  register-wide : (d : Place) → place_wide d ≡ source_wide (register d)
  register-wide (p.X n) = refl
  register-wide (p.Y n) = refl

  operand_place : (x : Term) (r : Option (Got Place)) (g : Got Operand) → option_map (got register) r ≡ Some g → ((h : Got Place) → r ≡ Some h → Stands place any place_wide x h) → Stands source any source_wide x g
  operand_place x r g e stands =
      let m = mapped (got register) r g e in
      let s = stands m.0 m.1 in
      record {
        value = register s.value;
        spelled = s.spelled ∙ register-source s.value;
        is_fine = refl;
        is_wide = sym (ap (λ h. h.wide) m.2) ∙ s.is_wide ∙ register-wide s.value;
        kept = λ w. sym (ap (λ h. h.value) m.2) ∙ ap register (s.kept (ap (λ h. h.wide) m.2 ∙ w));
      }

  x_forth : (u : Term) (g : Got Place) → x_place u ≡ Some g → Stands place any place_wide (tagged (codes "x") u) g
  x_forth u g e = indexed-forth p.X (codes "x") place place_wide (λ n. refl) (λ n. refl) (tagged (codes "x") u) u g refl e

  y_forth : (u : Term) (g : Got Place) → y_place u ≡ Some g → Stands place any place_wide (tagged (codes "y") u) g
  y_forth u g e = indexed-forth p.Y (codes "y") place place_wide (λ n. refl) (λ n. refl) (tagged (codes "y") u) u g refl e

  literal_forth : (u : Term) (g : Got Operand) → Some (plain (o.Literal u)) ≡ Some g → Stands source any source_wide (tagged (codes "literal") u) g
  literal_forth u g e = let same : plain (o.Literal u) ≡ g = cc in record { value = o.Literal u; spelled = refl; is_fine = refl; is_wide = sym (ap (λ h. h.wide) same); kept = λ w. sym (ap (λ h. h.value) same) }

  abbrev at_word : List ℕ → List ℕ → Term → Got Operand → Type 0
  at_word word w u g = w ≡ word → Stands source any source_wide (tagged w u) g

  moved_word : (word w : List ℕ) (u : Term) (g : Got Operand) → Stands source any source_wide (tagged word u) g → bytes_eq w word ≡ true → Stands source any source_wide (tagged w u) g
  moved_word word w u g s e = subst (λ v. Stands source any source_wide (tagged v u) g) (sym (word_is w word e)) s

  pub tagged-forth : (w : List ℕ) (u : Term) (g : Got Operand) → tagged_operand w u ≡ Some g → Stands source any source_wide (tagged w u) g
  tagged-forth w u g e =
      elim (tested (bytes_eq w (codes "x")) g _ _ e) [
        | inl h ↦ moved_word (codes "x") w u g (operand_place _ (x_place u) g h.1 (x_forth u)) h.0
        | inr e1 ↦ elim (tested (bytes_eq w (codes "y")) g _ _ e1) [
          | inl h ↦ moved_word (codes "y") w u g (operand_place _ (y_place u) g h.1 (y_forth u)) h.0
          | inr e2 ↦ elim (tested (bytes_eq w (codes "integer")) g _ _ e2) [
            | inl h ↦ moved_word (codes "integer") w u g (fixed-forth (λ i. o.Int i) (integer_of u) source source_wide _ g h.1 (λ i. refl) (λ i is. ap (tagged (codes "integer")) (integer_of-is u i is))) h.0
            | inr e3 ↦ elim (tested (bytes_eq w (codes "atom")) g _ _ e3) [
              | inl h ↦ moved_word (codes "atom") w u g (fixed-forth (λ a. o.Atom a) (atom_of u) source source_wide _ g h.1 (λ a. refl) (λ a is. ap (tagged (codes "atom")) (atom_of-is u a is))) h.0
              | inr e4 ↦ let h = tested_last (bytes_eq w (codes "literal")) g _ e4 in moved_word (codes "literal") w u g (literal_forth u g h.1) h.0
            ]
          ]
        ]
      ]

  operand_with-forth : (x : Term) (q : Option (List ℕ × Term)) (g : Got Operand) → ((w : List ℕ) (u : Term) → q ≡ Some (w, u) → x ≡ tagged w u) → operand_with q ≡ Some g → Stands source any source_wide x g
  operand_with-forth x None g is e = absurd cc
  operand_with-forth x (Some q) g is e = subst (λ v. Stands source any source_wide v g) (sym (is q.0 q.1 refl)) (tagged-forth q.0 q.1 g e)

  operand_in-forth : (y : Term-F Term) (x : Term) (g : Got Operand) → out-Term x ≡ y → operand_in y ≡ Some g → Stands source any source_wide x g
  operand_in-forth (Term-F.Int i) x g is e = absurd cc
  operand_in-forth (Term-F.List ts u) x g is e = absurd cc
  operand_in-forth (Term-F.Atom a) x g is e =
      let h = tested_last (bytes_eq a (codes "nil")) g _ e in
      let same : plain o.Nil ≡ g = cc in
      let word : x ≡ t.Atom a = atom_of-is x a (ap atom_in is) in
      record { value = o.Nil; spelled = word ∙ ap (λ w. t.Atom w) (word_is a (codes "nil") h.0); is_fine = refl; is_wide = sym (ap (λ k. k.wide) same); kept = λ w. sym (ap (λ k. k.value) same) }
  operand_in-forth (Term-F.Tuple ts) x g is e = operand_with-forth x (pair_with ts) g (λ w u h. pair_of-is x (w, u) (ap pair_in is ∙ h)) e

  pub operand-forth : Forth operand_of source any source_wide
  operand-forth x g e = operand_in-forth (out-Term x) x g refl e

  tagged_back : (w : List ℕ) (u : Term) → operand_of (tagged w u) ≡ tagged_operand w u
  tagged_back w u = ap operand_in (out-Tuple (t.Atom w ∷ u ∷ [])) ∙ ap operand_with (pair_with-back w u)

  pub operand-back : Back operand_of source any source_wide
  operand-back (o.X n) h = record { got = got o.X (index n); is = tagged_back (codes "x") (number n) ∙ ap (λ r. option_map (got register) (option_map (λ m. got p.X (index m)) r)) (number_of-back n); is_wide = index-wide n; kept = λ w. ap o.X (index-kept n w) }
  operand-back (o.Y n) h = record { got = got o.Y (index n); is = tagged_back (codes "y") (number n) ∙ ap (λ r. option_map (got register) (option_map (λ m. got p.Y (index m)) r)) (number_of-back n); is_wide = index-wide n; kept = λ w. ap o.Y (index-kept n w) }
  operand-back (o.Int i) h = record { got = plain (o.Int i); is = tagged_back (codes "integer") (t.Int i) ∙ ap (option_map (λ j. plain (o.Int j))) (integer_of-back i); is_wide = refl; kept = λ w. refl }
  operand-back (o.Atom a) h = record { got = plain (o.Atom a); is = tagged_back (codes "atom") (t.Atom a) ∙ ap (option_map (λ j. plain (o.Atom j))) (atom_of-back a); is_wide = refl; kept = λ w. refl }
  operand-back o.Nil h = record { got = plain o.Nil; is = ap operand_in (out-Atom (codes "nil")); is_wide = refl; kept = λ w. refl }
  operand-back (o.Literal u) h = record { got = plain (o.Literal u); is = tagged_back (codes "literal") u; is_wide = refl; kept = λ w. refl }

  -- rows of parts
  pub record RowStands (ts : List Term) (g : Got (List Operand)) : Type 0 where
    pub values : List Operand
    pub spelled : ts ≡ map source values
    pub is_wide : g.wide ≡ any_wide values
    pub kept : g.wide ≡ false → g.value ≡ values

  pub each-forth : (ts : List Term) (g : Got (List Operand)) → each_of operand_of ts ≡ Some g → RowStands ts g
  each-forth [] g e = let same : plain [] ≡ g = cc in record { values = []; spelled = refl; is_wide = sym (ap (λ k. k.wide) same); kept = λ w. sym (ap (λ k. k.value) same) }
  each-forth (x ∷ ts) g e =
      let c = chained (λ a. option_map (one_more a) (each_of operand_of ts)) (operand_of x) g e in
      let m = mapped (one_more c.0) (each_of operand_of ts) g c.2 in
      let first = operand-forth x c.0 c.1 in
      let rest = each-forth ts m.0 m.1 in
      record {
        values = first.value ∷ rest.values;
        spelled = ap (λ z. z ∷ ts) first.spelled ∙ ap (λ zs. source first.value ∷ zs) rest.spelled;
        is_wide = sym (ap (λ k. k.wide) m.2) ∙ ap (λ b. b || m.0.wide) first.is_wide ∙ ap (λ b. source_wide first.value || b) rest.is_wide;
        kept = λ w.
            let both = or_false c.0.wide m.0.wide (ap (λ k. k.wide) m.2 ∙ w) in
            sym (ap (λ k. k.value) m.2) ∙ ap (λ z. z ∷ m.0.value) (first.kept both.0) ∙ ap (λ zs. first.value ∷ zs) (rest.kept both.1);
      }

  pub each-back : (ss : List Operand) → Found (each_of operand_of (map source ss)) any_wide ss
  each-back [] = record { got = plain []; is = refl; is_wide = refl; kept = λ w. refl }
  each-back (s ∷ ss) =
      let first = operand-back s refl in
      let rest = each-back ss in
      record {
        got = one_more first.got rest.got;
        is = ap (option_and_then (λ a. option_map (one_more a) (each_of operand_of (map source ss)))) first.is ∙ ap (option_map (one_more first.got)) rest.is;
        is_wide = ap (λ b. b || rest.got.wide) first.is_wide ∙ ap (λ b. source_wide s || b) rest.is_wide;
        kept = λ w.
            let both = or_false first.got.wide rest.got.wide w in
            ap (λ z. z ∷ rest.got.value) (first.kept both.0) ∙ ap (λ zs. s ∷ zs) (rest.kept both.1);
      }
