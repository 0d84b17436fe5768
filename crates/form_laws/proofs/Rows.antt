-- Rows of pairs, other parts, and all parts of a form.
use Rattle.std.proofs.Common.{◌≡◌, inl, inr, ℕ, Bool, true, ◌&&◌, List, [], ◌∷◌, Option, Some, None, codes, refl, sym, ap, ◌∙◌}
use Rattle.std.specs.Prelude.{option_and_then, option_map}
use Rattle.std.specs.Str.{bytes_eq}
use Rattle.term_tree.specs.declared.term.Term as t
use Rattle.term_tree.specs.declared.term.Term.{Term, out-Term}
use Rattle.term_tree.proofs.TermLaws.{both_hold}
use Rattle.module_forms.specs.declared.part.Got.{Got}
use Rattle.beam_code.specs.declared.instr.Operand.{Operand}
use Rattle.beam_code.specs.declared.instr.Operand.TheVariants as o
use Rattle.beam_code.specs.declared.instr.Case.{Case}
use Rattle.beam_code.specs.declared.instr.ArityCase.{ArityCase}
use Rattle.module_forms.specs.Part.{number_of, integer_of, atom_of, pair_of, label_of, got, plain, one_more, pairs_of, constant_with, constant_of, case_of, arity_case_of}
use Rattle.form_laws.specs.Written.{tagged, source, pair_parts, case_value, case_label, arity_value, arity_label, is_constant, is_constant_case, is_any, all_fine}
use Rattle.form_laws.proofs.Terms.{mapped, chained, tested, tested_last, word_is, atom_of-is, atom_of-back, integer_of-is, integer_of-back, number_of-is, number_of-back, pair_of-is, pair_of-back}
use Rattle.form_laws.proofs.Parts.{label-is, label-back}

-- what stands in two parts
pub record PairStands {A : Type 0} (first second : A → Term) (fine : A → Bool) (x y : Term) (g : Got A) : Type 0 where
  pub value : A
  pub first_is : x ≡ first value
  pub second_is : y ≡ second value
  pub is_fine : fine value ≡ true
  pub is : g ≡ plain value

pub record PairsStand {A : Type 0} (first second : A → Term) (fine : A → Bool) (ts : List Term) (g : Got (List A)) : Type 0 where
  pub values : List A
  pub spelled : ts ≡ pair_parts first second values
  pub is_fine : all_fine fine values ≡ true
  pub is : g ≡ plain values

pub pairs-forth : {A : Type 0} (read : Term → Term → Option (Got A)) (first second : A → Term) (fine : A → Bool) → ((x y : Term) (g : Got A) → read x y ≡ Some g → PairStands first second fine x y g) →
    (ts : List Term) (g : Got (List A)) → pairs_of read ts ≡ Some g → PairsStand first second fine ts g
pairs-forth read first second fine is [] g e = record { values = []; spelled = refl; is_fine = refl; is = sym cc }
pairs-forth read first second fine is (x ∷ []) g e = absurd cc
pairs-forth read first second fine is (x ∷ y ∷ ts) g e =
    let c = chained (λ a. option_map (one_more a) (pairs_of read ts)) (read x y) g e in
    let m = mapped (one_more c.0) (pairs_of read ts) g c.2 in
    let here = is x y c.0 c.1 in
    let rest = pairs-forth read first second fine is ts m.0 m.1 in
    record {
      values = here.value ∷ rest.values;
      spelled = ap (λ z. z ∷ y ∷ ts) here.first_is ∙ ap (λ z. first here.value ∷ z ∷ ts) here.second_is ∙ ap (λ zs. first here.value ∷ second here.value ∷ zs) rest.spelled;
      is_fine = ap (λ b. b && all_fine fine rest.values) here.is_fine ∙ rest.is_fine;
      is = sym m.2 ∙ ap (λ h. one_more h m.0) here.is ∙ ap (one_more (plain here.value)) rest.is;
    }

pub pairs-back : {A : Type 0} (read : Term → Term → Option (Got A)) (first second : A → Term) (fine : A → Bool) → ((v : A) → fine v ≡ true → read (first v) (second v) ≡ Some (plain v)) →
    (vs : List A) → all_fine fine vs ≡ true → pairs_of read (pair_parts first second vs) ≡ Some (plain vs)
pairs-back read first second fine is [] h = refl
pairs-back read first second fine is (v ∷ vs) h =
    let both = both_hold (fine v) (all_fine fine vs) h in
    ap (option_and_then (λ g. option_map (one_more g) (pairs_of read (pair_parts first second vs)))) (is v both.0)
    ∙ ap (option_map (one_more (plain v))) (pairs-back read first second fine is vs both.1)

-- constants
pub record ConstantStands (x : Term) (g : Got Operand) : Type 0 where
  pub value : Operand
  pub spelled : x ≡ source value
  pub is_fine : is_constant value ≡ true
  pub is : g ≡ plain value

constant_with-forth : (x : Term) (q : Option (List ℕ × Term)) (g : Got Operand) → ((w : List ℕ) (u : Term) → q ≡ Some (w, u) → x ≡ tagged w u) → constant_with q ≡ Some g → ConstantStands x g
constant_with-forth x None g is e = absurd cc
constant_with-forth x (Some q) g is e =
    let here : x ≡ tagged q.0 q.1 = is q.0 q.1 refl in
    elim (tested (bytes_eq q.0 (codes "integer")) g _ _ e) [
      | inl h ↦
          let m = mapped (λ i. plain (o.Int i)) (integer_of q.1) g h.1 in
          record { value = o.Int m.0; spelled = here ∙ ap (λ w. tagged w q.1) (word_is q.0 (codes "integer") h.0) ∙ ap (tagged (codes "integer")) (integer_of-is q.1 m.0 m.1); is_fine = refl; is = sym m.2 }
      | inr r ↦
          let h = tested_last (bytes_eq q.0 (codes "atom")) g _ r in
          let m = mapped (λ a. plain (o.Atom a)) (atom_of q.1) g h.1 in
          record { value = o.Atom m.0; spelled = here ∙ ap (λ w. tagged w q.1) (word_is q.0 (codes "atom") h.0) ∙ ap (tagged (codes "atom")) (atom_of-is q.1 m.0 m.1); is_fine = refl; is = sym m.2 }
    ]

constant-forth : (x : Term) (g : Got Operand) → constant_of x ≡ Some g → ConstantStands x g
constant-forth x g e = constant_with-forth x (pair_of x) g (λ w u h. pair_of-is x (w, u) h) e

constant-back : (v : Operand) → is_constant v ≡ true → constant_of (source v) ≡ Some (plain v)
constant-back (o.X n) h = absurd cc
constant-back (o.Y n) h = absurd cc
constant-back (o.Int i) h = ap constant_with (pair_of-back (codes "integer") (t.Int i)) ∙ ap (option_map (λ j. plain (o.Int j))) (integer_of-back i)
constant-back (o.Atom a) h = ap constant_with (pair_of-back (codes "atom") (t.Atom a)) ∙ ap (option_map (λ j. plain (o.Atom j))) (atom_of-back a)
constant-back o.Nil h = absurd cc
constant-back (o.Literal u) h = absurd cc

pub case-forth : (x y : Term) (g : Got Case) → case_of x y ≡ Some g → PairStands case_value case_label is_constant_case x y g
case-forth x y g e =
    let c = chained (λ h. option_map (λ n. got (λ z. record { value = z; label = n }) h) (label_of y)) (constant_of x) g e in
    let m = mapped (λ n. got (λ z. record { value = z; label = n }) c.0) (label_of y) g c.2 in
    let k = constant-forth x c.0 c.1 in
    record { value = record { value = k.value; label = m.0 }; first_is = k.spelled; second_is = label-is y m.0 m.1; is_fine = k.is_fine; is = sym m.2 ∙ ap (got (λ z. record { value = z; label = m.0 })) k.is }

pub case-back : (v : Case) → is_constant_case v ≡ true → case_of (case_value v) (case_label v) ≡ Some (plain v)
case-back v h = rw (constant-back v.value h, label-back v.label) refl

pub arity_case-forth : (x y : Term) (g : Got ArityCase) → arity_case_of x y ≡ Some g → PairStands arity_value arity_label is_any x y g
arity_case-forth x y g e =
    let c = chained (λ n. option_map (λ to. plain (record { arity = n; label = to })) (label_of y)) (number_of x) g e in
    let m = mapped (λ to. plain (record { arity = c.0; label = to })) (label_of y) g c.2 in
    record { value = record { arity = c.0; label = m.0 }; first_is = number_of-is x c.0 c.1; second_is = label-is y m.0 m.1; is_fine = refl; is = sym m.2 }

pub arity_case-back : (v : ArityCase) → is_any v ≡ true → arity_case_of (arity_value v) (arity_label v) ≡ Some (plain v)
arity_case-back v h = rw (number_of-back v.arity, label-back v.label) refl
