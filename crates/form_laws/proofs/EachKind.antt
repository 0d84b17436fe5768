-- A part of each kind: what is read is written so, and what is written so is read.
use Rattle.std.proofs.Common.{◌≡◌, ℕ, ◌+◌, Bool, true, false, ◌||◌, ◌&&◌, nat_lt, nat_eq, not, List, [], ◌∷◌, length, Option, Some, None, if◌then◌else◌, codes, map, refl, sym, ap, ◌∙◌, arith}
use Rattle.std.specs.Prelude.{option_and_then, option_map}
use Rattle.std.specs.Str.{bytes_eq}
use Rattle.term_tree.specs.declared.term.Term as t
use Rattle.term_tree.specs.declared.term.Term.{Term, out-Term, roll-Term}
use denote.Hole.Carrier.{roll}
use Rattle.term_tree.specs.declared.term.Term.TheOpen.{Term-F}
use Rattle.module_forms.specs.declared.part.Got.{Got}
use Rattle.module_forms.specs.declared.part.Look.{Look}
use Rattle.module_forms.specs.declared.part.Look.TheVariants as look
use Rattle.beam_code.specs.declared.instr.Operand.{Operand}
use Rattle.beam_code.specs.declared.instr.Operand.TheVariants as o
use Rattle.beam_code.specs.declared.instr.Callee.{Callee}
use Rattle.module_forms.specs.Kind.{Kind, Val, Number, Stack, Arity, Any, Named, Source, Dest, Slot, Jump, Entry, Fail, NoFail, TwoSources, Elements, Cases, ArityCases, Function, Looks, Arguments, Spelled, Full, Bare}
use Rattle.module_forms.specs.Part as f
use Rattle.module_forms.specs.Part.{number_of, number_in, atom_of, list_of, behind, label_of, named_of, got, plain, bare, number_or, one_more, each_of, pairs_of, case_of, arity_case_of, items_of, arity_of, callee_with, callee_in, callee_of, no_fail_of, takes}
use Rattle.module_forms.specs.Rest as rest
use Rattle.std.proofs.lemmas.List.{length-map}
use Rattle.term_tree.proofs.TermLaws.{both_hold}
use Rattle.form_laws.specs.Written as written_as
use Rattle.form_laws.specs.Written.{number, tagged, proper, place, source, label, function, pair_parts, case_value, case_label, arity_value, arity_label, is_constant_case, is_any, all_fine, is_arity, written, is_fine, spelling, fits, all_fit}
use Rattle.form_laws.proofs.Terms.{mapped, chained, tested_last, word_is, atom_of-is, atom_of-back, number_of-is, number_of-back, list_of-is, list_of-back, behind-is, behind-back, out-Atom, out-Tuple, opened}
use Rattle.form_laws.proofs.Parts as parts
use Rattle.form_laws.proofs.Parts.{Stands, Forth, Found, Back, any, never, plain-forth, plain-back, label-is, label-back, or_false}
use Rattle.form_laws.proofs.Rows.{pairs-forth, pairs-back, case-forth, case-back, arity_case-forth, arity_case-back}

-- what stands there where a reader goes on from what another one gives
pub moved : {A : Type 0} {write : A → Term} {fine wide : A → Bool} {x y : Term} {g : Got A} → x ≡ y → Stands write fine wide y g → Stands write fine wide x g
moved e s = record { value = s.value; spelled = e ∙ s.spelled; is_fine = s.is_fine; is_wide = s.is_wide; kept = s.kept }

pub at : {A : Type 0} {r s : Option (Got A)} (wide : A → Bool) (v : A) → r ≡ s → Found s wide v → Found r wide v
at wide v e h = record { got = h.got; is = e ∙ h.is; is_wide = h.is_wide; kept = h.kept }

list_is : (x : Term) (us : List Term) → items_of x ≡ Some us → x ≡ tagged (codes "list") (proper us)
list_is x us e = let c = chained list_of (behind (codes "list") x) us e in behind-is (codes "list") x c.0 c.1 ∙ ap (tagged (codes "list")) (list_of-is c.0 us c.2)

list_back : (us : List Term) → items_of (tagged (codes "list") (proper us)) ≡ Some us
list_back us = ap (option_and_then list_of) (behind-back (codes "list") (proper us)) ∙ list_of-back us

named-is : (x : Term) (a : List ℕ) → named_of x ≡ Some a → x ≡ tagged (codes "atom") (t.Atom a)
named-is x a e = let c = chained atom_of (behind (codes "atom") x) a e in behind-is (codes "atom") x c.0 c.1 ∙ ap (tagged (codes "atom")) (atom_of-is c.0 a c.2)

named-back : (a : List ℕ) → named_of (tagged (codes "atom") (t.Atom a)) ≡ Some a
named-back a = ap (option_and_then atom_of) (behind-back (codes "atom") (t.Atom a)) ∙ atom_of-back a

short : (b : Bool) (n m : ℕ) → (if b then None else Some m) ≡ Some n → (m ≡ n) × (not b ≡ true)
short true n m e = absurd cc
short false n m e = (cc, refl)

arity-is : (x : Term) (n : ℕ) → arity_of x ≡ Some n → (x ≡ number n) × (is_arity n ≡ true)
arity-is x n e =
    let c = chained (λ m. if nat_lt 255 m then None else Some m) (number_of x) n e in
    let s = short (nat_lt 255 c.0) n c.0 c.2 in
    (number_of-is x c.0 c.1 ∙ ap number s.0, ap is_arity (sym s.0) ∙ s.1)

short_back : (b : Bool) (n : ℕ) → not b ≡ true → (if b then None else Some n) ≡ Some n
short_back true n e = absurd cc
short_back false n e = refl

arity-back : (n : ℕ) → is_arity n ≡ true → arity_of (number n) ≡ Some n
arity-back n h = ap (option_and_then (λ m. if nat_lt 255 m then None else Some m)) (number_of-back n) ∙ short_back (nat_lt 255 n) n h

zero_label : (b : Bool) (n : ℕ) (g : Got (Unit {0})) → (b ≡ true → n ≡ 0) → (if b then Some (plain tt) else None) ≡ Some g → (n ≡ 0) × (plain tt ≡ g)
zero_label true n g z e = (z refl, cc)
zero_label false n g z e = absurd cc

all_any : {A : Type 0} (vs : List A) → all_fine is_any vs ≡ true
all_any [] = refl
all_any (v ∷ vs) = all_any vs

-- callees
callee_with-is : (us : List Term) (c : Callee) → callee_with us ≡ Some c → (us ≡ t.Atom (codes "extfunc") ∷ t.Atom c.owner ∷ t.Atom c.name ∷ number c.arity ∷ []) × (is_arity c.arity ≡ true)
callee_with-is [] c e = absurd cc
callee_with-is (h ∷ []) c e = absurd cc
callee_with-is (h ∷ m ∷ []) c e = absurd cc
callee_with-is (h ∷ m ∷ f ∷ []) c e = absurd cc
callee_with-is (h ∷ m ∷ f ∷ a ∷ []) c e =
    let word = chained (λ w. if bytes_eq w (codes "extfunc") then option_and_then (λ owner. option_and_then (λ name. option_map (λ arity. record { owner = owner; name = name; arity = arity }) (arity_of a)) (atom_of f)) (atom_of m) else None) (atom_of h) c e in
    let known = tested_last (bytes_eq word.0 (codes "extfunc")) c _ word.2 in
    let owner = chained (λ owner. option_and_then (λ name. option_map (λ arity. record { owner = owner; name = name; arity = arity }) (arity_of a)) (atom_of f)) (atom_of m) c known.1 in
    let name = chained (λ name. option_map (λ arity. record { owner = owner.0; name = name; arity = arity }) (arity_of a)) (atom_of f) c owner.2 in
    let arity = mapped (λ arity. record { owner = owner.0; name = name.0; arity = arity }) (arity_of a) c name.2 in
    let fine = arity-is a arity.0 arity.1 in
    let head : h ≡ t.Atom (codes "extfunc") = atom_of-is h word.0 word.1 ∙ ap (λ w. t.Atom w) (word_is word.0 (codes "extfunc") known.0) in
    let second : m ≡ t.Atom c.owner = atom_of-is m owner.0 owner.1 ∙ ap (λ (k : Callee). t.Atom k.owner) arity.2 in
    let third : f ≡ t.Atom c.name = atom_of-is f name.0 name.1 ∙ ap (λ (k : Callee). t.Atom k.name) arity.2 in
    let fourth : a ≡ number c.arity = fine.0 ∙ ap (λ (k : Callee). number k.arity) arity.2 in
    (cc, sym (ap (λ (k : Callee). is_arity k.arity) arity.2) ∙ fine.1)
callee_with-is (h ∷ m ∷ f ∷ a ∷ b ∷ us) c e = absurd cc

callee_in-is : (y : Term-F Term) (c : Callee) → callee_in y ≡ Some c → (y ≡ Term-F.Tuple (t.Atom (codes "extfunc") ∷ t.Atom c.owner ∷ t.Atom c.name ∷ number c.arity ∷ [])) × (is_arity c.arity ≡ true)
callee_in-is (Term-F.Int i) c e = absurd cc
callee_in-is (Term-F.Atom a) c e = absurd cc
callee_in-is (Term-F.List us v) c e = absurd cc
callee_in-is (Term-F.Tuple us) c e = let is = callee_with-is us c e in (ap (λ zs. Term-F.Tuple zs) is.0, is.1)

callee-is : (x : Term) (c : Callee) → callee_of x ≡ Some c → (x ≡ function c) × (is_arity c.arity ≡ true)
unfolding roll-Term roll
callee-is x c e = let is = callee_in-is (out-Term x) c e in (opened x (Term-F.Tuple (t.Atom (codes "extfunc") ∷ t.Atom c.owner ∷ t.Atom c.name ∷ number c.arity ∷ [])) is.0, is.1)

callee-back : (c : Callee) → is_arity c.arity ≡ true → callee_of (function c) ≡ Some c
callee-back c h =
    ap callee_in (out-Tuple (t.Atom (codes "extfunc") ∷ t.Atom c.owner ∷ t.Atom c.name ∷ number c.arity ∷ []))
    ∙ rw (atom_of-back (codes "extfunc"), atom_of-back c.owner, atom_of-back c.name, arity-back c.arity h) refl

no_fail-forth : Forth no_fail_of (λ v. label 0) any never
no_fail-forth x g e =
    let c = chained (λ n. if nat_eq n 0 then Some (plain tt) else None) (label_of x) g e in
    let z = zero_label (nat_eq c.0 0) c.0 g (λ h. grind arith) c.2 in
    record { value = tt; spelled = label-is x c.0 c.1 ∙ ap label z.0; is_fine = refl; is_wide = sym (ap (λ h. h.wide) z.1); kept = λ w. refl }

no_fail-back : Back no_fail_of (λ v. label 0) any never
no_fail-back v h = record { got = plain tt; is = ap (option_and_then (λ n. if nat_eq n 0 then Some (plain tt) else None)) (label-back 0); is_wide = refl; kept = λ w. refl }

-- ---- with a greatest index

module _ (last : ℕ) where
  abbrev read : (k : Kind) → Term → Option (Got (Val k))
  read = rest.read last

  abbrev is_wide : (k : Kind) → Val k → Bool
  is_wide = written_as.is_wide last

  abbrev index : ℕ → Got ℕ
  index = f.index last

  abbrev past : ℕ → Bool
  past = written_as.past last

  abbrev source_wide : Operand → Bool
  source_wide = written_as.source_wide last

  abbrev spelled_wide : Spelled → Bool
  spelled_wide = written_as.spelled_wide last

  abbrev any_wide : List Operand → Bool
  any_wide = written_as.any_wide (written_as.source_wide last)

  abbrev operand_of : Term → Option (Got Operand)
  operand_of = f.operand_of last

  abbrev two_with : List Term → Option (Got (Operand × Operand))
  two_with = f.two_with last

  abbrev slot_of : Term → Option (Got ℕ)
  slot_of = f.slot_of last

  abbrev stack_of : Term → Option (Got ℕ)
  stack_of = f.stack_of last

  operand-forth : Forth operand_of source any source_wide
  operand-forth = parts.operand-forth last

  operand-back : Back operand_of source any source_wide
  operand-back = parts.operand-back last

  row_stands : (x : Term) (us : List Term) (g : Got (List Operand)) (write : List Term → Term) → x ≡ write us → each_of operand_of us ≡ Some g → Stands (λ ss. write (map source ss)) any any_wide x g
  row_stands x us g write here e =
      let r = parts.each-forth last us g e in
      record { value = r.values; spelled = here ∙ ap write r.spelled; is_fine = refl; is_wide = r.is_wide; kept = r.kept }

  slot-forth : Forth slot_of (λ n. tagged (codes "y") (number n)) any past
  slot-forth x g e =
      let m = mapped index (option_and_then number_of (behind (codes "y") x)) g e in
      let c = chained number_of (behind (codes "y") x) m.0 m.1 in
      record {
        value = m.0;
        spelled = behind-is (codes "y") x c.0 c.1 ∙ ap (tagged (codes "y")) (number_of-is c.0 m.0 c.2);
        is_fine = refl;
        is_wide = sym (ap (λ h. h.wide) m.2) ∙ parts.index-wide last m.0;
        kept = λ w. sym (ap (λ h. h.value) m.2) ∙ parts.index-kept last m.0 (ap (λ h. h.wide) m.2 ∙ w);
      }

  slot-back : Back slot_of (λ n. tagged (codes "y") (number n)) any past
  slot-back n h = record { got = index n; is = ap (option_map index) (ap (option_and_then number_of) (behind-back (codes "y") (number n)) ∙ number_of-back n); is_wide = parts.index-wide last n; kept = parts.index-kept last n }

  abbrev stack_got : ℕ → Got ℕ
  stack_got n = record { value = n; wide = nat_lt (last + 1) n }

  stack-forth : Forth stack_of number any (λ n. nat_lt (last + 1) n)
  stack-forth x g e =
      let m = mapped stack_got (number_of x) g e in
      record { value = m.0; spelled = number_of-is x m.0 m.1; is_fine = refl; is_wide = sym (ap (λ h. h.wide) m.2); kept = λ w. sym (ap (λ h. h.value) m.2) }

  stack-back : Back stack_of number any (λ n. nat_lt (last + 1) n)
  stack-back n h = record { got = stack_got n; is = ap (option_map stack_got) (number_of-back n); is_wide = refl; kept = λ w. refl }

  -- two operands
  two_with-forth : (x : Term) (us : List Term) (g : Got (Operand × Operand)) → x ≡ proper us → two_with us ≡ Some g → Stands (written TwoSources) any (is_wide TwoSources) x g
  two_with-forth x [] g here e = absurd cc
  two_with-forth x (a ∷ []) g here e = absurd cc
  two_with-forth x (a ∷ b ∷ []) g here e =
      let c = chained (λ p. option_map (λ q. record { value = (p.value, q.value); wide = p.wide || q.wide }) (operand_of b)) (operand_of a) g e in
      let m = mapped (λ q. record { value = (c.0.value, q.value); wide = c.0.wide || q.wide }) (operand_of b) g c.2 in
      let first = operand-forth a c.0 c.1 in
      let second = operand-forth b m.0 m.1 in
      record {
        value = (first.value, second.value);
        spelled = here ∙ ap (λ z. proper (z ∷ b ∷ [])) first.spelled ∙ ap (λ z. proper (source first.value ∷ z ∷ [])) second.spelled;
        is_fine = refl;
        is_wide = sym (ap (λ h. h.wide) m.2) ∙ ap (λ v. v || m.0.wide) first.is_wide ∙ ap (λ v. source_wide first.value || v) second.is_wide;
        kept = λ w.
            let both = or_false c.0.wide m.0.wide (ap (λ h. h.wide) m.2 ∙ w) in
            sym (ap (λ h. h.value) m.2) ∙ ap (λ (v : Operand). (v, m.0.value)) (first.kept both.0) ∙ ap (λ (v : Operand). (first.value, v)) (second.kept both.1);
      }
  two_with-forth x (a ∷ b ∷ d ∷ us) g here e = absurd cc

  -- what tests look at
  full-forth : (x : Term) (r : Option (Got Operand)) (g : Got Spelled) → option_map (got Full) r ≡ Some g → ((h : Got Operand) → r ≡ Some h → Stands source any source_wide x h) → Stands spelling (fits look.Source) spelled_wide x g
  full-forth x r g e stands =
      let m = mapped (got Full) r g e in
      let s = stands m.0 m.1 in
      record {
        value = Full s.value;
        spelled = s.spelled;
        is_fine = refl;
        is_wide = sym (ap (λ h. h.wide) m.2) ∙ s.is_wide;
        kept = λ w. sym (ap (λ h. h.value) m.2) ∙ ap Full (s.kept (ap (λ h. h.wide) m.2 ∙ w));
      }

  bare-forth : (fine : Spelled → Bool) → ((n : ℕ) → fine (Bare n) ≡ true) → (x : Term) (n : ℕ) (g : Got Spelled) → number_of x ≡ Some n → bare n ≡ g → Stands spelling fine spelled_wide x g
  bare-forth fine is x n g e same =
      record { value = Bare n; spelled = number_of-is x n e; is_fine = is n; is_wide = sym (ap (λ h. h.wide) same); kept = λ w. sym (ap (λ h. h.value) same) }

  any-fine : {fine : Spelled → Bool} (x : Term) (g : Got Spelled) → Stands spelling fine spelled_wide x g → Stands spelling (fits look.Either) spelled_wide x g
  any-fine x g s = record { value = s.value; spelled = s.spelled; is_fine = refl; is_wide = s.is_wide; kept = s.kept }

  either-forth : (x : Term) (g : Got Spelled) (o : Option ℕ) → number_of x ≡ o → number_or o (operand_of x) ≡ Some g → Stands spelling (fits look.Either) spelled_wide x g
  either-forth x g (Some n) is e = bare-forth (fits look.Either) (λ m. refl) x n g is cc
  either-forth x g None is e = any-fine x g (full-forth x (operand_of x) g e (operand-forth x))

  look-forth : (l : Look) → Forth (f.look_of last l) spelling (fits l) spelled_wide
  look-forth look.Source x g e = full-forth x (operand_of x) g e (operand-forth x)
  look-forth look.Number x g e = let m = mapped bare (number_of x) g e in bare-forth (fits look.Number) (λ n. refl) x m.0 g m.1 m.2
  look-forth look.Atom x g e =
      let m = mapped (λ a. plain (Full (o.Atom a))) (named_of x) g e in
      record { value = Full (o.Atom m.0); spelled = named-is x m.0 m.1; is_fine = refl; is_wide = sym (ap (λ h. h.wide) m.2); kept = λ w. sym (ap (λ h. h.value) m.2) }
  look-forth look.Either x g e = either-forth x g (number_of x) refl e

  -- no number is written as an operand is
  no_number : (s : Operand) → number_of (source s) ≡ None
  no_number (o.X n) = ap number_in (out-Tuple (t.Atom (codes "x") ∷ number n ∷ []))
  no_number (o.Y n) = ap number_in (out-Tuple (t.Atom (codes "y") ∷ number n ∷ []))
  no_number (o.Int i) = ap number_in (out-Tuple (t.Atom (codes "integer") ∷ t.Int i ∷ []))
  no_number (o.Atom a) = ap number_in (out-Tuple (t.Atom (codes "atom") ∷ t.Atom a ∷ []))
  no_number o.Nil = ap number_in (out-Atom (codes "nil"))
  no_number (o.Literal u) = ap number_in (out-Tuple (t.Atom (codes "literal") ∷ u ∷ []))

  full-back : (s : Operand) → Found (option_map (got Full) (operand_of (source s))) spelled_wide (Full s)
  full-back s =
      let h = operand-back s refl in
      record { got = got Full h.got; is = ap (option_map (got Full)) h.is; is_wide = h.is_wide; kept = λ w. ap Full (h.kept w) }

  bare-back : (n : ℕ) (r : Option (Got Spelled)) → r ≡ Some (bare n) → Found r spelled_wide (Bare n)
  bare-back n r e = record { got = bare n; is = e; is_wide = refl; kept = λ w. refl }

  atom-back : (s : Operand) → fits look.Atom (Full s) ≡ true → Found (f.look_of last look.Atom (source s)) spelled_wide (Full s)
  atom-back (o.X n) h = absurd cc
  atom-back (o.Y n) h = absurd cc
  atom-back (o.Int i) h = absurd cc
  atom-back (o.Atom a) h = record { got = plain (Full (o.Atom a)); is = ap (option_map (λ b. plain (Full (o.Atom b)))) (named-back a); is_wide = refl; kept = λ w. refl }
  atom-back o.Nil h = absurd cc
  atom-back (o.Literal u) h = absurd cc

  look-back : (l : Look) → Back (f.look_of last l) spelling (fits l) spelled_wide
  look-back look.Source (Full s) h = full-back s
  look-back look.Source (Bare n) h = absurd cc
  look-back look.Number (Full s) h = absurd cc
  look-back look.Number (Bare n) h = bare-back n (option_map bare (number_of (number n))) (ap (option_map bare) (number_of-back n))
  look-back look.Atom (Full s) h = atom-back s h
  look-back look.Atom (Bare n) h = absurd cc
  look-back look.Either (Full s) h = at spelled_wide (Full s) (ap (λ u. number_or u (operand_of (source s))) (no_number s)) (full-back s)
  look-back look.Either (Bare n) h = bare-back n (number_or (number_of (number n)) (operand_of (number n))) (ap (λ u. number_or u (operand_of (number n))) (number_of-back n))

  pub record LooksStand (ls : List Look) (ts : List Term) (g : Got (List Spelled)) : Type 0 where
    pub values : List Spelled
    pub spelled : ts ≡ map spelling values
    pub is_fine : all_fit ls values ≡ true
    pub is_wide : g.wide ≡ written_as.any_wide spelled_wide values
    pub kept : g.wide ≡ false → g.value ≡ values

  looks-forth : (ls : List Look) (ts : List Term) (g : Got (List Spelled)) → f.looks_with last ls ts ≡ Some g → LooksStand ls ts g
  looks-forth [] [] g e = let same : plain [] ≡ g = cc in record { values = []; spelled = refl; is_fine = refl; is_wide = sym (ap (λ k. k.wide) same); kept = λ w. sym (ap (λ k. k.value) same) }
  looks-forth [] (x ∷ ts) g e = absurd cc
  looks-forth (l ∷ ls) [] g e = absurd cc
  looks-forth (l ∷ ls) (x ∷ ts) g e =
      let c = chained (λ a. option_map (one_more a) (f.looks_with last ls ts)) (f.look_of last l x) g e in
      let m = mapped (one_more c.0) (f.looks_with last ls ts) g c.2 in
      let first = look-forth l x c.0 c.1 in
      let more = looks-forth ls ts m.0 m.1 in
      record {
        values = first.value ∷ more.values;
        spelled = ap (λ z. z ∷ ts) first.spelled ∙ ap (λ zs. spelling first.value ∷ zs) more.spelled;
        is_fine = ap (λ b. b && all_fit ls more.values) first.is_fine ∙ more.is_fine;
        is_wide = sym (ap (λ k. k.wide) m.2) ∙ ap (λ b. b || m.0.wide) first.is_wide ∙ ap (λ b. spelled_wide first.value || b) more.is_wide;
        kept = λ w.
            let both = or_false c.0.wide m.0.wide (ap (λ k. k.wide) m.2 ∙ w) in
            sym (ap (λ k. k.value) m.2) ∙ ap (λ z. z ∷ m.0.value) (first.kept both.0) ∙ ap (λ zs. first.value ∷ zs) (more.kept both.1);
      }

  looks-back : (ls : List Look) (ss : List Spelled) → all_fit ls ss ≡ true → Found (f.looks_with last ls (map spelling ss)) (written_as.any_wide spelled_wide) ss
  looks-back [] [] h = record { got = plain []; is = refl; is_wide = refl; kept = λ w. refl }
  looks-back [] (s ∷ ss) h = absurd cc
  looks-back (l ∷ ls) [] h = absurd cc
  looks-back (l ∷ ls) (s ∷ ss) h =
      let both = both_hold (fits l s) (all_fit ls ss) h in
      let first = look-back l s both.0 in
      let more = looks-back ls ss both.1 in
      record {
        got = one_more first.got more.got;
        is = ap (option_and_then (λ a. option_map (one_more a) (f.looks_with last ls (map spelling ss)))) first.is ∙ ap (option_map (one_more first.got)) more.is;
        is_wide = ap (λ b. b || more.got.wide) first.is_wide ∙ ap (λ b. spelled_wide s || b) more.is_wide;
        kept = λ w.
            let apart = or_false first.got.wide more.got.wide w in
            ap (λ z. z ∷ more.got.value) (first.kept apart.0) ∙ ap (λ zs. s ∷ zs) (more.kept apart.1);
      }

  -- the arguments of a built-in
  arguments-forth : (name : List ℕ) (x : Term) (us : List Term) (g : Got (List Operand)) → x ≡ proper us → f.arguments_with last name us ≡ Some g → Stands (written (Arguments name)) (is_fine (Arguments name)) (is_wide (Arguments name)) x g
  arguments-forth name x us g here e =
      let k = tested_last (takes name (length us)) g (each_of operand_of us) e in
      let r = parts.each-forth last us g k.1 in
      let count : length us ≡ length r.values = ap (λ zs. length zs) r.spelled ∙ length-map r.values source in
      record { value = r.values; spelled = here ∙ ap proper r.spelled; is_fine = sym (ap (takes name) count) ∙ k.0; is_wide = r.is_wide; kept = r.kept }

  arguments-back : (name : List ℕ) → Back (f.arguments_of last name) (written (Arguments name)) (is_fine (Arguments name)) (is_wide (Arguments name))
  arguments-back name v h =
      let fine : takes name (length (map source v)) ≡ true = ap (takes name) (length-map v source) ∙ h in
      at any_wide v (ap (option_and_then (f.arguments_with last name)) (list_of-back (map source v)) ∙ ap (λ b. if b then each_of operand_of (map source v) else None) fine) (parts.each-back last v)

  -- each kind
  pub read-forth : (k : Kind) → Forth (read k) (written k) (is_fine k) (is_wide k)
  read-forth Number x g e = plain-forth number_of number any (λ y v h. (number_of-is y v h, refl)) x g e
  read-forth Stack x g e = stack-forth x g e
  read-forth Arity x g e = plain-forth arity_of number is_arity arity-is x g e
  read-forth Any x g e = let same : plain x ≡ g = cc in record { value = x; spelled = refl; is_fine = refl; is_wide = sym (ap (λ h. h.wide) same); kept = λ w. sym (ap (λ h. h.value) same) }
  read-forth Named x g e = plain-forth named_of (written Named) any (λ y v h. (named-is y v h, refl)) x g e
  read-forth Source x g e = operand-forth x g e
  read-forth Dest x g e = parts.place-forth last x g e
  read-forth Slot x g e = slot-forth x g e
  read-forth Jump x g e = plain-forth label_of label any (λ y v h. (label-is y v h, refl)) x g e
  read-forth Entry x g e = plain-forth label_of label any (λ y v h. (label-is y v h, refl)) x g e
  read-forth Fail x g e = plain-forth label_of label any (λ y v h. (label-is y v h, refl)) x g e
  read-forth NoFail x g e = no_fail-forth x g e
  read-forth TwoSources x g e = let c = chained two_with (list_of x) g e in two_with-forth x c.0 g (list_of-is x c.0 c.1) c.2
  read-forth Elements x g e = let c = chained (each_of operand_of) (items_of x) g e in row_stands x c.0 g (λ us. tagged (codes "list") (proper us)) (list_is x c.0 c.1) c.2
  read-forth Cases x g e =
      let c = chained (pairs_of case_of) (items_of x) g e in
      let r = pairs-forth case_of case_value case_label is_constant_case case-forth c.0 g c.2 in
      record { value = r.values; spelled = list_is x c.0 c.1 ∙ ap (λ us. tagged (codes "list") (proper us)) r.spelled; is_fine = r.is_fine; is_wide = ap (λ h. h.wide) r.is; kept = λ w. ap (λ h. h.value) r.is }
  read-forth ArityCases x g e =
      let c = chained (pairs_of arity_case_of) (items_of x) g e in
      let r = pairs-forth arity_case_of arity_value arity_label is_any arity_case-forth c.0 g c.2 in
      record { value = r.values; spelled = list_is x c.0 c.1 ∙ ap (λ us. tagged (codes "list") (proper us)) r.spelled; is_fine = refl; is_wide = ap (λ h. h.wide) r.is; kept = λ w. ap (λ h. h.value) r.is }
  read-forth (Looks ls) x g e =
      let c = chained (f.looks_with last ls) (list_of x) g e in
      let s = looks-forth ls c.0 g c.2 in
      record { value = s.values; spelled = list_of-is x c.0 c.1 ∙ ap proper s.spelled; is_fine = s.is_fine; is_wide = s.is_wide; kept = s.kept }
  read-forth (Arguments name) x g e = let c = chained (f.arguments_with last name) (list_of x) g e in arguments-forth name x c.0 g (list_of-is x c.0 c.1) c.2
  read-forth Function x g e = plain-forth callee_of function (λ c. is_arity c.arity) callee-is x g e

  pub read-back : (k : Kind) → Back (read k) (written k) (is_fine k) (is_wide k)
  read-back Number v h = plain-back number_of number any (λ n g. number_of-back n) v h
  read-back Stack v h = stack-back v h
  read-back Arity v h = plain-back arity_of number is_arity arity-back v h
  read-back Any v h = record { got = plain v; is = refl; is_wide = refl; kept = λ w. refl }
  read-back Named v h = plain-back named_of (written Named) any (λ n g. named-back n) v h
  read-back Source v h = operand-back v h
  read-back Dest v h = parts.place-back last v h
  read-back Slot v h = slot-back v h
  read-back Jump v h = plain-back label_of label any (λ n g. label-back n) v h
  read-back Entry v h = plain-back label_of label any (λ n g. label-back n) v h
  read-back Fail v h = plain-back label_of label any (λ n g. label-back n) v h
  read-back NoFail v h = no_fail-back v h
  read-back TwoSources v h =
      let first = operand-back v.0 refl in
      let second = operand-back v.1 refl in
      record {
        got = record { value = (first.got.value, second.got.value); wide = first.got.wide || second.got.wide };
        is = ap (option_and_then two_with) (list_of-back (source v.0 ∷ source v.1 ∷ []))
            ∙ ap (option_and_then (λ p. option_map (λ q. record { value = (p.value, q.value); wide = p.wide || q.wide }) (operand_of (source v.1)))) first.is
            ∙ ap (option_map (λ q. record { value = (first.got.value, q.value); wide = first.got.wide || q.wide })) second.is;
        is_wide = ap (λ b. b || second.got.wide) first.is_wide ∙ ap (λ b. source_wide v.0 || b) second.is_wide;
        kept = λ w.
            let both = or_false first.got.wide second.got.wide w in
            ap (λ (a : Operand). (a, second.got.value)) (first.kept both.0) ∙ ap (λ (a : Operand). (v.0, a)) (second.kept both.1);
      }
  read-back Elements v h = at any_wide v (ap (option_and_then (each_of operand_of)) (list_back (map source v))) (parts.each-back last v)
  read-back Cases v h = record { got = plain v; is = ap (option_and_then (pairs_of case_of)) (list_back (pair_parts case_value case_label v)) ∙ pairs-back case_of case_value case_label is_constant_case case-back v h; is_wide = refl; kept = λ w. refl }
  read-back ArityCases v h = record { got = plain v; is = ap (option_and_then (pairs_of arity_case_of)) (list_back (pair_parts arity_value arity_label v)) ∙ pairs-back arity_case_of arity_value arity_label is_any arity_case-back v (all_any v); is_wide = refl; kept = λ w. refl }
  read-back (Looks ls) v h = at (written_as.any_wide spelled_wide) v (ap (option_and_then (f.looks_with last ls)) (list_of-back (map spelling v))) (looks-back ls v h)
  read-back (Arguments name) v h = arguments-back name v h
  read-back Function v h = plain-back callee_of function (λ c. is_arity c.arity) callee-back v h
