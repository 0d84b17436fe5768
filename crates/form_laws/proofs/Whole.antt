-- All parts of a form, both ways.
use Rattle.std.proofs.Common.{◌≡◌, ℕ, Bool, true, false, ◌||◌, ◌&&◌, List, [], ◌∷◌, ◌++◌, append-nil, Option, Some, None, refl, sym, ap, ◌∙◌}
use Rattle.std.specs.Prelude.{option_and_then, option_map}
use Rattle.term_tree.specs.declared.term.Term.{Term}
use Rattle.term_tree.proofs.TermLaws.{both_hold}
use Rattle.beam_code.specs.declared.instr.Instr.{Instr}
use Rattle.module_forms.specs.Kind.{Kind, Val, Vals}
use Rattle.module_forms.specs.Rest.{Rest, read, next_of, take, take_all, start}
use Rattle.module_forms.specs.Rows.{Row, Parts}
use Rattle.module_forms.specs.Form.{Answer, Reads, Register, Shape, Unknown, in_limits, complete, finished, answer}
use Rattle.form_laws.specs.Written.{written, is_wide, is_fine, written_all, fine_all, wide_all}
use Rattle.form_laws.specs.Form.{IsWritten, AreParts}
use Rattle.form_laws.proofs.Terms.{mapped, chained}
use Rattle.form_laws.proofs.Parts.{or_false}
use Rattle.form_laws.proofs.EachKind.{read-forth, read-back}

or-again : (a b c : Bool) → ((a || b) || c) ≡ (a || (b || c))
or-again true b c = refl
or-again false b c = refl

pub record Taken (k : Kind) (old new : Rest) (v : Val k) : Type 0 where
  pub value : Val k
  pub spelled : old.parts ≡ written k value ∷ new.parts
  pub fine : is_fine k value ≡ true
  pub width : new.wide ≡ (old.wide || is_wide old.last k value)
  pub limit : new.last ≡ old.last
  pub kept : is_wide old.last k value ≡ false → v ≡ value

next-forth : (k : Kind) (wide : Bool) (last : ℕ) (ts : List Term) (v : Val k) (new : Rest) → next_of (read last k) wide last ts ≡ Some (v, new) → Taken k (record { parts = ts; wide = wide; last = last }) new v
next-forth k wide last [] v new e = absurd cc
next-forth k wide last (x ∷ ts) v new e =
    let m = mapped (λ g. (g.value, record { parts = ts; wide = wide || g.wide; last = last })) (read last k x) (v, new) e in
    let s = read-forth last k x m.0 m.1 in
    record {
      value = s.value;
      spelled = ap (λ z. z ∷ ts) s.spelled ∙ ap (λ (p : Val k × Rest). written k s.value ∷ p.1.parts) m.2;
      fine = s.is_fine;
      width = sym (ap (λ (p : Val k × Rest). p.1.wide) m.2) ∙ ap (λ b. wide || b) s.is_wide;
      limit = sym (ap (λ (p : Val k × Rest). p.1.last) m.2);
      kept = λ w. sym (ap (λ (p : Val k × Rest). p.0) m.2) ∙ s.kept (s.is_wide ∙ w);
    }

pub record AllTaken (ks : List Kind) (old new : Rest) (vs : Vals ks) : Type 0 where
  pub values : Vals ks
  pub spelled : old.parts ≡ written_all ks values ++ new.parts
  pub fine : fine_all ks values ≡ true
  pub width : new.wide ≡ (old.wide || wide_all old.last ks values)
  pub kept : wide_all old.last ks values ≡ false → vs ≡ values

or-nothing : (b : Bool) → (b || false) ≡ b
or-nothing true = refl
or-nothing false = refl

pub all-forth : (ks : List Kind) (old new : Rest) (vs : Vals ks) → take_all ks old ≡ Some (vs, new) → AllTaken ks old new vs
all-forth [] old new vs e =
    let same : old ≡ new = ap (λ (o : Option (Unit {0} × Rest)). elim o [ None ↦ old | Some p ↦ p.1 ]) e in
    record { values = tt; spelled = ap (λ r. r.parts) same; fine = refl; width = sym (ap (λ r. r.wide) same) ∙ sym (or-nothing old.wide); kept = λ w. refl }
all-forth (k ∷ ks) old new vs e =
    let c = chained (λ v. option_map (λ ws. ((v.0, ws.0), ws.1)) (take_all ks v.1)) (take k old) (vs, new) e in
    let m = mapped (λ ws. ((c.0.0, ws.0), ws.1)) (take_all ks c.0.1) (vs, new) c.2 in
    let first = next-forth k old.wide old.last old.parts c.0.0 c.0.1 c.1 in
    let rest = all-forth ks c.0.1 m.0.1 m.0.0 m.1 in
    let same : wide_all c.0.1.last ks rest.values ≡ wide_all old.last ks rest.values = ap (λ n. wide_all n ks rest.values) first.limit in
    record {
      values = (first.value, rest.values);
      spelled = first.spelled ∙ ap (λ zs. written k first.value ∷ zs) rest.spelled ∙ ap (λ (p : Vals (k ∷ ks) × Rest). written k first.value ∷ (written_all ks rest.values ++ p.1.parts)) m.2;
      fine = ap (λ b. b && fine_all ks rest.values) first.fine ∙ rest.fine;
      width = sym (ap (λ (p : Vals (k ∷ ks) × Rest). p.1.wide) m.2) ∙ rest.width ∙ ap (λ b. c.0.1.wide || b) same ∙ ap (λ b. b || wide_all old.last ks rest.values) first.width
          ∙ or-again old.wide (is_wide old.last k first.value) (wide_all old.last ks rest.values);
      kept = λ w.
          let both = or_false (is_wide old.last k first.value) (wide_all old.last ks rest.values) w in
          sym (ap (λ (p : Vals (k ∷ ks) × Rest). p.0) m.2) ∙ ap (λ (v : Val k). (v, m.0.0)) (first.kept both.0) ∙ ap (λ (ws : Vals ks). (first.value, ws)) (rest.kept (same ∙ both.1));
    }

pub record AllFound (last : ℕ) (ks : List Kind) (vs : Vals ks) (rest : List Term) (wide : Bool) : Type 0 where
  pub got : Vals ks
  pub new : Rest
  pub is : take_all ks (record { parts = written_all ks vs ++ rest; wide = wide; last = last }) ≡ Some (got, new)
  pub parts : new.parts ≡ rest
  pub width : new.wide ≡ (wide || wide_all last ks vs)
  pub kept : wide_all last ks vs ≡ false → got ≡ vs

pub all-back : (last : ℕ) (ks : List Kind) (vs : Vals ks) (rest : List Term) (wide : Bool) → fine_all ks vs ≡ true → AllFound last ks vs rest wide
all-back last [] vs rest wide h = record { got = tt; new = record { parts = rest; wide = wide; last = last }; is = refl; parts = refl; width = sym (or-nothing wide); kept = λ w. refl }
all-back last (k ∷ ks) vs rest wide h =
    let both = both_hold (is_fine k vs.0) (fine_all ks vs.1) h in
    let first = read-back last k vs.0 both.0 in
    let more = all-back last ks vs.1 rest (wide || first.got.wide) both.1 in
    record {
      got = (first.got.value, more.got);
      new = more.new;
      is = ap (option_and_then (λ v. option_map (λ ws. ((v.0, ws.0), ws.1)) (take_all ks v.1))) (ap (option_map (λ g. (g.value, record { parts = written_all ks vs.1 ++ rest; wide = wide || g.wide; last = last }))) first.is)
          ∙ ap (option_map (λ ws. ((first.got.value, ws.0), ws.1))) more.is;
      parts = more.parts;
      width = more.width ∙ ap (λ b. (wide || b) || wide_all last ks vs.1) first.is_wide ∙ or-again wide (is_wide last k vs.0) (wide_all last ks vs.1);
      kept = λ w.
          let apart = or_false (is_wide last k vs.0) (wide_all last ks vs.1) w in
          ap (λ (v : Val k). (v, more.got)) (first.kept (first.is_wide ∙ apart.0)) ∙ ap (λ (ws : Vals ks). (vs.0, ws)) (more.kept apart.1);
    }

-- a form of its parts alone is read
pub record IsRead (last : ℕ) (ks : List Kind) (make : Vals ks → Instr) (ts : List Term) (i : Instr) (wide : Bool) : Type 0 where
  pub got : Vals ks
  pub is : answer last (Parts ks make) ts ≡ in_limits wide (make got)
  pub kept : wide ≡ false → make got ≡ i

at_end : (i : Instr) (wide w : Bool) (ts : List Term) → ts ≡ [] → w ≡ wide → complete i w ts ≡ in_limits wide i
at_end i wide w ts e h = ap (complete i w) e ∙ ap (λ b. in_limits b i) h

pub back : (last : ℕ) (ks : List Kind) (make : Vals ks → Instr) (ts : List Term) (i : Instr) (wide : Bool) → AreParts last ks make ts i wide → IsRead last ks make ts i wide
back last ks make ts i wide p =
    let f = all-back last ks p.values [] false p.fine in
    let whole : written_all ks p.values ++ [] ≡ ts = append-nil (written_all ks p.values) ∙ sym p.spelled in
    let taken_is : take_all ks (start last ts) ≡ Some (f.got, f.new) = ap (λ us. take_all ks (start last us)) (sym whole) ∙ f.is in
    record {
      got = f.got;
      is = ap (λ o. finished (option_map (λ vs. (make vs.0, vs.1)) o)) taken_is ∙ at_end (make f.got) wide f.new.wide f.new.parts f.parts (f.width ∙ p.width);
      kept = λ w. ap make (f.kept (p.width ∙ w)) ∙ p.is;
    }

in_limits-is : (wide : Bool) (i : Instr) → in_limits wide i ≡ Shape → ⊥
in_limits-is true i e = cc
in_limits-is false i e = cc

-- when each answer of a row comes
abbrev pub RightParts : ℕ → Row → List Term → Answer → Type 0
RightParts last row ts (Reads i) = IsWritten last row ts i false
RightParts last row ts Register = (i : Instr) × IsWritten last row ts i true
RightParts last row ts Shape = (i : Instr) (wide : Bool) → IsWritten last row ts i wide → ⊥
RightParts last row ts (Unknown name) = ⊥

-- the answer that comes is right
ended : (last : ℕ) (ks : List Kind) (make : Vals ks → Instr) (ts : List Term) (vs : Vals ks) (new : Rest) (wide : Bool) (left : List Term) → take_all ks (start last ts) ≡ Some (vs, new) → new.wide ≡ wide → new.parts ≡ left →
    answer last (Parts ks make) ts ≡ complete (make vs) wide left → RightParts last (Parts ks make) ts (complete (make vs) wide left)
ended last ks make ts vs new wide (x ∷ left) e w l a = λ i b p. let r = back last ks make ts i b p in in_limits-is b (make r.got) (sym r.is ∙ a)
ended last ks make ts vs new true [] e w l a =
    let f = all-forth ks (start last ts) new vs e in
    (make f.values, record { values = f.values; spelled = f.spelled ∙ ap (λ us. written_all ks f.values ++ us) l ∙ append-nil (written_all ks f.values); fine = f.fine; is = refl; width = sym f.width ∙ w })
ended last ks make ts vs new false [] e w l a =
    let f = all-forth ks (start last ts) new vs e in
    let narrow : wide_all last ks f.values ≡ false = sym f.width ∙ w in
    record { values = f.values; spelled = f.spelled ∙ ap (λ us. written_all ks f.values ++ us) l ∙ append-nil (written_all ks f.values); fine = f.fine; is = sym (ap make (f.kept narrow)); width = narrow }

judged : (last : ℕ) (ks : List Kind) (make : Vals ks → Instr) (ts : List Term) (o : Option (Vals ks × Rest)) → take_all ks (start last ts) ≡ o → RightParts last (Parts ks make) ts (finished (option_map (λ vs. (make vs.0, vs.1)) o))
judged last ks make ts None e = λ i b p. let r = back last ks make ts i b p in in_limits-is b (make r.got) (sym r.is ∙ ap (λ o. finished (option_map (λ vs. (make vs.0, vs.1)) o)) e)
judged last ks make ts (Some p) e = ended last ks make ts p.0 p.1 p.1.wide p.1.parts e refl refl (ap (λ o. finished (option_map (λ vs. (make vs.0, vs.1)) o)) e)

pub right : (last : ℕ) (row : Row) (ts : List Term) → RightParts last row ts (answer last row ts)
right last (Parts ks make) ts = judged last ks make ts (take_all ks (start last ts)) refl

-- and no other is: what is written so within the limits is read
pub read_back : (last : ℕ) (row : Row) (ts : List Term) (i : Instr) → IsWritten last row ts i false → answer last row ts ≡ Reads i
read_back last (Parts ks make) ts i p = let r = back last ks make ts i false p in r.is ∙ ap (λ j. Reads j) (r.kept refl)

pub refused_back : (last : ℕ) (row : Row) (ts : List Term) (i : Instr) → IsWritten last row ts i true → answer last row ts ≡ Register
refused_back last (Parts ks make) ts i p = (back last ks make ts i true p).is
