-- What a running function holds of a path's point, and how that stays as registers change.
use Rattle.std.proofs.Common.{◌≡◌, ℕ, zero, suc, ◌+◌, ◌<◌, ◌≤◌, inl, inr, Bool, true, false, Option, Some, None, List, [], ◌∷◌, length, slice_get, slice_set, slice_index_or, nat_lt, refl, ap, subst, sym, ◌∙◌, arith, if◌then◌else◌}
use Rattle.std.specs.List.{list_all}
use Rattle.std.proofs.lemmas.Bool.{cases_eq, ltb-true, lt-ltb}
use Rattle.small_step.specs.Stage.{Stage}
use Rattle.term_tree.proofs.TermLaws.{both_hold}
use Rattle.term_tree.specs.Term.{tree_of}
use Rattle.term_tree.specs.Tree as t
use Rattle.term_tree.specs.Tree.{Tree}
use Rattle.beam_code.specs.declared.instr.Operand.{Operand}
use Rattle.beam_code.specs.declared.instr.Operand.TheVariants.{X, Y, Int, Atom, Nil, Literal}
use Rattle.beam_code.specs.declared.instr.Place.{Place}
use Rattle.beam_code.specs.declared.instr.Place.TheVariants as place
use Rattle.beam_code.specs.Row.{put, read_of, reads_of, slot_term, stuck, with_head, x_term, y_set, y_term}
use Rattle.beam_code.specs.State.{Event, Local, Slot, Holds, x_registers}
use Rattle.path_rules.specs.declared.tag.Tag.{Tag}
use Rattle.path_rules.specs.Points.{defined}
use Rattle.path_rules.specs.Ranges.{place_in_range}
use Rattle.path_rules.specs.Registers.{first_xs, place_passes, xs_in, ys_in}
use Rattle.path_rules.specs.Rules.{is_defined, is_in_stack}
use Rattle.path_rules.specs.Tags.{is_untagged}
use Rattle.beam_rows.proofs.Lists.{get_set_here, get_set_other, length_set}
use Rattle.run_laws.proofs.Lists.{index_set, registers_set}
use Rattle.run_laws.proofs.Tags.{plain_set, untagged_plain}
use Rattle.run_laws.specs.Shown.{ShowsRegisters, ShowsStack, slots_of}

-- the words used, and those that are covered, are not past the most
pub record Has (r most covered item : ℕ) (stack : Option ℕ) (tags : List Tag) (xs ys : List Bool) (l : Local) : Type 0 where
  pub left : l.left ≡ r
  pub room : l.used + covered ≤ most
  pub at : l.item ≡ item
  pub registers : ShowsRegisters xs l.xs
  pub wide : length l.xs ≡ x_registers
  pub shows : ShowsStack stack tags ys l.ys

-- ---- y registers

pub record IsThere (n : ℕ) (o : Option (List Slot)) : Type 0 where
  pub slots : List Slot
  pub is : o ≡ Some slots
  pub low : n < length slots

pub y_there : (stack : Option ℕ) (tags : List Tag) (ys : List Bool) (o : Option (List Slot)) (n : ℕ) → ShowsStack stack tags ys o → is_in_stack stack n ≡ true → IsThere n o
y_there stack tags ys None n s e = let off : is_in_stack None n ≡ true = sym (ap (λ k. is_in_stack k n) s.size) ∙ e in absurd cc
y_there stack tags ys (Some ss) n s e =
    let on : nat_lt n (length ss) ≡ true = sym (ap (λ k. is_in_stack k n) s.size) ∙ e in
    record { slots = ss; is = refl; low = ltb-true n (length ss) on }

pub y_set_is : (l : Local) (o : Option (List Slot)) (n : ℕ) (slot : Slot) (there : IsThere n o) (more : Local → Stage Local Event) → y_set l o n slot more ≡ more (record l { ys = Some (slice_set there.slots n slot) })
y_set_is l o n slot there more =
    ap (λ p. y_set l p n slot more) there.is
    ∙ ap (λ b. if b then more (record l { ys = Some (slice_set there.slots n slot) }) else stuck l) (lt-ltb n (length there.slots) there.low)

-- a term comes to a y register that has no mark
pub holds_shown : (stack : Option ℕ) (tags : List Tag) (ys : List Bool) (ss : List Slot) (n : ℕ) (v : Tree) → ShowsStack stack tags ys (Some ss) → n < length ss → is_untagged tags n ≡ true
    → ShowsStack stack tags (slice_set ys n true) (Some (slice_set ss n (Holds v)))
holds_shown stack tags ys ss n v s low free =
    record {
      size = s.size ∙ ap (λ k. Some k) (sym (length_set ss n (Holds v)));
      tags_are = s.tags_are ∙ sym (plain_set ss 0 n (Holds v) tt (untagged_plain ss n (sym (ap (λ ts. is_untagged ts n) s.tags_are) ∙ free)));
      terms = λ m h. elim (cases_eq m n) [
        | inl e ↦ (v, ap (slice_get (slice_set ss n (Holds v))) e ∙ get_set_here ss n (Holds v) low)
        | inr ne ↦ elim (index_set ys n m h) [
          | inl e ↦ absurd (ne e)
          | inr g ↦ (let u = s.terms m g in (u.0, get_set_other ss n m (Holds v) ne ∙ u.1))
        ]
      ];
    }

-- ---- places take terms

abbrev pub Fits : Option ℕ → List Tag → Place → Type 0
Fits stack tags (place.X n) = n < x_registers
Fits stack tags (place.Y n) = (is_in_stack stack n ≡ true) × (is_untagged tags n ≡ true)

abbrev pub AllFit : Option ℕ → List Tag → List Place → Type 0
AllFit stack tags [] = Unit {0}
AllFit stack tags (to ∷ places) = Fits stack tags to × AllFit stack tags places

pub all_fit : (stack : Option ℕ) (tags : List Tag) (places : List Place) → list_all (place_passes (is_in_stack stack)) places ≡ true → list_all (place_passes (is_untagged tags)) places ≡ true
    → list_all place_in_range places ≡ true → AllFit stack tags places
all_fit stack tags [] a b c = tt
all_fit stack tags (place.X n ∷ places) a b c =
    let x = both_hold (nat_lt n x_registers) (list_all place_in_range places) c in
    (ltb-true n x_registers x.0, all_fit stack tags places a b x.1)
all_fit stack tags (place.Y n ∷ places) a b c =
    let x = both_hold (is_in_stack stack n) (list_all (place_passes (is_in_stack stack)) places) a in
    let y = both_hold (is_untagged tags n) (list_all (place_passes (is_untagged tags)) places) b in
    ((x.0, y.0), all_fit stack tags places x.1 y.1 c)

pub record IsPut (r most covered item : ℕ) (stack : Option ℕ) (tags : List Tag) (xs ys : List Bool) (l : Local) (to : Place) (v : Tree) : Type 0 where
  pub local : Local
  pub is : (more : Local → Stage Local Event) → put l to v more ≡ more local
  pub has : Has r most covered item stack tags (defined (xs_in (to ∷ [])) xs) (defined (ys_in (to ∷ [])) ys) local

pub put_has : (r most c item : ℕ) (stack : Option ℕ) (tags : List Tag) (xs ys : List Bool) (l : Local) (to : Place) (v : Tree) → Has r most c item stack tags xs ys l → Fits stack tags to → IsPut r most c item stack tags xs ys l to v
put_has r most c item stack tags xs ys l (place.X n) v h fits =
    let wide : length l.xs ≡ x_registers = h.wide in
    let low : n < length l.xs = omega arith in
    record {
      local = record l { xs = slice_set l.xs n (Some v) };
      is = λ more. ap (λ b. if b then more (record l { xs = slice_set l.xs n (Some v) }) else stuck l) (lt-ltb n (length l.xs) low);
      has = record {
        left = h.left;
        room = h.room;
        at = h.at;
        registers = registers_set xs l.xs n v low h.registers;
        wide = length_set l.xs n (Some v) ∙ h.wide;
        shows = h.shows;
      };
    }
put_has r most c item stack tags xs ys l (place.Y n) v h fits =
    let there = y_there stack tags ys l.ys n h.shows fits.0 in
    record {
      local = record l { ys = Some (slice_set there.slots n (Holds v)) };
      is = λ more. y_set_is l l.ys n (Holds v) there more;
      has = record {
        left = h.left;
        room = h.room;
        at = h.at;
        registers = h.registers;
        wide = h.wide;
        shows = holds_shown stack tags ys there.slots n v (subst (ShowsStack stack tags ys) there.is h.shows) there.low fits.1;
      };
    }

-- ---- what is defined is read

x_read : (l : Local) (n : ℕ) (v : Tree) → slice_get l.xs n ≡ Some (Some v) → read_of l (X n) ≡ Some v
x_read l n v e = ap x_term e

y_read_in : (o : Option (List Slot)) (n : ℕ) (v : Tree) → slice_get (slots_of o) n ≡ Some (Holds v) → y_term o n ≡ Some v
y_read_in None n v e = absurd cc
y_read_in (Some ss) n v e = ap slot_term e

module _ (r most c item : ℕ) (stack : Option ℕ) (tags : List Tag) (xs ys : List Bool) (l : Local) (h : Has r most c item stack tags xs ys l) where
  pub reads_one : (o : Operand) → is_defined xs ys o ≡ true → (v : Tree) × (read_of l o ≡ Some v)
  reads_one (X n) e = let u = h.registers n e in (u.0, x_read l n u.0 u.1)
  reads_one (Y n) e = let u = h.shows.terms n e in (u.0, y_read_in l.ys n u.0 u.1)
  reads_one (Int i) e = (t.Int i, refl)
  reads_one (Atom a) e = (t.Atom a, refl)
  reads_one Nil e = (t.Nil, refl)
  reads_one (Literal v) e = (tree_of v, refl)

  pub reads_all : (os : List Operand) → list_all (is_defined xs ys) os ≡ true → (vs : List Tree) × (reads_of l os ≡ Some vs)
  reads_all [] e = ([], refl)
  reads_all (o ∷ os) e =
      let b = both_hold (is_defined xs ys o) (list_all (is_defined xs ys) os) e in
      let one = reads_one o b.0 in
      let rest = reads_all os b.1 in
      (one.0 ∷ rest.0, ap (λ x. with_head x (reads_of l os)) one.1 ∙ ap (with_head (Some one.0)) rest.1)

  first_defined_at : (k n : ℕ) → n < k → list_all (is_defined xs ys) (first_xs k) ≡ true → slice_index_or xs n false ≡ true
  first_defined_at zero n low e = absurd (omega arith)
  first_defined_at (suc k) n low e =
      let b = both_hold (is_defined xs ys (X k)) (list_all (is_defined xs ys) (first_xs k)) e in
      elim (cases_eq n k) [
        | inl same ↦ subst (λ m. slice_index_or xs m false ≡ true) (sym same) b.0
        | inr other ↦ first_defined_at k n (omega (arith, other)) b.1
      ]

  pub first_there : (k : ℕ) → list_all (is_defined xs ys) (first_xs k) ≡ true → (n : ℕ) → n < k → (v : Tree) × (slice_get l.xs n ≡ Some (Some v))
  first_there k e n low = h.registers n (first_defined_at k n low e)
