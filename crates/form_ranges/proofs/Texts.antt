-- What the functions of a text's module have: registers in range, and an item.
use Rattle.std.proofs.Common.{◌≡◌, ℕ, suc, inl, inr, true, refl, ap, arith, subst, List, [], ◌∷◌, ◌++◌, length, length-append}
use Rattle.std.specs.List.{Contains, list_all}
use Rattle.std.proofs.lemmas.Bool.{and_from}
use Rattle.paths.proofs.Tests.{first_or_later}
use Rattle.text_forms.specs.declared.form.Form.{Form}
use Rattle.beam_code.specs.declared.module.Function.{Function}
use Rattle.beam_code.specs.Lined.{Lined}
use Rattle.beam_code.specs.Shape.{shape_of}
use Rattle.path_rules.specs.Ranges.{is_in_range}
use Rattle.beam_profile.specs.declared.module.TheConstants.{LAST_INDEX}
use Rattle.beam_profile.specs.Forms.{AreFunctions, AreItems, IsFunction, key_of_function, marks}
use Rattle.beam_profile.specs.Header.{Key}
use Rattle.beam_profile.specs.Sequence.{Mark, Marks}
use Rattle.form_ranges.specs.Ranges.{FunctionsAreRead, IsRead, ReadInRange}
use Rattle.form_ranges.proofs.Rows.{read_in_range}

in_range : ReadInRange LAST_INDEX
in_range = read_in_range LAST_INDEX (record { arities = omega arith; xs = omega arith; ys = omega arith })

items_in_range : (fs : List Form) (items : List Lined) → AreItems LAST_INDEX fs items → list_all (λ i. is_in_range (shape_of i.instr)) items ≡ true
items_in_range [] [] are = refl
items_in_range (f ∷ fs) [] are = absurd are
items_in_range [] (i ∷ items) are = absurd are
items_in_range (f ∷ fs) (i ∷ items) are = and_from _ _ (in_range f.term i.instr are.0.reads) (items_in_range fs items are.1)

long_marks : (items : List Lined) → length (marks items) ≡ length items
long_marks [] = refl
long_marks (i ∷ items) = ap suc (long_marks items)

is_read : (owner : List ℕ) (seen : List Key) (fs : List Form) (g : Function) (rest : List Form) → IsFunction LAST_INDEX owner seen fs g rest → IsRead g
is_read owner seen fs g rest is = record {
  range = items_in_range is.lines g.items is.items;
  entry = (
      let begins = is.begins in
      let whole : length (marks g.items) ≡ length (begins.front ++ Marks is.label ∷ begins.behind) = ap (λ (ms : List Mark). length ms) begins.all in
      omega (arith, whole, begins.place, long_marks g.items, length-append begins.front (Marks is.label ∷ begins.behind))
      );
}

all_read : (owner : List ℕ) (seen : List Key) (fs : List Form) (gs : List Function) → AreFunctions LAST_INDEX owner seen fs gs → (g : Function) → Contains gs g → IsRead g
all_read owner seen fs [] are g c = absurd (omega (arith, c.1))
all_read owner seen fs (h ∷ gs) are g c =
    elim (first_or_later h gs g c) [
      | inl e ↦ subst (λ (f : Function). IsRead f) e (is_read owner seen fs h are.0 are.1)
      | inr later ↦ all_read owner (seen ++ key_of_function h ∷ []) are.0 gs are.2 g later
    ]

pub functions_read : FunctionsAreRead
functions_read text m of = all_read m.name [] of.is.rest m.functions of.is.functions_are
