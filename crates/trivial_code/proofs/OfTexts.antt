-- What texts say of the functions of the modules that are read from them: arities and entries.
use Rattle.std.proofs.Common.{◌≡◌, ℕ, ◌≤◌, ◌++◌, Bool, true, false, List, [], ◌∷◌, Option, Some, None, length, slice_get, refl, ap, subst, sym, ◌∙◌, arith, if◌then◌else◌}
use Rattle.std.specs.Prelude.{option_and_then, option_map, nat_lt}
use Rattle.std.specs.List.{AllByRecursion, Contains}
use Rattle.form_ranges.proofs.Texts.{functions_read}
use Rattle.path_rules.specs.Ranges.{all_in_range}
use Rattle.std.proofs.lemmas.Bool.Decides.{nat_tests}
use Rattle.std.proofs.lemmas.Option.{option_and_then_some}
use Rattle.paths.proofs.Tests.{here, later}
use Rattle.term_tree.specs.declared.term.Term.{Term}
use Rattle.text_forms.specs.declared.form.Form.{Form}
use Rattle.module_forms.specs.Part.{atom_of, number_of, tuple_of, arity_of}
use Rattle.beam_code.specs.declared.instr.Instr.{Instr}
use Rattle.beam_code.specs.declared.instr.Instr.TheVariants as i
use Rattle.beam_code.specs.declared.module.Function.{Function}
use Rattle.beam_code.specs.declared.module.Module.{Module}
use Rattle.beam_code.specs.Lined.{Lined}
use Rattle.beam_code.specs.Shape as s
use Rattle.beam_profile.specs.declared.header.Head.{Head}
use Rattle.beam_profile.specs.declared.module.TheConstants.{LAST_INDEX}
use Rattle.beam_profile.specs.Forms.{AreFunctions, IsFunction, head_at, key_of_function, marks}
use Rattle.beam_profile.specs.Header.{Key, head_of, head_with}
use Rattle.beam_profile.specs.Sequence.{Mark, Marks, mark_of}
use Rattle.beam_check.specs.Texts.{AreOfTheirTexts}

-- ---- the first form of a function

bytes_of : (n : ℕ) → nat_lt 255 n ≡ false → n ≤ 255
bytes_of n e = grind (arith, nat_tests)

low_by : (n arity : ℕ) (b : Bool) → nat_lt 255 n ≡ b → (if b then None else Some n) ≡ Some arity → arity ≤ 255
low_by n arity true is e = absurd cc
low_by n arity false is e = let same : n ≡ arity = cc in subst (λ x. x ≤ 255) same (bytes_of n is)

arity_low : (t : Term) (arity : ℕ) → arity_of t ≡ Some arity → arity ≤ 255
arity_low t arity e = option_and_then_some (λ n. if nat_lt 255 n then None else Some n) (number_of t) arity e (λ n is some. low_by n arity (nat_lt 255 n) refl some)

mapped : (name : List ℕ) (arity : ℕ) (o : Option ℕ) (h : Head) → option_map (λ entry. record { name = name; arity = arity; entry = entry }) o ≡ Some h → h.arity ≡ arity
mapped name arity None h e = absurd cc
mapped name arity (Some entry) h e = let same : record { name = name; arity = arity; entry = entry } ≡ h = cc in ap (λ (x : Head). x.arity) (sym same)

so_many : (a e : Term) (name : List ℕ) (h : Head) → option_and_then (λ arity. option_map (λ entry. record { name = name; arity = arity; entry = entry }) (number_of e)) (arity_of a) ≡ Some h → h.arity ≤ 255
so_many a e name h is =
    option_and_then_some (λ arity. option_map (λ entry. record { name = name; arity = arity; entry = entry }) (number_of e)) (arity_of a) h is
    (λ arity there some. subst (λ n. n ≤ 255) (sym (mapped name arity (number_of e) h some)) (arity_low a arity there))

if_so : (b : Bool) (o : Option Head) (h : Head) → (if b then o else None) ≡ Some h → o ≡ Some h
if_so true o h e = e
if_so false o h e = absurd cc

head_low_in : (ts : List Term) (h : Head) → head_with ts ≡ Some h → h.arity ≤ 255
head_low_in (w ∷ f ∷ a ∷ e ∷ []) h is =
    option_and_then_some _ (atom_of w) h is
    (λ word there some. option_and_then_some (λ name. option_and_then (λ arity. option_map (λ entry. record { name = name; arity = arity; entry = entry }) (number_of e)) (arity_of a)) (atom_of f) h (if_so _ _ h some)
    (λ name called more. so_many a e name h more))
head_low_in ts h is = absurd cc

pub head_low : (t : Term) (h : Head) → head_of t ≡ Some h → h.arity ≤ 255
head_low t h e = option_and_then_some head_with (tuple_of t) h e (λ ts is some. head_low_in ts h some)

-- ---- the entry

record Label (items : List Lined) (k : ℕ) : Type 0 where
  item : Lined
  there : slice_get items k ≡ Some item
  passes : s.shape_of item.instr ≡ s.Passes

label_shape : (instr : Instr) (label : ℕ) → mark_of instr ≡ Marks label → s.shape_of instr ≡ s.Passes
label_shape (i.Label n) label e = refl
label_shape (i.Line about) label e = refl
label_shape (i.Comment about) label e = refl
label_shape instr label e = absurd cc

label_at : (items : List Lined) (front after : List Mark) (label : ℕ) → marks items ≡ front ++ Marks label ∷ after → Label items (length front)
label_at [] [] after label e = absurd cc
label_at [] (m ∷ front) after label e = absurd cc
label_at (x ∷ items) [] after label e = record { item = x; there = refl; passes = label_shape x.instr label cc }
label_at (x ∷ items) (m ∷ front) after label e =
    let l = label_at items front after label cc in record { item = l.item; there = l.there; passes = l.passes }

-- ---- functions of a text

pub record IsOfText (f : Function) : Type 0 where
  pub arity : f.arity ≤ 255
  pub range : all_in_range f ≡ true
  pub item : Lined
  pub there : slice_get f.items f.entry ≡ Some item
  pub passes : s.shape_of item.instr ≡ s.Passes

of_text : (owner : List ℕ) (seen : List Key) (fs : List Form) (g : Function) (rest : List Form) → IsFunction LAST_INDEX owner seen fs g rest → all_in_range g ≡ true → IsOfText g
of_text owner seen fs g rest is range =
    let begins = is.begins in
    let l = label_at g.items begins.front begins.behind is.label begins.all in
    record {
      arity = head_low is.first.term (head_at g is.label) is.head;
      range = range;
      item = l.item;
      there = ap (slice_get g.items) begins.place ∙ l.there;
      passes = l.passes;
    }

all_of_text : (owner : List ℕ) (seen : List Key) (fs : List Form) (gs : List Function) → AreFunctions LAST_INDEX owner seen fs gs → ((g : Function) → Contains gs g → all_in_range g ≡ true) → AllByRecursion IsOfText gs
all_of_text owner seen fs [] are range = tt
all_of_text owner seen fs (g ∷ gs) are range =
    (of_text owner seen fs g are.0 are.1 (range g (here g gs g refl)), all_of_text owner (seen ++ key_of_function g ∷ []) are.0 gs are.2 (λ f c. range f (later g gs f c)))

-- ---- all modules

-- what holds of each one
pub each_text : (ms : List Module) → AreOfTheirTexts ms → AllByRecursion (λ (m : Module). AllByRecursion IsOfText m.functions) ms
each_text [] texts = tt
each_text (m ∷ ms) texts =
    let of = texts m (here m ms m refl) in
    (all_of_text m.name [] of.is.rest m.functions of.is.functions_are (λ f c. (functions_read m.text m of f c).range), each_text ms (λ n c. texts n (later m ms n c)))
