-- The forms of a module's functions in the words of the rule (docs/BEAM.md, Forms): for each function its first form,
-- and then those of its items, which begin, apart from lines and comments, with a label, the function's own
-- `func_info` and its entry label.
use Rattle.std.specs.Prelude.{◌≡◌, ℕ, Bool, true, false, if◌then◌else◌, List, [], ◌∷◌, ◌++◌, length, Some, None}
use Rattle.std.specs.List.{list_any}
use Rattle.text_forms.specs.declared.form.Form.{Form}
use Rattle.beam_code.specs.declared.item.Item.{Item}
use Rattle.beam_code.specs.declared.module.Function.{Function}
use Rattle.module_forms.specs.Form.{Reads, form_of}
use Rattle.beam_profile.specs.declared.header.Head.{Head}
use Rattle.beam_profile.specs.Header.{Key, same_key, head_of}
use Rattle.beam_profile.specs.Sequence.{Mark, Passive, Marks, Info, mark_of}

abbrev pub is_passive : Mark → Bool
is_passive Passive = true
is_passive _ = false

abbrev pub without_passive : List Mark → List Mark
without_passive [] = []
without_passive (m ∷ ms) = if is_passive m then without_passive ms else m ∷ without_passive ms

abbrev pub own_info : List ℕ → Head → Mark
own_info owner h = Info owner h.name h.arity

-- the marks up to the entry label, which has this index, and those behind it
pub record Begins (owner : List ℕ) (h : Head) (ms : List Mark) (at : ℕ) : Type 0 where
  pub front : List Mark
  pub behind : List Mark
  pub label : ℕ
  pub all : ms ≡ front ++ Marks h.entry ∷ behind
  pub front_is : without_passive front ≡ Marks label ∷ own_info owner h ∷ []
  pub place : at ≡ length front

abbrev pub marks : List Item → List Mark
marks [] = []
marks (x ∷ xs) = mark_of x.instr ∷ marks xs

-- the forms of items: each is no first form of a function, and is read as the instruction, in its line
pub record IsItem (last : ℕ) (f : Form) (x : Item) : Type 0 where
  pub line_is : f.line ≡ x.line
  pub no_head : head_of f.term ≡ None
  pub reads : form_of last f.term ≡ Reads x.instr

abbrev pub AreItems : ℕ → List Form → List Item → Type 0
AreItems last [] [] = Unit {0}
AreItems last (f ∷ fs) [] = ⊥
AreItems last [] (x ∷ xs) = ⊥
AreItems last (f ∷ fs) (x ∷ xs) = IsItem last f x × AreItems last fs xs

abbrev pub head_at : Function → ℕ → Head
head_at g label = record { name = g.name; arity = g.arity; entry = label }

abbrev pub key_of_function : Function → Key
key_of_function g = (g.name, g.arity)

-- the forms of one function, which is none of those that began, and the forms behind it
pub record IsFunction (last : ℕ) (owner : List ℕ) (seen : List Key) (fs : List Form) (g : Function) (rest : List Form) : Type 0 where
  pub first : Form
  pub label : ℕ
  pub lines : List Form
  pub spelled : fs ≡ first ∷ (lines ++ rest)
  pub head : head_of first.term ≡ Some (head_at g label)
  pub new : list_any (same_key (key_of_function g)) seen ≡ false
  pub items : AreItems last lines g.items
  pub begins : Begins owner (head_at g label) (marks g.items) g.entry

abbrev pub AreFunctions : ℕ → List ℕ → List Key → List Form → List Function → Type 0
AreFunctions last owner seen fs [] = fs ≡ []
AreFunctions last owner seen fs (g ∷ gs) = (rest : List Form) × IsFunction last owner seen fs g rest × AreFunctions last owner (seen ++ key_of_function g ∷ []) rest gs
