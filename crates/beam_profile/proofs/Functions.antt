-- Functions that are read stand there in the words of the rule, and the other way.
use Rattle.std.proofs.Common.{◌≡◌, ℕ, ◌+◌, Bool, true, false, if◌then◌else◌, List, [], ◌∷◌, ◌++◌, length, Option, Some, None, Result, Ok, Err, refl, sym, ap, subst, ◌∙◌, arith, append_assoc, append-nil}
use Rattle.std.specs.Prelude.{option_and_then}
use Rattle.std.specs.List.{list_any}
use Rattle.std.proofs.lemmas.Grind.{common_steps}
use Rattle.text_forms.specs.declared.form.Form.{Form}
use Rattle.beam_code.specs.declared.instr.Instr.{Instr}
use Rattle.beam_code.specs.declared.item.Item.{Item}
use Rattle.beam_code.specs.declared.module.Function.{Function}
use Rattle.module_forms.specs.Form.{Answer, Reads, Register, Shape, Unknown, form_of}
use Rattle.beam_profile.specs.declared.header.Head.{Head}
use Rattle.beam_profile.specs.declared.refusal.ModuleRefusal.{ModuleRefusal}
use Rattle.beam_profile.specs.declared.sequence.State.{State}
use Rattle.beam_profile.specs.declared.sequence.Stage.{Stage}
use Rattle.beam_profile.specs.declared.sequence.Stage.TheVariants.{WantsLabel, WantsInfo, WantsEntry, Begun}
use Rattle.beam_profile.specs.Header.{Key, same_key, key_at, head_of}
use Rattle.beam_profile.specs.Sequence.{Mark, mark_of, next, with, with_item, closed_with, begun, with_new, with_function, with_answer, step_with, step, ended, onward, go, functions}
use Rattle.beam_profile.specs.Forms.{marks, IsItem, AreItems, head_at, key_of_function, IsFunction, AreFunctions}
use Rattle.beam_profile.proofs.Beginning.{run, begins-forth, begins-back}

abbrev placed : ℕ → Instr → Item
placed line instr = record { line = line; instr = instr }

-- what goes on came from something
pub onward-is : {A B : Type 0} (r : Result A ModuleRefusal) (goes : A → Result B ModuleRefusal) (b : B) → onward r goes ≡ Ok b → (a : A) × (r ≡ Ok a) × (goes a ≡ Ok b)
onward-is (Err e) goes b h = absurd cc
onward-is (Ok a) goes b h = (a, refl, h)

pub with-is : {A B : Type 0} (line : ℕ) (o : Option A) (goes : A → Result B ModuleRefusal) (b : B) → with line o goes ≡ Ok b → (a : A) × (o ≡ Some a) × (goes a ≡ Ok b)
with-is line None goes b e = absurd cc
with-is line (Some a) goes b e = (a, refl, e)

chosen-is : {A : Type 0} (b : Bool) (x y : A) → (if b then None else Some x) ≡ Some y → (b ≡ false) × (x ≡ y)
chosen-is true x y e = absurd cc
chosen-is false x y e = (refl, cc)

marks-append : (xs ys : List Item) → marks (xs ++ ys) ≡ marks xs ++ marks ys
marks-append [] ys = refl
marks-append (x ∷ xs) ys = ap (λ z. mark_of x.instr ∷ z) (marks-append xs ys)

length-marks : (xs : List Item) → length (marks xs) ≡ length xs
length-marks [] = refl
length-marks (x ∷ xs) = grind (arith, common_steps, length-marks xs)

module _ (last : ℕ) (owner : List ℕ) where
  -- ---- the items of one function
  run-more : (h : Head) (at : ℕ) (x : Mark) (ms : List Mark) (m : Mark) (s t : Stage) (o : Option Stage) →
      ((u : Stage) → run owner h (at + 1) u ms ≡ Some s → next owner h ((at + 1) + length ms) s m ≡ Some t → run owner h (at + 1) u (ms ++ m ∷ []) ≡ Some t) →
      option_and_then (λ u. run owner h (at + 1) u ms) o ≡ Some s → next owner h (at + length (x ∷ ms)) s m ≡ Some t → option_and_then (λ u. run owner h (at + 1) u (ms ++ m ∷ [])) o ≡ Some t
  run-more h at x ms m s t None more e n = absurd cc
  run-more h at x ms m s t (Some u) more e n =
      let here : (at + 1) + length ms ≡ at + length (x ∷ ms) = grind (arith, common_steps) in
      more u e (ap (λ k. next owner h k s m) here ∙ n)

  run-last : (h : Head) (at : ℕ) (stage : Stage) (ms : List Mark) (m : Mark) (s t : Stage) → run owner h at stage ms ≡ Some s → next owner h (at + length ms) s m ≡ Some t → run owner h at stage (ms ++ m ∷ []) ≡ Some t
  run-last h at stage [] m s t e n =
      let same : stage ≡ s = cc in
      let here : at + 0 ≡ at = omega arith in
      let after : next owner h at stage m ≡ Some t = ap (λ u. next owner h at u m) same ∙ sym (ap (λ k. next owner h k s m) here) ∙ n in
      ap (λ (o : Option Stage). option_and_then (λ u. run owner h (at + 1) u []) o) after
  run-last h at stage (x ∷ ms) m s t e n = run-more h at x ms m s t (next owner h at stage x) (λ u d k. run-last h (at + 1) u ms m s t d k) e n

  -- these items came to this stage
  abbrev pub has_run : Head → List Item → Stage → Type 0
  has_run h items s = run owner h 0 WantsLabel (marks items) ≡ Some s

  one_more : (h : Head) (items : List Item) (x : Item) (s t : Stage) → has_run h items s → next owner h (length items) s (mark_of x.instr) ≡ Some t → has_run h (items ++ x ∷ []) t
  one_more h items x s t e n =
      let count : 0 + length (marks items) ≡ length items = omega (arith, length-marks items) in
      ap (run owner h 0 WantsLabel) (marks-append items (x ∷ [])) ∙ run-last h 0 WantsLabel (marks items) (mark_of x.instr) s t e (ap (λ k. next owner h k s (mark_of x.instr)) count ∙ n)

  -- ---- the rest of a function of which these items were read, and the functions behind it
  abbrev pub state : Head → Stage → List Item → List Function → State
  state h s items done = record { owner = owner; head = h; stage = s; items = items; done = done }

  abbrev pub read_as : Head → ℕ → List Item → Function
  read_as h k items = record { name = h.name; arity = h.arity; entry = k; items = items }

  pub record Rest (h : Head) (items : List Item) (done : List Function) (seen : List Key) (fs : List Form) (all : List Function) : Type 0 where
    pub more : List Item
    pub lines : List Form
    pub rest : List Form
    pub entry : ℕ
    pub others : List Function
    pub spelled : fs ≡ lines ++ rest
    pub are : AreItems last lines more
    pub begun_at : has_run h (items ++ more) (Begun entry)
    pub every : all ≡ done ++ read_as h entry (items ++ more) ∷ others
    pub behind : AreFunctions last owner seen rest others

  closed-is : (h : Head) (s : Stage) (items : List Item) (done fs : List Function) → closed_with h items done s ≡ Some fs → (k : ℕ) × (s ≡ Begun k) × (done ++ read_as h k items ∷ [] ≡ fs)
  closed-is h (Begun k) items done fs e = (k, refl, cc)
  closed-is h WantsLabel items done fs e = absurd cc
  closed-is h WantsInfo items done fs e = absurd cc
  closed-is h WantsEntry items done fs e = absurd cc

  at_end : (h : Head) (s : Stage) (items : List Item) (done all : List Function) (seen : List Key) (line : ℕ) → has_run h items s → ended line (state h s items done) ≡ Ok all → Rest h items done seen [] all
  at_end h s items done all seen line r e =
      let w = with-is line (closed_with h items done s) (λ fs. Ok fs) all e in
      let k = closed-is h s items done w.0 w.1 in
      let same : w.0 ≡ all = cc in
      let whole : items ++ [] ≡ items = append-nil items in
      record {
        more = [];
        lines = [];
        rest = [];
        entry = k.0;
        others = [];
        spelled = refl;
        are = tt;
        begun_at = ap (λ xs. run owner h 0 WantsLabel (marks xs)) whole ∙ r ∙ ap (λ t. Some t) k.1;
        every = sym same ∙ sym k.2 ∙ ap (λ xs. done ++ read_as h k.0 xs ∷ []) (sym whole);
        behind = refl;
      }

  -- one item more was read
  with_line : (h : Head) (items : List Item) (done : List Function) (seen : List Key) (f : Form) (x : Item) (fs : List Form) (all : List Function) → IsItem last f x → Rest h (items ++ x ∷ []) done seen fs all → Rest h items done seen (f ∷ fs) all
  with_line h items done seen f x fs all is r =
      let whole : (items ++ x ∷ []) ++ r.more ≡ items ++ x ∷ r.more = append_assoc items (x ∷ []) r.more in
      record {
        more = x ∷ r.more;
        lines = f ∷ r.lines;
        rest = r.rest;
        entry = r.entry;
        others = r.others;
        spelled = ap (λ zs. f ∷ zs) r.spelled;
        are = (is, r.are);
        begun_at = sym (ap (λ xs. run owner h 0 WantsLabel (marks xs)) whole) ∙ r.begun_at;
        every = r.every ∙ ap (λ xs. done ++ read_as h r.entry xs ∷ r.others) whole;
        behind = r.behind;
      }

  -- the next function begins
  with_next : (h g : Head) (s : Stage) (items : List Item) (done fs : List Function) (seen : List Key) (f : Form) (ls : List Form) (all : List Function) →
      closed_with h items done s ≡ Some fs → has_run h items s → head_of f.term ≡ Some g → list_any (same_key (key_at g)) seen ≡ false → Rest g [] fs (seen ++ key_at g ∷ []) ls all → Rest h items done seen (f ∷ ls) all
  with_next h g s items done fs seen f ls all c e is new r =
      let k = closed-is h s items done fs c in
      let whole : items ++ [] ≡ items = append-nil items in
      let made = read_as g r.entry r.more in
      let here : IsFunction last owner seen (f ∷ ls) made r.rest =
      record { first = f; label = g.entry; lines = r.lines; spelled = ap (λ zs. f ∷ zs) r.spelled; head = is; new = new; items = r.are; begins = begins-forth owner g (marks r.more) r.entry r.begun_at } in
      record {
        more = [];
        lines = [];
        rest = f ∷ ls;
        entry = k.0;
        others = made ∷ r.others;
        spelled = refl;
        are = tt;
        begun_at = ap (λ xs. run owner h 0 WantsLabel (marks xs)) whole ∙ e ∙ ap (λ t. Some t) k.1;
        every = r.every ∙ ap (λ zs. zs ++ made ∷ r.others) (sym k.2) ∙ append_assoc done (read_as h k.0 items ∷ []) (made ∷ r.others)
            ∙ ap (λ xs. done ++ read_as h k.0 xs ∷ made ∷ r.others) (sym whole);
        behind = (r.rest, here, r.behind);
      }

  -- what is shown of the forms that are left
  abbrev pub Again : List Form → List Function → Type 0
  Again ls all = (h : Head) (s : Stage) (items : List Item) (done : List Function) (seen : List Key) (line : ℕ) → has_run h items s → go last line (state h s items done) seen ls ≡ Ok all → Rest h items done seen ls all

  answer-forth : (h : Head) (s : Stage) (items : List Item) (done all : List Function) (seen : List Key) (f : Form) (ls : List Form) (a : Answer) → Again ls all → has_run h items s → head_of f.term ≡ None → form_of last f.term ≡ a →
      onward (with_answer (state h s items done) seen f.line a) (λ n. go last f.line n.0 n.1 ls) ≡ Ok all → Rest h items done seen (f ∷ ls) all
  answer-forth h s items done all seen f ls (Reads instr) again r none reads e =
      let x : Item = record { line = f.line; instr = instr } in
      let o = onward-is (with_item (state h s items done) seen f.line instr) (λ n. go last f.line n.0 n.1 ls) all e in
      let w = with-is f.line (next owner h (length items) s (mark_of instr)) (λ t. Ok (state h t (items ++ x ∷ []) done, seen)) o.0 o.1 in
      let same : (state h w.0 (items ++ x ∷ []) done, seen) ≡ o.0 = cc in
      let goes : go last f.line (state h w.0 (items ++ x ∷ []) done) seen ls ≡ Ok all = ap (λ (n : State × List Key). go last f.line n.0 n.1 ls) same ∙ o.2 in
      with_line h items done seen f x ls all (record { line_is = refl; no_head = none; reads = reads }) (again h w.0 (items ++ x ∷ []) done seen f.line (one_more h items x s w.0 r w.1) goes)
  answer-forth h s items done all seen f ls Register again r none reads e = absurd cc
  answer-forth h s items done all seen f ls Shape again r none reads e = absurd cc
  answer-forth h s items done all seen f ls (Unknown name) again r none reads e = absurd cc

  form-forth : (h : Head) (s : Stage) (items : List Item) (done all : List Function) (seen : List Key) (f : Form) (ls : List Form) (o : Option Head) → Again ls all → has_run h items s → head_of f.term ≡ o →
      onward (step_with last (state h s items done) seen f.line o f.term) (λ n. go last f.line n.0 n.1 ls) ≡ Ok all → Rest h items done seen (f ∷ ls) all
  form-forth h s items done all seen f ls None again r is e = answer-forth h s items done all seen f ls (form_of last f.term) again r is refl e
  form-forth h s items done all seen f ls (Some g) again r is e =
      let o = onward-is (with_function (state h s items done) seen f.line g) (λ n. go last f.line n.0 n.1 ls) all e in
      let w = with-is f.line (closed_with h items done s) (λ fs. with f.line (with_new seen (key_at g)) (λ more. Ok (begun owner g fs, more))) o.0 o.1 in
      let v = with-is f.line (with_new seen (key_at g)) (λ more. Ok (begun owner g w.0, more)) o.0 w.2 in
      let new = chosen-is (list_any (same_key (key_at g)) seen) (seen ++ key_at g ∷ []) v.0 v.1 in
      let same : (begun owner g w.0, v.0) ≡ o.0 = cc in
      let goes : go last f.line (begun owner g w.0) (seen ++ key_at g ∷ []) ls ≡ Ok all =
      ap (λ zs. go last f.line (begun owner g w.0) zs ls) new.1 ∙ ap (λ (n : State × List Key). go last f.line n.0 n.1 ls) same ∙ o.2 in
      with_next h g s items done w.0 seen f ls all w.1 r is new.0 (again g WantsLabel [] w.0 (seen ++ key_at g ∷ []) f.line refl goes)

  pub lines-forth : (ls : List Form) (all : List Function) → Again ls all
  lines-forth [] all h s items done seen line r e = at_end h s items done all seen line r e
  lines-forth (f ∷ ls) all h s items done seen line r e = form-forth h s items done all seen f ls (head_of f.term) (lines-forth ls all) r refl e

  -- functions that are read stand there
  pub functions-forth : (fs : List Form) (all : List Function) → functions last owner fs ≡ Ok all → AreFunctions last owner [] fs all
  functions-forth [] [] e = refl
  functions-forth [] (g ∷ gs) e = absurd cc
  functions-forth (f ∷ fs) all e =
      let w = with-is f.line (head_of f.term) (λ h. go last f.line (begun owner h []) (key_at h ∷ []) fs) all e in
      let r = lines-forth fs all w.0 WantsLabel [] [] (key_at w.0 ∷ []) f.line refl w.2 in
      let made = read_as w.0 r.entry r.more in
      let here : IsFunction last owner [] (f ∷ fs) made r.rest =
      record { first = f; label = w.0.entry; lines = r.lines; spelled = ap (λ zs. f ∷ zs) r.spelled; head = w.1; new = refl; items = r.are; begins = begins-forth owner w.0 (marks r.more) r.entry r.begun_at } in
      let are : AreFunctions last owner [] (f ∷ fs) (made ∷ r.others) = (r.rest, here, r.behind) in
      subst (λ zs. AreFunctions last owner [] (f ∷ fs) zs) (sym r.every) are

  -- ---- and back: the items of a function are read, one after another
  pub record Gone (h : Head) (s : Stage) (items : List Item) (done : List Function) (seen : List Key) (line : ℕ) (fs : List Form) (more : List Item) (rest : List Form) (entry : ℕ) : Type 0 where
    pub last_line : ℕ
    pub is : go last line (state h s items done) seen (fs ++ rest) ≡ go last last_line (state h (Begun entry) (items ++ more) done) seen rest

  abbrev pub GoesOver : List Form → List Item → Type 0
  GoesOver fs more = (h : Head) (s : Stage) (items : List Item) (done : List Function) (seen : List Key) (line : ℕ) (rest : List Form) (entry : ℕ) → run owner h (length items) s (marks more) ≡ Some (Begun entry) → Gone h s items done seen line fs more rest entry

  item-step : (h : Head) (s t : Stage) (items : List Item) (done : List Function) (seen : List Key) (f : Form) (x : Item) → IsItem last f x → next owner h (length items) s (mark_of x.instr) ≡ Some t →
      step last (state h s items done) seen f ≡ Ok (state h t (items ++ x ∷ []) done, seen)
  item-step h s t items done seen f x is n =
      let line : placed f.line x.instr ≡ x = ap (λ k. placed k x.instr) is.line_is in
      ap (λ o. step_with last (state h s items done) seen f.line o f.term) is.no_head
      ∙ ap (with_answer (state h s items done) seen f.line) is.reads
      ∙ ap (λ o. with f.line o (λ u. Ok (state h u (items ++ placed f.line x.instr ∷ []) done, seen))) n
      ∙ ap (λ (y : Item). Ok (state h t (items ++ y ∷ []) done, seen)) line

  item-back : (f : Form) (x : Item) (fs : List Form) (xs : List Item) → IsItem last f x → GoesOver fs xs → (h : Head) (s : Stage) (items : List Item) (done : List Function) (seen : List Key) (line : ℕ) (rest : List Form) (entry : ℕ) (o : Option Stage) →
      next owner h (length items) s (mark_of x.instr) ≡ o → option_and_then (λ t. run owner h (length items + 1) t (marks xs)) o ≡ Some (Begun entry) → Gone h s items done seen line (f ∷ fs) (x ∷ xs) rest entry
  item-back f x fs xs is again h s items done seen line rest entry None n e = absurd cc
  item-back f x fs xs is again h s items done seen line rest entry (Some t) n e =
      let count : length items + 1 ≡ length (items ++ x ∷ []) = grind (arith, common_steps) in
      let r = again h t (items ++ x ∷ []) done seen f.line rest entry (ap (λ k. run owner h k t (marks xs)) (sym count) ∙ e) in
      record {
        last_line = r.last_line;
        is = ap (λ g. onward g (λ n. go last f.line n.0 n.1 (fs ++ rest))) (item-step h s t items done seen f x is n) ∙ r.is
            ∙ ap (λ (zs : List Item). go last r.last_line (state h (Begun entry) zs done) seen rest) (append_assoc items (x ∷ []) xs);
      }

  pub items-back : (fs : List Form) (xs : List Item) → AreItems last fs xs → GoesOver fs xs
  items-back [] [] are h s items done seen line rest entry e =
      let same : s ≡ Begun entry = cc in
      record { last_line = line; is = ap (λ u. go last line (state h u items done) seen rest) same ∙ ap (λ (zs : List Item). go last line (state h (Begun entry) zs done) seen rest) (sym (append-nil items)) }
  items-back (f ∷ fs) [] are h s items done seen line rest entry e = absurd are
  items-back [] (x ∷ xs) are h s items done seen line rest entry e = absurd are
  items-back (f ∷ fs) (x ∷ xs) are h s items done seen line rest entry e = item-back f x fs xs are.0 (items-back fs xs are.1) h s items done seen line rest entry (next owner h (length items) s (mark_of x.instr)) refl e

  new-step : (h g : Head) (k : ℕ) (items : List Item) (done : List Function) (seen : List Key) (f : Form) → head_of f.term ≡ Some g → list_any (same_key (key_at g)) seen ≡ false →
      step last (state h (Begun k) items done) seen f ≡ Ok (begun owner g (done ++ read_as h k items ∷ []), seen ++ key_at g ∷ [])
  new-step h g k items done seen f is new =
      ap (λ o. step_with last (state h (Begun k) items done) seen f.line o f.term) is
      ∙ ap (λ b. with f.line (if b then None else Some (seen ++ key_at g ∷ [])) (λ more. Ok (begun owner g (done ++ read_as h k items ∷ []), more))) new

  -- the functions behind one that may end
  pub behind-back : (gs : List Function) (h : Head) (k : ℕ) (items : List Item) (done : List Function) (seen : List Key) (line : ℕ) (fs : List Form) → AreFunctions last owner seen fs gs →
      go last line (state h (Begun k) items done) seen fs ≡ Ok (done ++ read_as h k items ∷ gs)
  behind-back [] h k items done seen line fs are = ap (go last line (state h (Begun k) items done) seen) are
  behind-back (g ∷ gs) h k items done seen line fs are =
      let is = are.1 in
      let there = done ++ read_as h k items ∷ [] in
      let next_head = head_at g is.label in
      let key = key_of_function g in
      let begins = begins-back owner next_head (marks g.items) g.entry is.begins in
      let r = items-back is.lines g.items is.items next_head WantsLabel [] there (seen ++ key ∷ []) is.first.line are.0 g.entry begins in
      let more = behind-back gs next_head g.entry g.items there (seen ++ key ∷ []) r.last_line are.0 are.2 in
      ap (go last line (state h (Begun k) items done) seen) is.spelled
      ∙ ap (λ n. onward n (λ m. go last is.first.line m.0 m.1 (is.lines ++ are.0))) (new-step h next_head k items done seen is.first is.head is.new)
      ∙ r.is ∙ more ∙ ap (λ z. Ok z) (append_assoc done (read_as h k items ∷ []) (g ∷ gs))

  -- functions that stand there are read
  pub functions-back : (fs : List Form) (all : List Function) → AreFunctions last owner [] fs all → functions last owner fs ≡ Ok all
  functions-back fs [] are = ap (functions last owner) are
  functions-back fs (g ∷ gs) are =
      let is = are.1 in
      let first_head = head_at g is.label in
      let key = key_of_function g in
      let begins = begins-back owner first_head (marks g.items) g.entry is.begins in
      let r = items-back is.lines g.items is.items first_head WantsLabel [] [] (key ∷ []) is.first.line are.0 g.entry begins in
      ap (functions last owner) is.spelled
      ∙ ap (λ o. with is.first.line o (λ h. go last is.first.line (begun owner h []) (key_at h ∷ []) (is.lines ++ are.0))) is.head
      ∙ r.is ∙ behind-back gs first_head g.entry g.items [] (key ∷ []) r.last_line are.0 are.2
