-- One function after the other: what is left of all functions, and how many items stand before them.
use Rattle.std.proofs.Common.{◌≡◌, ℕ, zero, suc, ◌+◌, ◌<◌, ◌≤◌, Bool, true, false, if◌then◌else◌, refl, sym, ap, ◌∙◌, List, [], ◌∷◌, ◌++◌, append-nil, append_assoc, drop, length, take, Option, Some, None, option_map, slice_get, arith, add-one}
use Rattle.beam_code.specs.declared.module.Function.{Function}
use Rattle.beam_code.specs.declared.module.Module.{Module}
use Rattle.beam_code.specs.Function.{Placed, all_functions, first_that, function_at, is_label_item, items_in, label_in}
use Rattle.module_check.specs.Checks.{first_of}
use Rattle.module_texts.specs.Bounds.{AreBounded}
use Rattle.path_rules.specs.declared.limits.TheConstants.{MOST_UNITS}
use Rattle.native_link.specs.Checking.{Linked}
use Rattle.native_link.specs.Places.{first_item}
use Rattle.word_rows.specs.declared.row.Row.{Row}
use Rattle.word_rows.specs.Rows.{behind_items, here_of, rows_from, rows_in}

pub drop_here : {A : Type 0} (xs : List A) (n : ℕ) (x : A) → slice_get xs n ≡ Some x → drop n xs ≡ x ∷ drop (suc n) xs
drop_here [] n x e = absurd cc
drop_here (y ∷ ys) zero x e = (let same : y ≡ x = cc in ap (λ z. z ∷ ys) same)
drop_here (y ∷ ys) (suc n) x e = drop_here ys n x e

items_here : (ps : List Placed) (n : ℕ) (p : Placed) → slice_get ps n ≡ Some p → items_in (take (suc n) ps) ≡ items_in (take n ps) + length p.function.items
items_here [] n p e = absurd cc
items_here (q ∷ qs) zero p e = (let same : q ≡ p = cc in let long = ap (λ (x : Placed). length x.function.items) same in omega (arith, long))
items_here (q ∷ qs) (suc n) p e = (let rest = items_here qs n p e in omega (arith, rest))

pub one_function : (l : Linked) (n : ℕ) (p : Placed) (made new : List Row) (roots after : List ℕ) → slice_get (all_functions l.modules) n ≡ Some p →
    new ≡ made ++ rows_from (here_of l p (first_item l.modules n)) 0 roots p.function.items → after ≡ behind_items p.function.items roots →
    new ++ rows_in l (first_item l.modules (n + 1)) after (drop (n + 1) (all_functions l.modules)) ≡ made ++ rows_in l (first_item l.modules n) roots (drop n (all_functions l.modules))
one_function l n p made new roots after at is behind =
    let all = all_functions l.modules in
    let here : List Row = rows_from (here_of l p (first_item l.modules n)) 0 roots p.function.items in
    let rest : List Row = rows_in l (first_item l.modules (n + 1)) after (drop (n + 1) all) in
    let rest_from : ℕ → List ℕ → ℕ → List Row = λ first left k. rows_in l first left (drop k all) in
    let next : first_item l.modules (n + 1) ≡ first_item l.modules n + length p.function.items = ap (λ k. items_in (take k all)) (add-one n) ∙ items_here all n p at in
    let tail : rest ≡ rest_from (first_item l.modules n + length p.function.items) (behind_items p.function.items roots) (suc n) =
    ap (λ k. rest_from k after (n + 1)) next
    ∙ ap (λ (left : List ℕ). rest_from (first_item l.modules n + length p.function.items) left (n + 1)) behind
    ∙ ap (rest_from (first_item l.modules n + length p.function.items) (behind_items p.function.items roots)) (add-one n) in
    let left : new ++ rest ≡ (made ++ here) ++ rest = ap (λ (rows : List Row). rows ++ rest) is in
    let right : made ++ (here ++ rest) ≡ made ++ (here ++ rest_from (first_item l.modules n + length p.function.items) (behind_items p.function.items roots) (suc n)) = ap (λ (rows : List Row). made ++ (here ++ rows)) tail in
    let last : made ++ rows_in l (first_item l.modules n) roots (drop n all) ≡ made ++ (here ++ rest_from (first_item l.modules n + length p.function.items) (behind_items p.function.items roots) (suc n)) =
    ap (λ (ps : List Placed). made ++ rows_in l (first_item l.modules n) roots ps) (drop_here all n p at) in
    left ∙ append_assoc made here rest ∙ right ∙ sym last

drop_past : {A : Type 0} (xs : List A) (n : ℕ) → length xs ≤ n → drop n xs ≡ []
drop_past [] zero lt = refl
drop_past [] (suc n) lt = refl
drop_past (x ∷ xs) zero lt = absurd (omega (arith, lt))
drop_past (x ∷ xs) (suc n) lt = drop_past xs n (omega (arith, lt))

pub none_left : (l : Linked) (first n : ℕ) (made : List Row) (roots : List ℕ) → length (all_functions l.modules) ≤ n → made ≡ made ++ rows_in l first roots (drop n (all_functions l.modules))
none_left l first n made roots past = sym (append-nil made) ∙ ap (λ (ps : List Placed). made ++ rows_in l first roots ps) (sym (drop_past (all_functions l.modules) n past))

pub never_none : {A : Type 0} (xs : List A) (n : ℕ) → slice_get xs n ≡ None → n < length xs → ⊥
never_none [] n e lt = omega (arith, lt)
never_none (x ∷ xs) zero e lt = absurd cc
never_none (x ∷ xs) (suc n) e lt = never_none xs n e (omega (arith, lt))

-- ---- addresses

items_before : (ps : List Placed) (k : ℕ) (p : Placed) → slice_get ps k ≡ Some p → items_in (take k ps) + length p.function.items ≤ items_in ps
items_before [] k p e = absurd cc
items_before (q ∷ ps) zero p e = (let same : q ≡ p = cc in let n = ap (λ (x : Placed). length x.function.items) same in omega (arith, n))
items_before (q ∷ ps) (suc k) p e = (let rest = items_before ps k p e in omega (arith, rest))

-- the items of a function have small numbers
low_by : (ms : List Module) (fid : ℕ) (f : Function) (o : Option Placed) → AreBounded ms → function_at ms fid ≡ o → option_map (λ p. p.function) o ≡ Some f → first_item ms fid + length f.items ≤ MOST_UNITS
low_by ms fid f None bounded at e = absurd cc
low_by ms fid f (Some p) bounded at e =
    let same : p.function ≡ f = cc in
    let long = ap (λ (g : Function). length g.items) same in
    let before = items_before (all_functions ms) fid p at in
    let few = bounded.items in
    omega (arith, long, before, few)

pub items_low : (ms : List Module) (fid : ℕ) (f : Function) → AreBounded ms → option_map (λ p. p.function) (function_at ms fid) ≡ Some f → first_item ms fid + length f.items ≤ MOST_UNITS
items_low ms fid f bounded e = low_by ms fid f (function_at ms fid) bounded refl e

first_below : {A : Type 0} (test : A → Bool) (at n : ℕ) (xs : List A) → first_that test at xs ≡ Some n → n < at + length xs
first_below test at n [] e = absurd cc
first_below test at n (x ∷ xs) e = by (test x) e (λ rest. first_below test (at + 1) n xs rest)
  where
    by : (b : Bool) → (if b then Some at else first_that test (at + 1) xs) ≡ Some n → (first_that test (at + 1) xs ≡ Some n → n < at + 1 + length xs) → n < at + length (x ∷ xs)
    by true e rest = (let same : at ≡ n = cc in omega (arith, same))
    by false e rest = (let low = rest e in omega (arith, low))

pub label_low : (ms : List Module) (fid first label item : ℕ) (f : Function) → AreBounded ms → first ≡ first_item ms fid → option_map (λ p. p.function) (function_at ms fid) ≡ Some f → Some item ≡ label_in f label → first + item < MOST_UNITS
label_low ms fid first label item f bounded is e at =
    let low = items_low ms fid f bounded e in
    let within = first_below (is_label_item label) 0 item f.items (sym at) in
    omega (arith, low, within, is)

entry_by : (ms : List Module) (fid first : ℕ) (f : Function) (o : Option Placed) → AreBounded ms → function_at ms fid ≡ o → Some first ≡ first_of ms fid o → Some f ≡ option_map (λ p. p.function) o → first + f.entry < MOST_UNITS
entry_by ms fid first f None bounded at e g = absurd cc
entry_by ms fid first f (Some p) bounded at e g =
    let first_is : first ≡ first_item ms fid = cc in
    let same : f ≡ p.function = cc in
    let entry = ap (λ (h : Function). h.entry) same in
    let before = items_before (all_functions ms) fid p at in
    let inside = bounded.entries fid p at in
    let few = bounded.items in
    omega (arith, first_is, entry, before, inside, few)

pub entry_low : (ms : List Module) (fid first : ℕ) (f : Function) → AreBounded ms → Some first ≡ first_of ms fid (function_at ms fid) → Some f ≡ option_map (λ p. p.function) (function_at ms fid) → first + f.entry < MOST_UNITS
entry_low ms fid first f bounded e g = entry_by ms fid first f (function_at ms fid) bounded refl e g

pub some_at : {A : Type 0} (xs : List A) (n : ℕ) → n < length xs → (x : A) × (slice_get xs n ≡ Some x)
some_at [] n lt = absurd (omega (arith, lt))
some_at (x ∷ xs) zero lt = (x, refl)
some_at (x ∷ xs) (suc n) lt = some_at xs n (omega (arith, lt))

-- and one whose body is told has a module
pub body_at : (o : Option Placed) (f : Function) → option_map (λ p. p.function) o ≡ Some f → (p : Placed) × (o ≡ Some p) × (p.function ≡ f)
body_at None f e = absurd cc
body_at (Some p) f e = (p, refl, (let same : p.function ≡ f = cc in same))
