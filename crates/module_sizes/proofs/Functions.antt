-- The functions of some forms weigh no more than these.
use Rattle.std.proofs.Common.{◌≡◌, ℕ, ◌+◌, ◌*◌, ◌≤◌, List, [], ◌∷◌, ◌++◌, Some, None, codes, ap, arith}
use Rattle.std.specs.Prelude.{if◌then◌else◌, option_and_then}
use Rattle.std.specs.Option.{option_map}
use Rattle.std.specs.List.{sum_by}
use Rattle.std.specs.Str.{bytes_eq}
use Rattle.std.proofs.lemmas.List.Sums.{sum_by-append, sum_by-cons}
use Rattle.term_tree.specs.declared.term.Term as t
use Rattle.term_tree.specs.declared.term.Term.{Term, out-Term, roll-Term}
use Rattle.term_tree.specs.declared.term.Term.TheOpen.{Term-F}
use denote.Hole.Carrier.{roll}
use Rattle.text_forms.specs.declared.form.Form.{Form}
use Rattle.beam_code.specs.declared.module.Function.{Function}
use Rattle.beam_code.specs.Lined.{Lined}
use Rattle.module_forms.specs.Part.{atom_of, arity_of, number_of, tuple_of, tuple_in}
use Rattle.form_laws.proofs.Terms.{atom_of-is, chained, opened}
use Rattle.beam_profile.specs.declared.header.Head.{Head}
use Rattle.beam_profile.specs.Forms.{AreFunctions, AreItems, key_of_function}
use Rattle.beam_profile.specs.Header.{Key, head_of, head_with, key_of, key_with}
use Rattle.module_sizes.specs.Counts.{function_names, function_literals, function_words, instr_names, instr_literals, instr_words}
use Rattle.module_sizes.proofs.Rows.{form_weighs, instr_counts, instr_weight}
use Rattle.module_sizes.proofs.Terms.{form_weight, form_weights}
use Rattle.module_sizes.proofs.Weights.{sums_within, weight, weights, weight-Atom, weight-Tuple}

-- ---- tuples with a name in them

tuple_in-is : (y : Term-F Term) (us : List Term) → tuple_in y ≡ Some us → y ≡ Term-F.Tuple us
tuple_in-is (Term-F.Int i) us e = absurd cc
tuple_in-is (Term-F.Atom a) us e = absurd cc
tuple_in-is (Term-F.List ts end) us e = absurd cc
tuple_in-is (Term-F.Tuple ts) us e = cc

tuple_weighs : (x : Term) (us : List Term) → tuple_of x ≡ Some us → weights us ≤ weight x
unfolding roll-Term roll
tuple_weighs x us e =
    let is : x ≡ t.Tuple us = opened x (Term-F.Tuple us) (tuple_in-is (out-Term x) us e) in
    let same : weight x ≡ weight (t.Tuple us) = ap weight is in
    omega (arith, same, weight-Tuple us)

-- an atom in front
fronted : (x : Term) (ts : List Term) (a : List ℕ) → atom_of x ≡ Some a → 2 ≤ weights (x ∷ ts)
fronted x ts a e = let same : weight x ≡ weight (t.Atom a) = ap weight (atom_of-is x a e) in omega (arith, same, weight-Atom a, sum_by-cons weight x ts)

key_with_weighs : (ts : List Term) (key : Key) → key_with ts ≡ Some key → 2 ≤ weights ts
key_with_weighs [] key e = absurd cc
key_with_weighs (f ∷ []) key e = absurd cc
key_with_weighs (f ∷ a ∷ []) key e = let c = chained (λ name. option_map (λ arity. (name, arity)) (arity_of a)) (atom_of f) key e in fronted f (a ∷ []) c.0 c.1
key_with_weighs (f ∷ a ∷ b ∷ ts) key e = absurd cc

pub key_weighs : (x : Term) (key : Key) → key_of x ≡ Some key → 2 ≤ weight x
key_weighs x key e = let c = chained key_with (tuple_of x) key e in omega (arith, tuple_weighs x c.0 c.1, key_with_weighs c.0 key c.2)

head_with_weighs : (ts : List Term) (h : Head) → head_with ts ≡ Some h → 2 ≤ weights ts
head_with_weighs [] h e = absurd cc
head_with_weighs (w ∷ []) h e = absurd cc
head_with_weighs (w ∷ f ∷ []) h e = absurd cc
head_with_weighs (w ∷ f ∷ a ∷ []) h e = absurd cc
head_with_weighs (w ∷ f ∷ a ∷ n ∷ []) h e =
    let c = chained (λ word. if bytes_eq word (codes "function")
    then option_and_then (λ name. option_and_then (λ arity. option_map (λ entry. record { name = name; arity = arity; entry = entry }) (number_of n)) (arity_of a)) (atom_of f)
    else None) (atom_of w) h e in
    fronted w (f ∷ a ∷ n ∷ []) c.0 c.1
head_with_weighs (w ∷ f ∷ a ∷ n ∷ b ∷ ts) h e = absurd cc

head_weighs : (x : Term) (h : Head) → head_of x ≡ Some h → 2 ≤ weight x
head_weighs x h e = let c = chained head_with (tuple_of x) h e in omega (arith, tuple_weighs x c.0 c.1, head_with_weighs c.0 h c.2)

-- ---- functions

abbrev item_weight : Lined → ℕ
item_weight x = instr_weight x.instr

abbrev pub function_weight : Function → ℕ
function_weight g = 2 + sum_by item_weight g.items

pub function_counts : (g : Function) → 2 * (function_names g + function_literals g) + function_words g ≤ function_weight g
function_counts g =
    let names = λ (x : Lined). instr_names x.instr in
    let all = sums_within names (λ x. instr_literals x.instr) (λ x. instr_words x.instr) item_weight (λ x. instr_counts x.instr) g.items in
    omega (arith, all)

items_weigh : (last : ℕ) (fs : List Form) (xs : List Lined) → AreItems last fs xs → sum_by item_weight xs ≤ form_weights fs
items_weigh last [] [] are = omega arith
items_weigh last (f ∷ fs) [] are = absurd are
items_weigh last [] (x ∷ xs) are = absurd are
items_weigh last (f ∷ fs) (x ∷ xs) are =
    let rest = items_weigh last fs xs are.1 in
    omega (arith, rest, form_weighs last f.term x.instr are.0.reads, sum_by-cons item_weight x xs, sum_by-cons form_weight f fs)

pub functions_weigh : (last : ℕ) (owner : List ℕ) (seen : List Key) (fs : List Form) (gs : List Function) → AreFunctions last owner seen fs gs →
    sum_by function_weight gs ≤ form_weights fs
functions_weigh last owner seen fs [] are = omega arith
functions_weigh last owner seen fs (g ∷ gs) are =
    let is = are.1 in
    let items = items_weigh last is.lines g.items is.items in
    let rest = functions_weigh last owner (seen ++ key_of_function g ∷ []) are.0 gs are.2 in
    let whole : form_weights fs ≡ form_weights (is.first ∷ (is.lines ++ are.0)) = ap form_weights is.spelled in
    let head = head_weighs is.first.term _ is.head in
    let first = sum_by-cons form_weight is.first (is.lines ++ are.0) in
    omega (arith, items, rest, whole, head, first, sum_by-cons function_weight g gs, sum_by-append form_weight is.lines are.0)
