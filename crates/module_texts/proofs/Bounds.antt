-- Modules of texts in the profile are small.
use Rattle.std.proofs.Common.{◌≡◌, ℕ, ◌<◌, ◌≤◌, Bool, true, false, List, [], ◌∷◌, length, Option, Some, None, refl, subst, arith}
use Rattle.std.specs.List.{AllByRecursion, Contains}
use Rattle.std.specs.Prelude.{if◌then◌else◌, ◌&&◌, codes, nat_eq, nat_lt, option_and_then}
use Rattle.std.specs.Option.{option_map}
use Rattle.std.proofs.lemmas.Bool.Decides.{nat_tests}
use Rattle.beam_check.specs.Texts.{AreOfTheirTexts}
use Rattle.beam_check.proofs.Sound.{read}
use Rattle.beam_code.specs.declared.module.Module.{Module}
use Rattle.beam_code.specs.Function.{Placed, all_functions, exports_of, is_exported, items_in, number_of, same_name}
use Rattle.beam_code.specs.Lined.{Lined}
use Rattle.beam_code.specs.Shape as s
use Rattle.beam_code.specs.Uses.{branches_units, reason_units, shape_units}
use Rattle.beam_profile.specs.declared.module.TheConstants.{LAST_INDEX}
use Rattle.beam_profile.specs.Header as h
use Rattle.beam_profile.specs.Whole.{IsModuleOf}
use Rattle.module_check.proofs.Placing.{found}
use Rattle.module_forms.specs.Part.{arity_of, atom_of, behind, list_of, number_of as number_in, tuple_of}
use Rattle.module_texts.specs.Bounds.{AreBounded, most_arguments}
use Rattle.path_rules.specs.Profile.{InProfile, units_in, units_of}
use Rattle.paths.proofs.Tests.{here, later}
use Rattle.term_tree.specs.declared.term.Term.{Term}

-- ---- items and functions are no more than units

branches_some : (b : s.Branches) → 1 ≤ branches_units b
branches_some (s.ByValue cases) = omega arith
branches_some (s.BySize cases) = omega arith

reason_some : (r : s.Reason) → 1 ≤ reason_units r
reason_some (s.Clause m f arity) = omega arith
reason_some other = omega arith

shape_some : (x : s.Shape) → 1 ≤ shape_units x
shape_some (s.Tuples parts to) = omega arith
shape_some (s.Selects from branches label) = branches_some branches
shape_some (s.Calls target arity leaving) = omega arith
shape_some (s.Raises reason) = reason_some reason
shape_some other = omega arith

pub items_low : (is : List Lined) → length is ≤ units_of is
items_low [] = omega arith
items_low (i ∷ is) = omega (arith, shape_some (s.shape_of i.instr), items_low is)

pub all_items_low : (fs : List Placed) → items_in fs ≤ units_in fs
all_items_low [] = omega arith
all_items_low (f ∷ fs) = omega (arith, items_low f.function.items, all_items_low fs)

functions_low : (fs : List Placed) → ((f : Placed) → Contains fs f → 0 < length f.function.items) → length fs ≤ items_in fs
functions_low [] some = omega arith
functions_low (f ∷ fs) some = omega (arith, some f (here f fs f refl), functions_low fs (λ g c. some g (later f fs g c)))

-- ---- exports have few arguments

-- a value that is there was read of one that is there
opened : {A B : Type 0} (o : Option A) (f : A → Option B) (b : B) → option_and_then f o ≡ Some b → (a : A) × (o ≡ Some a) × (f a ≡ Some b)
opened None f b e = absurd cc
opened (Some a) f b e = (a, refl, e)

mapped : {A B : Type 0} (o : Option A) (f : A → B) (b : B) → option_map f o ≡ Some b → (a : A) × (o ≡ Some a) × (f a ≡ b)
mapped None f b e = absurd cc
mapped (Some a) f b e = (a, refl, cc)

low_by : (n a : ℕ) (b : Bool) → nat_lt 255 n ≡ b → (if b then None else Some n) ≡ Some a → a ≤ most_arguments
low_by n a true h e = absurd cc
low_by n a false h e = let same : n ≡ a = cc in grind (arith, nat_tests)

arity_low : (t : Term) (a : ℕ) → arity_of t ≡ Some a → a ≤ most_arguments
arity_low t a e =
    let n = opened (number_in t) (λ n. if nat_lt 255 n then None else Some n) a e in
    low_by n.0 a (nat_lt 255 n.0) refl n.2

key_low : (ts : List Term) (k : h.Key) → h.key_with ts ≡ Some k → k.1 ≤ most_arguments
key_low [] k e = absurd cc
key_low (f ∷ []) k e = absurd cc
key_low (f ∷ a ∷ []) k e =
    let name = opened (atom_of f) (λ n. option_map (λ arity. (n, arity)) (arity_of a)) k e in
    let arity = mapped (arity_of a) (λ arity. (name.0, arity)) k name.2 in
    subst (λ (j : h.Key). j.1 ≤ most_arguments) arity.2 (arity_low a arity.0 arity.1)
key_low (f ∷ a ∷ b ∷ ts) k e = absurd cc

keys_low : (ts : List Term) (ks : List h.Key) → h.keys_in ts ≡ Some ks → AllByRecursion (λ k. k.1 ≤ most_arguments) ks
keys_low [] ks e = subst (AllByRecursion (λ (k : h.Key). k.1 ≤ most_arguments)) (let same : [] ≡ ks = cc in same) tt
keys_low (t ∷ ts) ks e =
    let key = opened (h.key_of t) (λ k. option_map (λ ks. k ∷ ks) (h.keys_in ts)) ks e in
    let rest = mapped (h.keys_in ts) (λ ks. key.0 ∷ ks) ks key.2 in
    let own = opened (tuple_of t) h.key_with key.0 key.1 in
    subst (AllByRecursion (λ (k : h.Key). k.1 ≤ most_arguments)) rest.2 (key_low own.0 key.0 own.2, keys_low ts rest.0 rest.1)

exports_low : (t : List ℕ) (m : Module) → IsModuleOf LAST_INDEX t m → AllByRecursion (λ k. k.1 ≤ most_arguments) m.exports
exports_low t m of =
    let list = opened (option_and_then list_of (behind (codes "exports") of.is.b.term)) h.keys_in m.exports of.is.exports_are in
    keys_low list.0 m.exports list.2

one_low : (arity n : ℕ) (a b rest : Bool) → n ≤ most_arguments → nat_eq arity n ≡ b → (rest ≡ true → arity ≤ most_arguments) → (if a && b then true else rest) ≡ true → arity ≤ most_arguments
one_low arity n true true rest low e others is = grind (arith, nat_tests)
one_low arity n true false rest low e others is = others is
one_low arity n false b rest low e others is = others is

among_low : (f : List ℕ) (arity : ℕ) (es : List h.Key) → AllByRecursion (λ k. k.1 ≤ most_arguments) es → is_exported f arity es ≡ true → arity ≤ most_arguments
among_low f arity [] low e = absurd cc
among_low f arity (k ∷ ks) low e = one_low arity k.1 (same_name f k.0) (nat_eq arity k.1) (is_exported f arity ks) low.0 refl (among_low f arity ks low.1) e

chosen_low : (f : List ℕ) (arity : ℕ) (own others : List h.Key) (a : Bool) → (is_exported f arity own ≡ true → arity ≤ most_arguments) → (is_exported f arity others ≡ true → arity ≤ most_arguments) → is_exported f arity (if a then own else others) ≡ true → arity ≤ most_arguments
chosen_low f arity own others true h k e = h e
chosen_low f arity own others false h k e = k e

all_low : (ms : List Module) → AreOfTheirTexts ms → (m f : List ℕ) (arity : ℕ) → is_exported f arity (exports_of ms m) ≡ true → arity ≤ most_arguments
all_low [] texts m f arity e = absurd cc
all_low (n ∷ ms) texts m f arity e =
    chosen_low f arity n.exports (exports_of ms m) (same_name m n.name)
    (among_low f arity n.exports (exports_low n.text n (texts n (here n ms n refl))))
    (all_low ms (λ k c. texts k (later n ms k c)) m f arity) e

number_low : (number : Option ℕ) (arity fid : ℕ) (a : Bool) → (a ≡ true → arity ≤ most_arguments) → (if a then number else None) ≡ Some fid → arity ≤ most_arguments
number_low number arity fid true low e = low refl
number_low number arity fid false low e = absurd cc

pub are_bounded : (ms : List Module) → AreOfTheirTexts ms → InProfile ms → AreBounded ms
are_bounded ms texts profile =
    let few = profile.few.all in
    record {
      functions = (let low = functions_low (all_functions ms) (λ f c. (let entry = (read ms texts f c).entry in omega arith)) in omega (arith, low, all_items_low (all_functions ms)));
      items = omega (arith, all_items_low (all_functions ms));
      entries = λ fid p at. (read ms texts p (found (all_functions ms) fid p at)).entry;
      arities = λ owner name arity fid e.
          number_low (number_of ms owner name arity) arity fid (is_exported name arity (exports_of ms owner)) (all_low ms texts owner name arity) e;
    }
