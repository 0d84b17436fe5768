-- Where no two modules have one name, what is looked up in the module of a name is what all functions say.
use Rattle.std.proofs.Common.{◌≡◌, ℕ, zero, suc, ◌+◌, Bool, true, false, not, ◌&&◌, ◌||◌, refl, ap, sym, ◌∙◌, inl, inr, List, [], ◌∷◌, map, Option, Some, None, is_some, is_none, nat_eq, if◌then◌else◌, arith}
use Rattle.std.specs.Prelude.{slice_get}
use Rattle.std.specs.List.{list_any}
use Rattle.std.specs.Cmp.Lexicographic.{same_text}
use Rattle.std.proofs.lemmas.Bool.{cases_Bool}
use Rattle.std.proofs.lemmas.Cmp.{nat_list_eq_equiv}
use Rattle.std.proofs.lemmas.List.Folds.{list_any-append}
use Rattle.beam_code.specs.declared.instr.Callee.{Callee}
use Rattle.beam_code.specs.declared.instr.Instr.{Instr}
use Rattle.beam_code.specs.declared.instr.Instr.TheVariants.{Label}
use Rattle.beam_code.specs.Lined.{Lined}
use Rattle.beam_code.specs.declared.module.Function.{Function}
use Rattle.beam_code.specs.declared.module.Module.{Module}
use Rattle.beam_code.specs.Function.{Placed, all_functions, exported_number, exports_of, first_that, is_entry_label, is_exported, is_given, is_label, is_label_at, is_named, is_target, number_of, same_name, target_of}
use Rattle.path_rules.specs.BuiltIns.{is_undefined}
use Rattle.path_rules.specs.Index.{begins, begins_at, defines, has_key, is_called, label_at, label_of, same_key}
use Rattle.path_rules.specs.Profile.{AreDistinct}
use Rattle.path_rules.specs.Sites.{placed_in}
use Rattle.path_rules.proofs.Passing.{any_and, any_map, any_same, first_some}

pub name_is : (a b : List ℕ) → same_name a b ≡ true → a ≡ b
name_is a b t = same_text a b (sym t)

pub name_self : (a : List ℕ) → same_name a a ≡ true
name_self a = nat_list_eq_equiv.refl a

-- a function of a module of this name that passes a test
abbrev pub owned : List ℕ → (Function → Bool) → Placed → Bool
owned name own p = same_name name p.owner.name && own p.function

abbrev pub has_own : List ℕ → (Function → Bool) → Module → Bool
has_own name own m = same_name name m.name && list_any own m.functions

any_placed : (name : List ℕ) (own : Function → Bool) (m : Module) (fs : List Function) → list_any (owned name own) (map (placed_in m) fs) ≡ (same_name name m.name && list_any own fs)
any_placed name own m fs = any_map (owned name own) (placed_in m) fs ∙ any_and (same_name name m.name) own fs

any_owned : (name : List ℕ) (own : Function → Bool) (ms : List Module) → list_any (owned name own) (all_functions ms) ≡ list_any (has_own name own) ms
any_owned name own [] = refl
any_owned name own (m ∷ ms) =
    list_any-append (owned name own) (map (placed_in m) m.functions) (all_functions ms)
    ∙ (ap (λ b. b || list_any (owned name own) (all_functions ms)) (any_placed name own m m.functions) ∙ ap (λ b. has_own name own m || b) (any_owned name own ms))

-- where no module has the name, none of its functions passes
none_owned : (name : List ℕ) (own : Function → Bool) (ms : List Module) → is_given ms name ≡ false → list_any (has_own name own) ms ≡ false
none_owned name own [] given = refl
none_owned name own (m ∷ ms) given = by (same_name name m.name) given (λ g. none_owned name own ms g)
  where
    by : (b : Bool) → (if b then true else is_given ms name) ≡ false → (is_given ms name ≡ false → list_any (has_own name own) ms ≡ false) →
        (b && list_any own m.functions || list_any (has_own name own) ms) ≡ false
    by true g rest = cc
    by false g rest = rest g

other_name : (name : List ℕ) (ms : List Module) (k : ℕ) (m : Module) → is_given ms name ≡ false → slice_get ms k ≡ Some m → same_name name m.name ≡ false
other_name name [] k m given at = cc
other_name name (x ∷ xs) zero m given at = (let is : x ≡ m = cc in ap (λ (y : Module). same_name name y.name) (sym is) ∙ away (same_name name x.name) given)
  where
    away : (b : Bool) → (if b then true else is_given xs name) ≡ false → b ≡ false
    away true g = cc
    away false g = refl
other_name name (x ∷ xs) (suc k) m given at = other_name name xs k m (rest (same_name name x.name) given) at
  where
    rest : (b : Bool) → (if b then true else is_given xs name) ≡ false → is_given xs name ≡ false
    rest true g = cc
    rest false g = g

-- the functions of the one module of a name
own_module : (own : Function → Bool) (ms : List Module) (k : ℕ) (m : Module) → AreDistinct ms → slice_get ms k ≡ Some m → list_any (has_own m.name own) ms ≡ list_any own m.functions
own_module own [] k m distinct at = cc
own_module own (x ∷ xs) zero m distinct at =
    let is : x ≡ m = cc in
    let none = none_owned x.name own xs distinct.0 in
    ap (λ (y : Module). list_any (has_own y.name own) (x ∷ xs)) (sym is)
    ∙ (first (same_name x.name x.name) (list_any own x.functions) (list_any (has_own x.name own) xs) (name_self x.name) none ∙ ap (λ (y : Module). list_any own y.functions) is)
  where
    first : (a b c : Bool) → a ≡ true → c ≡ false → (a && b || c) ≡ b
    first a true c t f = cc
    first a false c t f = cc
own_module own (x ∷ xs) (suc k) m distinct at =
    let away : same_name m.name x.name ≡ false = other in
    ap (λ b. b && list_any own x.functions || list_any (has_own m.name own) xs) away ∙ own_module own xs k m distinct.1 at
  where
    other : same_name m.name x.name ≡ false
    other = elim (cases_Bool (same_name m.name x.name)) [
      | inl t ↦ (let is = name_is m.name x.name t in let no = other_name x.name xs k m distinct.0 at in let self = name_self x.name in let e : same_name x.name m.name ≡ same_name x.name x.name = ap (λ n. same_name x.name n) is in cc)
      | inr f ↦ f
    ]

-- so a function of the module is one of all
pub owned_some : (own : Function → Bool) (ms : List Module) (k : ℕ) (m : Module) → AreDistinct ms → slice_get ms k ≡ Some m → (test : Placed → Bool) → ((p : Placed) → test p ≡ owned m.name own p) →
    is_some (first_that test 0 (all_functions ms)) ≡ list_any own m.functions
owned_some own ms k m distinct at test same =
    first_some test 0 (all_functions ms) ∙ (any_same test (owned m.name own) (all_functions ms) same ∙ (any_owned m.name own ms ∙ own_module own ms k m distinct at))

name_turned : (a b : List ℕ) → same_name a b ≡ same_name b a
name_turned a b = nat_list_eq_equiv.symm a b

number_turned : (a b : ℕ) → nat_eq a b ≡ nat_eq b a
number_turned a b = grind arith

key_turned : (a b : List ℕ) (m n : ℕ) → (same_name a b && nat_eq m n) ≡ (same_name b a && nat_eq n m)
key_turned a b m n = ap (λ t. t && nat_eq m n) (name_turned a b) ∙ ap (λ t. same_name b a && t) (number_turned m n)

and_grouped : (a b c : Bool) → (a && b && c) ≡ (a && (b && c))
and_grouped true b c = refl
and_grouped false b c = refl

named_owned : (m f : List ℕ) (arity : ℕ) (p : Placed) → is_named m f arity p ≡ owned m (has_key (f, arity)) p
named_owned m f arity p =
    and_grouped (same_name m p.owner.name) (same_name f p.function.name) (nat_eq arity p.function.arity)
    ∙ ap (λ b. same_name m p.owner.name && b) (key_turned f p.function.name arity p.function.arity)

begins_label : (n arity a : ℕ) (i : Instr) → (is_label n i && nat_eq arity a) ≡ begins (n, arity) a (label_of i)
begins_label n arity a (Label m) = ap (λ b. b && nat_eq arity a) (number_turned n m) ∙ ap (λ b. nat_eq m n && b) (number_turned arity a)
begins_label n arity a _ = refl

begins_same : (n arity a : ℕ) (o : Option Lined) → (is_label_at n o && nat_eq arity a) ≡ begins (n, arity) a (label_at o)
begins_same n arity a None = refl
begins_same n arity a (Some i) = begins_label n arity a i.instr

target_owned : (m : List ℕ) (n arity : ℕ) (p : Placed) → is_target m n arity p ≡ owned m (begins_at (n, arity)) p
target_owned m n arity p =
    and_grouped (same_name m p.owner.name) (is_entry_label n p.function) (nat_eq arity p.function.arity)
    ∙ ap (λ b. same_name m p.owner.name && b) (begins_same n arity p.function.arity (slice_get p.function.items p.function.entry))

-- which functions a call inside a module reaches
pub target_some : (ms : List Module) (k : ℕ) (m : Module) (f : Function) (n arity : ℕ) → AreDistinct ms → slice_get ms k ≡ Some m → is_some (target_of ms (placed_in m f) n arity) ≡ list_any (begins_at (n, arity)) m.functions
target_some ms k m f n arity distinct at = owned_some (begins_at (n, arity)) ms k m distinct at (is_target m.name n arity) (target_owned m.name n arity)

-- the first module of a name, by its number
pub record IsFirst (ms : List Module) (name : List ℕ) (k : ℕ) (m : Module) : Type 0 where
  pub at : slice_get ms k ≡ Some m
  pub is : name ≡ m.name
  pub exports : exports_of ms name ≡ m.exports
  pub given : is_given ms name ≡ true

pub first_called : (name : List ℕ) (from : ℕ) (ms : List Module) (n : ℕ) → first_that (is_called name) from ms ≡ Some n → (k : ℕ) × (m : Module) × (n ≡ from + k) × IsFirst ms name k m
first_called name from [] n e = cc
first_called name from (x ∷ xs) n e = by (same_name x.name name) refl e (λ e. first_called name (from + 1) xs n e)
  where
    by : (b : Bool) → same_name x.name name ≡ b → (if b then Some from else first_that (is_called name) (from + 1) xs) ≡ Some n →
        (first_that (is_called name) (from + 1) xs ≡ Some n → (k : ℕ) × (m : Module) × (n ≡ from + 1 + k) × IsFirst xs name k m) →
        (k : ℕ) × (m : Module) × (n ≡ from + k) × IsFirst (x ∷ xs) name k m
    by true t e rest =
        let same : same_name name x.name ≡ true = name_turned name x.name ∙ t in (
          0,
          x,
          (let is : from ≡ n = cc in omega arith),
          record {
            at = refl;
            is = name_is name x.name same;
            exports = ap (λ b. if b then x.exports else exports_of xs name) same;
            given = ap (λ b. if b then true else is_given xs name) same;
          },
        )
    by false t e rest =
        let same : same_name name x.name ≡ false = name_turned name x.name ∙ t in
        let r = rest e in (
          suc r.0,
          r.1,
          (let is = r.2 in omega arith),
          record {
            at = r.3.at;
            is = r.3.is;
            exports = ap (λ b. if b then x.exports else exports_of xs name) same ∙ r.3.exports;
            given = ap (λ b. if b then true else is_given xs name) same ∙ r.3.given;
          },
        )

pub none_called : (name : List ℕ) (from : ℕ) (ms : List Module) → first_that (is_called name) from ms ≡ None → is_given ms name ≡ false
none_called name from [] e = refl
none_called name from (x ∷ xs) e = ap (λ b. if b then true else is_given xs name) (name_turned name x.name) ∙ by (same_name x.name name) e (λ e. none_called name (from + 1) xs e)
  where
    by : (b : Bool) → (if b then Some from else first_that (is_called name) (from + 1) xs) ≡ None → (first_that (is_called name) (from + 1) xs ≡ None → is_given xs name ≡ false) →
        (if b then true else is_given xs name) ≡ false
    by true e rest = cc
    by false e rest = rest e

exported_any : (f : List ℕ) (arity : ℕ) (es : List (List ℕ × ℕ)) → is_exported f arity es ≡ list_any (λ e. same_key e (f, arity)) es
exported_any f arity [] = refl
exported_any f arity (e ∷ es) = ap (λ b. if b then true else is_exported f arity es) (key_turned f e.0 arity e.1) ∙ by (same_key e (f, arity)) (exported_any f arity es)
  where
    by : (b : Bool) → is_exported f arity es ≡ list_any (λ e. same_key e (f, arity)) es → (if b then true else is_exported f arity es) ≡ (b || list_any (λ e. same_key e (f, arity)) es)
    by true rest = refl
    by false rest = rest

none_where : {A : Type 0} (a b : Bool) (o : Option A) → is_some o ≡ b → is_none (if a then o else None) ≡ not (a && b)
none_where true b None e = ap not e
none_where true b (Some x) e = ap not e
none_where false b o e = refl

and_true : (b : Bool) → (b && true) ≡ b
and_true true = refl
and_true false = refl

and_false : (b : Bool) → (b && false) ≡ false
and_false true = refl
and_false false = refl

-- whether a function of the module of a name is undefined, and that none is of a module that is not given
undefined_in : (ms : List Module) (c : Callee) (k : ℕ) (m : Module) → AreDistinct ms → IsFirst ms c.owner k m → is_undefined ms c ≡ not (defines (c.name, c.arity) m)
undefined_in ms c k m distinct first =
    ap (λ b. is_none (exported_number ms c.owner c.name c.arity) && b) first.given
    ∙ (and_true (is_none (exported_number ms c.owner c.name c.arity))
    ∙ (ap (λ (es : List (List ℕ × ℕ)). is_none (if is_exported c.name c.arity es then number_of ms c.owner c.name c.arity else None)) first.exports
    ∙ (ap (λ b. is_none (if b then number_of ms c.owner c.name c.arity else None)) (exported_any c.name c.arity m.exports)
    ∙ none_where (list_any (λ e. same_key e (c.name, c.arity)) m.exports) (list_any (has_key (c.name, c.arity)) m.functions) (number_of ms c.owner c.name c.arity) numbered)))
  where
    numbered : is_some (number_of ms c.owner c.name c.arity) ≡ list_any (has_key (c.name, c.arity)) m.functions
    numbered =
        ap (λ (name : List ℕ). is_some (number_of ms name c.name c.arity)) first.is
        ∙ owned_some (has_key (c.name, c.arity)) ms k m distinct first.at (is_named m.name c.name c.arity) (named_owned m.name c.name c.arity)

pub undefined_at : (ms : List Module) (c : Callee) (n : ℕ) (b : Bool) → AreDistinct ms → first_that (is_called c.owner) 0 ms ≡ Some n → ((m : Module) → slice_get ms n ≡ Some m → b ≡ defines (c.name, c.arity) m) → not b ≡ is_undefined ms c
undefined_at ms c n b distinct called is =
    let r = first_called c.owner 0 ms n called in
    let same : r.0 ≡ n = (let e = r.2 in omega arith) in
    ap not (is r.1 (ap (λ k. slice_get ms k) (sym same) ∙ r.3.at)) ∙ sym (undefined_in ms c r.0 r.1 distinct r.3)

pub not_undefined : (ms : List Module) (c : Callee) → first_that (is_called c.owner) 0 ms ≡ None → false ≡ is_undefined ms c
not_undefined ms c none = sym (ap (λ b. is_none (exported_number ms c.owner c.name c.arity) && b) (none_called c.owner 0 ms none) ∙ and_false (is_none (exported_number ms c.owner c.name c.arity)))
