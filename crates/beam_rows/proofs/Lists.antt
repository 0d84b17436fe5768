-- Lists of registers as rows change them.
use Rattle.std.proofs.Common.{◌≡◌, ℕ, zero, suc, ◌-◌, ◌<◌, ◌≤◌, true, is_some, Option, Some, None, List, [], ◌∷◌, ◌++◌, length, map, replicate, slice_get, slice_set, refl, ap, ◌∙◌, arith}
use Rattle.std.specs.List.{Contains}
use Rattle.std.proofs.lemmas.List.{length-append, length-map, length-replicate}
use Rattle.std.proofs.lemmas.Option.{get_or_from_slice_get, slice_get_within}
use Rattle.beam_code.specs.Row.{arguments, kept, with_head}
use Rattle.beam_code.specs.State.{only, x_registers}
use Rattle.term_tree.specs.Tree.{Tree}

pub get_set_here : {A : Type 0} (xs : List A) (i : ℕ) (v : A) → i < length xs → slice_get (slice_set xs i v) i ≡ Some v
get_set_here [] i v low = absurd (omega arith)
get_set_here (x ∷ xs) zero v low = refl
get_set_here (x ∷ xs) (suc i) v low = get_set_here xs i v (omega arith)

pub get_set_other : {A : Type 0} (xs : List A) (i n : ℕ) (v : A) → (n ≡ i → ⊥) → slice_get (slice_set xs i v) n ≡ slice_get xs n
get_set_other [] i n v other = refl
get_set_other (x ∷ xs) zero zero v other = absurd (other refl)
get_set_other (x ∷ xs) zero (suc n) v other = refl
get_set_other (x ∷ xs) (suc i) zero v other = refl
get_set_other (x ∷ xs) (suc i) (suc n) v other = get_set_other xs i n v (λ e. other (ap suc e))

pub length_set : {A : Type 0} (xs : List A) (i : ℕ) (v : A) → length (slice_set xs i v) ≡ length xs
length_set [] i v = refl
length_set (x ∷ xs) zero v = refl
length_set (x ∷ xs) (suc i) v = ap suc (length_set xs i v)

pub kept_get : (k : ℕ) (held : List (Option Tree)) (n : ℕ) → n < k → slice_get (kept k held) n ≡ slice_get held n
kept_get zero held n low = absurd (omega arith)
kept_get (suc k) [] n low = refl
kept_get (suc k) (x ∷ held) zero low = refl
kept_get (suc k) (x ∷ held) (suc n) low = kept_get k held n (omega arith)

pub length_kept : (k : ℕ) (held : List (Option Tree)) → length (kept k held) ≡ length held
length_kept k [] = refl
length_kept zero (x ∷ held) = ap suc (length_kept zero held)
length_kept (suc k) (x ∷ held) = ap suc (length_kept k held)

pub some_at : (vs : List Tree) (rest : List (Option Tree)) (n : ℕ) → n < length vs → (v : Tree) × (slice_get (map (λ v. Some v) vs ++ rest) n ≡ Some (Some v))
some_at [] rest n low = absurd (omega arith)
some_at (v ∷ vs) rest zero low = (v, refl)
some_at (v ∷ vs) rest (suc n) low = some_at vs rest n (omega arith)

abbrev unset : Option Tree
unset = None

pub only_wide : (vs : List Tree) → length vs ≤ x_registers → length (only vs) ≡ x_registers
only_wide vs few = length-append (map (λ v. Some v) vs) (replicate (x_registers - length vs) unset) ∙ omega (arith, length-map vs (λ (v : Tree). Some v), length-replicate (x_registers - length vs) unset)

-- the arguments of a call are there
first_some : {A : Type 0} (x : A) (y : A) → Some x ≡ Some y → x ≡ y
first_some x y e = cc

pub record AreArguments (k : ℕ) (held : List (Option Tree)) : Type 0 where
  pub terms : List Tree
  pub are : arguments k held ≡ Some terms
  pub many : length terms ≡ k

pub arguments_there : (k : ℕ) (held : List (Option Tree)) → ((n : ℕ) → n < k → (v : Tree) × (slice_get held n ≡ Some (Some v))) → AreArguments k held
arguments_there zero held there = record { terms = []; are = refl; many = refl }
arguments_there (suc k) [] there = let t = there 0 (omega arith) in absurd (let e = t.1 in cc)
arguments_there (suc k) (x ∷ held) there =
    let t = there 0 (omega arith) in
    let first : x ≡ Some t.0 = first_some x (Some t.0) t.1 in
    let rest = arguments_there k held (λ n low. there (suc n) (omega arith)) in
    record { terms = t.0 ∷ rest.terms; are = ap (λ y. with_head y (arguments k held)) first ∙ ap (with_head (Some t.0)) rest.are; many = ap suc rest.many }

-- ---- elements by their places

pub contains_at : {A : Type 0} (xs : List A) (k : ℕ) (x : A) → slice_get xs k ≡ Some x → Contains xs x
contains_at xs k x e = (k, slice_get_within xs k x e, get_or_from_slice_get xs k x x e)

pub there_at : {A : Type 0} (xs : List A) (k : ℕ) → k < length xs → (x : A) × (slice_get xs k ≡ Some x)
there_at [] k low = absurd (omega arith)
there_at (x ∷ xs) zero low = (x, refl)
there_at (x ∷ xs) (suc k) low = there_at xs k (omega arith)

pub some_is : {A : Type 0} (o : Option A) → is_some o ≡ true → (x : A) × (o ≡ Some x)
some_is None e = absurd cc
some_is (Some x) e = (x, refl)
