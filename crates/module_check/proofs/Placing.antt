-- The functions of modules, one after the other.
use Rattle.std.proofs.Common.{◌≡◌, ℕ, suc, ◌+◌, ◌<◌, ◌≤◌, refl, ap, sym, ◌∙◌, arith, subst, inl, inr, List, [], ◌∷◌, ◌++◌, length, Option, Some, None, map, take, drop, slice_get, get_or}
use Rattle.std.specs.List.{Contains}
use Rattle.std.proofs.lemmas.List.{append_assoc, append-nil, length-append, map-append, take-append-drop, take-append-le}
use Rattle.std.proofs.lemmas.List.Elements.{Contains-append_left, Contains-append_right}
use Rattle.std.proofs.lemmas.Option.{get_or_from_slice_get, slice_get_within, slice_get-get_or}
use Rattle.std.proofs.Math.Seq.{drop-cons, take-length, take-suc, take-append_seam}
use Rattle.paths.proofs.Tests.{Contains-map}
use Rattle.beam_code.specs.declared.module.Function.{Function}
use Rattle.beam_code.specs.declared.module.Module.{Module}
use Rattle.beam_code.specs.Function.{Placed, all_functions, items_in}
use Rattle.path_rules.specs.Sites.{placed_in}
use Rattle.module_check.specs.Entries.{before}

-- a list around the element at a place
pub split : {A : Type 0} (xs : List A) (k : ℕ) (x : A) → slice_get xs k ≡ Some x → xs ≡ take k xs ++ x ∷ drop (suc k) xs
split {A} xs k x e =
    sym (take-append-drop k xs)
    ∙ ap (λ (r : List A). take k xs ++ r) (drop-cons xs k x (slice_get_within xs k x e) ∙ ap (λ (y : A). y ∷ drop (suc k) xs) (get_or_from_slice_get xs k x x e))

pub take_one : {A : Type 0} (xs : List A) (k : ℕ) (x : A) → slice_get xs k ≡ Some x → take (suc k) xs ≡ take k xs ++ x ∷ []
take_one {A} xs k x e = take-suc xs k x (slice_get_within xs k x e) ∙ ap (λ (y : A). take k xs ++ y ∷ []) (get_or_from_slice_get xs k x x e)

pub found : {A : Type 0} (xs : List A) (k : ℕ) (x : A) → slice_get xs k ≡ Some x → Contains xs x
found xs k x e = (k, slice_get_within xs k x e, get_or_from_slice_get xs k x x e)

pub functions_append : (ms ns : List Module) → all_functions (ms ++ ns) ≡ all_functions ms ++ all_functions ns
functions_append [] ns = refl
functions_append (m ∷ ms) ns =
    ap (λ (fs : List Placed). map (placed_in m) m.functions ++ fs) (functions_append ms ns)
    ∙ sym (append_assoc (map (placed_in m) m.functions) (all_functions ms) (all_functions ns))

abbrev own : Module → List Placed
own m = map (placed_in m) m.functions

module _ (ms : List Module) (n : ℕ) (m : Module) (at : slice_get ms n ≡ Some m) where
  around : all_functions ms ≡ all_functions (take n ms) ++ (own m ++ all_functions (drop (suc n) ms))
  around = ap all_functions (split ms n m at) ∙ functions_append (take n ms) (m ∷ drop (suc n) ms)

  -- all functions up to a module, and its own
  up_to : all_functions (take (suc n) ms) ≡ all_functions (take n ms) ++ own m
  up_to =
      ap all_functions (take_one ms n m at)
      ∙ (functions_append (take n ms) (m ∷ []) ∙ ap (λ (fs : List Placed). all_functions (take n ms) ++ fs) (append-nil (own m)))

  -- before the first function of a module, and behind its last
  pub none_before : before ms n m 0 ≡ all_functions (take n ms)
  none_before = append-nil (all_functions (take n ms))

  pub all_before : before ms n m (length m.functions) ≡ all_functions (take (n + 1) ms)
  all_before =
      ap (λ (fs : List Function). all_functions (take n ms) ++ map (placed_in m) fs) (take-length m.functions)
      ∙ (sym up_to ∙ ap (λ j. all_functions (take j ms)) (let e : suc n ≡ n + 1 = omega arith in e))

  pub own_found : (f : Function) → Contains m.functions f → Contains (all_functions ms) (placed_in m f)
  own_found f c =
      subst (λ (fs : List Placed). Contains fs (placed_in m f)) (sym around)
      (Contains-append_right (all_functions (take n ms)) (own m ++ all_functions (drop (suc n) ms)) (placed_in m f)
      (Contains-append_left (own m) (all_functions (drop (suc n) ms)) (placed_in m f) (in_map m.functions c)))
    where
      in_map : (fs : List Function) → Contains fs f → Contains (map (placed_in m) fs) (placed_in m f)
      in_map fs c = Contains-map (placed_in m) fs f c

  module _ (k : ℕ) (f : Function) (here : slice_get m.functions k ≡ Some f) where
    own_split : own m ≡ map (placed_in m) (take k m.functions) ++ placed_in m f ∷ map (placed_in m) (drop (suc k) m.functions)
    own_split = ap (map (placed_in m)) (split m.functions k f here) ∙ map-append (placed_in m) (take k m.functions) (f ∷ drop (suc k) m.functions)

    abbrev pub behind : List Placed
    behind = map (placed_in m) (drop (suc k) m.functions) ++ all_functions (drop (suc n) ms)

    -- all functions around one
    pub around_one : all_functions ms ≡ before ms n m k ++ placed_in m f ∷ behind
    around_one =
        around
        ∙ (ap (λ (fs : List Placed). all_functions (take n ms) ++ (fs ++ all_functions (drop (suc n) ms))) own_split
        ∙ (ap (λ (fs : List Placed). all_functions (take n ms) ++ fs) (append_assoc (map (placed_in m) (take k m.functions)) (placed_in m f ∷ map (placed_in m) (drop (suc k) m.functions)) (all_functions (drop (suc n) ms)))
        ∙ sym (append_assoc (all_functions (take n ms)) (map (placed_in m) (take k m.functions)) (placed_in m f ∷ behind))))

    pub before_next : before ms n m (suc k) ≡ before ms n m k ++ placed_in m f ∷ []
    before_next =
        ap (λ (fs : List Function). all_functions (take n ms) ++ map (placed_in m) fs) (take_one m.functions k f here)
        ∙ (ap (λ (fs : List Placed). all_functions (take n ms) ++ fs) (map-append (placed_in m) (take k m.functions) (f ∷ []))
        ∙ sym (append_assoc (all_functions (take n ms)) (map (placed_in m) (take k m.functions)) (placed_in m f ∷ [])))

    pub before_more : before ms n m (k + 1) ≡ before ms n m k ++ placed_in m f ∷ []
    before_more = subst (λ (j : ℕ). before ms n m j ≡ before ms n m k ++ placed_in m f ∷ []) (let e : suc k ≡ k + 1 = omega arith in e) before_next

-- items

pub items_append : (fs gs : List Placed) → items_in (fs ++ gs) ≡ items_in fs + items_in gs
items_append [] gs = omega arith
items_append (f ∷ fs) gs = let rest = items_append fs gs in omega arith
