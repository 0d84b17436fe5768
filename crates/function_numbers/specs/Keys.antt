-- Functions by numbers: a name is its place in a list of names (README.md).
use Rattle.std.specs.Prelude.{ℕ, Bool, false, ◌&&◌, ◌||◌, Option, Some, None, List, [], ◌∷◌, if◌then◌else◌, nat_eq, position}
use Rattle.std.specs.List.{list_any}
use Rattle.beam_code.specs.declared.module.Function.{Function}
use Rattle.beam_code.specs.declared.module.Module.{Module}
use Rattle.beam_code.specs.Function.{Placed, same_name}
pub use Rattle.function_numbers.specs.declared.key.Key.{Key}

-- whether a name is in a list
abbrev pub has_name : List (List ℕ) → List ℕ → Bool
has_name names n = list_any (same_name n) names

-- whether a function, or a module or one of its functions, has this name
abbrev pub is_of_function : List ℕ → Function → Bool
is_of_function n f = same_name f.name n

abbrev pub mentions : List ℕ → Module → Bool
mentions n m = same_name m.name n || list_any (is_of_function n) m.functions

-- the number of a name: its place in the list
abbrev pub number_in : List (List ℕ) → List ℕ → Option ℕ
number_in names n = position (same_name n) names

abbrev pub is_number : ℕ → Option ℕ → Bool
is_number n None = false
is_number n (Some m) = nat_eq m n

-- whether a name has this number
abbrev pub has_number : List (List ℕ) → ℕ → List ℕ → Bool
has_number names number n = is_number number (number_in names n)

-- the key of a function, if both names have numbers
abbrev pub key_with : ℕ → Option ℕ → Option ℕ → Option Key
key_with arity None name = None
key_with arity (Some owner) None = None
key_with arity (Some owner) (Some name) = Some (record { owner = owner; name = name; arity = arity })

abbrev pub key_of : List (List ℕ) → List ℕ → List ℕ → ℕ → Option Key
key_of names owner name arity = key_with arity (number_in names owner) (number_in names name)

abbrev pub same_key : Key → Key → Bool
same_key a b = nat_eq a.owner b.owner && (nat_eq a.name b.name && nat_eq a.arity b.arity)

abbrev pub is_key : Key → Option Key → Bool
is_key k None = false
is_key k (Some key) = same_key key k

-- whether a function of a module has this key
abbrev pub is_function_at : List (List ℕ) → Key → List ℕ → Function → Bool
is_function_at names k owner f = is_key k (key_of names owner f.name f.arity)

abbrev pub is_placed_at : List (List ℕ) → Key → Placed → Bool
is_placed_at names k p = is_function_at names k p.owner.name p.function

-- whether an export of a module has this key
abbrev pub is_export_at : List (List ℕ) → Key → List ℕ → List ℕ × ℕ → Bool
is_export_at names k owner e = is_key k (key_of names owner e.0 e.1)

-- whether exports have the name and arity of this key
abbrev pub is_among : List (List ℕ) → Key → List (List ℕ × ℕ) → Bool
is_among names k es = list_any (λ e. has_number names k.name e.0 && nat_eq e.1 k.arity) es

-- the exports of the first module whose name has this number
abbrev pub exports_at : List (List ℕ) → ℕ → List Module → List (List ℕ × ℕ)
exports_at names number [] = []
exports_at names number (m ∷ ms) = if has_number names number m.name then m.exports else exports_at names number ms
