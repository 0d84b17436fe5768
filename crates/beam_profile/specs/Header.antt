-- The forms in front of a module's functions, and the first form of a function (docs/BEAM.md, Forms).
use Rattle.std.specs.Prelude.{ℕ, Bool, ◌&&◌, nat_eq, if◌then◌else◌, List, [], ◌∷◌, ◌++◌, Option, Some, None, option_and_then, codes}
use Rattle.std.specs.List.{list_any, list_all}
use Rattle.std.specs.Option.{option_map}
use Rattle.std.specs.Str.{bytes_eq}
use Rattle.term_tree.specs.declared.term.Term.{Term}
use Rattle.term_tree.specs.Name.{same_name}
use Rattle.text_forms.specs.declared.form.Form.{Form}
use Rattle.module_forms.specs.Part.{atom_of, number_of, list_of, tuple_of, behind, arity_of}
use Rattle.beam_profile.specs.declared.header.Head.{Head}

-- the name and the arity of a function
abbrev pub Key : Type 0
Key = List ℕ × ℕ

abbrev pub same_key : Key → Key → Bool
same_key a b = same_name a.0 b.0 && nat_eq a.1 b.1

-- `{F,A}`
abbrev pub key_with : List Term → Option Key
key_with (f ∷ a ∷ []) = option_and_then (λ name. option_map (λ arity. (name, arity)) (arity_of a)) (atom_of f)
key_with other = None

abbrev pub key_of : Term → Option Key
key_of t = option_and_then key_with (tuple_of t)

abbrev pub keys_in : List Term → Option (List Key)
keys_in [] = Some []
keys_in (t ∷ ts) = option_and_then (λ k. option_map (λ ks. k ∷ ks) (keys_in ts)) (key_of t)

-- `{module,M}`, `{exports,[{F,A},...]}`, `{attributes,T}` and `{labels,N}`
abbrev pub module_of : Term → Option (List ℕ)
module_of t = option_and_then atom_of (behind (codes "module") t)

abbrev pub exports_of : Term → Option (List Key)
exports_of t = option_and_then keys_in (option_and_then list_of (behind (codes "exports") t))

abbrev pub attributes_of : Term → Option Term
attributes_of t = behind (codes "attributes") t

abbrev pub labels_of : Term → Option ℕ
labels_of t = option_and_then number_of (behind (codes "labels") t)

-- `{function,F,A,E}`
abbrev pub head_with : List Term → Option Head
head_with (h ∷ f ∷ a ∷ e ∷ []) =
    option_and_then (λ word. if bytes_eq word (codes "function")
    then option_and_then (λ name. option_and_then (λ arity. option_map (λ entry. record { name = name; arity = arity; entry = entry }) (number_of e)) (arity_of a)) (atom_of f)
    else None) (atom_of h)
head_with other = None

abbrev pub head_of : Term → Option Head
head_of t = option_and_then head_with (tuple_of t)

abbrev pub key_at : Head → Key
key_at h = (h.name, h.arity)

-- ---- the functions that have a first form, wherever it stands

-- one more of these, unless it is there
abbrev pub with_key : List Key → Key → List Key
with_key ks k = if list_any (same_key k) ks then ks else ks ++ k ∷ []

abbrev pub with_head : List Key → Option Head → List Key
with_head ks None = ks
with_head ks (Some h) = with_key ks (key_at h)

abbrev pub declared_from : List Key → List Form → List Key
declared_from ks [] = ks
declared_from ks (f ∷ fs) = declared_from (with_head ks (head_of f.term)) fs

abbrev pub declared : List Form → List Key
declared fs = declared_from [] fs

abbrev pub is_declared : List Key → Key → Bool
is_declared ks k = list_any (same_key k) ks

-- exports that are there
abbrev pub all_declared : List Key → List Key → Option (List Key)
all_declared ks exports = if list_all (is_declared ks) exports then Some exports else None

abbrev pub exported : List Key → Term → Option (List Key)
exported ks t = option_and_then (all_declared ks) (exports_of t)
