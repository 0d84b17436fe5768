-- What has a key: the names with its numbers, and its arity.
use Rattle.std.proofs.Common.{◌≡◌, ℕ, Bool, true, false, ◌&&◌, refl, sym, ap, ◌∙◌, List, nat_eq, Option, Some, None}
use Rattle.std.specs.List.{list_any}
use Rattle.beam_code.specs.Function.{Placed, is_named, same_name}
use Rattle.function_numbers.specs.Keys.{Key, has_number, is_among, is_export_at, is_key, is_number, is_placed_at, key_of, key_with, number_in, same_key}
use Rattle.function_numbers.proofs.Any.{any_and, any_same, and_false}
use Rattle.function_numbers.proofs.Places.{has_number_is, number_is, number_turned}

key_made : (o n a p m b : ℕ) → o ≡ p → n ≡ m → a ≡ b → (let k : Key = record { owner = o; name = n; arity = a } in k) ≡ record { owner = p; name = m; arity = b }
key_made o n a p m b s t u = λ j. record { owner = s j; name = t j; arity = u j }

both_first : (a b : Bool) → (a && b) ≡ true → a ≡ true
both_first true b t = refl
both_first false b t = cc

both_second : (a b : Bool) → (a && b) ≡ true → b ≡ true
both_second true b t = t
both_second false b t = cc

pub key_is : (a b : Key) → same_key a b ≡ true → a ≡ b
key_is a b t =
    let rest = both_second (nat_eq a.owner b.owner) (nat_eq a.name b.name && nat_eq a.arity b.arity) t in
    key_made a.owner a.name a.arity b.owner b.name b.arity
    (number_is a.owner b.owner (both_first (nat_eq a.owner b.owner) (nat_eq a.name b.name && nat_eq a.arity b.arity) t))
    (number_is a.name b.name (both_first (nat_eq a.name b.name) (nat_eq a.arity b.arity) rest))
    (number_is a.arity b.arity (both_second (nat_eq a.name b.name) (nat_eq a.arity b.arity) rest))

key_split : (k : Key) (arity : ℕ) (o n : Option ℕ) → is_key k (key_with arity o n) ≡ (is_number k.owner o && (is_number k.name n && nat_eq arity k.arity))
key_split k arity None n = refl
key_split k arity (Some o) None = sym (and_false (nat_eq o k.owner))
key_split k arity (Some o) (Some n) = refl

pub key_parts : (names : List (List ℕ)) (k : Key) (owner name : List ℕ) (arity : ℕ) →
    is_key k (key_of names owner name arity) ≡ (has_number names k.owner owner && (has_number names k.name name && nat_eq arity k.arity))
key_parts names k owner name arity = key_split k arity (number_in names owner) (number_in names name)

-- exports of a module with a key: those with its name and arity, if the module has its name
pub exports_any : (names : List (List ℕ)) (k : Key) (owner : List ℕ) (es : List (List ℕ × ℕ)) →
    list_any (is_export_at names k owner) es ≡ (has_number names k.owner owner && is_among names k es)
exports_any names k owner es =
    any_same (is_export_at names k owner) (λ e. has_number names k.owner owner && (has_number names k.name e.0 && nat_eq e.1 k.arity)) es (λ e. key_parts names k owner e.0 e.1)
    ∙ any_and (has_number names k.owner owner) (λ (e : List ℕ × ℕ). has_number names k.name e.0 && nat_eq e.1 k.arity) es

and_grouped : (a b c : Bool) → (a && (b && c)) ≡ (a && b && c)
and_grouped true b c = refl
and_grouped false b c = refl

-- a function has the key of names and an arity where it has these
pub placed_is : (names : List (List ℕ)) (k : Key) (m f : List ℕ) → number_in names m ≡ Some k.owner → number_in names f ≡ Some k.name → (p : Placed) → is_placed_at names k p ≡ is_named m f k.arity p
placed_is names k m f owner name p =
    key_parts names k p.owner.name p.function.name p.function.arity
    ∙ (ap (λ b. b && (has_number names k.name p.function.name && nat_eq p.function.arity k.arity)) (has_number_is names m k.owner owner p.owner.name)
    ∙ (ap (λ b. same_name m p.owner.name && (b && nat_eq p.function.arity k.arity)) (has_number_is names f k.name name p.function.name)
    ∙ (ap (λ b. same_name m p.owner.name && (same_name f p.function.name && b)) (number_turned p.function.arity k.arity)
    ∙ and_grouped (same_name m p.owner.name) (same_name f p.function.name) (nat_eq k.arity p.function.arity))))
