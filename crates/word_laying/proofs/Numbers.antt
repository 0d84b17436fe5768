-- The number of an atom, and where it is found.
use Rattle.std.proofs.Common.{◌≡◌, ℕ, ◌+◌, ◌<◌, ◌≤◌, Bool, true, false, Option, Some, None, List, [], ◌∷◌, length, unwrap_or, refl, ap, ◌∙◌, arith, cond}
use Rattle.std.specs.List.{position, position_from}
use Rattle.std.proofs.lemmas.Iterator.Adapters.{position_from-zero}
use Rattle.std.proofs.lemmas.List.Quantifiers.{position-Some}
use Rattle.tagged_words.specs.Laid.{atom_number, number_from}
use Rattle.term_tree.specs.Name.{same_name}

chosen : (b : Bool) (at : ℕ) (o : Option ℕ) (n : ℕ) → unwrap_or o 0 ≡ n → unwrap_or (cond b (Some at) o) 0 ≡ cond b at n
chosen true at o n e = refl
chosen false at o n e = e

number_found : (at : ℕ) (names : List (List ℕ)) (a : List ℕ) → unwrap_or (position_from (same_name a) at names) 0 ≡ number_from at names a
number_found at [] a = refl
number_found at (n ∷ ns) a = chosen (same_name a n) at (position_from (same_name a) (at + 1) ns) (number_from (at + 1) ns a) (number_found (at + 1) ns a)

pub number_is : (names : List (List ℕ)) (a : List ℕ) → unwrap_or (position (same_name a) names) 0 ≡ atom_number names a
number_is names a = ap (λ o. unwrap_or o 0) (position_from-zero (same_name a) names) ∙ number_found 0 names a

below : (names : List (List ℕ)) (a : List ℕ) (limit : ℕ) (o : Option ℕ) → position (same_name a) names ≡ o → length names ≤ limit → 0 < limit → unwrap_or o 0 < limit
below names a limit None e few some = some
below names a limit (Some n) e few some = let p = (position-Some (same_name a) names n [] e).0 in omega arith

pub number_below : (names : List (List ℕ)) (a : List ℕ) (limit : ℕ) → length names ≤ limit → 0 < limit → unwrap_or (position (same_name a) names) 0 < limit
number_below names a limit few some = below names a limit (position (same_name a) names) refl few some
