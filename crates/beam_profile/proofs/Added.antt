-- A set with one key more, or the same.
use Rattle.std.proofs.Common.{◌≡◌, Bool, true, false, not, if◌then◌else◌, List, [], ◌∷◌, ◌++◌, Some, None, refl}
use Rattle.std.specs.List.{list_any}
use Rattle.beam_profile.specs.Header.{Key, same_key, with_key}
use Rattle.beam_profile.specs.Sequence.{Added, with_new}

added_at : (b : Bool) (new : Bool) (ks : List Key) (k : Key) → new ≡ not b → Added new (if b then ks else ks ++ k ∷ []) (if b then None else Some (ks ++ k ∷ []))
added_at true true ks k e = absurd cc
added_at true false ks k e = refl
added_at false true ks k e = refl
added_at false false ks k e = absurd cc

pub added_is : (new : Bool) (ks : List Key) (k : Key) → new ≡ not (list_any (same_key k) ks) → Added new (with_key ks k) (with_new ks k)
added_is new ks k e = added_at (list_any (same_key k) ks) new ks k e
