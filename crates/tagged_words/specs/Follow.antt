-- What holds of each element of a list, given the elements before it.
use Rattle.std.specs.Prelude.{List, [], ◌∷◌}

-- each element x has P s x, where s is the state that the elements before it leave
abbrev pub Follow : {S A : Type 0} → (S → A → Type 0) → (S → A → S) → S → List A → Type 0
Follow P next s [] = Unit {0}
Follow P next s (x ∷ xs) = P s x × Follow P next (next s x) xs
