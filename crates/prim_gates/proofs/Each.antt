-- Words and trees side by side.
use Rattle.std.proofs.Common.{◌≡◌, ℕ, zero, suc, List, [], ◌∷◌, length, reverse, slice_set, refl, ap}
use mathlib.Core.List.{reverse_aux}
use Rattle.term_tree.specs.Tree as t

abbrev pub Each : (ℕ → t.Tree → Type 0) → List ℕ → List t.Tree → Type 0
Each P [] [] = Unit {0}
Each P (w ∷ ws) (v ∷ vs) = P w v × Each P ws vs
Each P ws vs = ⊥

module _ (P : ℕ → t.Tree → Type 0) where
  pub each_length : (ws : List ℕ) (vs : List t.Tree) → Each P ws vs → length ws ≡ length vs
  each_length [] [] h = refl
  each_length [] (v ∷ vs) h = absurd h
  each_length (w ∷ ws) [] h = absurd h
  each_length (w ∷ ws) (v ∷ vs) h = ap suc (each_length ws vs h.1)

  each_onto : (ws us : List ℕ) (vs xs : List t.Tree) → Each P ws vs → Each P us xs → Each P (reverse_aux ws us) (reverse_aux vs xs)
  each_onto [] us [] xs h g = g
  each_onto [] us (v ∷ vs) xs h g = absurd h
  each_onto (w ∷ ws) us [] xs h g = absurd h
  each_onto (w ∷ ws) us (v ∷ vs) xs h g = each_onto ws (w ∷ us) vs (v ∷ xs) h.1 (h.0, g)

  pub each_reverse : (ws : List ℕ) (vs : List t.Tree) → Each P ws vs → Each P (reverse ws) (reverse vs)
  each_reverse ws vs h = each_onto ws [] vs [] h tt

  pub each_set : (ws : List ℕ) (vs : List t.Tree) (i w : ℕ) (v : t.Tree) → Each P ws vs → P w v → Each P (slice_set ws i w) (slice_set vs i v)
  each_set [] [] i w v h p = tt
  each_set [] (x ∷ vs) i w v h p = absurd h
  each_set (u ∷ ws) [] i w v h p = absurd h
  each_set (u ∷ ws) (x ∷ vs) zero w v h p = (p, h.1)
  each_set (u ∷ ws) (x ∷ vs) (suc i) w v h p = (h.0, each_set ws vs i w v h.1 p)

pub each_map : (P Q : ℕ → t.Tree → Type 0) → ((w : ℕ) (v : t.Tree) → P w v → Q w v) → (ws : List ℕ) (vs : List t.Tree) → Each P ws vs → Each Q ws vs
each_map P Q f [] [] h = tt
each_map P Q f [] (v ∷ vs) h = absurd h
each_map P Q f (w ∷ ws) [] h = absurd h
each_map P Q f (w ∷ ws) (v ∷ vs) h = (f w v h.0, each_map P Q f ws vs h.1)
