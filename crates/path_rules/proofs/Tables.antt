-- Tables of modules, one after the other.
use Rattle.std.proofs.Common.{◌≡◌, ℕ, zero, suc, ◌⊎◌, inl, inr, refl, ap, List, [], ◌∷◌, ◌++◌, Some, length, length-append, arith}
use Rattle.std.specs.Prelude.{slice_get}
use Rattle.std.proofs.lemmas.Option.{slice_get_within}
use Rattle.beam_code.specs.declared.module.Module.{Module}
use Rattle.path_rules.specs.declared.index.Table.{Table}
use Rattle.path_rules.specs.Index.{AreTables, IsTableOf}

-- the last one, or one of those before
last_or_before : {A : Type 0} (xs : List A) (x : A) (k : ℕ) (y : A) → slice_get (xs ++ x ∷ []) k ≡ Some y → (slice_get xs k ≡ Some y) ⊎ ((k ≡ length xs) × (x ≡ y))
last_or_before [] x zero y e = inr (refl, cc)
last_or_before [] x (suc k) y e = cc
last_or_before (z ∷ zs) x zero y e = inl e
last_or_before (z ∷ zs) x (suc k) y e = elim (last_or_before zs x k y e) [ inl h ↦ inl h | inr h ↦ inr (ap suc h.0, h.1) ]

pub no_tables : AreTables [] []
no_tables = record { long = refl; each = λ k m table at there. cc }

pub one_more : (ms : List Module) (tables : List Table) (m : Module) (table : Table) → AreTables ms tables → IsTableOf m table → AreTables (ms ++ m ∷ []) (tables ++ table ∷ [])
one_more ms tables m table are is = record { long = long; each = λ k n t at there. by k n t (last_or_before ms m k n at) (last_or_before tables table k t there) }
  where
    long : length (tables ++ table ∷ []) ≡ length (ms ++ m ∷ [])
    long = (let a = length-append tables (table ∷ []) in let b = length-append ms (m ∷ []) in let c = are.long in omega arith)

    by : (k : ℕ) (n : Module) (t : Table) → (slice_get ms k ≡ Some n) ⊎ ((k ≡ length ms) × (m ≡ n)) → (slice_get tables k ≡ Some t) ⊎ ((k ≡ length tables) × (table ≡ t)) → IsTableOf n t
    by k n t (inl at) (inl there) = are.each k n t at there
    by k n t (inl at) (inr there) = (let w = slice_get_within ms k n at in let c = are.long in let e = there.0 in absurd (omega arith))
    by k n t (inr at) (inl there) = (let w = slice_get_within tables k t there in let c = are.long in let e = at.0 in absurd (omega arith))
    by k n t (inr at) (inr there) = rw (← at.1, ← there.1) is
