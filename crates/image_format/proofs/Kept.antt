-- What a loop learns of each item that it reads.
use Rattle.std.proofs.Common.{◌≡◌, ℕ, zero, suc, ◌+◌, List, [], ◌∷◌, ◌++◌, Option, None, Ok, sym, ap, subst, ◌∙◌, arith}
use Rattle.std.specs.List.{fold}
use Rattle.image_format.specs.declared.parts.Native.{Native}
use Rattle.image_format.specs.declared.refusal.Flaw.{Flaw}
use Rattle.image_format.specs.declared.refusal.Flaw.TheVariants.{Value, Order}
use Rattle.image_format.specs.Fitting.{Turn, after_native, total_count}
use Rattle.image_format.specs.Cursor.{Cursor, kept, many_at}
use Rattle.image_format.specs.Reading.{word_at, number_at, bytes_at, atom_at, native_at}
use Rattle.image_format.specs.Rules.{at_least, exactly, new_name}
use Rattle.image_format.proofs.Steps.{bind_case, kept_ok, ok_is, value_is}
use Rattle.image_format.proofs.Items.{AtomFits, new_is}

-- an atom that was read is new, and a name
pub atom_is_new : (earlier : List (List ℕ)) (p : Cursor) (x : List ℕ) (q : Cursor) → atom_at earlier p ≡ Ok (x, q) → AtomFits earlier x
unfolding atom_at
atom_is_new earlier p x q e =
    bind_case (word_at p) _ (x, q) e (λ (n : ℕ × Cursor) h0 e0.
    bind_case (bytes_at n.0 n.1) _ (x, q) e0 (λ (b : List ℕ × Cursor) h1 e1.
    let k = kept_ok (new_name earlier b.0) n.1 b (x, q) e1 in
    subst (λ (y : List ℕ × Cursor). AtomFits earlier y.0) k.1 (new_is earlier b.0 k.0)))

pub total_count-push : (ns : List Native) (n : Native) → total_count (ns ++ n ∷ []) ≡ total_count ns + n.count
total_count-push [] n = omega arith
total_count-push (m ∷ ns) n = omega (arith, total_count-push ns n)

-- a number that keeps a rule
number_keeps : (flaw : ℕ → Option Flaw) (p : Cursor) (x : ℕ × Cursor) → number_at flaw p ≡ Ok x → flaw x.0 ≡ None
unfolding number_at
number_keeps flaw p x e =
    bind_case (word_at p) (λ n. kept (flaw n.0) p n) x e (λ n h0 e0.
    let k = kept_ok (flaw n.0) p n x e0 in
    subst (λ (y : ℕ × Cursor). flaw y.0 ≡ None) k.1 k.0)

-- the code words of a native function that was read follow the earlier ones
pub native_place : (t : Turn) (p : Cursor) (n : Native) (q : Cursor) → native_at t p ≡ Ok (n, q) → n.first ≡ t.place
unfolding native_at
native_place t p n q e =
    bind_case (number_at (at_least Order t.least) p) _ (n, q) e (λ (fid : ℕ × Cursor) h0 e0.
    bind_case (number_at (exactly Value t.place) fid.1) _ (n, q) e0 (λ (first : ℕ × Cursor) h1 e1.
    bind_case (number_at (at_least Value 1) first.1) _ (n, q) e1 (λ (count : ℕ × Cursor) h2 e2.
    let same = ap (λ (y : Native × Cursor). y.0.first) (ok_is (record { fid = fid.0; first = first.0; count = count.0 }, count.1) (n, q) e2) in
    sym same ∙ value_is Value t.place first.0 (number_keeps (exactly Value t.place) fid.1 first h1))))

-- where the code words of all of them end
pub natives_place : (n : ℕ) (t : Turn) (p : Cursor) (x : List Native × Cursor) → many_at native_at after_native n t p ≡ Ok x → (fold after_native t x.0).place ≡ t.place + total_count x.0
unfolding many_at
natives_place zero t p x e = subst (λ (y : List Native × Cursor). (fold after_native t y.0).place ≡ t.place + total_count y.0) (ok_is ([], p) x e) (omega arith)
natives_place (suc n) t p x e =
    bind_case (native_at t p) _ x e (λ (first : Native × Cursor) h0 e0.
    bind_case (many_at native_at after_native n (after_native t first.0) first.1) _ x e0 (λ (others : List Native × Cursor) h1 e1.
    let place = native_place t p first.0 first.1 h0 in
    let rest = natives_place n (after_native t first.0) first.1 others h1 in
    subst (λ (y : List Native × Cursor). (fold after_native t y.0).place ≡ t.place + total_count y.0) (ok_is (first.0 ∷ others.0, others.1) x e1) (omega (arith, rest, place))))
