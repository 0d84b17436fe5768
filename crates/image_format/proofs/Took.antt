-- What a reader takes from the front, and what it gets again from what was written.
use Rattle.std.proofs.Common.{◌≡◌, ℕ, zero, suc, ◌+◌, ◌<◌, List, [], ◌∷◌, ◌++◌, length, get_or, take, drop, Ok, refl, sym, ap, subst, ◌∙◌, append_assoc, arith, inl, inr}
use Rattle.std.specs.List.{flat_map, AllByRecursion}
use Rattle.std.proofs.lemmas.Bool.{cases_lt}
use Rattle.std.proofs.lemmas.List.{get_or-drop, get_or-take, get_or_past, length-take}
use Rattle.std.proofs.lemmas.List.Concat.{flat_map-cons}
use Rattle.tagged_words.specs.Follow.{Follow}
use Rattle.image_format.specs.Cursor.{Cursor, Read, ◌>>=◌, many_at}
use Rattle.image_format.proofs.Steps.{bind_ok, ok_is}

abbrev pub IsBytes : List ℕ → Type 0
IsBytes bytes = (i : ℕ) → get_or bytes i 0 < 256

pub IsBytes-drop : (n : ℕ) (bytes : List ℕ) → IsBytes bytes → IsBytes (drop n bytes)
IsBytes-drop n bytes h i = rw get_or-drop (h (n + i))

pub IsBytes-take : (n : ℕ) (bytes : List ℕ) → IsBytes bytes → IsBytes (take n bytes)
IsBytes-take n bytes h i =
    elim (cases_lt i n) [
      | inl lt ↦ rw (get_or-take n bytes i 0 lt) (h i)
      | inr le ↦ rw (get_or_past (take n bytes) i 0 (omega (arith, length-take n bytes))) (omega arith)
    ]

-- ---- taking

pub record Took (p : Cursor) (text : List ℕ) (q : Cursor) : Type 0 where
  pub parts : p.rest ≡ text ++ q.rest
  pub fits : IsBytes q.rest

pub took_then : (p : Cursor) (x : List ℕ) (q : Cursor) (y : List ℕ) (r : Cursor) → Took p x q → Took q y r → Took p (x ++ y) r
took_then p x q y r a b = record { parts = a.parts ∙ ap (λ (t : List ℕ). x ++ t) b.parts ∙ sym (append_assoc x y r.rest); fits = b.fits }

pub took_same : (p : Cursor) (x y : List ℕ) (q : Cursor) → x ≡ y → Took p x q → Took p y q
took_same p x y q e t = subst (λ (z : List ℕ). Took p z q) e t

-- a value that a reader takes: its spelling, and what is known of it
abbrev pub Takes : {A : Type 0} → (A → List ℕ) → (A → Type 0) → Cursor → A × Cursor → Type 0
Takes spell Fits p x = Took p (spell x.0) x.1 × Fits x.0

-- ---- getting again

pub record Gets {A : Type 0} (read : Read A) (x : A) (rest : List ℕ) : Type 0 where
  pub after : Cursor
  pub is : read ≡ Ok (x, after)
  pub left : after.rest ≡ rest

pub gets_same : {A : Type 0} (read other : Read A) (x : A) (rest : List ℕ) → other ≡ read → Gets read x rest → Gets other x rest
gets_same read other x rest e g = record { after = g.after; is = e ∙ g.is; left = g.left }

pub gets_now : {A : Type 0} (x : A) (q : Cursor) (rest : List ℕ) → q.rest ≡ rest → Gets (Ok (x, q)) x rest
gets_now x q rest e = record { after = q; is = refl; left = e }

pub gets_then : {A B : Type 0} (r : Read A) (f : A × Cursor → Read B) (x : A) (rest : List ℕ) (y : B) (last : List ℕ) → Gets r x rest → ((q : Cursor) → q.rest ≡ rest → Gets (f (x, q)) y last) → Gets (r >>= f) y last
gets_then r f x rest y last g go = gets_same (f (x, g.after)) (r >>= f) y last (ap (λ z. z >>= f) g.is) (go g.after g.left)

-- ---- items, each in the state that the ones before it leave

module _ {S A : Type 0} (item : S → Cursor → Read A) (next : S → A → S) (spell : A → List ℕ) (Fits : S → A → Type 0) where
  pub many_take : ((s : S) (p : Cursor) (x : A × Cursor) → IsBytes p.rest → item s p ≡ Ok x → Takes spell (Fits s) p x)
      → (n : ℕ) (s : S) (p : Cursor) (x : List A × Cursor) → IsBytes p.rest → many_at item next n s p ≡ Ok x → Takes (flat_map spell) (λ xs. (length xs ≡ n) × Follow Fits next s xs) p x
  unfolding many_at
  many_take takes zero s p x fits e =
      subst (λ (y : List A × Cursor). Takes (flat_map spell) (λ xs. (length xs ≡ 0) × Follow Fits next s xs) p y) (ok_is ([], p) x e) (record { parts = refl; fits = fits }, (refl, tt))
  many_take takes (suc n) s p x fits e =
      let a = bind_ok (item s p) (λ first. many_at item next n (next s first.0) first.1 >>= λ others. Ok (first.0 ∷ others.0, others.1)) x e in
      let b = bind_ok (many_at item next n (next s a.0.0) a.0.1) (λ others. Ok (a.0.0 ∷ others.0, others.1)) x a.2 in
      let first = takes s p a.0 fits a.1 in
      let second = many_take takes n (next s a.0.0) a.0.1 b.0 first.0.fits b.1 in
      let both = took_then p (spell a.0.0) a.0.1 (flat_map spell b.0.0) b.0.1 first.0 second.0 in
      subst (λ (y : List A × Cursor). Takes (flat_map spell) (λ xs. (length xs ≡ suc n) × Follow Fits next s xs) p y) (ok_is (a.0.0 ∷ b.0.0, b.0.1) x b.2)
      (took_same p (spell a.0.0 ++ flat_map spell b.0.0) (flat_map spell (a.0.0 ∷ b.0.0)) b.0.1 (sym (flat_map-cons spell a.0.0 b.0.0)) both, (ap suc second.1.0, (first.1, second.1.1)))

  pub many_again : ((s : S) (p : Cursor) (x : A) (rest : List ℕ) → Fits s x → p.rest ≡ spell x ++ rest → Gets (item s p) x rest)
      → (xs : List A) (s : S) (p : Cursor) (rest : List ℕ) → Follow Fits next s xs → p.rest ≡ flat_map spell xs ++ rest → Gets (many_at item next (length xs) s p) xs rest
  unfolding many_at
  many_again again [] s p rest fits e = gets_now [] p rest e
  many_again again (x ∷ xs) s p rest fits e =
      let parts : p.rest ≡ spell x ++ (flat_map spell xs ++ rest) = e ∙ ap (λ (t : List ℕ). t ++ rest) (flat_map-cons spell x xs) ∙ append_assoc (spell x) (flat_map spell xs) rest in
      gets_then (item s p) (λ first. many_at item next (length xs) (next s first.0) first.1 >>= λ others. Ok (first.0 ∷ others.0, others.1)) x (flat_map spell xs ++ rest) (x ∷ xs) rest (again s p x (flat_map spell xs ++ rest) fits.0 parts)
      (λ q left. gets_then (many_at item next (length xs) (next s x) q) (λ others. Ok (x ∷ others.0, others.1)) xs rest (x ∷ xs) rest (many_again again xs (next s x) q rest fits.1 left)
      (λ r end. gets_now (x ∷ xs) r rest end))

-- a rule and a size, together and apart
pub follow-both : {S A : Type 0} (P : S → A → Type 0) (Q : A → Type 0) (next : S → A → S) (s : S) (xs : List A) → Follow P next s xs → AllByRecursion Q xs → Follow (λ t x. P t x × Q x) next s xs
follow-both P Q next s [] a b = tt
follow-both P Q next s (x ∷ xs) a b = ((a.0, b.0), follow-both P Q next (next s x) xs a.1 b.1)

pub follow-rule : {S A : Type 0} (P : S → A → Type 0) (Q : A → Type 0) (next : S → A → S) (s : S) (xs : List A) → Follow (λ t x. P t x × Q x) next s xs → Follow P next s xs
follow-rule P Q next s [] h = tt
follow-rule P Q next s (x ∷ xs) h = (h.0.0, follow-rule P Q next (next s x) xs h.1)

pub follow-size : {S A : Type 0} (P : S → A → Type 0) (Q : A → Type 0) (next : S → A → S) (s : S) (xs : List A) → Follow (λ t x. P t x × Q x) next s xs → AllByRecursion Q xs
follow-size P Q next s [] h = tt
follow-size P Q next s (x ∷ xs) h = (h.0.1, follow-size P Q next (next s x) xs h.1)
