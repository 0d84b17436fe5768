-- Reading from left to right (docs/FORMAT.md): a field is a value and the cursor after it, or the first fault.
use Rattle.std.specs.Prelude.{ℕ, zero, suc, ◌≡◌, List, [], ◌∷◌, Option, Some, None, Result, Ok, Err}
use Rattle.image_format.specs.declared.refusal.Flaw.{Flaw}
use Rattle.image_format.specs.declared.refusal.FormatRefusal.{FormatRefusal}
use Rattle.image_format.specs.declared.refusal.FormatRefusal.TheVariants.{Field, Memory}

-- the bytes that are left, and how many stand before them
pub record Cursor : Type 0 where
  pub rest : List ℕ
  pub at : ℕ

-- what is wrong with a field, and the offset of its first byte
pub record FieldFault : Type 0 where
  pub flaw : Flaw
  pub offset : ℕ

-- the fault of the field that the cursor stands before
abbrev pub fault : Flaw → Cursor → FieldFault
fault flaw p = record { flaw = flaw; offset = p.at }

-- a value that was read, and the cursor after it; or why it could not be read
abbrev pub Read : Type 0 → Type 0
Read A = Result (A × Cursor) FieldFault

infixl 10 ◌>>=◌
abbrev pub ◌>>=◌ : {A B E : Type 0} → Result A E → (A → Result B E) → Result B E
(Ok x) >>= f = f x
(Err e) >>= f = Err e

-- what was read, where the field that the cursor stood before has no flaw
abbrev pub kept : {A : Type 0} → Option Flaw → Cursor → A → Result A FieldFault
kept None p x = Ok x
kept (Some flaw) p x = Err (fault flaw p)

abbrev pub start : List ℕ → Cursor
start bytes = record { rest = bytes; at = 0 }

-- as many items, each read in the state that the items before it leave
unfoldable pub many_at : {S A : Type 0} → (S → Cursor → Read A) → (S → A → S) → ℕ → S → Cursor → Read (List A)
many_at item next zero s p = Ok ([], p)
many_at item next (suc n) s p = do
  first ← item s p
  others ← many_at item next n (next s first.0) first.1
  Ok (first.0 ∷ others.0, others.1)

-- a refusal is the fault that reading gives, unless memory ran out
abbrev pub Fails : {Y : Type 0} → FormatRefusal → Result Y FieldFault → Type 0
Fails (Memory e) read = Unit {0}
Fails (Field flaw offset) read = read ≡ Err (record { flaw = flaw; offset = offset })

-- what was returned is what reading gives, unless memory ran out
abbrev pub Gives : {X Y : Type 0} → (X → Y) → Result X FormatRefusal → Result Y FieldFault → Type 0
Gives view (Ok x) read = read ≡ Ok (view x)
Gives view (Err e) read = Fails e read

-- the same of a field, with the cursor after it
abbrev pub Reads : {X A : Type 0} → (X → A) → Result X FormatRefusal → Cursor → Read A → Type 0
Reads view (Ok x) after read = read ≡ Ok (view x, after)
Reads view (Err e) after read = Fails e read
