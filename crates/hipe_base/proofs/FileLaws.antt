-- The look-up of a file by its name.
use Rattle.std.proofs.Common.{◌≡◌, ℕ, ◌+◌, ◌<◌, List, [], ◌∷◌, ◌++◌, length, take, drop, get_or, Option, Some, None, refl, ap, ◌∙◌, add-one, arith, true, false, Bool}
use Rattle.std.specs.Prelude.{if◌then◌else◌}
use Rattle.std.specs.Option.{option_or, IfSome}
use Rattle.std.proofs.Math.Seq.{take-suc}
use Rattle.std.proofs.lemmas.List.{get_or_default, get_or_append_left}
use Rattle.hipe_base.specs.FileStore.{NamedBytes, is_named, bytes_of, bytes_at, left_at}

or-if : {T : Type 0} (b : Bool) (x : T) (rest other : Option T)
    → option_or (if b then Some x else rest) other ≡ (if b then Some x else option_or rest other)
or-if true x rest other = refl
or-if false x rest other = refl

-- the file that was added last is found first
pub bytes_of_added : (files : List NamedBytes) (file : NamedBytes) (name : List ℕ)
    → bytes_of (files ++ file ∷ []) name ≡ (if is_named name file.name then Some file.bytes else bytes_of files name)
bytes_of_added [] file name = refl
bytes_of_added (f ∷ fs) file name =
    let first : Option (List ℕ) = if is_named name f.name then Some f.bytes else None in
    ap (λ o. option_or o first) (bytes_of_added fs file name) ∙ or-if (is_named name file.name) file.bytes (bytes_of fs name) first

-- the first i + 1 files, where the file at i is named so
pub next_named : (files : List NamedBytes) (i : ℕ) (file : NamedBytes) (name : List ℕ)
    → i < length files → file ≡ get_or files i file → is_named name file.name ≡ true
    → bytes_of (take (i + 1) files) name ≡ Some (bytes_at files i)
next_named files i file name within at named =
    let none : NamedBytes = record { name = []; bytes = [] } in
    rw
    (add-one, take-suc files i file, bytes_of_added (take i files) (get_or files i file) name, ← at, named)
    (ap (λ (f : NamedBytes). Some f.bytes) (at ∙ get_or_default files i file none within))

-- the first i + 1 files, where the file at i is named otherwise
pub next_other : (files : List NamedBytes) (i : ℕ) (file : NamedBytes) (name : List ℕ)
    → i < length files → file ≡ get_or files i file → is_named name file.name ≡ false
    → bytes_of (take (i + 1) files) name ≡ bytes_of (take i files) name
next_other files i file name within at other =
    rw (add-one, take-suc files i file, bytes_of_added (take i files) (get_or files i file) name, ← at, other) refl

-- a file at a place stays there when another is added
pub left_at_added : (files : List NamedBytes) (file : NamedBytes) (place : Option ℕ) (offset : ℕ)
    → IfSome place (λ p. p < length files)
    → left_at (files ++ file ∷ []) place offset ≡ left_at files place offset
left_at_added files file None offset within = refl
left_at_added files file (Some p) offset within =
    let none : NamedBytes = record { name = []; bytes = [] } in
    ap (λ (f : NamedBytes). Some (drop offset f.bytes)) (get_or_append_left files (file ∷ []) none p within)

-- a place below n is below n + 1
pub within_more : (place : Option ℕ) (n : ℕ) → IfSome place (λ p. p < n) → IfSome place (λ p. p < n + 1)
within_more None n within = tt
within_more (Some p) n within = omega arith
