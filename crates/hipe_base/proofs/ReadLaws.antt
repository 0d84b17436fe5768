-- Bytes read one piece after the other are the front of the file.
use Rattle.std.proofs.Common.{◌≡◌, ℕ, List, [], ◌++◌, Option, Some, None, IsSome, refl, sym}
use Rattle.hipe_base.specs.Files.{Held, IsAtStart}

-- these bytes of the file were read, and the others are left
abbrev pub Remains : Held → List ℕ → List ℕ → Option (List ℕ) → Type 0
Remains None name got left = left ≡ None
Remains (Some file) name got left =
    (rest : List ℕ) × (left ≡ Some rest) × (file name ≡ Some (got ++ rest))

-- at the start no bytes were read
pub Remains-start : (held : Held) (name : List ℕ) (left : Option (List ℕ))
    → IsAtStart held name left → Remains held name [] left
Remains-start None name left start = start
Remains-start (Some file) name None start = let no : IsSome {T = List ℕ} None = start.1 in cc
Remains-start (Some file) name (Some rest) start = (rest, refl, sym start.0)
