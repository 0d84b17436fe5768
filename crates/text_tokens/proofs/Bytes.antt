-- UTF-8 by its test, and fronts of ASCII bytes.
use Rattle.std.proofs.Common.{◌≡◌, ℕ, ◌+◌, ◌<◌, suc, zero, Bool, true, false, List, [], ◌∷◌, get_or, take, refl, arith, if◌then◌else◌}
use Rattle.std.proofs.lemmas.Grind.{common_steps}
use Rattle.std.specs.Str.{IsUtf8, is_utf8}
use Rattle.std.proofs.lemmas.Str.{is_utf8-from_IsUtf8, IsUtf8-from_is_utf8, IsUtf8-from_ascii}
use Rattle.text_tokens.specs.Character.{run}
use Rattle.text_tokens.specs.Pieces.{is_name_byte}

tests : (b : Bool) → (b ≡ true → ⊥) → b ≡ false
tests true h = absurd (h refl)
tests false h = refl

pub is_utf8-not : (bs : List ℕ) → ¬ (IsUtf8 bs) → is_utf8 bs ≡ false
is_utf8-not bs h = tests (is_utf8 bs) (λ e. h (IsUtf8-from_is_utf8 bs e))

small : (b : ℕ) → is_name_byte b ≡ true → b < 128
small b h = grind arith

none : (bs : List ℕ) (i : ℕ) → get_or (take 0 bs) i 0 < 128
none bs i = grind (arith, common_steps)

one : (passes : Bool) (b : ℕ) (rest : List ℕ) (count i : ℕ) → (passes ≡ true → b < 128) → ((j : ℕ) → get_or (take count rest) j 0 < 128) →
    get_or (take (if passes then 1 + count else 0) (b ∷ rest)) i 0 < 128
one false b rest count i h more = none (b ∷ rest) i
one true b rest count zero h more = let e : 1 + count ≡ suc count = omega arith in rw e (h refl)
one true b rest count (suc i) h more = let e : 1 + count ≡ suc count = omega arith in rw e (more i)

pub run-ascii : (bs : List ℕ) (i : ℕ) → get_or (take (run is_name_byte bs) bs) i 0 < 128
run-ascii [] i = none [] i
run-ascii (b ∷ bs) i = one (is_name_byte b) b bs (run is_name_byte bs) i (small b) (run-ascii bs)

pub name-IsUtf8 : (bs : List ℕ) → IsUtf8 (take (run is_name_byte bs) bs)
name-IsUtf8 bs = IsUtf8-from_ascii (take (run is_name_byte bs) bs) (λ i. run-ascii bs i)

pub ruleset utf8_steps = (is_utf8-not, is_utf8-from_IsUtf8, name-IsUtf8)
