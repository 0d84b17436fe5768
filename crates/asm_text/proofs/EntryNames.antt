-- Whether a word is an entry, by the sizes of its atoms.
use Rattle.std.proofs.Common.{◌≡◌, ◌≢◌, ℕ, ◌==◌, Bool, true, false, nat_eq, if◌then◌else◌, List, [], ◌∷◌, length, drop, Option, Some, None, is_some, refl, sym, ap, ◌∙◌, arith}
use Rattle.std.specs.Option.{option_map}
use Rattle.asm_text.specs.Entry.{atom_at, whole_atom, function_after, names_with}

pub function-none : (bs : List ℕ) → bs ≡ [] → function_after bs ≡ None
function-none bs e = rw e refl

pub function-other : (bs : List ℕ) (b : ℕ) (rest : List ℕ) → bs ≡ b ∷ rest → b ≢ 58 → function_after bs ≡ None
function-other bs b rest e other = let t : (b == 58) ≡ false = grind arith in rw (e, t) refl

-- with no module's name, and with no function behind it
pub names-none : (word : List ℕ) (owner : Option (List ℕ × ℕ)) → None ≡ option_map (λ a. a.1) owner → false ≡ is_some (names_with word owner)
names-none word None h = refl
names-none word (Some a) h = absurd cc

pub names-alone : (word : List ℕ) (owner : Option (List ℕ × ℕ)) (size : ℕ) → Some size ≡ option_map (λ a. a.1) owner → function_after (drop size word) ≡ None →
    false ≡ is_some (names_with word owner)
names-alone word None size h none = absurd cc
names-alone word (Some a) size h none =
    let same : size ≡ a.1 = cc in
    let behind : function_after (drop a.1 word) ≡ None = rw same at none in
    rw behind refl

mapped : {A B : Type 0} (f : A → B) (o : Option A) → is_some (option_map f o) ≡ is_some o
mapped f None = refl
mapped f (Some a) = refl

pub names-both : (word : List ℕ) (owner : Option (List ℕ × ℕ)) (size : ℕ) (rest : List ℕ) → Some size ≡ option_map (λ a. a.1) owner → drop size word ≡ 58 ∷ rest →
    is_some (names_with word owner) ≡ is_some (whole_atom (length rest) (atom_at rest))
names-both word None size rest h e = absurd cc
names-both word (Some a) size rest h e =
    let same : size ≡ a.1 = cc in
    let behind : drop a.1 word ≡ 58 ∷ rest = rw same at e in
    mapped (λ function. (a.0, function)) (function_after (drop a.1 word)) ∙ ap (λ bs. is_some (function_after bs)) behind

pub whole-none : (size : ℕ) (atom : Option (List ℕ × ℕ)) → None ≡ option_map (λ a. a.1) atom → false ≡ is_some (whole_atom size atom)
whole-none size None h = refl
whole-none size (Some a) h = absurd cc

some_if : (test : Bool) (name : List ℕ) → is_some (if test then Some name else None) ≡ test
some_if true name = refl
some_if false name = refl

pub whole-size : (size all : ℕ) (atom : Option (List ℕ × ℕ)) → Some all ≡ option_map (λ a. a.1) atom → nat_eq all size ≡ is_some (whole_atom size atom)
whole-size size all None h = absurd cc
whole-size size all (Some a) h = let same : all ≡ a.1 = cc in rw same (sym (some_if (nat_eq a.1 size) a.0))

pub ruleset function_steps = (function-none, function-other)

pub ruleset entry_steps = (names-none, names-alone, names-both, whole-none, whole-size)
