-- What a built-in answers on words, where its arguments stand for terms: as the built-in on terms (docs/MACHINE.md, Built-ins on words).
use Rattle.std.specs.Prelude.{ℕ, ◌≡◌, ◌+◌, ◌*◌, ◌<◌, ◌≤◌, List, [], ◌∷◌, length, Some, slice_get}
use Rattle.beam_code.specs.BuiltIns.{BuiltIn, built_ins, builtin, Answer, Gives, Fails, Bignum}
use Rattle.beam_code.specs.declared.call.RaiseClass.{RaiseClass}
use Rattle.tagged_words.specs.declared.addresses.TheConstants.{HEAP_START}
use Rattle.tagged_words.specs.Atoms.{IsTable}
use Rattle.tagged_words.specs.Seen.{IsTreeOf, whole}
use Rattle.term_tree.specs.Tree.{Tree}
use Rattle.prim_gates.specs.Reply.{Reply, Value, Raise, Argument, class_number, pushed}
use Rattle.prim_gates.specs.Reply as reply
use Rattle.prim_gates.specs.Gate.{Memory, prim}

-- one byte past the greatest address of the heap
abbrev pub heap_end : ℕ
heap_end = 2147483648

-- words are pushed where the words of the heap end, and below its end
pub record IsMemory (m : Memory) : Type 0 where
  pub top : 0 < m.room → m.top ≡ HEAP_START + 4 * length m.store.heap
  pub low : 0 < m.room → m.top + 4 * m.room ≤ heap_end

-- an argument stands for a term: its word does, and the whole term is seen from it
pub record Stands (m : Memory) (names : List (List ℕ)) (x : Argument) (v : Tree) : Type 0 where
  pub seen : x.seen ≡ whole v
  pub is : IsTreeOf m.store names x.word v

-- the first arguments stand for these terms; nothing is asked of the others
abbrev pub AllStand : Memory → List (List ℕ) → List Argument → List Tree → Type 0
AllStand m names xs [] = Unit {0}
AllStand m names [] (v ∷ vs) = ⊥
AllStand m names (x ∷ xs) (v ∷ vs) = Stands m names x v × AllStand m names xs vs

-- a value with the words that are pushed for it, so many, after which its word stands for a term
pub record IsValue (m : Memory) (names : List (List ℕ)) (v : Tree) (n : ℕ) (r : Reply) : Type 0 where
  pub word : ℕ
  pub words : List ℕ
  pub is : r ≡ Value word words
  pub many : length words ≡ n
  pub stands : IsTreeOf (pushed m.store words) names word v

-- a raise with a word that stands for the reason
pub record IsRaise (m : Memory) (names : List (List ℕ)) (class : RaiseClass) (reason : Tree) (r : Reply) : Type 0 where
  pub word : ℕ
  pub is : r ≡ Raise (class_number class) word
  pub stands : IsTreeOf m.store names word reason

-- the heap is full where it has no room for the words of the value
pub record IsGiven (m : Memory) (names : List (List ℕ)) (v : Tree) (n : ℕ) (r : Reply) : Type 0 where
  pub full : m.room < n → r ≡ reply.HeapFull
  pub given : n ≤ m.room → IsValue m names v n r

-- a reply says on words what an answer says on terms
abbrev pub SaysSo : Memory → List (List ℕ) → Answer → Reply → Type 0
SaysSo m names (Gives v n) r = IsGiven m names v n r
SaysSo m names (Fails class reason) r = IsRaise m names class reason r
SaysSo m names Bignum r = r ≡ reply.Bignum

-- of each built-in: where as many arguments as it takes stand for terms, it answers on words as it does on terms
abbrev pub AnswersAsOnTerms : Type 0
AnswersAsOnTerms =
    (k : ℕ) (b : BuiltIn) (m : Memory) (names : List (List ℕ)) (x y z : Argument) (vs : List Tree) → slice_get built_ins k ≡ Some b → IsMemory m → IsTable names
    → length vs ≡ b.arity → AllStand m names (x ∷ y ∷ z ∷ []) vs → SaysSo m names (builtin k vs) (prim k m x y z)
