-- What an answer of the code says, and what the heap becomes where its words are pushed.
use Rattle.std.specs.Prelude.{ℕ, ◌≡◌, ◌+◌, ◌*◌, List, [], ◌∷◌, length}
use Rattle.prim_gates.specs.declared.answer.PrimAnswer.{PrimAnswer}
use Rattle.prim_gates.specs.declared.answer.PrimAnswer.TheVariants as answer
use Rattle.prim_gates.specs.Gate.{Memory, memory}
use Rattle.prim_gates.specs.Reply.{Reply, Value, Raise, Bignum, HeapFull, Fault, pushed, words_of_answer}
use Rattle.tagged_words.specs.Store.{Store}

abbrev pub said_with : PrimAnswer → List ℕ → Reply
said_with (answer.Value w) ws = Value w ws
said_with (answer.Raise class reason) ws = Raise class reason
said_with answer.Bignum ws = Bignum
said_with answer.HeapFull ws = HeapFull
said_with (answer.Fault w) ws = Fault w

abbrev pub said : PrimAnswer → Reply
said a = said_with a []

-- one word after the other was pushed
abbrev pub GrownBy : {H : Type 0} → (H → ℕ → H → Type 0) → H → List ℕ → H → Type 0
GrownBy grows before [] after = after ≡ before
GrownBy {H} grows before (w ∷ ws) after = (mid : H) × grows before w mid × GrownBy grows mid ws after

-- words were pushed on a heap, of which these tell how it grows, its store, its room, and where the next word goes
pub record HasPushed {H : Type 0} (grows : H → ℕ → H → Type 0) (store : H → Store) (room end : H → ℕ) (before : H) (ws : List ℕ) (after : H) : Type 0 where
  pub grown : GrownBy grows before ws after
  pub stored : store after ≡ pushed (store before) ws
  pub left : room after + length ws ≡ room before
  pub top : end after ≡ end before + 4 * length ws

-- an answer says a reply, and its words were pushed
pub record IsAnswer {H : Type 0} (grows : H → ℕ → H → Type 0) (store : H → Store) (room end : H → ℕ) (before : H) (a : PrimAnswer) (r : Reply) (after : H) : Type 0 where
  pub says : said_with a (words_of_answer r) ≡ r
  pub pushes : HasPushed grows store room end before (words_of_answer r) after

-- what is replied with the memory of a heap
abbrev pub Answered : {H : Type 0} → (H → ℕ → H → Type 0) → (H → Store) → (H → ℕ) → (H → ℕ) → H → PrimAnswer → (Memory → Reply) → H → Type 0
Answered grows store room end before a reply after = IsAnswer grows store room end before a (reply (memory (store before) (room before) (end before))) after
