-- Words that are pushed on a heap one after the other, and cells of a list.
use Rattle.std.proofs.Common.{◌≡◌, ℕ, ◌+◌, ◌*◌, ◌≤◌, ◌++◌, true, is_some, List, [], ◌∷◌, length, refl, ap, sym, subst, ◌∙◌, arith}
use Rattle.std.proofs.lemmas.List.{length-append}
use Rattle.tagged_words.specs.Store.{Store, word_of}
use Rattle.tagged_words.specs.Word.{header_word}
use Rattle.prim_gates.proofs.Chains.{append_none, append_later, pushed_none, pushed_twice, still_there, still_read}
use Rattle.prim_gates.specs.Gate.{prim}
use Rattle.prim_gates.specs.Reply.{Reply, Argument, Value, read, pushed, cells, last_cell}
use Rattle.prim_gates.specs.Said.{GrownBy, HasPushed, IsAnswer, Answered, said}
use Rattle.prim_gates.specs.declared.answer.PrimAnswer.{PrimAnswer}
use Rattle.prim_gates.specs.declared.answer.PrimAnswer.TheVariants as answer

grown_on : {H : Type 0} (grows : H → ℕ → H → Type 0) (xs ys : List ℕ) (a b c : H) → GrownBy grows a xs b → GrownBy grows b ys c → GrownBy grows a (xs ++ ys) c
grown_on grows [] ys a b c e g = subst (λ z. GrownBy grows z ys c) e g
grown_on grows (x ∷ xs) ys a b c p q = (p.0, p.1, grown_on grows xs ys p.0 b c p.2 q)

module _ {H : Type 0} {grows : H → ℕ → H → Type 0} {store : H → Store} {room end : H → ℕ} where
  pub none_pushed : (h : H) → HasPushed grows store room end h [] h
  none_pushed h = record { grown = refl; stored = pushed_none (store h); left = omega arith; top = omega arith }

  pub pushed_on : {xs ys : List ℕ} {a b c : H} → HasPushed grows store room end a xs b → HasPushed grows store room end b ys c → HasPushed grows store room end a (xs ++ ys) c
  pushed_on {xs} {ys} {a} {b} {c} p q =
      let all : length (xs ++ ys) ≡ length xs + length ys = length-append xs ys in
      let left : room b + length xs ≡ room a = p.left in
      let later : room c + length ys ≡ room b = q.left in
      let top : end b ≡ end a + 4 * length xs = p.top in
      let next : end c ≡ end b + 4 * length ys = q.top in
      record {
        grown = grown_on grows xs ys a b c p.grown q.grown;
        stored = q.stored ∙ ap (λ s. pushed s ys) p.stored ∙ pushed_twice (store a) xs ys;
        left = omega arith;
        top = omega arith;
      }

  -- what was there is there, and is read the same
  pub there_still : {ws : List ℕ} {before now : H} → HasPushed grows store room end before ws now → (at : ℕ) → is_some (word_of (store before) at) ≡ true → is_some (word_of (store now) at) ≡ true
  there_still {ws} {before} {now} p at e = subst (λ s. is_some (word_of s at) ≡ true) (sym p.stored) (still_there (store before) ws at e)

  pub read_still : {ws : List ℕ} {before now : H} → HasPushed grows store room end before ws now → (at : ℕ) → is_some (word_of (store before) at) ≡ true → read (store now) at ≡ read (store before) at
  read_still {ws} {before} {now} p at e = ap (λ s. read s at) p.stored ∙ still_read (store before) ws at e

  -- an answer that pushes nothing
  pub only_said : (h : H) (a : PrimAnswer) (r : Reply) → said a ≡ r → IsAnswer grows store room end h a r h
  only_said h a r e = subst (λ q. IsAnswer grows store room end h a q h) e (alone a)
    where
      alone : (a : PrimAnswer) → IsAnswer grows store room end h a (said a) h
      alone (answer.Value w) = record { says = refl; pushes = none_pushed h }
      alone (answer.Raise class reason) = record { says = refl; pushes = none_pushed h }
      alone answer.Bignum = record { says = refl; pushes = none_pushed h }
      alone answer.HeapFull = record { says = refl; pushes = none_pushed h }
      alone (answer.Fault w) = record { says = refl; pushes = none_pushed h }

  -- an answer of the built-in with a number is one of another with the same number
  pub at_number : (before after : H) (a : PrimAnswer) (k n : ℕ) (x y z : Argument) → k ≡ n → Answered grows store room end before a (λ m. prim n m x y z) after → Answered grows store room end before a (λ m. prim k m x y z) after
  at_number before after a k n x y z e h = subst (λ j. Answered grows store room end before a (λ m. prim j m x y z) after) (sym e) h

  -- an answer with the words of a value
  pub made_so : (before after : H) (word value : ℕ) (ws : List ℕ) (r : Reply) → r ≡ Value value ws → word ≡ value → HasPushed grows store room end before ws after
      → IsAnswer grows store room end before (answer.Value word) r after
  made_so before after word value ws r e is p = subst (λ q. IsAnswer grows store room end before (answer.Value word) q after) (sym e) (record { says = ap (λ w. Value w ws) is; pushes = p })

-- what has been pushed of the words, and what is left of them
pub record IsWriting {H : Type 0} (grows : H → ℕ → H → Type 0) (store : H → Store) (room end : H → ℕ) (before : H) (all : List ℕ) (now : H) (rest : List ℕ) : Type 0 where
  pub words : List ℕ
  pub done : HasPushed grows store room end before words now
  pub ahead : words ++ rest ≡ all
  pub fits : length rest ≤ room now

-- what has been pushed of cells, and what is left of them: the next one has this tail
pub record IsPushing {H : Type 0} (grows : H → ℕ → H → Type 0) (store : H → Store) (room end : H → ℕ) (before : H) (all : List ℕ) (last : ℕ) (now : H) (tail : ℕ) (rest : List ℕ) : Type 0 where
  pub words : List ℕ
  pub done : HasPushed grows store room end before words now
  pub ahead : words ++ cells (end now) rest tail ≡ cells (end before) all last
  pub ends : last_cell (end now) rest tail ≡ last_cell (end before) all last
  pub fits : 2 * length rest ≤ room now

module _ {H : Type 0} {grows : H → ℕ → H → Type 0} {store : H → Store} {room end : H → ℕ} where
  pub writing_begins : (h : H) (all : List ℕ) → length all ≤ room h → IsWriting grows store room end h all h all
  writing_begins h all low = record { words = []; done = none_pushed h; ahead = refl; fits = low }

  pub writing_goes_on : {before now later : H} {all : List ℕ} {w : ℕ} {rest : List ℕ} → IsWriting grows store room end before all now (w ∷ rest) → HasPushed grows store room end now (w ∷ []) later
      → IsWriting grows store room end before all later rest
  writing_goes_on {before} {now} {later} {all} {w} {rest} p q =
      let low : length (w ∷ rest) ≤ room now = p.fits in
      let left : room later + length (w ∷ []) ≡ room now = q.left in
      record { words = p.words ++ w ∷ []; done = pushed_on p.done q; ahead = append_later p.words (w ∷ []) rest ∙ p.ahead; fits = omega arith }

  pub writing_ends : {before now : H} {all rest : List ℕ} → rest ≡ [] → IsWriting grows store room end before all now rest → HasPushed grows store room end before all now
  writing_ends {before} {now} {all} {rest} none p =
      subst (λ ws. HasPushed grows store room end before ws now) (sym (append_none p.words) ∙ ap (λ l. p.words ++ l) (sym none) ∙ p.ahead) p.done

  pub pushing_begins : (h : H) (all : List ℕ) (last : ℕ) → 2 * length all ≤ room h → IsPushing grows store room end h all last h last all
  pushing_begins h all last low = record { words = []; done = none_pushed h; ahead = refl; ends = refl; fits = low }

  pub pushing_goes_on : {before now later : H} {all : List ℕ} {last tail head word : ℕ} {rest : List ℕ} → IsPushing grows store room end before all last now tail (head ∷ rest)
      → HasPushed grows store room end now (head ∷ tail ∷ []) later → word ≡ end now + 1 → IsPushing grows store room end before all last later word rest
  pushing_goes_on {before} {now} {later} {all} {last} {tail} {head} {word} {rest} p q is =
      let low : 2 * length (head ∷ rest) ≤ room now = p.fits in
      let left : room later + length (head ∷ tail ∷ []) ≡ room now = q.left in
      let top : end later ≡ end now + 4 * length (head ∷ tail ∷ []) = q.top in
      let there : end later ≡ end now + 8 = omega arith in
      record {
        words = p.words ++ head ∷ tail ∷ [];
        done = pushed_on p.done q;
        ahead = append_later p.words (head ∷ tail ∷ []) (cells (end later) rest word) ∙ ap (λ n. p.words ++ (head ∷ tail ∷ cells n rest word)) there ∙ ap (λ w. p.words ++ (head ∷ tail ∷ cells (end now + 8) rest w)) is ∙ p.ahead;
        ends = ap (λ n. last_cell n rest word) there ∙ ap (last_cell (end now + 8) rest) is ∙ p.ends;
        fits = omega arith;
      }

  pub pushing_ends : {before now : H} {all rest : List ℕ} {last tail : ℕ} → rest ≡ [] → IsPushing grows store room end before all last now tail rest
      → HasPushed grows store room end before (cells (end before) all last) now × (tail ≡ last_cell (end before) all last)
  pushing_ends {before} {now} {all} {rest} {last} {tail} none p = (
    subst (λ ws. HasPushed grows store room end before ws now) (sym (append_none p.words) ∙ ap (λ l. p.words ++ cells (end now) l tail) (sym none) ∙ p.ahead) p.done,
    ap (λ l. last_cell (end now) l tail) (sym none) ∙ p.ends,
  )

  -- a tuple is a header and the words behind it
  pub headed : {a b c : H} {h count : ℕ} {ws : List ℕ} → HasPushed grows store room end a (h ∷ []) b → h ≡ header_word count → length ws ≡ count → HasPushed grows store room end b ws c
      → HasPushed grows store room end a (header_word (length ws) ∷ ws) c
  headed {a} {b} {c} {h} {count} {ws} first is size later = subst (λ x. HasPushed grows store room end a (x ∷ ws) c) (is ∙ ap header_word (sym size)) (pushed_on first later)
