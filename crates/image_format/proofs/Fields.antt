-- A field that is read is the field that was written, and what was written is read again.
use Rattle.std.proofs.Common.{◌≡◌, ℕ, zero, suc, ◌+◌, ◌≤◌, Bool, true, false, cond, ltb, eqb, List, [], ◌∷◌, ◌++◌, length, take, drop, Option, None, Ok, refl, sym, ap, subst, ◌∙◌, arith}
use Rattle.std.specs.Prelude.{replicate, ◌==◌}
use Rattle.std.specs.List.{list_all}
use Rattle.std.specs.Int.{w32, from_be_bytes, to_be_bytes}
use Rattle.std.proofs.lemmas.Bool.{ltb-false, le-ltb, eqb-true, eqb-false}
use Rattle.std.proofs.lemmas.List.{take_at, drop_at, take-append-drop, length-append, length-take, length-drop, length-replicate}
use Rattle.std.proofs.lemmas.Nat.{be_bytes_4, from_be_bytes-to_be_bytes_4}
use Rattle.beam_code.specs.declared.module.HandlerKind.{HandlerKind}
use Rattle.beam_code.specs.declared.module.HandlerKind.TheVariants as kinds
use Rattle.image_format.specs.declared.refusal.Flaw.TheVariants.{Short, Value}
use Rattle.image_format.specs.declared.refusal.Flaw.{Flaw}
use Rattle.image_format.specs.Fitting.{IsWord}
use Rattle.image_format.specs.Cursor.{Cursor, fault, kept}
use Rattle.image_format.specs.Reading.{word_at, number_at, bytes_at, kind_at}
use Rattle.image_format.specs.Rules.{at_most, kind_numbered}
use Rattle.image_format.specs.Spelling.{word, padding, kind_number}
use Rattle.image_format.proofs.Steps.{bind_case, kept_ok, both_true, short_or_wrong, ok_is, most_is, is_most}
use Rattle.image_format.proofs.Took.{IsBytes, IsBytes-drop, IsBytes-take, Takes, took_same, Gets, gets_same, gets_now, gets_then}

-- ---- words

pub word_takes : (p : Cursor) (x : ℕ × Cursor) → IsBytes p.rest → word_at p ≡ Ok x → Takes word IsWord p x
unfolding word_at word
word_takes p x fits e =
    let g = short_or_wrong (ltb (length p.rest) 4) true (fault Short p) (fault Short p) (from_be_bytes w32 (take 4 p.rest), record { rest = drop 4 p.rest; at = p.at + 4 }) x e in
    let long : 4 ≤ length p.rest = ltb-false _ _ g.0 in
    let front = IsBytes-take 4 p.rest fits in
    let back : to_be_bytes w32 (from_be_bytes w32 (take 4 p.rest)) ≡ take 4 p.rest = be_bytes_4 (take 4 p.rest) _ (omega (arith, length-take 4 p.rest)) front refl in
    subst (Takes word IsWord p) g.2
    (record { parts = sym (take-append-drop 4 p.rest) ∙ ap (λ (l : List ℕ). l ++ drop 4 p.rest) (sym back); fits = IsBytes-drop 4 p.rest fits }, omega (arith, front 0, front 1, front 2, front 3))

pub word_again : (n : ℕ) (p : Cursor) (rest : List ℕ) → IsWord n → p.rest ≡ word n ++ rest → Gets (word_at p) n rest
unfolding word_at word
word_again n p rest lt e =
    let long : ltb (length p.rest) 4 ≡ false = le-ltb _ _ (omega (arith, ap length e, length-append (to_be_bytes w32 n) rest)) in
    let front : take 4 p.rest ≡ to_be_bytes w32 n = ap (take 4) e ∙ take_at (to_be_bytes w32 n) rest 4 refl in
    let left : drop 4 p.rest ≡ rest = ap (drop 4) e ∙ drop_at (to_be_bytes w32 n) rest 4 refl in
    let number : from_be_bytes w32 (take 4 p.rest) ≡ n = ap (from_be_bytes w32) front ∙ from_be_bytes-to_be_bytes_4 n lt in
    record { after = record { rest = drop 4 p.rest; at = p.at + 4 }; is = rw (long, number) refl; left = left }

-- ---- numbers that keep a rule

abbrev pub Ruled : (ℕ → Option Flaw) → ℕ → Type 0
Ruled flaw n = (flaw n ≡ None) × IsWord n

pub number_takes : (flaw : ℕ → Option Flaw) (p : Cursor) (x : ℕ × Cursor) → IsBytes p.rest → number_at flaw p ≡ Ok x → Takes word (Ruled flaw) p x
unfolding number_at
number_takes flaw p x fits e =
    bind_case (word_at p) (λ n. kept (flaw n.0) p n) x e (λ n h0 e0.
    let k = kept_ok (flaw n.0) p n x e0 in
    let t = word_takes p n fits h0 in
    subst (Takes word (Ruled flaw) p) k.1 (t.0, (k.0, t.1)))

pub number_again : (flaw : ℕ → Option Flaw) (n : ℕ) (p : Cursor) (rest : List ℕ) → Ruled flaw n → p.rest ≡ word n ++ rest → Gets (number_at flaw p) n rest
unfolding number_at
number_again flaw n p rest h e =
    gets_then (word_at p) (λ n. kept (flaw n.0) p n) n rest n rest (word_again n p rest h.1 e)
    (λ q left. gets_same (Ok (n, q)) (kept (flaw n) p (n, q)) n rest (ap (λ o. kept o p (n, q)) h.0) (gets_now n q rest left))

-- ---- kinds

kind_back : (n : ℕ) → n ≤ 2 → n ≡ kind_number (kind_numbered n)
kind_back n h = go (eqb n 0) (eqb n 1) refl refl
  where
    go : (b c : Bool) → eqb n 0 ≡ b → eqb n 1 ≡ c → n ≡ kind_number (cond b kinds.None (cond c kinds.Try kinds.Catch))
    go true c e f = eqb-true n 0 e
    go false true e f = eqb-true n 1 f
    go false false e f = omega (arith, eqb-false n 0 e, eqb-false n 1 f, h)

kind_again_of : (kind : HandlerKind) → kind_numbered (kind_number kind) ≡ kind
kind_again_of kinds.None = refl
kind_again_of kinds.Try = refl
kind_again_of kinds.Catch = refl

kind_least : (kind : HandlerKind) → kind_number kind ≤ 2
kind_least kinds.None = omega arith
kind_least kinds.Try = omega arith
kind_least kinds.Catch = omega arith

abbrev pub kind_text : HandlerKind → List ℕ
kind_text kind = word (kind_number kind)

pub kind_takes : (p : Cursor) (x : HandlerKind × Cursor) → IsBytes p.rest → kind_at p ≡ Ok x → Takes kind_text (λ kind. Unit {0}) p x
unfolding kind_at
kind_takes p x fits e =
    bind_case (number_at (at_most Value 2) p) (λ n. Ok (kind_numbered n.0, n.1)) x e (λ n h0 e0.
    let t = number_takes (at_most Value 2) p n fits h0 in
    let back = kind_back n.0 (most_is Value 2 n.0 t.1.0) in
    subst (Takes kind_text (λ kind. Unit {0}) p) (ok_is (kind_numbered n.0, n.1) x e0) (took_same p (word n.0) (kind_text (kind_numbered n.0)) n.1 (ap word back) t.0, tt))

pub kind_again : (kind : HandlerKind) (p : Cursor) (rest : List ℕ) → p.rest ≡ kind_text kind ++ rest → Gets (kind_at p) kind rest
unfolding kind_at
kind_again kind p rest e =
    let n = kind_number kind in
    gets_then (number_at (at_most Value 2) p) (λ n. Ok (kind_numbered n.0, n.1)) n rest kind rest (number_again (at_most Value 2) n p rest (is_most Value 2 n (kind_least kind), omega (arith, kind_least kind)) e)
    (λ q left. gets_same (Ok (kind, q)) (Ok (kind_numbered n, q)) kind rest (ap (λ (k : HandlerKind). Ok (k, q)) (kind_again_of kind)) (gets_now kind q rest left))

-- ---- bytes and the zeros after them

zeros_are : (zs : List ℕ) → list_all (λ b. b == 0) zs ≡ true → zs ≡ replicate (length zs) 0
zeros_are [] e = refl
zeros_are (z ∷ zs) e =
    let b = both_true (z == 0) (list_all (λ b. b == 0) zs) e in
    ap (λ (n : ℕ). n ∷ zs) (eqb-true z 0 b.0) ∙ ap (λ (l : List ℕ). 0 ∷ l) (zeros_are zs b.1)

are_zeros : (n : ℕ) → list_all (λ b. b == 0) (replicate n 0) ≡ true
are_zeros zero = refl
are_zeros (suc n) = are_zeros n

abbrev pub padded : List ℕ → List ℕ
padded bytes = bytes ++ replicate (padding (length bytes)) 0

pub bytes_takes : (len : ℕ) (p : Cursor) (x : List ℕ × Cursor) → IsBytes p.rest → bytes_at len p ≡ Ok x → Takes padded (λ b. length b ≡ len) p x
unfolding bytes_at
bytes_takes len p x fits e =
    let all = len + padding len in
    let front = take all p.rest in
    let g = short_or_wrong (ltb (length p.rest) all) (list_all (λ b. b == 0) (drop len front)) (fault Short p) (fault Value p) (take len front, record { rest = drop all p.rest; at = p.at + all }) x e in
    let long : all ≤ length p.rest = ltb-false _ _ g.0 in
    let front_len : length front ≡ all = omega (arith, length-take all p.rest) in
    let text_len : length (take len front) ≡ len = omega (arith, length-take len front) in
    let zeros_len : length (drop len front) ≡ padding len = omega (arith, length-drop len front) in
    let zeros : drop len front ≡ replicate (padding (length (take len front))) 0 = zeros_are (drop len front) g.1 ∙ ap (λ n. replicate n 0) (zeros_len ∙ ap padding (sym text_len)) in
    let whole : p.rest ≡ padded (take len front) ++ drop all p.rest =
    sym (take-append-drop all p.rest) ∙ ap (λ (l : List ℕ). l ++ drop all p.rest) (sym (take-append-drop len front) ∙ ap (λ (l : List ℕ). take len front ++ l) zeros) in
    subst (Takes padded (λ b. length b ≡ len) p) g.2 (record { parts = whole; fits = IsBytes-drop all p.rest fits }, text_len)

pub bytes_again : (b : List ℕ) (p : Cursor) (rest : List ℕ) → p.rest ≡ padded b ++ rest → Gets (bytes_at (length b) p) b rest
unfolding bytes_at
bytes_again b p rest e =
    let all = length b + padding (length b) in
    let zeros : List ℕ = replicate (padding (length b)) 0 in
    let len : length (padded b) ≡ all = length-append b zeros ∙ ap (λ n. length b + n) (length-replicate (padding (length b)) 0) in
    let long : ltb (length p.rest) all ≡ false = le-ltb _ _ (omega (arith, ap length e, length-append (padded b) rest, len)) in
    let front : take all p.rest ≡ padded b = ap (take all) e ∙ take_at (padded b) rest all len in
    let left : drop all p.rest ≡ rest = ap (drop all) e ∙ drop_at (padded b) rest all len in
    let text : take (length b) (take all p.rest) ≡ b = ap (take (length b)) front ∙ take_at b zeros (length b) refl in
    let tail : drop (length b) (take all p.rest) ≡ zeros = ap (drop (length b)) front ∙ drop_at b zeros (length b) refl in
    let fine : list_all (λ b. b == 0) (drop (length b) (take all p.rest)) ≡ true = ap (list_all (λ b. b == 0)) tail ∙ are_zeros (padding (length b)) in
    record { after = record { rest = drop all p.rest; at = p.at + all }; is = rw (long, fine, text) refl; left = left }
