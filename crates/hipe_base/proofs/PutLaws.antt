-- Pieces put one after the other are one piece.
use Rattle.std.proofs.Common.{◌≡◌, ℕ, ◌+◌, ◌-◌, ◌≤◌, List, ◌++◌, take, drop, Option, Some, None, refl, sym, ap, ◌∙◌, append_assoc, arith}
use Rattle.std.proofs.Math.Seq.{take-add}
use Rattle.hipe_base.specs.Sink.{with_more, FallsBy}

-- a piece after the first k bytes
with_more-piece : (w : Option (List ℕ)) (bs : List ℕ) (k n : ℕ)
    → with_more (with_more w (take k bs)) (take n (drop k bs)) ≡ with_more w (take (k + n) bs)
with_more-piece None bs k n = refl
with_more-piece (Some had) bs k n =
    ap
    (λ l. Some l)
    (append_assoc had (take k bs) (take n (drop k bs)) ∙ ap (λ l. had ++ l) (sym (take-add k n bs)))

-- a room that falls by k and then by n
pub FallsBy-again : (k n : ℕ) (room mid after : Option ℕ)
    → FallsBy k room mid → FallsBy n mid after → FallsBy (k + n) room after
FallsBy-again k n None None after p q = q
FallsBy-again k n None (Some m) after p q = cc
FallsBy-again k n (Some r) None after p q = let no : None ≡ Some (r - k) = p.1 in cc
FallsBy-again k n (Some r) (Some m) after p q =
    let left : m ≡ r - k = (let same : Some m ≡ Some (r - k) = p.1 in cc) in
    let fits : k ≤ r = p.0 in
    let more : n ≤ m = q.0 in
    let rest : m - n ≡ r - (k + n) = omega arith in
    (omega arith, q.1 ∙ ap (λ x. Some x) rest)

-- what is written after a further piece, where the first k bytes were written before it
pub with_more-next : (start before after : Option (List ℕ)) (bs : List ℕ) (k n : ℕ)
    → before ≡ with_more start (take k bs)
    → after ≡ with_more before (take n (drop k bs))
    → after ≡ with_more start (take (k + n) bs)
with_more-next start before after bs k n first next =
    next ∙ ap (λ w. with_more w (take n (drop k bs))) first ∙ with_more-piece start bs k n
