use Rattle.std.proofs.Common.{◌≡◌, ℕ, ◌++◌, [], ◌∷◌, List, length, set, take, ap, ◌∙◌, arith}
use Rattle.std.proofs.Math.Seq.{take-append_seam}
use Rattle.std.proofs.lemmas.List.{length-set}
use Rattle.path_search.specs.Found.{row_of}
use Rattle.path_search.proofs.Moving.{notes_of}
use Rattle.path_search.proofs.noting.note.Goals as goal

written : (new rest : List (List ℕ)) (n : ℕ) → n ≡ length new → take n (new ++ rest) ≡ new
written new rest n e = ap (λ m. take m (new ++ rest)) e ∙ take-append_seam new rest

pub returns : goal.returns
returns c =
    let wider = c.widen-2.new.rows.items in
    let from = c.args.from in
    let row = row_of c.deref_mut.result.now from ++ c.args.to ∷ [] in
    let v = c.in_ok-widen.ensures in
    let v2 = c.in_ok-widen-2.ensures in
    let set_is = c.in_ok-add.ensures in
    let same_long = ap (λ (l : List (List ℕ)). length l) set_is ∙ length-set c.deref_mut.result.now from row in
    notes_of from c.args.to c.args.next.now.items c.widen.new.rows.items wider _ v v2 (let a = v.long in let b = v2.longer in omega arith)
    (written c.add.new.next _ c.widen-2.new.rows.len (let a = c.deref_mut.ensures.len in let b = same_long in omega arith) ∙ (set_is ∙ ap (λ (l : List (List ℕ)). set l from (row_of l from ++ c.args.to ∷ [])) c.deref_mut.ensures.value))
