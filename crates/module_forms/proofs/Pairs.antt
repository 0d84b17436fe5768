-- Rows of pairs, one pair at a time.
use Rattle.std.proofs.Common.{◌≡◌, ◌-◌, ◌≤◌, Bool, true, false, List, [], ◌∷◌, ◌++◌, length, take, drop, get_or, Option, Some, None, refl, sym, append_assoc, arith}
use Rattle.std.proofs.lemmas.List.{take_all}
use Rattle.std.specs.Prelude.{◌||◌}
use Rattle.term_tree.specs.declared.term.Term.{Term}
use Rattle.module_forms.specs.declared.part.Got.{Got}
use Rattle.module_forms.specs.Part.{pairs_of, onto, one_more, plain}

or-again : (a b c : Bool) → ((a || b) || c) ≡ (a || (b || c))
or-again true b c = refl
or-again false b c = refl

pub onto-plain : {A : Type 0} (r : Option (Got (List A))) → onto (plain []) r ≡ r
onto-plain None = refl
onto-plain (Some gs) = refl

onto-more : {A : Type 0} (acc : Got (List A)) (g : Got A) (r : Option (Got (List A))) →
    onto acc (elim r [ None ↦ None | Some gs ↦ Some (one_more g gs) ]) ≡ onto (record { value = acc.value ++ g.value ∷ []; wide = acc.wide || g.wide }) r
onto-more acc g None = refl
onto-more acc g (Some gs) =
    let values : acc.value ++ (g.value ∷ gs.value) ≡ (acc.value ++ g.value ∷ []) ++ gs.value = sym (append_assoc acc.value (g.value ∷ []) gs.value) in
    let wides : (acc.wide || (g.wide || gs.wide)) ≡ ((acc.wide || g.wide) || gs.wide) = sym (or-again acc.wide g.wide gs.wide) in
    cc

rest_of : (ts : List Term) → take (length ts - 0) ts ≡ ts
rest_of ts = take_all (length ts - 0) ts (omega arith)

pub pairs-more : {A : Type 0} (read : Term → Term → Option (Got A)) (rest : List Term) (a b : Term) (g : Got A) (old : Got (List A)) (new : Got (List A)) → 2 ≤ length rest →
    a ≡ get_or rest 0 a → b ≡ get_or rest 1 b → read a b ≡ Some g → new ≡ record { value = old.value ++ g.value ∷ []; wide = old.wide || g.wide } →
    onto new (pairs_of read (take (length rest - 2) (drop 2 rest))) ≡ onto old (pairs_of read rest)
pairs-more read [] a b g old new h p q e n = absurd (omega arith)
pairs-more read (x ∷ []) a b g old new h p q e n = absurd (omega arith)
pairs-more read (x ∷ y ∷ ts) a b g old new h p q e n =
    let same : read x y ≡ Some g = cc in
    let all : take (length (x ∷ y ∷ ts) - 2) ts ≡ ts = take_all (length (x ∷ y ∷ ts) - 2) ts (grind arith) in
    rw (all, n, same) (sym (onto-more old g (pairs_of read ts)))
