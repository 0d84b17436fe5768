use Rattle.std.proofs.Common.{◌≡◌, ℕ, ◌+◌, ◌-◌, true, is_some, [], inl, inr, ap, sym, subst, ◌∙◌, arith}
use Rattle.tagged_words.specs.Look.{address_end}
use Rattle.tagged_words.specs.Store.{Store, word_of}
use Rattle.prim_gates.proofs.Seeing.{cons_first, cons_second, cons_is, cons_seen}
use Rattle.prim_gates.specs.Reply.{read, Value}
use Rattle.prim_gates.specs.Shapes.{part_of}
use Rattle.prim_gates.proofs.tuples.part.Goals as goal

pub word_there-requires : goal.word_there-requires
word_there-requires g c =
    let s : Store = g.W.Words.store c.args.words.now in
    let at : ℕ = c.in-Cons.at in
    let e = sym c.look_at.ensures ∙ c.in-Cons.is in
    elim c.requires as (λ _. is_some (word_of s (at + c.args.offset)) ≡ true) [
      | inl z ↦ let here : at ≡ at + c.args.offset = omega (arith, z) in subst (λ p. is_some (word_of s p) ≡ true) here (cons_first s c.args.atoms.now address_end c.args.w at e)
      | inr z ↦ let here : at + 4 ≡ at + c.args.offset = omega (arith, z) in subst (λ p. is_some (word_of s p) ≡ true) here (cons_second s c.args.atoms.now address_end c.args.w at e)
    ]

pub returns-in-Cons : goal.returns-in-Cons
returns-in-Cons g c = λ b v fails sees.
    let s : Store = g.W.Words.store c.args.words.now in
    let at : ℕ = c.in-Cons.at in
    let e = sym c.look_at.ensures ∙ c.in-Cons.is in
    let word : c.args.w ≡ at + 1 = cons_is s c.args.atoms.now address_end c.args.w at e in
    let seen = cons_seen s c.args.atoms.now address_end c.args.w at v e sees in
    let place : at + c.args.offset ≡ c.args.w - 1 + c.args.offset = omega arith in
    ap (λ x. Value x []) (c.word_there.ensures.read ∙ ap (read s) place) ∙ sym (ap (part_of s b c.args.offset c.args.w) seen.is)
