-- The law, row by row of the table of built-ins.
use Rattle.std.proofs.Common.{◌≡◌, ℕ, zero, suc, ◌+ℤ◌, ◌-ℤ◌, ◌*ℤ◌, ◌&&◌, ◌||◌, neg_ℤ, List, [], ◌∷◌, Some, length, slice_get, codes, refl, sym, subst, arith}
use Rattle.beam_code.specs.Answer as a
use Rattle.beam_code.specs.BuiltIns.{BuiltIn, Badarg, Badarith, built_ins, inline, absolute, same, answered, answer_of}
use Rattle.beam_code.specs.declared.call.RaiseClass.TheVariants.{Error, Exit, Throw}
use Rattle.prim_gates.proofs.Plain as plain
use Rattle.prim_gates.proofs.Rows as row
use Rattle.prim_gates.specs.Gate.{Memory, Shape, shapes, shaped, of_number}
use Rattle.prim_gates.specs.Law.{IsMemory, AllStand, SaysSo, AnswersAsOnTerms}
use Rattle.prim_gates.specs.Reply.{Argument}
use Rattle.prim_gates.specs.Shapes as s
use Rattle.tagged_words.specs.Atoms.{IsTable}
use Rattle.term_tree.specs.Tree as t

module _ (m : Memory) (names : List (List ℕ)) (ok : IsMemory m) (table : IsTable names) where
  -- the law of a built-in, for as many terms as it takes
  pub record Row (b : BuiltIn) (shape : Shape) : Type 0 where
    pub law : (x y z : Argument) (vs : List t.Tree) → length vs ≡ b.arity → AllStand m names (x ∷ y ∷ z ∷ []) vs → SaysSo m names (answered b vs (b.value vs)) (shaped m b shape x y z)

  one_law : (b : BuiltIn) (shape : Shape) → b.arity ≡ 1 → row.RowOne m names ok table b shape → (x y z : Argument) (vs : List t.Tree) → length vs ≡ b.arity → AllStand m names (x ∷ y ∷ z ∷ []) vs
      → SaysSo m names (answered b vs (b.value vs)) (shaped m b shape x y z)
  one_law b shape is law x y z [] many h = absurd (omega arith)
  one_law b shape is law x y z (u ∷ []) many h =
      subst (λ q. SaysSo m names (answered b (u ∷ []) (b.value (u ∷ []))) (shaped m b shape (record { word = x.word; seen = q }) y z)) (sym h.0.seen) (law x.word u y z h.0.is)
  one_law b shape is law x y z (u ∷ v ∷ vs) many h = absurd (omega arith)

  two_law : (b : BuiltIn) (shape : Shape) → b.arity ≡ 2 → row.RowTwo m names ok table b shape → (x y z : Argument) (vs : List t.Tree) → length vs ≡ b.arity → AllStand m names (x ∷ y ∷ z ∷ []) vs
      → SaysSo m names (answered b vs (b.value vs)) (shaped m b shape x y z)
  two_law b shape is law x y z [] many h = absurd (omega arith)
  two_law b shape is law x y z (u ∷ []) many h = absurd (omega arith)
  two_law b shape is law x y z (u ∷ v ∷ []) many h =
      subst (λ q. SaysSo m names (answered b (u ∷ v ∷ []) (b.value (u ∷ v ∷ []))) (shaped m b shape (record { word = x.word; seen = q }) y z)) (sym h.0.seen)
      (subst (λ q. SaysSo m names (answered b (u ∷ v ∷ []) (b.value (u ∷ v ∷ []))) (shaped m b shape (row.arg x.word u) (record { word = y.word; seen = q }) z)) (sym h.1.0.seen)
      (law x.word y.word u v z h.0.is h.1.0.is))
  two_law b shape is law x y z (u ∷ v ∷ w ∷ vs) many h = absurd (omega arith)

  three_law : (b : BuiltIn) (shape : Shape) → b.arity ≡ 3 → row.RowThree m names ok table b shape → (x y z : Argument) (vs : List t.Tree) → length vs ≡ b.arity → AllStand m names (x ∷ y ∷ z ∷ []) vs
      → SaysSo m names (answered b vs (b.value vs)) (shaped m b shape x y z)
  three_law b shape is law x y z [] many h = absurd (omega arith)
  three_law b shape is law x y z (u ∷ []) many h = absurd (omega arith)
  three_law b shape is law x y z (u ∷ v ∷ []) many h = absurd (omega arith)
  three_law b shape is law x y z (u ∷ v ∷ w ∷ []) many h =
      subst (λ q. SaysSo m names (answered b (u ∷ v ∷ w ∷ []) (b.value (u ∷ v ∷ w ∷ []))) (shaped m b shape (record { word = x.word; seen = q }) y z)) (sym h.0.seen)
      (subst (λ q. SaysSo m names (answered b (u ∷ v ∷ w ∷ []) (b.value (u ∷ v ∷ w ∷ []))) (shaped m b shape (row.arg x.word u) (record { word = y.word; seen = q }) z)) (sym h.1.0.seen)
      (subst (λ q. SaysSo m names (answered b (u ∷ v ∷ w ∷ []) (b.value (u ∷ v ∷ w ∷ []))) (shaped m b shape (row.arg x.word u) (row.arg y.word v) (record { word = z.word; seen = q }))) (sym h.1.1.0.seen)
      (law x.word y.word z.word u v w h.0.is h.1.0.is h.1.1.0.is)))
  three_law b shape is law x y z (u ∷ v ∷ w ∷ k ∷ vs) many h = absurd (omega arith)

  one : {b : BuiltIn} {shape : Shape} → b.arity ≡ 1 → row.RowOne m names ok table b shape → Row b shape
  one {b} {shape} is law = record { law = one_law b shape is law }

  two : {b : BuiltIn} {shape : Shape} → b.arity ≡ 2 → row.RowTwo m names ok table b shape → Row b shape
  two {b} {shape} is law = record { law = two_law b shape is law }

  three : {b : BuiltIn} {shape : Shape} → b.arity ≡ 3 → row.RowThree m names ok table b shape → Row b shape
  three {b} {shape} is law = record { law = three_law b shape is law }

  infixr 5 ◌also◌
  -- the law of each built-in of a table, with the shapes beside it
  data Rows : List BuiltIn → List Shape → Type 0 where
    done : Rows [] []
    ◌also◌ : {b : BuiltIn} {shape : Shape} {bs : List BuiltIn} {ss : List Shape} → Row b shape → Rows bs ss → Rows (b ∷ bs) (shape ∷ ss)

  law_at : (bs : List BuiltIn) (ss : List Shape) → Rows bs ss → (k : ℕ) (b : BuiltIn) → slice_get bs k ≡ Some b → (shape : Shape) × (slice_get ss k ≡ Some shape) × Row b shape
  law_at [] ss rows k b e = absurd cc
  law_at (c ∷ bs) [] rows k b e = elim rows [ ]
  law_at (c ∷ bs) (shape ∷ ss) (first also rest) zero b e = let same : c ≡ b = cc in (shape, refl, subst (λ d. Row d shape) same first)
  law_at (c ∷ bs) (shape ∷ ss) (first also rest) (suc k) b e = law_at bs ss rest k b e

  rows : Rows built_ins shapes
  rows =
      two refl (row.of_integers m names ok table (codes "+") a.add (λ i j. plain.exact_plain Badarith (i +ℤ j)))
      also two refl (row.of_integers m names ok table (codes "-") a.subtract (λ i j. plain.exact_plain Badarith (i -ℤ j)))
      also two refl (row.of_integers m names ok table (codes "*") a.multiply (λ i j. plain.exact_plain Badarith (i *ℤ j)))
      also two refl (row.of_integers m names ok table (codes "div") a.divide plain.divide_plain)
      also two refl (row.of_integers m names ok table (codes "rem") a.remainder plain.remainder_plain)
      also two refl (row.of_integers m names ok table (codes "band") (λ x y. a.exact (a.bits_and x y)) (λ i j. plain.exact_plain Badarith (a.bits_and i j)))
      also two refl (row.of_integers m names ok table (codes "bor") (λ x y. a.exact (a.bits_or x y)) (λ i j. plain.exact_plain Badarith (a.bits_or i j)))
      also two refl (row.of_integers m names ok table (codes "bxor") (λ x y. a.exact (a.bits_xor x y)) (λ i j. plain.exact_plain Badarith (a.bits_xor i j)))
      also two refl (row.of_integers m names ok table (codes "bsl") a.shift_left plain.shift_left_plain)
      also two refl (row.of_integers m names ok table (codes "bsr") a.shift_right plain.shift_right_plain)
      also one refl (row.of_one m names ok table (inline (codes "bnot") 1 Badarith (a.of_one a.bits_not)) refl (row.one_shown a.bits_not) (row.one_plain a.bits_not Badarith tt))
      also one refl (row.of_one m names ok table (inline (codes "-") 1 Badarith (a.of_one neg_ℤ)) refl (row.one_shown neg_ℤ) (row.one_plain neg_ℤ Badarith tt))
      also one refl (row.of_one m names ok table (inline (codes "+") 1 Badarith (a.of_one same)) refl (row.one_shown same) (row.one_plain same Badarith tt))
      also one refl (row.of_one m names ok table (inline (codes "abs") 1 Badarg (a.of_one absolute)) refl (row.one_shown absolute) (row.one_plain absolute Badarg tt))
      also two refl (row.of_order m names ok table (codes "=:=") a.is_equal a.equal (λ x y. refl))
      also two refl (row.of_order m names ok table (codes "=/=") s.is_unequal a.unequal (λ x y. refl))
      also two refl (row.of_order m names ok table (codes "==") a.is_equal a.equal (λ x y. refl))
      also two refl (row.of_order m names ok table (codes "/=") s.is_unequal a.unequal (λ x y. refl))
      also two refl (row.of_order m names ok table (codes "<") a.is_less a.less (λ x y. refl))
      also two refl (row.of_order m names ok table (codes ">") s.is_greater a.greater row.is_greater)
      also two refl (row.of_order m names ok table (codes "=<") s.is_not_greater a.not_greater row.is_not_greater)
      also two refl (row.of_order m names ok table (codes ">=") s.is_not_less a.not_less (λ x y. refl))
      also two refl (row.of_truths m names ok table (codes "and") (λ x y. x && y))
      also two refl (row.of_truths m names ok table (codes "or") (λ x y. x || y))
      also two refl (row.of_truths m names ok table (codes "xor") a.differ)
      also one refl (row.of_one m names ok table (inline (codes "not") 1 Badarg a.of_truth) refl row.truth_shown row.truth_of_plain)
      also one refl (row.of_test m names ok table (codes "is_integer") a.is_integer row.integer_shown)
      also one refl (row.of_test m names ok table (codes "is_atom") a.is_atom row.atom_shown)
      also one refl (row.of_test m names ok table (codes "is_list") a.is_list row.list_shown)
      also one refl (row.of_test m names ok table (codes "is_tuple") a.is_tuple row.tuple_shown)
      also one refl (row.of_test m names ok table (codes "is_boolean") a.is_boolean row.boolean_shown)
      also one refl (row.of_test m names ok table (codes "is_number") a.is_integer row.integer_shown)
      also one refl (row.of_head m names ok table)
      also one refl (row.of_tail m names ok table)
      also two refl (row.of_element m names ok table)
      also one refl (row.of_one m names ok table (inline (codes "tuple_size") 1 Badarg a.tuple_size) refl row.size_shown row.size_plain)
      also one refl (row.of_length m names ok table)
      also two refl (row.of_least m names ok table)
      also two refl (row.of_greatest m names ok table)
      also three refl (row.of_set m names ok table)
      also two refl (row.of_append m names ok table)
      also one refl (row.of_to_tuple m names ok table)
      also one refl (row.of_to_list m names ok table)
      also two refl (row.of_reverse m names ok table)
      also two refl (row.of_member m names ok table)
      also one refl (row.of_raise m names ok table (codes "throw") Throw)
      also one refl (row.of_raise m names ok table (codes "exit") Exit)
      also one refl (row.of_raise m names ok table (codes "error") Error)
      also two refl (row.of_raise_two m names ok table (codes "error") Error)
      also one refl (row.of_never m names ok table (codes "is_float"))
      also one refl (row.of_never m names ok table (codes "is_pid"))
      also one refl (row.of_never m names ok table (codes "is_reference"))
      also one refl (row.of_never m names ok table (codes "is_port"))
      also one refl (row.of_never m names ok table (codes "is_binary"))
      also one refl (row.of_never m names ok table (codes "is_bitstring"))
      also one refl (row.of_never m names ok table (codes "is_map"))
      also one refl (row.of_never m names ok table (codes "is_function"))
      also done

pub answers_as_on_terms : AnswersAsOnTerms
answers_as_on_terms k b m names x y z vs e ok table many h =
    let law = law_at m names ok table built_ins shapes (rows m names ok table) k b e in
    subst (λ o. SaysSo m names (answer_of o vs) (of_number m o (slice_get shapes k) x y z)) (sym e)
    (subst (λ o. SaysSo m names (answer_of (Some b) vs) (of_number m (Some b) o x y z)) (sym law.1) (law.2.law x y z vs many h))
