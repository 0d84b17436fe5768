-- The built-ins on words, by their numbers (docs/MACHINE.md, Built-ins on words).
use Rattle.std.specs.Prelude.{ℕ, pos, Bool, false, List, [], ◌∷◌, length, reverse, Option, Some, slice_get}
use Rattle.std.specs.declared.cmp.Ordering.{Ordering}
use Rattle.beam_code.specs.Answer as a
use Rattle.beam_code.specs.BuiltIns.{BuiltIn, built_ins}
use Rattle.tagged_words.specs.Store.{Store}
use Rattle.prim_gates.specs.Reply.{Reply, Bignum, Argument, says, raised, valued, list_made, tuple_made}
use Rattle.prim_gates.specs.Shapes as s

-- the memory that a built-in finds: the store, how many words may be pushed, and where the next one goes
pub record Memory : Type 0 where
  pub store : Store
  pub room : ℕ
  pub top : ℕ

abbrev pub memory : Store → ℕ → ℕ → Memory
memory store room top = record { store = store; room = room; top = top }

-- what a built-in does with its arguments
pub data Shape : Type 0 where
  OneTerm TwoIntegers TwoTruths Head Tail Element SetElement ToList Length Append ToTuple Reverse Member Raises Never : Shape
  Order : (Ordering → Bool) → Shape
  Either : (Ordering → Bool) → Shape

-- the shapes of the built-ins in the order of their numbers
abbrev pub shapes : List Shape
shapes =
    TwoIntegers ∷ TwoIntegers ∷ TwoIntegers ∷ TwoIntegers ∷ TwoIntegers
    ∷ TwoIntegers ∷ TwoIntegers ∷ TwoIntegers ∷ TwoIntegers ∷ TwoIntegers
    ∷ OneTerm ∷ OneTerm ∷ OneTerm ∷ OneTerm
    ∷ Order a.is_equal ∷ Order s.is_unequal ∷ Order a.is_equal ∷ Order s.is_unequal
    ∷ Order a.is_less ∷ Order s.is_greater ∷ Order s.is_not_greater ∷ Order s.is_not_less
    ∷ TwoTruths ∷ TwoTruths ∷ TwoTruths ∷ OneTerm
    ∷ OneTerm ∷ OneTerm ∷ OneTerm ∷ OneTerm ∷ OneTerm ∷ OneTerm
    ∷ Head ∷ Tail ∷ Element ∷ OneTerm ∷ Length
    ∷ Either s.is_greater ∷ Either a.is_less
    ∷ SetElement ∷ Append ∷ ToTuple ∷ ToList ∷ Reverse ∷ Member
    ∷ Raises ∷ Raises ∷ Raises ∷ Raises
    ∷ Never ∷ Never ∷ Never ∷ Never ∷ Never ∷ Never ∷ Never ∷ Never ∷ []

abbrev pub shaped : Memory → BuiltIn → Shape → Argument → Argument → Argument → Reply
shaped m b OneTerm x y z = s.of_one b x
shaped m b TwoIntegers x y z = s.of_two s.is_integer b x y
shaped m b TwoTruths x y z = s.of_two s.is_truth b x y
shaped m b (Order test) x y z = s.of_order test x y
shaped m b (Either takes_second) x y z = s.of_either takes_second x y
shaped m b Head x y z = s.part_of m.store b 0 x.word x.seen
shaped m b Tail x y z = s.part_of m.store b 4 x.word x.seen
shaped m b Element x y z = s.at_index b x.word (λ i. s.element_of m.store b i x.word y.word y.seen) x.seen
shaped m b SetElement x y z = s.at_index b x.word (λ i. s.with_element m.store b m.room m.top i x.word y.word y.seen z.word) x.seen
shaped m b ToList x y z = s.tuple_list m.store b m.room m.top x.word x.seen
shaped m b Length x y z = s.of_list b x (valued b.failure x.word (a.exact (pos (length (s.heads m.store x.word x.seen)))))
shaped m b Append x y z = s.of_list b x (list_made m.room m.top (reverse (s.heads m.store x.word x.seen)) y.word)
shaped m b Reverse x y z = s.of_list b x (list_made m.room m.top (s.heads m.store x.word x.seen) y.word)
shaped m b ToTuple x y z = s.of_list b x (tuple_made m.room m.top (s.heads m.store x.word x.seen))
shaped m b Member x y z = s.member_of b x.word x.seen y.seen
shaped m b Raises x y z = raised b.failure x.word
shaped m b Never x y z = says false

-- what built-in number k answers; there is none past the table
abbrev pub of_number : Memory → Option BuiltIn → Option Shape → Argument → Argument → Argument → Reply
of_number m (Some b) (Some shape) x y z = shaped m b shape x y z
of_number m b shape x y z = Bignum

abbrev pub prim : ℕ → Memory → Argument → Argument → Argument → Reply
prim k m x y z = of_number m (slice_get built_ins k) (slice_get shapes k) x y z
