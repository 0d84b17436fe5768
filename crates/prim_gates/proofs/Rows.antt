-- The law, shape by shape.
use Rattle.std.proofs.Common.{◌≡◌, ℕ, zero, suc, ◌+◌, ◌-◌, ◌*◌, ◌<◌, ◌≤◌, ◌⊎◌, inl, inr, ℤ, pos, negsuc, Bool, true, false, not, Option, Some, None, List, [], ◌∷◌, length, reverse, slice_get, slice_set, codes, nat_lt, refl, ap, sym, subst, ◌∙◌, arith, if◌then◌else◌}
use Rattle.std.specs.declared.cmp.Ordering.{Ordering}
use Rattle.std.specs.declared.cmp.Ordering.TheVariants.{Less, Equal, Greater}
use Rattle.std.specs.Ordering.{ordering_reverse}
use Rattle.std.proofs.lemmas.Bool.Decides.{nat_tests}
use Rattle.std.proofs.lemmas.List.{length-set, length-reverse, reverse-reverse}
use Rattle.beam_code.specs.Answer as a
use Rattle.beam_code.specs.BuiltIns.{BuiltIn, Failure, NoFailure, Badarith, Badarg, First, Nothing, ATuple, AList, elements_in, answered, failed, inline, called, of_lists}
use Rattle.beam_code.specs.declared.call.RaiseClass.{RaiseClass}
use Rattle.beam_code.specs.declared.call.RaiseClass.TheVariants.{Error}
use Rattle.prim_gates.proofs.Cells.{onto_reverse}
use Rattle.prim_gates.proofs.Each.{Each, each_length, each_reverse, each_set}
use Rattle.prim_gates.proofs.Plain.{MayFail, IsPlain, truth_plain, exact_plain}
use Rattle.prim_gates.proofs.Saying as says
use Rattle.prim_gates.proofs.Walks.{seen_size_whole, length-list_of, reads_each, element_there, IsTupleAt, tuple_at, cons_at, IsList, IsNoList, list_or_not}
use Rattle.prim_gates.proofs.Below.{tree_under}
use Rattle.prim_gates.specs.Gate.{Memory, Shape, shaped, OneTerm, TwoIntegers, TwoTruths, Head, Tail, Element, SetElement, ToList, Length, Append, ToTuple, Reverse, Member, Raises, Never, Order, Either}
use Rattle.prim_gates.specs.Law.{IsMemory, IsGiven, IsRaise, SaysSo}
use Rattle.prim_gates.specs.Reply as r
use Rattle.prim_gates.specs.Shapes as s
use Rattle.tagged_words.specs.Atoms.{IsTable}
use Rattle.tagged_words.specs.Look.{address_end}
use Rattle.tagged_words.specs.Seen.{IsTreeOf, whole, all_whole, seen_size}
use Rattle.tagged_words.specs.Word.{nil_word}
use Rattle.term_tree.proofs.OrderLaws.{order-reverse}
use Rattle.term_tree.specs.Order.{order}
use Rattle.term_tree.specs.Size.{size_of}
use Rattle.term_tree.specs.Tree as t
use Rattle.word_walks.proofs.WholeTerms.{whole_order}
use Rattle.word_walks.specs.Compared.{Is}

-- ---- a term that is shown

blank_size : (vs : t.Trees) → size_of (s.blanks (all_whole vs)) ≡ size_of vs
blank_size t.No = refl
blank_size (t.More v vs) = ap (λ n. 1 + n) (blank_size vs)

-- a function of one term sees no more than what is shown
abbrev pub LooksOnly : {A : Type 0} → (List t.Tree → A) → Type 0
LooksOnly f = (v : t.Tree) → f (s.shown (whole v) ∷ []) ≡ f (v ∷ [])

pub one_shown : (f : ℤ → ℤ) → LooksOnly (a.of_one f)
one_shown f (t.Int i) = refl
one_shown f v = refl

pub truth_shown : LooksOnly a.of_truth
truth_shown (t.Atom name) = refl
truth_shown v = refl

pub integer_shown : LooksOnly a.is_integer
integer_shown (t.Int i) = refl
integer_shown v = refl

pub atom_shown : LooksOnly a.is_atom
atom_shown (t.Atom name) = refl
atom_shown v = refl

pub list_shown : LooksOnly a.is_list
list_shown t.Nil = refl
list_shown (t.Cons head tail) = refl
list_shown v = refl

pub tuple_shown : LooksOnly a.is_tuple
tuple_shown (t.Tuple vs) = refl
tuple_shown v = refl

pub boolean_shown : LooksOnly a.is_boolean
boolean_shown (t.Atom name) = refl
boolean_shown v = refl

pub size_shown : LooksOnly a.tuple_size
size_shown (t.Tuple vs) = ap (λ n. a.exact (pos n)) (blank_size vs)
size_shown v = refl

pub one_plain : (f : ℤ → ℤ) (why : Failure) → MayFail why → (v : t.Tree) → IsPlain why (a.of_one f (v ∷ []))
one_plain f why may (t.Int i) = exact_plain why (f i)
one_plain f why may v = may

other_plain : (why : Failure) → MayFail why → (o : Option Bool) → IsPlain why (a.other o)
other_plain why may (Some b) = truth_plain why (not b)
other_plain why may None = may

pub truth_of_plain : (v : t.Tree) → IsPlain Badarg (a.of_truth (v ∷ []))
truth_of_plain v = other_plain Badarg tt (a.truth_of v)

pub size_plain : (v : t.Tree) → IsPlain Badarg (a.tuple_size (v ∷ []))
size_plain (t.Tuple vs) = exact_plain Badarg (pos (size_of vs))
size_plain v = tt

look_whole : (v : t.Tree) (next : r.Reply) → s.look_then (whole v) next ≡ next
look_whole (t.Int i) next = refl
look_whole v next = refl

-- ---- orders

pub is_greater : (x y : t.Tree) → a.less y x ≡ s.is_greater (order x y)
is_greater x y = ap a.is_less (order-reverse y x) ∙ turned (order x y)
  where
    turned : (o : Ordering) → a.is_less (ordering_reverse o) ≡ s.is_greater o
    turned Less = refl
    turned Equal = refl
    turned Greater = refl

pub is_not_greater : (x y : t.Tree) → not (a.less y x) ≡ s.is_not_greater (order x y)
is_not_greater x y = ap (λ o. not (a.is_less o)) (order-reverse y x) ∙ turned (order x y)
  where
    turned : (o : Ordering) → not (a.is_less (ordering_reverse o)) ≡ s.is_not_greater o
    turned Less = refl
    turned Equal = refl
    turned Greater = refl

past_end : (vs : List t.Tree) (i : ℕ) → length vs ≤ i → slice_get vs i ≡ None
past_end [] i past = refl
past_end (v ∷ vs) zero past = absurd (omega arith)
past_end (v ∷ vs) (suc i) past = past_end vs i (omega arith)

-- an argument that stands for a whole term
abbrev pub arg : ℕ → t.Tree → r.Argument
arg word v = record { word = word; seen = whole v }

module _ (m : Memory) (names : List (List ℕ)) (ok : IsMemory m) (table : IsTable names) where
  abbrev Stands : ℕ → t.Tree → Type 0
  Stands w v = IsTreeOf m.store names w v

  -- the law of a built-in whose arguments are one, two or three
  abbrev pub RowOne : BuiltIn → Shape → Type 0
  RowOne b shape = (u : ℕ) (x : t.Tree) (d e : r.Argument) → Stands u x → SaysSo m names (answered b (x ∷ []) (b.value (x ∷ []))) (shaped m b shape (arg u x) d e)

  abbrev pub RowTwo : BuiltIn → Shape → Type 0
  RowTwo b shape = (u v : ℕ) (x y : t.Tree) (e : r.Argument) → Stands u x → Stands v y → SaysSo m names (answered b (x ∷ y ∷ []) (b.value (x ∷ y ∷ []))) (shaped m b shape (arg u x) (arg v y) e)

  abbrev pub RowThree : BuiltIn → Shape → Type 0
  RowThree b shape = (u v w : ℕ) (x y z : t.Tree) → Stands u x → Stands v y → Stands w z
      → SaysSo m names (answered b (x ∷ y ∷ z ∷ []) (b.value (x ∷ y ∷ z ∷ []))) (shaped m b shape (arg u x) (arg v y) (arg w z))

  -- ---- one term, two integers, two truths

  pub of_one : (b : BuiltIn) → b.making ≡ Nothing → LooksOnly b.value → ((x : t.Tree) → IsPlain b.failure (b.value (x ∷ []))) → RowOne b OneTerm
  of_one b none looks plain u x d e h =
      subst (SaysSo m names (answered b (x ∷ []) (b.value (x ∷ [])))) (sym (look_whole x (r.valued b.failure u (b.value (s.shown (whole x) ∷ [])))))
      (subst (λ val. SaysSo m names (answered b (x ∷ []) (b.value (x ∷ []))) (r.valued b.failure u val)) (sym (looks x))
      (says.plain_says m names ok table b (x ∷ []) (b.value (x ∷ [])) u none (plain x)))

  pub of_test : (name : List ℕ) (holds : List t.Tree → Bool) → LooksOnly holds → RowOne (inline name 1 NoFailure (λ vs. a.says (holds vs))) OneTerm
  of_test name holds looks = of_one (inline name 1 NoFailure (λ vs. a.says (holds vs))) refl (λ v. ap a.says (looks v)) (λ x. truth_plain NoFailure (holds (x ∷ [])))

  pub of_integers : (name : List ℕ) (f : ℤ → ℤ → a.Value) → ((i j : ℤ) → IsPlain Badarith (f i j)) → RowTwo (inline name 2 Badarith (a.of_two f)) TwoIntegers
  of_integers name f plain u v (t.Int i) (t.Int j) e h g = says.plain_says m names ok table (inline name 2 Badarith (a.of_two f)) (t.Int i ∷ t.Int j ∷ []) (f i j) u refl (plain i j)
  of_integers name f plain u v x y e h g = says.failed_says m names ok table Badarith (x ∷ y ∷ []) u tt

  of_both : (name : List ℕ) (f : Bool → Bool → Bool) (u : ℕ) (vs : List t.Tree) (o p : Option Bool)
      → SaysSo m names (answered (inline name 2 Badarg (a.of_truths f)) vs (a.both_true f o p)) (if a.is_truth o then r.valued Badarg u (a.both_true f o p) else r.raised Badarg u)
  of_both name f u vs (Some b) (Some c) = says.plain_says m names ok table (inline name 2 Badarg (a.of_truths f)) vs (a.says (f b c)) u refl (truth_plain Badarg (f b c))
  of_both name f u vs (Some b) None = says.failed_says m names ok table Badarg vs u tt
  of_both name f u vs None p = says.failed_says m names ok table Badarg vs u tt

  pub of_truths : (name : List ℕ) (f : Bool → Bool → Bool) → RowTwo (inline name 2 Badarg (a.of_truths f)) TwoTruths
  of_truths name f u v (t.Atom k) (t.Atom l) e h g = of_both name f u (t.Atom k ∷ t.Atom l ∷ []) (a.truth_named k) (a.truth_named l)
  of_truths name f u v (t.Atom k) y e h g = of_both name f u (t.Atom k ∷ y ∷ []) (a.truth_named k) None
  of_truths name f u v x y e h g = says.failed_says m names ok table Badarg (x ∷ y ∷ []) u tt

  -- ---- orders

  pub of_order : (name : List ℕ) (test : Ordering → Bool) (holds : t.Tree → t.Tree → Bool) → ((x y : t.Tree) → holds x y ≡ test (order x y))
      → RowTwo (inline name 2 NoFailure (λ vs. a.says (a.two_terms holds vs))) (Order test)
  of_order name test holds same u v x y e h g =
      subst (λ found. SaysSo m names (answered (inline name 2 NoFailure (λ vs. a.says (a.two_terms holds vs))) (x ∷ y ∷ []) (a.says (holds x y))) (s.on_order (λ o. r.says (test o)) found)) (sym (whole_order x y))
      (subst (λ b. SaysSo m names (answered (inline name 2 NoFailure (λ vs. a.says (a.two_terms holds vs))) (x ∷ y ∷ []) (a.says (holds x y))) (r.says b)) (same x y)
      (says.truth_says m names ok table (inline name 2 NoFailure (λ vs. a.says (a.two_terms holds vs))) (x ∷ y ∷ []) (holds x y) refl))

  either_says : (u v : ℕ) (x y : t.Tree) → Stands u x → Stands v y → (b : Bool) → IsGiven m names (if b then y else x) 0 (r.Value (if b then v else u) [])
  either_says u v x y h g true = says.value_says m names ok table y 0 v refl g
  either_says u v x y h g false = says.value_says m names ok table x 0 u refl h

  pub of_least : RowTwo (inline (codes "min") 2 NoFailure a.least) (Either s.is_greater)
  of_least u v x y e h g =
      subst (λ found. IsGiven m names (if a.less y x then y else x) 0 (s.on_order (λ o. r.Value (if s.is_greater o then v else u) []) found)) (sym (whole_order x y))
      (subst (λ b. IsGiven m names (if a.less y x then y else x) 0 (r.Value (if b then v else u) [])) (is_greater x y) (either_says u v x y h g (a.less y x)))

  pub of_greatest : RowTwo (inline (codes "max") 2 NoFailure a.greatest) (Either a.is_less)
  of_greatest u v x y e h g =
      subst (λ found. IsGiven m names (if a.less x y then y else x) 0 (s.on_order (λ o. r.Value (if a.is_less o then v else u) []) found)) (sym (whole_order x y))
      (either_says u v x y h g (a.less x y))

  -- ---- parts of conses and tuples

  pub of_head : RowOne (inline (codes "hd") 1 Badarg a.head) Head
  of_head u (t.Cons head tail) d e h =
      let c = cons_at m.store names address_end u head tail h in
      let word : u ≡ c.at + 1 = c.word in
      let low : c.at ≤ address_end = c.low in
      let place : c.at ≡ u - 1 + 0 = omega arith in
      says.value_says m names ok table head 0 (r.read m.store (u - 1 + 0)) refl
      (subst (λ z. Stands (r.read m.store z) head) place (tree_under m.store names c.at address_end low (r.read m.store c.at) head c.head_stands))
  of_head u x d e h = says.failed_says m names ok table Badarg (x ∷ []) u tt

  pub of_tail : RowOne (inline (codes "tl") 1 Badarg a.tail) Tail
  of_tail u (t.Cons head tail) d e h =
      let c = cons_at m.store names address_end u head tail h in
      let word : u ≡ c.at + 1 = c.word in
      let low : c.at ≤ address_end = c.low in
      let place : c.at + 4 ≡ u - 1 + 4 = omega arith in
      says.value_says m names ok table tail 0 (r.read m.store (u - 1 + 4)) refl
      (subst (λ z. Stands (r.read m.store z) tail) place (tree_under m.store names c.at address_end low (r.read m.store (c.at + 4)) tail c.tail_stands))
  of_tail u x d e h = says.failed_says m names ok table Badarg (x ∷ []) u tt

  -- an index below 1 is refused, whatever the other argument is
  low_element : (b : BuiltIn) (u v : ℕ) (y : t.Tree) → s.element_of m.store b (pos zero) u v (whole y) ≡ r.raised b.failure u
  low_element b u v (t.Tuple vs) = refl
  low_element b u v y = refl

  negative_element : (b : BuiltIn) (n u v : ℕ) (y : t.Tree) → s.element_of m.store b (negsuc n) u v (whole y) ≡ r.raised b.failure u
  negative_element b n u v (t.Tuple vs) = refl
  negative_element b n u v y = refl

  abbrev element_built : BuiltIn
  element_built = inline (codes "element") 2 Badarg a.element

  at_place : (u v : ℕ) (vs : t.Trees) (i : ℕ) → IsTupleAt m.store names v vs → (b : Bool) → nat_lt i (seen_size (all_whole vs)) ≡ b
      → SaysSo m names (answered element_built (t.Int (pos (suc i)) ∷ t.Tuple vs ∷ []) (a.found (slice_get (t.list_of vs) i)))
      (if b then r.Value (r.read m.store (v - 2 + 4 * (i + 1))) [] else r.raised Badarg u)
  at_place u v vs i p true test =
      let many = seen_size_whole vs in
      let within : i < size_of vs = grind (arith, nat_tests) in
      let word : v ≡ p.at + 2 = p.word in
      let one = element_there m.store names p.at (p.at + 4) vs i p.low p.elements within in
      let place : p.at + 4 + 4 * i ≡ v - 2 + 4 * (i + 1) = omega arith in
      subst (λ o. SaysSo m names (answered element_built (t.Int (pos (suc i)) ∷ t.Tuple vs ∷ []) (a.found o)) (r.Value (r.read m.store (v - 2 + 4 * (i + 1))) [])) (sym one.1)
      (says.value_says m names ok table one.0 0 (r.read m.store (v - 2 + 4 * (i + 1))) refl (subst (λ z. Stands (r.read m.store z) one.0) place one.2))
  at_place u v vs i p false test =
      let many = seen_size_whole vs in
      let all = length-list_of vs in
      let past : length (t.list_of vs) ≤ i = grind (arith, nat_tests) in
      subst (λ o. SaysSo m names (answered element_built (t.Int (pos (suc i)) ∷ t.Tuple vs ∷ []) (a.found o)) (r.raised Badarg u)) (sym (past_end (t.list_of vs) i past))
      (says.failed_says m names ok table Badarg (t.Int (pos (suc i)) ∷ t.Tuple vs ∷ []) u tt)

  pub of_element : RowTwo (inline (codes "element") 2 Badarg a.element) Element
  of_element u v (t.Int (pos (suc i))) (t.Tuple vs) e h g = at_place u v vs i (tuple_at m.store names v vs g) (nat_lt i (seen_size (all_whole vs))) refl
  of_element u v (t.Int (pos (suc i))) y e h g = says.failed_says m names ok table Badarg (t.Int (pos (suc i)) ∷ y ∷ []) u tt
  of_element u v (t.Int (pos zero)) y e h g =
      subst (λ p. IsRaise m names Error (t.Atom (codes "badarg")) p) (sym (low_element element_built u v y)) (says.failed_says m names ok table Badarg (t.Int (pos zero) ∷ y ∷ []) u tt)
  of_element u v (t.Int (negsuc n)) y e h g =
      subst (λ p. IsRaise m names Error (t.Atom (codes "badarg")) p) (sym (negative_element element_built n u v y)) (says.failed_says m names ok table Badarg (t.Int (negsuc n) ∷ y ∷ []) u tt)
  of_element u v x y e h g = says.failed_says m names ok table Badarg (x ∷ y ∷ []) u tt

  -- ---- tuples that are made, and lists of elements

  low_set : (b : BuiltIn) (u v w : ℕ) (y : t.Tree) → s.with_element m.store b m.room m.top (pos zero) u v (whole y) w ≡ r.raised b.failure u
  low_set b u v w (t.Tuple vs) = refl
  low_set b u v w y = refl

  negative_set : (b : BuiltIn) (n u v w : ℕ) (y : t.Tree) → s.with_element m.store b m.room m.top (negsuc n) u v (whole y) w ≡ r.raised b.failure u
  negative_set b n u v w (t.Tuple vs) = refl
  negative_set b n u v w y = refl

  abbrev set_built : BuiltIn
  set_built = called (codes "setelement") 3 Badarg (ATuple 1) a.set_element

  -- the terms after the other element is set are as many as before
  length-trees : (vs : t.Trees) (i : ℕ) (z : t.Tree) → length (slice_set (t.list_of vs) i z) ≡ size_of vs
  length-trees vs i z = length-set (t.list_of vs) i z ∙ length-list_of vs

  set_place : (u v w : ℕ) (vs : t.Trees) (i : ℕ) (z : t.Tree) → IsTupleAt m.store names v vs → Stands w z → (b c : Bool) → nat_lt i (seen_size (all_whole vs)) ≡ b → nat_lt i (length (t.list_of vs)) ≡ c
      → SaysSo m names (answered set_built (t.Int (pos (suc i)) ∷ t.Tuple vs ∷ z ∷ []) (if c then a.Is (t.Tuple (t.trees_of (slice_set (t.list_of vs) i z))) else a.Fails))
      (if b then r.tuple_made m.room m.top (slice_set (r.reads m.store (v + 2) (seen_size (all_whole vs))) i w) else r.raised Badarg u)
  set_place u v w vs i z p h true true first second =
      let word : v ≡ p.at + 2 = p.word in
      let place : p.at + 4 ≡ v + 2 = omega arith in
      let old : Each (IsTreeOf m.store names) (r.reads m.store (v + 2) (seen_size (all_whole vs))) (t.list_of vs) =
      subst (λ at. Each (IsTreeOf m.store names) (r.reads m.store at (seen_size (all_whole vs))) (t.list_of vs)) place (reads_each m.store names p.at (p.at + 4) vs p.low p.elements) in
      let many = length-trees vs i z in
      says.tuple_says m names ok table (slice_set (r.reads m.store (v + 2) (seen_size (all_whole vs))) i w) (slice_set (t.list_of vs) i z) (1 + size_of vs)
      (each_set (IsTreeOf m.store names) (r.reads m.store (v + 2) (seen_size (all_whole vs))) (t.list_of vs) i w z old h) (omega arith)
  set_place u v w vs i z p h true false first second =
      let many = seen_size_whole vs in
      let all = length-list_of vs in
      absurd (grind (arith, nat_tests))
  set_place u v w vs i z p h false true first second =
      let many = seen_size_whole vs in
      let all = length-list_of vs in
      absurd (grind (arith, nat_tests))
  set_place u v w vs i z p h false false first second = says.failed_says m names ok table Badarg (t.Int (pos (suc i)) ∷ t.Tuple vs ∷ z ∷ []) u tt

  pub of_set : RowThree (called (codes "setelement") 3 Badarg (ATuple 1) a.set_element) SetElement
  of_set u v w (t.Int (pos (suc i))) (t.Tuple vs) z h g f = set_place u v w vs i z (tuple_at m.store names v vs g) f (nat_lt i (seen_size (all_whole vs))) (nat_lt i (length (t.list_of vs))) refl refl
  of_set u v w (t.Int (pos (suc i))) y z h g f = says.failed_says m names ok table Badarg (t.Int (pos (suc i)) ∷ y ∷ z ∷ []) u tt
  of_set u v w (t.Int (pos zero)) y z h g f =
      subst (λ p. IsRaise m names Error (t.Atom (codes "badarg")) p) (sym (low_set set_built u v w y)) (says.failed_says m names ok table Badarg (t.Int (pos zero) ∷ y ∷ z ∷ []) u tt)
  of_set u v w (t.Int (negsuc n)) y z h g f =
      subst (λ p. IsRaise m names Error (t.Atom (codes "badarg")) p) (sym (negative_set set_built n u v w y)) (says.failed_says m names ok table Badarg (t.Int (negsuc n) ∷ y ∷ z ∷ []) u tt)
  of_set u v w x y z h g f = says.failed_says m names ok table Badarg (x ∷ y ∷ z ∷ []) u tt

  pub of_to_list : RowOne (called (codes "tuple_to_list") 1 Badarg AList a.to_list) ToList
  of_to_list u (t.Tuple vs) d e h =
      let p = tuple_at m.store names u vs h in
      let word : u ≡ p.at + 2 = p.word in
      let place : p.at + 4 ≡ u + 2 = omega arith in
      let each : Each (IsTreeOf m.store names) (r.reads m.store (u + 2) (seen_size (all_whole vs))) (t.list_of vs) =
      subst (λ at. Each (IsTreeOf m.store names) (r.reads m.store at (seen_size (all_whole vs))) (t.list_of vs)) place (reads_each m.store names p.at (p.at + 4) vs p.low p.elements) in
      let all = length-list_of vs in
      let turned = length-reverse (t.list_of vs) in
      says.list_says m names ok table (reverse (r.reads m.store (u + 2) (seen_size (all_whole vs)))) (reverse (t.list_of vs)) nil_word t.Nil (t.conses (t.list_of vs) t.Nil) (2 * size_of vs)
      (each_reverse (IsTreeOf m.store names) (r.reads m.store (u + 2) (seen_size (all_whole vs))) (t.list_of vs) each) refl (omega arith)
      (onto_reverse (reverse (t.list_of vs)) t.Nil ∙ ap (λ l. t.conses l t.Nil) (reverse-reverse (t.list_of vs)))
  of_to_list u x d e h = says.failed_says m names ok table Badarg (x ∷ []) u tt

  -- ---- walks over a list that has to end in `[]`

  walk_says : (b : BuiltIn) (vs : List t.Tree) (f : List t.Tree → a.Value) (x : t.Tree) (u : ℕ) (next : r.Reply) → MayFail b.failure → Stands u x
      → ((us : List t.Tree) → IsList m.store names u x us → SaysSo m names (answered b vs (f us)) next)
      → SaysSo m names (answered b vs (a.made_of f (t.elements_of x))) (s.at_end b u next (s.end_of (whole x)))
  walk_says b vs f x u next may h says_next = go (list_or_not m.store names address_end u x (omega arith) h)
    where
      go : IsNoList x ⊎ ((us : List t.Tree) × IsList m.store names u x us) → SaysSo m names (answered b vs (a.made_of f (t.elements_of x))) (s.at_end b u next (s.end_of (whole x)))
      go (inl other) =
          subst (λ o. SaysSo m names (answered b vs (a.made_of f o)) (s.at_end b u next (s.end_of (whole x)))) (sym other.none)
          (subst (λ end. SaysSo m names (failed b.failure vs) (s.at_end b u next end)) (sym other.improper) (says.failed_says m names ok table b.failure vs u may))
      go (inr (us, is)) =
          subst (λ o. SaysSo m names (answered b vs (a.made_of f o)) (s.at_end b u next (s.end_of (whole x)))) (sym is.some)
          (subst (λ end. SaysSo m names (answered b vs (f us)) (s.at_end b u next end)) (sym is.proper) (says_next us is))

  pub of_length : RowOne (inline (codes "length") 1 Badarg (a.of_list a.list_length)) Length
  of_length u x d e h =
      walk_says (inline (codes "length") 1 Badarg (a.of_list a.list_length)) (x ∷ []) a.list_length x u (r.valued Badarg u (a.exact (pos (length (s.heads m.store u (whole x)))))) tt h
      (λ us is. subst (λ n. SaysSo m names (answered (inline (codes "length") 1 Badarg (a.of_list a.list_length)) (x ∷ []) (a.list_length us)) (r.valued Badarg u (a.exact (pos n))))
      (sym (each_length (IsTreeOf m.store names) (s.heads m.store u (whole x)) us is.words))
      (says.plain_says m names ok table (inline (codes "length") 1 Badarg (a.of_list a.list_length)) (x ∷ []) (a.list_length us) u refl (exact_plain Badarg (pos (length us)))))

  pub of_to_tuple : RowOne (called (codes "list_to_tuple") 1 Badarg (ATuple 0) (a.of_list a.to_tuple)) ToTuple
  of_to_tuple u x d e h =
      walk_says (called (codes "list_to_tuple") 1 Badarg (ATuple 0) (a.of_list a.to_tuple)) (x ∷ []) a.to_tuple x u (r.tuple_made m.room m.top (s.heads m.store u (whole x))) tt h
      (λ us is. says.tuple_says m names ok table (s.heads m.store u (whole x)) us (1 + elements_in x) is.words (ap (λ n. 1 + n) is.many))

  pub of_append : RowTwo (called (codes "++") 2 Badarg AList (a.in_front (λ vs. vs))) Append
  of_append u v x y e h g =
      walk_says (called (codes "++") 2 Badarg AList (a.in_front (λ vs. vs))) (x ∷ y ∷ []) (λ vs. a.Is (t.conses vs y)) x u (r.list_made m.room m.top (reverse (s.heads m.store u (whole x))) v) tt h
      (λ us is.
      let many : elements_in x ≡ length us = is.many in
      let turned = length-reverse us in
      says.list_says m names ok table (reverse (s.heads m.store u (whole x))) (reverse us) v y (t.conses us y) (2 * elements_in x)
      (each_reverse (IsTreeOf m.store names) (s.heads m.store u (whole x)) us is.words) g (omega arith)
      (onto_reverse (reverse us) y ∙ ap (λ l. t.conses l y) (reverse-reverse us)))

  pub of_reverse : RowTwo (of_lists (codes "reverse") 2 Badarg AList (a.in_front reverse)) Reverse
  of_reverse u v x y e h g =
      walk_says (of_lists (codes "reverse") 2 Badarg AList (a.in_front reverse)) (x ∷ y ∷ []) (λ vs. a.Is (t.conses (reverse vs) y)) x u (r.list_made m.room m.top (s.heads m.store u (whole x)) v) tt h
      (λ us is.
      let many : elements_in x ≡ length us = is.many in
      says.list_says m names ok table (s.heads m.store u (whole x)) us v y (t.conses (reverse us) y) (2 * elements_in x) is.words g (omega arith) (onto_reverse us y))

  -- ---- a search in a list, which ends where the term is found

  abbrev member_built : BuiltIn
  member_built = of_lists (codes "member") 2 Badarg Nothing a.member

  found_says : (vs : List t.Tree) (rest : a.Value) (next : r.Reply) (o : Ordering) → SaysSo m names (answered member_built vs rest) next
      → SaysSo m names (answered member_built vs (if a.is_equal o then a.says true else rest)) (s.member_found next (Is o))
  found_says vs rest next Less h = h
  found_says vs rest next Equal h = says.truth_says m names ok table member_built vs true refl
  found_says vs rest next Greater h = h

  member_says : (u : ℕ) (vs : List t.Tree) (x y : t.Tree) → SaysSo m names (answered member_built vs (a.member_of x y)) (s.member_of member_built u (whole x) (whole y))
  member_says u vs x t.Nil = says.truth_says m names ok table member_built vs false refl
  member_says u vs x (t.Cons head tail) =
      subst (λ found. SaysSo m names (answered member_built vs (a.member_of x (t.Cons head tail))) (s.member_found (s.member_of member_built u (whole x) (whole tail)) found)) (sym (whole_order x head))
      (found_says vs (a.member_of x tail) (s.member_of member_built u (whole x) (whole tail)) (order x head) (member_says u vs x tail))
  member_says u vs x y = says.failed_says m names ok table Badarg vs u tt

  pub of_member : RowTwo (of_lists (codes "member") 2 Badarg Nothing a.member) Member
  of_member u v x y e h g = member_says u (x ∷ y ∷ []) x y

  -- ---- raises, and what holds of no term

  pub of_raise : (name : List ℕ) (class : RaiseClass) → RowOne (called name 1 (First class) Nothing a.none) Raises
  of_raise name class u x d e h = record { word = u; is = refl; stands = h }

  pub of_raise_two : (name : List ℕ) (class : RaiseClass) → RowTwo (called name 2 (First class) Nothing a.none) Raises
  of_raise_two name class u v x y e h g = record { word = u; is = refl; stands = h }

  pub of_never : (name : List ℕ) → RowOne (inline name 1 NoFailure (λ vs. a.says false)) Never
  of_never name u x d e h = says.truth_says m names ok table (inline name 1 NoFailure (λ vs. a.says false)) (x ∷ []) false refl
