-- Values of built-ins and tests on terms (Erlang reference manual, Expressions; the module erlang): integers are exact.
use Rattle.std.specs.Prelude.{ℕ, suc, ◌+◌, ◌-◌, ◌/◌, ◌^◌, ◌&&◌, ◌||◌, not, ℤ, pos, negsuc, ◌+ℤ◌, ◌-ℤ◌, ◌*ℤ◌, int_div, int_rem, Bool, true, false, Option, Some, None, List, [], ◌∷◌, length, nat_eq, nat_lt, nat_le, slice_get, slice_set, bit_and, bit_or, bit_xor, if◌then◌else◌, codes}
use Rattle.std.specs.declared.cmp.Ordering.{Ordering}
use Rattle.std.specs.declared.cmp.Ordering.TheVariants as o
use Rattle.term_tree.specs.Name.{same_name}
use Rattle.term_tree.specs.Order.{order}
use Rattle.term_tree.specs.Size.{size_of}
use Rattle.term_tree.specs.Small.{is_small}
use Rattle.term_tree.specs.Tree.{Tree, Int, Atom, Nil, Cons, Tuple, More, conses, trees_of, list_of, elements_of}

-- a value; none, which is a failure; an integer that is too wide
pub data Value : Type 0 where
  Is : Tree → Value
  Fails : Value
  TooWide : Value

abbrev pub exact : ℤ → Value
exact i = if is_small i then Is (Int i) else TooWide

abbrev pub truth : Bool → Tree
truth true = Atom (codes "true")
truth false = Atom (codes "false")

abbrev pub says : Bool → Value
says b = Is (truth b)

-- the truth that an atom names
abbrev pub truth_named : List ℕ → Option Bool
truth_named a = if same_name a (codes "true") then Some true else if same_name a (codes "false") then Some false else None

abbrev pub truth_of : Tree → Option Bool
truth_of (Atom a) = truth_named a
truth_of _ = None

-- the order of two terms

abbrev pub is_less : Ordering → Bool
is_less o.Less = true
is_less _ = false

abbrev pub is_equal : Ordering → Bool
is_equal o.Equal = true
is_equal _ = false

abbrev pub less : Tree → Tree → Bool
less a b = is_less (order a b)

abbrev pub equal : Tree → Tree → Bool
equal a b = is_equal (order a b)

-- arithmetic

abbrev pub is_zero : ℤ → Bool
is_zero (pos n) = nat_eq n 0
is_zero (negsuc n) = false

abbrev pub add : ℤ → ℤ → Value
add a b = exact (a +ℤ b)

abbrev pub subtract : ℤ → ℤ → Value
subtract a b = exact (a -ℤ b)

abbrev pub multiply : ℤ → ℤ → Value
multiply a b = exact (a *ℤ b)

-- towards zero
abbrev pub divide : ℤ → ℤ → Value
divide a b = if is_zero b then Fails else exact (int_div a b)

abbrev pub remainder : ℤ → ℤ → Value
remainder a b = if is_zero b then Fails else exact (int_rem a b)

-- bits of two's complement without end: those of `negsuc n` are those of n, each the other one

abbrev pub bits_and : ℤ → ℤ → ℤ
bits_and (pos a) (pos b) = pos (bit_and a b)
bits_and (pos a) (negsuc b) = pos (a - bit_and a b)
bits_and (negsuc a) (pos b) = pos (b - bit_and a b)
bits_and (negsuc a) (negsuc b) = negsuc (bit_or a b)

abbrev pub bits_or : ℤ → ℤ → ℤ
bits_or (pos a) (pos b) = pos (bit_or a b)
bits_or (pos a) (negsuc b) = negsuc (b - bit_and a b)
bits_or (negsuc a) (pos b) = negsuc (a - bit_and a b)
bits_or (negsuc a) (negsuc b) = negsuc (bit_and a b)

abbrev pub bits_xor : ℤ → ℤ → ℤ
bits_xor (pos a) (pos b) = pos (bit_xor a b)
bits_xor (pos a) (negsuc b) = negsuc (bit_xor a b)
bits_xor (negsuc a) (pos b) = negsuc (bit_xor a b)
bits_xor (negsuc a) (negsuc b) = pos (bit_xor a b)

abbrev pub bits_not : ℤ → ℤ
bits_not (pos n) = negsuc n
bits_not (negsuc n) = pos n

-- to the left by so many bits: past 27 no integer but 0 stays small, so the count alone decides
abbrev pub left_by : ℕ → ℤ → Value
left_by n a = if is_zero a then Is (Int a) else elim (nat_lt n 28) [ true ↦ exact (a *ℤ pos (2 ^ n)) | false ↦ TooWide ]

-- to the right by so many bits: downwards, and past all bits of an integer 0 or -1 is left
abbrev pub halved : ℕ → ℕ → ℕ
halved n a = elim (nat_le a n) [ true ↦ 0 | false ↦ a / 2 ^ n ]

abbrev pub right_by : ℕ → ℤ → Value
right_by n (pos a) = exact (pos (halved n a))
right_by n (negsuc a) = exact (negsuc (halved n a))

-- a count below 0 is the other shift
abbrev pub shift_left : ℤ → ℤ → Value
shift_left a (pos n) = left_by n a
shift_left a (negsuc n) = right_by (n + 1) a

abbrev pub shift_right : ℤ → ℤ → Value
shift_right a (pos n) = right_by n a
shift_right a (negsuc n) = left_by (n + 1) a

-- functions of integers and of truths, where the arguments are such

abbrev pub of_two : (ℤ → ℤ → Value) → List Tree → Value
of_two f (Int a ∷ Int b ∷ []) = f a b
of_two f _ = Fails

abbrev pub of_one : (ℤ → ℤ) → List Tree → Value
of_one f (Int a ∷ []) = exact (f a)
of_one f _ = Fails

abbrev pub both_true : (Bool → Bool → Bool) → Option Bool → Option Bool → Value
both_true f (Some a) (Some b) = says (f a b)
both_true f _ _ = Fails

abbrev pub of_truths : (Bool → Bool → Bool) → List Tree → Value
of_truths f (a ∷ b ∷ []) = both_true f (truth_of a) (truth_of b)
of_truths f _ = Fails

abbrev pub other : Option Bool → Value
other (Some b) = says (not b)
other None = Fails

abbrev pub of_truth : List Tree → Value
of_truth (a ∷ []) = other (truth_of a)
of_truth _ = Fails

abbrev pub differ : Bool → Bool → Bool
differ a b = if a then not b else b

-- what holds of terms: these are the tests, and built-ins that say so

abbrev pub is_integer : List Tree → Bool
is_integer (Int i ∷ []) = true
is_integer _ = false

abbrev pub is_atom : List Tree → Bool
is_atom (Atom a ∷ []) = true
is_atom _ = false

abbrev pub is_nil : List Tree → Bool
is_nil (Nil ∷ []) = true
is_nil _ = false

abbrev pub is_cons : List Tree → Bool
is_cons (Cons h t ∷ []) = true
is_cons _ = false

abbrev pub is_list : List Tree → Bool
is_list vs = is_nil vs || is_cons vs

abbrev pub is_tuple : List Tree → Bool
is_tuple (Tuple ts ∷ []) = true
is_tuple _ = false

abbrev pub is_truth : Option Bool → Bool
is_truth (Some b) = true
is_truth None = false

abbrev pub is_boolean : List Tree → Bool
is_boolean (v ∷ []) = is_truth (truth_of v)
is_boolean _ = false

abbrev pub two_terms : (Tree → Tree → Bool) → List Tree → Bool
two_terms test (a ∷ b ∷ []) = test a b
two_terms test _ = false

abbrev pub not_less : Tree → Tree → Bool
not_less a b = not (less a b)

abbrev pub greater : Tree → Tree → Bool
greater a b = less b a

abbrev pub not_greater : Tree → Tree → Bool
not_greater a b = not (less b a)

abbrev pub unequal : Tree → Tree → Bool
unequal a b = not (equal a b)

-- a tuple of this size; and with this first element
abbrev pub has_size : List Tree → Bool
has_size (Tuple ts ∷ Int (pos n) ∷ []) = nat_eq (size_of ts) n
has_size _ = false

abbrev pub has_first : List Tree → Bool
has_first (Tuple (More t ts) ∷ Int (pos n) ∷ Atom a ∷ []) = nat_eq (size_of (More t ts)) n && equal t (Atom a)
has_first _ = false

abbrev pub never : List Tree → Bool
never vs = false

-- lists and tuples

abbrev pub head : List Tree → Value
head (Cons h t ∷ []) = Is h
head _ = Fails

abbrev pub tail : List Tree → Value
tail (Cons h t ∷ []) = Is t
tail _ = Fails

abbrev pub found : Option Tree → Value
found (Some v) = Is v
found None = Fails

-- the place of an index from 1
abbrev pub element : List Tree → Value
element (Int (pos (suc n)) ∷ Tuple ts ∷ []) = found (slice_get (list_of ts) n)
element _ = Fails

abbrev pub set_at : List Tree → ℕ → Tree → Value
set_at vs n v = if nat_lt n (length vs) then Is (Tuple (trees_of (slice_set vs n v))) else Fails

abbrev pub set_element : List Tree → Value
set_element (Int (pos (suc n)) ∷ Tuple ts ∷ v ∷ []) = set_at (list_of ts) n v
set_element _ = Fails

abbrev pub tuple_size : List Tree → Value
tuple_size (Tuple ts ∷ []) = exact (pos (size_of ts))
tuple_size _ = Fails

-- what is made of a list that ends in `[]`
abbrev pub made_of : (List Tree → Value) → Option (List Tree) → Value
made_of f (Some vs) = f vs
made_of f None = Fails

abbrev pub of_list : (List Tree → Value) → List Tree → Value
of_list f (v ∷ []) = made_of f (elements_of v)
of_list f _ = Fails

abbrev pub in_front : (List Tree → List Tree) → List Tree → Value
in_front f (v ∷ end ∷ []) = made_of (λ vs. Is (conses (f vs) end)) (elements_of v)
in_front f _ = Fails

abbrev pub list_length : List Tree → Value
list_length vs = exact (pos (length vs))

abbrev pub to_tuple : List Tree → Value
to_tuple vs = Is (Tuple (trees_of vs))

abbrev pub to_list : List Tree → Value
to_list (Tuple ts ∷ []) = Is (conses (list_of ts) Nil)
to_list _ = Fails

-- whether a term is among the elements; an end that is not `[]` is a failure where it is reached
abbrev pub member_of : Tree → Tree → Value
member_of v Nil = says false
member_of v (Cons h t) = if equal v h then says true else member_of v t
member_of v _ = Fails

abbrev pub member : List Tree → Value
member (v ∷ list ∷ []) = member_of v list
member _ = Fails

-- the first of two that is not greater, or not less
abbrev pub least : List Tree → Value
least (a ∷ b ∷ []) = Is (if less b a then b else a)
least _ = Fails

abbrev pub greatest : List Tree → Value
greatest (a ∷ b ∷ []) = Is (if less a b then b else a)
greatest _ = Fails

abbrev pub none : List Tree → Value
none vs = Fails
