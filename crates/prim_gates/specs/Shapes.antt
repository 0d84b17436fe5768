-- The built-ins by what they look at (docs/MACHINE.md, Built-ins on words): arguments from left to right, and no further than where a
-- failure is decided.
use Rattle.std.specs.Prelude.{ℕ, suc, ◌+◌, ◌-◌, ◌*◌, ℤ, pos, Bool, true, false, not, List, [], ◌∷◌, reverse, slice_set, nat_lt, if◌then◌else◌}
use Rattle.std.specs.declared.cmp.Ordering.{Ordering}
use Rattle.std.specs.declared.cmp.Ordering.TheVariants.{Equal}
use Rattle.beam_code.specs.Answer as a
use Rattle.beam_code.specs.BuiltIns.{BuiltIn}
use Rattle.tagged_words.specs.Seen.{Seen, AllSeen, Int, Atom, Nil, Cons, Tuple, Bad, No, More, seen_size}
use Rattle.tagged_words.specs.Store.{Store}
use Rattle.tagged_words.specs.Word.{nil_word}
use Rattle.term_tree.specs.Tree as t
use Rattle.word_walks.specs.Compared.{Found, Is, Meets, compared}
use Rattle.prim_gates.specs.Reply.{Reply, Value, Fault, Argument, says, raised, valued, list_made, tuple_made, read, reads}

-- a term as far as it shows by itself: a cell has nothing in it
abbrev pub blanks : AllSeen → t.Trees
blanks No = t.No
blanks (More v vs) = t.More t.Nil (blanks vs)

abbrev pub shown : Seen → t.Tree
shown (Int i) = t.Int i
shown (Atom name) = t.Atom name
shown Nil = t.Nil
shown (Cons head tail) = t.Cons t.Nil t.Nil
shown (Tuple vs) = t.Tuple (blanks vs)
shown (Bad w) = t.Nil

-- an argument is looked at: a word that stands for no term is a fault
abbrev pub look_then : Seen → Reply → Reply
look_then (Bad w) next = Fault w
look_then v next = next

abbrev pub is_integer : Seen → Bool
is_integer (Int i) = true
is_integer v = false

abbrev pub is_truth : Seen → Bool
is_truth v = a.is_boolean (shown v ∷ [])

-- one argument alone is looked at, or two where the first is of the kind that is wanted
abbrev pub of_one : BuiltIn → Argument → Reply
of_one b x = look_then x.seen (valued b.failure x.word (b.value (shown x.seen ∷ [])))

abbrev pub of_two : (Seen → Bool) → BuiltIn → Argument → Argument → Reply
of_two wanted b x y =
    look_then x.seen (if wanted x.seen then look_then y.seen (valued b.failure x.word (b.value (shown x.seen ∷ shown y.seen ∷ []))) else raised b.failure x.word)

-- two terms are compared
abbrev pub on_order : (Ordering → Reply) → Found → Reply
on_order next (Is o) = next o
on_order next (Meets w) = Fault w

abbrev pub of_order : (Ordering → Bool) → Argument → Argument → Reply
of_order test x y = on_order (λ o. says (test o)) (compared x.seen y.seen)

-- the first of two, unless a test says the second
abbrev pub of_either : (Ordering → Bool) → Argument → Argument → Reply
of_either takes_second x y = on_order (λ o. Value (if takes_second o then y.word else x.word) []) (compared x.seen y.seen)

abbrev pub is_not_less : Ordering → Bool
is_not_less o = not (a.is_less o)

abbrev pub is_unequal : Ordering → Bool
is_unequal o = not (a.is_equal o)

abbrev pub is_not_greater : Ordering → Bool
is_not_greater o = if a.is_less o then true else a.is_equal o

abbrev pub is_greater : Ordering → Bool
is_greater o = not (is_not_greater o)

-- the word of a cons at an offset: 0 for the head, 4 for the tail
abbrev pub part_of : Store → BuiltIn → ℕ → ℕ → Seen → Reply
part_of s b offset w (Bad v) = Fault v
part_of s b offset w (Cons head tail) = Value (read s (w - 1 + offset)) []
part_of s b offset w v = raised b.failure w

-- an element of a tuple, by an index from 1
abbrev pub element_of : Store → BuiltIn → ℤ → ℕ → ℕ → Seen → Reply
element_of s b i first tuple (Bad v) = Fault v
element_of s b (pos (suc i)) first tuple (Tuple vs) = if nat_lt i (seen_size vs) then Value (read s (tuple - 2 + 4 * (i + 1))) [] else raised b.failure first
element_of s b i first tuple v = raised b.failure first

abbrev pub at_index : BuiltIn → ℕ → (ℤ → Reply) → Seen → Reply
at_index b first next (Bad v) = Fault v
at_index b first next (Int i) = next i
at_index b first next v = raised b.failure first

-- a tuple with another element at an index from 1
abbrev pub with_element : Store → BuiltIn → ℕ → ℕ → ℤ → ℕ → ℕ → Seen → ℕ → Reply
with_element s b room top i first tuple (Bad v) new = Fault v
with_element s b room top (pos (suc i)) first tuple (Tuple vs) new =
    if nat_lt i (seen_size vs) then tuple_made room top (slice_set (reads s (tuple + 2) (seen_size vs)) i new) else raised b.failure first
with_element s b room top i first tuple v new = raised b.failure first

-- the elements of a tuple as a list
abbrev pub tuple_list : Store → BuiltIn → ℕ → ℕ → ℕ → Seen → Reply
tuple_list s b room top w (Bad v) = Fault v
tuple_list s b room top w (Tuple vs) = list_made room top (reverse (reads s (w + 2) (seen_size vs))) nil_word
tuple_list s b room top w v = raised b.failure w

-- the heads of a list, by their words; a tail is looked at, a head is not
abbrev pub heads : Store → ℕ → Seen → List ℕ
heads s w (Cons head tail) = read s (w - 1) ∷ heads s (read s (w + 3)) tail
heads s w v = []

-- how a list ends: in `[]`, in another term, or in a word that stands for none
pub data End : Type 0 where
  Proper : End
  Improper : End
  Met : ℕ → End

abbrev pub end_of : Seen → End
end_of (Cons head tail) = end_of tail
end_of Nil = Proper
end_of (Bad v) = Met v
end_of v = Improper

-- what is done with a list that ends in `[]`
abbrev pub at_end : BuiltIn → ℕ → Reply → End → Reply
at_end b first next Proper = next
at_end b first next Improper = raised b.failure first
at_end b first next (Met v) = Fault v

abbrev pub of_list : BuiltIn → Argument → Reply → Reply
of_list b x next = at_end b x.word next (end_of x.seen)

-- whether a term is an element: each head is compared before its tail is looked at
abbrev pub member_found : Reply → Found → Reply
member_found rest (Is Equal) = says true
member_found rest (Is o) = rest
member_found rest (Meets w) = Fault w

abbrev pub member_of : BuiltIn → ℕ → Seen → Seen → Reply
member_of b first v (Cons head tail) = member_found (member_of b first v tail) (compared v head)
member_of b first v Nil = says false
member_of b first v (Bad w) = Fault w
member_of b first v other = raised b.failure first
