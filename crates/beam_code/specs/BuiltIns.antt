-- The built-ins and the tests, as tables (docs/BEAM.md, Built-ins and Tests).
use Rattle.std.specs.Prelude.{ℕ, ◌+◌, ◌*◌, ◌&&◌, ◌||◌, pos, neg_ℤ, nat_abs, ℤ, Bool, true, false, Option, Some, None, List, [], ◌∷◌, reverse, nat_eq, slice_get, codes}
use Rattle.term_tree.specs.Name.{same_name}
use Rattle.term_tree.specs.Size.{size_of}
use Rattle.term_tree.specs.Tree as t
use Rattle.beam_code.specs.declared.call.RaiseClass.{RaiseClass}
use Rattle.beam_code.specs.declared.call.RaiseClass.TheVariants.{Error, Exit, Throw}
use Rattle.beam_code.specs.Answer as a
use Rattle.beam_code.specs.Function.{first_that}

-- what a failure raises: there can be none; one of two errors; its first argument, with this class
pub data Failure : Type 0 where
  NoFailure : Failure
  Badarith : Failure
  Badarg : Failure
  First : RaiseClass → Failure

-- the heap words that it makes: none; those of a tuple as large as this argument; two for each element of the first
pub data Making : Type 0 where
  Nothing : Making
  ATuple : ℕ → Making
  AList : Making

-- its module, name and arity; whether it may stand in `bif` and `gc_bif`; its failure; what it makes; its value
pub record BuiltIn : Type 0 where
  pub owner : List ℕ
  pub name : List ℕ
  pub arity : ℕ
  pub inline : Bool
  pub failure : Failure
  pub making : Making
  pub value : List t.Tree → a.Value

-- a built-in of `bif` and `gc_bif`; of the module erlang, in calls alone; of the module lists
abbrev pub inline : List ℕ → ℕ → Failure → (List t.Tree → a.Value) → BuiltIn
inline name arity failure value =
    record { owner = codes "erlang"; name = name; arity = arity; inline = true; failure = failure; making = Nothing; value = value }

abbrev pub called : List ℕ → ℕ → Failure → Making → (List t.Tree → a.Value) → BuiltIn
called name arity failure making value =
    record { owner = codes "erlang"; name = name; arity = arity; inline = false; failure = failure; making = making; value = value }

abbrev pub of_lists : List ℕ → ℕ → Failure → Making → (List t.Tree → a.Value) → BuiltIn
of_lists name arity failure making value =
    record { owner = codes "lists"; name = name; arity = arity; inline = false; failure = failure; making = making; value = value }

abbrev pub absolute : ℤ → ℤ
absolute i = pos (nat_abs i)

abbrev pub same : ℤ → ℤ
same i = i

-- a built-in's number is its place
abbrev pub built_ins : List BuiltIn
built_ins =
    inline (codes "+") 2 Badarith (a.of_two a.add)
    ∷ inline (codes "-") 2 Badarith (a.of_two a.subtract)
    ∷ inline (codes "*") 2 Badarith (a.of_two a.multiply)
    ∷ inline (codes "div") 2 Badarith (a.of_two a.divide)
    ∷ inline (codes "rem") 2 Badarith (a.of_two a.remainder)
    ∷ inline (codes "band") 2 Badarith (a.of_two (λ x y. a.exact (a.bits_and x y)))
    ∷ inline (codes "bor") 2 Badarith (a.of_two (λ x y. a.exact (a.bits_or x y)))
    ∷ inline (codes "bxor") 2 Badarith (a.of_two (λ x y. a.exact (a.bits_xor x y)))
    ∷ inline (codes "bsl") 2 Badarith (a.of_two a.shift_left)
    ∷ inline (codes "bsr") 2 Badarith (a.of_two a.shift_right)
    ∷ inline (codes "bnot") 1 Badarith (a.of_one a.bits_not)
    ∷ inline (codes "-") 1 Badarith (a.of_one neg_ℤ)
    ∷ inline (codes "+") 1 Badarith (a.of_one same)
    ∷ inline (codes "abs") 1 Badarg (a.of_one absolute)
    ∷ inline (codes "=:=") 2 NoFailure (λ vs. a.says (a.two_terms a.equal vs))
    ∷ inline (codes "=/=") 2 NoFailure (λ vs. a.says (a.two_terms a.unequal vs))
    ∷ inline (codes "==") 2 NoFailure (λ vs. a.says (a.two_terms a.equal vs))
    ∷ inline (codes "/=") 2 NoFailure (λ vs. a.says (a.two_terms a.unequal vs))
    ∷ inline (codes "<") 2 NoFailure (λ vs. a.says (a.two_terms a.less vs))
    ∷ inline (codes ">") 2 NoFailure (λ vs. a.says (a.two_terms a.greater vs))
    ∷ inline (codes "=<") 2 NoFailure (λ vs. a.says (a.two_terms a.not_greater vs))
    ∷ inline (codes ">=") 2 NoFailure (λ vs. a.says (a.two_terms a.not_less vs))
    ∷ inline (codes "and") 2 Badarg (a.of_truths (λ x y. x && y))
    ∷ inline (codes "or") 2 Badarg (a.of_truths (λ x y. x || y))
    ∷ inline (codes "xor") 2 Badarg (a.of_truths a.differ)
    ∷ inline (codes "not") 1 Badarg a.of_truth
    ∷ inline (codes "is_integer") 1 NoFailure (λ vs. a.says (a.is_integer vs))
    ∷ inline (codes "is_atom") 1 NoFailure (λ vs. a.says (a.is_atom vs))
    ∷ inline (codes "is_list") 1 NoFailure (λ vs. a.says (a.is_list vs))
    ∷ inline (codes "is_tuple") 1 NoFailure (λ vs. a.says (a.is_tuple vs))
    ∷ inline (codes "is_boolean") 1 NoFailure (λ vs. a.says (a.is_boolean vs))
    ∷ inline (codes "is_number") 1 NoFailure (λ vs. a.says (a.is_integer vs))
    ∷ inline (codes "hd") 1 Badarg a.head
    ∷ inline (codes "tl") 1 Badarg a.tail
    ∷ inline (codes "element") 2 Badarg a.element
    ∷ inline (codes "tuple_size") 1 Badarg a.tuple_size
    ∷ inline (codes "length") 1 Badarg (a.of_list a.list_length)
    ∷ inline (codes "min") 2 NoFailure a.least
    ∷ inline (codes "max") 2 NoFailure a.greatest
    ∷ called (codes "setelement") 3 Badarg (ATuple 1) a.set_element
    ∷ called (codes "++") 2 Badarg AList (a.in_front (λ vs. vs))
    ∷ called (codes "list_to_tuple") 1 Badarg (ATuple 0) (a.of_list a.to_tuple)
    ∷ called (codes "tuple_to_list") 1 Badarg AList a.to_list
    ∷ of_lists (codes "reverse") 2 Badarg AList (a.in_front reverse)
    ∷ of_lists (codes "member") 2 Badarg Nothing a.member
    ∷ called (codes "throw") 1 (First Throw) Nothing a.none
    ∷ called (codes "exit") 1 (First Exit) Nothing a.none
    ∷ called (codes "error") 1 (First Error) Nothing a.none
    ∷ called (codes "error") 2 (First Error) Nothing a.none
    ∷ inline (codes "is_float") 1 NoFailure (λ vs. a.says false)
    ∷ inline (codes "is_pid") 1 NoFailure (λ vs. a.says false)
    ∷ inline (codes "is_reference") 1 NoFailure (λ vs. a.says false)
    ∷ inline (codes "is_port") 1 NoFailure (λ vs. a.says false)
    ∷ inline (codes "is_binary") 1 NoFailure (λ vs. a.says false)
    ∷ inline (codes "is_bitstring") 1 NoFailure (λ vs. a.says false)
    ∷ inline (codes "is_map") 1 NoFailure (λ vs. a.says false)
    ∷ inline (codes "is_function") 1 NoFailure (λ vs. a.says false)
    ∷ []

-- the number of the built-in with these names and arity, and of the one that `bif` and `gc_bif` may name
abbrev pub is_built_in : List ℕ → List ℕ → ℕ → BuiltIn → Bool
is_built_in m f arity b = same_name m b.owner && same_name f b.name && nat_eq arity b.arity

abbrev pub built_in_number : List ℕ → List ℕ → ℕ → Option ℕ
built_in_number m f arity = first_that (is_built_in m f arity) 0 built_ins

abbrev pub is_inline : List ℕ → ℕ → BuiltIn → Bool
is_inline f arity b = b.inline && same_name f b.name && nat_eq arity b.arity

abbrev pub inline_number : List ℕ → ℕ → Option ℕ
inline_number f arity = first_that (is_inline f arity) 0 built_ins

-- what a built-in answers: a value, with the heap words that it makes; a failure; an integer that is too wide
pub data Answer : Type 0 where
  Gives : t.Tree → ℕ → Answer
  Fails : RaiseClass → t.Tree → Answer
  Bignum : Answer

-- how many elements a tuple has, or a list
abbrev pub elements_in : t.Tree → ℕ
elements_in (t.Tuple ts) = size_of ts
elements_in (t.Cons h t) = 1 + elements_in t
elements_in _ = 0

abbrev pub elements_at : Option t.Tree → ℕ
elements_at (Some v) = elements_in v
elements_at None = 0

abbrev pub words_made : Making → List t.Tree → ℕ
words_made Nothing vs = 0
words_made (ATuple at) vs = 1 + elements_at (slice_get vs at)
words_made AList vs = 2 * elements_at (slice_get vs 0)

abbrev pub first_of : List t.Tree → t.Tree
first_of [] = t.Nil
first_of (v ∷ vs) = v

abbrev pub failed : Failure → List t.Tree → Answer
failed NoFailure vs = Fails Error t.Nil
failed Badarith vs = Fails Error (t.Atom (codes "badarith"))
failed Badarg vs = Fails Error (t.Atom (codes "badarg"))
failed (First class) vs = Fails class (first_of vs)

abbrev pub answered : BuiltIn → List t.Tree → a.Value → Answer
answered b vs (a.Is v) = Gives v (words_made b.making vs)
answered b vs a.Fails = failed b.failure vs
answered b vs a.TooWide = Bignum

-- the answer of a built-in by its number; past the table there is none
abbrev pub answer_of : Option BuiltIn → List t.Tree → Answer
answer_of (Some b) vs = answered b vs (b.value vs)
answer_of None vs = Fails Error t.Nil

abbrev pub builtin : ℕ → List t.Tree → Answer
builtin k vs = answer_of (slice_get built_ins k) vs

-- a test: its name, how many terms it looks at, and whether it holds of them
pub record Test : Type 0 where
  pub name : List ℕ
  pub arity : ℕ
  pub holds : List t.Tree → Bool

abbrev pub test : List ℕ → ℕ → (List t.Tree → Bool) → Test
test name arity holds = record { name = name; arity = arity; holds = holds }

abbrev pub tests : List Test
tests =
    test (codes "is_integer") 1 a.is_integer
    ∷ test (codes "is_number") 1 a.is_integer
    ∷ test (codes "is_atom") 1 a.is_atom
    ∷ test (codes "is_nil") 1 a.is_nil
    ∷ test (codes "is_list") 1 a.is_list
    ∷ test (codes "is_nonempty_list") 1 a.is_cons
    ∷ test (codes "is_tuple") 1 a.is_tuple
    ∷ test (codes "is_boolean") 1 a.is_boolean
    ∷ test (codes "is_lt") 2 (a.two_terms a.less)
    ∷ test (codes "is_ge") 2 (a.two_terms a.not_less)
    ∷ test (codes "is_eq") 2 (a.two_terms a.equal)
    ∷ test (codes "is_ne") 2 (a.two_terms a.unequal)
    ∷ test (codes "is_eq_exact") 2 (a.two_terms a.equal)
    ∷ test (codes "is_ne_exact") 2 (a.two_terms a.unequal)
    ∷ test (codes "test_arity") 2 a.has_size
    ∷ test (codes "is_tagged_tuple") 3 a.has_first
    ∷ test (codes "is_float") 1 a.never
    ∷ test (codes "is_pid") 1 a.never
    ∷ test (codes "is_reference") 1 a.never
    ∷ test (codes "is_port") 1 a.never
    ∷ test (codes "is_binary") 1 a.never
    ∷ test (codes "is_bitstr") 1 a.never
    ∷ test (codes "is_map") 1 a.never
    ∷ test (codes "is_function") 1 a.never
    ∷ test (codes "is_function2") 2 a.never
    ∷ []

abbrev pub is_test : List ℕ → ℕ → Test → Bool
is_test name arity t = same_name name t.name && nat_eq arity t.arity

-- the number of a test, and whether it holds
abbrev pub test_number : List ℕ → ℕ → Option ℕ
test_number name arity = first_that (is_test name arity) 0 tests

abbrev pub held : Option Test → List t.Tree → Bool
held (Some t) vs = t.holds vs
held None vs = false

abbrev pub holds : ℕ → List t.Tree → Bool
holds number vs = held (slice_get tests number) vs
