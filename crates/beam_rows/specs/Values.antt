-- Values of built-ins, worked by hand (docs/BEAM.md, Built-ins).
use Rattle.std.specs.Prelude.{ℕ, List, [], ◌∷◌, codes}
use Rattle.beam_code.specs.declared.call.RaiseClass.TheVariants.{Error, Exit, Throw}
use Rattle.beam_code.specs.State.{Returned, Raised}
use Rattle.term_tree.specs.Tree as t
use Rattle.beam_rows.specs.Hand.{atom, int}
use Rattle.beam_rows.specs.Small.{Answers, CallsIn, CallsTo, Computes, Fails, Fills, IsTooWide, Refuses, limited, list, minus, nay, tuple, yes}

-- `minus n` is -(n + 1)
abbrev pub Sums : Type 0
Sums =
    Computes (codes "+") (int 134217726 ∷ int 1 ∷ []) (int 134217727)
    × IsTooWide (codes "+") (int 134217727 ∷ int 1 ∷ [])
    × Computes (codes "-") (minus 134217726 ∷ int 1 ∷ []) (minus 134217727)
    × IsTooWide (codes "-") (minus 134217727 ∷ int 1 ∷ [])
    × Computes (codes "*") (minus 6 ∷ int 6 ∷ []) (minus 41)
    × IsTooWide (codes "*") (int 134217727 ∷ int 134217727 ∷ [])
    × Refuses (codes "+") (atom (codes "a") ∷ int 1 ∷ []) (codes "badarith")
    × IsTooWide (codes "-") (minus 134217727 ∷ [])
    × Computes (codes "+") (minus 4 ∷ []) (minus 4)
    × Computes (codes "abs") (minus 4 ∷ []) (int 5)
    × Refuses (codes "abs") (t.Nil ∷ []) (codes "badarg")

-- towards zero, and a remainder with the sign of the first
abbrev pub Quotients : Type 0
Quotients =
    Computes (codes "div") (minus 6 ∷ int 2 ∷ []) (minus 2)
    × Computes (codes "rem") (minus 6 ∷ int 2 ∷ []) (minus 0)
    × Computes (codes "div") (int 7 ∷ minus 1 ∷ []) (minus 2)
    × Computes (codes "rem") (int 7 ∷ minus 1 ∷ []) (int 1)
    × IsTooWide (codes "div") (minus 134217727 ∷ minus 0 ∷ [])
    × Refuses (codes "div") (int 1 ∷ int 0 ∷ []) (codes "badarith")
    × Refuses (codes "rem") (int 1 ∷ int 0 ∷ []) (codes "badarith")

-- 204 and -52 end in 11001100, 170 and -86 in 10101010: every two bits meet
abbrev pub bits : List ℕ → t.Tree → t.Tree → t.Tree → t.Tree → Type 0
bits f plus_plus plus_minus minus_plus minus_minus =
    Computes f (int 204 ∷ int 170 ∷ []) plus_plus
    × Computes f (int 204 ∷ minus 85 ∷ []) plus_minus
    × Computes f (minus 51 ∷ int 170 ∷ []) minus_plus
    × Computes f (minus 51 ∷ minus 85 ∷ []) minus_minus

-- 10001000 is 136 or -120, 11101110 is 238 or -18, 01100110 is 102 or -154
abbrev pub BitsOfSigns : Type 0
BitsOfSigns =
    bits (codes "band") (int 136) (int 136) (int 136) (minus 119)
    × bits (codes "bor") (int 238) (minus 17) (minus 17) (minus 17)
    × bits (codes "bxor") (int 102) (minus 153) (minus 153) (int 102)
    × Computes (codes "bnot") (minus 51 ∷ []) (int 51)

abbrev pub Bits : Type 0
Bits =
    Computes (codes "band") (minus 5 ∷ int 12 ∷ []) (int 8)
    × Computes (codes "band") (minus 5 ∷ minus 3 ∷ []) (minus 7)
    × Computes (codes "bor") (int 5 ∷ minus 7 ∷ []) (minus 2)
    × Computes (codes "bxor") (minus 0 ∷ int 5 ∷ []) (minus 5)
    × Computes (codes "bnot") (int 5 ∷ []) (minus 5)
    × Refuses (codes "bnot") (atom (codes "a") ∷ []) (codes "badarith")

-- by great counts too
abbrev pub Shifts : Type 0
Shifts =
    Computes (codes "bsl") (int 1 ∷ int 26 ∷ []) (int 67108864)
    × IsTooWide (codes "bsl") (int 1 ∷ int 27 ∷ [])
    × Computes (codes "bsl") (minus 0 ∷ int 27 ∷ []) (minus 134217727)
    × IsTooWide (codes "bsl") (int 1 ∷ int 134217727 ∷ [])
    × Computes (codes "bsl") (int 0 ∷ int 134217727 ∷ []) (int 0)
    × IsTooWide (codes "bsr") (int 1 ∷ minus 134217727 ∷ [])
    × Computes (codes "bsr") (int 5 ∷ int 134217727 ∷ []) (int 0)
    × Computes (codes "bsr") (minus 4 ∷ int 134217727 ∷ []) (minus 0)
    × Computes (codes "bsl") (minus 4 ∷ minus 134217727 ∷ []) (minus 0)
    × Computes (codes "bsr") (minus 4 ∷ int 1 ∷ []) (minus 2)
    × Computes (codes "bsl") (minus 4 ∷ minus 0 ∷ []) (minus 2)
    × Computes (codes "bsr") (int 3 ∷ minus 1 ∷ []) (int 12)

abbrev pub Comparisons : Type 0
Comparisons =
    Computes (codes "<") (int 1 ∷ atom (codes "a") ∷ []) yes
    × Computes (codes "<") (tuple (int 1 ∷ []) ∷ t.Nil ∷ []) yes
    × Computes (codes ">=") (t.Nil ∷ list (int 1 ∷ []) ∷ []) nay
    × Computes (codes ">") (int 2 ∷ int 1 ∷ []) yes
    × Computes (codes "=<") (int 2 ∷ int 1 ∷ []) nay
    × Computes (codes "=:=") (tuple (int 1 ∷ []) ∷ tuple (int 1 ∷ []) ∷ []) yes
    × Computes (codes "/=") (int 1 ∷ int 1 ∷ []) nay
    × Computes (codes "min") (int 2 ∷ int 1 ∷ []) (int 1)
    × Computes (codes "max") (int 2 ∷ atom (codes "a") ∷ []) (atom (codes "a"))
    × Computes (codes "and") (yes ∷ nay ∷ []) nay
    × Computes (codes "xor") (yes ∷ nay ∷ []) yes
    × Refuses (codes "or") (yes ∷ int 1 ∷ []) (codes "badarg")
    × Computes (codes "is_boolean") (yes ∷ []) yes
    × Computes (codes "is_number") (yes ∷ []) nay

-- arguments of which a built-in is true, and of which it is not
abbrev pub Decides : List ℕ → List t.Tree → List t.Tree → Type 0
Decides f one other = Computes f one yes × Computes f other nay

abbrev pub Decisions : Type 0
Decisions =
    Decides (codes "=:=") (list (yes ∷ []) ∷ list (yes ∷ []) ∷ []) (int 1 ∷ int 2 ∷ [])
    × Decides (codes "=/=") (int 1 ∷ int 2 ∷ []) (tuple (int 1 ∷ []) ∷ tuple (int 1 ∷ []) ∷ [])
    × Decides (codes "==") (tuple (int 1 ∷ []) ∷ tuple (int 1 ∷ []) ∷ []) (int 1 ∷ yes ∷ [])
    × Decides (codes "/=") (t.Nil ∷ tuple [] ∷ []) (yes ∷ yes ∷ [])
    × Decides (codes "<") (int 1 ∷ int 2 ∷ []) (int 1 ∷ int 1 ∷ [])
    × Decides (codes ">") (yes ∷ int 2 ∷ []) (int 1 ∷ int 1 ∷ [])
    × Decides (codes "=<") (int 1 ∷ int 1 ∷ []) (t.Nil ∷ tuple [] ∷ [])
    × Decides (codes ">=") (int 1 ∷ int 1 ∷ []) (tuple [] ∷ t.Nil ∷ [])
    × Decides (codes "and") (yes ∷ yes ∷ []) (nay ∷ yes ∷ [])
    × Decides (codes "or") (nay ∷ yes ∷ []) (nay ∷ nay ∷ [])
    × Decides (codes "xor") (nay ∷ yes ∷ []) (yes ∷ yes ∷ [])
    × Decides (codes "not") (nay ∷ []) (yes ∷ [])
    × Decides (codes "is_integer") (minus 0 ∷ []) (yes ∷ [])
    × Decides (codes "is_atom") (yes ∷ []) (t.Nil ∷ [])
    × Decides (codes "is_list") (t.Cons (int 1) (int 2) ∷ []) (tuple [] ∷ [])
    × Decides (codes "is_tuple") (tuple [] ∷ []) (t.Nil ∷ [])
    × Decides (codes "is_boolean") (nay ∷ []) (atom (codes "a") ∷ [])
    × Decides (codes "is_number") (int 1 ∷ []) (t.Nil ∷ [])

-- there are no such terms
abbrev pub never : List ℕ → Type 0
never f = Computes f (int 1 ∷ []) nay × Computes f (tuple (yes ∷ []) ∷ []) nay

abbrev pub Never : Type 0
Never =
    never (codes "is_float")
    × never (codes "is_pid")
    × never (codes "is_reference")
    × never (codes "is_port")
    × never (codes "is_binary")
    × never (codes "is_bitstring")
    × never (codes "is_map")
    × never (codes "is_function")

abbrev pub Parts : Type 0
Parts =
    Computes (codes "hd") (list (int 1 ∷ int 2 ∷ []) ∷ []) (int 1)
    × Refuses (codes "tl") (t.Nil ∷ []) (codes "badarg")
    × Computes (codes "element") (int 2 ∷ tuple (int 5 ∷ int 6 ∷ []) ∷ []) (int 6)
    × Refuses (codes "element") (int 3 ∷ tuple (int 5 ∷ int 6 ∷ []) ∷ []) (codes "badarg")
    × Refuses (codes "element") (int 0 ∷ tuple (int 5 ∷ int 6 ∷ []) ∷ []) (codes "badarg")
    × Refuses (codes "element") (minus 0 ∷ tuple (int 5 ∷ []) ∷ []) (codes "badarg")
    × Computes (codes "tuple_size") (tuple [] ∷ []) (int 0)
    × Computes (codes "length") (list (int 1 ∷ int 2 ∷ []) ∷ []) (int 2)
    × Refuses (codes "length") (t.Cons (int 1) (int 2) ∷ []) (codes "badarg")

-- those that are called alone
abbrev pub Made : Type 0
Made =
    Answers (codes "++") (list (int 1 ∷ int 2 ∷ []) ∷ int 3 ∷ []) (t.Cons (int 1) (t.Cons (int 2) (int 3)))
    × Fails (codes "++") (t.Cons (int 1) (int 2) ∷ t.Nil ∷ []) (codes "badarg")
    × Answers (codes "setelement") (int 1 ∷ tuple (int 5 ∷ int 6 ∷ []) ∷ int 7 ∷ []) (tuple (int 7 ∷ int 6 ∷ []))
    × Answers (codes "setelement") (int 2 ∷ tuple (int 5 ∷ int 6 ∷ []) ∷ int 7 ∷ []) (tuple (int 5 ∷ int 7 ∷ []))
    × Fails (codes "setelement") (int 3 ∷ tuple (int 5 ∷ int 6 ∷ []) ∷ int 7 ∷ []) (codes "badarg")
    × Fails (codes "setelement") (int 0 ∷ tuple (int 5 ∷ int 6 ∷ []) ∷ int 7 ∷ []) (codes "badarg")
    × Answers (codes "list_to_tuple") (list (int 1 ∷ int 2 ∷ []) ∷ []) (tuple (int 1 ∷ int 2 ∷ []))
    × Answers (codes "tuple_to_list") (tuple (int 1 ∷ int 2 ∷ []) ∷ []) (list (int 1 ∷ int 2 ∷ []))
    × CallsTo (codes "lists") (codes "reverse") (list (int 1 ∷ int 2 ∷ []) ∷ int 3 ∷ []) (Returned (t.Cons (int 2) (t.Cons (int 1) (int 3))))
    × CallsTo (codes "lists") (codes "member") (int 2 ∷ t.Cons (int 1) (t.Cons (int 2) (int 3)) ∷ []) (Returned yes)
    × CallsTo (codes "lists") (codes "member") (int 4 ∷ t.Cons (int 1) (int 2) ∷ []) (Raised Error (atom (codes "badarg")))
    × Answers (codes "is_map") (t.Nil ∷ []) nay

-- the words that are made beside those of the arguments; a failure comes before the heap is asked
abbrev pub three : List t.Tree
three = int 5 ∷ int 6 ∷ int 7 ∷ []

abbrev pub WordsMade : Type 0
WordsMade =
    Fills (codes "setelement") (int 2 ∷ tuple three ∷ yes ∷ []) 7 (tuple (int 5 ∷ yes ∷ int 7 ∷ []))
    × Fills (codes "list_to_tuple") (list three ∷ []) 9 (tuple three)
    × Fills (codes "list_to_tuple") (t.Nil ∷ []) 0 (tuple [])
    × Fills (codes "tuple_to_list") (tuple three ∷ []) 9 (list three)
    × Fills (codes "++") (list (int 1 ∷ int 2 ∷ []) ∷ t.Nil ∷ []) 7 (list (int 1 ∷ int 2 ∷ []))
    × CallsIn (limited 1 4 9) (codes "erlang") (codes "setelement") (int 4 ∷ tuple three ∷ yes ∷ []) (Raised Error (atom (codes "badarg")))

abbrev pub OnlyRaised : Type 0
OnlyRaised =
    CallsTo (codes "erlang") (codes "throw") (int 1 ∷ []) (Raised Throw (int 1))
    × CallsTo (codes "erlang") (codes "exit") (int 1 ∷ []) (Raised Exit (int 1))
    × CallsTo (codes "erlang") (codes "error") (int 1 ∷ []) (Raised Error (int 1))
    × CallsTo (codes "erlang") (codes "error") (int 1 ∷ t.Nil ∷ []) (Raised Error (int 1))
