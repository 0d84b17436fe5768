-- Terms as trees (Erlang reference manual, Data Types): what all meanings speak of.
use Rattle.std.specs.Prelude.{ℕ, ℤ, List, [], ◌∷◌, Option, Some, None}
use Rattle.std.specs.Option.{option_map}

-- an atom has the bytes of its name in UTF-8; a list is made of conses
mutual
  pub data Tree : Type 0 where
    Int : ℤ → Tree
    Atom : List ℕ → Tree
    Nil : Tree
    Cons : Tree → Tree → Tree
    Tuple : Trees → Tree

  pub data Trees : Type 0 where
    No : Trees
    More : Tree → Trees → Trees

-- the elements of a tuple
abbrev pub trees_of : List Tree → Trees
trees_of [] = No
trees_of (t ∷ ts) = More t (trees_of ts)

abbrev pub list_of : Trees → List Tree
list_of No = []
list_of (More t ts) = t ∷ list_of ts

-- these elements in front of this tail
abbrev pub conses : List Tree → Tree → Tree
conses [] end = end
conses (t ∷ ts) end = Cons t (conses ts end)

-- the elements of a list that ends in `[]`
abbrev pub elements_of : Tree → Option (List Tree)
elements_of Nil = Some []
elements_of (Cons h t) = option_map (λ ts. h ∷ ts) (elements_of t)
elements_of _ = None
