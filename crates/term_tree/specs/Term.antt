-- A term of the code as a tree, and canonical form (Erlang reference manual, Data Types).
use Rattle.std.specs.Prelude.{Option, Some, None, Bool, true, false, ◌&&◌, ◌||◌, not, is_none, nat_lt, length}
use Rattle.std.specs.List.{list_all}
use Rattle.term_tree.specs.declared.term.Term.{Term, fold-Term}
use Rattle.term_tree.specs.declared.term.Term.TheOpen.{Term-F}
use Rattle.term_tree.specs.Small.{is_small}
use Rattle.term_tree.specs.Tree as t

-- the end of a list: `[]` where no tail is written
abbrev pub end_of : Option t.Tree → t.Tree
end_of None = t.Nil
end_of (Some tail) = tail

-- one layer of a term, each child replaced by its tree
abbrev pub layer_tree : Term-F t.Tree → t.Tree
layer_tree (Term-F.Int i) = t.Int i
layer_tree (Term-F.Atom a) = t.Atom a
layer_tree (Term-F.List all tail) = t.conses all (end_of tail)
layer_tree (Term-F.Tuple all) = t.Tuple (t.trees_of all)

abbrev pub tree_of : Term → t.Tree
tree_of x = fold-Term t.Tree layer_tree x

-- whether a term is canonical at every depth, and whether it is a list
pub record Mark : Type 0 where
  pub fine : Bool
  pub is_list : Bool

-- a tail is canonical, and no list
abbrev pub is_fine_tail : Option Mark → Bool
is_fine_tail None = true
is_fine_tail (Some tail) = tail.fine && not tail.is_list

abbrev pub layer_mark : Term-F Mark → Mark
layer_mark (Term-F.Int i) = record { fine = is_small i; is_list = false }
layer_mark (Term-F.Atom a) = record { fine = true; is_list = false }
layer_mark (Term-F.List all tail) =
    record { fine = list_all (λ m. m.fine) all && is_fine_tail tail && (is_none tail || nat_lt 0 (length all)); is_list = true }
layer_mark (Term-F.Tuple all) = record { fine = list_all (λ m. m.fine) all; is_list = false }

abbrev pub is_canonical : Term → Bool
is_canonical x = (fold-Term Mark layer_mark x).fine

abbrev pub is_list : Term → Bool
is_list x = (fold-Term Mark layer_mark x).is_list

-- what a list may end in, and the tree of that
abbrev pub is_end : Option Term → Bool
is_end None = true
is_end (Some x) = is_canonical x && not (is_list x)

abbrev pub end_tree : Option Term → t.Tree
end_tree None = t.Nil
end_tree (Some x) = tree_of x
