-- Which terms have a text that is read back (docs/TEXT.md): how deep their brackets nest, and what their atoms are.
use Rattle.std.specs.Prelude.{ℕ, ◌+◌, ◌≤◌, max, Bool, true, ◌&&◌, List, [], ◌∷◌, Option, Some, None, IsTrue}
use Rattle.std.specs.List.{list_all}
use Rattle.term_tree.specs.declared.term.Term.{Term, fold-Term}
use Rattle.term_tree.specs.declared.term.Term.TheOpen.{Term-F}
use Rattle.term_tree.specs.Name.{is_name}
use Rattle.term_tree.specs.Term.{is_canonical}

-- whether what a list ends in passes, if it ends in something
abbrev pub end_passes : Option Bool → Bool
end_passes None = true
end_passes (Some passes) = passes

-- one layer of a term, each child replaced by its answer
abbrev pub layer_names : Term-F Bool → Bool
layer_names (Term-F.Int i) = true
layer_names (Term-F.Atom a) = is_name a
layer_names (Term-F.List all tail) = list_all (λ passes. passes) all && end_passes tail
layer_names (Term-F.Tuple all) = list_all (λ passes. passes) all

-- whether the atoms of a term are names at every depth
abbrev pub has_names : Term → Bool
has_names x = fold-Term Bool layer_names x

-- the greatest of these numbers, 0 where there are none
abbrev pub deepest : List ℕ → ℕ
deepest [] = 0
deepest (n ∷ ns) = max n (deepest ns)

abbrev pub end_depth : Option ℕ → ℕ
end_depth None = 0
end_depth (Some n) = n

-- one layer of a term, each child replaced by its depth: brackets are one more than the deepest part
abbrev pub layer_depth : Term-F ℕ → ℕ
layer_depth (Term-F.Int i) = 0
layer_depth (Term-F.Atom a) = 0
layer_depth (Term-F.List all tail) = 1 + max (deepest all) (end_depth tail)
layer_depth (Term-F.Tuple all) = 1 + deepest all

-- how deep the brackets of a term nest
abbrev pub depth_of : Term → ℕ
depth_of x = fold-Term ℕ layer_depth x

-- a canonical term whose atoms are names and whose brackets nest at most so deep
pub record IsPrintable (most : ℕ) (x : Term) : Type 0 where
  pub canonical : IsTrue (is_canonical x)
  pub names : IsTrue (has_names x)
  pub depth : depth_of x ≤ most
