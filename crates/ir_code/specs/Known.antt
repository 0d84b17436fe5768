-- Whether a table has the atoms of terms and of what is mentioned (docs/FORMAT.md, Atoms).
use Rattle.std.specs.Prelude.{ℕ, ◌≡◌, Bool, true, ◌&&◌, List, Some, slice_get}
use Rattle.std.specs.List.{list_all}
use Rattle.ir_code.specs.Constants.{IsKnown}
use Rattle.ir_code.specs.Mentions.{Mention, Named, Literal}
use Rattle.tagged_words.specs.Atoms.{is_among}
use Rattle.term_tree.specs.Tree as t

abbrev mutual
  pub knows : List (List ℕ) → t.Tree → Bool
  knows names (t.Int i) = true
  knows names (t.Atom a) = is_among a names
  knows names t.Nil = true
  knows names (t.Cons head tail) = knows names head && knows names tail
  knows names (t.Tuple vs) = knows_each names vs

  pub knows_each : List (List ℕ) → t.Trees → Bool
  knows_each names t.No = true
  knows_each names (t.More v vs) = knows names v && knows_each names vs

abbrev pub knows_mention : List (List ℕ) → Mention → Bool
knows_mention names (Named a) = is_among a names
knows_mention names (Literal v) = knows names v

abbrev pub knows_all : List (List ℕ) → List Mention → Bool
knows_all names all = list_all (knows_mention names) all

-- each thing that is mentioned has its names in a table
abbrev pub AreKnown : List (List ℕ) → List Mention → Type 0
AreKnown names all = (k : ℕ) (m : Mention) → slice_get all k ≡ Some m → IsKnown names m
