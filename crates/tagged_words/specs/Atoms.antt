-- Tables of atoms by number, and the atoms that the machine itself makes (docs/FORMAT.md, Atoms).
use Rattle.std.specs.Prelude.{ℕ, ◌≡◌, ◌≤◌, Bool, true, false, ◌&&◌, List, [], ◌∷◌, ◌++◌, codes, length}
use Rattle.std.specs.List.{list_any}
use Rattle.term_tree.specs.Name.{same_name}
use Rattle.tagged_words.specs.declared.addresses.TheConstants.{MOST_ATOM_NUMBERS}
use Rattle.tagged_words.specs.Follow.{Follow}

abbrev pub first_atoms : List (List ℕ)
first_atoms =
    codes "error" ∷ codes "exit" ∷ codes "throw" ∷ codes "EXIT" ∷ codes "true" ∷ codes "false" ∷ codes "badarith" ∷ codes "badarg"
    ∷ codes "function_clause" ∷ codes "if_clause" ∷ codes "undef" ∷ codes "badmatch" ∷ codes "case_clause" ∷ codes "try_clause" ∷ []

-- whether a table begins with these names
abbrev pub begins : List (List ℕ) → List (List ℕ) → Bool
begins [] table = true
begins (r ∷ rs) [] = false
begins (r ∷ rs) (a ∷ table) = same_name r a && begins rs table

-- whether a name is one of these
abbrev pub is_among : List ℕ → List (List ℕ) → Bool
is_among name names = list_any (same_name name) names

-- a name is none of the earlier ones
abbrev pub IsNew : List (List ℕ) → List ℕ → Type 0
IsNew earlier name = is_among name earlier ≡ false

abbrev pub and_atom : List (List ℕ) → List ℕ → List (List ℕ)
and_atom earlier name = earlier ++ name ∷ []

-- names by number: the machine's own first, no name twice, and no more than the words of atoms have numbers
pub record IsTable (names : List (List ℕ)) : Type 0 where
  pub first : begins first_atoms names ≡ true
  pub distinct : Follow IsNew and_atom [] names
  pub few : length names ≤ MOST_ATOM_NUMBERS
