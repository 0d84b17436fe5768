-- The parts of an image of one function whose code words are given (docs/FORMAT.md).
use Rattle.std.specs.Prelude.{ℕ, List, [], ◌∷◌, ◌++◌, length, codes}
use Rattle.image_format.specs.declared.parts.Parts.{Parts}
use Rattle.tagged_words.specs.Atoms.{first_atoms}

abbrev pub hand_atoms : List (List ℕ)
hand_atoms = first_atoms ++ codes "one" ∷ codes "f" ∷ []

abbrev pub parts_of : List ℕ → List ℕ → Parts
parts_of text words = record {
  texts = text ∷ [];
  atoms = hand_atoms;
  literals = [];
  roots = [];
  natives = record { fid = 0; first = 0; count = length words } ∷ [];
  code = words;
  descriptors = [];
}
