-- What holds of the constants of modules (docs/FORMAT.md, Atoms, Literals).
use Rattle.std.specs.List.{AllByRecursion, Contains}
use Rattle.std.specs.Prelude.{◌≡◌, ◌≤◌, ◌↔◌, ℕ, true, List, map}
use Rattle.beam_code.specs.declared.module.Module.{Module}
use Rattle.beam_code.specs.declared.module.TheConstants.{MOST_TEXT_BYTES}
use Rattle.beam_profile.specs.Whole.{IsModuleOf}
use Rattle.image_format.specs.Fitting.{total_length}
use Rattle.ir_code.specs.Constants.{ConstantsHold, constants_of}
use Rattle.ir_code.specs.Known.{AreKnown, knows_all}
use Rattle.ir_code.specs.Mentions.{Mention, literals_of, mentions_of}
use Rattle.ir_code.specs.Room.{HaveRoom}
use Rattle.term_tree.specs.IsTerm.{IsTerm}

-- where there is room, and the literals are terms
abbrev pub TheyHold : Type 0
TheyHold = (ms : List Module) → HaveRoom ms → AllByRecursion IsTerm (literals_of (mentions_of ms)) → ConstantsHold (constants_of ms) ms

-- the modules of texts that are short together have room, whatever the greatest index of a register
abbrev pub ShortTextsHaveRoom : Type 0
ShortTextsHaveRoom =
    (last : ℕ) (ms : List Module) → ((m : Module) → Contains ms m → IsModuleOf last m.text m) → total_length (map (λ m. m.text) ms) ≤ MOST_TEXT_BYTES
    → HaveRoom ms

-- the test of a table is whether each thing that is mentioned has its names there
abbrev pub KnownMentionsHaveNames : Type 0
KnownMentionsHaveNames = (names : List (List ℕ)) (all : List Mention) → (knows_all names all ≡ true) ↔ AreKnown names all
