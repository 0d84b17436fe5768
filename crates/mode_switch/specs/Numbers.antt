-- The numbers of the machine (docs/MACHINE.md).
use Rattle.std.specs.Prelude.{◌≡◌, ◌+◌, ◌-◌, ◌*◌, Bool, true, false, ◌++◌, length, map, replicate}
use Rattle.beam_code.specs.declared.gates.TheConstants.{BUILT_INS, FIRST_RAISER, LAST_RAISER}
use Rattle.beam_code.specs.BuiltIns.{BuiltIn, First, built_ins}
use Rattle.beam_code.specs.State.{x_registers}
use Rattle.mode_switch.specs.declared.addresses.TheConstants.{GATE_START, GATES, X_START, X_WORDS, STACK_FLOOR, STACK_END, STOP_LINK, MOST_ITEMS, MOST_REDUCTIONS, MOST_WORDS}
use Rattle.mode_switch.specs.declared.text.TheConstants.{VALUE_STATUS, RAISE_STATUS, END_STATUS, NOT_BUILT_STATUS, MOST_PRINTED}
use Rattle.image_format.specs.declared.limits.TheConstants.{CODE_START, ITEM_START}
use Rattle.tagged_words.specs.declared.addresses.TheConstants.{LITERAL_START, HEAP_START, MOST_ATOM_NUMBERS}

abbrev pub only_raises : BuiltIn → Bool
only_raises b = elim b.failure [ First class ↦ true | _ ↦ false ]

pub record TheNumbersAre : Type 0 where
  -- the starts of the address ranges
  pub gates : GATE_START ≡ 0x01000000
  pub items : ITEM_START ≡ 0x02000000
  pub code : CODE_START ≡ 0x04000000
  pub literals : LITERAL_START ≡ 0x08000000
  pub heap : HEAP_START ≡ 0x10000000
  pub x_area : X_START ≡ 0x20000000
  pub stack_floor : STACK_FLOOR ≡ 0x30000000
  pub stack_end : STACK_END ≡ 0x40000000
  -- a return from the outermost call leads to gate 0
  pub stop_link : STOP_LINK ≡ 0x00FFFFF8
  -- counts of gates, of x registers and their words, of atoms
  pub gate_count : GATES ≡ 256
  pub x_words : X_WORDS ≡ 256
  pub x_registers : x_registers ≡ 256
  pub atoms : MOST_ATOM_NUMBERS ≡ 67108864
  -- the items reach up to the code
  pub most_items : ITEM_START + 4 * MOST_ITEMS ≡ CODE_START
  -- the built-ins, and those of them that only raise
  pub built_in_count : length built_ins ≡ BUILT_INS
  pub raisers : map only_raises built_ins ≡ replicate FIRST_RAISER false ++ (replicate (LAST_RAISER + 1 - FIRST_RAISER) true ++ replicate (BUILT_INS - (LAST_RAISER + 1)) false)
  -- the limits of a run
  pub reductions : MOST_REDUCTIONS ≡ 1000000000
  pub words : MOST_WORDS ≡ 16777216
  -- the most nodes of a term that is printed; the statuses of a value, of an exception, of an end, and of what is not
  -- printed yet
  pub printed : MOST_PRINTED ≡ 1000000
  pub value : VALUE_STATUS ≡ 0
  pub raise : RAISE_STATUS ≡ 1
  pub end : END_STATUS ≡ 2
  pub not_built : NOT_BUILT_STATUS ≡ 11
