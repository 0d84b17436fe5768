-- Where a call of a function leads (docs/MACHINE.md, Addresses of code).
use Rattle.std.specs.Prelude.{ℕ, ◌+◌, Option, Some, None, List}
use Rattle.beam_code.specs.declared.module.Module.{Module}
use Rattle.beam_code.specs.Function.{Placed, function_at}
use Rattle.image_format.specs.declared.parts.Native.{Native}
use Rattle.native_link.specs.Lookup.{native_entry_of}
use Rattle.native_link.specs.Places.{first_item, item_address}

-- the address of a function's entry item
abbrev pub item_entry : List Module → ℕ → Option Placed → ℕ
item_entry ms fid None = 0
item_entry ms fid (Some p) = item_address (first_item ms fid + p.function.entry)

-- a call leads to the native entry where there is one, else to the entry item
abbrev pub entry_address : List Module → List Native → ℕ → ℕ
entry_address ms natives fid = elim (native_entry_of natives fid) [ None ↦ item_entry ms fid (function_at ms fid) | Some at ↦ at ]
