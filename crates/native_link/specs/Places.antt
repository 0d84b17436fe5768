-- Where items and native code stand, and which addresses of a function a descriptor may name (docs/FORMAT.md, Descriptors).
use Rattle.std.specs.Prelude.{ℕ, ◌+◌, ◌-◌, ◌*◌, ◌/◌, ◌%◌, Bool, false, ◌&&◌, ◌||◌, not, Option, Some, None, List, length, nat_eq, nat_lt, nat_le, take, if◌then◌else◌}
use Rattle.beam_code.specs.declared.module.Module.{Module}
use Rattle.beam_code.specs.Function.{Placed, all_functions, cost_of, function_at, items_in}
use Rattle.image_format.specs.declared.limits.TheConstants.{ITEM_START}
use Rattle.image_format.specs.declared.parts.Descriptor.{Descriptor}
use Rattle.image_format.specs.declared.parts.Native.{Native}
use Rattle.native_link.specs.Lookup.{entry_address, native_of}

-- the number of an item is counted over all functions
abbrev pub first_item : List Module → ℕ → ℕ
first_item ms fid = items_in (take fid (all_functions ms))

abbrev pub item_address : ℕ → ℕ
item_address i = ITEM_START + 4 * i

-- whether an address is that of one of so many words, from a start up
abbrev pub is_word_from : ℕ → ℕ → ℕ → Bool
is_word_from start count at = nat_eq (at % 4) 0 && (nat_le start at && nat_lt ((at - start) / 4) count)

-- whether an address is that of a code word of a function in native form, and whether it is one behind such a word
abbrev pub is_code_word : Option Native → ℕ → Bool
is_code_word None at = false
is_code_word (Some n) at = is_word_from (entry_address n) n.count at

abbrev pub is_behind_code_word : Option Native → ℕ → Bool
is_behind_code_word None at = false
is_behind_code_word (Some n) at = is_word_from (entry_address n + 4) n.count at

-- a call returns to the next item, or past a word of the function's native code
abbrev pub is_return : List Native → List Module → Descriptor → Bool
is_return natives ms d = nat_eq d.ret (item_address (first_item ms d.fid + d.item + 1)) || is_behind_code_word (native_of natives d.fid) d.ret

-- a raise goes on nowhere, at an item of the function, or at a word of its native code
abbrev pub is_handler_place : List Native → List Module → Descriptor → ℕ → Bool
is_handler_place natives ms d items =
    nat_eq d.handler 0 || (is_word_from (item_address (first_item ms d.fid)) items d.handler || is_code_word (native_of natives d.fid) d.handler)

-- the fields of a descriptor, by their place in bytes behind its first one
abbrev pub ret_field : ℕ
ret_field = 0

abbrev pub fid_field : ℕ
fid_field = 4

abbrev pub item_field : ℕ
item_field = 8

abbrev pub frame_field : ℕ
frame_field = 12

abbrev pub handler_field : ℕ
handler_field = 20

-- the first field that breaks its rule; without a function or an item of it nothing is said of the return address
abbrev pub wrong_field_in : List Native → List Module → Descriptor → Option Placed → Option ℕ
wrong_field_in natives ms d None = Some fid_field
wrong_field_in natives ms d (Some p) =
    if not (nat_lt d.item (length p.function.items)) then Some item_field
    else if not (is_return natives ms d) then Some ret_field
    else if not (nat_eq d.frame (cost_of p.function)) then Some frame_field
    else if not (is_handler_place natives ms d (length p.function.items)) then Some handler_field
    else None

abbrev pub wrong_field : List Native → List Module → Descriptor → Option ℕ
wrong_field natives ms d = wrong_field_in natives ms d (function_at ms d.fid)
