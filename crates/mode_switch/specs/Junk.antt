-- Junk in slots that are not live: at each entry the caller's frame may hold anything there (docs/MACHINE.md, Junk).
use Rattle.std.specs.Prelude.{ℕ, ◌≡◌, ◌+◌, ◌-◌, ◌/◌, ◌%◌, ◌<◌, Bool, ◌||◌, Option, Some, None, List, [], ◌∷◌, ◌++◌, nat_eq, if◌then◌else◌, length, take, drop, slice_index, map}
use Rattle.std.specs.List.{list_any}
use Rattle.beam_code.specs.Function.{Placed, all_functions}
use Rattle.image_format.specs.declared.parts.Descriptor.{Descriptor}
use Rattle.native_link.specs.Lookup.{descriptor_of, entry_address as native_address}
use Rattle.sparc_code.specs.Step.{register, in_word}
use Rattle.tagged_words.specs.Region.{Region, words_at}
use Rattle.mode_switch.specs.Destination.{item_address}
use Rattle.mode_switch.specs.State.{Loaded, Memory, MixedState}

-- the entries of all functions as items, from a number of items on
abbrev pub item_entries : ℕ → List Placed → List ℕ
item_entries first [] = []
item_entries first (p ∷ ps) = item_address (first + p.function.entry) ∷ item_entries (first + length p.function.items) ps

-- an address is an entry, native or of items
abbrev pub is_entry : Loaded → ℕ → Bool
is_entry g at = list_any (λ entry. nat_eq at entry) (map native_address g.parts.natives ++ item_entries 0 (all_functions g.modules))

abbrev pub is_kept : List ℕ → ℕ → Bool
is_kept live slot = nat_eq slot 0 || list_any (λ s. nat_eq slot s) live

-- the list is used in turn: its places are those below its length, and place 0 where it is empty
abbrev pub IsPlaceIn : List ℕ → ℕ → Type 0
IsPlaceIn [] place = place ≡ 0
IsPlaceIn (j ∷ js) place = place < length (j ∷ js)

abbrev pub next_place : List ℕ → ℕ → ℕ
next_place junk place = (place + 1) % length junk

-- the words of a frame from a slot on; slots that are not live take junk words in turn, from a place on
abbrev pub filled : List ℕ → List ℕ → ℕ → ℕ → List ℕ → List ℕ
filled junk live slot place [] = []
filled junk live slot place (w ∷ ws) =
    if is_kept live slot then w ∷ filled junk live (slot + 1) place ws
    else slice_index junk place ∷ filled junk live (slot + 1) (next_place junk place) ws

-- the place behind the last junk word that this takes
abbrev pub place_behind : List ℕ → List ℕ → ℕ → ℕ → List ℕ → ℕ
place_behind junk live slot place [] = place
place_behind junk live slot place (w ∷ ws) =
    if is_kept live slot then place_behind junk live (slot + 1) place ws
    else place_behind junk live (slot + 1) (next_place junk place) ws

-- the stack with the words of the frame at an address replaced
abbrev pub with_frame : Region → ℕ → List ℕ → Region
with_frame r at ws = record r { words = take ((at - r.start) / 4) r.words ++ ws ++ drop ((at - r.start) / 4 + length ws) r.words }

abbrev pub with_stack : Memory → Region → Memory
with_stack m stack = record m { stack = stack }

abbrev pub junk_frame : Loaded → MixedState → Descriptor → Option (List ℕ) → MixedState
junk_frame g s d None = s
junk_frame g s d (Some ws) =
    record s {
      memory = with_stack s.memory (with_frame s.memory.stack (register s.regs 14) (filled g.junk d.live 0 s.place ws));
      place = place_behind g.junk d.live 0 s.place ws;
    }

abbrev pub junk_by : Loaded → MixedState → Option Descriptor → MixedState
junk_by g s None = s
junk_by g s (Some d) = junk_frame g s d (words_at s.memory.stack (register s.regs 14) d.frame)

-- an empty list of junk changes nothing
abbrev pub junked : Loaded → MixedState → List ℕ → MixedState
junked g s [] = s
junked g s (j ∷ js) =
    if is_entry g s.regs.pc then junk_by g s (descriptor_of g.parts.descriptors (in_word (register s.regs 15 + 8))) else s

abbrev pub with_junk : Loaded → MixedState → MixedState
with_junk g s = junked g s g.junk
