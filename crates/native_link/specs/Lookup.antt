-- Looking up native functions and descriptors by their numbers (docs/FORMAT.md, docs/MACHINE.md).
use Rattle.std.specs.Prelude.{ℕ, ◌+◌, ◌*◌, ◌<◌, ◌≤◌, Option, Some, None, List, [], ◌∷◌, length, slice_index_or, nat_eq, if◌then◌else◌}
use Rattle.std.specs.Option.{option_map}
use Rattle.image_format.specs.declared.limits.TheConstants.{CODE_START}
use Rattle.image_format.specs.declared.parts.Native.{Native}
use Rattle.image_format.specs.declared.parts.Descriptor.{Descriptor}

-- the first one with a key
abbrev pub with_key : {A : Type 0} → (A → ℕ) → List A → ℕ → Option A
with_key key [] k = None
with_key key (x ∷ xs) k = if nat_eq (key x) k then Some x else with_key key xs k

-- the native function with a number
abbrev pub native_of : List Native → ℕ → Option Native
native_of ns fid = with_key (λ n. n.fid) ns fid

-- the address of the first code word of a native function
abbrev pub entry_address : Native → ℕ
entry_address n = CODE_START + 4 * n.first

abbrev pub native_entry_of : List Native → ℕ → Option ℕ
native_entry_of ns fid = option_map entry_address (native_of ns fid)

-- the descriptor of a return address
abbrev pub descriptor_of : List Descriptor → ℕ → Option Descriptor
descriptor_of ds ret = with_key (λ d. d.ret) ds ret

-- the keys before a place are less, and the others are not
pub record Splits {A : Type 0} (key : A → ℕ) (xs : List A) (k low high : ℕ) : Type 0 where
  pub within : high ≤ length xs
  pub before : (j : ℕ) (d : A) → j < low → key (slice_index_or xs j d) < k
  pub behind : (j : ℕ) (d : A) → high ≤ j → j < length xs → k ≤ key (slice_index_or xs j d)
