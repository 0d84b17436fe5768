-- What a block of raw words owns and lends. A word takes four bytes.
use Rattle.std.specs.Prelude.{ℕ, ◌+◌, ◌*◌, ◌^◌, ◌<◌, List, length}
use base.Fraction.{full_share}
use base.Fml.{Lft, Fml, ffalse, fsep, flt, froom}
use mir.Syntax.{Ty, ty_array, ty_int, w32}
use denote.Builtin.{u32}
use denote.Index.{row}
use denote.Slice.{elements_shared}
use denote.Sharing.{said, beside}
use denote.RawPtr.{Ptr, block_ptr, null_ptr}

-- the type of a block of n words
abbrev pub block_type : ℕ → Ty
block_type n = ty_array (ty_int w32) n

-- a block may have n words: they take fewer than 2 ^ 63 bytes
abbrev pub FitsBlock : ℕ → Type 0
FitsBlock n = n * 4 < 2 ^ 63

abbrev pub fit : ℕ → Fml
fit n = flt (n * 4) (2 ^ 63)

-- at the pointer lie the words, and behind them room for n more
abbrev pub words_own : Ptr → List ℕ → ℕ → Fml
words_own (block_ptr b o) ws n = fsep (fit (length ws + n)) (fsep (row u32 full_share ws b o) (froom (block_type n) b (length ws * 4 + o)))
words_own null_ptr ws n = ffalse

-- a `&` to the words holds them, and not the room
abbrev pub words_lent : Ptr → List ℕ → ℕ → Lft → Fml
words_lent (block_ptr b o) ws n κ = beside (said (fit (length ws + n))) (elements_shared u32 ws b o) κ
words_lent null_ptr ws n κ = said ffalse κ

-- the allocator's token for a block of n words
abbrev pub deed_owns : (Ty → Ptr → Fml) → Ptr → ℕ → Fml
deed_owns token p n = token (block_type n) p
