-- A `&` to the words is made, word by word. Assumes `Logic`.
use Prim.Native.Nat.{ℕ, ◌+◌, ◌*◌}
use mathlib.Core.List.{List, [], ◌∷◌}
use lib.ListN.{length}
use seplogic.Ra.Ura.{Ura}
use base.Fraction.{full_share}
use base.Fml.{Lft, Incl, ftrue, ffalse, fsep, froom}
use types.Logic.{Logic}
use denote.Memory.{part_at, shared_of}
use denote.Builtin.{u32}
use denote.Index.{row}
use denote.Slice.{elements_shared, elements_shr_laws}
use denote.RawPtr.{Ptr, block_ptr, null_ptr}
use denote.Sharing.{ShrLaws, said}
use denote.SharingLaws.{beside_shr_laws, said_shr_laws}
use denote.Shares.{Shares-less}
use denote.Struct.Field.{u32-field}
use denote.Struct.Laws.{u32-copy}
use denote.Param.Shared.{Sharable, copy_shared}
use denote.Struct.Lending.{Lends, Lends-both, Lends-first, Lends-nothing, Lends-said, Lends-false}
use Rattle.raw_words.specs.Ownership.{block_type, fit, words_own, words_lent}

shared : Sharable u32-field
shared = copy_shared u32-field u32-copy

pub words_lent_laws : (p : Ptr) (ws : List ℕ) (n : ℕ) → ShrLaws (words_lent p ws n)
words_lent_laws (block_ptr b o) ws n = beside_shr_laws _ _ (said_shr_laws (fit (length ws + n)) tt) (elements_shr_laws u32 shared.shr_laws ws b o)
words_lent_laws null_ptr ws n = said_shr_laws ffalse tt

module _ {M : Type 1} {𝓤 : Ura M} (𝓛 : Logic 𝓤) (l : Lft) (inc : Incl l u32.lives) where
  Lends-row : (b o : ℕ) (ws : List ℕ) → Lends 𝓛 (row u32 full_share ws b o) (elements_shared u32 ws b o) l
  Lends-row b o [] = Lends-nothing 𝓛 ftrue l
  Lends-row b o (w ∷ ws) =
      Lends-both 𝓛 (part_at u32 full_share w b o) (row u32 full_share ws b (o + 4)) (shared_of u32 w b o) (elements_shared u32 ws b (o + 4)) l
      (λ κ ts. Shares-less 𝓛 u32 u32.lives l inc (shared.shares M 𝓤 𝓛) w κ ts b o) (Lends-row b (o + 4) ws)

  pub Lends-words : (p : Ptr) (ws : List ℕ) (n : ℕ) → Lends 𝓛 (words_own p ws n) (words_lent p ws n) l
  Lends-words (block_ptr b o) ws n =
      let all = fsep (row u32 full_share ws b o) (froom (block_type n) b (length ws * 4 + o)) in
      Lends-both 𝓛 (fit (length ws + n)) all (said (fit (length ws + n))) (elements_shared u32 ws b o) l (Lends-said 𝓛 (fit (length ws + n)) tt l)
      (Lends-first 𝓛 (row u32 full_share ws b o) (froom (block_type n) b (length ws * 4 + o)) (elements_shared u32 ws b o) l (Lends-row b o ws))
  Lends-words null_ptr ws n = Lends-false 𝓛 (said ffalse) l
