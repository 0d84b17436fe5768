-- What the walks of the functions that hold a pointer share. Assumes `Logic`.
use mathlib.Core.Path.{◌≡◌, refl, sym, ap, subst}
use Prim.Native.Nat.{ℕ, zero, suc, ◌+◌, ◌-◌, ◌*◌, ◌<◌, ◌^◌}
use native.Mathlib.Omega.{arith}
use native.Mathlib.Nat.{zero-mul, suc-mul}
use mathlib.Core.List.{List, [], ◌∷◌, ◌++◌}
use lib.ListN.{length, get_or, set, length-append}
use seplogic.Ra.Ura.{Ura}
use base.Fraction.{full_share}
use mir.Syntax.{ty_int, w32}
use mir.Val.{Val, vint}
use base.Logic.{ent}
use base.Fml.{Fml, fat, froom}
use types.Logic.{Logic, sem}
use types.Kit.{‵, ◌⊛◌, ⋆, ◌$◌, ◌∵◌, !, qed, by, move, use1, split, fsplit, fjoin, rewrite, frame, done}
use denote.RattleType.{RattleType}
use denote.Memory.{part_at, shares}
use denote.Plain.{uint_in, uint_out}
use denote.Index.{row, others, takes, puts, place_is, place as nth}
use denote.Builtin.{u32}
use denote.RawPtr.{Ptr}
use Rattle.std_alloc.proofs.RcSteps.{word}
use Rattle.raw_words.specs.Ownership.{block_type}
use Rattle.raw_words.specs.contracts.cells.Cells as Cells
use Rattle.raw_words.specs.contracts.cells.Base as Base
use mir.Syntax.{Args, a_type, dcons, dnil}
use mir.Val.{vstruct, vcons, vnil, of_list}
use base.Logic.{SProp, sep, emp, via, fst∗, snd∗, mono_r}
use contract.Monad.{fact, fact_use}
use prog.Memory.{size, align, capped}
use prog.Capped.{capped_is}
use types.Kit.{Item, Goal, Seq, Step, step, feq_i, feq_l, fpick, fpack, drop}
use denote.Param.{param, bounded}
use denote.RattleType.{Valss}
use denote.RawPtr.{RawPtr, ptr_val}
use denote.Shadow.{makes_shadow}
use denote.Steps.{nothing}
use denote.Struct.Declared as Declared
use denote.Struct.Owning.{shape}
use denote.Struct.Struct.{Shape, Struct, within}
use denote.Struct.Tuple.{Tuple, tuple_type}
use denote.Triple.Walked.{needs}
use Rattle.core.proofs.alloc.Calls.{Al}
use Rattle.raw_words.specs.contracts.cells.Deed as Deed

-- the rows of the owner and of the pointer
abbrev pub Cr : RattleType
Cr = Cells.the_row

abbrev pub Bs : RattleType
Bs = Base.the_row

abbrev pub base_vals : Bs.Denot → List Val
base_vals base = word base.ptr ∷ []

module _ {M : Type 1} {𝓤 : Ura M} (𝓛 : Logic 𝓤) (b o : ℕ) (ws : List ℕ) where
  module _ (i : ℕ) where
    -- the words but for the i-th
    abbrev pub rest : Fml
    rest = others (shares u32) full_share ws i b o

    -- the cell of the i-th word is taken out of the row, and put back with another word in it
    pub cell_out : i < length ws → ent 𝓤 (sem 𝓛 (row u32 full_share ws b o)) (⋆ 𝓛 (‵ (fat full_share (ty_int w32) b (i * 4 + o) (vint w32 (get_or ws i 0))) ∷ ‵ rest ∷ []))
    cell_out inside =
        qed 𝓛 (‵ (row u32 full_share ws b o) ∷ []) ∵
        use1 𝓛 (‵ (part_at u32 full_share (get_or ws i 0) b (nth 4 o i)) ⊛ ‵ rest) (takes (shares u32) full_share 𝓛 ws i 0 b o inside) $ split ! $
        rewrite ! 0 (λ (k : ℕ). ‵ (part_at u32 full_share (get_or ws i 0) b k)) (place_is 4 o i) refl $
        use1 𝓛 (‵ (fat full_share (ty_int w32) b (i * 4 + o) (vint w32 (get_or ws i 0)))) (uint_out 𝓛 full_share w32 (get_or ws i 0) b (i * 4 + o)) $ done !

    pub cell_in : (w : ℕ) → i < length ws → ent 𝓤 (⋆ 𝓛 (‵ (fat full_share (ty_int w32) b (i * 4 + o) (vint w32 w)) ∷ ‵ rest ∷ [])) (sem 𝓛 (row u32 full_share (set ws i w) b o))
    cell_in w inside =
        qed 𝓛 (‵ (fat full_share (ty_int w32) b (i * 4 + o) (vint w32 w)) ∷ ‵ rest ∷ []) ∵
        use1 𝓛 (‵ (part_at u32 full_share w b (i * 4 + o))) (uint_in 𝓛 full_share w32 w b (i * 4 + o)) $
        rewrite ! 0 (λ (k : ℕ). ‵ (part_at u32 full_share w b k)) (sym (place_is 4 o i)) refl $
        by ! (puts (shares u32) full_share 𝓛 ws i w b o inside)

module _ {M : Type 1} {𝓤 : Ura M} (𝓛 : Logic 𝓤) (b o : ℕ) where
  -- the room behind the words has a first word, and room behind that
  pub room_out : (ws : List ℕ) (i n : ℕ) → i ≡ length ws → 0 < n
      → ent 𝓤 (sem 𝓛 (froom (block_type n) b (length ws * 4 + o))) (⋆ 𝓛 (‵ (froom (ty_int w32) b (i * 4 + o)) ∷ ‵ (froom (block_type (n - 1)) b (i * 4 + o + 4)) ∷ []))
  room_out ws i zero last some = absurd (omega arith)
  room_out ws i (suc n) last some = let same : n ≡ suc n - 1 = omega arith in
      qed 𝓛 (‵ (froom (block_type (suc n)) b (length ws * 4 + o)) ∷ []) ∵
      rewrite ! 0 (λ (k : ℕ). ‵ (froom (block_type (suc n)) b (k * 4 + o))) (sym last) refl $
      use1 𝓛 (‵ (froom (ty_int w32) b (i * 4 + o)) ⊛ ‵ (froom (block_type n) b (i * 4 + o + 4))) (𝓛.laws.room_uncons (ty_int w32) n b (i * 4 + o)) $ split ! $ move ! (1 ∷ []) $
      rewrite ! 0 (λ (k : ℕ). ‵ (froom (block_type k) b (i * 4 + o + 4))) same refl $ move ! (1 ∷ 0 ∷ []) $ done !

  -- a word is written behind the others
  row_end : (ws : List ℕ) (w at k : ℕ) → k ≡ length ws * 4 + at → ent 𝓤 (⋆ 𝓛 (‵ (row u32 full_share ws b at) ∷ ‵ (part_at u32 full_share w b k) ∷ [])) (sem 𝓛 (row u32 full_share (ws ++ w ∷ []) b at))
  row_end [] w at k e = let here : k ≡ at = omega (arith, zero-mul 4) in
      qed 𝓛 (‵ (row u32 full_share [] b at) ∷ ‵ (part_at u32 full_share w b k) ∷ []) ∵ move ! (1 ∷ 0 ∷ []) $
      rewrite ! 0 (λ (j : ℕ). ‵ (part_at u32 full_share w b j)) here refl $ done !
  row_end (x ∷ ws) w at k e =
      let more : k ≡ suc (length ws) * 4 + at = e in let on : k ≡ length ws * 4 + (at + 4) = omega (arith, suc-mul (length ws) 4) in
      qed 𝓛 (‵ (row u32 full_share (x ∷ ws) b at) ∷ ‵ (part_at u32 full_share w b k) ∷ []) ∵ fsplit ! $ frame ! $ by ! (row_end ws w (at + 4) k on)

  pub word_in : (ws : List ℕ) (i w : ℕ) → i ≡ length ws
      → ent 𝓤 (⋆ 𝓛 (‵ (row u32 full_share ws b o) ∷ ‵ (fat full_share (ty_int w32) b (i * 4 + o) (vint w32 w)) ∷ [])) (sem 𝓛 (row u32 full_share (ws ++ w ∷ []) b o))
  word_in ws i w last =
      qed 𝓛 (‵ (row u32 full_share ws b o) ∷ ‵ (fat full_share (ty_int w32) b (i * 4 + o) (vint w32 w)) ∷ []) ∵ move ! (1 ∷ []) $
      use1 𝓛 (‵ (part_at u32 full_share w b (i * 4 + o))) (uint_in 𝓛 full_share w32 w b (i * 4 + o)) $ move ! (1 ∷ []) $
      by ! (row_end ws w o (i * 4 + o) (ap (λ k. k * 4 + o) last))

pub behind : (ws : List ℕ) (i w o : ℕ) → i ≡ length ws → i * 4 + o + 4 ≡ length (ws ++ w ∷ []) * 4 + o
behind ws i w o last = omega (arith, length-append ws (w ∷ []))

-- ---- the values that take no space or one pointer, made and taken apart
-- the field of an owner, which takes no bytes
abbrev pub Mark : RattleType
Mark = Struct (shape Cells.the_type)

abbrev pub mark : Val
mark = vstruct (vcons (vstruct vnil) vnil)

pub mark_made : {M : Type 1} {𝓤 : Ura M} (𝓛 : Logic 𝓤) → ent 𝓤 (emp 𝓤) (sem 𝓛 (Mark.own_val (tt, tt) (mark ∷ [])))
mark_made 𝓛 = makes_shadow 𝓛 (Mark.own_val (tt, tt) (mark ∷ [])) (λ vss. (tt, ((λ uss. (tt, tt)), tt))) ((vstruct vnil ∷ [], tt), (refl, ((tt, (refl, tt)), tt)))

abbrev pointer_shape : Shape
pointer_shape = record { name = []; args = []; types = []; fields = RawPtr ∷ [] }

abbrev pub Pointer : RattleType
Pointer = Struct pointer_shape

module _ {M : Type 1} {𝓤 : Ura M} {𝓛 : Logic 𝓤} {K : Type 0} {Γ : List (Item 𝓤)} {G : Goal 𝓤 𝓛.H} where
  pub word_made : K → (c : Ptr) → Step K 𝓛 (‵ (Pointer.own_val (c, tt) (word c ∷ [])) ∷ Γ) G Γ G
  word_made t c = step (λ s.
      nothing t $ feq_i t (List Val) (ptr_val c ∷ []) (ptr_val c ∷ []) refl $ fjoin t $ feq_i t (List Val) (word c ∷ []) (word c ∷ []) refl $ fjoin t $
      fpack t (Valss (RawPtr ∷ [])) (within pointer_shape (c, tt) (word c ∷ [])) (ptr_val c ∷ [], tt) $ s)

abbrev pub three_val : Val → Val → Val → Val
three_val u v w = vstruct (vcons u (vcons v (vcons w vnil)))

pub three_of : {M : Type 1} {𝓤 : Ura M} (𝓛 : Logic 𝓤) (R S T : RattleType) (x : R.Denot) (y : S.Denot) (z : T.Denot) (u v w : Val)
    → ent 𝓤 (sep 𝓤 (sem 𝓛 (R.own_val x (u ∷ []))) (sep 𝓤 (sem 𝓛 (S.own_val y (v ∷ []))) (sem 𝓛 (T.own_val z (w ∷ []))))) (sem 𝓛 ((Tuple (R ∷ S ∷ T ∷ [])).own_val (x, y, z) (three_val u v w ∷ [])))
three_of 𝓛 R S T x y z u v w =
    qed 𝓛 (‵ (R.own_val x (u ∷ [])) ∷ ‵ (S.own_val y (v ∷ [])) ∷ ‵ (T.own_val z (w ∷ [])) ∷ []) ∵ nothing ! $ move ! (3 ∷ 0 ∷ []) $ fjoin ! $ move ! (2 ∷ 0 ∷ []) $ fjoin ! $ move ! (1 ∷ 0 ∷ []) $ fjoin ! $
    feq_i ! (List Val) (three_val u v w ∷ []) (three_val u v w ∷ []) refl $ fjoin ! $
    fpack ! (Valss (R ∷ S ∷ T ∷ [])) (within (Declared.shape (tuple_type (R ∷ S ∷ T ∷ []))) (x, (y, (z, tt))) (three_val u v w ∷ [])) (u ∷ [], (v ∷ [], (w ∷ [], tt))) $ done !

-- ---- the allocator, which is the one type parameter
module _ (Z : Al) where
  abbrev pub args : Args
  args = bounded (a_type ∷ []) (Z.row, tt) (dcons Z.d (dcons Z.drops dnil))

  abbrev pub P : RattleType
  P = param 0 Z.row

  abbrev pub Dd : RattleType
  Dd = Deed.the_row P Z.g

pub block_size : (n : ℕ) → n * 4 < 2 ^ 64 → capped (size (block_type n)) ≡ n * 4
block_size n fits = capped_is (n * 4) fits

pub block_align : (n : ℕ) → capped (align (block_type n)) ≡ 4
block_align n = refl

-- of a `requires` under the type parameter, both facts
pub both : {M : Type 1} (𝓤 : Ura M) (φ ψ : Type 0) (P : SProp 𝓤) {Q : SProp 𝓤} → (φ → ψ → ent 𝓤 P Q) → ent 𝓤 (sep 𝓤 P (sep 𝓤 (fact 𝓤 φ) (fact 𝓤 ψ))) Q
both 𝓤 φ ψ P k =
    let F : SProp 𝓤 = sep 𝓤 (fact 𝓤 φ) (fact 𝓤 ψ) in
    fact_use 𝓤 φ (via 𝓤 F (snd∗ 𝓤 P F) (fst∗ 𝓤 (fact 𝓤 φ) (fact 𝓤 ψ))) (λ x. via 𝓤 (sep 𝓤 P (fact 𝓤 ψ)) (mono_r 𝓤 P {Q = F} {Q' = fact 𝓤 ψ} (snd∗ 𝓤 (fact 𝓤 φ) (fact 𝓤 ψ))) (needs 𝓤 ψ P (k x)))

-- ---- the room of written words, to be given back
module _ {M : Type 1} {𝓤 : Ura M} (𝓛 : Logic 𝓤) (b : ℕ) where
  pub to_room : (ws : List ℕ) (o : ℕ) → ent 𝓤 (sem 𝓛 (row u32 full_share ws b o)) (sem 𝓛 (froom (block_type (length ws)) b o))
  to_room [] o = 𝓛.laws.room_nil (ty_int w32) b o
  to_room (w ∷ ws) o =
      qed 𝓛 (‵ (row u32 full_share (w ∷ ws) b o) ∷ []) ∵ fsplit ! $
      use1 𝓛 (‵ (fat full_share (ty_int w32) b o (vint w32 w))) (uint_out 𝓛 full_share w32 w b o) $
      use1 𝓛 (‵ (froom (ty_int w32) b o)) (𝓛.laws.at_room (ty_int w32) b o (vint w32 w)) $ move ! (1 ∷ []) $
      use1 𝓛 (‵ (froom (block_type (length ws)) b (o + 4))) (to_room ws (o + 4)) $ move ! (1 ∷ 0 ∷ []) $ by ! (𝓛.laws.room_cons (ty_int w32) (length ws) b o)

module _ {M : Type 1} {𝓤 : Ura M} {𝓛 : Logic 𝓤} {K : Type 0} {Γ : List (Item 𝓤)} {G : Goal 𝓤 𝓛.H} where
  pub mark_had : K → (vs : List Val) → (vs ≡ mark ∷ [] → Seq K 𝓛 Γ G) → Seq K 𝓛 (‵ (Mark.own_val (tt, tt) vs) ∷ Γ) G
  mark_had t vs k = fpick t (λ vss. fsplit t $ feq_l t (λ ev. fsplit t $ fpick t (λ uss. fsplit t $ feq_l t (λ e. drop t $ drop t $
      k (subst (λ (ws : List Val). vs ≡ vstruct (of_list (ws ++ [])) ∷ []) e ev)))))
