-- `push` writes the word behind those that are written. Assumes `Logic`.
use mathlib.Core.Path.{◌≡◌, refl, sym, ◌∙◌}
use Prim.Native.Nat.{ℕ, ◌+◌, ◌-◌, ◌*◌, ◌<◌, ◌^◌}
use native.Mathlib.Omega.{arith}
use mathlib.Core.List.{[], ◌∷◌, ◌++◌}
use lib.ListN.{length, length-append}
use base.Fraction.{full_share}
use base.Logic.{id⊢}
use base.Fml.{ftrue, fat, flft, froom}
use mir.Syntax.{ty_int, named, w32, w64}
use mir.Val.{vunit}
use contract.Monad.{fact}
use contract.Running.{tables}
use types.Kit.{‵, raw, ◌⊛◌, at_ret, ◌$◌, ◌∵◌, !, qed, done, move, keep, use1, use2, split, join, fsplit, fsplit3, fjoin, fjoin3, feq_i, flt_l, flt_i, rewrite, suffices, frame}
use types.Run.{enter, of_opd, lit, unit_lit, bin, init, stop, fld, assigns_last, first, blocks, exec, returns}
use types.ByLocal.{alloc_all, pass_all, free_all, look_at, get, get_in, through, sets, take_at, give_at, env}
use types.Part.{whole, sub}
use denote.Builtin.{u32, usize}
use denote.Exit.{yes}
use denote.Index.{row}
use denote.Param.{layout}
use denote.Plain.{uint_vals, uint_Tells}
use denote.RawPtr.{Ptr, in_a_block}
use denote.Ref.{MutRef, mut_vals, mut_Tells}
use denote.Signature.{plain}
use denote.Steps.{nothing, opens, closes, heard}
use denote.Triple.Walked.{Stays, walk_of, says, stay_dropped, stay_ref, Goes-dropped, Goes-ref, ends_at}
use Rattle.std.proofs.raw_atomic.Walks.{proved}
use Rattle.std_alloc.proofs.RcSteps.{word, word-Good}
use Rattle.std_alloc.proofs.VecSteps.Shapes.{after}
use Rattle.raw_words.specs.Ownership.{block_type, words_own}
use Rattle.raw_words.specs.contracts.cells.Cells.push as f
use Rattle.raw_words.proofs.cells.Cells.push.Statement.{statement}
use Rattle.raw_words.proofs.cells.Cells.push.Code as code
use Rattle.raw_words.proofs.cells.Base.TheLaws.{lowers}
use Rattle.raw_words.proofs.Steps.{Cr, Bs, base_vals, room_out, word_in, behind}

abbrev stayed : Stays f.ended.signature.params f.ended.kept
stayed = (stay_ref (0 ∷ []) tt (plain (λ _. Cr)), (stay_dropped _ yes, (stay_dropped _ yes, (stay_dropped _ yes, tt))))

pub push_spec : {M : Type 1} → statement M
push_spec 𝓤 𝓛 𝓜 𝓡 wired =
    let c = f.clauses 𝓛 𝓜.mem 𝓡.returns in let W = walk_of 𝓛 f.ended stayed c in let 𝓣 = tables 𝓤 𝓛.H 𝓜 𝓡 𝓡.env in
    proved 𝓛 f.ended stayed c 𝓜 𝓡 (Goes-ref 𝓛 1 0 tt (plain (λ _. Cr)), (Goes-dropped 𝓛 1 (plain (λ _. Bs)) yes (λ κs x w. refl), (Goes-dropped 𝓛 1 (plain (λ _. usize)) yes (λ κs x w. refl), (Goes-dropped 𝓛 1 (plain (λ _. u32)) yes (λ κs x w. refl), tt))))
    f.Key.name code.function (code.unfolded 𝓤 𝓛.H 𝓜 𝓡 wired)
    (λ κs. (mut_vals, (base_vals, (uint_vals w64, (uint_vals w32, tt))))) (λ κs. (mut_Tells (named 0) κs.0 Cr, (lowers.val_is, (uint_Tells w64, (uint_Tells w32, tt)))))
    (λ κs qs bounds a _ are.
    let b = a.0.ref_ptr.0 in let o = a.0.ref_ptr.1 in let d = a.0.now in let base = a.1.0 in let i = a.1.1.0 in let w = a.1.1.1.0 in
    let v₀ = mut_vals a.0 in let v₁ = base_vals base in let v₂ = uint_vals w64 i in let v₃ = uint_vals w32 w in
    let y : W.Ghost = ((κs, qs, bounds, a, (v₀, (v₁, (v₂, (v₃, tt))))), tt) in
    let new : Cr.Denot = record d { words = d.words ++ w ∷ []; room = d.room - 1 } in
    qed 𝓛 (((‵ (flft κs.0 qs.0) ⊛ ‵ ftrue) ⊛ ‵ ((MutRef (named 0) κs.0 Cr).own_val a.0 v₀) ⊛ ‵ (Bs.own_val base v₁) ⊛ ‵ (usize.own_val i v₂) ⊛ ‵ (u32.own_val w v₃) ⊛ ‵ ftrue)
    ∷ raw (fact 𝓤 ((base.ptr ≡ d.at) × (i ≡ length d.words) × (0 < d.room))) ∷ []) ∵
    move ! (1 ∷ []) $ heard ! _ (λ asked. split ! $ split ! $ move ! (2 ∷ []) $ split ! $ keep ! (0 ∷ 2 ∷ []) $
    enter ! _ _ _ _ _ $ alloc_all ! (λ l. pass_all ! refl ((tt, tt), (word-Good [] base.ptr, ((tt, record { fits = are.1.1.0.1 }), ((tt, record { fits = are.1.1.1.0.1 }), tt)))) $
    fsplit3 ! $ move ! (1 ∷ 2 ∷ 3 ∷ []) $ opens ! tt Cr b o (λ us. move ! (1 ∷ []) $ fsplit ! $ move ! (1 ∷ []) $
    in_a_block ! d.at (λ p. words_own p d.words d.room) (id⊢ 𝓤 _) (λ b' o' e. fsplit ! $ flt_l ! (λ small. fsplit ! $
    -- [the words; the room; what the fields own; the struct's cell; the open borrow, in three entries]
    let far : i * 4 < 2 ^ 64 = omega (arith, asked.1, small) in
    take_at ! 2 $ rewrite ! 0 (λ (p : Ptr). ‵ (fat full_share (layout Bs) (l 2) 0 (word p))) (asked.0 ∙ e) refl $ give_at ! 2 $ first ! $ blocks ! $
    sets ! (bin ! (get ! refl) (lit ! tt) (record { fits = far })) refl (tt, record { fits = far }) $
    sets ! (bin ! (get_in ! (fld ! refl (stop !)) (sub ! 0 refl (whole !))) (get ! refl) tt) refl (tt, tt) $
    move ! (1 ∷ []) $ use1 𝓛 (‵ (froom (ty_int w32) b' (i * 4 + o')) ⊛ ‵ (froom (block_type new.room) b' (i * 4 + o' + 4))) (room_out 𝓛 b' o' d.words i d.room asked.1 asked.2) $ split ! $
    assigns_last ! (of_opd ! (get ! refl)) (through ! refl (stop !)) (init ! 0 refl (tt, record { fits = are.1.1.1.0.1 })) $
    exec ! 𝓣.C 𝓣.Λ (env code.Mir.locals l) (after 1 (code.function).body) (at_ret _ (W.post y)) $ sets ! (of_opd ! (unit_lit !)) refl (tt, tt) $
    -- [the word's cell; the room behind it; the words; ..]
    move ! (2 ∷ 0 ∷ []) $ use2 𝓛 (‵ (row u32 full_share new.words b' o')) (word_in 𝓛 b' o' d.words i w asked.1) $
    rewrite ! 1 (λ (k : ℕ). ‵ (froom (block_type new.room) b' k)) (behind d.words i w o' asked.1) refl $ fjoin ! $
    flt_i ! ((length new.words + new.room) * 4) (2 ^ 63) (omega (arith, small, length-append d.words (w ∷ []), asked.2)) $ fjoin ! $
    rewrite ! 0 (λ (p : Ptr). ‵ (words_own p new.words new.room)) (sym e) refl $ move ! (1 ∷ 0 ∷ []) $ fjoin ! $ move ! (1 ∷ 0 ∷ []) $ closes ! tt Cr new us b o $
    -- [two parts of self; the token; self's first part]
    returns ! (look_at ! 0 refl) $ free_all ! refl $ move ! (3 ∷ []) $
    suffices ! _ (ends_at 𝓛 f.ended stayed c y vunit tt (new, (tt, (tt, (tt, tt)))) (tt, (tt, (tt, (tt, tt))))) $ says ! (refl, refl, omega (arith, asked.2)) $
    fjoin3 ! $ nothing ! $ nothing ! $ fjoin ! $ nothing ! $ fjoin ! $ nothing ! $ fjoin ! $ move ! (1 ∷ 0 ∷ []) $ fjoin ! $
    nothing ! $ move ! (2 ∷ 0 ∷ []) $ join ! $ frame ! $ frame ! $ feq_i ! _ (vunit ∷ []) _ refl $ done !))))))
