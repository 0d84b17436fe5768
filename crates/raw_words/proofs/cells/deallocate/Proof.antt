-- `deallocate` gives the block back with the allocator's token. Assumes `Logic`.
use mathlib.Core.Path.{◌≡◌, refl, sym, ap, subst, ◌∙◌}
use Prim.Native.Nat.{ℕ, ◌*◌, ◌<◌, ◌^◌}
use native.Mathlib.Omega.{arith}
use mathlib.Core.List.{List, [], ◌∷◌}
use lib.Dec.{T as Tr, lit<}
use lib.ListN.{length}
use base.Logic.{ent, id⊢}
use base.Fml.{ftrue, flft, froom, Incl-trans}
use mir.MapTy.{inst_fn}
use mir.Syntax.{Fn, named, ty_unit, w64}
use mir.Val.{Val, vunit, has_ty, WT}
use prog.Wp.{Env}
use contract.Running.{tables}
use contract.BorrowLft.{◌⊑◌}
use types.Kit.{⋆, ‵, raw, ◌⊛◌, given, later, await, learn, at_ret, ◌$◌, ◌∵◌, !, qed, by, move, keep, drop, use1, split, join, group, fsplit, fjoin, feq_i, flt_l, rewrite, suffices, done}
use types.Part.{whole, sub}
use types.Run.{enter, of_opd, lit, unit_lit, bin, stop, fld, and_then, no_more, first, blocks, exec, returns}
use types.ByLocal.{alloc_all, pass_all, free_all, look_at, get, get_in, sets, is, lands_last, env}
use denote.Builtin.{usize, RefOf}
use denote.Exit.{yes, no}
use denote.Param.Laws.{param_laws}
use denote.Plain.{uint_vals, uint_Tells}
use denote.RawPtr.{Ptr, ptr_val, in_a_block}
use denote.Ref.{ShrRef, shr_vals, shr_Tells}
use denote.Signature.{plain}
use denote.Steps.{nothing}
use denote.Triple.Call.{calls_at_last}
use denote.Triple.Clauses.{Ended}
use denote.Triple.Entry.{on_entry}
use denote.Triple.Table.{framed}
use denote.Triple.Walked.{Stays, walk_of, stay_dropped, Goes-dropped, ends_at}
use Rattle.std.proofs.raw_atomic.Walks.{proved}
use Rattle.core.proofs.alloc.Calls.{Al, Gives, at_gives, Gives-goes, Gives-Gives, Goes-blank}
use Rattle.std_alloc.proofs.RcSteps.{word-Good}
use Rattle.std_alloc.proofs.VecSteps.Shapes.{after}
use Rattle.raw_words.specs.Ownership.{block_type, deed_owns, words_own}
use Rattle.raw_words.specs.contracts.cells.deallocate as f
use Rattle.raw_words.proofs.cells.deallocate.Statement.{statement}
use Rattle.raw_words.proofs.cells.deallocate.Code as code
use Rattle.raw_words.proofs.cells.Base.TheLaws.{lowers as base_is}
use Rattle.raw_words.proofs.cells.Cells.TheLaws.{lowers as cells_is}
use Rattle.raw_words.proofs.cells.Deed.TheLaws as deed_is
use Rattle.raw_words.proofs.Steps.{Cr, Bs, base_vals, mark, args, P, Dd, block_size, block_align, both, to_room}

abbrev mark_vals : {X : Type 0} → X → List Val
mark_vals x = mark ∷ []

abbrev ended : Al → Ended
ended Z = f.ended Z.row Z.g Z.d Z.drops

abbrev stayed : (Z : Al) → Stays (ended Z).signature.params (ended Z).kept
stayed Z = (stay_dropped (RefOf (0 ∷ []) tt (plain (λ _. P Z)) (λ _. tt)) yes, (stay_dropped _ yes, (stay_dropped _ yes, (stay_dropped _ yes, (stay_dropped _ no, tt)))))

pub deallocate_spec : {M : Type 1} → statement M
deallocate_spec 𝓤 𝓛 𝓜 𝓡 wired W LW g d dd met md =
    let Z : Al = record { row = W; laws = LW; g = g; d = d; drops = dd } in
    let c = f.clauses W g d dd 𝓛 𝓜.mem 𝓡.returns in let T = walk_of 𝓛 (ended Z) (stayed Z) c in let 𝓣 = tables 𝓤 𝓛.H 𝓜 𝓡 𝓡.env in
    let fn : Fn = inst_fn (args Z) code.function in
    proved 𝓛 (ended Z) (stayed Z) c 𝓜 𝓡 (
      Goes-dropped 𝓛 2 (RefOf (0 ∷ []) tt (plain (λ _. P Z)) (λ _. tt)) yes (λ κs x w. refl),
      (
        Goes-dropped 𝓛 2 (plain (λ _. Bs)) yes (λ κs x w. refl),
        (
          Goes-dropped 𝓛 2 (plain (λ _. usize)) yes (λ κs x w. refl),
          (Goes-blank 𝓛 2 (plain (λ _. Cr)) yes (λ κs x w. tt), (Goes-blank 𝓛 2 (plain (λ _. Dd Z)) no (λ κs x w. tt), tt)),
        ),
      ),
    )
    (f.Key.name (args Z)) fn (code.unfolded 𝓤 𝓛.H 𝓜 𝓡 wired (W, tt) d dd)
    (λ κs. (shr_vals, (base_vals, (uint_vals w64, (mark_vals, (mark_vals, tt)))))) (λ κs. (shr_Tells (named 0) κs.0 (P Z), (base_is.val_is, (uint_Tells w64, (cells_is.val_is, ((deed_is.lowers (P Z) g (param_laws 0 W LW)).val_is, tt))))))
    (λ κs qs bounds a _ are.
    let κ = κs.0 in let q = qs.0 in let base = a.1.0 in let len = a.1.1.0 in let cells = a.1.1.1.0 in let deed = a.1.1.1.1.0 in
    let v₀ = shr_vals a.0 in let v₁ = base_vals base in let v₂ = uint_vals w64 len in let v₃ : List Val = mark ∷ [] in
    let y : T.Ghost = ((κs, qs, bounds, a, (v₀, (v₁, (v₂, (v₃, (v₃, tt)))))), tt) in
    let Asks : Type 0 = (cells.at ≡ base.ptr) × (length cells.words ≡ len) × (deed.at ≡ base.ptr) × (deed.len ≡ len) × (deed.alloc ≡ a.0.now) in
    both 𝓤 (κs.1.0 ⊑ W.lives) Asks (on_entry 𝓛 (ended Z).signature κs qs a y.0.4) (λ within asked.
    let out : ent 𝓤 (⋆ 𝓛 (‵ (flft κ q) ∷ (‵ (flft κs.1.0 qs.1.0) ⊛ ‵ ftrue) ∷ [])) (T.post y vunit) =
    qed 𝓛 (‵ (flft κ q) ∷ (‵ (flft κs.1.0 qs.1.0) ⊛ ‵ ftrue) ∷ []) ∵
    suffices ! _ (ends_at 𝓛 (ended Z) (stayed Z) c y vunit tt (tt, (tt, (tt, (tt, (tt, tt))))) (tt, (tt, (tt, (tt, (tt, tt)))))) $
    join ! $ feq_i ! (List Val) (vunit ∷ []) (vunit ∷ []) refl $ nothing ! $ nothing ! $ fjoin ! $ nothing ! $ fjoin ! $ nothing ! $ fjoin ! $ nothing ! $ fjoin ! $ nothing ! $ fjoin ! $ join ! $
    move ! (1 ∷ 0 ∷ []) $ join ! $ nothing ! $ move ! (1 ∷ 0 ∷ []) $ done ! in
    qed 𝓛 (((‵ (flft κ q) ⊛ ‵ (flft κs.1.0 qs.1.0) ⊛ ‵ ftrue) ⊛ ‵ ((ShrRef (named 0) κ (P Z)).own_val a.0 v₀) ⊛ ‵ (Bs.own_val base v₁) ⊛ ‵ (usize.own_val len v₂) ⊛ ‵ (Cr.own_val cells v₃) ⊛ ‵ ((Dd Z).own_val deed v₃) ⊛ ‵ ftrue) ∷ []) ∵
    split ! $ move ! (1 ∷ []) $ split ! $ fsplit ! $ move ! (2 ∷ []) $ split ! $ drop ! $ split ! $ drop ! $ split ! $ fsplit ! $ drop ! $
    move ! (1 ∷ []) $ split ! $ fsplit ! $ drop ! $ keep ! (2 ∷ 0 ∷ 4 ∷ 5 ∷ []) $ move ! (3 ∷ []) $ split ! $ move ! (2 ∷ 3 ∷ 4 ∷ []) $
    -- [what the cells own; the token of the block; what a `&` to the allocator holds; the token of κ; the other token]
    enter ! _ _ _ _ _ $ alloc_all ! (λ l. pass_all ! refl ((tt, tt), (word-Good [] base.ptr, ((tt, record { fits = are.1.1.0.1 }), ((tt, (tt, tt)), ((tt, (tt, tt)), tt))))) $
    let En : Env 𝓤 𝓛.H = env fn.locals l in
    rewrite ! 0 (λ (p : Ptr). ‵ (words_own p cells.words cells.room)) asked.0 refl $
    in_a_block ! base.ptr (λ p. words_own p cells.words cells.room) (id⊢ 𝓤 _) (λ b o e. fsplit ! $ flt_l ! (λ fit. fsplit ! $ move ! (1 ∷ []) $ drop ! $
    let bytes : len * 4 < 2 ^ 64 = omega (arith, fit, asked.1) in
    let z : (Gives Z 𝓛 𝓜.mem 𝓡.returns).Ghost = at_gives Z 𝓛 𝓜.mem 𝓡.returns κ q a.0.ref_ptr a.0.now b o (len * 4) 4 (block_type len) in
    rewrite ! 1 (λ (t : W.Denot × Ptr × ℕ). ‵ (deed_owns (g.dealloc_token t.0) t.1 t.2)) (λ j. (asked.4 j, (asked.2 ∙ e) j, asked.3 j)) refl $
    use1 𝓛 (‵ (froom (block_type (length cells.words)) b o)) (to_room 𝓛 b cells.words o) $ rewrite ! 0 (λ (k : ℕ). ‵ (froom (block_type k) b o)) asked.1 refl $
    first ! $ blocks ! $
    sets ! (is ! (of_opd ! (get_in ! (fld ! refl (stop !)) (sub ! 0 refl (whole !)))) (ap ptr_val e)) refl (tt, tt) $
    sets ! (bin ! (get ! refl) (lit ! tt) (record { fits = bytes })) refl (tt, record { fits = bytes }) $
    group ! 4 $ use1 𝓛 (raw ((Gives Z 𝓛 𝓜.mem 𝓡.returns).pre z)) (Gives-goes Z 𝓛 𝓜.mem 𝓡.returns κ q a.0.ref_ptr a.0.now (Incl-trans bounds.0 within) b o (len * 4) 4 (block_type len) (block_size len bytes) (block_align len) bytes (lit< tt)) $
    calls_at_last ! (framed 𝓤 𝓛.H 𝓜 𝓣) (Gives Z 𝓛 𝓜.mem 𝓡.returns) (met.deallocate dd) z (and_then ! (get ! refl) (and_then ! (get ! refl) (and_then ! (get ! refl) (and_then ! (lit ! tt) (no_more !))))) (λ v.
    use1 𝓛 (later (given (v ≡ vunit) (‵ (flft κ q)))) (Gives-Gives Z 𝓛 𝓜.mem 𝓡.returns κ q a.0.ref_ptr a.0.now b o (len * 4) 4 (block_type len) v) $ await ! tt $ learn ! (λ is_unit.
    lands_last ! refl (subst (λ (u : Val). Tr (has_ty ty_unit u) × WT u) (sym is_unit) (tt, tt)) $ exec ! 𝓣.C 𝓣.Λ En (after 1 fn.body) (at_ret En (T.post y)) $
    sets ! (of_opd ! (unit_lit !)) refl (tt, tt) $ returns ! (look_at ! 0 refl) $ free_all ! refl $ keep ! (0 ∷ 1 ∷ []) $ by ! out)))))))
