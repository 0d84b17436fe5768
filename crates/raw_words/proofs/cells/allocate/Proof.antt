-- `allocate` has a block of room, and keeps the right to free it. Assumes `Logic`.
use mathlib.Core.Path.{◌≡◌, refl}
use mathlib.Core.Bool.{true, false}
use Prim.Native.Nat.{ℕ, ◌+◌, ◌*◌, ◌<◌, ◌^◌}
use native.Mathlib.Omega.{arith}
use mathlib.Core.List.{[], ◌∷◌}
use lib.Dec.{lit<}
use base.Logic.{ent}
use base.Fml.{ftrue, flft, froom, Incl-trans}
use mir.MapTy.{inst_fn}
use mir.Syntax.{Fn, Body, named, w64}
use mir.Val.{Val, vstruct, vcons, vnil}
use prog.Wp.{Env, Wp, after_seq, at_return}
use contract.Running.{tables}
use contract.BorrowLft.{◌⊑◌}
use types.Kit.{Post as After, ⋆, any_q, ‵, raw, ◌⊛◌, later, await, at_ret, ◌$◌, ◌∵◌, !, qed, by, move, keep, use0, use1, use2, use3, split, join, fsplit, fjoin, flt_i, rewrite, suffices, frame, done}
use types.Match.{live, vrt, in_variant}
use types.Part.{whole, agg}
use types.Run.{enter, of_opd, lit, bin, stop, fld, and_then, no_more, first, exec, returns, switches_on}
use types.ByLocal.{alloc_all, pass_all, free_all, look_at, get, get_in, get_tag, sets, sets_last, lands_as, env}
use denote.Builtin.{usize, RefOf}
use denote.Exit.{yes}
use denote.Laws.{Is}
use denote.Param.{layout}
use denote.Plain.{uint_vals, uint_Tells}
use denote.RattleType.{RattleType}
use denote.RawPtr.{Ptr, block_ptr}
use denote.Ref.{ShrRef, shr_vals, shr_Tells}
use denote.Signature.{plain}
use denote.Steps.{nothing, owned}
use denote.Struct.Declared as Declared
use denote.Struct.Struct.{Struct, Struct-Makes}
use denote.Struct.Tuple.{Tuple}
use denote.Triple.Call.{calls_at}
use denote.Triple.Clauses.{Ended}
use denote.Triple.Entry.{on_entry}
use denote.Triple.Table.{framed}
use denote.Triple.Walked.{Stays, walk_of, says, stay_dropped, Goes-dropped, ends_at}
use Rattle.std.proofs.raw_atomic.Walks.{proved}
use Rattle.std.specs.Prelude.{IfOk, Ok, Err}
use Rattle.core.specs.contracts.result.Result as RS
use Rattle.core.specs.contracts.alloc.AllocError as AE
use Rattle.core.proofs.alloc.Calls.{Al, Answer-typed, Takes, at_takes, Answered, Takes-goes, Takes-gives, answers}
use Rattle.std_alloc.proofs.RcSteps.{Good, word, word-Good, first_Good}
use Rattle.std_alloc.proofs.ResultValues.{ok_of, err_of}
use Rattle.std_alloc.proofs.VecSteps.Shapes.{after, head, arm_body}
use Rattle.raw_words.specs.Ownership.{block_type, FitsBlock}
use Rattle.raw_words.specs.contracts.cells.allocate as f
use Rattle.raw_words.proofs.cells.allocate.Statement.{statement}
use Rattle.raw_words.proofs.cells.allocate.Code as code
use Rattle.raw_words.proofs.Steps.{Cr, Bs, Mark, mark, mark_made, word_made, three_val, three_of, args, P, Dd, block_size, block_align, both}

abbrev ended : Al → Ended
ended Z = f.ended Z.row Z.g Z.d Z.drops

abbrev stayed : (Z : Al) → Stays (ended Z).signature.params (ended Z).kept
stayed Z = (stay_dropped (RefOf (0 ∷ []) tt (plain (λ _. P Z)) (λ _. tt)) yes, (stay_dropped _ yes, tt))

abbrev Three : Al → RattleType
Three Z = Tuple (Bs ∷ Cr ∷ Dd Z ∷ [])

abbrev Out : Al → RattleType
Out Z = RS.the_row (Three Z) AE.the_row

pub allocate_spec : {M : Type 1} → statement M
allocate_spec 𝓤 𝓛 𝓜 𝓡 wired W LW g d dd met md =
    let Z : Al = record { row = W; laws = LW; g = g; d = d; drops = dd } in
    let c = f.clauses W g d dd 𝓛 𝓜.mem 𝓡.returns in let T = walk_of 𝓛 (ended Z) (stayed Z) c in let 𝓣 = tables 𝓤 𝓛.H 𝓜 𝓡 𝓡.env in
    let fn : Fn = inst_fn (args Z) code.function in
    proved 𝓛 (ended Z) (stayed Z) c 𝓜 𝓡
    (Goes-dropped 𝓛 2 (RefOf (0 ∷ []) tt (plain (λ _. P Z)) (λ _. tt)) yes (λ κs x w. refl), (Goes-dropped 𝓛 2 (plain (λ _. usize)) yes (λ κs x w. refl), tt))
    (f.Key.name (args Z)) fn (code.unfolded 𝓤 𝓛.H 𝓜 𝓡 wired (W, tt) d dd)
    (λ κs. (shr_vals, (uint_vals w64, tt))) (λ κs. (shr_Tells (named 0) κs.0 (P Z), (uint_Tells w64, tt)))
    (λ κs qs bounds a _ are.
    let κ = κs.0 in let q = qs.0 in let len = a.1.0 in let v₀ = shr_vals a.0 in let v₁ = uint_vals w64 len in
    let y : T.Ghost = ((κs, qs, bounds, a, (v₀, (v₁, tt))), tt) in
    both 𝓤 (κs.1.0 ⊑ W.lives) (FitsBlock len) (on_entry 𝓛 (ended Z).signature κs qs a y.0.4) (λ within asked.
    let bytes : len * 4 < 2 ^ 64 = omega arith in
    let out : (r : (Out Z).Denot) (v : Val) → IfOk r (λ t. (t.1.at ≡ t.0.ptr) × (t.1.words ≡ []) × (t.1.room ≡ len) × (t.2.at ≡ t.0.ptr) × (t.2.len ≡ len) × (t.2.alloc ≡ a.0.now))
    → ent 𝓤 (⋆ 𝓛 (‵ ((Out Z).own_val r (v ∷ [])) ∷ ‵ (flft κ q) ∷ (‵ (flft κs.1.0 qs.1.0) ⊛ ‵ ftrue) ∷ [])) (T.post y v) = λ r v given.
    qed 𝓛 (‵ ((Out Z).own_val r (v ∷ [])) ∷ ‵ (flft κ q) ∷ (‵ (flft κs.1.0 qs.1.0) ⊛ ‵ ftrue) ∷ []) ∵
    suffices ! _ (ends_at 𝓛 (ended Z) (stayed Z) c y v r (tt, (tt, tt)) (tt, (tt, tt))) $ says ! given $
    move ! (1 ∷ 2 ∷ []) $ join ! $ frame ! $ nothing ! $ nothing ! $ fjoin ! $ nothing ! $ fjoin ! $ done ! in
    qed 𝓛 (((‵ (flft κ q) ⊛ ‵ (flft κs.1.0 qs.1.0) ⊛ ‵ ftrue) ⊛ ‵ ((ShrRef (named 0) κ (P Z)).own_val a.0 v₀) ⊛ ‵ (usize.own_val len v₁) ⊛ ‵ ftrue) ∷ []) ∵
    split ! $ split ! $ move ! (2 ∷ []) $ split ! $ fsplit ! $ keep ! (1 ∷ 3 ∷ 4 ∷ []) $
    -- [what a `&` to the allocator holds; the token; the other token]
    enter ! _ _ _ _ _ $ alloc_all ! (λ l. pass_all ! refl ((tt, tt), ((tt, record { fits = are.1.0.1 }), tt)) $
    let En : Env 𝓤 𝓛.H = env fn.locals l in
    let arms : Body = head (after 2 fn.body) in
    let Then : After 𝓤 𝓛.H = any_q (after_seq 𝓤 𝓛.H (Wp 𝓤 𝓛.H 𝓣.C 𝓣.Λ En (after 3 fn.body) (at_return 𝓤 𝓛.H En (T.post y))) (at_return 𝓤 𝓛.H En (T.post y))) in
    let z : (Takes Z 𝓛 𝓜.mem 𝓡.returns).Ghost = at_takes Z 𝓛 𝓜.mem 𝓡.returns κ q a.0.ref_ptr a.0.now (len * 4) 4 (block_type len) in
    -- the bytes, and the call
    sets ! (bin ! (get ! refl) (lit ! tt) (record { fits = bytes })) refl (tt, record { fits = bytes }) $
    use2 𝓛 (raw ((Takes Z 𝓛 𝓜.mem 𝓡.returns).pre z)) (Takes-goes Z 𝓛 𝓜.mem 𝓡.returns κ q a.0.ref_ptr a.0.now (Incl-trans bounds.0 within) (len * 4) 4 (block_type len) (block_size len bytes) (block_align len) bytes (lit< tt)) $
    calls_at ! (framed 𝓤 𝓛.H 𝓜 𝓣) (Takes Z 𝓛 𝓜.mem 𝓡.returns) (met.allocate dd) z (and_then ! (get ! refl) (and_then ! (get ! refl) (and_then ! (lit ! tt) (no_more !)))) (λ v.
    use1 𝓛 (later (raw (Answered Z 𝓛 𝓜.mem 𝓡.returns a.0.now (block_type len) v) ⊛ ‵ (flft κ q))) (Takes-gives Z 𝓛 𝓜.mem 𝓡.returns κ q a.0.ref_ptr a.0.now (len * 4) 4 (block_type len) v) $ await ! tt $ split ! $
    answers Z ! 𝓜.mem 𝓡.returns a.0.now (block_type len) v
    (λ b o e.
    -- [the block; its token; the token of κ; the other token; ..]
    let p : Ptr = block_ptr b o in
    let base : Bs.Denot = record { ptr = p } in
    let cells : Cr.Denot = record { mark = record {}; at = p; words = []; room = len } in
    let deed : (Dd Z).Denot = record { mark = record {}; at = p; len = len; alloc = a.0.now } in
    let made : Val = three_val (word p) mark mark in
    let typed : Good (layout (Three Z)) made = (tt, ((tt, tt), ((tt, tt), ((tt, tt), tt)))) in
    let ok = first_Good (layout (Three Z)) made typed in
    let here : o ≡ 0 * 4 + o = omega arith in
    lands_as ! e refl (Answer-typed true b o) $ first ! $ switches_on ! (get_tag ! (vrt ! refl (fld ! refl (stop !))) (whole !)) $ exec ! 𝓣.C 𝓣.Λ En (arm_body 0 arms) Then $
    sets ! (of_opd ! (get_in ! (vrt ! refl (fld ! refl (stop !))) (in_variant ! 0 0 refl refl (whole !)))) refl (tt, tt) $ sets ! (of_opd ! (get ! refl)) refl (tt, tt) $
    sets ! (agg ! (and_then ! (get ! refl) (no_more !))) refl (word-Good [] p) $
    sets ! (agg ! (no_more !)) refl (tt, tt) $ sets ! (agg ! (and_then ! (get ! refl) (no_more !))) refl (tt, (tt, tt)) $
    sets ! (agg ! (no_more !)) refl (tt, tt) $ sets ! (agg ! (and_then ! (get ! refl) (no_more !))) refl (tt, (tt, tt)) $
    sets ! (agg ! (and_then ! (get ! refl) (and_then ! (get ! refl) (and_then ! (get ! refl) (no_more !))))) refl typed $
    sets_last ! (agg ! (and_then ! (lit ! tt) (and_then ! (get ! refl) (no_more !)))) refl ok $
    exec ! 𝓣.C 𝓣.Λ En (after 3 fn.body) (at_ret En (T.post y)) $ sets ! (of_opd ! (get ! refl)) refl ok $
    -- the deed: the mark and the token
    move ! (1 ∷ []) $ use0 𝓛 (‵ (Mark.own_val (tt, tt) (mark ∷ []))) (mark_made 𝓛) $ fjoin ! $
    -- the cells: the mark, the bound, no words, and the room
    move ! (1 ∷ []) $ rewrite ! 0 (λ (k : ℕ). ‵ (froom (block_type len) b k)) here refl $ nothing ! $ fjoin ! $
    flt_i ! ((0 + len) * 4) (2 ^ 63) (omega (arith, asked)) $ fjoin ! $
    use0 𝓛 (‵ (Mark.own_val (tt, tt) (mark ∷ []))) (mark_made 𝓛) $ fjoin ! $ word_made ! p $
    use3 𝓛 (‵ ((Three Z).own_val (base, cells, deed) (made ∷ []))) (three_of 𝓛 Bs Cr (Dd Z) base cells deed (word p) mark mark) $
    use1 𝓛 (‵ ((Out Z).own_val (Ok (base, cells, deed)) (live 0 (vcons made vnil) ∷ []))) (ok_of 𝓛 (Three Z) AE.the_row (base, cells, deed) made) $
    returns ! (look_at ! 0 refl) $ free_all ! refl $ keep ! (0 ∷ 1 ∷ 2 ∷ []) $ by ! (out (Ok (base, cells, deed)) (live 0 (vcons made vnil)) (refl, refl, refl, refl, refl, refl)))
    (λ e.
    let Refusal : RattleType = Struct (Declared.shape AE.the_type) in
    let none : Val = live 1 (vcons (vstruct vnil) vnil) in
    lands_as ! e refl (Answer-typed false 0 0) $ first ! $ switches_on ! (get_tag ! (vrt ! refl (fld ! refl (stop !))) (whole !)) $ exec ! 𝓣.C 𝓣.Λ En (arm_body 1 arms) Then $
    sets ! (of_opd ! (get_in ! (vrt ! refl (fld ! refl (stop !))) (in_variant ! 1 0 refl refl (whole !)))) refl (tt, tt) $
    sets_last ! (agg ! (and_then ! (lit ! tt) (and_then ! (get ! refl) (no_more !)))) refl (tt, (record { fits = lit< tt }, (tt, tt))) $
    exec ! 𝓣.C 𝓣.Λ En (after 3 fn.body) (at_ret En (T.post y)) $ sets ! (of_opd ! (get ! refl)) refl (tt, (record { fits = lit< tt }, (tt, tt))) $
    owned ! Refusal (Is Refusal) (Struct-Makes 𝓛 (Declared.shape AE.the_type) tt) tt (vstruct vnil ∷ []) (tt, (refl, tt)) $
    use1 𝓛 (‵ ((Out Z).own_val (Err (record {})) (none ∷ []))) (err_of 𝓛 (Three Z) AE.the_row (record {}) (vstruct vnil)) $
    returns ! (look_at ! 0 refl) $ free_all ! refl $ keep ! (0 ∷ 1 ∷ 2 ∷ []) $ by ! (out (Err (record {})) none tt))))))
