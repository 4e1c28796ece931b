-- `allocate`: a walk that cuts the new block into empty places, and keeps the right to free it.
use Rattle.std.proofs.Common.{◌≡◌, ◌*◌, ◌^◌, ◌<◌, List, [], ◌∷◌, length, replicate, refl, sym, ap, subst, ◌∙◌, w64, arith, lit<, true, false}
use Rattle.std.specs.Prelude.{None, Ok, Err}
use Rattle.std.proofs.raw_atomic.Walks.{proved}
use lib.ListN.{length-replicate}
use base.Fml.{ftrue, flft, Incl-trans}
use contract.BorrowLft.{◌⊑◌}
use contract.Monad.{fact}
use contract.Running.{tables}
use mir.MapTy.{inst_fn}
use mir.Syntax.{Args, Body, Ty, Fn, named, a_type, ty_array, dcons, dnil}
use mir.Val.{Val, vstruct, vcons, vnil}
use mir.Raw.{raw as bare}
use prog.Memory.{size, align, capped}
use prog.Capped.{capped_is}
use prog.RawLaws.{size-raw, align-raw}
use prog.Wp.{Env, Wp, after_seq, at_return}
use types.Kit.{Post as After, any_q, ‵, raw, ◌⊛◌, later, await, at_ret, ◌$◌, ◌∵◌, !, qed, move, keep, use0, use1, use2, use3, split, join, frame, fsplit, fjoin, feq_l, flt_i, suffices, done}
use types.Part.{whole, agg}
use types.Run.{stop, fld, lit, of_opd, bin, and_then, no_more, first, exec, returns, enter, switches_on}
use types.Match.{live, vrt, in_variant}
use types.ByLocal.{alloc_all, pass_all, free_all, look_at, get, get_in, get_tag, sets, sets_last, lands_as, env}
use denote.Builtin.{RefOf, usize}
use denote.Exit.{yes}
use denote.Laws.{Is}
use denote.Param.{param, layout, bounded}
use denote.Plain.{uint_vals, uint_Tells}
use denote.RattleType.{RattleType, owns}
use denote.RawPtr.{Ptr, block_ptr}
use denote.Ref.{ShrRef, shr_vals, shr_Tells}
use denote.Signature.{plain}
use denote.Steps.{nothing, heard, owned}
use denote.Struct.Struct.{Struct, Struct-Makes}
use denote.Struct.Declared as Declared
use denote.Struct.Tuple.{Tuple}
use denote.Triple.Call.{calls_at}
use denote.Triple.Clauses.{Ended}
use denote.Triple.Table.{framed}
use denote.Triple.Walked.{Stays, walk_of, says, stay_dropped, Goes-dropped, ends_at}
use Rattle.core.specs.contracts.result.Result as RS
use Rattle.core.specs.contracts.alloc.AllocError as AE
use Rattle.core.proofs.alloc.Calls.{Al, Answer-typed, Takes, at_takes, Answered, Takes-goes, Takes-gives, answers}
use Rattle.std_alloc.proofs.RawLayout.{as_written}
use Rattle.std_alloc.proofs.ResultValues.{ok_of, err_of}
use Rattle.std_alloc.proofs.RcSteps.{Good, word-Good, first_Good}
use Rattle.std_alloc.proofs.VecSteps.Shapes.{after, head, arm_body}
use Rattle.cover_links.specs.contracts.raw.Base.{the_row as Start}
use Rattle.cover_links.specs.contracts.raw.Slots.{the_row as BlockRow}
use Rattle.cover_links.proofs.raw.Base.TheLaws.{lowered}
use Rattle.cover_links.specs.contracts.raw.Allocation as allocation
use Rattle.cover_links.specs.Ownership.{entry_type, entry_size, FitsInBlock, slots_own}
use Rattle.cover_links.proofs.NewParts.{mark, Mark, three_val, mark_made, start_made, three_made}
use Rattle.cover_links.proofs.SlotRows.{rows_of_room}
use Rattle.cover_links.specs.contracts.raw.allocate as f
use Rattle.cover_links.proofs.raw.allocate.Statement.{statement}
use Rattle.cover_links.proofs.raw.allocate.Code as code

module _ (Z : Al) where
  abbrev ended : Ended
  ended = f.ended Z.row Z.g Z.d Z.drops

  abbrev args : Args
  args = bounded (a_type ∷ []) (Z.row, tt) (dcons Z.d (dcons Z.drops dnil))

  abbrev stayed : Stays ended.signature.params ended.kept
  stayed = (stay_dropped (RefOf (0 ∷ []) tt (plain (λ _. param 0 Z.row)) (λ _. tt)) yes, (stay_dropped (plain (λ _. usize)) yes, tt))

  abbrev Three : RattleType
  Three = Tuple (Start ∷ BlockRow ∷ allocation.the_row (param 0 Z.row) Z.g ∷ [])

  abbrev Out : RattleType
  Out = RS.the_row Three AE.the_row

pub allocate_spec : {M : Type 1} → statement M
allocate_spec 𝓤 𝓛 𝓜 𝓡 wired X LX g d dd met md =
    let Z : Al = record { row = X; laws = LX; g = g; d = d; drops = dd } in
    let c = f.clauses X g d dd 𝓛 𝓜.mem 𝓡.returns in let W = walk_of 𝓛 (ended Z) (stayed Z) c in let 𝓣 = tables 𝓤 𝓛.H 𝓜 𝓡 𝓡.env in
    proved 𝓛 (ended Z) (stayed Z) c 𝓜 𝓡
    (Goes-dropped 𝓛 2 (RefOf (0 ∷ []) tt (plain (λ _. param 0 X)) (λ _. tt)) yes (λ κs x w. refl), (Goes-dropped 𝓛 2 (plain (λ _. usize)) yes (λ κs x w. refl), tt))
    (f.Key.name (args Z)) (inst_fn (args Z) code.function) (code.unfolded 𝓤 𝓛.H 𝓜 𝓡 wired (X, tt) d dd)
    (λ κs. (shr_vals, (uint_vals w64, tt))) (λ κs. (shr_Tells (named 0) κs.0 (param 0 X), (uint_Tells w64, tt))) (λ κs qs bounds a _ are.
    let κ = κs.0 in let q = qs.0 in let n = a.1.0 in let function : Fn = inst_fn (args Z) code.function in
    let vss : List Val × (List Val × Unit {0}) = (shr_vals a.0, (uint_vals w64 n, tt)) in
    let y : W.Ghost = ((κs, qs, bounds, a, vss), tt) in
    qed 𝓛 (((‵ (flft κ q) ⊛ ‵ (flft κs.1.0 qs.1.0) ⊛ ‵ ftrue) ⊛ ‵ (owns (ShrRef (named 0) κ (param 0 X) ∷ usize ∷ []) a vss)) ∷ raw (fact 𝓤 (κs.1.0 ⊑ X.lives)) ∷ raw (fact 𝓤 (FitsInBlock n)) ∷ []) ∵
    split ! $ split ! $ move ! (3 ∷ []) $ heard ! _ (λ within. move ! (3 ∷ []) $ heard ! _ (λ small. move ! (2 ∷ []) $ fsplit ! $ fsplit ! $ feq_l ! (λ same. keep ! (0 ∷ 2 ∷ 3 ∷ []) $
    -- [the handle; its token; the allocator's token]
    let bytes : n * entry_size < 2 ^ 64 = omega arith in
    let block_ty : Ty = bare (ty_array entry_type n) in
    let block_size : capped (size block_ty) ≡ n * entry_size = ap capped (size-raw (ty_array entry_type n)) ∙ capped_is (n * entry_size) bytes in
    let block_align : capped (align block_ty) ≡ 4 = ap capped (align-raw (ty_array entry_type n)) in
    enter ! _ _ _ _ _ $ alloc_all ! (λ l. pass_all ! refl ((tt, tt), ((tt, record { fits = are.1.0.1 }), tt)) $
    let En : Env 𝓤 𝓛.H = env function.locals l in
    let both : Body = head (after 2 function.body) in
    let Then : After 𝓤 𝓛.H = any_q (after_seq 𝓤 𝓛.H (Wp 𝓤 𝓛.H 𝓣.C 𝓣.Λ En (after 3 function.body) (at_return 𝓤 𝓛.H En (W.post y))) (at_return 𝓤 𝓛.H En (W.post y))) in
    let z : (Takes Z 𝓛 𝓜.mem 𝓡.returns).Ghost = at_takes Z 𝓛 𝓜.mem 𝓡.returns κ q a.0.ref_ptr a.0.now (n * entry_size) 4 block_ty in
    sets ! (bin ! (get ! refl) (lit ! tt) (record { fits = bytes })) refl (tt, record { fits = bytes }) $
    use2 𝓛 (raw ((Takes Z 𝓛 𝓜.mem 𝓡.returns).pre z)) (Takes-goes Z 𝓛 𝓜.mem 𝓡.returns κ q a.0.ref_ptr a.0.now (Incl-trans bounds.0 within) (n * entry_size) 4 block_ty block_size block_align bytes (lit< tt)) $
    calls_at ! (framed 𝓤 𝓛.H 𝓜 𝓣) (Takes Z 𝓛 𝓜.mem 𝓡.returns) (met.allocate dd) z (and_then ! (get ! refl) (and_then ! (get ! refl) (and_then ! (lit ! tt) (no_more !)))) (λ v.
    use1 𝓛 (later (raw (Answered Z 𝓛 𝓜.mem 𝓡.returns a.0.now block_ty v) ⊛ ‵ (flft κ q))) (Takes-gives Z 𝓛 𝓜.mem 𝓡.returns κ q a.0.ref_ptr a.0.now (n * entry_size) 4 block_ty v) $ await ! tt $ split ! $
    answers Z ! 𝓜.mem 𝓡.returns a.0.now block_ty v
    (λ b o e.
    let p : Ptr = block_ptr b o in
    let start : (Start).Denot = record { ptr = p } in
    let slots : (BlockRow).Denot = record { mark = record {}; at = p; slots = replicate n None } in
    let right : (allocation.the_row (param 0 X) g).Denot = record { mark = record {}; at = p; len = n; alloc = a.0.now } in
    let made : Val = three_val (lowered start) mark mark in
    let typed : Good (layout (Three Z)) made = (tt, ((tt, tt), ((tt, tt), ((tt, tt), tt)))) in
    let ok = first_Good (layout (Three Z)) made typed in
    lands_as ! e refl (Answer-typed true b o) $ first ! $ switches_on ! (get_tag ! (vrt ! refl (fld ! refl (stop !))) (whole !)) $ exec ! 𝓣.C 𝓣.Λ En (arm_body 0 both) Then $
    sets ! (of_opd ! (get_in ! (vrt ! refl (fld ! refl (stop !))) (in_variant ! 0 0 refl refl (whole !)))) refl (tt, tt) $ sets ! (of_opd ! (get ! refl)) refl (tt, tt) $
    sets ! (agg ! (and_then ! (get ! refl) (no_more !))) refl (word-Good [] p) $
    sets ! (agg ! (no_more !)) refl (tt, tt) $ sets ! (agg ! (and_then ! (get ! refl) (no_more !))) refl (tt, (tt, tt)) $
    sets ! (agg ! (no_more !)) refl (tt, tt) $ sets ! (agg ! (and_then ! (get ! refl) (no_more !))) refl (tt, (tt, tt)) $
    sets ! (agg ! (and_then ! (get ! refl) (and_then ! (get ! refl) (and_then ! (get ! refl) (no_more !))))) refl typed $
    sets_last ! (agg ! (and_then ! (lit ! tt) (and_then ! (get ! refl) (no_more !)))) refl ok $
    exec ! 𝓣.C 𝓣.Λ En (after 3 function.body) (at_ret En (W.post y)) $ sets ! (of_opd ! (get ! refl)) refl ok $
    -- [the room; the allocator's token; the handle's token; ..]
    move ! (1 ∷ []) $ use0 𝓛 (‵ ((Mark).own_val (tt, tt) (mark ∷ []))) (mark_made 𝓛) $ fjoin ! $ move ! (1 ∷ []) $
    as_written ! (ty_array entry_type n) b o $ use1 𝓛 (‵ (slots_own b o slots.slots)) (rows_of_room 𝓛 b n o) $
    flt_i ! (length slots.slots * entry_size) (2 ^ 63) (subst (λ k. k * entry_size < 2 ^ 63) (sym (length-replicate n None)) small) $ fjoin ! $
    use0 𝓛 (‵ ((Mark).own_val (tt, tt) (mark ∷ []))) (mark_made 𝓛) $ fjoin ! $ use0 𝓛 (‵ ((Start).own_val start (lowered start ∷ []))) (start_made 𝓛 p) $
    use3 𝓛 (‵ ((Three Z).own_val (start, slots, right) (made ∷ []))) (three_made 𝓛 Start BlockRow (allocation.the_row (param 0 X) g) start slots right (lowered start) mark mark) $
    use1 𝓛 (‵ ((Out Z).own_val (Ok (start, slots, right)) (live 0 (vcons made vnil) ∷ []))) (ok_of 𝓛 (Three Z) AE.the_row (start, slots, right) made) $
    returns ! (look_at ! 0 refl) $ free_all ! refl $ keep ! (0 ∷ 1 ∷ 2 ∷ []) $
    suffices ! _ (ends_at 𝓛 (ended Z) (stayed Z) c y (live 0 (vcons made vnil)) (Ok (start, slots, right)) (tt, (tt, tt)) (tt, (tt, tt))) $ says ! (refl, refl, refl, refl, refl) $
    move ! (1 ∷ 2 ∷ []) $ join ! $ frame ! $ nothing ! $ nothing ! $ fjoin ! $ nothing ! $ fjoin ! $ done !)
    (λ e.
    let Refusal : RattleType = Struct (Declared.shape AE.the_type) in
    let none : Val = live 1 (vcons (vstruct vnil) vnil) in
    lands_as ! e refl (Answer-typed false 0 0) $ first ! $ switches_on ! (get_tag ! (vrt ! refl (fld ! refl (stop !))) (whole !)) $ exec ! 𝓣.C 𝓣.Λ En (arm_body 1 both) Then $
    sets ! (of_opd ! (get_in ! (vrt ! refl (fld ! refl (stop !))) (in_variant ! 1 0 refl refl (whole !)))) refl (tt, tt) $
    sets_last ! (agg ! (and_then ! (lit ! tt) (and_then ! (get ! refl) (no_more !)))) refl (tt, (record { fits = lit< tt }, (tt, tt))) $
    exec ! 𝓣.C 𝓣.Λ En (after 3 function.body) (at_ret En (W.post y)) $ sets ! (of_opd ! (get ! refl)) refl (tt, (record { fits = lit< tt }, (tt, tt))) $
    owned ! Refusal (Is Refusal) (Struct-Makes 𝓛 (Declared.shape AE.the_type) tt) tt (vstruct vnil ∷ []) (tt, (refl, tt)) $
    use1 𝓛 (‵ ((Out Z).own_val (Err (record {})) (none ∷ []))) (err_of 𝓛 (Three Z) AE.the_row (record {}) (vstruct vnil)) $
    returns ! (look_at ! 0 refl) $ free_all ! refl $ keep ! (0 ∷ 1 ∷ 2 ∷ []) $
    suffices ! _ (ends_at 𝓛 (ended Z) (stayed Z) c y none (Err (record {})) (tt, (tt, tt)) (tt, (tt, tt))) $ says ! tt $
    move ! (1 ∷ 2 ∷ []) $ join ! $ frame ! $ nothing ! $ nothing ! $ fjoin ! $ nothing ! $ fjoin ! $ done !)))))))
