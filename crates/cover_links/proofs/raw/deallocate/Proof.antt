-- `deallocate`: a walk that makes the block of its places, whatever they hold, and hands it back.
use Rattle.std.proofs.Common.{◌≡◌, ℕ, ◌*◌, ◌^◌, ◌<◌, List, [], ◌∷◌, ◌++◌, length, refl, sym, ap, subst, ◌∙◌, w64, arith, lit<}
use Rattle.std.proofs.raw_atomic.Walks.{proved}
use lib.Dec.{T}
use base.Fml.{ftrue, froom, flft, Incl-trans}
use base.Logic.{never, id⊢}
use contract.BorrowLft.{◌⊑◌}
use contract.Monad.{fact}
use contract.Running.{tables}
use mir.MapTy.{inst_fn}
use mir.Syntax.{Args, Fn, Ty, named, a_type, ty_array, ty_unit, dcons, dnil}
use mir.Val.{Val, vunit, vstruct, of_list, has_ty, WT}
use mir.Raw.{raw as bare}
use prog.Memory.{size, align, capped}
use prog.Capped.{capped_is}
use prog.RawLaws.{size-raw, align-raw}
use prog.Wp.{Env}
use types.Kit.{‵, raw, ◌⊛◌, given, later, await, learn, at_ret, ◌$◌, ◌∵◌, !, qed, move, keep, drop, use1, split, join, group, rewrite, fsplit, fjoin, feq_i, feq_l, flt_l, suffices, done}
use types.Part.{whole, sub}
use types.Run.{stop, fld, lit, unit_lit, of_opd, bin, and_then, no_more, first, blocks, exec, returns, enter}
use types.ByLocal.{alloc_all, pass_all, free_all, look_at, get, get_in, sets, is, lands_last, env}
use denote.Builtin.{RefOf, usize}
use denote.Exit.{yes, no}
use denote.Param.{param, bounded}
use denote.Plain.{uint_vals, uint_Tells}
use denote.RattleType.{owns}
use denote.RawPtr.{Ptr, ptr_val, in_a_block}
use denote.Ref.{ShrRef, shr_vals, shr_Tells}
use denote.Signature.{plain}
use denote.Steps.{nothing, heard}
use denote.Triple.Call.{calls_at_last}
use denote.Triple.Clauses.{Ended}
use denote.Triple.Table.{framed}
use denote.Triple.Walked.{Stays, walk_of, stay_dropped, Goes-dropped, ends_at}
use Rattle.core.proofs.alloc.Calls.{Al, token, Gives, at_gives, Gives-goes, Gives-Gives, Goes-blank}
use Rattle.std_alloc.proofs.RawLayout.{as_raw}
use Rattle.std_alloc.proofs.RcSteps.{word-Good}
use Rattle.std_alloc.proofs.VecSteps.Shapes.{after}
use Rattle.cover_links.specs.contracts.raw.Base.{the_row as Start}
use Rattle.cover_links.specs.contracts.raw.Slots.{the_row as BlockRow}
use Rattle.cover_links.specs.contracts.raw.Allocation as allocation
use Rattle.cover_links.proofs.raw.Base.TheLaws as start
use Rattle.cover_links.specs.Ownership.{entry_type, entry_size, row_own, allocation_owns}
use Rattle.cover_links.proofs.NewParts.{mark}
use Rattle.cover_links.proofs.SlotRows.{room_of_rows}
use Rattle.cover_links.specs.contracts.raw.deallocate as f
use Rattle.cover_links.proofs.raw.deallocate.Statement.{statement}
use Rattle.cover_links.proofs.raw.deallocate.Code as code

module _ (Z : Al) where
  abbrev ended : Ended
  ended = f.ended Z.row Z.g Z.d Z.drops

  abbrev args : Args
  args = bounded (a_type ∷ []) (Z.row, tt) (dcons Z.d (dcons Z.drops dnil))

  abbrev stayed : Stays ended.signature.params ended.kept
  stayed =
      (stay_dropped (RefOf (0 ∷ []) tt (plain (λ _. param 0 Z.row)) (λ _. tt)) yes, (stay_dropped (plain (λ _. Start)) yes, (stay_dropped (plain (λ _. usize)) yes, (stay_dropped (plain (λ _. BlockRow)) yes, (stay_dropped (plain (λ _. allocation.the_row (param 0 Z.row) Z.g)) no, tt)))))

pub deallocate_spec : {M : Type 1} → statement M
deallocate_spec 𝓤 𝓛 𝓜 𝓡 wired X LX g d dd met md =
    let Z : Al = record { row = X; laws = LX; g = g; d = d; drops = dd } in
    let c = f.clauses X g d dd 𝓛 𝓜.mem 𝓡.returns in let W = walk_of 𝓛 (ended Z) (stayed Z) c in let 𝓣 = tables 𝓤 𝓛.H 𝓜 𝓡 𝓡.env in
    proved 𝓛 (ended Z) (stayed Z) c 𝓜 𝓡 (
      Goes-dropped 𝓛 2 (RefOf (0 ∷ []) tt (plain (λ _. param 0 X)) (λ _. tt)) yes (λ κs x w. refl),
      (
        Goes-dropped 𝓛 2 (plain (λ _. Start)) yes (λ κs x w. refl),
        (
          Goes-dropped 𝓛 2 (plain (λ _. usize)) yes (λ κs x w. refl),
          (Goes-blank 𝓛 2 (plain (λ _. BlockRow)) yes (λ κs x w. tt), (Goes-blank 𝓛 2 (plain (λ _. allocation.the_row (param 0 X) g)) no (λ κs x w. tt), tt)),
        ),
      ),
    )
    (f.Key.name (args Z)) (inst_fn (args Z) code.function) (code.unfolded 𝓤 𝓛.H 𝓜 𝓡 wired (X, tt) d dd)
    (λ κs. (shr_vals, ((λ s. start.lowered s ∷ []), (uint_vals w64, ((λ _. mark ∷ []), ((λ _. mark ∷ []), tt)))))) (λ κs. (
      shr_Tells (named 0) κs.0 (param 0 X),
      (
        (start.lowers).val_is,
        (
          uint_Tells w64,
          ((λ x vs h. h.0.1.0 ∙ ap (λ (ws : List Val). vstruct (of_list (ws ++ [])) ∷ []) h.0.1.1.0.1.0), ((λ x vs h. h.0.1.0 ∙ ap (λ (ws : List Val). vstruct (of_list (ws ++ [])) ∷ []) h.0.1.1.0.1.0), tt)),
        ),
      ),
    )) (λ κs qs bounds a _ are.
    let κ = κs.0 in let q = qs.0 in let base = a.1.0 in let n = a.1.1.0 in let slots = a.1.1.1.0 in let own = a.1.1.1.1.0 in let function : Fn = inst_fn (args Z) code.function in
    let vss : List Val × (List Val × (List Val × (List Val × (List Val × Unit {0})))) = (shr_vals a.0, (start.lowered base ∷ [], (uint_vals w64 n, (mark ∷ [], (mark ∷ [], tt))))) in
    let y : W.Ghost = ((κs, qs, bounds, a, vss), tt) in
    qed 𝓛 (((‵ (flft κ q) ⊛ ‵ (flft κs.1.0 qs.1.0) ⊛ ‵ ftrue) ⊛ ‵ (owns (ShrRef (named 0) κ (param 0 X) ∷ Start ∷ usize ∷ BlockRow ∷ allocation.the_row (param 0 X) g ∷ []) a vss)) ∷ raw (fact 𝓤 (κs.1.0 ⊑ X.lives))
    ∷ raw (fact 𝓤 ((slots.at ≡ base.ptr) × (length slots.slots ≡ n) × (own.at ≡ base.ptr) × (own.len ≡ n) × (own.alloc ≡ a.0.now))) ∷ []) ∵
    split ! $ split ! $ move ! (3 ∷ []) $ heard ! _ (λ within. move ! (3 ∷ []) $ heard ! _ (λ asked. move ! (2 ∷ []) $ fsplit ! $ fsplit ! $ feq_l ! (λ same.
    -- [the handle; the other parameters; the tokens]
    move ! (1 ∷ []) $ fsplit ! $ drop ! $ fsplit ! $ drop ! $ fsplit ! $ fsplit ! $ drop ! $ move ! (1 ∷ []) $ fsplit ! $ fsplit ! $ drop ! $ keep ! (2 ∷ 0 ∷ 3 ∷ 4 ∷ 5 ∷ []) $
    -- [the row; the allocator's token; the handle; its token; ..]
    enter ! _ _ _ _ _ $ alloc_all ! (λ l. pass_all ! refl ((tt, tt), (word-Good [] base.ptr, ((tt, record { fits = are.1.1.0.1 }), ((tt, (tt, tt)), ((tt, (tt, tt)), tt))))) $
    let En : Env 𝓤 𝓛.H = env function.locals l in
    rewrite ! 0 (λ (k : Ptr). ‵ (row_own k slots.slots)) asked.0 refl $
    in_a_block ! base.ptr (λ k. row_own k slots.slots) (id⊢ 𝓤 (never 𝓤)) (λ b o at. fsplit ! $ flt_l ! (λ fit.
    let small : n * entry_size < 2 ^ 63 = subst (λ k. k * entry_size < 2 ^ 63) asked.1 fit in let bytes : n * entry_size < 2 ^ 64 = omega arith in
    let block_ty : Ty = bare (ty_array entry_type n) in
    let block_size : capped (size block_ty) ≡ n * entry_size = ap capped (size-raw (ty_array entry_type n)) ∙ capped_is (n * entry_size) bytes in
    let block_align : capped (align block_ty) ≡ 4 = ap capped (align-raw (ty_array entry_type n)) in
    let z : (Gives Z 𝓛 𝓜.mem 𝓡.returns).Ghost = at_gives Z 𝓛 𝓜.mem 𝓡.returns κ q a.0.ref_ptr a.0.now b o (n * entry_size) 4 block_ty in
    rewrite ! 1 (λ (k : X.Denot × Ptr × ℕ). ‵ (allocation_owns (token Z k.0) k.1 k.2)) (λ j. (asked.4 j, (asked.2 ∙ at) j, asked.3 j)) refl $
    use1 𝓛 (‵ (froom (ty_array entry_type (length slots.slots)) b o)) (room_of_rows 𝓛 b slots.slots o) $
    rewrite ! 0 (λ (k : ℕ). ‵ (froom (ty_array entry_type k) b o)) asked.1 refl $ as_raw ! (ty_array entry_type n) b o $ first ! $ blocks ! $
    sets ! (is ! (of_opd ! (get_in ! (fld ! refl (stop !)) (sub ! 0 refl (whole !)))) (ap ptr_val at)) refl (tt, tt) $
    sets ! (bin ! (get ! refl) (lit ! tt) (record { fits = bytes })) refl (tt, record { fits = bytes }) $
    group ! 4 $ use1 𝓛 (raw ((Gives Z 𝓛 𝓜.mem 𝓡.returns).pre z)) (Gives-goes Z 𝓛 𝓜.mem 𝓡.returns κ q a.0.ref_ptr a.0.now (Incl-trans bounds.0 within) b o (n * entry_size) 4 block_ty block_size block_align bytes (lit< tt)) $
    calls_at_last ! (framed 𝓤 𝓛.H 𝓜 𝓣) (Gives Z 𝓛 𝓜.mem 𝓡.returns) (met.deallocate dd) z (and_then ! (get ! refl) (and_then ! (get ! refl) (and_then ! (get ! refl) (and_then ! (lit ! tt) (no_more !))))) (λ v.
    use1 𝓛 (later (given (v ≡ vunit) (‵ (flft κ q)))) (Gives-Gives Z 𝓛 𝓜.mem 𝓡.returns κ q a.0.ref_ptr a.0.now b o (n * entry_size) 4 block_ty v) $ await ! tt $ learn ! (λ given_back.
    lands_last ! refl (subst (λ (w : Val). T (has_ty ty_unit w) × WT w) (sym given_back) (tt, tt)) $ exec ! 𝓣.C 𝓣.Λ En (after 1 function.body) (at_ret En (W.post y)) $
    sets ! (of_opd ! (unit_lit !)) refl (tt, tt) $ returns ! (look_at ! 0 refl) $ free_all ! refl $ keep ! (0 ∷ 1 ∷ []) $
    suffices ! _ (ends_at 𝓛 (ended Z) (stayed Z) c y vunit tt (tt, (tt, (tt, (tt, (tt, tt))))) (tt, (tt, (tt, (tt, (tt, tt)))))) $
    join ! $ feq_i ! (List Val) (vunit ∷ []) (vunit ∷ []) refl $ nothing ! $ nothing ! $ fjoin ! $ nothing ! $ fjoin ! $ nothing ! $ fjoin ! $ nothing ! $ fjoin ! $ nothing ! $ fjoin ! $ join ! $
    move ! (1 ∷ 0 ∷ []) $ join ! $ nothing ! $ move ! (1 ∷ 0 ∷ []) $ done !)))))))))
