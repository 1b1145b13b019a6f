-- `run` hands what the handle owns to `serve`, at what the unit's device is made of, and takes it back.
use mathlib.Core.Path.{refl, sym, subst, ap, ◌∙◌}
use mathlib.Core.List.{List, [], ◌∷◌, ◌++◌}
use base.Fml.{Lft, ftrue, flft}
use base.Fraction.{full_share}
use base.Logic.{emp, ent, id⊢}
use contract.BorrowLft.{◌⊑◌}
use contract.Monad.{fact, fact_i}
use contract.Running.{tables}
use denote.Builtin.{u8}
use denote.Exit.{left}
use denote.Laws.{Is}
use denote.Param.Steps.{one_value}
use denote.Param.{layout}
use denote.RattleType.{RattleType}
use denote.RawPtr.{ptr_val, rawptr_Lawful}
use denote.Signature.{Slot, mut_slice_of, plain, named_lft}
use denote.Slice.{MutSlice, mut_slice_vals, mut_slice_Lawful, mut_slice_Tells}
use denote.Steps.{nothing, heard, only}
use denote.Struct.Tuple.{Tuple}
use denote.Triple.Call.{calls_at}
use denote.Triple.Clauses.{Lasts, lasts}
use denote.Triple.Spec.{triple_of}
use denote.Triple.Table.{framed}
use denote.Triple.Walked.{says, Stays, stay_dropped, walk_of, Goes-dropped, ends_at}
use mir.Syntax.{impl, named, tnil, dnil}
use mir.Val.{Val, vstruct, of_list}
use prog.Wp.{WpFn}
use types.ByLocal.{alloc_all, pass_all, free_all, look_at, look_in_at, get, get_in, sets, lands_as}
use types.Kit.{‵, raw, ◌⊛◌, some, later, ◌$◌, ◌∵◌, !, qed, drop, move, split, fsplit, fpick, join, use0, use1, use2, pick, await, feq_l, rewrite, suffices, done}
use types.Part.{whole, sub, agg}
use types.Run.{enter, from, stop, fld, hop, addr, of_opd, no_more, and_then, returns}
use types.Tokens.{lft_new}
use Rattle.std.proofs.Common.{Option}
use Rattle.std.proofs.alloc.Calls.{Al, handle_tells}
use Rattle.std.proofs.marker.Brand.TheLaws as brand
use Rattle.std.proofs.raw_atomic.Walks.{proved_at}
use Rattle.std_alloc.proofs.Pairs.{pair_of, pair_val, pair_Typed}
use Rattle.std_heap.proofs.Global.TheLaws as global
use Rattle.std_heap.specs.contracts.Global as Global
use Rattle.nvm_c.proofs.AsRoom.{marker, marker_laws, RoomAt, as_room, as_held, made_of, made_behind, state_behind, can_serve}
use Rattle.nvm_c.proofs.OnePointer.{word, word_typed, wraps, unwraps, tells}
use Rattle.nvm_c.proofs.handle.Handle.TheLaws as handle
use Rattle.nvm_c.proofs.handle.Handle.run.Code as code
use Rattle.nvm_c.proofs.handle.Handle.run.Statement.{statement}
use Rattle.nvm_c.proofs.work.Outcome.TheLaws as outcome
use Rattle.nvm_c.proofs.work.UnitWork.TheLaws as work
use Rattle.nvm_c.proofs.work.serve.Met.{met}
use Rattle.nvm_c.specs.Held.{Kept, CanRun, held, kept_as, origin_for, row_at, state_in}
use Rattle.nvm_c.specs.Room.{room_owns}
use Rattle.nvm_c.specs.Unit.{UnitState}
use Rattle.nvm_c.specs.Work.{CanServe, Hands, Serves}
use Rattle.nvm_c.specs.contracts.handle.Handle as Handle
use Rattle.nvm_c.specs.contracts.handle.Handle.run as f
use Rattle.nvm_c.specs.contracts.handle.Handle.run.Key.{name as symbol}
use Rattle.nvm_c.specs.contracts.work.Outcome as Outcome
use Rattle.nvm_c.specs.contracts.work.UnitWork as UnitWork
use Rattle.nvm_c.specs.contracts.work.serve as callee

abbrev outcome_al : Al
outcome_al = record { row = Outcome.the_row; laws = outcome.the_row_laws; g = record { dealloc_token = λ a σ p. ftrue }; d = impl [] tnil dnil; drops = impl [] tnil dnil }

-- where what is copied goes
abbrev into_slot : Slot 2
into_slot = mut_slice_of (1 ∷ []) tt (plain (λ _. u8))

pub run_spec : {M : Type 1} → statement M
run_spec 𝓤 𝓛 𝓜 𝓡 wired =
    let c = f.clauses 𝓛 𝓜.mem 𝓡.returns in let 𝓣 = tables 𝓤 𝓛.H 𝓜 𝓡 𝓡.env in let fn = code.function in
    let H : RattleType = Handle.the_row in let A : RattleType = Global.the_row in
    let hs : Stays f.ended.signature.params f.ended.kept = (
      stay_dropped (plain (λ _. H)) f.ended.kept.0,
      (
        stay_dropped (plain (λ _. A)) f.ended.kept.1.0,
        (
          record { fit = λ κs x w. Unit {0}; has = λ κs x w vs. left ((UnitWork.the_row (named_lft 2 0 tt κs)).exit f.ended.kept.1.1.0) x w },
          (record { fit = λ κs x w. Unit {0}; has = λ κs x w vs. left ((into_slot.row κs).exit f.ended.kept.1.1.1.0) x w }, tt),
        ),
      ),
    ) in
    let W = walk_of 𝓛 f.ended hs c in
    proved_at 𝓛 f.ended hs c 𝓜 𝓡
    (Goes-dropped 𝓛 2 (plain (λ _. H)) f.ended.kept.0 (λ κs x w. refl), (Goes-dropped 𝓛 2 (plain (λ _. A)) f.ended.kept.1.0 (λ κs x w. refl), (λ κs x w vs ok. 𝓛.laws.⇛_intro _, (λ κs x w vs ok. 𝓛.laws.⇛_intro _, tt))))
    symbol fn (code.unfolded 𝓤 𝓛.H 𝓜 𝓡 wired) (λ z are.
    let lent : Lft = z.0.0.0 in let lent_to : Lft = z.0.0.1.0 in let share = z.0.1.0 in let share_to = z.0.1.1.0 in let at = named_lft 2 0 tt z.0.0 in
    let K : RattleType = UnitWork.the_row at in let S : RattleType = MutSlice (named 1) lent_to u8 in let into = z.0.3.1.1.1.0 in let sw = mut_slice_vals into in
    let h = z.0.3.0 in let a = z.0.3.1.0 in let x = z.0.3.1.1.0 in let p = h.at in let aw = global.lowers.lowered a in
    let Y : List Val → List Val → List Val → List Val → W.Ghost = λ us vs ws ts. ((z.0.0, z.0.1, z.0.2, z.0.3, (us, (vs, (ws, (ts, tt))))), z.1) in
    let Goes : List Val → List Val → List Val → List Val → Type 1 = λ us vs ws ts. ent 𝓤 (W.pre (Y us vs ws ts)) (WpFn 𝓤 𝓛.H 𝓣.C 𝓣.Λ fn (us ++ (vs ++ (ws ++ (ts ++ [])))) (W.post (Y us vs ws ts))) in
    let into_is = mut_slice_Tells (named 1) lent_to u8 into z.0.4.1.1.1.0 are.1.1.1.0 in
    one_value (layout K) (λ ws. Goes z.0.4.0 z.0.4.1.0 ws z.0.4.1.1.1.0) z.0.4.1.1.0 (((work.the_row_laws at).lawful 𝓛).typed x z.0.4.1.1.0 are.1.1.0) (λ xw fits.
    subst (λ (us : List Val). Goes us z.0.4.1.0 (xw ∷ []) z.0.4.1.1.1.0) (sym (handle.lowers.val_is h z.0.4.0 are.0)) (
    subst (λ (vs : List Val). Goes (word p ∷ []) vs (xw ∷ []) z.0.4.1.1.1.0) (sym (global.lowers.val_is a z.0.4.1.0 are.1.0)) (subst (λ (ts : List Val). Goes (word p ∷ []) (aw ∷ []) (xw ∷ []) ts) (sym into_is) (
    let y = Y (word p ∷ []) (aw ∷ []) (xw ∷ []) sw in let o = origin_for h.kept x in let R : RattleType = RoomAt o in
    let heap_typed = ((global.the_row_laws.lawful 𝓛).typed a (aw ∷ []) (subst (λ (vs : List Val). Is A a vs) (global.lowers.val_is a z.0.4.1.0 are.1.0) are.1.0)).0 in
    let into_typed = ((mut_slice_Lawful 𝓛 (named 1) lent_to u8).typed into sw (subst (λ (ts : List Val). Is S into ts) into_is are.1.1.1.0)).0 in
    qed 𝓛 (((‵ (flft lent share) ⊛ ‵ (flft lent_to share_to) ⊛ ‵ ftrue) ⊛ ‵ (H.own_val h (word p ∷ [])) ⊛ ‵ (A.own_val a (aw ∷ [])) ⊛ ‵ (K.own_val x (xw ∷ [])) ⊛ ‵ (S.own_val into sw) ⊛ ‵ ftrue) ∷ raw (fact 𝓤 (CanRun h.kept x)) ∷ []) ∵
    move ! (1 ∷ []) $ heard ! (CanRun h.kept x) (λ can. split ! $ move ! (1 ∷ []) $ split ! $
    unwraps ! p (word p ∷ []) (held p h.kept) $ use1 𝓛 (‵ (room_owns (row_at o) p (state_in h.kept))) (as_room 𝓛 o p h.kept (made_of h.kept x)) $ wraps ! p (room_owns (row_at o) p (state_in h.kept)) $
    enter ! _ _ _ _ _ $ alloc_all ! (λ l. pass_all ! refl (word_typed p, (heap_typed, (fits, (into_typed, tt)))) $
    let ptr_typed = ((rawptr_Lawful 𝓛).typed p (ptr_val p ∷ []) refl).0 in
    sets ! (of_opd ! (get_in ! (fld ! refl (stop !)) (sub ! 0 refl (whole !)))) refl ptr_typed $ sets ! (of_opd ! (get ! refl)) refl ptr_typed $
    sets ! (agg ! (and_then ! (get ! refl) (no_more !))) refl (word_typed p) $ sets ! (of_opd ! (get ! refl)) refl fits $
    sets ! (addr ! (from ! (fld ! refl (hop ! (look_in_at ! 4 (sub ! 0 refl (whole !))) (stop !))))) refl (tt, tt) $
    sets ! (agg ! (and_then ! (get ! refl) (and_then ! (get_in ! (fld ! refl (stop !)) (sub ! 1 refl (whole !))) (no_more !)))) refl into_typed $
    -- [the room; the heap, the work, where it copies to; the tokens of what these borrow]
    move ! (1 ∷ []) $ split ! $ move ! (2 ∷ 1 ∷ []) $ join ! $ move ! (1 ∷ 0 ∷ []) $ join ! $ lft_new ! tt (λ α. let κ : Lft = α ∷ [] in
    let ended = callee.ended marker o (impl [] tnil dnil) in let k = triple_of 𝓛 (callee.signature marker o (impl [] tnil dnil)) (callee.spec marker o (impl [] tnil dnil) 𝓛 𝓜.mem 𝓡.returns) in
    let room : R.Denot = record { at = p; value = state_in h.kept } in
    let asked : k.Ghost = (((lent, (lent_to, (κ, tt))), (share, (share_to, (full_share, tt))), tt, (a, (room, (x, (into, tt)))), (aw ∷ [], (word p ∷ [], (xw ∷ [], (sw, tt))))), tt) in
    nothing ! $ move ! (1 ∷ 0 ∷ []) $ join ! $ move ! (2 ∷ []) $ split ! $ move ! (1 ∷ []) $ split ! $ move ! (0 ∷ 3 ∷ []) $ join ! $ move ! (2 ∷ 0 ∷ []) $ join ! $ move ! (1 ∷ []) $ drop ! $ join ! $
    use0 𝓛 (raw (fact 𝓤 (CanServe o.making o.entry x (state_in h.kept)))) (fact_i 𝓤 (CanServe o.making o.entry x (state_in h.kept)) (emp 𝓤) (can_serve h.kept x can)) $
    use0 𝓛 (raw (fact 𝓤 (κ ⊑ marker.lives))) (fact_i 𝓤 (κ ⊑ marker.lives) (emp 𝓤) (brand.the_within κ)) $ join ! $ move ! (1 ∷ 0 ∷ []) $ join ! $
    use1 𝓛 (raw (k.pre asked)) (id⊢ 𝓤 _) $
    calls_at ! (framed 𝓤 𝓛.H 𝓜 𝓣) k (met 𝓤 𝓛 𝓜 𝓡 (code.calls-nvm_c::work::serve 𝓡.env wired) marker marker_laws o (impl [] tnil dnil) (record {})) asked
    (and_then ! (get ! refl) (and_then ! (get ! refl) (and_then ! (get ! refl) (and_then ! (get ! refl) (no_more !))))) (λ u.
    use1 𝓛 (later (some (λ (r : R.Denot × Outcome.the_row.Denot). ((‵ (flft lent share) ⊛ ‵ (flft lent_to share_to) ⊛ ‵ (flft κ full_share) ⊛ ‵ ftrue) ⊛ ‵ ((Tuple (R ∷ Outcome.the_row ∷ [])).own_val r (u ∷ [])))
    ⊛ some (λ (ls : Lasts ended asked.0.0 asked.0.3). ‵ (lasts ended asked.0.0 asked.0.3 ls) ⊛ raw (fact 𝓤 (Serves o.making o.entry x r.1 (state_in h.kept) r.0.value × Hands x r.1 (state_in h.kept) into.now ls.1.1.1.0)))))) (id⊢ 𝓤 _) $
    await ! tt $ pick ! (λ r. split ! $ split ! $ move ! (1 ∷ 2 ∷ []) $ fpick ! (λ vss. fsplit ! $ feq_l ! (λ eu. fsplit ! $
    let q = r.0.at in let behind : Option Kept = kept_as h.kept x r.0.value in let made : H.Denot = record { at = q; kept = behind } in
    tells ! q vss.0 (room_owns (row_at o) q r.0.value) (λ er. move ! (1 ∷ []) $ fsplit ! $ handle_tells outcome_al ! r.1 vss.1.0 (λ yw ey good. move ! (1 ∷ []) $ drop ! $
    move ! (2 ∷ []) $ pick ! (λ ls. split ! $ fsplit ! $ drop ! $ fsplit ! $ drop ! $ fsplit ! $ join ! $ move ! (1 ∷ []) $ heard ! (Serves o.making o.entry x r.1 (state_in h.kept) r.0.value × Hands x r.1 (state_in h.kept) into.now ls.1.1.1.0) (λ told.
    -- [what is said of the work and of what was copied; what came of it; what lies there; the tokens]
    let q_typed = ((rawptr_Lawful 𝓛).typed q (ptr_val q ∷ []) refl).0 in
    lands_as ! (ap only (eu ∙ (λ i. vstruct (of_list (er i ++ (ey i ++ []))) ∷ []))) refl (pair_Typed (layout R) (layout Outcome.the_row) (word q) yw (word_typed q) good) $
    sets ! (of_opd ! (get_in ! (fld ! refl (fld ! refl (stop !))) (sub ! 0 refl (sub ! 0 refl (whole !))))) refl q_typed $
    sets ! (of_opd ! (get ! refl)) refl q_typed $
    sets ! (agg ! (and_then ! (get ! refl) (no_more !))) refl (word_typed q) $ sets ! (of_opd ! (get_in ! (fld ! refl (stop !)) (sub ! 1 refl (whole !)))) refl good $
    sets ! (agg ! (and_then ! (get ! refl) (and_then ! (get ! refl) (no_more !)))) refl (pair_Typed (layout H) (layout Outcome.the_row) (word q) yw (word_typed q) good) $
    returns ! (look_at ! 0 refl) $ free_all ! refl $
    move ! (2 ∷ []) $ rewrite ! 0 (λ (s : Option UnitState). ‵ (room_owns (row_at o) q s)) (sym (state_behind h.kept x r.0.value can)) refl $
    use1 𝓛 (‵ (held q behind)) (as_held 𝓛 o q behind (made_behind h.kept x r.0.value)) $ wraps ! q (held q behind) $ move ! (0 ∷ 2 ∷ []) $
    use2 𝓛 (‵ ((Tuple (H ∷ Outcome.the_row ∷ [])).own_val (made, r.1) (pair_val (word q) yw ∷ []))) (pair_of 𝓛 H Outcome.the_row made r.1 (word q) yw) $
    suffices ! _ (ends_at 𝓛 f.ended hs c y (pair_val (word q) yw) (made, r.1) (tt, (tt, (ls.1.1.0, (ls.1.1.1.0, tt)))) (tt, (tt, (tt, (tt, tt))))) $ says ! ((r.0.value, refl, told.0), told.1) $
    move ! (1 ∷ []) $ nothing ! $ join ! $ nothing ! $ join ! $ move ! (2 ∷ []) $ split ! $ move ! (1 ∷ []) $ split ! $ move ! (1 ∷ []) $ drop ! $
    nothing ! $ move ! (1 ∷ 0 ∷ []) $ join ! $ move ! (1 ∷ 0 ∷ []) $ join ! $ done !))))))))))))))))
