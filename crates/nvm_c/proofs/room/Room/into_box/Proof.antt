-- `into_box` hands what is owned, with the pointer, to `from_raw`.
use mathlib.Core.Path.{◌≡◌, refl, sym, ap, ◌∙◌}
use mathlib.Core.List.{List, [], ◌∷◌}
use base.Fml.{Lft, ftrue, flft}
use base.Fraction.{full_share}
use base.Logic.{emp, id⊢}
use contract.BorrowLft.{◌⊑◌, ⊑_static}
use contract.Monad.{fact, fact_i}
use contract.Running.{tables}
use denote.Exit.{no, yes}
use denote.Laws.{Is, shows}
use denote.Param.{layouts, param}
use denote.Param.Laws.{param_laws}
use denote.RattleType.{RattleType}
use denote.RawPtr.{ptr_val, rawptr_Lawful}
use denote.Signature.{plain}
use denote.Steps.{nothing, heard, peeks}
use denote.Triple.Call.{calls_at_last}
use denote.Triple.Clauses.{Lasts, lasts}
use denote.Triple.Spec.{triple_of}
use denote.Triple.Table.{framed}
use denote.Triple.Walked.{says, Stays, stay_dropped, walk_of, Goes-dropped, ends_at}
use mir.MapTy.{inst_fn}
use mir.Syntax.{a_type}
use mir.Val.{Val}
use types.ByLocal.{alloc_all, pass_all, free_all, look_at, get, get_in, sets, lands_last, env}
use types.Kit.{‵, raw, ◌⊛◌, some, later, at_ret, ◌$◌, ◌∵◌, !, qed, drop, move, split, join, use0, use1, pick, await, feq_i, rewrite, suffices, done}
use types.Part.{whole, sub}
use types.Run.{enter, stop, fld, of_opd, no_more, and_then, first, blocks, exec, returns}
use types.Tokens.{lft_new}
use Rattle.std.proofs.Common.{Option, Some, None, IsSome}
use Rattle.std.proofs.raw_atomic.Walks.{proved}
use Rattle.std_alloc.proofs.boxed.Box.TheLaws as box_laws
use Rattle.std_alloc.proofs.boxed.Box.from_raw.Met.{met}
use Rattle.std_alloc.specs.contracts.boxed.Box as Box
use Rattle.std_alloc.specs.contracts.boxed.Box.from_raw as callee
use Rattle.std_heap.proofs.GlobalAllocator.TheImpl.Met.{passed}
use Rattle.std_heap.proofs.Global.TheLaws as global
use Rattle.std_heap.specs.contracts.Global as Global
use Rattle.std_heap.specs.contracts.GlobalAllocator.TheImpl.{ghosts, dict}
use Rattle.nvm_c.proofs.AtHeap.{heap, heap_laws, heap_drop, heap_drops}
use Rattle.nvm_c.proofs.OnePointer.{word, word_typed, unwraps}
use Rattle.nvm_c.proofs.room.Room.TheLaws as room
use Rattle.nvm_c.proofs.room.Room.into_box.Code as code
use Rattle.nvm_c.proofs.room.Room.into_box.Statement.{statement}
use Rattle.nvm_c.specs.Room.{room_owns}
use Rattle.nvm_c.specs.contracts.room.Room as Room
use Rattle.nvm_c.specs.contracts.room.Room.into_box as f
use Rattle.nvm_c.specs.contracts.room.Room.into_box.Key.{name as symbol}

what_is_there : {X : Type 0} (o : Option X) → IsSome o → (x : X) × (o ≡ Some x)
what_is_there None is = cc is
what_is_there (Some x) is = (x, refl)

pub into_box_spec : {M : Type 1} → statement M
into_box_spec {M} 𝓤 𝓛 𝓜 𝓡 wired T L =
    let c = f.clauses T 𝓛 𝓜.mem 𝓡.returns in let 𝓣 = tables 𝓤 𝓛.H 𝓜 𝓡 𝓡.env in
    let given = layouts (a_type ∷ []) (T, tt) in let fn = inst_fn given code.function in
    let X = param 0 T in let B : RattleType = Box.the_row X Global.the_row ghosts in let R : RattleType = Room.the_row X in
    let hs : Stays (f.ended T).signature.params (f.ended T).kept = (stay_dropped (plain (λ _. R)) no, (stay_dropped (plain (λ _. Global.the_row)) yes, tt)) in
    let W = walk_of 𝓛 (f.ended T) hs c in
    proved 𝓛 (f.ended T) hs c 𝓜 𝓡 (Goes-dropped 𝓛 1 (plain (λ _. R)) no (λ κs x w. refl), (Goes-dropped 𝓛 1 (plain (λ _. Global.the_row)) yes (λ κs x w. refl), tt))
    (symbol given) fn (code.unfolded 𝓤 𝓛.H 𝓜 𝓡 wired (T, tt))
    (λ κs. ((λ r. word r.at ∷ []), ((λ a. global.lowers.lowered a ∷ []), tt))) (λ κs. ((room.lowers X (param_laws 0 T L)).val_is, (global.lowers.val_is, tt))) (λ κs qs bounds args g are.
    let r = args.0 in let a = args.1.0 in let p = r.at in let aw = global.lowers.lowered a in
    let y : W.Ghost = ((κs, qs, bounds, args, (word p ∷ [], (aw ∷ [], tt))), g) in
    let κ : Lft = κs.0 in let ptr_typed = ((rawptr_Lawful 𝓛).typed p (ptr_val p ∷ []) refl).0 in
    qed 𝓛 (((‵ (flft κ qs.0) ⊛ ‵ ftrue) ⊛ ‵ (R.own_val r (word p ∷ [])) ⊛ ‵ (Global.the_row.own_val a (aw ∷ [])) ⊛ ‵ ftrue) ∷ (raw (fact 𝓤 (κ ⊑ T.lives)) ⊛ raw (fact 𝓤 (IsSome r.value))) ∷ []) ∵
    enter ! _ _ _ _ _ $ alloc_all ! (λ l. pass_all ! refl (word_typed p, (((global.the_row_laws.lawful 𝓛).typed a (aw ∷ []) are.1.0).0, tt)) $
    sets ! (of_opd ! (get_in ! (fld ! refl (stop !)) (sub ! 0 refl (whole !)))) refl ptr_typed $ first ! $ blocks ! $
    move ! (1 ∷ []) $ split ! $ move ! (1 ∷ []) $ heard ! (IsSome r.value) (λ there. let found = what_is_there r.value there in let x = found.0 in
    move ! (1 ∷ []) $ split ! $ split ! $ lft_new ! tt (λ α.
    let S = callee.signature T heap ghosts dict heap_drop in let k = triple_of 𝓛 S (callee.spec T heap ghosts dict heap_drop 𝓛 𝓜.mem 𝓡.returns) in
    let asked : k.Ghost = (((κ, (α ∷ [], tt)), (qs.0, (full_share, tt)), tt, (a, (p, tt)), (aw ∷ [], (ptr_val p ∷ [], tt))), x) in
    -- [α; κ; nothing; self and the heap; what is asked of κ]
    nothing ! $ move ! (1 ∷ 0 ∷ []) $ join ! $ move ! (1 ∷ 0 ∷ []) $ join ! $ move ! (2 ∷ []) $ split ! $
    unwraps ! p (word p ∷ []) (room_owns X p r.value) $ rewrite ! 0 (λ (o : Option X.Denot). ‵ (room_owns X p o)) found.1 refl $
    -- [what lies there; the heap; the tokens; nothing; what is asked of κ]
    use0 𝓛 (raw (fact 𝓤 (α ∷ [] ⊑ heap.lives))) (fact_i 𝓤 (α ∷ [] ⊑ heap.lives) (emp 𝓤) (⊑_static (α ∷ []))) $ join ! $ move ! (4 ∷ 0 ∷ []) $ join ! $
    move ! (1 ∷ []) $ split ! $ move ! (1 ∷ []) $ feq_i ! (List Val) (ptr_val p ∷ []) (ptr_val p ∷ []) refl $ join ! $ move ! (1 ∷ 0 ∷ []) $ join ! $
    move ! (2 ∷ 0 ∷ []) $ join ! $ join ! $ use1 𝓛 (raw (k.pre asked)) (id⊢ 𝓤 _) $
    calls_at_last ! (framed 𝓤 𝓛.H 𝓜 𝓣) k
    (met 𝓤 𝓛 𝓜 𝓡 (code.calls-std_alloc::boxed::Box::from_raw 𝓡.env wired) T heap L heap_laws ghosts dict heap_drop
    (passed 𝓡.env (code.calls-std_heap::GlobalAllocator::allocate 𝓡.env wired) (code.calls-std_heap::GlobalAllocator::deallocate 𝓡.env wired) (code.calls-std_heap::GlobalAllocator::grow 𝓡.env wired) (code.calls-std_heap::GlobalAllocator::shrink 𝓡.env wired) M 𝓤 𝓛 𝓜 𝓡)
    (heap_drops 𝓡.env (code.calls-nvm_c::Destruct++none::drop 𝓡.env wired) M 𝓤 𝓛 𝓜 𝓡))
    asked (and_then ! (get ! refl) (and_then ! (get ! refl) (no_more !))) (λ u.
    use1 𝓛 (later (some (λ (b : B.Denot). ((‵ (flft κ qs.0) ⊛ ‵ (flft (α ∷ []) full_share) ⊛ ‵ ftrue) ⊛ ‵ (B.own_val b (u ∷ [])))
    ⊛ some (λ (ls : Lasts (callee.ended T heap ghosts dict heap_drop) asked.0.0 asked.0.3). ‵ (lasts (callee.ended T heap ghosts dict heap_drop) asked.0.0 asked.0.3 ls) ⊛ (raw (fact 𝓤 (b.value ≡ x)) ⊛ raw (fact 𝓤 (b.alloc ≡ a))))))) (id⊢ 𝓤 _) $
    await ! tt $ pick ! (λ b. split ! $ split ! $ split ! $ move ! (1 ∷ []) $ drop ! $ move ! (1 ∷ []) $ peeks ! B (Is B) (shows 𝓛 B) b (u ∷ []) (λ is.
    let typed = ((box_laws.the_row_laws X Global.the_row ghosts (param_laws 0 T L) global.the_row_laws).lawful 𝓛).typed b (u ∷ []) is in
    move ! (2 ∷ []) $ pick ! (λ ls. split ! $ drop ! $ split ! $ heard ! (b.value ≡ x) (λ same. drop ! $
    -- [the box; κ]
    lands_last ! refl typed.0 $ exec ! 𝓣.C 𝓣.Λ (env fn.locals l) code.Mir.t-3 (at_ret (env fn.locals l) (W.post y)) $
    sets ! (of_opd ! (get ! refl)) refl typed.0 $ returns ! (look_at ! 0 refl) $ free_all ! refl $
    suffices ! _ (ends_at 𝓛 (f.ended T) hs c y u b (tt, (tt, tt)) (tt, (tt, tt))) $ says ! (found.1 ∙ ap Some (sym same)) $
    nothing ! $ nothing ! $ join ! $ nothing ! $ join ! $ move ! (2 ∷ 3 ∷ []) $ join ! $ done !)))))))))
