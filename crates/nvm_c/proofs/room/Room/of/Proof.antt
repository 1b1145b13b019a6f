-- `of` owns what the box owned, at the pointer that the box gives.
use mathlib.Core.Path.{refl, ap}
use mathlib.Core.List.{[], ◌∷◌, ◌++◌}
use base.Fml.{Lft, ftrue, flft}
use base.Logic.{ent, emp, id⊢}
use contract.BorrowLft.{◌⊑◌, ⊑_static}
use contract.Monad.{fact, fact_i}
use contract.Running.{tables}
use denote.Exit.{no}
use denote.Param.{bounded, layout, param}
use denote.Param.Laws.{param_laws}
use denote.Param.Steps.{one_value}
use denote.RattleType.{RattleType}
use denote.RawPtr.{Ptr, RawPtr, ptr_val, rawptr_Lawful}
use denote.Signature.{plain}
use denote.Steps.{nothing, only}
use denote.Triple.Call.{calls_at}
use denote.Triple.Clauses.{Lasts, lasts}
use types.Tokens.{lft_new}
use base.Fraction.{full_share}
use denote.Triple.Spec.{triple_of}
use denote.Triple.Table.{framed}
use denote.Triple.Walked.{says, Stays, stay_dropped, walk_of, ends_at}
use mir.MapTy.{inst_fn}
use mir.Syntax.{a_type, dcons, dnil}
use prog.Wp.{WpFn}
use types.ByLocal.{alloc_all, pass_all, free_all, look_at, get, sets, lands_as}
use types.Kit.{‵, raw, ◌⊛◌, some, later, ◌$◌, ◌∵◌, !, qed, drop, move, split, join, use0, use1, pick, await, feq_l, suffices, done}
use types.Part.{agg}
use types.Run.{enter, of_opd, no_more, and_then, returns}
use Rattle.std.proofs.alloc.Calls.{Goes-blank}
use Rattle.std.proofs.raw_atomic.Walks.{proved_at}
use Rattle.std.specs.Box.Ownership.{box_owns}
use Rattle.std.specs.Prelude.{Some}
use Rattle.std_alloc.proofs.boxed.Box.TheLaws as box_laws
use Rattle.std_alloc.proofs.boxed.Box.into_raw.Met.{met}
use Rattle.std_alloc.specs.contracts.boxed.Box as Box
use Rattle.std_alloc.specs.contracts.boxed.Box.into_raw as callee
use Rattle.std_heap.proofs.GlobalAllocator.TheImpl.Met.{passed}
use Rattle.std_heap.proofs.Global.TheLaws as global
use Rattle.std_heap.specs.contracts.Global as Global
use Rattle.std_heap.specs.contracts.GlobalAllocator.TheImpl.{ghosts, dict}
use Rattle.nvm_c.proofs.AtHeap.{heap, heap_laws, heap_drop, heap_drops}
use Rattle.nvm_c.proofs.OnePointer.{word, word_typed, wraps}
use Rattle.nvm_c.proofs.room.Room.of.Code as code
use Rattle.nvm_c.proofs.room.Room.of.Statement.{statement}
use Rattle.nvm_c.specs.Room.{heap_block}
use Rattle.nvm_c.specs.contracts.room.Room.of as f
use Rattle.nvm_c.specs.contracts.room.Room.of.Key.{name as symbol}

pub of_spec : {M : Type 1} → statement M
of_spec {M} 𝓤 𝓛 𝓜 𝓡 wired T L d glue =
    let c = f.clauses T d 𝓛 𝓜.mem 𝓡.returns in let 𝓣 = tables 𝓤 𝓛.H 𝓜 𝓡 𝓡.env in
    let given = bounded (a_type ∷ []) (T, tt) (dcons d dnil) in let fn = inst_fn given code.function in
    let X = param 0 T in let B : RattleType = Box.the_row X Global.the_row ghosts in let laws = box_laws.the_row_laws X Global.the_row ghosts (param_laws 0 T L) global.the_row_laws in
    let hs : Stays (f.ended T d).signature.params (f.ended T d).kept = (stay_dropped (plain (λ _. B)) no, tt) in
    let W = walk_of 𝓛 (f.ended T d) hs c in
    proved_at 𝓛 (f.ended T d) hs c 𝓜 𝓡 (Goes-blank 𝓛 1 (plain (λ _. B)) no (λ κs x f. tt), tt) (symbol given) fn (code.unfolded 𝓤 𝓛.H 𝓜 𝓡 wired (T, tt) d) (λ z are.
    let κs = z.0.0 in let qs = z.0.1 in let bounds = z.0.2 in let b = z.0.3.0 in
    one_value (layout B) (λ us. ent 𝓤 (W.pre ((κs, qs, bounds, z.0.3, (us, tt)), z.1)) (WpFn 𝓤 𝓛.H 𝓣.C 𝓣.Λ fn (us ++ []) (W.post ((κs, qs, bounds, z.0.3, (us, tt)), z.1)))) z.0.4.0 ((laws.lawful 𝓛).typed b z.0.4.0 are.0) (λ v fits.
    let y : W.Ghost = ((κs, qs, bounds, z.0.3, (v ∷ [], tt)), z.1) in
    let κ : Lft = κs.0 in let toks = ‵ (flft κ qs.0) ⊛ ‵ ftrue in
    qed 𝓛 ((toks ⊛ ‵ (B.own_val b (v ∷ [])) ⊛ ‵ ftrue) ∷ (raw (fact 𝓤 (κ ⊑ T.lives)) ⊛ ‵ ftrue) ∷ []) ∵
    enter ! _ _ _ _ _ $ alloc_all ! (λ l. pass_all ! refl (fits, tt) $ sets ! (of_opd ! (get ! refl)) refl fits $
    split ! $ split ! $ lft_new ! tt (λ α.
    let S = callee.signature T heap ghosts dict heap_drop d in let k = triple_of 𝓛 S (callee.spec T heap ghosts dict heap_drop d 𝓛 𝓜.mem 𝓡.returns) in
    let asked : k.Ghost = (((κ, (α ∷ [], tt)), (qs.0, (full_share, tt)), tt, (b, tt), (v ∷ [], tt)), tt) in
    -- [α; κ; nothing; the box; what is asked of κ]
    nothing ! $ move ! (1 ∷ 0 ∷ []) $ join ! $ move ! (1 ∷ 0 ∷ []) $ join ! $ move ! (0 ∷ 2 ∷ []) $ join ! $ move ! (2 ∷ []) $ split ! $
    use0 𝓛 (raw (fact 𝓤 (α ∷ [] ⊑ heap.lives))) (fact_i 𝓤 (α ∷ [] ⊑ heap.lives) (emp 𝓤) (⊑_static (α ∷ []))) $
    move ! (0 ∷ 2 ∷ []) $ join ! $ move ! (1 ∷ 0 ∷ []) $ join ! $ move ! (1 ∷ 0 ∷ []) $ join ! $ use1 𝓛 (raw (k.pre asked)) (id⊢ 𝓤 _) $
    calls_at ! (framed 𝓤 𝓛.H 𝓜 𝓣) k
    (met 𝓤 𝓛 𝓜 𝓡 (code.calls-std_alloc::boxed::Box::into_raw 𝓡.env wired) T heap L heap_laws ghosts dict heap_drop d
    (passed 𝓡.env (code.calls-std_heap::GlobalAllocator::allocate 𝓡.env wired) (code.calls-std_heap::GlobalAllocator::deallocate 𝓡.env wired) (code.calls-std_heap::GlobalAllocator::grow 𝓡.env wired) (code.calls-std_heap::GlobalAllocator::shrink 𝓡.env wired) M 𝓤 𝓛 𝓜 𝓡)
    (heap_drops 𝓡.env (code.calls-nvm_c::Destruct++none::drop 𝓡.env wired) M 𝓤 𝓛 𝓜 𝓡) glue)
    asked (and_then ! (get ! refl) (no_more !)) (λ u.
    use1 𝓛 (later (some (λ (p : Ptr). ((‵ (flft κ qs.0) ⊛ ‵ (flft (α ∷ []) full_share) ⊛ ‵ ftrue) ⊛ ‵ (RawPtr.own_val p (u ∷ [])))
    ⊛ some (λ (ls : Lasts (callee.ended T heap ghosts dict heap_drop d) asked.0.0 asked.0.3). ‵ (lasts (callee.ended T heap ghosts dict heap_drop d) asked.0.0 asked.0.3 ls) ⊛ ‵ (box_owns heap_block X p b.value))))) (id⊢ 𝓤 _) $
    await ! tt $ pick ! (λ p. split ! $ split ! $ split ! $ move ! (1 ∷ []) $ drop ! $ move ! (1 ∷ []) $ feq_l ! (λ is. move ! (1 ∷ []) $ pick ! (λ ls. split ! $ drop ! $
    -- [what lies there; κ]
    let typed = ((rawptr_Lawful 𝓛).typed p (ptr_val p ∷ []) refl).0 in
    lands_as ! (ap only is) refl typed $ sets ! (agg ! (and_then ! (get ! refl) (no_more !))) refl (word_typed p) $ returns ! (look_at ! 0 refl) $ free_all ! refl $
    suffices ! _ (ends_at 𝓛 (f.ended T d) hs c y (word p) (record { at = p; value = Some b.value }) (tt, tt) (tt, tt)) $ says ! refl $
    wraps ! p (box_owns heap_block X p b.value) $ nothing ! $ nothing ! $ join ! $ move ! (2 ∷ 3 ∷ []) $ join ! $ done !))))))))
