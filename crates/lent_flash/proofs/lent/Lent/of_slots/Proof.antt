-- `of_slots` takes the places apart, and owns what they owned.
use mathlib.Core.Path.{◌≡◌, refl, sym, ap, ◌∙◌}
use mathlib.Core.List.{List, [], ◌∷◌, ◌++◌}
use base.Fml.{Lft, ftrue, flft}
use base.Fraction.{full_share}
use base.Logic.{emp, id⊢}
use contract.BorrowLft.{◌⊑◌, ⊑_static}
use contract.Monad.{fact, fact_i}
use contract.Running.{tables}
use denote.Builtin.{u8, usize}
use denote.RattleType.{RattleType}
use denote.RawPtr.{Ptr, RawPtr, ptr_val, rawptr_Lawful}
use denote.Signature.{plain}
use denote.Steps.{nothing, heard, only}
use denote.Struct.Tuple.{Tuple}
use denote.Triple.Call.{calls_at}
use denote.Triple.Clauses.{Lasts, lasts}
use denote.Triple.Spec.{triple_of}
use denote.Triple.Table.{framed}
use denote.Triple.Walked.{says, Stays, stay_dropped, walk_of, Goes-dropped, ends_at}
use mir.Val.{vstruct, of_list}
use types.ByLocal.{alloc_all, pass_all, free_all, look_at, get, get_in, sets, sets_last, lands_as, env}
use types.Kit.{‵, raw, ◌⊛◌, some, later, at_ret, ◌$◌, ◌∵◌, !, qed, drop, move, split, fsplit, fpick, join, use0, use1, pick, await, feq_i, feq_l, flt_l, fjoin, rewrite, suffices, done}
use types.Part.{whole, sub, agg}
use types.Run.{enter, stop, fld, of_opd, no_more, and_then, first, blocks, exec, returns}
use types.Tokens.{lft_new}
use Rattle.core.proofs.slots.Slots.TheLaws as slots
use Rattle.core.proofs.slots.Slots.into_raw_parts.Met.{met}
use Rattle.core.specs.contracts.slots.Slots as Slots
use Rattle.core.specs.contracts.slots.Slots.into_raw_parts as callee
use Rattle.std.proofs.Common.{ℕ, Bool, Some}
use Rattle.std.proofs.raw_atomic.Walks.{proved}
use Rattle.std.specs.Mem.Slots.{IsFull}
use Rattle.std.specs.Mem.Slots.Ownership.{owned}
use Rattle.std.specs.Prelude.{length}
use Rattle.lent_flash.proofs.Bytes.{u8_laws, byte, byte_laws, word, word_typed, wraps, all_full}
use Rattle.lent_flash.proofs.lent.Lent.of_slots.Code as code
use Rattle.lent_flash.proofs.lent.Lent.of_slots.Statement.{statement}
use Rattle.lent_flash.specs.Lent.{lent_owns}
use Rattle.lent_flash.specs.contracts.lent.Lent.of_slots as f
use Rattle.lent_flash.specs.contracts.lent.Lent.of_slots.Key.{name as symbol}

pub of_slots_spec : {M : Type 1} → statement M
of_slots_spec 𝓤 𝓛 𝓜 𝓡 wired =
    let c = f.clauses 𝓛 𝓜.mem 𝓡.returns in let 𝓣 = tables 𝓤 𝓛.H 𝓜 𝓡 𝓡.env in let S : RattleType = Slots.the_row u8 in
    let hs : Stays f.ended.signature.params f.ended.kept = (stay_dropped (plain (λ _. S)) f.ended.kept.0, tt) in let W = walk_of 𝓛 f.ended hs c in
    proved 𝓛 f.ended hs c 𝓜 𝓡 (Goes-dropped 𝓛 0 (plain (λ _. S)) f.ended.kept.0 (λ κs x w. refl), tt) symbol code.function (code.unfolded 𝓤 𝓛.H 𝓜 𝓡 wired)
    (λ κs. ((λ s. word s.ptr s.len ∷ []), tt)) (λ κs. ((slots.lowers u8 u8_laws).val_is, tt)) (λ κs qs bounds args g are.
    let s = args.0 in let w = word s.ptr s.len in let y : W.Ghost = ((κs, qs, bounds, args, (w ∷ [], tt)), g) in
    let typed = word_typed s.ptr s.len s.small in let Words : RattleType = Tuple (RawPtr ∷ usize ∷ []) in
    qed 𝓛 ((‵ ftrue ⊛ ‵ (S.own_val s (w ∷ [])) ⊛ ‵ ftrue) ∷ raw (fact 𝓤 (IsFull s)) ∷ []) ∵ move ! (1 ∷ []) $ heard ! (IsFull s) (λ full.
    enter ! _ _ _ _ _ $ alloc_all ! (λ l. pass_all ! refl (typed, tt) $ first ! $ blocks ! $ sets ! (of_opd ! (get ! refl)) refl typed $
    split ! $ lft_new ! tt (λ α. let κ : Lft = α ∷ [] in
    let k = triple_of 𝓛 (callee.signature byte) (callee.spec byte 𝓛 𝓜.mem 𝓡.returns) in let asked : k.Ghost = (((κ, tt), (full_share, tt), tt, (s, tt), (w ∷ [], tt)), tt) in
    -- [κ; nothing; self]
    join ! $ join ! $ nothing ! $ use0 𝓛 (raw (fact 𝓤 (κ ⊑ byte.lives))) (fact_i 𝓤 (κ ⊑ byte.lives) (emp 𝓤) (⊑_static κ)) $ join ! $ move ! (1 ∷ 0 ∷ []) $ join ! $
    use1 𝓛 (raw (k.pre asked)) (id⊢ 𝓤 _) $
    calls_at ! (framed 𝓤 𝓛.H 𝓜 𝓣) k (met 𝓤 𝓛 𝓜 𝓡 (code.calls-core::slots::Slots::into_raw_parts 𝓡.env wired) byte byte_laws) asked (and_then ! (get ! refl) (no_more !)) (λ u.
    use1 𝓛 (later (some (λ (r : Ptr × ℕ). ((‵ (flft κ full_share) ⊛ ‵ ftrue) ⊛ ‵ (Words.own_val r (u ∷ [])))
    ⊛ some (λ (ls : Lasts (callee.ended byte) asked.0.0 asked.0.3). ‵ (lasts (callee.ended byte) asked.0.0 asked.0.3 ls) ⊛ (raw (fact 𝓤 ((r.0 ≡ s.ptr) × (r.1 ≡ s.len))) ⊛ ‵ (owned u8 s.ptr s.len s.items s.filled)))))) (id⊢ 𝓤 _) $
    await ! tt $ pick ! (λ r. split ! $ split ! $ drop ! $ fpick ! (λ vss. fsplit ! $ feq_l ! (λ eu. fsplit ! $ feq_l ! (λ ep. fsplit ! $ fsplit ! $ feq_l ! (λ en. flt_l ! (λ fits. drop ! $
    pick ! (λ ls. split ! $ drop ! $ split ! $ heard ! ((r.0 ≡ s.ptr) × (r.1 ≡ s.len)) (λ same.
    -- [the places]
    let p = r.0 in let n = r.1 in let word_is = word_typed p n fits in
    lands_as ! (ap only (eu ∙ (λ i. vstruct (of_list (ep i ++ (en i ++ []))) ∷ []))) refl word_is $
    sets ! (of_opd ! (get_in ! (fld ! refl (stop !)) (sub ! 0 refl (whole !)))) refl ((rawptr_Lawful 𝓛).typed p (ptr_val p ∷ []) refl).0 $ sets ! (of_opd ! (get_in ! (fld ! refl (stop !)) (sub ! 1 refl (whole !)))) refl (tt, record { fits = fits }) $
    sets_last ! (agg ! (and_then ! (get ! refl) (and_then ! (get ! refl) (no_more !)))) refl word_is $ exec ! 𝓣.C 𝓣.Λ (env code.function.locals l) code.Mir.t-2 (at_ret (env code.function.locals l) (W.post y)) $
    sets ! (of_opd ! (get ! refl)) refl word_is $ returns ! (look_at ! 0 refl) $ free_all ! refl $
    suffices ! _ (ends_at 𝓛 f.ended hs c y (word p n) (record { at = p; length = n; bytes = Some s.items }) (tt, tt) (tt, tt)) $ says ! refl $
    rewrite ! 0 (λ (fs : List Bool). ‵ (owned u8 s.ptr s.len s.items fs)) (all_full s.filled s.len s.ok.1 full) refl $
    feq_i ! ℕ (length s.items) s.len (sym s.ok.0) $ fjoin ! $
    rewrite ! 0 (λ (q : Ptr × ℕ). ‵ (lent_owns q.0 q.1 (Some s.items))) (λ i. (sym same.0 i, sym same.1 i)) refl $
    wraps ! p n (lent_owns p n (Some s.items)) fits $ nothing ! $ nothing ! $ join ! $ nothing ! $ done !)))))))))))))
