-- `into_slots` hands what is owned, with the pointer and the length, to `from_raw_parts`.
use mathlib.Core.Path.{◌≡◌, refl, sym, ap, ◌∙◌, subst}
use mathlib.Core.List.{List, [], ◌∷◌}
use base.Fml.{Lft, ftrue, flft}
use base.Fraction.{full_share}
use base.Logic.{emp, id⊢}
use contract.BorrowLft.{◌⊑◌, ⊑_static}
use contract.Monad.{fact, fact_i}
use contract.Running.{tables}
use denote.Builtin.{u8}
use denote.Laws.{Is, shows}
use denote.RattleType.{RattleType}
use denote.RawPtr.{ptr_val, rawptr_Lawful}
use denote.Signature.{plain}
use denote.Steps.{nothing, heard, peeks}
use denote.Triple.Call.{calls_at_last}
use denote.Triple.Clauses.{Lasts, lasts}
use denote.Triple.Spec.{triple_of}
use denote.Triple.Table.{framed}
use denote.Triple.Walked.{Stays, stay_dropped, walk_of, Goes-dropped, ends_at}
use mir.Syntax.{w64}
use mir.Val.{Val, vint}
use types.ByLocal.{alloc_all, pass_all, free_all, look_at, get, get_in, sets, lands_last, env}
use types.Kit.{‵, raw, ◌⊛◌, some, later, at_ret, ◌$◌, ◌∵◌, !, qed, drop, move, split, fsplit, join, fjoin, use0, use1, pick, await, feq_i, feq_l, flt_i, rewrite, suffices, done}
use types.Part.{whole, sub}
use types.Run.{enter, stop, fld, of_opd, no_more, and_then, first, blocks, exec, returns}
use types.Tokens.{lft_new}
use Rattle.core.proofs.mem.Facts.{says_two}
use Rattle.core.proofs.slots.Slots.TheLaws as slots
use Rattle.core.proofs.slots.Slots.from_raw_parts.Met.{met}
use Rattle.core.specs.contracts.slots.Slots as Slots
use Rattle.core.specs.contracts.slots.Slots.from_raw_parts as callee
use Rattle.std.proofs.Common.{ℕ, ◌^◌, Bool, true, Option, None, Some, IsSome}
use Rattle.std.proofs.lemmas.List.{length-replicate}
use Rattle.std.proofs.raw_atomic.Walks.{proved}
use Rattle.std.specs.Mem.Slots.Ownership.{Filled}
use Rattle.std.specs.Prelude.{length, replicate}
use Rattle.lent_flash.proofs.Bytes.{u8_laws, byte, byte_laws, word, unwraps, full_all}
use Rattle.lent_flash.proofs.lent.Lent.TheLaws as lent
use Rattle.lent_flash.proofs.lent.Lent.into_slots.Code as code
use Rattle.lent_flash.proofs.lent.Lent.into_slots.Statement.{statement}
use Rattle.lent_flash.specs.Lent.{lent_owns}
use Rattle.lent_flash.specs.contracts.lent.Lent as Lent
use Rattle.lent_flash.specs.contracts.lent.Lent.into_slots as f
use Rattle.lent_flash.specs.contracts.lent.Lent.into_slots.Key.{name as symbol}

what_is_there : {X : Type 0} (o : Option X) → IsSome o → (x : X) × (o ≡ Some x)
what_is_there None is = cc is
what_is_there (Some x) is = (x, refl)

pub into_slots_spec : {M : Type 1} → statement M
into_slots_spec 𝓤 𝓛 𝓜 𝓡 wired =
    let c = f.clauses 𝓛 𝓜.mem 𝓡.returns in let 𝓣 = tables 𝓤 𝓛.H 𝓜 𝓡 𝓡.env in let R : RattleType = Lent.the_row in let S : RattleType = Slots.the_row u8 in
    let hs : Stays f.ended.signature.params f.ended.kept = (stay_dropped (plain (λ _. R)) f.ended.kept.0, tt) in let W = walk_of 𝓛 f.ended hs c in
    proved 𝓛 f.ended hs c 𝓜 𝓡 (Goes-dropped 𝓛 0 (plain (λ _. R)) f.ended.kept.0 (λ κs x w. refl), tt) symbol code.function (code.unfolded 𝓤 𝓛.H 𝓜 𝓡 wired)
    (λ κs. ((λ l. word l.at l.length ∷ []), tt)) (λ κs. (lent.lowers.val_is, tt)) (λ κs qs bounds args g are.
    let v = args.0 in let p = v.at in let n = v.length in let w = word p n in let y : W.Ghost = ((κs, qs, bounds, args, (w ∷ [], tt)), g) in
    let typed = ((lent.the_row_laws.lawful 𝓛).typed v (w ∷ []) are.0).0 in let fits = typed.1.1.0.fits in
    qed 𝓛 ((‵ ftrue ⊛ ‵ (R.own_val v (w ∷ [])) ⊛ ‵ ftrue) ∷ raw (fact 𝓤 (IsSome v.bytes)) ∷ []) ∵ move ! (1 ∷ []) $
    heard ! (IsSome v.bytes) (λ there. let found = what_is_there v.bytes there in let xs : List ℕ = found.0 in let fs = replicate n true in
    enter ! _ _ _ _ _ $ alloc_all ! (λ l. pass_all ! refl (typed, tt) $
    sets ! (of_opd ! (get_in ! (fld ! refl (stop !)) (sub ! 0 refl (whole !)))) refl ((rawptr_Lawful 𝓛).typed p (ptr_val p ∷ []) refl).0 $
    sets ! (of_opd ! (get_in ! (fld ! refl (stop !)) (sub ! 1 refl (whole !)))) refl (tt, record { fits = fits }) $ first ! $ blocks ! $
    split ! $ lft_new ! tt (λ α. let κ : Lft = α ∷ [] in
    join ! $ move ! (1 ∷ []) $ split ! $ unwraps ! p n (w ∷ []) (lent_owns p n v.bytes) $
    rewrite ! 0 (λ (o : Option (List ℕ)). ‵ (lent_owns p n o)) found.1 refl $ fsplit ! $ feq_l ! (λ long.
    let k = triple_of 𝓛 (callee.signature byte) (callee.spec byte 𝓛 𝓜.mem 𝓡.returns) in
    let asked : k.Ghost = (((κ, tt), (full_share, tt), tt, (p, (n, tt)), (ptr_val p ∷ [], (vint w64 n ∷ [], tt))), (xs, fs)) in
    -- [the places; nothing; κ]
    use0 𝓛 (raw (fact 𝓤 ((n ≡ length xs) × (n ≡ length fs)))) (fact_i 𝓤 ((n ≡ length xs) × (n ≡ length fs)) (emp 𝓤) (sym long, sym (length-replicate n true))) $ join ! $
    use0 𝓛 (raw (fact 𝓤 (κ ⊑ byte.lives))) (fact_i 𝓤 (κ ⊑ byte.lives) (emp 𝓤) (⊑_static κ)) $ join ! $ move ! (1 ∷ []) $
    flt_i ! n (2 ^ 64) fits $ feq_i ! (List Val) (vint w64 n ∷ []) (vint w64 n ∷ []) refl $ fjoin ! $ join ! $
    feq_i ! (List Val) (ptr_val p ∷ []) (ptr_val p ∷ []) refl $ join ! $ move ! (2 ∷ 0 ∷ []) $ join ! $ join ! $ use1 𝓛 (raw (k.pre asked)) (id⊢ 𝓤 _) $
    calls_at_last ! (framed 𝓤 𝓛.H 𝓜 𝓣) k (met 𝓤 𝓛 𝓜 𝓡 (code.calls-core::slots::Slots::from_raw_parts 𝓡.env wired) byte byte_laws) asked (and_then ! (get ! refl) (and_then ! (get ! refl) (no_more !))) (λ u.
    use1 𝓛 (later (some (λ (r : S.Denot). ((‵ (flft κ full_share) ⊛ ‵ ftrue) ⊛ ‵ (S.own_val r (u ∷ [])))
    ⊛ some (λ (ls : Lasts (callee.ended byte) asked.0.0 asked.0.3). ‵ (lasts (callee.ended byte) asked.0.0 asked.0.3 ls) ⊛ raw (fact 𝓤 ((r.ptr ≡ p) × (r.len ≡ n) × (r.items ≡ xs) × (r.filled ≡ fs))))))) (id⊢ 𝓤 _) $
    await ! tt $ pick ! (λ r. split ! $ split ! $ drop ! $ peeks ! S (Is S) (shows 𝓛 S) r (u ∷ []) (λ is. let made = (((slots.the_row_laws u8 u8_laws).lawful 𝓛).typed r (u ∷ []) is).0 in
    move ! (1 ∷ []) $ pick ! (λ ls. split ! $ drop ! $ heard ! ((r.ptr ≡ p) × (r.len ≡ n) × (r.items ≡ xs) × (r.filled ≡ fs)) (λ same.
    lands_last ! refl made $ exec ! 𝓣.C 𝓣.Λ (env code.function.locals l) code.Mir.t-4 (at_ret (env code.function.locals l) (W.post y)) $
    sets ! (of_opd ! (get ! refl)) refl made $ returns ! (look_at ! 0 refl) $ free_all ! refl $
    suffices ! _ (ends_at 𝓛 f.ended hs c y u r (tt, tt) (tt, tt)) $
    says_two ! (found.1 ∙ ap Some (sym same.2), subst (λ (m : ℕ). Filled r.filled 0 m) (sym same.1) (subst (λ (gs : List Bool). Filled gs 0 n) (sym same.3) (full_all n))) $
    nothing ! $ nothing ! $ join ! $ nothing ! $ done !))))))))))
