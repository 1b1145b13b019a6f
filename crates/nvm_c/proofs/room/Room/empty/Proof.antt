-- `empty` owns nothing at null.
use mathlib.Core.Path.{refl}
use mathlib.Core.List.{[], ◌∷◌}
use base.Fml.{ftrue, feq}
use denote.Param.{layouts}
use denote.RawPtr.{Ptr, null_ptr}
use denote.Triple.Entry.{alive}
use denote.Triple.Walked.{says, walk_of, ends_at}
use mir.MapTy.{inst_fn}
use mir.Syntax.{a_type}
use types.ByLocal.{alloc_all, pass_all, free_all, look_at, sets}
use types.Kit.{‵, raw, ◌⊛◌, ◌$◌, ◌∵◌, !, qed, drop, move, split, join, feq_i, suffices, done}
use types.Part.{agg}
use types.Run.{enter, lit, no_more, and_then, returns}
use Rattle.std.proofs.raw_atomic.Walks.{proved}
use Rattle.std.specs.Prelude.{None}
use Rattle.nvm_c.proofs.OnePointer.{word, word_typed, wraps}
use Rattle.nvm_c.proofs.room.Room.empty.Code as code
use Rattle.nvm_c.proofs.room.Room.empty.Statement.{statement}
use Rattle.nvm_c.specs.contracts.room.Room.empty as f
use Rattle.nvm_c.specs.contracts.room.Room.empty.Key.{name as symbol}

pub empty_spec : {M : Type 1} → statement M
empty_spec 𝓤 𝓛 𝓜 𝓡 wired T L =
    let c = f.clauses T 𝓛 𝓜.mem 𝓡.returns in let W = walk_of 𝓛 (f.ended T) tt c in
    let given = layouts (a_type ∷ []) (T, tt) in let fn = inst_fn given code.function in
    proved 𝓛 (f.ended T) tt c 𝓜 𝓡 tt (symbol given) fn (code.unfolded 𝓤 𝓛.H 𝓜 𝓡 wired (T, tt)) (λ κs. tt) (λ κs. tt) (λ κs qs bounds a g are.
    let y : W.Ghost = ((κs, qs, bounds, a, tt), g) in
    qed 𝓛 ((raw (alive 𝓛 (f.signature T) κs qs) ⊛ ‵ ftrue) ∷ raw ((c κs a).requires g) ∷ []) ∵ move ! (1 ∷ []) $ drop ! $
    enter ! _ _ _ _ _ $ alloc_all ! (λ l. pass_all ! refl tt $
    sets ! (agg ! (and_then ! (lit ! tt) (no_more !))) refl (word_typed null_ptr) $ returns ! (look_at ! 0 refl) $ free_all ! refl $
    -- [the tokens]
    suffices ! _ (ends_at 𝓛 (f.ended T) tt c y (word null_ptr) (record { at = null_ptr; value = None }) tt tt) $ says ! refl $
    feq_i ! Ptr null_ptr null_ptr refl $ wraps ! null_ptr (feq Ptr null_ptr null_ptr) $
    move ! (1 ∷ []) $ split ! $ move ! (1 ∷ 2 ∷ []) $ join ! $ move ! (1 ∷ 0 ∷ []) $ join ! $ done !))
