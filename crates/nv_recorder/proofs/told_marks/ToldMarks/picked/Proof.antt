-- A value of no bytes, whose ghost field is what was picked.
use mathlib.Core.Path.{refl}
use mathlib.Core.List.{[], ◌∷◌}
use base.Fml.{Fml, ftrue}
use denote.Signature.{type_at}
use mir.Val.{Val, vstruct, vnil}
use types.Kit.{‵, raw, ◌$◌, ◌∵◌, !, qed, drop, join, use0, suffices, done}
use types.Run.{no_more, returns, enter}
use types.Part.{agg}
use types.ByLocal.{alloc_all, pass_all, free_all, look_at, sets}
use denote.Steps.{nothing}
use denote.Triple.Entry.{on_entry, Res}
use denote.Triple.Walked.{says, Stays, walk_of, ends_at}
use denote.Shadow.{makes_shadow}
use Rattle.std.proofs.raw_atomic.Walks.{proved}
use Rattle.nv_recorder.specs.contracts.told_marks.ToldMarks.picked as f
use Rattle.nv_recorder.proofs.told_marks.ToldMarks.picked.Statement.{statement}
use Rattle.nv_recorder.proofs.told_marks.ToldMarks.picked.Code as code

abbrev stayed : Stays f.ended.signature.params f.ended.kept
stayed = tt

pub picked_spec : {M : Type 1} → statement M
picked_spec 𝓤 𝓛 𝓜 𝓡 wired =
    let c = f.clauses 𝓛 𝓜.mem 𝓡.returns in
    let W = walk_of 𝓛 f.ended stayed c in
    proved 𝓛 f.ended stayed c 𝓜 𝓡 tt
    f.Key.name code.function (code.unfolded 𝓤 𝓛.H 𝓜 𝓡 wired)
    (λ κs. tt) (λ κs. tt) (λ κs qs bounds a items are.
    let y : W.Ghost = ((κs, qs, bounds, a, tt), items) in
    let v : Val = vstruct vnil in
    let r : Res f.signature κs = record { items = items } in
    let O : Fml = (type_at f.signature.result κs).own_val r (v ∷ []) in
    qed 𝓛 (raw (on_entry 𝓛 f.signature κs qs a tt) ∷ ‵ ftrue ∷ []) ∵ drop ! $ drop ! $
    enter ! _ _ _ _ _ $ alloc_all ! (λ l. pass_all ! refl tt $
    sets ! (agg ! (no_more !)) refl (tt, tt) $
    returns ! (look_at ! 0 refl) $ free_all ! refl $
    suffices ! _ (ends_at 𝓛 f.ended stayed c y v r tt tt) $ says ! refl $
    use0 𝓛 (‵ O) (makes_shadow 𝓛 O ((λ vss. (tt, tt)), tt) ((tt, (refl, tt)), tt)) $
    nothing ! $ join ! $ nothing ! $ join ! $ done !))
