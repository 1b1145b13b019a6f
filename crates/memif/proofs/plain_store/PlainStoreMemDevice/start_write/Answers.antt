use Rattle.std.proofs.Common.{refl, sym, Some, length}
use Rattle.memif.proofs.Plain.{blank}
use Rattle.memif.proofs.PlainCalls.{within, mark_starts, fits, sound_after}
use Rattle.memif.proofs.plain_store.PlainStoreMemDevice.start_write.Goals as goal

pub stage-requires-clause-place : goal.stage-requires-clause-place
stage-requires-clause-place c =
    let at = c.in_ok-place.ensures in
    within _ _ _ _ _ _ _ c.self.view_is c.args.number _ (Some (length c.args.content.now)) c.self.invariant at.refusal at.place

pub stage-requires-clause-room : goal.stage-requires-clause-room
stage-requires-clause-room c =
    let at = c.in_ok-place.ensures in
    fits _ _ _ _ _ _ _ c.self.view_is c.args.number _ (Some (length c.args.content.now)) c.self.invariant at.refusal at.place _ refl

pub invariant_of-self : goal.invariant_of-self
invariant_of-self c =
    let at = c.in_ok-place.ensures in
    let room = fits _ _ _ _ _ _ _ c.self.view_is c.args.number _ (Some (length c.args.content.now)) c.self.invariant at.refusal at.place _ refl blank in
    rw c.of.ensures (sound_after _ _ _ _ _ _ _ c.self.view_is c.args.number _ (Some (length c.args.content.now)) c.self.invariant at.refusal at.place c.args.urgent _ _ (c.stage.ensures blank) refl (sym room))

pub returns : goal.returns
returns c =
    let at = c.in_ok-place.ensures in
    rw c.of.ensures (mark_starts _ _ _ _ _ _ _ c.self.view_is c.args.number _ (Some (length c.args.content.now)) c.self.invariant at.refusal at.place c.args.urgent _ _ (c.stage.ensures blank) refl refl)
