use Rattle.std.proofs.Common.{refl, false, None, [], get_or}
use Rattle.memif.proofs.Plain.{blank}
use Rattle.memif.proofs.PlainCalls.{within, mark_starts, sound_after, same_mark}
use Rattle.memif.proofs.plain_store.PlainStore.take_mark.Goals as goal

pub mark-requires : goal.mark-requires
mark-requires c = within _ _ _ _ _ _ _ c.self.view_is c.args.number _ None c.self.invariant c.in_ok-place.ensures.refusal c.in_ok-place.ensures.place

pub invariant_of-self : goal.invariant_of-self
invariant_of-self c =
    let at = c.in_ok-place.ensures in
    rw c.of.ensures (sound_after _ _ _ _ _ _ _ c.self.view_is c.args.number _ None c.self.invariant at.refusal at.place false _ _ (c.mark.ensures blank) refl refl)

pub returns : goal.returns
returns c =
    let at = c.in_ok-place.ensures in
    let bytes = (get_or c.self.inside.kept.items c.in_ok-place.place blank).next.content in
    rw (same_mark c.args.kind [] bytes c.requires, c.of.ensures) (mark_starts _ _ _ _ _ _ _ c.self.view_is c.args.number _ None c.self.invariant at.refusal at.place _ _ _ (c.mark.ensures blank) refl refl)
