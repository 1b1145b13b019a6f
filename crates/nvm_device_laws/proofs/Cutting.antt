-- What a power cut within a turn leaves.
use Rattle.std.proofs.Common.{inl, inr, ℕ, ◌≤◌, ◌<◌, ap, arith}
use Rattle.memif.specs.Told.{DeviceTold, Held}
use Rattle.memif.specs.Clock.{Clock, CutIn, ArePossible}
use Rattle.memif.specs.Calls.{Turns}
use Rattle.memif.specs.declared.answer.DeviceTurn.{DeviceTurn}
use Rattle.memif.specs.declared.answer.DeviceTurn.TheVariants as turn
use Rattle.block_machine.specs.Steps.{after}
use Rattle.promise_blocks.specs.Counts.{count_due}
use Rattle.nvm_device_laws.specs.Cuts.{CutsInATurnKeep}
use Rattle.nvm_device_laws.proofs.Pairings.{possible_stand}
use Rattle.nvm_device_laws.proofs.Moments.{keeps_marks}

-- it was possible before the turn
possible : (answer : DeviceTurn) (old : DeviceTold) (clock : Clock) (new : DeviceTold) (clock_new : Clock) → Turns answer old clock new clock_new
    → (k : ℕ) (held : ℕ → Held) → old.ops ≤ k → k < new.ops → clock_new.may_find (CutIn k) held → ArePossible old old.slots held
possible turn.Idle old clock new clock_new is k held le lt finds =
    let same = ap (λ (d : DeviceTold). d.ops) is.0.1 in absurd (omega (arith, le, lt, same))
possible turn.Worked old clock new clock_new is k held le lt finds = is.0.1.2.cut k held le lt finds
possible turn.Off old clock new clock_new is k held le lt finds = elim is.0.1.1 [
  | inl off ↦ let same = ap (λ (d : DeviceTold). d.ops) off.2 in absurd (omega (arith, le, lt, same))
  | inr cut ↦ cut.1.cut k held le lt finds
]

pub cuts_keep : (answer : DeviceTurn) (old : DeviceTold) (clock : Clock) (new : DeviceTold) (clock_new : Clock) → Turns answer old clock new clock_new
    → CutsInATurnKeep old clock new clock_new
cuts_keep answer old clock new clock_new is c cap h before has keeps k held le lt finds =
    keeps_marks c cap h held keeps.device.rules keeps.over.legal
    (possible_stand c (after c h) (count_due h keeps.base) old held old.slots (possible answer old clock new clock_new is k held le lt finds) (keeps.marks has))
