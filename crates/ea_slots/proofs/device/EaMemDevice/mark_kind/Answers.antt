use Rattle.std.proofs.Common.{subst}
use Rattle.memif.specs.Calls.{IsKind}
use Rattle.ea_slots.specs.Whole.{Device, told_in}
use Rattle.ea_slots.proofs.device.EaMemDevice.mark_kind.Goals as goal

pub returns : goal.returns
returns g c = subst (λ (d : Device). IsKind (told_in d) c.args.number.0 c.mark_kind.result) c.self.view_is c.mark_kind.ensures
