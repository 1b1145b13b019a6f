use Rattle.std.proofs.Common.{refl}
use Rattle.block_machine.specs.Words.{Off}
use Rattle.nv_desk.proofs.Drivers.{has_room, allowed_kept}
use Rattle.nv_desk.proofs.Entries.{stay_ready}
use Rattle.nv_desk.proofs.SoundDriver.{sound_off}
use Rattle.nv_desk.proofs.desk.Desk.off.Goals as goal

pub add-requires : goal.add-requires
add-requires c = (has_room c.self.inside (Off c.args.ops) c.self.invariant (rw (← c.self.view_is) at c.requires) refl).place

pub invariant_of-self : goal.invariant_of-self
invariant_of-self c =
    let d = c.self.inside in
    allowed_kept d _ _ d.places (Off c.args.ops) c.self.invariant (rw (← c.self.view_is) at c.requires) refl
    (sound_off d.config _ c.args.ops c.self.invariant.sound) c.add.ensures (c.go_off.ensures d.config _ c.self.invariant.agrees)
    (stay_ready d _ c.self.invariant refl)
