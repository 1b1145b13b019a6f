use Rattle.std.proofs.Common.{◌<◌, length, sym, subst}
use Rattle.ea_told.specs.Parts.{Parts}
use Rattle.ea_slots.proofs.Places.{place_in}
use Rattle.ea_slots.proofs.parts.EaParts.turn_read.Goals as goal

pub at-requires : goal.at-requires
at-requires g c = subst (λ (x : Parts). c.args.job.place < length x.states) (sym c.self.view_is) (place_in g.O.Origin.making g.O.Origin.entry c.args.self.now c.args.job c.requires.sound c.requires.job)
