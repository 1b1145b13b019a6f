use Rattle.std.proofs.Common.{refl, ap, arith, ◌<◌}
use Rattle.fls_model.specs.declared.call.Call.TheVariants.{Sector}
use Rattle.fls_model.specs.declared.memory.MemFlash.TheInside.{Inside}
use Rattle.fls_model.specs.Memory.{InMemory}
use Rattle.fls_model.proofs.Replay.{Changes, kept_more, asked_more}
use Rattle.fls_model.proofs.memory.MemFlashFlash.erase.Goals as goal

pub invariant_of-self : goal.invariant_of-self
invariant_of-self c =
    let n : Inside = record c.self.inside { bytes = c.erase_range.new.bytes; calls = c.keep_erase.new.calls; asked = c.count.new.asked; ops = c.count.new.ops } in
    let attached : 0 < c.self.inside.geometry.page = grind (arith, c.self.invariant.none, ap (λ (v : InMemory). v.told.geometry.sectors) c.self.view_is, c.requires.inside) in
    let changes : Changes c.self.inside n (Sector c.args.sector) = record { attached = attached; geometry = refl; first = refl; room = refl; bytes = c.erase_range.ensures.done; within = c.erase_range.ensures.within; calls = c.keep_erase.ensures; asked = c.count.ensures.asked; ops = c.count.ensures.ops; small = omega arith } in
    kept_more c.self.inside n (Sector c.args.sector) c.self.invariant changes c.erase_range.ensures.size

pub returns-clause-step : goal.returns-clause-step
returns-clause-step c =
    let n : Inside = record c.self.inside { bytes = c.erase_range.new.bytes; calls = c.keep_erase.new.calls; asked = c.count.new.asked; ops = c.count.new.ops } in
    let attached : 0 < c.self.inside.geometry.page = grind (arith, c.self.invariant.none, ap (λ (v : InMemory). v.told.geometry.sectors) c.self.view_is, c.requires.inside) in
    let changes : Changes c.self.inside n (Sector c.args.sector) = record { attached = attached; geometry = refl; first = refl; room = refl; bytes = c.erase_range.ensures.done; within = c.erase_range.ensures.within; calls = c.keep_erase.ensures; asked = c.count.ensures.asked; ops = c.count.ensures.ops; small = omega arith } in
    rw (← c.self.view_is) (asked_more c.self.inside n (Sector c.args.sector) c.self.invariant changes)
