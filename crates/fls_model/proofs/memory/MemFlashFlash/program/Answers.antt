use Rattle.std.proofs.Common.{◌≡◌, refl, ap, subst, arith, ◌<◌}
use Rattle.fls_model.specs.declared.flash.FlashAnswer.TheVariants.{Done}
use Rattle.fls_model.specs.declared.memory.MemFlash.TheInside.{Inside}
use Rattle.fls_model.specs.Call.{op_of}
use Rattle.fls_model.specs.Memory.{InMemory}
use Rattle.fls_model.specs.MemoryInside.{in_memory_of}
use Rattle.fls_model.specs.Op.{Op}
use Rattle.fls_model.specs.Step.{IsAsked, programs}
use Rattle.fls_model.proofs.Replay.{Changes, kept_more, asked_more}
use Rattle.fls_model.proofs.memory.MemFlashFlash.program.Goals as goal

pub invariant_of-self : goal.invariant_of-self
invariant_of-self c =
    let n : Inside = record c.self.inside { bytes = c.program_range.new.bytes; calls = c.keep_program.new.calls; asked = c.count.new.asked; ops = c.count.new.ops } in
    let call = c.keep_program.ensures.call in
    let op : op_of c.self.inside.geometry call ≡ programs c.args.address c.args.page.now = c.keep_program.ensures.op c.self.inside.geometry in
    let attached : 0 < c.self.inside.geometry.page = omega (arith, ap (λ (v : InMemory). v.told.geometry.page) c.self.view_is, c.requires.attached) in
    let changes : Changes c.self.inside n call = record { attached = attached; geometry = refl; first = refl; room = refl; bytes = rw op c.program_range.ensures.done; within = rw op c.program_range.ensures.within; calls = c.keep_program.ensures.kept; asked = c.count.ensures.asked; ops = c.count.ensures.ops; small = omega arith } in
    kept_more c.self.inside n call c.self.invariant changes c.program_range.ensures.size

pub returns-clause-step : goal.returns-clause-step
returns-clause-step c =
    let n : Inside = record c.self.inside { bytes = c.program_range.new.bytes; calls = c.keep_program.new.calls; asked = c.count.new.asked; ops = c.count.new.ops } in
    let call = c.keep_program.ensures.call in
    let op : op_of c.self.inside.geometry call ≡ programs c.args.address c.args.page.now = c.keep_program.ensures.op c.self.inside.geometry in
    let attached : 0 < c.self.inside.geometry.page = omega (arith, ap (λ (v : InMemory). v.told.geometry.page) c.self.view_is, c.requires.attached) in
    let changes : Changes c.self.inside n call = record { attached = attached; geometry = refl; first = refl; room = refl; bytes = rw op c.program_range.ensures.done; within = rw op c.program_range.ensures.within; calls = c.keep_program.ensures.kept; asked = c.count.ensures.asked; ops = c.count.ensures.ops; small = omega arith } in
    rw (← c.self.view_is) (subst (λ (o : Op). IsAsked o (in_memory_of c.self.inside).told Done (in_memory_of n).told) op (asked_more c.self.inside n call c.self.invariant changes))
