use Rattle.std.proofs.Common.{Bool, Ok, Some, subst}
use Rattle.nv_base.specs.declared.mark.Mark.TheVariants as mark
use Rattle.std.specs.Prelude.{length}
use Rattle.memif.specs.Calls.{Wish}
use Rattle.memif_pair.specs.Together.{Looks}
use Rattle.memif_pair.proofs.Accepting.{noted_first, noted_second, not_asked}
use Rattle.memif_pair.proofs.calls.start_write.Goals as goal

pub returns-in-Ok-true : goal.returns-in-Ok-true
returns-in-Ok-true g c =
    let w : Wish = record { job = record { number = c.args.number.0; mark = Some (mark.Content c.args.content.now); urgent = c.args.urgent }; length = Some (length c.args.content.now) } in
    let a = g.A.MemDevice.told c.args.first.now in
    let b = g.B.MemDevice.told c.args.second.now in
    noted_second w c.start_write.result c.note.result c.args.last.now c.note.new.last a (g.A.MemDevice.clock c.args.first.now) b (g.B.MemDevice.clock c.args.second.now) (g.B.MemDevice.told c.start_write.new.self) (g.B.MemDevice.clock c.start_write.new.self)
    c.note.ensures.taken c.note.ensures.last (subst (λ (s : Bool). Looks w.job.number (Ok s) a b) c.in-Ok-true.field-0-test c.in-Ok-true.ensures.looks) c.start_write.ensures c.look.ensures.first

pub returns-in-Ok-false : goal.returns-in-Ok-false
returns-in-Ok-false g c =
    let w : Wish = record { job = record { number = c.args.number.0; mark = Some (mark.Content c.args.content.now); urgent = c.args.urgent }; length = Some (length c.args.content.now) } in
    let a = g.A.MemDevice.told c.args.first.now in
    let b = g.B.MemDevice.told c.args.second.now in
    noted_first w c.start_write-in-Ok-false.result c.note-in-Ok-false.result c.args.last.now c.note-in-Ok-false.new.last a (g.A.MemDevice.clock c.args.first.now) b (g.B.MemDevice.clock c.args.second.now) (g.A.MemDevice.told c.start_write-in-Ok-false.new.self) (g.A.MemDevice.clock c.start_write-in-Ok-false.new.self)
    c.note-in-Ok-false.ensures.taken c.note-in-Ok-false.ensures.last (subst (λ (s : Bool). Looks w.job.number (Ok s) a b) c.in-Ok-false.field-0-test c.in-Ok-false.ensures.looks) c.start_write-in-Ok-false.ensures c.look.ensures.second

pub returns-in-Err : goal.returns-in-Err
returns-in-Err g c =
    not_asked (record { job = record { number = c.args.number.0; mark = Some (mark.Content c.args.content.now); urgent = c.args.urgent }; length = Some (length c.args.content.now) }) c.in-Err.refusal c.args.last.now (g.A.MemDevice.told c.args.first.now) (g.A.MemDevice.clock c.args.first.now) (g.B.MemDevice.told c.args.second.now) (g.B.MemDevice.clock c.args.second.now) c.in-Err.ensures.looks c.look.ensures.first c.look.ensures.second
