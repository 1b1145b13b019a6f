use Rattle.std.proofs.Common.{arith}
use Rattle.std.proofs.lemmas.List.{take_at}
use Rattle.fee_log.proofs.Soundness.{begun_sound}
use Rattle.fee_log.proofs.log.Log.append_start.Goals as goal

pub invariant_of-self : goal.invariant_of-self
invariant_of-self c =
    let r = rw (← c.self.view_is) at c.requires in
    rw (take_at c.put_flag.new.flags _ c.self.inside.flags.len (omega arith), c.put_flag.ensures, c.deref_mut.ensures.value, c.tail_begun-self-inside.ensures)
    (begun_sound _
    c.args.head c.self.invariant
    r.idle r.configured r.room)
