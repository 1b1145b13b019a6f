use Rattle.std.proofs.Common.{◌<◌, length, take, arith}
use Rattle.std.proofs.lemmas.List.{take_more, length-take-le}
use Rattle.std.proofs.lemmas.Option.{slice_get_within, get_or_from_slice_get}
use Rattle.nvm_script.proofs.CountLaws.{AreCounts-one_more, HasRoom-counts}
use Rattle.nvm_script.proofs.counts.counts_of.Goals as goal
use Rattle.nvm_script.proofs.counts.counts_of.Goals.{in-Some, in_default}

pub add-requires : goal.add-requires
add-requires c = record {
  room = HasRoom-counts (take c.loop-i.i c.args.history.now.entries) c.loop-i.counts c.loop-i.invariant (omega (arith, length-take-le c.loop-i.i c.args.history.now.entries));
}

pub loop-i-preserved : goal.loop-i-preserved
loop-i-preserved c = elim c.match-entry.branch [
  | in-Some w ↦
      let at = w.in-Some.ensures in
      let within : c.loop-i.i < length c.args.history.now.entries = slice_get_within c.args.history.now.entries c.loop-i.i w.in-Some.entry.now at in
      rw (w.counts-is, w.add.ensures, take_more c.args.history.now.entries c.loop-i.i w.in-Some.entry.now within, get_or_from_slice_get c.args.history.now.entries c.loop-i.i w.in-Some.entry.now w.in-Some.entry.now at)
      (AreCounts-one_more (take c.loop-i.i c.args.history.now.entries) w.in-Some.entry.now c.loop-i.counts c.loop-i.invariant)
  | in_default w ↦ absurd (omega arith)
]
