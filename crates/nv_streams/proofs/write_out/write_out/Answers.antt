use Rattle.std.proofs.Common.{◌≤◌, length, drop, arith, length-drop}
use Rattle.std.proofs.lemmas.List.{take_rest}
use Rattle.nv_streams.proofs.Sent.{Appends-more, Appends-kept}
use Rattle.nv_streams.proofs.write_out.write_out.Goals as goal
use Rattle.nv_streams.proofs.write_out.write_out.Goals.{in-Ok, in-Err}

pub loop-preserved : goal.loop-preserved
loop-preserved g c = elim c.match-write.branch [
  | in-Ok w ↦
      let bound : w.in-Ok.count ≤ length (drop c.loop.at c.args.bytes.now) = rw take_rest at w.in-Ok.ensures.bound in
      let bytes = rw take_rest at w.in-Ok.ensures.bytes in
      rw w.at-is (omega (arith, bound, c.loop.invariant.0, length-drop c.loop.at c.args.bytes.now), Appends-more _ _ _ c.args.bytes.now c.loop.at w.in-Ok.count c.loop.invariant.1 bytes)
  | in-Err w ↦ rw w.at-is (c.loop.invariant.0, Appends-kept _ _ _ _ c.loop.invariant.1 w.in-Err.ensures.bytes)
]
