use Rattle.std.proofs.Common.{◌≤◌, ◌+◌, List, length, Option, None}
use Rattle.block_machine.specs.State.{Job}
use Rattle.nv_desk.specs.Places.{AreHeld}
use Rattle.nv_desk.proofs.drop_jobs.drop_jobs.Given as goal

abbrev pub invariant-loop-i : goal.invariant-loop-i
invariant-loop-i l = (waiting : List Job) (held : Option Job) → AreHeld l.config l.fn.jobs waiting held l.fn.places
    → (left : List Job) × AreHeld l.config l.jobs left None l.places × (length left + l._i ≤ length l.config.blocks + 1)
