use Rattle.std.proofs.Common.{◌≡◌, ◌≤◌, ◌+◌, ◌*◌, drop}
use Rattle.block_machine.specs.Sweeps.{sweep_entries, sweep_at}
use Rattle.nv_desk_state.proofs.SweepEntries.{entries_from}
use Rattle.nv_desk_state.proofs.shares.sweep_share.Given as goal

abbrev pub invariant-loop-i : goal.invariant-loop-i
invariant-loop-i l = (l.share + entries_from l.config l.writes (l.i + 1) (drop l.i l.config.blocks) ≡ sweep_entries l.config
    (sweep_at l.config 0 l.writes)) × (l.share ≤ 2 + 4 * l.i)
