-- What comes next, as it is told.
use Rattle.std.specs.Prelude.{◌≡◌}
use Rattle.block_machine.specs.State.{Job, Sweep}
use Rattle.block_machine.specs.Sweeps.{sweep_result}
use Rattle.block_machine.specs.Next.{Next, PickJob, BeginSweep, PickMember, PostMember, EndSweep}
use Rattle.block_machine.specs.Next.{Nothing as NoNext}
use Rattle.nv_desk_state.specs.declared.next.NextEntry.{NextEntry}
use Rattle.nv_desk_state.specs.declared.next.NextEntry.TheVariants as next

-- it is what the machine turns to
abbrev pub IsNextEntry : NextEntry → Next → Type 0
IsNextEntry next.Nothing n = n ≡ NoNext
IsNextEntry next.PickJob n = (j : Job) × (n ≡ PickJob j)
IsNextEntry next.BeginSweep n = (sw : Sweep) × (n ≡ BeginSweep sw)
IsNextEntry (next.PickMember block) n = (sw : Sweep) × (n ≡ PickMember sw block)
IsNextEntry (next.PostMember block) n = (sw : Sweep) × (n ≡ PostMember sw block)
IsNextEntry (next.EndSweep r) n = (sw : Sweep) × (n ≡ EndSweep sw) × (r ≡ sweep_result sw)
