-- What a run of callers comes to.
use Rattle.std.specs.Prelude.{◌≡◌, ◌≢◌, true, not, IsTrue, List, ◌++◌, Option}
use Rattle.std.specs.List.{list_all}
use Rattle.driver_moves.specs.nv_base.Count.{WereCounted}
use Rattle.driver_moves.specs.memif.Told.{DeviceTold}
use Rattle.driver_moves.specs.memif.Clock.{Clock}
use Rattle.driver_moves.specs.block_machine.Words.{Entry}
use Rattle.driver_moves.specs.ram_blocks.declared.plain_block.PlainBlock.{PlainBlock}
use Rattle.driver_moves.specs.nv_desk.Desk.{DeskState}
use Rattle.driver_moves.specs.job_progress.Hand.{HandState}
use Rattle.driver_moves.specs.nvm_laws.Keeps.{StaysKept}
use Rattle.driver_moves.specs.nvm_core.Stack.{StackState}
use Rattle.driver_moves.specs.nvm_moves.script_walks.Words.{Step}
use Rattle.driver_moves.specs.nvm_moves.script_walks.Looks.{Look}
use Rattle.driver_moves.specs.nvm_moves.script_walks.Runs.{has_ended, is_found}
use Rattle.driver_moves.specs.promise_run.Run.{End, Whole, HistoryFull, Memory, RunsBy}
use Rattle.driver_moves.specs.promise_run.RunHalves.{offs_in, tells_no_refusal}
use Rattle.nvm_callers.specs.Added.{IsUncut}
use Rattle.driver_moves.specs.nvm_moves.Moved.{HasMoved}
use Rattle.driver_moves.specs.Driving.{seen_at}
use Rattle.nvm_callers.specs.declared.ending.Ending.{Ending}
use Rattle.nvm_callers.specs.declared.ending.Ending.TheVariants as ending

-- the end of a run whose callers ended so
abbrev pub end_of : Ending → End
end_of ending.All = Whole
end_of ending.NoRoom = HistoryFull
end_of ending.Memory = Memory

-- What was kept over any device, from a stack behind its first start-up on. The history went on, without a start-up, of which the
-- device counted none; no copy was refused. The promise stays kept, as far as the device tells what it holds. Where no power cut is
-- planned, none that was came, and each Off is a cut that was counted. Its entries have moves, one by one, that keep the law. Nothing
-- is pending at the end or the power is off, unless memory was wanting.
pub record WasRun {D : Type 0} (told : D → DeviceTold) (clock : D → Clock) (s : StackState D (List PlainBlock)) (e : Ending) (desk : DeskState) (device : D) : Type 0 where
  pub config : desk.config ≡ s.desk.config
  pub cap : desk.cap ≡ s.desk.cap
  pub more : List Entry
  pub grows : desk.entries ≡ s.desk.entries ++ more
  pub no_start : IsTrue (list_all (λ e. not (is_found e)) more)
  pub starts : (told device).starts ≡ (told s.device).starts
  pub no_refusal : IsTrue (list_all tells_no_refusal more)
  pub hand : Option HandState
  pub keeps : StaysKept s.desk s.hand (told s.device) (clock s.device) desk hand (told device) (clock device)
  pub cuts : IsUncut s.desk (told s.device)
      → IsUncut desk (told device) × WereCounted (offs_in more) (told s.device).first.planning.unplanned (told device).first.planning.unplanned
  pub moved : HasMoved true (seen_at s.desk s.hand (told s.device) (clock s.device)) (seen_at desk hand (told device) (clock device))
  pub ends : e ≢ ending.Memory → IsTrue (has_ended desk.config desk.entries)

-- The callers kept to the steps of a script, with these looks of the driver, whatever the device tells.
pub record KeepsOrder (steps : List Step) (e : Ending) (desk : DeskState) : Type 0 where
  pub looks : List Look
  pub order : RunsBy desk.config desk.cap steps looks (end_of e) desk.entries
