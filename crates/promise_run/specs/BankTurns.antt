-- The banks of a run's flash take turns, from a flash on which no bank stood.
use Rattle.std.specs.Prelude.{◌≡◌, ◌<◌, ◌≤◌, ◌+◌, ◌-◌, ◌/◌, ℕ, false, count_by}
use Rattle.block_machine.specs.nv_base.Count.{WereCounted}
use Rattle.block_machine.specs.nv_base.Geometry.{IsLegal, HasBanks}
use Rattle.memif.specs.Told.{PartTold, DeviceTold}
use Rattle.script_walks.specs.Runs.{is_found}
use Rattle.promise_blocks.specs.OverDevice.{HasStarted}
use Rattle.promise_blocks.specs.Operations.{founds}
use Rattle.promise_device.specs.Image.{attached}
use Rattle.promise_device.specs.FlashRun.{TellsBytes}
use Rattle.promise_device.specs.Wear.{is_failed}
use Rattle.promise_device.specs.Generations.{generation_of, TakeTurns, IsUnused}
use Rattle.promise_device.specs.SwitchErases.{seals, erases_first, begun_again, RestartsAreFew}
use Rattle.promise_run.specs.Run.{Run}
use Rattle.promise_run.specs.Promise.{making_of}
use Rattle.promise_run.specs.TwoFlashes.{PromiseOfEither}

-- the flash tells its bytes, and no bank stood in them when it was attached, as in a blank one
pub record BeginsUnused (r : Run) : Type 0 where
  pub tells : TellsBytes r.flash
  pub legal : IsLegal r.configuration.geometry
  pub shared : HasBanks r.configuration.geometry (making_of r.configuration).banks
  pub unused : IsUnused (making_of r.configuration) (attached r.configuration.geometry tells.first)

-- then each bank that stands at the exit has a generation in its turn, and the head of each generation was made once on its bank
abbrev pub RunsTakeTurns : Type 0
RunsTakeTurns = (r : Run) (begins : BeginsUnused r) → PromiseOfEither r → HasStarted r.history → TakeTurns (making_of r.configuration) r.flash.operations begins.tells.last

-- and the first sector of a bank was erased as often as the bank's turn came, but for failures and start-ups
abbrev pub RunsEraseFew : Type 0
RunsEraseFew =
    (r : Run) (begins : BeginsUnused r) (k : ℕ) → PromiseOfEither r → HasStarted r.history → k < (making_of r.configuration).banks
    → let m = making_of r.configuration in
    count_by (λ x. erases_first m k x.op) r.flash.operations
    ≤ seals m.banks k (generation_of m begins.tells.last) + 1 + count_by (λ x. is_failed x.answer) r.flash.operations + begun_again m false r.flash.operations

-- What the device of a run told at its end: it counted none of the faults before the run, its switches began again for few causes alone,
-- each of its start-ups but one at most has a Found, and what it counted its flash counted too.
pub record TellsRestarts (r : Run) (before : PartTold) (now : DeviceTold) : Type 0 where
  pub none : before.faults ≡ 0
  pub restarts : RestartsAreFew (making_of r.configuration) r.flash.operations now
  pub starts : now.starts ≤ founds r.history + 1
  pub faults : (n : ℕ) → WereCounted n before.faults now.first.faults → WereCounted n r.flash.entry.faults r.flash.exit.faults

-- The first sector of bank k is erased once for each of its generations, k + 1 and each N-th one behind it of N banks, once more for one
-- that is on its way, and else only where the flash counted a fault or the history tells a start-up.
pub record HasCausedErases (r : Run) (tells : TellsBytes r.flash) (k : ℕ) : Type 0 where
  pub faults : ℕ
  pub counted : WereCounted faults r.flash.entry.faults r.flash.exit.faults
  pub few : let m = making_of r.configuration in
      count_by (λ x. erases_first m k x.op) r.flash.operations ≤ (generation_of m tells.last + (m.banks - 1 - k)) / m.banks + 1 + faults + count_by is_found r.history

abbrev pub ErasesHaveCauses : Type 0
ErasesHaveCauses =
    (r : Run) (begins : BeginsUnused r) (before : PartTold) (now : DeviceTold) (k : ℕ) → PromiseOfEither r → HasStarted r.history → TellsRestarts r before now
    → k < (making_of r.configuration).banks → HasCausedErases r begins.tells k
