-- The halves of the promise of a run of callers, from what was kept while its driver made the turns.
use Rattle.std.specs.Prelude.{◌≡◌, ℕ, suc, Bool, true, false, IsTrue, List, [], ◌∷◌, None}
use Rattle.std.specs.List.{list_all}
use Rattle.block_machine.specs.nv_base.Count.{WereCounted}
use Rattle.memif.specs.Told.{Part, PartTold, DeviceTold, First}
use Rattle.memif.specs.Clock.{Clock}
use Rattle.block_machine.specs.Words.{TookRefused, Entry, Pick, Post, Off}
use Rattle.script_walks.specs.Words.{Step}
use Rattle.script_walks.specs.Looks.{Look}
use Rattle.promise_blocks.specs.OverDevice.{HasStarted, KeepsOver, is_of}
use Rattle.promise_device.specs.FlashRun.{FlashRun}
use Rattle.promise_device.specs.Reading.{Reading}
use Rattle.promise_device.specs.Bridge.{Bridges, reading_of}
use Rattle.promise_device.specs.Wear.{OperationsAreDue}
use Rattle.promise_run.specs.Run.{Run, Ran, RunsBy}
use Rattle.promise_run.specs.Promise.{Promise, making_of}
use Rattle.promise_run.specs.Halves.{BlockHalf, beyond_end}

-- an entry that tells of no refused copy
abbrev pub tells_no_refusal : Entry → Bool
tells_no_refusal (Pick block kind (TookRefused count) ops) = false
tells_no_refusal (Post block r given (suc refused) ops) = false
tells_no_refusal e = true

-- how often the power went off
abbrev pub offs_in : List Entry → ℕ
offs_in [] = 0
offs_in (Off ops ∷ es) = suc (offs_in es)
offs_in (e ∷ es) = offs_in es

-- What a run of callers keeps over any device of one part, from behind its first start-up on: it follows their programs as it
-- ended; its history keeps the device's half; no copy was refused, since no step asks for it; and no cut was planned, so each Off
-- is one that the device counted as unplanned.
pub record KeepsCallers (r : Run) (steps : List Step) (looks : List Look) (before : Part → PartTold) (now : DeviceTold) (clock : Clock) : Type 0 where
  pub course : r.course ≡ Ran steps looks
  pub alone : r.beside ≡ None
  pub uncut : r.cuts ≡ []
  pub started : HasStarted r.history
  pub order : RunsBy r.configuration r.most steps looks r.end r.history
  pub over : KeepsOver r.configuration r.most r.history before now clock
  pub no_refusal : IsTrue (list_all tells_no_refusal r.history)
  pub offs : WereCounted (offs_in r.history) (before First).planning.unplanned now.first.planning.unplanned
  -- each block is of its one part
  pub one : (block : ℕ) → is_of First now.fixed block ≡ true

-- that is the one half
abbrev pub CallersMakeHalf : Clock → Type 0
CallersMakeHalf clock =
    (r : Run) (steps : List Step) (looks : List Look) (before : Part → PartTold) (now : DeviceTold) → KeepsCallers r steps looks before now clock
    → BlockHalf r before now clock

-- The other is that of a flash without a cutter: one of which no planned cut came keeps no operation from the flash.
abbrev pub UncutBridges : Clock → Type 0
UncutBridges clock =
    (r : Reading) (f : FlashRun) (before : PartTold) (now : DeviceTold) → now.first.planning.came ≡ [] → Bridges r true f before now clock
    → Bridges r false f before now clock

-- Both make the promise of the run, over a flash that is erased when it should be.
abbrev pub CallersKeepPromise : Clock → Type 0
CallersKeepPromise clock =
    (r : Run) (steps : List Step) (looks : List Look) (before : Part → PartTold) (now : DeviceTold) → KeepsCallers r steps looks before now clock
    → now.first.planning.came ≡ [] → Bridges (reading_of (making_of r.configuration)) true r.flash (before First) now (beyond_end clock)
    → OperationsAreDue (making_of r.configuration) r.flash → Promise r
