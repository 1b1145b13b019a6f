-- Ends of commands, and of the program.
use Rattle.std.specs.Prelude.{ℕ, Bool, true, if◌then◌else◌, List, [], ◌∷◌, Option, Some, None, Result, codes}
use Rattle.nvm_flash.specs.nv_base.Plan.{no_planning}
use Rattle.nvm_flash.specs.block_machine.Words.{Status as StatusOf}
use Rattle.nvm_flash.specs.fls_model.Told.{Told, ToldBytes}
use Rattle.nvm_flash.specs.promise_run.Cases.{blank, quiet, tells, two_callers}
use Rattle.nvm_flash.specs.promise_run.Run.{Run, RunsBy, Whole, cap}
use Rattle.nvm_lines.specs.nv_streams.Sink.{Written}
use Rattle.script_player.specs.script_walks.Words.{Step, AskStep}
use Rattle.nvm_lines.specs.declared.status.Status.{Status}
use Rattle.nvm_lines.specs.declared.status.Status.TheVariants as status
use Rattle.nvm_top.specs.Commands.{Ended, ended}
use Rattle.nvm_top.specs.Program.{ComesBack}
use Rattle.nvm_top.specs.Promised.{HasNoRun, played_call}
use Rattle.nvm_top.specs.Uds.{TellsServed}

-- a flash with these bytes and so many operations, which tells no list of them
abbrev pub holding : List ℕ → ℕ → Told
holding now ops = record (tells now None) { ops = ops }

-- a start-up on a flash of no bytes, with this exit
abbrev pub quiet_to : Told → Run
quiet_to exit = record quiet { flash = record quiet.flash { exit = exit } }

-- the flash is off, or has a cut planned, or another shape
abbrev pub off : Told
off = record quiet.flash.exit { off = true }

abbrev pub cut_planned : Told
cut_planned = record quiet.flash.exit { planning = record no_planning { plan = Some (record { left = 1; keep = 0 }) } }

abbrev pub other_shape : Told
other_shape = record quiet.flash.exit { geometry = record { page = 16; sector = 320; sectors = 1 } }

-- what is told of these bytes
abbrev pub bytes : List ℕ → ToldBytes
bytes now = record { now = now; changes = None; room = 0 }

-- nothing was written
abbrev pub nothing : Written
nothing = record { bytes = None; pieces = None }

-- a call that stopped, at whatever line, and leaves these bytes of these
abbrev pub Stopped : Status → List ℕ → List ℕ → Type 0
Stopped x old new = HasNoRun (λ y lines. Unit {0}) nothing nothing x (holding old 0) (holding new 0)

-- a call of words of no command, with what is left of its input and its flash
abbrev pub refused_with : Option (List ℕ) → Told → Status → Ended
refused_with left exit x = ended x (Some (1 ∷ [])) left 0 0 nothing nothing 0 0 (holding blank 0) exit

-- a caller's request for the status of block 2
abbrev pub asks_status : ℕ → Step
asks_status caller = record { line = 0; caller = caller; kind = AskStep (StatusOf 2) }

-- the history of two callers, as one of these steps that came to its end
abbrev pub FollowsTwo : List Step → Type 0
FollowsTwo steps = RunsBy two_callers.configuration cap steps [] Whole two_callers.history

-- no request was served before the power went off, and no cut was counted
abbrev pub IsServedOff : Type 0
IsServedOff = TellsServed quiet.configuration [] (played_call None status.PowerOff (holding blank 0) (holding blank 0) nothing nothing) status.PowerOff quiet

-- THE PROGRAM
-- the flash in the file of each path has the bytes of that path, and one operation where it is read alone
abbrev pub opened : List ℕ → Bool → Told
opened path alone = holding path (if alone then 1 else 0)

-- the words of a command on an image
abbrev pub on_image : List ℕ → List ℕ → List (List ℕ)
on_image image command = image ∷ command ∷ []

-- a call on the image file that is of these bytes ends with this status, with this flash behind it, and gives back a flash, or what opens one
abbrev pub ComesBackAs : Status → Told → Result Told (Unit {0}) → Type 0
ComesBackAs x exit back = ComesBack (λ flash. flash) tt (Some (codes "unit.img")) back x (holding (codes "unit.img") 0) exit
