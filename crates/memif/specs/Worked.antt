-- A small device, for worked cases.
use Rattle.std.specs.Prelude.{◌≡◌, ◌+◌, ℕ, Bool, true, false, List, [], ◌∷◌, Some, None}
use Rattle.nv_base.specs.declared.instance.DeviceNumber.{DeviceNumber}
use Rattle.nv_base.specs.declared.mark.Mark.TheVariants.{Content}
use Rattle.nv_base.specs.Plan.{no_planning}
use Rattle.memif.specs.declared.answer.JobResult.{JobResult}
use Rattle.memif.specs.declared.answer.JobResult.TheVariants.{JobOk, JobFailed, JobPending}
use Rattle.memif.specs.declared.run.DeviceCall.{DeviceCall}
use Rattle.memif.specs.declared.run.DeviceCall.TheVariants as call
use Rattle.memif.specs.Told.{DeviceTold, Slot, Held, Job, Open, Ended, Second, no_part, no_figures}
use Rattle.memif.specs.Clock.{When, After, CutIn, Clock, untold}
use Rattle.memif.specs.Plain.{plain_store}
use Rattle.memif.specs.Run.{Made, Known, known_of}

abbrev pub one_number : List (DeviceNumber × ℕ)
one_number = (record { 0 = 128 }, 2) ∷ []

-- a content that stands, and one that a job took
abbrev pub old_content : Held
old_content = record { mark = Content (1 ∷ 2 ∷ []); count = 6 }

abbrev pub new_content : Held
new_content = record { mark = Content (3 ∷ 4 ∷ []); count = 7 }

abbrev pub doubtful : Slot
doubtful = record { settled = old_content; doubts = new_content ∷ [] }

abbrev pub clear : Held → Slot
clear held = record { settled = held; doubts = [] }

-- not started; started, with this slot and nothing open; and with a job open
abbrev pub unstarted : DeviceTold
unstarted = plain_store one_number

abbrev pub at_rest : Slot → DeviceTold
at_rest slot = record unstarted { slots = Some (slot ∷ []); started = true }

abbrev pub the_read : Job
the_read = record { number = 128; mark = None; urgent = false }

abbrev pub the_write : Job
the_write = record { number = 128; mark = Some new_content.mark; urgent = false }

abbrev pub at_work : Job → Slot → DeviceTold
at_work job slot = record (at_rest slot) { stand = Open job; left = 1 }

-- a write that failed, and left its doubt
abbrev pub after_failure : DeviceTold
after_failure = record (at_rest doubtful) { stand = Ended JobFailed [] }

-- a write that ended well, in one operation
abbrev pub after_success : DeviceTold
after_success = record (at_rest (clear new_content)) { ops = 1 }

-- it doesn't tell any more what its numbers hold
abbrev pub silent : DeviceTold → DeviceTold
silent d = record d { slots = None }

-- one start-up more
abbrev pub started_once_more : DeviceTold → DeviceTold
started_once_more d = record d { started = true; starts = d.starts + 1 }

-- a fault is counted
abbrev pub faulty : DeviceTold → DeviceTold
faulty d = record d { first = record no_part { faults = 1; flash_faults = 1 } }

-- a power cut is planned for the operation that comes next, with none of its bytes done
abbrev pub planned : DeviceTold → DeviceTold
planned d = record d { first = record no_part { planning = record no_planning { plan = Some (record { left = 1; keep = 0 }) } } }

-- the power is off: the planned cut came, and none of its operation's bytes is done
abbrev pub without_power : DeviceTold → DeviceTold
without_power d = record d { first = record no_part { off = true; planning = record no_planning { came = 0 ∷ []; withheld = 1 } } }

-- a device of two parts, whose number is of the second one
abbrev pub of_two : DeviceTold → DeviceTold
of_two d = record d { fixed = record d.fixed { figures = record no_figures { part = Second } ∷ []; two = true } }

-- a device of two parts at work of its own, with as many faults of the second one
abbrev pub at_own_work : ℕ → DeviceTold
at_own_work faults = record (of_two (at_rest doubtful)) { switching = true; second = record no_part { faults = faults; flash_faults = faults } }

-- a clock of a flash without operations, on which the old content stands
abbrev pub finds_old : When → (ℕ → Held) → Type 0
finds_old (After k) m = (n : ℕ) → m n ≡ old_content
finds_old (CutIn k) m = ⊥

abbrev pub old_stands : Clock
old_stands = record untold { may_find = finds_old }

-- a clock on which the first operation failed
abbrev pub fails_first : Clock
fails_first = record untold { failed = λ k. k ≡ 0 }

-- a run of a write of two operations
abbrev pub behind : ℕ → DeviceTold
behind ops = record (at_rest doubtful) { ops = ops }

abbrev pub made : DeviceCall → Bool → JobResult → ℕ → Made
made c taken result ops = record { call = c; step = record { taken = taken; result = result; ops = ops }; device = behind ops }

abbrev pub writing : List Made
writing = made (call.Write (record { 0 = 128 }) (3 ∷ 4 ∷ []) false) true JobPending 0 ∷ made call.Turn false JobPending 1 ∷ made call.Turn false JobOk 2 ∷ []

abbrev pub known_before : Known
known_before = known_of (at_rest (clear old_content))
