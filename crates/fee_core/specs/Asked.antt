-- The next changing operation of a device.
use Rattle.std.specs.Prelude.{ℕ, List, [], ◌∷◌, take, unwrap_or, Option, Some, None}
use Rattle.fls_model.specs.declared.flash.FlashAnswer.{FlashAnswer}
use Rattle.fls_model.specs.Op.{Op}
use Rattle.fls_model.specs.Told.{Change, bytes_now}
use Rattle.fls_jobs.specs.State.{FlsState}
use Rattle.fee_format.specs.declared.rec_head.RecHead.{RecHead}
use Rattle.fee_laws.specs.fee_log.Log.{work_in}
use Rattle.fee_laws.specs.fee_log.Step.{op_of}
use Rattle.fee_course.specs.declared.course.Course.{Course}
use Rattle.fee_laws.specs.fee_switch.Banks.{BanksState}
use Rattle.fee_laws.specs.Switches.{nothing, step_op}

-- of an open switch; without one none
abbrev pub switch_op_of : BanksState → Option Course → Op
switch_op_of s None = nothing
switch_op_of s (Some c) = step_op s c

-- a record in work comes first, with the first bytes of the open job's content
abbrev pub next_op_of : BanksState → List ℕ → Option RecHead → Op
next_op_of s content None = switch_op_of s s.course
next_op_of s content (Some h) = op_of s.log (take h.length content)

abbrev pub next_op : BanksState → List ℕ → Op
next_op s content = next_op_of s content (work_in s.log.tail)

-- of what was once before it
abbrev pub change_at : List FlsState → List BanksState → List (List ℕ) → FlashAnswer → Change
change_at (f ∷ fs) (b ∷ bs) (c ∷ cs) answer = record { op = next_op b c; before = unwrap_or (bytes_now f.flash) []; answer = answer }
change_at _ _ _ answer = record { op = nothing; before = []; answer = answer }
