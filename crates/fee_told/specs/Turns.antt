-- What a turn of a device over banks takes of the turns that are left.
use Rattle.std.specs.Prelude.{◌≡◌, ◌⊎◌, ◌+◌, ℕ, Bool, true, false, ◌&&◌, not, IsTrue, if◌then◌else◌}
use Rattle.nv_base.specs.Count.{Rose}
use Rattle.memif.specs.declared.answer.DeviceTurn.{DeviceTurn}
use Rattle.memif.specs.declared.answer.DeviceTurn.TheVariants.{Worked}
use Rattle.memif.specs.declared.answer.JobResult.TheVariants.{JobFailed}
use Rattle.memif.specs.Told.{Stand, Open, Ended, is_open}
use Rattle.fee_image.specs.Log.{Tail, Owes}
use Rattle.fee_image.specs.Banks.{Old, NoBank, OldBank, Phase, Sealing}
use Rattle.fee_told.specs.Device.{Device, is_switching}

-- the gate of a record that was given up is owed
abbrev pub owes : Tail → Bool
owes (Owes head) = true
owes _ = false

abbrev pub owes_gate : Old → Bool
owes_gate NoBank = false
owes_gate (OldBank k head log) = owes log.tail

-- the target's gate is left, with which a switch ends
abbrev pub is_sealing : Phase → Bool
is_sealing (Sealing log) = true
is_sealing _ = false

-- Of a job that waits for a switch such a gate is counted too. The switch leaves it in the old bank.
abbrev pub gates_left : Device → Device → ℕ
gates_left d t = if is_open d.memory.stand && is_sealing d.memory.phase && not (is_switching t.memory.phase) && owes_gate d.memory.old then 1 else 0

-- a job ended with a failure
abbrev pub has_failed : Stand → Stand → Bool
has_failed (Open j) (Ended JobFailed given) = true
has_failed _ _ = false

-- A turn that works takes one of the turns that are left, unless a fault is counted or a job fails. So they are as many as come until
-- nothing is open, and no device tells of more.
abbrev pub TakesTurn : DeviceTurn → Device → Device → Type 0
TakesTurn Worked d t = Rose d.faults t.faults ⊎ IsTrue (has_failed d.memory.stand t.memory.stand) ⊎ (d.left ≡ t.left + 1 + gates_left d t)
TakesTurn _ d t = Unit {0}
