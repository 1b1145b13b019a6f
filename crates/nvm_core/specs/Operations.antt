-- What turns do to the operations that are made, and to the turns that are left of what is open at the device.
use Rattle.std.specs.Prelude.{◌≡◌, ◌⊎◌, ◌≤◌, ◌+◌, ◌*◌, ℕ, Bool, true, false, if◌then◌else◌, Option, Some, None, is_some, Ok}
use Rattle.nvm_laws.specs.nv_base.Count.{Rose}
use Rattle.nvm_laws.specs.nv_base.Marks.{instance_of}
use Rattle.nvm_laws.specs.nv_base.declared.job.DeviceOp.{DeviceOp}
use Rattle.nvm_laws.specs.memif.Told as device
use Rattle.nvm_laws.specs.memif.Told.{DeviceTold, Fixed, Second, Stand, Open, Ended, figures_at, most_of, op_of, faults_of, is_off}
use Rattle.nvm_laws.specs.memif.Clock.{Clock}
use Rattle.nvm_laws.specs.memif.Calls.{Wish, AcceptsAs, InOrder, RoomIsLeft, is_read, record_pages, pages_needed}
use Rattle.nvm_laws.specs.block_machine.Words.{Mark, Wrote}
use Rattle.nvm_laws.specs.nvm_device_laws.Turn.{settled_by}
use Rattle.nvm_laws.specs.declared.turned.Turned.{Turned}
use Rattle.nvm_core.specs.BehindDevice.{TurnsDevice}

-- the turns that are left of what is open; none where the power is off
abbrev pub left_on : DeviceTold → ℕ
left_on d = if is_off d then 0 else d.left

-- the number of which a try of a record is open
abbrev pub number_tried : Stand → Option ℕ
number_tried (Open j) = if is_some j.mark then Some j.number else None
number_tried (Ended result given) = None

-- THE START OF A TRY
-- With room it raises them by the pages of its record; without, by the most turns of its operation; and beside an open switch by
-- these pages and a gate that may be owed, and once more where it is urgent.
abbrev pub start_raises : Fixed → (room switching : Bool) → device.Job → ℕ
start_raises f room true j = (if j.urgent then 2 else 1) * (record_pages f j + 1)
start_raises f room false j = if room then record_pages f j else most_of (figures_at f j.number) (op_of j.mark)

-- of a number of the second part no operation takes more turns than the pages of its record
abbrev pub TakesItsPages : Fixed → Type 0
TakesItsPages f = (n : ℕ) (op : DeviceOp) → (figures_at f n).part ≡ Second → most_of (figures_at f n) op ≤ (figures_at f n).pages

-- of any job of either part, by any test that answers yes only where the pages that one of the first part needs are free
abbrev pub StartsRaise : DeviceTold → Clock → Type 0
StartsRaise new clock =
    (old : DeviceTold) (w : Wish) (room : Bool) → TakesItsPages old.fixed → is_off old ≡ false → is_some w.job.mark ≡ true → AcceptsAs w (Ok tt) old new → RoomIsLeft new clock
    → (room ≡ true → (s : ℕ) × clock.spare new.ops s × (pages_needed new.fixed new.stand ≤ s)) → new.left ≤ old.left + start_raises old.fixed room old.switching w.job

-- THE DEVICE'S TURN
-- Its operation is one of the turns that were left; or a fault was counted, and a switch may be due; or the power went off in it. A
-- read makes none.
abbrev pub TakesLeft : DeviceTold → DeviceTold → Type 0
TakesLeft old new =
    (new.ops + left_on new + (if is_read old.stand then 1 else 0) ≤ old.ops + left_on old)
    ⊎ ((Rose (faults_of old) (faults_of new) × (new.ops + left_on new + (if is_read old.stand then 1 else 0) ≤ old.ops + left_on old + old.fixed.own + 1))
    ⊎ ((is_off new ≡ true) × (is_read old.stand ≡ false) × (new.ops ≤ old.ops + 1)))

-- why a try is over: its mark was settled, a fault was counted, or the device is worn out for it
abbrev pub IsTryOver : ℕ → DeviceTold → DeviceTold → Clock → Type 0
IsTryOver n old new clock =
    ((mark : Mark) × (settled_by old.stand new.stand new.ops ≡ Some (Wrote (instance_of (record { 0 = n })) mark new.ops)))
    ⊎ (Rose (faults_of old) (faults_of new) ⊎ ((j : device.Job) × (old.stand ≡ Open j) × clock.worn new.ops n j.urgent))

-- it goes on, or is over, and none begins
pub record TryTurns (old new : DeviceTold) (clock : Clock) : Type 0 where
  pub goes : (n : ℕ) → number_tried old.stand ≡ Some n → (number_tried new.stand ≡ Some n) ⊎ ((number_tried new.stand ≡ None) × IsTryOver n old new clock)
  pub none : number_tried old.stand ≡ None → number_tried new.stand ≡ None

-- so it is of any device whose power is on
abbrev pub TurnsTakeLeft : DeviceTold → Clock → Type 1
TurnsTakeLeft new clock =
    (answer : Turned) (old : DeviceTold) (clock_old : Clock) → is_off old ≡ false → TurnsDevice answer old clock_old new clock
    → TakesLeft old new × TryTurns old new clock
