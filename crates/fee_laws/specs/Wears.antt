-- The operations of a device: each is due, by the bytes before it.
use Rattle.std.specs.Prelude.{◌≡◌, ℕ, false, IsTrue, List, [], ◌∷◌, ◌++◌, Some}
use Rattle.nv_base.specs.declared.instance.DeviceNumber.{DeviceNumber}
use Rattle.fls_model.specs.declared.flash.FlashAnswer.{FlashAnswer}
use Rattle.fls_model.specs.Told.{Told, Change, bytes_now}
use Rattle.fls_jobs.specs.State.{FlsState}
use Rattle.fee_course.specs.declared.course.Course.{Course}
use Rattle.fee_switch_laws.specs.fee_switch.Banks.{BanksState, reads_next}
use Rattle.promise_device.specs.Making.{Making}
use Rattle.promise_device.specs.Bridge.{reading_of}
use Rattle.promise_device.specs.Wear.{are_due}
use Rattle.fee_told.specs.fls_told.Clock.{change_of}
use Rattle.fee_told.specs.fls_told.Device.{is_told_sound}
use Rattle.fee_laws.specs.Inside.{Parts}
use Rattle.fee_laws.specs.Appends.{IsAppending, after_page}
use Rattle.fee_laws.specs.Switches.{IsStepping, step_op}
use Rattle.fee_laws.specs.Follows.{Follows}

-- from a sound image on, where the flash tells its bytes
abbrev pub Wears : Making → Told → List Change → Type 0
Wears m entry operations = IsTrue (is_told_sound (reading_of m) (bytes_now entry)) → IsTrue (are_due m [] operations)

-- the next operation of an open switch keeps it
abbrev pub StepsWear : Type 0
StepsWear =
    (m : Making) (entry : Told) (s : Parts) (listed : List (DeviceNumber × ℕ)) (kept count : ℕ) (c : Course) (made : BanksState) (answer : FlashAnswer) (f : FlsState)
    → IsStepping m entry s listed kept count c made answer f → reads_next s.banks.log (Some c) ≡ false → Follows s → Wears m entry s.operations
    → Wears m entry (s.operations ++ change_of (step_op s.banks c) s.fls.flash answer ∷ [])

-- and so does the next page of a record in work
abbrev pub PagesWear : Type 0
PagesWear =
    (m : Making) (entry : Told) (s : Parts) (listed : List (DeviceNumber × ℕ)) (kept count : ℕ) (answer : FlashAnswer) (f : FlsState)
    → IsAppending m entry s listed kept count answer f → Follows s → Wears m entry s.operations → Wears m entry (after_page answer f s).operations
