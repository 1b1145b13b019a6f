-- When the operations of a device are due, from what it keeps of them.
use Rattle.std.specs.Prelude.{IfSome, IsTrue}
use Rattle.std.proofs.Common.{◌≡◌, ℕ, List, Option, Some, None}
use Rattle.fls_model.specs.Told.{Told, Change, bytes_now}
use Rattle.promise_device.specs.Making.{Making}
use Rattle.promise_device.specs.Reading.{Reading}
use Rattle.promise_device.specs.Bridge.{reading_of}
use Rattle.promise_device.specs.Wear.{OperationsAreDue}
use Rattle.promise_device.proofs.Readings.{sound_starts_compute}
use Rattle.fee_laws.specs.fls_told.Device.{is_told_sound}
use Rattle.fee_laws.specs.Wears.{Wears}

told_by : (r : Reading) (o : Option (List ℕ)) (first : List ℕ) → o ≡ Some first → IfSome o (λ image. IsTrue (r.is_sound image)) → IsTrue (is_told_sound r o)
told_by r None first at sound = cc at
told_by r (Some image) first at sound = sound

pub wear_told : (m : Making) (entry exit : Told) (operations : List Change) → Wears m entry operations → OperationsAreDue m (record { entry = entry; exit = exit; operations = operations })
wear_told m entry exit operations wears tells starts =
    wears (told_by (reading_of m) (bytes_now entry) tells.first tells.entry (sound_starts_compute m (record { entry = entry; exit = exit; operations = operations }) starts))
