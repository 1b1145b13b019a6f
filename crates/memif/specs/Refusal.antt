-- The numbers of the refusals. When each comes says `refusal_of` of Calls.
use Rattle.std.specs.Prelude.{ℕ}
use Rattle.memif.specs.declared.answer.DeviceRefusal.{DeviceRefusal}
use Rattle.memif.specs.declared.answer.DeviceRefusal.TheVariants.{Busy, Uninit, BadNumber, BadLength}

-- 1 to 4 in the order of the tests
abbrev pub number_of_refusal : DeviceRefusal → ℕ
number_of_refusal Busy = 1
number_of_refusal Uninit = 2
number_of_refusal BadNumber = 3
number_of_refusal BadLength = 4
