-- The numbers of the refusals.
use Rattle.std.specs.Prelude.{ℕ}
use Rattle.nv_base.specs.declared.request.Refusal.{Refusal}
use Rattle.nv_base.specs.declared.request.Refusal.TheVariants.{UnknownBlock, NotStarted, WrongType, BadIndex, BadLength, NoRam, NoDefaults, NotImmediate, WriteOnce, MultiPending, Pending, Locked, Protected, RomIndex, NothingToCancel, QueueFull, HistoryFull}

abbrev pub number_of_refusal : Refusal → ℕ
number_of_refusal UnknownBlock = 1
number_of_refusal NotStarted = 2
number_of_refusal WrongType = 3
number_of_refusal BadIndex = 4
number_of_refusal BadLength = 5
number_of_refusal NoRam = 6
number_of_refusal NoDefaults = 7
number_of_refusal NotImmediate = 8
number_of_refusal WriteOnce = 9
number_of_refusal MultiPending = 10
number_of_refusal Pending = 11
number_of_refusal Locked = 12
number_of_refusal Protected = 13
number_of_refusal RomIndex = 14
number_of_refusal NothingToCancel = 15
number_of_refusal QueueFull = 16
number_of_refusal HistoryFull = 17
