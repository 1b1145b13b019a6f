-- The exit statuses.
use Rattle.std.specs.Prelude.{ℕ}
use Rattle.nvm_lines.specs.declared.status.Status.{Status}
use Rattle.nvm_lines.specs.declared.status.Status.TheVariants.{Ok, BadWords, BadConfig, BadScript, ReadFault, WriteFault, FlashFault, Memory, WrongSize, TooLong, HistoryFull, NoSecond, PowerOff, InUse}

abbrev pub code_of_status : Status → ℕ
code_of_status Ok = 0
code_of_status BadWords = 2
code_of_status BadConfig = 3
code_of_status BadScript = 4
code_of_status ReadFault = 5
code_of_status WriteFault = 6
code_of_status FlashFault = 7
code_of_status Memory = 8
code_of_status WrongSize = 9
code_of_status TooLong = 10
code_of_status HistoryFull = 11
code_of_status NoSecond = 14
code_of_status PowerOff = 15
code_of_status InUse = 75
