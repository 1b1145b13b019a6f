-- The statuses of commands that stop, and the lines that say so.
use Rattle.std.specs.Prelude.{◌≡◌, ◌≢◌, ℕ, List, [], ◌∷◌, ◌++◌, codes}
use Rattle.std.specs.Fmt.{decimal}
use Rattle.nvm_lines.specs.declared.status.Status.{Status}
use Rattle.nvm_lines.specs.declared.status.Status.TheVariants as status
use Rattle.nvm_lines.specs.declared.stop.Stop.{Stop}
use Rattle.nvm_lines.specs.declared.stop.Stop.TheVariants.{BadWords, BadConfig, BadScript, ReadFault, TooLong, WrongSize, FlashFault, HistoryFull, Memory, NoSecond, PowerOff, InUse}

abbrev pub status_of : Stop → Status
status_of BadWords = status.BadWords
status_of (BadConfig rule block) = status.BadConfig
status_of (BadScript line) = status.BadScript
status_of ReadFault = status.ReadFault
status_of TooLong = status.TooLong
status_of (WrongSize found need) = status.WrongSize
status_of FlashFault = status.FlashFault
status_of HistoryFull = status.HistoryFull
status_of Memory = status.Memory
status_of NoSecond = status.NoSecond
status_of PowerOff = status.PowerOff
status_of InUse = status.InUse

-- the line, with its newline; none at want of memory
abbrev pub line_of : Stop → List ℕ
line_of BadWords = codes "bad words\n"
line_of (BadConfig rule block) = codes "config rule " ++ (decimal rule ++ (codes " block " ++ (decimal block ++ codes "\n")))
line_of (BadScript line) = codes "script " ++ (decimal line ++ codes "\n")
line_of ReadFault = codes "input fault\n"
line_of TooLong = codes "input too long\n"
line_of (WrongSize found need) = codes "size " ++ (decimal found ++ (codes " " ++ (decimal need ++ codes "\n")))
line_of FlashFault = codes "flash fault\n"
line_of HistoryFull = codes "history full\n"
line_of Memory = []
line_of NoSecond = codes "no second device\n"
line_of PowerOff = codes "power off\n"
line_of InUse = codes "flash in use\n"

-- a command that stops has this status, and writes this line last; at want of memory it writes none
abbrev pub IsStop : Stop → Status → List (List ℕ) → Type 0
IsStop stop x lines = (stop ≢ Memory) × (x ≡ status_of stop) × (lines ≡ line_of stop ∷ [])
