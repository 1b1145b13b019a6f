-- The bank that comes first, as the definitions of an image have it.
use Rattle.std.specs.Prelude.{ℕ, Option, option_map}
use Rattle.fee_format.specs.declared.bank_head.BankHead.{BankHead}
use Rattle.fee_switch.specs.declared.active.ActiveBank.{ActiveBank}

-- its number with its head
abbrev pub active_shown : Option ActiveBank → Option (ℕ × BankHead)
active_shown first = option_map (λ a. (a.bank, a.head)) first
