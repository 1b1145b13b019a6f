-- The price of a Post: how many faults of the device, and how many refused copies, must have come before it.
use Rattle.std.specs.Prelude.{ℕ, zero, suc, ◌+◌, ◌*◌, ◌==◌, List, [], ◌∷◌, length, unwrap_or, if◌then◌else◌, Option, Some}
use Rattle.std.specs.Option.{option_and_then, option_map_or}
use Rattle.block_machine.specs.Words.{JobKind, ReadJob, Taken, TookRefused, Entry, Post, BlockDesc, Configuration}
use Rattle.block_machine.specs.State.{State, Job}
use Rattle.block_machine.specs.Blocks.{job_block, kind_of}
use Rattle.block_machine.specs.Results.{Answer, Own, own_of, failed_set}
use Rattle.block_machine.specs.StartUp.{at_first}
use Rattle.block_machine.specs.Steps.{step}

-- the tries of one device operation, the first and the configured further ones
abbrev pub device_tries : BlockDesc → JobKind → ℕ
device_tries d ReadJob = d.reads + 1
device_tries d kind = d.writes + 1

-- each instance of the failed set failed at every try
abbrev pub faults_of : Own → Answer → Job → ℕ
faults_of o answer j = device_tries o.desc (kind_of j) * length (unwrap_or (failed_set o j answer) [])

-- in faults, where no copy in was refused
abbrev pub price_in_faults : Configuration → State → Entry → ℕ
price_in_faults c s (Post block r given zero ops) = option_map_or (λ j. faults_of (own_of c s (job_block j)) (r, given) j) s.hand 0
price_in_faults c s e = 0

-- the refused copies out of which a job's last Pick tells; of stale ones it tells none
abbrev pub refused_copies : Option Taken → ℕ
refused_copies (Some (TookRefused count)) = count
refused_copies t = 0

-- in refused copies: those in, else those out
abbrev pub price_in_refusals : State → Entry → ℕ
price_in_refusals s (Post block r given zero ops) = refused_copies (option_and_then (λ j. j.taken) s.hand)
price_in_refusals s (Post block r given (suc n) ops) = suc n
price_in_refusals s e = 0

-- the same of the Posts of one block, and 0 of those of others
abbrev pub block_price : ℕ → State → Entry → ℕ
block_price id s (Post block r given refused ops) = if block == id then price_in_refusals s (Post block r given refused ops) else 0
block_price id s e = 0

abbrev pub sum_from : Configuration → (State → Entry → ℕ) → State → List Entry → ℕ
sum_from c price s [] = 0
sum_from c price s (e ∷ es) = price s e + sum_from c price (step c s e) es

-- the prices in faults of all Posts of a history
abbrev pub prices_in_faults : Configuration → List Entry → ℕ
prices_in_faults c h = sum_from c (price_in_faults c) at_first h

-- the prices in refusals of the Posts of a block
abbrev pub prices_in_refusals : Configuration → ℕ → List Entry → ℕ
prices_in_refusals c id h = sum_from c (block_price id) at_first h
