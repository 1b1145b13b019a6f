-- What a copy of a block does.
use Rattle.std.specs.Prelude.{◌≡◌, ◌<◌, ℕ, ◌+◌, ◌-◌, ◌^◌, min, List, option_map, slice_set, IfSome}
use Rattle.block_machine.specs.nv_base.Count.{Rose}
use Rattle.ram_blocks.specs.declared.sync_calls.Copied.{Copied}
use Rattle.ram_blocks.specs.declared.sync_calls.Copied.TheVariants.{Got, Refused}
use Rattle.ram_blocks.specs.Told.{Told, Synchronized, told_at, handed_by, refusals_of, to_refuse_of}

-- numbers of stores and of contents stand still at 2^60
abbrev pub last_number : ℕ
last_number = 2 ^ 60

abbrev pub next_number : ℕ → ℕ
next_number n = min (n + 1) last_number

abbrev pub IsGot : Copied → (ℕ → Type 0) → Type 0
IsGot (Got n) P = P n
IsGot Refused P = Unit {0}

-- what is told of one block changes
abbrev pub changed : ℕ → (Synchronized → Synchronized) → List Told → List Told
changed block change told = slice_set told block (option_map change (told_at told block))

-- none of the next copies of a block is refused
abbrev pub NoneIsRefused : List Told → ℕ → Type 0
NoneIsRefused told block = IfSome (to_refuse_of told block) (λ n. n ≡ 0)

-- so many copies of a block were refused, and one fewer is to be
abbrev pub with_refused : ℕ → Synchronized → Synchronized
with_refused n s = record s { refusals = n; to_refuse = option_map (λ k. k - 1) s.to_refuse }

-- a copy of a block was refused, which was to be: that is counted, and nothing else changes
abbrev pub Refuses : ℕ → List Told → List Told → Type 0
Refuses block old new = (n : ℕ) × Rose (refusals_of old block) n × IfSome (to_refuse_of old block) (λ k. 0 < k) × (new ≡ changed block (with_refused n) old)

-- the application took a content
abbrev pub handed_over : List ℕ → Synchronized → Synchronized
handed_over content s = record s { handed = next_number s.handed; last = content }

-- a copy out is made where none is to be refused, and changes nothing of what is told
abbrev pub CopiesOut : Copied → ℕ → List Told → List Told → Type 0
CopiesOut (Got n) block old new = NoneIsRefused old block × (new ≡ old)
CopiesOut Refused block old new = Refuses block old new

-- so is a copy in, which has the content's number
abbrev pub CopiesIn : Copied → ℕ → List ℕ → List Told → List Told → Type 0
CopiesIn (Got n) block content old new = NoneIsRefused old block × (n ≡ next_number (handed_by (told_at old block))) × (new ≡ changed block (handed_over content) old)
CopiesIn Refused block content old new = Refuses block old new
