-- The marks that a start-up finds, against what a history says of them.
use Rattle.std.specs.Prelude.{◌≡◌, ℕ, List, Contains}
use Rattle.block_machine.specs.nv_base.declared.instance.DeviceNumber.{DeviceNumber}
use Rattle.block_machine.specs.nv_base.Marks.{instance_of}
use Rattle.memif.specs.Told.{Held}
use Rattle.block_machine.specs.block_config.Lengths.{lengths_of}
use Rattle.block_machine.specs.Words.{Instance, Mark, Entry, Configuration}
use Rattle.block_machine.specs.Blocks.{instance_at}
use Rattle.block_machine.specs.StartUp.{listed_mark}
use Rattle.block_machine.specs.Steps.{after}
use Rattle.block_machine.specs.History.{MayStandIn}
use Rattle.block_machine.specs.Accepted.{IsAccepted, IsNotOlder}

-- the marks of what is held, number by number
abbrev pub marks_in : (ℕ → Held) → ℕ → Mark
marks_in held n = (held n).mark

-- a fact on each configured instance, with the mark that a map from device numbers gives it
abbrev pub EachInstance : Configuration → (ℕ → Mark) → (Instance → Mark → Type 0) → Type 0
EachInstance c found P = (x : DeviceNumber × ℕ) → Contains (lengths_of c) x → P (instance_of x.0) (found x.0.0)

-- What is found keeps to a history. Of each configured instance the mark
pub record KeepsMarks (c : Configuration) (h : List Entry) (found : ℕ → Mark) : Type 0 where
  -- may stand there: it is settled, or a job took it since
  pub stands : EachInstance c found (λ i mark. MayStandIn (instance_at (after c h) i) mark)
  -- is whole and accepted: a job took it behind its accepted Ask, or a start-up found it
  pub accepted : EachInstance c found (IsAccepted c h)
  -- is the last one that was acknowledged, or a job took it after that
  pub newest : EachInstance c found (IsNotOlder c h)

-- these marks are listed as they are found
abbrev pub Lists : Configuration → List (Instance × Mark) → (ℕ → Mark) → Type 0
Lists c marks found = EachInstance c found (λ i mark. listed_mark marks i ≡ mark)
