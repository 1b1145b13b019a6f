-- What is kept, against the machine's state.
use Rattle.std.specs.Prelude.{◌≡◌, ℕ, ◌+◌, List, length, get_or}
use Rattle.block_machine.specs.Words.{Configuration, Request, SetIndex, SetProtection, SetLock, SetRam, PutRam, GetIndex, Status, CancelWriteAll}
use Rattle.block_machine.specs.State.{State}
use Rattle.block_states.specs.States.{rooms_of}
use Rattle.job_pending.specs.Pending.{Agree}
use Rattle.nv_desk_state.specs.declared.kept.Kept.{Kept}
use Rattle.nv_desk_state.specs.Pending.{AreSweeps, IsMember, IsAlone}

pub record Agrees (c : Configuration) (k : Kept) (s : State) : Type 0 where
  pub started : k.started ≡ s.started
  pub off : k.off ≡ s.off
  pub blocks : k.blocks.states ≡ s.blocks
  pub jobs : Agree c k.jobs s.waiting s.hand
  pub sweep : AreSweeps c k.sweep s.sweep
  pub member : IsMember c s.hand k.sweep s.sweep
  pub alone : IsAlone s.waiting s.sweep
  -- there is room for the RAM of each block, and a place for its job
  pub rooms : k.blocks.rooms ≡ rooms_of c
  pub places : k.jobs.slots.places ≡ length c.blocks + 1

-- a request that makes no job, with a content of the length that its block's RAM has
abbrev pub IsChange : List ℕ → Request → Type 0
IsChange rooms (SetIndex block index) = Unit {0}
IsChange rooms (SetProtection block on) = Unit {0}
IsChange rooms (SetLock block on) = Unit {0}
IsChange rooms (SetRam block on) = Unit {0}
IsChange rooms (PutRam block content) = length content ≡ get_or rooms block 0
IsChange rooms (GetIndex block) = Unit {0}
IsChange rooms (Status block) = Unit {0}
IsChange rooms CancelWriteAll = Unit {0}
IsChange rooms r = ⊥
