-- Reads that can be taken.
use Rattle.std.specs.Prelude.{◌≡◌, ℕ, List, length, Option, Some, None}
use Rattle.nvm_laws.specs.block_machine.State.{Job}
use Rattle.nvm_laws.specs.nv_desk.Desk.{DeskState, state_of}
use Rattle.nvm_laws.specs.nv_desk_copies.Front.{Numbers, given_at}
use Rattle.nvm_laws.specs.nv_desk_copies.Posts.{noted}

-- a read of the job in hand that gave this to the caller's own buffer can be taken: it is that of the Post with this number
abbrev pub noted_by : Option Job → Option (List ℕ) → ℕ → Numbers → Numbers
noted_by None given n unread = unread
noted_by (Some j) given n unread = noted j given n unread

-- the entry that was added, if it is the Post of such a read
abbrev pub NotesReads : DeskState → DeskState → Numbers → Numbers → Type 0
NotesReads old new before after =
    after ≡ noted_by (state_of old).hand (given_at new.entries (length old.entries)) (length old.entries) before
