-- What is kept of the entries.
use Rattle.std.specs.Prelude.{◌≡◌, ◌≤◌, ◌-◌, ◌^◌, ℕ, List, Bool, true, false, nat_lt, length, slice_get}
use Rattle.nv_base.specs.History.{Listed}
use Rattle.nv_base.specs.declared.entry.Entry.{Entry}
use Rattle.nv_recorder.specs.Latest.{Kept}
use Rattle.nv_recorder.specs.Rooms.{Roomy}

-- the most entries that can be counted: so many are never kept
abbrev pub endless : ℕ
endless = 2 ^ 32 - 1

-- whether a recorder of at most so many entries keeps them all
abbrev pub keeps : ℕ → Bool
keeps cap = nat_lt cap endless

-- the entries so far, how many there may be, for how many more there is memory, and of how many bytes the content of each may be
pub record Recorded : Type 0 where
  pub entries : List Entry
  pub cap : ℕ
  pub reserved : ℕ
  pub longest : ℕ

-- what stands there for the entries: their number; they themselves, where they are kept, with a content for each that is
-- reserved; else the last one
pub record IsRecorded (history : Listed) (rooms : Roomy) (latest : Kept) (told : List Entry) (kept : Bool) (count reserved cap : ℕ) : Type 0 where
  pub within : length told ≤ cap
  pub counted : count ≡ length told
  pub decided : kept ≡ keeps cap
  pub most : history.cap ≡ cap
  pub same : kept ≡ true → history.entries ≡ told
  pub memory : kept ≡ true → reserved ≤ history.reserved
  pub contents : kept ≡ true → reserved ≤ rooms.count
  pub room : kept ≡ false → latest.room ≡ rooms.longest
  pub last : kept ≡ false → latest.entry ≡ slice_get told (length told - 1)
