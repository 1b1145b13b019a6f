use Rattle.std.specs.Prelude.{◌≤◌, ◌<◌, ◌+◌, ℕ, List, All, length, slice_get, filter_map}
use Rattle.nv_base.specs.declared.entry.Entry.{Entry}

-- entries in order, how many there may be, and for how many more memory is reserved
pub record Listed : Type 0 where
  pub entries : List Entry
  pub cap : ℕ
  pub reserved : ℕ

-- the entries at these places of a list that has each only once
abbrev pub placed : List Entry → List ℕ → List Entry
placed stored places = filter_map (slice_get stored) places

-- each place is one of the list, and both have the memory that is reserved
pub record ArePlaced (stored : List Entry) (places : List ℕ) (stored_capacity places_capacity cap reserved : ℕ) : Type 0 where
  pub within : All (λ place. place < length stored) places
  pub few : length stored ≤ length places
  pub capped : length places ≤ cap
  pub stored_room : length stored + reserved ≤ stored_capacity
  pub places_room : length places + reserved ≤ places_capacity
