-- The states of blocks by id, and how one of them changes.
use Rattle.std.specs.Prelude.{◌≡◌, ℕ, ◌==◌, true, false, Bool, List, ◌∷◌, map, length, get_or, slice_set, if◌then◌else◌, unwrap_or, Option, Some, None}
use Rattle.std.specs.List.{list_any, enumerate_from}
use Rattle.ram_blocks.specs.declared.kept.RamFlags.{RamFlags}
use Rattle.ram_blocks.specs.Kept.{kept_of}
use Rattle.block_machine.specs.Words.{Fine, Instance, Mark, BlockDesc, Configuration}
use Rattle.block_machine.specs.State.{BlockState}
use Rattle.block_machine.specs.Blocks.{no_block, keeps_ram, desc_of}
use Rattle.block_machine.specs.StartUp.{started_block}
use Rattle.block_states.specs.declared.facts.BlockFacts.{BlockFacts}

-- The blocks of the machine, none before the first start-up, and by id the bytes of the RAM that the manager keeps of each.
pub record KeptBlocks : Type 0 where
  pub states : List BlockState
  pub rooms : List ℕ

-- the RAM of the blocks of a configuration
abbrev pub rooms_of : Configuration → List ℕ
rooms_of c = map (λ r. length r.content) (kept_of c)

-- the block with an id
abbrev pub state_at : List BlockState → ℕ → BlockState
state_at states id = get_or states id no_block

-- it changes, and no other
abbrev pub changed_at : ℕ → (BlockState → BlockState) → KeptBlocks → KeptBlocks
changed_at id change k = record k { states = slice_set k.states id (change (state_at k.states id)) }

-- the blocks that a start-up leaves
abbrev pub started_blocks : Configuration → List (Instance × Mark) → List BlockState
started_blocks c marks = no_block ∷ map (λ x. started_block c marks x.0 x.1) (enumerate_from 1 c.blocks)

-- RAM that the manager keeps has the length of its block
abbrev pub RoomsHaveLengths : Type 0
RoomsHaveLengths = (c : Configuration) (id : ℕ) → keeps_ram c id ≡ true → get_or (rooms_of c) id 0 ≡ (desc_of c id).length

-- THE PARTS OF A BLOCK

-- what is kept of it beside its RAM
abbrev pub facts_of : BlockState → BlockFacts
facts_of b = record { status = b.status; index = b.index; locked = b.locked; protected = b.protected }

abbrev pub with_facts : BlockFacts → BlockState → BlockState
with_facts f b = record b { status = f.status; index = f.index; locked = f.locked; protected = f.protected }

-- whether its RAM is valid, and whether it is changed
abbrev pub flags_of : BlockState → RamFlags
flags_of b = record { valid = b.valid; changed = b.changed }

abbrev pub with_flags : RamFlags → BlockState → BlockState
with_flags f b = record b { valid = f.valid; changed = f.changed }

-- of a block that isn't configured, and of id 0
abbrev pub no_facts : BlockFacts
no_facts = record { status = Fine; index = 0; locked = false; protected = false }

-- after a start-up that found these marks
abbrev pub started_facts : List (Instance × Mark) → ℕ → BlockDesc → BlockFacts
started_facts marks id d = record no_facts { protected = if d.once then list_any (λ x. x.0.block == id) marks else d.protected }

abbrev pub started_by : List (Instance × Mark) → ℕ → Option BlockDesc → BlockFacts
started_by marks id None = no_facts
started_by marks id (Some d) = started_facts marks id d

-- RAM that the manager keeps holds what was given, where something was
abbrev pub given_to : Bool → Option (List ℕ) → BlockState → BlockState
given_to kept given b = record b { ram = if kept then unwrap_or given b.ram else b.ram }
