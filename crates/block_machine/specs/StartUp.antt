-- The state before the first start-up, and the state that a start-up leaves.
use Rattle.std.specs.Prelude.{ℕ, ◌==◌, true, false, List, [], ◌∷◌, map, find, replicate, unwrap_or, option_map, if◌then◌else◌, None}
use Rattle.std.specs.List.{list_any, enumerate_from}
use Rattle.nv_base.specs.Cell.{settled_as}
use Rattle.nv_base.specs.Marks.{instance_of}
use Rattle.block_config.specs.Lengths.{lengths_of}
use Rattle.block_machine.specs.Words.{Instance, Mark, Erased, BlockDesc, Configuration}
use Rattle.block_machine.specs.State.{State, BlockState, InstanceState}
use Rattle.block_machine.specs.Blocks.{no_block, keeps_ram, same_instance}

-- before the first start-up there is nothing
abbrev pub at_first : State
at_first = record { started = false; off = false; count = 0; ops = 0; blocks = []; instances = []; waiting = []; hand = None; sweep = None }

-- the mark that is listed for an instance, or Erased where none is
abbrev pub listed_mark : List (Instance × Mark) → Instance → Mark
listed_mark marks i = unwrap_or (option_map (λ x. x.1) (find (λ x. same_instance i x.0) marks)) Erased

-- an instance is settled at what was found
abbrev pub found_instance : List (Instance × Mark) → Instance → InstanceState
found_instance marks i = record { instance = i; cell = settled_as (listed_mark marks i) }

-- all configured instances
abbrev pub found_instances : Configuration → List (Instance × Mark) → List InstanceState
found_instances c marks = map (λ x. found_instance marks (instance_of x.0)) (lengths_of c)

-- A block is protected as it is configured, but a write-once block where one of its instances isn't erased. RAM that the manager keeps is zeros.
abbrev pub started_block : Configuration → List (Instance × Mark) → ℕ → BlockDesc → BlockState
started_block c marks id d = record no_block {
  protected = if d.once then list_any (λ x. x.0.block == id) marks else d.protected;
  ram = if keeps_ram c id then replicate d.length 0 else [];
}

-- A start-up that finds these marks: nothing is pending, and nothing is locked. The counts go on.
abbrev pub started_with : Configuration → State → List (Instance × Mark) → State
started_with c s marks = record s {
  started = true;
  off = false;
  blocks = no_block ∷ map (λ x. started_block c marks x.0 x.1) (enumerate_from 1 c.blocks);
  instances = found_instances c marks;
  waiting = [];
  hand = None;
  sweep = None;
}
