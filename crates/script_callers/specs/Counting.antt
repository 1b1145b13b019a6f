-- How programs grow, step by step.
use Rattle.std.specs.Prelude.{◌≡◌, ◌<◌, ◌+◌, ℕ, true, List, [], ◌∷◌, ◌++◌, length, get_or, is_some, Option, Some, None}
use Rattle.nvm_script.specs.Owners.{ram_block_of}
use Rattle.nvm_script.specs.Rules.{sync_length_of}
use Rattle.script_walks.specs.Words.{Step, StepKind}
use Rattle.script_walks.specs.Walk.{stores_of}
use Rattle.block_machine.specs.Words.{Request, Write, Configuration}
use Rattle.script_callers.specs.declared.deed.Deed.{Deed}
use Rattle.script_callers.specs.declared.program.Program.{Program}
use Rattle.script_callers.specs.Deeds.{deeds_by}
use Rattle.script_callers.specs.Programs.{all_programs}

-- the block whose RAM a request writes
abbrev pub ram_write : Request → Option ℕ
ram_write (Write block None store) = Some block
ram_write r = None

-- these steps are all of one caller
abbrev pub AreOf : ℕ → List Step → Type 0
AreOf caller [] = Unit {0}
AreOf caller (x ∷ xs) = (x.caller ≡ caller) × AreOf caller xs

-- so many stores of each block
abbrev pub AreCounted : List Step → List ℕ → Type 0
AreCounted before counts = (block : ℕ) → block < length counts → get_or counts block 0 ≡ length (stores_of block before)

-- a caller's own steps among these make all stores of the synchronized block whose RAM a step of it stores into or writes
abbrev pub OwnsStores : Configuration → (before own : List Step) → StepKind → Type 0
OwnsStores c before own kind = (block : ℕ) → is_some (sync_length_of c block) ≡ true → ram_block_of kind ≡ Some block → stores_of block own ≡ stores_of block before

-- behind these steps, of which these are its caller's own, a step added what it has its caller do, and its store was counted
pub record AddsDeed (c : Configuration) (before own : List Step) (x : Step) (counts : List ℕ) (old new : List Deed) : Type 0 where
  pub deeds : new ≡ old ++ deeds_by c own x.line x.caller x.kind
  pub counted : AreCounted (before ++ x ∷ []) counts

-- the programs of all callers are made of these steps, whose stores were counted by block
pub record AreMade (c : Configuration) (before : List Step) (counts : List ℕ) (programs : List Program) : Type 0 where
  pub made : programs ≡ all_programs c before
  pub counted : AreCounted before counts
  pub size : length counts ≡ length c.blocks + 1
