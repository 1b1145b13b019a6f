-- Worked cases.
use Rattle.std.specs.Prelude.{◌≡◌, ℕ, List, [], ◌∷◌, Some, replicate, true}
use Rattle.nvm_moves.specs.block_machine.Words.{ReqResult, Entry, ReadJob, Configuration}
use Rattle.nvm_moves.specs.block_config.Block.{plain_block}
use Rattle.nvm_moves.specs.block_config.DemoConfig.{demo_config}
use Rattle.nvm_moves.specs.block_machine.Cases.{config_of, ok, write, read, pick, pick_write, wrote, post, give, bytes_1}
use Rattle.uds_gateway.specs.Answers.{uds}

-- over the demo
abbrev pub Answers : List ℕ → List Entry → List ℕ → Type 0
Answers request entries answer = uds demo_config request entries ≡ Some answer

-- 2e 0102 11223344, and its job's entries
abbrev pub write_2 : List ℕ
write_2 = 0x2e ∷ 0x01 ∷ 0x02 ∷ bytes_1

abbrev pub write_2_posted : ReqResult → List Entry
write_2_posted r = ok (write 2 bytes_1) ∷ pick_write 2 bytes_1 0 ∷ wrote 2 0 bytes_1 10 ∷ post 2 r 10 ∷ []

abbrev pub read_2 : List ℕ
read_2 = 0x22 ∷ 0x01 ∷ 0x02 ∷ []

abbrev pub read_2_gave : ReqResult → List ℕ → List Entry
read_2_gave r bytes = ok (read 2) ∷ pick 2 ReadJob 10 ∷ give 2 r bytes 10 ∷ []

abbrev pub read_2_posted : ReqResult → List Entry
read_2_posted r = ok (read 2) ∷ pick 2 ReadJob 10 ∷ post 2 r 10 ∷ []

-- one block, which is protected
abbrev pub protected_config : Configuration
protected_config = config_of (record (plain_block 1) { protected = true } ∷ [])

-- 300 blocks of one byte behind block 1
abbrev pub many_config : Configuration
many_config = config_of (replicate 300 (plain_block 1))
