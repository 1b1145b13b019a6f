use Rattle.std.proofs.Common.{◌≡◌, ◌<◌, ℕ, [], length, get_or}
use Rattle.block_machine.specs.block_config.Config.{block_of}
use Rattle.block_states.specs.States.{no_facts, started_by}
use Rattle.block_states.proofs.start.start_all.Given as goal

abbrev pub invariant-loop-id : goal.invariant-loop-id
invariant-loop-id l = (length l.facts.items ≡ l.id-end) × ((k : ℕ) → k < l.id → get_or l.facts.items k no_facts ≡ started_by [] k (block_of l.config k))
