use Rattle.std.proofs.Common.{◌≡◌, ◌<◌, ℕ, true, List, [], ◌∷◌, subst, sym, refl}
use Rattle.std.proofs.lemmas.Bool.{lt-leb}
use Rattle.std.proofs.Math.Dec.{leb-zero}
use Rattle.memif.specs.Told.{Second}
use Rattle.block_machine.specs.block_config.DemoConfig.{demo_config}
use Rattle.block_machine.specs.Words.{Entry}
use Rattle.block_machine.specs.Steps.{after}
use Rattle.block_machine.specs.History.{up_to}
use Rattle.promise_blocks.specs.Cases.{found_first, two_parts, written_once}
use Rattle.promise_blocks.specs.OverDevice.{is_of}
use Rattle.promise_blocks.specs.Operations.{is_on}
use Rattle.promise_blocks.proofs.cases.operations_of_jobs.Goals as goal

-- up to each of them its Pick is the last entry
up_to_pick : (k : ℕ) → k < 10 → up_to k written_once ≡ found_first
up_to_pick k within = rw (lt-leb 10 k within, leb-zero k) refl

on_block : (k : ℕ) → k < 10 → is_on (is_of Second (two_parts 10 1 0).fixed) (after demo_config (up_to k written_once)).hand ≡ true
on_block k within = subst (λ (es : List Entry). is_on (is_of Second (two_parts 10 1 0).fixed) (after demo_config es).hand ≡ true) (sym (up_to_pick k within)) refl

pub returns : goal.returns
returns c = record { of_its_part = λ k small within. (λ before. on_block k within, λ on. within) }
