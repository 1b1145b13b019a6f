-- Failures that are paid.
use Rattle.std.proofs.Common.{◌≤◌, ℕ, inl, arith}
use Rattle.block_machine.specs.block_config.DemoConfig.{demo_config}
use Rattle.promise_blocks.specs.Payment.{IsPaid, every_block}
use Rattle.promise_blocks.specs.Cases.{failed_twice, never_worn}

pub of_both : IsPaid every_block demo_config never_worn 3 7 failed_twice
of_both = record {
  faults = 4;
  counted = inl (omega arith);
  pay = inl (omega arith, inl (omega arith, inl (omega arith, inl (omega arith, inl (omega arith, inl (omega arith, inl (omega arith, tt)))))));
}
