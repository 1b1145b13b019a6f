use Rattle.script_player.proofs.Common.{◌≡◌, ◌++◌, length, into_iter_items, Part, PartTold, AreUnderWay, into_iter_len, told_by, seen_by, kept_by}
use Rattle.script_player.specs.PlainKept.{starts_found}
use Rattle.script_player.proofs.steps.make_steps.Given as goal

-- the steps that the loop has given are made
abbrev pub invariant-loop-step : goal.invariant-loop-step
invariant-loop-step g l = record {
  order : l.fn.steps ≡ l.yielded ++ into_iter_items l.step-iterator;
  left : into_iter_len l.step-iterator ≡ length (into_iter_items l.step-iterator);
  way : AreUnderWay (seen_by g.D.MemDevice.told g.D.MemDevice.clock l.initial.stack) (seen_by g.D.MemDevice.told g.D.MemDevice.clock l.stack) l.yielded l.stores (told_by g.D.MemDevice.told l.initial.stack) (told_by g.D.MemDevice.told l.stack);
  keeps : (before : Part → PartTold) → kept_by g.D.MemDevice.told g.D.MemDevice.clock l.initial.stack before → kept_by g.D.MemDevice.told g.D.MemDevice.clock l.stack before;
  starts : starts_found g.D.MemDevice.told l.initial.stack → starts_found g.D.MemDevice.told l.stack;
}
