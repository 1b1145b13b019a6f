use Rattle.std.proofs.Common.{◌∙◌, sym, ap}
use Rattle.memif.specs.Told.{Fixed}
use Rattle.nvm_found.proofs.Readings.{reads_more}
use Rattle.nvm_found.proofs.found.read_all.Goals as goal

pub find_at-requires-clause-numbers : goal.find_at-requires-clause-numbers
find_at-requires-clause-numbers g c = c.loop-i.invariant.numbers ∙ c.requires.numbers ∙ ap (λ (f : Fixed). f.numbers) (sym c.loop-i.invariant.reads.fixed)

pub returns-in_err-find_at-clause-reads : goal.returns-in_err-find_at-clause-reads
returns-in_err-find_at-clause-reads g c = reads_more _ _ _ _ _ _ c.loop-i.invariant.reads c.find_at.ensures.reads

pub loop-i-preserved : goal.loop-i-preserved
loop-i-preserved g c = record {
  numbers = c.find_at.ensures.numbers ∙ c.loop-i.invariant.numbers;
  room = c.find_at.ensures.room ∙ c.loop-i.invariant.room;
  ready = c.find_at.ensures.ready;
  reads = reads_more _ _ _ _ _ _ c.loop-i.invariant.reads c.find_at.ensures.reads;
  held = c.in_ok-find_at.ensures.held c.loop-i.invariant.held;
}
