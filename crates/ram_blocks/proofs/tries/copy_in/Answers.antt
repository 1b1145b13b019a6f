use Rattle.ram_blocks.proofs.Trying.{begins_in, refused_in, handed_sizes, handed_refuses, counts_sizes}
use Rattle.ram_blocks.proofs.tries.copy_in.Goals as goal

pub loop-i-init : goal.loop-i-init
loop-i-init g c = record { tried = begins_in _ _ _ c.requires; stores = λ b n x h. h; over = λ first h. h }

pub returns-in-Got-clause-sizes : goal.returns-in-Got-clause-sizes
returns-in-Got-clause-sizes g c = handed_sizes _ _ _ _ _ _ c.loop-i.invariant.tried.trying c.in-Got.ensures.copied.2

pub returns-in-Got-clause-refuses : goal.returns-in-Got-clause-refuses
returns-in-Got-clause-refuses g c = handed_refuses _ _ _ _ _ _ c.loop-i.invariant.tried.trying c.in-Got.ensures.copied.2

pub loop-i-preserved : goal.loop-i-preserved
loop-i-preserved g c = record {
  tried = refused_in _ _ _ _ _ _ c.loop-i.invariant.tried c.in_default.ensures.copied;
  stores = λ b n x h. c.copy_in.ensures.stores_stay b n x (c.loop-i.invariant.stores b n x h);
  over = λ first h. c.copy_in.ensures.stays_over first (c.loop-i.invariant.over first h);
}

pub returns-clause-sizes : goal.returns-clause-sizes
returns-clause-sizes g c = counts_sizes _ _ _ c.loop-i.invariant.tried.trying.counts

pub returns-clause-refuses : goal.returns-clause-refuses
returns-clause-refuses g c = c.loop-i.invariant.tried.trying.refuses
