use Rattle.ram_blocks.proofs.Trying.{begins_out, refused_out, stale_out, counts_sizes}
use Rattle.ram_blocks.proofs.tries.copy_out.Goals as goal
use Rattle.ram_blocks.proofs.tries.copy_out.Goals.{in-Got+else-asked-number, in-Refused}

pub loop-i-init : goal.loop-i-init
loop-i-init g c = record { tried = begins_out _ _ _ _ _ c.requires; stores = λ b n x h. h; over = λ first h. h; looks = λ until b n h. h }

pub returns-then-asked-number-clause-sizes : goal.returns-then-asked-number-clause-sizes
returns-then-asked-number-clause-sizes g c = rw c.in-Got.ensures.copied.1 (counts_sizes _ _ _ c.loop-i.invariant.tried.trying.counts)

pub loop-i-preserved : goal.loop-i-preserved
loop-i-preserved g c =
    elim c.match-copy_out.branch [
      | in-Got+else-asked-number w ↦ rw (w.last-is, c.copy_out.auto.into) (record {
        tried = stale_out _ _ _ _ _ _ _ _ _ _ _ _ c.loop-i.invariant.tried w.in-Got.ensures.copied w.if-asked-number.false
            (w.in-Got.ensures.store, c.loop-i.invariant.looks c.copy_out.new.self c.args.block w.in-Got.number w.in-Got.ensures.looks);
        stores = λ b n x h. c.copy_out.ensures.stores_stay b n x (c.loop-i.invariant.stores b n x h);
        over = λ first h. c.copy_out.ensures.stays_over first (c.loop-i.invariant.over first h);
        looks = λ until b n h. c.loop-i.invariant.looks until b n (c.copy_out.ensures.looked_earlier until b n h);
      })
      | in-Refused w ↦ rw (w.last-is, c.copy_out.auto.into) (record {
        tried = refused_out _ _ _ _ _ _ _ _ _ _
            (λ n x h. (c.copy_out.ensures.stores_stay c.args.block n x h.0, c.copy_out.ensures.looked_later c.args.copies.now c.args.block n h.1))
            c.loop-i.invariant.tried w.in-Refused.ensures.copied;
        stores = λ b n x h. c.copy_out.ensures.stores_stay b n x (c.loop-i.invariant.stores b n x h);
        over = λ first h. c.copy_out.ensures.stays_over first (c.loop-i.invariant.over first h);
        looks = λ until b n h. c.loop-i.invariant.looks until b n (c.copy_out.ensures.looked_earlier until b n h);
      })
    ]

pub returns-in-Some-clause-sizes : goal.returns-in-Some-clause-sizes
returns-in-Some-clause-sizes g c = counts_sizes _ _ _ c.loop-i.invariant.tried.trying.counts

pub returns-in-None-clause-sizes : goal.returns-in-None-clause-sizes
returns-in-None-clause-sizes g c = counts_sizes _ _ _ c.loop-i.invariant.tried.trying.counts

pub returns-then-asked-number-clause-refuses : goal.returns-then-asked-number-clause-refuses
returns-then-asked-number-clause-refuses g c = rw c.in-Got.ensures.copied.1 c.loop-i.invariant.tried.trying.refuses

pub returns-in-Some-clause-refuses : goal.returns-in-Some-clause-refuses
returns-in-Some-clause-refuses g c = c.loop-i.invariant.tried.trying.refuses

pub returns-in-None-clause-refuses : goal.returns-in-None-clause-refuses
returns-in-None-clause-refuses g c = c.loop-i.invariant.tried.trying.refuses
