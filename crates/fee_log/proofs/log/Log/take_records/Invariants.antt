use Rattle.std.proofs.Common.{◌≡◌, ◌≤◌, ◌+◌, ◌-◌, ℕ, List}
use Rattle.fee_image.specs.Bank.{Bank}
use Rattle.fee_log.specs.Load.{IsOfBank, HasPages, HasTaken}
use Rattle.fee_log.proofs.log.Log.take_records.Given as goal

abbrev pub invariant-loop-seen : goal.invariant-loop-seen
invariant-loop-seen l = record {
  same : l.self ≡ record l.initial.self { places = l.self.places; end = l.self.end };
  further : l.initial.self.end ≤ l.self.end;
  to : l.self.end ≤ l.from + l.count;
  taken : (b : Bank) (own : List ℕ) → IsOfBank l.initial.self b → HasPages b own l.from l.bytes → HasTaken b own l.initial.self → HasTaken b own l.self;
}

abbrev pub decreases-loop-seen : goal.decreases-loop-seen
decreases-loop-seen l = l.from + l.count - l.self.end
