use Rattle.std.proofs.Common.{◌≡◌, ◌≤◌, ◌+◌, ◌-◌, ℕ, List}
use Rattle.fee_image.specs.Bank.{Bank}
use Rattle.fee_log.specs.Load.{IsLoad, IsOfBank, HasPages, IsLoading}
use Rattle.fee_log.proofs.log.Log.load_pages.Given as goal

abbrev pub invariant-loop-load : goal.invariant-loop-load
invariant-loop-load l = record {
  same : l.self ≡ record l.initial.self { places = l.self.places; end = l.self.end };
  load : IsLoad l.self l.load;
  from : l.from ≤ l.load.next;
  seen : (b : Bank) (own : List ℕ) → IsOfBank l.initial.self b → HasPages b own l.from l.bytes → IsLoading b own l.initial.self l.initial.load → IsLoading b own l.self l.load;
}

abbrev pub decreases-loop-load : goal.decreases-loop-load
decreases-loop-load l = l.from + l.count - l.load.next
