use Rattle.std.proofs.Common.{◌≡◌, ℕ, true, Option, Some, None, refl}
use Rattle.block_machine.specs.Words.{Fine, Canceled, BlockSkipped, Entry, Post}
use Rattle.block_machine.specs.State.{Sweep}
use Rattle.block_machine.specs.Sweeps.{sweep_at}
use Rattle.promise_run.specs.Cases.{small, EndsWith}
use Rattle.promise_run.proofs.cases.canceled_requests_end.Goals as goal

-- it was begun, and canceled
abbrev begun : Sweep
begun = record (sweep_at small 1 true) { under_way = true; canceled = true }

-- so id 0 is posted as canceled
posts : (e : Option Entry) → EndsWith e → (ops : ℕ) × (e ≡ Some (Post 0 Canceled None 0 ops))
posts e ends = ends begun refl refl refl refl refl

pub returns-clause-goes_by : goal.returns-clause-goes_by
returns-clause-goes_by c ends = let (ops, is) = posts None ends in cc is

pub returns-clause-goes_on : goal.returns-clause-goes_on
returns-clause-goes_on c ends = let (ops, is) = posts (Some (Post 1 BlockSkipped None 0 0)) ends in cc is

pub returns-clause-as_done : goal.returns-clause-as_done
returns-clause-as_done c ends = let (ops, is) = posts (Some (Post 0 Fine None 0 0)) ends in cc is
