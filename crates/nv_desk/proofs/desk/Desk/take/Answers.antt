use Rattle.std.proofs.Common.{rules}
use Rattle.block_laws.proofs.HistoryLaws.{histories_stay_legal}
use Rattle.nv_desk.proofs.desk.Desk.take.Goals as goal

pub returns-in_ok-accept-in-Accepted-clause-legal : goal.returns-in_ok-accept-in-Accepted-clause-legal
returns-in_ok-accept-in-Accepted-clause-legal c =
    λ legal. rw c.in_ok-accept-in-Accepted.ensures.ok (histories_stay_legal _ _ _ _ legal (search rules))

pub returns-in_ok-note-in_default-clause-legal : goal.returns-in_ok-note-in_default-clause-legal
returns-in_ok-note-in_default-clause-legal c =
    λ legal. rw c.in_ok-note-in_default.ensures.ok (histories_stay_legal _ _ _ _ legal (search rules))
