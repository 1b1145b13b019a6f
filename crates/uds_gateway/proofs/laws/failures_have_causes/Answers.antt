use Rattle.uds_gateway.proofs.Causes.{reads_fail_by_marks, writes_succeed}
use Rattle.uds_gateway.proofs.laws.failures_have_causes.Goals as goal

pub returns-clause-reads : goal.returns-clause-reads
returns-clause-reads c = reads_fail_by_marks

pub returns-clause-writes : goal.returns-clause-writes
returns-clause-writes c = writes_succeed
