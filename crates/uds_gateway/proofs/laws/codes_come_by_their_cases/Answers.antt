use Rattle.uds_gateway.proofs.Codes.{codes_have_cases}
use Rattle.uds_gateway.proofs.laws.codes_come_by_their_cases.Goals as goal

pub returns : goal.returns
returns c = codes_have_cases
