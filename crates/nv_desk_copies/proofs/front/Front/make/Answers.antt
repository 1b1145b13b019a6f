use Rattle.std.proofs.Common.{arith}
use Rattle.nv_desk_copies.proofs.front.Front.make.Goals as goal

pub returns-clause-staging : goal.returns-clause-staging
returns-clause-staging c id = let most = c.longest_staged.ensures id in let room = c.in_ok-staging.ensures in omega (arith, most, room)
