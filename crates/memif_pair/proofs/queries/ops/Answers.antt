use Rattle.std.proofs.Common.{arith}
use Rattle.memif_pair.proofs.Courses.{own_both}
use Rattle.memif_pair.proofs.queries.ops.Goals as goal

pub returns : goal.returns
returns g c last course t =
    let sum = c.saturating_add.ensures in
    let first = c.ops.ensures in
    let second = c.ops-2.ensures in
    let one = t.counted.first in
    let two = t.counted.second in
    let all = own_both course in
    omega (arith, sum, first, second, one, two, all)
