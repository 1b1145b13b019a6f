use Rattle.std.proofs.Common.{◌/◌}
use Rattle.fee_switch.proofs.Pieces.{next_inside, next_has_room}
use Rattle.fee_switch.proofs.reading.pages_next.Goals as goal

pub returns-clause-inside : goal.returns-clause-inside
returns-clause-inside c =
    let k = c.sector_pages-sector.ensures in
    next_inside c.args.geometry c.args.banks c.args.done c.sector_pages-sector.result c.min.result (4096 / c.args.geometry.page) c.requires.legal c.requires.shared k.value c.requires.inside c.min.ensures

pub returns-clause-room : goal.returns-clause-room
returns-clause-room c =
    let k = c.sector_pages-sector.ensures in
    next_has_room c.args.geometry c.args.banks c.args.done c.sector_pages-sector.result c.min.result c.requires.legal c.requires.shared k.value k.whole c.requires.inside c.min.ensures
