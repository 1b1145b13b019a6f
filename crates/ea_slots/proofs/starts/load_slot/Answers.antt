use Rattle.ea_slots.proofs.Loading.{found_is}
use Rattle.ea_slots.proofs.starts.load_slot.Goals as goal

pub returns-clause-found : goal.returns-clause-found
returns-clause-found g c = found_is c.args.geometry c.args.at.0 c.head_sector-sector.result c.args.size c.args.at.1 c.args.fls.now.flash.bytes c.read_sector.new.self c.standing-found.result
    c.requires.flash.legal c.head_sector-sector.ensures c.read_sector.ensures.room c.in_ok-read_sector.ensures.read.0 c.standing-found.ensures
