-- What the banks of a flash show.
use Rattle.fee_switch.specs.declared.banks.Banks.TheInside.{Inside}
use Rattle.fee_switch.specs.Banks.{BanksState}

abbrev pub shown : Inside → BanksState
shown b = record {
  geometry = b.geometry;
  banks = b.banks;
  active = b.active;
  target = b.target;
  course = b.course;
  log = b.log;
  copies = b.copies;
  buffer = b.buffer.items;
}
