-- What a log shows.
use Rattle.fee_log.specs.declared.log.Log.TheInside.{Inside}
use Rattle.fee_log.specs.Log.{LogState}

abbrev pub shown : Inside → LogState
shown l = record {
  geometry = l.geometry;
  banks = l.banks;
  bank = l.bank;
  format = l.format;
  numbers = l.numbers;
  places = l.places.items;
  flags = l.flags.items;
  end = l.end;
  tail = l.tail;
}
