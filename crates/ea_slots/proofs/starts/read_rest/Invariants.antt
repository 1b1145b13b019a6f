use Rattle.std.proofs.Common.{◌≡◌, length}
use Rattle.ea_slots.specs.Starts.{HasRead, MayRead}
use Rattle.ea_slots.proofs.starts.read_rest.Given as goal

abbrev pub invariant-loop-sector : goal.invariant-loop-sector
invariant-loop-sector g l = record {
  read : HasRead l.initial.fls l.fls;
  flash : MayRead l.fls l.geometry;
  room : length l.buffer ≡ l.geometry.sector;
}
