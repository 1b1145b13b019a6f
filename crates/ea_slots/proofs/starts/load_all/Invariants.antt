use Rattle.std.specs.Prelude.{IfSome}
use Rattle.std.proofs.Common.{◌≡◌, ℕ, length}
use Rattle.ea_told.specs.Device.{state_at}
use Rattle.ea_slots.specs.Starts.{HasRead, MayRead, AreLoaded}
use Rattle.ea_slots.proofs.starts.load_all.Given as goal

abbrev pub invariant-loop-place : goal.invariant-loop-place
invariant-loop-place g l = record {
  read : HasRead l.initial.fls l.fls;
  flash : MayRead l.fls l.geometry;
  loaded : IfSome l.initial.fls.flash.bytes (λ b. AreLoaded l.geometry l.numbers l.place l.states b.now);
  worn : (i : ℕ) → (state_at l.states i).worn ≡ (state_at l.initial.states i).worn;
  count : length l.states ≡ length l.initial.states;
  room : length l.buffer ≡ l.geometry.sector;
}
