-- What a driver and a desk are, all told.
use Rattle.std.specs.Prelude.{◌≡◌, true, false, Option, None}
use Rattle.nvm_moves.specs.memif.Told.{DeviceTold}
use Rattle.nvm_moves.specs.memif.Clock.{Clock}
use Rattle.nvm_moves.specs.nv_desk.Desk.{DeskState, state_of}
use Rattle.nvm_moves.specs.job_progress.Hand.{HandState}
use Rattle.nvm_moves.specs.nvm_laws.Keeps.{StackKeepsAsTold}
use Rattle.nvm_shared.specs.Driving.{DriverState}
use Rattle.nvm_shared.specs.Unplanned.{IsUnplanned}
use Rattle.nvm_moves.specs.Seen.{Seen}

-- A device of one part, at which no planned cut came and none is planned; and where it is off the machine's power is, since an Off
-- tells of each cut.
pub record IsUncut (desk : DeskState) (d : DeviceTold) : Type 0 where
  pub one : d.fixed.two ≡ false
  pub unplanned : IsUnplanned d.first
  pub power : d.first.off ≡ true → (state_of desk).off ≡ true

-- between its turns
abbrev pub seen_at : DeskState → Option HandState → DeviceTold → Clock → Seen
seen_at desk hand d clock = record { begun = None; desk = desk; hand = hand; device = d; clock = clock; kept = λ before. StackKeepsAsTold before desk hand d clock; uncut = IsUncut desk d }

abbrev pub seen_of : {D C : Type 0} → (told : D → DeviceTold) → (clock : D → Clock) → DeskState → DriverState D C → Seen
seen_of told clock desk s = seen_at desk s.hand (told s.device) (clock s.device)
