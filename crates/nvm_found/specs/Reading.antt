-- A read that is under way.
use Rattle.std.specs.Prelude.{◌≡◌, ℕ, true, false, None}
use Rattle.memif.specs.Told.{DeviceTold, PartTold, Stand, Open, Ended}
use Rattle.memif.specs.Clock.{Clock}
use Rattle.memif.specs.Calls.{FaultsGrow}
use Rattle.nvm_found.specs.Places.{ReadsOn, ReadComesTo}

-- what reads change of a part: its faults
pub record PartReads (old new : PartTold) : Type 0 where
  pub off : new.off ≡ old.off
  pub faults : FaultsGrow old new
  pub plan : old.planning.plan ≡ None → new.planning ≡ old.planning

-- it's open, or it ended
abbrev pub StandsAs : ℕ → ℕ → DeviceTold → DeviceTold → Stand → Type 0
StandsAs number size old new (Open j) = (j.number ≡ number) × (j.mark ≡ None)
StandsAs number size old new (Ended outcome given) = ReadComesTo number size old outcome given new

pub record IsReading (number size : ℕ) (old : DeviceTold) (clock : Clock) (new : DeviceTold) (clock_new : Clock) : Type 0 where
  pub started : new.started ≡ true
  pub first_on : new.first.off ≡ false
  pub second_on : new.second.off ≡ false
  pub reads : ReadsOn old clock new clock_new
  pub stand : StandsAs number size old new new.stand
