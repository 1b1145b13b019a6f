-- Turns without an operation.
use Rattle.std.specs.Prelude.{not, ◌&&◌}
use Rattle.std.proofs.Common.{◌≡◌, inl, true, false, Option, Some, None, refl, sym, ap, ◌∙◌}
use Rattle.memif.specs.declared.answer.DeviceTurn.TheVariants as turn
use Rattle.memif.specs.Told.{First, is_open}
use Rattle.memif.specs.Clock.{SameClock}
use Rattle.fls_model.specs.Told.{Told}
use Rattle.fls_told.proofs.Clocks.{clocks_stay}
use Rattle.ea_told.specs.declared.job.EaJob.{EaJob}
use Rattle.ea_told.specs.Making.{Making}
use Rattle.ea_told.specs.Parts.{Parts}
use Rattle.ea_told.specs.Device.{stand_of, flash_device, clock_of}
use Rattle.ea_told.specs.Inside.{IsSound}
use Rattle.ea_told.specs.Laws.{Turned}
use Rattle.ea_told.proofs.Order.{order, is_of_first}
use Rattle.ea_told.proofs.Stepping.{rests_not}

module _ (m : Making) (entry : Told) (s : Parts) (sound : IsSound m entry s) where
  same_clock : SameClock (clock_of m entry s) (clock_of m entry s)
  same_clock = clocks_stay (flash_device m entry s) (flash_device m entry s) (record { reading = refl; entry = refl; operations = refl; bytes = refl }) (λ n. refl)

  -- nothing is open
  pub idle_turn : s.job ≡ None → Turned m entry turn.Idle s s
  idle_turn none = record {
    turns = ((ap (λ (o : Option EaJob). not (is_open (stand_of s.content o s.last s.given)) && not false) none, refl, same_clock), order m entry s sound);
    sound = sound;
  }

  -- the power is off
  pub off_turn : (j : EaJob) → s.job ≡ Some j → s.off ≡ true → Turned m entry turn.Off s s
  off_turn j job off =
      let started = rests_not s.started s.job j sound.rests job in
      record {
        turns = (
          (
            ap (λ (o : Option EaJob). not (is_open (stand_of s.content o s.last s.given)) && not false) job,
            (First, inl (sym (sound.off started) ∙ off, is_of_first m s.content s.job s.last s.given, refl, same_clock)),
          ),
          order m entry s sound,
        );
        sound = sound;
      }
