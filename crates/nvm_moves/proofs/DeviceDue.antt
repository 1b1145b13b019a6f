-- What is due, in the device's own turn.
use Rattle.nvm_moves.proofs.Common.{◌≡◌, inl, inr, ℕ, ◌+◌, ◌≤◌, Bool, true, false, Option, sym, ◌∙◌, subst, arith, cases_Bool, Rose, faults_of, nothing_open, Clock, Entry, state_of, IsPaired, StackNow, IsDue, IsDueInHand, IsDueNext, IsNearer, post_first, Turned, TurnsDevice, asked_by, more_due, Moment, IsAskedDue, IsDueWithin, takes_one}
use Rattle.nvm_core.specs.nvm_laws.declared.turned.Turned.TheVariants as turned
use Rattle.promise_run.specs.Turns.{is_off}
use Rattle.nvm_moves.proofs.Counts.{rose_in, rose_or}
use Rattle.nvm_moves.proofs.DeviceServed.{next_on}
use Rattle.nvm_moves.proofs.Servable.{still_on}
use Rattle.nvm_moves.proofs.TurnEntries.{AddsOne}
use Rattle.nvm_moves.proofs.TurnServed.{IsSoon, nearer, of_block, on_then}

module _ (old new : StackNow) (clock clock_new : Clock) where
  abbrev entry_by : Turned → Option Entry
  entry_by a = asked_by a old.device.stand new.device.stand new.device.ops

  -- the next job stays it
  next_by : (a : Turned) (number turns : ℕ) → TurnsDevice a old.device clock new.device clock_new → AddsOne new.device.ops old.desk new.desk (entry_by a) → IsPaired old.desk.config (state_of old.desk) old.hand old.device
      → nothing_open old.device ≡ false → post_first old.hand ≡ 0 → is_off (entry_by a) ≡ false → ¬ Rose old.device.first.faults new.device.first.faults → new.device.first.off ≡ false
      → IsDueNext number turns old → IsDueNext number (turns + post_first new.hand) new
  next_by turned.Worked number turns made adds paired busy unfinished none calm on due =
      next_on made.0.1.0 number turns old.desk new.desk old.hand new.hand old.device new.device clock_new made.0.1.1 adds paired calm on unfinished due
  next_by turned.Idle number turns made adds paired busy unfinished none calm on due = absurd (let P : false ≡ true = sym busy ∙ made.0.0 in cc P)
  next_by turned.Off number turns made adds paired busy unfinished none calm on due = absurd (cc none)
  next_by a number turns made adds paired busy unfinished none calm on due = absurd made

  module _ (answer : Turned) (made : TurnsDevice answer old.device clock new.device clock_new) (adds : AddsOne new.device.ops old.desk new.desk (entry_by answer)) (paired : IsPaired old.desk.config (state_of old.desk) old.hand old.device)
      (busy : nothing_open old.device ≡ false) (unfinished : post_first old.hand ≡ 0) (second : old.device.second.faults ≤ new.device.second.faults)
      (nears : (number turns : ℕ) → ¬ Rose old.device.first.faults new.device.first.faults → (state_of new.desk).off ≡ false → IsDueInHand number turns old → IsNearer number turns new)
      (power : new.device.first.off ≡ true → (state_of new.desk).off ≡ true) (behind : Moment) (same : behind.faults ≡ faults_of new.device) where
    abbrev Soon : (one : Bool) → (id turns : ℕ) → Type 0
    Soon one id turns = IsSoon old new (entry_by answer) new.device.ops adds behind one id turns

    module _ (calm : ¬ Rose (faults_of old.device) (faults_of new.device)) (none : is_off (entry_by answer) ≡ false) where
      calm_first : ¬ Rose old.device.first.faults new.device.first.faults
      calm_first rose = calm (rose_in old.device.first.faults new.device.first.faults old.device.second.faults new.device.second.faults second rose)

      on : (state_of old.desk).off ≡ false → (state_of new.desk).off ≡ false
      on was = on_then old new (entry_by answer) new.device.ops adds behind was none

      -- behind the turn within which it was accepted
      accepted_soon : (id turns less : ℕ) → turns ≡ less + 1 → IsAskedDue id less old.desk old.hand old.device → Soon true id turns
      accepted_soon id turns less sooner was = by was.due
        where
          by : IsDue was.number less old → Soon true id turns
          by (inr due) =
              let (fewer, nearer_by, near) = nears was.number less calm_first (on was.on) due in
              nearer old new (entry_by answer) new.device.ops adds behind true id was.number turns was.block was.on none (less, sooner, more_due was.number fewer less new (omega (arith, nearer_by)) near)
          by (inl due) =
              let some = takes_one was.number less old (inl due) in
              inr (inr (inr (inr (inr (inr (
                omega (arith, some, sooner),
                record {
                  number = was.number;
                  due = subst (λ (n : ℕ). IsDue was.number (n + post_first new.hand) new) (omega (arith, sooner))
                      (inl (next_by answer was.number less made adds paired busy unfinished none calm_first (still_on new.device.first.off (state_of new.desk).off (on was.on) power) due));
                  block = of_block old new (entry_by answer) new.device.ops adds behind was.number id was.block;
                  on = on was.on;
                },
              ))))))

      calm_soon : (one : Bool) (id turns : ℕ) → IsDueWithin old.hand old.device old.desk one id turns → Soon one id turns
      calm_soon one id turns (inl (number, due, of, was)) = nearer old new (entry_by answer) new.device.ops adds behind one id number turns of was none (nears number turns calm_first (on was) due)
      calm_soon one id turns (inr (less, first, sooner, due)) = subst (λ (b : Bool). Soon b id turns) (sym first) (accepted_soon id turns less sooner due)

    pub device_soon : (one : Bool) (id turns : ℕ) → IsDueWithin old.hand old.device old.desk one id turns → Soon one id turns
    device_soon one id turns due = elim (rose_or (faults_of old.device) (faults_of new.device)) [
      | inl rose ↦ inr (inr (inr (inl (subst (λ (n : ℕ). Rose (faults_of old.device) n) (sym same) rose))))
      | inr calm ↦ elim (cases_Bool (is_off (entry_by answer))) [
        | inl off ↦ inr (inr (inr (inr (inl off))))
        | inr none ↦ calm_soon calm none one id turns due
      ]
    ]
