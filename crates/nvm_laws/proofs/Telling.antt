-- What each call of a device leaves of what it tells.
use Rattle.std.specs.Prelude.{is_none, is_some, if◌then◌else◌, ◌==◌}
use Rattle.std.proofs.Common.{◌≡◌, ℕ, Bool, true, false, List, Option, Some, None, Result, Ok, Err, refl, sym, ap, ◌∙◌, inl, inr, arith}
use Rattle.block_machine.specs.nv_base.declared.mark.Mark.{Mark}
use Rattle.memif.specs.declared.answer.DeviceRefusal.{DeviceRefusal}
use Rattle.memif.specs.declared.answer.DeviceTurn.{DeviceTurn}
use Rattle.memif.specs.declared.answer.DeviceTurn.TheVariants as turn
use Rattle.memif.specs.declared.answer.JobResult.{JobResult}
use Rattle.memif.specs.declared.answer.JobResult.TheVariants.{JobOk, JobFailed}
use Rattle.memif.specs.Told.{DeviceTold, Slot, Held, Part, First, Second, Stand, Open, Ended, IfElse, plans, is_open}
use Rattle.memif.specs.Marks.{Keeps, Doubts, SettlesAs, DoubtsAt}
use Rattle.memif.specs.Clock.{Clock, SameClock, Past, After}
use Rattle.memif.specs.Calls.{Wish, Accepts, Cancels, IsCanceled, Arms, Turns, Works, IsCut, JobTurns, EndsAs, InOrder, is_read}
use Rattle.memif.proofs.Turning.{told_before}
use Rattle.nvm_device_laws.specs.Turn.{TellsSlots}
use Rattle.nvm_laws.proofs.Keeping.{StillTells}

pub same_found : (clock clock_new : Clock) → SameClock clock clock_new → (held : ℕ → Held) → clock_new.may_find (After 0) held → clock.may_find (After 0) held
same_found clock clock_new same held finds = (same.may_find (After 0) held).0 finds

module _ (old : DeviceTold) (clock : Clock) (new : DeviceTold) (clock_new : Clock) where
  same_tells : new ≡ old → SameClock clock clock_new → InOrder new clock_new → StillTells old clock new clock_new
  same_tells same clocks order = record {
    tells = ap (λ (d : DeviceTold). d.tells) same;
    told = λ told. ap (λ (d : DeviceTold). is_some d.slots) (sym same) ∙ told;
    past = same_found clock clock_new clocks;
    begun = order.told;
  }

  doubts_told : (number : ℕ) (mark : Option Mark) → DoubtsAt number mark old new → TellsSlots new → TellsSlots old
  doubts_told number None marks = told_before (λ n s t. Keeps s t) old new marks
  doubts_told number (Some mark) marks = told_before (λ n s t. IfElse (n == number) (Doubts mark s t) (Keeps s t)) old new marks

  pub accepts_tell : (w : Wish) (answer : Result (Unit {0}) DeviceRefusal) → Accepts w answer old clock new clock_new → StillTells old clock new clock_new
  accepts_tell w (Err refusal) accepts = same_tells accepts.0.1 accepts.1.same accepts.1.order
  accepts_tell w (Ok u) accepts = record {
    tells = ap (λ (d : DeviceTold). d.tells) accepts.0.1.only;
    told = doubts_told w.job.number w.job.mark accepts.0.1.marks;
    past = same_found clock clock_new accepts.1.same;
    begun = accepts.1.order.told;
  }

  pub cancels_tell : Cancels old clock new clock_new → StillTells old clock new clock_new
  cancels_tell cancels = by (is_open old.stand) cancels.0
    where
      by : (t : Bool) → IfElse t (IsCanceled old new) (new ≡ old) → StillTells old clock new clock_new
      by true is = record {
        tells = ap (λ (d : DeviceTold). d.tells) is.only;
        told = told_before (λ n s t. Keeps s t) old new is.marks;
        past = same_found clock clock_new cancels.1.same;
        begun = cancels.1.order.told;
      }
      by false same = same_tells same cancels.1.same cancels.1.order

  pub arms_tell : (which nth keep : ℕ) → Arms which nth keep old clock new clock_new → StillTells old clock new clock_new
  arms_tell which nth keep arms =
      let is = stay (which == 0) (which == 1) in
      record {
        tells = ap (λ (d : DeviceTold). d.tells) arms.0 ∙ is.0;
        told = λ told. sym (ap (λ (d : DeviceTold). is_some d.slots) arms.0 ∙ is.1) ∙ told;
        past = same_found clock clock_new arms.1.same;
        begun = arms.1.order.told;
      }
    where
      stay : (t u : Bool) → let e = (if t then record old { first = plans nth keep old.first } else (if u then record old { second = plans nth keep old.second } else old)) in (e.tells ≡ old.tells) × (is_some e.slots ≡ is_some old.slots)
      stay true u = (refl, refl)
      stay false true = (refl, refl)
      stay false false = (refl, refl)

  -- A TURN
  ends_told : (number : ℕ) (mark : Option Mark) (r : JobResult) (given : List ℕ) → EndsAs mark number r given old new → (is_none mark ≡ true → new.slots ≡ old.slots) → TellsSlots new → TellsSlots old
  ends_told number None r given ends same told = ap (λ (s : Option (List Slot)). is_some s) (sym (same refl)) ∙ told
  ends_told number (Some mark) JobOk given ends same told = told_before (λ n s t. IfElse (n == number) (SettlesAs mark s t) (Keeps s t)) old new ends.0 told
  ends_told number (Some mark) JobFailed given ends same told = told_before (λ n s t. Keeps s t) old new ends.0 told
  ends_told number (Some mark) result given ends same told = absurd ends.0

  turn_told : (p : Part) (a b : Stand) → JobTurns p a b old new clock_new → (is_read a ≡ true → new.slots ≡ old.slots) → TellsSlots new → TellsSlots old
  turn_told p (Open j) (Open j') turns same told = told_before (λ n s t. Keeps s t) old new turns.1 told
  turn_told p (Open j) (Ended r given) turns same told = ends_told j.number j.mark r given turns.0 same told
  turn_told p (Ended r given) b turns same told = told_before (λ n s t. Keeps s t) old new turns.1 told

  past_found : Past old.ops clock clock_new → (held : ℕ → Held) → clock_new.may_find (After 0) held → clock.may_find (After 0) held
  past_found past held finds = past.after 0 held (omega arith) finds

  worked_tells : (p : Part) → Works p old new clock_new → new.tells ≡ old.tells
  worked_tells First works = ap (λ (d : DeviceTold). d.tells) works.only
  worked_tells Second works = ap (λ (d : DeviceTold). d.tells) works.only

  cut_tells : (p : Part) → IsCut p old new → new.tells ≡ old.tells
  cut_tells First cut = ap (λ (d : DeviceTold). d.tells) cut.only
  cut_tells Second cut = ap (λ (d : DeviceTold). d.tells) cut.only

  pub turns_tell : (answer : DeviceTurn) → Turns answer old clock new clock_new → StillTells old clock new clock_new
  turns_tell turn.Idle turns = same_tells turns.0.1 turns.0.2 turns.1
  turns_tell turn.Worked turns =
      let works = turns.0.1.1 in
      record {
        tells = worked_tells turns.0.1.0 works;
        told = turn_told turns.0.1.0 old.stand new.stand works.job (λ is. (works.read is).1);
        past = past_found turns.0.1.2.past;
        begun = turns.1.told;
      }
  turns_tell turn.Off turns = elim turns.0.1.1 [
    | inl still ↦ same_tells still.2 still.3 turns.1
    | inr cut ↦ record {
      tells = cut_tells turns.0.1.0 cut.0;
      told = told_before (λ n s t. Keeps s t) old new cut.0.marks;
      past = past_found cut.1.past;
      begun = turns.1.told;
    }
  ]
