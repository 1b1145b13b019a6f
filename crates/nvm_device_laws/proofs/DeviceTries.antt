-- What the calls of a device leave of what pays for a program's failed tries.
use Rattle.std.proofs.Common.{◌≡◌, ◌≢◌, ◌+◌, ◌++◌, ◌∷◌, [], if◌then◌else◌, Bool, ℕ, true, false, List, Option, Some, None, Result, Ok, Err, refl, sym, ap, ◌∙◌, subst}
use Rattle.std.proofs.Common.{inl, inr, arith}
use Rattle.block_machine.specs.nv_base.declared.job.Outcome.TheVariants.{First as NoOutcome}
use Rattle.memif.specs.declared.answer.DeviceRefusal.{DeviceRefusal}
use Rattle.memif.specs.declared.answer.DeviceTurn.{DeviceTurn}
use Rattle.memif.specs.declared.answer.DeviceTurn.TheVariants as turn
use Rattle.memif.specs.declared.answer.JobResult.{JobResult}
use Rattle.memif.specs.declared.answer.JobResult.TheVariants.{JobOk, JobFailed, BlockInconsistent, BlockInvalid}
use Rattle.memif.specs.Told.{DeviceTold, Fixed, Part, Job, Open, Ended, part_at, part_of, part_of_block, figures_at, length_of, PartTold}
use Rattle.memif.specs.Clock.{Clock}
use Rattle.memif.specs.Calls.{Wish, Accepts, Cancels, Arms, Turns, EndsAs, Gives, MayFail}
use Rattle.block_machine.specs.Words.{Mark, Outcome, WroteMark, ReadContent, FoundErased, FoundInvalid, Failed, Entry}
use Rattle.block_machine.specs.Words.{Configuration}
use Rattle.job_programs.specs.Program as program
use Rattle.job_programs.specs.Program.{Program, next_in, is_failed, is_again, after_by}
use Rattle.block_machine.specs.nv_base.Count.{Rose}
use Rattle.block_machine.specs.nv_base.Marks.{number_of}
use Rattle.promise_blocks.specs.OverDevice.{is_of}
use Rattle.promise_blocks.specs.Payment.{Worn}
use Rattle.nvm_device_laws.specs.Turn.{Keeps}
use Rattle.nvm_device_laws.specs.Outcomes.{outcome_by}
use Rattle.nvm_device_laws.specs.Tries.{AreTriesPaid, TriesArePaidAt, TriesArePaid, TriesStay, TriesGoOn, counted_at, counted_from}
use Rattle.job_programs.proofs.Outcomes.{after_is}
use Rattle.nvm_device_laws.proofs.Pushed.{Goes}
use Rattle.nvm_device_laws.proofs.DeviceCalls as calls
use Rattle.nvm_device_laws.proofs.FittingOutcomes.{ending}
use Rattle.nvm_device_laws.proofs.PaidTries.{tries_stay, tries_go_on}

-- at the part of a program, which is the same behind each call
paid_at : (f g : Fixed) (c : Configuration) (worn : Worn) (urgent : Bool) (before : Part → PartTold) (now : DeviceTold) (h : List Entry) (p : Program) → g ≡ f
    → TriesArePaidAt f c worn urgent before now h p → TriesArePaidAt g c worn urgent before now h p
paid_at f g c worn urgent before now h p same paid = subst (λ (x : Fixed). TriesArePaidAt x c worn urgent before now h p) (sym same) paid

stays_by : (old : DeviceTold) (clock : Clock) (new : DeviceTold) (clock_new : Clock) (c : Configuration)
    (cap : ℕ) (urgent : Bool) (h : List Entry) (before : Part → PartTold) (p : Program) → Keeps c cap h before old clock
    → Goes old clock new clock_new → TriesArePaid c clock.worn urgent before old h p → TriesArePaid c clock_new.worn urgent before new h p
stays_by old clock new clock_new c cap urgent h before p keeps goes paid =
    let q = part_of_block old.fixed p.block in
    paid_at old.fixed new.fixed c clock_new.worn urgent before new h p goes.fixed
    (tries_stay (is_of q old.fixed) c clock.worn clock_new.worn urgent (counted_from (before q)) (counted_at q old) (counted_at q new) h goes.ops (goes.faults q) goes.past.worn
    keeps.over.counted p paid)

-- an outcome leaves the block of a program
block_by : (again : Bool) (p : Program) (o : Outcome) → p.block ≡ (if again then record p { failures = p.failures + 1 } else record p { done = p.done ++ o ∷ []; failures = 0 }).block
block_by true p o = refl
block_by false p o = refl

block_after : (p : Program) (o : Outcome) → p.block ≡ (program.after p o).block
block_after p o = by (next_in p) o
  where
    by : (n : Option ℕ) (o : Outcome) → p.block ≡ (after_by p n o).block
    by None o = refl
    by (Some index) NoOutcome = refl
    by (Some index) WroteMark = block_by (is_again WroteMark p.failures p.retries) p WroteMark
    by (Some index) ReadContent = block_by (is_again ReadContent p.failures p.retries) p ReadContent
    by (Some index) FoundErased = block_by (is_again FoundErased p.failures p.retries) p FoundErased
    by (Some index) FoundInvalid = block_by (is_again FoundInvalid p.failures p.retries) p FoundInvalid
    by (Some index) Failed = block_by (is_again Failed p.failures p.retries) p Failed

pub some_outcome : (mark : Option Mark) (r : JobResult) → outcome_by mark r ≢ NoOutcome
some_outcome None JobOk is = cc
some_outcome None r is = cc
some_outcome (Some mark) JobOk is = cc
some_outcome (Some mark) r is = cc

-- a failed outcome is a failed job
failed_read : (r : JobResult) (n : Option ℕ) (given : List ℕ) → Gives r n given → is_failed (outcome_by None r) ≡ true → r ≡ JobFailed
failed_read JobOk n given gives failed = cc
failed_read JobFailed n given gives failed = refl
failed_read BlockInconsistent n given gives failed = cc
failed_read BlockInvalid n given gives failed = cc
failed_read r None given gives failed = absurd gives
failed_read r (Some n) given gives failed = absurd gives

pub failed_job : (mark : Option Mark) (number : ℕ) (r : JobResult) (given : List ℕ) (old new : DeviceTold) → EndsAs mark number r given old new
    → is_failed (outcome_by mark r) ≡ true → r ≡ JobFailed
failed_job None number r given old new ends failed = failed_read r (length_of old.fixed.numbers number) given ends.1 failed
failed_job (Some mark) number JobOk given old new ends failed = cc
failed_job (Some mark) number JobFailed given old new ends failed = refl
failed_job (Some mark) number r given old new ends failed = absurd ends.0

module _ (old : DeviceTold) (clock : Clock) (new : DeviceTold) (clock_new : Clock) where
  -- what each call does
  turn_goes : (answer : DeviceTurn) → Turns answer old clock new clock_new → Goes old clock new clock_new
  turn_goes turn.Idle turns = calls.goes_same old clock new clock_new turns.0.1 turns.0.2 (λ held. turns.1.now held)
  turn_goes turn.Worked turns = calls.goes_worked old clock new clock_new turns.0.1.0 turns.0.1.1 turns.0.1.2 (λ held. turns.1.now held)
  turn_goes turn.Off turns = elim turns.0.1.1 [
    | inl still_off ↦ calls.goes_same old clock new clock_new still_off.2 still_off.3 (λ held. turns.1.now held)
    | inr cut ↦ calls.goes_cut old clock new clock_new turns.0.1.0 cut.0 cut.1 (λ held. turns.1.now held)
  ]

  start_goes : (w : Wish) (answer : Result (Unit {0}) DeviceRefusal) → Accepts w answer old clock new clock_new
      → Goes old clock new clock_new
  start_goes w (Ok u) accepts = calls.goes_opened old clock new clock_new w.job accepts.0.1 accepts.1
  start_goes w (Err refusal) accepts = calls.goes_same old clock new clock_new accepts.0.1 accepts.1.same
      (λ held. accepts.1.order.now held)

  -- so each leaves them paid
  pub turn_tries : (answer : DeviceTurn) → Turns answer old clock new clock_new → TriesStay old clock new clock_new
  turn_tries answer turns c cap urgent h before p keeps paid =
      stays_by old clock new clock_new c cap urgent h before p keeps (turn_goes answer turns) paid

  pub start_tries : (w : Wish) (answer : Result (Unit {0}) DeviceRefusal) → Accepts w answer old clock new clock_new
      → TriesStay old clock new clock_new
  start_tries w answer accepts c cap urgent h before p keeps paid =
      stays_by old clock new clock_new c cap urgent h before p keeps (start_goes w answer accepts) paid

  pub cancel_tries : Cancels old clock new clock_new → TriesStay old clock new clock_new
  cancel_tries cancels c cap urgent h before p keeps paid =
      stays_by old clock new clock_new c cap urgent h before p keeps (calls.goes_canceled old clock new clock_new cancels) paid

  pub arm_tries : (which nth keep : ℕ) → Arms which nth keep old clock new clock_new → TriesStay old clock new clock_new
  arm_tries which nth keep arms c cap urgent h before p keeps paid =
      stays_by old clock new clock_new c cap urgent h before p keeps
      (calls.goes_armed old clock new clock_new which nth keep arms) paid

  -- THE END OF A JOB
  -- a job that ends in a turn ends in one of its own part
  abbrev EndsOwn : Job → JobResult → List ℕ → Type 0
  EndsOwn j r given = EndsAs j.mark j.number r given old new × (r ≡ JobFailed → MayFail (part_of old.fixed j) j old new clock_new)

  ends_own : (answer : DeviceTurn) (j : Job) (r : JobResult) (given : List ℕ)
      → Turns answer old clock new clock_new → old.stand ≡ Open j → new.stand ≡ Ended r given → EndsOwn j r given
  ends_own answer j r given turns was is =
      let (p, of, ends) = ending old clock new clock_new answer j r given turns was is in
      (ends.0, λ failed. subst (λ (q : Part). MayFail q j old new clock_new) of.1 (ends.1 failed))

  pub turn_goes_on : (answer : DeviceTurn) → Turns answer old clock new clock_new
      → TriesGoOn old clock new clock_new
  turn_goes_on answer turns c cap urgent h before p j index x r given keeps was is at number rank listed own block reads few paid =
      let goes = turn_goes answer turns in
      let ends = ends_own answer j r given turns was is in
      let q = part_of_block old.fixed p.block in
      let of : part_of old.fixed j ≡ q = ap (λ (n : ℕ). (figures_at old.fixed n).part) (sym own) ∙ keeps.device.parts x listed ∙ ap (part_of_block old.fixed) block in
      paid_at old.fixed new.fixed c clock_new.worn urgent before new h (program.after p (outcome_by j.mark r)) goes.fixed
      (subst (λ (b : ℕ). AreTriesPaid (is_of (part_of_block old.fixed b) old.fixed) c clock_new.worn urgent (counted_from (before (part_of_block old.fixed b)))
      (counted_at (part_of_block old.fixed b) new) h (program.after p (outcome_by j.mark r))) (block_after p (outcome_by j.mark r))
      (tries_go_on (is_of q old.fixed) c clock.worn clock_new.worn urgent (counted_from (before q)) (counted_at q old) (counted_at q new) h goes.ops (goes.faults q)
      goes.past.worn keeps.over.counted p (outcome_by j.mark r) index at
      (after_is p (outcome_by j.mark r) index at (some_outcome j.mark r)) few
      (λ failed. elim (ends.1 (failed_job j.mark j.number r given old new ends.0 failed)) [
        | inl rose ↦ inl (subst (λ (y : Part). Rose (part_at y old).faults (part_at y new).faults) of rose)
        | inr out ↦ inr (
          λ kind. out.0 (reads kind),
          (new.ops, omega arith, subst (λ (b : Bool). clock_new.worn new.ops (number_of (record { block = p.block; index = index })) b) rank (subst (λ (n : ℕ). clock_new.worn new.ops n j.urgent) number out.1)),
        )
      ]) paid))
