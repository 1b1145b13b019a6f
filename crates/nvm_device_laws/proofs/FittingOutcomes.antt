-- What a job of the device comes to fits what is settled.
use Rattle.std.specs.Prelude.{unwrap_or, option_map}
use Rattle.std.specs.List.{Contains}
use Rattle.std.proofs.Common.{◌≡◌, ℕ, true, false, List, Option, Some, None, refl, sym, ap, ◌∙◌, subst, inl, inr}
use Rattle.block_machine.specs.nv_base.declared.instance.DeviceNumber.{DeviceNumber}
use Rattle.block_machine.specs.nv_base.Marks.{instance_of}
use Rattle.block_machine.specs.block_config.Lengths.{lengths_of}
use Rattle.memif.specs.declared.answer.DeviceTurn.{DeviceTurn}
use Rattle.memif.specs.declared.answer.DeviceTurn.TheVariants as turn
use Rattle.memif.specs.declared.answer.JobResult.{JobResult}
use Rattle.memif.specs.declared.answer.JobResult.TheVariants.{JobOk, JobFailed, BlockInconsistent, BlockInvalid}
use Rattle.memif.specs.Told.{DeviceTold, Slot, Part, First, Second, Stand, Job, Open, Ended, slot_at}
use Rattle.memif.specs.Clock.{Clock}
use Rattle.memif.specs.Calls.{Reads, ReadsAt, EndsAs, IsOf, JobTurns, IsCut, Turns}
use Rattle.block_machine.specs.Words.{Mark, Content, Invalid, Erased, Configuration}
use Rattle.block_machine.specs.State.{State, InstanceState}
use Rattle.block_machine.specs.Blocks.{settled_at}
use Rattle.job_programs.proofs.Outcomes.{no_read_is}
use Rattle.nvm_device_laws.specs.Pairing.{Agrees, Pairs}
use Rattle.nvm_device_laws.specs.Outcomes.{FitsSettled, OutcomesFit}

reads_fit : (mark : Mark) (r : JobResult) (given : List ℕ) → Reads mark r given → FitsSettled None mark r given
reads_fit (Content bytes) JobOk given is = (refl, λ ok. ap Content (sym is))
reads_fit (Content bytes) JobFailed given is = (refl, λ ok. cc)
reads_fit Invalid BlockInvalid given is = (refl, λ ok. cc)
reads_fit Erased BlockInconsistent given is = (refl, λ ok. cc)
reads_fit mark r given is = absurd is

-- what is settled in the machine is what the device has
settled_same : (c : Configuration) (s : State) (due : ℕ → ℕ) (numbers : List (DeviceNumber × ℕ)) (slots : List Slot)
    (x : DeviceNumber × ℕ) → Pairs Agrees c s due numbers (Some slots) → Contains (lengths_of c) x
    → (slot_at numbers slots x.0.0).settled.mark ≡ settled_at s (instance_of x.0)
settled_same c s due numbers slots x pairs has =
    let (y, at, agrees) = pairs x has in
    agrees.settled ∙ sym (ap (λ (o : Option InstanceState). unwrap_or (option_map (λ z. z.cell.settled) o) Erased) at)

read_at : (c : Configuration) (s : State) (due : ℕ → ℕ) (old : DeviceTold) (o : Option (List Slot)) (x : DeviceNumber × ℕ)
    (number : ℕ) (r : JobResult) (given : List ℕ) → Pairs Agrees c s due old.fixed.numbers o
    → Contains (lengths_of c) x → x.0.0 ≡ number → ReadsAt number o r given old → FitsSettled None (settled_at s (instance_of x.0)) r given
read_at c s due old (Some slots) x number r given pairs has same reads =
    let here : Reads (slot_at old.fixed.numbers slots x.0.0).settled.mark r given = subst
    (λ (n : ℕ). Reads (slot_at old.fixed.numbers slots n).settled.mark r given) (sym same) reads in
    subst (λ (m : Mark). FitsSettled None m r given) (settled_same c s due old.fixed.numbers slots x pairs has)
    (reads_fit (slot_at old.fixed.numbers slots x.0.0).settled.mark r given here)
read_at c s due old None x number r given pairs has same reads = absurd pairs

module _ (old : DeviceTold) (clock : Clock) (new : DeviceTold) (clock_new : Clock) where
  ends_fit : (c : Configuration) (s : State) (due : ℕ → ℕ) (number : ℕ) (mark : Option Mark) (x : DeviceNumber × ℕ) (r : JobResult)
      (given : List ℕ) → EndsAs mark number r given old new
      → Pairs Agrees c s due old.fixed.numbers old.slots → Contains (lengths_of c) x → x.0.0 ≡ number
      → FitsSettled mark (settled_at s (instance_of x.0)) r given
  ends_fit c s due number None x r given ends pairs has same = read_at c s due old old.slots x number r given pairs has same ends.0
  ends_fit c s due number (Some mark) x JobOk given ends pairs has same = λ kind other. no_read_is kind (settled_at s (instance_of x.0)) false other
  ends_fit c s due number (Some mark) x JobFailed given ends pairs has same = λ kind other. no_read_is kind (settled_at s (instance_of x.0)) true other
  ends_fit c s due number (Some mark) x r given ends pairs has same = absurd ends.0

  -- a turn that ends a job worked on it, in its own part
  abbrev pub Ending : Job → JobResult → List ℕ → Type 0
  Ending j r given = (p : Part) × IsOf p old.fixed (Open j) × JobTurns p (Open j) (Ended r given) old new clock_new

  not_ended : (j : Job) (r : JobResult) (given : List ℕ) → Open j ≡ Ended r given → ⊥
  not_ended j r given is = cc

  cut_stand : (p : Part) → IsCut p old new → new.stand ≡ old.stand
  cut_stand First cut = ap (λ (d : DeviceTold). d.stand) cut.only
  cut_stand Second cut = ap (λ (d : DeviceTold). d.stand) cut.only

  pub ending : (answer : DeviceTurn) (j : Job) (r : JobResult) (given : List ℕ) → Turns answer old clock new clock_new
      → old.stand ≡ Open j → new.stand ≡ Ended r given → Ending j r given
  ending turn.Idle j r given turns was is = absurd (not_ended j r given (sym was ∙ sym (ap (λ (d : DeviceTold). d.stand) turns.0.1) ∙ is))
  ending turn.Worked j r given turns was is = (
    turns.0.1.0,
    subst (λ (a : Stand). IsOf turns.0.1.0 old.fixed a) was turns.0.1.1.of,
    subst (λ (b : Stand). JobTurns turns.0.1.0 (Open j) b old new clock_new) is
        (subst (λ (a : Stand). JobTurns turns.0.1.0 a new.stand old new clock_new) was turns.0.1.1.job),
  )
  ending turn.Off j r given turns was is = elim turns.0.1.1 [
    | inl still ↦ absurd (not_ended j r given (sym was ∙ sym (ap (λ (d : DeviceTold). d.stand) still.2) ∙ is))
    | inr cut ↦ absurd (not_ended j r given (sym was ∙ sym (cut_stand turns.0.1.0 cut.0) ∙ is))
  ]

  pub outcomes_fit : (answer : DeviceTurn) → Turns answer old clock new clock_new → OutcomesFit old new
  outcomes_fit answer turns c s due j x r given was is pairs has same =
      let (p, of, ends) = ending answer j r given turns was is in
      ends_fit c s due j.number j.mark x r given ends.0 pairs has same
