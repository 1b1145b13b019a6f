-- A turn of the device, with the entry that it asks for.
use Rattle.std.specs.Prelude.{IfSome}
use Rattle.std.proofs.Common.{arith, ◌≡◌, ◌⊎◌, ℕ, Bool, true, false, List, [], ◌∷◌, ◌++◌, Option, Some, None, refl, sym, ap, ◌∙◌, subst, inl, inr}
use Rattle.memif.specs.declared.answer.DeviceTurn.{DeviceTurn}
use Rattle.memif.specs.declared.answer.DeviceTurn.TheVariants as turn
use Rattle.memif.specs.declared.answer.JobResult.{JobResult}
use Rattle.memif.specs.declared.answer.JobResult.TheVariants.{JobOk}
use Rattle.block_machine.specs.nv_base.Entry as entry
use Rattle.block_machine.specs.nv_base.Marks.{instance_of}
use Rattle.memif.specs.Told as device
use Rattle.memif.specs.Told.{DeviceTold, Part, First, Second, Stand, Open, Ended, is_open, ops_of, PartTold}
use Rattle.memif.specs.Clock.{Clock}
use Rattle.memif.specs.Calls.{JobTurns, IsCut, Turns}
use Rattle.block_machine.specs.Words.{Mark, Entry, Off, Configuration}
use Rattle.block_machine.specs.State.{State}
use Rattle.block_machine.specs.Steps.{step, after}
use Rattle.promise_blocks.specs.Counts.{count_due}
use Rattle.promise_blocks.specs.Operations.{AreOfJobs, AreStartsTold, start_ups_in}
use Rattle.nvm_device_laws.specs.Outcomes.{outcome_by, OutcomesFit}
use Rattle.nvm_device_laws.specs.Turn.{StaysBy, TurnsKeep, TellsSlots, settled_by, wrote_by}
use Rattle.nvm_device_laws.specs.Tries.{TriesArePaid, TriesStay, TriesGoOn, is_hand_urgent, is_post}
use Rattle.nv_desk_copies.specs.nv_desk.Desk.{DeskState, state_of}
use Rattle.job_progress.specs.Hand.{HandState, ended}
use Rattle.job_progress.specs.JobInHand.{HandFits, IsInHand, IsPaired}
use Rattle.job_progress.specs.Goes.{state_by}
use Rattle.block_laws.proofs.HistoryLaws.{histories_step}
use Rattle.nvm_device_laws.proofs.DeviceCalls.{turn_keeps}
use Rattle.nvm_device_laws.proofs.DeviceTries.{turn_tries, turn_goes_on}
use Rattle.nvm_device_laws.proofs.FittingOutcomes.{outcomes_fit}
use Rattle.nvm_device_laws.proofs.PaidTries.{tries_stay_with}
use Rattle.nvm_device_laws.proofs.Pushed.{started_push}
use Rattle.nvm_laws.specs.Turns.{entry_by, AddsBy, hand_by}
use Rattle.nvm_laws.specs.Keeps.{StackKeeps, StaysKept}
use Rattle.nvm_laws.specs.Calls.{DeviceTurnsKeep}
use Rattle.nvm_laws.proofs.Operations.{is_block}
use Rattle.nvm_laws.proofs.Paying.{wrote_urgency}
use Rattle.nvm_laws.proofs.Staying.{fits_stay, paid_stays}
use Rattle.nvm_laws.proofs.Ending.{ended_fits, index, listed, next, number_is, rank_is, read_has_none, small_index}
use Rattle.nvm_laws.proofs.Keeping.{StillTells, keeps_at, keeps_behind, timed_at}
use Rattle.nvm_laws.proofs.Telling.{turns_tell}
use Rattle.nvm_laws.proofs.Ordering.{order_push, starts_push, turn_ordered}

-- WHERE THE JOBS STAND
-- the job stands as it did, or it ended
abbrev Moves : Stand → Stand → Type 0
Moves a b = (b ≡ a) ⊎ ((job : device.Job) × (r : JobResult) × (given : List ℕ) × (a ≡ Open job) × (b ≡ Ended r given))

moves_by : (p : Part) (old new : DeviceTold) (clock_new : Clock) (a b : Stand) → JobTurns p a b old new clock_new → Moves a b
moves_by p old new clock_new (Open j) (Open j') turns = inl (ap Open turns.0)
moves_by p old new clock_new (Open j) (Ended r given) turns = inr (j, r, given, refl, refl)
moves_by p old new clock_new (Ended r given) b turns = inl turns.0

cut_stand : (p : Part) (old new : DeviceTold) → IsCut p old new → new.stand ≡ old.stand
cut_stand First old new cut = ap (λ (d : DeviceTold). d.stand) cut.only
cut_stand Second old new cut = ap (λ (d : DeviceTold). d.stand) cut.only

pub off_stand : (old : DeviceTold) (clock : Clock) (new : DeviceTold) (clock_new : Clock) → Turns turn.Off old clock new clock_new → new.stand ≡ old.stand
off_stand old clock new clock_new turns = elim turns.0.1.1 [
  | inl still ↦ ap (λ (d : DeviceTold). d.stand) still.2
  | inr cut ↦ cut_stand turns.0.1.0 old new cut.0
]

settled_same : (a b : Stand) (ops : ℕ) → b ≡ a → settled_by a b ops ≡ None
settled_same (Open j) (Open j') ops same = refl
settled_same (Open j) (Ended r given) ops same = cc
settled_same (Ended r given) b ops same = refl

pub hand_same : (a b : Stand) (hand : Option HandState) → b ≡ a → hand_by a b hand ≡ hand
hand_same (Open j) (Open j') hand same = refl
hand_same (Open j) (Ended r given) hand same = cc
hand_same (Ended r given) b hand same = refl

-- THE ENTRY
-- it is no Post and no Found, tells so many operations, and leaves the rank of the job in hand
abbrev IsOfTurn : ℕ → Option Entry → Type 0
IsOfTurn ops None = Unit {0}
IsOfTurn ops (Some e) = (is_post e ≡ false) × (entry.ops_of e ≡ Some ops) × (start_ups_in e ≡ 0)
    × ((c : Configuration) (s : State) → is_hand_urgent c s ≡ is_hand_urgent c (step c s e))

of_turn : (a b : Stand) (ops : ℕ) → IsOfTurn ops (settled_by a b ops)
of_turn (Open j) (Ended JobOk given) ops = by j.mark
  where
    by : (mark : Option Mark) → IsOfTurn ops (wrote_by j.number mark ops)
    by None = tt
    by (Some m) = (refl, refl, refl, λ c s. wrote_urgency c s (instance_of (record { 0 = j.number })) m ops)
of_turn a b ops = tt

fits_off : (c : Configuration) (s : State) (hand : Option HandState) (d : DeviceTold) (ops : ℕ) → HandFits c s hand d → HandFits c (step c s (Off ops)) hand d
fits_off c s None d ops fits = tt
fits_off c s (Some h) d ops fits = λ j held. record { fit = (fits j held).fit; last = (fits j held).last }

module _ (old : DeviceTold) (clock : Clock) (new : DeviceTold) (clock_new : Clock)
    (tries : TriesStay old clock new clock_new) (goes_on : TriesGoOn old clock new clock_new) (outcomes : OutcomesFit old new)
    (before : Part → PartTold) (desk desk_new : DeskState) (hand : Option HandState)
    (up : old.started ≡ true) (told : TellsSlots new) (paired : IsPaired desk.config (state_of desk) hand old) (kept : StackKeeps before desk hand old clock)
    (order : AreOfJobs desk.config desk.entries new clock_new) (starts : AreStartsTold desk.entries new) where
  abbrev ArePaidAt : List Entry → Option HandState → Type 0
  ArePaidAt entries held = IfSome held (λ x. TriesArePaid desk.config clock_new.worn (is_hand_urgent desk.config (after desk.config entries)) before new entries x.program)

  paid_with : (e : Entry) → is_post e ≡ false → is_hand_urgent desk.config (state_of desk) ≡ is_hand_urgent desk.config (step desk.config (state_of desk) e) → (held : Option HandState) → ArePaidAt desk.entries held → ArePaidAt (desk.entries ++ e ∷ []) held
  paid_with e plain same None paid = tt
  paid_with e plain same (Some x) paid =
      subst (λ (b : Bool). TriesArePaid desk.config clock_new.worn b before new (desk.entries ++ e ∷ []) x.program)
      (same ∙ sym (ap (is_hand_urgent desk.config) (histories_step desk.config desk.entries e)))
      (tries_stay_with new clock_new desk.config (is_hand_urgent desk.config (state_of desk)) desk.entries before x.program e plain paid)

  -- all is kept behind an entry, or without one
  made : (e : Option Entry) → IsOfTurn (ops_of new) e → StaysBy e old clock new clock_new → AddsBy e desk desk_new → (held : Option HandState)
      → HandFits desk.config (state_by desk.config (state_of desk) e) held new → ArePaidAt desk.entries held → StackKeeps before desk_new held new clock_new
  made None plain stays adds held fits paid = subst (λ (x : DeskState). StackKeeps before x held new clock_new) (sym adds) (record {
    started = kept.started;
    keeps = stays desk.config desk.cap desk.entries before kept.started kept.keeps told;
    fits = fits;
    paid = paid;
    order = order;
    starts = starts;
  })
  made (Some e) plain stays adds held fits paid = subst (λ (x : DeskState). StackKeeps before x held new clock_new) (sym adds.0) (record {
    started = started_push desk.entries e;
    keeps = stays desk.config desk.cap desk.entries before kept.started adds.1 kept.keeps told;
    fits = subst (λ (t : State). HandFits desk.config t held new) (sym (histories_step desk.config desk.entries e)) fits;
    paid = paid_with e plain.0 (plain.3 desk.config (state_of desk)) held paid;
    order = order_push new clock_new desk.config desk.entries e plain.1 order;
    starts = starts_push new desk.entries e plain.2 starts;
  })

  paid_now : ArePaidAt desk.entries hand
  paid_now = paid_stays old clock new clock_new tries desk.config desk.cap (is_hand_urgent desk.config (state_of desk)) desk.entries before kept.keeps hand kept.paid

  abbrev Done : Type 0
  Done = StackKeeps before desk_new (hand_by old.stand new.stand hand) new clock_new

  -- the power goes off
  went_off : new.stand ≡ old.stand → StaysBy (Some (Off (ops_of new))) old clock new clock_new → AddsBy (Some (Off (ops_of new))) desk desk_new → Done
  went_off same stays adds = subst (λ (x : Option HandState). StackKeeps before desk_new x new clock_new) (sym (hand_same old.stand new.stand hand same))
      (made (Some (Off (ops_of new))) (refl, refl, refl, λ c s. refl) stays adds hand
      (fits_off desk.config (state_of desk) hand new (ops_of new) (fits_stay desk.config (state_of desk) hand old new same kept.fits)) paid_now)

  -- no job ended
  stood : new.stand ≡ old.stand → StaysBy (settled_by old.stand new.stand (ops_of new)) old clock new clock_new
      → AddsBy (settled_by old.stand new.stand (ops_of new)) desk desk_new → Done
  stood same stays adds =
      let none = settled_same old.stand new.stand (ops_of new) same in
      subst (λ (x : Option HandState). StackKeeps before desk_new x new clock_new) (sym (hand_same old.stand new.stand hand same))
      (made None tt (subst (λ (e : Option Entry). StaysBy e old clock new clock_new) none stays) (subst (λ (e : Option Entry). AddsBy e desk desk_new) none adds) hand
      (fits_stay desk.config (state_of desk) hand old new same kept.fits) paid_now)

  -- THE JOB ENDED
  module _ (job : device.Job) (r : JobResult) (given : List ℕ) (on : old.stand ≡ Open job) (off : new.stand ≡ Ended r given) where
    hand_is : (h : HandState) → hand ≡ Some h → hand_by old.stand new.stand hand ≡ Some (ended (outcome_by job.mark r) h)
    hand_is h held = ap (λ (a : Stand). hand_by a new.stand hand) on ∙ (ap (λ (b : Stand). hand_by (Open job) b hand) off
        ∙ ap (λ (x : Option HandState). hand_by (Open job) (Ended r given) x) held)

    ended_paid : (h : HandState) → hand ≡ Some h → IsInHand desk.config (state_of desk) h old → TriesArePaid desk.config clock.worn (is_hand_urgent desk.config (state_of desk)) before old desk.entries h.program
        → ArePaidAt desk.entries (Some (ended (outcome_by job.mark r) h))
    ended_paid h held is paid =
        let (x, has, same) = listed desk.config (state_of desk) h old new job r given is on off
        (is_block desk.config desk.cap desk.entries is.job kept.keeps.device.rules kept.keeps.over.legal is.hand) in
        let number = number_is desk.config (state_of desk) h old new job r given is on off in
        let small = small_index desk.config (state_of desk) h old new job r given is on off kept.keeps.device.rules in
        let own : (instance_of x.0).block ≡ h.program.block = omega (arith, number, small, same) in
        goes_on desk.config desk.cap (is_hand_urgent desk.config (state_of desk)) desk.entries before h.program job
        (index desk.config (state_of desk) h old new job r given is on off) x r given kept.keeps on off
        (next desk.config (state_of desk) h old new job r given is on off) number (rank_is desk.config (state_of desk) h old new job r given is on off) has same own
        (read_has_none desk.config (state_of desk) h old new job r given is on off) is.working.tries paid

    ended_seen : (h : HandState) → IsInHand desk.config (state_of desk) h old → HandFits desk.config (state_of desk) (Some h) old
        → HandFits desk.config (state_by desk.config (state_of desk) (settled_by (Open job) (Ended r given) (ops_of new))) (Some (ended (outcome_by job.mark r) h)) new
    ended_seen h is fits =
        let (x, has, same) = listed desk.config (state_of desk) h old new job r given is on off
        (is_block desk.config desk.cap desk.entries is.job kept.keeps.device.rules kept.keeps.over.legal is.hand) in
        ended_fits desk.config (state_of desk) h old new job r given is on off (ops_of new) x same
        (small_index desk.config (state_of desk) h old new job r given is on off kept.keeps.device.rules)
        (outcomes desk.config (state_of desk) (count_due desk.entries kept.keeps.base) job x r given on off (kept.keeps.settled kept.started up) has same) fits

    entry_is : settled_by old.stand new.stand (ops_of new) ≡ settled_by (Open job) (Ended r given) (ops_of new)
    entry_is = ap (λ (a : Stand). settled_by a new.stand (ops_of new)) on ∙ ap (λ (b : Stand). settled_by (Open job) b (ops_of new)) off

    ended_with : (h : HandState) → hand ≡ Some h → StaysBy (settled_by old.stand new.stand (ops_of new)) old clock new clock_new
        → AddsBy (settled_by old.stand new.stand (ops_of new)) desk desk_new → Done
    ended_with h held stays adds =
        let is : IsInHand desk.config (state_of desk) h old = subst (λ (x : Option HandState). IsPaired desk.config (state_of desk) x old) held paired in
        let fits : HandFits desk.config (state_of desk) (Some h) old = subst (λ (x : Option HandState). HandFits desk.config (state_of desk) x old) held kept.fits in
        let paid : TriesArePaid desk.config clock.worn (is_hand_urgent desk.config (state_of desk)) before old desk.entries h.program =
        subst (λ (x : Option HandState). IfSome x (λ y. TriesArePaid desk.config clock.worn (is_hand_urgent desk.config (state_of desk)) before old desk.entries y.program)) held kept.paid in
        subst (λ (x : Option HandState). StackKeeps before desk_new x new clock_new) (sym (hand_is h held))
        (made (settled_by (Open job) (Ended r given) (ops_of new)) (of_turn (Open job) (Ended r given) (ops_of new))
        (subst (λ (e : Option Entry). StaysBy e old clock new clock_new) entry_is stays)
        (subst (λ (e : Option Entry). AddsBy e desk desk_new) entry_is adds)
        (Some (ended (outcome_by job.mark r) h)) (ended_seen h is fits) (ended_paid h held is paid))

    -- a device that has a job open has one in hand
    ended_by_hand : (held : Option HandState) → hand ≡ held → StaysBy (settled_by old.stand new.stand (ops_of new)) old clock new clock_new
        → AddsBy (settled_by old.stand new.stand (ops_of new)) desk desk_new → Done
    ended_by_hand (Some h) is stays adds = ended_with h is stays adds
    ended_by_hand None is stays adds =
        let none : IsPaired desk.config (state_of desk) None old = subst (λ (x : Option HandState). IsPaired desk.config (state_of desk) x old) is paired in
        let closed : is_open old.stand ≡ false = none.1 in
        let open_now : is_open old.stand ≡ true = ap is_open on in cc

  moved : Moves old.stand new.stand → StaysBy (settled_by old.stand new.stand (ops_of new)) old clock new clock_new
      → AddsBy (settled_by old.stand new.stand (ops_of new)) desk desk_new → Done
  moved (inl same) stays adds = stood same stays adds
  moved (inr (job, r, given, on, off)) stays adds = ended_by_hand job r given on off hand refl stays adds

  pub turned : (answer : DeviceTurn) → Turns answer old clock new clock_new → TurnsKeep answer old clock new clock_new
      → AddsBy (entry_by answer old.stand new.stand (ops_of new)) desk desk_new → Done
  turned turn.Off turns keeps adds = went_off (off_stand old clock new clock_new turns) keeps adds
  turned turn.Idle turns keeps adds = stood (ap (λ (d : DeviceTold). d.stand) turns.0.1) keeps adds
  turned turn.Worked turns keeps adds = moved (moves_by turns.0.1.0 old new clock_new old.stand new.stand turns.0.1.1.job) keeps adds

pub device_turns_keep : (old : DeviceTold) (clock : Clock) (new : DeviceTold) (clock_new : Clock) (answer : DeviceTurn)
    → Turns answer old clock new clock_new → DeviceTurnsKeep answer old clock new clock_new
device_turns_keep old clock new clock_new answer turns desk desk_new hand up paired on adds =
    by (entry_by answer old.stand new.stand (ops_of new)) (of_answer answer) adds
  where
    kept_now : (before : Part → PartTold) → StackKeeps before desk hand old clock → TellsSlots new → StackKeeps before desk_new (hand_by old.stand new.stand hand) new clock_new
    kept_now before kept told =
        let ordered = turn_ordered old clock new clock_new before desk hand kept.keeps paired on kept.order kept.starts answer turns in
        turned old clock new clock_new (turn_tries old clock new clock_new answer turns) (turn_goes_on old clock new clock_new answer turns)
        (outcomes_fit old clock new clock_new answer turns) before desk desk_new hand up told paired kept ordered.order ordered.starts answer turns
        (turn_keeps old clock new clock_new answer turns) adds

    of_answer : (answer : DeviceTurn) → IsOfTurn (ops_of new) (entry_by answer old.stand new.stand (ops_of new))
    of_answer turn.Off = (refl, refl, refl, λ c s. refl)
    of_answer turn.Idle = of_turn old.stand new.stand (ops_of new)
    of_answer turn.Worked = of_turn old.stand new.stand (ops_of new)

    by : (e : Option Entry) → IsOfTurn (ops_of new) e → AddsBy e desk desk_new
        → StaysKept desk hand old clock desk_new (hand_by old.stand new.stand hand) new clock_new
    by None of same = keeps_at desk desk_new hand (hand_by old.stand new.stand hand) old clock new clock_new same (turns_tell old clock new clock_new answer turns) kept_now
    by (Some e) of add = record {
      told = still.told;
      tells = still.tells;
      kept = λ before. keeps_behind before desk desk_new (hand_by old.stand new.stand hand) (StackKeeps before desk hand old clock) e old clock new clock_new add.0 (timed_at e new.ops of.1) still (kept_now before);
    }
      where
        still : StillTells old clock new clock_new
        still = turns_tell old clock new clock_new answer turns
