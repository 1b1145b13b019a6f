-- The two halves of a turn, beside what is due.
use Rattle.std.specs.Prelude.{IfSome}
use Rattle.std.proofs.Common.{◌≡◌, ◌⊎◌, inl, inr, ℕ, ◌-◌, true, false, List, Option, Some, None, refl, sym, ap, ◌∙◌, subst, arith}
use Rattle.block_machine.specs.nv_base.Count.{Rose}
use Rattle.memif.specs.declared.answer.JobResult.{JobResult}
use Rattle.memif.specs.declared.answer.JobResult.TheVariants.{JobOk, JobFailed, JobPending, JobCanceled, BlockInconsistent, BlockInvalid}
use Rattle.memif.specs.Told as device
use Rattle.memif.specs.Told.{DeviceTold, Part, Stand, Open, is_open}
use Rattle.memif.specs.Clock.{Clock}
use Rattle.memif.specs.Calls.{InOrder, Works}
use Rattle.block_machine.specs.Words.{Fine, Mark, Instance, Taken, Pick, Wrote, Post}
use Rattle.block_machine.specs.State.{State, Job}
use Rattle.block_machine.specs.Blocks.{job_block, rank_of}
use Rattle.block_machine.specs.Next.{Nothing, next_in, next_of}
use Rattle.ram_blocks.specs.Told.{Told}
use Rattle.job_programs.specs.Program.{Program}
use Rattle.nvm_device_laws.specs.Outcomes.{outcome_by}
use Rattle.nvm_device_laws.specs.Turn.{settled_by, wrote_by}
use Rattle.nvm_figures.specs.Job.{program_next}
use Rattle.nv_desk_copies.specs.nv_desk.Desk.{DeskState, state_of}
use Rattle.nv_desk_copies.specs.nv_desk.Picks.{IsInterruption}
use Rattle.nv_desk_copies.specs.Picks.{IsPicked}
use Rattle.job_progress.specs.Hand.{HandState, ended}
use Rattle.job_progress.specs.JobInHand.{IsAt, IsInHand, IsPaired}
use Rattle.block_laws.proofs.HistoryLaws.{histories_step}
use Rattle.block_laws.proofs.NextLaws.{entries_of_the_job_in_hand}
use Rattle.nvm_figures.proofs.OnTime.{turns_stay_on_time}
use Rattle.memif.proofs.Turning.{works_fixed}
use Rattle.nvm_laws.specs.Halves.{AddsPost}
use Rattle.nvm_laws.specs.Turns.{AddsBy, hand_by, hand_in}
use Rattle.nvm_laws.specs.declared.turned.Turned.TheVariants as turned
use Rattle.nvm_laws.specs.declared.turned.Act.TheVariants.{Ended, Device}
use Rattle.nvm_laws.specs.Due.{IsDue, IsDueNext, IsDueInHand, IsNearer, IsUrgentJob, PostsDue, post_first}
use Rattle.nvm_laws.specs.AtDevice.{AtDevice, GoesOn}
use Rattle.nvm_laws.specs.DueLaws.{FirstHalvesServe, SecondHalvesServe}
use Rattle.nvm_laws.proofs.DueInterrupting.{unfinished}
use Rattle.nvm_laws.proofs.DueBlocks.{added}
use Rattle.nvm_laws.proofs.DueTurning.{finished_first, freed, hand_of, never_picked, never_posted, next_is, on_time, pick_due, post_due, start_due, urgent_at}

-- THE FIRST HALF
module _ (new : DeviceTold) (clock : Clock)
    (desk desk_new : DeskState) (hand hand_new : Option HandState) (old : DeviceTold) (number turns : ℕ) (before : IsPaired desk.config (state_of desk) hand old) where
  -- a Pick
  picked_by : InOrder new clock → (block : ℕ) (Holds : Taken → Type 0) (ops : ℕ) → IsPicked Holds block ops desk desk_new → AtDevice (Ended turned.Picked) hand old desk_new hand_new new
      → IsDue number turns (record { desk = desk; hand = hand; device = old }) → IsNearer number turns (record { desk = desk_new; hand = hand_new; device = new })
  picked_by order block Holds ops is at (inl due) =
      let same : hand_new ≡ hand_in (added (Pick block is.kind is.taken ops) desk) = at.0 ∙ ap hand_in is.adds in
      subst (λ (x : DeskState). IsNearer number turns (record { desk = x; hand = hand_new; device = new })) (sym is.adds)
      (pick_due number turns desk hand old new clock order due (freed old new (is_open old.stand) refl at.1) block ops is.kind is.taken hand_new same)
  picked_by order block Holds ops is at (inr due) =
      absurd (never_picked desk.config (state_of desk) due.job block is.kind is.taken (next_in desk.config (state_of desk).waiting) (state_of desk).hand (state_of desk).sweep due.held due.held
      due.is.urgent.is_urgent is.allowed.1)

  -- a Post
  posted_by : (Fits : Type 0) (ops : ℕ) (copies copies_new : List Told) → AddsPost Fits ops desk desk_new copies copies_new
      → AtDevice (Ended turned.Posted) hand old desk_new hand_new new → IsDue number turns (record { desk = desk; hand = hand; device = old })
      → PostsDue number desk desk_new ⊎ IsNearer number turns (record { desk = desk_new; hand = hand_new; device = new })
  posted_by Fits ops copies copies_new (inl is) at (inl due) =
      let entry = Post (job_block is.job) is.is.result is.is.given is.is.refused ops in
      let (h, held, in_hand) = hand_of desk.config (state_of desk) is.job hand old is.hand before in
      let there = post_due number turns desk hand old due is.job is.hand (job_block is.job) is.is.refused ops is.is.result is.is.given hand_new
      (finished_first hand h held at.0) (ap post_first at.1) in
      inr (subst (λ (x : DeskState). IsNearer number turns (record { desk = x; hand = hand_new; device = new })) (sym is.is.adds)
      (subst (λ (d : DeviceTold). IsNearer number turns (record { desk = added entry desk; hand = hand_new; device = d })) (sym at.2) there))
  posted_by Fits ops copies copies_new (inl is) at (inr due) =
      let same : is.job ≡ due.job = let both : Some is.job ≡ Some due.job = sym is.hand ∙ due.held in cc in
      inl (record {
        job = is.job;
        held = is.hand;
        accepted = ap (λ (j : Job). j.number) same ∙ due.is.accepted;
        result = is.is.result;
        given = is.is.given;
        refused = is.is.refused;
        ops = ops;
        adds = is.is.adds;
      })
  posted_by Fits ops copies copies_new (inr next) at (inl due) =
      absurd (never_posted desk.config (state_of desk) due.job (next_of desk.config (state_of desk)) ops desk desk_new copies copies_new
      (next_is desk.config (state_of desk) due.job due.next) next.1)
  posted_by Fits ops copies copies_new (inr next) at (inr due) = let none : None ≡ Some due.job = sym next.0 ∙ due.held in cc

  -- no turn goes by
  waits_not : IsDueNext number turns (record { desk = desk; hand = hand; device = old }) → GoesOn hand old hand_new new → ¬ IsInterruption desk
      → ((state_of desk).hand ≡ None → next_of desk.config (state_of desk) ≡ Nothing) → ⊥
  waits_not due goes never rest = by hand refl before goes
    where
      by : (o : Option HandState) → hand ≡ o → IsPaired desk.config (state_of desk) o old → GoesOn o old hand_new new → ⊥
      by None is paired goes = let nothing : next_of desk.config (state_of desk) ≡ Nothing = rest paired.0 in
          let some = next_is desk.config (state_of desk) due.job due.next in cc
      by (Some h) is paired goes =
          let standard : (rank_of desk.config paired.job).immediate ≡ false = rw paired.hand at due.standard in
          never (record {
            job = paired.job;
            held = paired.hand;
            next = due.job;
            first = due.next;
            may = record {
              immediate = due.is.urgent.is_urgent;
              standard = rw standard refl;
              unfinished = unfinished desk.config (state_of desk) h old paired goes.0;
            };
          })

  rests_not : (state_of desk).hand ≡ None → next_of desk.config (state_of desk) ≡ Nothing → IsDue number turns (record { desk = desk; hand = hand; device = old }) → ⊥
  rests_not none nothing (inl due) = let some = next_is desk.config (state_of desk) due.job due.next in cc
  rests_not none nothing (inr due) = let some = due.held in cc

  goes_by : GoesOn hand old hand_new new → ¬ IsInterruption desk → ((state_of desk).hand ≡ None → next_of desk.config (state_of desk) ≡ Nothing)
      → IsPaired desk.config (state_of desk) hand_new new → IsDue number turns (record { desk = desk; hand = hand; device = old })
      → IsDueInHand number turns (record { desk = desk; hand = hand_new; device = new })
  goes_by goes never rest behind (inl due) = absurd (waits_not due goes never rest)
  goes_by goes never rest behind (inr due) = start_due number turns desk hand hand_new old new due behind goes

pub first_halves_serve : (new : DeviceTold) (clock : Clock) → FirstHalvesServe new clock
first_halves_serve new clock (Ended turned.Off) desk desk_new copies copies_new hand hand_new old number turns order half at never before behind due = tt
first_halves_serve new clock (Ended turned.Picked) desk desk_new copies copies_new hand hand_new old number turns order half at never before behind due =
    inr (picked_by new clock desk desk_new hand hand_new old number turns before.paired (order refl) half.0 (λ t. Unit {0}) _ half.1 at due)
first_halves_serve new clock (Ended turned.Posted) desk desk_new copies copies_new hand hand_new old number turns order half at never before behind due =
    posted_by new clock desk desk_new hand hand_new old number turns before.paired ⊥ _ copies copies_new half at due
first_halves_serve new clock (Ended turned.Idle) desk desk_new copies copies_new hand hand_new old number turns order half at never before behind due =
    absurd (rests_not new clock desk desk_new hand hand_new old number turns before.paired half.1.hand half.1.next due)
first_halves_serve new clock (Ended turned.Worked) desk desk_new copies copies_new hand hand_new old number turns order half at never before behind due = absurd half
first_halves_serve new clock Device desk desk_new copies copies_new hand hand_new old number turns order half at never before behind due =
    let paired = subst (λ (x : DeskState). IsPaired x.config (state_of x) hand_new new) half.0.0 behind.paired in
    subst (λ (x : DeskState). IsDueInHand number turns (record { desk = x; hand = hand_new; device = new })) (sym half.0.0)
    (goes_by new clock desk desk_new hand hand_new old number turns before.paired at (never refl) half.3 paired due)

-- THE DEVICE'S TURN
-- a Wrote is added, or nothing
wrote_of : (number : ℕ) (mark : Option Mark) (ops : ℕ) (desk new : DeskState) → AddsBy (wrote_by number mark ops) desk new
    → (new ≡ desk) ⊎ ((i : Instance) × (m : Mark) × (new ≡ added (Wrote i m ops) desk))
wrote_of number None ops desk new adds = inl adds
wrote_of number (Some m) ops desk new adds = inr (_, m, adds.0)

ended_of : (j : device.Job) (r : JobResult) (given : List ℕ) (ops : ℕ) (desk new : DeskState) → AddsBy (settled_by (Open j) (device.Ended r given) ops) desk new
    → (new ≡ desk) ⊎ ((i : Instance) × (m : Mark) × (new ≡ added (Wrote i m ops) desk))
ended_of j JobOk given ops desk new adds = wrote_of j.number j.mark ops desk new adds
ended_of j JobFailed given ops desk new adds = inl adds
ended_of j JobPending given ops desk new adds = inl adds
ended_of j JobCanceled given ops desk new adds = inl adds
ended_of j BlockInconsistent given ops desk new adds = inl adds
ended_of j BlockInvalid given ops desk new adds = inl adds

adds_of : (o n : Stand) (ops : ℕ) (desk new : DeskState) → AddsBy (settled_by o n ops) desk new → (new ≡ desk) ⊎ ((i : Instance) × (m : Mark) × (new ≡ added (Wrote i m ops) desk))
adds_of (Open j) (device.Ended r given) ops desk new adds = ended_of j r given ops desk new adds
adds_of (Open j) (Open k) ops desk new adds = inl adds
adds_of (device.Ended r given) n ops desk new adds = inl adds

-- the job in hand goes on as its program
goes_on : (o n : Stand) (h : HandState) → (g : HandState) × (hand_by o n (Some h) ≡ Some g) × (g.program ≡ program_next h.program o n)
goes_on (Open j) (device.Ended r given) h = (ended (outcome_by j.mark r) h, refl, refl)
goes_on (Open j) (Open k) h = (h, refl, refl)
goes_on (device.Ended r given) n h = (h, refl, refl)

module _ (new : DeviceTold) (clock : Clock) (p : Part) (desk : DeskState) (hand : Option HandState) (old : DeviceTold)
    (number turns : ℕ) (works : Works p old new clock) (calm : ¬ Rose old.first.faults new.first.faults) (paired : IsPaired desk.config (state_of desk) hand old)
    (started : IfSome hand (λ h. h.started ≡ true)) (due : IsDueInHand number turns (record { desk = desk; hand = hand; device = old })) where
  -- with this job in the machine's hand
  nearer_with : (desk_new : DeskState) (j : Job) → desk_new.config ≡ desk.config → (state_of desk_new).hand ≡ Some j → IsUrgentJob number desk.config old.fixed j
      → IsNearer number turns (record { desk = desk_new; hand = hand_by old.stand new.stand hand; device = new })
  nearer_with desk_new j config held is =
      let in_hand : IsInHand desk.config (state_of desk) due.driver old = rw due.drives at paired in
      let on : due.driver.started ≡ true = rw due.drives at started in
      let at : IsAt desk.config in_hand.job due.driver.program old.stand = rw on at in_hand.at in
      let same : in_hand.job ≡ due.job = let both : Some in_hand.job ≡ Some due.job = sym in_hand.hand ∙ due.held in cc in
      let urgent = urgent_at old.fixed desk.config (state_of desk) due.driver old number old.stand in_hand (rw same due.is) at in
      let (time, fine) = turns_stay_on_time new clock turns 3 old p due.driver.program works calm urgent (on_time number turns desk hand old due) in
      let (g, drives, program) = goes_on old.stand new.stand due.driver in
      let (w, told, soon) = time.wait in
      let fixed = works_fixed p old new clock works in (
        turns - 1,
        omega (arith, soon),
        inr (record {
          job = j;
          is = rw (config, fixed) is;
          held = held;
          driver = g;
          drives = ap (hand_by old.stand new.stand) due.drives ∙ drives;
          ready = rw program time.ready;
          within = rw program (w, told, omega (arith, soon));
        }),
      )

  nearer_by : (desk_new : DeskState) (ops : ℕ) → (desk_new ≡ desk) ⊎ ((i : Instance) × (m : Mark) × (desk_new ≡ added (Wrote i m ops) desk))
      → IsNearer number turns (record { desk = desk_new; hand = hand_by old.stand new.stand hand; device = new })
  nearer_by desk_new ops (inl same) = nearer_with desk_new due.job (ap (λ (x : DeskState). x.config) same) (ap (λ (x : DeskState). (state_of x).hand) same ∙ due.held) due.is
  nearer_by desk_new ops (inr (i, m, adds)) =
      nearer_with desk_new _ (ap (λ (x : DeskState). x.config) adds)
      (ap (λ (x : DeskState). (state_of x).hand) adds ∙ ap (λ (s : State). s.hand) (histories_step desk.config desk.entries (Wrote i m ops))
      ∙ (entries_of_the_job_in_hand desk.config (state_of desk) due.job i m 0 0 ops Fine None due.held).0)
      (record { accepted = due.is.accepted; urgent = due.is.urgent })

pub second_halves_serve : (new : DeviceTold) (clock : Clock) → SecondHalvesServe new clock
second_halves_serve new clock p desk desk_new hand old number turns ops works calm adds tied started due =
    nearer_by new clock p desk hand old number turns works calm tied.paired started due desk_new ops (adds_of old.stand new.stand ops desk desk_new adds)
