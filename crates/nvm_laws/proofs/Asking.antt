-- A request beside the job in hand.
use Rattle.std.specs.Prelude.{IfSome, find, unwrap_or, option_map}
use Rattle.std.proofs.Common.{◌≡◌, ℕ, Bool, true, List, [], ◌∷◌, ◌++◌, length, map, Option, Some, None, refl, sym, ap, ◌∙◌, subst, arith}
use Rattle.memif.specs.Told.{DeviceTold, Part, PartTold}
use Rattle.memif.specs.Clock.{Clock}
use Rattle.block_machine.specs.Words.{Mark, Erased, Entry, Request, Reply, Ask, Configuration}
use Rattle.block_machine.specs.State.{State, BlockState, InstanceState, Job}
use Rattle.block_machine.specs.Blocks.{desc_of, block_at, status_of, is_pending, indices_by, same_instance, job_block}
use Rattle.block_machine.specs.Results.{own_of}
use Rattle.block_machine.specs.Steps.{step, after}
use Rattle.block_machine.specs.Legal.{IsAllowed}
use Rattle.job_programs.specs.Laws.{Fit, last_content}
use Rattle.nvm_device_laws.specs.Tries.{TriesArePaid, is_hand_urgent}
use Rattle.nv_desk_copies.specs.nv_desk.Desk.{DeskState, state_of}
use Rattle.job_progress.specs.Hand.{HandState}
use Rattle.job_progress.specs.JobInHand.{FitsMarks, HandFits}
use Rattle.block_laws.proofs.HistoryLaws.{histories_step, asks_are_local}
use Rattle.block_laws.proofs.JobBlocks.{jobs_are_pending, places_are_configured}
use Rattle.block_laws.proofs.JobPlaces.{jobs_are_configured}
use Rattle.nvm_device_laws.proofs.Called.{entries_keep}
use Rattle.nvm_device_laws.proofs.PaidTries.{tries_stay_with}
use Rattle.nvm_device_laws.proofs.Pushed.{started_push}
use Rattle.job_progress.proofs.Asking.{asked_hand, pending_stay}
use Rattle.nvm_laws.specs.Keeps.{StackKeeps}
use Rattle.nvm_laws.specs.Entries.{AsksKeep}
use Rattle.nvm_laws.proofs.Keeping.{keeps_with}
use Rattle.nvm_laws.proofs.Operations.{held}
use Rattle.nvm_laws.proofs.Ordering.{order_asked, starts_push}
use Rattle.nvm_laws.proofs.Paying.{asked_urgency}

-- WHAT IS SETTLED
-- the marks of a block's instances, by what the state has of them
abbrev marks_with : Configuration → ℕ → List InstanceState → BlockState → List (ℕ × Mark)
marks_with c id instances b = map (λ index. (index, unwrap_or (option_map {T = InstanceState} (λ x. x.cell.settled) (find (λ x. same_instance (record { block = id; index = index }) x.instance) instances)) Erased))
    (indices_by (desc_of c id).kind (desc_of c id).nv b.index)

marks_stay : (c : Configuration) (s t : State) (id : ℕ) → t.instances ≡ s.instances → block_at t id ≡ block_at s id → (own_of c t id).marks ≡ (own_of c s id).marks
marks_stay c s t id instances block = ap (λ (xs : List InstanceState). marks_with c id xs (block_at t id)) instances
    ∙ ap (λ (b : BlockState). marks_with c id s.instances b) block

module _ (d : DeviceTold) (clock : Clock) (old : DeskState) (caller : ℕ) (r : Request) (reply : Reply)
    (allowed : IsAllowed old.config old.cap (state_of old) (Ask caller r reply)) (before : Part → PartTold) where
  abbrev e : Entry
  e = Ask caller r reply

  pending_now : (hand : Option HandState) → StackKeeps before old hand d clock → (j : Job) → (state_of old).hand ≡ Some j → is_pending (status_of (state_of old) (job_block j)) ≡ true
  pending_now hand kept j is =
      let few = jobs_are_configured old.config old.cap old.entries j kept.keeps.device.rules kept.keeps.over.legal (held (state_of old) j is) in
      let count = (places_are_configured old.config old.cap old.entries kept.keeps.over.legal allowed.started).0 in
      jobs_are_pending old.config old.cap old.entries j kept.keeps.over.legal (held (state_of old) j is) (omega (arith, few, count))

  fits_on : (h : HandState) → StackKeeps before old (Some h) d clock → HandFits old.config (after old.config (old.entries ++ e ∷ [])) (Some h) d
  fits_on h kept = subst (λ (t : State). HandFits old.config t (Some h) d) (sym (histories_step old.config old.entries e)) (λ j is. behind j (sym (asked_hand old.config (state_of old) r reply) ∙ is))
    where
      behind : (j : Job) → (state_of old).hand ≡ Some j → FitsMarks old.config (step old.config (state_of old) e) j h d.stand
      behind j is =
          let fits = kept.fits j is in
          let same = marks_stay old.config (state_of old) (step old.config (state_of old) e) (job_block j) (asks_are_local old.config (state_of old) caller r reply).0
          (pending_stay old.config old.cap (state_of old) caller r reply (job_block j) allowed.replies (pending_now (Some h) kept j is)) in
          record {
            fit = subst (λ (ms : List (ℕ × Mark)). Fit h.program.kind ms h.program.done) (sym same) fits.fit;
            last = λ r bytes ends stands. subst (λ (ms : List (ℕ × Mark)). last_content ms (length h.program.done) ≡ Some bytes) (sym same) (fits.last r bytes ends stands);
          }

  hand_fits : (hand : Option HandState) → StackKeeps before old hand d clock → HandFits old.config (after old.config (old.entries ++ e ∷ [])) hand d
  hand_fits None kept = tt
  hand_fits (Some h) kept = fits_on h kept

  urgency : is_hand_urgent old.config (state_of old) ≡ is_hand_urgent old.config (after old.config (old.entries ++ e ∷ []))
  urgency = asked_urgency old.config old.entries caller r reply

  paid_on : (hand : Option HandState) → IfSome hand (λ x. TriesArePaid old.config clock.worn (is_hand_urgent old.config (state_of old)) before d old.entries x.program)
      → IfSome hand (λ x. TriesArePaid old.config clock.worn (is_hand_urgent old.config (after old.config (old.entries ++ e ∷ []))) before d (old.entries ++ e ∷ []) x.program)
  paid_on None paid = tt
  paid_on (Some x) paid = subst (λ (b : Bool). TriesArePaid old.config clock.worn b before d (old.entries ++ e ∷ []) x.program) urgency
      (tries_stay_with d clock old.config (is_hand_urgent old.config (state_of old)) old.entries before x.program e refl paid)

  pub asked_keeps : (new : DeskState) (hand : Option HandState) → new ≡ record old { entries = old.entries ++ e ∷ [] } → StackKeeps before old hand d clock → StackKeeps before new hand d clock
  asked_keeps new hand adds kept = subst (λ (x : DeskState). StackKeeps before x hand d clock) (sym adds) (record {
    started = started_push old.entries e;
    keeps = entries_keep d clock old.config old.cap old.entries before e kept.started kept.keeps refl allowed tt tt;
    fits = hand_fits hand kept;
    paid = paid_on hand kept.paid;
    order = order_asked d clock old.config old.entries e refl kept.order;
    starts = starts_push d old.entries e refl kept.starts;
  })

pub asks_keep : (d : DeviceTold) (clock : Clock)
    → AsksKeep d clock
asks_keep d clock old new hand caller r reply adds allowed =
    keeps_with old new hand hand (Ask caller r reply) d clock adds (λ driver. cc) (λ before. asked_keeps d clock old caller r reply allowed before new hand adds)
