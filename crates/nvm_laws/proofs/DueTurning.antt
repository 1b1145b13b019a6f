-- A turn, beside what is due.
use Rattle.std.specs.Prelude.{IfSome, option_map, get_or, not, if◌then◌else◌}
use Rattle.std.proofs.Common.{◌≡◌, ◌⊎◌, inl, inr, ℕ, ◌-◌, ◌≤◌, ◌<◌, Bool, true, false, List, [], ◌∷◌, is_some, Option, Some, None, refl, sym, ap, ◌∙◌, subst, arith, length-append}
use Rattle.block_machine.specs.nv_base.Marks.{number_of}
use Rattle.memif.specs.Told.{DeviceTold, Fixed, First, Stand, Open, figures_at, is_open, IfElse}
use Rattle.memif.specs.Clock.{Clock}
use Rattle.memif.specs.Calls.{InOrder, IsCanceled, urgent_first}
use Rattle.block_machine.specs.block_config.Sizes.{instances_of}
use Rattle.block_machine.specs.Words.{ReqResult, JobKind, WriteJob, Taken, Pick, Post, Configuration}
use Rattle.block_machine.specs.State.{State, BlockState, Job, Sweep}
use Rattle.block_machine.specs.Blocks.{block_at, desc_of, indices_by, indices_of, job_block, kind_of, no_block, rank_of}
use Rattle.block_machine.specs.Next.{Next, PickJob, next_by, next_in, next_of}
use Rattle.block_machine.specs.Legal.{HandIsFree, MayInterrupt, MayPick}
use Rattle.block_machine.specs.Results.{took_none}
use Rattle.block_machine.specs.Steps.{step, picked_job}
use Rattle.ram_blocks.specs.Told.{Told}
use Rattle.job_programs.specs.Program.{Program, works}
use Rattle.nvm_figures.specs.Urgent.{IsOnTime, pages_of}
use Rattle.nv_desk_copies.specs.nv_desk.Desk.{DeskState, state_of}
use Rattle.nv_desk_copies.specs.Posts.{IsPostedNext}
use Rattle.job_progress.specs.Hand.{HandState, is_finished, with_start}
use Rattle.job_progress.specs.JobInHand.{IsAt, IsInHand, IsPaired, program_for}
use Rattle.job_progress.specs.Begins.{hand_by, hand_for}
use Rattle.block_laws.proofs.HistoryLaws.{histories_step}
use Rattle.block_laws.proofs.NextLaws.{pick_takes_in_hand}
use Rattle.job_progress.proofs.Powering.{posts_leave_none}
use Rattle.nvm_figures.proofs.OnTime.{starts_stay_on_time, picks_are_on_time}
use Rattle.nvm_laws.specs.Turns.{hand_in}
use Rattle.nvm_laws.specs.Due.{IsDueNext, IsDueInHand, IsNearer, IsUrgentJob, pages_now, post_first}
use Rattle.nvm_laws.specs.AtDevice.{Begins, GoesOn}
use Rattle.nvm_laws.proofs.Operations.{stored}
use Rattle.nvm_laws.proofs.DueBlocks.{added, picked_blocks, posted_index, posted_waits, same_pages}

-- THE JOB IN HAND
-- the driver has the machine's
pub hand_of : (c : Configuration) (s : State) (j : Job) (hand : Option HandState) (d : DeviceTold) → s.hand ≡ Some j → IsPaired c s hand d → (h : HandState) × (hand ≡ Some h) × IsInHand c s h d
hand_of c s j None d held paired = let none = paired.0 in cc
hand_of c s j (Some h) d held paired = (h, refl, paired)

pub finished_first : (hand : Option HandState) (h : HandState) → hand ≡ Some h → IfSome hand (λ x. is_finished x.step ≡ true) → post_first hand ≡ 1
finished_first None h is finished = cc
finished_first (Some x) h is finished = rw finished refl

-- WHAT COMES NEXT
pub next_is : (c : Configuration) (s : State) (j : Job) → next_in c s.waiting ≡ Some j → next_of c s ≡ PickJob j
next_is c s j first = ap (λ (o : Option Job). next_by c s o s.hand s.sweep) first

-- it isn't posted without a Pick
pub never_posted : (c : Configuration) (s : State) (j : Job) (n : Next) (ops : ℕ) (old new : DeskState) (before after : List Told) → n ≡ PickJob j
    → IsPostedNext n ops old new before after → ⊥
never_posted c s j n ops old new before after is next = rw is at next

-- nothing is picked over an immediate job
sure : (t : Bool) → t ≡ true → not t ≡ true → ⊥
sure true is isnt = cc
sure false is isnt = cc

pub never_picked : (c : Configuration) (s : State) (h : Job) (block : ℕ) (kind : JobKind) (t : Taken) (first held : Option Job) (sweep : Option Sweep) → held ≡ Some h → s.hand ≡ Some h → (rank_of c h).immediate ≡ true
    → MayPick c s block kind t (next_by c s first held sweep) → ⊥
never_picked c s h block kind t (Some j) held sweep is hand urgent may =
    let free : MayInterrupt c h j = subst (λ (o : Option Job). HandIsFree c o j) hand may.free in sure (rank_of c h).immediate urgent free.standard
never_picked c s h block kind t None (Some x) sweep is hand urgent may = absurd may
never_picked c s h block kind t None None sweep is hand urgent may = cc

-- THE DEVICE
-- behind a cancel nothing is open, and what was ready is
abbrev IsFree : DeviceTold → DeviceTold → Type 0
IsFree old new = (new.fixed ≡ old.fixed) × (old.ready ≤ new.ready) × (is_open new.stand ≡ false)

pub freed : (old new : DeviceTold) (t : Bool) → is_open old.stand ≡ t → IfElse t (IsCanceled old new) (new ≡ old) → IsFree old new
freed old new true on is = (ap (λ (x : DeviceTold). x.fixed) is.only, is.ready, ap (λ (x : DeviceTold). is_open x.stand) is.only)
freed old new false off is = let ready : new.ready ≡ old.ready = ap (λ (x : DeviceTold). x.ready) is in (ap (λ (x : DeviceTold). x.fixed) is, omega (arith, ready), ap (λ (x : DeviceTold). is_open x.stand) is ∙ off)

-- an urgent write of a block of the first part is open as one
pub urgent_at : (f : Fixed) (c : Configuration) (s : State) (h : HandState) (d : DeviceTold) (number : ℕ) (stand : Stand) (is : IsInHand c s h d) → IsUrgentJob number c f is.job → IsAt c is.job h.program stand
    → urgent_first f stand ≡ true
urgent_at f c s h d number stand is urgent at =
    let block : h.program.block ≡ job_block is.job = ap (λ (q : Program). q.block) is.working.is in
    let within : at.index < instances_of (desc_of c (job_block is.job)) = stored c s h d is is.job is.hand at.index at.next in
    let few = urgent.urgent.few in
    let part : (figures_at f (number_of (record { block = h.program.block; index = at.index }))).part ≡ First = rw block (urgent.urgent.of_first at.index (omega (arith, within, few))) in
    ap (urgent_first f) at.stands ∙ (rw (urgent.urgent.is_urgent, part) refl)

-- A PICK
abbrev no_sweep : Sweep
no_sweep = record { number = 0; writes = false; under_way = false; canceled = false; left = []; same = false; spoiled = false }

program_is : (t : Bool) (c : Configuration) (s : State) (j : Job) → (hand_by t c s j).program ≡ program_for c s j
program_is true c s j = refl
program_is false c s j = refl

indices_for : (c : Configuration) (s : State) (j : Job) → kind_of j ≡ WriteJob → (program_for c s j).indices ≡ indices_of c s (job_block j)
indices_for c s j is = ap (λ (k : JobKind). if works k then indices_by (desc_of c (job_block j)).kind (desc_of c (job_block j)).nv (block_at s (job_block j)).index else []) is

module _ (number turns : ℕ) (desk : DeskState) (hand : Option HandState) (old new : DeviceTold) (clock : Clock)
    (order : InOrder new clock) (due : IsDueNext number turns (record { desk = desk; hand = hand; device = old })) (free : IsFree old new) (block ops : ℕ) (kind : JobKind) (t : Taken) where
  picked_behind : state_of (added (Pick block kind t ops) desk) ≡ step desk.config (state_of desk) (Pick block kind t ops)
  picked_behind = histories_step desk.config desk.entries (Pick block kind t ops)

  picked_held : (state_of (added (Pick block kind t ops) desk)).hand ≡ Some (picked_job t (if is_some (state_of desk).hand then 2 else 0) due.job)
  picked_held = ap (λ (s : State). s.hand) picked_behind
      ∙ (pick_takes_in_hand desk.config (state_of desk) due.job no_sweep 0 block ops kind t).0 (next_is desk.config (state_of desk) due.job due.next)

  picked_index : (block_at (state_of (added (Pick block kind t ops) desk)) (job_block due.job)).index ≡ (block_at (state_of desk) (job_block due.job)).index
  picked_index = ap (λ (s : State). (block_at s (job_block due.job)).index) picked_behind
      ∙ ap (λ (bs : List BlockState). (get_or bs (job_block due.job) no_block).index)
      (picked_blocks desk.config (state_of desk) due.job t (next_of desk.config (state_of desk)) (next_is desk.config (state_of desk) due.job due.next))

  -- its program has the pages that were ready
  picked_pages : (j : Job) → job_block j ≡ job_block due.job → kind_of j ≡ WriteJob
      → pages_of new.fixed (job_block j) (program_for desk.config (state_of (added (Pick block kind t ops) desk)) j).indices ≡ pages_now desk old.fixed (job_block due.job)
  picked_pages j same writes =
      ap (λ (xs : List ℕ). pages_of new.fixed (job_block j) xs) (indices_for desk.config (state_of (added (Pick block kind t ops) desk)) j writes)
      ∙ ap (λ (id : ℕ). pages_of new.fixed id (indices_of desk.config (state_of (added (Pick block kind t ops) desk)) id)) same
      ∙ ap (λ (f : Fixed). pages_of f (job_block due.job) (indices_of desk.config (state_of (added (Pick block kind t ops) desk)) (job_block due.job))) free.0
      ∙ same_pages desk.config (state_of desk) (state_of (added (Pick block kind t ops) desk)) old.fixed (job_block due.job) picked_index

  pub pick_due : (hand_new : Option HandState) → hand_new ≡ hand_in (added (Pick block kind t ops) desk)
      → IsNearer number turns (record { desk = added (Pick block kind t ops) desk; hand = hand_new; device = new })
  pick_due hand_new is =
      let behind = state_of (added (Pick block kind t ops) desk) in
      let job = picked_job t (if is_some (state_of desk).hand then 2 else 0) due.job in
      let p = program_for desk.config behind job in
      let pages : pages_of new.fixed p.block p.indices ≡ pages_now desk old.fixed (job_block due.job) = picked_pages job refl due.is.urgent.is_write in
      let on : IsOnTime (pages_of new.fixed p.block p.indices) 0 p new = picks_are_on_time new clock p order free.2 refl (omega (arith, pages, due.ready, free.1)) in
      let still : IsOnTime (pages_of new.fixed p.block p.indices) 0 (hand_for desk.config behind job).program new =
      subst (λ (q : Program). IsOnTime (pages_of new.fixed p.block p.indices) 0 q new) (sym (program_is (took_none job.taken) desk.config behind job)) on in
      let (w, told, soon) = still.wait in (
        turns - 1,
        omega (arith, due.within),
        inr (record {
          job = job;
          is = record { accepted = due.is.accepted; urgent = rw free.0 due.is.urgent };
          held = picked_held;
          driver = hand_for desk.config behind job;
          drives = is ∙ ap (option_map (hand_for desk.config behind)) picked_held;
          ready = still.ready;
          within = (w, told, omega (arith, soon, pages, due.within));
        }),
      )

-- THE POST OF ANOTHER JOB
module _ (number turns : ℕ) (desk : DeskState) (hand : Option HandState) (old : DeviceTold)
    (due : IsDueNext number turns (record { desk = desk; hand = hand; device = old })) (other : Job) (held : (state_of desk).hand ≡ Some other)
    (block refused ops : ℕ) (r : ReqResult) (given : Option (List ℕ)) where
  posted_behind : state_of (added (Post block r given refused ops) desk) ≡ step desk.config (state_of desk) (Post block r given refused ops)
  posted_behind = histories_step desk.config desk.entries (Post block r given refused ops)

  posted_pages : pages_now (added (Post block r given refused ops) desk) old.fixed (job_block due.job) ≡ pages_now desk old.fixed (job_block due.job)
  posted_pages = same_pages desk.config (state_of desk) (state_of (added (Post block r given refused ops) desk)) old.fixed (job_block due.job)
      (ap (λ (s : State). (block_at s (job_block due.job)).index) posted_behind
      ∙ posted_index desk.config (state_of desk) other (state_of desk).hand r given (job_block due.job) held)

  pub post_due : (hand_new : Option HandState) → post_first hand ≡ 1 → post_first hand_new ≡ 0
      → IsNearer number turns (record { desk = added (Post block r given refused ops) desk; hand = hand_new; device = old })
  post_due hand_new one none =
      let count = length-append desk.entries (Post block r given refused ops ∷ []) in
      let free : (state_of (added (Post block r given refused ops) desk)).hand ≡ None =
      ap (λ (s : State). s.hand) posted_behind ∙ posts_leave_none desk.config (state_of desk) (Post block r given refused ops) tt in (
        turns - 1,
        omega (arith, due.within),
        inl (record {
          job = due.job;
          is = due.is;
          earlier = omega (arith, count, due.earlier);
          next = ap (λ (s : State). next_in desk.config s.waiting) posted_behind
              ∙ ap (next_in desk.config) (posted_waits desk.config (state_of desk) other (state_of desk).hand r given held) ∙ due.next;
          standard = subst (λ (o : Option Job). IfSome o (λ h. (rank_of desk.config h).immediate ≡ false)) (sym free) tt;
          ready = omega (arith, posted_pages, due.ready);
          within = omega (arith, posted_pages, due.within, one, none);
        }),
      )

-- ITS OWN OPERATION
-- one that is due in hand is on time: three turns are counted beside its pages and what it waits for
pub on_time : (number turns : ℕ) (desk : DeskState) (hand : Option HandState) (d : DeviceTold) (due : IsDueInHand number turns (record { desk = desk; hand = hand; device = d }))
    → IsOnTime turns 3 due.driver.program d
on_time number turns desk hand d due = let (w, told, soon) = due.within in record { ready = due.ready; wait = (w, told, omega (arith, soon)) }

module _ (number turns : ℕ) (desk : DeskState) (hand hand_new : Option HandState) (old new : DeviceTold)
    (due : IsDueInHand number turns (record { desk = desk; hand = hand; device = old })) (paired : IsPaired desk.config (state_of desk) hand_new new) where
  -- the device is at it as an urgent one
  started_urgent : hand_new ≡ Some (with_start due.driver) → urgent_first old.fixed new.stand ≡ true
  started_urgent is =
      let in_hand : IsInHand desk.config (state_of desk) (with_start due.driver) new = rw is at paired in
      let same : in_hand.job ≡ due.job = let both : Some in_hand.job ≡ Some due.job = sym in_hand.hand ∙ due.held in cc in
      urgent_at old.fixed desk.config (state_of desk) (with_start due.driver) new number new.stand in_hand (rw same due.is) in_hand.at

  start_by : hand_new ≡ Some (with_start due.driver) → (new ≡ old) ⊎ Begins due.driver old new → (new.fixed ≡ old.fixed) × IsOnTime turns 3 due.driver.program new
  start_by is (inl same) = (ap (λ (x : DeviceTold). x.fixed) same, rw same (on_time number turns desk hand old due))
  start_by is (inr begins) =
      let opens = begins.accepts.1 in
      let stand : new.stand ≡ Open begins.wish.job = ap (λ (x : DeviceTold). x.stand) opens.only in (
        ap (λ (x : DeviceTold). x.fixed) opens.only,
        starts_stay_on_time turns 3 old new begins.wish due.driver.program begins.index begins.operation (ap (urgent_first old.fixed) (sym stand) ∙ started_urgent is) begins.accepts
            (on_time number turns desk hand old due),
      )

  pub start_due : GoesOn hand old hand_new new → IsDueInHand number turns (record { desk = desk; hand = hand_new; device = new })
  start_due goes =
      let (unfinished, is, how) = rw due.drives at goes in
      let (fixed, on) = start_by is how in
      let (w, told, soon) = on.wait in record {
        job = due.job;
        is = record { accepted = due.is.accepted; urgent = rw fixed due.is.urgent };
        held = due.held;
        driver = with_start due.driver;
        drives = is;
        ready = on.ready;
        within = (w, told, omega (arith, soon));
      }
