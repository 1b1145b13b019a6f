-- Jobs that a start-up drops.
use Rattle.std.proofs.Common.{◌≡◌, ◌≤◌, ◌+◌, ℕ, List, [], ◌∷◌, ◌++◌, length, length-append, refl, sym, ap, ◌∙◌, subst, arith, Option, Some, None}
use Rattle.std.specs.Prelude.{option_map}
use Rattle.block_machine.specs.Words.{Configuration, TookNothing}
use Rattle.block_machine.specs.State.{State, Job, Sweep}
use Rattle.block_machine.specs.Blocks.{job_block}
use Rattle.block_machine.specs.Next.{next_in}
use Rattle.block_machine.specs.Steps.{picked_job, without_job}
use Rattle.block_laws.specs.Consistent.{AreApart, Each}
use Rattle.block_laws.proofs.JobLists.{apart_parts, each_more, each_parts, without_split}
use Rattle.block_laws.proofs.NextLaws.{next_is_waiting}
use Rattle.job_pending.specs.Pending.{Agree, Pending}
use Rattle.job_pending.proofs.Places.{few_waiting}
use Rattle.nv_desk_state.specs.Pending.{IsAlone}
use Rattle.nv_desk_state.specs.Kept.{Agrees}
use Rattle.nv_desk_state.specs.declared.kept.Kept.{Kept}
use Rattle.nv_desk.specs.declared.desk.Desk.TheInside.{Inside}
use Rattle.nv_desk.specs.Desk.{IsKept}
use Rattle.nv_desk.specs.Places.{AllReady, AreHeld, AreReady, IsWhole, Ready, put_back}
use Rattle.nv_desk.specs.Sound.{IsPendingJob}
use Rattle.nv_desk.proofs.Ready.{back_length, ended_ready, picked_free}
use Rattle.block_machine.specs.Steps.{after}

-- the job in hand gives its content back
pub hand_dropped : (c : Configuration) (p q : Pending) (waiting : List Job) (j : Job) (places new : Ready) → AreHeld c p waiting (Some j) places
    → Agree c q waiting None → q.slots.places ≡ p.slots.places → new ≡ put_back places (job_block j) (option_map (λ x. x.0) j.content) → AreHeld c q waiting None new
hand_dropped c p q waiting j places new is agree slots back = record {
  agree = agree;
  apart = is.apart;
  slots = slots ∙ is.slots;
  count = ap length back ∙ back_length places (job_block j) (option_map (λ x. x.0) j.content) ∙ is.count;
  whole = is.whole.1;
  ready = subst (AreReady c waiting) (sym back)
      (ended_ready c j waiting places j.content refl (omega (arith, is.agree.hand_apart.place, is.slots, is.count)) is.whole.0 is.ready);
}

pub none_dropped : (c : Configuration) (p q : Pending) (waiting : List Job) (places : Ready) → AreHeld c p waiting None places → Agree c q waiting None
    → q.slots.places ≡ p.slots.places → AreHeld c q waiting None places
none_dropped c p q waiting places is agree slots =
    record { agree = agree; apart = is.apart; slots = slots ∙ is.slots; count = is.count; whole = is.whole; ready = is.ready }

-- the next one comes in hand first
pub next_held : (c : Configuration) (p q : Pending) (waiting : List Job) (j : Job) (places : Ready) → AreHeld c p waiting None places → next_in c waiting ≡ Some j
    → q.slots.places ≡ p.slots.places → Agree c q (without_job j.number waiting) (Some (picked_job TookNothing 0 j))
    → AreHeld c q (without_job j.number waiting) (Some (picked_job TookNothing 0 j)) places
next_held c p q waiting j places is next slots agree =
    let (before, behind, split) = next_is_waiting c waiting j next in
    let parts = apart_parts before j behind (subst AreApart split is.apart) in
    let without : without_job j.number waiting ≡ before ++ behind = ap (without_job j.number) split ∙ without_split before j behind parts.0 in
    let whole = each_parts (IsWhole c) before j behind (subst (Each (IsWhole c)) split is.whole) in
    record {
      agree = agree;
      apart = subst AreApart (sym without) parts.1;
      slots = slots ∙ is.slots;
      count = is.count;
      whole = (whole.0, subst (Each (IsWhole c)) (sym without) whole.1);
      ready = picked_free c None waiting j TookNothing 0 places next is.apart is.ready;
    }

-- one fewer waits then
pub one_fewer : (c : Configuration) (waiting : List Job) (j : Job) → next_in c waiting ≡ Some j → AreApart waiting
    → length (without_job j.number waiting) + 1 ≡ length waiting
one_fewer c waiting j next apart =
    let (before, behind, split) = next_is_waiting c waiting j next in
    let parts = apart_parts before j behind (subst AreApart split apart) in
    let without : without_job j.number waiting ≡ before ++ behind = ap (without_job j.number) split ∙ without_split before j behind parts.0 in
    omega (arith, ap length without, length-append before behind, ap length split, length-append before (j ∷ behind))

-- where none waits any more, it is so of no jobs
pub none_left : (c : Configuration) (p : Pending) (waiting : List Job) (places : Ready) → waiting ≡ [] → AreHeld c p waiting None places → AreHeld c p [] None places
none_left c p waiting places none is = subst (λ (js : List Job). AreHeld c p js None places) none is

empty_list : (waiting : List Job) → length waiting ≤ 0 → waiting ≡ []
empty_list [] few = refl
empty_list (j ∷ js) few = absurd (omega (arith, few))

pub few_left : (waiting : List Job) (n most : ℕ) → length waiting + n ≤ most → n ≡ most → waiting ≡ []
few_left waiting n most few end = empty_list waiting (omega (arith, few, end))

-- no more wait than there are blocks
pub few_wait : (c : Configuration) (p : Pending) (waiting : List Job) (held : Option Job) (places : Ready) → AreHeld c p waiting held places → length waiting ≤ length c.blocks + 1
few_wait c p waiting held places is = omega (arith, few_waiting c p waiting held is.agree, is.slots)

-- THE DESK
whole_by : (c : Configuration) (s : State) (jobs : List Job) → Each (IsPendingJob c s) jobs → Each (IsWhole c) jobs
whole_by c s jobs each = each_more (IsPendingJob c s) (IsWhole c) jobs (λ j is. is.content) each

-- what it keeps of jobs and of places
pub held_in : (d : Inside) → IsKept d → AreHeld d.config d.kept.jobs (after d.config d.history.entries).waiting (after d.config d.history.entries).hand d.places
held_in d is = record {
  agree = is.agrees.jobs;
  apart = is.sound.consistent.apart;
  slots = is.agrees.places;
  count = is.one_each;
  whole = whole_by d.config (after d.config d.history.entries) _ is.sound.jobs;
  ready = is.ready;
}

alone_by : (o : Option Sweep) → IsAlone [] o
alone_by None = tt
alone_by (Some sw) = λ under_way. refl

-- without them it is the state without jobs
pub without_jobs : (c : Configuration) (k : Kept) (s : State) (p : Pending) (places : Ready) → Agrees c k s → AreHeld c p [] None places
    → Agrees c (record k { jobs = p }) (record s { waiting = []; hand = None })
without_jobs c k s p places agrees held = record {
  started = agrees.started;
  off = agrees.off;
  blocks = agrees.blocks;
  jobs = held.agree;
  sweep = agrees.sweep;
  member = tt;
  alone = alone_by s.sweep;
  rooms = agrees.rooms;
  places = held.slots;
}

pub all_back : (c : Configuration) (p : Pending) (places : Ready) → AreHeld c p [] None places → AllReady c places
all_back c p places held = λ id low. held.ready id low tt
