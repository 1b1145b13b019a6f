-- How many tries more may begin of the job in hand.
use Rattle.std.specs.Prelude.{◌*◌, if◌then◌else◌, drop, length}
use Rattle.std.specs.List.{list_any}
use Rattle.std.specs.Option.{option_map_or}
use Rattle.std.proofs.Common.{◌≡◌, ◌≤◌, ◌+◌, ◌-◌, ℕ, zero, suc, Bool, true, false, List, [], ◌∷◌, Option, Some, None, refl, sym, ap, subst, arith}
use Rattle.std.proofs.Math.Nat.{mul-le-mul, mul-le-mul_right, mul-suc}
use Rattle.nvm_laws.specs.memif.Told.{DeviceTold, Part, Stand, Open, Ended, is_open}
use Rattle.nvm_laws.specs.memif.Clock.{Clock}
use Rattle.nvm_laws.specs.memif.Calls.{JobTurns}
use Rattle.nvm_laws.specs.block_machine.Words.{BlockDesc, JobKind, ReadJob, WriteJob, RestoreJob, EraseJob, InvalidateJob, ReadAllJob, WriteAllJob, Configuration}
use Rattle.nvm_laws.specs.block_machine.State.{State, Job}
use Rattle.nvm_laws.specs.block_machine.Blocks.{desc_of, indices_of, job_block, kind_of}
use Rattle.nvm_laws.specs.block_machine.Prices.{device_tries}
use Rattle.nvm_laws.specs.promise_blocks.Work.{tries_of}
use Rattle.nvm_laws.specs.job_programs.Program.{Program, retries_of, settles, works}
use Rattle.nvm_laws.specs.nvm_figures.Drain.{tries_ahead}
use Rattle.nvm_laws.specs.nvm_figures.Job.{program_next}
use Rattle.nvm_laws.specs.nvm_figures.Left.{ahead, over_tries, over_unstarted}
use Rattle.nvm_laws.proofs.nvm_figures.Figures.{opens_stand, unstarted_less, was_closed}
use Rattle.nvm_laws.proofs.nvm_figures.Tries.{next_ahead, start_takes}
use Rattle.nvm_laws.specs.job_progress.Hand.{HandState, with_start}
use Rattle.nvm_laws.specs.job_progress.JobInHand.{IsInHand, IsPaired, program_for}
use Rattle.nvm_laws.specs.AtDevice.{Begins}
use Rattle.nvm_laws.specs.Turns.{hand_by}
use Rattle.nvm_laws.specs.declared.turned.Turned.{Turned}
use Rattle.nvm_laws.specs.declared.turned.Turned.TheVariants as turned
use Rattle.nvm_laws.proofs.Turning.{hand_same, off_stand}
use Rattle.nvm_core.specs.BehindDevice.{TurnsDevice}
use Rattle.nvm_core.specs.DeviceWork.{tries_left}

-- ALL OF THEM
plus : (a b t : ℕ) → a ≤ b → a + t ≤ b + t
plus a b t less = omega (arith, less)

more : (a b t : ℕ) → a ≤ b → a ≤ t + b
more a b t less = omega (arith, less)

module _ (count : ℕ → ℕ) (p : Program) where
  -- those that aren't started are no more than all
  unstarted : (busy : Bool) (is : List ℕ) → over_unstarted count p busy is ≤ over_tries count p.retries is
  unstarted busy [] = omega arith
  unstarted true (i ∷ is) =
      let fewer : p.retries - p.failures ≤ p.retries + 1 = omega arith in plus ((p.retries - p.failures) * count i) ((p.retries + 1) * count i) (over_tries count p.retries is) (mul-le-mul_right (count i) fewer)
  unstarted false (i ∷ is) =
      let fewer : p.retries + 1 - p.failures ≤ p.retries + 1 = omega arith in plus ((p.retries + 1 - p.failures) * count i) ((p.retries + 1) * count i) (over_tries count p.retries is) (mul-le-mul_right (count i) fewer)

  behind : (n : ℕ) (is : List ℕ) → over_tries count p.retries (drop n is) ≤ over_tries count p.retries is
  behind zero [] = omega arith
  behind zero (i ∷ is) = omega arith
  behind (suc n) [] = omega arith
  behind (suc n) (i ∷ is) = more (over_tries count p.retries (drop n is)) (over_tries count p.retries is) ((p.retries + 1) * count i) (behind n is)

  pub few_ahead : (busy : Bool) → over_unstarted count p busy (ahead p) ≤ over_tries count p.retries p.indices
  few_ahead busy = let few = unstarted busy (ahead p) in let all = by (list_any (settles p.kind) p.done) in omega (arith, few, all)
    where
      by : (t : Bool) → over_tries count p.retries (if t then [] else drop (length p.done) p.indices) ≤ over_tries count p.retries p.indices
      by true = omega arith
      by false = behind (length p.done) p.indices

-- as many on each instance
over_all : (retries : ℕ) (is : List ℕ) → over_tries (λ i. 1) retries is ≡ (retries + 1) * length is
over_all retries [] = omega arith
over_all retries (i ∷ is) = let rest = over_all retries is in let times = mul-suc (retries + 1) (length is) in omega (arith, rest, times)

configured : (d : BlockDesc) (kind : JobKind) → retries_of d kind + 1 ≡ device_tries d kind
configured d ReadJob = refl
configured d WriteJob = refl
configured d RestoreJob = refl
configured d EraseJob = refl
configured d InvalidateJob = refl
configured d ReadAllJob = refl
configured d WriteAllJob = refl

worked_few : (t : Bool) (is : List ℕ) → length (if t then is else []) ≤ length is
worked_few true is = omega arith
worked_few false is = omega arith

-- no more than its job has, whatever was done of it
pub tries_bounded : (c : Configuration) (s : State) (hand : Option HandState) (d : DeviceTold) (busy : Bool) → IsPaired c s hand d → tries_left hand busy ≤ tries_of c s
tries_bounded c s None d busy paired = omega arith
tries_bounded c s (Some h) d busy is =
    let id = job_block is.job in
    let kind = kind_of is.job in
    let few = few_ahead (λ i. 1) h.program busy in
    let retries : h.program.retries ≡ retries_of (desc_of c id) kind = ap (λ (p : Program). p.retries) is.working.is in
    let indices : h.program.indices ≡ (if works kind then indices_of c s id else []) = ap (λ (p : Program). p.indices) is.working.is in
    let all : over_tries (λ i. 1) h.program.retries h.program.indices ≡ (retries_of (desc_of c id) kind + 1) * length (if works kind then indices_of c s id else []) =
    subst (λ (n : ℕ). over_tries (λ i. 1) h.program.retries h.program.indices ≡ (n + 1) * length (if works kind then indices_of c s id else [])) retries
    (subst (λ (l : List ℕ). over_tries (λ i. 1) h.program.retries h.program.indices ≡ (h.program.retries + 1) * length l) indices (over_all h.program.retries h.program.indices)) in
    let tries = configured (desc_of c id) kind in
    let most : (retries_of (desc_of c id) kind + 1) * length (if works kind then indices_of c s id else []) ≤ device_tries (desc_of c id) kind * length (indices_of c s id) =
    mul-le-mul (omega (arith, tries)) (worked_few (works kind) (indices_of c s id)) in
    let job : tries_of c s ≡ device_tries (desc_of c id) kind * length (indices_of c s id) =
    ap (λ (o : Option Job). option_map_or (λ j. device_tries (desc_of c (job_block j)) (kind_of j) * length (indices_of c s (job_block j))) o 0) is.hand in
    omega (arith, few, all, most, job)

-- AN OPERATION THAT BEGINS
-- takes one
pub begun_takes : (h : HandState) (d b : DeviceTold) → h.program.failures ≤ h.program.retries → Begins h d b → tries_left (Some (with_start h)) (is_open b.stand) + 1 ≤ tries_left (Some h) (is_open d.stand)
begun_takes h d b few begun =
    let takes = start_takes (λ i. 1) h.program begun.index (drop (suc (length h.program.done)) h.program.indices) few in
    rw (opens_stand d b begun.wish.job begun.accepts.1, was_closed d b begun.wish begun.accepts, (next_ahead h.program begun.index begun.operation.next).ahead) (omega (arith, takes))

-- THE DEVICE'S TURN
-- begins none
next_few : (q : Part) (a b : Stand) (h : HandState) (old new : DeviceTold) (clock : Clock) → JobTurns q a b old new clock → tries_left (hand_by a b (Some h)) (is_open b) ≤ tries_left (Some h) (is_open a)
next_few q (Open j) (Open k) h old new clock turns = omega arith
next_few q (Open j) (Ended r given) h old new clock turns = unstarted_less q (λ i. 1) h.program (Open j) (Ended r given) old new clock turns
next_few q (Ended r given) b h old new clock turns = unstarted_less q (λ i. 1) h.program (Ended r given) b old new clock turns

no_hand : (a b : Stand) (busy : Bool) → tries_left (hand_by a b None) busy ≡ 0
no_hand (Open j) (Open k) busy = refl
no_hand (Open j) (Ended r given) busy = refl
no_hand (Ended r given) b busy = refl

stood_few : (hand : Option HandState) (a b : Stand) → b ≡ a → tries_left (hand_by a b hand) (is_open b) ≤ tries_left hand (is_open a)
stood_few hand a b same = rw (hand_same a b hand same, same) (omega arith)

pub turned_few : (hand : Option HandState) (answer : Turned) (b : DeviceTold) (clock_b : Clock) (n : DeviceTold) (clock_n : Clock) → TurnsDevice answer b clock_b n clock_n
    → tries_left (hand_by b.stand n.stand hand) (is_open n.stand) ≤ tries_left hand (is_open b.stand)
turned_few hand turned.Picked b clock_b n clock_n turns = absurd turns
turned_few hand turned.Posted b clock_b n clock_n turns = absurd turns
turned_few hand turned.Idle b clock_b n clock_n turns = stood_few hand b.stand n.stand (ap (λ (d : DeviceTold). d.stand) turns.0.1)
turned_few hand turned.Off b clock_b n clock_n turns = stood_few hand b.stand n.stand (off_stand b clock_b n clock_n turns)
turned_few None turned.Worked b clock_b n clock_n turns = let none = no_hand b.stand n.stand (is_open n.stand) in omega (arith, none)
turned_few (Some h) turned.Worked b clock_b n clock_n turns = next_few turns.0.1.0 b.stand n.stand h b n clock_n turns.0.1.1.job
