-- The power behind the driver's entries, and a finished job.
use Rattle.std.proofs.Common.{◌≡◌, ℕ, Bool, true, false, List, Option, Some, None, refl, ap, ◌∙◌}
use Rattle.memif.specs.Told.{is_open, IfElse}
use Rattle.block_machine.specs.Words.{ReqResult, Ask, Pick, Wrote, Post, Off, Found, Instance, Mark, Taken, Configuration}
use Rattle.block_machine.specs.State.{State, Job}
use Rattle.block_machine.specs.Next.{Next, Nothing, PickJob, BeginSweep, PickMember, PostMember, EndSweep, next_of}
use Rattle.block_machine.specs.Results.{took_none}
use Rattle.block_machine.specs.Steps.{picked, wrote, posted, posted_next}
use Rattle.job_programs.specs.Program.{step_of, step_by}
use Rattle.job_progress.specs.Hand.{is_finished}
use Rattle.job_progress.specs.JobInHand.{IsFruitless, IsAt}
use Rattle.job_progress.specs.Asks.{FinishedAreClosed, JobsKeepPower, PostsLeaveNone}

picked_power : (c : Configuration) (s : State) (t : Taken) (n : Next) → ((picked c s t n).started ≡ s.started) × ((picked c s t n).off ≡ s.off)
picked_power c s t Nothing = (refl, refl)
picked_power c s t (PickJob j) = (refl, refl)
picked_power c s t (BeginSweep sw) = (refl, refl)
picked_power c s t (PickMember sw id) = (refl, refl)
picked_power c s t (PostMember sw id) = (refl, refl)
picked_power c s t (EndSweep sw) = (refl, refl)

wrote_power : (s : State) (i : Instance) (mark : Mark) (h : Option Job) → ((wrote s i mark h).started ≡ s.started) × ((wrote s i mark h).off ≡ s.off)
wrote_power s i mark None = (refl, refl)
wrote_power s i mark (Some j) = (refl, refl)

next_power : (c : Configuration) (s : State) (r : ReqResult) (given : Option (List ℕ)) (n : Next)
    → ((posted_next c s r given n).started ≡ s.started) × ((posted_next c s r given n).off ≡ s.off) × ((posted_next c s r given n).hand ≡ s.hand)
next_power c s r given Nothing = (refl, refl, refl)
next_power c s r given (PickJob j) = (refl, refl, refl)
next_power c s r given (BeginSweep sw) = (refl, refl, refl)
next_power c s r given (PickMember sw id) = (refl, refl, refl)
next_power c s r given (PostMember sw id) = (refl, refl, refl)
next_power c s r given (EndSweep sw) = (refl, refl, refl)

posted_power : (c : Configuration) (s : State) (r : ReqResult) (given : Option (List ℕ)) (h : Option Job)
    → ((posted c s r given h).started ≡ s.started) × ((posted c s r given h).off ≡ s.off) × (s.hand ≡ h → (posted c s r given h).hand ≡ None)
posted_power c s r given (Some j) = (refl, refl, λ is. refl)
posted_power c s r given None = let (started, off, hand) = next_power c s r given (next_of c s) in (started, off, λ is. hand ∙ is)

some_ops : (n m : ℕ) → Some n ≡ Some m → n ≡ m
some_ops n m is = cc

pub jobs_keep_power : JobsKeepPower
jobs_keep_power c s (Pick block kind t ops) is = record { started = (picked_power c s t (next_of c s)).0; off = (picked_power c s t (next_of c s)).1; ops = some_ops ops }
jobs_keep_power c s (Wrote i mark ops) is = record { started = (wrote_power s i mark s.hand).0; off = (wrote_power s i mark s.hand).1; ops = some_ops ops }
jobs_keep_power c s (Post block r given refused ops) is = record { started = (posted_power c s r given s.hand).0; off = (posted_power c s r given s.hand).1; ops = some_ops ops }
jobs_keep_power c s (Ask caller r reply) is = cc
jobs_keep_power c s (Off ops) is = cc
jobs_keep_power c s (Found marks ops) is = cc

pub posts_leave_none : PostsLeaveNone
posts_leave_none c s (Post block r given refused ops) is = (posted_power c s r given s.hand).2 refl
posts_leave_none c s (Ask caller r reply) is = absurd is
posts_leave_none c s (Pick block kind t ops) is = absurd is
posts_leave_none c s (Wrote i mark ops) is = absurd is
posts_leave_none c s (Off ops) is = absurd is
posts_leave_none c s (Found marks ops) is = absurd is

pub finished_are_closed : FinishedAreClosed
finished_are_closed c s h d is over = by h.started (took_none is.job.taken) refl is.at is.step
  where
    by : (t u : Bool) → h.started ≡ t → IfElse t (IsAt c is.job h.program d.stand) (is_open d.stand ≡ false) → IfElse u (IsFruitless h) (h.step ≡ step_of h.program) → is_open d.stand ≡ false
    by false u started closed step = closed
    by true true started at fruitless = let off = fruitless.1 in cc
    by true false started at step =
        let device : step_of h.program ≡ step_by h.program (Some at.index) = ap (step_by h.program) at.next in
        let open_now : is_finished h.step ≡ false = ap is_finished (step ∙ device) in cc
