-- What is due, behind requests of others; and the work of a drain.
use Rattle.std.specs.Prelude.{IfSome}
use Rattle.std.proofs.Common.{◌≡◌, ◌⊎◌, inl, inr, ℕ, ◌<◌, ◌≤◌, true, List, Option, Some, None, refl, sym, ap, ◌∙◌, subst, arith, length-append}
use Rattle.nvm_core.specs.nv_base.Count.{Rose}
use Rattle.nvm_core.specs.memif.Told.{DeviceTold, faults_of}
use Rattle.nvm_core.specs.block_machine.Words.{Configuration, Entry, Taken}
use Rattle.nvm_core.specs.block_machine.State.{State, Job}
use Rattle.nvm_core.specs.block_machine.Blocks.{is_pending, job_block, status_of}
use Rattle.nvm_core.specs.nv_desk.Sound.{IsPendingJob}
use Rattle.nvm_core.specs.ram_blocks.Told.{Told}
use Rattle.nvm_core.specs.nv_desk.Desk.{DeskState, state_of}
use Rattle.nvm_core.specs.job_progress.Hand.{HandState}
use Rattle.nvm_core.specs.job_progress.JobInHand.{IsPaired}
use Rattle.nvm_core.specs.nvm_laws.Halves.{IsHalf}
use Rattle.nvm_core.specs.nvm_laws.declared.turned.Turned.{Turned}
use Rattle.nvm_core.specs.nvm_laws.declared.turned.Turned.TheVariants as turned
use Rattle.nvm_core.specs.nvm_laws.declared.turned.Act.{Act}
use Rattle.nvm_core.specs.nvm_laws.declared.turned.Act.TheVariants.{Ended}
use Rattle.nvm_core.specs.nvm_laws.Work.{stack_work}
use Rattle.nvm_core.specs.nvm_laws.Due.{StackNow, IsDue, IsNearer, PostsDue}
use Rattle.nvm_core.specs.nvm_laws.DueLaws.{IsServed}
use Rattle.nvm_core.specs.nvm_laws.DueCalls.{IsCalmTurn}
use Rattle.nvm_core.specs.nvm_laws.AtDevice.{GoesOn}
use Rattle.nvm_core.specs.Stack.{StackState}
use Rattle.nvm_core.specs.Work.{Lowers, work_of}
use Rattle.nvm_core.proofs.Serving.{served_by}
use Rattle.nvm_shared.specs.Behind.{AreAsks, with_more}
use Rattle.nvm_shared.specs.Driving.{DriverState, stack_of}

abbrev at_once : DeskState → Option HandState → DeviceTold → StackNow
at_once desk hand d = record { desk = desk; hand = hand; device = d }

-- THE FIRST HALF
-- what it serves at the desk x, it serves at the desk that the driver knows behind requests
pub begins_served : (desk : DeskState) (asks : List Entry) (x y desk_new : DeskState) (hand hand_new : Option HandState) (d d_new : DeviceTold) (act : Act)
    → x ≡ with_more desk asks → y ≡ desk_new
    → ((number turns : ℕ) → IsDue number turns (at_once x hand d) → IsServed act number turns (at_once x hand d) (at_once y hand_new d_new))
    → (number turns : ℕ) → IsDue number turns (at_once (with_more desk asks) hand d) → IsServed act number turns (at_once (with_more desk asks) hand d) (at_once desk_new hand_new d_new)
begins_served desk asks x y desk_new hand hand_new d d_new act behind same serves number turns due =
    subst (λ (z : DeskState). IsServed act number turns (at_once z hand d) (at_once desk_new hand_new d_new)) behind
    (subst (λ (z : DeskState). IsServed act number turns (at_once x hand d) (at_once z hand_new d_new)) same
    (serves number turns (subst (λ (z : DeskState). IsDue number turns (at_once z hand d)) (sym behind) due)))

-- a turn that ends with it posts what is due, behind requests, or brings it nearer
pub ended_serves : (answer : Turned) (number turns : ℕ) (desk : DeskState) (asks : List Entry) (desk_new : DeskState) (hand hand_new : Option HandState) (d d_new : DeviceTold)
    (Holds : ℕ → Taken → Type 0) (Fits : Type 0) (before after : List Told) (e : DeviceTold) → AreAsks asks
    → (answer ≡ turned.Off → (state_of (with_more desk asks)).off ≡ true) → IsHalf (Ended answer) Holds Fits (with_more desk asks) desk_new before after e
    → IsCalmTurn (at_once desk hand d) (at_once desk_new hand_new d_new) → IsServed (Ended answer) number turns (at_once (with_more desk asks) hand d) (at_once desk_new hand_new d_new)
    → ((more : List Entry) × AreAsks more × PostsDue number (with_more desk more) desk_new) ⊎ IsNearer number turns (at_once desk_new hand_new d_new)
ended_serves answer number turns desk asks desk_new hand hand_new d d_new Holds Fits before after e are off half calm served =
    elim (served_by answer number turns (at_once (with_more desk asks) hand d) (at_once desk_new hand_new d_new) Holds Fits before after e off half (record { faultless = calm.faultless; on = calm.on }) served) [
      | inl posts ↦ inl (asks, are, posts)
      | inr nearer ↦ inr nearer
    ]

-- THE WORK
-- requests take room, and nothing else
less_work : (desk : DeskState) (asks : List Entry) (hand : Option HandState) (d : DeviceTold) → stack_work (with_more desk asks) hand d ≤ stack_work desk hand d
less_work desk asks hand d = let more = length-append desk.entries asks in omega (arith, more)

module _ {D C : Type 0} (told : D → DeviceTold) (desk : DeskState) (asks : List Entry) (s : DriverState D C) where
  pub less_before : work_of told (stack_of (with_more desk asks) s) ≤ work_of told (stack_of desk s)
  less_before = less_work desk asks s.hand (told s.device)

  pub lowers_ended : (answer : Turned) (new : StackState D C) → (answer ≡ turned.Worked → ⊥) → Lowers told answer (stack_of (with_more desk asks) s) new → Lowers told answer (stack_of desk s) new
  lowers_ended turned.Picked new never less = omega (arith, less, less_before)
  lowers_ended turned.Posted new never less = omega (arith, less, less_before)
  lowers_ended turned.Worked new never less = absurd (never refl)
  lowers_ended turned.Idle new never less = tt
  lowers_ended turned.Off new never less = tt

-- the device's turn lowers it from the desk that the driver knows
pub lowers_behind : (desk : DeskState) (asks : List Entry) (x y desk_new : DeskState) (hand hand_new : Option HandState) (d d_new : DeviceTold) → x ≡ with_more desk asks → y ≡ desk_new
    → (stack_work y hand_new d_new < stack_work x hand d) ⊎ ((hand ≡ None) × Rose (faults_of d) (faults_of d_new))
    → (stack_work desk_new hand_new d_new < stack_work desk hand d) ⊎ ((hand ≡ None) × Rose (faults_of d) (faults_of d_new))
lowers_behind desk asks x y desk_new hand hand_new d d_new behind same (inl less) =
    let one : stack_work x hand d ≡ stack_work (with_more desk asks) hand d = ap (λ (z : DeskState). stack_work z hand d) behind in
    let two : stack_work y hand_new d_new ≡ stack_work desk_new hand_new d_new = ap (λ (z : DeskState). stack_work z hand_new d_new) same in
    let few = less_work desk asks hand d in inl (omega (arith, less, one, two, few))
lowers_behind desk asks x y desk_new hand hand_new d d_new behind same (inr faulty) = inr faulty

-- where the hand that goes on is none, there was none
pub none_before : (desk : DeskState) (hand hand_new : Option HandState) (d d_new : DeviceTold) → GoesOn hand d hand_new d_new → IsPaired desk.config (state_of desk) hand d → hand_new ≡ None
    → (state_of desk).hand ≡ None
none_before desk None hand_new d d_new goes paired none = paired.0
none_before desk (Some h) hand_new d d_new goes paired none = cc (goes.1, none)

-- a turn that ends in Off adds nothing, so the power was off before
pub off_before : (answer : Turned) (Holds : ℕ → Taken → Type 0) (Fits : Type 0) (old new : DeskState) (before after : List Told) (d : DeviceTold) → IsHalf (Ended answer) Holds Fits old new before after d
    → (Ended answer ≡ Ended turned.Off → (state_of new).off ≡ true) → answer ≡ turned.Off → (state_of old).off ≡ true
off_before turned.Off Holds Fits old new before after d half off is = ap (λ (x : DeskState). (state_of x).off) (sym half.0.0) ∙ off refl
off_before turned.Picked Holds Fits old new before after d half off is = cc is
off_before turned.Posted Holds Fits old new before after d half off is = cc is
off_before turned.Idle Holds Fits old new before after d half off is = cc is
off_before turned.Worked Holds Fits old new before after d half off is = cc is

-- the block of a pending job is PENDING
pub next_pending : (c : Configuration) (s : State) (o : Option Job) → IfSome o (IsPendingJob c s) → IfSome o (λ j. is_pending (status_of s (job_block j)) ≡ true)
next_pending c s None is = tt
next_pending c s (Some j) is = is.pending
