-- What is due stays due, and comes nearer.
use Rattle.std.specs.Prelude.{◌≡◌, ◌⊎◌, ◌≤◌, ◌+◌, ◌++◌, ℕ, not, true, List, [], ◌∷◌, length, IsTrue, Option, IfSome}
use Rattle.std.specs.List.{list_all}
use Rattle.block_machine.specs.nv_base.Count.{Rose}
use Rattle.memif.specs.Told.{DeviceTold, Part, armed}
use Rattle.memif.specs.Clock.{Clock}
use Rattle.memif.specs.Calls.{InOrder, Works}
use Rattle.block_machine.specs.block_config.Sizes.{instances_of}
use Rattle.block_machine.specs.Words.{Request, Reply, Accepted, Entry, Ask, Configuration}
use Rattle.block_machine.specs.State.{State, jobs_of}
use Rattle.block_machine.specs.Blocks.{asked_block, desc_of, is_immediate, is_pending, job_block, rank_of, status_of}
use Rattle.block_machine.specs.Next.{next_in}
use Rattle.block_machine.specs.Reply.{reply_of}
use Rattle.block_machine.specs.Steps.{step}
use Rattle.ram_blocks.specs.Told.{Told}
use Rattle.nvm_device_laws.specs.Turn.{settled_by}
use Rattle.nv_desk_copies.specs.nv_desk.Desk.{DeskState, state_of}
use Rattle.nv_desk_copies.specs.nv_desk.Sound.{IsPendingJob}
use Rattle.nv_desk_copies.specs.nv_desk.Picks.{IsInterruption}
use Rattle.job_progress.specs.Hand.{HandState}
use Rattle.nvm_laws.specs.Ties.{IsTied}
use Rattle.nvm_laws.specs.Halves.{Adds, IsHalf}
use Rattle.nvm_laws.specs.Turns.{AddsBy, hand_by}
use Rattle.nvm_laws.specs.declared.turned.Turned.TheVariants as turned
use Rattle.nvm_laws.specs.declared.turned.Act.{Act}
use Rattle.nvm_laws.specs.declared.turned.Act.TheVariants.{Ended, Device}
use Rattle.nvm_laws.specs.Due.{StackNow, IsDue, IsDueInHand, IsFirstBlock, IsNearer, PostsDue, pages_now, post_first}
use Rattle.nvm_laws.specs.AtDevice.{AtDevice}

-- REQUESTS
-- An immediate write of a block of the first part, while no other immediate job waits or is in hand, and the pages of its
-- records are ready.
pub record IsUrgentRequest (r : Request) (now : StackNow) : Type 0 where
  pub immediate : is_immediate now.desk.config r ≡ true
  pub alone : IsTrue (list_all (λ j. not (rank_of now.desk.config j).immediate) (jobs_of (state_of now.desk)))
  pub of_first : IsFirstBlock now.device.fixed (asked_block r)
  pub ready : pages_now now.desk now.device.fixed (asked_block r) ≤ now.device.ready

-- once it is accepted, for a block of at most 64 instances, it is due within these pages and four turns, behind the Post of a finished job
abbrev pub AcceptedAreDue : Type 0
AcceptedAreDue =
    (desk new : DeskState) (hand : Option HandState) (d : DeviceTold) (caller : ℕ) (r : Request) → Adds (Ask caller r Accepted) desk new
    → instances_of (desc_of desk.config (asked_block r)) ≤ 64 → IsUrgentRequest r (record { desk = desk; hand = hand; device = d })
    → IsDue (length desk.entries) (pages_now desk d.fixed (asked_block r) + 4 + post_first hand) (record { desk = new; hand = hand; device = d })

-- What is due stays so through any request: those that come later wait behind it, and leave its block, which is
-- PENDING.
abbrev pub AsksKeepDue : Type 0
AsksKeepDue =
    (desk new : DeskState) (hand : Option HandState) (d : DeviceTold) (caller : ℕ) (r : Request) (reply : Reply) (number turns : ℕ)
    → Adds (Ask caller r reply) desk new → reply ≡ reply_of desk.config desk.cap (state_of desk) r
    → IfSome (next_in desk.config (state_of desk).waiting) (IsPendingJob desk.config (state_of desk))
    → IsDue number turns (record { desk = desk; hand = hand; device = d }) → IsDue number turns (record { desk = new; hand = hand; device = d })

-- the block of the next job is PENDING
abbrev pub NextIsPending : Configuration → State → Type 0
NextIsPending c s = IfSome (next_in c s.waiting) (λ j. is_pending (status_of s (job_block j)) ≡ true)

-- these are requests, each with the machine's reply in its turn
abbrev pub AreReplied : Configuration → ℕ → State → List Entry → Type 0
AreReplied c cap s [] = Unit {0}
AreReplied c cap s (Ask caller r reply ∷ es) = (reply ≡ reply_of c cap s r) × AreReplied c cap (step c s (Ask caller r reply)) es
AreReplied c cap s (e ∷ es) = ⊥

abbrev pub with_entries : DeskState → List Entry → DeskState
with_entries desk more = record desk { entries = desk.entries ++ more }

-- so it does through any number of requests
abbrev pub RequestsKeepDue : Type 0
RequestsKeepDue =
    (desk : DeskState) (hand : Option HandState) (d : DeviceTold) (more : List Entry) (number turns : ℕ) → AreReplied desk.config desk.cap (state_of desk) more
    → NextIsPending desk.config (state_of desk) → IsDue number turns (record { desk = desk; hand = hand; device = d })
    → IsDue number turns (record { desk = with_entries desk more; hand = hand; device = d })

-- and what is in hand stays in hand
abbrev pub RequestsKeepDueInHand : Type 0
RequestsKeepDueInHand =
    (desk : DeskState) (hand : Option HandState) (d : DeviceTold) (more : List Entry) (number turns : ℕ) → AreReplied desk.config desk.cap (state_of desk) more
    → IsDueInHand number turns (record { desk = desk; hand = hand; device = d })
    → IsDueInHand number turns (record { desk = with_entries desk more; hand = hand; device = d })

-- so it does where a power cut is planned
abbrev pub PlansKeepDue : Type 0
PlansKeepDue =
    (desk : DeskState) (hand : Option HandState) (d : DeviceTold) (which nth keep number turns : ℕ)
    → IsDue number turns (record { desk = desk; hand = hand; device = d }) → IsDue number turns (record { desk = desk; hand = hand; device = armed which nth keep d })

-- TURNS
-- by what the first half came to: it is posted, it is due a turn sooner, or it is in hand at the device's turn
abbrev pub IsServed : Act → (number turns : ℕ) → StackNow → StackNow → Type 0
IsServed (Ended turned.Off) number turns old new = Unit {0}
IsServed (Ended answer) number turns old new = PostsDue number old.desk new.desk ⊎ IsNearer number turns new
IsServed Device number turns old new = IsDueInHand number turns new

-- The first half of a turn goes to what is due: to the Post of the job before it, to its Pick, to its operations or its Post.
-- Nothing is asked of what the Pick took, or of whether the Post fits the settled marks.
abbrev pub FirstHalvesServe : DeviceTold → Clock → Type 0
FirstHalvesServe new clock =
    (act : Act) (desk desk_new : DeskState) (before after : List Told) (hand hand_new : Option HandState) (old : DeviceTold) (number turns : ℕ)
    → (act ≡ Ended turned.Picked → InOrder new clock) → IsHalf act (λ block t. Unit {0}) ⊥ desk desk_new before after new
    → AtDevice act hand old desk_new hand_new new → (act ≡ Device → ¬ IsInterruption desk)
    → IsTied desk hand old → IsTied desk_new hand_new new → IsDue number turns (record { desk = desk; hand = hand; device = old })
    → IsServed act number turns (record { desk = desk; hand = hand; device = old }) (record { desk = desk_new; hand = hand_new; device = new })

-- the device's turn at its operation brings it nearer, where no fault was counted
abbrev pub SecondHalvesServe : DeviceTold → Clock → Type 0
SecondHalvesServe new clock =
    (p : Part) (desk desk_new : DeskState) (hand : Option HandState) (old : DeviceTold) (number turns ops : ℕ) → Works p old new clock
    → ¬ Rose old.first.faults new.first.faults → AddsBy (settled_by old.stand new.stand ops) desk desk_new → IsTied desk hand old
    → IfSome hand (λ h. h.started ≡ true) → IsDueInHand number turns (record { desk = desk; hand = hand; device = old })
    → IsNearer number turns (record { desk = desk_new; hand = hand_by old.stand new.stand hand; device = new })
