-- Requests and other entries beside the job in hand.
use Rattle.std.specs.Prelude.{◌≡◌, ℕ, Bool, true, false, IfSome, Option, Some, None}
use Rattle.memif.specs.Told.{DeviceTold, is_open}
use Rattle.block_machine.specs.nv_base.Entry.{ops_of}
use Rattle.block_machine.specs.Words.{Entry, Pick, Wrote, Post, Request, Reply, Ask, Off, Configuration}
use Rattle.block_machine.specs.State.{State}
use Rattle.block_machine.specs.Blocks.{block_at, job_block, status_of, is_pending}
use Rattle.block_machine.specs.Reply.{reply_of}
use Rattle.block_machine.specs.Steps.{step as stepped}
use Rattle.job_progress.specs.Hand.{HandState, is_finished}
use Rattle.job_progress.specs.JobInHand.{IsInHand, IsPaired}

-- a request leaves the hand paired, where the block of the job in hand is PENDING
abbrev pub AsksKeepHands : Type 0
AsksKeepHands =
    (c : Configuration) (cap : ℕ) (s : State) (hand : Option HandState) (d : DeviceTold) (caller : ℕ) (r : Request) (reply : Reply)
    → reply ≡ reply_of c cap s r → IfSome s.hand (λ j. is_pending (status_of s (job_block j)) ≡ true)
    → IsPaired c s hand d → IsPaired c (stepped c s (Ask caller r reply)) hand d

-- it leaves a block that is PENDING as it was
abbrev pub PendingStay : Type 0
PendingStay =
    (c : Configuration) (cap : ℕ) (s : State) (caller : ℕ) (r : Request) (reply : Reply) (id : ℕ) → reply ≡ reply_of c cap s r
    → is_pending (status_of s id) ≡ true → block_at (stepped c s (Ask caller r reply)) id ≡ block_at s id

-- an Off leaves the hand paired too
abbrev pub OffsKeepHands : Type 0
OffsKeepHands = (c : Configuration) (s : State) (hand : Option HandState) (d : DeviceTold) (ops : ℕ) → IsPaired c s hand d → IsPaired c (stepped c s (Off ops)) hand d

-- another device in its place, whose job stands as this one's
abbrev pub DevicesStandIn : Type 0
DevicesStandIn = (c : Configuration) (s : State) (hand : Option HandState) (old new : DeviceTold) → new.stand ≡ old.stand → IsPaired c s hand old → IsPaired c s hand new

-- a finished job has nothing open at the device
abbrev pub FinishedAreClosed : Type 0
FinishedAreClosed =
    (c : Configuration) (s : State) (h : HandState) (d : DeviceTold) → IsInHand c s h d → is_finished h.step ≡ true → is_open d.stand ≡ false

-- an entry of the driver that isn't of the power: a Pick, a Wrote or a Post
abbrev pub is_of_jobs : Entry → Bool
is_of_jobs (Pick block kind taken ops) = true
is_of_jobs (Wrote i mark ops) = true
is_of_jobs (Post block r given refused ops) = true
is_of_jobs e = false

-- it leaves the power as it is, and tells its operations
pub record KeepsPower (s t : State) (e : Entry) : Type 0 where
  pub started : t.started ≡ s.started
  pub off : t.off ≡ s.off
  pub ops : (n : ℕ) → ops_of e ≡ Some n → t.ops ≡ n

abbrev pub JobsKeepPower : Type 0
JobsKeepPower = (c : Configuration) (s : State) (e : Entry) → is_of_jobs e ≡ true → KeepsPower s (stepped c s e) e

abbrev pub IsPost : Entry → Type 0
IsPost (Post block r given refused ops) = Unit {0}
IsPost e = ⊥

-- behind a Post no job is in hand
abbrev pub PostsLeaveNone : Type 0
PostsLeaveNone = (c : Configuration) (s : State) (e : Entry) → IsPost e → (stepped c s e).hand ≡ None
