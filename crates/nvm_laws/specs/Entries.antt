-- What the entries of a turn keep, beside the job in hand, at a device that stands still.
use Rattle.std.specs.Prelude.{◌≡◌, ℕ, List, Option, Some, None}
use Rattle.block_machine.specs.nv_base.declared.job.JobStep.TheVariants as step
use Rattle.memif.specs.Told.{DeviceTold, ops_of, given_by}
use Rattle.memif.specs.Clock.{Clock}
use Rattle.block_machine.specs.Words.{Ask, Pick, JobKind, Taken, Request, Reply, ReqResult, GivenFrom}
use Rattle.block_machine.specs.State.{Job}
use Rattle.block_machine.specs.Blocks.{job_block, names_ram}
use Rattle.block_machine.specs.Next.{next_of}
use Rattle.block_machine.specs.Legal.{IsAllowed}
use Rattle.ram_blocks.specs.Told.{Told}
use Rattle.nv_desk_copies.specs.nv_desk.Desk.{DeskState, state_of}
use Rattle.nv_desk_copies.specs.Posts.{IsPosted, IsPostedNext, answer_of}
use Rattle.job_progress.specs.Hand.{HandState}
use Rattle.job_progress.specs.JobInHand.{HandFits, IsInHand}
use Rattle.nvm_laws.specs.Halves.{Adds}
use Rattle.nvm_laws.specs.Turns.{hand_in}
use Rattle.nvm_laws.specs.Keeps.{StaysKept}

-- a Pick with the hand of the job that it takes, whatever was in hand before
abbrev pub PicksKeep : DeviceTold → Clock → Type 0
PicksKeep d clock =
    (old new : DeskState) (hand : Option HandState) (block : ℕ) (kind : JobKind) (taken : Taken)
    → Adds (Pick block kind taken (ops_of d)) old new → IsAllowed old.config old.cap (state_of old) (Pick block kind taken (ops_of d))
    → StaysKept old hand d clock new (hand_in new) d clock

-- the Post of a finished job, with what its program ended with
abbrev pub PostsKeep : DeviceTold → Clock → Type 0
PostsKeep d clock =
    (old new : DeskState) (h : HandState) (j : Job) (r : ReqResult) (source : GivenFrom) (before after : List Told)
    → (state_of old).hand ≡ Some j → IsInHand old.config (state_of old) h d → h.step ≡ step.Ended r source
    → IsPosted (HandFits old.config (state_of old) (Some h) d) (job_block j) (names_ram j.request)
    (answer_of old.config (state_of old) j r source (given_by d.stand)) (ops_of d) old new before after
    → StaysKept old (Some h) d clock new None d clock

-- a Post without a Pick, with no job in hand
abbrev pub SkippedKeep : DeviceTold → Clock → Type 0
SkippedKeep d clock =
    (old new : DeskState) (before after : List Told) → (state_of old).hand ≡ None
    → IsPostedNext (next_of old.config (state_of old)) (ops_of d) old new before after
    → StaysKept old None d clock new None d clock

-- a request, with whatever is in hand
abbrev pub AsksKeep : DeviceTold → Clock → Type 0
AsksKeep d clock =
    (old new : DeskState) (hand : Option HandState) (caller : ℕ) (r : Request) (reply : Reply)
    → Adds (Ask caller r reply) old new → IsAllowed old.config old.cap (state_of old) (Ask caller r reply)
    → StaysKept old hand d clock new hand d clock
