-- A request that comes in.
use Rattle.std.specs.Prelude.{◌≡◌, ◌≤◌, Bool, true, false, length, is_none, is_some}
use Rattle.nv_recorder.specs.Recorder.{Recorded, keeps}
use Rattle.nv_recorder.specs.Request.{request_lent}
use Rattle.block_machine.specs.Words.{Request, ReadAll, WriteAll}
use Rattle.block_machine.specs.Blocks.{asked_block, desc_of, job_kind}
use Rattle.nv_desk.specs.declared.effect.Effect.{Effect}
use Rattle.nv_desk.specs.declared.effect.Effect.TheVariants as effect
use Rattle.nv_desk.specs.declared.incoming.Incoming.{Incoming}
use Rattle.nv_desk.specs.declared.incoming.Incoming.TheVariants as incoming
use Rattle.nv_desk.specs.Desk.{DeskState, sweep_request}

-- the request
abbrev pub request_in : Incoming → Request
request_in (incoming.Owned alloc request) = request
request_in (incoming.Lent request) = request_lent request

-- its content is lent
abbrev pub IsLent : Incoming → Type 0
IsLent (incoming.Owned alloc request) = ⊥
IsLent (incoming.Lent request) = Unit {0}

-- one that is lent comes where entries are counted, with a content that is no longer than its block's
abbrev pub MayCome : DeskState → Incoming → Type 0
MayCome d (incoming.Owned alloc request) = Unit {0}
MayCome d (incoming.Lent request) = (keeps d.cap ≡ false) × (length request.content.now ≤ (desc_of d.config (asked_block (request_lent request))).length)

-- its entry can be added
abbrev pub CanRecord : Recorded → Incoming → Type 0
CanRecord h (incoming.Owned alloc request) = Unit {0}
CanRecord h (incoming.Lent request) = (keeps h.cap ≡ false) × (length request.content.now ≤ h.longest)

-- WHAT IT DOES WHERE IT IS ACCEPTED

-- it makes no job, and no request on all blocks is pending by it
abbrev pub is_at_once : Request → Bool
is_at_once ReadAll = false
is_at_once WriteAll = false
is_at_once r = is_none (job_kind r)

abbrev pub IsEffect : Request → Effect → Type 0
IsEffect r effect.Job = is_some (job_kind r) ≡ true
IsEffect r (effect.Sweep writes) = r ≡ sweep_request writes
IsEffect r effect.Change = is_at_once r ≡ true
