-- What a request that comes in leaves to be shown.
use Rattle.std.proofs.Common.{◌≡◌, ◌<◌, ◌+◌, ◌^◌, ℕ, Bool, true, IsTrue, length, ap, arith}
use Rattle.nv_recorder.specs.Recorder.{Recorded}
use Rattle.nv_recorder.specs.Request.{request_lent}
use Rattle.block_machine.specs.Words.{Configuration, Request, SetIndex, GetIndex, SetProtection, SetLock, SetRam, PutRam, Status, CancelWriteAll, Accepted}
use Rattle.block_machine.specs.State.{State}
use Rattle.block_machine.specs.Blocks.{asked_block}
use Rattle.block_machine.specs.Reply.{fits, needed, reply_of, reserved_entries}
use Rattle.block_machine.specs.Steps.{after}
use Rattle.block_laws.proofs.HistoryLaws.{entries_are_counted}
use Rattle.block_laws.proofs.NextLaws.{fitting_has_room}
use Rattle.block_states.specs.States.{rooms_of}
use Rattle.nv_desk_state.specs.Kept.{IsChange}
use Rattle.nv_desk.specs.declared.desk.Desk.TheInside.{Inside}
use Rattle.nv_desk.specs.declared.incoming.Incoming.{Incoming}
use Rattle.nv_desk.specs.declared.incoming.Incoming.TheVariants as incoming
use Rattle.nv_desk.specs.Desk.{IsKept, shown, sweep_request}
use Rattle.nv_desk.specs.Incoming.{CanRecord, MayCome, is_at_once}
use Rattle.nv_desk.proofs.Asks.{put_fits, sweep_accepted}

-- its entry can be added
pub recordable : (d : Inside) (i : Incoming) → IsKept d → MayCome (shown d) i → CanRecord d.history i
recordable d (incoming.Owned alloc request) is comes = tt
recordable d (incoming.Lent request) is comes = (comes.0, omega (arith, comes.1, is.longest (asked_block (request_lent request))))

-- and still can once memory was taken
pub recordable_still : (h mid : Recorded) (i : Incoming) → record mid { reserved = h.reserved } ≡ h → CanRecord h i → CanRecord mid i
recordable_still h mid (incoming.Owned alloc request) same can = tt
recordable_still h mid (incoming.Lent request) same can =
    let cap : mid.cap ≡ h.cap = ap (λ (x : Recorded). x.cap) same in
    let longest : mid.longest ≡ h.longest = ap (λ (x : Recorded). x.longest) same in
    (rw cap can.0, omega (arith, can.1, longest))

-- the entry of a request that fits has a place
pub ask_below : (d : Inside) (mid : Recorded) → record mid { reserved = d.history.reserved } ≡ d.history
    → IsTrue (fits d.config d.history.cap (after d.config d.history.entries) 1) → length mid.entries < mid.cap
ask_below d mid same fitting =
    let room = (fitting_has_room d.config d.history.cap (after d.config d.history.entries) 1).0 fitting in
    let count = entries_are_counted d.config d.history.entries in
    let entries = ap (λ (h : Recorded). length h.entries) same in
    let cap = ap (λ (h : Recorded). h.cap) same in
    omega (arith, room, count, entries, cap)

-- one that changes something at once has passed the test of its content
pub change_fits : (c : Configuration) (cap : ℕ) (s : State) (r : Request) → is_at_once r ≡ true → Accepted ≡ reply_of c cap s r
    → IsChange (rooms_of c) r
change_fits c cap s (SetIndex block index) once is = tt
change_fits c cap s (GetIndex block) once is = tt
change_fits c cap s (SetProtection block on) once is = tt
change_fits c cap s (SetLock block on) once is = tt
change_fits c cap s (SetRam block on) once is = tt
change_fits c cap s (PutRam block content) once is = put_fits c cap s block content is
change_fits c cap s (Status block) once is = tt
change_fits c cap s CancelWriteAll once is = tt
change_fits c cap s r once is = cc

-- the entries of one on all blocks fit into a number
pub few_sweep : (d : Inside) (writes : Bool) (reserved more : ℕ) → IsKept d
    → Accepted ≡ reply_of d.config d.history.cap (after d.config d.history.entries) (sweep_request writes)
    → more ≡ needed d.config (sweep_request writes) → reserved ≡ reserved_entries d.config (after d.config d.history.entries)
    → reserved + more + 1 < 2 ^ 32
few_sweep d writes reserved more is replies need value =
    let s = after d.config d.history.entries in
    let passed = sweep_accepted d.config d.history.cap s writes replies in
    let room = (fitting_has_room d.config d.history.cap s (1 + needed d.config (sweep_request writes))).0 passed.room in
    omega (arith, room, is.within, need, value)
