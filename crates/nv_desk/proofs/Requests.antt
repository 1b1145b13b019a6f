-- A request on all blocks that is accepted.
use Rattle.std.proofs.Common.{◌≡◌, ℕ, ◌+◌, Bool, true, false, List, option_map, refl, ap, arith, Option, Some, None}
use Rattle.std.specs.Option.{option_map_or}
use Rattle.block_machine.specs.Words.{Configuration, Ask, Request, SetIndex, SetProtection, SetLock, SetRam, PutRam, GetIndex, Status, CancelWriteAll, Reply, Accepted}
use Rattle.block_machine.specs.State.{State, Sweep, jobs_of}
use Rattle.block_machine.specs.Sweeps.{sweep_entries, sweep_at}
use Rattle.block_machine.specs.Reply.{reserved_entries, needed}
use Rattle.block_machine.specs.Steps.{step, asked, accepted, with_sweep}
use Rattle.block_laws.specs.Consistent.{IsConsistent}
use Rattle.nv_desk.specs.Asks.{IsSweepAccepted}
use Rattle.nv_desk.specs.Desk.{sweep_request}
use Rattle.nv_desk_state.specs.declared.kept.Kept.{Kept}
use Rattle.nv_desk_state.specs.Kept.{Agrees, IsChange}
use Rattle.nv_desk.specs.Sound.{IsSound}
use Rattle.nv_desk.proofs.Sound.{sound_pending, sound_same}
use Rattle.nv_desk.proofs.Jobs.{no_sweep}

accepted_sweep : (c : Configuration) (s : State) (writes : Bool) → accepted c s (sweep_request writes) ≡ with_sweep c s writes
accepted_sweep c s true = refl
accepted_sweep c s false = refl

pub needed_sweep : (c : Configuration) (writes : Bool) → needed c (sweep_request writes) ≡ sweep_entries c (sweep_at c 0 writes)
needed_sweep c true = refl
needed_sweep c false = refl

pub sweep_agrees : (c : Configuration) (k : Kept) (s : State) (writes : Bool) → Agrees c k (with_sweep c s writes)
    → Agrees c k (accepted c s (sweep_request writes))
sweep_agrees c k s writes h = rw (accepted_sweep c s writes) h

pub sweep_jobs : (c : Configuration) (s : State) (writes : Bool) → jobs_of (accepted c s (sweep_request writes)) ≡ jobs_of s
sweep_jobs c s writes = ap jobs_of (accepted_sweep c s writes)

-- none was pending before, so that it adds its entries to the reserved ones
pub sweep_reserves : (c : Configuration) (cap : ℕ) (s : State) (writes : Bool) → IsSound c s
    → IsSweepAccepted c cap s (sweep_request writes) → reserved_entries c
    (accepted c s (sweep_request writes)) ≡ reserved_entries c s + needed c (sweep_request writes)
sweep_reserves c cap s writes sound passed =
    let none = no_sweep c s sound.consistent passed.alone in
    let empty : option_map_or (sweep_entries c) s.sweep 0 ≡ 0 = ap (λ o. option_map_or (sweep_entries c) o 0) none in
    rw (accepted_sweep c s writes) (omega (arith, empty, needed_sweep c writes))

pub sweep_sound : (c : Configuration) (s : State) (caller : ℕ) (writes : Bool) → IsSound c s
    → IsConsistent c (step c s (Ask caller (sweep_request writes) Accepted))
    → IsSound c (step c s (Ask caller (sweep_request writes) Accepted))
sweep_sound c s caller true sound consistent = sound_pending c s (step c s (Ask caller (sweep_request true) Accepted)) sound consistent refl refl refl
sweep_sound c s caller false sound consistent = sound_pending c s (step c s (Ask caller (sweep_request false) Accepted)) sound consistent refl refl refl

-- A REQUEST THAT MAKES NO JOB

cancel_reserves : (c : Configuration) (o : Option Sweep) → option_map_or (sweep_entries c)
    (option_map {T = Sweep} (λ sw. record sw { canceled = true }) o) 0 ≡ option_map_or (sweep_entries c) o 0
cancel_reserves c None = refl
cancel_reserves c (Some sw) = refl

pub change_reserves : (c : Configuration) (s : State) (rooms : List ℕ) (r : Request) → IsChange rooms r
    → reserved_entries c (accepted c s r) ≡ reserved_entries c s
change_reserves c s rooms (SetIndex block index) is = refl
change_reserves c s rooms (SetProtection block on) is = refl
change_reserves c s rooms (SetLock block on) is = refl
change_reserves c s rooms (SetRam block on) is = refl
change_reserves c s rooms (PutRam block content) is = refl
change_reserves c s rooms (GetIndex block) is = refl
change_reserves c s rooms (Status block) is = refl
change_reserves c s rooms CancelWriteAll is = omega (arith, cancel_reserves c s.sweep)
change_reserves c s rooms r is = absurd is

pub change_jobs : (c : Configuration) (s : State) (rooms : List ℕ) (r : Request) → IsChange rooms r → jobs_of (accepted c s r) ≡ jobs_of s
change_jobs c s rooms (SetIndex block index) is = refl
change_jobs c s rooms (SetProtection block on) is = refl
change_jobs c s rooms (SetLock block on) is = refl
change_jobs c s rooms (SetRam block on) is = refl
change_jobs c s rooms (PutRam block content) is = refl
change_jobs c s rooms (GetIndex block) is = refl
change_jobs c s rooms (Status block) is = refl
change_jobs c s rooms CancelWriteAll is = refl
change_jobs c s rooms r is = absurd is

-- one that changes nothing
pub same_sound : (c : Configuration) (s : State) (caller : ℕ) (r : Request) (reply : Reply) → IsSound c s
    → IsConsistent c (step c s (Ask caller r reply)) → asked c s r reply ≡ s → IsSound c (step c s (Ask caller r reply))
same_sound c s caller r reply sound consistent same =
    sound_same c s (step c s (Ask caller r reply)) sound consistent (ap (λ (x : State). x.started) same) (ap (λ (x : State). x.blocks) same)
    (ap (λ (x : State). jobs_of x) same)
