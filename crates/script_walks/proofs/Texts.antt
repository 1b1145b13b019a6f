-- The text of a legal history tells it.
use Rattle.std.proofs.Common.{◌≡◌, ℕ, ◌+◌, Bool, true, false, List, [], ◌∷◌, Option, Some, None, subst, sym}
use Rattle.nvm_script.specs.Printed.{ArePrinted, HasNoStore, CountsTries}
use Rattle.block_machine.specs.Words.{Request, Read, Write, Restore, Erase, Invalidate, SetIndex, GetIndex, SetProtection, SetLock, SetRam, PutRam, Status, ReadAll, WriteAll, CancelWriteAll, Reply, JobKind, ReadJob, WriteJob, RestoreJob, EraseJob, InvalidateJob, ReadAllJob, WriteAllJob, Taken, TookNothing, TookContent, TookRefused, TookStale, Entry, Ask, Pick, Wrote, Post, Off, Found, BlockDesc, Configuration}
use Rattle.block_machine.specs.State.{State, BlockState, Job}
use Rattle.block_machine.specs.Blocks.{desc_of, block_at, job_block, kind_of}
use Rattle.block_machine.specs.Next.{Next, Nothing, PickJob, BeginSweep, PickMember, PostMember, EndSweep, next_of}
use Rattle.block_machine.specs.Sweeps.{member_job}
use Rattle.block_machine.specs.Steps.{step}
use Rattle.block_machine.specs.StartUp.{at_first}
use Rattle.block_machine.specs.Legal.{IsLegalFrom, HasStore, TakesBy, TakesForWrite, IsPick, MayPick}
use Rattle.nvm_script.proofs.EntryLaws.{texts_tell_histories}
use Rattle.script_walks.specs.Texts.{AreValues, TextsTellLegalHistories}

-- the tries of a copy of each block
copy_tries : Configuration → ℕ → ℕ
copy_tries c block = (desc_of c block).repeats + 1

no_store : (c : Configuration) (caller : ℕ) (r : Request) (reply : Reply) → HasStore c r → HasNoStore (Ask caller r reply)
no_store c caller (Write block (Some content) store) reply has = has
no_store c caller (Write block None store) reply has = tt
no_store c caller (Read block ram) reply has = tt
no_store c caller (Restore block ram) reply has = tt
no_store c caller (Erase block) reply has = tt
no_store c caller (Invalidate block) reply has = tt
no_store c caller (SetIndex block index) reply has = tt
no_store c caller (GetIndex block) reply has = tt
no_store c caller (SetProtection block on) reply has = tt
no_store c caller (SetLock block on) reply has = tt
no_store c caller (SetRam block on) reply has = tt
no_store c caller (PutRam block content) reply has = tt
no_store c caller (Status block) reply has = tt
no_store c caller ReadAll reply has = tt
no_store c caller WriteAll reply has = tt
no_store c caller CancelWriteAll reply has = tt

-- only a RAM write of a synchronized block may find each copy too old, and then it has tried all
stale_write : (d : BlockDesc) (b : BlockState) (j : Job) (content : Option (List ℕ × ℕ)) (synchronized : Bool) (asked got count : ℕ)
    → TakesForWrite d b j content synchronized (TookStale asked got count) → count ≡ d.repeats + 1
stale_write d b j (Some x) synchronized asked got count takes = absurd (cc takes)
stale_write d b j None true asked got count takes = takes.2
stale_write d b j None false asked got count takes = absurd (cc takes)

stale_job : (d : BlockDesc) (b : BlockState) (j : Job) (kind : JobKind) (asked got count : ℕ) → TakesBy d b j kind (TookStale asked got count) → count ≡ d.repeats + 1
stale_job d b j WriteJob asked got count takes = stale_write d b j j.content _ asked got count takes
stale_job d b j ReadJob asked got count takes = absurd (cc takes)
stale_job d b j RestoreJob asked got count takes = absurd (cc takes)
stale_job d b j EraseJob asked got count takes = absurd (cc takes)
stale_job d b j InvalidateJob asked got count takes = absurd (cc takes)
stale_job d b j ReadAllJob asked got count takes = absurd (cc takes)
stale_job d b j WriteAllJob asked got count takes = absurd (cc takes)

stale_pick : (c : Configuration) (s : State) (j : Job) (block : ℕ) (kind : JobKind) (asked got count : ℕ) → IsPick c s j block kind (TookStale asked got count) → count ≡ copy_tries c block
unfolding copy_tries
stale_pick c s j block kind asked got count pick =
    subst (λ (b : ℕ). count ≡ (desc_of c b).repeats + 1) (sym pick.same_block) (stale_job (desc_of c (job_block j)) (block_at s (job_block j)) j (kind_of j) asked got count pick.takes)

stale_next : (c : Configuration) (s : State) (block : ℕ) (kind : JobKind) (asked got count : ℕ) (n : Next) → MayPick c s block kind (TookStale asked got count) n → count ≡ copy_tries c block
stale_next c s block kind asked got count (PickJob j) pick = stale_pick c s j block kind asked got count pick
stale_next c s block kind asked got count (PickMember sw id) pick = stale_pick c s (member_job c sw id) block kind asked got count pick
stale_next c s block kind asked got count (BeginSweep sw) pick = absurd (cc pick.takes_nothing)
stale_next c s block kind asked got count (PostMember sw id) pick = absurd pick
stale_next c s block kind asked got count (EndSweep sw) pick = absurd pick
stale_next c s block kind asked got count Nothing pick = absurd pick

counts_tries : (c : Configuration) (s : State) (block : ℕ) (kind : JobKind) (t : Taken) (ops : ℕ) → MayPick c s block kind t (next_of c s) → CountsTries (copy_tries c) (Pick block kind t ops)
counts_tries c s block kind (TookStale asked got count) ops pick = stale_next c s block kind asked got count (next_of c s) pick
counts_tries c s block kind TookNothing ops pick = tt
counts_tries c s block kind (TookContent bytes store) ops pick = tt
counts_tries c s block kind (TookRefused count) ops pick = tt

entries_printed : (c : Configuration) (cap : ℕ) (s : State) (es : List Entry) → IsLegalFrom c cap s es → AreValues es → ArePrinted (copy_tries c) es
entries_printed c cap s [] legal values = tt
entries_printed c cap s (Ask caller r reply ∷ es) legal values =
    (record { value = values.0; no_store = no_store c caller r reply legal.0.store; each_try = tt }, entries_printed c cap (step c s (Ask caller r reply)) es legal.1 values.1)
entries_printed c cap s (Pick block kind t ops ∷ es) legal values =
    (record { value = values.0; no_store = tt; each_try = counts_tries c s block kind t ops legal.0.1 }, entries_printed c cap (step c s (Pick block kind t ops)) es legal.1 values.1)
entries_printed c cap s (Wrote i mark ops ∷ es) legal values =
    (record { value = values.0; no_store = tt; each_try = tt }, entries_printed c cap (step c s (Wrote i mark ops)) es legal.1 values.1)
entries_printed c cap s (Post block r given refused ops ∷ es) legal values =
    (record { value = values.0; no_store = tt; each_try = tt }, entries_printed c cap (step c s (Post block r given refused ops)) es legal.1 values.1)
entries_printed c cap s (Off ops ∷ es) legal values =
    (record { value = values.0; no_store = tt; each_try = tt }, entries_printed c cap (step c s (Off ops)) es legal.1 values.1)
entries_printed c cap s (Found marks ops ∷ es) legal values =
    (record { value = values.0; no_store = tt; each_try = tt }, entries_printed c cap (step c s (Found marks ops)) es legal.1 values.1)

pub texts_tell_legal_histories : TextsTellLegalHistories
texts_tell_legal_histories c cap a b s t legal_a legal_b values_a values_b begins_s begins_t same =
    texts_tell_histories (copy_tries c) a b s t (entries_printed c cap at_first a legal_a values_a) (entries_printed c cap at_first b legal_b values_b) begins_s begins_t same
