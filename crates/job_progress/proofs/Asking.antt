-- Entries beside the job in hand.
use Rattle.std.specs.List.{Contains}
use Rattle.std.proofs.Common.{◌≡◌, ◌≢◌, ◌⊎◌, ℕ, true, false, Option, Some, None, refl, sym, ap, ◌∙◌, subst, inl, inr, arith}
use Rattle.std.proofs.lemmas.Bool.{false≢true}
use Rattle.std.proofs.lemmas.Bool.Decides.{eqb_tells}
use Rattle.std.proofs.Math.Dec.{eqb}
use Rattle.memif.specs.Told.{DeviceTold, is_open}
use Rattle.block_machine.specs.Words.{Request, Read, Write, Restore, Erase, Invalidate, SetIndex, GetIndex, SetProtection, SetLock, SetRam, PutRam, Status, ReadAll, WriteAll, CancelWriteAll, Reply, Accepted, Refused, StatusIs, IndexIs, Refusal, BlockPending, MultiPending, Ask, Off, Configuration}
use Rattle.block_machine.specs.State.{State, Job}
use Rattle.block_machine.specs.Blocks.{block_at, status_of, is_pending, asked_block, job_block}
use Rattle.block_machine.specs.Reply.{reply_of, tested, holds}
use Rattle.block_machine.specs.Steps.{step as stepped, asked, accepted}
use Rattle.job_programs.specs.Program.{Program}
use Rattle.block_laws.proofs.HistoryLaws.{asks_are_local}
use Rattle.block_laws.proofs.NextLaws.{accepted_pass}
use Rattle.job_progress.specs.Hand.{HandState}
use Rattle.job_progress.specs.JobInHand.{IsInHand, IsPaired}
use Rattle.job_progress.specs.Asks.{AsksKeepHands, PendingStay, OffsKeepHands, DevicesStandIn}
use Rattle.job_progress.proofs.Ended.{same_at}

-- THE STATE
-- another state with this job in hand, whose block is as it was
module _ (c : Configuration) (s t : State) (same : t.hand ≡ s.hand) (blocks : (j : Job) → s.hand ≡ Some j → block_at t (job_block j) ≡ block_at s (job_block j)) where
  in_hand : (h : HandState) (d : DeviceTold) → IsInHand c s h d → IsInHand c t h d
  in_hand h d is = record {
    job = is.job;
    hand = same ∙ is.hand;
    working = record {
      is = is.working.is ∙ ap (λ (q : Program). record q { done = h.program.done; failures = h.program.failures }) (sym (same_at c s t is.job (blocks is.job is.hand)));
      tries = is.working.tries;
      needed = is.working.needed;
      written = is.working.written;
      content = is.working.content;
    };
    step = is.step;
    at = is.at;
    given = is.given;
  }

  pub paired : (hand : Option HandState) (d : DeviceTold) → IsPaired c s hand d → IsPaired c t hand d
  paired None d is = (same ∙ is.0, is.1)
  paired (Some h) d is = in_hand h d is

pub offs_keep_hands : OffsKeepHands
offs_keep_hands c s hand d ops is = paired c s (stepped c s (Off ops)) refl (λ j held. refl) hand d is

pub devices_stand_in : DevicesStandIn
devices_stand_in c s None old new same is = (is.0, ap is_open same ∙ is.1)
devices_stand_in c s (Some h) old new same is = record {
  job = is.job;
  hand = is.hand;
  working = is.working;
  step = is.step;
  at = rw same is.at;
  given = rw same is.given;
}

-- REQUESTS
pub asked_hand : (c : Configuration) (s : State) (r : Request) (reply : Reply) → (asked c s r reply).hand ≡ s.hand
asked_hand c s (Read block ram) Accepted = refl
asked_hand c s (Write block content store) Accepted = refl
asked_hand c s (Restore block ram) Accepted = refl
asked_hand c s (Erase block) Accepted = refl
asked_hand c s (Invalidate block) Accepted = refl
asked_hand c s (SetIndex block index) Accepted = refl
asked_hand c s (GetIndex block) Accepted = refl
asked_hand c s (SetProtection block on) Accepted = refl
asked_hand c s (SetLock block on) Accepted = refl
asked_hand c s (SetRam block on) Accepted = refl
asked_hand c s (PutRam block content) Accepted = refl
asked_hand c s (Status block) Accepted = refl
asked_hand c s ReadAll Accepted = refl
asked_hand c s WriteAll Accepted = refl
asked_hand c s CancelWriteAll Accepted = refl
asked_hand c s r (Refused why) = refl
asked_hand c s r (StatusIs status) = refl
asked_hand c s r (IndexIs index) = refl

-- a request of a PENDING block changes nothing of it
module _ (c : Configuration) (most : ℕ) (s : State) where
  refuses : (r : Request) (x : Refusal) → reply_of c most s r ≡ Accepted → Contains (tested r) x → holds c most s x r ≡ true → ⊥
  refuses r x taken test held = false≢true (sym (accepted_pass c most s r x taken test) ∙ held)

  own_by : (r : Request) → reply_of c most s r ≡ Accepted → is_pending (status_of s (asked_block r)) ≡ true
      → block_at (accepted c s r) (asked_block r) ≡ block_at s (asked_block r)
  own_by (Read block true) taken pending = absurd (refuses (Read block true) BlockPending taken (4, omega arith, refl) pending)
  own_by (Read block false) taken pending = absurd (refuses (Read block false) BlockPending taken (3, omega arith, refl) pending)
  own_by (Write block (Some content) store) taken pending = absurd (refuses (Write block (Some content) store) BlockPending taken (5, omega arith, refl) pending)
  own_by (Write block None store) taken pending = absurd (refuses (Write block None store) BlockPending taken (5, omega arith, refl) pending)
  own_by (Restore block true) taken pending = absurd (refuses (Restore block true) BlockPending taken (6, omega arith, refl) pending)
  own_by (Restore block false) taken pending = absurd (refuses (Restore block false) BlockPending taken (5, omega arith, refl) pending)
  own_by (Erase block) taken pending = absurd (refuses (Erase block) BlockPending taken (5, omega arith, refl) pending)
  own_by (Invalidate block) taken pending = absurd (refuses (Invalidate block) BlockPending taken (4, omega arith, refl) pending)
  own_by (SetIndex block index) taken pending = absurd (refuses (SetIndex block index) BlockPending taken (5, omega arith, refl) pending)
  own_by (GetIndex block) taken pending = refl
  own_by (SetProtection block on) taken pending = absurd (refuses (SetProtection block on) BlockPending taken (5, omega arith, refl) pending)
  own_by (SetLock block on) taken pending = absurd (refuses (SetLock block on) BlockPending taken (4, omega arith, refl) pending)
  own_by (SetRam block on) taken pending = absurd (refuses (SetRam block on) BlockPending taken (5, omega arith, refl) pending)
  own_by (PutRam block content) taken pending = absurd (refuses (PutRam block content) BlockPending taken (6, omega arith, refl) pending)
  own_by (Status block) taken pending = refl
  own_by ReadAll taken pending = absurd (refuses ReadAll MultiPending taken (1, omega arith, refl) pending)
  own_by WriteAll taken pending = absurd (refuses WriteAll MultiPending taken (1, omega arith, refl) pending)
  own_by CancelWriteAll taken pending = refl

  own_reply : (caller : ℕ) (r : Request) (reply : Reply) → reply ≡ reply_of c most s r → is_pending (status_of s (asked_block r)) ≡ true
      → block_at (stepped c s (Ask caller r reply)) (asked_block r) ≡ block_at s (asked_block r)
  own_reply caller r Accepted is pending = own_by r (sym is) pending
  own_reply caller r (Refused why) is pending = refl
  own_reply caller r (StatusIs status) is pending = refl
  own_reply caller r (IndexIs index) is pending = refl

pub pending_stay : PendingStay
pending_stay c most s caller r reply id is pending = by (eqb_tells id (asked_block r))
  where
    by : ((eqb id (asked_block r) ≡ true) × (id ≡ asked_block r)) ⊎ ((eqb id (asked_block r) ≡ false) × (id ≢ asked_block r)) → block_at (stepped c s (Ask caller r reply)) id ≡ block_at s id
    by (inl (_, same)) = subst (λ (b : ℕ). block_at (stepped c s (Ask caller r reply)) b ≡ block_at s b) (sym same)
        (own_reply c most s caller r reply is (subst (λ (b : ℕ). is_pending (status_of s b) ≡ true) same pending))
    by (inr (_, other)) = (asks_are_local c s caller r reply).1 id other

pub asks_keep_hands : AsksKeepHands
asks_keep_hands c most s hand d caller r reply is pending pairs =
    paired c s (stepped c s (Ask caller r reply)) (asked_hand c s r reply) blocks hand d pairs
  where
    blocks : (j : Job) → s.hand ≡ Some j → block_at (stepped c s (Ask caller r reply)) (job_block j) ≡ block_at s (job_block j)
    blocks j held = pending_stay c most s caller r reply (job_block j) is (rw held at pending)
