-- Requests behind the entries that the driver knows.
use Rattle.std.specs.Prelude.{IfSome}
use Rattle.std.proofs.Common.{◌≡◌, ℕ, Bool, true, false, List, [], ◌∷◌, Option, Some, None, refl, sym, ap, ◌∙◌, subst, append_assoc}
use Rattle.std.proofs.lemmas.List.{append-nil}
use Rattle.nvm_core.specs.memif.Told.{DeviceTold}
use Rattle.nvm_core.specs.memif.Clock.{Clock}
use Rattle.nvm_core.specs.block_machine.Words.{Entry, Ask, Request, SetIndex, Reply, Accepted, JobKind, Configuration}
use Rattle.nvm_core.specs.block_machine.State.{State, BlockState, Job}
use Rattle.nvm_core.specs.block_machine.Blocks.{job_block, job_kind, status_of, is_pending}
use Rattle.nvm_core.specs.block_machine.Reply.{reply_of}
use Rattle.nvm_core.specs.block_machine.Legal.{IsAllowed}
use Rattle.nvm_core.specs.block_machine.Steps.{step, changed, accepted_by, asked}
use Rattle.nvm_core.specs.nv_desk.Desk.{DeskState, state_of}
use Rattle.nvm_core.specs.job_progress.Hand.{HandState}
use Rattle.nvm_core.specs.job_progress.JobInHand.{IsPaired}
use Rattle.nvm_core.specs.nvm_laws.Ties.{IsTied}
use Rattle.nvm_core.proofs.block_laws.HistoryLaws.{histories_step}
use Rattle.nvm_core.proofs.Asking.{asks_keep_hands, pending_stay}
use Rattle.nvm_core.proofs.LawAsking.{asks_keep}
use Rattle.nvm_core.proofs.Keeping.{stays_more, stays_still}
use Rattle.nvm_shared.specs.Written.{AreWritten}
use Rattle.nvm_shared.specs.Behind.{AreAsks, AsksLeavePower, HandIsPending, StandsBehind, AsksStandBehind, with_more}

-- WHAT A REQUEST LEAVES
pub record LeavesRest (s t : State) : Type 0 where
  pub started : t.started ≡ s.started
  pub off : t.off ≡ s.off
  pub hand : t.hand ≡ s.hand

changed_rest : (c : Configuration) (s : State) (r : Request) → LeavesRest s (changed c s r)
changed_rest c s (SetIndex block index) = record { started = refl; off = refl; hand = refl }
changed_rest c s r = record { started = refl; off = refl; hand = refl }

accepted_rest : (c : Configuration) (s : State) (r : Request) (kind : Option JobKind) → LeavesRest s (accepted_by c s r kind)
accepted_rest c s r (Some kind) = record { started = refl; off = refl; hand = refl }
accepted_rest c s r None = changed_rest c s r

asked_rest : (c : Configuration) (s : State) (r : Request) (reply : Reply) → LeavesRest s (asked c s r reply)
asked_rest c s r Accepted = accepted_rest c s r (job_kind r)
asked_rest c s r reply = record { started = refl; off = refl; hand = refl }

-- ONE REQUEST
module _ (d : DeviceTold) (clock : Clock) where
  pending_on : (c : Configuration) (cap : ℕ) (s : State) (caller : ℕ) (r : Request) (reply : Reply) → reply ≡ reply_of c cap s r → (o : Option Job)
      → IfSome o (λ j. is_pending (status_of s (job_block j)) ≡ true) → IfSome o (λ j. is_pending (status_of (step c s (Ask caller r reply)) (job_block j)) ≡ true)
  pending_on c cap s caller r reply is None pending = tt
  pending_on c cap s caller r reply is (Some j) pending =
      ap (λ (b : BlockState). is_pending b.status) (pending_stay c cap s caller r reply (job_block j) is pending) ∙ pending

  one : (desk : DeskState) (hand : Option HandState) (caller : ℕ) (r : Request) (reply : Reply) → IsAllowed desk.config desk.cap (state_of desk) (Ask caller r reply)
      → HandIsPending (state_of desk) → IsTied desk hand d → StandsBehind desk (with_more desk (Ask caller r reply ∷ [])) hand d clock
  one desk hand caller r reply allowed pending tied =
      let c = desk.config in
      let s = state_of desk in
      let e = Ask caller r reply in
      let new = with_more desk (e ∷ []) in
      let state : state_of new ≡ step c s e = histories_step c desk.entries e in
      let rest = asked_rest c s r reply in
      let held : (step c s e).hand ≡ s.hand = rest.hand in
      let stays = pending_on c desk.cap s caller r reply allowed.replies s.hand pending in record {
        tied = record {
          paired = subst (λ (t : State). IsPaired c t hand d) (sym state) (asks_keep_hands c desk.cap s hand d caller r reply allowed.replies pending tied.paired);
          up = tied.up;
          started = ap (λ (t : State). t.started) state ∙ rest.started ∙ tied.started;
          later = rw (ap (λ (t : State). t.ops) state) tied.later;
          off = λ off. tied.off (sym (ap (λ (t : State). t.off) state ∙ rest.off) ∙ off);
          numbers = tied.numbers;
        };
        pending = subst (λ (t : State). HandIsPending t) (sym state)
            (subst (λ (o : Option Job). IfSome o (λ j. is_pending (status_of (step c s e) (job_block j)) ≡ true)) (sym held) stays);
        power = ap (λ (t : State). t.off) state ∙ rest.off;
        kept = asks_keep d clock desk new hand caller r reply refl allowed;
      }

  -- ANY NUMBER
  more_by : (desk : DeskState) (e : Entry) (es : List Entry) → with_more (with_more desk (e ∷ [])) es ≡ with_more desk (e ∷ es)
  more_by desk e es = ap (λ (h : List Entry). record desk { entries = h }) (append_assoc desk.entries (e ∷ []) es)

  none_by : (desk : DeskState) → desk ≡ with_more desk []
  none_by desk = ap (λ (h : List Entry). record desk { entries = h }) (sym (append-nil desk.entries))

  many : (tells : Bool) (desk : DeskState) (hand : Option HandState) (more : List Entry) → AreAsks more → AreWritten tells desk.config desk.cap (state_of desk) more
      → HandIsPending (state_of desk) → IsTied desk hand d → StandsBehind desk (with_more desk more) hand d clock
  many tells desk hand [] are written pending tied = subst (λ (x : DeskState). StandsBehind desk x hand d clock) (none_by desk)
      (record { tied = tied; pending = pending; power = refl; kept = stays_still desk hand d clock })
  many tells desk hand (Ask caller r reply ∷ es) are written pending tied =
      let first = one desk hand caller r reply written.0 pending tied in
      let next = with_more desk (Ask caller r reply ∷ []) in
      let behind = many tells next hand es are.1
      (subst (λ (s : State). AreWritten tells desk.config desk.cap s es) (sym (histories_step desk.config desk.entries (Ask caller r reply))) written.1) first.pending first.tied in
      subst (λ (x : DeskState). StandsBehind desk x hand d clock) (more_by desk (Ask caller r reply) es) (record {
        tied = behind.tied;
        pending = behind.pending;
        power = behind.power ∙ first.power;
        kept = stays_more _ _ _ _ _ _ _ _ _ _ _ _ first.kept behind.kept;
      })
  many tells desk hand (e ∷ es) are written pending tied = let off : false ≡ true = are.0 in cc

pub asks_stand_behind : (d : DeviceTold) (clock : Clock) → AsksStandBehind d clock
asks_stand_behind d clock tells desk hand more are written pending tied = many d clock tells desk hand more are written pending tied

pub asks_leave_power : AsksLeavePower
asks_leave_power c s caller r reply = ((asked_rest c s r reply).started, (asked_rest c s r reply).off)
