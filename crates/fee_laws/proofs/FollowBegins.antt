-- A record or a switch begins, and a record is given up: in memory alone.
use Rattle.std.specs.Prelude.{IfSome, IsTrue}
use Rattle.std.proofs.Common.{false, ◌≡◌, inl, inr, ◌<◌, ◌≤◌, ℕ, Bool, List, length, Option, Some, None, refl, sym, ◌∙◌, subst, arith, ap}
use Rattle.nv_base.specs.Lengths.{place_of}
use Rattle.nv_base.specs.Pages.{record_pages_of}
use Rattle.fls_model.specs.Told.{Change}
use Rattle.fee_format.specs.declared.bank_head.BankHead.{BankHead}
use Rattle.fee_format.specs.declared.rec_head.RecHead.{RecHead}
use Rattle.fee_image.specs.Image.{Layout, active_of, BankStands}
use Rattle.fee_image.proofs.Banks.{active_computes, no_active_computes}
use Rattle.fee_switch_laws.specs.fee_log.Index.{with_flag, clear_flags}
use Rattle.fee_switch_laws.specs.fee_log.Laws.{HoldsState}
use Rattle.fee_switch_laws.specs.fee_log.Log.{LogState, IsLogState, IsFor, work_in, free_in, begun}
use Rattle.fee_switch_laws.specs.fee_log.Step.{given_up}
use Rattle.fee_switch_laws.proofs.Holds.{begins_hold, given_up_holds}
use Rattle.fee_switch_laws.specs.fee_switch.declared.active.ActiveBank.{ActiveBank}
use Rattle.fee_switch_laws.specs.fee_switch.Active.{active_shown}
use Rattle.fee_course.specs.declared.course.Course.{Course}
use Rattle.fee_course.specs.declared.course.Course.TheVariants.{Erase}
use Rattle.fee_switch_laws.specs.fee_switch.Banks.{BanksState, append_begun, begun_again}
use Rattle.fee_switch_laws.specs.Shown.{layout_in}
use Rattle.fee_switch_laws.proofs.RoomAppends.{work_begun}
use Rattle.fee_switch_laws.proofs.RoomPages.{clear_flags_stay}
use Rattle.fee_laws.specs.Inside.{body_of}
use Rattle.fee_laws.specs.Follows.{anything, may_be_closed_beside, IsPlacedFor, ComesBehind, StandsFirst, FollowsBanks, FollowsLog, FollowsBytes}
use Rattle.fee_laws.proofs.FollowStates.{any_flags}
use Rattle.fee_laws.proofs.FollowSteps.{begun_open, given_closed}
use Rattle.fee_laws.proofs.FollowPlaces.{given_places}
use Rattle.fee_laws.proofs.FollowBanks.{closed_while, placed_while, placed_appended, with_log, appended, next_with_log, next_appended}

-- THE ACTIVE BANK
-- each of one
pub each : {A : Type 0} (o : Option A) (P Q : A → Type 0) → ((a : A) → o ≡ Some a → P a → Q a) → IfSome o P → IfSome o Q
each None P Q goes is = tt
each (Some a) P Q goes is = goes a refl is

-- A RECORD BEGINS
-- where one is active the log has room
pub record MayBeginIn (s : BanksState) (head : RecHead) (content : List ℕ) : Type 0 where
  pub idle : work_in s.log.tail ≡ None
  pub configured : IsFor s.log.numbers head
  pub room : IfSome s.active (λ a. record_pages_of head.length s.log.geometry.page ≤ free_in s.log)
  pub size : length (body_of (Some head) content) ≡ head.length

placed_as : (c : Option Course) (s : LogState) (head : RecHead) (xs : List Change) (bytes : List ℕ) → IsPlacedFor c s xs bytes → IsPlacedFor c (begun s head) xs bytes
placed_as None s head xs bytes placed = placed
placed_as (Some c) s head xs bytes placed = placed

pub log_begins : (c : Option Course) (s : LogState) (head : RecHead) (content bytes : List ℕ) (xs : List Change) → IsLogState s → work_in s.tail ≡ None → IsFor s.numbers head → record_pages_of head.length s.geometry.page ≤ free_in s
    → length (body_of (Some head) content) ≡ head.length → FollowsLog c s (body_of (work_in s.tail) content) xs bytes → (then : Option Course) → IsPlacedFor then (begun s head) xs bytes → FollowsLog then (begun s head) (body_of (work_in (begun s head).tail) content) xs bytes
log_begins c s head content bytes xs state idle configured room size follows then placed = record {
  holds = subst (λ (o : Option RecHead). HoldsState (begun s head) (body_of o content) bytes anything) (sym (work_begun s.tail head))
      (begins_hold s head (body_of (work_in s.tail) content) (body_of (Some head) content) bytes anything state follows.holds idle configured room size (λ number length fit. tt));
  closed = λ shut. (let wide = begun_open s.tail head in cc (shut, wide));
  placed = placed;
}

pub record_begins : (s : BanksState) (head : RecHead) (content bytes : List ℕ) (xs : List Change) → IsLogState s.log → MayBeginIn s head content → FollowsBytes s content xs bytes → FollowsBytes (append_begun s head) content xs bytes
record_begins s head content bytes xs state may follows =
    let then = append_begun s head in
    record {
      log = by_active s.active may.room follows.log;
      banks = with_log s then.log then.course then.course bytes (λ clear. ap (λ (fs : List Bool). with_flag s.log.numbers fs head.number.0 false) clear ∙ clear_flags_stay s.log.numbers head.number.0) (appended s (place_of s.log.numbers head.number.0) s.course bytes follows.banks);
      next = next_with_log s then.log then.course then.course xs bytes (next_appended s (place_of s.log.numbers head.number.0) s.course xs bytes follows.next);
    }
  where
    by_active : (o : Option ActiveBank) → IfSome o (λ a. record_pages_of head.length s.log.geometry.page ≤ free_in s.log)
        → IfSome o (λ a. FollowsLog s.course s.log (body_of (work_in s.log.tail) content) xs bytes) → IfSome o (λ a. FollowsLog (append_begun s head).course (begun s.log head) (body_of (work_in (begun s.log head).tail) content) xs bytes)
    by_active None room follows' = tt
    by_active (Some a) room follows' = log_begins s.course s.log head content bytes xs state may.idle may.configured room may.size follows' (append_begun s head).course
        (placed_as (append_begun s head).course s.log head xs bytes (placed_appended (place_of s.log.numbers head.number.0) s.course s.log xs bytes follows'.placed))

-- A RECORD IS GIVEN UP
given_may : (c : Option Course) (s : LogState) (xs : List Change) → may_be_closed_beside c s xs ≡ may_be_closed_beside c (given_up s) xs
given_may None s xs = refl
given_may (Some c) s xs = refl

log_given : (c : Option Course) (s : LogState) (content bytes : List ℕ) (xs : List Change) → IsLogState s → FollowsLog c s (body_of (work_in s.tail) content) xs bytes → FollowsLog c (given_up s) (body_of (work_in (given_up s).tail) content) xs bytes
log_given c s content bytes xs state follows = record {
  holds = given_up_holds s (body_of (work_in s.tail) content) (body_of (work_in (given_up s).tail) content) bytes anything state follows.holds;
  closed = λ shut. elim (follows.closed (given_closed s s.tail shut)) [ inl is ↦ inl is | inr failed ↦ inr (subst (λ (b : Bool). IsTrue b) (given_may c s xs) failed) ];
  placed = elim follows.placed [ inl failed ↦ inl (subst (λ (b : Bool). IsTrue b) (given_may c s xs) failed) | inr is ↦ inr (given_places s s.tail ∙ is) ];
}

pub record_given : (s : BanksState) (content bytes : List ℕ) (xs : List Change) → IsLogState s.log → FollowsBytes s content xs bytes → FollowsBytes (record s { log = given_up s.log }) content xs bytes
record_given s content bytes xs state follows = record {
  log = each s.active (λ a. FollowsLog s.course s.log (body_of (work_in s.log.tail) content) xs bytes) (λ a. FollowsLog s.course (given_up s.log) (body_of (work_in (given_up s.log).tail) content) xs bytes) (λ a at. log_given s.course s.log content bytes xs state) follows.log;
  banks = with_log s (given_up s.log) s.course s.course bytes (λ clear. clear) follows.banks;
  next = next_with_log s (given_up s.log) s.course s.course xs bytes follows.next;
}

-- FLAGS
-- they are none of what a log's bank holds
pub log_flagged : (c : Option Course) (then : Course) (s : LogState) (flags : List Bool) (body bytes : List ℕ) (xs : List Change) → FollowsLog c s body xs bytes → FollowsLog (Some then) (record s { flags = flags }) body xs bytes
log_flagged c then s flags body bytes xs follows = record {
  holds = any_flags s flags body bytes anything follows.holds;
  closed = λ shut. closed_while c then s xs _ (follows.closed shut);
  placed = placed_while c then s xs _ follows.placed;
}

pub active_flagged : (c : Option Course) (then : Course) (s : BanksState) (flags : List Bool) (body bytes : List ℕ) (xs : List Change) → IfSome s.active (λ a. FollowsLog c s.log body xs bytes) → IfSome s.active (λ a. FollowsLog (Some then) (record s.log { flags = flags }) body xs bytes)
active_flagged c then s flags body bytes xs follows = each s.active (λ a. FollowsLog c s.log body xs bytes) (λ a. FollowsLog (Some then) (record s.log { flags = flags }) body xs bytes) (λ a at. log_flagged c then s.log flags body bytes xs) follows

-- A SWITCH BEGINS
-- the active bank that is shown stands first
module _ (s : BanksState) (bytes : List ℕ) where
  abbrev l : Layout
  l = layout_in s

  stands_shown : (o : Option ActiveBank) → active_shown o ≡ active_of l bytes → IfSome o (λ a. BankStands l bytes a.bank a.head)
  stands_shown None shown = tt
  stands_shown (Some a) shown = ((active_computes l bytes a.bank a.head).1 (sym shown)).stands

  behind_shown : (o : Option ActiveBank) → active_shown o ≡ active_of l bytes → (j : ℕ) (other : BankHead) → j < s.banks → BankStands l bytes j other → ComesBehind o j other
  behind_shown None shown j other inside stands = (no_active_computes l bytes).1 (sym shown) j other inside stands
  behind_shown (Some a) shown j other inside stands = λ differs. ((active_computes l bytes a.bank a.head).1 (sym shown)).first j other inside differs stands

  first_shown : active_shown s.active ≡ active_of l bytes → StandsFirst s bytes
  first_shown shown = record { stands = stands_shown s.active shown; behind = λ j other inside differs stands. behind_shown s.active shown j other inside stands }

  -- whatever the target's log is
  pub switch_begins : (content : List ℕ) (xs : List Change) → s.course ≡ None → FollowsBytes s content xs bytes → FollowsBytes (begun_again s (Erase 0)) content xs bytes
  switch_begins content xs shut follows =
      let first = first_shown (subst (λ (c : Option Course). FollowsBanks s c bytes) shut follows.banks) in
      record {
        log = active_flagged s.course (Erase 0) s (clear_flags s.log.numbers) (body_of (work_in s.log.tail) content) bytes xs follows.log;
        banks = (record { stands = first.stands; behind = first.behind }, (λ q below inside. absurd (omega arith), refl));
        next = tt;
      }
