-- The steps of a log.
use Rattle.std.specs.Prelude.{◌==◌, nat_lt, if◌then◌else◌}
use Rattle.std.proofs.Common.{◌≡◌, inl, inr, ◌<◌, ◌≤◌, ℕ, zero, suc, ◌+◌, Bool, true, false, List, [], ◌∷◌, ◌++◌, refl, ◌∙◌, subst, arith}
use Rattle.std.proofs.lemmas.Bool.Decides.{nat_tests}
use Rattle.nv_base.specs.declared.instance.DeviceNumber.{DeviceNumber}
use Rattle.fee_format.specs.declared.rec_head.RecHead.{RecHead}
use Rattle.fee_format.specs.Pages.{gate_page}
use Rattle.fee_format.specs.RecordPages.{record_page}
use Rattle.fee_image.specs.Append.{Staged, Touches, whole}
use Rattle.fee_image.specs.Bank.{Bank, page_of}
use Rattle.fee_image.specs.RecordList.{pages_of_head, IsTailBlank}
use Rattle.fee_image.specs.LogLaws.{FailedStepsHold, DoneStepsHold, NextIsFresh, IsFresh, GivenUpHolds}
use Rattle.fee_image.specs.Log.{Tail, Open, Writes, Owes, Closed, Log, IsOpen, IsWriting, IsOwing, HasTail, HoldsLog}
use Rattle.fee_image.specs.May.{May, Shows, settling}
use Rattle.fee_image.specs.Places.{ArePlaced, noted}
use Rattle.fee_image.specs.Step.{IsDue, done_of, bytes_of_tail, is_last, log_behind, done_with, may_with, failed_with, given_up_with}
use Rattle.fee_image.proofs.Marks.{walk_last, untouched, cut_shows, early_shows, committed_shows}
use Rattle.fee_image.proofs.Placed.{placed_stay, placed_note}
use Rattle.fee_image.proofs.Appends.{appends_go_on, appends_leave_one_more, whole_is_last, stops_behind}
use Rattle.fee_image.proofs.Records.{logs_compute}

lt_of : (m n : ℕ) → nat_lt m n ≡ false → n ≤ m
lt_of m n is = grind (arith, nat_tests)

eq_of : (m n : ℕ) → (m == n) ≡ true → m ≡ n
eq_of m n is = grind (arith, nat_tests)

ne_of : (m n : ℕ) → (m == n) ≡ false → m ≡ n → ⊥
ne_of m n is e = absurd (grind (arith, nat_tests))

module _ (b : Bank) (numbers : List (DeviceNumber × ℕ)) (big : 16 ≤ b.page) where
  -- a page behind the log's end leaves the places
  placed_on : (old new : List ℕ) (may : May) (log : Log) (k later : ℕ) → HoldsLog b numbers old may log → Touches b (log.end + k) old new → log.end ≤ later → ArePlaced b new may later numbers log.places
  placed_on old new may log k later holds touches le =
      placed_stay b old new b.at log.end (omega arith) (λ q low lt. touches q (omega (arith, holds.high)) (λ e. absurd (omega arith))) may later numbers log.places le holds.placed

  -- A RECORD IN WORK
  module _ (old new : List ℕ) (may : May) (log : Log) (h : RecHead) (body : List ℕ) (k : ℕ) (holds : HoldsLog b numbers old may log) (w : IsWriting b old may log.end h body k) (touches : Touches b (log.end + k) old new) where
    abbrev end : ℕ
    end = log.end

    abbrev next : ℕ
    next = log.end + pages_of_head b.page h

    shows : Shows b new may
    shows = cut_shows b old w.records end h body k big w.staged w.left new may holds.shows w.commit touches

    stay : (later : ℕ) → end ≤ later → ArePlaced b new may later numbers log.places
    stay later le = placed_on old new may log k later holds touches le

    behind : IsTailBlank b new next
    behind q above inside = touches q inside (λ e. absurd (omega (arith, w.left))) ∙ w.staged.blank q (omega (arith, w.left)) inside

    pub closes : HoldsLog b numbers new may (record log { tail = Closed })
    closes = record { low = holds.low; high = holds.high; shows = shows; tail = tt; placed = stay end (omega arith) }

    pub goes_behind : 2 ≤ k → HoldsLog b numbers new may (log_behind b.page log h)
    goes_behind late = elim (appends_leave_one_more b old new w.records end h body k big w.staged w.left touches) [
      | inl none ↦ absurd (omega (arith, none.0))
      | inr more ↦ record {
        low = omega (arith, holds.low);
        high = w.staged.room;
        shows = shows;
        tail = record { is_end = ((logs_compute b new (w.records ++ more.last ∷ []) next).0 more.log).1; blank = behind };
        placed = stay next (omega arith);
      }
    ]

    module _ (is : page_of b new (end + k) ≡ record_page b.page h body k) where
      staged : Staged b new w.records end h body (k + 1)
      staged = appends_go_on b old new w.records end h body k w.staged w.left touches is

      more : k + 1 < pages_of_head b.page h → HoldsLog b numbers new may (record log { tail = Writes h body (k + 1) })
      more left = record {
        low = holds.low;
        high = holds.high;
        shows = shows;
        tail = record { records = w.records; staged = staged; left = left; commit = w.commit };
        placed = stay end (omega arith);
      }

      commits : k + 1 ≡ pages_of_head b.page h → HoldsLog b numbers new (settling may h body) (record (log_behind b.page log h) { places = noted numbers log.places end h })
      commits all =
          let full = subst (Staged b new w.records end h body) all staged in
          let at = whole_is_last b new w.records end h body big full in
          record {
            low = omega (arith, holds.low);
            high = w.staged.room;
            shows = committed_shows b old w.records end h body k big w.staged w.left new may holds.shows at;
            tail = record { is_end = ((logs_compute b new (w.records ++ whole end h body ∷ []) next).0 at).1; blank = behind };
            placed = placed_note b new may end (whole end h body) numbers log.places (omega arith) holds.low (walk_last b new w.records 2 end next (whole end h body) at.walk staged.front) refl (stay end (omega arith));
          }

      pick : (c : Bool) → (c ≡ true → k + 1 ≡ pages_of_head b.page h) → (c ≡ false → k + 1 < pages_of_head b.page h)
          → HoldsLog b numbers new (if c then settling may h body else may) (if c then record (log_behind b.page log h) { places = noted numbers log.places end h } else record log { tail = Writes h body (k + 1) })
      pick true all some = commits (all refl)
      pick false all some = more (some refl)

      pub done : HoldsLog b numbers new (if is_last b.page h k then settling may h body else may) (done_with b.page numbers log (Writes h body k))
      done = pick (is_last b.page h k) (λ all. eq_of (k + 1) (pages_of_head b.page h) all) (λ some. (let differs = ne_of (k + 1) (pages_of_head b.page h) some in let left : k < pages_of_head b.page h = w.left in omega (arith, left, differs)))

    pick_failed : (c : Bool) → (c ≡ false → 2 ≤ k) → HoldsLog b numbers new may (if c then record log { tail = Closed } else log_behind b.page log h)
    pick_failed true late = closes
    pick_failed false late = goes_behind (late refl)

    pub failed : HoldsLog b numbers new may (failed_with b.page log (Writes h body k))
    failed = pick_failed (nat_lt k 2) (lt_of k 2)

  -- AN OWED GATE
  module _ (old new : List ℕ) (may : May) (log : Log) (h : RecHead) (holds : HoldsLog b numbers old may log) (o : IsOwing b old log.end h) (touches : Touches b (log.end + 1) old new) where
    left : 1 + 1 < pages_of_head b.page h
    left = omega arith

    shows_owed : Shows b new may
    shows_owed = early_shows b old o.records log.end h o.body 1 big o.staged (omega arith) new may holds.shows left touches

    pub owed_closes : HoldsLog b numbers new may (record log { tail = Closed })
    owed_closes = record { low = holds.low; high = holds.high; shows = shows_owed; tail = tt; placed = placed_on old new may log 1 log.end holds touches (omega arith) }

    pub pays : page_of b new (log.end + 1) ≡ gate_page b.page → HoldsLog b numbers new may (log_behind b.page log h)
    pays is =
        let two = appends_go_on b old new o.records log.end h o.body 1 o.staged (omega arith) touches is in
        elim (appends_leave_one_more b new new o.records log.end h o.body 2 big two left (untouched b new (log.end + 2))) [
          | inl none ↦ absurd (omega (arith, none.0))
          | inr more ↦ record {
            low = omega (arith, holds.low);
            high = o.staged.room;
            shows = shows_owed;
            tail = record { is_end = ((logs_compute b new (o.records ++ more.last ∷ []) (log.end + pages_of_head b.page h)).0 more.log).1; blank = λ q above inside. two.blank q (omega arith) inside };
            placed = placed_on old new may log 1 (log.end + pages_of_head b.page h) holds touches (omega arith);
          }
        ]

  -- BY THE TAIL
  by_failed : (old new : List ℕ) (may : May) (log : Log) (tail : Tail) → HoldsLog b numbers old may log → HasTail b old may log.end tail → IsDue tail → Touches b (log.end + done_of tail) old new → HoldsLog b numbers new may (failed_with b.page log tail)
  by_failed old new may log Open holds at due touches = absurd due
  by_failed old new may log (Writes h body k) holds at due touches = failed old new may log h body k holds at touches
  by_failed old new may log (Owes h) holds at due touches = owed_closes old new may log h holds at touches
  by_failed old new may log Closed holds at due touches = absurd due

  by_done : (old new : List ℕ) (may : May) (log : Log) (tail : Tail) → HoldsLog b numbers old may log → HasTail b old may log.end tail → IsDue tail → Touches b (log.end + done_of tail) old new → page_of b new (log.end + done_of tail) ≡ bytes_of_tail b.page tail
      → HoldsLog b numbers new (may_with b.page may tail) (done_with b.page numbers log tail)
  by_done old new may log Open holds at due touches is = absurd due
  by_done old new may log (Writes h body k) holds at due touches is = done old new may log h body k holds at touches is
  by_done old new may log (Owes h) holds at due touches is = pays old new may log h holds at touches is
  by_done old new may log Closed holds at due touches is = absurd due

  -- GIVEN UP
  with_tail : (bytes : List ℕ) (may : May) (log : Log) (tail : Tail) → HoldsLog b numbers bytes may log → HasTail b bytes may log.end tail → HoldsLog b numbers bytes may (record log { tail = tail })
  with_tail bytes may log tail holds at = record { low = holds.low; high = holds.high; shows = holds.shows; tail = at; placed = holds.placed }

  none_stands : (bytes : List ℕ) (may : May) (log : Log) (h : RecHead) (body : List ℕ) → IsWriting b bytes may log.end h body 0 → IsOpen b bytes log.end
  none_stands bytes may log h body w = record {
    is_end = ((logs_compute b bytes w.records log.end).0 (record { walk = w.staged.front; stop = stops_behind b bytes log.end big (λ inside. w.staged.blank (log.end + 1) (omega arith) inside) })).1;
    blank = λ q above inside. w.staged.blank q (omega arith) inside;
  }

  by_given_up : (bytes : List ℕ) (may : May) (log : Log) (tail : Tail) → HoldsLog b numbers bytes may log → log.tail ≡ tail → HasTail b bytes may log.end tail → HoldsLog b numbers bytes may (given_up_with b.page log tail)
  by_given_up bytes may log Open holds is at = holds
  by_given_up bytes may log (Writes h body zero) holds is w = with_tail bytes may log Open holds (none_stands bytes may log h body w)
  by_given_up bytes may log (Writes h body (suc zero)) holds is w = with_tail bytes may log (Owes h) holds (record { records = w.records; body = body; staged = w.staged })
  by_given_up bytes may log (Writes h body (suc (suc k))) holds is w = goes_behind bytes bytes may log h body (suc (suc k)) holds w (untouched b bytes (log.end + suc (suc k))) (omega arith)
  by_given_up bytes may log (Owes h) holds is at = holds
  by_given_up bytes may log Closed holds is at = holds

pub failed_steps_hold : FailedStepsHold
failed_steps_hold b numbers old new may log big holds due touches = by_failed b numbers big old new may log log.tail holds holds.tail due touches

pub done_steps_hold : DoneStepsHold
done_steps_hold b numbers old new may log big holds due touches is = by_done b numbers big old new may log log.tail holds holds.tail due touches is

pub given_up_holds : GivenUpHolds
given_up_holds b numbers bytes may log big holds = by_given_up b numbers big bytes may log log.tail holds refl holds.tail

fresh_by : (b : Bank) (bytes : List ℕ) (may : May) (end : ℕ) (tail : Tail) → 2 ≤ end → HasTail b bytes may end tail → IsDue tail → IsFresh b bytes (end + done_of tail)
fresh_by b bytes may end Open low at due = absurd due
fresh_by b bytes may end (Writes h body k) low w due =
    let high : end + k < b.pages = omega (arith, w.left, w.staged.room) in
    record { low = omega arith; high = high; blank = w.staged.blank (end + k) (omega arith) high }
fresh_by b bytes may end (Owes h) low o due =
    let high : end + 1 < b.pages = omega (arith, o.staged.room) in
    record { low = omega arith; high = high; blank = o.staged.blank (end + 1) (omega arith) high }
fresh_by b bytes may end Closed low at due = absurd due

pub next_is_fresh : NextIsFresh
next_is_fresh b numbers bytes may log holds due = fresh_by b bytes may log.end log.tail holds.low holds.tail due
