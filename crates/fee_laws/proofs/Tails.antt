-- The tail of a log behind a step of a record.
use Rattle.std.specs.Prelude.{nat_lt, take, IsSome}
use Rattle.std.proofs.Common.{◌≡◌, ◌+◌, ◌-◌, ℕ, Bool, true, false, List, [], Some, None, refl, sym, ap, ◌∙◌, arith}
use Rattle.std.proofs.lemmas.Bool.{cond_both}
use Rattle.fls_model.specs.declared.flash.FlashAnswer.TheVariants.{Done, Failed}
use Rattle.fee_format.specs.declared.rec_head.RecHead.{RecHead}
use Rattle.fee_image.specs.RecordList.{pages_of_head}
use Rattle.fee_image.specs.Log.{Log, Open as LogOpen, Closed as LogClosed, Writes as LogWrites}
use Rattle.fee_image.specs.Places.{noted}
use Rattle.fee_image.specs.Step.{log_begun, log_done, log_failed, is_last}
use Rattle.fee_switch_laws.specs.fee_log.declared.tail.Tail.{Tail}
use Rattle.fee_switch_laws.specs.fee_log.declared.tail.Tail.TheVariants.{Open, Writes, Owes, Closed}
use Rattle.fee_switch_laws.specs.fee_log.Log.{LogState, log_of, tail_without, with_log, work_in, free_in, pages_in, free_behind}
use Rattle.fee_switch_laws.specs.fee_log.Step.{after_step, commits}
use Rattle.fee_laws.specs.Inside.{body_of}

-- the log with another tail
abbrev pub tailed : LogState → Tail → LogState
tailed log t = record log { tail = t }

-- in memory, with the content that its record in work has
abbrev pub shown : LogState → List ℕ → Log
shown log content = log_of log (body_of (work_in log.tail) content)

-- A STEP FAILED
pub failed_shown : (log : LogState) (t : Tail) (content : List ℕ) → IsSome (work_in t) → shown (after_step (tailed log t) Failed) content ≡ log_failed log.geometry.page (shown (tailed log t) content)
failed_shown log Open content work = cc
failed_shown log (Writes h done) content work =
    let a : Log = record { end = log.end; tail = LogClosed; places = log.places } in
    let b : Log = record { end = log.end + pages_of_head log.geometry.page h; tail = LogOpen; places = log.places } in
    cond_both (nat_lt done 2) a b (λ (c : Log). log_of (with_log log c) (body_of (work_in (tail_without c.tail)) content) ≡ c) (λ e. refl) (λ e. refl)
failed_shown log (Owes owed None) content work = cc
failed_shown log (Owes owed (Some h)) content work = refl
failed_shown log Closed content work = cc

pub failed_idle : (log : LogState) (t : Tail) → IsSome (work_in t) → work_in (after_step (tailed log t) Failed).tail ≡ None
failed_idle log Open work = cc
failed_idle log (Writes h done) work =
    let a : Log = record { end = log.end; tail = LogClosed; places = log.places } in
    let b : Log = record { end = log.end + pages_of_head log.geometry.page h; tail = LogOpen; places = log.places } in
    cond_both (nat_lt done 2) a b (λ (c : Log). work_in (tail_without c.tail) ≡ None) (λ e. refl) (λ e. refl)
failed_idle log (Owes owed None) work = cc
failed_idle log (Owes owed (Some h)) work = refl
failed_idle log Closed work = cc

-- A PAGE IS DONE, AND THE RECORD GOES ON
pub record Pages (h : RecHead) (done : ℕ) (log : LogState) (content : List ℕ) : Type 0 where
  pub tail : (after_step (tailed log (Writes h done)) Done).tail ≡ Writes h (done + 1)
  pub shown_as : shown (after_step (tailed log (Writes h done)) Done) content ≡ log_done log.geometry.page log.numbers (shown (tailed log (Writes h done)) content)
  pub places : (after_step (tailed log (Writes h done)) Done).places ≡ log.places
  pub end : (after_step (tailed log (Writes h done)) Done).end ≡ log.end

pub page_goes_on : (log : LogState) (h : RecHead) (done : ℕ) (content : List ℕ) → is_last log.geometry.page h done ≡ false → Pages h done log content
page_goes_on log h done content goes =
    let body = take h.length content in
    let x : Log = record { end = log.end; tail = LogWrites h body done; places = log.places } in
    let none : Log = record { end = log.end; tail = LogWrites h [] done; places = log.places } in
    let is : log_done log.geometry.page log.numbers x ≡ record { end = log.end; tail = LogWrites h body (done + 1); places = log.places } = rw goes in
    let is_none : log_done log.geometry.page log.numbers none ≡ record { end = log.end; tail = LogWrites h [] (done + 1); places = log.places } = rw goes in
    record {
      tail = ap (λ (c : Log). tail_without c.tail) is_none;
      shown_as = ap (λ (c : Log). shown (with_log log c) content) is_none ∙ sym is;
      places = ap (λ (c : Log). c.places) is_none;
      end = ap (λ (c : Log). c.end) is_none;
    }

-- and is committed
pub record Commits (h : RecHead) (done : ℕ) (log : LogState) (content : List ℕ) : Type 0 where
  pub tail : (after_step (tailed log (Writes h done)) Done).tail ≡ Open
  pub shown_as : shown (after_step (tailed log (Writes h done)) Done) content ≡ log_done log.geometry.page log.numbers (shown (tailed log (Writes h done)) content)
  pub places : (after_step (tailed log (Writes h done)) Done).places ≡ noted log.numbers log.places log.end h
  pub end : (after_step (tailed log (Writes h done)) Done).end ≡ log.end + pages_of_head log.geometry.page h

pub page_commits : (log : LogState) (h : RecHead) (done : ℕ) (content : List ℕ) → is_last log.geometry.page h done ≡ true → Commits h done log content
page_commits log h done content last =
    let body = take h.length content in
    let x : Log = record { end = log.end; tail = LogWrites h body done; places = log.places } in
    let none : Log = record { end = log.end; tail = LogWrites h [] done; places = log.places } in
    let behind : Log = record { end = log.end + pages_of_head log.geometry.page h; tail = LogOpen; places = noted log.numbers log.places log.end h } in
    let is : log_done log.geometry.page log.numbers x ≡ behind = rw last in
    let is_none : log_done log.geometry.page log.numbers none ≡ behind = rw last in
    record {
      tail = ap (λ (c : Log). tail_without c.tail) is_none;
      shown_as = ap (λ (c : Log). shown (with_log log c) content) is_none ∙ sym is;
      places = ap (λ (c : Log). c.places) is_none;
      end = ap (λ (c : Log). c.end) is_none;
    }

-- behind an owed gate
pub owed_shown : (log : LogState) (owed h : RecHead) (content : List ℕ)
    → shown (after_step (tailed log (Owes owed (Some h))) Done) content ≡ log_begun (log_done log.geometry.page log.numbers (shown (tailed log (Owes owed (Some h))) content)) h (take h.length content)
owed_shown log owed h content = refl

-- FREE PAGES
pub free_on : (log : LogState) (t : Tail) → IsSome (work_in t) → free_in (after_step (tailed log t) Done) ≡ free_in (tailed log t)
free_on log Open work = cc
free_on log (Writes h done) work = free_pages_on log h done (is_last log.geometry.page h done) refl
  where
    free_pages_on : (log : LogState) (h : RecHead) (done : ℕ) (b : Bool) → is_last log.geometry.page h done ≡ b → free_in (after_step (tailed log (Writes h done)) Done) ≡ free_in (tailed log (Writes h done))
    free_pages_on log h done false e =
        let g = page_goes_on log h done [] e in
        ap (λ (t : Tail). free_behind log.geometry.page (pages_in log) (after_step (tailed log (Writes h done)) Done).end t) g.tail
        ∙ ap (λ (n : ℕ). pages_in log - (n + pages_of_head log.geometry.page h)) g.end
    free_pages_on log h done true e =
        let g = page_commits log h done [] e in
        ap (λ (t : Tail). free_behind log.geometry.page (pages_in log) (after_step (tailed log (Writes h done)) Done).end t) g.tail
        ∙ (let same = g.end in let goal : pages_in log - ((after_step (tailed log (Writes h done)) Done).end + 0) ≡ pages_in log - (log.end + pages_of_head log.geometry.page h) = omega (arith, same) in goal)
free_on log (Owes owed None) work = cc
free_on log (Owes owed (Some h)) work =
    let p = log.geometry.page in
    let goal : pages_in log - ((log.end + pages_of_head p owed) + pages_of_head p h) ≡ pages_in log - (log.end + (pages_of_head p owed + pages_of_head p h)) = omega arith in goal
free_on log Closed work = cc

-- WHAT STAYS WHERE THE RECORD GOES ON
pub record GoesOn (log : LogState) (t : Tail) : Type 0 where
  pub work : work_in (after_step (tailed log t) Done).tail ≡ work_in t
  pub places : (after_step (tailed log t) Done).places ≡ log.places

pub goes_on : (log : LogState) (t : Tail) → IsSome (work_in t) → commits log.geometry.page t ≡ false → GoesOn log t
goes_on log Open work goes = cc
goes_on log (Writes h done) work goes = let g = page_goes_on log h done [] goes in record { work = ap work_in g.tail; places = g.places }
goes_on log (Owes owed None) work goes = cc
goes_on log (Owes owed (Some h)) work goes = record { work = refl; places = refl }
goes_on log Closed work goes = cc

-- a step that fails moves no place
pub failed_places : (log : LogState) (t : Tail) → IsSome (work_in t) → (after_step (tailed log t) Failed).places ≡ log.places
failed_places log Open work = cc
failed_places log (Writes h done) work =
    let a : Log = record { end = log.end; tail = LogClosed; places = log.places } in
    let b : Log = record { end = log.end + pages_of_head log.geometry.page h; tail = LogOpen; places = log.places } in
    cond_both (nat_lt done 2) a b (λ (c : Log). c.places ≡ log.places) (λ e. refl) (λ e. refl)
failed_places log (Owes owed None) work = cc
failed_places log (Owes owed (Some h)) work = refl
failed_places log Closed work = cc
