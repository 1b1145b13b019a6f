-- The copies and the appends, with the flags that follow.
use Rattle.std.proofs.Common.{◌≡◌, ℕ, Bool, true, false, ◌&&◌, List, [], ◌∷◌, length, Option, Some, None, cond, eqb, sym, ap, refl, subst}
use Rattle.std.proofs.lemmas.Bool.{eqb-true, and_parts}
use Rattle.nv_base.specs.declared.instance.DeviceNumber.{DeviceNumber}
use Rattle.fls_model.specs.Op.{MayLeave}
use Rattle.fee_format.specs.Formats.{new_format}
use Rattle.nv_base.specs.Held.{Held}
use Rattle.fee_format.specs.declared.rec_head.RecHead.{RecHead}
use Rattle.fee_image.specs.Found.{fits}
use Rattle.fee_image.specs.Image.{Layout, IsLegalLayout, bank_in, image_page}
use Rattle.fee_image.specs.Log.{Tail, Open, Writes, Owes, Closed, Log}
use Rattle.fee_image.specs.May.{May, IsAmong, IsWider, held_written, settling}
use Rattle.fee_image.specs.Step.{IsRecord, IsDue, is_last, page_due, bytes_due, log_begun, log_done, may_with, may_done}
use Rattle.fee_image.specs.Banks.{OldBank, Erasing, Copying, Banks, Holds, HoldsOld, HoldsPhase, IsCopying}
use Rattle.fee_image.specs.Copies.{Flag, shown_by, is_done, copied_of, cleared, settled_at, marked, Each}
use Rattle.fee_image.specs.BankLaws.{program_of}
use Rattle.fee_image.proofs.Doubts.{banks_widen, takes_within}
use Rattle.fee_image.proofs.Logs.{records_begin as image_records_begin}
use Rattle.fee_image.proofs.Pages.{appends_done, copies_done}
use Rattle.fee_image.proofs.Seals.{copies_change, copies_fail as image_copies_fail, old_logs_change}
use Rattle.fee_switch_laws.specs.Flags.{flagged, IsOpenFor, all_clear, CopiesOrNot, IsCopyOf, flags_copied, IsAppendTo, flags_appended}
use Rattle.fee_switch_laws.specs.FlagLaws.{CopiesMayBegin, CopiedPagesHold, FailedCopiesHold, FlagsMayClear, AppendsMayBegin, AppendedPagesHold, CopiesStart}
use Rattle.fee_image.proofs.Copies.{clear_may_be_erased, clearing_widens, marking_holds, settling_widens}
use Rattle.fee_image.proofs.Erases.{copies_begin as image_copies_begin}

-- A NUMBER WITHOUT A COPY
open_is_any : (fs : List Flag) (number length : ℕ) → IsOpenFor number fs → copied_of fs number length ≡ None
open_is_any [] number length open' = refl
open_is_any (f ∷ fs) number length open' = split (eqb f.number number) refl (eqb f.length length)
    (λ same. ap (λ (b : Bool). cond b (Some (shown_by f ∷ [])) None) (open'.0 same)) (open_is_any fs number length open'.1)
  where
    split : (b : Bool) → eqb f.number number ≡ b → (c : Bool)
        → (eqb f.number number ≡ true → cond (is_done f) (Some (shown_by f ∷ [])) None ≡ None)
        → copied_of fs number length ≡ None
        → cond (b && c) (cond (is_done f) (Some (shown_by f ∷ [])) None) (copied_of fs number length) ≡ None
    split true is true here behind = here is
    split true is false here behind = behind
    split false is c here behind = behind

number_of_fit : (number length : ℕ) (h : RecHead) → fits number length h ≡ true → h.number.0 ≡ number
number_of_fit number length h fit = eqb-true h.number.0 number (and_parts (eqb h.number.0 number) _ fit).0

open_may_be : (fs : List Flag) (h : RecHead) (number length : ℕ) (m : Held) → IsOpenFor h.number.0 fs → fits number length h ≡ true → IsAmong (copied_of fs number length) m
open_may_be fs h number length m open' fit =
    let same = number_of_fit number length h fit in
    let none : copied_of fs number length ≡ None = open_is_any fs number length (subst (λ (n : ℕ). IsOpenFor n fs) same open') in
    subst (λ (o : Option (List Held)). IsAmong o m) (sym none) tt

open_wide : (fs : List Flag) (h : RecHead) (body : List ℕ) → IsOpenFor h.number.0 fs → IsWider (settling (copied_of fs) h body) (copied_of fs)
open_wide fs h body open' number length m = split (fits number length h) refl
  where
    split : (b : Bool) → fits number length h ≡ b → IsAmong (cond b (Some (held_written h body ∷ [])) (copied_of fs number length)) m → IsAmong (copied_of fs number length) m
    split true fit among = open_may_be fs h number length m open' fit
    split false fit among = among

-- COPIES
copied_wide : (p : ℕ) (sets : Bool) (tail : Tail) (fs : List Flag) → IsCopyOf sets tail fs → IsWider (may_with p (copied_of fs) tail) (copied_of (flags_copied p sets tail fs))
copied_wide p sets Open fs is = λ number length m among. among
copied_wide p sets (Owes h) fs is = λ number length m among. among
copied_wide p sets Closed fs is = λ number length m among. among
copied_wide p sets (Writes h body done) fs is = split (is_last p h done) sets is
  where
    split : (b sets' : Bool) → CopiesOrNot sets' h body fs
        → IsWider (cond b (settling (copied_of fs) h body) (copied_of fs)) (copied_of (cond (b && sets') (marked h.number.0 fs) fs))
    split true true copies = marking_holds fs h body copies
    split true false open' = open_wide fs h body open'
    split false sets' copies = λ number length m among. among

module _ (l : Layout) (ns : List (DeviceNumber × ℕ)) (old new : List ℕ) (s : Banks) (log : Log) (fs : List Flag) (holds : Holds l ns old (flagged s fs)) (phase : s.phase ≡ Copying log) where
  copying : IsCopying l ns old s.target log (copied_of fs)
  copying = subst (HoldsPhase l ns old (flagged s fs)) phase holds.phase

  begins : (h : RecHead) (body : List ℕ) → log.tail ≡ Open → IsRecord (bank_in l new_format s.target) log.end h body → IsOpenFor h.number.0 fs
      → Holds l ns old (flagged (record s { phase = Copying (log_begun log h body) }) fs)
  begins h body idle is open' =
      copies_change l ns old (flagged s fs) log (log_begun log h body) (copied_of fs) holds phase
      (image_records_begin (bank_in l new_format s.target) ns old (copied_of fs) log h body copying.holds idle is (λ number length fit. open_may_be fs h number length (held_written h body) open' fit))

  page_holds : (sets : Bool) → IsLegalLayout l → IsCopyOf sets log.tail fs
      → IsDue log.tail → length (bytes_due l.page log) ≡ l.page → MayLeave (program_of l s.target (page_due log) (bytes_due l.page log)) old new
      → image_page l new s.target (page_due log) ≡ bytes_due l.page log
      → Holds l ns new (flagged (record s { phase = Copying (log_done l.page ns log) }) (flags_copied l.page sets log.tail fs))
  page_holds sets legal is due size leaves stands =
      let after = copies_done l ns old new (flagged s fs) log legal holds phase due size leaves stands in
      banks_widen l ns new (record s { phase = Copying (log_done l.page ns log); copied = may_done l.page (copied_of fs) log }) s.may (copied_of (flags_copied l.page sets log.tail fs))
      after (λ number length m among. among) (copied_wide l.page sets log.tail fs is) tt

pub copies_may_begin : CopiesMayBegin
copies_may_begin l ns bytes s log h body fs holds phase idle is open' = begins l ns bytes bytes s log fs holds phase h body idle is open'

pub copied_pages_hold : CopiedPagesHold
copied_pages_hold l ns old new s log sets fs legal holds phase is due size leaves stands =
    page_holds l ns old new s log fs holds phase sets legal is due size leaves stands

clear_flags : (fs : List Flag) → Each (λ f. f.copied ≡ false) (all_clear fs)
clear_flags [] = tt
clear_flags (f ∷ fs) = (refl, clear_flags fs)

-- while the target is erased the flags count for nothing
reflagged : (l : Layout) (ns : List (DeviceNumber × ℕ)) (bytes : List ℕ) (s : Banks) (n : ℕ) (copied : May)
    → Holds l ns bytes (record s { phase = Erasing n }) → Holds l ns bytes (record s { phase = Erasing n; copied = copied })
reflagged l ns bytes s n copied h = record { size = h.size; target = h.target; old = h.old; behind = h.behind; phase = h.phase }

pub failed_copies_hold : FailedCopiesHold
failed_copies_hold l ns old new page s q log fs legal holds phase size lt other leaves =
    (reflagged l ns new (flagged s fs) 0 (copied_of (all_clear fs)) (image_copies_fail l ns old new page (flagged s fs) q log legal holds phase size lt other leaves), clear_flags fs)

-- APPENDS
pub flags_may_clear : FlagsMayClear
flags_may_clear l ns bytes s number fs holds takes =
    banks_widen l ns bytes (flagged s fs) s.may (copied_of (cleared number fs)) holds (λ number' length m among. among) (clearing_widens fs number) (takes_within s.phase (copied_of (cleared number fs)) s.may takes)

pub appends_may_begin : AppendsMayBegin
appends_may_begin l ns bytes s k h log head body fs holds old takes idle is commit =
    let bank = subst (λ (o : _). HoldsOld l ns bytes s.target o s.may) old holds.old in
    let next = image_records_begin (bank_in l h.format k) ns bytes s.may log head body bank.1.holds idle is commit in
    let begun = old_logs_change l ns bytes (flagged s fs) k h log (log_begun log head body) s.may holds old takes next in
    flags_may_clear l ns bytes (record s { old = OldBank k h (log_begun log head body) }) head.number.0 fs begun takes

pub appended_wide : (p : ℕ) (tail : Tail) (fs : List Flag) → IsAppendTo tail fs → IsWider (copied_of fs) (copied_of (flags_appended p tail fs))
appended_wide p Open fs is = λ number length m among. among
appended_wide p (Owes h) fs is = λ number length m among. among
appended_wide p Closed fs is = λ number length m among. among
appended_wide p (Writes h body done) fs is = split (is_last p h done)
  where
    split : (b : Bool) → IsWider (copied_of fs) (copied_of (cond b (settled_at h.number.0 (held_written h body) fs) fs))
    split true = subst (λ (x : List Flag). IsWider (copied_of x) (copied_of (settled_at h.number.0 (held_written h body) x))) is (settling_widens fs h.number.0 (held_written h body))
    split false = λ number length m among. among

pub appended_pages_hold : AppendedPagesHold
appended_pages_hold l ns old new s k h log fs legal holds is takes appends due size leaves stands =
    let after = appends_done l ns old new (flagged s fs) k h log legal holds is takes due size leaves stands in
    let flags = flags_appended l.page log.tail fs in
    banks_widen l ns new (record s { old = OldBank k h (log_done l.page ns log); may = may_done l.page s.may log; copied = copied_of fs }) (may_done l.page s.may log) (copied_of flags)
    after (λ number length m among. among) (appended_wide l.page log.tail fs appends) (takes_within s.phase (copied_of flags) (may_done l.page s.may log) takes)

-- all sectors are erased, and no flag is set
pub copies_start : CopiesStart
copies_start l ns bytes s n fs legal holds phase all clear = image_copies_begin l ns bytes _ n legal holds phase all (clear_may_be_erased fs clear)
