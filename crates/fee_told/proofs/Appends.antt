-- An append's turns.
use Rattle.std.specs.Prelude.{nat_lt, if◌then◌else◌, IsTrue}
use Rattle.std.proofs.Common.{◌≡◌, inl, inr, ℕ, zero, suc, ◌<◌, Bool, true, false, List, Some, None, refl, sym, ap, ◌∙◌, subst, arith}
use Rattle.nv_base.specs.declared.instance.DeviceNumber.{DeviceNumber}
use Rattle.memif.specs.Told.{more_writes, Stand, Open as OpenJob, Ended, is_open, length_of}
use Rattle.fee_format.specs.declared.bank_head.BankHead.{BankHead}
use Rattle.fee_format.specs.declared.rec_head.RecHead.{RecHead}
use Rattle.fee_image.specs.Found.{fits}
use Rattle.fee_image.specs.Image.{Layout, bank_in, image_page}
use Rattle.fee_image.specs.LogLaws.{IsFresh}
use Rattle.fee_image.specs.Sound.{IsSoundImage}
use Rattle.fee_image.specs.declared.place.Place.{Place}
use Rattle.fee_image.specs.Log.{Tail, Open, Writes, Owes, Closed, Log, HoldsLog}
use Rattle.fee_image.specs.May.{May, settling}
use Rattle.fee_image.specs.Places.{noted}
use Rattle.fee_image.specs.Step.{IsDue, is_last, page_due, bytes_due, log_begun, log_done, done_with, log_failed, failed_with, log_given_up, given_up_with, log_behind, may_with, may_done}
use Rattle.fee_image.specs.Banks.{Old, OldBank, Holds}
use Rattle.fee_image.proofs.Doubts.{banks_widen, takes_within}
use Rattle.fee_image.proofs.Logs.{records_begin as image_records_begin}
use Rattle.fee_image.proofs.Pages.{appends_done, appends_fail as image_appends_fail}
use Rattle.fee_image.proofs.Seals.{logs_keep_sound, old_logs_change}
use Rattle.fee_image.proofs.Steps.{given_up_holds, next_is_fresh}
use Rattle.fee_told.specs.Slots.{Memory, banks_with, writes_of, writes_in, IsWorkOf, HasJob, settled_in, may_told}
use Rattle.fee_told.specs.SlotLaws.{SamePlaces, IsBehindLog, GoesOn}
use Rattle.fee_told.specs.Kept.{IsKept, with_log}
use Rattle.fee_told.specs.Appends.{TakesRecord, RecordsBegin, RecordsGiveUp, IsAppending, AppendsFail, commits, AppendsGoOn, IsCommitted, AppendsCommit}
use Rattle.fee_told.proofs.Kept.{takes_copied, none_open, none_closed, old_of, kept_by, kept_memory}
use Rattle.fee_told.proofs.Held.{held_anew}
use Rattle.fee_told.proofs.Places.{commits_keep_others, programs_keep_settled}
use Rattle.fee_told.proofs.Steps.{steps_settle}

-- LOGS
none_if : (ns : List (DeviceNumber × ℕ)) (ps : List Place) (p : ℕ) (log : Log) (h : RecHead) (stand : Stand) (c : Bool) → IsWorkOf ns ps stand (if c then record log { tail = Closed } else log_behind p log h).tail
none_if ns ps p log h stand true = none_closed ns ps stand
none_if ns ps p log h stand false = none_open ns ps stand

failed_work : (ns : List (DeviceNumber × ℕ)) (ps : List Place) (p : ℕ) (log : Log) (tail : Tail) (stand : Stand) → IsDue tail → IsWorkOf ns ps stand (failed_with p log tail).tail
failed_work ns ps p log Open stand due = absurd due
failed_work ns ps p log Closed stand due = absurd due
failed_work ns ps p log (Owes h) stand due = none_closed ns ps stand
failed_work ns ps p log (Writes h body done) stand due = none_if ns ps p log h stand (nat_lt done 2)

places_if : (p : ℕ) (log : Log) (h : RecHead) (c : Bool) → (if c then record log { tail = Closed } else log_behind p log h).places ≡ log.places
places_if p log h true = refl
places_if p log h false = refl

pub failed_places : (p : ℕ) (log : Log) (tail : Tail) → (failed_with p log tail).places ≡ log.places
failed_places p log Open = refl
failed_places p log Closed = refl
failed_places p log (Owes h) = refl
failed_places p log (Writes h body done) = places_if p log h (nat_lt done 2)

done_work : (ns : List (DeviceNumber × ℕ)) (ps : List Place) (p : ℕ) (numbers : List (DeviceNumber × ℕ)) (log : Log) (tail : Tail) (stand : Stand) → IsDue tail → commits p tail ≡ false → IsWorkOf ns ps stand tail → IsWorkOf ns ps stand (done_with p numbers log tail).tail
done_work ns ps p numbers log Open stand due more work = absurd due
done_work ns ps p numbers log Closed stand due more work = absurd due
done_work ns ps p numbers log (Owes h) stand due more work = none_open ns ps stand
done_work ns ps p numbers log (Writes h body done) (OpenJob j) due more work = rw more work
done_work ns ps p numbers log (Writes h body done) (Ended result given) due more work = absurd work

done_places : (p : ℕ) (numbers : List (DeviceNumber × ℕ)) (log : Log) (tail : Tail) → commits p tail ≡ false → (done_with p numbers log tail).places ≡ log.places
done_places p numbers log Open more = refl
done_places p numbers log Closed more = refl
done_places p numbers log (Owes h) more = refl
done_places p numbers log (Writes h body done) more = rw more refl

done_may : (p : ℕ) (may : May) (tail : Tail) → commits p tail ≡ false → may_with p may tail ≡ may
done_may p may Open more = refl
done_may p may Closed more = refl
done_may p may (Owes h) more = refl
done_may p may (Writes h body done) more = rw more refl

given_up_places : (p : ℕ) (log : Log) (tail : Tail) → (given_up_with p log tail).places ≡ log.places
given_up_places p log Open = refl
given_up_places p log Closed = refl
given_up_places p log (Owes h) = refl
given_up_places p log (Writes h body zero) = refl
given_up_places p log (Writes h body (suc zero)) = refl
given_up_places p log (Writes h body (suc (suc done))) = refl

none_owed : (ns : List (DeviceNumber × ℕ)) (ps : List Place) (stand : Stand) (h : RecHead) → IsWorkOf ns ps stand (Owes h)
none_owed ns ps (OpenJob j) h = tt
none_owed ns ps (Ended result given) h = tt

given_up_work : (ns : List (DeviceNumber × ℕ)) (ps : List Place) (p : ℕ) (log : Log) (tail : Tail) (stand : Stand) → log.tail ≡ tail → IsWorkOf ns ps stand (given_up_with p log tail).tail
given_up_work ns ps p log Open stand is = subst (IsWorkOf ns ps stand) (sym is) (none_open ns ps stand)
given_up_work ns ps p log Closed stand is = subst (IsWorkOf ns ps stand) (sym is) (none_closed ns ps stand)
given_up_work ns ps p log (Owes h) stand is = subst (IsWorkOf ns ps stand) (sym is) (none_owed ns ps stand h)
given_up_work ns ps p log (Writes h body zero) stand is = none_open ns ps stand
given_up_work ns ps p log (Writes h body (suc zero)) stand is = none_owed ns ps stand h
given_up_work ns ps p log (Writes h body (suc (suc done))) stand is = none_open ns ps stand

-- a record in work counts one more than its number has
job_count : (ns : List (DeviceNumber × ℕ)) (ps : List Place) (stand : Stand) (r : RecHead) (body : List ℕ) (done : ℕ) → IsWorkOf ns ps stand (Writes r body done)
    → r.count ≡ more_writes 1 (writes_of ns ps r.number.0)
job_count ns ps (OpenJob j) r body done work = work.2
job_count ns ps (Ended result given) r body done work = absurd work

-- MEMORY
module _ (l : Layout) (numbers : List (DeviceNumber × ℕ)) (bytes : List ℕ) (m : Memory) (copied : May) (k : ℕ) (h : BankHead) (log : Log) (takes : TakesRecord l numbers bytes m copied k h log) where
  abbrev anything : May
  anything = λ number size. None

  -- where anything may be found
  wide : Holds l numbers bytes (banks_with m anything copied)
  wide = banks_widen l numbers bytes (banks_with m (may_told l numbers bytes m) copied) anything copied takes.held.banks (λ number size x is. tt) (λ number size x is. is) (takes_within m.phase copied anything takes.takes)

  same_by : (next : Log) → next.places ≡ log.places → SamePlaces m.old (OldBank k h next)
  same_by next same = subst (λ (o : Old). SamePlaces o (OldBank k h next)) (sym takes.bank) (refl, refl, same)

  job_by : HasJob numbers m.stand (OldBank k h log)
  job_by = subst (HasJob numbers m.stand) takes.bank takes.held.job

  memory_changes : (next : Log) (stand : Stand) → next.places ≡ log.places → GoesOn m.stand stand → IsWorkOf numbers next.places stand next.tail
      → ((may : May) → HoldsLog (bank_in l h.format k) numbers bytes anything log → HoldsLog (bank_in l h.format k) numbers bytes anything next)
      → IsKept l numbers bytes bytes m (with_log m k h next stand) copied
  memory_changes next stand same goes work step =
      let w = wide in
      let holds = (old_of l numbers bytes m.target m.old anything k h log takes.bank w.old).1 in
      kept_memory l numbers bytes m (with_log m k h next stand) copied anything copied takes.lengths takes.held
      (old_logs_change l numbers bytes (banks_with m anything copied) k h log next anything w takes.bank takes.takes (step anything holds.holds))
      (same_by next same) goes work (takes_copied l numbers bytes m.phase (OldBank k h next) copied takes.takes)

pub records_begin : RecordsBegin
records_begin l numbers bytes m copied k h log r body takes is_open_log is_record work =
    memory_changes l numbers bytes m copied k h log takes (log_begun log r body) m.stand refl (inl refl) work
    (λ may holds. image_records_begin (bank_in l h.format k) numbers bytes (λ number size. None) log r body holds is_open_log is_record (λ number size fit. tt))

pub records_give_up : RecordsGiveUp
records_give_up l numbers bytes m copied k h log stand takes shut =
    memory_changes l numbers bytes m copied k h log takes (log_given_up l.page log) stand (given_up_places l.page log log.tail) (inr shut) (given_up_work numbers (log_given_up l.page log).places l.page log log.tail stand refl)
    (λ may holds. given_up_holds (bank_in l h.format k) numbers bytes (λ number size. None) log takes.legal.page holds)

-- PAGES
module _ (l : Layout) (numbers : List (DeviceNumber × ℕ)) (old new : List ℕ) (m : Memory) (copied : May) (k : ℕ) (h : BankHead) (log : Log) (step : IsAppending l numbers old new m copied k h log) where
  abbrev takes : TakesRecord l numbers old m copied k h log
  takes = step.record_of

  abbrev told : May
  told = may_told l numbers old m

  fresh : IsFresh (bank_in l h.format k) old (page_due log)
  fresh =
      let holds = (old_of l numbers old m.target m.old told k h log takes.bank takes.held.banks.old).1 in
      next_is_fresh (bank_in l h.format k) numbers old told log holds.holds step.due

  low_page : page_due log < l.pages
  low_page = fresh.high

  keeps_sound : IsSoundImage l old → IsSoundImage l new
  keeps_sound = logs_keep_sound l old new (bytes_due l.page log) k (page_due log) takes.legal step.size fresh.low fresh.high step.leaves

  behind : IsBehindLog m.old k (page_due log)
  behind = subst (λ (o : Old). IsBehindLog o k (page_due log)) (sym takes.bank) (λ e. omega arith)

  settled_same : (next : Log) → next.places ≡ log.places → settled_in l numbers new (OldBank k h next) ≡ settled_in l numbers old m.old
  settled_same next same =
      programs_keep_settled l numbers old new (bytes_due l.page log) (banks_with m told copied) k (page_due log) (OldBank k h next) takes.legal takes.held.banks step.size low_page step.leaves behind
      (same_by l numbers old m copied k h log takes next same)

  fails : (stand : Stand) → GoesOn m.stand stand → IsKept l numbers old new m (with_log m k h (log_failed l.page log) stand) copied
  fails stand goes =
      kept_by l numbers old new m (with_log m k h (log_failed l.page log) stand) copied takes.lengths
      (image_appends_fail l numbers old new (banks_with m told copied) k h log takes.legal takes.held.banks takes.bank takes.takes step.due step.size step.leaves)
      (settled_same (log_failed l.page log) (failed_places l.page log log.tail)) goes (failed_work numbers (log_failed l.page log).places l.page log log.tail stand step.due)
      (takes_copied l numbers new m.phase (OldBank k h (log_failed l.page log)) copied takes.takes) keeps_sound

  module _ (stands : image_page l new k (page_due log) ≡ bytes_due l.page log) where
    done_holds : Holds l numbers new (banks_with (with_log m k h (log_done l.page numbers log) m.stand) (may_done l.page told log) copied)
    done_holds = appends_done l numbers old new (banks_with m told copied) k h log takes.legal takes.held.banks takes.bank takes.takes step.due step.size step.leaves stands

    goes_on : commits l.page log.tail ≡ false → IsKept l numbers old new m (with_log m k h (log_done l.page numbers log) m.stand) copied
    goes_on more =
        kept_by l numbers old new m (with_log m k h (log_done l.page numbers log) m.stand) copied takes.lengths
        (subst (λ (may : May). Holds l numbers new (banks_with (with_log m k h (log_done l.page numbers log) m.stand) may copied)) (done_may l.page told log.tail more) done_holds)
        (settled_same (log_done l.page numbers log) (done_places l.page numbers log log.tail more)) (inl refl)
        (subst (λ (ps : List Place). IsWorkOf numbers ps m.stand (log_done l.page numbers log).tail) (sym (done_places l.page numbers log log.tail more))
        (done_work numbers log.places l.page numbers log log.tail m.stand step.due more (job_by l numbers old m copied k h log takes)))
        (takes_copied l numbers new m.phase (OldBank k h (log_done l.page numbers log)) copied takes.takes) keeps_sound

    module _ (r : RecHead) (body : List ℕ) (done : ℕ) (writes : log.tail ≡ Writes r body done) (is_end : is_last l.page r done ≡ true) (stand : Stand) where
      done_is : log_done l.page numbers log ≡ record (log_behind l.page log r) { places = noted numbers log.places log.end r }
      done_is = ap (done_with l.page numbers log) writes ∙ rw is_end refl

      may_is : may_done l.page told log ≡ settling told r body
      may_is = ap (may_with l.page told) writes ∙ rw is_end refl

      commit_holds : Holds l numbers new (banks_with (with_log m k h (log_done l.page numbers log) stand) (settling told r body) copied)
      commit_holds = subst (λ (may : May). Holds l numbers new (banks_with (with_log m k h (log_done l.page numbers log) stand) may copied)) may_is done_holds

      count_is : r.count ≡ more_writes 1 (writes_in numbers m.old r.number.0)
      count_is =
          let work : IsWorkOf numbers log.places m.stand (Writes r body done) = subst (IsWorkOf numbers log.places m.stand) writes (job_by l numbers old m copied k h log takes) in
          subst (λ (o : Old). r.count ≡ more_writes 1 (writes_in numbers o r.number.0)) (sym takes.bank) (job_count numbers log.places m.stand r body done work)

      committed : (size : ℕ) → length_of numbers r.number.0 ≡ Some size → IsTrue (fits r.number.0 size r) → is_open stand ≡ false
          → IsCommitted l numbers old new m (with_log m k h (log_done l.page numbers log) stand) copied r body
      committed size is fit shut = record {
        held = held_anew l numbers new (with_log m k h (log_done l.page numbers log) stand) (settling told r body) copied takes.lengths commit_holds
            (subst (λ (x : Log). IsWorkOf numbers x.places stand x.tail) (sym done_is) (none_open numbers (noted numbers log.places log.end r) stand))
            (takes_copied l numbers new m.phase (OldBank k h (log_done l.page numbers log)) copied takes.takes);
        settles = steps_settle l numbers old new m (with_log m k h (log_done l.page numbers log) stand) copied copied r body size takes.held commit_holds shut is fit count_is
            (commits_keep_others l numbers old new (bytes_due l.page log) (banks_with m told copied) k (page_due log) h log (log_done l.page numbers log) r takes.legal takes.held.banks takes.bank step.size low_page (omega arith) step.leaves (ap (λ (x : Log). x.places) done_is));
      }

pub appends_fail : AppendsFail
appends_fail l numbers old new m copied k h log stand step goes = fails l numbers old new m copied k h log step stand goes

pub appends_go_on : AppendsGoOn
appends_go_on l numbers old new m copied k h log step stands more = goes_on l numbers old new m copied k h log step stands more

pub appends_commit : AppendsCommit
appends_commit l numbers old new m copied k h log r body done size stand step stands writes is_end is fit shut =
    committed l numbers old new m copied k h log step stands r body done writes is_end stand size is fit shut
