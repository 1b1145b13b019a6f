-- What an append in a switch makes of the flags.
use Rattle.std.proofs.Common.{ℕ, ◌+◌, Bool, true, false, List, [], Some, None, cond, subst}
use Rattle.nv_base.specs.declared.geometry.Geometry.{Geometry}
use Rattle.fls_model.specs.declared.flash.FlashAnswer.TheVariants.{Done}
use Rattle.fee_image.specs.Log.{Writes as LogWrites}
use Rattle.fee_image.specs.May.{held_written}
use Rattle.fee_image.specs.Places.{noted}
use Rattle.fee_image.specs.Step.{is_last, log_behind}
use Rattle.fee_image.specs.Copies.{Flag, copied_of, settled_at}
use Rattle.fee_image.specs.BankLaws.{TakesAppends}
use Rattle.fee_image.proofs.Doubts.{banks_widen, takes_within}
use Rattle.fee_log.specs.declared.tail.Tail.{Tail}
use Rattle.fee_log.specs.declared.tail.Tail.TheVariants.{Open, Writes, Owes, Closed}
use Rattle.fee_log.specs.Laws.{may_after}
use Rattle.fee_log.specs.Log.{LogState, log_of, tail_with}
use Rattle.fee_log.specs.Step.{after_step}
use Rattle.fee_switch_laws.specs.Flags.{AreFlagsOf, flags_appended}
use Rattle.fee_switch.specs.Banks.{BanksState}
use Rattle.fee_switch_laws.specs.Appends.{AppendsSettle, FitsFlags}
use Rattle.fee_switch_laws.specs.Shown.{layout_in, phase_shown, banks_shown}
use Rattle.fee_switch_laws.proofs.Appends.{other_log, appends_go_on}
use Rattle.fee_switch_laws.proofs.Flags.{are_settled, is_placed}
use Rattle.fee_switch_laws.proofs.FlagTurns.{appended_wide}

-- the flags are those of the places behind a page that is done
after_flags : (s : LogState) (tail : Tail) (body : List ℕ) (fs : List Flag) → AreFlagsOf s.numbers s.places s.flags fs → FitsFlags (tail_with tail body) fs
    → let t = after_step (record s { tail = tail }) Done in AreFlagsOf t.numbers t.places t.flags (flags_appended s.geometry.page (tail_with tail body) fs)
after_flags s Open body fs are fit = are
after_flags s (Writes h k) body fs are fit = split (is_last s.geometry.page h k)
  where
    split : (b : Bool)
        → AreFlagsOf s.numbers (cond b (record (log_behind s.geometry.page (log_of (record s { tail = Writes h k }) []) h) { places = noted s.numbers s.places s.end h }) (record (log_of (record s { tail = Writes h k }) []) { tail = LogWrites h [] (k + 1) })).places s.flags
        (cond b (settled_at h.number.0 (held_written h body) fs) fs)
    split true = are_settled s.numbers s.places s.flags fs s.end h (held_written h body) (is_placed h s.end) fit are
    split false = are
after_flags s (Owes h None) body fs are fit = are
after_flags s (Owes h (Some next)) body fs are fit = are
after_flags s Closed body fs are fit = are

pub appends_settle : AppendsSettle
appends_settle s bodies old new may fs a is active taking now append fit follows holds leaves done =
    let t : BanksState = record s { log = after_step s.log Done } in
    let may' = may_after s.log bodies.append Done may in
    let tail = (log_of s.log bodies.append).tail in
    let g = appends_go_on s bodies old new may (copied_of fs) a Done is active taking now (record { banks = holds.banks; follows = follows }) (λ e. cc) leaves done in
    let taken = subst TakesAppends (other_log s.course s (after_step s.log Done) s.course bodies.copy) taking in
    let copied = copied_of (flags_appended s.geometry.page tail fs) in
    record {
      banks =
          banks_widen (layout_in s) s.log.numbers new (banks_shown t bodies may' (copied_of fs)) may' copied g.banks (λ number length m among. among) (appended_wide s.geometry.page tail fs append)
          (takes_within (phase_shown t.course t bodies.copy) copied may' taken);
      flags =
          subst (λ (g : Geometry). AreFlagsOf t.log.numbers t.log.places t.log.flags (flags_appended g.page tail fs)) is.log.shape
          (after_flags s.log s.log.tail bodies.append fs holds.flags fit);
    }
