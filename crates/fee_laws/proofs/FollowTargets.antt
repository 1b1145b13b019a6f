-- An operation of a switch's target.
use Rattle.std.specs.Prelude.{IfSome, is_some}
use Rattle.std.proofs.Common.{◌≡◌, ◌≤◌, ◌++◌, ℕ, Bool, List, length, Option, Some, None, sym, ◌∙◌, subst, arith, refl}
use Rattle.std.proofs.lemmas.Bool.{cond_both}
use Rattle.nv_base.specs.declared.geometry.Geometry.{Geometry}
use Rattle.nv_base.specs.declared.instance.DeviceNumber.{DeviceNumber}
use Rattle.fls_model.specs.Told.{Change}
use Rattle.fee_image.specs.declared.place.Place.{Place}
use Rattle.fee_switch_laws.specs.fee_log.Index.{clear_flags}
use Rattle.fee_switch_laws.specs.fee_log.Log.{LogState, work_in, erased_state}
use Rattle.fee_switch_laws.specs.fee_switch.declared.active.ActiveBank.{ActiveBank}
use Rattle.fee_course.specs.declared.course.Course.{Course}
use Rattle.fee_course.specs.declared.course.Course.TheVariants.{Erase, Copy, Head}
use Rattle.fee_course.specs.Copies.{next_copy}
use Rattle.fee_course.specs.Course.{settled}
use Rattle.fee_switch_laws.specs.fee_switch.Banks.{BanksState, IsBanksState}
use Rattle.fee_switch_laws.specs.Shown.{layout_in}
use Rattle.fee_laws.specs.Inside.{body_of}
use Rattle.fee_laws.specs.Follows.{FollowsLog, StandsFirst, FollowsTarget, FollowsBanks, FollowsNext, FollowsBytes}
use Rattle.fee_image.proofs.Frames.{SameOthers}
use Rattle.fee_laws.proofs.FollowBanks.{fronts_of, first_stays, same_body, log_stays}
use Rattle.fee_laws.proofs.FollowOperations.{AreOf}
use Rattle.fee_laws.proofs.FollowBegins.{active_flagged}

-- ANY OPERATION OF THE TARGET
module _ (s : BanksState) (is : IsBanksState s) (content old new : List ℕ) (xs more : List Change) (c : Course) (course : s.course ≡ Some c) (of : AreOf s.geometry s.banks s.target more) (long : length new ≡ length old) (apart : SameOthers (layout_in s) old new s.target) (follows : FollowsBytes s content xs old) where
  abbrev body : List ℕ
  body = body_of (work_in s.log.tail) content

  pub was : StandsFirst s old × FollowsTarget s c old
  was = subst (λ (o : Option Course). FollowsBanks s o old) course follows.banks

  pub first : StandsFirst s new
  first = first_stays s is old new (λ j other. fronts_of s is old new j (apart j other)) was.0

  low : 16 ≤ s.log.geometry.page
  low = subst (λ g. 16 ≤ g.page) (sym is.log.shape) is.legal.page_low

  of_log : AreOf s.log.geometry s.log.banks s.target more
  of_log = subst (λ (g : Geometry). AreOf g s.log.banks s.target more) (sym is.log.shape) (subst (λ (n : ℕ). AreOf s.geometry n s.target more) (sym is.log.shared) of)

  log_by : (o : Option ActiveBank) → IfSome o (λ a. (a.bank ≡ s.target → ⊥) × (s.log.bank ≡ a.bank)) → IfSome o (λ a. FollowsLog s.course s.log body xs old) → IfSome o (λ a. FollowsLog (Some c) s.log body (xs ++ more) new)
  log_by None other log = tt
  log_by (Some a) other log = log_stays s.course c s.log body old new xs more s.target low long (same_body s.geometry s.banks s.log is.log old new (apart s.log.bank (λ same. other.0 (sym other.1 ∙ same)))) (λ same. other.0 (sym other.1 ∙ sym same)) of_log log

  log : IfSome s.active (λ a. FollowsLog (Some c) s.log body (xs ++ more) new)
  log = log_by s.active is.active follows.log

  -- with these flags, and a target as it is after
  pub builds : (flags : List Bool) (after : Course) (copies : LogState) (buffer : List ℕ) → FollowsTarget (record s { course = Some after; log = record s.log { flags = flags }; copies = copies; buffer = buffer }) after new
      → FollowsNext (record s { course = Some after; log = record s.log { flags = flags }; copies = copies; buffer = buffer }) after (xs ++ more) new
      → FollowsBytes (record s { course = Some after; log = record s.log { flags = flags }; copies = copies; buffer = buffer }) content (xs ++ more) new
  builds flags after copies buffer target next = record {
    log = active_flagged (Some c) after s flags body new (xs ++ more) log;
    banks = (record { stands = first.stands; behind = first.behind }, target);
    next = next;
  }

  -- behind a failure the first erase comes
  pub again : (buffer : List ℕ) → FollowsBytes (record s { course = Some (Erase 0); log = record s.log { flags = clear_flags s.log.numbers }; copies = erased_state s.geometry s.banks s.target s.copies.numbers; buffer = buffer }) content (xs ++ more) new
  again buffer = builds (clear_flags s.log.numbers) (Erase 0) (erased_state s.geometry s.banks s.target s.copies.numbers) buffer (λ q below inside. absurd (omega arith), refl) tt

-- THE COPIES COME, OR THE HEAD
pub settled_target : (ns : List (DeviceNumber × ℕ)) (ps : List Place) (cs : List Bool) (t : Course → BanksState) (P : BanksState → Type 0) → P (t (Copy None)) → P (t Head) → P (t (settled ns ps cs))
settled_target ns ps cs t P copy head = cond_both (is_some (next_copy ns ps cs)) (Copy None) Head (λ (c : Course). P (t c)) (λ e. copy) (λ e. head)
