-- The next page of the open job's record, from what its call answers.
use Rattle.std.specs.Prelude.{IfSome, IsSome, take}
use Rattle.std.proofs.Common.{◌≡◌, ◌++◌, ◌∷◌, [], ℕ, Bool, true, false, List, Option, Some, None, refl, sym, ap, ◌∙◌, subst}
use Rattle.fls_model.specs.declared.flash.FlashAnswer.{FlashAnswer}
use Rattle.fls_model.specs.declared.flash.FlashAnswer.TheVariants.{Off}
use Rattle.fls_model.specs.Op.{Op}
use Rattle.fls_model.specs.Step.{IsStep, OffOrAsked, IsAsked}
use Rattle.fls_model.specs.Told.{Told, Change}
use Rattle.fls_jobs.specs.State.{FlsState, IsDriverState}
use Rattle.fls_jobs.specs.CallOf.{closed_as}
use Rattle.fee_format.specs.declared.rec_head.RecHead.{RecHead}
use Rattle.fee_laws.specs.fee_log.Log.{work_in}
use Rattle.fee_laws.specs.fee_log.Step.{IsPageOf, due_bytes, op_of}
use Rattle.fee_laws.specs.fee_switch.Banks.{BanksState}
use Rattle.promise_device.specs.Making.{Making}
use Rattle.fee_laws.specs.fls_told.Clock.{change_of}
use Rattle.fee_laws.specs.declared.job.FeeJob.{FeeJob}
use Rattle.fee_laws.specs.Inside.{Parts, IsAtWork, body_of}
use Rattle.fee_laws.specs.Record.{IsInWork, head_of}
use Rattle.fee_laws.specs.Turn.{Drives}
use Rattle.fee_laws.specs.Appends.{IsAppending, work_body, after_page}
use Rattle.fee_laws.specs.Follows.{Follows}
use Rattle.fee_laws.specs.Wears.{Wears}
use Rattle.fee_laws.specs.Restarts.{Restarts}
use Rattle.fee_laws.proofs.Restarts.{pages_restart}
use Rattle.fee_laws.proofs.FollowTurned.{pages_follow}
use Rattle.fee_laws.proofs.WornSteps.{pages_wear}
use Rattle.fee_core.specs.Operations.{IsProgrammed}
use Rattle.fee_core.specs.Whole.{Whole}
use Rattle.fee_core.proofs.Standing.{Stands}

-- THE RECORD IN WORK
work_of : (b : BanksState) (job : Option FeeJob) (j : FeeJob) (o : Option RecHead) → job ≡ Some j → IfSome o (IsInWork b job) → IsSome o → (h : RecHead) × (o ≡ Some h) × (h ≡ head_of b.log h.kind j)
work_of b job j None is work some = cc some
work_of b job j (Some h) is work some = (let same : work.of ≡ j = cc (work.is_open, is) in (h, refl, work.head ∙ ap (head_of b.log h.kind) same))

-- while the power is on a step is one that was asked for
pub asked_on : (off : Bool) (op : Op) (s : Told) (answer : FlashAnswer) (t : Told) → off ≡ false → OffOrAsked off op s answer t → IsAsked op s answer t
asked_on true op s answer t on is = cc on
asked_on false op s answer t on is = is

-- THE PAGE
-- it was asked for, and the parts behind it follow the bytes
pub record IsPaged (m : Making) (entry : Told) (w : Whole) (answer : FlashAnswer) (f : FlsState) (b : BanksState) (operations : List Change) : Type 0 where
  pub step : IsAppending m entry w.parts w.numbers w.reserve w.ops answer f
  pub same : (faults : ℕ) → faults ≡ (after_page answer f w.parts).faults → record w.parts { fls = f; banks = b; operations = operations; faults = faults } ≡ after_page answer f w.parts
  pub follows : Follows (after_page answer f w.parts)
  pub wears : Wears m entry (after_page answer f w.parts).operations
  pub restarts : (answer ≡ Off → f.flash.off ≡ true) → Restarts m (after_page answer f w.parts)

module _ {m : Making} {entry : Told} {w v : Whole} (at : Stands m entry w v) {j : FeeJob} (job : v.parts.job ≡ Some j) (work : IsSome (work_in v.parts.banks.log.tail)) {answer : FlashAnswer} {f : FlsState} {b : BanksState} {operations : List Change}
    (driver : IsDriverState f) (is : IsProgrammed w.parts.fls w.parts.banks w.parts.operations (take j.length w.parts.content) answer f b operations) where
  abbrev s : Parts
  s = w.parts

  works : IsAtWork m s
  works = at.on.sound.works at.on.started

  work' : IsSome (work_in s.banks.log.tail)
  work' = subst (λ (x : Whole). IsSome (work_in x.parts.banks.log.tail)) (sym at.shown) work

  head_is : (h : RecHead) × (work_in s.banks.log.tail ≡ Some h) × (h ≡ head_of s.banks.log h.kind j)
  head_is = work_of s.banks s.job j (work_in s.banks.log.tail) (ap (λ (x : Whole). x.parts.job) at.shown ∙ job) works.work work'

  body_is : work_body s ≡ take j.length s.content
  body_is = ap (λ (o : Option RecHead). body_of o s.content) head_is.1 ∙ ap (λ (x : RecHead). take x.length s.content) head_is.2

  result_is : f.result ≡ closed_as answer
  result_is = ap (λ (x : FlsState). x.result) is.same

  drives : Drives s.fls f
  drives = record {
    counted = (asked_on s.fls.flash.off (op_of s.banks.log (take j.length s.content)) s.fls.flash answer f.flash (sym (at.on.sound.off at.on.started)) is.step).counted;
    only = is.same ∙ (λ i. record s.fls { flash = f.flash; result = sym result_is i });
    state = driver;
  }

  appending : IsAppending m entry s w.numbers w.reserve w.ops answer f
  appending = record {
    on = at.on;
    work = work';
    drives = drives;
    step = subst (λ (body : List ℕ). IsStep (op_of s.banks.log body) s.fls.flash answer f.flash) (sym body_is) is.step;
    page = subst (λ (body : List ℕ). IsPageOf s.banks.geometry.page (due_bytes s.banks.log body)) (sym body_is) is.page;
  }

  pub paged : IsPaged m entry w answer f b operations
  paged =
      let listed = is.listed ∙ ap (λ (body : List ℕ). s.operations ++ change_of (op_of s.banks.log body) s.fls.flash answer ∷ []) (sym body_is) in
      record {
        step = appending;
        same = λ faults count. (λ i. record s { fls = f; banks = is.after i; operations = listed i; faults = count i });
        follows = pages_follow m entry s w.numbers w.reserve w.ops answer f appending at.up.sound.follows;
        wears = pages_wear m entry s w.numbers w.reserve w.ops answer f appending at.up.sound.follows at.up.sound.wears;
        restarts = λ off. pages_restart m entry s w.numbers w.reserve w.ops at.on answer f off at.up.sound.restarts;
      }
