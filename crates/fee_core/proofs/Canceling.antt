-- A cancel, from what its calls answer.
use Rattle.std.specs.Prelude.{is_some}
use Rattle.std.proofs.Common.{◌≡◌, ℕ, true, false, List, Option, Some, None, refl, sym, subst}
use Rattle.std.proofs.lemmas.Bool.{cond_both}
use Rattle.memif.specs.declared.answer.JobResult.{JobResult}
use Rattle.memif.specs.Told.{is_urgent}
use Rattle.memif.specs.Calls.{Cancels}
use Rattle.fls_model.specs.Told.{Told}
use Rattle.fee_laws.specs.fee_log.Log.{IsLogState, work_in}
use Rattle.fee_laws.specs.fee_log.Step.{given_up}
use Rattle.fee_laws.specs.fee_switch.Banks.{BanksState, IsBanksState}
use Rattle.promise_device.specs.Making.{Making}
use Rattle.fee_laws.specs.declared.job.FeeJob.{FeeJob}
use Rattle.fee_laws.specs.Inside.{Parts, stand_of}
use Rattle.fee_laws.specs.Parts.{canceled, without_work}
use Rattle.fee_laws.specs.Follows.{Follows}
use Rattle.fee_laws.specs.Restarts.{Restarts}
use Rattle.fee_laws.proofs.Canceled.{jobs_cancel}
use Rattle.fee_laws.proofs.FollowCalled.{given_up_follows}
use Rattle.fee_core.specs.Whole.{Whole, Sound, told_in, clock_in}
use Rattle.fee_core.proofs.Started.{told_at, clock_at}

open_at : (o : Option FeeJob) → is_some o ≡ true → (j : FeeJob) × (o ≡ Some j)
open_at None some = cc some
open_at (Some j) some = (j, refl)

calm_at : (content : List ℕ) (o : Option FeeJob) (last : JobResult) (given : ℕ) (j : FeeJob) → o ≡ Some j → is_urgent (stand_of content o last given) ≡ false → j.urgent ≡ false
calm_at content o last given j is calm = subst (λ (x : Option FeeJob). is_urgent (stand_of content x last given) ≡ false) is calm

-- as its fields show it, w, of what is known, v, with these banks behind it
module _ {m : Making} {entry : Told} {w v : Whole} (shown : w ≡ v) (sound : Sound m entry v) (calm : is_urgent (told_in m entry v).stand ≡ false) (state : IsBanksState w.parts.banks) (log : IsLogState w.parts.banks.log) (some : is_some w.parts.job ≡ true) {b : BanksState} (is : b ≡ without_work w.parts.banks) where
  abbrev s : Parts
  s = w.parts

  safe : Sound m entry w
  safe = subst (Sound m entry) (sym shown) sound

  -- its banks follow the bytes then
  follows : Follows (canceled (without_work s.banks) s)
  follows = cond_both (is_some (work_in s.banks.log.tail)) (record s.banks { log = given_up s.banks.log }) s.banks (λ (x : BanksState). Follows (canceled x s)) (λ e. given_up_follows s log safe.follows) (λ e. safe.follows)

  restarts : Restarts m (canceled (without_work s.banks) s)
  restarts = cond_both (is_some (work_in s.banks.log.tail)) (record s.banks { log = given_up s.banks.log }) s.banks (λ (x : BanksState). Restarts m (canceled x s)) (λ e. safe.restarts) (λ e. safe.restarts)

  pub ends : Sound m entry (record w { parts = canceled b s }) × Cancels (told_in m entry v) (clock_in m entry v) (told_at m entry (canceled b s)) (clock_at m entry (canceled b s))
  ends =
      let open_job = open_at s.job some in
      let calm' = subst (λ (x : Whole). is_urgent (told_in m entry x).stand ≡ false) (sym shown) calm in
      let ended = jobs_cancel m entry s w.numbers w.reserve w.ops w.off open_job.0 safe.parts (record { banks = state; job = open_job.1; calm = calm_at s.content s.job s.last s.given open_job.0 open_job.1 calm' }) in
      subst (λ (x : BanksState). Sound m entry (record w { parts = canceled x s }) × Cancels (told_in m entry v) (clock_in m entry v) (told_at m entry (canceled x s)) (clock_at m entry (canceled x s))) (sym is) (
        record { parts = ended.0; follows = follows; wears = safe.wears; restarts = restarts },
        subst (λ (x : Whole). Cancels (told_in m entry x) (clock_in m entry x) (told_at m entry (canceled (without_work s.banks) s)) (clock_at m entry (canceled (without_work s.banks) s))) shown ended.1,
      )
