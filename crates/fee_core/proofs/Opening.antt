-- A job opens, from what its calls answer.
use Rattle.std.specs.Prelude.{length, take}
use Rattle.std.proofs.Common.{◌≡◌, ◌≤◌, ℕ, true, List, Option, None, sym, ap, ◌∙◌, subst}
use Rattle.nv_base.specs.declared.job.DeviceOp.TheVariants.{Write}
use Rattle.nv_base.specs.declared.mark.Mark.{Mark}
use Rattle.memif.specs.Calls.{Opens, ClockStays}
use Rattle.fls_model.specs.Told.{Told}
use Rattle.fee_laws.specs.fee_log.Log.{IsLogState}
use Rattle.fee_laws.specs.fee_switch.Banks.{IsBanksState}
use Rattle.promise_device.specs.Making.{Making}
use Rattle.fee_laws.specs.declared.job.FeeJob.{FeeJob}
use Rattle.fee_laws.specs.Inside.{Parts, mark_of}
use Rattle.fee_laws.specs.Record.{IsJobOf}
use Rattle.fee_laws.specs.CallLaws.{MayOpen, IsPromised}
use Rattle.fee_laws.specs.Parts.{opened}
use Rattle.fee_laws.proofs.FollowCalled.{same_follow}
use Rattle.fee_laws.proofs.Opened.{jobs_open}
use Rattle.fee_core.specs.Whole.{Whole, Sound, told_in, clock_in}
use Rattle.fee_core.proofs.Looking.{mark_at}
use Rattle.fee_core.proofs.Standing.{same_beside}
use Rattle.fee_core.proofs.Started.{told_at, clock_at}

-- with this room, at whose front its content stands; its fields show w of what was known, v
pub record HasOpened (m : Making) (entry : Told) (w v : Whole) (j : FeeJob) (content room : List ℕ) : Type 0 where
  pub sound : Sound m entry (record w { parts = opened j room w.parts })
  pub opens : Opens (record { number = j.number.0; mark = mark_of j.op content; urgent = j.urgent }) (told_in m entry v) (told_at m entry (opened j room w.parts))
  pub stays : ClockStays (clock_in m entry v) (told_at m entry (opened j room w.parts)) (clock_at m entry (opened j room w.parts))

module _ {m : Making} {entry : Told} {w v : Whole} (shown : w ≡ v) (sound : Sound m entry v) (started : v.parts.started ≡ true) (shut : v.parts.job ≡ None) {j : FeeJob} (job : IsJobOf m.numbers j) (few : j.length ≤ 4096) (promised : IsPromised m v.parts.banks j) where
  abbrev s : Parts
  s = w.parts

  safe : Sound m entry w
  safe = subst (Sound m entry) (sym shown) sound

  started' : s.started ≡ true
  started' = ap (λ (x : Whole). x.parts.started) shown ∙ started

  shut' : s.job ≡ None
  shut' = ap (λ (x : Whole). x.parts.job) shown ∙ shut

  pub opens : IsBanksState s.banks → IsLogState s.banks.log → (content room : List ℕ) → take (length content) room ≡ content → (j.op ≡ Write → j.length ≡ length content) → length room ≡ 4096 → HasOpened m entry w v j content room
  opens banks log content room front whole size =
      let promised' = subst (λ (x : Whole). IsPromised m x.parts.banks j) (sym shown) promised in
      let may : MayOpen m s j room = record { banks = banks; log = log; started = started'; shut = shut'; job = job; size = few; room = size; promised = promised' } in
      let is = jobs_open m entry s w.numbers w.reserve w.ops w.off j room safe.parts may in
      let u = opened j room s in
      let mark = mark_at j.op j.length room content front whole in
      record {
        sound = record { parts = is.0; follows = same_follow s u (same_beside m entry s w.numbers w.reserve w.ops w.off safe.parts started' shut' j room) safe.follows; wears = safe.wears; restarts = safe.restarts };
        opens = subst (λ (x : Whole). Opens (record { number = j.number.0; mark = mark_of j.op content; urgent = j.urgent }) (told_in m entry x) (told_at m entry u)) shown
            (subst (λ (x : Option Mark). Opens (record { number = j.number.0; mark = x; urgent = j.urgent }) (told_at m entry s) (told_at m entry u)) mark is.1);
        stays = subst (λ (x : Whole). ClockStays (clock_in m entry x) (told_at m entry u) (clock_at m entry u)) shown is.2;
      }
