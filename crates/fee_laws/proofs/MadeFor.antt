-- The parts of a device stay made for what they were.
use Rattle.std.specs.Prelude.{IfSome, length}
use Rattle.std.proofs.Common.{◌≡◌, ◌≢◌, ◌≤◌, ap, ◌∙◌, subst}
use Rattle.nv_base.specs.Geometry.{IsLegal}
use Rattle.memif.specs.declared.answer.JobResult.TheVariants.{JobPending}
use Rattle.fls_model.specs.Attach.{AreBytesOf}
use Rattle.fls_jobs.specs.State.{FlsState}
use Rattle.fee_switch_laws.specs.fee_switch.Banks.{IsBanksState, IsSameFlash}
use Rattle.promise_device.specs.Making.{Making}
use Rattle.fee_laws.specs.Inside.{Parts, IsMadeFor}

-- over the same driver, whatever its flash tells, and banks of the same shape
pub still_made : (m : Making) (s t : Parts) → IsMadeFor m s → t.fls ≡ record s.fls { flash = t.fls.flash; result = t.fls.result } → IfSome t.fls.flash.bytes (λ b. AreBytesOf m.geometry b.now) → IsSameFlash s.banks t.banks
    → length t.content ≡ 4096 → t.given ≤ 4096 → t.last ≢ JobPending → IsMadeFor m t
still_made m s t made driver bytes banks room given ended = record {
  geometry = ap (λ (x : FlsState). x.geometry) driver ∙ made.geometry;
  idle = record { job = ap (λ (x : FlsState). x.job) driver ∙ made.idle.job; attached = ap (λ (x : FlsState). x.attached) driver ∙ made.idle.attached };
  banks_geometry = banks.geometry ∙ made.banks_geometry;
  shared = banks.banks ∙ made.shared;
  numbers = banks.numbers ∙ made.numbers;
  space = made.space;
  bytes = bytes;
  room = room;
  given = given;
  ended = ended;
}

-- its geometry is legal
pub legal_made : (m : Making) (s : Parts) → IsMadeFor m s → IsBanksState s.banks → IsLegal m.geometry
legal_made m s made state = subst IsLegal made.banks_geometry state.legal
