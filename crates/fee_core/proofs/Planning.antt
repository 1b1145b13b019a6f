-- A plan of a power cut, from what its call answers.
use Rattle.std.proofs.Common.{◌≡◌, ℕ, refl, sym, subst}
use Rattle.memif.specs.Calls.{Arms}
use Rattle.fls_model.specs.Told.{Told, armed}
use Rattle.fls_jobs.specs.State.{FlsState}
use Rattle.promise_device.specs.Making.{Making}
use Rattle.fee_laws.specs.Parts.{with_plan}
use Rattle.fee_laws.proofs.Arming.{plans_are_sound}
use Rattle.fee_core.specs.Whole.{Whole, Sound, told_in, clock_in}
use Rattle.fee_core.proofs.Started.{told_at, clock_at}

-- as its fields show it, w, of what is known, v
pub plans : {m : Making} {entry : Told} {w v : Whole} → w ≡ v → Sound m entry v → (nth keep : ℕ) {f : FlsState} → f ≡ record w.parts.fls { flash = armed nth keep w.parts.fls.flash }
    → Sound m entry (record w { parts = record w.parts { fls = f } }) × Arms 0 nth keep (told_in m entry v) (clock_in m entry v) (told_at m entry (record w.parts { fls = f })) (clock_at m entry (record w.parts { fls = f }))
plans {m} {entry} {w} {v} shown sound nth keep is =
    let safe = subst (Sound m entry) (sym shown) sound in
    let plan = plans_are_sound nth keep m entry w.parts w.numbers w.reserve w.ops w.off safe.parts in
    let t = with_plan nth keep w.parts in
    let own : Arms 0 nth keep (told_in m entry w) (clock_in m entry w) (told_at m entry t) (clock_at m entry t) = (refl, plan.1) in
    subst (λ (x : FlsState). Sound m entry (record w { parts = record w.parts { fls = x } }) × Arms 0 nth keep (told_in m entry v) (clock_in m entry v) (told_at m entry (record w.parts { fls = x })) (clock_at m entry (record w.parts { fls = x }))) (sym is) (
      record { parts = plan.0; follows = safe.follows; wears = safe.wears; restarts = safe.restarts },
      subst (λ (x : Whole). Arms 0 nth keep (told_in m entry x) (clock_in m entry x) (told_at m entry t) (clock_at m entry t)) shown own,
    )
