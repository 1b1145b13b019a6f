-- Where the pair's last operation left a switch at its seal, it did so at the first device.
use Rattle.std.specs.Prelude.{min}
use Rattle.std.proofs.Common.{◌≡◌, ◌⊎◌, ℕ, suc, ◌<◌, ◌≤◌, ◌+◌, false, List, Bool, length, sym, ap, ◌∙◌, inl, inr, arith}
use Rattle.nv_base.specs.Count.{last_count}
use Rattle.memif.specs.Told.{DeviceTold}
use Rattle.memif.specs.Clock.{Clock, Seals}
use Rattle.memif.specs.Calls.{IsSealing}
use Rattle.memif_pair.specs.PairClock.{own, IsCourse, WasBoth}
use Rattle.memif_pair.specs.Laws.{Goes}
use Rattle.memif_pair.proofs.Courses.{length_push, own_few, own_front, own_step}

module _ (a anew : DeviceTold) (ca_new : Clock) (b : DeviceTold) (course next : List Bool) (is : IsCourse a b course) (goes : Goes false a.ops anew.ops course next) (is_new : IsCourse anew b next) where
  -- the operation of this turn
  now : (k : ℕ) → min (length course) last_count ≤ k → k < min (length next) last_count → own false next k ≡ a.ops
  now k le lt = elim goes.one [
    | inl still ↦ absurd (let e = ap length still.1 in omega (arith, e, le, lt))
    | inr more ↦
        let e = ap length more.1 in
        let l = length_push course false in
        let at : k ≡ length course = omega (arith, e, l, le, lt) in
        ap (own false next) at ∙ (ap (λ cs. own false cs (length course)) more.1 ∙ (own_front false course false (length course) (omega arith) ∙ is.first))
  ]

  pub seals_first : ((k : ℕ) → anew.ops ≡ k + 1 → anew.ops < last_count → ca_new.was Seals k → (a.ops ≤ k) ⊎ IsSealing a → IsSealing anew)
      → (k : ℕ) → min (length next) last_count ≡ k + 1 → min (length next) last_count < last_count → WasBoth next ca_new Seals k → (min (length course) last_count ≤ k) ⊎ IsSealing a → IsSealing anew
  seals_first seals k ops small out either =
      let all : length next ≡ suc k = omega (arith, ops, small) in
      let step : own false next (suc k) ≡ own false next k + 1 = own_step false next k false out.is in
      let few = own_few false next (length next) in
      let made = is_new.first in
      let mine : anew.ops ≡ own false next k + 1 = sym made ∙ (ap (own false next) all ∙ step) in
      seals (own false next k) mine (omega (arith, made, few, ops, small)) out.was (elim either [
        | inl le ↦ inl (let here = now k le (omega (arith, ops)) in omega (arith, here))
        | inr sealing ↦ inr sealing
      ])
