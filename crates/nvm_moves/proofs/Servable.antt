-- What may go on at a device is ready there.
use Rattle.nvm_moves.proofs.Common.{◌≡◌, inl, inr, ℕ, Bool, true, false, if◌then◌else◌, Option, refl, sym, ap, ◌∙◌, arith, DeviceTold, Clock, Seals, FreesReady, InOrder, Lasts, DeskState, state_of, HandState, IsPaired, none_first, MayGoOnAsTold, pages_open, pages_urgent, IsSealedSince, PowersOff, ◌||◌, is_off}
use Rattle.nvm_moves.proofs.DueAsked.{IsRoomy}
use Rattle.nvm_moves.proofs.DeviceServed.{not_urgent}

pub one_off : (a b : Bool) → a ≡ true → (a || b) ≡ true
one_off true b off = refl
one_off false b off = cc off

first_on : (a b : Bool) → (a || b) ≡ false → a ≡ false
first_on true b on = on
first_on false b on = refl

-- where no power cut stands at the device
pub still_on : (t u : Bool) → u ≡ false → (t ≡ true → u ≡ true) → t ≡ false
still_on true u on goes = absurd (let P : true ≡ false = sym (goes refl) ∙ on in cc P)
still_on false u on goes = refl

pub roomy : (since : ℕ) (desk : DeskState) (hand : Option HandState) (d last : DeviceTold) (clock end : Clock) → PowersOff desk d → IsSealedSince since d clock → InOrder d clock → FreesReady d clock → IsPaired desk.config (state_of desk) hand d → d.started ≡ true
    → Lasts d clock last end → IsRoomy (λ n. MayGoOnAsTold end d.fixed.reserve since d.ops n) desk.config (state_of desk) d
roomy since desk hand d last clock end power sealed order frees paired up lasts on standard n room =
    let calm = none_first d.fixed d.stand (not_urgent desk.config (state_of desk) hand d paired standard) in
    let off = still_on (is_off d) (state_of desk).off on power in
    elim room [
      | inl (free, spare, few) ↦
          let has = frees up (first_on d.first.off d.second.off off) free (lasts.past.spare d.ops free (omega arith) spare) in
          let none : pages_urgent d.fixed d.stand ≡ 0 = ap (λ (u : Bool). if u then pages_open d.fixed d.stand else 0) calm in omega (arith, has, none, few)
      | inr (seal, few) ↦
          let at = seal.is_last in
          let kept = (sealed off seal.last seal.later at seal.counted (lasts.past.was Seals seal.last (omega (arith, at)) seal.such)).ready calm in omega (arith, kept, few)
    ]
