-- A plan of a power cut is one of the pair.
use Rattle.std.specs.Prelude.{◌==◌}
use Rattle.std.proofs.Common.{◌≡◌, ℕ, Bool, true, false, refl, sym, ap, subst, inl, inr, arith}
use Rattle.std.proofs.lemmas.Bool.{cases_Bool}
use Rattle.std.proofs.lemmas.Bool.Decides.{nat_tests}
use Rattle.memif.specs.Told.{DeviceTold, Stand, is_open}
use Rattle.memif.specs.Clock.{Clock}
use Rattle.memif.specs.Calls.{InOrder, Arms}
use Rattle.memif_pair.specs.Pair.{told_both}
use Rattle.memif_pair.specs.Together.{AreTogether, IsOwnJob, OfPair}
use Rattle.memif_pair.proofs.Clocks.{same_self}
use Rattle.memif_pair.proofs.Together.{together_both, clock_stays}

pub arms_first : (nth keep : ℕ) (last : Bool) (a : DeviceTold) (ca : Clock) (b : DeviceTold) (cb : Clock) (anew : DeviceTold) (ca_new : Clock) → Arms 0 nth keep a ca anew ca_new → InOrder b cb → OfPair (Arms 0 nth keep) last last a ca b cb anew ca_new b cb
arms_first nth keep last a ca b cb anew ca_new arms order course t =
    let stand : anew.stand ≡ a.stand = ap (λ (d : DeviceTold). d.stand) arms.0 in
    let together : AreTogether anew b last course =
    together_both a anew b b last last course t (ap (λ (d : DeviceTold). d.fixed) arms.0) (ap (λ (d : DeviceTold). d.ops) arms.0) refl refl
    (record { first = λ on. t.one.first (subst (λ (s : Stand). is_open s ≡ true) stand on); second = t.one.second })
    (subst (IsOwnJob false b) (sym stand) t.first_job) t.second_job in
    ((ap (λ (d : DeviceTold). told_both d b last course) arms.0, clock_stays a anew ca ca_new b b cb cb last course together refl arms.1.same (same_self cb) arms.1.order order), together)

pub arms_second : (nth keep : ℕ) (last : Bool) (a : DeviceTold) (ca : Clock) (b : DeviceTold) (cb : Clock) (bnew : DeviceTold) (cb_new : Clock) → Arms 0 nth keep b cb bnew cb_new → InOrder a ca → OfPair (Arms 1 nth keep) last last a ca b cb a ca bnew cb_new
arms_second nth keep last a ca b cb bnew cb_new arms order course t =
    let stand : bnew.stand ≡ b.stand = ap (λ (d : DeviceTold). d.stand) arms.0 in
    let together : AreTogether a bnew last course =
    together_both a a b bnew last last course t refl refl (ap (λ (d : DeviceTold). d.fixed) arms.0) (ap (λ (d : DeviceTold). d.ops) arms.0)
    (record { first = t.one.first; second = λ on. t.one.second (subst (λ (s : Stand). is_open s ≡ true) stand on) })
    t.first_job (subst (IsOwnJob true b) (sym stand) t.second_job) in
    ((ap (λ (d : DeviceTold). told_both a d last course) arms.0, clock_stays a a ca ca b bnew cb cb_new last course together (ap (λ (d : DeviceTold). d.fixed) arms.0) (same_self ca) arms.1.same order arms.1.order), together)

not_this : (which n : ℕ) → (which ≡ n → ⊥) → (which == n) ≡ false
not_this which n other = elim (cases_Bool (which == n)) [
  | inr off ↦ off
  | inl on ↦ (let same : which ≡ n = grind (arith, nat_tests, on) in absurd (other same))
]

-- no part has this number
pub arms_none : (which nth keep : ℕ) (last : Bool) (a : DeviceTold) (ca : Clock) (b : DeviceTold) (cb : Clock) → (which ≡ 0 → ⊥) → (which ≡ 1 → ⊥) → InOrder a ca → InOrder b cb → OfPair (Arms which nth keep) last last a ca b cb a ca b cb
arms_none which nth keep last a ca b cb zero one first second course t =
    ((rw (not_this which 0 zero, not_this which 1 one) refl, clock_stays a a ca ca b b cb cb last course t refl (same_self ca) (same_self cb) first second), t)
