-- A turn of the first device with a job open, whatever it answers.
use Rattle.std.proofs.Common.{◌≡◌, false, ◌∙◌, sym, ap, subst, inl, inr}
use Rattle.memif.specs.declared.answer.DeviceTurn.{DeviceTurn}
use Rattle.memif.specs.declared.answer.DeviceTurn.TheVariants.{Idle, Worked, Off}
use Rattle.memif.specs.Told.{DeviceTold, Part, First, Second, Stand, Job, Open, Ended}
use Rattle.memif.specs.Clock.{Clock}
use Rattle.memif.specs.Calls.{InOrder, Works, IsCut, JobTurns, Turns}
use Rattle.memif_pair.specs.Pair.{is_second}
use Rattle.memif_pair.specs.Laws.{FirstTurns}
use Rattle.memif_pair.proofs.Orders.{IsFirstJob}
use Rattle.memif_pair.proofs.Turning.{turns_both}

module _ (a : DeviceTold) (ca : Clock) (anew : DeviceTold) (ca_new : Clock) where
  fixed_worked : (p : Part) → Works p a anew ca_new → anew.fixed ≡ a.fixed
  fixed_worked First works = ap (λ (d : DeviceTold). d.fixed) works.only
  fixed_worked Second works = ap (λ (d : DeviceTold). d.fixed) works.only

  pub fixed_cut : (p : Part) → IsCut p a anew → (anew.fixed ≡ a.fixed) × (anew.stand ≡ a.stand)
  fixed_cut First cut = (ap (λ (d : DeviceTold). d.fixed) cut.only, ap (λ (d : DeviceTold). d.stand) cut.only)
  fixed_cut Second cut = (ap (λ (d : DeviceTold). d.fixed) cut.only, ap (λ (d : DeviceTold). d.stand) cut.only)

  pub fixed_is : (answer : DeviceTurn) → Turns answer a ca anew ca_new → anew.fixed ≡ a.fixed
  fixed_is Idle turns = ap (λ (d : DeviceTold). d.fixed) turns.0.1
  fixed_is Worked turns = fixed_worked turns.0.1.0 turns.0.1.1
  fixed_is Off turns = elim turns.0.1.1 [ inl still ↦ ap (λ (d : DeviceTold). d.fixed) still.2 | inr cut ↦ (fixed_cut turns.0.1.0 cut.0).0 ]

  job_stays : (b : DeviceTold) (p : Part) (j : Job) (s : Stand) → is_second b.fixed.numbers j.number ≡ false → JobTurns p (Open j) s a anew ca_new → IsFirstJob b s
  job_stays b p j (Open k) of turns = subst (λ (x : Job). is_second b.fixed.numbers x.number ≡ false) (sym turns.0) of
  job_stays b p j (Ended r given) of turns = tt

  pub job_is : (b : DeviceTold) (j : Job) → a.stand ≡ Open j → is_second b.fixed.numbers j.number ≡ false → (answer : DeviceTurn) → Turns answer a ca anew ca_new → IsFirstJob b anew.stand
  job_is b j on of Idle turns = subst (IsFirstJob b) (sym on ∙ sym (ap (λ (d : DeviceTold). d.stand) turns.0.1)) of
  job_is b j on of Worked turns = job_stays b turns.0.1.0 j anew.stand of (subst (λ (s : Stand). JobTurns turns.0.1.0 s anew.stand a anew ca_new) on turns.0.1.1.job)
  job_is b j on of Off turns = elim turns.0.1.1 [
    | inl still ↦ subst (IsFirstJob b) (sym on ∙ sym (ap (λ (d : DeviceTold). d.stand) still.2)) of
    | inr cut ↦ subst (IsFirstJob b) (sym on ∙ sym (fixed_cut turns.0.1.0 cut.0).1) of
  ]

pub first_turns : (answer : DeviceTurn) (a : DeviceTold) (ca : Clock) (anew : DeviceTold) (ca_new : Clock) (b : DeviceTold) (cb : Clock) → InOrder b cb → Turns answer a ca anew ca_new
    → FirstTurns answer a ca anew ca_new b cb
first_turns answer a ca anew ca_new b cb order turns course next j pair is goes on of closed up =
    turns_both a ca anew ca_new b cb course next pair is goes (fixed_is a ca anew ca_new answer turns) j of answer order closed up on (job_is a ca anew ca_new b j on of answer turns) turns
