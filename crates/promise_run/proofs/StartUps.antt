-- What a history tells of start-ups, and that a turn counts none.
use Rattle.std.proofs.Common.{◌≡◌, [], ◌∷◌, refl, ap, ◌∙◌, inl, inr, arith}
use Rattle.memif.specs.declared.answer.DeviceTurn.TheVariants.{Idle, Worked, Off}
use Rattle.memif.specs.Told.{Part, First, Second, PartTold, DeviceTold, part_at, with_part}
use Rattle.promise_run.specs.StartUps.{FoundsAdd, TurnsStartNone}

pub founds_add : FoundsAdd
founds_add [] more = omega arith
founds_add (e ∷ h) more = let rest = founds_add h more in omega (arith, rest)

-- a part's own counts are no start-ups
part_starts : (p : Part) (q : PartTold) (d : DeviceTold) → (with_part p q d).starts ≡ d.starts
part_starts First q d = refl
part_starts Second q d = refl

pub turns_start_none : TurnsStartNone
turns_start_none Idle old clock new clock_new turns = ap (λ (d : DeviceTold). d.starts) turns.0.1
turns_start_none Worked old clock new clock_new turns =
    let p = turns.0.1.0 in ap (λ (d : DeviceTold). d.starts) turns.0.1.1.only ∙ part_starts p (part_at p new) old
turns_start_none Off old clock new clock_new turns = elim turns.0.1.1 [
  | inl off ↦ ap (λ (d : DeviceTold). d.starts) off.2
  | inr cut ↦ let p = turns.0.1.0 in ap (λ (d : DeviceTold). d.starts) cut.0.only ∙ part_starts p (part_at p new) old
]
