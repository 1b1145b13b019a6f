use Rattle.std.proofs.Common.{inl, inr, refl, arith}
use Rattle.std.proofs.lemmas.Bool.{false≢true}
use Rattle.fls_told.specs.Cases.{sound, unsound}
use Rattle.fls_told.proofs.cases.images_found.Goals as goal

pub returns-clause-first : goal.returns-clause-first
returns-clause-first c = record { told = inr (refl, refl); made = omega arith; small = omega arith; image = unsound; is = refl; finds = λ n. refl }

pub returns-clause-later : goal.returns-clause-later
returns-clause-later c m found = elim found.told [ inl told ↦ absurd (false≢true told) | inr first ↦ (let none = first.0 in cc none) ]

pub returns-clause-cut : goal.returns-clause-cut
returns-clause-cut c m found = absurd (false≢true found.told)

pub returns-clause-sound_later : goal.returns-clause-sound_later
returns-clause-sound_later c = record { told = inl refl; made = omega arith; small = omega arith; image = sound; is = refl; finds = λ n. refl }
