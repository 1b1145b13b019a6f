-- The status of both is that of the pair.
use Rattle.std.specs.Prelude.{◌&&◌}
use Rattle.std.proofs.Common.{◌≡◌, Bool, true, false, if◌then◌else◌, List, refl, sym, ap, ◌∙◌}
use Rattle.memif.specs.declared.answer.MemStatus.{MemStatus}
use Rattle.memif.specs.declared.answer.MemStatus.TheVariants.{Uninit, Idle, Busy, BusyInternal}
use Rattle.memif.specs.Told.{DeviceTold, Stand, is_open, status_of}
use Rattle.memif_pair.specs.Pair.{told_both, stand_both}
use Rattle.memif_pair.specs.Together.{AreTogether, status_both}

abbrev status_by : Bool → Bool → Bool → MemStatus
status_by up at_job busy = if up then (if at_job then Busy else (if busy then BusyInternal else Idle)) else Uninit

both_by : (last ua ub oa ob sa sb : Bool) → (oa ≡ true → last ≡ false) → (ob ≡ true → last ≡ true) → status_both (status_by ua oa sa) (status_by ub ob sb) ≡ status_by (ua && ub) (if last then ob else oa) sa
both_by last false ub oa ob sa sb one two = refl
both_by last true false true ob sa sb one two = refl
both_by last true false false ob true sb one two = refl
both_by last true false false ob false sb one two = refl
both_by true true true true ob sa sb one two = (let wrong : true ≡ false = one refl in cc wrong)
both_by false true true true true sa sb one two = refl
both_by false true true true false sa true one two = refl
both_by false true true true false sa false one two = refl
both_by true true true false true true sb one two = refl
both_by true true true false true false sb one two = refl
both_by false true true false true sa sb one two = (let wrong : false ≡ true = two refl in cc wrong)
both_by true true true false false true true one two = refl
both_by true true true false false true false one two = refl
both_by true true true false false false true one two = refl
both_by true true true false false false false one two = refl
both_by false true true false false true true one two = refl
both_by false true true false false true false one two = refl
both_by false true true false false false true one two = refl
both_by false true true false false false false one two = refl

open_is : (last : Bool) (s t : Stand) → is_open (stand_both last s t) ≡ (if last then is_open t else is_open s)
open_is true s t = refl
open_is false s t = refl

pub status_is : (a b : DeviceTold) (last : Bool) (course : List Bool) → AreTogether a b last course → status_both (status_of a) (status_of b) ≡ status_of (told_both a b last course)
status_is a b last course t =
    both_by last a.started b.started (is_open a.stand) (is_open b.stand) a.switching b.switching t.one.first t.one.second
    ∙ ap (λ (o : Bool). status_by (a.started && b.started) o a.switching) (sym (open_is last a.stand b.stand))
