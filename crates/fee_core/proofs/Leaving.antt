-- The turns of a record and of a switch.
use Rattle.std.specs.Prelude.{is_some, IfSome}
use Rattle.std.proofs.Common.{◌≡◌, ◌+◌, ℕ, true, List, [], ◌∷◌, Option, Some, None, refl, ap, ◌∙◌, subst, arith}
use Rattle.nv_base.specs.Pages.{record_pages_of}
use Rattle.nv_base.specs.declared.instance.DeviceNumber.{DeviceNumber}
use Rattle.fee_format.specs.declared.rec_head.RecHead.{RecHead}
use Rattle.fee_image.specs.RecordList.{pages_of_head}
use Rattle.fee_image.specs.declared.place.Place.{Place}
use Rattle.fee_image.specs.Places.{erased_places}
use Rattle.fee_laws.specs.fee_log.declared.tail.Tail.{Tail}
use Rattle.fee_laws.specs.fee_log.declared.tail.Tail.TheVariants.{Open, Writes, Owes, Closed}
use Rattle.fee_laws.specs.fee_log.Index.{clear_flags}
use Rattle.fee_laws.specs.fee_log.Log.{LogState, work_in, left_in}
use Rattle.fee_laws.specs.fee_switch.declared.active.ActiveBank.{ActiveBank}
use Rattle.fee_course.specs.Copies.{copies_left, as_cleared, as_appended}
use Rattle.fee_laws.specs.fee_switch.Banks.{BanksState, index_of}
use Rattle.fee_laws.specs.fee_told.Figures.{turns_owed}
use Rattle.fee_laws.specs.declared.job.FeeJob.{FeeJob}
use Rattle.fee_laws.specs.Inside.{IsActiveOf}
use Rattle.fee_laws.specs.Record.{head_of}
use Rattle.fee_laws.specs.Work.{pages_left, is_owed}

-- of a record in work
pub record_left : (p wanted : ℕ) (t : Tail) (log : LogState) (j : FeeJob) → is_some (work_in t) ≡ true → IfSome (work_in t) (λ h. h ≡ head_of log h.kind j) → wanted ≡ record_pages_of j.length p
    → left_in p t ≡ pages_left p wanted t + turns_owed (is_owed t)
record_left p wanted Open log j some of is = cc some
record_left p wanted (Writes head done) log j some of is = omega arith
record_left p wanted (Owes head None) log j some of is = cc some
record_left p wanted (Owes head (Some next)) log j some of is = (let same : pages_of_head p next ≡ record_pages_of j.length p = ap (λ (h : RecHead). pages_of_head p h) of in omega (arith, same, is))
record_left p wanted Closed log j some of is = cc some

-- of a switch without an active bank
copies_none : (p : ℕ) (ns : List (DeviceNumber × ℕ)) → copies_left p ns (erased_places ns) (clear_flags ns) ≡ 0
copies_none p [] = refl
copies_none p (x ∷ xs) = (let rest = copies_none p xs in omega (arith, rest))

pub blank_copies : (b : BanksState) → IsActiveOf b b.active → b.active ≡ None → work_in b.log.tail ≡ None
    → let appended = index_of b.log.numbers (work_in b.log.tail) in
    copies_left b.geometry.page b.log.numbers (as_appended appended b.log.places) (as_cleared appended (clear_flags b.log.numbers)) ≡ 0
blank_copies b active none idle =
    let blank = subst (λ (o : Option ActiveBank). IsActiveOf b o) none active in
    let places : b.log.places ≡ erased_places b.log.numbers = ap (λ (log : LogState). log.places) blank in
    ap (λ (o : Option RecHead). copies_left b.geometry.page b.log.numbers (as_appended (index_of b.log.numbers o) b.log.places) (as_cleared (index_of b.log.numbers o) (clear_flags b.log.numbers))) idle
    ∙ ap (λ (pl : List Place). copies_left b.geometry.page b.log.numbers pl (clear_flags b.log.numbers)) places
    ∙ copies_none b.geometry.page b.log.numbers
