-- The number that is copied next, as it is found in the lists of a log.
use Rattle.std.proofs.Common.{◌≡◌, ◌<◌, ℕ, Bool, List, length, Option, Some, sym, ap, ◌∙◌, subst}
use Rattle.std.specs.Prelude.{slice_index_or}
use Rattle.nv_base.specs.declared.instance.DeviceNumber.{DeviceNumber}
use Rattle.fee_image.specs.declared.place.Place.{Place}
use Rattle.fee_course.specs.declared.copies.Source.{Source}
use Rattle.fee_course.specs.Copies.{next_copy}
use Rattle.fee_switch.specs.Banks.{BanksState}
use Rattle.fee_switch.specs.Copy.{CanBegin, IsNext, CanCopy}

same_source : (a b : Source) (o : Option Source) → o ≡ Some a → o ≡ Some b → a ≡ b
same_source a b o e f = cc

-- with the lists of the banks as they show
module _ (s t : BanksState) (can : CanCopy s) (is : t ≡ s) (source : Source) (ns : List (DeviceNumber × ℕ)) (ps : List Place) (cs : List Bool) (found : Some source ≡ next_copy ns ps cs) (a : ns ≡ t.log.numbers) (b : ps ≡ t.log.places) (c : cs ≡ t.log.flags) where
  is_source : can.source ≡ source
  is_source = same_source can.source source (next_copy ns ps cs) (rw (a, b, c, is) can.next.first) (sym found)

  pub is_inside : source.index < length ns
  is_inside = rw (a, is, ← is_source) can.next.inside

  pub picked : (x d : DeviceNumber × ℕ) → x ≡ slice_index_or ns source.index d → IsNext s source x.0 × CanBegin s x.0 source
  picked x d at =
      let named = can.next.named d in
      let here : x ≡ slice_index_or s.log.numbers can.source.index d = rw (← is, ← a, is_source) at in
      let number : can.number ≡ x.0 = ap (λ (y : DeviceNumber × ℕ). y.0) (sym named ∙ sym here) in (
        subst (λ (n : DeviceNumber). IsNext s source n) number (subst (λ (y : Source). IsNext s y can.number) is_source can.next),
        subst (λ (n : DeviceNumber). CanBegin s n source) number (subst (λ (y : Source). CanBegin s can.number y) is_source can.can),
      )
