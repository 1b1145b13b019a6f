-- The turns of a switch that begins, by what the bytes of the active bank show.
use Rattle.std.specs.Prelude.{[], ◌∷◌}
use Rattle.std.specs.Option.{option_map_or}
use Rattle.std.proofs.Common.{◌≡◌, ◌+◌, ℕ, false, List, Option, Some, None, refl, ap, ◌∙◌, arith}
use Rattle.nv_base.specs.Geometry.{sectors_of_bank}
use Rattle.nv_base.specs.declared.instance.DeviceNumber.{DeviceNumber}
use Rattle.fee_format.specs.declared.rec_head.RecHead.{RecHead}
use Rattle.fee_format.specs.declared.rec_head.RecordKind.{RecordKind}
use Rattle.fee_format.specs.declared.rec_head.RecordKind.TheVariants as kind
use Rattle.fee_image.specs.Found.{last_record}
use Rattle.fee_image.specs.Places.{place_of_kind, place_shown, places_of}
use Rattle.fee_image.specs.RecordList.{Rec}
use Rattle.fee_image.specs.declared.place.Place.{Place}
use Rattle.fee_switch_laws.specs.fee_log.Index.{clear_flags}
use Rattle.fee_switch_laws.specs.fee_log.Log.{work_in}
use Rattle.fee_course.specs.declared.course.Course.TheVariants.{Erase}
use Rattle.fee_course.specs.Copies.{copies_left, as_appended, as_cleared, turns_of}
use Rattle.fee_switch_laws.specs.fee_switch.Banks.{BanksState, begun_again, index_of, left_of}
use Rattle.promise_device.specs.Room.{copy_turns, copies_due}

-- a copy of the record at a place, and of all
turns_by : (p length at count : ℕ) (k : RecordKind) → turns_of p length (place_of_kind k at count) false ≡ copy_turns p length k
turns_by p length at count kind.Content = refl
turns_by p length at count kind.Invalid = refl
turns_by p length at count kind.Erased = refl

turns_shown : (p length : ℕ) (o : Option Rec) → turns_of p length (place_shown o) false ≡ option_map_or (λ r. copy_turns p length r.head.kind) o 0
turns_shown p length None = refl
turns_shown p length (Some r) = turns_by p length r.at r.head.count r.head.kind

copies_are_due : (p : ℕ) (ns : List (DeviceNumber × ℕ)) (records : List Rec) → copies_left p ns (places_of ns records) (clear_flags ns) ≡ copies_due p ns records
copies_are_due p [] records = refl
copies_are_due p (n ∷ ns) records =
    let one = turns_shown p n.1 (last_record n.0.0 n.1 records) in
    let rest = copies_are_due p ns records in
    λ i. one i + rest i

pub copies_of : (p : ℕ) (ns : List (DeviceNumber × ℕ)) (places : List Place) (records : List Rec) → places ≡ places_of ns records → copies_left p ns places (clear_flags ns) ≡ copies_due p ns records
copies_of p ns places records placed = ap (λ (ps : List Place). copies_left p ns ps (clear_flags ns)) placed ∙ copies_are_due p ns records

-- the switch, where no record is in work
pub begins_with : (s : BanksState) → work_in s.log.tail ≡ None → left_of (begun_again s (Erase 0)) ≡ sectors_of_bank s.geometry s.banks + copies_left s.geometry.page s.log.numbers s.log.places (clear_flags s.log.numbers) + 2
begins_with s idle =
    let ns = s.log.numbers in
    let same : copies_left s.geometry.page ns (as_appended (index_of ns (work_in s.log.tail)) s.log.places) (as_cleared (index_of ns (work_in s.log.tail)) (clear_flags ns)) ≡ copies_left s.geometry.page ns s.log.places (clear_flags ns) =
    ap (λ (o : Option RecHead). copies_left s.geometry.page ns (as_appended (index_of ns o) s.log.places) (as_cleared (index_of ns o) (clear_flags ns))) idle in
    omega (arith, same)
