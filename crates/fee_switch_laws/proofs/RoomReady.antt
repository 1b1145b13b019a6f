-- What the next step of a switch asks for.
use Rattle.std.proofs.Common.{◌≡◌, ◌<◌, ◌≤◌, ◌+◌, ◌-◌, ◌*◌, ◌/◌, ℕ, zero, suc, true, List, [], ◌∷◌, length, Option, Some, None, refl, sym, ap, ◌∙◌, subst, arith}
use Rattle.std.specs.Prelude.{◌^◌, slice_get, is_some, IfSome}
use Rattle.std.proofs.lemmas.Option.{slice_get_within, get_or_from_slice_get}
use Rattle.std.proofs.Math.Nat.{div-add-mod, mul_comm, mul-le-mul_right, le-min}
use Rattle.nv_base.specs.declared.geometry.Geometry.{Geometry}
use Rattle.nv_base.specs.declared.instance.DeviceNumber.{DeviceNumber}
use Rattle.nv_base.specs.Geometry.{IsLegal, HasBanks, pages_of_bank, pages_of_sector, sectors_of_bank, size_of_bank}
use Rattle.nv_base.specs.Pages.{record_pages_of, body_pages_of}
use Rattle.nv_base.proofs.Places.{numbers_are_in_bounds}
use Rattle.fee_format.specs.declared.rec_head.RecHead.{RecHead}
use Rattle.fee_image.specs.RecordList.{pages_of_head}
use Rattle.fee_image.specs.declared.place.Place.{Place}
use Rattle.fee_image.specs.declared.place.Place.TheVariants.{Content, Invalid, Erased, Unwritten}
use Rattle.fee_image.specs.Places.{IsWithin, count_at}
use Rattle.fee_image.proofs.Bodies.{bodies_have_room}
use Rattle.fee_image.proofs.Sectors.{sectors_fill_banks}
use Rattle.fee_log.specs.declared.tail.Tail.TheVariants.{Open}
use Rattle.fee_log.specs.Index.{AreCounted, AreWithin}
use Rattle.fee_log.specs.Log.{IsLogState, IsFor, work_in, taken_in, free_behind, free_in, pages_in}
use Rattle.fee_course.specs.declared.copies.Source.{Source}
use Rattle.fee_course.specs.declared.course.Copying.{Copying}
use Rattle.fee_course.specs.declared.course.Course.{Course}
use Rattle.fee_course.specs.declared.course.Course.TheVariants.{Erase, Copy, Head, Gate}
use Rattle.fee_course.specs.Copies.{next_copy}
use Rattle.fee_switch.specs.Banks.{BanksState, IsBanksState}
use Rattle.fee_switch.specs.Reading.{buffer_size}
use Rattle.fee_switch.specs.Copy.{head_at, CanBegin, CanCopy, CanCopyOn, CanGoOn}
use Rattle.fee_switch_laws.specs.Space.{HasSpace}
use Rattle.fee_switch_laws.specs.KeepsRoom.{IsRoomy}
use Rattle.fee_switch_laws.specs.RoomLaws.{StepsMayBeMade}
use Rattle.fee_switch_laws.proofs.RoomNext.{IsChosen, chosen}
use Rattle.fee_switch_laws.proofs.RoomPages.{mark_pages, set_takes}

-- SHAPES
-- the pages of a bank are its bytes
bank_bytes : (g : Geometry) (banks : ℕ) → IsLegal g → HasBanks g banks → pages_of_bank g banks * g.page ≡ size_of_bank g banks
bank_bytes g banks legal shared =
    let m = sectors_of_bank g banks in
    let k = pages_of_sector g in
    let sector : g.sector ≡ k * g.page = omega (arith, div-add-mod g.sector g.page, mul_comm g.page (g.sector / g.page), legal.whole_pages) in
    let pages : pages_of_bank g banks ≡ m * k = sectors_fill_banks g banks legal shared in
    ap (λ (x : ℕ). x * g.page) pages ∙ (let e : m * k * g.page ≡ m * (k * g.page) = grind arith in e) ∙ sym (ap (λ (x : ℕ). m * x) sector)

-- so a number's content whose record has so many pages fits the buffer
pub fits_buffer : (s : BanksState) (length' : ℕ) → IsBanksState s → length' ≤ 4096
    → record_pages_of length' s.geometry.page ≤ pages_of_bank s.geometry s.banks → length' ≤ length s.buffer
fits_buffer s length' is small le =
    let p = s.geometry.page in
    let low : 1 ≤ p = omega (arith, is.legal.page_low) in
    let body = bodies_have_room length' p low in
    let all : body_pages_of length' p * p ≤ pages_of_bank s.geometry s.banks * p = mul-le-mul_right p (omega arith) in
    let bytes = bank_bytes s.geometry s.banks is.legal is.shared in
    let both : length' ≤ buffer_size s.geometry s.banks = le-min (omega (arith, body, all, bytes)) small in
    omega (arith, both, is.buffer)

-- A COPY THAT BEGINS
-- the place of a number lies among the records
index_within : (p end : ℕ) (ns : List (DeviceNumber × ℕ)) (places : List Place) (i : ℕ) (n : DeviceNumber × ℕ) (x : Place)
    → AreWithin p end ns places → slice_get ns i ≡ Some n → slice_get places i ≡ Some x → IsWithin p end n.1 x
index_within p end [] places i n x within is at = cc
index_within p end (m ∷ ns) [] i n x within is at = absurd within
index_within p end (m ∷ ns) (place ∷ places) zero n x within is at =
    let same : m ≡ n = cc in
    let here : place ≡ x = cc in
    subst (λ (y : DeviceNumber × ℕ). IsWithin p end y.1 x) same (subst (IsWithin p end m.1) here within.0)
index_within p end (m ∷ ns) (place ∷ places) (suc i) n x within is at = index_within p end ns places i n x within.1 is at

-- its record is of the number
for_number : (ns : List (DeviceNumber × ℕ)) (i length' : ℕ) (number : DeviceNumber) (place : Place) → slice_get ns i ≡ Some (number, length') → count_at place < 2 ^ 32
    → IsFor ns (head_at place number length')
for_number ns i length' number (Content at count) is few =
    record { length = length'; configured = (i, slice_get_within ns i (number, length') is, get_or_from_slice_get ns i (number, length') (number, length') is); kind = refl; count = few }
for_number ns i length' number (Invalid count) is few =
    record { length = length'; configured = (i, slice_get_within ns i (number, length') is, get_or_from_slice_get ns i (number, length') (number, length') is); kind = refl; count = few }
for_number ns i length' number (Erased count) is few =
    record { length = length'; configured = (i, slice_get_within ns i (number, length') is, get_or_from_slice_get ns i (number, length') (number, length') is); kind = refl; count = few }
for_number ns i length' number Unwritten is few =
    record { length = length'; configured = (i, slice_get_within ns i (number, length') is, get_or_from_slice_get ns i (number, length') (number, length') is); kind = refl; count = few }

counted_at : (places : List Place) (i : ℕ) (place : Place) → AreCounted places → slice_get places i ≡ Some place → count_at place < 2 ^ 32
counted_at [] i place all is = cc
counted_at (x ∷ xs) zero place all is = let same : x ≡ place = cc in subst (λ (p : Place). count_at p < 2 ^ 32) same all.0
counted_at (x ∷ xs) (suc i) place all is = counted_at xs i place all.1 is

-- and has no more pages than its content
head_pages : (p length' : ℕ) (number : DeviceNumber) (place : Place) → 16 ≤ p → record_pages_of (head_at place number length').length p ≤ record_pages_of length' p
head_pages p length' number (Content at count) low = omega arith
head_pages p length' number (Invalid count) low = mark_pages p length' low
head_pages p length' number (Erased count) low = mark_pages p length' low
head_pages p length' number Unwritten low = mark_pages p length' low

module _ (reserve : ℕ) (s : BanksState)
    (is : IsBanksState s) (state : IsLogState s.log) (space : HasSpace s.log.numbers s.geometry s.banks reserve) where
  abbrev page : ℕ
  page = s.geometry.page

  abbrev most : ℕ
  most = pages_of_bank s.geometry s.banks

  can_begin : IsRoomy reserve s (Copy None) → (source : Source) (number : DeviceNumber) → IsChosen s.log.numbers s.log.places s.log.flags source
      → slice_get s.log.numbers source.index ≡ Some (number, source.length) → CanBegin s number source
  can_begin r source number h named =
      let n : DeviceNumber × ℕ = (number, source.length) in
      let takes = set_takes page s.log.numbers s.log.flags source.index n named h.clear in
      let tail : s.copies.tail ≡ Open = r.target.work in
      let taken : taken_in page s.copies.tail ≡ 0 = ap (taken_in page) tail in
      let pages : pages_in s.copies ≡ most = λ i. pages_of_bank (is.copies.shape i) (is.copies.shared i) in
      let free : free_in s.copies ≡ pages_in s.copies - (s.copies.end + 0) = ap (free_behind s.copies.geometry.page (pages_in s.copies) s.copies.end) tail in
      record {
        within = subst (λ (g : Geometry). IsWithin g.page s.log.end source.length source.place) is.log.shape
            (index_within s.log.geometry.page s.log.end s.log.numbers s.log.places source.index n source.place state.places named h.place);
        fits = fits_buffer s source.length is (numbers_are_in_bounds 0 s.log.numbers source.index n state.numbers named).3 (omega (arith, takes, r.room));
        idle = ap work_in tail;
        configured = subst (λ (ns : List (DeviceNumber × ℕ)). IsFor ns (head_at source.place number source.length)) (sym is.numbers)
            (for_number s.log.numbers source.index source.length number source.place named (counted_at s.log.places source.index source.place state.counts h.place));
        room = omega (arith, head_pages page source.length number source.place is.legal.page_low, takes, r.room, taken, free, pages);
      }

  can_copy : IsRoomy reserve s (Copy None) → (o : Option Source) → next_copy s.log.numbers s.log.places s.log.flags ≡ o → is_some o ≡ true → CanCopy s
  can_copy r None first some = absurd cc
  can_copy r (Some source) first some =
      let h = chosen s.log.numbers s.log.places s.log.flags source first in
      record {
        source = source;
        number = h.number;
        next = record {
          first = first;
          inside = slice_get_within s.log.numbers source.index (h.number, source.length) h.named;
          named = λ d. get_or_from_slice_get s.log.numbers source.index (h.number, source.length) d h.named;
        };
        can = can_begin r source h.number h h.named;
      }

  -- A COPY THAT GOES ON
  can_copy_on : (w : Copying) → IsRoomy reserve s (Copy (Some w)) → CanCopyOn s
  can_copy_on w r =
      let work = r.target.work in
      let taken : taken_in page s.copies.tail ≡ pages_of_head page work.head = ap (taken_in page) work.tail in
      let in_work : work_in s.copies.tail ≡ Some work.head = ap work_in work.tail in
      let configured = numbers_are_in_bounds 0 s.log.numbers w.index (work.head.number, work.length) state.numbers work.named in
      let small : work.head.length ≤ 4096 = omega (arith, work.fits, configured.3) in
      let fits : work.head.length ≤ length s.buffer = fits_buffer s work.head.length is small (omega (arith, taken, r.room)) in
      record {
        work = ap is_some in_work;
        fits = λ h at. (let same : work.head ≡ h = cc in subst (λ (x : RecHead). x.length ≤ length s.buffer) same fits);
      }

  pub can_go_on : (o : Option Course) → IfSome o (IsRoomy reserve s) → IfSome o (CanGoOn s)
  can_go_on None r = tt
  can_go_on (Some (Erase done)) r = tt
  can_go_on (Some (Copy None)) r = can_copy r (next_copy s.log.numbers s.log.places s.log.flags) refl r.going.fitting
  can_go_on (Some (Copy (Some w))) r = can_copy_on w r
  can_go_on (Some Head) r = tt
  can_go_on (Some (Gate failed)) r = tt

pub steps_may_be_made : StepsMayBeMade
steps_may_be_made reserve s is state keeps = can_go_on reserve s is state keeps.space s.course keeps.switch
