-- What each change of a log keeps.
use Rattle.std.proofs.Common.{◌≡◌, ℕ, ◌<◌, ◌≤◌, ◌+◌, ◌-◌, false, List, Option, Some, None, refl, ◌∙◌, ap, subst, arith}
use Rattle.std.proofs.lemmas.Option.{slice_get-get_or}
use Rattle.nv_base.specs.declared.instance.DeviceNumber.{DeviceNumber}
use Rattle.nv_base.specs.declared.geometry.Geometry.{Geometry}
use Rattle.nv_base.specs.Geometry.{IsLegal, HasBanks, pages_of_bank}
use Rattle.nv_base.specs.Lengths.{AreLengths}
use Rattle.nv_base.specs.Pages.{record_pages_of}
use Rattle.fee_format.specs.declared.rec_head.RecHead.{RecHead}
use Rattle.fee_format.specs.declared.rec_head.RecordKind.{RecordKind}
use Rattle.fee_format.specs.declared.rec_head.RecordKind.TheVariants as kind
use Rattle.fee_format.specs.Formats.{new_format}
use Rattle.fee_format.specs.RecHead.{IsLengthOfKind, IsLegalRecHead}
use Rattle.fee_image.specs.RecordList.{pages_of_head}
use Rattle.fee_image.specs.declared.place.Place.{Place}
use Rattle.fee_image.specs.Places.{noted}
use Rattle.fee_log.specs.declared.tail.Tail.{Tail}
use Rattle.fee_log.specs.declared.tail.Tail.TheVariants.{Open, Writes, Owes, Closed}
use Rattle.fee_log.specs.Index.{AreCounted, AreWithin}
use Rattle.fee_log.specs.Log.{LogState, IsLogState, HasFormat, IsTail, IsLengthFor, IsFor, pages_in, free_in, free_behind, work_in, tail_begun, begun, erased_state}
use Rattle.fee_log.proofs.Counts.{erased_counted, noted_counted}
use Rattle.fee_log.proofs.Changes.{clear_length, flag_length}
use Rattle.fee_log.proofs.Within.{erased_within, further, noted_within}
use Rattle.nv_base.proofs.Places.{numbers_are_in_bounds}

-- what holds of a log's tail
tail_sound : (s : LogState) (tail : Tail) → IsLogState s → s.tail ≡ tail
    → IsTail s.geometry.page (pages_in s) s.end tail
tail_sound s tail sound is = subst (IsTail s.geometry.page (pages_in s) s.end) is sound.tail

-- a log that writes a record has the format that is written
writes_format : (s : LogState) (h : RecHead) (k : ℕ) → IsLogState s → s.tail ≡ Writes h k → s.format ≡ new_format
writes_format s h k sound is = subst (HasFormat s.format) is sound.format

owes_format : (s : LogState) (h : RecHead) (next : Option RecHead) → IsLogState s → s.tail ≡ Owes h next → s.format ≡ new_format
owes_format s h next sound is = subst (HasFormat s.format) is sound.format

-- the records reach further, whatever comes next
pub moved_sound : (s : LogState) (places : List Place) (end : ℕ) (tail : Tail) → IsLogState s → HasFormat s.format tail → AreWithin s.geometry.page end s.numbers places → AreCounted places
    → s.end ≤ end → end ≤ pages_in s → IsTail s.geometry.page (pages_in s) end tail → IsLogState (record s { places = places; end = end; tail = tail })
moved_sound s places end tail sound format within counted more high is = record {
  geometry = sound.geometry;
  shared = sound.shared;
  bank = sound.bank;
  format = format;
  numbers = sound.numbers;
  places = within;
  counts = counted;
  flags = sound.flags;
  end_low = omega (arith, sound.end_low, more);
  end_high = high;
  tail = is;
}

-- the next record goes behind one that was in work
pub behind_sound : (s : LogState) (h : RecHead) (k : ℕ) → IsLogState s → s.tail ≡ Writes h k
    → IsLogState (record s { end = s.end + pages_of_head s.geometry.page h; tail = Open })
behind_sound s h k sound is =
    let end = s.end + pages_of_head s.geometry.page h in
    let tail = tail_sound s (Writes h k) sound is in
    moved_sound s s.places end Open sound (writes_format s h k sound is)
    (further s.geometry.page s.end end s.numbers s.places (omega arith) sound.places) sound.counts (omega arith) tail.2 tt

-- which is its number's last one
pub committed_sound : (s : LogState) (h : RecHead) (k : ℕ) → IsLogState s → s.tail ≡ Writes h k
    → IsLogState (record s { end = s.end + pages_of_head s.geometry.page h; tail = Open; places = noted s.numbers s.places s.end h })
committed_sound s h k sound is =
    let end = s.end + pages_of_head s.geometry.page h in
    let tail = tail_sound s (Writes h k) sound is in
    moved_sound s (noted s.numbers s.places s.end h) end Open sound (writes_format s h k sound is)
    (noted_within s.geometry.page s.end end s.numbers s.places h sound.end_low (omega arith) sound.places)
    (noted_counted s.numbers s.places s.end h tail.0.count sound.counts) (omega arith) tail.2 tt

-- a record that waited for an owed gate begins
pub followed_sound : (s : LogState) (h next : RecHead) → IsLogState s → s.tail ≡ Owes h (Some next)
    → IsLogState (record s { end = s.end + pages_of_head s.geometry.page h; tail = Writes next 0 })
followed_sound s h next sound is =
    let end = s.end + pages_of_head s.geometry.page h in
    let tail = tail_sound s (Owes h (Some next)) sound is in
    moved_sound s s.places end (Writes next 0) sound (owes_format s h (Some next) sound is)
    (further s.geometry.page s.end end s.numbers s.places (omega arith) sound.places) sound.counts (omega arith) (omega (arith, tail.0)) (tail.1, omega arith, omega (arith, tail.0))

-- A RECORD BEGINS
-- a record of a kind isn't longer than its number's length, and has one that its kind may have
pub length_within : (k : RecordKind) (got length : ℕ) → IsLengthFor k got length → got ≤ length
length_within kind.Content got length is = omega (arith, is)
length_within kind.Invalid got length is = omega (arith, is)
length_within kind.Erased got length is = omega (arith, is)

length_of_kind : (k : RecordKind) (got length : ℕ) → 1 ≤ length → IsLengthFor k got length → IsLengthOfKind k got
length_of_kind kind.Content got length some is = omega (arith, some, is)
length_of_kind kind.Invalid got length some is = is
length_of_kind kind.Erased got length some is = is

-- a record of a configured number has a legal header
pub legal_for : (numbers : List (DeviceNumber × ℕ)) (h : RecHead) → AreLengths 0 numbers → IsFor numbers h
    → IsLegalRecHead h
legal_for numbers h all is =
    let x : DeviceNumber × ℕ = (h.number, is.length) in
    let up = numbers_are_in_bounds 0 numbers is.configured.0 x all (slice_get-get_or numbers is.configured.0 x is.configured.1 ∙ ap Some is.configured.2) in
    record {
      number_low = up.0;
      number_high = up.1;
      kind = length_of_kind h.kind h.length is.length up.2 is.kind;
      length = omega (arith, length_within h.kind h.length is.length is.kind, up.3);
      count = is.count;
    }

begun_tail : (p pages end : ℕ) (tail : Tail) (h : RecHead) → end ≤ pages → IsTail p pages end tail
    → work_in tail ≡ None → record_pages_of h.length p ≤ free_behind p pages end tail → IsLegalRecHead h
    → IsTail p pages end (tail_begun tail h)
begun_tail p pages end Open h high is idle room legal = (legal, omega arith, omega (arith, high, room))
begun_tail p pages end (Writes head done) h high is idle room legal = cc
begun_tail p pages end (Owes head next) h high is idle room legal =
    let free : record_pages_of h.length p ≤ pages - (end + (pages_of_head p head + 0)) = subst
    (λ (o : Option RecHead). record_pages_of h.length p ≤ free_behind p pages end (Owes head o)) idle room in
    (omega (arith, free), legal)
begun_tail p pages end Closed h high is idle room legal = absurd (omega (arith, room))

begun_format : (format p pages end : ℕ) (tail : Tail) (h : RecHead) → work_in tail ≡ None → HasFormat format tail
    → record_pages_of h.length p ≤ free_behind p pages end tail → HasFormat format (tail_begun tail h)
begun_format format p pages end Open h idle is room = is
begun_format format p pages end (Writes head done) h idle is room = cc
begun_format format p pages end (Owes head next) h idle is room = is
begun_format format p pages end Closed h idle is room = absurd (omega (arith, room))

pub begun_sound : (s : LogState) (h : RecHead) → IsLogState s → work_in s.tail ≡ None → IsFor s.numbers h
    → record_pages_of h.length s.geometry.page ≤ free_in s → IsLogState (begun s h)
begun_sound s h sound idle is room = record {
  geometry = sound.geometry;
  shared = sound.shared;
  bank = sound.bank;
  format = begun_format s.format s.geometry.page (pages_in s) s.end s.tail h idle sound.format room;
  numbers = sound.numbers;
  places = sound.places;
  counts = sound.counts;
  flags = rw (flag_length s.numbers s.flags h.number.0 false) sound.flags;
  end_low = sound.end_low;
  end_high = sound.end_high;
  tail =
      begun_tail s.geometry.page (pages_in s) s.end s.tail h sound.end_high sound.tail idle room (legal_for s.numbers h sound.numbers is);
}

-- STARTS
pub erased_sound : (g : Geometry) (banks bank : ℕ) (numbers : List (DeviceNumber × ℕ)) → IsLegal g → HasBanks g banks
    → bank < banks → 2 ≤ pages_of_bank g banks → AreLengths 0 numbers → IsLogState (erased_state g banks bank numbers)
erased_sound g banks bank numbers legal shared lt two all = record {
  geometry = legal;
  shared = shared;
  bank = lt;
  format = refl;
  numbers = all;
  places = erased_within g.page 2 numbers;
  counts = erased_counted numbers;
  flags = clear_length numbers;
  end_low = omega arith;
  end_high = two;
  tail = tt;
}
