-- The turns of a switch.
use Rattle.std.proofs.Common.{◌≡◌, ◌<◌, ◌≤◌, ◌+◌, ◌*◌, ℕ, zero, suc, Bool, true, false, List, [], ◌∷◌, length, set, Option, Some, None, sym, ap, ◌∙◌, refl, subst, arith}
use Rattle.std.specs.Prelude.{slice_get, IfSome}
use Rattle.nv_base.specs.declared.instance.DeviceNumber.{DeviceNumber}
use Rattle.nv_base.specs.Geometry.{sectors_of_bank, pages_of_sector}
use Rattle.nv_base.specs.Lengths.{AreLengths, place_of}
use Rattle.nv_base.specs.Pages.{record_pages_of}
use Rattle.nv_base.proofs.Places.{numbers_have_places}
use Rattle.fee_format.specs.declared.rec_head.RecHead.{RecHead}
use Rattle.fee_image.specs.declared.place.Place.TheVariants.{Content}
use Rattle.fee_image.proofs.Sectors.{layouts_are_legal, sectors_fill_banks}
use Rattle.fee_log.specs.Index.{with_flag}
use Rattle.fee_log.specs.Log.{LogState, work_in, tail_begun}
use Rattle.fee_log.proofs.Within.{within_length}
use Rattle.fee_course.specs.declared.course.Course.{Course}
use Rattle.fee_course.specs.Copies.{as_copied}
use Rattle.fee_course.specs.Course.{after_done, flag_due, appended_to, turns_left}
use Rattle.fee_course.proofs.Appends.{appends_add, appends_begin, appends_end, appends_given_up}
use Rattle.fee_course.proofs.Turns.{stays_under_way, turns_fall}
use Rattle.fee_switch.specs.Banks.{BanksState, flagged_at, flagged_by, left_as, left_of, left_with, left_beside, index_of, appended_at, course_appended, advanced_with}
use Rattle.fee_switch_laws.specs.Shown.{layout_in}
use Rattle.fee_switch_laws.specs.Turns.{IsGoing, LeftFalls, LeftRises, LeftRisesFew, LeftBegins, LeftEnds}
use Rattle.fee_switch_laws.proofs.RoomAppends.{work_begun}
use Rattle.fee_switch_laws.proofs.RoomPages.{IsAt, at_number, flag_at}

-- beyond the last one there is none
none_at : (ns : List (DeviceNumber × ℕ)) (cs : List Bool) (i : ℕ) (on : Bool) → length cs ≡ length ns → slice_get ns i ≡ None → cs ≡ set cs i on
none_at ns [] i on same is = refl
none_at [] (c ∷ cs) i on same is = absurd (omega (arith, same))
none_at (n ∷ ns) (c ∷ cs) zero on same is = cc
none_at (n ∷ ns) (c ∷ cs) (suc i) on same is = ap (λ (l : List Bool). c ∷ l) (none_at ns cs i on (omega (arith, same)) is)

-- so a log's flags are set by place
flagged_is : (log : LogState) (o : Option ℕ) → AreLengths 0 log.numbers → length log.flags ≡ length log.numbers
    → flagged_by log o ≡ record log { flags = as_copied o log.flags }
flagged_is log None all same = refl
flagged_is log (Some i) all same = split (slice_get log.numbers i) refl
  where
    split : (o : Option (DeviceNumber × ℕ)) → slice_get log.numbers i ≡ o → flagged_at log o ≡ record log { flags = set log.flags i true }
    split None is = ap (λ (cs : List Bool). record log { flags = cs }) (none_at log.numbers log.flags i true same is)
    split (Some n) is = ap (λ (cs : List Bool). record log { flags = cs }) (flag_at 0 log.numbers log.flags i n true all is)

-- a bank has a sector
has_sector : (sectors pages per : ℕ) → pages ≡ sectors * per → 2 ≤ pages → 0 < sectors
has_sector zero pages per fill two = absurd (omega (arith, fill, two))
has_sector (suc n) pages per fill two = omega arith

pub left_falls : LeftFalls
left_falls s copies buffer course is state idle at before going =
    let p = s.geometry.page in
    let sectors = sectors_of_bank s.geometry s.banks in
    let ns = s.log.numbers in
    let done = as_copied (flag_due course) s.log.flags in
    let made : BanksState = record s { copies = copies; buffer = buffer } in
    let many : 0 < sectors = has_sector sectors (layout_in s).pages (pages_of_sector s.geometry) (sectors_fill_banks s.geometry s.banks is.legal is.shared) (layouts_are_legal s.geometry s.banks is.legal is.shared).pages in
    let less = turns_fall p sectors ns s.log.places s.log.flags course is.legal.page_low going before in
    let still = stays_under_way p sectors ns s.log.places s.log.flags course is.legal.page_low many going in
    let here : left_of s ≡ turns_left p sectors ns s.log.places s.log.flags None course = ap (left_with s) at ∙ ap (λ (o : Option RecHead). turns_left p sectors ns s.log.places s.log.flags (index_of ns o) course) idle in
    let next = after_done p sectors ns s.log.places done course in
    let there : turns_left p sectors ns s.log.places done (index_of ns (work_in s.log.tail)) next ≡ turns_left p sectors ns s.log.places done None next = ap (λ (o : Option RecHead). turns_left p sectors ns s.log.places done (index_of ns o) next) idle in
    subst (λ (log : LogState). let t = advanced_with made course log in (left_of t + 1 ≡ left_of s) × IfSome t.course (IsGoing t))
    (sym (flagged_is s.log (flag_due course) state.numbers state.flags)) (omega (arith, less, here, there), still)

-- BESIDE AN APPEND
-- of an idle log
idle_left : (s : BanksState) → work_in s.log.tail ≡ None → left_of s ≡ left_as s None s.course
idle_left s idle = ap (λ (o : Option RecHead). left_as s (index_of s.log.numbers o) s.course) idle

pub left_rises : LeftRises
left_rises s number idle = let is = idle_left s idle in omega (arith, is, more (place_of s.log.numbers number) s.course)
  where
    more : (place : Option ℕ) (c : Option Course) → left_as s None c ≤ left_as s place c
    more None c = omega arith
    more (Some i) None = omega arith
    more (Some i) (Some c) = appends_given_up s.geometry.page (sectors_of_bank s.geometry s.banks) i s.log.numbers s.log.places s.log.flags c

pub left_rises_few : LeftRisesFew
left_rises_few s i n state idle named =
    let is = idle_left s idle in
    let place : place_of s.log.numbers n.0.0 ≡ Some i = numbers_have_places 0 s.log.numbers i n state.numbers named in
    let beside : left_beside s n.0.0 ≡ left_as s (Some i) s.course = ap (λ (o : Option ℕ). left_as s o s.course) place in
    omega (arith, is, beside, few s.course)
  where
    few : (c : Option Course) → left_as s (Some i) c ≤ left_as s None c + (record_pages_of n.1 s.geometry.page + 1)
    few None = omega arith
    few (Some c) =
        appends_add s.geometry.page (sectors_of_bank s.geometry s.banks) i s.log.numbers s.log.places s.log.flags c n named
        (within_length s.log.geometry.page s.log.end s.log.numbers s.log.places state.places) state.flags

pub left_begins : LeftBegins
left_begins s h state for = at s.course ∙ sym (ap (λ (o : Option ℕ). left_as s o s.course) place)
  where
    here : IsAt s.log.numbers h.number.0 for.length
    here = at_number s.log.numbers h for

    place : place_of s.log.numbers h.number.0 ≡ Some here.index
    place = numbers_have_places 0 s.log.numbers here.index (h.number, for.length) state.numbers here.is

    flags_are : with_flag s.log.numbers s.log.flags h.number.0 false ≡ set s.log.flags here.index false
    flags_are = flag_at 0 s.log.numbers s.log.flags here.index (h.number, for.length) false state.numbers here.is

    begun_with : List Bool → BanksState
    begun_with flags = record s { log = record s.log { tail = tail_begun s.log.tail h; flags = flags } }

    at : (o : Option Course) → left_with (begun_with (with_flag s.log.numbers s.log.flags h.number.0 false)) (course_appended s.log.numbers h.number.0 o) ≡ left_as s (Some here.index) o
    at None = ap (λ (k : Option ℕ). left_with (begun_with (with_flag s.log.numbers s.log.flags h.number.0 false)) (appended_at k None)) place
    at (Some c) =
        (λ i. left_as (begun_with (flags_are i)) ((ap (index_of s.log.numbers) (work_begun s.log.tail h) ∙ place) i) (appended_at (place i) (Some c)))
        ∙ appends_begin s.geometry.page (sectors_of_bank s.geometry s.banks) here.index s.log.numbers s.log.places s.log.flags c

pub left_ends : LeftEnds
left_ends s h i length end at count state work named clear alone = same s.course alone ∙ sym (ap (λ (o : Option ℕ). left_as s o s.course) index)
  where
    place : place_of s.log.numbers h.number.0 ≡ Some i
    place = numbers_have_places 0 s.log.numbers i (h.number, length) state.numbers named

    index : index_of s.log.numbers (work_in s.log.tail) ≡ Some i
    index = ap (index_of s.log.numbers) work ∙ place

    flags_are : set s.log.flags i false ≡ s.log.flags
    flags_are = sym (flag_at 0 s.log.numbers s.log.flags i (h.number, length) false state.numbers named) ∙ clear

    ended : BanksState
    ended = record s { log = record s.log { places = set s.log.places i (Content at count) } }

    course_is : (c : Course) → course_appended s.log.numbers h.number.0 (Some c) ≡ Some c → appended_to i c ≡ c
    course_is c alone = let is = sym (ap (λ (k : Option ℕ). appended_at k (Some c)) place) ∙ alone in cc is

    same : (o : Option Course) → course_appended s.log.numbers h.number.0 o ≡ o → left_as ended None o ≡ left_as s (Some i) o
    same None alone = refl
    same (Some c) alone =
        appends_end s.geometry.page (sectors_of_bank s.geometry s.banks) i at count s.log.numbers s.log.places s.log.flags c flags_are (course_is c alone)
