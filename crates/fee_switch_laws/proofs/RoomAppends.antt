-- Appends to the active log keep room.
use Rattle.std.proofs.Common.{◌≡◌, ◌≤◌, ◌+◌, ℕ, inl, inr, Bool, true, false, List, set, Option, Some, None, refl, sym, ap, ◌∙◌, subst, cond, eqb, arith}
use Rattle.std.specs.Prelude.{slice_get, is_some, IsSome, IfSome, nat_lt}
use Rattle.std.proofs.lemmas.Bool.{eq-eqb, eqb-true}
use Rattle.std.proofs.lemmas.List.{set-set, set_comm}
use Rattle.nv_base.specs.declared.instance.DeviceNumber.{DeviceNumber}
use Rattle.nv_base.specs.Lengths.{place_of}
use Rattle.nv_base.specs.Pages.{record_pages_of}
use Rattle.nv_base.proofs.Places.{numbers_have_places}
use Rattle.fls_model.specs.declared.flash.FlashAnswer.{FlashAnswer}
use Rattle.fls_model.specs.declared.flash.FlashAnswer.TheVariants.{Done, Failed, Off}
use Rattle.fee_format.specs.declared.rec_head.RecHead.{RecHead}
use Rattle.fee_format.specs.declared.rec_head.RecordKind.{RecordKind}
use Rattle.fee_format.specs.declared.rec_head.RecordKind.TheVariants as kind
use Rattle.fee_image.specs.RecordList.{pages_of_head}
use Rattle.fee_image.specs.declared.place.Place.{Place}
use Rattle.fee_image.specs.declared.place.Place.TheVariants.{Content}
use Rattle.fee_image.specs.Places.{place_of_kind, place_at, noted}
use Rattle.fee_image.specs.Step.{is_last}
use Rattle.fee_log.specs.declared.tail.Tail.{Tail}
use Rattle.fee_log.specs.declared.tail.Tail.TheVariants.{Open, Writes, Owes, Closed}
use Rattle.fee_log.specs.Index.{with_flag}
use Rattle.fee_log.specs.Log.{LogState, IsLengthFor, IsFor, work_in, free_in, free_behind, pages_in, tail_begun, begun}
use Rattle.fee_log.specs.Step.{after_step, given_up}
use Rattle.fee_course.specs.declared.course.Copying.{Copying}
use Rattle.fee_course.specs.declared.course.Course.{Course}
use Rattle.fee_course.specs.declared.course.Course.TheVariants.{Erase, Copy, Head, Gate}
use Rattle.fee_course.specs.Copies.{next_copy}
use Rattle.fee_course.specs.Course.{appended_to}
use Rattle.fee_switch.specs.Banks.{BanksState, IsBanksState, TakesRecord, appended_at, course_appended, append_begun}
use Rattle.fee_switch_laws.specs.Turns.{IsGoing}
use Rattle.fee_switch_laws.specs.Space.{HasSpace, free_pages}
use Rattle.fee_switch_laws.specs.KeepsRoom.{HasTarget, uncopied_pages, flags_due, IsRoomy, KeepsRoom}
use Rattle.fee_switch_laws.specs.RoomLaws.{RecordsKeepRoom, PagesKeepRoom, GivingUpKeepsRoom}
use Rattle.fee_switch_laws.proofs.RoomNext.{clear_leaves, content_leaves}
use Rattle.fee_switch_laws.proofs.RoomPages.{IsAt, cleared_adds, at_number, flag_at, clear_flags_stay}

-- A PAGE
-- what a step of a log makes of it, whose record in work is a content: no page becomes free, and no number that is left to
-- copy is left no more
record IsStepped (c : LogState) (answer : FlashAnswer) : Type 0 where
  end : ℕ
  tail : Tail
  places : List Place
  is : after_step c answer ≡ record c { end = end; tail = tail; places = places }
  free : free_in (record c { end = end; tail = tail; places = places }) ≤ free_in c
  work : IfSome (work_in tail) (λ h. h.kind ≡ kind.Content)
  left : (flags : List Bool) → is_some (next_copy c.numbers c.places flags) ≡ true → is_some (next_copy c.numbers places flags) ≡ true

-- a log that is stepped to this one
stepped : (c : LogState) (answer : FlashAnswer) (tail : Tail) (end : ℕ) (next : Tail) → after_step (record c { tail = tail }) answer ≡ record c { end = end; tail = next }
    → free_in (record c { end = end; tail = next }) ≤ free_in (record c { tail = tail }) → IfSome (work_in next) (λ h. h.kind ≡ kind.Content) → IsStepped (record c { tail = tail }) answer
stepped c answer tail end next is free work = record { end = end; tail = next; places = c.places; is = is; free = free; work = work; left = λ flags l. l }

pub content_at : (at : ℕ) (h : RecHead) → h.kind ≡ kind.Content → place_at at h ≡ Content at h.count
content_at at h content = ap (λ (k : RecordKind). place_of_kind k at h.count) content

writes_done : (c : LogState) (h : RecHead) (done : ℕ) (b : Bool) → is_last c.geometry.page h done ≡ b → h.kind ≡ kind.Content → IsStepped (record c { tail = Writes h done }) Done
writes_done c h done true last content = record {
  end = c.end + pages_of_head c.geometry.page h;
  tail = Open;
  places = noted c.numbers c.places c.end h;
  is = rw last refl;
  free = omega arith;
  work = tt;
  left = λ flags l. content_leaves c.numbers c.places flags c.end h (content_at c.end h content) l;
}
writes_done c h done false last content = stepped c Done (Writes h done) c.end (Writes h (done + 1)) (rw last refl) (omega arith) content

writes_failed : (c : LogState) (h : RecHead) (done : ℕ) (b : Bool) → nat_lt done 2 ≡ b → IsStepped (record c { tail = Writes h done }) Failed
writes_failed c h done true early = stepped c Failed (Writes h done) c.end Closed (rw early refl) (omega arith) tt
writes_failed c h done false early = stepped c Failed (Writes h done) (c.end + pages_of_head c.geometry.page h) Open (rw early refl) (omega arith) tt

step_of : (c : LogState) (tail : Tail) (answer : FlashAnswer) → IfSome (work_in tail) (λ h. h.kind ≡ kind.Content) → IsStepped (record c { tail = tail }) answer
step_of c tail Off work = stepped c Off tail c.end tail refl (omega arith) work
step_of c Open Done work = stepped c Done Open c.end Open refl (omega arith) tt
step_of c (Writes h done) Done work = writes_done c h done (is_last c.geometry.page h done) refl work
step_of c (Owes h None) Done work = stepped c Done (Owes h None) (c.end + pages_of_head c.geometry.page h) Open refl (omega arith) tt
step_of c (Owes h (Some next)) Done work = stepped c Done (Owes h (Some next)) (c.end + pages_of_head c.geometry.page h) (Writes next 0) refl (omega arith) work
step_of c Closed Done work = stepped c Done Closed c.end Closed refl (omega arith) tt
step_of c Open Failed work = stepped c Failed Open c.end Open refl (omega arith) tt
step_of c (Writes h done) Failed work = writes_failed c h done (nat_lt done 2) refl
step_of c (Owes h next) Failed work = stepped c Failed (Owes h next) c.end Closed refl (omega arith) tt
step_of c Closed Failed work = stepped c Failed Closed c.end Closed refl (omega arith) tt

-- the free pages of the active bank
free_falls : (s : BanksState) (log : LogState) → free_in log ≤ free_in s.log → free_pages (record s { log = log }) ≤ free_pages s
free_falls s log less = split (is_some s.active)
  where
    split : (b : Bool) → cond b (free_in log) 0 ≤ cond b (free_in s.log) 0
    split true = less
    split false = omega arith

none_in_work : (o : Option RecHead) → is_some o ≡ true → IfSome o (λ h. ⊥) → ⊥
none_in_work None some takes = cc
none_in_work (Some h) some takes = takes

module _ (reserve : ℕ) (s : BanksState) (end : ℕ) (tail : Tail) (places : List Place) where
  abbrev log : LogState
  log = record s.log { end = end; tail = tail; places = places }

  abbrev after : BanksState
  after = record s { log = log }

  abbrev StaysLeft : Type 0
  StaysLeft = is_some (next_copy s.log.numbers s.log.places s.log.flags) ≡ true → is_some (next_copy s.log.numbers places s.log.flags) ≡ true

  page_roomy : (course : Course) → IsRoomy reserve s course → free_pages after ≤ free_pages s → IsGoing after course → HasTarget after course
      → IfSome (work_in tail) (λ h. TakesRecord h.kind (Some course)) → IsRoomy reserve after course
  page_roomy course r free going target work = record { going = going; worn = r.worn; target = target; work = work; few = omega (arith, r.few, free); room = omega (arith, r.room, free); taken = omega (arith, r.taken, free) }

  page_keeps : (course : Course) → IsRoomy reserve s course → free_pages after ≤ free_pages s → StaysLeft → IsSome (work_in s.log.tail)
      → IfSome (work_in tail) (λ h. h.kind ≡ kind.Content) → IsRoomy reserve after course
  page_keeps (Erase n) r free left some work =
      page_roomy (Erase n) r free (record { short = r.going.short; fitting = tt; few = tt }) (record { copies = r.target.copies; clear = r.target.clear }) work
  page_keeps (Copy None) r free left some work =
      page_roomy (Copy None) r free (record { short = tt; fitting = left r.going.fitting; few = tt }) (record { format = r.target.format; clear = r.target.clear; work = r.target.work }) work
  page_keeps (Copy (Some w)) r free left some work =
      let copy = r.target.work in
      page_roomy (Copy (Some w)) r free (record { short = r.going.short; fitting = tt; few = r.going.few })
      (record {
        format = r.target.format;
        clear = r.target.clear;
        work = record { head = copy.head; done = copy.done; tail = copy.tail; length = copy.length; named = copy.named; fits = copy.fits; pages = copy.pages };
      })
      work
  page_keeps Head r free left some work = absurd (none_in_work (work_in s.log.tail) some r.work)
  page_keeps (Gate failed) r free left some work = absurd (none_in_work (work_in s.log.tail) some r.work)

-- in a switch a record in work is a content
is_content : (course : Course) (o : Option RecHead) → IfSome o (λ h. TakesRecord h.kind (Some course)) → IfSome o (λ h. h.kind ≡ kind.Content)
is_content course None takes = tt
is_content (Erase n) (Some h) takes = takes
is_content (Copy w) (Some h) takes = takes
is_content Head (Some h) takes = absurd takes
is_content (Gate failed) (Some h) takes = absurd takes

step_numbers : (c : LogState) (answer : FlashAnswer) → (after_step c answer).numbers ≡ c.numbers
step_numbers c Done = refl
step_numbers c Failed = refl
step_numbers c Off = refl

pub pages_keep_room : PagesKeepRoom
pages_keep_room reserve s answer keeps some = record {
  space = subst (λ (x : List (DeviceNumber × ℕ)). HasSpace x s.geometry s.banks reserve) (sym (step_numbers s.log answer)) keeps.space;
  switch = at s.course keeps.switch;
}
  where
    at : (o : Option Course) → IfSome o (IsRoomy reserve s) → IfSome o (IsRoomy reserve (record s { log = after_step s.log answer }))
    at None r = tt
    at (Some course) r =
        let st = step_of s.log s.log.tail answer (is_content course (work_in s.log.tail) r.work) in
        subst (λ (x : LogState). IsRoomy reserve (record s { log = x }) course) (sym st.is)
        (page_keeps reserve s st.end st.tail st.places course r (free_falls s (log reserve s st.end st.tail st.places) st.free) (st.left s.log.flags) some st.work)

-- GIVEN UP
-- nothing changes where none is in work
given_up_stays : (c : LogState) (tail : Tail) → work_in tail ≡ None → given_up (record c { tail = tail }) ≡ record c { tail = tail }
given_up_stays c Open idle = refl
given_up_stays c (Writes h done) idle = cc
given_up_stays c (Owes h None) idle = refl
given_up_stays c (Owes h (Some next)) idle = cc
given_up_stays c Closed idle = refl

pub giving_up_keeps_room : GivingUpKeepsRoom
giving_up_keeps_room reserve s keeps (inl closed) = record { space = keeps.space; switch = subst (λ (o : Option Course). IfSome o (IsRoomy reserve (record s { log = given_up s.log }))) (sym closed) tt }
giving_up_keeps_room reserve s keeps (inr idle) = subst (λ (x : LogState). KeepsRoom reserve (record s { log = x })) (sym (given_up_stays s.log s.log.tail idle)) keeps

-- A RECORD BEGINS
pub work_begun : (tail : Tail) (h : RecHead) → work_in (tail_begun tail h) ≡ Some h
work_begun Open h = refl
work_begun (Writes head done) h = refl
work_begun (Owes head next) h = refl
work_begun Closed h = refl

-- it takes its pages off the free ones
free_begun : (p pages end : ℕ) (tail : Tail) (h : RecHead) → work_in tail ≡ None → pages_of_head p h ≤ free_behind p pages end tail
    → free_behind p pages end (tail_begun tail h) + pages_of_head p h ≤ free_behind p pages end tail
free_begun p pages end Open h idle room = omega arith
free_begun p pages end (Writes head done) h idle room = cc
free_begun p pages end (Owes head None) h idle room = omega arith
free_begun p pages end (Owes head (Some next)) h idle room = cc
free_begun p pages end Closed h idle room = absurd (omega (arith, room))

free_after : (s : BanksState) (h : RecHead) → IsBanksState s → work_in s.log.tail ≡ None → record_pages_of h.length s.geometry.page ≤ free_pages s
    → free_pages (append_begun s h) + record_pages_of h.length s.geometry.page ≤ free_pages s
free_after s h is idle room = split (is_some s.active) room
  where
    p : ℕ
    p = s.log.geometry.page

    same : pages_of_head p h ≡ record_pages_of h.length s.geometry.page
    same = λ i. record_pages_of h.length (is.log.shape i).page

    split : (b : Bool) → record_pages_of h.length s.geometry.page ≤ cond b (free_in s.log) 0
        → cond b (free_in (begun s.log h)) 0 + record_pages_of h.length s.geometry.page ≤ cond b (free_in s.log) 0
    split true fits = let less = free_begun p (pages_in s.log) s.log.end s.log.tail h idle (omega (arith, fits, same)) in omega (arith, less, same)
    split false fits = absurd (omega (arith, fits))

-- a content of a configured number has its length
content_length : (ns : List (DeviceNumber × ℕ)) (h : RecHead) (for : IsFor ns h) → h.kind ≡ kind.Content → h.length ≡ for.length
content_length ns h for content = subst (λ (k : RecordKind). IsLengthFor k h.length for.length) content for.kind

module _ (reserve : ℕ) (s : BanksState) (h : RecHead) (is : IsBanksState s) (space : HasSpace s.log.numbers s.geometry s.banks reserve)
    (idle : work_in s.log.tail ≡ None) (for : IsFor s.log.numbers h) (room : record_pages_of h.length s.geometry.page ≤ free_pages s)
    (content : h.kind ≡ kind.Content) (i : ℕ) (named : slice_get s.log.numbers i ≡ Some (h.number, for.length)) where
  abbrev page : ℕ
  page = s.geometry.page

  abbrev ns : List (DeviceNumber × ℕ)
  ns = s.log.numbers

  abbrev flags : List Bool
  flags = s.log.flags

  abbrev begun_with : List Bool → Course → BanksState
  begun_with flags' course = record s { log = record s.log { tail = tail_begun s.log.tail h; flags = flags' }; course = Some course }

  -- its flag is cleared
  cleared : with_flag ns flags h.number.0 false ≡ set flags i false
  cleared = flag_at 0 ns flags i (h.number, for.length) false space.lengths named

  -- which adds its pages to the copies at most
  adds : (due : List Bool) → uncopied_pages page ns (set due i false) ≤ uncopied_pages page ns due + record_pages_of h.length page
  adds due =
      let more = cleared_adds page ns due i (h.number, for.length) named in
      let size : record_pages_of h.length page ≡ record_pages_of for.length page = ap (λ (n : ℕ). record_pages_of n page) (content_length ns h for content) in
      omega (arith, more, size)

  begun_roomy : (flags' : List Bool) (old course : Course) → IsRoomy reserve s old → IsGoing (begun_with flags' course) course → HasTarget (begun_with flags' course) course
      → TakesRecord h.kind (Some course) → uncopied_pages page ns (flags_due course flags') ≤ uncopied_pages page ns (flags_due old flags) + record_pages_of h.length page
      → IsRoomy reserve (begun_with flags' course) course
  begun_roomy flags' old course r going target takes more =
      let less = free_after s h is idle room in
      record {
        going = going;
        worn = r.worn;
        target = target;
        work = subst (λ (o : Option RecHead). IfSome o (λ x. TakesRecord x.kind (Some course))) (sym (work_begun s.log.tail h)) takes;
        few = omega (arith, r.few, less);
        room = omega (arith, r.room, less, more);
        taken = omega (arith, r.taken, less, more);
      }

  -- a copy in work, of its number or another
  copy_roomy : (index pages : ℕ) (sets sets' : Bool) → IsRoomy reserve s (Copy (Some (record { index = index; pages = pages; sets = sets })))
      → let course = Copy (Some (record { index = index; pages = pages; sets = sets' })) in
      uncopied_pages page ns (flags_due course (set flags i false))
      ≤ uncopied_pages page ns (flags_due (Copy (Some (record { index = index; pages = pages; sets = sets }))) flags) + record_pages_of h.length page
      → IsRoomy reserve (begun_with (set flags i false) course) course
  copy_roomy index pages sets sets' r more =
      let copy = r.target.work in
      begun_roomy (set flags i false) (Copy (Some (record { index = index; pages = pages; sets = sets }))) (Copy (Some (record { index = index; pages = pages; sets = sets' }))) r
      (record { short = r.going.short; fitting = tt; few = r.going.few })
      (record {
        format = r.target.format;
        clear = r.target.clear;
        work = record { head = copy.head; done = copy.done; tail = copy.tail; length = copy.length; named = copy.named; fits = copy.fits; pages = copy.pages };
      })
      content more

  copy_begun : (index pages : ℕ) (sets b : Bool) → eqb index i ≡ b
      → let w : Copying = record { index = index; pages = pages; sets = sets } in
      IsRoomy reserve s (Copy (Some w))
      → let course = cond b (Copy (Some (record w { sets = false }))) (Copy (Some w)) in IsRoomy reserve (begun_with (set flags i false) course) course
  copy_begun index pages true true e r =
      let same : index ≡ i = eqb-true index i e in
      let more = adds (set flags index true) in
      let again : set (set flags index true) i false ≡ set flags i false = rw same (set-set flags i true false) in
      let count : uncopied_pages page ns (set (set flags index true) i false) ≡ uncopied_pages page ns (set flags i false) = ap (uncopied_pages page ns) again in
      copy_roomy index pages true false r (omega (arith, more, count))
  copy_begun index pages false true e r = copy_roomy index pages false false r (adds flags)
  copy_begun index pages true false e r =
      let more = adds (set flags index true) in
      let again : set (set flags index true) i false ≡ set (set flags i false) index true = set_comm flags index i true false (λ same. absurd (differ same)) in
      let count : uncopied_pages page ns (set (set flags index true) i false) ≡ uncopied_pages page ns (set (set flags i false) index true) = ap (uncopied_pages page ns) again in
      copy_roomy index pages true true r (omega (arith, more, count))
    where
      differ : index ≡ i → ⊥
      differ same = let t : eqb index i ≡ true = eq-eqb index i same in cc
  copy_begun index pages false false e r = copy_roomy index pages false false r (adds flags)

  begins_at : (course : Course) → IsRoomy reserve s course → TakesRecord h.kind (Some course) → IsRoomy reserve (begun_with (set flags i false) (appended_to i course)) (appended_to i course)
  begins_at (Erase n) r takes =
      begun_roomy (set flags i false) (Erase n) (Erase n) r (record { short = r.going.short; fitting = tt; few = tt })
      (record {
        copies = r.target.copies;
        clear = sym cleared ∙ ap (λ (f : List Bool). with_flag ns f h.number.0 false) r.target.clear ∙ clear_flags_stay ns h.number.0;
      })
      takes (adds flags)
  begins_at (Copy None) r takes =
      begun_roomy (set flags i false) (Copy None) (Copy None) r (record { short = tt; fitting = clear_leaves ns s.log.places flags i r.going.fitting; few = tt })
      (record { format = r.target.format; clear = r.target.clear; work = r.target.work }) takes (adds flags)
  begins_at (Copy (Some w)) r takes = copy_begun w.index w.pages w.sets (eqb w.index i) refl r
  begins_at Head r takes = absurd takes
  begins_at (Gate failed) r takes = absurd takes

-- the kind that an open switch takes
takes_content : (course : Course) (k : RecordKind) → TakesRecord k (Some course) → k ≡ kind.Content
takes_content (Erase n) k takes = takes
takes_content (Copy w) k takes = takes
takes_content Head k takes = absurd takes
takes_content (Gate failed) k takes = absurd takes

pub records_keep_room : RecordsKeepRoom
records_keep_room reserve s h is keeps idle takes for room = record { space = keeps.space; switch = at s.course keeps.switch takes }
  where
    here : IsAt s.log.numbers h.number.0 for.length
    here = at_number s.log.numbers h for

    place : place_of s.log.numbers h.number.0 ≡ Some here.index
    place = numbers_have_places 0 s.log.numbers here.index (h.number, for.length) keeps.space.lengths here.is

    -- where its number stands
    at_place : (o : Option Course) → IfSome o (IsRoomy reserve s) → TakesRecord h.kind o
        → let course = appended_at (Some here.index) o in
        IfSome course (IsRoomy reserve (record s { log = record s.log { tail = tail_begun s.log.tail h; flags = set s.log.flags here.index false }; course = course }))
    at_place None r takes = tt
    at_place (Some course) r takes =
        begins_at reserve s h is keeps.space idle for room (takes_content course h.kind takes) here.index here.is course r takes

    flags_are : with_flag s.log.numbers s.log.flags h.number.0 false ≡ set s.log.flags here.index false
    flags_are = flag_at 0 s.log.numbers s.log.flags here.index (h.number, for.length) false keeps.space.lengths here.is

    P : Option Course → List Bool → Type 0
    P course flags = IfSome course (IsRoomy reserve (record s { log = record s.log { tail = tail_begun s.log.tail h; flags = flags }; course = course }))

    at : (o : Option Course) → IfSome o (IsRoomy reserve s) → TakesRecord h.kind o → P (course_appended s.log.numbers h.number.0 o) (with_flag s.log.numbers s.log.flags h.number.0 false)
    at o r takes =
        subst (λ (f : List Bool). P (course_appended s.log.numbers h.number.0 o) f) (sym flags_are)
        (subst (λ (k : Option ℕ). P (appended_at k o) (set s.log.flags here.index false)) (sym place) (at_place o r takes))
