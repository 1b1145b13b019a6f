-- The steps of a switch keep room.
use Rattle.std.proofs.Common.{◌≡◌, ◌<◌, ◌≤◌, ◌+◌, ◌-◌, ◌*◌, ℕ, zero, suc, Bool, true, false, ◌&&◌, List, set, Option, Some, None, refl, sym, ap, ◌∙◌, subst, cond, eqb, arith}
use Rattle.std.specs.Prelude.{slice_get, is_some, IfSome}
use Rattle.std.proofs.lemmas.Bool.{cond_both, eq-eqb, eqb-true, eqb-false, ne_eqb, leb-false, le-leb}
use Rattle.std.proofs.lemmas.Option.{slice_get-get_or}
use Rattle.nv_base.specs.declared.instance.DeviceNumber.{DeviceNumber}
use Rattle.nv_base.specs.Geometry.{pages_of_bank, pages_of_sector, sectors_of_bank}
use Rattle.nv_base.specs.Pages.{record_pages_of}
use Rattle.fls_model.specs.declared.flash.FlashAnswer.{FlashAnswer}
use Rattle.fls_model.specs.declared.flash.FlashAnswer.TheVariants.{Done, Failed, Off}
use Rattle.fls_model.specs.Told.{Told}
use Rattle.fee_format.specs.declared.rec_head.RecHead.{RecHead}
use Rattle.fee_format.specs.Formats.{new_format}
use Rattle.fee_image.specs.RecordList.{pages_of_head}
use Rattle.fee_image.specs.declared.place.Place.{Place}
use Rattle.fee_image.specs.declared.place.Place.TheVariants.{Content, Invalid, Erased, Unwritten}
use Rattle.fee_image.specs.Places.{noted}
use Rattle.fee_image.specs.Step.{is_last}
use Rattle.fee_image.proofs.Sectors.{sectors_fill_banks}
use Rattle.fee_log.specs.declared.tail.Tail.{Tail}
use Rattle.fee_log.specs.declared.tail.Tail.TheVariants.{Open, Writes}
use Rattle.fee_log.specs.Index.{with_flag, clear_flags}
use Rattle.fee_log.specs.Log.{LogState, IsLogState, work_in, taken_in, free_in, free_behind, pages_in, begun, tail_begun}
use Rattle.fee_log.specs.Step.{after_step}
use Rattle.fee_course.specs.declared.copies.Source.{Source}
use Rattle.fee_course.specs.declared.course.Copying.{Copying}
use Rattle.fee_course.specs.declared.course.Course.{Course}
use Rattle.fee_course.specs.declared.course.Course.TheVariants.{Erase, Copy, Head, Gate}
use Rattle.fee_course.specs.Copies.{next_copy, greatest}
use Rattle.fee_course.specs.Course.{begun as course_begun, settled, after_done, flag_due}
use Rattle.fee_course.specs.Laws.{IsBeforeGate}
use Rattle.fee_switch.specs.Banks.{BanksState, IsBanksState, TakesRecord, is_worn_out, begun_again, flagged_by, flagged_at, advanced, ended, after_answer, left_of}
use Rattle.fee_switch.specs.Copy.{IsNext, MakesNext, BeginsAt, head_at}
use Rattle.fee_switch_laws.specs.Turns.{IsGoing}
use Rattle.fee_switch_laws.specs.Space.{HasSpace, most_pages, free_pages, has_room}
use Rattle.fee_switch_laws.specs.KeepsRoom.{IsOpenCopy, HasTarget, uncopied_pages, flags_due, taken_pages, IsRoomy, KeepsRoom}
use Rattle.fee_switch_laws.specs.RoomLaws.{StepsLower, SwitchesMakeRoom, RecordsHaveRoom, MadeKeepRoom, ClosedKeepRoom, BeginsKeepRoom, StepsKeepRoom}
use Rattle.fee_switch_laws.proofs.RoomNext.{chosen}
use Rattle.fee_switch_laws.proofs.RoomPages.{clear_is_all, set_takes, few_pages, flag_at, clear_flags_stay, mark_pages}
use Rattle.fee_switch_laws.proofs.Turns.{left_falls}

-- THE BANKS THAT A STEP MAKES
-- only the target's log and the buffer change
pub record IsMadeOf (s made : BanksState) : Type 0 where
  pub copies : LogState
  pub buffer : List ℕ
  pub is : made ≡ record s { copies = copies; buffer = buffer }

made_as : (s made : BanksState) → made ≡ s → IsMadeOf s made
made_as s made e = record { copies = s.copies; buffer = s.buffer; is = e }

begins_of : (s made : BanksState) (place : Place) (number : DeviceNumber) (length' : ℕ) (told told' : Told) (answer : FlashAnswer) → BeginsAt place s number length' told answer made told' → IsMadeOf s made
begins_of s made (Content at count) number length' told told' answer begins = record { copies = _; buffer = made.buffer; is = begins.1 }
begins_of s made (Invalid count) number length' told told' answer begins = record { copies = _; buffer = s.buffer; is = begins.1 }
begins_of s made (Erased count) number length' told told' answer begins = record { copies = _; buffer = s.buffer; is = begins.1 }
begins_of s made Unwritten number length' told told' answer begins = record { copies = _; buffer = s.buffer; is = begins.1 }

made_of : (s made : BanksState) (course : Course) (told told' : Told) (answer : FlashAnswer) → MakesNext s course told answer made told' → IsMadeOf s made
made_of s made (Erase done) told told' answer makes = made_as s made makes.1
made_of s made (Copy None) told told' answer makes = begins_of s made makes.source.place makes.number makes.source.length told told' answer makes.begins
made_of s made (Copy (Some w)) told told' answer makes = record { copies = after_step s.copies answer; buffer = s.buffer; is = makes.1 }
made_of s made Head told told' answer makes = made_as s made makes.1
made_of s made (Gate failed) told told' answer makes = made_as s made makes.1

-- A SWITCH BEGINS AGAIN
some_sector : (sectors pages per : ℕ) → pages ≡ sectors * per → 1 ≤ pages → 0 < sectors
some_sector zero pages per fill some = absurd (omega (arith, fill, some))
some_sector (suc n) pages per fill some = omega arith

has_sector : (reserve : ℕ) (s : BanksState) → IsBanksState s → HasSpace s.log.numbers s.geometry s.banks reserve → 0 < sectors_of_bank s.geometry s.banks
has_sector reserve s is space =
    some_sector (sectors_of_bank s.geometry s.banks) (pages_of_bank s.geometry s.banks) (pages_of_sector s.geometry) (sectors_fill_banks s.geometry s.banks is.legal is.shared) (omega (arith, space.space))

pub again_roomy : (reserve : ℕ) (s : BanksState) (n : ℕ) → HasSpace s.log.numbers s.geometry s.banks reserve → n < sectors_of_bank s.geometry s.banks
    → is_worn_out s.active ≡ false → work_in s.log.tail ≡ None → free_pages s < most_pages s.geometry.page s.log.numbers reserve
    → IsRoomy reserve (begun_again s (Erase n)) (Erase n)
again_roomy reserve s n space short worn idle few = record {
  going = record { short = short; fitting = tt; few = tt };
  worn = worn;
  target = record { copies = refl; clear = refl };
  work = subst (λ (o : Option RecHead). IfSome o (λ h. TakesRecord h.kind (Some (Erase n)))) (sym idle) tt;
  few = few;
  room = let all = clear_is_all s.geometry.page s.log.numbers in let full = space.space in omega (arith, all, full, few);
  taken = let all = clear_is_all s.geometry.page s.log.numbers in omega (arith, all, few);
}

-- A PAGE OF A COPY
-- one more page of it is done
page_more : (c : LogState) (head : RecHead) (done : ℕ) → is_last c.geometry.page head done ≡ false
    → after_step (record c { tail = Writes head done }) Done ≡ record c { tail = Writes head (done + 1) }
page_more c head done more = rw more refl

-- the last one is
page_last : (c : LogState) (head : RecHead) (done : ℕ) → is_last c.geometry.page head done ≡ true
    → after_step (record c { tail = Writes head done }) Done ≡ record c { end = c.end + pages_of_head c.geometry.page head; tail = Open; places = noted c.numbers c.places c.end head }
page_last c head done last = rw last refl

-- a copy that begins: its record is this one, with so many pages done
record IsBegun (s : BanksState) (source : Source) (number : DeviceNumber) (copies : LogState) (head : RecHead) (done pages : ℕ) : Type 0 where
  format : copies.format ≡ new_format
  clear : copies.flags ≡ clear_flags copies.numbers
  end : copies.end ≡ s.copies.end
  tail : copies.tail ≡ Writes head done
  number_is : head.number ≡ number
  all : done + pages ≡ pages_of_head s.geometry.page head
  few : pages_of_head s.geometry.page head ≤ record_pages_of source.length s.geometry.page
  fits : head.length ≤ source.length

-- a flag that is set changes no numbers
flagged_numbers : (log : LogState) (o : Option ℕ) → (flagged_by log o).numbers ≡ log.numbers
flagged_numbers log None = refl
flagged_numbers log (Some i) = split (slice_get log.numbers i)
  where
    split : (o : Option (DeviceNumber × ℕ)) → (flagged_at log o).numbers ≡ log.numbers
    split None = refl
    split (Some n) = refl

-- A STEP
module _ (reserve : ℕ) (s : BanksState) (is : IsBanksState s) (state : IsLogState s.log) (idle : work_in s.log.tail ≡ None)
    (space : HasSpace s.log.numbers s.geometry s.banks reserve) where
  abbrev page : ℕ
  page = s.geometry.page

  abbrev ns : List (DeviceNumber × ℕ)
  ns = s.log.numbers

  -- the same with other flags, another course, and another log of the target
  abbrev next : List Bool → Course → LogState → List ℕ → BanksState
  next flags course copies buffer = record s { log = record s.log { flags = flags }; course = Some course; copies = copies; buffer = buffer }

  keeps_at : (flags : List Bool) (old course : Course) (copies : LogState) (buffer : List ℕ) → IsRoomy reserve s old
      → IsGoing (next flags course copies buffer) course → HasTarget (next flags course copies buffer) course
      → copies.end + taken_in page copies.tail + uncopied_pages page ns (flags_due course flags) ≤ taken_pages s + uncopied_pages page ns (flags_due old s.log.flags)
      → IsRoomy reserve (next flags course copies buffer) course
  keeps_at flags old course copies buffer r going target less = record {
    going = going;
    worn = r.worn;
    target = target;
    work = subst (λ (o : Option RecHead). IfSome o (λ h. TakesRecord h.kind (Some course))) (sym idle) tt;
    few = r.few;
    room = omega (arith, r.room, less);
    taken = omega (arith, r.taken, less);
  }

  going_after : (course : Course) (copies : LogState) (buffer : List ℕ) → s.course ≡ Some course → IsBeforeGate course → IsGoing s course
      → let t = advanced (record s { copies = copies; buffer = buffer }) course in IfSome t.course (IsGoing t)
  going_after course copies buffer at before going = (left_falls s copies buffer course is state idle at before going).1

  -- no copy is in work behind it
  settled_keeps : (flags : List Bool) (old : Course) (copies : LogState) (buffer : List ℕ) → IsRoomy reserve s old
      → let course = settled ns s.log.places flags in
      IsGoing (next flags course copies buffer) course → copies.format ≡ new_format → copies.flags ≡ clear_flags copies.numbers → copies.tail ≡ Open
      → copies.end + uncopied_pages page ns flags ≤ taken_pages s + uncopied_pages page ns (flags_due old s.log.flags)
      → IsRoomy reserve (next flags course copies buffer) course
  settled_keeps flags old copies buffer r going format clear tail less =
      let taken : taken_in page copies.tail ≡ 0 = ap (taken_in page) tail in
      let P : Course → Type 0 = λ (c : Course). IsGoing (next flags c copies buffer) c → IsRoomy reserve (next flags c copies buffer) c in
      cond_both (is_some (next_copy ns s.log.places flags)) (Copy None) Head P
      (λ _ g. keeps_at flags old (Copy None) copies buffer r g (record { format = format; clear = clear; work = tail }) (omega (arith, less, taken)))
      (λ _ g. keeps_at flags old Head copies buffer r g (record { format = format; clear = clear; work = tail }) (omega (arith, less, taken)))
      going

  -- an erase is done
  erase_keeps : (n : ℕ) → s.course ≡ Some (Erase n) → IsRoomy reserve s (Erase n) → KeepsRoom reserve (advanced s (Erase n))
  erase_keeps n at r =
      let flags = s.log.flags in
      let empty = r.target.copies in
      let P : Course → Type 0 = λ (c : Course). IsGoing (next flags c s.copies s.buffer) c → IsRoomy reserve (next flags c s.copies s.buffer) c in
      let after : IsRoomy reserve (advanced s (Erase n)) (after_done page (sectors_of_bank s.geometry s.banks) ns s.log.places flags (Erase n)) =
      cond_both (eqb (n + 1) (sectors_of_bank s.geometry s.banks)) (settled ns s.log.places flags) (Erase (n + 1)) P
      (λ _ g. settled_keeps flags (Erase n) s.copies s.buffer r g (ap (λ (c : LogState). c.format) empty) (ap (λ (c : LogState). c.flags) empty) (ap (λ (c : LogState). c.tail) empty) (omega arith))
      (λ _ g. keeps_at flags (Erase n) (Erase (n + 1)) s.copies s.buffer r g (record { copies = empty; clear = r.target.clear }) (omega arith))
      (going_after (Erase n) s.copies s.buffer at tt r.going) in
      record { space = space; switch = after }

  -- A COPY BEGINS
  module _ (source : Source) (number : DeviceNumber) (first : IsNext s source number) (at : s.course ≡ Some (Copy None)) (r : IsRoomy reserve s (Copy None)) where
    named : slice_get ns source.index ≡ Some (number, source.length)
    named = slice_get-get_or ns source.index (number, source.length) first.inside ∙ ap Some (first.named (number, source.length))

    begun_keeps : (copies : LogState) (buffer : List ℕ) (head : RecHead) (done pages : ℕ) → IsBegun s source number copies head done pages
        → let course = Copy (Some (record { index = source.index; pages = pages; sets = true })) in
        IsGoing (next s.log.flags course copies buffer) course → IsRoomy reserve (next s.log.flags course copies buffer) course
    begun_keeps copies buffer head done pages b going =
        let course : Course = Copy (Some (record { index = source.index; pages = pages; sets = true })) in
        let clear = (chosen ns s.log.places s.log.flags source first.first).clear in
        let takes = set_takes page ns s.log.flags source.index (number, source.length) named clear in
        let taken : taken_in page copies.tail ≡ pages_of_head page head = ap (taken_in page) b.tail in
        let was : taken_in page s.copies.tail ≡ 0 = ap (taken_in page) r.target.work in
        keeps_at s.log.flags (Copy None) course copies buffer r going
        (record {
          format = b.format;
          clear = b.clear;
          work = record {
            head = head;
            done = done;
            tail = b.tail;
            length = source.length;
            named = named ∙ ap (λ (x : DeviceNumber). Some (x, source.length)) (sym b.number_is);
            fits = b.fits;
            pages = b.all;
          };
        })
        (let few = b.few in let end = b.end in omega (arith, takes, taken, was, few, end))

    -- after whatever begins it
    after_begun : (copies : LogState) (buffer : List ℕ) (head : RecHead) (done pages : ℕ) → IsBegun s source number copies head done pages
        → course_begun page (Some source) ≡ Copy (Some (record { index = source.index; pages = pages; sets = true }))
        → KeepsRoom reserve (advanced (record s { copies = copies; buffer = buffer }) (Copy None))
    after_begun copies buffer head done pages b is_course =
        let P : Course → Type 0 = λ (c : Course). IsGoing (next s.log.flags c copies buffer) c → IsRoomy reserve (next s.log.flags c copies buffer) c in
        let e : course_begun page (next_copy ns s.log.places s.log.flags) ≡ Copy (Some (record { index = source.index; pages = pages; sets = true })) = ap (course_begun page) first.first ∙ is_course in
        let roomy : IsRoomy reserve (advanced (record s { copies = copies; buffer = buffer }) (Copy None)) (course_begun page (next_copy ns s.log.places s.log.flags)) =
        subst P (sym e) (begun_keeps copies buffer head done pages b) (going_after (Copy None) copies buffer at tt r.going) in
        record { space = space; switch = roomy }

    -- the log with this record begun
    begun_clear : (number' : ℕ) → with_flag s.copies.numbers s.copies.flags number' false ≡ clear_flags s.copies.numbers
    begun_clear number' = ap (λ (f : List Bool). with_flag s.copies.numbers f number' false) r.target.clear ∙ clear_flags_stay s.copies.numbers number'

    content_keeps : (buffer : List ℕ) (at' count : ℕ) → source.place ≡ Content at' count
        → KeepsRoom reserve (advanced (record s { copies = begun s.copies (head_at (Content at' count) number source.length); buffer = buffer }) (Copy None))
    content_keeps buffer at' count place =
        let head : RecHead = head_at (Content at' count) number source.length in
        after_begun (begun s.copies head) buffer head 0 (record_pages_of source.length page)
        (record {
          format = r.target.format;
          clear = begun_clear number.0;
          end = refl;
          tail = ap (λ (t : Tail). tail_begun t head) r.target.work;
          number_is = refl;
          all = omega arith;
          few = omega arith;
          fits = omega arith;
        })
        (ap (λ (x : Place). course_begun page (Some (record source { place = x }))) place)

    mark_keeps : (head : RecHead) → head.number ≡ number → head.length ≡ 0 → course_begun page (Some source) ≡ Copy (Some (record { index = source.index; pages = record_pages_of 0 page - 1; sets = true }))
        → KeepsRoom reserve (advanced (record s { copies = after_step (begun s.copies head) Done }) (Copy None))
    mark_keeps head named_so none is_course =
        let pages : pages_of_head page head ≡ record_pages_of 0 page = ap (λ (n : ℕ). record_pages_of n page) none in
        let c : LogState = begun s.copies head in
        let opened : c ≡ record c { tail = Writes head 0 } = ap (λ (t : Tail). record c { tail = tail_begun t head }) r.target.work in
        let more : is_last c.geometry.page head 0 ≡ false = ne_eqb 1 (pages_of_head c.geometry.page head) (λ e. omega arith) in
        let stepped : after_step c Done ≡ record c { tail = Writes head 1 } = ap (λ (x : LogState). after_step x Done) opened ∙ page_more c head 0 more in
        let few : record_pages_of 0 page ≤ record_pages_of source.length page = mark_pages page source.length is.legal.page_low in
        subst (λ (x : LogState). KeepsRoom reserve (advanced (record s { copies = x }) (Copy None))) (sym stepped)
        (after_begun (record c { tail = Writes head 1 }) s.buffer head 1 (record_pages_of 0 page - 1)
        (record { format = r.target.format; clear = begun_clear head.number.0; end = refl; tail = refl; number_is = named_so; all = omega (arith, pages); few = omega (arith, few, pages); fits = omega (arith, none) })
        is_course)

    begin_keeps : (made : BanksState) (told told' : Told) (place : Place) → source.place ≡ place → BeginsAt place s number source.length told Done made told'
        → KeepsRoom reserve (advanced made (Copy None))
    begin_keeps made told told' (Content at' count) place begins =
        subst (λ (x : BanksState). KeepsRoom reserve (advanced x (Copy None))) (sym begins.1) (content_keeps made.buffer at' count place)
    begin_keeps made told told' (Invalid count) place begins =
        subst (λ (x : BanksState). KeepsRoom reserve (advanced x (Copy None))) (sym begins.1) (mark_keeps (head_at (Invalid count) number source.length) refl refl (ap (λ (x : Place). course_begun page (Some (record source { place = x }))) place))
    begin_keeps made told told' (Erased count) place begins =
        subst (λ (x : BanksState). KeepsRoom reserve (advanced x (Copy None))) (sym begins.1) (mark_keeps (head_at (Erased count) number source.length) refl refl (ap (λ (x : Place). course_begun page (Some (record source { place = x }))) place))
    begin_keeps made told told' Unwritten place begins =
        subst (λ (x : BanksState). KeepsRoom reserve (advanced x (Copy None))) (sym begins.1) (mark_keeps (head_at Unwritten number source.length) refl refl (ap (λ (x : Place). course_begun page (Some (record source { place = x }))) place))

  -- A PAGE OF A COPY
  -- what the page is followed by, with this log and this log of the target, where it was the last one or not
  abbrev PageKeeps : Copying → LogState → LogState → Bool → Type 0
  PageKeeps w log copies last =
      let course = cond last (settled log.numbers log.places log.flags) (Copy (Some (record w { pages = w.pages - 1 }))) in
      let t : BanksState = record s { log = log; copies = copies; course = Some course } in
      IsGoing t course → IsRoomy reserve t course

  module _ (index pages : ℕ) (sets : Bool) (r : IsRoomy reserve s (Copy (Some (record { index = index; pages = pages; sets = sets })))) where
    abbrev copy : Copying
    copy = record { index = index; pages = pages; sets = sets }

    work : IsOpenCopy s copy
    work = r.target.work

    was : taken_in page s.copies.tail ≡ pages_of_head page work.head
    was = ap (taken_in page) work.tail

    more_keeps : eqb pages 1 ≡ false → PageKeeps copy s.log (record s.copies { tail = Writes work.head (work.done + 1) }) false
    more_keeps ne going =
        let other = eqb-false pages 1 ne in
        let some : 0 < pages = r.going.short in
        let all = work.pages in
        let left : work.done + 1 + (pages - 1) ≡ pages_of_head page work.head = omega (arith, all, some) in
        keeps_at s.log.flags (Copy (Some copy)) (Copy (Some (record copy { pages = pages - 1 }))) (record s.copies { tail = Writes work.head (work.done + 1) }) s.buffer r going
        (record {
          format = r.target.format;
          clear = r.target.clear;
          work = record { head = work.head; done = work.done + 1; tail = refl; length = work.length; named = work.named; fits = work.fits; pages = left };
        })
        (omega (arith, was))

    abbrev ended_copies : LogState
    ended_copies = record s.copies {
      end = s.copies.end + pages_of_head s.copies.geometry.page work.head;
      tail = Open;
      places = noted s.copies.numbers s.copies.places s.copies.end work.head;
    }

    shape : pages_of_head s.copies.geometry.page work.head ≡ pages_of_head page work.head
    shape = λ i. pages_of_head (is.copies.shape i).page work.head

    last_keeps : (flags : List Bool) → flags ≡ flags_due (Copy (Some copy)) s.log.flags → PageKeeps copy (record s.log { flags = flags }) ended_copies true
    last_keeps flags same going =
        let count : uncopied_pages page ns flags ≡ uncopied_pages page ns (flags_due (Copy (Some copy)) s.log.flags) = ap (uncopied_pages page ns) same in
        settled_keeps flags (Copy (Some copy)) ended_copies s.buffer r going r.target.format r.target.clear refl (omega (arith, was, shape, count))

    -- the copies' log after it
    last_is : eqb pages 1 ≡ true → is_last s.copies.geometry.page work.head work.done ≡ true
    last_is e =
        let one = eqb-true pages 1 e in
        let all = work.pages in
        eq-eqb (work.done + 1) (pages_of_head s.copies.geometry.page work.head) (omega (arith, one, all, shape))

    more_is : eqb pages 1 ≡ false → is_last s.copies.geometry.page work.head work.done ≡ false
    more_is e =
        let other = eqb-false pages 1 e in
        let all = work.pages in
        ne_eqb (work.done + 1) (pages_of_head s.copies.geometry.page work.head) (λ same. other (omega (arith, same, all, shape)))

    opened : s.copies ≡ record s.copies { tail = Writes work.head work.done }
    opened = ap (λ (t : Tail). record s.copies { tail = t }) work.tail

    copies_after : (b : Bool) → eqb pages 1 ≡ b → after_step s.copies Done ≡ cond b ended_copies (record s.copies { tail = Writes work.head (work.done + 1) })
    copies_after true e = ap (λ (x : LogState). after_step x Done) opened ∙ page_last s.copies work.head work.done (last_is e)
    copies_after false e = ap (λ (x : LogState). after_step x Done) opened ∙ page_more s.copies work.head work.done (more_is e)

    abbrev log_due : Bool → Bool → LogState
    log_due on last = flagged_by s.log (cond (on && last) (Some index) None)

    flag_set : log_due true true ≡ record s.log { flags = set s.log.flags index true }
    flag_set =
        ap (flagged_at s.log) work.named ∙ ap (λ (f : List Bool). record s.log { flags = f })
        (flag_at 0 ns s.log.flags index (work.head.number, work.length) true space.lengths work.named)

  page_keeps : (index pages : ℕ) (sets last : Bool) (r : IsRoomy reserve s (Copy (Some (record { index = index; pages = pages; sets = sets })))) → eqb pages 1 ≡ last
      → PageKeeps (record { index = index; pages = pages; sets = sets }) (flagged_by s.log (cond (sets && last) (Some index) None)) (after_step s.copies Done) last
  page_keeps index pages true true r e =
      let W : Copying = record { index = index; pages = pages; sets = true } in
      subst (λ (k : LogState). PageKeeps W (flagged_by s.log (Some index)) k true) (sym (copies_after index pages true r true e))
      (subst (λ (log : LogState). PageKeeps W log (ended_copies index pages true r) true) (sym (flag_set index pages true r))
      (last_keeps index pages true r (set s.log.flags index true) refl))
  page_keeps index pages false true r e =
      let W : Copying = record { index = index; pages = pages; sets = false } in
      subst (λ (k : LogState). PageKeeps W s.log k true) (sym (copies_after index pages false r true e)) (last_keeps index pages false r s.log.flags refl)
  page_keeps index pages true false r e =
      let W : Copying = record { index = index; pages = pages; sets = true } in
      subst (λ (k : LogState). PageKeeps W s.log k false) (sym (copies_after index pages true r false e)) (more_keeps index pages true r e)
  page_keeps index pages false false r e =
      let W : Copying = record { index = index; pages = pages; sets = false } in
      subst (λ (k : LogState). PageKeeps W s.log k false) (sym (copies_after index pages false r false e)) (more_keeps index pages false r e)

  copy_keeps : (w : Copying) → s.course ≡ Some (Copy (Some w)) → IsRoomy reserve s (Copy (Some w)) → KeepsRoom reserve (advanced (record s { copies = after_step s.copies Done }) (Copy (Some w)))
  copy_keeps w at r = record {
    space = subst (λ (x : List (DeviceNumber × ℕ)). HasSpace x s.geometry s.banks reserve) (sym (flagged_numbers s.log (flag_due (Copy (Some w))))) space;
    switch = page_keeps w.index w.pages w.sets (eqb w.pages 1) r refl (going_after (Copy (Some w)) (after_step s.copies Done) s.buffer at tt r.going);
  }

  -- THE SEAL
  head_keeps : s.course ≡ Some Head → IsRoomy reserve s Head → KeepsRoom reserve (advanced s Head)
  head_keeps at r = record {
    space = space;
    switch = keeps_at s.log.flags Head (Gate false) s.copies s.buffer r (going_after Head s.copies s.buffer at tt r.going)
        (record { format = r.target.format; clear = r.target.clear; work = r.target.work }) (omega arith);
  }

  gate_keeps : KeepsRoom reserve (ended s)
  gate_keeps = record { space = subst (λ (x : List (DeviceNumber × ℕ)). HasSpace x s.geometry s.banks reserve) (sym is.numbers) space; switch = tt }

  gate_again : (failed : Bool) → IsRoomy reserve s (Gate failed) → KeepsRoom reserve (record s { course = Some (Gate true) })
  gate_again failed r = record {
    space = space;
    switch = keeps_at s.log.flags (Gate failed) (Gate true) s.copies s.buffer r (record { short = tt; fitting = r.going.fitting; few = tt })
        (record { format = r.target.format; clear = r.target.clear; work = r.target.work }) (omega arith);
  }

  -- EACH ANSWER
  done_keeps : (made : BanksState) (course : Course) (told told' : Told) → s.course ≡ Some course → IsRoomy reserve s course → MakesNext s course told Done made told'
      → KeepsRoom reserve (after_answer made course Done)
  done_keeps made (Erase n) told told' at r makes = subst (λ (x : BanksState). KeepsRoom reserve (advanced x (Erase n))) (sym makes.1) (erase_keeps n at r)
  done_keeps made (Copy None) told told' at r makes = begin_keeps makes.source makes.number makes.next at r made told told' makes.source.place refl makes.begins
  done_keeps made (Copy (Some w)) told told' at r makes = subst (λ (x : BanksState). KeepsRoom reserve (advanced x (Copy (Some w)))) (sym makes.1) (copy_keeps w at r)
  done_keeps made Head told told' at r makes = subst (λ (x : BanksState). KeepsRoom reserve (advanced x Head)) (sym makes.1) (head_keeps at r)
  done_keeps made (Gate failed) told told' at r makes = subst (λ (x : BanksState). KeepsRoom reserve (ended x)) (sym makes.1) gate_keeps

  -- the first erase comes again, or the same
  again_keeps : (made : BanksState) (old : Course) (n : ℕ) → IsMadeOf s made → IsRoomy reserve s old → n < sectors_of_bank s.geometry s.banks
      → KeepsRoom reserve (begun_again made (Erase n))
  again_keeps made old n of r short =
      subst (λ (x : BanksState). KeepsRoom reserve (begun_again x (Erase n))) (sym of.is)
      (record { space = space; switch = again_roomy reserve (record s { copies = of.copies; buffer = of.buffer }) n space short r.worn idle r.few })

  failed_keeps : (made : BanksState) (course : Course) (told told' : Told) → IsRoomy reserve s course → MakesNext s course told Failed made told'
      → KeepsRoom reserve (after_answer made course Failed)
  failed_keeps made (Erase n) told told' r makes = again_keeps made (Erase n) n (made_of s made (Erase n) told told' Failed makes) r r.going.short
  failed_keeps made (Copy None) told told' r makes =
      again_keeps made (Copy None) 0 (made_of s made (Copy None) told told' Failed makes) r (has_sector reserve s is space)
  failed_keeps made (Copy (Some w)) told told' r makes =
      again_keeps made (Copy (Some w)) 0 (made_of s made (Copy (Some w)) told told' Failed makes) r (has_sector reserve s is space)
  failed_keeps made Head told told' r makes = again_keeps made Head 0 (made_of s made Head told told' Failed makes) r (has_sector reserve s is space)
  failed_keeps made (Gate failed) told told' r makes =
      subst (λ (x : BanksState). KeepsRoom reserve (record x { course = Some (Gate true) })) (sym makes.1) (gate_again failed r)

-- the relation at an open switch
roomy_at : (reserve : ℕ) (s : BanksState) (course : Course) → KeepsRoom reserve s → s.course ≡ Some course → IsRoomy reserve s course
roomy_at reserve s course keeps at = subst (λ (o : Option Course). IfSome o (IsRoomy reserve s)) at keeps.switch

pub steps_keep_room : StepsKeepRoom
steps_keep_room reserve s made course told told' Done is state idle at keeps makes on =
    done_keeps reserve s is state idle keeps.space made course told told' at (roomy_at reserve s course keeps at) makes
steps_keep_room reserve s made course told told' Failed is state idle at keeps makes on =
    failed_keeps reserve s is state idle keeps.space made course told told' (roomy_at reserve s course keeps at) makes
steps_keep_room reserve s made course told told' Off is state idle at keeps makes on = absurd (on refl)

-- THE END
pub steps_lower : StepsLower
steps_lower reserve s made course told told' is state idle at keeps before makes =
    let of = made_of s made course told told' Done makes in
    let r = roomy_at reserve s course keeps at in
    lower made course before of r.going at
  where
    lower : (made : BanksState) (course : Course) → IsBeforeGate course → IsMadeOf s made → IsGoing s course → s.course ≡ Some course → left_of (after_answer made course Done) + 1 ≡ left_of s
    lower made (Erase n) before of going at = subst (λ (x : BanksState). left_of (advanced x (Erase n)) + 1 ≡ left_of s) (sym of.is) (left_falls s of.copies of.buffer (Erase n) is state idle at before going).0
    lower made (Copy w) before of going at = subst (λ (x : BanksState). left_of (advanced x (Copy w)) + 1 ≡ left_of s) (sym of.is) (left_falls s of.copies of.buffer (Copy w) is state idle at before going).0
    lower made Head before of going at = subst (λ (x : BanksState). left_of (advanced x Head) + 1 ≡ left_of s) (sym of.is) (left_falls s of.copies of.buffer Head is state idle at before going).0
    lower made (Gate failed) before of going at = absurd before

pub switches_make_room : SwitchesMakeRoom
switches_make_room reserve s failed is keeps at =
    let r = roomy_at reserve s (Gate failed) keeps at in
    let tail : s.copies.tail ≡ Open = r.target.work in
    let pages : pages_in s.copies ≡ pages_of_bank s.geometry s.banks = λ i. pages_of_bank (is.copies.shape i) (is.copies.shared i) in
    let free : free_in s.copies ≡ pages_in s.copies - (s.copies.end + 0) = ap (free_behind s.copies.geometry.page (pages_in s.copies) s.copies.end) tail in
    let most : most_pages s.geometry.page s.copies.numbers reserve ≡ most_pages s.geometry.page s.log.numbers reserve =
    ap (λ (x : List (DeviceNumber × ℕ)). most_pages s.geometry.page x reserve) is.numbers in
    record { active = refl; closed = refl; tail = tail; format = r.target.format; clear = r.target.clear; room = omega (arith, r.room, pages, free, most) }

pub records_have_room : RecordsHaveRoom
records_have_room p reserve free numbers head true low for enough = le-leb (record_pages_of head.length p) free (omega (arith, few_pages p numbers head for low, enough))
records_have_room p reserve free numbers head false low for enough = le-leb (record_pages_of head.length p + reserve) free (omega (arith, few_pages p numbers head for low, enough))

-- THE BEGINNING
pub made_keep_room : MadeKeepRoom
made_keep_room reserve banks s g numbers space made = record {
  space = subst (λ (x : List (DeviceNumber × ℕ)). HasSpace x s.geometry s.banks reserve) (sym made.configured)
      (subst (λ (n : ℕ). HasSpace numbers s.geometry n reserve) (sym made.shared) (subst (λ x. HasSpace numbers x banks reserve) (sym made.shape) space));
  switch = subst (λ (o : Option Course). IfSome o (IsRoomy reserve s)) (sym made.course) tt;
}

pub closed_keep_room : ClosedKeepRoom
closed_keep_room reserve s t space same closed = record {
  space = subst (λ (x : List (DeviceNumber × ℕ)). HasSpace x t.geometry t.banks reserve) (sym same.numbers)
      (subst (λ (n : ℕ). HasSpace s.log.numbers t.geometry n reserve) (sym same.banks) (subst (λ x. HasSpace s.log.numbers x s.banks reserve) (sym same.geometry) space));
  switch = subst (λ (o : Option Course). IfSome o (IsRoomy reserve t)) (sym closed) tt;
}

-- a record that has no room leaves few pages free
few_free : (urgent : Bool) (pages most reserve free : ℕ) → pages ≤ most → has_room urgent pages reserve free ≡ false → free < most + reserve
few_free true pages most reserve free le none = omega (arith, leb-false pages free none)
few_free false pages most reserve free le none = omega (arith, leb-false (pages + reserve) free none)

pub begins_keep_room : BeginsKeepRoom
begins_keep_room reserve s head urgent is keeps idle worn for none = record {
  space = keeps.space;
  switch = again_roomy reserve s 0 keeps.space (has_sector reserve s is keeps.space) worn idle
      (few_free urgent (record_pages_of head.length s.geometry.page) (greatest s.geometry.page s.log.numbers) reserve (free_pages s)
      (few_pages s.geometry.page s.log.numbers head for is.legal.page_low) none);
}
