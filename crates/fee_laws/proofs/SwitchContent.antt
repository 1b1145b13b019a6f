-- The content that is copied next.
use Rattle.std.specs.Prelude.{IfSome, length}
use Rattle.std.proofs.Common.{◌≡◌, ◌≤◌, ◌*◌, ◌+◌, ℕ, Bool, true, false, List, Option, Some, None, refl, sym, ap, ◌∙◌, subst, arith}
use Rattle.nv_base.specs.Count.{next_count}
use Rattle.nv_base.specs.Geometry.{sectors_of_bank, pages_of_sector}
use Rattle.nv_base.specs.declared.instance.DeviceNumber.{DeviceNumber}
use Rattle.memif.specs.declared.answer.DeviceTurn.TheVariants as turn
use Rattle.fls_model.specs.declared.flash.FlashAnswer.{FlashAnswer}
use Rattle.fls_model.specs.declared.flash.FlashAnswer.TheVariants.{Done, Failed}
use Rattle.fls_model.specs.Told.{Told}
use Rattle.fls_jobs.specs.State.{FlsState}
use Rattle.fee_format.specs.declared.rec_head.RecHead.{RecHead}
use Rattle.fee_format.specs.declared.rec_head.RecordKind.TheVariants as kind
use Rattle.fee_image.specs.Image.{Layout}
use Rattle.fee_image.specs.Banks.{Phase, Erasing, Copying}
use Rattle.fee_image.specs.Copies.{Each, copied_of}
use Rattle.fee_switch_laws.specs.fee_log.Index.{clear_flags}
use Rattle.fee_switch_laws.specs.fee_log.Log.{LogState, log_of, work_in, erased_state}
use Rattle.fee_course.specs.declared.course.Course.{Course}
use Rattle.fee_course.specs.declared.course.Course.TheVariants.{Erase}
use Rattle.fee_course.specs.Course.{after_done}
use Rattle.fee_switch_laws.specs.fee_switch.Banks.{BanksState, after_answer, left_of}
use Rattle.fee_switch_laws.specs.Shown.{phase_shown, phase_at}
use Rattle.fee_switch_laws.specs.KeepsRoom.{KeepsRoom}
use Rattle.fee_switch_laws.proofs.RoomSteps.{steps_keep_room, steps_lower}
use Rattle.promise_device.specs.Making.{Making, banks_of}
use Rattle.fee_told.specs.Slots.{Memory, settled_in}
use Rattle.fee_told.specs.Kept.{IsKept}
use Rattle.fee_told.proofs.Switches.{copies_fail}
use Rattle.fee_told.proofs.Parts.{rose_more}
use Rattle.fee_told.proofs.Slots.{keeps_same}
use Rattle.fee_told.proofs.ToldBytes.{now_at}
use Rattle.fee_laws.specs.Copied.{flags_of, IsCopying}
use Rattle.fee_laws.specs.Inside.{Parts, memory_of, body_of, flags_in, ShowsCopies, stand_of}
use Rattle.fee_laws.specs.Turn.{Turned}
use Rattle.fee_laws.specs.Switches.{IsStepping}
use Rattle.fee_laws.proofs.Before.{legal}
use Rattle.fee_laws.proofs.SwitchShown.{no_job, standing}
use Rattle.nv_base.specs.Geometry.{address_of_page}
use Rattle.fee_image.specs.Image.{bank_in}
use Rattle.fee_image.specs.May.{held_written}
use Rattle.fee_switch_laws.specs.fee_log.declared.tail.Tail.{Tail}
use Rattle.fee_switch_laws.specs.fee_log.declared.tail.Tail.TheVariants.{Writes}
use Rattle.fee_image.specs.declared.place.Place.{Place}
use Rattle.fee_image.specs.declared.place.Place.TheVariants as place
use Rattle.fee_switch_laws.specs.fee_log.Log.{begun}
use Rattle.fee_course.specs.declared.copies.Source.{Source}
use Rattle.fee_course.specs.declared.course.Course.TheVariants.{Copy}
use Rattle.fee_switch_laws.specs.fee_switch.Copy.{head_at, IsNext}
use Rattle.fee_laws.proofs.Before.{power}
use Rattle.std.specs.Prelude.{take}
use Rattle.fee_image.specs.Places.{held_at}
use Rattle.fee_course.specs.Course.{begun as course_begun}
use Rattle.fee_switch_laws.specs.fee_switch.Banks.{reads_next, reads_source}
use Rattle.fee_switch_laws.specs.fee_switch.Copy.{BeginsAt}
use Rattle.fee_image.specs.Copies.{Copies}
use Rattle.fee_laws.specs.Switches.{failed_with}
use Rattle.fee_laws.proofs.SwitchNext.{found_copies}
use Rattle.fee_laws.proofs.SwitchFirst.{can, source, number, h, k, tail, found, is_open, begun_held}
use Rattle.std.proofs.lemmas.List.{length-take-le}
use Rattle.std.proofs.Math.ListN.{length-replicate}
use Rattle.fls_model.specs.Bytes.{SameOutside}
use Rattle.fee_image.specs.Laws.{place_in_image}
use Rattle.fee_format.specs.Pages.{gate_page}
use Rattle.fee_laws.specs.Inside.{IsActiveOf}
use Rattle.fee_laws.proofs.SwitchReadOn.{went_read}
use Rattle.fee_laws.proofs.SwitchReadFailed.{failed_read}
use Rattle.fee_laws.proofs.SwitchShown.{flags_hidden}
use Rattle.fee_switch_laws.specs.fee_switch.declared.active.ActiveBank.{ActiveBank}
use Rattle.fls_model.specs.Bytes.{piece}
use Rattle.fls_model.specs.Read.{IsRead}
use Rattle.fls_model.specs.Told.{bytes_now}
use Rattle.memif.specs.Told.{slot_at}
use Rattle.fee_told.specs.Slots.{slots_held}
use Rattle.nv_base.specs.declared.mark.Mark.TheVariants as mark
use Rattle.fee_switch_laws.specs.fee_switch.Copy.{begun_where}
use Rattle.fee_laws.specs.Switches.{CopiesAreRead, CopiesAreNotRead}
use Rattle.fee_laws.proofs.SwitchFailed.{last_by, given_by, failed_is, stand_goes}
use Rattle.fee_laws.proofs.SwitchMark.{begins_at}
use Rattle.fee_laws.proofs.FollowTurned.{is_content}

module _ (m : Making) (entry : Told) (s : Parts) (listed : List (DeviceNumber × ℕ)) (kept count : ℕ) (made : BanksState) (answer : FlashAnswer) (f : FlsState) (is : IsStepping m entry s listed kept count (Copy None) made answer f) (reads : reads_next s.banks.log (Some (Copy None)) ≡ true) where
  abbrev c : Course
  c = Copy None

  abbrev pub src : Source
  src = source m entry s listed kept count made answer f is

  abbrev num : DeviceNumber
  num = number m entry s listed kept count made answer f is

  abbrev next_is : IsNext s.banks src num
  next_is = (can m entry s listed kept count made answer f is).next

  pub content : (at : ℕ) × (written : ℕ) × (src.place ≡ place.Content at written)
  content = is_content src.place (sym (ap reads_source next_is.first) ∙ reads)

  abbrev pub at : ℕ
  at = content.0

  abbrev pub copy : RecHead
  copy = record { number = num; kind = kind.Content; length = src.length; count = content.1 }

  abbrev head : RecHead
  head = h m entry s listed kept count made answer f is

  pub head_is : head ≡ copy
  head_is = ap (λ (p : Place). head_at p num src.length) content.2

  pub begins : IsRead (address_of_page s.banks.geometry s.banks.banks s.banks.log.bank (at + 2)) s.fls.flash (take src.length s.banks.buffer) answer (take src.length made.buffer) f.flash
      × (made ≡ record s.banks { copies = begun_where answer s.banks.copies copy; buffer = made.buffer })
  begins = subst (λ (p : Place). BeginsAt p s.banks num src.length s.fls.flash answer made f.flash) content.2 (begins_at m entry s listed kept count made answer f is)

  abbrev l : Layout
  l = banks_of m

  abbrev mem : Memory
  mem = memory_of s

  abbrev pub log_k : LogState
  log_k = k m entry s listed kept count made answer f is

  tail_k : log_k.tail ≡ Writes head 0
  tail_k = tail m entry s listed kept count made answer f is

  length_is : head.length ≡ src.length
  length_is = ap (λ (x : RecHead). x.length) head_is

  -- IT WAS READ
  abbrev pub next : Course
  next = after_done s.banks.geometry.page (sectors_of_bank s.banks.geometry s.banks.banks) s.banks.log.numbers s.banks.log.places s.banks.log.flags c

  abbrev begun_course : Course
  begun_course = course_begun s.banks.geometry.page (Some src)

  next_course : next ≡ begun_course
  next_course = ap (course_begun s.banks.geometry.page) next_is.first

  abbrev pub b : BanksState
  b = record s.banks { course = Some next; log = record s.banks.log { flags = s.banks.log.flags }; copies = log_k; buffer = made.buffer }

  abbrev body : List ℕ
  body = body_of (work_in log_k.tail) made.buffer

  body_is : body ≡ take head.length made.buffer
  body_is = ap (λ (t : Tail). body_of (work_in t) made.buffer) tail_k

  module _ (wide : length made.buffer ≡ length s.banks.buffer) where
    few : src.length ≤ length made.buffer
    few = let fits' = (can m entry s listed kept count made answer f is).can.fits in omega (arith, wide, fits')

    size_is : length body ≡ head.length
    size_is = ap length body_is ∙ length-take-le head.length made.buffer (omega (arith, few, length_is))

    phase_then : phase_at next b body ≡ Copying (log_of log_k body)
    phase_then = ap (λ (x : Course). phase_at x b body) next_course

    pub kept_then : (old : List ℕ) → ShowsCopies m s c old → IsKept l m.numbers old old mem (record mem { phase = phase_at next b body }) (copied_of (flags_in m s old))
    kept_then old shows =
        let held = begun_held m entry s listed kept count made answer f is old body size_is shows.held in
        subst (λ (x : Phase). IsKept l m.numbers old old mem (record mem { phase = x }) (copied_of (flags_in m s old))) (sym phase_then)
        (record { held = held; keeps = λ n. keeps_same (slot_at m.numbers (slots_held l m.numbers old mem) n); sound = λ sound. sound })

    module _ (read_in : (old : List ℕ) → bytes_now s.fls.flash ≡ Some old → take src.length made.buffer ≡ piece (address_of_page s.banks.geometry s.banks.banks s.banks.log.bank (at + 2)) (length (take src.length made.buffer)) old) where
      copies_it : (old : List ℕ) → bytes_now s.fls.flash ≡ Some old → Each (Copies head (take head.length made.buffer)) (flags_in m s old)
      copies_it old now =
          let x = found m entry s listed kept count made answer f is old in
          let bank' = bank_in l x.active.head.format x.active.bank in
          let geo' = is.on.sound.made_for.banks_geometry in
          let banks_are' = is.on.sound.made_for.shared in
          let bank_is : s.banks.log.bank ≡ x.active.bank = (subst (λ (o : Option ActiveBank). IfSome o (λ y. (y.bank ≡ s.banks.target → ⊥) × (s.banks.log.bank ≡ y.bank))) x.is is.on.banks.active).1 in
          let whole' : length (take src.length made.buffer) ≡ src.length = length-take-le src.length made.buffer few in
          let is_read : take head.length made.buffer ≡ piece (address_of_page m.geometry m.banks x.active.bank (at + 2)) src.length old =
          (λ i. take (length_is i) made.buffer) ∙ read_in old now ∙ (λ i. piece (address_of_page (geo' i) (banks_are' i) (bank_is i) (at + 2)) (whole' i) old) in
          let writes = subst (λ (p : Place). held_written (head_at p num src.length) (take head.length made.buffer) ≡ held_at bank' old src.length p) (sym content.2) (λ i. record { mark = mark.Content (is_read i); count = content.1 }) in
          subst (λ (ns : List (DeviceNumber × ℕ)). Each (Copies head (take head.length made.buffer)) (flags_of ns s.banks.log.places s.banks.log.flags (settled_in l ns old mem.old))) is.on.sound.made_for.numbers
          (found_copies bank' old (take head.length made.buffer) src.place src.length num (flags_of s.banks.log.numbers s.banks.log.places s.banks.log.flags (settled_in l s.banks.log.numbers old mem.old)) x.left_in writes x.flags_in)

      pub copying_then : (old : List ℕ) → bytes_now s.fls.flash ≡ Some old → IsCopying next (work_in log_k.tail) made.buffer (flags_in m s old)
      copying_then old now =
          subst (λ (x : Course). IsCopying x (work_in log_k.tail) made.buffer (flags_in m s old)) (sym next_course)
          (subst (λ (t : Tail). IsCopying begun_course (work_in t) made.buffer (flags_in m s old)) (sym tail_k) (copies_it old now, is_open m entry s listed kept count made answer f is old))

-- THE TURNS
active_on : (s : BanksState) (flags : List Bool) (c : Option Course) (copies : LogState) (buffer : List ℕ) (a : Option ActiveBank) → IsActiveOf s a → IsActiveOf (record s { course = c; log = record s.log { flags = flags }; copies = copies; buffer = buffer }) a
active_on s flags c copies buffer None is = λ i. record (is i) { flags = flags }
active_on s flags c copies buffer (Some a) is = is

pub copies_are_read : CopiesAreRead
copies_are_read m entry s listed kept count made f is reads wide =
    let c : Course = Copy None in
    let start = begins m entry s listed kept count made Done f is reads in
    let room = is.on.sound.room is.on.started (power m entry s listed kept count is.on) in
    let path : b m entry s listed kept count made Done f is reads ≡ after_answer made c Done =
    (λ i. record s.banks { course = Some (next m entry s listed kept count made Done f is reads); log = record s.banks.log { flags = s.banks.log.flags }; copies = begun s.banks.copies (head_is m entry s listed kept count made Done f is reads i); buffer = made.buffer })
    ∙ (λ i. after_answer (sym start.1 i) c Done) in
    let kept' = steps_keep_room m.reserve s.banks made c s.fls.flash f.flash Done is.on.banks is.on.log is.idle is.course room is.makes (λ off. cc off) in
    let one = steps_lower m.reserve s.banks made c s.fls.flash f.flash is.on.banks is.on.log is.idle is.course room tt is.makes in
    let driver = sym (is.drives.only ∙ (λ i. record s.fls { flash = start.0.1 i; result = f.result })) in
    let read_in = λ (old : List ℕ) (now : bytes_now s.fls.flash ≡ Some old). now_at s.fls.flash.bytes (λ (x : List ℕ). take (src m entry s listed kept count made Done f is reads).length made.buffer
    ≡ piece (address_of_page s.banks.geometry s.banks.banks s.banks.log.bank ((at m entry s listed kept count made Done f is reads) + 2)) (length (take (src m entry s listed kept count made Done f is reads).length made.buffer)) x) old now start.0.0 in
    subst (λ (x : FlsState). Turned m entry turn.Worked s (record s { fls = x; banks = after_answer made c Done }) listed kept count false) driver
    (subst (λ (x : BanksState). Turned m entry turn.Worked s (record s { fls = record s.fls { flash = record s.fls.flash { faults = s.fls.flash.faults }; result = f.result }; banks = x }) listed kept count false) path
    (went_read m entry s listed kept count c is.course is.on is.idle is.behind f.result (next m entry s listed kept count made Done f is reads) s.banks.log.flags (log_k m entry s listed kept count made Done f is reads) made.buffer (record {
      seals = record { takes = λ more. refl; nearer = λ some'. absurd (omega arith) };
      copies = refl;
      room = subst (KeepsRoom m.reserve) (sym path) kept';
      lower = subst (λ (x : BanksState). left_of x + 1 ≡ left_of s.banks) (sym path) one;
      active = active_on s.banks s.banks.log.flags (Some (next m entry s listed kept count made Done f is reads)) (log_k m entry s listed kept count made Done f is reads) made.buffer s.banks.active (is.on.sound.works is.on.started).active;
      reading = λ old now shows. (kept_then m entry s listed kept count made Done f is reads wide old shows, copying_then m entry s listed kept count made Done f is reads wide read_in old now);
    })))

same_outside : (address n : ℕ) (old : List ℕ) → SameOutside address n old old
same_outside address n old = record { size = refl; front = refl; back = refl }

pub copies_are_not_read : CopiesAreNotRead
copies_are_not_read m entry s listed kept count made f is reads =
    let c : Course = Copy None in
    let mem = memory_of s in
    let l = banks_of m in
    let start = begins m entry s listed kept count made Failed f is reads in
    let room = is.on.sound.room is.on.started (power m entry s listed kept count is.on) in
    let flags = clear_flags s.banks.log.numbers in
    let log = erased_state s.banks.geometry s.banks.banks s.banks.target s.banks.copies.numbers in
    let fb : BanksState = record s.banks { course = Some (Erase 0); log = record s.banks.log { flags = flags }; copies = log; buffer = made.buffer } in
    let path : fb ≡ after_answer made c Failed = λ i. after_answer (sym start.1 i) c Failed in
    let kept' = steps_keep_room m.reserve s.banks made c s.fls.flash f.flash Failed is.on.banks is.on.log is.idle is.course room is.makes (λ off. cc off) in
    let driver = sym (is.drives.only ∙ (λ i. record s.fls { flash = start.0.1 i; result = f.result })) in
    let last = last_by s.job s.last in
    let given = given_by s.job s.given in
    let stand = stand_of s.content None last given in
    let x : Parts = record s { banks = fb; job = None; last = last; given = given } in
    let body = body_of (work_in s.banks.copies.tail) s.banks.buffer in
    let phase : mem.phase ≡ Copying (log_of s.banks.copies body) = ap (λ (o : Option Course). phase_shown o s.banks body) is.course in
    let none_blank : 0 ≡ 0 * pages_of_sector s.banks.geometry = omega arith in
    let low = (legal m entry s listed kept count is.on).pages in
    subst (λ (y : FlsState). Turned m entry turn.Worked s (failed_with s.job (record s { fls = y; banks = after_answer made c Failed; faults = next_count s.faults })) listed kept count false) driver
    (subst (λ (y : BanksState). Turned m entry turn.Worked s (failed_with s.job (record s { fls = record s.fls { flash = record s.fls.flash { faults = f.flash.faults }; result = f.result }; banks = y; faults = next_count s.faults })) listed kept count false) path
    (subst (λ (y : Parts). Turned m entry turn.Worked s y listed kept count false) (sym (failed_is s.job (record s { fls = record s.fls { flash = record s.fls.flash { faults = f.flash.faults }; result = f.result }; banks = fb; faults = next_count s.faults }) refl))
    (failed_read m entry s listed kept count c is.course is.on is.idle is.behind f.flash.faults f.result (rose_more s.fls.flash.faults f.flash.faults start.0.0) start.0.0 (Erase 0) flags log made.buffer (record {
      copies = refl;
      room = subst (KeepsRoom m.reserve) (sym path) kept';
      active = active_on s.banks flags (Some (Erase 0)) log made.buffer s.banks.active (is.on.sound.works is.on.started).active;
      reading = λ old now shows. (
        (let is' = copies_fail l m.numbers old old (gate_page l.page) mem (copied_of (flags_in m s old)) (copied_of (flags_in m x old)) 0 (log_of s.banks.copies body) stand
            (standing m entry s listed kept count c made Failed f is old (copied_of (flags_in m s old)) shows.held) phase (length-replicate {A = ℕ} l.page 0) (omega (arith, low)) (λ same. (let z : ◌≡◌ {A = ℕ} 0 1 = same in cc z))
            (same_outside (place_in_image l s.banks.target 0) (length (gate_page l.page)) old, λ are. are) (stand_goes s.content s.job s.last s.given) (no_job m entry s listed kept count c made Failed f is stand) in
            let way : record mem { phase = Erasing 0; stand = stand } ≡ memory_of x =
            λ i. record mem { old = sym (flags_hidden s.banks.active s.banks.log flags (body_of (work_in s.banks.log.tail) s.content)) i; phase = Erasing (none_blank i); stand = stand } in
            subst (λ (y : Memory). IsKept l m.numbers old old mem y (copied_of (flags_in m x old))) way is'),
        tt,
      );
    }))))
