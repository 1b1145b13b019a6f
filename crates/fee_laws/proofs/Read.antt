-- What reads come to.
use Rattle.std.specs.Prelude.{IfSome, IsSome, length, take, map, if◌then◌else◌}
use Rattle.std.proofs.Common.{◌≡◌, ◌≢◌, ◌⊎◌, inl, inr, ◌≤◌, ◌+◌, ◌==◌, ℕ, Bool, false, List, [], ◌∷◌, Option, Some, None, refl, sym, ap, ◌∙◌, subst, arith}
use Rattle.std.proofs.lemmas.Bool.{cond_both}
use Rattle.std.proofs.lemmas.List.{length-take-le}
use Rattle.nv_base.specs.Count.{next_count}
use Rattle.nv_base.specs.Geometry.{address_of_page}
use Rattle.nv_base.specs.declared.instance.DeviceNumber.{DeviceNumber}
use Rattle.nv_base.specs.declared.job.DeviceOp.{DeviceOp}
use Rattle.nv_base.specs.declared.mark.Mark.{Mark}
use Rattle.nv_base.specs.declared.mark.Mark.TheVariants as mark
use Rattle.memif.specs.declared.answer.DeviceTurn.TheVariants as turn
use Rattle.memif.specs.declared.answer.JobResult.{JobResult}
use Rattle.memif.specs.declared.answer.JobResult.TheVariants.{JobPending, JobOk, JobFailed, BlockInvalid, BlockInconsistent}
use Rattle.memif.specs.Told.{Held, never_written, at_number, length_of, slot_at}
use Rattle.memif.specs.Calls.{Gives, Reads}
use Rattle.fls_model.specs.Bytes.{piece}
use Rattle.fls_model.specs.declared.flash.FlashAnswer.TheVariants.{Done, Failed}
use Rattle.fls_model.specs.Told.{Told}
use Rattle.fls_jobs.specs.State.{FlsState}
use Rattle.fee_image.specs.Image.{Layout, bank_in}
use Rattle.fee_switch_laws.specs.fee_log.Index.{place_in}
use Rattle.fee_switch_laws.specs.fee_log.Log.{work_in}
use Rattle.fee_image.specs.declared.place.Place.{Place}
use Rattle.fee_image.specs.declared.place.Place.TheVariants.{Content, Invalid, Erased, Unwritten}
use Rattle.fee_image.specs.Places.{held_at}
use Rattle.fee_image.specs.Banks.{Old}
use Rattle.fee_image.specs.Doubts.{shown_of}
use Rattle.fee_switch_laws.specs.fee_switch.declared.active.ActiveBank.{ActiveBank}
use Rattle.fee_switch_laws.specs.Shown.{old_shown}
use Rattle.promise_device.specs.Making.{Making, banks_of}
use Rattle.fee_told.specs.Slots.{job_leaves, settled_in, slots_found, slots_held}
use Rattle.fee_told.proofs.Parts.{rose_more}
use Rattle.fee_told.specs.Device.{slots_in}
use Rattle.fee_told.proofs.Counted.{rose_next}
use Rattle.fee_told.proofs.ToldBytes.{now_at}
use Rattle.fee_laws.specs.declared.job.FeeJob.{FeeJob}
use Rattle.fee_laws.specs.Inside.{Parts, body_of, device_of, memory_of}
use Rattle.fee_laws.specs.Record.{IsJobOf, IsLengthOf}
use Rattle.fee_laws.specs.Turn.{Turned, ended_as}
use Rattle.fee_laws.specs.Reads.{IsReading, IsAsked, IsErasedAt, place_now, ContentsAreRead, ReadsFail, MarksAreRead}
use Rattle.fee_laws.proofs.Before.{lengths, log_geometry, log_banks}
use Rattle.fee_laws.proofs.Heads.{among}
use Rattle.fee_laws.proofs.Marks.{settled_of, shows_at}
use Rattle.fee_laws.proofs.Reading.{read_so}
use Rattle.fee_laws.proofs.FollowLifts.{some_of}

erased_at : (ns : List (DeviceNumber × ℕ)) (n : ℕ) → at_number never_written ns (map (λ (x : DeviceNumber × ℕ). never_written) ns) n ≡ never_written
erased_at [] n = refl
erased_at (x ∷ xs) n = cond_both (x.0.0 == n) never_written (at_number never_written xs (map (λ (y : DeviceNumber × ℕ). never_written) xs) n) (λ (k : Held). k ≡ never_written) (λ e. refl) (λ e. erased_at xs n)

module _ (m : Making) (entry : Told) (s : Parts) (listed : List (DeviceNumber × ℕ)) (kept count : ℕ) (j : FeeJob) (is : IsReading m entry s listed kept count j) where
  abbrev l : Layout
  l = banks_of m

  job_of : IsJobOf m.numbers j
  job_of = subst (λ (o : Option FeeJob). IfSome o (IsJobOf m.numbers)) is.job (is.on.sound.works is.on.started).job

  size_is : j.length ≡ job_of.length
  size_is = subst (λ (o : DeviceOp). IsLengthOf o j.length job_of.length) is.op job_of.fits

  few : j.length ≤ 4096
  few = let x = (among 0 m.numbers j.number.0 job_of.length (lengths m entry s listed kept count is.on) job_of.configured).few in let y = size_is in omega (arith, x, y)

  abbrev old : Option ActiveBank → Old
  old o = old_shown o s.banks.log (body_of (work_in s.banks.log.tail) s.content)

  -- what is settled, by the active bank
  settled_is : (bytes : List ℕ) (o : Option ActiveBank) → s.banks.active ≡ o → (slot_at m.numbers (slots_in (device_of m entry s) bytes) j.number.0).settled ≡ at_number never_written m.numbers (settled_in l m.numbers bytes (old o)) j.number.0
  settled_is bytes o at =
      ap (λ (b : Bool). (slot_at m.numbers (if b then slots_held l m.numbers bytes (memory_of s) else slots_found l m.numbers bytes) j.number.0).settled) is.on.started
      ∙ settled_of (shown_of l bytes (memory_of s).old) (job_leaves (memory_of s).stand) m.numbers (settled_in l m.numbers bytes (memory_of s).old) j.number.0
      ∙ ap (λ (x : Option ActiveBank). at_number never_written m.numbers (settled_in l m.numbers bytes (old x)) j.number.0) at

  held_is : (bytes : List ℕ) (a : ActiveBank) → s.banks.active ≡ Some a → (slot_at m.numbers (slots_in (device_of m entry s) bytes) j.number.0).settled ≡ held_at (bank_in l a.head.format a.bank) bytes job_of.length (place_now s j)
  held_is bytes a at =
      settled_is bytes (Some a) at
      ∙ shows_at (bank_in l a.head.format a.bank) bytes m.numbers s.banks.log.places j.number.0 job_of.length job_of.configured
      ∙ ap (λ (ns : List (DeviceNumber × ℕ)). held_at (bank_in l a.head.format a.bank) bytes job_of.length (place_in ns s.banks.log.places j.number.0)) (sym is.on.sound.made_for.numbers)

  held_none : (bytes : List ℕ) → s.banks.active ≡ None → (slot_at m.numbers (slots_in (device_of m entry s) bytes) j.number.0).settled ≡ never_written
  held_none bytes at = settled_is bytes None at ∙ erased_at m.numbers j.number.0

  -- IN MEMORY
  in_memory : (result : JobResult) (marked : Mark) → result ≢ JobPending → ((bytes : List ℕ) → (slot_at m.numbers (slots_in (device_of m entry s) bytes) j.number.0).settled.mark ≡ marked) → Reads marked result [] → Gives result (length_of m.numbers j.number.0) [] → (result ≡ JobFailed → ⊥)
      → Turned m entry turn.Worked s (ended_as result s) listed kept count false
  in_memory result marked ended shows reads gives never =
      read_so m entry s listed kept count j is s.fls.flash.faults s.fls.result s.content result 0 s.faults (omega arith) (inl refl) is.on.sound.made_for.room ended (omega arith)
      (λ bytes at told. subst (λ (x : Mark). Reads x result []) (sym (shows bytes)) reads) gives (λ failed. absurd (never failed))

  mark_at : (bytes : List ℕ) (a : ActiveBank) (p : Place) → s.banks.active ≡ Some a → place_now s j ≡ p → (slot_at m.numbers (slots_in (device_of m entry s) bytes) j.number.0).settled.mark ≡ (held_at (bank_in l a.head.format a.bank) bytes job_of.length p).mark
  mark_at bytes a p at place = ap (λ (h : Held). h.mark) (held_is bytes a at ∙ ap (held_at (bank_in l a.head.format a.bank) bytes job_of.length) place)

  invalid : IsSome s.banks.active → (writes : ℕ) → place_now s j ≡ Invalid writes → Turned m entry turn.Worked s (ended_as BlockInvalid s) listed kept count false
  invalid active writes place =
      let a = some_of s.banks.active active in
      in_memory BlockInvalid mark.Invalid (λ same. cc) (λ bytes. mark_at bytes a.0 (Invalid writes) a.1 place) refl refl (λ same. cc)

  erased_by : (o : Option ActiveBank) → s.banks.active ≡ o → (s.banks.active ≡ None) ⊎ IsErasedAt (place_now s j) → (bytes : List ℕ) → (slot_at m.numbers (slots_in (device_of m entry s) bytes) j.number.0).settled.mark ≡ mark.Erased
  erased_by None at either bytes = ap (λ (h : Held). h.mark) (held_none bytes at)
  erased_by (Some a) at (inl none) bytes = cc (at, none)
  erased_by (Some a) at (inr (inl (writes, place))) bytes = mark_at bytes a (Erased writes) at place
  erased_by (Some a) at (inr (inr place)) bytes = mark_at bytes a Unwritten at place

  erased : (s.banks.active ≡ None) ⊎ IsErasedAt (place_now s j) → Turned m entry turn.Worked s (ended_as BlockInconsistent s) listed kept count false
  erased either = in_memory BlockInconsistent mark.Erased (λ same. cc) (erased_by s.banks.active refl either) refl refl (λ same. cc)

module _ (m : Making) (entry : Told) (s : Parts) (listed : List (DeviceNumber × ℕ)) (kept count : ℕ) (j : FeeJob) (is : IsReading m entry s listed kept count j) (at written : ℕ) (content : List ℕ) (f : FlsState) where
  abbrev lay : Layout
  lay = banks_of m

  -- over the flash
  driver : (flash_faults : ℕ) → f ≡ record s.fls { flash = f.flash; result = f.result } → f.flash ≡ record s.fls.flash { faults = flash_faults } → record s.fls { flash = record s.fls.flash { faults = flash_faults }; result = f.result } ≡ f
  driver flash_faults only flash = sym (only ∙ (λ i. record s.fls { flash = flash i; result = f.result }))

  -- what a content's number has settled
  content_is : (a : ActiveBank) → s.banks.active ≡ Some a → place_now s j ≡ Content at written → (bytes : List ℕ)
      → (slot_at m.numbers (slots_in (device_of m entry s) bytes) j.number.0).settled.mark ≡ mark.Content (piece (address_of_page m.geometry m.banks a.bank (at + 2)) (job_of m entry s listed kept count j is).length bytes)
  content_is a active place bytes = mark_at m entry s listed kept count j is bytes a (Content at written) active place

  pub is_read : IsAsked s j at written content Done f → Turned m entry turn.Worked s (record s { fls = f; content = content; job = None; last = JobOk; given = j.length }) listed kept count false
  is_read asked =
      let a = some_of s.banks.active asked.active in
      let size = size_is m entry s listed kept count j is in
      let whole : length (take j.length content) ≡ j.length = length-take-le j.length content (let x = few m entry s listed kept count j is in omega (arith, x, asked.room)) in
      let bank = (subst (λ (x : Option ActiveBank). IfSome x (λ y. (y.bank ≡ s.banks.target → ⊥) × (s.banks.log.bank ≡ y.bank))) a.1 is.on.banks.active).1 in
      subst (λ (x : FlsState). Turned m entry turn.Worked s (record s { fls = x; content = content; job = None; last = JobOk; given = j.length }) listed kept count false)
      (driver s.fls.flash.faults asked.only asked.read.1)
      (read_so m entry s listed kept count j is s.fls.flash.faults f.result content JobOk j.length s.faults (omega arith) (inl refl) asked.room (λ same. cc) (few m entry s listed kept count j is)
      (λ bytes now told. subst (λ (x : Mark). Reads x JobOk (take j.length content)) (sym (content_is a.0 a.1 asked.place bytes))
      (now_at s.fls.flash.bytes (λ (b : List ℕ). take j.length content ≡ piece (address_of_page s.banks.log.geometry s.banks.log.banks s.banks.log.bank (at + 2)) (length (take j.length content)) b) bytes now asked.read.0
      ∙ (λ i. piece (address_of_page (log_geometry m entry s listed kept count is.on i) (log_banks m entry s listed kept count is.on i) (bank i) (at + 2)) ((whole ∙ size) i) bytes)))
      (subst (λ (o : Option ℕ). Gives JobOk o (take j.length content)) (sym (job_of m entry s listed kept count j is).configured) (whole ∙ size))
      (λ failed. cc))

  pub has_failed : IsAsked s j at written content Failed f → Turned m entry turn.Worked s (ended_as JobFailed (record s { fls = f; content = content; faults = next_count s.faults })) listed kept count false
  has_failed asked =
      let a = some_of s.banks.active asked.active in
      subst (λ (x : FlsState). Turned m entry turn.Worked s (ended_as JobFailed (record s { fls = x; content = content; faults = next_count s.faults })) listed kept count false)
      (driver f.flash.faults asked.only asked.read.1)
      (read_so m entry s listed kept count j is f.flash.faults f.result content JobFailed 0 (next_count s.faults) (rose_more s.fls.flash.faults f.flash.faults asked.read.0) (inr (refl, asked.read.0)) asked.room (λ same. cc) (omega arith)
      (λ bytes now told. subst (λ (x : Mark). Reads x JobFailed []) (sym (content_is a.0 a.1 asked.place bytes)) refl)
      refl (λ failed. rose_next s.faults is.on.sound.device.faults))

pub contents_are_read : ContentsAreRead
contents_are_read m entry s listed kept count j at written content f is asked = is_read m entry s listed kept count j is at written content f asked

pub reads_fail : ReadsFail
reads_fail m entry s listed kept count j at written content f is asked = has_failed m entry s listed kept count j is at written content f asked

pub marks_are_read : MarksAreRead
marks_are_read m entry s listed kept count j is = (invalid m entry s listed kept count j is, erased m entry s listed kept count j is)
