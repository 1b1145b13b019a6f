-- The turn of a read.
use Rattle.std.specs.Prelude.{IfSome, ◌==◌, if◌then◌else◌, option_map}
use Rattle.std.proofs.Common.{◌≡◌, ◌≢◌, ◌⊎◌, inl, inr, ◌<◌, ◌≤◌, ℕ, suc, Bool, true, false, List, [], ◌∷◌, length, take, drop, Option, Some, None, refl, sym, ap, ◌∙◌, subst, arith}
use Rattle.std.proofs.lemmas.Bool.{cases_Bool}
use Rattle.std.proofs.lemmas.List.{take-take, length-take-le}
use Rattle.nv_base.specs.Count.{Rose, next_count}
use Rattle.nv_base.specs.declared.instance.DeviceNumber.{DeviceNumber}
use Rattle.nv_base.specs.declared.job.DeviceOp.{DeviceOp}
use Rattle.nv_base.specs.declared.job.DeviceOp.TheVariants.{Read}
use Rattle.nv_base.specs.declared.mark.Mark.{Mark}
use Rattle.nv_base.specs.declared.mark.Mark.TheVariants as mark
use Rattle.nv_base.specs.Held.{Held}
use Rattle.memif.specs.declared.answer.DeviceTurn.TheVariants as turn
use Rattle.memif.specs.declared.answer.JobResult.{JobResult}
use Rattle.memif.specs.declared.answer.JobResult.TheVariants.{JobOk, JobFailed, JobPending, BlockInconsistent, BlockInvalid}
use Rattle.memif.specs.Told.{DeviceTold, First, Slot, no_slot, slot_at, length_of, Stand, Open, Ended}
use Rattle.memif.specs.Calls.{JobTurns, Reads as ReadsMark, ReadsAt, Gives}
use Rattle.fls_model.specs.Bytes.{piece}
use Rattle.fls_model.specs.Read.{IsRead}
use Rattle.fls_model.specs.declared.flash.FlashAnswer.{FlashAnswer}
use Rattle.fls_model.specs.declared.flash.FlashAnswer.TheVariants.{Done, Failed, Off}
use Rattle.fls_model.specs.Told.{Told, ToldBytes, bytes_now}
use Rattle.fls_jobs.specs.CallOf.{closed_as}
use Rattle.fls_jobs.specs.State.{FlsState}
use Rattle.fls_told.specs.Device.{tells_now, slots_now, slot_with}
use Rattle.fee_format.specs.declared.rec_head.RecordKind.{RecordKind}
use Rattle.fee_format.specs.declared.rec_head.RecordKind.TheVariants as kind
use Rattle.fee_format.proofs.Tests.{eq_is}
use Rattle.ea_image.specs.declared.slot_head.SlotHead.{SlotHead}
use Rattle.ea_image.specs.Memory.{held_with}
use Rattle.ea_image.specs.Slots.{SlotBytes, slot_bytes, other, body_sector, place_of_page, fits_length, fitting, standing, mark_shown}
use Rattle.ea_image.specs.SlotHead.{slot_head_of}
use Rattle.ea_image.proofs.Standing.{standing_open}
use Rattle.ea_image.proofs.Torn.{stands_open}
use Rattle.fls_told.proofs.Counted.{rose_next}
use Rattle.fls_told.proofs.ToldBytes.{told_at}
use Rattle.ea_told.specs.declared.job.EaJob.{EaJob}
use Rattle.ea_told.specs.Making.{Making, entry_from, at_entry}
use Rattle.ea_told.specs.Parts.{Parts}
use Rattle.ea_told.specs.Device.{state_at, mark_of, stand_of, job_left, left_of, job_leaves, slot_told, flash_device, told_of, clock_of}
use Rattle.ea_told.specs.Inside.{IsLengthOf, IsJob, StandAll, IsSound}
use Rattle.ea_told.specs.Turn.{ended_as, read_as, ReadsKind, ReadsHead}
use Rattle.ea_told.specs.Laws.{Turned}
use Rattle.ea_told.proofs.Lists.{entry_length}
use Rattle.ea_told.proofs.Passing.{passed, IsPassing, passed_turn, before_is, before, now_same}
use Rattle.ea_told.proofs.Stepping.{rests_not}

-- the length of a number by its entry
pub length_is : (j : ℕ) (numbers : List (DeviceNumber × ℕ)) (k i : ℕ) (x : DeviceNumber × ℕ) → entry_from j numbers k ≡ Some (i, x) → length_of numbers k ≡ Some x.1
length_is j [] k i x e = cc e
length_is j (y ∷ ys) k i x e = elim (cases_Bool (y.0.0 == k)) [
  | inl t ↦
      let same = Rattle.ea_told.proofs.Lists.same_entry j i y x (sym (ap (λ (b : Bool). if b then Some (Rattle.ea_told.proofs.Lists.pair j y) else entry_from (suc j) ys k) t) ∙ e) in
      ap (λ (b : Bool). if b then Some y.1 else length_of ys k) t ∙ ap (λ (z : DeviceNumber × ℕ). Some z.1) same.1
  | inr f ↦ ap (λ (b : Bool). if b then Some y.1 else length_of ys k) f ∙ length_is (suc j) ys k i x (sym (ap (λ (b : Bool). if b then Some (Rattle.ea_told.proofs.Lists.pair j y) else entry_from (suc j) ys k) f) ∙ e)
]

-- a read is told of where the numbers are
reads_by : (old : DeviceTold) (k : ℕ) (came : JobResult) (given : List ℕ) (o : Option (List Slot)) → ((slots : List Slot) → o ≡ Some slots → ReadsMark (slot_at old.fixed.numbers slots k).settled.mark came given) → ReadsAt k o came given old
reads_by old k came given None each = tt
reads_by old k came given (Some slots) each = each slots refl

now_slots : (b : Bool) (o : Option ToldBytes) (f : List ℕ → List Slot) (slots : List Slot) → (if b then option_map f (option_map (λ (x : ToldBytes). x.now) o) else None) ≡ Some slots
    → (b ≡ true) × ((bytes : List ℕ) × (option_map (λ (x : ToldBytes). x.now) o ≡ Some bytes) × (f bytes ≡ slots))
now_slots true None f slots e = cc e
now_slots true (Some x) f slots e = (refl, (x.now, refl, cc e))
now_slots false o f slots e = cc e

-- a content that stands has the number's length
fits_as : (b : Bool) (x h : SlotHead) → (if b then Some x else None) ≡ Some h → (b ≡ true) × (x ≡ h)
fits_as true x h e = (refl, cc e)
fits_as false x h e = cc e

fits_size : (size : ℕ) (o : Option SlotHead) (h : SlotHead) → fitting size o ≡ Some h → fits_length h.kind h.length size ≡ true
fits_size size None h e = cc e
fits_size size (Some x) h e = (let is = fits_as (fits_length x.kind x.length size) x h e in subst (λ (y : SlotHead). fits_length y.kind y.length size ≡ true) is.1 is.0)

content_size : (p size : ℕ) (b : SlotBytes) (h : SlotHead) → standing p size b ≡ Some h → h.kind ≡ kind.Content → h.length ≡ size
content_size p size b h e is =
    let fits = fits_size size (slot_head_of p b.head) h (sym (standing_open p size b (stands_open p size b h e).0) ∙ e) in
    (eq_is h.length size).0 (sym (ap (λ (k : RecordKind). fits_length k h.length size) is) ∙ fits)

module _ (m : Making) (entry : Told) (s : Parts) (j : EaJob) (sound : IsSound m entry s) (job : s.job ≡ Some j) (reads : j.op ≡ Read) (on : s.off ≡ false) where
  started : s.started ≡ true
  started = rests_not s.started s.job j sound.rests job

  is_job : IsJob m s j
  is_job = subst (λ (o : Option EaJob). IfSome o (IsJob m s)) job sound.job

  size_is : j.length ≡ is_job.size
  size_is = subst (λ (o : DeviceOp). IsLengthOf o j.length is_job.size) reads is_job.fits

  stand_is : stand_of s.content s.job s.last s.given ≡ Open (record { number = j.number.0; mark = None; urgent = j.urgent })
  stand_is = ap (λ (o : Option EaJob). stand_of s.content o s.last s.given) job ∙ ap (λ (o : DeviceOp). Open (record { number = j.number.0; mark = mark_of o (take j.length s.content); urgent = j.urgent })) reads

  some_left : 0 < (told_of m entry s).left
  some_left = (let is : (told_of m entry s).left ≡ 1 = ap (left_of m.geometry.page s.states) job ∙ ap (λ (o : DeviceOp). job_left m.geometry.page j o (Rattle.ea_told.specs.Device.can_write (state_at s.states j.place))) reads in omega (arith, is))

  passing : (f : FlsState) (content : List ℕ) (last : JobResult) (given faults : ℕ) → f.flash ≡ record s.fls.flash { faults = f.flash.faults } → f ≡ record s.fls { flash = f.flash; result = f.result } → s.fls.flash.faults ≤ f.flash.faults
      → ((faults ≡ s.faults) ⊎ ((faults ≡ next_count s.faults) × Rose s.fls.flash.faults f.flash.faults)) → length content ≡ length s.content → Rattle.std.specs.List.All (λ (x : ℕ). x < 256) content → given ≤ m.geometry.sector → last ≢ JobPending
      → IsPassing m entry s j f s.states content last given faults
  passing f content last given faults flash driver more counted room small few ended = record {
    sound = sound;
    job = job;
    on = on;
    flash = flash;
    driver = driver;
    more = more;
    faults_are = counted;
    count = refl;
    memory = λ i. refl;
    room = room;
    small = small;
    few = few;
    ended = ended;
    worn_pass = λ n. inl refl;
    worn_since = λ n since e. inl e;
    worn_ops = sound.worn;
  }

  -- what is told of the number is the mark of its settled slot
  mark_told : (f : FlsState) (content : List ℕ) (last : JobResult) (given faults : ℕ) (is : IsPassing m entry s j f s.states content last given faults) (bytes : List ℕ)
      → (slot_with (flash_device m entry s) bytes j.number.0).settled ≡ held_with (state_at s.states j.place).memory.settled (slot_bytes m.geometry bytes j.place (other (state_at s.states j.place).memory.target))
  mark_told f content last given faults is bytes =
      ap (λ (x : Slot). x.settled) (before_is m entry s j f s.states content last given faults is bytes j.number.0)
      ∙ ap (λ (o : Option (ℕ × (DeviceNumber × ℕ))). (at_entry no_slot (before m entry s j f s.states content last given faults is bytes) o).settled) is_job.entry

  turn_of_read : (f : FlsState) (content : List ℕ) (last : JobResult) (given faults : ℕ) (is : IsPassing m entry s j f s.states content last given faults)
      → ((bytes : List ℕ) → bytes_now s.fls.flash ≡ Some bytes → ReadsMark (held_with (state_at s.states j.place).memory.settled (slot_bytes m.geometry bytes j.place (other (state_at s.states j.place).memory.target))).mark last (take given content))
      → Gives last (Some is_job.size) (take given content) → (last ≡ JobFailed → Rose s.faults faults)
      → Turned m entry turn.Worked s (passed f s.states content last given faults s)
  turn_of_read f content last given faults is marks gives failed =
      let t = passed f s.states content last given faults s in
      let d = flash_device m entry s in
      let told : ReadsAt j.number.0 (told_of m entry s).slots last (take given content) (told_of m entry s) =
      reads_by (told_of m entry s) j.number.0 last (take given content) (slots_now d) (λ slots e.
      (let now = now_slots (tells_now d) s.fls.flash.bytes d.slots slots e in
      let b = now.1.0 in
      let same = ap (λ (x : List Slot). (slot_at m.numbers x j.number.0).settled.mark) now.1.2 in
      subst (λ (x : Mark). ReadsMark x last (take given content)) (ap (λ (x : Held). x.mark) (sym (mark_told f content last given faults is b)) ∙ same) (marks b now.1.1))) in
      let gives' : Gives last (length_of m.numbers j.number.0) (take given content) = subst (λ (o : Option ℕ). Gives last o (take given content)) (sym (length_is 0 m.numbers j.number.0 j.place (j.number, is_job.size) is_job.entry)) gives in
      let slots_same : (told_of m entry t).slots ≡ (told_of m entry s).slots =
      ap (λ (o : Option (List ℕ)). if tells_now d then option_map (λ b. Rattle.ea_told.specs.Device.slots_in m s.started s.states (Ended last (take given content)) b) o else None) (now_same m entry s j f s.states content last given faults is)
      ∙ ap (λ (st : Bool). if tells_now d then option_map (λ b. Rattle.ea_told.specs.Device.slots_in m st s.states (Ended last (take given content)) b) (bytes_now s.fls.flash) else None) started
      ∙ sym (ap (λ (x : Stand). if tells_now d then option_map (λ b. Rattle.ea_told.specs.Device.slots_in m true s.states x b) (bytes_now s.fls.flash) else None) stand_is
      ∙ leaves_same (tells_now d) (bytes_now s.fls.flash) last (take given content))
      ∙ sym (ap (λ (st : Bool). if tells_now d then option_map (λ b. Rattle.ea_told.specs.Device.slots_in m st s.states (stand_of s.content s.job s.last s.given) b) (bytes_now s.fls.flash) else None) started) in
      passed_turn m entry s j f s.states content last given faults is
      (subst (λ (x : Stand). JobTurns First x (Ended last (take given content)) (told_of m entry s) (told_of m entry t) (clock_of m entry t)) (sym stand_is) ((told, gives'), λ e. inl (failed e)))
      (λ read. slots_same) some_left
    where
      -- a read leaves no mark
      leaves_none : (k number : ℕ) (urgent : Bool) → job_leaves (Open (record { number = number; mark = None; urgent = urgent })) k ≡ []
      leaves_none k number urgent = elim (cases_Bool (number == k)) [ inl t ↦ ap (λ (b : Bool). if b then [] else []) t | inr f' ↦ ap (λ (b : Bool). if b then [] else []) f' ]

      listed_same : (i : ℕ) (numbers : List (DeviceNumber × ℕ)) (b : List ℕ) → Rattle.ea_told.specs.Making.listed (λ k x. slot_told (state_at s.states k).memory (slot_bytes m.geometry b k) (job_leaves (Open (record { number = j.number.0; mark = None; urgent = j.urgent })) x.0.0)) i numbers
          ≡ Rattle.ea_told.specs.Making.listed (λ k x. slot_told (state_at s.states k).memory (slot_bytes m.geometry b k) []) i numbers
      listed_same i [] b = refl
      listed_same i (x ∷ xs) b = λ y. slot_told (state_at s.states i).memory (slot_bytes m.geometry b i) (leaves_none x.0.0 j.number.0 j.urgent y) ∷ listed_same (suc i) xs b y

      leaves_same : (b : Bool) (o : Option (List ℕ)) (came : JobResult) (given' : List ℕ)
          → (if b then option_map (λ x. Rattle.ea_told.specs.Device.slots_in m true s.states (Open (record { number = j.number.0; mark = None; urgent = j.urgent })) x) o else None)
          ≡ (if b then option_map (λ x. Rattle.ea_told.specs.Device.slots_in m true s.states (Ended came given') x) o else None)
      leaves_same true None came given' = refl
      leaves_same true (Some x) came given' = ap (λ (l : List Slot). Some l) (listed_same 0 m.numbers x)
      leaves_same false o came given' = refl

  -- WITHOUT A CALL
  quiet : (last : JobResult) → last ≢ JobPending → IsPassing m entry s j s.fls s.states s.content last 0 s.faults
  quiet last ended = passing s.fls s.content last 0 s.faults refl refl (omega arith) (inl refl) refl sound.made_for.small (omega arith) ended

  none_read : (state_at s.states j.place).memory.settled ≡ None → Turned m entry turn.Worked s (ended_as BlockInconsistent s)
  none_read is = turn_of_read s.fls s.content BlockInconsistent 0 s.faults (quiet BlockInconsistent (λ e. cc e))
      (λ b now. subst (λ (o : Option SlotHead). ReadsMark (held_with o (slot_bytes m.geometry b j.place (other (state_at s.states j.place).memory.target))).mark BlockInconsistent []) (sym is) refl) refl (λ e. cc e)

  erased_read : (h : SlotHead) → (state_at s.states j.place).memory.settled ≡ Some h → h.kind ≡ kind.Erased → Turned m entry turn.Worked s (ended_as BlockInconsistent s)
  erased_read h is k = turn_of_read s.fls s.content BlockInconsistent 0 s.faults (quiet BlockInconsistent (λ e. cc e))
      (λ b now. subst (λ (o : Option SlotHead). ReadsMark (held_with o (slot_bytes m.geometry b j.place (other (state_at s.states j.place).memory.target))).mark BlockInconsistent []) (sym is)
      (subst (λ (x : RecordKind). ReadsMark (mark_shown x (take h.length (slot_bytes m.geometry b j.place (other (state_at s.states j.place).memory.target)).body)) BlockInconsistent []) (sym k) refl)) refl (λ e. cc e)

  invalid_read : (h : SlotHead) → (state_at s.states j.place).memory.settled ≡ Some h → h.kind ≡ kind.Invalid → Turned m entry turn.Worked s (ended_as BlockInvalid s)
  invalid_read h is k = turn_of_read s.fls s.content BlockInvalid 0 s.faults (quiet BlockInvalid (λ e. cc e))
      (λ b now. subst (λ (o : Option SlotHead). ReadsMark (held_with o (slot_bytes m.geometry b j.place (other (state_at s.states j.place).memory.target))).mark BlockInvalid []) (sym is)
      (subst (λ (x : RecordKind). ReadsMark (mark_shown x (take h.length (slot_bytes m.geometry b j.place (other (state_at s.states j.place).memory.target)).body)) BlockInvalid []) (sym k) refl)) refl (λ e. cc e)

  -- BY A CALL
  fits : j.length ≤ m.geometry.sector
  fits = (let l = (entry_length 0 0 m.numbers m.geometry.sector j.number.0 j.place (j.number, is_job.size) sound.made_for.slots.lengths sound.made_for.slots.fit is_job.entry).2 in let e = size_is in omega (arith, l, e))

  module _ (h : SlotHead) (settled : (state_at s.states j.place).memory.settled ≡ Some h) (k : h.kind ≡ kind.Content) (f : FlsState) (content : List ℕ) (room : length content ≡ length s.content) (small : Rattle.std.specs.List.All (λ (x : ℕ). x < 256) content) where
    abbrev from : ℕ
    from = place_of_page m.geometry (body_sector j.place (other (state_at s.states j.place).memory.target)) 0

    whole : length (take j.length content) ≡ j.length
    whole = length-take-le j.length content (let r = sound.made_for.room in let l = fits in omega (arith, r, l, room))

    -- the content that stands at the front of its body
    content_told : (b : List ℕ) → bytes_now s.fls.flash ≡ Some b → (mark_shown h.kind (take h.length (slot_bytes m.geometry b j.place (other (state_at s.states j.place).memory.target)).body)) ≡ mark.Content (piece from j.length b)
    content_told b now =
        let stands = told_at s.fls.flash.bytes (StandAll m s) b now (sound.stands started) j.number.0 j.place (j.number, is_job.size) is_job.entry in
        let same : h.length ≡ j.length = content_size m.geometry.page is_job.size (slot_bytes m.geometry b j.place (other (state_at s.states j.place).memory.target)) h (stands ∙ settled) k ∙ sym size_is in
        ap (λ (x : RecordKind). mark_shown x (take h.length (slot_bytes m.geometry b j.place (other (state_at s.states j.place).memory.target)).body)) k
        ∙ ap (λ (x : ℕ). mark.Content (take x (slot_bytes m.geometry b j.place (other (state_at s.states j.place).memory.target)).body)) same
        ∙ ap mark.Content (take-take j.length m.geometry.sector (drop from b) fits)

    content_done : IsRead from s.fls.flash (take j.length s.content) Done (take j.length content) f.flash → f ≡ record s.fls { flash = f.flash; result = closed_as Done }
        → Turned m entry turn.Worked s (read_as Done j f content s)
    content_done read only =
        let same : f.flash ≡ s.fls.flash = read.1 in
        let flash : f.flash ≡ record s.fls.flash { faults = f.flash.faults } = same ∙ (λ i. record s.fls.flash { faults = (sym same i).faults }) in
        let more : s.fls.flash.faults ≤ f.flash.faults = (let e = ap (λ (x : Told). x.faults) same in omega (arith, e)) in
        let driver : f ≡ record s.fls { flash = f.flash; result = f.result } = only ∙ (λ i. record s.fls { flash = f.flash; result = sym (ap (λ (x : FlsState). x.result) only) i }) in
        turn_of_read f content JobOk j.length s.faults (passing f content JobOk j.length s.faults flash driver more (inl refl) room small fits (λ e. cc e))
        (λ b now.
        (let is = told_at' s.fls.flash.bytes b now read.0 in
        let given : take j.length content ≡ piece from j.length b = is ∙ ap (λ (x : ℕ). piece from x b) whole in
        subst (λ (o : Option SlotHead). ReadsMark (held_with o (slot_bytes m.geometry b j.place (other (state_at s.states j.place).memory.target))).mark JobOk (take j.length content)) (sym settled)
        (subst (λ (x : Mark). ReadsMark x JobOk (take j.length content)) (sym (content_told b now)) given)))
        (whole ∙ size_is) (λ e. cc e)
      where
        told_at' : (o : Option ToldBytes) (b : List ℕ) → option_map (λ (x : ToldBytes). x.now) o ≡ Some b → IfSome o (λ x. take j.length content ≡ piece from (length (take j.length content)) x.now) → take j.length content ≡ piece from (length (take j.length content)) b
        told_at' None b now is = cc now
        told_at' (Some x) b now is = subst (λ (y : List ℕ). take j.length content ≡ piece from (length (take j.length content)) y) (cc now) is

    content_failed : Rose s.fls.flash.faults f.flash.faults → f.flash ≡ record s.fls.flash { faults = f.flash.faults } → f ≡ record s.fls { flash = f.flash; result = closed_as Failed }
        → Turned m entry turn.Worked s (read_as Failed j f content s)
    content_failed rose flash only =
        let driver : f ≡ record s.fls { flash = f.flash; result = f.result } = only ∙ (λ i. record s.fls { flash = f.flash; result = sym (ap (λ (x : FlsState). x.result) only) i }) in
        turn_of_read f content JobFailed 0 (next_count s.faults) (passing f content JobFailed 0 (next_count s.faults) flash driver (more_by s.fls.flash.faults f.flash.faults rose) (inr (refl, rose)) room small (omega arith) (λ e. cc e))
        (λ b now. subst (λ (o : Option SlotHead). ReadsMark (held_with o (slot_bytes m.geometry b j.place (other (state_at s.states j.place).memory.target))).mark JobFailed []) (sym settled)
        (subst (λ (x : Mark). ReadsMark x JobFailed []) (sym (content_told b now)) refl)) refl (λ e. rose_next s.faults sound.faults)
      where
        more_by : (a b : ℕ) → Rose a b → a ≤ b
        more_by a b (inl less) = omega arith
        more_by a b (inr (big, le)) = le

  -- THE TURN
  power : s.fls.flash.off ≡ false
  power = sym (sound.off started) ∙ on

  by_answer : (h : SlotHead) → (state_at s.states j.place).memory.settled ≡ Some h → h.kind ≡ kind.Content → (a : FlashAnswer) (f : FlsState) (content : List ℕ) → length content ≡ length s.content → Rattle.std.specs.List.All (λ (x : ℕ). x < 256) content
      → IsRead (place_of_page m.geometry (body_sector j.place (other (state_at s.states j.place).memory.target)) 0) s.fls.flash (take j.length s.content) a (take j.length content) f.flash → f ≡ record s.fls { flash = f.flash; result = closed_as a }
      → Turned m entry turn.Worked s (read_as a j f content s)
  by_answer h is k Done f content room small read only = content_done h is k f content room small read only
  by_answer h is k Failed f content room small read only = content_failed h is k f content room small read.0 read.1 only
  by_answer h is k Off f content room small read only = (let off = read.2 in let up = power in cc (off, up))

  by_kind : (h : SlotHead) (k : RecordKind) (t : Parts) → (state_at s.states j.place).memory.settled ≡ Some h → h.kind ≡ k → ReadsKind k s j t → Turned m entry turn.Worked s t
  by_kind h kind.Content t is k r =
      let read = subst (λ (g : Rattle.nv_base.specs.declared.geometry.Geometry.Geometry). IsRead (place_of_page g (body_sector j.place (other (state_at s.states j.place).memory.target)) 0) s.fls.flash (take j.length s.content) r.answer (take j.length r.content) r.fls.flash) sound.made_for.geometry r.read in
      subst (Turned m entry turn.Worked s) (sym r.after) (by_answer h is k r.answer r.fls r.content r.room r.small read r.only)
  by_kind h kind.Invalid t is k r = subst (Turned m entry turn.Worked s) (sym r) (invalid_read h is k)
  by_kind h kind.Erased t is k r = subst (Turned m entry turn.Worked s) (sym r) (erased_read h is k)

  by_head : (o : Option SlotHead) (t : Parts) → (state_at s.states j.place).memory.settled ≡ o → ReadsHead o s j t → Turned m entry turn.Worked s t
  by_head None t is r = subst (Turned m entry turn.Worked s) (sym r) (none_read is)
  by_head (Some h) t is r = by_kind h h.kind t is refl r

  pub read_turn : (t : Parts) → ReadsHead (state_at s.states j.place).memory.settled s j t → Turned m entry turn.Worked s t
  read_turn t r = by_head (state_at s.states j.place).memory.settled t refl r
