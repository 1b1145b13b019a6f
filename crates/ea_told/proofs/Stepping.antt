-- A device before a step of its open job.
use Rattle.std.specs.Prelude.{IfSome, IsTrue, is_none, ◌==◌, if◌then◌else◌}
use Rattle.std.specs.List.{All}
use Rattle.std.proofs.Common.{◌≡◌, ◌≢◌, inl, inr, ◌<◌, ◌≤◌, ◌+◌, ◌*◌, ◌^◌, ℕ, suc, Bool, true, false, List, [], ◌∷◌, length, take, Option, Some, None, refl, sym, ap, ◌∙◌, subst, arith}
use Rattle.std.proofs.Math.Nat.{mul-le-mul_right, mul_comm}
use Rattle.std.proofs.lemmas.Bool.{cases_Bool, cases_eq, and_parts}
use Rattle.std.proofs.lemmas.List.{length-take-le}
use Rattle.std.proofs.lemmas.List.Elements.{All-take}
use Rattle.nv_base.specs.declared.geometry.Geometry.{Geometry}
use Rattle.nv_base.specs.declared.instance.DeviceNumber.{DeviceNumber}
use Rattle.nv_base.specs.declared.job.DeviceOp.{DeviceOp}
use Rattle.nv_base.specs.declared.job.DeviceOp.TheVariants.{Read, Write, Invalidate, Erase}
use Rattle.nv_base.specs.declared.mark.Mark.{Mark}
use Rattle.nv_base.specs.declared.mark.Mark.TheVariants as mark
use Rattle.nv_base.specs.Geometry.{size_of}
use Rattle.nv_base.specs.Held.{never_written}
use Rattle.memif.specs.Told.{Slot, no_slot, slot_at, Stand, Open}
use Rattle.memif.specs.Marks.{IsPossible}
use Rattle.fls_model.specs.Attach.{AreBytesOf}
use Rattle.fls_model.specs.Op.{Op, MayLeave}
use Rattle.fls_model.specs.Told.{Told, bytes_now}
use Rattle.fls_told.specs.Device.{FlashDevice, tells_held, tells_now, slot_with}
use Rattle.fls_told.specs.Clock.{ImageIsPossible, CutsArePossible}
use Rattle.fls_told.specs.Runs.{LeavesSound}
use Rattle.fls_told.proofs.Clocks.{held_now}
use Rattle.fee_format.specs.RecHead.{IsLengthOfKind}
use Rattle.fee_format.specs.Pages.{body_pages_of}
use Rattle.fee_format.proofs.Tests.{eq_is, lt_is}
use Rattle.promise_device.specs.Image.{attached}
use Rattle.ea_image.specs.declared.memory.SlotMemory.{SlotMemory}
use Rattle.ea_image.specs.declared.slot_head.SlotHead.{SlotHead}
use Rattle.ea_image.specs.declared.which.Which.{Which}
use Rattle.ea_image.specs.declared.which.Which.TheVariants.{Slot0, Slot1}
use Rattle.ea_image.specs.declared.step.SlotStep.{SlotStep}
use Rattle.ea_image.specs.declared.step.SlotStep.TheVariants.{Gate}
use Rattle.ea_image.specs.Slots.{SlotBytes, slot_bytes, other, head_sector, place_of_page, found_of, found_at, mark_shown, fits_length, IsSoundImage, is_sound_image}
use Rattle.ea_image.specs.Steps.{step_op, HasCome}
use Rattle.ea_image.specs.Memory.{HasNext, has_next_head, sequence_next}
use Rattle.ea_image.specs.Laws.{IsSlotOf, IsAtStep}
use Rattle.ea_image.proofs.Bodies.{bodies_have_room, body_reads}
use Rattle.ea_image.proofs.Reach.{sector_inside, steps_touch_one_slot, steps_leave}
use Rattle.ea_image.proofs.Soundness.{sound_slot_images_compute, steps_keep_sound}
use Rattle.fls_told.proofs.ToldBytes.{each_told, now_at, told_at}
use Rattle.ea_told.specs.declared.job.EaJob.{EaJob}
use Rattle.ea_told.specs.declared.state.SlotState.{SlotState}
use Rattle.ea_told.specs.Making.{Making, entry_of, at_entry}
use Rattle.ea_told.specs.Parts.{Parts}
use Rattle.ea_told.specs.Reading.{held_in, reading_of}
use Rattle.ea_told.specs.Device.{state_at, kind_of, head_of, mark_of, stand_of, job_leaves, left_by, slot_told, slots_in, flash_device}
use Rattle.ea_told.specs.Inside.{IsLengthOf, IsJob, HasComeTo, HoldAll, StandAll}
use Rattle.ea_told.specs.Laws.{IsStepping}
use Rattle.ea_told.proofs.Bytes.{has_bytes, attached_is, left_size, piece_size}
use Rattle.ea_told.proofs.Lists.{at_listed, pair, same_entry, entry_is, same_number, entry_length}
use Rattle.ea_told.proofs.Reading.{slots_path}
use Rattle.ea_told.proofs.Slot.{found_possible, found_behind}

-- THE JOB
pub record JobMark (op : DeviceOp) (content : List ℕ) : Type 0 where
  pub mark : Mark
  pub is : mark_of op content ≡ Some mark
  pub shown : mark_shown (kind_of op) content ≡ mark

pub job_mark : (op : DeviceOp) (content : List ℕ) → op ≢ Read → JobMark op content
job_mark Read content writes = absurd (writes refl)
job_mark Write content writes = record { mark = mark.Content content; is = refl; shown = refl }
job_mark Invalidate content writes = record { mark = mark.Invalid; is = refl; shown = refl }
job_mark Erase content writes = record { mark = mark.Erased; is = refl; shown = refl }

pub record JobLength (op : DeviceOp) (length size sector : ℕ) : Type 0 where
  pub kind : IsLengthOfKind (kind_of op) length
  pub few : length ≤ 4096
  pub room : length ≤ sector
  pub fits : IsTrue (fits_length (kind_of op) length size)

pub job_length : (op : DeviceOp) (length size sector : ℕ) → op ≢ Read → IsLengthOf op length size → 1 ≤ size → size ≤ 4096 → size ≤ sector → JobLength op length size sector
job_length Read length size sector writes is low high fit = absurd (writes refl)
job_length Write length size sector writes is low high fit = record { kind = (let some : 0 < length = omega (arith, is) in some); few = omega (arith, is); room = omega (arith, is); fits = (eq_is length size).1 is }
job_length Invalidate length size sector writes is low high fit = record { kind = is; few = omega (arith, is); room = omega (arith, is); fits = refl }
job_length Erase length size sector writes is low high fit = record { kind = is; few = omega (arith, is); room = omega (arith, is); fits = refl }

pub next_is : (o : Option SlotHead) → has_next_head o ≡ true → HasNext o
next_is None t = tt
next_is (Some h) t = (lt_is h.sequence 4294967295).0 t

sequence_small : (o : Option SlotHead) → HasNext o → sequence_next o < 2 ^ 32
sequence_small None next = omega arith
sequence_small (Some h) next = omega arith

pub other_differs : (t : Which) → other t ≡ t → ⊥
other_differs Slot0 e = cc e
other_differs Slot1 e = cc e

sector_fits : (g : Geometry) (k size : ℕ) → k < g.sectors → size ≡ size_of g → k * g.sector + g.sector ≤ size
sector_fits g k size lt is =
    let le = mul-le-mul_right g.sector (let t : suc k ≤ g.sectors = lt in t) in
    let one : suc k * g.sector ≡ k * g.sector + g.sector = omega arith in
    let turn : g.sectors * g.sector ≡ g.sector * g.sectors = mul_comm g.sectors g.sector in
    omega (arith, le, one, turn, is)

-- what is open leaves
pub job_here : (m n : ℕ) (o : Option Mark) (x : Mark) → m ≡ n → o ≡ Some x → (if m == n then left_by o else []) ≡ x ∷ []
job_here m n o x same is = ap (λ (b : Bool). if b then left_by o else []) ((eq_is m n).1 same) ∙ ap left_by is

pub job_elsewhere : (m n : ℕ) (o : Option Mark) → (m ≡ n → ⊥) → (if m == n then left_by o else []) ≡ []
job_elsewhere m n o other = elim (cases_Bool (m == n)) [
  | inl t ↦ absurd (other ((eq_is m n).0 t))
  | inr f ↦ ap (λ (b : Bool). if b then left_by o else []) f
]

pub rests_not : (started : Bool) (job : Option EaJob) (j : EaJob) → (started ≡ false → job ≡ None) → job ≡ Some j → started ≡ true
rests_not true job j rests is = refl
rests_not false job j rests is = (let none = rests refl in cc (none, is))

-- with the geometry that it was made for
module _ (m : Making) (entry : Told) (s : Parts) (j : EaJob) (at : IsStepping m entry s j) where
  abbrev pub g : Geometry
  g = m.geometry

  abbrev pub d : FlashDevice
  d = flash_device m entry s

  abbrev pub state : SlotState
  state = state_at s.states j.place

  abbrev pub mem : SlotMemory
  mem = state.memory

  abbrev pub h : SlotHead
  h = head_of j state

  abbrev pub content : List ℕ
  content = take j.length s.content

  abbrev pub pages : ℕ
  pages = body_pages_of j.length m.geometry.page

  abbrev pub n : ℕ
  n = length m.numbers

  abbrev pub op : Op
  op = step_op m.geometry j.place mem.target h content j.step

  pub started : s.started ≡ true
  started = rests_not s.started s.job j at.sound.rests at.job

  pub power : s.fls.flash.off ≡ false
  power = sym (at.sound.off started) ∙ at.on

  pub is_job : IsJob m s j
  is_job = subst (λ (o : Option EaJob). IfSome o (IsJob m s)) at.job at.sound.job

  abbrev pub size : ℕ
  size = is_job.size

  has_come : IfSome (bytes_now s.fls.flash) (HasComeTo m s j)
  has_come = subst (λ (o : Option EaJob). IfSome o (λ x. IfSome (bytes_now s.fls.flash) (HasComeTo m s x))) at.job (at.sound.work power)

  pub next : HasNext mem.settled
  next = next_is mem.settled (and_parts (is_none state.worn) (has_next_head mem.settled) at.writable).1

  pub unworn : state.worn ≡ None
  unworn = none_of state.worn (and_parts (is_none state.worn) (has_next_head mem.settled) at.writable).0
    where
      none_of : (o : Option ℕ) → is_none o ≡ true → o ≡ None
      none_of None t = refl
      none_of (Some x) t = cc t

  pub jm : JobMark j.op content
  jm = job_mark j.op content at.writes

  lengths : (1 ≤ size) × (size ≤ 4096) × (size ≤ g.sector)
  lengths = entry_length 0 0 m.numbers g.sector j.number.0 j.place (j.number, size) at.sound.made_for.slots.lengths at.sound.made_for.slots.fit is_job.entry

  pub jl : JobLength j.op j.length size g.sector
  jl = job_length j.op j.length size g.sector at.writes is_job.fits lengths.0 lengths.1 lengths.2

  inside : j.place < n
  inside = (let e = (entry_is 0 m.numbers j.number.0 j.place (j.number, size) is_job.entry).high in omega (arith, e))

  pub slot : IsSlotOf g n j.place h content
  slot = record {
    legal = at.sound.made_for.slots.legal;
    room = at.sound.made_for.slots.room;
    inside = inside;
    head = record { kind = jl.kind; length = (let few = jl.few in omega (arith, few)); sequence = sequence_small mem.settled next };
    few = jl.room;
    size = length-take-le j.length s.content (let room = at.sound.made_for.room in let few = jl.room in omega (arith, room, few));
  }

  pub small : All (λ (x : ℕ). x < 256) content
  small = All-take (λ (x : ℕ). x < 256) j.length s.content at.sound.made_for.small

  -- OTHER NUMBERS
  pub own : (k i : ℕ) (x : DeviceNumber × ℕ) → entry_of m k ≡ Some (i, x) → i ≡ j.place → (j.number.0 ≡ k) × (x ≡ (j.number, size))
  own k i x e is =
      let here : entry_of m k ≡ Some (pair j.place x) = e ∙ ap (λ (y : ℕ). Some (pair y x)) is in
      let number = same_number 0 m.numbers j.number.0 k j.place (j.number, size) x is_job.entry here in
      let there = ap (entry_of m) (sym number) ∙ is_job.entry in
      (number, (same_entry j.place j.place x (j.number, size) (sym here ∙ there)).1)

  pub not_own : (k i : ℕ) (x : DeviceNumber × ℕ) → entry_of m k ≡ Some (i, x) → (i ≡ j.place → ⊥) → j.number.0 ≡ k → ⊥
  not_own k i x e other' same =
      let there = ap (entry_of m) (sym same) ∙ is_job.entry in
      other' (same_entry i j.place x (j.number, size) (sym e ∙ there)).0

  -- WHAT IS TOLD
  pub stand_is : stand_of s.content s.job s.last s.given ≡ Open (record { number = j.number.0; mark = mark_of j.op content; urgent = j.urgent })
  stand_is = ap (λ (o : Option EaJob). stand_of s.content o s.last s.given) at.job

  abbrev pub told : List ℕ → ℕ → DeviceNumber × ℕ → Slot
  told bytes i x = slot_told (state_at s.states i).memory (slot_bytes m.geometry bytes i) (job_leaves (stand_of s.content s.job s.last s.given) x.0.0)

  pub told_is : (bytes : List ℕ) (k : ℕ) → slot_with d bytes k ≡ at_entry no_slot (told bytes) (entry_of m k)
  told_is bytes k =
      ap (λ (b : Bool). slot_at m.numbers (slots_in m b s.states (stand_of s.content s.job s.last s.given) bytes) k) started
      ∙ at_listed no_slot (told bytes) 0 m.numbers k

  pub marks_here : job_leaves (stand_of s.content s.job s.last s.given) j.number.0 ≡ jm.mark ∷ []
  marks_here = ap (λ (x : Stand). job_leaves x j.number.0) stand_is ∙ job_here j.number.0 j.number.0 (mark_of j.op content) jm.mark refl jm.is

  pub marks_elsewhere : (k : ℕ) → (j.number.0 ≡ k → ⊥) → job_leaves (stand_of s.content s.job s.last s.given) k ≡ []
  marks_elsewhere k other' = ap (λ (x : Stand). job_leaves x k) stand_is ∙ job_elsewhere j.number.0 k (mark_of j.op content) other'

  -- BYTES
  module _ (old : List ℕ) (now : bytes_now s.fls.flash ≡ Some old) where
    pub are : AreBytesOf g old
    are = now_at s.fls.flash.bytes (AreBytesOf g) old now at.sound.made_for.bytes

    pub some : 0 < length old
    some = (let e = are.size in let more = has_bytes g slot.legal in omega (arith, e, more))

    pub attach_new : (new : List ℕ) → MayLeave op old new → attached g new ≡ new
    attach_new new leaves =
        let size_new = left_size op old new leaves in
        let more = some in
        attached_is g new (omega (arith, size_new, more))

    pub come_at : HasComeTo m s j old
    come_at = told_at s.fls.flash.bytes (HasComeTo m s j) old now has_come

    pub stand_at : StandAll m s old
    stand_at = told_at s.fls.flash.bytes (StandAll m s) old now (at.sound.stands started)

  -- a step touches its own slot alone
  module _ (old new : List ℕ) (leaves : MayLeave op old new) where
    pub touch : (i : ℕ) (t : Which) → ((i ≡ j.place) × (t ≡ mem.target) → ⊥) → slot_bytes g new i t ≡ slot_bytes g old i t
    touch i t apart = steps_touch_one_slot g n j.place mem.target h content j.step old new slot is_job.step leaves i t apart

    pub others : (i : ℕ) → (i ≡ j.place → ⊥) → slot_bytes g new i ≡ slot_bytes g old i
    others i apart = slots_path (slot_bytes g old i) (slot_bytes g new i) (λ w. touch i w (λ e. apart e.0))

  -- FROM A SOUND IMAGE ON
  module _ (old : List ℕ) (now : bytes_now s.fls.flash ≡ Some old) (held : IsTrue (tells_held d)) where
    tells : IsTrue (tells_now d)
    tells = held_now d held

    pub holds : HoldAll m s old
    holds = told_at s.fls.flash.bytes (HoldAll m s) old now (at.sound.held started tells)

    pub come : HasComeTo m s j old
    come = come_at old now

    pub sound_image : IsSoundImage g n old
    sound_image = (sound_slot_images_compute g n old).0
        (subst (λ (b : List ℕ). IsTrue (is_sound_image g n b)) (attached_is g old (some old now)) (told_at s.fls.flash.bytes (λ (b : List ℕ). IsTrue ((reading_of m).is_sound b)) old now (at.sound.run.sound held)))

    whole : length (slot_bytes g old j.place mem.target).head ≡ g.page
    whole =
        let k = head_sector j.place mem.target in
        let below : k < g.sectors = (let e = sector_inside n j.place mem.target inside in let room = slot.room in omega (arith, e, room)) in
        let fits = sector_fits g k (length old) below (are old now).size in
        piece_size (place_of_page g k 0) g.page old (let low = slot.legal.sector_low in omega (arith, fits, low))

    pub body : j.step ≡ Gate → take h.length (slot_bytes g old j.place mem.target).body ≡ content
    body is =
        let c : HasCome g.page pages h content Gate (slot_bytes g old j.place mem.target) = subst (λ (x : SlotStep). HasCome g.page pages h content x (slot_bytes g old j.place mem.target)) is come.come in
        let one : 1 ≤ g.page = (let low = slot.legal.page_low in omega (arith, low)) in
        let room = bodies_have_room j.length g.page one in
        let whole_size = slot.size in
        let reads = body_reads g.page pages (slot_bytes g old j.place mem.target).body content one c.2.written (omega (arith, room, whole_size)) in
        ap (λ (k : ℕ). take k (slot_bytes g old j.place mem.target).body) (sym whole_size) ∙ reads

    -- whatever is left of them
    module _ (new : List ℕ) (leaves : MayLeave op old new) where
      pub at_step : IsAtStep g.page pages size h content j.step mem (slot_bytes g old j.place) (slot_bytes g new j.place)
      at_step = record {
        holds = holds j.number.0 j.place (j.number, size) is_job.entry;
        page = slot.legal.page_low;
        head = record { legal = slot.head; page_is = refl };
        next = refl;
        sound = sound_image j.place mem.target inside;
        whole = whole;
        come = come.come;
        leaves = steps_leave g n j.place mem.target h content j.step old new slot is_job.step leaves;
        beside = touch old new leaves j.place (other mem.target) (λ e. other_differs mem.target e.1);
      }

      -- found
      found_at_entry : (k i : ℕ) (x : DeviceNumber × ℕ) → entry_of m k ≡ Some (i, x) → IsPossible (told old i x) (found_at g new i x.1)
      found_at_entry k i x e = elim (cases_eq i j.place) [
        | inr apart ↦
            let was = found_possible g.page x.1 (state_at s.states i).memory (slot_bytes g old i) (job_leaves (stand_of s.content s.job s.last s.given) x.0.0) (holds k i x e) in
            subst (λ (b : Which → SlotBytes). IsPossible (told old i x) (found_of g.page x.1 b)) (sym (others old new leaves i apart)) was
        | inl is ↦
            let mine = own k i x e is in
            let here = found_behind g.page pages size h content mem (slot_bytes g old j.place) (slot_bytes g new j.place) jm.mark j.step at_step next come.doubt body jm.shown in
            let marked = subst (λ (l : List Mark). IsPossible (slot_told mem (slot_bytes g old j.place) l) (found_of g.page size (slot_bytes g new j.place))) (sym marks_here) here in
            let of_x : IsPossible (told old j.place x) (found_at g new j.place x.1) = subst (λ (y : DeviceNumber × ℕ). IsPossible (told old j.place y) (found_at g new j.place y.1)) (sym mine.1) marked in
            subst (λ (y : ℕ). IsPossible (told old y x) (found_at g new y x.1)) (sym is) of_x
      ]

      found_for : (k : ℕ) (o : Option (ℕ × (DeviceNumber × ℕ))) → entry_of m k ≡ o → IsPossible (at_entry no_slot (told old) o) (at_entry never_written (λ i x. found_at g new i x.1) o)
      found_for k None e = inl refl
      found_for k (Some (i, x)) e = found_at_entry k i x e

      pub possible : ImageIsPossible d old new
      possible k =
          subst (λ (x : Slot). IsPossible x (held_in m (attached g new) k)) (sym (told_is old k))
          (subst (λ (b : List ℕ). IsPossible (at_entry no_slot (told old) (entry_of m k)) (held_in m b k)) (sym (attach_new old now new leaves)) (found_for k (entry_of m k) refl))

      pub sound_behind : IsTrue ((reading_of m).is_sound new)
      sound_behind =
          let is = steps_keep_sound g n j.place mem.target h content j.step old new slot come.come leaves (are old now).size sound_image in
          subst (λ (b : List ℕ). IsTrue (is_sound_image g n b)) (sym (attach_new old now new leaves)) ((sound_slot_images_compute g n new).1 is)

  pub cuts_possible : CutsArePossible op d
  cuts_possible held = each_told s.fls.flash.bytes (λ bytes. (image : List ℕ) → MayLeave op bytes image → ImageIsPossible d bytes image) (λ old now image leaves. possible old now held image leaves)

  pub leaves_sound : LeavesSound op d
  leaves_sound held = each_told s.fls.flash.bytes (λ bytes. (image : List ℕ) → MayLeave op bytes image → IsTrue (d.reading.is_sound image)) (λ old now image leaves. sound_behind old now held image leaves)
