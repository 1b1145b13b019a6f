-- The turn of a job on a number that is worn out.
use Rattle.std.specs.Prelude.{IfSome, IsTrue, is_none, ◌&&◌, nat_lt, if◌then◌else◌, unwrap_or, slice_set}
use Rattle.std.specs.List.{list_all}
use Rattle.std.proofs.Common.{◌≡◌, ◌≢◌, ◌⊎◌, inl, inr, ◌<◌, ◌≤◌, ℕ, Bool, true, false, List, [], length, take, drop, Option, Some, None, refl, sym, ap, ◌∙◌, subst, arith}
use Rattle.std.proofs.lemmas.Bool.{cases_Bool, cases_eq, cases_lt, false≢true}
use Rattle.std.proofs.lemmas.List.{get_or-set_same, get_or-set_other, length-set, drop_all}
use Rattle.nv_base.specs.declared.instance.DeviceNumber.{DeviceNumber}
use Rattle.nv_base.specs.declared.job.DeviceOp.{DeviceOp}
use Rattle.nv_base.specs.declared.job.DeviceOp.TheVariants.{Read, Write, Invalidate, Erase}
use Rattle.nv_base.specs.declared.mark.Mark.{Mark}
use Rattle.memif.specs.declared.answer.DeviceTurn.TheVariants as turn
use Rattle.memif.specs.declared.answer.JobResult.TheVariants.{JobFailed}
use Rattle.memif.specs.Told.{First, Stand, Open, Ended}
use Rattle.memif.specs.Calls.{JobTurns, EndsAs, is_read}
use Rattle.fls_model.specs.Told.{Told, Change, bytes_now}
use Rattle.fls_told.specs.Runs.{IsWornSince}
use Rattle.fls_told.proofs.Clocks.{worn_now}
use Rattle.promise_device.specs.Image.{attached}
use Rattle.fee_format.specs.Pages.{body_pages_of}
use Rattle.fee_format.proofs.Tests.{eq_is, lt_is}
use Rattle.ea_image.specs.declared.slot_head.SlotHead.{SlotHead}
use Rattle.ea_image.specs.declared.which.Which.{Which}
use Rattle.ea_image.specs.declared.which.Which.TheVariants.{Slot0, Slot1}
use Rattle.ea_image.specs.Memory.{has_next_head}
use Rattle.ea_image.specs.Slots.{SlotBytes, slot_bytes, other, standing, newest}
use Rattle.ea_image.proofs.Torn.{stands_open}
use Rattle.fls_told.proofs.ToldBytes.{each_told, now_at, told_at}
use Rattle.ea_told.specs.declared.job.EaJob.{EaJob}
use Rattle.ea_told.specs.declared.state.SlotState.{SlotState}
use Rattle.ea_told.specs.Making.{Making, entry_of, at_entry}
use Rattle.ea_told.specs.Parts.{Parts}
use Rattle.ea_told.specs.States.{no_state}
use Rattle.ea_told.specs.Reading.{is_last_head, is_last_at, last_in}
use Rattle.ea_told.specs.Device.{state_at, can_write, mark_of, stand_of, job_left, left_of, worn_in, flash_device, told_of, clock_of}
use Rattle.ea_told.specs.Inside.{IsJob, StandAll, IsSound}
use Rattle.ea_told.specs.Turn.{worn_after}
use Rattle.ea_told.specs.Laws.{Turned}
use Rattle.ea_told.proofs.Bytes.{has_bytes, attached_is}
use Rattle.ea_told.proofs.Lists.{entry_is, same_number}
use Rattle.ea_told.proofs.Passing.{passed, IsPassing, passed_turn, keeps_all}
use Rattle.ea_told.proofs.Stepping.{rests_not, job_mark}
use Rattle.fls_model.specs.Attach.{AreBytesOf}

-- HEADS
first_last : (x : SlotHead) (b : Option SlotHead) → x.sequence ≡ 4294967295 → ((y : SlotHead) → b ≡ Some y → y.sequence ≤ 4294967295) → IsTrue (is_last_head (newest (Some x) b))
first_last x None is few = (eq_is x.sequence 4294967295).1 is
first_last x (Some y) is few = elim (cases_Bool (nat_lt x.sequence y.sequence)) [
  | inl t ↦ absurd (let lt = (lt_is x.sequence y.sequence).0 t in let le = few y refl in omega arith)
  | inr f ↦ subst (λ (b : Bool). IsTrue (is_last_head (if b then Some (Slot1, y) else Some (Slot0, x)))) (sym f) ((eq_is x.sequence 4294967295).1 is)
]

second_last : (a : Option SlotHead) (x : SlotHead) → x.sequence ≡ 4294967295 → ((y : SlotHead) → a ≡ Some y → y.sequence ≤ 4294967295) → IsTrue (is_last_head (newest a (Some x)))
second_last None x is few = (eq_is x.sequence 4294967295).1 is
second_last (Some y) x is few = elim (cases_Bool (nat_lt y.sequence x.sequence)) [
  | inl t ↦ subst (λ (b : Bool). IsTrue (is_last_head (if b then Some (Slot1, x) else Some (Slot0, y)))) (sym t) ((eq_is x.sequence 4294967295).1 is)
  | inr f ↦
      let same : y.sequence ≡ 4294967295 = elim (cases_lt y.sequence x.sequence) [
        | inl lt ↦ absurd (false≢true (sym f ∙ (lt_is y.sequence x.sequence).1 lt))
        | inr ge ↦ (let le = few y refl in omega arith)
      ] in
      subst (λ (b : Bool). IsTrue (is_last_head (if b then Some (Slot1, x) else Some (Slot0, y)))) (sym f) ((eq_is y.sequence 4294967295).1 same)
]

-- a slot that stands has a sequence of 32 bits
few_sequence : (p size : ℕ) (b : SlotBytes) (y : SlotHead) → standing p size b ≡ Some y → y.sequence ≤ 4294967295
few_sequence p size b y e = (let few = (stands_open p size b y e).1.legal.sequence in omega (arith, few))

pub stands_last : (p size : ℕ) (slots : Which → SlotBytes) (t : Which) (x : SlotHead) → standing p size (slots (other t)) ≡ Some x → 4294967295 ≤ x.sequence
    → IsTrue (is_last_head (newest (standing p size (slots Slot0)) (standing p size (slots Slot1))))
stands_last p size slots Slot0 x e big =
    let few = few_sequence p size (slots Slot1) x e in
    subst (λ (o : Option SlotHead). IsTrue (is_last_head (newest (standing p size (slots Slot0)) o))) (sym e) (second_last (standing p size (slots Slot0)) x (omega arith) (λ y is. few_sequence p size (slots Slot0) y is))
stands_last p size slots Slot1 x e big =
    let few = few_sequence p size (slots Slot0) x e in
    subst (λ (o : Option SlotHead). IsTrue (is_last_head (newest o (standing p size (slots Slot1))))) (sym e) (first_last x (standing p size (slots Slot1)) (omega arith) (λ y is. few_sequence p size (slots Slot1) y is))

-- a number that can't be written is worn out, or its settled head has the last sequence
unwritable : (worn : Option ℕ) (settled : Option SlotHead) → (is_none worn && has_next_head settled) ≡ false → ((w : ℕ) × (worn ≡ Some w)) ⊎ ((x : SlotHead) × (settled ≡ Some x) × (4294967295 ≤ x.sequence))
unwritable (Some w) settled e = inl (w, refl)
unwritable None None e = cc e
unwritable None (Some x) e = inr (x, refl, elim (cases_lt x.sequence 4294967295) [ inl lt ↦ absurd (false≢true (sym e ∙ (lt_is x.sequence 4294967295).1 lt)) | inr ge ↦ ge ])

none_follow : (xs : List Change) (n : ℕ) (P : Change → Bool) → length xs ≤ n → IsTrue (list_all P (drop n xs))
none_follow xs n P le = ap (list_all P) (drop_all n xs le)

left_worn : (p : ℕ) (j : EaJob) (o : DeviceOp) (b : Bool) → b ≡ false → job_left p j o b ≡ 1
left_worn p j Read b is = refl
left_worn p j Write b is = ap (λ (x : Bool). if x then Rattle.ea_image.specs.Steps.steps_left (body_pages_of j.length p) j.step else 1) is
left_worn p j Invalidate b is = ap (λ (x : Bool). if x then Rattle.ea_image.specs.Steps.steps_left (body_pages_of j.length p) j.step else 1) is
left_worn p j Erase b is = ap (λ (x : Bool). if x then Rattle.ea_image.specs.Steps.steps_left (body_pages_of j.length p) j.step else 1) is

module _ (m : Making) (entry : Told) (s : Parts) (j : EaJob) (sound : IsSound m entry s) (job : s.job ≡ Some j) (writes : j.op ≢ Read) (on : s.off ≡ false) (full : can_write (state_at s.states j.place) ≡ false) where
  abbrev state : SlotState
  state = state_at s.states j.place

  abbrev states : List SlotState
  states = slice_set s.states j.place (record { memory = state.memory; worn = Some (unwrap_or state.worn s.ops) })

  abbrev t : Parts
  t = passed s.fls states s.content JobFailed 0 s.faults s

  started : s.started ≡ true
  started = rests_not s.started s.job j sound.rests job

  is_job : IsJob m s j
  is_job = subst (λ (o : Option EaJob). IfSome o (IsJob m s)) job sound.job

  abbrev entry_at : ℕ × (DeviceNumber × ℕ)
  entry_at = (j.place, (j.number, is_job.size))

  place_in : j.place < length s.states
  place_in = (let at = (entry_is 0 m.numbers j.number.0 j.place (j.number, is_job.size) is_job.entry).high in let states' = sound.made_for.states in omega (arith, at, states'))

  here : state_at states j.place ≡ record { memory = state.memory; worn = Some (unwrap_or state.worn s.ops) }
  here = get_or-set_same s.states j.place (record { memory = state.memory; worn = Some (unwrap_or state.worn s.ops) }) no_state place_in

  else_at : (i : ℕ) → (i ≡ j.place → ⊥) → state_at states i ≡ state_at s.states i
  else_at i apart = get_or-set_other s.states j.place i (record { memory = state.memory; worn = Some (unwrap_or state.worn s.ops) }) no_state apart

  memory_same : (i : ℕ) → (state_at states i).memory ≡ (state_at s.states i).memory
  memory_same i = elim (cases_eq i j.place) [
    | inl is ↦ subst (λ (k : ℕ). (state_at states k).memory ≡ (state_at s.states k).memory) (sym is) (ap (λ (x : SlotState). x.memory) here)
    | inr apart ↦ ap (λ (x : SlotState). x.memory) (else_at i apart)
  ]

  -- the bytes say so
  some : (b : List ℕ) → bytes_now s.fls.flash ≡ Some b → 0 < length b
  some b now = (let are = (now_at s.fls.flash.bytes (AreBytesOf m.geometry) b now sound.made_for.bytes).size in let more = has_bytes m.geometry sound.made_for.slots.legal in omega (arith, are, more))

  last_here : (b : List ℕ) → bytes_now s.fls.flash ≡ Some b → ((w : ℕ) × (state.worn ≡ Some w)) ⊎ ((x : SlotHead) × (state.memory.settled ≡ Some x) × (4294967295 ≤ x.sequence)) → IsTrue (last_in m j.number.0 (attached m.geometry b))
  last_here b now (inl (w, worn)) =
      let is : worn_in m s.states j.number.0 ≡ Some w = ap (at_entry None (λ i x. (state_at s.states i).worn)) is_job.entry ∙ worn in
      told_at s.fls.flash.bytes (λ (x : List ℕ). IsTrue (last_in m j.number.0 (attached m.geometry x))) b now (sound.run.worn j.number.0 w is).last
  last_here b now (inr (x, settled, big)) =
      let stands = told_at s.fls.flash.bytes (StandAll m s) b now (sound.stands started) j.number.0 j.place (j.number, is_job.size) is_job.entry in
      let is = stands_last m.geometry.page is_job.size (slot_bytes m.geometry b j.place) state.memory.target x (stands ∙ settled) big in
      subst (λ (c : List ℕ). IsTrue (last_in m j.number.0 c)) (sym (attached_is m.geometry b (some b now)))
      (subst (λ (o : Option (ℕ × (DeviceNumber × ℕ))). IsTrue (at_entry false (λ i y. is_last_at m.geometry b i y.1) o)) (sym is_job.entry) is)

  pub last_now : IfSome (bytes_now s.fls.flash) (λ b. IsTrue (last_in m j.number.0 (attached m.geometry b)))
  last_now = each_told s.fls.flash.bytes (λ b. IsTrue (last_in m j.number.0 (attached m.geometry b))) (λ b now. last_here b now (unwritable state.worn state.memory.settled full))

  -- WORN
  worn_here : (o : Option ℕ) → o ≡ state.worn → ((state_at states j.place).worn ≡ o) ⊎ (o ≡ None)
  worn_here None e = inr refl
  worn_here (Some w) e = inl (ap (λ (x : SlotState). x.worn) here ∙ ap (λ (x : Option ℕ). Some (unwrap_or x s.ops)) (sym e))

  pass_at : (o : Option (ℕ × (DeviceNumber × ℕ))) → (at_entry None (λ i x. (state_at states i).worn) o ≡ at_entry None (λ i x. (state_at s.states i).worn) o) ⊎ (at_entry None (λ i x. (state_at s.states i).worn) o ≡ None)
  pass_at None = inl refl
  pass_at (Some x) = elim (cases_eq x.0 j.place) [
    | inr apart ↦ inl (ap (λ (y : SlotState). y.worn) (else_at x.0 apart))
    | inl is ↦ subst (λ (k : ℕ). ((state_at states k).worn ≡ (state_at s.states k).worn) ⊎ ((state_at s.states k).worn ≡ None)) (sym is) (worn_here state.worn refl)
  ]

  since_here : (o : Option ℕ) (since : ℕ) → o ≡ state.worn → (state_at states j.place).worn ≡ Some since → (o ≡ Some since) ⊎ (since ≡ s.ops)
  since_here None since e is = inr (let at = ap (λ (x : SlotState). x.worn) here ∙ ap (λ (x : Option ℕ). Some (unwrap_or x s.ops)) (sym e) in cc (at, is))
  since_here (Some w) since e is = inl (let at = ap (λ (x : SlotState). x.worn) here ∙ ap (λ (x : Option ℕ). Some (unwrap_or x s.ops)) (sym e) in cc (at, is))

  follows : (k since : ℕ) → since ≡ s.ops → k ≡ j.number.0 → IsWornSince (flash_device m entry t) k since
  follows k since is number = record {
    last = subst (λ (x : ℕ). IfSome (bytes_now s.fls.flash) (λ b. IsTrue (last_in m x (attached m.geometry b)))) (sym number) last_now;
    follow = λ small. (let ops = sound.ops in none_follow s.operations since (λ x. (flash_device m entry t).reading.may_follow k x.op) (omega (arith, is, ops)));
  }

  since_at : (k since : ℕ) (o : Option (ℕ × (DeviceNumber × ℕ))) → entry_of m k ≡ o → at_entry None (λ i x. (state_at states i).worn) o ≡ Some since
      → (at_entry None (λ i x. (state_at s.states i).worn) o ≡ Some since) ⊎ IsWornSince (flash_device m entry t) k since
  since_at k since None at is = cc is
  since_at k since (Some x) at is = elim (cases_eq x.0 j.place) [
    | inr apart ↦ inl (sym (ap (λ (y : SlotState). y.worn) (else_at x.0 apart)) ∙ is)
    | inl place ↦
        let is' : (state_at states j.place).worn ≡ Some since = subst (λ (i : ℕ). (state_at states i).worn ≡ Some since) place is in
        let at' : entry_of m k ≡ Some (Rattle.ea_told.proofs.Lists.pair j.place x.1) = at ∙ ap (λ (i : ℕ). Some (Rattle.ea_told.proofs.Lists.pair i x.1)) place in
        let number = same_number 0 m.numbers k j.number.0 j.place x.1 (j.number, is_job.size) at' is_job.entry in
        elim (since_here state.worn since refl is') [
          | inl was ↦ inl (subst (λ (i : ℕ). (state_at s.states i).worn ≡ Some since) (sym place) was)
          | inr new ↦ inr (follows k since new number)
        ]
  ]

  ops_at : (i since : ℕ) → (state_at states i).worn ≡ Some since → since ≤ s.ops
  ops_at i since is = elim (cases_eq i j.place) [
    | inr apart ↦ sound.worn i since (sym (ap (λ (y : SlotState). y.worn) (else_at i apart)) ∙ is)
    | inl place ↦ elim (since_here state.worn since refl (subst (λ (k : ℕ). (state_at states k).worn ≡ Some since) place is)) [
      | inl was ↦ sound.worn j.place since was
      | inr new ↦ (let goal : since ≤ s.ops = omega arith in goal)
    ]
  ]

  passing : IsPassing m entry s j s.fls states s.content JobFailed 0 s.faults
  passing = record {
    sound = sound;
    job = job;
    on = on;
    flash = refl;
    driver = refl;
    more = omega arith;
    faults_are = inl refl;
    count = length-set s.states j.place (record { memory = state.memory; worn = Some (unwrap_or state.worn s.ops) });
    memory = memory_same;
    room = refl;
    small = sound.made_for.small;
    few = omega arith;
    ended = λ e. cc e;
    worn_pass = λ n. pass_at (entry_of m n);
    worn_since = λ n since is. since_at n since (entry_of m n) refl is;
    worn_ops = ops_at;
  }

  -- THE JOB
  worn_is : (flash_device m entry t).worn j.number.0 ≡ Some (unwrap_or state.worn s.ops)
  worn_is = ap (at_entry None (λ i x. (state_at states i).worn)) is_job.entry ∙ ap (λ (x : SlotState). x.worn) here

  worn_clock : (clock_of m entry t).worn (told_of m entry t).ops j.number.0 j.urgent
  worn_clock = worn_now (flash_device m entry t) (unwrap_or state.worn s.ops) j.number.0 j.urgent worn_is
      (let few = ops_at j.place (unwrap_or state.worn s.ops) (ap (λ (x : SlotState). x.worn) here) in let ops = sound.ops in omega (arith, few, ops)) (inl last_now)

  abbrev told_mark : Option Mark
  told_mark = mark_of j.op (take j.length s.content)

  no_mark : told_mark ≢ None
  no_mark e = (let is = (job_mark j.op (take j.length s.content) writes).is in cc (is, e))

  ends : EndsAs told_mark j.number.0 JobFailed [] (told_of m entry s) (told_of m entry t)
  ends = subst (λ (o : Option Mark). EndsAs o j.number.0 JobFailed [] (told_of m entry s) (told_of m entry t)) (sym (job_mark j.op (take j.length s.content) writes).is) (keeps_all m entry s j s.fls states s.content JobFailed 0 s.faults passing, refl)

  stand_is : stand_of s.content s.job s.last s.given ≡ Open (record { number = j.number.0; mark = told_mark; urgent = j.urgent })
  stand_is = ap (λ (o : Option EaJob). stand_of s.content o s.last s.given) job

  read_not : is_read (stand_of s.content s.job s.last s.given) ≡ false
  read_not = ap is_read stand_is ∙ ap (λ (o : Option Mark). is_none o) (job_mark j.op (take j.length s.content) writes).is

  some_left : 0 < (told_of m entry s).left
  some_left = (let is : (told_of m entry s).left ≡ 1 = ap (left_of m.geometry.page s.states) job ∙ left_worn m.geometry.page j j.op (can_write state) full in omega (arith, is))

  pub worn_turn : Turned m entry turn.Worked s (worn_after j s)
  worn_turn = passed_turn m entry s j s.fls states s.content JobFailed 0 s.faults passing
      (subst (λ (x : Stand). JobTurns First x (Ended JobFailed []) (told_of m entry s) (told_of m entry t) (clock_of m entry t)) (sym stand_is) (ends, λ failed. inr (no_mark, worn_clock)))
      (λ read. absurd (false≢true (sym read_not ∙ read))) some_left
