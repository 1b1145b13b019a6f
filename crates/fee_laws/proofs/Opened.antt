-- A job opens: what holds then, and what the start did.
use Rattle.std.specs.Prelude.{IsTrue, nat_le, take, IfSome, not, is_some, ◌&&◌}
use Rattle.std.proofs.Common.{◌≡◌, inl, inr, ◌≤◌, ◌<◌, ◌+◌, ◌-◌, ◌*◌, ◌/◌, ◌%◌, ◌^◌, ℕ, Bool, true, List, length, Option, Some, None, refl, sym, ap, ◌∙◌, subst, arith, ◌⊎◌, false, if◌then◌else◌}
use Rattle.std.proofs.Math.Nat.{div-le_self, div-add-mod}
use Rattle.std.proofs.lemmas.Bool.{cases_lt, le-leb}
use Rattle.nv_base.specs.Geometry.{IsLegal, HasBanks, sectors_of_bank}
use Rattle.nv_base.specs.declared.geometry.Geometry.{Geometry}
use Rattle.nv_base.specs.declared.instance.DeviceNumber.{DeviceNumber}
use Rattle.nv_base.specs.declared.job.DeviceOp.{DeviceOp}
use Rattle.nv_base.specs.declared.job.DeviceOp.TheVariants.{Read, Write, Invalidate, Erase}
use Rattle.nv_base.specs.declared.mark.Mark.{Mark}
use Rattle.memif.specs.Told.{Stand, Ended, Job, Fixed, figures_at, most_of, op_of, Part, First, Slot, is_open, slot_at, IfElse}
use Rattle.memif.specs.Clock.{FindsNow}
use Rattle.memif.specs.Calls.{InOrder, Opens, IsPrompt, ClockStays, is_first, record_pages}
use Rattle.fls_model.specs.Told.{Told, bytes_now, ToldBytes}
use Rattle.fee_switch_laws.specs.fee_log.Log.{IsLogState, work_in}
use Rattle.fee_course.specs.Course.{most_turns}
use Rattle.fee_switch_laws.specs.fee_switch.Banks.{IsBanksState, BanksState}
use Rattle.fee_switch_laws.specs.Shown.{old_shown, phase_shown}
use Rattle.fee_switch_laws.specs.Space.{HasSpace, free_pages}
use Rattle.promise_device.specs.Making.{Making, banks_of}
use Rattle.fee_told.specs.Slots.{Memory, HasJob, slots_held, slots_found, settled_in}
use Rattle.fee_told.specs.SlotLaws.{SamePlaces, IsHeld, Opened}
use Rattle.fee_told.specs.fls_told.Device.{slot_with}
use Rattle.fee_told.proofs.Clocks.{clocks_stay, tells_first}
use Rattle.fee_told.specs.Device.{Device, tells_now, told_of, clock_of, flash_device, is_switching}
use Rattle.fee_told.specs.Figures.{OpenWork, fixed_for, left_of, turns_of, Waits, ready_of, wait_of}
use Rattle.fee_told.proofs.Jobs.{jobs_change}
use Rattle.fee_told.proofs.Figures.{owed_few, urgent_starts}
use Rattle.fee_told.proofs.ToldBytes.{told_at}
use Rattle.fee_laws.specs.declared.job.FeeJob.{FeeJob}
use Rattle.fee_laws.specs.Inside.{Parts, device_of, memory_of, stand_of, mark_of, fixed_in, body_of, HoldsBehind, IsSound, IsAtWork, ShowsCopies}
use Rattle.fee_laws.specs.Record.{IsJobOf, IsInWork, IsReady}
use Rattle.fee_laws.specs.Work.{work_of, pages_of_op, switch_turns, seal_turns, pages_free, turns_before, begins_next, takes_append, is_waiting, fits_in, waits_of}
use Rattle.fee_laws.specs.Parts.{opened}
use Rattle.fee_laws.proofs.CallsBehind.{no_work, same_body, job_in, finds_now, run_stays, holds_still}
use Rattle.fee_laws.proofs.Bounds.{part_is, copies_few, calm_waits, pages_are}
use Rattle.fee_laws.proofs.CallOrder.{few_before, ready_kept}
use Rattle.fee_laws.proofs.Raising.{raises, raises_beside, adds, base_few, left_wanted, ready_calm, writes_pages}
use Rattle.nv_base.specs.Pages.{record_pages_of}
use Rattle.memif.specs.Marks.{DoubtsAt}
use Rattle.fee_format.specs.declared.rec_head.RecHead.{RecHead}
use Rattle.fee_image.specs.Banks.{Old}
use Rattle.fee_image.specs.Copies.{copied_of}
use Rattle.fee_course.specs.declared.course.Course.{Course}
use Rattle.fee_course.specs.declared.course.Course.TheVariants as course
use Rattle.fee_told.proofs.Steps.{places_tell, jobs_open as told_jobs_open}
use Rattle.fee_told.proofs.Whole.{opens_are_told}
use Rattle.fee_laws.specs.Copied.{flags_of, IsCopying}
use Rattle.fee_laws.proofs.Making.{shown_as}
use Rattle.fee_laws.proofs.MadeFor.{still_made, legal_made}
use Rattle.fee_laws.proofs.Starting.{same_bytes}
use Rattle.fee_laws.specs.CallLaws.{JobsOpen}

-- SIZES
-- each bank has a sector
pub each_some : (g : Geometry) (banks : ℕ) → IsLegal g → HasBanks g banks → 0 < sectors_of_bank g banks
each_some g banks legal shared = elim (cases_lt 0 (g.sectors / banks)) [
  | inl some ↦ some
  | inr none ↦
      let is : g.sectors / banks ≡ 0 = omega arith in
      let all : banks * 0 + g.sectors % banks ≡ g.sectors = subst (λ (k : ℕ). banks * k + g.sectors % banks ≡ g.sectors) is (div-add-mod g.sectors banks) in
      absurd (omega (arith, legal.sectors_low, shared.whole, all))
]

pub own_small : (ns : List (DeviceNumber × ℕ)) (g : Geometry) (banks reserve : ℕ) → IsLegal g → HasSpace ns g banks reserve → most_turns g.page (sectors_of_bank g banks) ns ≤ 20000000
own_small ns g banks reserve legal space =
    let a = div-le_self g.sectors banks in
    let b = div-le_self (g.sector * g.sectors) banks in
    let c = div-le_self (g.sector * g.sectors / banks) g.page in
    let d = copies_few g.page ns in
    let e = space.space in
    let f = legal.size in
    let h = legal.sectors_high in
    omega arith

pages_small : (p : ℕ) (op : DeviceOp) (length : ℕ) → p ≤ 256 → length ≤ 4096 → pages_of_op p op length ≤ 5000
pages_small p Read length low few = omega arith
pages_small p Write length low few = (let a = div-le_self (length + (p - 1)) p in omega arith)
pages_small p Invalidate length low few = (let a = div-le_self (0 + (p - 1)) p in omega arith)
pages_small p Erase length low few = (let a = div-le_self (0 + (p - 1)) p in omega arith)

turns_small : (mark : Option Mark) (w : OpenWork) → turns_of mark w ≤ w.pages + 1
turns_small None w = omega arith
turns_small (Some mark) w = (let a = owed_few w.owed in omega arith)

-- TESTS
all_four : (a b c d : Bool) → a ≡ true → b ≡ true → c ≡ true → d ≡ true → a && b && c && d ≡ true
all_four a b c d x y z w = rw (x, y, z, w) refl

none_in : (o : Option RecHead) (b : BanksState) (j : FeeJob) → o ≡ None → IfSome o (IsInWork b (Some j))
none_in None b j e = tt
none_in (Some h) b j e = cc e

idle_test : (o : Option RecHead) → o ≡ None → not (is_some o) ≡ true
idle_test None e = refl
idle_test (Some h) e = cc e

and_both : (a b : Bool) → a ≡ true → b ≡ true → a && b ≡ true
and_both a b x y = rw (x, y) refl

-- a write that is promised begins next, or waits for a seal
open_room : (o : Option Course) (reserve free pages : ℕ) → pages ≤ ready_of reserve (nat_le 1 (seal_turns o)) free → ((takes_append o ≡ true) × (pages ≤ free)) ⊎ (1 ≤ seal_turns o)
open_room (Some course.Head) reserve free pages few = inr (omega arith)
open_room (Some (course.Gate failed)) reserve free pages few = inr (omega arith)
open_room (Some (course.Erase done)) reserve free pages few = inl (refl, omega arith)
open_room (Some (course.Copy work)) reserve free pages few = inl (refl, omega arith)
open_room None reserve free pages few = inl (refl, omega arith)

room_test : (urgent : Bool) (pages free : ℕ) → urgent ≡ true → pages ≤ free → (if urgent then nat_le pages free else nat_le (pages + 0) free) ≡ true
room_test true pages free e few = le-leb pages free few
room_test false pages free e few = cc e

claims : (b : BanksState) (j : FeeJob) (x : Bool) → (if x then pages_of_op b.geometry.page j.op j.length else 0) ≤ pages_of_op b.geometry.page j.op j.length
claims b j true = omega arith
claims b j false = omega arith

module _ (m : Making) (entry : Told) (s : Parts) (listed : List (DeviceNumber × ℕ)) (kept count : ℕ) (is_off : Bool) (sound : IsSound m entry s listed kept count is_off) (state : IsBanksState s.banks) (log : IsLogState s.banks.log) (started : s.started ≡ true) (shut : s.job ≡ None) (j : FeeJob) (content : List ℕ) (room : length content ≡ 4096) (of : IsJobOf m.numbers j) (size : j.length ≤ 4096) where
  abbrev u : Parts
  u = opened j content s

  abbrev d : Device
  d = device_of m entry s

  abbrev t : Device
  t = device_of m entry u

  abbrev st : Stand
  st = stand_of content (Some j) s.last 0

  pub works : IsAtWork m s
  works = sound.works started

  pub h : HoldsBehind d
  h = sound.device.held started

  pub idle : work_in s.banks.log.tail ≡ None
  idle = no_work s.banks s.job (work_in s.banks.log.tail) shut works.work

  pub old_same : (memory_of u).old ≡ (memory_of s).old
  old_same = ap (λ (body : List ℕ). old_shown s.banks.active s.banks.log body) (same_body (work_in s.banks.log.tail) content s.content idle)

  pub stand_was : (memory_of s).stand ≡ Ended s.last (take s.given s.content)
  stand_was = ap (λ (o : Option FeeJob). stand_of s.content o s.last s.given) shut

  -- THE BYTES
  abbrev behind : Memory
  behind = record h.behind { stand = st }

  held_at : (bytes : List ℕ) → bytes_now s.fls.flash ≡ Some bytes → IsTrue (tells_now d) → IsHeld (banks_of m) m.numbers bytes behind h.copied
  held_at bytes at told =
      let held : IsHeld (banks_of m) m.numbers bytes h.behind h.copied = told_at s.fls.flash.bytes (λ (x : List ℕ). IsHeld (banks_of m) m.numbers x h.behind h.copied) bytes at (h.banks.held told) in
      let job = job_in m.numbers st s.last (take s.given s.content) h.behind.old (subst (λ (x : Stand). HasJob m.numbers x h.behind.old) (h.stand ∙ stand_was) held.job) in
      jobs_change (banks_of m) m.numbers bytes h.behind h.copied st (record { lengths = sound.made_for.space.lengths; legal = h.banks.legal; held = held }) job

  same_behind : h.behind ≡ memory_of s → behind ≡ memory_of u
  same_behind same = ap (λ (x : Memory). record x { stand = st }) same ∙ (λ i. record (memory_of u) { old = sym old_same i })

  pub behind_it : HoldsBehind t
  behind_it = record {
    behind = behind;
    copied = h.copied;
    banks = holds_still m entry s s.banks content (Some j) s.last 0 h started behind held_at;
    places = subst (SamePlaces h.behind.old) (sym old_same) h.places;
    stand = refl;
    on = λ off. same_behind (h.on off);
    idle = elim h.idle [ inl same ↦ inl (same_behind same) | inr fits ↦ inr fits ];
  }

  -- THE TURNS
  some : 0 < sectors_of_bank s.banks.geometry s.banks.banks
  some = each_some s.banks.geometry s.banks.banks state.legal state.shared

  fixed_same : fixed_for s.banks.geometry.page (sectors_of_bank s.banks.geometry s.banks.banks) s.banks.log.numbers m.reserve ≡ fixed_in m
  fixed_same = λ i. fixed_for (sound.made_for.banks_geometry i).page (sectors_of_bank (sound.made_for.banks_geometry i) (sound.made_for.shared i)) (sound.made_for.numbers i) m.reserve

  of_banks : IsJobOf s.banks.log.numbers j
  of_banks = subst (λ (ns : List (DeviceNumber × ℕ)). IsJobOf ns j) (sym sound.made_for.numbers) of

  abbrev jb : Job
  jb = record { number = j.number.0; mark = mark_of j.op (take j.length content); urgent = j.urgent }

  abbrev most : ℕ
  most = most_of (figures_at (fixed_in m) j.number.0) (op_of jb.mark)

  left_was : d.left ≡ switch_turns m.reserve s.banks None s.banks.course
  left_was = ap (λ (o : Option FeeJob). left_of (stand_of s.content o s.last s.given) (work_of m.reserve s.banks o)) shut

  pub raised : (d.left ≤ t.left) × (t.left ≤ d.left + most)
  raised =
      let r = raises m.reserve s.banks j of_banks idle works.switch some log (take j.length content) in
      let same = ap (λ (f : Fixed). most_of (figures_at f j.number.0) (op_of jb.mark)) fixed_same in
      let low = r.0 in let high = r.1 in
      (omega (arith, left_was), omega (arith, left_was, same))

  -- beside an open switch
  course_open : (c : Option Course) (b : BanksState) (body : List ℕ) → s.started && is_switching (phase_shown c b body) ≡ true → (x : Course) × (c ≡ Some x)
  course_open None b body switching = (let none : false ≡ true = (λ i. sym started i && false) ∙ switching in cc none)
  course_open (Some x) b body switching = (x, refl)

  beside : (flash_device d).switching ≡ true → t.left ≤ d.left + (if j.urgent then 2 else 1) * (record_pages (fixed_in m) jb + 1)
  beside switching =
      let c = course_open s.banks.course s.banks (body_of (work_in s.banks.copies.tail) s.banks.buffer) switching in
      let high = raises_beside m.reserve s.banks j of_banks idle works.switch some log state.legal.page_low (take j.length content) c.0 c.1 in
      let same = ap (λ (f : Fixed). record_pages f jb) fixed_same in
      let both = ap (λ (n : ℕ). (if j.urgent then 2 else 1) * (n + 1)) same in
      omega (arith, left_was, high, both)

  own_same : most_turns s.banks.geometry.page (sectors_of_bank s.banks.geometry s.banks.banks) s.banks.log.numbers ≡ (fixed_in m).own
  own_same = ap (λ (f : Fixed). f.own) fixed_same

  base_small : d.left ≤ (fixed_in m).own
  base_small = (let few = base_few m.reserve s.banks j of_banks idle works.switch some s.banks.course works.switch refl in omega (arith, left_was, own_same))

  own_is : (fixed_in m).own ≤ 20000000
  own_is = own_small m.numbers m.geometry m.banks m.reserve (legal_made m s sound.made_for state) sound.made_for.space

  left_fits : t.left < 2 ^ 63
  left_fits =
      let a = adds m.reserve s.banks j of_banks idle works.switch some log s.banks.course in
      let w = work_of m.reserve s.banks (Some j) in
      let turns = turns_small jb.mark w in
      let wanted = left_wanted s.banks.geometry.page (pages_of_op s.banks.geometry.page j.op j.length) s.banks.log.tail idle in
      let pages = pages_small s.banks.geometry.page j.op j.length state.legal.page_high size in
      let is = a.is in let more = a.most_own in
      omega (arith, left_was, own_same, base_small, own_is)

  order : FindsNow (told_of t) (clock_of t) → InOrder (told_of t) (clock_of t)
  order now = record {
    bounded = (let r = raised.1 in omega (arith, base_small));
    fits = left_fits;
    ready = ready_kept m.reserve (pages_free s.banks (Some j)) (nat_le 1 (seal_turns s.banks.course));
    wait = λ calm. calm_waits (turns_before s.banks.log.tail (seal_turns s.banks.course)) _ j.urgent j.promised _ (part_is m.geometry.page (fixed_in m).own m.numbers j.number.0) calm (few_before s.banks.log.tail s.banks.course);
    second = λ one. refl;
    now = now;
    told = tells_first (flash_device t) sound.device.run.alike;
  }

  pub now : FindsNow (told_of t) (clock_of t)
  now = finds_now m entry u behind_it

  pub in_order : InOrder (told_of t) (clock_of t)
  in_order = order now

  abbrev pages : ℕ
  pages = pages_of_op s.banks.geometry.page j.op j.length

  abbrev ready : ℕ
  ready = ready_of m.reserve (nat_le 1 (seal_turns s.banks.course)) (free_pages s.banks)

  ordered : ClockStays (clock_of d) (told_of t) (clock_of t)
  ordered = record { same = clocks_stay (flash_device d) (flash_device t) (record { reading = refl; entry = refl; operations = refl; bytes = refl }) (λ n. refl); order = in_order }

  -- WHAT HOLDS
  module _ (promised : j.promised ≡ true → pages ≤ ready) where
    begins : takes_append s.banks.course ≡ true → pages ≤ free_pages s.banks → j.urgent ≡ true → begins_next s.banks j ≡ true
    begins takes few urgent =
        let write = writes_pages s.banks.geometry.page j.op j.length of.length (of.urgent urgent) of.fits in
        let waits = and_both (nat_le 1 pages) (not (is_some (work_in s.banks.log.tail))) (le-leb 1 pages (omega arith)) (idle_test (work_in s.banks.log.tail) idle) in
        all_four (takes_append s.banks.course) j.urgent (is_waiting s.banks j) (fits_in 0 s.banks j) takes urgent waits (room_test j.urgent pages (free_pages s.banks) urgent few)

    by_room : j.urgent ≡ true → ((takes_append s.banks.course ≡ true) × (pages ≤ free_pages s.banks)) ⊎ (1 ≤ seal_turns s.banks.course) → (begins_next s.banks j ≡ true) ⊎ (1 ≤ seal_turns s.banks.course)
    by_room urgent (inl (takes, few)) = inl (begins takes few urgent)
    by_room urgent (inr seals) = inr seals

    is_ready : IsReady s.banks j
    is_ready promise none = by_room (of.promised promise) (open_room s.banks.course m.reserve (free_pages s.banks) pages (promised promise))

    shows : (b : ToldBytes) (c : Course) → ShowsCopies m s c b.now → ShowsCopies m u c b.now
    shows b c was =
        let job = job_in m.numbers (memory_of u).stand s.last (take s.given s.content) (memory_of s).old (subst (λ (x : Stand). HasJob m.numbers x (memory_of s).old) (ap (λ (o : Option FeeJob). stand_of s.content o s.last s.given) shut) was.held.job) in
        let held = jobs_change (banks_of m) m.numbers b.now (memory_of s) _ (memory_of u).stand (record { lengths = sound.made_for.space.lengths; legal = h.banks.legal; held = was.held }) job in
        record {
          held = subst (λ (o : Old). IsHeld (banks_of m) m.numbers b.now (record (memory_of u) { old = o }) (copied_of (flags_of m.numbers s.banks.log.places s.banks.log.flags (settled_in (banks_of m) m.numbers b.now o)))) (sym old_same) held;
          copy = subst (λ (o : Old). IsCopying c (work_in s.banks.copies.tail) s.banks.buffer (flags_of m.numbers s.banks.log.places s.banks.log.flags (settled_in (banks_of m) m.numbers b.now o))) (sym old_same) was.copy;
        }

    pub opened_sound : IsSound m entry u listed kept count is_off
    opened_sound =
        let was = sound.made_for in
        record {
          made_for = still_made m s u was refl was.bytes (record { geometry = refl; banks = refl; numbers = refl }) room (omega arith) was.ended;
          device = record {
            run = run_stays m entry s s.banks content (Some j) s.last 0 sound.device.run;
            held = λ e. behind_it;
            order = ordered.order;
            faults = sound.device.faults;
          };
          rests = λ e. cc (e, started);
          works = λ e. record { active = works.active; job = of; work = none_in (work_in s.banks.log.tail) s.banks j idle; kept = λ work calm. (let none = ap (λ (o : Option RecHead). is_some o) idle in absurd (cc (work, none))); ready = is_ready; switch = works.switch };
          room = λ e on. sound.room started on;
          copies = λ on told. shown_as s.fls.flash.bytes s.banks.course (λ b c. ShowsCopies m s c b.now) (λ b c. ShowsCopies m u c b.now) shows (sound.copies on told);
          cuts = sound.cuts;
          worn = λ since e. record { passed = (sound.worn since e).passed; shut = (sound.worn since e).shut };
          seals = sound.seals;
          numbers = sound.numbers;
          reserve = sound.reserve;
          ops = sound.ops;
          off = sound.off;
        }

  -- WHAT THE START DID
  opened_at : (bytes : List ℕ) → bytes_now s.fls.flash ≡ Some bytes → IsTrue (tells_now d) → (n : ℕ)
      → Opened jb n (slot_at m.numbers (slots_held (banks_of m) m.numbers bytes (memory_of s)) n) (slot_at m.numbers (slots_held (banks_of m) m.numbers bytes (memory_of u)) n) jb.mark
  opened_at bytes at told n =
      let held : IsHeld (banks_of m) m.numbers bytes h.behind h.copied = told_at s.fls.flash.bytes (λ (x : List ℕ). IsHeld (banks_of m) m.numbers x h.behind h.copied) bytes at (h.banks.held told) in
      let places = subst (SamePlaces h.behind.old) (sym old_same) h.places in
      let closed : is_open h.behind.stand ≡ false = ap (λ (x : Stand). is_open x) (h.stand ∙ ap (λ (o : Option FeeJob). stand_of s.content o s.last s.given) shut) in
      let o = told_jobs_open (banks_of m) m.numbers bytes h.behind (memory_of u) h.copied jb of.length held places closed refl of.configured n in
      subst (λ (slots : List Slot). Opened jb n (slot_at m.numbers slots n) (slot_at m.numbers (slots_held (banks_of m) m.numbers bytes (memory_of u)) n) jb.mark)
      (sym (places_tell (banks_of m) m.numbers bytes h.behind (memory_of s) h.places (sym h.stand))) o

  marks : DoubtsAt jb.number jb.mark (told_of d) (told_of t)
  marks = opens_are_told d t jb (record { same = record { reading = refl; numbers = refl; entry = refl; later = omega arith; old = sound.device.run.alike; new = sound.device.run.alike }; making = refl; old = started; new = started }) (λ old new told n.
      subst (λ (x : List ℕ). Opened jb n (slot_with (flash_device d) old n) (slot_with (flash_device t) x n) jb.mark) (same_bytes (bytes_now s.fls.flash) old new told.1 told.2)
      (subst (λ (x : Bool). Opened jb n
      (slot_at m.numbers (if x then slots_held (banks_of m) m.numbers old (memory_of s) else slots_found (banks_of m) m.numbers old) n)
      (slot_at m.numbers (if x then slots_held (banks_of m) m.numbers old (memory_of u) else slots_found (banks_of m) m.numbers old) n) jb.mark) (sym started) (opened_at old told.1 told.0 n)))

  -- URGENT WRITES
  abbrev part : Part
  part = (figures_at (fixed_in m) j.number.0).part

  part_first : part ≡ First
  part_first = part_is m.geometry.page (fixed_in m).own m.numbers j.number.0

  abbrev kept_pages : ℕ
  kept_pages = (figures_at (fixed_in m) j.number.0).pages

  ready_was : d.ready ≡ ready_of m.reserve (nat_le 1 (seal_turns s.banks.course)) (free_pages s.banks - 0)
  ready_was = ap (λ (o : Option FeeJob). ready_of m.reserve (nat_le 1 (seal_turns s.banks.course)) (pages_free s.banks o)) shut

  ready_same : j.urgent ≡ false → d.ready ≤ t.ready
  ready_same calm = let same = ready_was ∙ sym (ready_calm m.reserve s.banks (Some j) j refl calm) in omega (arith, same)

  pages_same : j.urgent ≡ true → kept_pages ≡ pages
  pages_same urgent =
      pages_are m.geometry.page (fixed_in m).own m.numbers j.number.0 of.length of.configured
      ∙ ap (λ (g : Geometry). record_pages_of of.length g.page) (sym sound.made_for.banks_geometry)
      ∙ sym (writes_pages s.banks.geometry.page j.op j.length of.length (of.urgent urgent) of.fits)

  prompt : (j.urgent ≡ true → pages ≤ ready → j.promised ≡ true) → j.urgent ≡ true → IsPrompt kept_pages (told_of d) (told_of t)
  prompt promises urgent fits =
      let same = pages_same urgent in
      let w0 : Waits = waits_of s.banks None in
      let few : kept_pages ≤ ready_of m.reserve (nat_le 1 (seal_turns s.banks.course)) (free_pages s.banks - 0) = omega (arith, ready_was, fits) in
      let claim = claims s.banks j (begins_next s.banks j) in
      let r = urgent_starts m.reserve (free_pages s.banks - 0) (pages_free s.banks (Some j)) kept_pages (nat_le 1 (seal_turns s.banks.course)) w0 refl few (omega (arith, same, claim)) in
      let zero : free_pages s.banks - 0 ≡ free_pages s.banks = omega arith in
      let as_ready = ap (λ (k : ℕ). ready_of m.reserve (nat_le 1 (seal_turns s.banks.course)) k) zero in
      let promise = promises urgent (omega (arith, same, few, as_ready)) in
      let wanted = left_wanted s.banks.geometry.page pages s.banks.log.tail idle in
      let waits_was : d.wait ≡ wait_of w0 = ap (λ (o : Option FeeJob). wait_of (waits_of s.banks o)) shut in
      let waits_now : t.wait ≡ wait_of (record w0 { urgent = true; promised = true; pages = kept_pages }) = λ i. wait_of (record w0 { urgent = urgent i; promised = promise i; pages = (wanted ∙ sym same) i }) in
      let ready_left : d.ready - kept_pages ≤ t.ready = (let x = r.0 in omega (arith, ready_was)) in
      (ready_left, (r.1.0, r.1.1, waits_was ∙ r.1.2, waits_now ∙ r.1.3, r.1.4))

  ready_at : (j.urgent ≡ true → pages ≤ ready → j.promised ≡ true) → (x : Bool) → j.urgent ≡ x → IfElse (x && is_first part) (IsPrompt kept_pages (told_of d) (told_of t)) (d.ready ≤ t.ready)
  ready_at promises true urgent = subst (λ (p : Part). IfElse (is_first p) (IsPrompt kept_pages (told_of d) (told_of t)) (d.ready ≤ t.ready)) (sym part_first) (prompt promises urgent)
  ready_at promises false calm = ready_same calm

  pub opens : (j.urgent ≡ true → pages ≤ ready → j.promised ≡ true) → Opens jb (told_of d) (told_of t)
  opens promises =
      let r = raised in
      record { only = refl; marks = marks; left_low = r.0; left_high = r.1; left_beside = λ one switching. beside switching; ready = ready_at promises j.urgent refl }

  pub stays : ClockStays (clock_of d) (told_of t) (clock_of t)
  stays = ordered

pub jobs_open : JobsOpen
jobs_open m entry s listed kept count is_off j content sound may = (
  opened_sound m entry s listed kept count is_off sound may.banks may.log may.started may.shut j content may.room may.job may.size may.promised.ready,
  opens m entry s listed kept count is_off sound may.banks may.log may.started may.shut j content may.room may.job may.size may.promised.urgent,
  stays m entry s listed kept count is_off sound may.banks may.log may.started may.shut j content may.room may.job may.size,
)
