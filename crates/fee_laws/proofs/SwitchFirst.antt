-- The copy that begins.
use Rattle.std.specs.Prelude.{IfSome, length}
use Rattle.std.proofs.Common.{◌≡◌, ◌≤◌, ◌<◌, ◌*◌, ◌^◌, ◌+◌, ◌-◌, ◌==◌, ℕ, Bool, false, List, [], ◌∷◌, Option, None, refl, sym, ap, ◌∙◌, subst, arith}
use Rattle.std.proofs.lemmas.Bool.{eqb-true}
use Rattle.nv_base.specs.declared.geometry.Geometry.{Geometry}
use Rattle.nv_base.specs.declared.instance.DeviceNumber.{DeviceNumber}
use Rattle.fls_model.specs.declared.flash.FlashAnswer.{FlashAnswer}
use Rattle.fls_model.specs.Told.{Told}
use Rattle.fls_jobs.specs.State.{FlsState}
use Rattle.fee_format.specs.declared.rec_head.RecHead.{RecHead}
use Rattle.fee_image.specs.Image.{Layout, layout_of}
use Rattle.fee_image.specs.Banks.{Phase, Copying}
use Rattle.fee_image.specs.Copies.{copied_of}
use Rattle.fee_format.specs.Formats.{new_format}
use Rattle.fee_image.proofs.Seals.{copies_change}
use Rattle.fee_switch_laws.specs.fee_log.Log.{LogState, log_of, work_in}
use Rattle.fee_switch_laws.proofs.Holds.{begins_hold}
use Rattle.fee_course.specs.declared.course.Course.{Course}
use Rattle.fee_switch_laws.specs.fee_switch.Banks.{BanksState}
use Rattle.fee_switch_laws.specs.Shown.{phase_shown}
use Rattle.fee_switch_laws.proofs.RoomReady.{steps_may_be_made}
use Rattle.promise_device.specs.Making.{Making, banks_of}
use Rattle.fee_told.specs.Slots.{banks_with, may_told, settled_in}
use Rattle.fee_told.specs.SlotLaws.{IsHeld}
use Rattle.fee_laws.specs.Copied.{flags_of}
use Rattle.fee_laws.specs.Inside.{Parts, memory_of, body_of, flags_in}
use Rattle.fee_laws.specs.Switches.{IsStepping}
use Rattle.fee_laws.proofs.SwitchShown.{roomy}
use Rattle.nv_base.specs.Geometry.{pages_of_bank}
use Rattle.fee_image.specs.Bank.{Bank}
use Rattle.fee_image.specs.Image.{bank_in}
use Rattle.fee_image.specs.RecordList.{pages_of_head}
use Rattle.fee_image.specs.Log.{HoldsLog}
use Rattle.fee_image.specs.May.{IsAmong, held_written}
use Rattle.fee_image.specs.Banks.{HoldsPhase}
use Rattle.fee_switch_laws.specs.fee_log.declared.tail.Tail.{Tail}
use Rattle.fee_switch_laws.specs.fee_log.declared.tail.Tail.TheVariants.{Writes}
use Rattle.fee_switch_laws.specs.fee_log.Index.{with_flag}
use Rattle.fee_switch_laws.specs.fee_log.Laws.{HoldsState, MayFollow}
use Rattle.fee_switch_laws.specs.fee_log.Log.{HasFormat, IsLogState, IsTail, bank_of, pages_in}
use Rattle.fee_switch_laws.specs.Flags.{IsOpenFor}
use Rattle.std.proofs.Common.{zero, suc}
use Rattle.nv_base.specs.Lengths.{AreLengths}
use Rattle.nv_base.specs.Pages.{record_pages_of}
use Rattle.fee_format.specs.RecHead.{IsLegalRecHead}
use Rattle.fee_image.specs.Found.{matches_length}
use Rattle.fee_image.specs.declared.place.Place.{Place}
use Rattle.fee_image.specs.declared.place.Place.TheVariants as place
use Rattle.fee_image.specs.May.{MayCommit}
use Rattle.fee_switch_laws.specs.fee_log.Log.{begun, tail_begun, free_in, free_behind}
use Rattle.fee_course.specs.declared.copies.Source.{Source}
use Rattle.fee_course.specs.declared.course.Course.TheVariants.{Copy}
use Rattle.fee_switch_laws.specs.fee_switch.Copy.{head_at, CanCopy, CanGoOn}
use Rattle.fee_switch_laws.specs.KeepsRoom.{IsTargetLog}
use Rattle.fee_laws.proofs.Before.{power}
use Rattle.fee_laws.proofs.SwitchCopy.{IsOver, copies_over, open_any, both_true}
use Rattle.fee_laws.proofs.SwitchNext.{Named, FoundIn, found_in, found_open}

-- ITS NUMBER
pub record Bounds (low n size : ℕ) : Type 0 where
  pub low_than : low < n
  pub high : n < 65535
  pub some : 1 ≤ size
  pub few : size ≤ 4096

pub bounds_at : (low : ℕ) (ns : List (DeviceNumber × ℕ)) (i : ℕ) (n : DeviceNumber) (size : ℕ) → AreLengths low ns → i < length ns → Named ns i n size → Bounds low n.0 size
bounds_at low [] i n size are less named = absurd (omega arith)
bounds_at low (x ∷ xs) zero n size are less named =
    let here : x ≡ (n, size) = named x in
    let a : x.0.0 ≡ n.0 = ap (λ (y : DeviceNumber × ℕ). y.0.0) here in
    let b : x.1 ≡ size = ap (λ (y : DeviceNumber × ℕ). y.1) here in
    let l1 = are.0 in let l2 = are.1 in let l3 = are.2 in let l4 = are.3 in
    record { low_than = omega (arith, a, l1); high = omega (arith, a, l2); some = omega (arith, b, l3); few = omega (arith, b, l4) }
bounds_at low (x ∷ xs) (suc i) n size are less named =
    let later = bounds_at x.0.0 xs i n size are.4 (omega arith) named in
    let l1 = are.0 in let l2 = later.low_than in
    record { low_than = omega (arith, l1, l2); high = later.high; some = later.some; few = later.few }

legal_at : (at : Place) (n : DeviceNumber) (size low : ℕ) → Bounds low n.0 size → (head_at at n size).count < 2 ^ 32 → IsLegalRecHead (head_at at n size)
legal_at (place.Content q count) n size low is counted = (let a = is.low_than in let b = is.some in let c' = is.few in record { number_low = omega (arith, a); number_high = is.high; kind = omega (arith, b); length = omega (arith, c'); count = counted })
legal_at (place.Invalid count) n size low is counted = (let a = is.low_than in record { number_low = omega (arith, a); number_high = is.high; kind = refl; length = omega arith; count = counted })
legal_at (place.Erased count) n size low is counted = (let a = is.low_than in record { number_low = omega (arith, a); number_high = is.high; kind = refl; length = omega arith; count = counted })
legal_at place.Unwritten n size low is counted = (let a = is.low_than in record { number_low = omega (arith, a); number_high = is.high; kind = refl; length = omega arith; count = counted })

number_at : (at : Place) (n : DeviceNumber) (size : ℕ) → (head_at at n size).number ≡ n
number_at (place.Content q count) n size = refl
number_at (place.Invalid count) n size = refl
number_at (place.Erased count) n size = refl
number_at place.Unwritten n size = refl

flags_many : (ns : List (DeviceNumber × ℕ)) (flags : List Bool) (n : ℕ) (on : Bool) → length (with_flag ns flags n on) ≡ length flags
flags_many [] flags n on = refl
flags_many (x ∷ xs) [] n on = refl
flags_many (x ∷ xs) (c ∷ cs) n on = ap suc (flags_many xs cs n on)

module _ (m : Making) (entry : Told) (s : Parts) (listed : List (DeviceNumber × ℕ)) (kept count : ℕ) (made : BanksState) (answer : FlashAnswer) (f : FlsState) (is : IsStepping m entry s listed kept count (Copy None) made answer f) where
  abbrev c : Course
  c = Copy None

  abbrev l : Layout
  l = banks_of m

  pub can : CanCopy s.banks
  can = subst (λ (o : Option Course). IfSome o (CanGoOn s.banks)) is.course (steps_may_be_made m.reserve s.banks is.on.banks is.on.log (is.on.sound.room is.on.started (power m entry s listed kept count is.on)))

  abbrev pub source : Source
  source = can.source

  abbrev pub number : DeviceNumber
  number = can.number

  abbrev pub h : RecHead
  h = head_at source.place number source.length

  abbrev pub k0 : LogState
  k0 = s.banks.copies

  abbrev pub k : LogState
  k = begun k0 h

  pub target : IsTargetLog s.banks c
  target = (roomy m entry s listed kept count c made answer f is).target

  pub tail : k.tail ≡ Writes h 0
  tail = ap (λ (t : Tail). tail_begun t h) target.work

  pub bounds : Bounds 0 number.0 source.length
  bounds = bounds_at 0 s.banks.log.numbers source.index number source.length is.on.log.numbers can.next.inside can.next.named

  legal_head : IsLegalRecHead h
  legal_head = legal_at source.place number source.length 0 bounds can.can.configured.count

  free_is : free_in k0 ≡ pages_in k0 - (k0.end + 0)
  free_is = ap (free_behind k0.geometry.page (pages_in k0) k0.end) target.work

  room : record_pages_of h.length k0.geometry.page ≤ free_in k0
  room = subst (λ (g : Geometry). record_pages_of h.length g.page ≤ free_in k0) (sym is.on.banks.copies.shape) can.can.room

  fits_in : k0.end + pages_of_head k0.geometry.page h ≤ pages_in k0
  fits_in = let r = room in let e = free_is in omega (arith, r, e)

  some_pages : 0 < pages_of_head k0.geometry.page h
  some_pages = omega arith

  pub format : k0.format ≡ new_format
  format = target.format

  pub state : IsLogState k
  state = record {
    geometry = is.copies.geometry;
    shared = is.copies.shared;
    bank = is.copies.bank;
    format = subst (HasFormat k0.format) (sym tail) format;
    numbers = is.copies.numbers;
    places = is.copies.places;
    counts = is.copies.counts;
    flags = flags_many k0.numbers k0.flags h.number.0 false ∙ is.copies.flags;
    end_low = is.copies.end_low;
    end_high = is.copies.end_high;
    tail = subst (IsTail k0.geometry.page (pages_in k0) k0.end) (sym tail) (legal_head, some_pages, fits_in);
  }

  pub over : IsOver m s k
  over = let o = copies_over m s is.on.sound.made_for is.on.banks format in record { geometry = o.geometry; banks = o.banks; bank = o.bank; format = o.format; numbers = o.numbers }

  abbrev body0 : List ℕ
  body0 = body_of (work_in k0.tail) s.banks.buffer

  phase : (memory_of s).phase ≡ Copying (log_of k0 body0)
  phase = ap (λ (o : Option Course). phase_shown o s.banks body0) is.course

  -- what is known of its number where bytes are told
  pub found : (old : List ℕ) → FoundIn l old s.banks.active s.banks.log (body_of (work_in s.banks.log.tail) s.content) source number
  found old = found_in l old s.banks s.banks.active (body_of (work_in s.banks.log.tail) s.content) source number is.on.log.numbers (is.on.sound.works is.on.started).active can.next.first can.next.named

  pub is_open : (old : List ℕ) → IsOpenFor h.number.0 (flags_in m s old)
  is_open old =
      let x = found old in
      let a = found_open (bank_in l x.active.head.format x.active.bank) old source.place source.length number.0 (flags_of s.banks.log.numbers s.banks.log.places s.banks.log.flags (settled_in l s.banks.log.numbers old (memory_of s).old)) x.flags_in in
      subst (λ (n : DeviceNumber). IsOpenFor n.0 (flags_in m s old)) (sym (number_at source.place number source.length))
      (subst (λ (ns : List (DeviceNumber × ℕ)). IsOpenFor number.0 (flags_of ns s.banks.log.places s.banks.log.flags (settled_in l ns old (memory_of s).old))) is.on.sound.made_for.numbers a)

  -- with it in work
  pub begun_held : (old body : List ℕ) → length body ≡ h.length → IsHeld l m.numbers old (memory_of s) (copied_of (flags_in m s old)) → IsHeld l m.numbers old (record (memory_of s) { phase = Copying (log_of k body) }) (copied_of (flags_in m s old))
  begun_held old body size held =
      let cop = copied_of (flags_in m s old) in
      let may = may_told l m.numbers old (memory_of s) in
      let phased = subst (λ (x : Phase). HoldsPhase l m.numbers old (banks_with (memory_of s) may cop) x) phase held.banks.phase in
      let path : bank_in l new_format s.banks.target ≡ bank_of k0 = λ i. bank_in (layout_of (sym over.geometry i) (sym over.banks i)) (sym over.format i) (sym over.bank i) in
      let was = subst (λ (b : Bank). HoldsLog b k0.numbers old cop (log_of k0 body0)) path (subst (λ (ns : List (DeviceNumber × ℕ)). HoldsLog (bank_in l new_format s.banks.target) ns old cop (log_of k0 body0)) (sym over.numbers) phased.holds) in
      let size_path : l.pages * l.page * l.banks ≡ pages_in k0 * k0.geometry.page * k0.banks = λ i. pages_of_bank (sym over.geometry i) (sym over.banks i) * (sym over.geometry i).page * sym over.banks i in
      let was_state : HoldsState k0 body0 old cop = record { size = subst (λ (n : ℕ). n ≤ length old) size_path held.banks.size; holds = was; follows = subst (λ (t : Tail). MayFollow cop t body0) (sym target.work) tt } in
      let commit : MayCommit cop h body = λ n size' fit. subst (λ (x : ℕ). IsAmong (cop x size') (held_written h body)) (eqb-true h.number.0 n (both_true (h.number.0 == n) (matches_length h.kind h.length size') fit)) (open_any h.number.0 (flags_in m s old) size' (held_written h body) (is_open old)) in
      let now = begins_hold k0 h body0 body old cop is.copies was_state can.can.idle can.can.configured room size commit in
      let holds = subst (λ (ns : List (DeviceNumber × ℕ)). HoldsLog (bank_in l new_format s.banks.target) ns old cop (log_of k body)) over.numbers (subst (λ (b : Bank). HoldsLog b k0.numbers old cop (log_of k body)) (sym path) now.holds) in
      record {
        banks = copies_change l m.numbers old (banks_with (memory_of s) may cop) (log_of k0 body0) (log_of k body) cop held.banks phase holds;
        job = held.job;
        seal = tt;
      }
