-- A page of a record of the target.
use Rattle.std.specs.Prelude.{IsSome, length, is_some}
use Rattle.std.proofs.Common.{◌≡◌, ◌≤◌, ◌<◌, ◌*◌, ◌==◌, ℕ, Bool, true, false, if◌then◌else◌, List, [], ◌∷◌, Option, Some, None, refl, sym, ap, ◌∙◌, subst, arith}
use Rattle.nv_base.specs.declared.geometry.Geometry.{Geometry}
use Rattle.nv_base.specs.declared.instance.DeviceNumber.{DeviceNumber}
use Rattle.nv_base.specs.Held.{Held}
use Rattle.fls_model.specs.declared.flash.FlashAnswer.{FlashAnswer}
use Rattle.fls_model.specs.declared.flash.FlashAnswer.TheVariants.{Done}
use Rattle.fls_model.specs.Op.{Op, MayLeave}
use Rattle.fls_model.specs.Step.{Leaves}
use Rattle.fls_model.specs.Told.{Told}
use Rattle.fls_jobs.specs.State.{FlsState}
use Rattle.fee_format.specs.declared.rec_head.RecHead.{RecHead}
use Rattle.fee_image.specs.Image.{Layout, layout_of}
use Rattle.fee_image.specs.Log.{Log}
use Rattle.fee_image.specs.May.{May}
use Rattle.fee_image.specs.Banks.{Copying}
use Rattle.fee_image.specs.Copies.{Flag, copied_of}
use Rattle.fee_format.specs.Formats.{new_format}
use Rattle.fee_switch_laws.specs.fee_log.Log.{LogState, log_of, work_in}
use Rattle.fee_switch_laws.proofs.Follows.{work_is_due}
use Rattle.fee_switch_laws.proofs.Steps.{pages_stand}
use Rattle.fee_course.specs.declared.course.Course.{Course}
use Rattle.fee_switch_laws.specs.fee_switch.Banks.{BanksState}
use Rattle.promise_device.specs.Making.{Making, banks_of}
use Rattle.fee_told.specs.Slots.{Memory}
use Rattle.fee_told.specs.SlotLaws.{IsHeld}
use Rattle.fee_told.specs.Kept.{IsKept}
use Rattle.fee_told.proofs.Switches.{copies_go_on}
use Rattle.fee_laws.specs.Inside.{Parts, memory_of}
use Rattle.fee_laws.specs.Switches.{IsStepping}
use Rattle.fee_laws.proofs.Before.{shape, lengths, legal}
use Rattle.std.specs.List.{All}
use Rattle.std.specs.Prelude.{◌&&◌}
use Rattle.nv_base.specs.Geometry.{address_of_page, pages_of_bank}
use Rattle.fls_model.specs.Step.{programs}
use Rattle.fee_image.specs.Bank.{Bank, page_of}
use Rattle.fee_image.specs.Image.{image_page, bank_in}
use Rattle.fee_image.specs.Log.{HoldsLog}
use Rattle.fee_image.specs.May.{IsAmong}
use Rattle.fee_image.specs.Step.{page_due, bytes_due, bytes_of_tail, log_done, may_done}
use Rattle.fee_image.specs.BankLaws.{program_of}
use Rattle.fee_image.specs.Copies.{is_done, shown_by}
use Rattle.fee_switch_laws.specs.fee_log.declared.tail.Tail.{Tail}
use Rattle.fee_switch_laws.specs.fee_log.declared.tail.Tail.TheVariants.{Writes}
use Rattle.fee_switch_laws.specs.fee_log.Laws.{HoldsState, MayFollow}
use Rattle.fee_switch_laws.specs.fee_log.Log.{IsLogState, IsTail, bank_of, pages_in, tail_with}
use Rattle.fee_switch_laws.specs.fee_log.Step.{IsPageOf, op_of, due_bytes}
use Rattle.fee_switch_laws.specs.Flags.{IsOpenFor}
use Rattle.fee_laws.proofs.Page.{due_inside}
use Rattle.fee_laws.proofs.FollowBytes.{record_page_is}
use Rattle.fee_laws.specs.Inside.{IsMadeFor}
use Rattle.fee_switch_laws.specs.fee_switch.Banks.{IsBanksState}

-- THE TARGET'S LOG
-- it is in the new format, and over the banks that the device was made for
pub record IsOver (m : Making) (s : Parts) (k : LogState) : Type 0 where
  pub geometry : k.geometry ≡ m.geometry
  pub banks : k.banks ≡ m.banks
  pub bank : k.bank ≡ s.banks.target
  pub format : k.format ≡ new_format
  pub numbers : k.numbers ≡ m.numbers

pub copies_over : (m : Making) (s : Parts) → IsMadeFor m s → IsBanksState s.banks → s.banks.copies.format ≡ new_format → IsOver m s s.banks.copies
copies_over m s made is format = record { geometry = is.copies.shape ∙ made.banks_geometry; banks = is.copies.shared ∙ made.shared; bank = is.target_log; format = format; numbers = is.numbers ∙ made.numbers }

-- FLAGS
-- of a number of which a copy is left to make the target may show anything
open_one : (c d : Bool) (x m : Held) (rest : Option (List Held)) → (c ≡ true → d ≡ false) → IsAmong rest m → IsAmong (if c then (if d then Some (x ∷ []) else None) else rest) m
open_one false d x m rest is among = among
open_one true false x m rest is among = tt
open_one true true x m rest is among = (let z : true ≡ false = is refl in cc z)

pub both_true : (a b : Bool) → a && b ≡ true → a ≡ true
both_true true b e = refl
both_true false b e = cc e

pub open_any : (number : ℕ) (fs : List Flag) (length : ℕ) (m : Held) → IsOpenFor number fs → IsAmong (copied_of fs number length) m
open_any number [] length m open' = tt
open_any number (f ∷ fs) length m open' =
    open_one ((f.number == number) && (f.length == length)) (is_done f) (shown_by f) m (copied_of fs number length) (λ e. open'.0 (both_true (f.number == number) (f.length == length) e)) (open_any number fs length m open'.1)

module _ (m : Making) (entry : Told) (s : Parts) (listed : List (DeviceNumber × ℕ)) (kept count : ℕ) (c : Course) (made : BanksState) (answer : FlashAnswer) (f : FlsState) (is : IsStepping m entry s listed kept count c made answer f) (k : LogState) (body : List ℕ) (h : RecHead) (done : ℕ) (tail : k.tail ≡ Writes h done) (state : IsLogState k) (over : IsOver m s k) (small : All (λ x. x < 256) body) where
  abbrev mem : Memory
  mem = memory_of s

  abbrev l : Layout
  l = banks_of m

  abbrev pub L : Log
  L = log_of k body

  abbrev pub q : ℕ
  q = page_due L

  abbrev pub page : List ℕ
  page = bytes_due l.page L

  some : IsSome (work_in k.tail)
  some = ap (λ (t : Tail). is_some (work_in t)) tail

  pub op_of_is : op_of k body ≡ program_of l s.banks.target q page
  op_of_is = λ i. programs (address_of_page (over.geometry i) (over.banks i) (over.bank i) ((work_is_due k body some).1 i)) (bytes_due (over.geometry i).page L)

  tail_is : IsTail k.geometry.page (pages_in k) k.end (Writes h done)
  tail_is = subst (IsTail k.geometry.page (pages_in k) k.end) tail state.tail

  is_page : IsPageOf l.page page
  is_page =
      let low = (shape m entry s listed kept count is.on).page_low in
      subst (λ (t : Tail). IsPageOf l.page (bytes_of_tail l.page (tail_with t body))) (sym tail) (record_page_is l.page h body done low tail_is.0 small)

  pub size : length page ≡ m.geometry.page
  size = is_page.size

  inside_log : (2 ≤ q) × (q < pages_in k)
  inside_log = due_inside k k.tail body state.end_low state.tail some

  pub inside : q < l.pages
  inside = subst (λ (n : ℕ). q < n) (λ i. pages_of_bank (over.geometry i) (over.banks i)) inside_log.1

  pub not_gate : q ≡ 1 → ⊥
  not_gate same = omega (arith, inside_log.0)

  -- it is done
  abbrev pub mid : Memory
  mid = record mem { phase = Copying L }

  pub done_kept : (old new : List ℕ) (cop : May) → IsHeld l m.numbers old mid cop → MayLeave (op_of k body) old new → Leaves (op_of k body) Done old new
      → IsKept l m.numbers old new mid (record mid { phase = Copying (log_done l.page m.numbers L) }) (may_done l.page cop L)
  done_kept old new cop held leaves left =
      let page_k : IsPageOf k.geometry.page (due_bytes k body) = subst (λ (g : Geometry). IsPageOf g.page (bytes_due g.page L)) (sym over.geometry) is_page in
      let bank_path : bank_in l new_format s.banks.target ≡ bank_of k = λ i. bank_in (layout_of (sym over.geometry i) (sym over.banks i)) (sym over.format i) (sym over.bank i) in
      let holds = subst (λ (b : Bank). HoldsLog b k.numbers old cop L) bank_path (subst (λ (ns : List (DeviceNumber × ℕ)). HoldsLog (bank_in l new_format s.banks.target) ns old cop L) (sym over.numbers) held.banks.phase.holds) in
      let size_path : l.pages * l.page * l.banks ≡ pages_in k * k.geometry.page * k.banks = λ i. pages_of_bank (sym over.geometry i) (sym over.banks i) * (sym over.geometry i).page * sym over.banks i in
      let held_state : HoldsState k body old cop = record { size = subst (λ (n : ℕ). n ≤ length old) size_path held.banks.size; holds = holds; follows = subst (λ (t : Tail). MayFollow cop t body) (sym tail) tt } in
      let stood = pages_stand k body old new cop (record { state = state; holds = held_state; work = some; page = page_k }) left in
      let here : image_page l new s.banks.target q ≡ page =
      (λ i. page_of (bank_in (layout_of (sym over.geometry i) (sym over.banks i)) (sym over.format i) (sym over.bank i)) new (sym (work_is_due k body some).1 i)) ∙ stood ∙ (λ i. bytes_due (over.geometry i).page L) in
      copies_go_on l m.numbers old new mid cop L (record { lengths = lengths m entry s listed kept count is.on; legal = legal m entry s listed kept count is.on; held = held }) refl (work_is_due k body some).0 size
      (subst (λ (o : Op). MayLeave o old new) op_of_is leaves) here
