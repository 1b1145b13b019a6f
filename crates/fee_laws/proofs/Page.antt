-- A page of the record in work.
use Rattle.std.specs.Prelude.{IfSome, IsSome, length}
use Rattle.std.proofs.Common.{◌≡◌, inl, ◌<◌, ◌≤◌, ◌*◌, ℕ, List, Option, Some, None, refl, sym, ap, ◌∙◌, subst, arith}
use Rattle.std.proofs.lemmas.List.{length-take-le}
use Rattle.nv_base.specs.Geometry.{pages_of_bank, address_of_page}
use Rattle.nv_base.specs.declared.geometry.Geometry.{Geometry}
use Rattle.nv_base.specs.declared.instance.DeviceNumber.{DeviceNumber}
use Rattle.fls_model.specs.Op.{Op, MayLeave}
use Rattle.fls_model.specs.Step.{programs, Leaves}
use Rattle.fls_model.specs.declared.flash.FlashAnswer.TheVariants.{Done}
use Rattle.fls_model.specs.Told.{Told}
use Rattle.fee_format.specs.declared.rec_head.RecHead.{RecHead}
use Rattle.fee_image.specs.Bank.{Bank, page_of}
use Rattle.fee_image.specs.Image.{Layout, layout_of, bank_in, image_page}
use Rattle.fee_image.specs.Log.{Log, HoldsLog}
use Rattle.fee_image.specs.May.{May, IsWider}
use Rattle.fee_image.specs.Step.{page_due, bytes_due, log_failed, IsDue}
use Rattle.fee_image.specs.Banks.{Old, OldBank, HoldsOld}
use Rattle.fee_image.specs.BankLaws.{TakesAppends, program_of}
use Rattle.fee_image.proofs.Logs.{logs_widen}
use Rattle.fee_switch_laws.specs.fee_log.declared.tail.Tail.{Tail}
use Rattle.fee_switch_laws.specs.fee_log.declared.tail.Tail.TheVariants.{Open, Writes, Owes, Closed}
use Rattle.fee_switch_laws.specs.fee_log.Laws.{MayFollow, HoldsState}
use Rattle.fee_switch_laws.specs.fee_log.Log.{LogState, IsTail, log_of, work_in, bank_of, pages_in}
use Rattle.fee_switch_laws.specs.fee_log.Step.{IsPageOf, due_bytes}
use Rattle.fee_switch_laws.proofs.Follows.{work_is_due}
use Rattle.fee_switch_laws.proofs.Steps.{pages_stand}
use Rattle.fee_switch_laws.specs.fee_switch.declared.active.ActiveBank.{ActiveBank}
use Rattle.fee_switch_laws.specs.Shown.{old_shown}
use Rattle.fee_switch_laws.proofs.Appends.{takes}
use Rattle.promise_device.specs.Making.{Making, banks_of}
use Rattle.promise_device.specs.Image.{IsOfLastGeneration}
use Rattle.fee_told.specs.Slots.{Memory, may_told}
use Rattle.fee_told.specs.SlotLaws.{IsHeld}
use Rattle.fee_told.specs.Device.{Device}
use Rattle.fee_told.specs.Appends.{TakesRecord as TakesNext, IsAppending as IsAppendingTo}
use Rattle.fee_told.specs.Kept.{with_log}
use Rattle.fee_told.specs.Whole.{CutsKeep, IsKeptSo}
use Rattle.fee_told.proofs.Appends.{appends_fail as told_appends_fail}
use Rattle.fee_told.proofs.Programs.{programs_keep_last}
use Rattle.fee_told.proofs.ToldBytes.{each_told}
use Rattle.fee_laws.specs.Inside.{Parts, device_of, memory_of, body_of, IsActiveOf, IsAtWork}
use Rattle.fee_laws.specs.Record.{IsInWork}
use Rattle.fee_laws.specs.Turn.{IsOn}
use Rattle.fee_laws.specs.Appends.{work_body, work_op}
use Rattle.fee_laws.proofs.Before.{lengths, legal, copied, held_before, log_geometry, log_banks}
use Rattle.fee_laws.proofs.FollowLifts.{some_of}

-- IN MEMORY
-- the page that is due lies behind the gate of its bank
pub due_inside : (log : LogState) (t : Tail) (body : List ℕ) → 2 ≤ log.end → IsTail log.geometry.page (pages_in log) log.end t → IsSome (work_in t)
    → (2 ≤ page_due (log_of (record log { tail = t }) body)) × (page_due (log_of (record log { tail = t }) body) < pages_in log)
due_inside log Open body low is work = cc
due_inside log (Writes h done) body low is work = let less = is.1 in let within = is.2 in (omega arith, omega arith)
due_inside log (Owes owed None) body low is work = cc
due_inside log (Owes owed (Some h)) body low is work = let within = is.0 in (omega arith, omega arith)
due_inside log Closed body low is work = cc

-- any mark may be found
abbrev any_mark : May
any_mark number length = None

wider : (may : May) → IsWider may any_mark
wider may number length m among = tt

follows : (t : Tail) (content : List ℕ) → IfSome (work_in t) (λ h. h.length ≤ length content) → MayFollow any_mark t (body_of (work_in t) content)
follows Open content fits = tt
follows (Writes h done) content fits = tt
follows (Owes owed None) content fits = tt
follows (Owes owed (Some h)) content fits = (length-take-le h.length content fits, λ number length fit. tt)
follows Closed content fits = tt

module _ (m : Making) (entry : Told) (s : Parts) (listed : List (DeviceNumber × ℕ)) (kept count : ℕ) (on : IsOn m entry s listed kept count) (work : IsSome (work_in s.banks.log.tail)) where
  abbrev d : Device
  d = device_of m entry s

  abbrev l : Layout
  l = banks_of m

  pub at_work : IsAtWork m s
  at_work = on.sound.works on.started

  abbrev pub h : RecHead
  h = (some_of (work_in s.banks.log.tail) work).0

  pub work_is : work_in s.banks.log.tail ≡ Some h
  work_is = (some_of (work_in s.banks.log.tail) work).1

  pub in_work : IsInWork s.banks s.job h
  in_work = subst (λ (o : Option RecHead). IfSome o (IsInWork s.banks s.job)) work_is at_work.work

  abbrev pub a : ActiveBank
  a = (some_of s.banks.active in_work.active).0

  pub active_is : s.banks.active ≡ Some a
  active_is = (some_of s.banks.active in_work.active).1

  pub formats : s.banks.log.format ≡ a.head.format
  formats = subst (IsActiveOf s.banks) active_is at_work.active

  bank : s.banks.log.bank ≡ a.bank
  bank = (subst (λ (x : Option ActiveBank). IfSome x (λ y. (y.bank ≡ s.banks.target → ⊥) × (s.banks.log.bank ≡ y.bank))) active_is on.banks.active).1

  abbrev pub body : List ℕ
  body = work_body s

  abbrev pub log : Log
  log = log_of s.banks.log body

  abbrev pub mem : Memory
  mem = memory_of s

  pub old_is : mem.old ≡ OldBank a.bank a.head log
  old_is = ap (λ (x : Option ActiveBank). old_shown x s.banks.log body) active_is

  pub taking : TakesAppends mem.phase
  taking = takes h.kind s.banks.course s.banks (body_of (work_in s.banks.copies.tail) s.banks.buffer) in_work.taken

  module _ (size_is : length (due_bytes s.banks.log body) ≡ s.banks.geometry.page) where
    pub is_due : IsDue log.tail
    is_due = (work_is_due s.banks.log body work).0

    pub op_is : work_op s ≡ program_of l a.bank (page_due log) (bytes_due l.page log)
    op_is = λ i. programs (address_of_page (log_geometry m entry s listed kept count on i) (log_banks m entry s listed kept count on i) (bank i) ((work_is_due s.banks.log body work).1 i)) (bytes_due (log_geometry m entry s listed kept count on i).page log)

    pub size : length (bytes_due l.page log) ≡ l.page
    size = sym (λ i. length (bytes_due (log_geometry m entry s listed kept count on i).page log)) ∙ size_is ∙ ap (λ (g : Geometry). g.page) on.sound.made_for.banks_geometry

    pub record_of : (old : List ℕ) (more : May) → IsHeld l m.numbers old mem more → TakesNext l m.numbers old mem more a.bank a.head log
    record_of old more held = record { lengths = lengths m entry s listed kept count on; legal = legal m entry s listed kept count on; held = held; bank = old_is; takes = taking }

    pub appending : (old : List ℕ) (more : May) → IsHeld l m.numbers old mem more → (new : List ℕ) → MayLeave (work_op s) old new → IsAppendingTo l m.numbers old new mem more a.bank a.head log
    appending old more held new leaves = record { record_of = record_of old more held; due = is_due; size = size; leaves = subst (λ (o : Op). MayLeave o old new) op_is leaves }

    pub inside : (2 ≤ page_due log) × (page_due log < l.pages)
    inside =
        let is = due_inside s.banks.log s.banks.log.tail body on.log.end_low on.log.tail work in
        (is.0, subst (λ (n : ℕ). page_due log < n) (λ i. pages_of_bank (log_geometry m entry s listed kept count on i) (log_banks m entry s listed kept count on i)) is.1)

    -- WHAT STANDS
    -- a page that is done stands
    pub stands : IfSome (work_in s.banks.log.tail) (λ r. r.length ≤ length s.content) → IsPageOf s.banks.geometry.page (due_bytes s.banks.log body)
        → (old : List ℕ) (more : May) → IsHeld l m.numbers old mem more → (new : List ℕ) → Leaves (work_op s) Done old new → image_page l new a.bank (page_due log) ≡ bytes_due l.page log
    stands fits page old more held new left =
        let may = may_told l m.numbers old mem in
        let old_held = subst (λ (o : Old). HoldsOld l m.numbers old mem.target o may) old_is held.banks.old in
        let any = logs_widen (bank_in l a.head.format a.bank) m.numbers old may any_mark log (wider may) old_held.1.holds in
        let geo = log_geometry m entry s listed kept count on in
        let banks_are = log_banks m entry s listed kept count on in
        let bank_path : bank_in l a.head.format a.bank ≡ bank_of s.banks.log = λ i. bank_in (layout_of (sym geo i) (sym banks_are i)) (sym formats i) (sym bank i) in
        let holds = subst (λ (b : Bank). HoldsLog b s.banks.log.numbers old any_mark log) bank_path (subst (λ (ns : List (DeviceNumber × ℕ)). HoldsLog (bank_in l a.head.format a.bank) ns old any_mark log) (sym on.sound.made_for.numbers) any) in
        let size_path : l.pages * l.page * l.banks ≡ pages_in s.banks.log * s.banks.log.geometry.page * s.banks.log.banks = λ i. pages_of_bank (sym geo i) (sym banks_are i) * (sym geo i).page * sym banks_are i in
        let state : HoldsState s.banks.log body old any_mark = record { size = subst (λ (n : ℕ). n ≤ length old) size_path held.banks.size; holds = holds; follows = follows s.banks.log.tail s.content fits } in
        let page_path : s.banks.geometry.page ≡ s.banks.log.geometry.page = ap (λ (g : Geometry). g.page) (sym on.banks.log.shape) in
        let is = pages_stand s.banks.log body old new any_mark (record { state = on.log; holds = state; work = work; page = subst (λ (p : ℕ). IsPageOf p (due_bytes s.banks.log body)) page_path page }) left in
        (λ i. page_of (bank_in (layout_of (sym geo i) (sym banks_are i)) s.banks.log.format (sym bank i)) new (sym (work_is_due s.banks.log body work).1 i))
        ∙ is ∙ (λ i. bytes_due (geo i).page log)

    -- A WORN-OUT DEVICE
    pub keeps_last : (old new : List ℕ) → MayLeave (work_op s) old new → IsOfLastGeneration m old → IsOfLastGeneration m new
    keeps_last old new leaves = programs_keep_last m old new (bytes_due l.page log) a.bank (page_due log) (legal m entry s listed kept count on) size inside.0 inside.1 (subst (λ (o : Op). MayLeave o old new) op_is leaves)

    -- WHATEVER A CUT LEAVES
    pub cut_keeps : CutsKeep (work_op s) d
    cut_keeps told = each_told s.fls.flash.bytes (λ (old : List ℕ). (image : List ℕ) → MayLeave (work_op s) old image → IsKeptSo l m.numbers old image mem) (λ old at image leaves. record {
      behind = with_log mem a.bank a.head (log_failed l.page log) mem.stand;
      copied = copied m entry s listed kept count on;
      kept = told_appends_fail l m.numbers old image mem (copied m entry s listed kept count on) a.bank a.head log mem.stand (appending old (copied m entry s listed kept count on) (held_before m entry s listed kept count on old at told) image leaves) (inl refl);
    })
