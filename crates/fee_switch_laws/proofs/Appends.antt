-- Appends to the active log.
use Rattle.std.proofs.Common.{◌≡◌, ◌≤◌, ◌*◌, ℕ, false, List, length, Option, Some, None, eqb, sym, ap, ◌∙◌, refl, subst}
use Rattle.std.specs.Prelude.{IfSome}
use Rattle.std.proofs.lemmas.Bool.{cond_both}
use Rattle.nv_base.specs.declared.instance.DeviceNumber.{DeviceNumber}
use Rattle.nv_base.specs.Geometry.{pages_of_bank, address_of_page}
use Rattle.nv_base.specs.Lengths.{place_of}
use Rattle.fls_model.specs.declared.flash.FlashAnswer.{FlashAnswer}
use Rattle.fls_model.specs.declared.flash.FlashAnswer.TheVariants.{Done, Failed, Off}
use Rattle.fls_model.specs.Op.{Op, MayLeave}
use Rattle.fls_model.specs.Step.{Leaves, programs}
use Rattle.fee_format.specs.declared.rec_head.RecHead.{RecHead}
use Rattle.fee_format.specs.declared.rec_head.RecordKind.{RecordKind}
use Rattle.fee_image.specs.Bank.{Bank}
use Rattle.fee_image.specs.Image.{layout_of, bank_in}
use Rattle.fee_image.specs.Sound.{IsSoundImage}
use Rattle.fee_image.specs.Log.{Log, HoldsLog}
use Rattle.fee_image.specs.May.{May}
use Rattle.fee_image.specs.Step.{page_due}
use Rattle.fee_image.specs.Banks.{Old, OldBank, Phase, Copying, Banks, Holds, HoldsOld}
use Rattle.fee_image.specs.Copies.{copied_of}
use Rattle.fee_image.specs.BankLaws.{TakesAppends, program_of}
use Rattle.fee_image.proofs.Seals.{logs_keep_sound, old_logs_change, old_logs_go_on}
use Rattle.fee_image.proofs.Sectors.{layouts_are_legal}
use Rattle.fee_image.proofs.Shows.{banks_show}
use Rattle.fee_image.proofs.Steps.{next_is_fresh}
use Rattle.fee_log.specs.Laws.{HoldsState, may_after}
use Rattle.fee_log.specs.Log.{LogState, bank_of, pages_in, log_of, begun}
use Rattle.fee_log.specs.Step.{due_bytes, op_of, after_step, given_up}
use Rattle.fee_log.proofs.Follows.{work_is_due}
use Rattle.fee_log.proofs.Holds.{begins_hold, given_up_holds}
use Rattle.fee_log.proofs.Steps.{answers_hold}
use Rattle.fee_switch.specs.declared.active.ActiveBank.{ActiveBank}
use Rattle.fee_course.specs.declared.course.Course.{Course}
use Rattle.fee_course.specs.declared.course.Course.TheVariants.{Erase, Copy, Head, Gate}
use Rattle.fee_switch.specs.Banks.{BanksState, IsBanksState, TakesRecord, appended_at, append_begun}
use Rattle.fee_switch_laws.specs.Appends.{IsActiveLog, HoldsWork, IsTaking, IsDueNow, AppendsBegin, AppendsClear, AppendsGoOn, CutAppendsShow, AppendsGivenUp}
use Rattle.fee_switch_laws.specs.Shown.{Bodies, old_shown, phase_shown, layout_in, banks_shown, HoldsBanks}
use Rattle.fee_switch_laws.proofs.Flags.{are_with}
use Rattle.fee_switch_laws.proofs.FlagTurns.{flags_may_clear}

-- an append changes no phase
pub same_phase : (o : Option ℕ) (course : Option Course) (x : BanksState) (body : List ℕ) → phase_shown (appended_at o course) x body ≡ phase_shown course x body
same_phase None None x body = refl
same_phase None (Some c) x body = refl
same_phase (Some i) None x body = refl
same_phase (Some i) (Some (Erase n)) x body = refl
same_phase (Some i) (Some (Copy None)) x body = refl
same_phase (Some i) (Some (Copy (Some w))) x body =
    cond_both (eqb w.index i) (Copy (Some (record w { sets = false }))) (Copy (Some w)) (λ (c : Course). phase_shown (Some c) x body ≡ Copying (log_of x.copies body)) (λ _. refl) (λ _. refl)
same_phase (Some i) (Some Head) x body = refl
same_phase (Some i) (Some (Gate failed)) x body = refl

-- nor does another log of the active bank
pub other_log : (course : Option Course) (s : BanksState) (log : LogState) (then : Option Course) (body : List ℕ)
    → phase_shown course s body ≡ phase_shown course (record s { log = log; course = then }) body
other_log None s log then body = refl
other_log (Some (Erase n)) s log then body = refl
other_log (Some (Copy None)) s log then body = refl
other_log (Some (Copy (Some w))) s log then body = refl
other_log (Some Head) s log then body = refl
other_log (Some (Gate failed)) s log then body = refl

-- where a record may begin an append is taken
pub takes : (kind : RecordKind) (course : Option Course) (x : BanksState) (body : List ℕ) → TakesRecord kind course → TakesAppends (phase_shown course x body)
takes kind None x body open' = tt
takes kind (Some (Erase n)) x body open' = tt
takes kind (Some (Copy w)) x body open' = tt
takes kind (Some Head) x body open' = absurd open'
takes kind (Some (Gate failed)) x body open' = absurd open'

module _ (s : BanksState) (bodies : Bodies) (old : List ℕ) (may copied : May) (a : ActiveBank) (is : IsBanksState s) (active : IsActiveLog s a) (holds : HoldsWork s bodies old may copied) where
  abbrev before : Banks
  before = banks_shown s bodies may copied

  abbrev log : Log
  log = log_of s.log bodies.append

  old_is : before.old ≡ OldBank a.bank a.head log
  old_is = ap (λ (x : Option ActiveBank). old_shown x s.log bodies.append) active.is

  bank : s.log.bank ≡ a.bank
  bank = (subst (λ (x : Option ActiveBank). IfSome x (λ b. (b.bank ≡ s.target → ⊥) × (s.log.bank ≡ b.bank))) active.is is.active).1

  bank_is : bank_of s.log ≡ bank_in (layout_in s) a.head.format a.bank
  bank_is = λ i. bank_in (layout_of (is.log.shape i) (is.log.shared i)) (active.format i) (bank i)

  held_log : HoldsLog (bank_in (layout_in s) a.head.format a.bank) s.log.numbers old may log
  held_log = (subst (λ (o : Old). HoldsOld (layout_in s) s.log.numbers old s.target o may) old_is holds.banks.old).1.holds

  size_is : pages_in s.log * s.log.geometry.page * s.log.banks ≡ (layout_in s).pages * (layout_in s).page * (layout_in s).banks
  size_is = λ i. pages_of_bank (is.log.shape i) (is.log.shared i) * (is.log.shape i).page * is.log.shared i

  pub state : HoldsState s.log bodies.append old may
  state = record {
    size = subst (λ (n : ℕ). n ≤ length old) (sym size_is) holds.banks.size;
    holds = subst (λ (b : Bank). HoldsLog b s.log.numbers old may log) (sym bank_is) held_log;
    follows = holds.follows;
  }

  -- the banks with another log in the active bank
  with_log : (changed : LogState) (body new : List ℕ) (may' : May) → changed.numbers ≡ s.log.numbers
      → Holds (layout_in s) s.log.numbers new (record before { old = OldBank a.bank a.head (log_of changed body); may = may' })
      → HoldsBanks (record s { log = changed }) (record bodies { append = body }) new may' copied
  with_log changed body new may' numbers h =
      subst (λ (p : Phase). Holds (layout_in s) changed.numbers new (record before { old = old_shown s.active changed body; phase = p; may = may' })) (other_log s.course s changed s.course bodies.copy)
      (subst (λ (ns : List (DeviceNumber × ℕ)). Holds (layout_in s) ns new (record before { old = old_shown s.active changed body; may = may' })) (sym numbers)
      (subst (λ (o : Old). Holds (layout_in s) s.log.numbers new (record before { old = o; may = may' })) (sym (ap (λ (x : Option ActiveBank). old_shown x changed body) active.is)) h))

  pub in_memory : (changed : LogState) (body : List ℕ) → IsTaking s bodies → changed.numbers ≡ s.log.numbers → bank_of changed ≡ bank_of s.log → HoldsState changed body old may
      → HoldsBanks (record s { log = changed }) (record bodies { append = body }) old may copied
  in_memory changed body taking numbers same h =
      let h2 = subst (λ (b : Bank). HoldsLog b changed.numbers old may (log_of changed body)) same h.holds in
      let h3 = subst (λ (b : Bank). HoldsLog b changed.numbers old may (log_of changed body)) bank_is h2 in
      let h4 = subst (λ (ns : List (DeviceNumber × ℕ)). HoldsLog (bank_in (layout_in s) a.head.format a.bank) ns old may (log_of changed body)) numbers h3 in
      with_log changed body old may numbers (old_logs_change (layout_in s) s.log.numbers old before a.bank a.head log (log_of changed body) may holds.banks old_is taking h4)

  module _ (taking : IsTaking s bodies) (now : IsDueNow s bodies.append) (new : List ℕ) (leaves : MayLeave (op_of s.log bodies.append) old new) where
    op_is : op_of s.log bodies.append ≡ program_of (layout_in s) a.bank (page_due log) (due_bytes s.log bodies.append)
    op_is = λ i. programs (address_of_page (is.log.shape i) (is.log.shared i) (bank i) ((work_is_due s.log bodies.append now.work).1 i)) (due_bytes s.log bodies.append)

    after : (answer : FlashAnswer) → (answer ≡ Off → ⊥) → Leaves (op_of s.log bodies.append) answer old new → HoldsState (after_step s.log answer) bodies.append new (may_after s.log bodies.append answer may)
    after answer on left = answers_hold s.log bodies.append old new may answer (record { state = active.state; holds = state; work = now.work; page = now.page }) on leaves left

    pub keeps_sound : IsSoundImage (layout_in s) old → IsSoundImage (layout_in s) new
    keeps_sound sound =
        let l = layout_in s in
        let f = next_is_fresh (bank_in l a.head.format a.bank) s.log.numbers old may log held_log (work_is_due s.log bodies.append now.work).0 in
        let size : length (due_bytes s.log bodies.append) ≡ l.page = subst (λ (g : _). length (due_bytes s.log bodies.append) ≡ g) (λ i. (is.log.shape i).page) now.page.size in
        logs_keep_sound l old new (due_bytes s.log bodies.append) a.bank (page_due log) (layouts_are_legal s.geometry s.banks is.legal is.shared) size f.low f.high
        (subst (λ (o : Op). MayLeave o old new) op_is leaves) sound

    over : (changed : LogState) (may' : May) → changed.numbers ≡ s.log.numbers → bank_of changed ≡ bank_of s.log → HoldsState changed bodies.append new may'
        → HoldsBanks (record s { log = changed }) bodies new may' copied
    over changed may' numbers same h =
        let l = layout_in s in
        let b = bank_in l a.head.format a.bank in
        let f = next_is_fresh b s.log.numbers old may log held_log (work_is_due s.log bodies.append now.work).0 in
        let size : length (due_bytes s.log bodies.append) ≡ l.page = subst (λ (g : _). length (due_bytes s.log bodies.append) ≡ g) (λ i. (is.log.shape i).page) now.page.size in
        let leaves' = subst (λ (o : Op). MayLeave o old new) op_is leaves in
        let h2 = subst (λ (x : Bank). HoldsLog x changed.numbers new may' (log_of changed bodies.append)) same h.holds in
        let h3 = subst (λ (x : Bank). HoldsLog x changed.numbers new may' (log_of changed bodies.append)) bank_is h2 in
        let h4 = subst (λ (ns : List (DeviceNumber × ℕ)). HoldsLog b ns new may' (log_of changed bodies.append)) numbers h3 in
        with_log changed bodies.append new may' numbers
        (old_logs_go_on l s.log.numbers old new (due_bytes s.log bodies.append) before a.bank (page_due log) a.head log (log_of changed bodies.append) may' (layouts_are_legal s.geometry s.banks is.legal is.shared) holds.banks old_is taking size f.low f.high leaves' h4)

    pub goes_on : (answer : FlashAnswer) → (answer ≡ Off → ⊥) → Leaves (op_of s.log bodies.append) answer old new
        → HoldsWork (record s { log = after_step s.log answer }) bodies new (may_after s.log bodies.append answer may) copied
    goes_on Done on left = let h = after Done on left in record { banks = over (after_step s.log Done) (may_after s.log bodies.append Done may) refl refl h; follows = h.follows }
    goes_on Failed on left = let h = after Failed on left in record { banks = over (after_step s.log Failed) may refl refl h; follows = h.follows }
    goes_on Off on left = absurd (on refl)

-- the phase behind a record that begins
begun_phase : (s : BanksState) (head : RecHead) (body : List ℕ) → phase_shown s.course (record s { log = begun s.log head }) body ≡ phase_shown (append_begun s head).course (append_begun s head) body
begun_phase s head body =
    other_log s.course (record s { log = begun s.log head }) (begun s.log head) (append_begun s head).course body
    ∙ sym (same_phase (place_of s.log.numbers head.number.0) s.course (append_begun s head) body)

pub appends_begin : AppendsBegin
appends_begin s bodies bytes body may copied a head is active may_begin holds =
    let h = begins_hold s.log head bodies.append body bytes may active.state (state s bodies bytes may copied a is active holds) may_begin.idle may_begin.configured may_begin.room may_begin.size may_begin.commit in
    let banks = in_memory s bodies bytes may copied a is active holds (begun s.log head) body (takes head.kind s.course s bodies.copy may_begin.taken) refl refl h in
    record {
      banks =
          subst (λ (p : Phase). Holds (layout_in s) s.log.numbers bytes (record { old = old_shown s.active (begun s.log head) body; target = s.target; phase = p; may = may; copied = copied }))
          (begun_phase s head bodies.copy) banks;
      follows = h.follows;
    }

pub appends_clear : AppendsClear
appends_clear s bodies bytes body may fs a head is active may_begin follows holds =
    let h = appends_begin s bodies bytes body may (copied_of fs) a head is active may_begin (record { banks = holds.banks; follows = follows }) in
    let t = append_begun s head in
    let taking = subst TakesAppends (begun_phase s head bodies.copy) (takes head.kind s.course (record s { log = begun s.log head }) bodies.copy may_begin.taken) in
    record {
      banks = flags_may_clear (layout_in s) s.log.numbers bytes (banks_shown t (record bodies { append = body }) may (copied_of fs)) head.number.0 fs h.banks taking;
      flags = are_with s.log.numbers s.log.places s.log.flags fs head.number.0 false holds.flags;
    }

pub appends_go_on : AppendsGoOn
appends_go_on s bodies old new may copied a answer is active taking now holds on leaves left =
    goes_on s bodies old may copied a is active holds taking now new leaves answer on left

pub cut_appends_show : CutAppendsShow
cut_appends_show s bodies old image may copied a is active taking now holds leaves =
    let h = (goes_on s bodies old may copied a is active holds taking now image leaves Failed (λ e. cc) leaves).banks in
    let t : BanksState = record s { log = after_step s.log Failed } in
    (banks_show (layout_in s) s.log.numbers image (banks_shown t bodies may copied) (layouts_are_legal s.geometry s.banks is.legal is.shared) h, keeps_sound s bodies old may copied a is active holds taking now image leaves)

pub appends_given_up : AppendsGivenUp
appends_given_up s bodies bytes body may copied a is active taking holds =
    let h = given_up_holds s.log bodies.append body bytes may active.state (state s bodies bytes may copied a is active holds) in
    record { banks = in_memory s bodies bytes may copied a is active holds (given_up s.log) body taking refl refl h; follows = h.follows }
