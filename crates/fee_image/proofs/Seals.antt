-- The logs that go on over programs, and the seal.
use Rattle.std.proofs.Common.{◌≡◌, inl, inr, ◌<◌, ◌≤◌, ℕ, ◌-◌, List, length, refl, sym, ap, ◌∙◌, subst, arith}
use Rattle.std.proofs.lemmas.Bool.{cases_eq}
use Rattle.std.proofs.lemmas.List.{length-replicate}
use Rattle.nv_base.specs.declared.instance.DeviceNumber.{DeviceNumber}
use Rattle.fee_format.specs.declared.bank_head.BankHead.{BankHead}
use Rattle.fls_model.specs.Op.{MayLeave}
use Rattle.fee_format.specs.BankHead.{bank_head_page}
use Rattle.fee_format.specs.Pages.{gate_page, blank_page}
use Rattle.fee_format.specs.Formats.{new_format}
use Rattle.fee_image.specs.Sound.{IsSoundImage}
use Rattle.fee_image.specs.Image.{Layout, IsLegalLayout, bank_in, image_page}
use Rattle.fee_image.specs.Log.{Log, HoldsLog}
use Rattle.fee_image.specs.May.{May}
use Rattle.fee_image.specs.Banks.{Old, OldBank, Phase, Idle, Erasing, Copying, Sealing, Banks, Holds, HoldsOld, HoldsPhase, StandsBehind, IsCopying, next_head}
use Rattle.fee_image.specs.BankLaws.{program_of, TakesAppends, OldLogsGoOn, OldLogsChange, CopiesGoOn, CopiesChange, CopiesFail, LogsKeepSound, CopiesKeepSound, HeadsDone, GatesFail, GatesKeepSound, GatesDone}
use Rattle.fee_image.proofs.Frames.{SameOthers, SamePages, stands_same, log_stays, behind_stays, old_stays, phase_stays, others_stay, page_stays}
use Rattle.fee_image.proofs.Shows.{blank_shut, sealed_active}
use Rattle.fee_image.proofs.Ranges.{programs_keep_sound}

-- the phase, as it is named
pub in_phase : (l : Layout) (numbers : List (DeviceNumber × ℕ)) (bytes : List ℕ) (s : Banks) (phase : Phase) → s.phase ≡ phase → Holds l numbers bytes s → HoldsPhase l numbers bytes s phase
in_phase l numbers bytes s phase is holds = subst (HoldsPhase l numbers bytes s) is holds.phase

pub in_old : (l : Layout) (numbers : List (DeviceNumber × ℕ)) (bytes : List ℕ) (s : Banks) (o : Old) → s.old ≡ o → Holds l numbers bytes s → HoldsOld l numbers bytes s.target o s.may
in_old l numbers bytes s o is holds = subst (λ (x : Old). HoldsOld l numbers bytes s.target x s.may) is holds.old

-- APPENDS
-- another log of the old bank leaves the phase
phase_same : (l : Layout) (numbers : List (DeviceNumber × ℕ)) (bytes : List ℕ) (s : Banks) (k : ℕ) (h : BankHead) (log next : Log) (may : May) (phase : Phase) → s.old ≡ OldBank k h log → TakesAppends phase → HoldsPhase l numbers bytes s phase → HoldsPhase l numbers bytes (record s { old = OldBank k h next; may = may }) phase
phase_same l numbers bytes s k h log next may Idle is takes behind = subst (λ (o : Old). StandsBehind l bytes o s.target) is behind
phase_same l numbers bytes s k h log next may (Erasing n) is takes (behind, blank) = (subst (λ (o : Old). StandsBehind l bytes o s.target) is behind, blank)
phase_same l numbers bytes s k h log next may (Copying copies) is takes c = c
phase_same l numbers bytes s k h log next may (Sealing copies) is takes c = absurd takes

pub old_logs_change : OldLogsChange
old_logs_change l numbers bytes s k h log next may holds is takes at =
    let o = in_old l numbers bytes s (OldBank k h log) is holds in
    record {
      size = holds.size;
      target = holds.target;
      old = (o.0, record { bank = o.1.bank; stands = o.1.stands; holds = at });
      behind = λ j inside ne. subst (λ (x : Old). StandsBehind l bytes x j) is (holds.behind j inside ne);
      phase = phase_same l numbers bytes s k h log next may s.phase is takes holds.phase;
    }

pub old_logs_go_on : OldLogsGoOn
old_logs_go_on l numbers old new page s k q h log next may legal holds is takes size low lt leaves at =
    let o = in_old l numbers old s (OldBank k h log) is holds in
    let others = others_stay l old new page k q size lt leaves in
    let same = page_stays l old new page k q size lt leaves in
    let two : 2 ≤ l.pages = legal.pages in
    let at_target : SamePages l old new s.target = others s.target (λ e. o.0 (sym e)) in
    record {
      size = omega (arith, holds.size, leaves.0.size);
      target = holds.target;
      old = (o.0, record { bank = o.1.bank; stands = stands_same l old new k h (same 0 (omega arith) (λ e. omega (arith, e))) (same 1 (omega arith) (λ e. omega (arith, e))) o.1.stands; holds = at });
      behind = λ j inside ne other stands here.
          subst (λ (x : Old). StandsBehind l new x j) is (behind_stays l numbers old new legal s.old j (others j here) (holds.behind j inside ne)) other stands here;
      phase = phase_same l numbers new s k h log next may s.phase is takes (phase_stays l numbers old new legal s s.phase at_target holds.phase);
    }

-- COPIES
pub copies_change : CopiesChange
copies_change l numbers bytes s log next copied holds is at = record {
  size = holds.size;
  target = holds.target;
  old = holds.old;
  behind = holds.behind;
  phase = record { first = (in_phase l numbers bytes s (Copying log) is holds).first; holds = at };
}

module _ (l : Layout) (numbers : List (DeviceNumber × ℕ)) (old new page : List ℕ) (s : Banks) (q : ℕ) (log : Log) (legal : IsLegalLayout l) (holds : Holds l numbers old s) (is : s.phase ≡ Copying log) (size : length page ≡ l.page) (lt : q < l.pages) (ne : q ≡ 1 → ⊥) (leaves : MayLeave (program_of l s.target q page) old new) where
  c : IsCopying l numbers old s.target log s.copied
  c = in_phase l numbers old s (Copying log) is holds

  others : SameOthers l old new s.target
  others = others_stay l old new page s.target q size lt leaves

  same : (i : ℕ) → i < l.pages → (i ≡ q → ⊥) → image_page l new s.target i ≡ image_page l old s.target i
  same = page_stays l old new page s.target q size lt leaves

  gate_blank : image_page l new s.target 1 ≡ blank_page l.page
  gate_blank = same 1 (omega (arith, legal.pages)) (λ e. ne (sym e)) ∙ c.first 1 (omega arith) (omega (arith, legal.pages))

  pub still_sound : IsSoundImage l old → IsSoundImage l new
  still_sound sound = programs_keep_sound l old new page s.target q legal.pages size leaves lt (elim (cases_eq q 0) [
    | inl first ↦ inl (first, λ gate. blank_shut l.page (image_page l old s.target 1) legal.page (c.first 1 (omega arith) (omega (arith, legal.pages))) gate)
    | inr later ↦ inr (inr (let low : 2 ≤ q = omega (arith, ne, later) in low))
  ]) sound

  pub copy_steps : (phase : Phase) (copied : May) → HoldsPhase l numbers new (record s { phase = phase; copied = copied }) phase → Holds l numbers new (record s { phase = phase; copied = copied })
  copy_steps phase copied at = record {
    size = omega (arith, holds.size, leaves.0.size);
    target = holds.target;
    old = old_stays l numbers old new legal s.target s.old s.may others holds.old;
    behind = λ j inside other. behind_stays l numbers old new legal s.old j (others j other) (holds.behind j inside other);
    phase = at;
  }

  pub fails : Holds l numbers new (record s { phase = Erasing 0 })
  fails = copy_steps (Erasing 0) s.copied (
    λ other stands. absurd (blank_shut l.page (image_page l new s.target 1) legal.page gate_blank stands.gate),
    λ i below inside. absurd (omega arith),
  )

  pub goes_on : 2 ≤ q → (next : Log) (copied : May) → HoldsLog (bank_in l new_format s.target) numbers new copied next → Holds l numbers new (record s { phase = Copying next; copied = copied })
  goes_on low next copied at = copy_steps (Copying next) copied (record { first = λ i below inside. same i inside (λ e. omega arith) ∙ c.first i below inside; holds = at })

  pub log_same : q ≡ 0 → HoldsLog (bank_in l new_format s.target) numbers new s.copied log
  log_same first = log_stays l numbers old new legal new_format s.target s.copied log (λ i low inside. same i inside (λ e. omega arith)) c.holds

pub copies_go_on : CopiesGoOn
copies_go_on l numbers old new page s q log next copied legal holds is size low lt leaves at = goes_on l numbers old new page s q log legal holds is size lt (λ e. omega (arith, e)) leaves low next copied at

pub copies_fail : CopiesFail
copies_fail l numbers old new page s q log legal holds is size lt ne leaves = fails l numbers old new page s q log legal holds is size lt ne leaves

pub copies_keep_sound : CopiesKeepSound
copies_keep_sound l numbers old new page s q log legal holds is size lt ne leaves sound = still_sound l numbers old new page s q log legal holds is size lt ne leaves sound

pub logs_keep_sound : LogsKeepSound
logs_keep_sound l old new page k q legal size low lt leaves sound = programs_keep_sound l old new page k q legal.pages size leaves lt (inr (inr low)) sound

-- THE HEAD
pub heads_done : HeadsDone
heads_done l numbers old new s log legal holds is last whole leaves at =
    let page = bank_head_page l.page (next_head s.old) in
    let size : length page ≡ l.page = omega (arith, legal.page, length-replicate {A = ℕ} (l.page - 12) 255) in
    let lt : 0 < l.pages = omega (arith, legal.pages) in
    copy_steps l numbers old new page s 0 log legal holds is size lt (λ e. omega (arith, e)) leaves (Sealing log) s.copied (record {
      last = last;
      head = at;
      holds = log_same l numbers old new page s 0 log legal holds is size lt (λ e. omega (arith, e)) leaves refl;
      whole = whole;
    })

-- THE GATE
pub gates_fail : GatesFail
gates_fail l numbers old new s log legal holds is leaves =
    let c = in_phase l numbers old s (Sealing log) is holds in
    let page = gate_page l.page in
    let size : length page ≡ l.page = length-replicate l.page 0 in
    let lt : 1 < l.pages = omega (arith, legal.pages) in
    let others = others_stay l old new page s.target 1 size lt leaves in
    let same = page_stays l old new page s.target 1 size lt leaves in
    record {
      size = omega (arith, holds.size, leaves.0.size);
      target = holds.target;
      old = old_stays l numbers old new legal s.target s.old s.may others holds.old;
      behind = λ j inside other. behind_stays l numbers old new legal s.old j (others j other) (holds.behind j inside other);
      phase = subst (HoldsPhase l numbers new s) (sym is) (record {
        last = c.last;
        head = same 0 (omega arith) (λ e. omega (arith, e)) ∙ c.head;
        holds = log_stays l numbers old new legal new_format s.target s.copied log (λ i low inside. same i inside (λ e. omega (arith, e))) c.holds;
        whole = c.whole;
      });
    }

pub gates_keep_sound : GatesKeepSound
gates_keep_sound l numbers old new s log legal holds is leaves sound =
    let c = in_phase l numbers old s (Sealing log) is holds in
    let page = gate_page l.page in
    let size : length page ≡ l.page = length-replicate l.page 0 in
    let lt : 1 < l.pages = omega (arith, legal.pages) in
    let head : image_page l old s.target 0 ≡ bank_head_page l.page (next_head s.old) = c.head in
    let long : length (image_page l old s.target 0) ≡ l.page = ap length head ∙ (let e : length (bank_head_page l.page (next_head s.old)) ≡ l.page = omega (arith, legal.page, length-replicate {A = ℕ} (l.page - 12) 255) in e) in
    programs_keep_sound l old new page s.target 1 legal.pages size leaves lt
    (inr (inl (refl, inl (next_head s.old, record { legal = record { format = inr refl; generation = c.last }; page_is = head ∙ ap (λ (n : ℕ). bank_head_page n (next_head s.old)) (sym long) })))) sound

pub gates_done : GatesDone
gates_done l numbers old new s log t legal holds is leaves gate inside other =
    let h = gates_fail l numbers old new s log legal holds is leaves in
    let c = in_phase l numbers new s (Sealing log) is h in
    let active = sealed_active l numbers new s log h.target h.old h.behind c gate in
    record {
      size = h.size;
      target = inside;
      old = (λ e. other (sym e), record { bank = h.target; stands = active.stands; holds = c.holds });
      behind = λ j within ne head stands here. active.first j head within here stands;
      phase = λ head stands here. active.first t head inside here stands;
    }
