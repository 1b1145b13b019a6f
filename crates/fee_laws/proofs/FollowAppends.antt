-- The next page of a record in work in the active log.
use Rattle.std.specs.Prelude.{IfSome, IsSome, IsTrue}
use Rattle.std.proofs.Common.{◌≡◌, inl, inr, ◌<◌, ◌≤◌, ◌++◌, ◌∷◌, ℕ, true, List, [], Option, Some, None, refl, sym, ap, ◌∙◌, subst, arith}
use Rattle.std.proofs.lemmas.Bool.{cases_eq}
use Rattle.nv_base.specs.Geometry.{IsLegal, pages_of_bank, sectors_of_bank, address_of_page}
use Rattle.nv_base.specs.declared.geometry.Geometry.{Geometry}
use Rattle.fls_model.specs.declared.flash.FlashAnswer.{FlashAnswer}
use Rattle.fls_model.specs.declared.flash.FlashAnswer.TheVariants.{Done, Failed, Off}
use Rattle.fls_model.specs.Op.{Op, MayLeave}
use Rattle.fls_model.specs.Step.{Leaves, programs}
use Rattle.fls_model.specs.Told.{Change}
use Rattle.fee_format.specs.declared.rec_head.RecHead.{RecHead}
use Rattle.fee_format.specs.declared.rec_head.RecordKind.{RecordKind}
use Rattle.fee_image.specs.Image.{Layout, layout_of, image_page}
use Rattle.fee_image.specs.BankLaws.{program_of}
use Rattle.fee_switch_laws.specs.fee_log.Index.{clear_flags}
use Rattle.fee_switch_laws.specs.fee_log.declared.tail.Tail.{Tail}
use Rattle.fee_switch_laws.specs.fee_log.declared.tail.Tail.TheVariants.{Open, Writes, Owes, Closed}
use Rattle.fee_switch_laws.specs.fee_log.Laws.{HoldsState, may_after}
use Rattle.fee_switch_laws.specs.fee_log.Log.{LogState, IsLogState, IsTail, pages_in, work_in}
use Rattle.fee_switch_laws.specs.fee_log.Step.{IsPageOf, due_page, due_bytes, op_of, after_step}
use Rattle.fee_switch_laws.proofs.Steps.{answers_hold}
use Rattle.fee_switch_laws.specs.fee_switch.declared.active.ActiveBank.{ActiveBank}
use Rattle.fee_switch_laws.specs.fee_switch.Banks.{BanksState, IsBanksState, IsLogOf, TakesRecord}
use Rattle.fee_course.specs.declared.course.Course.{Course}
use Rattle.fee_course.specs.Course.{IsShort}
use Rattle.promise_device.specs.Bridge.{is_program}
use Rattle.promise_device.specs.Wear.{bank_of_op}
use Rattle.fee_laws.specs.Inside.{body_of}
use Rattle.fee_laws.specs.Follows.{anything, may_be_closed_beside, IsClosedFor, IsPlacedFor, FollowsLog, FollowsNext, FollowsBytes}
use Rattle.fee_image.proofs.Frames.{SameOthers, others_stay, page_stays}
use Rattle.fee_laws.proofs.FollowStates.{any_content, any_marks}
use Rattle.fee_laws.proofs.FollowSteps.{work_after, done_open}
use Rattle.promise_device.proofs.Places.{bank_of_program}
use Rattle.fee_laws.proofs.FollowPlaces.{step_placed}
use Rattle.fee_laws.proofs.FollowBanks.{failed_beside, failed_still, some_page, SameFronts, legal, fronts_of, banks_stay, next_stays, with_log, next_with_log}

-- the page that is due lies behind the gate of its bank
pub due_inside : (log : LogState) (t : Tail) → 2 ≤ log.end → IsTail log.geometry.page (pages_in log) log.end t → IsSome (work_in t)
    → (2 ≤ due_page (record log { tail = t })) × (due_page (record log { tail = t }) < pages_in log)
due_inside log Open low is work = cc
due_inside log (Writes h done) low is work = let less = is.1 in let within = is.2 in (omega arith, omega arith)
due_inside log (Owes owed None) low is work = cc
due_inside log (Owes owed (Some h)) low is work = let within = is.0 in (omega arith, omega arith)
due_inside log Closed low is work = cc

-- so the program changes that bank
pub bank_of_log : (k : LogState) → IsLogState k → IsSome (work_in k.tail) → (body : List ℕ) → bank_of_op k.geometry k.banks (op_of k body) ≡ k.bank
bank_of_log k state work body = bank_of_program k.geometry k.banks k.bank (due_page k) (due_bytes k body) (some_page k.geometry state.geometry) (due_inside k k.tail state.end_low state.tail work).1

pub bank_is : (g : Geometry) (banks : ℕ) (k : LogState) → IsLogOf g banks k → IsLegal g → IsLogState k → IsSome (work_in k.tail) → (body : List ℕ) → bank_of_op g banks (op_of k body) ≡ k.bank
bank_is g banks k of shape state work body = (λ i. bank_of_op (sym of.shape i) (sym of.shared i) (op_of k body)) ∙ bank_of_log k state work body

-- so it leaves all other banks, and the head and the gate
module _ (g : Geometry) (banks : ℕ) (k : LogState) (of : IsLogOf g banks k) (state : IsLogState k) (work : IsSome (work_in k.tail)) (body old new : List ℕ) (page : IsPageOf g.page (due_bytes k body)) (leaves : MayLeave (op_of k body) old new) where
  abbrev l : Layout
  l = layout_of g banks

  op_is : op_of k body ≡ program_of l k.bank (due_page k) (due_bytes k body)
  op_is = λ i. programs (address_of_page (of.shape i) (of.shared i) k.bank (due_page k)) (due_bytes k body)

  inside : (2 ≤ due_page k) × (due_page k < l.pages)
  inside = let due = due_inside k k.tail state.end_low state.tail work in (due.0, subst (λ (n : ℕ). due_page k < n) (λ i. pages_of_bank (of.shape i) (of.shared i)) due.1)

  programmed : MayLeave (program_of l k.bank (due_page k) (due_bytes k body)) old new
  programmed = subst (λ (o : Op). MayLeave o old new) op_is leaves

  pub others : SameOthers l old new k.bank
  others = others_stay l old new (due_bytes k body) k.bank (due_page k) page.size inside.1 programmed

  pub front : (q : ℕ) → q < 2 → q < l.pages → image_page l new k.bank q ≡ image_page l old k.bank q
  front q less within = page_stays l old new (due_bytes k body) k.bank (due_page k) page.size inside.1 programmed q within (λ same. (let low = inside.0 in omega (arith, low, same, less)))

-- a log behind a step, with the content of what is in work then
pub state_after : (s : LogState) (content old new : List ℕ) (answer : FlashAnswer) → let body = body_of (work_in s.tail) content in
    IsLogState s → HoldsState s body old anything → IsSome (work_in s.tail) → IsPageOf s.geometry.page (due_bytes s body) → (answer ≡ Off → ⊥) → MayLeave (op_of s body) old new → Leaves (op_of s body) answer old new
    → HoldsState (after_step s answer) (body_of (work_in (after_step s answer).tail) content) new anything
state_after s content old new answer state holds work page on leaves left =
    let body = body_of (work_in s.tail) content in
    let then = after_step s answer in
    let h = any_marks then body new (may_after s body answer anything) (answers_hold s body old new anything answer (record { state = state; holds = holds; work = work; page = page }) on leaves left) in
    elim (work_after s s.tail answer) [
      | inl none ↦ any_content then body (body_of (work_in then.tail) content) new anything none h
      | inr same ↦ subst (λ (o : Option RecHead). HoldsState then (body_of o content) new anything) (sym same) h
    ]

-- why it is closed
closed_after : (c : Option Course) (s : LogState) (xs : List Change) (x : Change) (new : List ℕ) (answer : FlashAnswer) → IsSome (work_in s.tail) → (answer ≡ Off → ⊥) → bank_of_op s.geometry s.banks x.op ≡ s.bank → is_program x.op ≡ true → x.answer ≡ answer
    → IsClosedFor c (after_step s answer) (xs ++ x ∷ []) new
closed_after c s xs x new Done work on of program is = λ shut. (let wide = done_open s s.tail work in cc (shut, wide))
closed_after c s xs x new Failed work on of program is = λ shut. inr (failed_beside c (after_step s Failed) xs x of program is)
closed_after c s xs x new Off work on of program is = absurd (on refl)

-- and what places its records give
placed_after : (c : Option Course) (s : LogState) (content old new : List ℕ) (xs : List Change) (x : Change) (answer : FlashAnswer) → let body = body_of (work_in s.tail) content in
    IsLogState s → HoldsState s body old anything → IsSome (work_in s.tail) → IsPageOf s.geometry.page (due_bytes s body) → (answer ≡ Off → ⊥) → MayLeave (op_of s body) old new → Leaves (op_of s body) answer old new
    → bank_of_op s.geometry s.banks x.op ≡ s.bank → is_program x.op ≡ true → x.answer ≡ answer → IsPlacedFor c s xs old → IsPlacedFor c (after_step s answer) (xs ++ x ∷ []) new
placed_after c s content old new xs x Done state holds work page on leaves left of program is (inl failed) = inl (failed_still c (after_step s Done) xs x of program (failed_as c failed))
  where
    failed_as : (c : Option Course) → IsTrue (may_be_closed_beside c s xs) → IsTrue (may_be_closed_beside c (after_step s Done) xs)
    failed_as None failed' = failed'
    failed_as (Some y) failed' = failed'
placed_after c s content old new xs x Done state holds work page on leaves left of program is (inr placed) =
    inr (step_placed s (body_of (work_in s.tail) content) old new anything (record { state = state; holds = holds; work = work; page = page }) leaves left placed)
placed_after c s content old new xs x Failed state holds work page on leaves left of program is placed = inl (failed_beside c (after_step s Failed) xs x of program is)
placed_after c s content old new xs x Off state holds work page on leaves left of program is placed = absurd (on refl)

module _ (s : BanksState) (is : IsBanksState s) (state : IsLogState s.log) (content old new : List ℕ) (xs : List Change) (x : Change) (a : ActiveBank) (active : s.active ≡ Some a) (work : IsSome (work_in s.log.tail)) (follows : FollowsBytes s content xs old) where
  abbrev body : List ℕ
  body = body_of (work_in s.log.tail) content

  log : FollowsLog s.course s.log body xs old
  log = subst (λ (o : Option ActiveBank). IfSome o (λ y. FollowsLog s.course s.log body xs old)) active follows.log

  other : s.target ≡ s.log.bank → ⊥
  other same = (let b = subst (λ (o : Option ActiveBank). IfSome o (λ y. (y.bank ≡ s.target → ⊥) × (s.log.bank ≡ y.bank))) active is.active in b.0 (sym b.1 ∙ sym same))

  module _ (page : IsPageOf s.geometry.page (due_bytes s.log body)) (leaves : MayLeave (op_of s.log body) old new) where
    fronts : (j : ℕ) → SameFronts s is old new j
    fronts j =
        let two = (legal s is old new).pages in
        elim (cases_eq j s.log.bank) [
          | inl same ↦ subst (SameFronts s is old new) (sym same) (
            front s.geometry s.banks s.log is.log state work body old new page leaves 0 (omega arith) (omega (arith, two)),
            front s.geometry s.banks s.log is.log state work body old new page leaves 1 (omega arith) (omega (arith, two)),
          )
          | inr differs ↦ fronts_of s is old new j (others s.geometry s.banks s.log is.log state work body old new page leaves j differs)
        ]

    -- the switch takes the record in work
    kind_of : (o : Option RecHead) (c : Course) → IsSome o → IfSome o (λ h. TakesRecord h.kind (Some c)) → (kind : RecordKind) × TakesRecord kind (Some c)
    kind_of None c some takes = cc some
    kind_of (Some h) c some takes = (h.kind, takes)

    next_by : (c : Option Course) → bank_of_op s.geometry s.banks x.op ≡ s.log.bank → IfSome c (λ y. IfSome (work_in s.log.tail) (λ h. TakesRecord h.kind (Some y))) → IfSome c (IsShort (sectors_of_bank s.geometry s.banks))
        → IfSome c (λ y. FollowsNext s y xs old) → IfSome c (λ y. FollowsNext s y (xs ++ x ∷ []) new)
    next_by None of takes short next = tt
    next_by (Some c) of takes short next =
        let kind = kind_of (work_in s.log.tail) c work takes in
        next_stays s is old new c kind.0 xs (x ∷ []) s.log.bank kind.1 short (λ e. other (sym e)) (of, tt) next

    clears : (answer : FlashAnswer) → s.log.flags ≡ clear_flags s.log.numbers → (after_step s.log answer).flags ≡ clear_flags (after_step s.log answer).numbers
    clears Done clear = clear
    clears Failed clear = clear
    clears Off clear = clear

    pub goes_on : IfSome s.course (λ c. IfSome (work_in s.log.tail) (λ h. TakesRecord h.kind (Some c))) → (answer : FlashAnswer) → (answer ≡ Off → ⊥) → Leaves (op_of s.log body) answer old new → x.op ≡ op_of s.log body → x.answer ≡ answer → FollowsBytes (record s { log = after_step s.log answer }) content (xs ++ x ∷ []) new
    goes_on takes answer on left op same =
        let page' = subst (λ (g : Geometry). IsPageOf g.page (due_bytes s.log body)) (sym is.log.shape) page in
        let then = after_step s.log answer in
        let apart = others s.geometry s.banks s.log is.log state work body old new page leaves s.target other in
        let of = ap (bank_of_op s.geometry s.banks) op ∙ bank_is s.geometry s.banks s.log is.log is.legal state work body in
        let of_log = ap (bank_of_op s.log.geometry s.log.banks) op ∙ bank_of_log s.log state work body in
        record {
          log = subst (λ (o : Option ActiveBank). IfSome o (λ y. FollowsLog s.course then (body_of (work_in then.tail) content) (xs ++ x ∷ []) new)) (sym active) (record {
            holds = state_after s.log content old new answer state log.holds work page' on leaves left;
            closed = closed_after s.course s.log xs x new answer work on of_log (ap is_program op) same;
            placed = placed_after s.course s.log content old new xs x answer state log.holds work page' on leaves left of_log (ap is_program op) same log.placed;
          });
          banks = with_log s then s.course s.course new (clears answer) (banks_stay s is old new s.course leaves.0.size fronts apart follows.banks);
          next = next_with_log s then s.course s.course (xs ++ x ∷ []) new (next_by s.course of takes is.course follows.next);
        }
