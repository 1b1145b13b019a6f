-- The places that the records of a log's bank give, while one more is written.
use Rattle.std.specs.Prelude.{IsSome}
use Rattle.std.proofs.Common.{◌≡◌, ◌<◌, ◌≤◌, ◌+◌, ℕ, zero, suc, true, false, List, [], ◌∷◌, ◌++◌, inl, inr, Some, None, refl, sym, ap, ◌∙◌, subst, arith}
use Rattle.std.proofs.lemmas.Bool.{cases_Bool, cond_both, cases_lt, eqb-true, eqb-false}
use Rattle.nv_base.specs.declared.instance.DeviceNumber.{DeviceNumber}
use Rattle.fls_model.specs.declared.flash.FlashAnswer.TheVariants.{Done}
use Rattle.fls_model.specs.Op.{MayLeave}
use Rattle.fls_model.specs.Step.{Leaves}
use Rattle.fee_format.specs.declared.rec_head.RecHead.{RecHead}
use Rattle.fee_format.specs.Pages.{blank_page, body_pages_of}
use Rattle.fee_format.specs.RecordPages.{record_page}
use Rattle.fee_image.specs.Append.{Staged, Touches, whole}
use Rattle.fee_image.specs.Bank.{Bank, page_of}
use Rattle.fee_image.specs.Log.{Log, HasTail, Writes as LogWrites}
use Rattle.fee_image.specs.May.{May}
use Rattle.fee_image.specs.Places.{noted, places_of, erased_places}
use Rattle.fee_image.specs.RecordList.{Rec, IsLog, IsTailBlank, records_of, pages_of_head}
use Rattle.fee_image.specs.Step.{page_due, bytes_due, is_last, log_behind}
use Rattle.fee_image.proofs.Appends.{appends_leave_one_more, appends_go_on, whole_is_last, stops_behind}
use Rattle.fee_image.proofs.Bodies.{blank_gate}
use Rattle.fee_image.proofs.Marks.{walk_last, untouched}
use Rattle.fee_image.proofs.Ranges.{programs_touch_their_bank}
use Rattle.fee_image.proofs.Records.{logs_compute}
use Rattle.fee_switch_laws.specs.fee_log.declared.tail.Tail.{Tail}
use Rattle.fee_switch_laws.specs.fee_log.declared.tail.Tail.TheVariants.{Open, Writes, Owes, Closed}
use Rattle.fee_switch_laws.specs.fee_log.Laws.{IsDueOn}
use Rattle.fee_switch_laws.specs.fee_log.Log.{LogState, bank_of, log_of, tail_with, work_in}
use Rattle.fee_switch_laws.specs.fee_log.Step.{op_of, due_page, due_bytes, after_step, given_up}
use Rattle.fee_switch_laws.proofs.Follows.{work_is_due}
use Rattle.fee_switch_laws.proofs.Steps.{pages_stand}
use Rattle.fee_switch_laws.proofs.Walking.{places_push}

-- A BANK
-- one that is blank gives none
pub none_placed : (b : Bank) (bytes : List ℕ) (ns : List (DeviceNumber × ℕ)) → 16 ≤ b.page → IsTailBlank b bytes 2 → erased_places ns ≡ places_of ns (records_of b bytes)
none_placed b bytes ns big blank =
    let log : IsLog b bytes [] 2 = record { walk = refl; stop = stops_behind b bytes 2 big (λ inside. blank 3 (omega arith) inside) } in
    ap (places_of ns) ((logs_compute b bytes [] 2).0 log).0

module _ (b : Bank) (big : 16 ≤ b.page) (rs : List Rec) (e : ℕ) (h : RecHead) (body : List ℕ) where
  list : (bytes : List ℕ) (ss : List Rec) (f : ℕ) → IsLog b bytes ss f → records_of b bytes ≡ ss
  list bytes ss f log = sym ((logs_compute b bytes ss f).0 log).0

  -- so long as the last page of a record isn't done, those of the records before it
  pub staged_places : (bytes : List ℕ) (k : ℕ) (ns : List (DeviceNumber × ℕ)) → Staged b bytes rs e h body k → k < pages_of_head b.page h → places_of ns (records_of b bytes) ≡ places_of ns rs
  staged_places bytes k ns staged left = elim (appends_leave_one_more b bytes bytes rs e h body k big staged left (untouched b bytes (e + k))) [
    | inl none ↦ ap (places_of ns) (list bytes rs e none.1)
    | inr more ↦ elim (cases_Bool more.last.committed) [
      | inr shut ↦ ap (places_of ns) (list bytes (rs ++ more.last ∷ []) _ more.log) ∙ places_push ns rs more.last false shut
      | inl t ↦ (
          let n = body_pages_of h.length b.page in
          let stands = walk_last b bytes rs 2 e _ more.last more.log.walk staged.front in
          let at : page_of b bytes (e + 2 + body_pages_of more.last.head.length b.page) ≡ page_of b bytes (e + 2 + n) = ap (λ (x : RecHead). page_of b bytes (e + 2 + body_pages_of x.length b.page)) more.head in
          let all = (more.committed t).0 in
          let room = staged.room in
          let blank : page_of b bytes (e + 2 + n) ≡ blank_page b.page = staged.blank (e + 2 + n) (omega (arith, all)) (omega (arith, room)) in
          absurd (blank_gate b.page (omega (arith, big)) (sym blank ∙ sym at ∙ stands.commit.0 t)))
    ]
  ]

  -- and then its own too
  whole_places : (bytes : List ℕ) (ns : List (DeviceNumber × ℕ)) → Staged b bytes rs e h body (pages_of_head b.page h) → places_of ns (records_of b bytes) ≡ noted ns (places_of ns rs) e h
  whole_places bytes ns staged =
      ap (places_of ns) (list bytes (rs ++ whole e h body ∷ []) _ (whole_is_last b bytes rs e h body big staged)) ∙ places_push ns rs (whole e h body) true refl

  module _ (old new : List ℕ) (k : ℕ) (ns : List (DeviceNumber × ℕ)) (staged : Staged b old rs e h body k) (left : k < pages_of_head b.page h) (touches : Touches b (e + k) old new) (is : page_of b new (e + k) ≡ record_page b.page h body k) where
    goes : Staged b new rs e h body (k + 1)
    goes = appends_go_on b old new rs e h body k staged left touches is

    pub page_placed : k + 1 < pages_of_head b.page h → places_of ns (records_of b old) ≡ places_of ns (records_of b new)
    page_placed more = staged_places old k ns staged left ∙ sym (staged_places new (k + 1) ns goes more)

    pub last_placed : k + 1 ≡ pages_of_head b.page h → noted ns (places_of ns (records_of b old)) e h ≡ places_of ns (records_of b new)
    last_placed all = ap (λ ps. noted ns ps e h) (staged_places old k ns staged left) ∙ sym (whole_places new ns (subst (Staged b new rs e h body) all goes))

-- A STEP OF A LOG
-- a page that is done
module _ (s : LogState) (body old new : List ℕ) (may : May) (big : 16 ≤ s.geometry.page) (placed : s.places ≡ places_of s.numbers (records_of (bank_of s) old)) where
  abbrev Placed : Tail → Type 0
  Placed t = (after_step (record s { tail = t }) Done).places ≡ places_of s.numbers (records_of (bank_of s) new)

  by_tail : (t : Tail) → HasTail (bank_of s) old may s.end (tail_with t body) → IsSome (work_in t)
      → Touches (bank_of s) (page_due (log_of (record s { tail = t }) body)) old new → page_of (bank_of s) new (page_due (log_of (record s { tail = t }) body)) ≡ bytes_due s.geometry.page (log_of (record s { tail = t }) body) → Placed t
  by_tail Open at work touches is = cc work
  by_tail (Writes h k) at work touches is =
      let log : Log = log_of (record s { tail = Writes h k }) [] in
      let left = at.left in
      cond_both (is_last s.geometry.page h k) (record (log_behind s.geometry.page log h) { places = noted s.numbers s.places s.end h }) (record log { tail = LogWrites h [] (k + 1) })
      (λ (x : Log). x.places ≡ places_of s.numbers (records_of (bank_of s) new))
      (λ last. ap (λ ps. noted s.numbers ps s.end h) placed ∙ last_placed (bank_of s) big at.records s.end h body old new k s.numbers at.staged left touches is (eqb-true (k + 1) (pages_of_head s.geometry.page h) last))
      (λ more. (let differs = eqb-false (k + 1) (pages_of_head s.geometry.page h) more in
      let less : k + 1 < pages_of_head s.geometry.page h = elim (cases_lt (k + 1) (pages_of_head s.geometry.page h)) [ inl less ↦ less | inr no_less ↦ absurd (differs (omega (arith, left, no_less))) ] in
      placed ∙ page_placed (bank_of s) big at.records s.end h body old new k s.numbers at.staged left touches is less))
  by_tail (Owes h None) at work touches is = cc work
  by_tail (Owes h (Some next)) at work touches is =
      placed ∙ page_placed (bank_of s) big at.records s.end h at.body old new 1 s.numbers at.staged (omega arith) touches is (omega arith)
  by_tail Closed at work touches is = cc work

pub step_placed : (s : LogState) (body old new : List ℕ) (may : May) → IsDueOn s body old may → MayLeave (op_of s body) old new → Leaves (op_of s body) Done old new → s.places ≡ places_of s.numbers (records_of (bank_of s) old)
    → (after_step s Done).places ≡ places_of s.numbers (records_of (bank_of s) new)
step_placed s body old new may due leaves left placed =
    let at = (work_is_due s body due.work).1 in
    by_tail s body old new may due.state.geometry.page_low placed s.tail due.holds.holds.tail due.work
    (subst (λ (q : ℕ). Touches (bank_of s) q old new) at (programs_touch_their_bank (bank_of s) old new (due_bytes s body) (due_page s) due.page.size leaves))
    (subst (λ (q : ℕ). page_of (bank_of s) new q ≡ due_bytes s body) at (pages_stand s body old new may due left))

-- a record that is given up leaves them
pub given_places : (s : LogState) (t : Tail) → (given_up (record s { tail = t })).places ≡ s.places
given_places s Open = refl
given_places s (Writes h zero) = refl
given_places s (Writes h (suc zero)) = refl
given_places s (Writes h (suc (suc done))) = refl
given_places s (Owes h next) = refl
given_places s Closed = refl
