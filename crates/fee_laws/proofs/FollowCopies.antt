-- The copies of a switch.
use Rattle.std.specs.Prelude.{IsSome}
use Rattle.std.specs.List.{All}
use Rattle.std.proofs.Common.{◌≡◌, ◌<◌, ◌≤◌, ◌-◌, ◌==◌, ℕ, Bool, false, List, length, Option, Some, None, refl, sym, ap, ◌∙◌, subst}
use Rattle.std.proofs.lemmas.Bool.{cond_both}
use Rattle.nv_base.specs.Pages.{record_pages_of}
use Rattle.nv_base.specs.declared.geometry.Geometry.{Geometry}
use Rattle.nv_base.specs.declared.instance.DeviceNumber.{DeviceNumber}
use Rattle.fls_model.specs.declared.flash.FlashAnswer.TheVariants.{Done}
use Rattle.fls_model.specs.Op.{MayLeave}
use Rattle.fls_model.specs.Step.{Leaves}
use Rattle.fls_model.specs.Told.{Change}
use Rattle.fee_format.specs.declared.rec_head.RecHead.{RecHead}
use Rattle.fee_image.specs.Image.{Layout, image_page}
use Rattle.fee_image.specs.declared.place.Place.{Place}
use Rattle.fee_image.specs.Log.{HasTail}
use Rattle.fee_image.specs.Places.{places_of}
use Rattle.fee_image.specs.RecordList.{records_of}
use Rattle.fee_image.specs.Step.{bytes_of_tail}
use Rattle.fee_image.specs.Banks.{AreBlank}
use Rattle.fee_switch_laws.specs.fee_log.declared.tail.Tail.{Tail}
use Rattle.fee_switch_laws.specs.fee_log.declared.tail.Tail.TheVariants.{Open, Writes}
use Rattle.fee_switch_laws.specs.fee_log.Laws.{HoldsState}
use Rattle.fee_switch_laws.specs.fee_log.Log.{LogState, HasFormat, IsLogState, IsTail, IsFor, bank_of, pages_in, free_in, tail_with, work_in, begun, tail_begun}
use Rattle.fee_switch_laws.specs.fee_log.Step.{IsPageOf, due_bytes, op_of, after_step}
use Rattle.fee_switch_laws.proofs.Holds.{begins_hold}
use Rattle.fee_switch_laws.proofs.Changes.{flag_length}
use Rattle.fee_course.specs.declared.copies.Source.{Source}
use Rattle.fee_course.specs.declared.course.Copying.{Copying}
use Rattle.fee_course.specs.declared.course.Course.{Course}
use Rattle.fee_course.specs.declared.course.Course.TheVariants.{Copy, Head}
use Rattle.fee_course.specs.Course.{settled, page_done, begun as course_begun}
use Rattle.fee_switch_laws.specs.fee_switch.Banks.{BanksState, IsBanksState, IsLogOf, flagged_at, flagged_by}
use Rattle.fee_switch_laws.specs.Shown.{layout_in}
use Rattle.fee_switch_laws.proofs.RoomAppends.{work_begun}
use Rattle.fee_laws.specs.Inside.{body_of}
use Rattle.fee_laws.specs.Follows.{anything, FollowsCopies, FollowsBytes}
use Rattle.fee_image.proofs.Frames.{SameOthers}
use Rattle.fee_laws.proofs.FollowBytes.{record_page_is}
use Rattle.fee_laws.proofs.FollowAppends.{others, front, state_after}
use Rattle.fee_laws.proofs.FollowPlaces.{step_placed}
use Rattle.fee_laws.proofs.FollowTargets.{settled_target}

-- A PAGE OF THE TARGET'S LOG
-- it is one of bytes
pub page_small : (k : LogState) (h : RecHead) (done : ℕ) (body : List ℕ) → k.tail ≡ Writes h done → IsLogState k → All (λ x. x < 256) body → IsPageOf k.geometry.page (due_bytes k body)
page_small k h done body tail state small =
    let is : IsTail k.geometry.page (pages_in k) k.end (Writes h done) = subst (IsTail k.geometry.page (pages_in k) k.end) tail state.tail in
    subst (λ (t : Tail). IsPageOf k.geometry.page (bytes_of_tail k.geometry.page (tail_with t body))) (sym tail) (record_page_is k.geometry.page h body done state.geometry.page_low is.0 small)

module _ (s : BanksState) (is : IsBanksState s) (content old new : List ℕ) (xs : List Change) (x : Change) (c : Course) (course : s.course ≡ Some c) (k : LogState) (of : IsLogOf s.geometry s.banks k) (bank : k.bank ≡ s.target) (state : IsLogState k) (work : IsSome (work_in k.tail)) (page : IsPageOf k.geometry.page (due_bytes k (body_of (work_in k.tail) s.buffer))) (leaves : MayLeave (op_of k (body_of (work_in k.tail) s.buffer)) old new) (follows : FollowsBytes s content xs old) where
  abbrev l : Layout
  l = layout_in s

  abbrev body : List ℕ
  body = body_of (work_in k.tail) s.buffer

  page_is : IsPageOf s.geometry.page (due_bytes k body)
  page_is = subst (λ (g : Geometry). IsPageOf g.page (due_bytes k body)) of.shape page

  pub apart : SameOthers l old new s.target
  apart j differs = others s.geometry s.banks k of state work body old new page_is leaves j (λ same. differs (same ∙ bank))

  pub long : length new ≡ length old
  long = leaves.0.size

  still_blank : AreBlank l old s.target 2 → AreBlank l new s.target 2
  still_blank blank q below inside = subst (λ (b : ℕ). image_page l new b q ≡ image_page l old b q) bank (front s.geometry s.banks k of state work body old new page_is leaves q below inside) ∙ blank q below inside

  -- it is done
  pub page_goes_on : AreBlank l old s.target 2 → HoldsState k body old anything → k.places ≡ places_of k.numbers (records_of (bank_of k) old) → Leaves (op_of k body) Done old new
      → AreBlank l new s.target 2 × FollowsCopies (record s { copies = after_step k Done }) new
  page_goes_on blank holds placed done = (
    still_blank blank,
    record {
      holds = state_after k s.buffer old new Done state holds work page (λ off. cc off) leaves done;
      placed = step_placed k body old new anything (record { state = state; holds = holds; work = work; page = page }) leaves done placed;
    },
  )

-- FLAGS
-- those that are set are all that a done page changes in the active log
flagged_as : (log : LogState) (o : Option (DeviceNumber × ℕ)) → flagged_at log o ≡ record log { flags = (flagged_at log o).flags }
flagged_as log None = refl
flagged_as log (Some n) = refl

pub flagged_is : (log : LogState) (o : Option ℕ) → flagged_by log o ≡ record log { flags = (flagged_by log o).flags }
flagged_is log None = refl
flagged_is log (Some i) = flagged_as log _

-- WHAT COMES BEHIND IT
pub paged : (ns : List (DeviceNumber × ℕ)) (ps : List Place) (cs : List Bool) (w : Copying) (t : Course → BanksState) (P : BanksState → Type 0) → ((o : Option Copying) → P (t (Copy o))) → P (t Head) → P (t (page_done ns ps cs w))
paged ns ps cs w t P copy head =
    cond_both (w.pages == 1) (settled ns ps cs) (Copy (Some (record w { pages = w.pages - 1 }))) (λ (c : Course). P (t c)) (λ e. settled_target ns ps cs t P (copy None) head) (λ e. copy (Some (record w { pages = w.pages - 1 })))

pub begun_course : (p : ℕ) (o : Option Source) (t : Course → BanksState) (P : BanksState → Type 0) → ((w : Option Copying) → P (t (Copy w))) → P (t Head) → P (t (course_begun p o))
begun_course p None t P copy head = head
begun_course p (Some source) t P copy head = copy _

-- A COPY BEGINS
module _ (k : LogState) (state : IsLogState k) (tail : k.tail ≡ Open) (head : RecHead) (configured : IsFor k.numbers head) (room : record_pages_of head.length k.geometry.page ≤ free_in k) (before buffer bytes : List ℕ) (size : length (body_of (Some head) buffer) ≡ head.length) (holds : HoldsState k before bytes anything) where
  pub begun_tail : (begun k head).tail ≡ Writes head 0
  begun_tail = ap (λ (t : Tail). tail_begun t head) tail

  whole : HoldsState (begun k head) (body_of (Some head) buffer) bytes anything
  whole = begins_hold k head before (body_of (Some head) buffer) bytes anything state holds (ap work_in tail) configured room size (λ number length fit. tt)

  pub begun_holds : HoldsState (begun k head) (body_of (work_in (begun k head).tail) buffer) bytes anything
  begun_holds = subst (λ (o : Option RecHead). HoldsState (begun k head) (body_of o buffer) bytes anything) (sym (work_begun k.tail head)) whole

  written : HasTail (bank_of k) bytes anything k.end (tail_with (Writes head 0) (body_of (Some head) buffer))
  written = subst (λ (t : Tail). HasTail (bank_of k) bytes anything k.end (tail_with t (body_of (Some head) buffer))) begun_tail whole.holds.tail

  pub begun_state : IsLogState (begun k head)
  begun_state = record {
    geometry = state.geometry;
    shared = state.shared;
    bank = state.bank;
    format = subst (HasFormat k.format) (sym begun_tail) (subst (HasFormat k.format) tail state.format);
    numbers = state.numbers;
    places = state.places;
    counts = state.counts;
    flags = flag_length k.numbers k.flags head.number.0 false ∙ state.flags;
    end_low = state.end_low;
    end_high = state.end_high;
    tail = subst (IsTail k.geometry.page (pages_in k) k.end) (sym begun_tail) (written.staged.legal, written.left, written.staged.room);
  }
