-- The erases of a switch's target.
use Rattle.std.proofs.Common.{◌≡◌, inl, inr, ◌<◌, ◌≤◌, ◌+◌, ◌*◌, ◌==◌, ◌++◌, ◌∷◌, ℕ, zero, suc, List, [], length, Some, None, sym, ap, ◌∙◌, subst, arith, refl}
use Rattle.std.proofs.lemmas.Bool.{cond_both, cases_lt, eqb-true, eqb-false}
use Rattle.nv_base.specs.Geometry.{sectors_of_bank, pages_of_sector}
use Rattle.fls_model.specs.declared.flash.FlashAnswer.TheVariants.{Done, Failed}
use Rattle.fls_model.specs.Op.{MayLeave, after_op}
use Rattle.fls_model.specs.Told.{Change}
use Rattle.fee_image.specs.Image.{Layout}
use Rattle.fee_image.specs.Banks.{AreBlank}
use Rattle.fee_image.specs.Places.{places_of}
use Rattle.fee_image.specs.RecordList.{IsTailBlank, records_of}
use Rattle.fee_image.proofs.Sectors.{sectors_fill_banks}
use Rattle.fee_switch_laws.specs.fee_log.Index.{clear_flags}
use Rattle.fee_switch_laws.specs.fee_log.Laws.{HoldsState}
use Rattle.fee_switch_laws.specs.fee_log.Log.{LogState, IsLogState, bank_of, work_in, erased_state}
use Rattle.fee_switch_laws.proofs.Holds.{erased_holds}
use Rattle.fee_course.specs.declared.course.Course.{Course}
use Rattle.fee_course.specs.declared.course.Course.TheVariants.{Erase, Copy, Head}
use Rattle.fee_course.specs.Course.{settled}
use Rattle.fee_switch_laws.specs.fee_switch.declared.target.Stage.TheVariants as stage
use Rattle.fee_switch_laws.specs.fee_switch.Target.{op_at}
use Rattle.fee_switch_laws.specs.fee_switch.Banks.{BanksState, IsBanksState, target_at, begun_again, advanced, fallen_back}
use Rattle.fee_switch_laws.specs.Shown.{layout_in}
use Rattle.fee_laws.specs.Inside.{body_of}
use Rattle.fee_laws.specs.Switches.{op_in}
use Rattle.fee_laws.specs.Follows.{anything, FollowsCopies, FollowsTarget, FollowsNext, FollowsBytes}
use Rattle.fee_image.proofs.Erases.{erased_others, erased_blank, still_blank}
use Rattle.fee_image.proofs.Frames.{SameOthers}
use Rattle.promise_device.specs.Wear.{bank_of_op}
use Rattle.promise_device.proofs.Places.{bank_of_erase}
use Rattle.fee_laws.proofs.FollowOperations.{AreOf, next_in_order, same_in_order}
use Rattle.fee_laws.proofs.FollowBanks.{some_sector, legal, with_copies}
use Rattle.fee_laws.proofs.FollowPlaces.{none_placed}
use Rattle.fee_laws.proofs.FollowTargets.{was, builds, settled_target}

module _ (s : BanksState) (is : IsBanksState s) (content old new : List ℕ) (xs : List Change) (x : Change) (n : ℕ) (course : s.course ≡ Some (Erase n)) (short : n < sectors_of_bank s.geometry s.banks) (leaves : MayLeave (op_at (target_at s (stage.Erase n)) (stage.Erase n)) old new) (op : x.op ≡ op_in s (stage.Erase n)) (follows : FollowsBytes s content xs old) where
  abbrev l : Layout
  l = layout_in s

  long : length new ≡ length old
  long = leaves.0.size

  apart : SameOthers l old new s.target
  apart = erased_others s.geometry s.banks s.target n old new is.legal is.shared short leaves

  of : AreOf s.geometry s.banks s.target (x ∷ [])
  of = (ap (bank_of_op s.geometry s.banks) op ∙ bank_of_erase s.geometry s.banks s.target n (some_sector s.geometry is.legal) short, tt)

  was' : FollowsTarget s (Erase n) old
  was' = (was s is content old new xs (x ∷ []) (Erase n) course of long apart follows).1

  next_again : (k : ℕ) → x.op ≡ op_in s (stage.Erase k) → x.answer ≡ Failed → FollowsNext (begun_again s (Erase k)) (Erase k) (xs ++ x ∷ []) new
  next_again zero is' failed = tt
  next_again (suc k) is' failed = same_in_order s.geometry s.banks s.target (suc k) xs x is' failed

  pub erase_fails : x.answer ≡ Failed → FollowsBytes (fallen_back s (Erase n)) content (xs ++ x ∷ []) new
  erase_fails failed = builds s is content old new xs (x ∷ []) (Erase n) course of long apart follows (clear_flags s.log.numbers) (Erase n) (erased_state s.geometry s.banks s.target s.copies.numbers) s.buffer
      (still_blank s.geometry s.banks s.target n old new is.legal is.shared short leaves was'.0, refl) (next_again n op failed)

  module _ (size : l.pages * l.page * s.banks ≤ length old) (copies : IsLogState s.copies) (is_empty : s.copies ≡ erased_state s.geometry s.banks s.target s.copies.numbers) (done : new ≡ after_op (op_at (target_at s (stage.Erase n)) (stage.Erase n)) old) (is_done : x.answer ≡ Done) where
    blank : AreBlank l new s.target ((n + 1) * pages_of_sector s.geometry)
    blank = erased_blank s.geometry s.banks s.target n old new is.legal is.shared short leaves is.target size done was'.0

    all_blank : n + 1 ≡ sectors_of_bank s.geometry s.banks → AreBlank l new s.target l.pages
    all_blank last q below inside = blank q (subst (λ (k : ℕ). q < k) (sectors_fill_banks s.geometry s.banks is.legal is.shared ∙ ap (λ (k : ℕ). k * pages_of_sector s.geometry) (sym last)) inside) inside

    empty_holds : n + 1 ≡ sectors_of_bank s.geometry s.banks → FollowsCopies s new
    empty_holds last =
        let state = subst IsLogState is_empty copies in
        let rest : IsTailBlank (bank_of (erased_state s.geometry s.banks s.target s.copies.numbers)) new 2 = λ q two inside. all_blank last q inside inside in
        record {
          holds = subst (λ (k : LogState). HoldsState k (body_of (work_in k.tail) s.buffer) new anything) (sym is_empty)
              (erased_holds s.geometry s.banks s.target s.copies.numbers [] new anything state (omega (arith, size, long)) rest (λ number length. tt));
          placed = subst (λ (k : LogState). k.places ≡ places_of k.numbers (records_of (bank_of k) new)) (sym is_empty)
              (none_placed (bank_of (erased_state s.geometry s.banks s.target s.copies.numbers)) new s.copies.numbers state.geometry.page_low rest);
        }

    next_erase : (n + 1 ≡ sectors_of_bank s.geometry s.banks → ⊥) → FollowsNext s (Erase (n + 1)) (xs ++ x ∷ []) new
    next_erase more =
        let same : suc n ≡ n + 1 = omega arith in
        let inside : suc n < sectors_of_bank s.geometry s.banks = elim (cases_lt (suc n) (sectors_of_bank s.geometry s.banks)) [ inl less ↦ less | inr no_less ↦ absurd (more (omega (arith, short, no_less))) ] in
        subst (λ (k : ℕ). FollowsNext s (Erase k) (xs ++ x ∷ []) new) same (next_in_order s.geometry s.banks s.target n xs x (some_sector s.geometry is.legal) inside op is_done)

    two : 2 ≤ l.pages
    two = (legal s is old new).pages

    pub erase_goes_on : FollowsBytes (advanced s (Erase n)) content (xs ++ x ∷ []) new
    erase_goes_on =
        let goes = builds s is content old new xs (x ∷ []) (Erase n) course of long apart follows s.log.flags in
        cond_both (n + 1 == sectors_of_bank s.geometry s.banks) (settled s.log.numbers s.log.places s.log.flags) (Erase (n + 1)) (λ (after : Course). FollowsBytes (record s { course = Some after }) content (xs ++ x ∷ []) new)
        (λ e.
        (let last = eqb-true (n + 1) (sectors_of_bank s.geometry s.banks) e in
        let front : AreBlank l new s.target 2 = λ q below inside. all_blank last q inside inside in
        settled_target s.log.numbers s.log.places s.log.flags (λ (after : Course). record s { course = Some after }) (λ (t : BanksState). FollowsBytes t content (xs ++ x ∷ []) new)
        (goes (Copy None) s.copies s.buffer (front, with_copies s s.log (Some (Copy None)) new (empty_holds last)) tt) (goes Head s.copies s.buffer (front, with_copies s s.log (Some Head) new (empty_holds last)) tt)))
        (λ e. goes (Erase (n + 1)) s.copies s.buffer (blank, was'.1) (next_erase (eqb-false (n + 1) (sectors_of_bank s.geometry s.banks) e)))
