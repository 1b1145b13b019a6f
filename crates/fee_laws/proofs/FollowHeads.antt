-- The head of a switch's target.
use Rattle.std.proofs.Common.{◌≡◌, ◌≤◌, ◌*◌, ◌++◌, ◌∷◌, ℕ, false, List, [], length, Some, sym, ap, ◌∙◌, subst, arith}
use Rattle.fls_model.specs.declared.flash.FlashAnswer.TheVariants.{Done}
use Rattle.fls_model.specs.Op.{MayLeave, after_op}
use Rattle.fls_model.specs.Told.{Change}
use Rattle.fee_format.specs.Formats.{new_format}
use Rattle.fee_format.specs.BankHead.{bank_head_page}
use Rattle.fee_format.specs.Pages.{gate_page}
use Rattle.fee_image.specs.Image.{Layout, bank_in, image_page}
use Rattle.fee_image.proofs.Ranges.{programs_stand}
use Rattle.fee_course.specs.declared.course.Course.TheVariants.{Head, Gate}
use Rattle.fee_switch_laws.specs.fee_switch.declared.target.Stage.TheVariants as stage
use Rattle.fee_switch_laws.specs.fee_switch.Target.{op_at}
use Rattle.fee_switch_laws.specs.fee_switch.Banks.{BanksState, IsBanksState, target_at, next_generation, advanced, fallen_back}
use Rattle.fee_switch_laws.proofs.SwitchTargets.{page_inside}
use Rattle.fee_switch_laws.specs.Shown.{layout_in}
use Rattle.promise_device.specs.Wear.{bank_of_op}
use Rattle.fee_laws.specs.Switches.{op_in}
use Rattle.fee_laws.specs.Follows.{target_head, FollowsTarget, FollowsBytes}
use Rattle.fee_image.proofs.Frames.{SameOthers, others_stay, page_stays}
use Rattle.fee_laws.proofs.FollowBytes.{bank_head_is}
use Rattle.promise_device.proofs.Places.{bank_of_program}
use Rattle.fee_laws.proofs.FollowOperations.{AreOf, gate_behind_head}
use Rattle.fee_laws.proofs.FollowBanks.{some_page, legal, copies_stay, with_copies}
use Rattle.fee_laws.proofs.FollowTargets.{was, builds, again}

module _ (s : BanksState) (is : IsBanksState s) (content old new : List ℕ) (xs : List Change) (x : Change) (course : s.course ≡ Some Head) (leaves : MayLeave (op_at (target_at s stage.Head) stage.Head) old new) (op : x.op ≡ op_in s stage.Head) (follows : FollowsBytes s content xs old) where
  abbrev l : Layout
  l = layout_in s

  abbrev page : List ℕ
  page = bank_head_page s.geometry.page (target_head s)

  two : 2 ≤ l.pages
  two = (legal s is old new).pages

  size : length page ≡ s.geometry.page
  size = (bank_head_is s.geometry.page (next_generation s.active) is.legal.page_low).size

  apart : SameOthers l old new s.target
  apart = others_stay l old new page s.target 0 size (omega (arith, two)) leaves

  of : AreOf s.geometry s.banks s.target (x ∷ [])
  of = (ap (bank_of_op s.geometry s.banks) op ∙ bank_of_program s.geometry s.banks s.target 0 page (some_page s.geometry is.legal) (omega (arith, two)), tt)

  was' : FollowsTarget s Head old
  was' = (was s is content old new xs (x ∷ []) Head course of leaves.0.size apart follows).1

  pub head_fails : FollowsBytes (fallen_back s Head) content (xs ++ x ∷ []) new
  head_fails = again s is content old new xs (x ∷ []) Head course of leaves.0.size apart follows s.buffer

  pub head_stands : l.pages * l.page * s.banks ≤ length old → new ≡ after_op (op_at (target_at s stage.Head) stage.Head) old → x.answer ≡ Done → FollowsBytes (advanced s Head) content (xs ++ x ∷ []) new
  head_stands wide done well =
      let page_of = bank_head_is s.geometry.page (next_generation s.active) is.legal.page_low in
      let stood = programs_stand (bank_in l new_format s.target) old page 0 page_of.size page_of.bytes (page_inside l old s.target 0 wide is.target (omega (arith, two))) (was'.0 0 (omega arith) (omega (arith, two))) in
      let here : image_page l new s.target 0 ≡ page = subst (λ (bytes : List ℕ). image_page l bytes s.target 0 ≡ page) (sym done) stood.0 in
      let same = page_stays l old new page s.target 0 size (omega (arith, two)) leaves in
      builds s is content old new xs (x ∷ []) Head course of leaves.0.size apart follows s.log.flags (Gate false) s.copies s.buffer
      (here, with_copies s s.log (Some (Gate false)) new (copies_stay s is old new leaves.0.size (λ q low inside. same q inside (λ e. omega (arith, low, e))) was'.1))
      (same 1 (omega (arith, two)) (λ e. (let z : ◌≡◌ {A = ℕ} 1 0 = e in cc z)) ∙ was'.0 1 (omega arith) (omega (arith, two)), gate_behind_head s.geometry s.banks s.target page (gate_page s.geometry.page) xs x op well)
