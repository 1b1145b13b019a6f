-- The gate of a switch's target.
use Rattle.std.specs.Prelude.{IfSome}
use Rattle.std.proofs.Common.{◌≡◌, inl, inr, ◌<◌, ◌≤◌, ◌+◌, ◌*◌, ◌^◌, ◌++◌, ◌∷◌, ℕ, Bool, true, false, List, [], length, Option, Some, None, refl, sym, ap, ◌∙◌, subst, arith}
use Rattle.std.proofs.lemmas.Bool.{cases_lt, cases_eq, eqb-false}
use Rattle.std.proofs.lemmas.Option.{same_Some}
use Rattle.std.proofs.lemmas.List.{length-replicate}
use Rattle.nv_base.specs.Geometry.{address_of_page}
use Rattle.fls_model.specs.declared.flash.FlashAnswer.TheVariants.{Failed}
use Rattle.fls_model.specs.Op.{MayLeave, after_op}
use Rattle.fls_model.specs.Told.{Change}
use Rattle.fee_format.specs.declared.bank_head.BankHead.{BankHead}
use Rattle.fee_format.specs.Formats.{new_format}
use Rattle.fee_format.specs.BankHead.{bank_head_page, last_generation}
use Rattle.fee_format.specs.Pages.{gate_page}
use Rattle.fee_image.specs.Image.{Layout, bank_in, image_page, BankStands, ComesFirst, IsActive}
use Rattle.fee_image.proofs.Banks.{active_computes, heads_compute}
use Rattle.fee_image.proofs.Ranges.{gates_stand}
use Rattle.fee_switch_laws.specs.fee_log.declared.tail.Tail.TheVariants.{Open}
use Rattle.fee_switch_laws.specs.fee_log.Log.{work_in, is_closed}
use Rattle.fee_switch_laws.specs.fee_switch.declared.active.ActiveBank.{ActiveBank}
use Rattle.fee_course.specs.declared.course.Course.TheVariants.{Gate}
use Rattle.fee_switch_laws.specs.fee_switch.declared.target.Stage.TheVariants as stage
use Rattle.fee_switch_laws.specs.fee_switch.Target.{op_at}
use Rattle.fee_switch_laws.specs.fee_switch.Banks.{BanksState, IsBanksState, target_at, next_generation, is_worn_out, fallen_back, ended}
use Rattle.fee_switch_laws.proofs.SwitchTargets.{page_inside}
use Rattle.fee_switch_laws.specs.Shown.{layout_in}
use Rattle.fee_laws.specs.Inside.{body_of}
use Rattle.promise_device.specs.Wear.{bank_of_op}
use Rattle.promise_device.proofs.Wears.{failed_are_repeated}
use Rattle.fee_laws.specs.Switches.{op_in}
use Rattle.fee_laws.specs.Follows.{anything, ComesBehind, StandsFirst, target_head, FollowsCopies, FollowsTarget, FollowsBytes}
use Rattle.fee_image.proofs.Frames.{SameOthers, others_stay, page_stays}
use Rattle.fee_laws.proofs.FollowStates.{any_content}
use Rattle.promise_device.proofs.Places.{bank_of_program}
use Rattle.fee_laws.proofs.FollowOperations.{AreOf, gate_behind_gate}
use Rattle.fee_laws.proofs.FollowBanks.{some_page, legal, copies_stay, with_copies}
use Rattle.fee_laws.proofs.FollowTargets.{was, first, builds}

-- the greatest generation but the last has a next one
next_fits : (o : Option ActiveBank) (l : Layout) (bytes : List ℕ) → IfSome o (λ a. BankStands l bytes a.bank a.head) → is_worn_out o ≡ false → next_generation o < 2 ^ 32
next_fits None l bytes stands worn = omega arith
next_fits (Some a) l bytes stands worn =
    let few = stands.head.legal.generation in
    let not_last : a.head.generation ≡ last_generation → ⊥ = eqb-false a.head.generation last_generation worn in
    elim (cases_lt a.head.generation last_generation) [ inl less ↦ omega arith | inr more ↦ absurd (not_last (omega (arith, few))) ]

-- every other bank is behind it
newer : (l : Layout) (bytes : List ℕ) (t j : ℕ) (o : Option ActiveBank) (other : BankHead) → IfSome o (λ a. BankStands l bytes a.bank a.head) → ComesBehind o j other → BankStands l bytes j other → ComesFirst t (record { format = 1; generation = next_generation o }) j other
newer l bytes t j None other first behind stands = absurd behind
newer l bytes t j (Some a) other first behind stands = elim (cases_eq j a.bank) [
  | inl same ↦
      let at = subst (λ (n : ℕ). BankStands l bytes n other) same stands in
      let is : a.head ≡ other = same_Some a.head other (sym ((heads_compute l bytes a.bank a.head).0 first) ∙ (heads_compute l bytes a.bank other).0 at) in
      inl (subst (λ (h : BankHead). h.generation < a.head.generation + 1) is (omega arith))
  | inr differs ↦ elim (behind differs) [ inl less ↦ inl (omega arith) | inr tie ↦ inl (omega (arith, tie.0)) ]
]

module _ (s : BanksState) (is : IsBanksState s) (content old new : List ℕ) (xs : List Change) (x : Change) (failed : Bool) (course : s.course ≡ Some (Gate failed)) (leaves : MayLeave (op_at (target_at s stage.Gate) stage.Gate) old new) (op : x.op ≡ op_in s stage.Gate) (follows : FollowsBytes s content xs old) where
  abbrev l : Layout
  l = layout_in s

  abbrev page : List ℕ
  page = gate_page s.geometry.page

  two : 2 ≤ l.pages
  two = (legal s is old new).pages

  size : length page ≡ s.geometry.page
  size = length-replicate {A = ℕ} s.geometry.page 0

  apart : SameOthers l old new s.target
  apart = others_stay l old new page s.target 1 size (omega (arith, two)) leaves

  same : (q : ℕ) → q < l.pages → (q ≡ 1 → ⊥) → image_page l new s.target q ≡ image_page l old s.target q
  same = page_stays l old new page s.target 1 size (omega (arith, two)) leaves

  of : AreOf s.geometry s.banks s.target (x ∷ [])
  of = (ap (bank_of_op s.geometry s.banks) op ∙ bank_of_program s.geometry s.banks s.target 1 page (some_page s.geometry is.legal) (omega (arith, two)), tt)

  was' : FollowsTarget s (Gate failed) old
  was' = (was s is content old new xs (x ∷ []) (Gate failed) course of leaves.0.size apart follows).1

  head_on : image_page l new s.target 0 ≡ bank_head_page s.geometry.page (target_head s)
  head_on = same 0 (omega (arith, two)) (λ e. (let z : ◌≡◌ {A = ℕ} 0 1 = e in cc z)) ∙ was'.0

  copies_on : FollowsCopies s new
  copies_on = copies_stay s is old new leaves.0.size (λ q low inside. same q inside (λ e. omega (arith, low, e))) was'.1

  pub gate_fails : x.answer ≡ Failed → FollowsBytes (fallen_back s (Gate failed)) content (xs ++ x ∷ []) new
  gate_fails bad = builds s is content old new xs (x ∷ []) (Gate failed) course of leaves.0.size apart follows s.log.flags (Gate true) s.copies s.buffer (head_on, with_copies s s.log (Some (Gate true)) new copies_on) (failed_are_repeated s.geometry s.banks xs x (op_in s stage.Gate) op bad, gate_behind_gate s.geometry (address_of_page s.geometry s.banks s.target 1) page xs x op bad)

  module _ (wide : l.pages * l.page * s.banks ≤ length old) (worn : is_worn_out s.active ≡ false) (tail : s.copies.tail ≡ Open) (done : new ≡ after_op (op_at (target_at s stage.Gate) stage.Gate) old) where
    gate_on : image_page l new s.target 1 ≡ page
    gate_on =
        let stood = gates_stand (bank_in l new_format s.target) old 1 (page_inside l old s.target 1 wide is.target (omega (arith, two))) in
        subst (λ (bytes : List ℕ). image_page l bytes s.target 1 ≡ page) (sym done) stood.0

    first_on : StandsFirst s new
    first_on = first s is content old new xs (x ∷ []) (Gate failed) course of leaves.0.size apart follows

    stands : BankStands l new s.target (target_head s)
    stands = record { head = record { legal = record { format = inr refl; generation = next_fits s.active l new first_on.stands worn }; page_is = head_on }; gate = gate_on }

    is_active : IsActive l new s.target (target_head s)
    is_active = record {
      bank = is.target;
      stands = stands;
      first = λ j other inside differs there. newer l new s.target j s.active other first_on.stands (first_on.behind j other inside differs there) there;
    }

    pub gate_stands : FollowsBytes (ended s) content (xs ++ x ∷ []) new
    gate_stands =
        let idle = ap work_in tail in
        let wide' = ap is_closed tail in
        record {
          log = record {
            holds = any_content s.copies (body_of (work_in s.copies.tail) s.buffer) (body_of (work_in s.copies.tail) content) new anything idle copies_on.holds;
            closed = λ shut. cc;
            placed = inr copies_on.placed;
          };
          banks = sym ((active_computes l new s.target (target_head s)).0 is_active);
          next = tt;
        }
