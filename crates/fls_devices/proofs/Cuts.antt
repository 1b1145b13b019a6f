-- The planned cuts of a flash.
use Rattle.std.specs.Prelude.{Option, nat_le, nat_eq, map}
use Rattle.std.proofs.Common.{◌≡◌, ◌⊎◌, ◌≤◌, ℕ, zero, suc, Bool, true, false, List, [], ◌∷◌, ◌++◌, Some, None, inl, inr, refl, sym, ap, ◌∙◌, subst, arith}
use Rattle.std.proofs.lemmas.Bool.{cases_Bool, leb-true, eqb-true}
use Rattle.nv_base.specs.Count.{Rose, next_count}
use Rattle.nv_base.specs.Plan.{Planning, withheld_by, nearer}
use Rattle.nv_base.specs.declared.geometry.Geometry.{Geometry}
use Rattle.nv_base.specs.declared.plan.Plan.{Plan}
use Rattle.fls_model.specs.declared.flash.FlashAnswer.{FlashAnswer}
use Rattle.fls_model.specs.declared.flash.FlashAnswer.TheVariants.{Done, Failed, Off}
use Rattle.fls_model.specs.Told.{Told}
use Rattle.fls_model.specs.Op.{Op, part_of}
use Rattle.fls_model.specs.Plan.{PlanGoes}
use Rattle.fls_model.specs.Step.{IsStep, IsAsked, OffOrAsked, HasCause}
use Rattle.fls_devices.specs.declared.part.Harm.TheVariants.{Cut}
use Rattle.fls_devices.specs.Cutter.{planning_of, told_cutting, due, plan_after}
use Rattle.fls_devices.specs.Journal.{Harmed, Journaled, AddsOf}
use Rattle.fls_devices.specs.Overlay.{Overlaid, IsAskedOver, IsHarmed, WithheldOrPart, IsPassed, OffOrHandedOn}

-- the inner flash is cut in its part of the operation, or it isn't
may_cut : (a : FlashAnswer) (s t : Told) → HasCause a s t → (t.cuts ≡ s.cuts) ⊎ Rose s.cuts t.cuts
may_cut Done s t cause = inl cause.1
may_cut Failed s t cause = inl cause.1
may_cut Off s t cause = inr cause.1

abbrev before : Overlaid → Plan → ℕ → Planning
before o p arms = planning_of (record { flash = o; plan = Some p; arms = arms })

abbrev behind : Overlaid → ℕ → Planning
behind n arms = planning_of (record { flash = n; plan = None; arms = arms })

-- its event is listed with the bytes that it let be done
came_push : (es : List Harmed) (e : Harmed) → map (λ (x : Harmed). x.keep) (es ++ e ∷ []) ≡ map (λ (x : Harmed). x.keep) es ++ e.keep ∷ []
came_push [] e = refl
came_push (x ∷ es) e = ap (λ (l : List ℕ). x.keep ∷ l) (came_push es e)

came_more : (g : Geometry) (op : Op) (keep : ℕ) (a : FlashAnswer) (j j' : Journaled) → AddsOf g op keep a j j'
    → map (λ (x : Harmed). x.keep) j'.events ≡ map (λ (x : Harmed). x.keep) j.events ++ keep ∷ []
came_more g op keep a j j' adds =
    ap (map (λ (x : Harmed). x.keep)) adds.adds.events ∙ came_push j.events adds.event ∙ ap (λ (n : ℕ). map (λ (x : Harmed). x.keep) j.events ++ n ∷ []) adds.kept

fewer_or_more : (s t : ℕ) → (t ≡ s) ⊎ Rose s t → s ≤ t
fewer_or_more s t (inl same) = omega (arith, same)
fewer_or_more s t (inr (inl more)) = omega (arith, more)
fewer_or_more s t (inr (inr (end, more))) = more

comes : (o n : Overlaid) (p : Plan) (arms : ℕ) → p.left ≤ 1 → o.inner.cuts ≤ n.inner.cuts
    → map (λ (x : Harmed). x.keep) n.journal.events ≡ map (λ (x : Harmed). x.keep) o.journal.events ++ p.keep ∷ [] → n.withheld ≡ withheld_by p.keep o.withheld
    → PlanGoes Off (before o p arms) (behind n arms)
comes o n p arms due more came withheld = inl (record {
  plan = p;
  stood = refl;
  due = due;
  more = more;
  planning = λ i. record { plan = None; takes = arms; unplanned = n.inner.cuts; came = came i; withheld = withheld i };
})

some_withheld : (keep n : ℕ) → nat_eq keep 0 ≡ false → withheld_by keep n ≡ n
some_withheld zero n none = cc none
some_withheld (suc keep) n some = refl

none_withheld : (keep n : ℕ) → nat_eq keep 0 ≡ true → withheld_by keep n ≡ next_count n
none_withheld keep n none = rw (eqb-true keep 0 none) refl

none_kept : (keep : ℕ) → nat_eq keep 0 ≡ true → 0 ≡ keep
none_kept keep none = sym (eqb-true keep 0 none)

-- the planned cut comes
goes_by : (b : Bool) (op : Op) (o : Overlaid) (a : FlashAnswer) (n : Overlaid) (p : Plan) (arms : ℕ) → nat_eq p.keep 0 ≡ b → p.left ≤ 1 → WithheldOrPart b Cut p.keep op o a n
    → PlanGoes a (before o p arms) (behind n arms)
goes_by true op o a n p arms none due h =
    subst (λ (x : FlashAnswer). PlanGoes x (before o p arms) (behind n arms)) (sym h.answer_is)
    (comes o n p arms due (fewer_or_more o.inner.cuts n.inner.cuts (inl (ap (λ (v : Overlaid). v.inner.cuts) h.same)))
    (subst (λ (k : ℕ). map (λ (x : Harmed). x.keep) n.journal.events ≡ map (λ (x : Harmed). x.keep) o.journal.events ++ k ∷ []) (none_kept p.keep none)
    (came_more o.inner.geometry op 0 a o.journal n.journal h.journal))
    (ap (λ (v : Overlaid). v.withheld) h.same ∙ sym (none_withheld p.keep o.withheld none)))
goes_by false op o a n p arms some due h =
    subst (λ (x : FlashAnswer). PlanGoes x (before o p arms) (behind n arms)) (sym h.answer_is)
    (comes o n p arms due (fewer_or_more o.inner.cuts n.inner.cuts (may_cut h.inner o.inner n.inner h.part.cause))
    (came_more o.inner.geometry op p.keep a o.journal n.journal h.journal)
    (ap (λ (v : Overlaid). v.withheld) h.same ∙ sym (some_withheld p.keep o.withheld some)))

some_is : (m n : ℕ) → Some m ≡ Some n → m ≡ n
some_is m n e = cc e

stands_by : (off : Bool) (op : Op) (o : Overlaid) (a : FlashAnswer) (n : Overlaid) (plan : Option Plan) (arms keep : ℕ)
    → due off plan ≡ Some keep → IsAskedOver op o a n → IsHarmed Cut keep op o a n
    → OffOrAsked off op (told_cutting (record { flash = o; plan = plan; arms = arms })) a (told_cutting (record { flash = n; plan = plan_after off plan; arms = arms }))
stands_by true op o a n plan arms keep at asked harmed = cc
stands_by false op o a n None arms keep at asked harmed = cc
stands_by false op o a n (Some p) arms keep at asked harmed = elim (cases_Bool (nat_le p.left 1)) [
  | inl e ↦
      let same : p.keep ≡ keep = some_is p.keep keep (rw e at at) in
      let harmed' : IsHarmed Cut p.keep op o a n = subst (λ (k : ℕ). IsHarmed Cut k op o a n) (sym same) harmed in
      rw e (asked (before o p arms) (behind n arms) (goes_by (nat_eq p.keep 0) op o a n p arms refl (leb-true _ _ e) harmed') (inl (omega arith)))
  | inr e ↦ absurd (let never = rw e at at in cc)
]

-- an operation that is due is cut
pub cut_stands : (op : Op) (o : Overlaid) (a : FlashAnswer) (n : Overlaid) (plan : Option Plan) (arms keep : ℕ)
    → due o.off plan ≡ Some keep → IsAskedOver op o a n → IsHarmed Cut keep op o a n
    → IsStep op (told_cutting (record { flash = o; plan = plan; arms = arms })) a (told_cutting (record { flash = n; plan = plan_after o.off plan; arms = arms }))
cut_stands op o a n plan arms keep = stands_by o.off op o a n plan arms keep

-- NO PLAN IN THE INNER FLASH
-- where none stood none does, unless a cut came
pub no_plan_asked : (op : Op) (s : Told) (a : FlashAnswer) (t : Told) → IsAsked op s a t → s.planning.plan ≡ None → t.off ≡ false → t.planning.plan ≡ None
no_plan_asked op s Done t asked none on = ap (λ (p : Planning). p.plan) asked.planning.planning ∙ ap nearer none
no_plan_asked op s Failed t asked none on = elim asked.planning [
  | inl nears ↦ ap (λ (p : Planning). p.plan) nears.planning ∙ ap nearer none
  | inr same ↦ ap (λ (p : Planning). p.plan) same ∙ none
]
no_plan_asked op s Off t asked none on = absurd (let both : true ≡ false = sym asked.cause.2 ∙ on in cc both)

no_plan_by : (b : Bool) (keep : ℕ) (op : Op) (o : Overlaid) (a : FlashAnswer) (n : Overlaid) → WithheldOrPart b Cut keep op o a n → o.inner.planning.plan ≡ None
    → n.inner.off ≡ false → n.inner.planning.plan ≡ None
no_plan_by true keep op o a n h none on = ap (λ (v : Overlaid). v.inner.planning.plan) h.same ∙ none
no_plan_by false keep op o a n h none on = no_plan_asked (part_of keep op) o.inner h.inner n.inner h.part none on

pub no_plan_cut : (keep : ℕ) (op : Op) (o : Overlaid) (a : FlashAnswer) (n : Overlaid) → IsHarmed Cut keep op o a n → (o.inner.off ≡ false → o.inner.planning.plan ≡ None) → o.inner.off ≡ false
    → n.inner.off ≡ false → n.inner.planning.plan ≡ None
no_plan_cut keep op o a n h none on = no_plan_by (nat_eq keep 0) keep op o a n h (none on)

passed_by : (off : Bool) (op : Op) (o : Overlaid) (a : FlashAnswer) (n : Overlaid) → OffOrHandedOn off op o a n → (o.inner.off ≡ false → o.inner.planning.plan ≡ None) → (off ≡ false → o.inner.off ≡ false)
    → n.inner.off ≡ false → n.inner.planning.plan ≡ None
passed_by true op o a n (off, same) none power on = ap (λ (v : Overlaid). v.inner.planning.plan) same ∙ none (sym (ap (λ (v : Overlaid). v.inner.off) same) ∙ on)
passed_by false op o a n h none power on = no_plan_asked op o.inner a n.inner h.asked (none (power refl)) on

pub no_plan_passed : (op : Op) (o : Overlaid) (a : FlashAnswer) (n : Overlaid) → IsPassed op o a n → (o.inner.off ≡ false → o.inner.planning.plan ≡ None) → (o.off ≡ false → o.inner.off ≡ false)
    → n.inner.off ≡ false → n.inner.planning.plan ≡ None
no_plan_passed op o a n = passed_by o.off op o a n
