-- The part of a device that is its flash's, over its calls.
use Rattle.std.specs.Prelude.{min}
use Rattle.std.proofs.Common.{◌≡◌, ◌≢◌, ◌⊎◌, inl, inr, ℕ, ◌≤◌, ◌+◌, true, false, List, length, refl, sym, ap, ◌∙◌, arith, ◌∷◌, [], length-append}
use Rattle.std.proofs.lemmas.Bool.{cases_lt}
use Rattle.nv_base.specs.Count.{Rose, next_count, last_count}
use Rattle.memif.specs.Told.{PartTold}
use Rattle.memif.specs.Calls.{FaultsGrow, PlanStays, PlanCuts}
use Rattle.fls_model.specs.declared.flash.FlashAnswer.{FlashAnswer}
use Rattle.fls_model.specs.declared.flash.FlashAnswer.TheVariants.{Done, Failed, Off}
use Rattle.fls_model.specs.Op.{Op}
use Rattle.fls_model.specs.Plan.{PlanGoes}
use Rattle.fls_model.specs.Step.{HasCause}
use Rattle.fls_model.specs.Told.{Told, Change}
use Rattle.fls_told.specs.Device.{FlashDevice, asked_ops, flash_part}
use Rattle.fls_told.specs.Clock.{Makes, change_of}
use Rattle.fls_told.specs.Runs.{counts_fault}
use Rattle.fls_told.specs.Parts.{PartsWork, PartsCut, PartsRead, PartsPower}

-- FAULTS
grow : (a b own own' : ℕ) → a ≤ b → ((own' ≡ own) ⊎ ((own' ≡ next_count own) × Rose a b)) → own ≤ last_count → (own ≤ own') × ((own' + a ≤ own + b) ⊎ (last_count ≤ b))
grow a b own own' le (inl same) few = (omega arith, inl (omega arith))
grow a b own own' le (inr (is, inl less)) few = (omega arith, inl (omega arith))
grow a b own own' le (inr (is, inr (big, more))) few = (omega arith, inr (omega arith))

pub rose_more : (a b : ℕ) → Rose a b → a ≤ b
rose_more a b (inl less) = omega arith
rose_more a b (inr (big, more)) = more

counted : (answer : FlashAnswer) (s t : Told) (own own' : ℕ) → HasCause answer s t → own' ≡ counts_fault answer own → (s.faults ≤ t.faults) × ((own' ≡ own) ⊎ ((own' ≡ next_count own) × Rose s.faults t.faults))
counted Done s t own own' cause is = (omega (arith, cause.0), inl is)
counted Off s t own own' cause is = (cause.0, inl is)
counted Failed s t own own' (rose, cuts, off) is = (rose_more s.faults t.faults rose, inr (is, rose))

one_more : (op : Op) (answer : FlashAnswer) (d t : FlashDevice) → Makes op answer d t → length t.operations ≡ length d.operations + 1
one_more op answer d t makes = ap (length {A = Change}) makes.operations ∙ length-append d.operations (change_of op d.flash answer ∷ [])

faults_grow : (answer : FlashAnswer) (d t : FlashDevice) → HasCause answer d.flash t.flash → t.faults ≡ counts_fault answer d.faults → d.faults ≤ last_count → FaultsGrow (flash_part d) (flash_part t)
faults_grow answer d t cause is few =
    let c = counted answer d.flash t.flash d.faults t.faults cause is in
    let g = grow d.flash.faults t.flash.faults d.faults t.faults c.0 c.1 few in
    record { faults = g.0; flash = c.0; tied = g.1 }

-- A CHANGING OPERATION
works_off : (answer : FlashAnswer) (s t : Told) → answer ≢ Off → HasCause answer s t → t.off ≡ false
works_off Done s t not_off cause = cause.2
works_off Failed s t not_off cause = cause.2
works_off Off s t not_off cause = absurd (not_off refl)

rose_next : (a b : ℕ) → b ≡ next_count a → a ≤ last_count → Rose a b
rose_next a b is few = elim (cases_lt a last_count) [ inl small ↦ inl (omega (arith, is, small)) | inr full ↦ inr (full, omega (arith, is, few, full)) ]

works_plan : (answer : FlashAnswer) (a b : ℕ) (p q : PartTold) → answer ≢ Off → PlanGoes answer p.planning q.planning → b ≡ next_count a → q.faults ≡ counts_fault answer p.faults → p.faults ≤ last_count → PlanStays a b p q
works_plan Done a b p q not_off goes ops faults few = inr (goes, ops)
works_plan Failed a b p q not_off (inl nears) ops faults few = inr (nears, ops)
works_plan Failed a b p q not_off (inr same) ops faults few = inl (same, inr (rose_next p.faults q.faults faults few))
works_plan Off a b p q not_off goes ops faults few = absurd (not_off refl)

pub parts_work : PartsWork
parts_work op answer d t c not_off =
    let long = one_more op answer d t c.makes in
    let ops : min (length t.operations) last_count ≡ next_count (min (length d.operations) last_count) = omega (arith, long) in
    record {
      only = λ i. record { faults = t.faults; flash_faults = t.flash.faults; off = works_off answer d.flash t.flash not_off c.makes.asked.cause i; planning = t.flash.planning };
      on = c.on;
      later = omega (arith, long);
      one = inr ops;
      plan = works_plan answer (asked_ops d) (asked_ops t) (flash_part d) (flash_part t) not_off c.makes.asked.planning ops c.faults c.small;
      faults = faults_grow answer d t c.makes.asked.cause c.faults c.small;
    }

cut_plan : (a b : ℕ) (p q : PartTold) → PlanGoes Off p.planning q.planning → b ≡ next_count a → PlanCuts a b p q
cut_plan a b p q (inl comes) ops = inl (comes, ops)
cut_plan a b p q (inr unplanned) ops = inr unplanned

pub parts_cut : PartsCut
parts_cut op d t c =
    let long = one_more op Off d t c.makes in
    let ops : min (length t.operations) last_count ≡ next_count (min (length d.operations) last_count) = omega (arith, long) in
    record {
      only = λ i. record { faults = t.faults; flash_faults = t.flash.faults; off = c.makes.asked.cause.2 i; planning = t.flash.planning };
      on = c.on;
      later = omega (arith, long);
      one = inr ops;
      plan = cut_plan (asked_ops d) (asked_ops t) (flash_part d) (flash_part t) c.makes.asked.planning ops;
      faults = faults_grow Off d t c.makes.asked.cause c.faults c.small;
    }

-- WITHOUT ONE
same_ops : (d t : FlashDevice) → t.operations ≡ d.operations → min (length t.operations) last_count ≡ min (length d.operations) last_count
same_ops d t same = ap (λ (l : List Change). min (length l) last_count) same

pub parts_read : PartsRead
parts_read d t r on =
    let g = grow d.flash.faults t.flash.faults d.faults t.faults r.more r.faults r.small in
    let ops = same_ops d t r.operations in
    record {
      only = λ i. record { faults = t.faults; flash_faults = t.flash.faults; off = (ap (λ (f : Told). f.off) r.flash ∙ on) i; planning = t.flash.planning };
      on = on;
      later = omega (arith, ops);
      one = inl ops;
      plan = inl (ap (λ (f : Told). f.planning) r.flash, inl ops);
      faults = record { faults = g.0; flash = r.more; tied = g.1 };
    }

pub parts_power : PartsPower
parts_power d t p =
    let g = grow d.flash.faults t.flash.faults d.faults t.faults p.more p.faults p.small in
    record {
      only = λ i. record { faults = t.faults; flash_faults = t.flash.faults; off = t.flash.off; planning = p.planning i };
      faults = record { faults = g.0; flash = p.more; tied = g.1 };
      off = λ is. absurd (let e : true ≡ false = sym is ∙ p.off in cc e);
    }
