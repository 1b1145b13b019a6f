-- steps of a flash over another one
use Rattle.std.proofs.Common.{◌≡◌, ◌≤◌, ℕ, zero, suc, ◌+◌, Bool, true, false, List, [], ◌∷◌, ◌++◌, length, Some, None, inl, inr, refl, ap, ◌∙◌, subst, arith}
use Rattle.std.specs.Prelude.{Option, IfSome, IsSome, option_map}
use Rattle.std.proofs.lemmas.Bool.{cases_lt}
use Rattle.std.proofs.lemmas.List.{length_push}
use Rattle.nv_base.specs.Count.{Rose, last_count, next_count}
use Rattle.fls_model.specs.declared.flash.FlashAnswer.{FlashAnswer}
use Rattle.fls_model.specs.declared.flash.FlashAnswer.TheVariants.{Done, Failed, Off}
use Rattle.nv_base.specs.Plan.{Planning}
use Rattle.fls_model.specs.Told.{Told, ToldBytes, Change, TellsFor, IfBothTold, changes_in}
use Rattle.fls_model.specs.Op.{Op, MayLeave, part_of}
use Rattle.nv_base.specs.declared.geometry.Geometry.{Geometry}
use Rattle.fls_model.specs.Call.{op_of}
use Rattle.fls_model.specs.Step.{IsStep, IsAsked, IsChanged, OffOrAsked, Notes, HasCause, Leaves, CountsUnplanned}
use Rattle.fls_devices.specs.declared.part.Harm.{Harm}
use Rattle.fls_devices.specs.declared.part.Harm.TheVariants.{Cut, Fault}
use Rattle.fls_devices.specs.Journal.{Harmed, Journaled, has_reached, change_of, merged, all_changes, bytes_over, Passes, Adds}
use Rattle.fls_devices.specs.Part.{harmed, cuts_after, faults_after, off_of}
use Rattle.fls_devices.specs.Overlay.{Overlaid, IsOverlaid, IsAskedOver, CountsInner, FitsChanges, ops_over, told_over, span, reached_count}
use Rattle.fls_devices.proofs.HaveParts.{parts_withheld, told_parts_reached, told_parts_pass}
use Rattle.fls_devices.proofs.Merging.{merged_pass, merged_withheld, merged_reached}
use Rattle.fls_devices.proofs.Parts.{part_within, may_stay}

-- THE LIST OF CHANGES
notes_none : (change : Change) (c : Option (List Change)) → Notes change c None
notes_none change None = tt
notes_none change (Some cs) = tt

told_pass : (g : Geometry) (change : Change) (es : List Harmed) (k : ℕ) (now later : List ℕ) (c c' : Option (List Change)) → change.before ≡ now → Notes change c c' → IfSome c (λ cs. length cs ≡ span es + k)
    → Notes change (option_map (λ cs. merged g es cs now) c) (option_map (λ cs. merged g es cs later) c')
told_pass g change es k now later c None is notes fits = notes_none change (option_map (λ cs. merged g es cs now) c)
told_pass g change es k now later None (Some cs') is notes fits = absurd notes
told_pass g change es k now later (Some cs) (Some cs') is notes fits = ap (λ (l : List Change). merged g es l later) notes ∙ merged_pass g es cs change now later k fits is

told_withheld : (g : Geometry) (es : List Harmed) (e : Harmed) (now : List ℕ) (c : Option (List Change)) → e.keep ≡ 0 → IfSome c (λ cs. length cs ≡ span es + e.since)
    → Notes (change_of g e now) (option_map (λ cs. merged g es cs now) c) (option_map (λ cs. merged g (es ++ e ∷ []) cs now) c)
told_withheld g es e now None not fits = tt
told_withheld g es e now (Some cs) not fits = merged_withheld g es cs e now fits not

told_reached : (g : Geometry) (part : Change) (es : List Harmed) (e : Harmed) (now later : List ℕ) (c c' : Option (List Change)) → has_reached e.keep ≡ true → part.before ≡ now → Notes part c c' → IfSome c (λ cs. length cs ≡ span es + e.since)
    → Notes (change_of g e now) (option_map (λ cs. merged g es cs now) c) (option_map (λ cs. merged g (es ++ e ∷ []) cs later) c')
told_reached g part es e now later c None true_is is notes fits = notes_none (change_of g e now) (option_map (λ cs. merged g es cs now) c)
told_reached g part es e now later None (Some cs') true_is is notes fits = absurd notes
told_reached g part es e now later (Some cs) (Some cs') true_is is notes fits = ap (λ (l : List Change). merged g (es ++ e ∷ []) l later) notes ∙ merged_reached g es cs e part now later fits true_is is

-- THE BYTES WITH THE LIST
-- what an event's operation is told as
told_as : (g : Geometry) (op : Op) (a : FlashAnswer) (e : Harmed) (now : List ℕ) → op_of g e.call ≡ op → e.answer ≡ a → change_of g e now ≡ record { op = op; before = now; answer = a }
told_as g op a e now is answered = λ i. record { op = is i; before = now; answer = answered i }

leaves_harmed : (h : Harm) (a : FlashAnswer) (op : Op) (old new : List ℕ) → MayLeave op old new → Leaves op (harmed h a) old new
leaves_harmed Cut a op old new may = may
leaves_harmed Fault Done op old new may = may
leaves_harmed Fault Failed op old new may = may
leaves_harmed Fault Off op old new may = may

-- it is told where the inner flash's list is
some_over : (f : List Change → List Change) (c : Option (List Change)) → IsSome c → IsSome (option_map f c)
some_over f (Some c) is = refl
some_over f None is = is

some_within : (f : List Change → List Change) (c : Option (List Change)) → IsSome (option_map f c) → IsSome c
some_within f (Some c) is = refl
some_within f None is = is

-- with the same room
tells_over : (g : Geometry) (es es' : List Harmed) (x y : ToldBytes) (n : ℕ) → ((k : ℕ) → TellsFor (k + 1) x → TellsFor k y)
    → TellsFor (n + 1) (record { now = x.now; changes = all_changes g es x; room = x.room }) → TellsFor n (record { now = y.now; changes = all_changes g es' y; room = y.room })
tells_over g es es' x y n more tells =
    let inner = more n (some_within (λ cs. merged g es cs x.now) x.changes tells.0, tells.1) in
    (some_over (λ cs. merged g es' cs y.now) y.changes inner.0, inner.1)

over_pass : (g : Geometry) (op : Op) (a : FlashAnswer) (j j' : Journaled) (b b' : Option ToldBytes) → Passes j j' → IfBothTold b b' (IsChanged op a) → FitsChanges j (changes_in b) → IfBothTold (bytes_over j g b) (bytes_over j' g b') (IsChanged op a)
over_pass g op a j j' None None passes changed fits = tt
over_pass g op a j j' None (Some y) passes changed fits = absurd changed
over_pass g op a j j' (Some x) None passes changed fits = absurd changed
over_pass g op a j j' (Some x) (Some y) passes changed fits =
    let change : Change = record { op = op; before = x.now; answer = a } in
    let notes : Notes change (all_changes g j.events x) (all_changes g j'.events y) =
    rw passes.events (told_pass g change j.events j.since x.now y.now x.changes y.changes refl changed.changes fits) in
    record { bytes = changed.bytes; within = changed.within; changes = notes; room = λ n. tells_over g j.events j'.events x y n changed.room }

over_withheld : (g : Geometry) (op : Op) (h : Harm) (j j' : Journaled) (e : Harmed) (b : Option ToldBytes) → Adds e j j' → op_of g e.call ≡ op → e.answer ≡ harmed h Done → e.since ≡ j.since → e.keep ≡ 0 → FitsChanges j (changes_in b)
    → IfBothTold (bytes_over j g b) (bytes_over j' g b) (IsChanged op (harmed h Done))
over_withheld g op h j j' e None adds is answered since not fits = tt
over_withheld g op h j j' e (Some x) adds is answered since not fits =
    let change : Change = record { op = op; before = x.now; answer = harmed h Done } in
    let notes : Notes change (all_changes g j.events x) (all_changes g j'.events x) =
    rw adds.events (rw (← told_as g op (harmed h Done) e x.now is answered) (told_withheld g j.events e x.now x.changes not (rw since fits))) in
    record { bytes = leaves_harmed h Done op x.now x.now (may_stay op x.now); within = may_stay op x.now; changes = notes; room = λ n. tells_over g j.events j'.events x x n (λ k tells. (tells.0, omega (arith, tells.1))) }

over_reached : (g : Geometry) (op : Op) (h : Harm) (keep : ℕ) (a : FlashAnswer) (j j' : Journaled) (e : Harmed) (b b' : Option ToldBytes) → Adds e j j' → op_of g e.call ≡ op → e.answer ≡ harmed h a → e.since ≡ j.since → has_reached e.keep ≡ true
    → IfBothTold b b' (IsChanged (part_of keep op) a) → FitsChanges j (changes_in b) → IfBothTold (bytes_over j g b) (bytes_over j' g b') (IsChanged op (harmed h a))
over_reached g op h keep a j j' e None None adds is answered since true_is changed fits = tt
over_reached g op h keep a j j' e None (Some y) adds is answered since true_is changed fits = absurd changed
over_reached g op h keep a j j' e (Some x) None adds is answered since true_is changed fits = absurd changed
over_reached g op h keep a j j' e (Some x) (Some y) adds is answered since true_is changed fits =
    let change : Change = record { op = op; before = x.now; answer = harmed h a } in
    let part : Change = record { op = part_of keep op; before = x.now; answer = a } in
    let within = part_within keep op x.now y.now changed.within in
    let notes : Notes change (all_changes g j.events x) (all_changes g j'.events y) =
    rw adds.events (rw (← told_as g op (harmed h a) e x.now is answered) (told_reached g part j.events e x.now y.now x.changes y.changes true_is refl changed.changes (rw since fits))) in
    record { bytes = leaves_harmed h a op x.now y.now within; within = within; changes = notes; room = λ n. tells_over g j.events j'.events x y n changed.room }

-- THE COUNTS
pub record HasCounts (o : Overlaid) : Type 0 where
  pub cuts : o.cuts ≤ last_count
  pub faults : o.faults ≤ last_count

rose_beside : (a b k : ℕ) → Rose a b → Rose (a + k) (b + k)
rose_beside a b k (inl lt) = inl (omega arith)
rose_beside a b k (inr both) = inr (omega arith, omega arith)

pub rose_own : (a b k : ℕ) → k ≤ last_count → a ≤ b → Rose (a + k) (b + next_count k)
rose_own a b k within le = elim (cases_lt k last_count) [ inl lt ↦ inl (omega arith) | inr ge ↦ inr (omega arith, omega arith) ]

rose_le : (a b : ℕ) → Rose a b → a ≤ b
rose_le a b (inl lt) = omega arith
rose_le a b (inr both) = omega arith

no_fall : (a : FlashAnswer) (s t : Told) → HasCause a s t → (s.faults ≤ t.faults) × (s.cuts ≤ t.cuts)
no_fall Done s t cause = (omega arith, omega arith)
no_fall Failed s t cause = (rose_le _ _ cause.0, omega arith)
no_fall Off s t cause = (cause.0, rose_le _ _ cause.1)

cause_pass : (a : FlashAnswer) (o n : Overlaid) (p q : Planning) → n.faults ≡ o.faults → n.cuts ≡ o.cuts → n.off ≡ off_of a → HasCause a o.inner n.inner → HasCause a (told_over p o) (told_over q n)
cause_pass Done o n p q f c off cause = (omega arith, omega arith, off)
cause_pass Failed o n p q f c off cause = (rw f (rose_beside _ _ o.faults cause.0), omega arith, off)
cause_pass Off o n p q f c off cause = (omega arith, rw c (rose_beside _ _ o.cuts cause.1), off)

cause_harmed : (h : Harm) (a : FlashAnswer) (o n : Overlaid) (p q : Planning) → HasCounts o → n.faults ≡ faults_after h o.faults → n.cuts ≡ cuts_after h o.cuts → n.off ≡ off_of (harmed h a) → HasCause a o.inner n.inner → HasCause (harmed h a) (told_over p o) (told_over q n)
cause_harmed Cut a o n p q counts f c off cause = (omega (arith, no_fall a o.inner n.inner cause), rw c (rose_own _ _ o.cuts counts.cuts (no_fall a o.inner n.inner cause).1), off)
cause_harmed Fault Done o n p q counts f c off cause = (rw f (rose_own _ _ o.faults counts.faults (omega arith)), omega arith, off)
cause_harmed Fault Failed o n p q counts f c off cause = (rw f (rose_own _ _ o.faults counts.faults (no_fall Failed o.inner n.inner cause).0), omega arith, off)
cause_harmed Fault Off o n p q counts f c off cause = (omega arith, rw c (rose_beside _ _ o.cuts cause.1), off)

-- a cut without a plan is one of all cuts too, as those of its own never fall
counted_over : (o n : Overlaid) (p q : Planning) → o.cuts ≤ n.cuts → CountsInner p o q n → CountsUnplanned (told_over p o) (told_over q n)
counted_over o n p q own (inl more) = inl (omega (arith, own, more))
counted_over o n p q own (inr big) = inr (omega (arith, big))

own_cuts : (h : Harm) (n : ℕ) → n ≤ last_count → n ≤ cuts_after h n
own_cuts Cut n small = omega (arith, small)
own_cuts Fault n small = omega arith

-- an operation that was handed on, and one that was kept back
ops_pass : (w a b : ℕ) → b ≡ next_count a → ops_over b w ≡ next_count (ops_over a w)
ops_pass zero a b is = is
ops_pass (suc w) a b is = omega (arith, is)

ops_withheld : (w v a : ℕ) → v ≡ next_count w → ops_over a v ≡ next_count (ops_over a w)
ops_withheld zero zero a is = absurd (omega (arith, is))
ops_withheld zero (suc v) a is = omega (arith, is)
ops_withheld (suc w) zero a is = absurd (omega (arith, is))
ops_withheld (suc w) (suc v) a is = omega (arith, is)

-- THE STEPS
pub on_step : (op : Op) (s : Told) (a : FlashAnswer) (t : Told) → s.off ≡ false → IsStep op s a t → IsAsked op s a t
on_step op s a t on step = subst (λ (off : Bool). OffOrAsked off op s a t) on step

-- an operation that was handed on
asked_pass : (op : Op) (o : Overlaid) (a : FlashAnswer) (i : Told) (j : Journaled) → IsOverlaid o → IsAsked op o.inner a i → Passes o.journal j → IsAskedOver op o a (record o { inner = i; off = off_of a; journal = j })
asked_pass op o a i j kept asked passes = λ p q goes counts. record {
  geometry = asked.geometry;
  ops = ops_pass o.withheld o.inner.ops i.ops asked.ops;
  bytes = rw asked.geometry (over_pass o.inner.geometry op a o.journal j o.inner.bytes i.bytes passes asked.bytes kept.fits);
  cause = cause_pass a o (record o { inner = i; off = off_of a; journal = j }) p q refl refl refl asked.cause;
  planning = goes;
  counted = counted_over o (record o { inner = i; off = off_of a; journal = j }) p q (omega arith) counts;
}

-- one of which nothing reached the inner flash
pub asked_withheld : (h : Harm) (op : Op) (o : Overlaid) (e : Harmed) (j : Journaled) → IsOverlaid o → HasCounts o → o.off ≡ false → op_of o.inner.geometry e.call ≡ op → e.answer ≡ harmed h Done → e.since ≡ o.journal.since → e.keep ≡ 0 → Adds e o.journal j
    → IsAskedOver op o (harmed h Done) (record { inner = o.inner; off = off_of (harmed h Done); cuts = cuts_after h o.cuts; faults = faults_after h o.faults; withheld = next_count o.withheld; journal = j })
asked_withheld h op o e j kept counts on is answered since not adds =
    let n : Overlaid = record { inner = o.inner; off = off_of (harmed h Done); cuts = cuts_after h o.cuts; faults = faults_after h o.faults; withheld = next_count o.withheld; journal = j } in
    λ p q goes sums. record {
      geometry = refl;
      ops = ops_withheld o.withheld (next_count o.withheld) o.inner.ops refl;
      bytes = over_withheld o.inner.geometry op h o.journal j e o.inner.bytes adds is answered since not kept.fits;
      cause = cause_harmed h Done o n p q counts refl refl refl (refl, refl, kept.power on);
      planning = goes;
      counted = counted_over o n p q (own_cuts h o.cuts counts.cuts) sums;
    }

-- one of which a part reached it
pub asked_reached : (h : Harm) (keep : ℕ) (op : Op) (a : FlashAnswer) (o : Overlaid) (i : Told) (e : Harmed) (j : Journaled) → IsOverlaid o → HasCounts o → IsAsked (part_of keep op) o.inner a i → op_of o.inner.geometry e.call ≡ op → e.answer ≡ harmed h a → e.since ≡ o.journal.since → has_reached e.keep ≡ true → Adds e o.journal j
    → IsAskedOver op o (harmed h a) (record { inner = i; off = off_of (harmed h a); cuts = cuts_after h o.cuts; faults = faults_after h o.faults; withheld = o.withheld; journal = j })
asked_reached h keep op a o i e j kept counts asked is answered since true_is adds =
    let n : Overlaid = record { inner = i; off = off_of (harmed h a); cuts = cuts_after h o.cuts; faults = faults_after h o.faults; withheld = o.withheld; journal = j } in
    λ p q goes sums. record {
      geometry = asked.geometry;
      ops = ops_pass o.withheld o.inner.ops i.ops asked.ops;
      bytes = rw asked.geometry (over_reached o.inner.geometry op h keep a o.journal j e o.inner.bytes i.bytes adds is answered since true_is asked.bytes kept.fits);
      cause = cause_harmed h a o n p q counts refl refl refl asked.cause;
      planning = goes;
      counted = counted_over o n p q (own_cuts h o.cuts counts.cuts) sums;
    }

-- WHAT STAYS TRUE
pub some_reached : (keep : ℕ) → (keep ≡ 0 → ⊥) → has_reached keep ≡ true
some_reached zero none = absurd (none refl)
some_reached (suc keep) some = refl

span_push : (es : List Harmed) (e : Harmed) → span (es ++ e ∷ []) ≡ span es + (e.since + reached_count (has_reached e.keep))
span_push [] e = omega arith
span_push (x ∷ es) e = omega (arith, span_push es e)

fits_withheld : (j j' : Journaled) (e : Harmed) (c : Option (List Change)) → Adds e j j' → e.since ≡ j.since → e.keep ≡ 0 → FitsChanges j c → FitsChanges j' c
fits_withheld j j' e None adds since not fits = tt
fits_withheld j j' e (Some cs) adds since not fits = omega (arith, ap span adds.events, span_push j.events e, adds.since, ap (λ (n : ℕ). reached_count (has_reached n)) not)

fits_more : (change : Change) (c c' : Option (List Change)) (n m : ℕ) → m ≡ n + 1 → Notes change c c' → IfSome c (λ cs. length cs ≡ n) → IfSome c' (λ cs. length cs ≡ m)
fits_more change c None n m more notes fits = tt
fits_more change None (Some cs') n m more notes fits = absurd notes
fits_more change (Some cs) (Some cs') n m more notes fits = omega (arith, ap length notes, length_push cs change)

fits_reached : (op : Op) (a : FlashAnswer) (j j' : Journaled) (e : Harmed) (b b' : Option ToldBytes) → Adds e j j' → e.since ≡ j.since → has_reached e.keep ≡ true → IfBothTold b b' (IsChanged op a) → FitsChanges j (changes_in b) → FitsChanges j' (changes_in b')
fits_reached op a j j' e b None adds since true_is changed fits = tt
fits_reached op a j j' e None (Some y) adds since true_is changed fits = absurd changed
fits_reached op a j j' e (Some x) (Some y) adds since true_is changed fits =
    fits_more (record { op = op; before = x.now; answer = a }) x.changes y.changes (span j.events + j.since) (span j'.events + j'.since)
    (omega (arith, ap span adds.events, span_push j.events e, adds.since, ap reached_count true_is)) changed.changes fits

power_harmed : (h : Harm) (a : FlashAnswer) (s t : Told) → HasCause a s t → off_of (harmed h a) ≡ false → t.off ≡ false
power_harmed Cut a s t cause on = cc
power_harmed Fault Done s t cause on = cause.2
power_harmed Fault Failed s t cause on = cause.2
power_harmed Fault Off s t cause on = cc

power_passed : (a : FlashAnswer) (s t : Told) → HasCause a s t → off_of a ≡ false → t.off ≡ false
power_passed Done s t cause on = cause.2
power_passed Failed s t cause on = cause.2
power_passed Off s t cause on = cc

fits_passed : (op : Op) (a : FlashAnswer) (j j' : Journaled) (b b' : Option ToldBytes) → Passes j j' → IfBothTold b b' (IsChanged op a) → FitsChanges j (changes_in b) → FitsChanges j' (changes_in b')
fits_passed op a j j' b None passes changed fits = tt
fits_passed op a j j' None (Some y) passes changed fits = absurd changed
fits_passed op a j j' (Some x) (Some y) passes changed fits =
    fits_more (record { op = op; before = x.now; answer = a }) x.changes y.changes (span j.events + j.since) (span j'.events + j'.since)
    (omega (arith, ap span passes.events, passes.since)) changed.changes fits

pub kept_withheld : (h : Harm) (o : Overlaid) (e : Harmed) (j : Journaled) → IsOverlaid o → o.off ≡ false → e.since ≡ o.journal.since → e.keep ≡ 0 → Adds e o.journal j
    → IsOverlaid (record { inner = o.inner; off = off_of (harmed h Done); cuts = cuts_after h o.cuts; faults = faults_after h o.faults; withheld = next_count o.withheld; journal = j })
kept_withheld h o e j kept on since not adds = record {
  power = λ _. kept.power on;
  fits = fits_withheld o.journal j e (changes_in o.inner.bytes) adds since not kept.fits;
  parts = rw adds.events (parts_withheld o.inner.geometry o.journal.events e (changes_in o.inner.bytes) not kept.parts);
}

pub kept_reached : (h : Harm) (keep : ℕ) (op : Op) (a : FlashAnswer) (o : Overlaid) (i : Told) (e : Harmed) (j : Journaled) → IsOverlaid o → IsAsked (part_of keep op) o.inner a i → op_of o.inner.geometry e.call ≡ op → e.since ≡ o.journal.since → e.keep ≡ keep → has_reached e.keep ≡ true → Adds e o.journal j
    → IsOverlaid (record { inner = i; off = off_of (harmed h a); cuts = cuts_after h o.cuts; faults = faults_after h o.faults; withheld = o.withheld; journal = j })
kept_reached h keep op a o i e j kept asked is since same true_is adds = record {
  power = power_harmed h a o.inner i asked.cause;
  fits = fits_reached (part_of keep op) a o.journal j e o.inner.bytes i.bytes adds since true_is asked.bytes kept.fits;
  parts = rw (asked.geometry, adds.events)
      (told_parts_reached o.inner.geometry keep op a o.journal.events e o.inner.bytes i.bytes is same asked.bytes (rw since kept.fits) kept.parts);
}

-- by an operation that was handed on
kept_pass : (op : Op) (a : FlashAnswer) (o : Overlaid) (i : Told) (j : Journaled) → IsOverlaid o → IsAsked op o.inner a i → Passes o.journal j → IsOverlaid (record o { inner = i; off = off_of a; journal = j })
kept_pass op a o i j kept asked passes = record {
  power = power_passed a o.inner i asked.cause;
  fits = fits_passed op a o.journal j o.inner.bytes i.bytes passes asked.bytes kept.fits;
  parts = rw (asked.geometry, passes.events)
      (told_parts_pass o.inner.geometry op a o.journal.events o.journal.since o.inner.bytes i.bytes asked.bytes kept.fits kept.parts);
}

-- so of an operation that was asked for while no cut stood
pub passed : (op : Op) (o : Overlaid) (a : FlashAnswer) (i : Told) (j : Journaled) → IsOverlaid o → o.off ≡ false → IsStep op o.inner a i → Passes o.journal j
    → let n : Overlaid = record o { inner = i; off = off_of a; journal = j } in IsAskedOver op o a n × IsOverlaid n
passed op o a i j kept on step passes =
    let asked = on_step op o.inner a i (kept.power on) step in
    (asked_pass op o a i j kept asked passes, kept_pass op a o i j kept asked passes)
