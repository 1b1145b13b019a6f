-- A start of a job on the device of its number is one on the pair.
use Rattle.std.specs.Prelude.{◌==◌, ◌&&◌, ◌+◌, ◌*◌, is_some}
use Rattle.std.proofs.Common.{◌≡◌, ◌≤◌, ℕ, Bool, true, false, if◌then◌else◌, List, Option, Some, None, Result, Ok, Err, refl, sym, ap, ◌∙◌, subst, arith}
use Rattle.nv_base.specs.declared.mark.Mark.{Mark}
use Rattle.memif.specs.declared.answer.DeviceRefusal.{DeviceRefusal}
use Rattle.memif.specs.declared.answer.DeviceRefusal.TheVariants.{Busy, Uninit}
use Rattle.memif.specs.Told.{DeviceTold, Fixed, Figures, Slot, Part, First, Second, Stand, Open, figures_at, length_of, slot_at, is_open, most_of, op_of, IfElse}
use Rattle.memif.specs.Marks.{Keeps, Doubts, DoubtsAt, IfTold}
use Rattle.memif.specs.Clock.{Clock}
use Rattle.memif.specs.Calls.{InOrder, Wish, Opens, Accepts, IsPrompt, record_pages, refusal_of, length_refusal, urgent_first, is_first}
use Rattle.memif_pair.specs.Pair.{told_both, fixed_both, slots_both, is_second, numbers_in, stand_both}
use Rattle.memif_pair.specs.Laws.{pair_clock}
use Rattle.memif_pair.specs.Together.{AreTogether, IsOwnJob, OfPair, Looks, noted}
use Rattle.memif_pair.proofs.Numbers.{merged_first}
use Rattle.memif_pair.proofs.Clocks.{same_self}
use Rattle.memif_pair.proofs.Orders.{figures_first, most_same}
use Rattle.memif_pair.proofs.Turning.{keeps_self}
use Rattle.memif_pair.proofs.Slots.{each_two, each_stays, each_own, other_number}
use Rattle.memif_pair.proofs.Together.{figures_second, together_both, clock_stays}

true_false : true ≡ false → ⊥
true_false is = cc is

false_true : false ≡ true → ⊥
false_true is = cc is

second_first : Second ≡ First → ⊥
second_first is = cc is

-- REFUSALS
abbrev refusal_by : Option ℕ → Bool → Bool → Option ℕ → Option DeviceRefusal
refusal_by given busy started length = if busy then Some Busy else (if started then length_refusal given length else Some Uninit)

both_closed : (last : Bool) (s t : Stand) → is_open s ≡ false → is_open t ≡ false → is_open (stand_both last s t) ≡ false
both_closed true s t one two = two
both_closed false s t one two = one

none_refused : (a b : DeviceTold) (last : Bool) (course : List Bool) (number : ℕ) (given length : Option ℕ) → is_open a.stand ≡ false → is_open b.stand ≡ false → a.started ≡ true → b.started ≡ true
    → length_of (numbers_in a.fixed b.fixed) number ≡ length → refusal_of (told_both a b last course) number given ≡ length_refusal given length
none_refused a b last course number given length closed_a closed_b up_a up_b same =
    ap (λ (o : Bool). refusal_by given o (a.started && b.started) (length_of (numbers_in a.fixed b.fixed) number)) (both_closed last a.stand b.stand closed_a closed_b)
    ∙ (ap (λ (u : Bool). refusal_by given false (u && b.started) (length_of (numbers_in a.fixed b.fixed) number)) up_a
    ∙ (ap (λ (u : Bool). refusal_by given false u (length_of (numbers_in a.fixed b.fixed) number)) up_b
    ∙ ap (λ (l : Option ℕ). length_refusal given l) same))

-- one of them isn't started
pub first_down : (a b : DeviceTold) (last : Bool) (course : List Bool) (number : ℕ) (given : Option ℕ) → is_open a.stand ≡ false → is_open b.stand ≡ false → a.started ≡ false → refusal_of (told_both a b last course) number given ≡ Some Uninit
first_down a b last course number given closed_a closed_b down =
    ap (λ (o : Bool). refusal_by given o (a.started && b.started) (length_of (numbers_in a.fixed b.fixed) number)) (both_closed last a.stand b.stand closed_a closed_b)
    ∙ ap (λ (u : Bool). refusal_by given false (u && b.started) (length_of (numbers_in a.fixed b.fixed) number)) down

pub second_down : (a b : DeviceTold) (last : Bool) (course : List Bool) (number : ℕ) (given : Option ℕ) → is_open a.stand ≡ false → is_open b.stand ≡ false → a.started ≡ true → b.started ≡ false → refusal_of (told_both a b last course) number given ≡ Some Uninit
second_down a b last course number given closed_a closed_b up down =
    ap (λ (o : Bool). refusal_by given o (a.started && b.started) (length_of (numbers_in a.fixed b.fixed) number)) (both_closed last a.stand b.stand closed_a closed_b)
    ∙ (ap (λ (u : Bool). refusal_by given false (u && b.started) (length_of (numbers_in a.fixed b.fixed) number)) up
    ∙ ap (λ (u : Bool). refusal_by given false u (length_of (numbers_in a.fixed b.fixed) number)) down)

own_refusal : (d : DeviceTold) (number : ℕ) (given : Option ℕ) → is_open d.stand ≡ false → d.started ≡ true → refusal_of d number given ≡ length_refusal given (length_of d.fixed.numbers number)
own_refusal d number given closed up =
    ap (λ (o : Bool). refusal_by given o d.started (length_of d.fixed.numbers number)) closed ∙ ap (λ (u : Bool). refusal_by given false u (length_of d.fixed.numbers number)) up

module _ (a : DeviceTold) (ca : Clock) (b : DeviceTold) (cb : Clock) (last : Bool) (course : List Bool) (w : Wish) (closed_a : is_open a.stand ≡ false) (closed_b : is_open b.stand ≡ false) (up_a : a.started ≡ true) (up_b : b.started ≡ true) (t : AreTogether a b last course) where
  -- ON THE FIRST DEVICE
  module _ (of : is_second b.fixed.numbers w.job.number ≡ false) (anew : DeviceTold) (ca_new : Clock) where
    same_first : refusal_of (told_both a b last course) w.job.number w.length ≡ refusal_of a w.job.number w.length
    same_first = none_refused a b last course w.job.number w.length (length_of a.fixed.numbers w.job.number) closed_a closed_b up_a up_b (merged_first a.fixed.numbers b.fixed.numbers w.job.number of) ∙ sym (own_refusal a w.job.number w.length closed_a up_a)

    module _ (opens : Opens w.job a anew) where
      fixed_first : anew.fixed ≡ a.fixed
      fixed_first = ap (λ (d : DeviceTold). d.fixed) opens.only

      abbrev new_first : DeviceTold
      new_first = told_both anew b false course

      each_first : (P : ℕ → Slot → Slot → Type 0) → ((n : ℕ) (x : Slot) → is_second b.fixed.numbers n ≡ true → P n x x)
          → IfTold a.slots anew.slots (λ x y. (n : ℕ) → P n (slot_at a.fixed.numbers x n) (slot_at a.fixed.numbers y n))
          → IfTold (slots_both a.fixed b.fixed a.slots b.slots) new_first.slots (λ x y. (n : ℕ) → P n (slot_at (numbers_in a.fixed b.fixed) x n) (slot_at (numbers_in a.fixed b.fixed) y n))
      each_first P self each =
          subst (λ (f : Fixed). IfTold (slots_both a.fixed b.fixed a.slots b.slots) (slots_both f b.fixed anew.slots b.slots) (λ x y. (n : ℕ) → P n (slot_at (numbers_in a.fixed b.fixed) x n) (slot_at (numbers_in a.fixed b.fixed) y n))) (sym fixed_first)
          (each_two P a.fixed b.fixed a.slots anew.slots b.slots b.slots (each_own P b.fixed a.fixed false a.slots anew.slots each) (each_stays P b.fixed true b.slots self b.fixed))

      marks_first : (mark : Option Mark) → DoubtsAt w.job.number mark a anew → DoubtsAt w.job.number mark (told_both a b last course) new_first
      marks_first None each = each_first (λ n x y. Keeps x y) (λ n x second. keeps_self x) each
      marks_first (Some mark) each = each_first (λ n x y. IfElse (n == w.job.number) (Doubts mark x y) (Keeps x y))
          (λ n x second. rw (other_number b.fixed w.job.number n false true of second false_true) (keeps_self x)) each

      figures_here : figures_at (fixed_both a.fixed b.fixed) w.job.number ≡ record (figures_at a.fixed w.job.number) { part = First }
      figures_here = figures_first a.fixed b.fixed w.job.number of

      most_here : most_of (figures_at (fixed_both a.fixed b.fixed) w.job.number) (op_of w.job.mark) ≡ most_of (figures_at a.fixed w.job.number) (op_of w.job.mark)
      most_here = ap (λ (x : Figures). most_of x (op_of w.job.mark)) figures_here ∙ most_same (figures_at a.fixed w.job.number) First (op_of w.job.mark)

      pages_here : record_pages (fixed_both a.fixed b.fixed) w.job ≡ record_pages a.fixed w.job
      pages_here = ap (λ (x : Figures). if is_some w.job.mark then x.pages else 0) figures_here

      urgent_here : urgent_first (fixed_both a.fixed b.fixed) (Open w.job) ≡ urgent_first a.fixed (Open w.job)
      urgent_here = ap (λ (p : Part). w.job.urgent && is_first p) (ap (λ (x : Figures). x.part) figures_here ∙ sym (t.part w.job.number))

      pub opens_first : Opens w.job (told_both a b last course) new_first
      opens_first = record {
        only = λ i. record new_first {
          fixed = fixed_both (fixed_first i) b.fixed;
          started = (ap (λ (d : DeviceTold). d.started) opens.only) i && b.started;
          tells = (ap (λ (d : DeviceTold). d.tells) opens.only) i && b.tells;
          switching = (ap (λ (d : DeviceTold). (told_both d b false course).switching) opens.only) i;
          starts = (ap (λ (d : DeviceTold). d.starts) opens.only) i;
          first = (ap (λ (d : DeviceTold). d.first) opens.only) i;
          stand = (ap (λ (d : DeviceTold). d.stand) opens.only) i;
        };
        marks = marks_first w.job.mark opens.marks;
        left_low = (let low = opens.left_low in omega (arith, low));
        left_high = (let high = opens.left_high in let most = most_here in omega (arith, high, most));
        left_beside = λ first switching.
            subst (λ (p : ℕ). anew.left + b.left ≤ a.left + b.left + (if w.job.urgent then 2 else 1) * (p + 1)) (sym pages_here)
            (let few = opens.left_beside (t.part w.job.number) switching in omega (arith, few));
        ready =
            subst (λ (u : Bool). IfElse u (IsPrompt (figures_at (fixed_both a.fixed b.fixed) w.job.number).pages (told_both a b last course) new_first) (a.ready ≤ anew.ready)) (sym urgent_here)
            (subst (λ (x : Figures). IfElse (urgent_first a.fixed (Open w.job)) (IsPrompt x.pages (told_both a b last course) new_first) (a.ready ≤ anew.ready)) (sym figures_here) opens.ready);
      }

      together_first : AreTogether anew b false course
      together_first = together_both a anew b b last false course t fixed_first (ap (λ (d : DeviceTold). d.ops) opens.only) refl refl
          (record { first = λ on. refl; second = λ on. absurd (true_false (sym on ∙ closed_b)) })
          (subst (IsOwnJob false b) (sym (ap (λ (d : DeviceTold). d.stand) opens.only)) of) t.second_job

    pub accepted_first : (done : Unit {0}) → Accepts w (Ok done) a ca anew ca_new → InOrder b cb
        → Accepts w (Ok done) (told_both a b last course) (pair_clock ca b cb course) (told_both anew b false course) (pair_clock ca_new b cb course) × AreTogether anew b false course
    accepted_first done accepts order = (
      ((same_first ∙ accepts.0.0, opens_first accepts.0.1), clock_stays a anew ca ca_new b b cb cb false course (together_first accepts.0.1) refl accepts.1.same (same_self cb) accepts.1.order order),
      together_first accepts.0.1,
    )

    pub refused_first : (refusal : DeviceRefusal) → Accepts w (Err refusal) a ca anew ca_new → InOrder b cb
        → Accepts w (Err refusal) (told_both a b last course) (pair_clock ca b cb course) (told_both anew b last course) (pair_clock ca_new b cb course) × AreTogether anew b last course
    refused_first refusal accepts order =
        let together : AreTogether anew b last course = subst (λ (d : DeviceTold). AreTogether d b last course) (sym accepts.0.1) t in (
          ((same_first ∙ accepts.0.0, ap (λ (d : DeviceTold). told_both d b last course) accepts.0.1), clock_stays a anew ca ca_new b b cb cb last course together refl accepts.1.same (same_self cb) accepts.1.order order),
          together,
        )

  -- ON THE SECOND
  module _ (of : is_second b.fixed.numbers w.job.number ≡ true) (bnew : DeviceTold) (cb_new : Clock) where
    same_second : refusal_of (told_both a b last course) w.job.number w.length ≡ refusal_of b w.job.number w.length
    same_second = none_refused a b last course w.job.number w.length (length_of b.fixed.numbers w.job.number) closed_a closed_b up_a up_b (t.lengths w.job.number of) ∙ sym (own_refusal b w.job.number w.length closed_b up_b)

    module _ (opens : Opens w.job b bnew) where
      fixed_second : bnew.fixed ≡ b.fixed
      fixed_second = ap (λ (d : DeviceTold). d.fixed) opens.only

      abbrev new_second : DeviceTold
      new_second = told_both a bnew true course

      each_second : (P : ℕ → Slot → Slot → Type 0) → ((n : ℕ) (x : Slot) → is_second b.fixed.numbers n ≡ false → P n x x)
          → IfTold b.slots bnew.slots (λ x y. (n : ℕ) → P n (slot_at b.fixed.numbers x n) (slot_at b.fixed.numbers y n))
          → IfTold (slots_both a.fixed b.fixed a.slots b.slots) new_second.slots (λ x y. (n : ℕ) → P n (slot_at (numbers_in a.fixed b.fixed) x n) (slot_at (numbers_in a.fixed b.fixed) y n))
      each_second P self each =
          subst (λ (g : Fixed). IfTold (slots_both a.fixed b.fixed a.slots b.slots) (slots_both a.fixed g a.slots bnew.slots) (λ x y. (n : ℕ) → P n (slot_at (numbers_in a.fixed b.fixed) x n) (slot_at (numbers_in a.fixed b.fixed) y n))) (sym fixed_second)
          (each_two P a.fixed b.fixed a.slots a.slots b.slots bnew.slots (each_stays P b.fixed false a.slots self a.fixed) (each_own P b.fixed b.fixed true b.slots bnew.slots each))

      marks_second : (mark : Option Mark) → DoubtsAt w.job.number mark b bnew → DoubtsAt w.job.number mark (told_both a b last course) new_second
      marks_second None each = each_second (λ n x y. Keeps x y) (λ n x first. keeps_self x) each
      marks_second (Some mark) each = each_second (λ n x y. IfElse (n == w.job.number) (Doubts mark x y) (Keeps x y))
          (λ n x first. rw (other_number b.fixed w.job.number n true false of first true_false) (keeps_self x)) each

      figures_there : figures_at (fixed_both a.fixed b.fixed) w.job.number ≡ record (figures_at b.fixed w.job.number) { part = Second }
      figures_there = figures_second a.fixed b.fixed w.job.number of

      most_there : most_of (figures_at (fixed_both a.fixed b.fixed) w.job.number) (op_of w.job.mark) ≡ most_of (figures_at b.fixed w.job.number) (op_of w.job.mark)
      most_there = ap (λ (x : Figures). most_of x (op_of w.job.mark)) figures_there ∙ most_same (figures_at b.fixed w.job.number) Second (op_of w.job.mark)

      never_urgent : urgent_first (fixed_both a.fixed b.fixed) (Open w.job) ≡ false
      never_urgent = ap (λ (p : Part). w.job.urgent && is_first p) (ap (λ (x : Figures). x.part) figures_there) ∙ by w.job.urgent
        where
          by : (u : Bool) → (u && false) ≡ false
          by true = refl
          by false = refl

      pub opens_second : Opens w.job (told_both a b last course) new_second
      opens_second = record {
        only = λ i. record new_second {
          fixed = fixed_both a.fixed (fixed_second i);
          tells = a.tells && (ap (λ (d : DeviceTold). d.tells) opens.only) i;
          started = a.started && (ap (λ (d : DeviceTold). d.started) opens.only) i;
          switching = (ap (λ (d : DeviceTold). (told_both a d true course).switching) opens.only) i;
          second = (ap (λ (d : DeviceTold). d.first) opens.only) i;
          stand = (ap (λ (d : DeviceTold). d.stand) opens.only) i;
        };
        marks = marks_second w.job.mark opens.marks;
        left_low = (let low = opens.left_low in omega (arith, low));
        left_high = (let high = opens.left_high in let most = most_there in omega (arith, high, most));
        left_beside = λ first switching. absurd (second_first (sym (ap (λ (x : Figures). x.part) figures_there) ∙ first));
        ready = subst (λ (u : Bool). IfElse u (IsPrompt (figures_at (fixed_both a.fixed b.fixed) w.job.number).pages (told_both a b last course) new_second) (a.ready ≤ a.ready)) (sym never_urgent) (omega arith);
      }

      together_second : AreTogether a bnew true course
      together_second = together_both a a b bnew last true course t refl refl fixed_second (ap (λ (d : DeviceTold). d.ops) opens.only)
          (record { first = λ on. absurd (true_false (sym on ∙ closed_a)); second = λ on. refl })
          t.first_job (subst (IsOwnJob true b) (sym (ap (λ (d : DeviceTold). d.stand) opens.only)) of)

    pub accepted_second : (done : Unit {0}) → Accepts w (Ok done) b cb bnew cb_new → InOrder a ca
        → Accepts w (Ok done) (told_both a b last course) (pair_clock ca b cb course) (told_both a bnew true course) (pair_clock ca bnew cb_new course) × AreTogether a bnew true course
    accepted_second done accepts order = (
      ((same_second ∙ accepts.0.0, opens_second accepts.0.1), clock_stays a a ca ca b bnew cb cb_new true course (together_second accepts.0.1) (fixed_second accepts.0.1) (same_self ca) accepts.1.same order accepts.1.order),
      together_second accepts.0.1,
    )

    pub refused_second : (refusal : DeviceRefusal) → Accepts w (Err refusal) b cb bnew cb_new → InOrder a ca
        → Accepts w (Err refusal) (told_both a b last course) (pair_clock ca b cb course) (told_both a bnew last course) (pair_clock ca bnew cb_new course) × AreTogether a bnew last course
    refused_second refusal accepts order =
        let together : AreTogether a bnew last course = subst (λ (d : DeviceTold). AreTogether a d last course) (sym accepts.0.1) t in (
          ((same_second ∙ accepts.0.0, ap (λ (d : DeviceTold). told_both a d last course) accepts.0.1), clock_stays a a ca ca b bnew cb cb_new last course together (ap (λ (d : DeviceTold). d.fixed) accepts.0.1) (same_self ca) accepts.1.same order accepts.1.order),
          together,
        )

-- whatever it answers
at_first : (w : Wish) (answer : Result (Unit {0}) DeviceRefusal) (last : Bool) (a : DeviceTold) (ca : Clock) (b : DeviceTold) (cb : Clock) (anew : DeviceTold) (ca_new : Clock) → Looks w.job.number (Ok false) a b → Accepts w answer a ca anew ca_new → InOrder b cb
    → OfPair (Accepts w answer) last (noted answer last false) a ca b cb anew ca_new b cb
at_first w (Ok done) last a ca b cb anew ca_new looks accepts order course t = accepted_first a ca b cb last course w looks.0 looks.1 looks.2 looks.3 t looks.4 anew ca_new done accepts order
at_first w (Err refusal) last a ca b cb anew ca_new looks accepts order course t = refused_first a ca b cb last course w looks.0 looks.1 looks.2 looks.3 t looks.4 anew ca_new refusal accepts order

at_second : (w : Wish) (answer : Result (Unit {0}) DeviceRefusal) (last : Bool) (a : DeviceTold) (ca : Clock) (b : DeviceTold) (cb : Clock) (bnew : DeviceTold) (cb_new : Clock) → Looks w.job.number (Ok true) a b → Accepts w answer b cb bnew cb_new → InOrder a ca
    → OfPair (Accepts w answer) last (noted answer last true) a ca b cb a ca bnew cb_new
at_second w (Ok done) last a ca b cb bnew cb_new looks accepts order course t = accepted_second a ca b cb last course w looks.0 looks.1 looks.2 looks.3 t looks.4 bnew cb_new done accepts order
at_second w (Err refusal) last a ca b cb bnew cb_new looks accepts order course t = refused_second a ca b cb last course w looks.0 looks.1 looks.2 looks.3 t looks.4 bnew cb_new refusal accepts order

-- as it was noted
pub noted_first : (w : Wish) (answer taken : Result (Unit {0}) DeviceRefusal) (last last_new : Bool) (a : DeviceTold) (ca : Clock) (b : DeviceTold) (cb : Clock) (anew : DeviceTold) (ca_new : Clock) → taken ≡ answer → last_new ≡ noted answer last false
    → Looks w.job.number (Ok false) a b → Accepts w answer a ca anew ca_new → InOrder b cb → OfPair (Accepts w taken) last last_new a ca b cb anew ca_new b cb
noted_first w answer taken last last_new a ca b cb anew ca_new same note looks accepts order =
    subst (λ (r : Result (Unit {0}) DeviceRefusal). OfPair (Accepts w r) last last_new a ca b cb anew ca_new b cb) (sym same)
    (subst (λ (x : Bool). OfPair (Accepts w answer) last x a ca b cb anew ca_new b cb) (sym note) (at_first w answer last a ca b cb anew ca_new looks accepts order))

pub noted_second : (w : Wish) (answer taken : Result (Unit {0}) DeviceRefusal) (last last_new : Bool) (a : DeviceTold) (ca : Clock) (b : DeviceTold) (cb : Clock) (bnew : DeviceTold) (cb_new : Clock) → taken ≡ answer → last_new ≡ noted answer last true
    → Looks w.job.number (Ok true) a b → Accepts w answer b cb bnew cb_new → InOrder a ca → OfPair (Accepts w taken) last last_new a ca b cb a ca bnew cb_new
noted_second w answer taken last last_new a ca b cb bnew cb_new same note looks accepts order =
    subst (λ (r : Result (Unit {0}) DeviceRefusal). OfPair (Accepts w r) last last_new a ca b cb a ca bnew cb_new) (sym same)
    (subst (λ (x : Bool). OfPair (Accepts w answer) last x a ca b cb a ca bnew cb_new) (sym note) (at_second w answer last a ca b cb bnew cb_new looks accepts order))

-- neither device is asked
pub not_asked : (w : Wish) (refusal : DeviceRefusal) (last : Bool) (a : DeviceTold) (ca : Clock) (b : DeviceTold) (cb : Clock) → Looks w.job.number (Err refusal) a b → InOrder a ca → InOrder b cb → OfPair (Accepts w (Err refusal)) last last a ca b cb a ca b cb
not_asked w refusal last a ca b cb looks first second course t =
    (((looks last course w.length t.one, refl), clock_stays a a ca ca b b cb cb last course t refl (same_self ca) (same_self cb) first second), t)
