-- A job is taken.
use Rattle.std.specs.Prelude.{IfSome, ◌==◌, if◌then◌else◌}
use Rattle.std.proofs.Common.{◌≡◌, inl, inr, ◌≤◌, ◌+◌, ℕ, Bool, true, false, List, [], ◌∷◌, take, Option, Some, None, refl, sym, ap, ◌∙◌, subst, arith}
use Rattle.std.proofs.lemmas.Bool.{cases_Bool, cases_eq, false≢true}
use Rattle.std.proofs.lemmas.List.Elements.{Contains-append_left, Contains-append_cases}
use Rattle.nv_base.specs.Held.{held_next}
use Rattle.nv_base.specs.declared.instance.DeviceNumber.{DeviceNumber}
use Rattle.nv_base.specs.declared.mark.Mark.{Mark}
use Rattle.memif.specs.Told.{Slot, no_slot, slot_at, Open, Job, Figures, figures_at, most_of, op_of, IfElse}
use Rattle.memif.specs.Marks.{Keeps, KeepsAll, Doubts, DoubtsAt}
use Rattle.memif.specs.Calls.{Opens, ClockStays, IsPrompt, urgent_first}
use Rattle.fls_model.specs.Told.{Told, bytes_now}
use Rattle.fls_told.specs.Device.{FlashDevice, slot_with}
use Rattle.fls_told.specs.Clock.{MakesNone}
use Rattle.fls_told.specs.Runs.{HasRun}
use Rattle.fls_told.specs.Tells.{IsSame, OneDoubts}
use Rattle.fls_told.proofs.Clocks.{clocks_stay}
use Rattle.fls_told.proofs.Making.{runs_stay}
use Rattle.fls_told.proofs.Tells.{tells_keep, tells_doubt}
use Rattle.fee_format.specs.Pages.{body_pages_of}
use Rattle.fee_format.proofs.Tests.{eq_is}
use Rattle.ea_image.specs.declared.memory.SlotMemory.{SlotMemory}
use Rattle.ea_image.specs.Memory.{settled_of}
use Rattle.ea_image.specs.Slots.{slot_bytes}
use Rattle.ea_told.specs.declared.job.EaJob.{EaJob}
use Rattle.ea_told.specs.Making.{Making, entry_of, at_entry}
use Rattle.ea_told.specs.Parts.{Parts}
use Rattle.ea_told.specs.Calls.{opened}
use Rattle.ea_told.specs.Device.{fixed_for, state_at, can_write, mark_of, stand_of, left_of, left_by, job_leaves, slot_told, doubts_as, slots_in, flash_device, told_of, clock_of}
use Rattle.ea_told.specs.Inside.{IsJob, HasComeTo, IsSound}
use Rattle.ea_told.specs.Laws.{MayOpen, PartsOpen}
use Rattle.ea_told.proofs.Lists.{at_listed, entry_is}
use Rattle.ea_told.proofs.Order.{order, figures_of, job_few}
use Rattle.ea_told.proofs.Slot.{keeps_same, same_marks, has_first, has_one}
use Rattle.ea_told.proofs.Stepping.{job_here, job_elsewhere}

doubts_one : (w : SlotMemory) (slots : _ → _) (mark : Mark) → Doubts mark (slot_told w slots []) (slot_told w slots (mark ∷ []))
doubts_one w slots mark = record {
  settled = refl;
  doubts = λ h c. elim (Contains-append_cases (held_next mark (settled_of w slots) ∷ []) (doubts_as w.doubt (slots w.target)) h c) [
    | inl a ↦ inr (has_one (held_next mark (settled_of w slots)) h a)
    | inr b ↦ inl b
  ];
  taken = Contains-append_left (held_next mark (settled_of w slots) ∷ []) (doubts_as w.doubt (slots w.target)) (held_next mark (settled_of w slots)) (has_first (held_next mark (settled_of w slots)) []);
}

module _ (m : Making) (entry : Told) (s : Parts) (j : EaJob) (content : List ℕ) (may : MayOpen m entry s j content) where
  abbrev t : Parts
  t = opened j content s

  abbrev d : FlashDevice
  d = flash_device m entry s

  abbrev e : FlashDevice
  e = flash_device m entry t

  abbrev told : Job
  told = record { number = j.number.0; mark = mark_of j.op (take j.length content); urgent = j.urgent }

  none : MakesNone d e
  none = record { reading = refl; entry = refl; operations = refl; bytes = refl }

  run : HasRun e
  run = runs_stay d e may.sound.run (record { none = none; bytes = refl; counts = (refl, refl); came = (refl, refl); flash_faults = omega arith; faults = may.sound.run.faults; cuts = may.sound.run.cuts; worn = λ n since x. inl x })

  abbrev is_job : IsJob m t j
  is_job = record {
    size = may.size;
    entry = may.entry_is;
    fits = may.fits;
    step = subst (λ x. Rattle.ea_image.specs.Steps.IsStepOf (body_pages_of j.length m.geometry.page) x) (sym may.step) tt;
    begun = λ behind. absurd (behind may.step);
  }

  come : (b : List ℕ) → HasComeTo m t j b
  come b = record {
    come = subst (λ x. Rattle.ea_image.specs.Steps.HasCome m.geometry.page (body_pages_of j.length m.geometry.page) (Rattle.ea_told.specs.Device.head_of j (state_at s.states j.place)) (take j.length content) x (slot_bytes m.geometry b j.place (state_at s.states j.place).memory.target)) (sym may.step) tt;
    doubt = λ behind. absurd (behind may.step);
  }

  any_bytes : (o : Option (List ℕ)) (P : List ℕ → Type 0) → ((b : List ℕ) → P b) → IfSome o P
  any_bytes None P each = tt
  any_bytes (Some b) P each = each b

  open_sound : IsSound m entry t
  open_sound =
      let was = may.sound.made_for in
      record {
        made_for = record { slots = was.slots; geometry = was.geometry; driver = was.driver; numbers = was.numbers; idle = was.idle; bytes = was.bytes; states = was.states; room = may.room ∙ was.room; small = may.small; given = omega arith; ended = was.ended };
        run = run;
        rests = λ unstarted. (let up = may.started in cc (up, unstarted));
        held = may.sound.held;
        stands = may.sound.stands;
        job = is_job;
        work = λ on. any_bytes (bytes_now s.fls.flash) (HasComeTo m t j) come;
        cuts = may.sound.cuts;
        worn = may.sound.worn;
        faults = may.sound.faults;
        ops = may.sound.ops;
        off = may.sound.off;
      }

  open_stays : ClockStays (clock_of m entry s) (told_of m entry t) (clock_of m entry t)
  open_stays = record { same = clocks_stay d e none (λ n. refl); order = order m entry t open_sound }

  -- WHAT IS TOLD
  abbrev before : List ℕ → ℕ → DeviceNumber × ℕ → Slot
  before b i x = slot_told (state_at s.states i).memory (slot_bytes m.geometry b i) (job_leaves (stand_of s.content s.job s.last s.given) x.0.0)

  abbrev behind : List ℕ → ℕ → DeviceNumber × ℕ → Slot
  behind b i x = slot_told (state_at s.states i).memory (slot_bytes m.geometry b i) (job_leaves (Open told) x.0.0)

  before_is : (b : List ℕ) (k : ℕ) → slot_with d b k ≡ at_entry no_slot (before b) (entry_of m k)
  before_is b k = ap (λ (x : Bool). slot_at m.numbers (slots_in m x s.states (stand_of s.content s.job s.last s.given) b) k) may.started ∙ at_listed no_slot (before b) 0 m.numbers k

  behind_is : (b : List ℕ) (k : ℕ) → slot_with e b k ≡ at_entry no_slot (behind b) (entry_of m k)
  behind_is b k = ap (λ (x : Bool). slot_at m.numbers (slots_in m x s.states (Open told) b) k) may.started ∙ at_listed no_slot (behind b) 0 m.numbers k

  none_left : (k : ℕ) → job_leaves (stand_of s.content s.job s.last s.given) k ≡ []
  none_left k = ap (λ (o : Option EaJob). job_leaves (stand_of s.content o s.last s.given) k) may.shut

  same : IsSame d e
  same = record { reading = refl; numbers = refl; entry = refl; later = omega arith; old = may.sound.run.alike; new = run.alike }

  same_now : (a b : List ℕ) → bytes_now s.fls.flash ≡ Some a → bytes_now s.fls.flash ≡ Some b → b ≡ a
  same_now a b x y = cc (x, y)

  doubts_at : (mark : Mark) → mark_of j.op (take j.length content) ≡ Some mark → (b : List ℕ) (k : ℕ) (o : Option (ℕ × (DeviceNumber × ℕ))) → entry_of m k ≡ o → OneDoubts j.number.0 mark k (at_entry no_slot (before b) o) (at_entry no_slot (behind b) o)
  doubts_at mark is b k None at =
      let other : k ≡ j.number.0 → ⊥ = λ x. (let mine = may.entry_is in let z = ap (entry_of m) x ∙ mine in cc (at, z)) in
      let no : (k == j.number.0) ≡ false = elim (cases_Bool (k == j.number.0)) [ inl t' ↦ absurd (other ((eq_is k j.number.0).0 t')) | inr f ↦ f ] in
      subst (λ (x : Bool). IfElse x (Doubts mark no_slot no_slot) (Keeps no_slot no_slot)) (sym no) (record { settled = refl; doubts = λ h c. c })
  doubts_at mark is b k (Some x) at =
      let number = (entry_is 0 m.numbers k x.0 x.1 at).number in
      let slots = slot_bytes m.geometry b x.0 in
      let w = (state_at s.states x.0).memory in
      elim (cases_eq k j.number.0) [
        | inl same' ↦
            let yes : (k == j.number.0) ≡ true = (eq_is k j.number.0).1 same' in
            let left : job_leaves (Open told) x.1.0.0 ≡ mark ∷ [] = job_here j.number.0 x.1.0.0 (mark_of j.op (take j.length content)) mark (sym (number ∙ same')) is in
            subst (λ (y : Bool). IfElse y (Doubts mark (before b x.0 x.1) (behind b x.0 x.1)) (Keeps (before b x.0 x.1) (behind b x.0 x.1))) (sym yes)
            (subst (λ (l : List Mark). Doubts mark (slot_told w slots l) (behind b x.0 x.1)) (sym (none_left x.1.0.0)) (subst (λ (l : List Mark). Doubts mark (slot_told w slots []) (slot_told w slots l)) (sym left) (doubts_one w slots mark)))
        | inr other ↦
            let no : (k == j.number.0) ≡ false = elim (cases_Bool (k == j.number.0)) [ inl t' ↦ absurd (other ((eq_is k j.number.0).0 t')) | inr f ↦ f ] in
            let left : job_leaves (Open told) x.1.0.0 ≡ [] = job_elsewhere j.number.0 x.1.0.0 (mark_of j.op (take j.length content)) (λ z. other (sym number ∙ sym z)) in
            subst (λ (y : Bool). IfElse y (Doubts mark (before b x.0 x.1) (behind b x.0 x.1)) (Keeps (before b x.0 x.1) (behind b x.0 x.1))) (sym no)
            (subst (λ (l : List Mark). Keeps (slot_told w slots l) (behind b x.0 x.1)) (sym (none_left x.1.0.0)) (subst (λ (l : List Mark). Keeps (slot_told w slots []) (slot_told w slots l)) (sym left) (keeps_same w slots slots [] [] (λ y. refl) (same_marks []))))
      ]

  doubts : (mark : Mark) → mark_of j.op (take j.length content) ≡ Some mark → DoubtsAt j.number.0 (Some mark) (told_of m entry s) (told_of m entry t)
  doubts mark is = tells_doubt d e j.number.0 mark same (λ old new are k.
      subst (λ (b : List ℕ). OneDoubts j.number.0 mark k (slot_with d old k) (slot_with e b k)) (sym (same_now old new are.1 are.2))
      (subst (λ (x : Slot). OneDoubts j.number.0 mark k x (slot_with e old k)) (sym (before_is old k)) (subst (λ (x : Slot). OneDoubts j.number.0 mark k (at_entry no_slot (before old) (entry_of m k)) x) (sym (behind_is old k)) (doubts_at mark is old k (entry_of m k) refl))))

  kept_at : mark_of j.op (take j.length content) ≡ None → (b : List ℕ) (o : Option (ℕ × (DeviceNumber × ℕ))) → Keeps (at_entry no_slot (before b) o) (at_entry no_slot (behind b) o)
  kept_at is b None = record { settled = refl; doubts = λ h c. c }
  kept_at is b (Some x) =
      let slots = slot_bytes m.geometry b x.0 in
      let w = (state_at s.states x.0).memory in
      let left : job_leaves (Open told) x.1.0.0 ≡ [] = elim (cases_Bool (j.number.0 == x.1.0.0)) [
        | inl t' ↦ ap (λ (y : Bool). if y then left_by (mark_of j.op (take j.length content)) else []) t' ∙ ap left_by is
        | inr f ↦ ap (λ (y : Bool). if y then left_by (mark_of j.op (take j.length content)) else []) f
      ] in
      subst (λ (l : List Mark). Keeps (slot_told w slots l) (behind b x.0 x.1)) (sym (none_left x.1.0.0)) (subst (λ (l : List Mark). Keeps (slot_told w slots []) (slot_told w slots l)) (sym left) (keeps_same w slots slots [] [] (λ y. refl) (same_marks [])))

  kept : mark_of j.op (take j.length content) ≡ None → KeepsAll (told_of m entry s) (told_of m entry t)
  kept is = tells_keep d e same (λ old new are k.
      subst (λ (b : List ℕ). Keeps (slot_with d old k) (slot_with e b k)) (sym (same_now old new are.1 are.2))
      (subst (λ (x : Slot). Keeps x (slot_with e old k)) (sym (before_is old k)) (subst (λ (x : Slot). Keeps (at_entry no_slot (before old) (entry_of m k)) x) (sym (behind_is old k)) (kept_at is old (entry_of m k)))))

  marks_by : (o : Option Mark) → mark_of j.op (take j.length content) ≡ o → DoubtsAt j.number.0 o (told_of m entry s) (told_of m entry t)
  marks_by None is = kept is
  marks_by (Some mark) is = doubts mark is

  -- TURNS
  one : 1 ≤ m.geometry.page
  one = (let low = may.sound.made_for.slots.legal.page_low in omega (arith, low))

  left_zero : (told_of m entry s).left ≡ 0
  left_zero = ap (left_of m.geometry.page s.states) may.shut

  left_few : (told_of m entry t).left ≤ (told_of m entry s).left + most_of (figures_at (fixed_for m) j.number.0) (op_of told.mark)
  left_few =
      let few = job_few m.geometry.page may.size j (take j.length content) j.op (can_write (state_at s.states j.place)) one may.fits in
      let x = ap (λ (f : Figures). most_of f (op_of told.mark)) (figures_of m t j is_job) in
      omega (arith, few, x)

  pages_some : 1 ≤ (figures_at (fixed_for m) j.number.0).pages
  pages_some = (let x = ap (λ (f : Figures). f.pages) (figures_of m t j is_job) in omega (arith, x))

  prompt : (b : Bool) → urgent_first (fixed_for m) (Open told) ≡ b → IfElse b (IsPrompt (figures_at (fixed_for m) j.number.0).pages (told_of m entry s) (told_of m entry t)) (0 ≤ 0)
  prompt true is = λ enough. absurd (let some = pages_some in omega arith)
  prompt false is = omega arith

  opens : Opens told (told_of m entry s) (told_of m entry t)
  opens = record {
    only = refl;
    marks = marks_by told.mark refl;
    left_low = (let z = left_zero in omega (arith, z));
    left_high = left_few;
    left_beside = λ one' switching. absurd (false≢true switching);
    ready = prompt (urgent_first (fixed_for m) (Open told)) refl;
  }

pub parts_open : PartsOpen
parts_open m entry s j content may = record { sound = open_sound m entry s j content may; opens = opens m entry s j content may; stays = open_stays m entry s j content may }
