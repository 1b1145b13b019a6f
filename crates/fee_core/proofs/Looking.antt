-- Looking a number up, and what a start of a job refuses.
use Rattle.std.specs.Prelude.{map, is_some, length, option_map, take}
use Rattle.std.specs.List.{All}
use Rattle.std.proofs.Common.{◌≡◌, ◌≢◌, ◌≤◌, ◌+◌, ◌==◌, ℕ, suc, Bool, true, false, if◌then◌else◌, List, [], ◌∷◌, get_or, Option, Some, None, refl, sym, ap, ◌∙◌, subst, arith, add-one}
use Rattle.std.proofs.lemmas.Bool.Decides.{nat_tests}
use Rattle.nv_base.specs.Geometry.{sectors_of_bank}
use Rattle.nv_base.specs.Lengths.{place_of}
use Rattle.nv_base.specs.declared.geometry.Geometry.{Geometry}
use Rattle.nv_base.specs.declared.instance.DeviceNumber.{DeviceNumber}
use Rattle.nv_base.specs.declared.job.DeviceOp.{DeviceOp}
use Rattle.nv_base.specs.declared.job.DeviceOp.TheVariants.{Read, Write, Invalidate, Erase}
use Rattle.nv_base.specs.declared.mark.Mark.TheVariants.{Content}
use Rattle.memif.specs.declared.answer.DeviceRefusal.{DeviceRefusal}
use Rattle.memif.specs.declared.answer.JobResult.{JobResult}
use Rattle.memif.specs.Told.{Figures, is_open, length_of, at_number, no_figures, most_of}
use Rattle.fee_course.specs.Course.{most_turns}
use Rattle.fee_laws.specs.fee_told.Figures.{figures_for}
use Rattle.fee_laws.specs.Work.{pages_of_op}
use Rattle.memif.specs.Calls.{refusal_of, length_refusal}
use Rattle.fls_model.specs.Told.{Told}
use Rattle.promise_device.specs.Making.{Making}
use Rattle.fee_laws.specs.fee_told.Device.{told_of}
use Rattle.fee_laws.proofs.ToldFigures.{length_few}
use Rattle.fee_laws.specs.declared.job.FeeJob.{FeeJob}
use Rattle.fee_laws.specs.Inside.{Parts, device_of, stand_of, mark_of, IsSound}
use Rattle.fee_core.specs.Whole.{Whole, Sound, told_in}

later_at : (x : DeviceNumber × ℕ) (xs : List (DeviceNumber × ℕ)) (n i : ℕ) (d : DeviceNumber × ℕ) (o : Option ℕ) → ((k : ℕ) → o ≡ Some k → length_of xs n ≡ Some (get_or xs k d).1)
    → option_map (λ place. place + 1) o ≡ Some i → length_of xs n ≡ Some (get_or (x ∷ xs) i d).1
later_at x xs n i d None rest is = cc is
later_at x xs n i d (Some k) rest is =
    let at : suc k ≡ i = sym (add-one k) ∙ cc is in
    subst (λ (j : ℕ). length_of xs n ≡ Some (get_or (x ∷ xs) j d).1) at (rest k refl)

at_by : (x : DeviceNumber × ℕ) (xs : List (DeviceNumber × ℕ)) (n i : ℕ) (d : DeviceNumber × ℕ) → ((k : ℕ) → place_of xs n ≡ Some k → length_of xs n ≡ Some (get_or xs k d).1)
    → (b : Bool) → (if b then Some 0 else option_map (λ place. place + 1) (place_of xs n)) ≡ Some i → (if b then Some x.1 else length_of xs n) ≡ Some (get_or (x ∷ xs) i d).1
at_by x xs n i d rest true is = (let at : 0 ≡ i = cc is in subst (λ (j : ℕ). Some x.1 ≡ Some (get_or (x ∷ xs) j d).1) at refl)
at_by x xs n i d rest false is = later_at x xs n i d (place_of xs n) rest is

length_at : (ns : List (DeviceNumber × ℕ)) (n i : ℕ) (d : DeviceNumber × ℕ) → place_of ns n ≡ Some i → length_of ns n ≡ Some (get_or ns i d).1
length_at [] n i d is = cc is
length_at (x ∷ xs) n i d is = at_by x xs n i d (λ k at. length_at xs n k d at) (x.0.0 == n) is

length_none : (ns : List (DeviceNumber × ℕ)) (n : ℕ) → All (λ x. x.0.0 ≢ n) ns → length_of ns n ≡ None
length_none [] n none = refl
length_none (x ∷ xs) n none = grind (arith, nat_tests, none 0 x (omega arith), length_none xs n (λ k d lt. none (suc k) d (omega arith)))

-- REFUSALS
shut_by : (content : List ℕ) (o : Option FeeJob) (last : JobResult) (given : ℕ) → is_some o ≡ false → is_open (stand_of content o last given) ≡ false
shut_by content None last given e = refl
shut_by content (Some j) last given e = cc e

refusal_at : (m : Making) (entry : Told) (s : Parts) (n : ℕ) (size : Option ℕ) (r : Option DeviceRefusal) → is_some s.job ≡ false → s.started ≡ true → length_refusal size (length_of m.numbers n) ≡ r
    → refusal_of (told_of (device_of m entry s)) n size ≡ r
refusal_at m entry s n size r shut started why = rw (shut_by s.content s.job s.last s.given shut, started) why

-- THE NUMBER OF A DEVICE
-- as its fields show it, w, of what is known, v
module _ {m : Making} {entry : Told} {w v : Whole} (shown : w ≡ v) (sound : Sound m entry v) (n : ℕ) where
  configured : length_of m.numbers n ≡ length_of w.numbers n
  configured = ap (λ (ns : List (DeviceNumber × ℕ)). length_of ns n) (sym (subst (Sound m entry) (sym shown) sound).parts.numbers)

  pub number_at : (i : ℕ) → place_of w.numbers n ≡ Some i → length_of m.numbers n ≡ Some (get_or w.numbers i (record { 0 = 0 }, 0)).1
  number_at i is = configured ∙ length_at w.numbers n i (record { 0 = 0 }, 0) is

  pub number_few : (i : ℕ) → place_of w.numbers n ≡ Some i → (get_or w.numbers i (record { 0 = 0 }, 0)).1 ≤ 4096
  number_few i is = length_few 0 m.numbers n _ (subst (Sound m entry) (sym shown) sound).parts.made_for.space.lengths (number_at i is)

  pub number_none : All (λ x. x.0.0 ≢ n) w.numbers → length_of m.numbers n ≡ None
  number_none none = configured ∙ length_none w.numbers n none

  pub refused : (size : Option ℕ) (r : Option DeviceRefusal) → is_some w.parts.job ≡ false → w.parts.started ≡ true → length_refusal size (length_of m.numbers n) ≡ r → refusal_of (told_in m entry v) n size ≡ r
  refused size r shut started why = subst (λ (x : Whole). refusal_of (told_in m entry x) n size ≡ r) shown (refusal_at m entry w.parts n size r shut started why)

-- the mark of a job, by its content
pub mark_at : (op : DeviceOp) (size : ℕ) (room content : List ℕ) → take (length content) room ≡ content → (op ≡ Write → size ≡ length content) → mark_of op (take size room) ≡ mark_of op content
mark_at Read size room content front whole = refl
mark_at Write size room content front whole = ap (λ (bytes : List ℕ). Some (Content bytes)) (ap (λ (k : ℕ). take k room) (whole refl) ∙ front)
mark_at Invalidate size room content front whole = refl
mark_at Erase size room content front whole = refl

-- FIGURES
figure_by : (p own : ℕ) (x : DeviceNumber × ℕ) (xs : List (DeviceNumber × ℕ)) (n size : ℕ)
    → (length_of xs n ≡ Some size → at_number no_figures xs (map (λ y. figures_for p own y.1) xs) n ≡ figures_for p own size)
    → (b : Bool) → (if b then Some x.1 else length_of xs n) ≡ Some size
    → (if b then figures_for p own x.1 else at_number no_figures xs (map (λ y. figures_for p own y.1) xs) n) ≡ figures_for p own size
figure_by p own x xs n size rest true is = (let same : x.1 ≡ size = cc is in ap (λ (k : ℕ). figures_for p own k) same)
figure_by p own x xs n size rest false is = rest is

figure_at : (p own : ℕ) (ns : List (DeviceNumber × ℕ)) (n size : ℕ) → length_of ns n ≡ Some size → at_number no_figures ns (map (λ y. figures_for p own y.1) ns) n ≡ figures_for p own size
figure_at p own [] n size is = cc is
figure_at p own (x ∷ xs) n size is = figure_by p own x xs n size (λ e. figure_at p own xs n size e) (x.0.0 == n) is

pub most_is : (p own size : ℕ) (op : DeviceOp) → (op ≡ Read → ⊥) → pages_of_op p op size + 1 + own ≡ most_of (figures_for p own size) op
most_is p own size Read writes = absurd (writes refl)
most_is p own size Write writes = refl
most_is p own size Invalidate writes = refl
most_is p own size Erase writes = refl

pub one_is : (p own size : ℕ) (op : DeviceOp) → op ≡ Read → 1 ≡ most_of (figures_for p own size) op
one_is p own size op is = subst (λ (o : DeviceOp). 1 ≡ most_of (figures_for p own size) o) (sym is) refl

-- the turns of a switch at most
abbrev pub own_turns : Making → ℕ
own_turns m = most_turns m.geometry.page (sectors_of_bank m.geometry m.banks) m.numbers

pub figure_of : (m : Making) (n size : ℕ) (op : DeviceOp) → length_of m.numbers n ≡ Some size → most_of (figures_for m.geometry.page (own_turns m) size) op ≡ most_of (at_number no_figures m.numbers (map (λ y. figures_for m.geometry.page (own_turns m) y.1) m.numbers) n) op
figure_of m n size op is = sym (ap (λ (f : Figures). most_of f op) (figure_at m.geometry.page (own_turns m) m.numbers n size is))

module _ {m : Making} {entry : Told} {w v : Whole} (shown : w ≡ v) (sound : Sound m entry v) (g : Geometry) (same : g ≡ w.parts.banks.geometry) where
  parts : IsSound m entry w.parts w.numbers w.reserve w.ops w.off
  parts = (subst (Sound m entry) (sym shown) sound).parts

  pub shape_is : g ≡ m.geometry
  shape_is = same ∙ parts.made_for.banks_geometry

  pub switch_is : (sectors turns : ℕ) → sectors ≡ sectors_of_bank w.parts.banks.geometry w.parts.banks.banks → turns ≡ most_turns g.page sectors w.numbers → turns ≡ own_turns m
  switch_is sectors turns of counted =
      let shared = of ∙ (λ k. sectors_of_bank (parts.made_for.banks_geometry k) (parts.made_for.shared k)) in
      counted ∙ (λ k. most_turns (shape_is k).page (shared k) (parts.numbers k))
