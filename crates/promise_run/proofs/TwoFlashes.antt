-- A run over two flashes.
use Rattle.std.specs.Prelude.{Contains, if◌then◌else◌}
use Rattle.std.proofs.Common.{◌≡◌, ◌⊎◌, ◌≤◌, ◌<◌, ℕ, zero, suc, Bool, true, false, List, [], ◌∷◌, Option, Some, None, refl, sym, ap, ◌∙◌, subst, inl, inr, arith}
use Rattle.block_machine.specs.nv_base.Count.{last_count, WereCounted}
use Rattle.block_machine.specs.nv_base.Held.{Held, never_written}
use Rattle.block_machine.specs.nv_base.Marks.{instance_of}
use Rattle.script_walks.specs.Words.{Cut, CutSecond}
use Rattle.block_machine.specs.Words.{Instance, Mark, Erased, Entry, Ask, Pick, Wrote, Post, Off, Found}
use Rattle.block_machine.specs.StartUp.{listed_mark}
use Rattle.memif.specs.Told.{IfElse}
use Rattle.fee_image.specs.Laws.{BlankIsSound, BlankHasErased}
use Rattle.promise_blocks.specs.Marks.{Lists, marks_in}
use Rattle.promise_device.specs.Making.{banks_of}
use Rattle.promise_device.specs.Image.{attached, held_in}
use Rattle.promise_device.specs.FlashRun.{IsCutImage, bytes_after}
use Rattle.promise_run.specs.Refusals.{RefusesAsAsked}
use Rattle.promise_run.specs.Run.{DueCut, plan_after, Made, Added}
use Rattle.promise_run.specs.Beside.{Beside, AreCutImages, IsMerged, is_beside, ops_of}
use Rattle.promise_run.specs.Promise.{making_first}
use Rattle.promise_run.specs.TwoFlashes.{KeepBoth, OperationsAreBoth, PromiseOfBoth, CutsOf, IsOffOf, CutsAreBoth, HasCutsOfBoth, CutsOfOneAreBoth, exchanged, held_both}
use Rattle.promise_run.specs.Cases.{blank, cut_beside, one, quiet, quiet_beside, second_of, small, two}
use Rattle.promise_run.proofs.KeptRuns.{Stands, at_most, blank_found, each, keeps_erased, some_changes, some_list, tells}

abbrev second : Beside
second = second_of one one

abbrev h : List Entry
h = quiet.history

-- no operation is cut
abbrev CutOne : ℕ → ℕ → List ℕ → List ℕ → Bool → Type 0
CutOne n m image other t = IfElse t
    ((bytes_after quiet.flash n ≡ Some image) × IsCutImage second.flash m other)
    (IsCutImage quiet.flash n image × (bytes_after second.flash m ≡ Some other))

no_cut : (n m : ℕ) (image other : List ℕ) (t : Bool) → CutOne n m image other t → ⊥
no_cut n m image other true is = absurd (let none = is.1.1 in cc none)
no_cut n m image other false is = absurd (let none = is.0.1 in cc none)

none_cut : (k : ℕ) (image other : List ℕ) → AreCutImages small h quiet.flash second k image other → ⊥
none_cut k image other is = no_cut (ops_of false small h second k) (ops_of true small h second k) image other (is_beside small h second k) is

-- MARKS
erased_if : (t : Bool) (x y : Held) → x.mark ≡ Erased → y.mark ≡ Erased → (if t then x else y).mark ≡ Erased
erased_if true x y one other = one
erased_if false x y one other = other

found_none : BlankHasErased → (n : ℕ) → marks_in (held_both small second blank one) n ≡ Erased
found_none erased n = erased_if (second.blocks (instance_of (record { 0 = n })).block) never_written (held_in (making_first small) blank n) refl (blank_found erased n)

lists_none : BlankHasErased → (marks : List (Instance × Mark)) (ops : ℕ) → Contains h (Found marks ops) → Lists small marks (marks_in (held_both small second blank one))
lists_none erased marks ops (zero, few, is) x has =
    let none : marks ≡ [] = sym (cc is) in
    ap (λ (ms : List (Instance × Mark)). listed_mark ms (instance_of x.0)) none ∙ sym (found_none erased x.0.0)
lists_none erased marks ops (suc k, few, is) x has = absurd (omega (arith, few))

exit_keeps : BlankIsSound → BlankHasErased → KeepBoth small second h blank one
exit_keeps sound erased = record {
  marks = keeps_erased h (marks_in (held_both small second blank one)) (found_none erased) (each (Stands h) (inl refl) (inl refl) (inl refl))
      (λ i. record { whole = refl; brought = inl refl }) (λ i. (λ a is. inl is, tt));
  sound = sound (banks_of (making_first small)) 320;
  sound_beside = refl;
}

none_refused : (id : ℕ) → RefusesAsAsked small quiet.course h id
none_refused id = (0, refl)

abbrev none : CutsOf
none = record { came = []; others = 0 }

pub both_keep : BlankIsSound → BlankHasErased → PromiseOfBoth (quiet_beside one one) (second_of one one)
both_keep sound erased = record {
  beside = refl;
  order = ((refl, tt), tt, refl);
  power_cut = λ told from too begins k image other few cut. absurd (none_cut k image other cut);
  counts = λ told from too begins k ops image other few cut last. absurd (none_cut k image other cut);
  found = λ told from too begins marks ops has few. lists_none erased marks ops has;
  at_exit = λ told from too begins started few. exit_keeps sound erased;
  block_machine = (record { room = omega arith; grows = omega arith; lists = refl; lengths = refl; stands = tt }, tt);
  faults = (record { faults = 0; counted = inl (omega arith); pay = inl (omega arith, tt) }, record { faults = 0; counted = inl (omega arith); pay = inl (omega arith, tt) });
  wear = λ told from. refl;
  refusals = none_refused;
  own = none;
  other = none;
  off = record { merged = (refl, refl); are = (refl, refl); counted = inl (omega arith); counted_beside = inl (omega arith) };
  operations = λ started. (
    record {
      told_alike = tt;
      chain = λ t. sym (some_list blank t.last t.exit) ∙ ap (attached small.geometry) (some_list [] t.first t.entry);
      seen = λ t. (refl, sym (some_changes [] t.changes t.told));
      counted = inl refl;
      told = λ room. record { bytes = room.bytes; changes = []; told = refl };
    },
    record {
      told_alike = tt;
      chain = λ t. sym (some_list one t.last t.exit) ∙ ap (attached small.geometry) (some_list one t.first t.entry);
      seen = λ t. (refl, sym (some_changes [] t.changes t.told));
      counted = inl refl;
      told = λ room. record { bytes = room.bytes; changes = []; told = refl };
    },
  );
  begins = refl;
  counted = at_most 0 h (tells 0 0 (omega arith), tt);
}

-- its bytes changed, and no operation changed them
pub not_changed : (own other : List ℕ) → OperationsAreBoth (quiet_beside one two) (second_of one two) own other → ⊥
not_changed own other are = let same : two ≡ one = are.1.chain (record { first = one; entry = refl; last = two; exit = refl }) in cc same

-- POWER CUTS
abbrev cuts_of : List ℕ → ℕ → CutsOf
cuts_of came others = record { came = came; others = others }

pub cuts_of_one_are_both : CutsOfOneAreBoth
cuts_of_one_are_both count all plan beside ops [] cuts others is = (ap (λ (ks : List ℕ). cuts_of ks others) is.0 ∙ ap (λ (n : ℕ). cuts_of [] n) is.1, refl)
cuts_of_one_are_both count all plan beside ops (Made kind ∷ es) cuts others is =
    subst (λ (n : ℕ). CutsAreBoth count (plan_after kind plan n) (plan_after (exchanged kind) beside (count true ops)) ops es (cuts_of cuts others) none) (sym (all ops))
    (cuts_of_one_are_both count all (plan_after kind plan ops) (plan_after (exchanged kind) beside (count true ops)) ops es cuts others is)
cuts_of_one_are_both count all plan beside ops (Added (Off now) ∷ es) cuts others (inl (p, rest, planned, due, is, more)) =
    inl (
      cuts_of rest others,
      inl (p, planned, subst (λ (n : ℕ). (p.due ≤ n) ⊎ (last_count ≤ now)) (sym (all now)) due, ap (λ (ks : List ℕ). cuts_of ks others) is),
      cuts_of_one_are_both count all None None now es rest others more,
    )
cuts_of_one_are_both count all plan beside ops (Added (Off now) ∷ es) cuts others (inr (n, is, more)) =
    inl (cuts_of cuts n, inr (ap (λ (m : ℕ). cuts_of cuts m) is), cuts_of_one_are_both count all None None now es cuts n more)
cuts_of_one_are_both count all plan beside ops (Added (Ask caller r reply) ∷ es) cuts others is = cuts_of_one_are_both count all plan beside _ es cuts others is
cuts_of_one_are_both count all plan beside ops (Added (Pick block kind taken now) ∷ es) cuts others is = cuts_of_one_are_both count all plan beside _ es cuts others is
cuts_of_one_are_both count all plan beside ops (Added (Wrote i mark now) ∷ es) cuts others is = cuts_of_one_are_both count all plan beside _ es cuts others is
cuts_of_one_are_both count all plan beside ops (Added (Post block r given refused now) ∷ es) cuts others is = cuts_of_one_are_both count all plan beside _ es cuts others is
cuts_of_one_are_both count all plan beside ops (Added (Found marks now) ∷ es) cuts others is = cuts_of_one_are_both count all plan beside _ es cuts others is

-- A cut of the second flash, in its first operation.
pub cut_of_second : HasCutsOfBoth (cut_beside (CutSecond 1 16)) (second_of one one)
cut_of_second = (
  none,
  cuts_of (16 ∷ []) 0,
  record {
    merged = inr ([], refl, (refl, refl));
    are = inr (none, inl (record { due = 1; keep = 16 }, refl, inl (omega arith), refl), (refl, refl));
    counted = inl (omega arith);
    counted_beside = inl (omega arith);
  },
)

no_other : (all behind : CutsOf) → WereCounted all.others 0 0 → all ≡ record behind { others = suc behind.others } → ⊥
no_other all behind (inl few) is = let more : all.others ≡ suc behind.others = ap (λ (x : CutsOf). x.others) is in omega (arith, few, more)
no_other all behind (inr full) is = omega (arith, full)

-- one that isn't due, nor counted
not_due : (plan : Option DueCut) (own : ℕ) (all behind : CutsOf) → ((p : DueCut) → plan ≡ Some p → own < p.due) → WereCounted all.others 0 0 → IsOffOf plan own 1 all behind → ⊥
not_due plan own all behind late counted (inl (p, planned, inl due, is)) = let less = late p planned in omega (arith, less, due)
not_due plan own all behind late counted (inl (p, planned, inr full, is)) = omega (arith, full)
not_due plan own all behind late counted (inr is) = no_other all behind counted is

late : (due keep own : ℕ) → own < due → (p : DueCut) → Some (record { due = due; keep = keep }) ≡ Some p → own < p.due
late due keep own less p planned =
    let same : p.due ≡ due = ap (λ (x : DueCut). x.due) (let is : p ≡ record { due = due; keep = keep } = cc planned in is) in
    omega (arith, less, same)

never : (own : ℕ) (p : DueCut) → None ≡ Some p → own < p.due
never own p planned = absurd (cc planned)

pub not_of_first : HasCutsOfBoth (cut_beside (Cut 1 16)) (second_of one one) → ⊥
not_of_first (own, other, is) = elim is.are [
  | inl off ↦ not_due (Some (record { due = 1; keep = 16 })) 0 own off.0 (late 1 16 0 (omega arith)) is.counted off.1
  | inr off ↦ not_due None 1 other off.0 (never 1) is.counted_beside off.1
]

pub not_later : HasCutsOfBoth (cut_beside (CutSecond 2 16)) (second_of one one) → ⊥
not_later (own, other, is) = elim is.are [
  | inl off ↦ not_due None 0 own off.0 (never 0) is.counted off.1
  | inr off ↦ not_due (Some (record { due = 2; keep = 16 })) 1 other off.0 (late 2 16 1 (omega arith)) is.counted_beside off.1
]

abbrev first_of : List ℕ → ℕ
first_of (k ∷ ks) = k
first_of [] = 0

not_merged : (own other : List ℕ) → IsMerged own other (16 ∷ []) → own ≡ [] → other ≡ 15 ∷ [] → ⊥
not_merged own other (inl (rest, is, more)) none_own its = let other_one : 16 ≡ 0 = ap first_of (sym is ∙ none_own) in omega (arith, other_one)
not_merged own other (inr (rest, is, more)) none_own its = let other_one : 16 ≡ 15 = ap first_of (sym is ∙ its) in omega (arith, other_one)

-- its bytes aren't those of the plan
kept_15 : (own other behind : CutsOf) → IsMerged own.came other.came (16 ∷ []) → WereCounted other.others 0 0 → own ≡ none → behind ≡ none
    → IsOffOf (Some (record { due = 1; keep = 15 })) 1 1 other behind → ⊥
kept_15 own other behind merged counted empty rest (inl (p, planned, due, is)) =
    let plan : p ≡ record { due = 1; keep = 15 } = cc planned in
    let mine : own.came ≡ [] = ap (λ (x : CutsOf). x.came) empty in
    let its : other.came ≡ 15 ∷ [] = ap (λ (x : CutsOf). x.came) is ∙ ap (λ (q : DueCut). q.keep ∷ behind.came) plan ∙ ap (λ (x : CutsOf). 15 ∷ x.came) rest in
    not_merged own.came other.came merged mine its
kept_15 own other behind merged counted empty rest (inr is) = no_other other behind counted is

pub not_of_other_bytes : HasCutsOfBoth (cut_beside (CutSecond 1 15)) (second_of one one) → ⊥
not_of_other_bytes (own, other, is) = elim is.are [
  | inl off ↦ not_due None 0 own off.0 (never 0) is.counted off.1
  | inr off ↦ kept_15 own other off.0 is.merged is.counted_beside off.2.0 off.2.1 off.1
]
