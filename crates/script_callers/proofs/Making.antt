-- The programs of all callers, with one step more.
use Rattle.std.specs.Prelude.{slice_set}
use Rattle.std.proofs.Common.{◌≡◌, ◌≢◌, ◌==◌, ◌≤◌, ◌<◌, ℕ, true, List, [], ◌∷◌, ◌++◌, length, get_or, sym, ap, ◌∙◌, subst, inl, inr, arith, get_or-set_same, get_or-set_other, length-set, length-append}
use Rattle.std.proofs.lemmas.Bool.{cases_Bool, eqb-true, eq-eqb}
use Rattle.std.proofs.lemmas.List.{ext_get_or}
use Rattle.std.proofs.lemmas.List.FromFn.{get_or-map-range_with_len, length-map-range_with_len}
use Rattle.block_machine.specs.Words.{Configuration}
use Rattle.script_walks.specs.Words.{Step, StepKind, AskStep, Store, Await}
use Rattle.script_walks.specs.Callers.{program_of}
use Rattle.script_callers.specs.declared.deed.Deed.{Deed}
use Rattle.script_callers.specs.declared.program.Program.{Program}
use Rattle.script_callers.specs.Deeds.{deeds_by, deeds_from, deeds_of}
use Rattle.script_callers.specs.Programs.{all_programs, program_by}
use Rattle.script_callers.specs.Counting.{AreOf, AreCounted, AreMade, AddsDeed, OwnsStores}
use Rattle.script_callers.proofs.Growing.{deeds_grow, program_is_of}
use Rattle.script_callers.proofs.Counting.{program_few, program_other, program_own}

-- no program has its caller do more than there are steps
by_few : (c : Configuration) (own : List Step) (line caller : ℕ) (kind : StepKind) → length (deeds_by c own line caller kind) ≤ 1
by_few c own line caller (AskStep r) = omega arith
by_few c own line caller (Store block content) = omega arith
by_few c own line caller (Await block) = omega arith
by_few c own line caller kind = omega arith

from_few : (c : Configuration) (before xs : List Step) → length (deeds_from c before xs) ≤ length xs
from_few c before [] = omega arith
from_few c before (x ∷ xs) =
    let one = by_few c before x.line x.caller x.kind in
    let rest = from_few c (before ++ x ∷ []) xs in
    let len = length-append (deeds_by c before x.line x.caller x.kind) (deeds_from c (before ++ x ∷ []) xs) in
    omega (arith, one, rest, len)

pub deeds_few : (c : Configuration) (caller : ℕ) (before : List Step) → length (deeds_of c (program_of caller before)) ≤ length before
deeds_few c caller before =
    let few = from_few c [] (program_of caller before) in
    let own = program_few caller before in
    omega (arith, few, own)

-- ALL PROGRAMS

abbrev pub with_deeds : ℕ → List Deed → Program
with_deeds caller deeds = record { caller = caller; deeds = deeds }

pub program_at : (c : Configuration) (before : List Step) (caller : ℕ) (d : Program) → caller ≤ 15 → get_or (all_programs c before) caller d ≡ program_by c before caller
program_at c before caller d low = get_or-map-range_with_len (program_by c before) 0 16 caller caller d (omega arith) (omega arith)

pub as_many : (c : Configuration) (before : List Step) → length (all_programs c before) ≡ 16
as_many c before = length-map-range_with_len (program_by c before) 0 16

one_more : (c : Configuration) (before : List Step) (x : Step) (i : ℕ) (d : Program) → x.caller ≤ 15 → i ≤ 15
    → get_or (slice_set (all_programs c before) x.caller (program_by c (before ++ x ∷ []) x.caller)) i d ≡ get_or (all_programs c (before ++ x ∷ [])) i d
one_more c before x i d low within =
    let all : List Program = all_programs c before in
    let new : Program = program_by c (before ++ x ∷ []) x.caller in
    let len : length all ≡ 16 = as_many c before in
    elim (cases_Bool (x.caller == i)) [
      | inl own ↦
          let is : x.caller ≡ i = eqb-true x.caller i own in
          let inside : x.caller < length all = omega (arith, len, low) in
          subst (λ (n : ℕ). get_or (slice_set all x.caller new) n d ≡ get_or (all_programs c (before ++ x ∷ [])) n d) is
          (get_or-set_same all x.caller new d inside ∙ sym (program_at c (before ++ x ∷ []) x.caller d low))
      | inr other ↦
          let apart : i ≢ x.caller = λ same. let is : (x.caller == i) ≡ true = eq-eqb x.caller i (sym same) in cc in
          get_or-set_other all x.caller i new d apart ∙ program_at c before i d within
          ∙ ap (λ (p : List Step). with_deeds i (deeds_of c p)) (sym (program_other i before x other)) ∙ sym (program_at c (before ++ x ∷ []) i d within)
    ]

-- with a step more that of its caller is another one
pub all_more : (c : Configuration) (before : List Step) (x : Step) → x.caller ≤ 15 → slice_set (all_programs c before) x.caller (program_by c (before ++ x ∷ []) x.caller) ≡ all_programs c (before ++ x ∷ [])
all_more c before x low =
    let new : Program = program_by c (before ++ x ∷ []) x.caller in
    let set : length (slice_set (all_programs c before) x.caller new) ≡ length (all_programs c before) = length-set (all_programs c before) x.caller new in
    let old = as_many c before in
    let len = as_many c (before ++ x ∷ []) in
    ext_get_or new (slice_set (all_programs c before) x.caller new) (all_programs c (before ++ x ∷ [])) (set ∙ old ∙ sym len)
    (λ i within. one_more c before x i new low (omega (arith, within, set, old)))

-- ONE STEP MORE

pub few_made : (c : Configuration) (before : List Step) (counts : List ℕ) (programs : List Program) (caller place : ℕ) (d : Program) → AreMade c before counts programs → caller ≤ 15 → place ≡ caller
    → length (get_or programs place d).deeds ≤ length before
few_made c before counts programs caller place d made low is =
    let at : get_or programs place d ≡ program_by c before caller = ap (λ (ps : List Program). get_or ps place d) made.made ∙ ap (λ (n : ℕ). get_or (all_programs c before) n d) is ∙ program_at c before caller d low in
    let len : length (get_or programs place d).deeds ≡ length (deeds_of c (program_of caller before)) = ap (λ (p : Program). length p.deeds) at in
    let few = deeds_few c caller before in
    omega (arith, len, few)

pub made_more : (c : Configuration) (before : List Step) (x : Step) (counts counts_new : List ℕ) (programs : List Program) (place : ℕ) (d : Program) (deeds : List Deed) → x.caller ≤ 15 → place ≡ x.caller
    → OwnsStores c before (program_of x.caller before) x.kind → AreMade c before counts programs
    → ((before own : List Step) → AreOf x.caller own → OwnsStores c before own x.kind → AreCounted before counts → AddsDeed c before own x counts_new (get_or programs place d).deeds deeds)
    → length counts_new ≡ length counts
    → AreMade c (before ++ x ∷ []) counts_new (slice_set programs place (with_deeds (get_or programs place d).caller deeds))
made_more c before x counts counts_new programs place d deeds low is owns made added size =
    let own : List Step = program_of x.caller before in
    let adds = added before own (program_is_of x.caller before) owns made.counted in
    let at : get_or programs place d ≡ program_by c before x.caller = ap (λ (ps : List Program). get_or ps place d) made.made ∙ ap (λ (n : ℕ). get_or (all_programs c before) n d) is ∙ program_at c before x.caller d low in
    let more : deeds ≡ deeds_of c (program_of x.caller (before ++ x ∷ [])) =
    adds.deeds ∙ ap (λ (p : Program). p.deeds ++ deeds_by c own x.line x.caller x.kind) at ∙ sym (deeds_grow c own x) ∙ ap (deeds_of c) (sym (program_own before x)) in
    let new : with_deeds (get_or programs place d).caller deeds ≡ program_by c (before ++ x ∷ []) x.caller = ap (λ (p : Program). with_deeds p.caller deeds) at ∙ ap (with_deeds x.caller) more in
    record {
      made = ap (λ (ps : List Program). slice_set ps place (with_deeds (get_or programs place d).caller deeds)) made.made
          ∙ ap (λ (n : ℕ). slice_set (all_programs c before) n (with_deeds (get_or programs place d).caller deeds)) is
          ∙ ap (λ (p : Program). slice_set (all_programs c before) x.caller p) new ∙ all_more c before x low;
      counted = adds.counted;
      size = size ∙ made.size;
    }
