-- The programs are apart, and none is missing.
use Rattle.std.specs.Prelude.{filter, map}
use Rattle.std.specs.List.{range_with_len, All, AllPairs, Contains}
use Rattle.std.proofs.Common.{◌≡◌, ◌==◌, ◌≤◌, ◌<◌, ◌+◌, ℕ, zero, suc, not, Bool, true, false, List, [], ◌∷◌, length, get_or, refl, sym, ap, ◌∙◌, subst, inl, inr, arith}
use Rattle.std.proofs.lemmas.Bool.{cases_Bool, cases_lt, eqb-true, ne_eqb}
use Rattle.std.proofs.lemmas.List.{nil_from_length}
use Rattle.std.proofs.lemmas.List.Elements.{All-filter, All-map, All-head, All-tail, Contains-append_right}
use Rattle.std.proofs.lemmas.List.FromFn.{length-range_with_len, get_or-range_with_len, length-map-range_with_len, get_or-map-range_with_len}
use Rattle.std.proofs.lemmas.List.Kept.{AllPairs-cons, AllPairs-filter}
use Rattle.script_walks.specs.Words.{Step}
use Rattle.script_walks.specs.Callers.{program_of}
use Rattle.block_machine.specs.Words.{Configuration}
use Rattle.script_callers.specs.declared.program.Program.{Program}
use Rattle.script_callers.specs.Deeds.{deeds_of}
use Rattle.script_callers.specs.Programs.{program_by, does_something, programs_of}
use Rattle.script_callers.specs.RunScripts.{IsRunBy, AreRun}
use Rattle.script_callers.specs.Laws.{ProgramsAreApart}

later_callers : (c : Configuration) (steps : List Step) (n k : ℕ) → All (λ q. k < q.caller) (map (program_by c steps) (range_with_len (k + 1) n))
later_callers c steps n k =
    All-map (λ (q : Program). k < q.caller) (program_by c steps) (range_with_len (k + 1) n) (λ i d within.
    let len = length-range_with_len (k + 1) n in
    let at : get_or (range_with_len (k + 1) n) i d ≡ k + 1 + i = get_or-range_with_len (k + 1) n i d (omega arith) in
    omega arith)

ascend : (c : Configuration) (steps : List Step) (n k : ℕ) → AllPairs (λ p q. p.caller < q.caller) (map (program_by c steps) (range_with_len k n))
ascend c steps zero k = λ i j d less within. absurd (omega arith)
ascend c steps (suc n) k = AllPairs-cons (λ (p q : Program). p.caller < q.caller) (program_by c steps k) (map (program_by c steps) (range_with_len (k + 1) n)) (later_callers c steps n k) (ascend c steps n (k + 1))

each : (c : Configuration) (steps : List Step) → All (λ p. p ≡ program_by c steps p.caller) (map (program_by c steps) (range_with_len 0 16))
each c steps = All-map (λ (p : Program). p ≡ program_by c steps p.caller) (program_by c steps) (range_with_len 0 16) (λ i d within. refl)

kept : (p : Program → Bool) (xs : List Program) (k : ℕ) (d : Program) → k < length xs → p (get_or xs k d) ≡ true → Contains (filter p xs) (get_or xs k d)
kept p [] k d within good = absurd (omega arith)
kept p (x ∷ xs) zero d within good = rw good (0, omega arith, refl)
kept p (x ∷ xs) (suc k) d within good =
    let rest : Contains (filter p xs) (get_or xs k d) = kept p xs k d (omega arith) good in
    elim (cases_Bool (p x)) [ inl stays ↦ rw stays (Contains-append_right (x ∷ []) (filter p xs) (get_or xs k d) rest) | inr goes ↦ rw goes rest ]

stands : (c : Configuration) (steps : List Step) (caller : ℕ) → caller < 16 → does_something (program_by c steps caller) ≡ true → Contains (programs_of c steps) (program_by c steps caller)
stands c steps caller few does =
    let all : List Program = map (program_by c steps) (range_with_len 0 16) in
    let d : Program = program_by c steps caller in
    let at : get_or all caller d ≡ program_by c steps caller = get_or-map-range_with_len (program_by c steps) 0 16 caller caller d few (omega arith) in
    subst (λ (p : Program). Contains (programs_of c steps) p) at
    (kept does_something all caller d (subst (λ (n : ℕ). caller < n) (sym (length-map-range_with_len (program_by c steps) 0 16)) few) (ap does_something at ∙ does))

-- a caller from 16 on has no step
no_step : (c : Configuration) (caller : ℕ) (steps : List Step) → 15 < caller → All (IsRunBy c) steps → program_of caller steps ≡ []
no_step c caller [] high run = refl
no_step c caller (x ∷ xs) high run =
    let low : x.caller ≤ 15 = (All-head (IsRunBy c) x xs run).caller in
    let apart : (x.caller == caller) ≡ false = ne_eqb x.caller caller (λ same. omega arith) in
    rw apart (no_step c caller xs high (All-tail (IsRunBy c) x xs run))

nothing : (c : Configuration) (steps : List Step) (caller : ℕ) → AreRun c steps → ((p : Program) → Contains (programs_of c steps) p → p.caller ≡ caller → ⊥) → deeds_of c (program_of caller steps) ≡ []
nothing c steps caller run absent =
    elim (cases_lt caller 16) [
      | inl few ↦
          elim (cases_Bool (length (deeds_of c (program_of caller steps)) == 0)) [
            | inl none ↦ nil_from_length (deeds_of c (program_of caller steps)) (eqb-true (length (deeds_of c (program_of caller steps))) 0 none)
            | inr some ↦ absurd (absent (program_by c steps caller) (stands c steps caller few (ap not some)) refl)
          ]
      | inr high ↦ ap (deeds_of c) (no_step c caller steps (omega arith) run.each)
    ]

pub programs_are_apart : ProgramsAreApart
programs_are_apart c steps run = record {
  each = All-filter does_something (λ (p : Program). p ≡ program_by c steps p.caller) (map (program_by c steps) (range_with_len 0 16)) (each c steps);
  apart = AllPairs-filter (λ (p q : Program). p.caller < q.caller) does_something (map (program_by c steps) (range_with_len 0 16)) (ascend c steps 16 0);
  others = λ caller absent. nothing c steps caller run absent;
}
