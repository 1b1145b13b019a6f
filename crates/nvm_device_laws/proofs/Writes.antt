-- The writes since the last start-up, as a history grows and as it is cut off.
use Rattle.std.specs.Prelude.{◌||◌}
use Rattle.std.specs.List.{list_any}
use Rattle.std.proofs.Common.{◌≡◌, ℕ, ◌≤◌, ◌+◌, Bool, true, false, List, [], ◌∷◌, ◌++◌, Option, Some, None, refl, sym, ap, ◌∙◌, inl, inr, arith}
use Rattle.std.proofs.lemmas.Bool.{cases_Bool, false≢true, le-leb}
use Rattle.block_machine.specs.nv_base.Entry.{ops_of}
use Rattle.block_machine.specs.nv_base.Marks.{instance_of}
use Rattle.memif.specs.Told.{more_writes}
use Rattle.block_machine.specs.Words.{Instance, Mark, Entry, Ask, Pick, Wrote, Post, Off, Found}
use Rattle.block_machine.specs.Blocks.{same_instance}
use Rattle.block_machine.specs.History.{is_driver_until, up_to}
use Rattle.promise_blocks.specs.Counts.{wrotes_with, wrotes_from, wrotes, found_with, found_from, last_found, count_due}
use Rattle.promise_blocks.specs.OverDevice.{TellsAtMost}
use Rattle.nvm_device_laws.proofs.Payments.{first_of, tells_rest}
use Rattle.nvm_device_laws.proofs.Pairings.{settles_none}

-- ONE ENTRY MORE
wrotes_push : (i : Instance) (n : ℕ) (h : List Entry) (e : Entry) → wrotes_from i n (h ++ e ∷ []) ≡ wrotes_with i (wrotes_from i n h) e
wrotes_push i n [] e = refl
wrotes_push i n (x ∷ xs) e = wrotes_push i (wrotes_with i n x) xs e

found_push : (o : Option ℕ) (h : List Entry) (e : Entry) → found_from o (h ++ e ∷ []) ≡ found_with (found_from o h) e
found_push o [] e = refl
found_push o (x ∷ xs) e = found_push (found_with o x) xs e

wrotes_none : (i : Instance) (n : ℕ) (e : Entry) → settles_none e ≡ true → wrotes_with i n e ≡ n
wrotes_none i n (Ask caller r reply) plain = refl
wrotes_none i n (Pick block kind t ops) plain = refl
wrotes_none i n (Wrote w mark ops) plain = cc
wrotes_none i n (Post block r given refused ops) plain = refl
wrotes_none i n (Off ops) plain = refl
wrotes_none i n (Found marks ops) plain = cc

found_none : (o : Option ℕ) (e : Entry) → settles_none e ≡ true → found_with o e ≡ o
found_none o (Ask caller r reply) plain = refl
found_none o (Pick block kind t ops) plain = refl
found_none o (Wrote w mark ops) plain = refl
found_none o (Post block r given refused ops) plain = refl
found_none o (Off ops) plain = refl
found_none o (Found marks ops) plain = cc

-- an entry that settles nothing leaves the counts that are due
pub due_plain : (h : List Entry) (e : Entry) (base : ℕ → ℕ) (n : ℕ) → settles_none e ≡ true → count_due (h ++ e ∷ []) base n ≡ count_due h base n
due_plain h e base n plain =
    ap (λ (w : ℕ). more_writes w (base n)) (wrotes_push (instance_of (record { 0 = n })) 0 h e ∙ wrotes_none (instance_of (record { 0 = n })) (wrotes (instance_of (record { 0 = n })) h) e plain)

pub found_plain : (h : List Entry) (e : Entry) → settles_none e ≡ true → last_found (h ++ e ∷ []) ≡ last_found h
found_plain h e plain = found_push None h e ∙ found_none (last_found h) e plain

-- a Wrote is one more for its instance alone
one_more : (w b : ℕ) → more_writes (w + 1) b ≡ more_writes 1 (more_writes w b)
one_more w b = omega arith

pub due_wrote : (h : List Entry) (i : Instance) (mark : Mark) (ops : ℕ) (base : ℕ → ℕ) (n : ℕ) → same_instance i (instance_of (record { 0 = n })) ≡ true
    → count_due (h ++ Wrote i mark ops ∷ []) base n ≡ more_writes 1 (count_due h base n)
due_wrote h i mark ops base n same =
    let here = instance_of (record { 0 = n }) in
    let pushed : wrotes here (h ++ Wrote i mark ops ∷ []) ≡ wrotes here h + 1 =
    wrotes_push here 0 h (Wrote i mark ops) ∙ rw same refl in
    ap (λ (w : ℕ). more_writes w (base n)) pushed ∙ one_more (wrotes here h) (base n)

pub due_other : (h : List Entry) (i : Instance) (mark : Mark) (ops : ℕ) (base : ℕ → ℕ) (n : ℕ) → same_instance i (instance_of (record { 0 = n })) ≡ false
    → count_due (h ++ Wrote i mark ops ∷ []) base n ≡ count_due h base n
due_other h i mark ops base n other =
    let here = instance_of (record { 0 = n }) in
    ap (λ (w : ℕ). more_writes w (base n)) (wrotes_push here 0 h (Wrote i mark ops) ∙ rw other refl)

pub found_wrote : (h : List Entry) (i : Instance) (mark : Mark) (ops : ℕ) → last_found (h ++ Wrote i mark ops ∷ []) ≡ last_found h
found_wrote h i mark ops = found_push None h (Wrote i mark ops)

-- a start-up begins anew
none_more : (b : ℕ) → more_writes 0 b ≡ b
none_more b = omega arith

pub due_found : (h : List Entry) (marks : List (Instance × Mark)) (ops : ℕ) (base : ℕ → ℕ) (n : ℕ) → count_due (h ++ Found marks ops ∷ []) base n ≡ base n
due_found h marks ops base n =
    ap (λ (w : ℕ). more_writes w (base n)) (wrotes_push (instance_of (record { 0 = n })) 0 h (Found marks ops)) ∙ none_more (base n)

pub found_found : (h : List Entry) (marks : List (Instance × Mark)) (ops : ℕ) → last_found (h ++ Found marks ops ∷ []) ≡ Some ops
found_found h marks ops = found_push None h (Found marks ops)

-- THE LAST START-UP
-- has no more operations than any entry tells
found_within : (n : ℕ) (o : Option ℕ) (h : List Entry) (ops : ℕ) → ((k : ℕ) → o ≡ Some k → k ≤ n) → TellsAtMost n h → found_from o h ≡ Some ops → ops ≤ n
found_within n o [] ops before tells is = before ops is
found_within n o (e ∷ es) ops before tells is = found_within n (found_with o e) es ops (next e (λ k told. tells e k (first_of e es) told)) (tells_rest n e es tells) is
  where
    next : (x : Entry) → ((k : ℕ) → ops_of x ≡ Some k → k ≤ n) → (k : ℕ) → found_with o x ≡ Some k → k ≤ n
    next (Ask caller r reply) told k at = before k at
    next (Pick block kind t m) told k at = before k at
    next (Wrote w mark m) told k at = before k at
    next (Post block r given refused m) told k at = before k at
    next (Off m) told k at = before k at
    next (Found marks m) told k at = told k at

pub last_found_within : (n : ℕ) (h : List Entry) (ops : ℕ) → TellsAtMost n h → last_found h ≡ Some ops → ops ≤ n
last_found_within n h ops tells is = found_within n None h ops (λ k none. cc none) tells is

-- UP TO AN OPERATION
-- the entries that are cut off are requests
late_entry : (n k : ℕ) (e : Entry) → is_driver_until k e ≡ false → ((ops : ℕ) → ops_of e ≡ Some ops → ops ≤ n) → n ≤ k → settles_none e ≡ true
late_entry n k (Ask caller r reply) late tells le = refl
late_entry n k (Pick block kind t ops) late tells le = refl
late_entry n k (Wrote w mark ops) late tells le = absurd (false≢true (sym late ∙ le-leb ops k (omega (arith, tells ops refl, le))))
late_entry n k (Post block r given refused ops) late tells le = refl
late_entry n k (Off ops) late tells le = refl
late_entry n k (Found marks ops) late tells le = absurd (false≢true (sym late ∙ le-leb ops k (omega (arith, tells ops refl, le))))

or_off : (a b : Bool) → (a || b) ≡ false → (a ≡ false) × (b ≡ false)
or_off true b is = cc is
or_off false b is = (refl, is)

late_wrotes : (i : Instance) (m n k : ℕ) (es : List Entry) → list_any (is_driver_until k) es ≡ false → TellsAtMost n es → n ≤ k → wrotes_from i m es ≡ m
late_wrotes i m n k [] late tells le = refl
late_wrotes i m n k (e ∷ es) late tells le =
    let (one, rest) = or_off (is_driver_until k e) (list_any (is_driver_until k) es) late in
    ap (λ (w : ℕ). wrotes_from i w es) (wrotes_none i m e (late_entry n k e one (λ ops is. tells e ops (first_of e es) is) le))
    ∙ late_wrotes i m n k es rest (tells_rest n e es tells) le

late_found : (o : Option ℕ) (n k : ℕ) (es : List Entry) → list_any (is_driver_until k) es ≡ false → TellsAtMost n es → n ≤ k → found_from o es ≡ o
late_found o n k [] late tells le = refl
late_found o n k (e ∷ es) late tells le =
    let (one, rest) = or_off (is_driver_until k e) (list_any (is_driver_until k) es) late in
    ap (λ (x : Option ℕ). found_from x es) (found_none o e (late_entry n k e one (λ ops is. tells e ops (first_of e es) is) le))
    ∙ late_found o n k es rest (tells_rest n e es tells) le

pub wrotes_up_to : (i : Instance) (m n k : ℕ) (h : List Entry) → TellsAtMost n h → n ≤ k → wrotes_from i m (up_to k h) ≡ wrotes_from i m h
wrotes_up_to i m n k [] tells le = refl
wrotes_up_to i m n k (e ∷ es) tells le = elim (cases_Bool (list_any (is_driver_until k) (e ∷ es))) [
  | inl on ↦ rw on (wrotes_up_to i (wrotes_with i m e) n k es (tells_rest n e es tells) le)
  | inr off ↦ rw off (sym (late_wrotes i m n k (e ∷ es) off tells le))
]

pub found_up_to : (o : Option ℕ) (n k : ℕ) (h : List Entry) → TellsAtMost n h → n ≤ k → found_from o (up_to k h) ≡ found_from o h
found_up_to o n k [] tells le = refl
found_up_to o n k (e ∷ es) tells le = elim (cases_Bool (list_any (is_driver_until k) (e ∷ es))) [
  | inl on ↦ rw on (found_up_to (found_with o e) n k es (tells_rest n e es tells) le)
  | inr off ↦ rw off (sym (late_found o n k (e ∷ es) off tells le))
]
