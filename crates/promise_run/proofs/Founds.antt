-- A start-up that came by an operation had no more operations behind it.
use Rattle.std.specs.Prelude.{◌||◌}
use Rattle.std.specs.List.{list_any}
use Rattle.std.proofs.Common.{◌≡◌, ℕ, ◌≤◌, Bool, true, false, List, [], ◌∷◌, Option, Some, None, inl, inr, arith}
use Rattle.std.proofs.lemmas.Bool.{cases_Bool, leb-true}
use Rattle.block_machine.specs.Words.{Entry, Ask, Pick, Wrote, Post, Off, Found, Configuration}
use Rattle.block_machine.specs.State.{State}
use Rattle.block_machine.specs.StartUp.{at_first}
use Rattle.block_machine.specs.History.{is_driver_until, up_to}
use Rattle.block_machine.specs.Legal.{IsAllowed, IsLegal, IsLegalFrom}
use Rattle.block_machine.specs.Steps.{step}
use Rattle.promise_blocks.specs.Counts.{found_with, found_from, last_found}

-- the operations never fall
grows : (c : Configuration) (cap : ℕ) (s : State) (e : Entry) → IsAllowed c cap s e → s.ops ≤ (step c s e).ops
grows c cap s (Ask caller r reply) allowed = omega arith
grows c cap s (Pick block kind t ops) allowed = allowed.0.grows
grows c cap s (Wrote i mark ops) allowed = allowed.0.grows
grows c cap s (Post block r given refused ops) allowed = allowed.0.grows
grows c cap s (Off ops) allowed = allowed.grows
grows c cap s (Found marks ops) allowed = allowed.grows

-- a driver entry of that time has as many behind it
own_soon : (c : Configuration) (s : State) (k : ℕ) (e : Entry) → is_driver_until k e ≡ true → (step c s e).ops ≤ k
own_soon c s k (Ask caller r reply) is = cc
own_soon c s k (Pick block kind t ops) is = leb-true ops k is
own_soon c s k (Wrote i mark ops) is = leb-true ops k is
own_soon c s k (Post block r given refused ops) is = leb-true ops k is
own_soon c s k (Off ops) is = leb-true ops k is
own_soon c s k (Found marks ops) is = leb-true ops k is

one_of : (a b : Bool) → (a || b) ≡ true → (a ≡ false) → b ≡ true
one_of true b is off = cc
one_of false b is off = is

-- and so has each entry before one of that time
before : (c : Configuration) (cap : ℕ) (s : State) (k : ℕ) (es : List Entry) → IsLegalFrom c cap s es
    → list_any (is_driver_until k) es ≡ true → s.ops ≤ k
before c cap s k [] legal is = cc
before c cap s k (e ∷ es) legal is =
    let more = grows c cap s e legal.0 in
    elim (cases_Bool (is_driver_until k e)) [
      | inl own ↦ let now = own_soon c s k e own in omega (arith, now, more)
      | inr off ↦
          let later = before c cap (step c s e) k es legal.1 (one_of (is_driver_until k e) (list_any (is_driver_until k) es) is off) in
          omega (arith, later, more)
    ]

soon : (c : Configuration) (cap : ℕ) (s : State) (k : ℕ) (e : Entry) (es : List Entry) → IsLegalFrom c cap s (e ∷ es)
    → list_any (is_driver_until k) (e ∷ es) ≡ true → (step c s e).ops ≤ k
soon c cap s k e es legal is = elim (cases_Bool (is_driver_until k e)) [
  | inl own ↦ own_soon c s k e own
  | inr off ↦ before c cap (step c s e) k es legal.1 (one_of (is_driver_until k e) (list_any (is_driver_until k) es) is off)
]

found_soon : (c : Configuration) (cap : ℕ) (s : State) (k : ℕ) (o : Option ℕ) (h : List Entry) (ops : ℕ) → IsLegalFrom c cap s h
    → ((n : ℕ) → o ≡ Some n → n ≤ k) → found_from o (up_to k h) ≡ Some ops → ops ≤ k
found_soon c cap s k o [] ops legal few is = few ops is
found_soon c cap s k o (e ∷ es) ops legal few is = elim (cases_Bool (list_any (is_driver_until k) (e ∷ es))) [
  | inl on ↦ found_soon c cap (step c s e) k (found_with o e) es ops legal.1 (next e (soon c cap s k e es legal on)) (rw on at is)
  | inr off ↦ few ops (rw off at is)
]
  where
    next : (x : Entry) → (step c s x).ops ≤ k → (n : ℕ) → found_with o x ≡ Some n → n ≤ k
    next (Ask caller r reply) small n at = few n at
    next (Pick block kind t m) small n at = few n at
    next (Wrote i mark m) small n at = few n at
    next (Post block r given refused m) small n at = few n at
    next (Off m) small n at = few n at
    next (Found marks m) small n at = let same : m ≡ n = cc in omega (arith, same, small)

pub last_soon : (c : Configuration) (cap k : ℕ) (h : List Entry) (ops : ℕ) → IsLegal c cap h → last_found (up_to k h) ≡ Some ops → ops ≤ k
last_soon c cap k h ops legal is = found_soon c cap at_first k None h ops legal (λ n none. cc none) is
