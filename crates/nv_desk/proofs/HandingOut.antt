-- An empty history in place of the one so far.
use Rattle.std.proofs.Common.{◌≡◌, ◌≤◌, ℕ, ◌+◌, Bool, true, false, not, ◌&&◌, if◌then◌else◌, List, [], ◌∷◌, length, refl, arith}
use Rattle.block_machine.specs.Words.{Configuration, Entry, Ask, Pick, Wrote, Post, Off, Found}
use Rattle.block_machine.specs.State.{State}
use Rattle.block_machine.specs.StartUp.{at_first}
use Rattle.block_machine.specs.Reply.{reserved_entries}
use Rattle.block_machine.specs.Steps.{after, step}
use Rattle.block_laws.proofs.Along.{asked_leaves}

-- the first entry that starts the machine finds the power on
first_is_on : (c : Configuration) (e : Entry) → (step c at_first e).started ≡ true → (step c at_first e).off ≡ false
first_is_on c (Ask caller r reply) up = (asked_leaves c at_first r reply).2
first_is_on c (Pick block kind t ops) up = refl
first_is_on c (Wrote i mark ops) up = refl
first_is_on c (Post block r given refused ops) up = refl
first_is_on c (Off ops) up = cc
first_is_on c (Found marks ops) up = refl

on_by : (up off : Bool) (rest : ℕ) → up ≡ true → off ≡ false → 1 ≤ (if up && not off then 1 else 0) + rest
on_by true false rest is on = omega arith
on_by false off rest is on = cc
on_by true true rest is on = cc

on_reserves : (c : Configuration) (s : State) → s.started ≡ true → s.off ≡ false → 1 ≤ reserved_entries c s
on_reserves c s up on = let least = on_by s.started s.off 0 up on in omega (arith, least)

-- a start-up and an Off behind it have room where one stands
pub starts_fit : (c : Configuration) (cap : ℕ) (h : List Entry) → (after c h).started ≡ true
    → length h + reserved_entries c (after c h) ≤ cap → 2 ≤ cap
starts_fit c cap [] up fits = cc
starts_fit c cap (e ∷ []) up fits = omega (arith, fits, on_reserves c (step c at_first e) up (first_is_on c e up))
starts_fit c cap (e ∷ f ∷ es) up fits = omega (arith, fits)
