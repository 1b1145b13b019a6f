-- The power, entry by entry: an Off and a start-up alone change it.
use Rattle.std.specs.List.{list_all}
use Rattle.std.proofs.Common.{◌≡◌, true, false, IsTrue, List, [], ◌∷◌, Some, refl, ◌∙◌}
use Rattle.std.proofs.lemmas.Bool.{and_parts}
use Rattle.block_machine.specs.Words.{Entry, Ask, Pick, Wrote, Post, Off, Found, Configuration}
use Rattle.block_machine.specs.State.{State}
use Rattle.block_machine.specs.Next.{next_of}
use Rattle.block_machine.specs.Steps.{step, after_from}
use Rattle.promise_blocks.specs.Moves.{is_found}
use Rattle.promise_run.specs.Completeness.{is_calm_entry}
use Rattle.promise_run.proofs.EntriesLeave.{asked_stays, picked_stays, posted_stays, wrote_stays}

-- behind calm entries it is on
stays_on : (c : Configuration) (s : State) (e : Entry) → is_calm_entry e ≡ true → s.off ≡ false → (step c s e).off ≡ false
stays_on c s (Ask caller r reply) calm on = (asked_stays c s r reply).off ∙ on
stays_on c s (Pick block kind t ops) calm on = (picked_stays c s t (next_of c s)).off ∙ on
stays_on c s (Wrote i mark ops) calm on = (wrote_stays s i mark s.hand).off ∙ on
stays_on c s (Post block r given refused ops) calm on = (posted_stays c s r given s.hand).off ∙ on
stays_on c s (Off ops) calm on = absurd (cc calm)
stays_on c s (Found marks ops) calm on = refl

pub is_on : (c : Configuration) (s : State) (es : List Entry) → IsTrue (list_all is_calm_entry es) → s.off ≡ false → (after_from c s es).off ≡ false
is_on c s [] calm on = on
is_on c s (e ∷ es) calm on = let two = and_parts (is_calm_entry e) (list_all is_calm_entry es) calm in is_on c (step c s e) es two.1 (stays_on c s e two.0 on)

-- once it is off it stays so until a start-up
pub stays_off : (c : Configuration) (s : State) (e : Entry) → is_found (Some e) ≡ false → s.off ≡ true → (step c s e).off ≡ true
stays_off c s (Ask caller r reply) no_found off = (asked_stays c s r reply).off ∙ off
stays_off c s (Pick block kind t ops) no_found off = (picked_stays c s t (next_of c s)).off ∙ off
stays_off c s (Wrote i mark ops) no_found off = (wrote_stays s i mark s.hand).off ∙ off
stays_off c s (Post block r given refused ops) no_found off = (posted_stays c s r given s.hand).off ∙ off
stays_off c s (Off ops) no_found off = refl
stays_off c s (Found marks ops) no_found off = absurd (cc no_found)
