-- The banks of a run's flash take turns.
use Rattle.std.specs.Prelude.{◌==◌, IsTrue, IfSome, count_by}
use Rattle.std.proofs.Common.{◌≡◌, ◌⊎◌, ◌<◌, ◌≤◌, ◌+◌, ◌-◌, ◌*◌, ◌/◌, ◌%◌, ℕ, zero, suc, Bool, true, false, List, [], ◌∷◌, Option, refl, sym, ap, ◌∙◌, subst, inl, inr, arith}
use Rattle.std.proofs.Math.Nat.{mul-add-div_right}
use Rattle.std.proofs.lemmas.List.Sums.{sum_by-cons}
use Rattle.std.proofs.lemmas.Nat.{div-add-mod', div-mul-add}
use Rattle.block_machine.specs.Words.{Entry, Ask, Pick, Wrote, Post, Off, Found}
use Rattle.memif.specs.Told.{PartTold, DeviceTold}
use Rattle.fls_model.specs.Told.{Change}
use Rattle.promise_blocks.specs.Operations.{founds, start_ups_in}
use Rattle.promise_blocks.specs.OverDevice.{HasStarted}
use Rattle.fee_format.proofs.Tests.{eq_is}
use Rattle.script_walks.specs.Runs.{is_found}
use Rattle.promise_device.specs.Image.{attached, IsSoundFlash}
use Rattle.promise_device.specs.FlashRun.{IsChain, StartsSound}
use Rattle.promise_device.specs.Making.{Making}
use Rattle.promise_device.specs.Wear.{OperationsAreDue, is_failed, are_due}
use Rattle.promise_device.specs.Generations.{bank_of_generation, generation_of}
use Rattle.promise_device.specs.SwitchErases.{one_if, seals, erases_first, begun_again, RestartsAreFew}
use Rattle.promise_device.proofs.Generations.{banks_take_turns, first_erases_are_few}
use Rattle.promise_run.specs.Run.{Run}
use Rattle.promise_run.specs.Promise.{making_of}
use Rattle.promise_run.specs.TwoFlashes.{PromiseOfEither}
use Rattle.promise_run.specs.BankTurns.{BeginsUnused, RunsTakeTurns, RunsEraseFew, TellsRestarts, HasCausedErases, ErasesHaveCauses}

module _ (r : Run) (begins : BeginsUnused r) (promise : PromiseOfEither r) (started : HasStarted r.history) where
  chain : IsChain (attached r.configuration.geometry begins.tells.first) r.flash.operations begins.tells.last
  chain = elim promise [
    | inl one ↦ (one.operations started).chain begins.tells
    | inr (b, both) ↦ (both.operations started).0.chain begins.tells
  ]

  wear : OperationsAreDue (making_of r.configuration) r.flash
  wear = elim promise [
    | inl one ↦ one.wear
    | inr (b, both) ↦ both.wear
  ]

  due : IsTrue (are_due (making_of r.configuration) [] r.flash.operations)
  due = wear begins.tells (subst (λ (o : Option (List ℕ)). IfSome o (IsSoundFlash (making_of r.configuration))) (sym begins.tells.entry) begins.unused.sound)

pub runs_take_turns : RunsTakeTurns
runs_take_turns r begins promise started =
    banks_take_turns (making_of r.configuration) r.flash.operations (attached r.configuration.geometry begins.tells.first) begins.tells.last begins.legal begins.shared begins.unused
    (chain r begins promise started) (due r begins promise started)

pub runs_erase_few : RunsEraseFew
runs_erase_few r begins k promise started inside =
    first_erases_are_few (making_of r.configuration) r.flash.operations (attached r.configuration.geometry begins.tells.first) begins.tells.last k begins.legal begins.shared begins.unused
    (chain r begins promise started) (due r begins promise started) inside

-- THE GENERATIONS OF A BANK
test : (b : Bool) → (b ≡ true) ⊎ (b ≡ false)
test true = inl refl
test false = inr refl

-- of n banks these are bank k's, up to g
abbrev turns_of : (n k g : ℕ) → ℕ
turns_of n k g = (g + (n - 1 - k)) / n

-- none is lost
no_fewer : (n x : ℕ) → 0 < n → x / n ≤ suc x / n
no_fewer n x some = by (x / n) (x % n) (div-add-mod' x n)
  where
    by : (q r : ℕ) → q * n + r ≡ x → q ≤ suc x / n
    by q r all =
        let next : suc x ≡ q * n + suc r = omega (arith, all) in
        let more : suc x / n ≡ q + suc r / n = ap (λ (y : ℕ). y / n) next ∙ mul-add-div_right some q (suc r) in
        omega (arith, more)

-- its own one is one more
own_turn : (n k g : ℕ) → k < n → k ≡ g % n → turns_of n k (suc g) ≡ turns_of n k g + 1
own_turn n k g inside own = by (g / n) (div-add-mod' g n)
  where
    by : (q : ℕ) → q * n + g % n ≡ g → turns_of n k (suc g) ≡ turns_of n k g + 1
    by q all =
        let now : g + (n - 1 - k) ≡ q * n + (n - 1) = omega (arith, inside, own, all) in
        let next : suc g + (n - 1 - k) ≡ (q + 1) * n + 0 = omega (arith, inside, own, all) in
        let before : turns_of n k g ≡ q = ap (λ (y : ℕ). y / n) now ∙ div-mul-add q n (n - 1) (omega (arith, inside)) in
        let behind : turns_of n k (suc g) ≡ q + 1 = ap (λ (y : ℕ). y / n) next ∙ div-mul-add (q + 1) n 0 (omega (arith, inside)) in
        omega (arith, before, behind)

one_turn : (n k g : ℕ) → k < n → one_if (k == g % n) + turns_of n k g ≤ turns_of n k (suc g)
one_turn n k g inside = elim (test (k == g % n)) [
  | inl own ↦ (let one = ap one_if own in let more = own_turn n k g inside ((eq_is k (g % n)).0 own) in omega (arith, one, more))
  | inr other ↦ (
      let none = ap one_if other in
      let more = no_fewer n (g + (n - 1 - k)) (omega (arith, inside)) in
      let next : turns_of n k (suc g) ≡ suc (g + (n - 1 - k)) / n = ap (λ (y : ℕ). y / n) (let same : suc g + (n - 1 - k) ≡ suc (g + (n - 1 - k)) = omega arith in same) in
      omega (arith, none, more, next))
]

seals_are : (n k g : ℕ) → k < n → seals n k g ≤ turns_of n k g
seals_are n k zero inside = omega arith
seals_are n k (suc g) inside =
    let rest = seals_are n k g inside in
    let more = one_turn n k g inside in
    let next : one_if (k == bank_of_generation n (suc g)) ≡ one_if (k == g % n) = ap (λ (t : ℕ). one_if (k == t % n)) (let same : suc g - 1 ≡ g = omega arith in same) in
    omega (arith, rest, more, next)

-- THE START-UPS OF A HISTORY
found_is : (e : Entry) → start_ups_in e ≡ one_if (is_found e)
found_is (Ask caller r reply) = refl
found_is (Pick block kind t ops) = refl
found_is (Wrote i mark ops) = refl
found_is (Post block r given refused ops) = refl
found_is (Off ops) = refl
found_is (Found marks ops) = refl

founds_are : (h : List Entry) → founds h ≡ count_by is_found h
founds_are [] = refl
founds_are (e ∷ h) =
    let rest = founds_are h in
    let one = found_is e in
    let all : count_by is_found (e ∷ h) ≡ one_if (is_found e) + count_by is_found h = sum_by-cons (λ (x : Entry). one_if (is_found x)) e h in
    omega (arith, rest, one, all)

-- THEIR CAUSES
-- none was made
none_erased : (m : Making) (k : ℕ) (operations : List Change) → operations ≡ [] → count_by (λ x. erases_first m k x.op) operations ≡ 0
none_erased m k operations none = rw none refl

module _ (r : Run) (begins : BeginsUnused r) (before : PartTold) (now : DeviceTold) (k : ℕ) (promise : PromiseOfEither r) (started : HasStarted r.history) (tells : TellsRestarts r before now) (inside : k < (making_of r.configuration).banks) where
  abbrev m : Making
  m = making_of r.configuration

  -- the operations that failed, and the switches that began again
  abbrev failed : ℕ
  failed = count_by (λ x. is_failed x.answer) r.flash.operations

  abbrev again : ℕ
  again = begun_again m false r.flash.operations

  -- the generations of the bank
  abbrev turns : ℕ
  turns = turns_of m.banks k (generation_of m begins.tells.last)

  few : count_by (λ x. erases_first m k x.op) r.flash.operations ≤ turns + 1 + failed + again
  few =
      let all = runs_erase_few r begins k promise started inside in
      let own = seals_are m.banks k (generation_of m begins.tells.last) inside in
      omega (arith, all, own)

  by : RestartsAreFew m r.flash.operations now → HasCausedErases r begins.tells k
  by (inl less) = record {
    faults = now.first.faults;
    counted = tells.faults now.first.faults (inl (let none = tells.none in omega (arith, none)));
    few = (let all = few in let starts = tells.starts in let same = founds_are r.history in omega (arith, all, less, starts, same));
  }
  by (inr (inl full)) = record { faults = failed + again; counted = tells.faults (failed + again) (inr full); few = (let all = few in omega (arith, all)) }
  by (inr (inr none)) = record { faults = 0; counted = tells.faults 0 (inl (let first = tells.none in omega (arith, first))); few = (let all = none_erased m k r.flash.operations none in omega (arith, all)) }

pub erases_have_causes : ErasesHaveCauses
erases_have_causes r begins before now k promise started tells inside = by r begins before now k promise started tells inside tells.restarts

-- such a flash is sound at first
pub starts_sound : (r : Run) (begins : BeginsUnused r) → StartsSound (making_of r.configuration) r.flash
starts_sound r begins = subst (λ (o : Option (List ℕ)). IfSome o (IsSoundFlash (making_of r.configuration))) (sym begins.tells.entry) begins.unused.sound
