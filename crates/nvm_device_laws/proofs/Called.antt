-- What the calls of a device keep.
use Rattle.std.proofs.Common.{◌≡◌, ◌⊎◌, ℕ, ◌≤◌, ◌<◌, true, List, [], ◌∷◌, ◌++◌, refl, sym, ap, ◌∙◌, subst, inl, arith, Bool}
use Rattle.block_machine.specs.nv_base.Count.{last_count, next_count}
use Rattle.memif.specs.Told as device
use Rattle.memif.specs.Told.{DeviceTold, Part, Held, part_at, PartTold}
use Rattle.memif.specs.Clock.{Clock, SameClock, After, ArePossible}
use Rattle.memif.proofs.Turning.{past_same}
use Rattle.block_machine.specs.Words.{Instance, Mark, Entry, Ask, Pick, Wrote, Post, Off, Found, Configuration}
use Rattle.block_machine.specs.State.{State}
use Rattle.block_machine.specs.Steps.{step, after}
use Rattle.block_machine.specs.Legal.{IsAllowed}
use Rattle.promise_blocks.specs.Payment.{IsPaid, price_for}
use Rattle.promise_blocks.specs.Counts.{count_due}
use Rattle.promise_blocks.specs.Marks.{Lists, marks_in}
use Rattle.promise_blocks.specs.OverDevice.{HasStarted, BeginsBefore, HasOffAt, is_of}
use Rattle.block_laws.proofs.HistoryLaws.{histories_step}
use Rattle.nvm_device_laws.specs.Pairing.{Allows, Agrees, Pairs}
use Rattle.nvm_device_laws.specs.Turn.{Keeps, IsBase, is_plain, IsTimed, Pays, EntriesKeep, BeginsKept}
use Rattle.nvm_device_laws.proofs.Pairings as pairs
use Rattle.nvm_device_laws.proofs.Payments.{pays_free}
use Rattle.nvm_device_laws.proofs.Writes.{due_plain, found_plain}
use Rattle.nvm_device_laws.proofs.Pushed.{Goes, base_called, most_of, most_called, most_pushed, over_of, device_on, begins_push, off_before}

-- BEFORE THE FIRST START-UP
pub begins_kept : (d : DeviceTold) (clock : Clock) → BeginsKept d clock
begins_kept d clock c cap before same is fresh = record {
  device = is;
  over = record {
    cut = λ k held small within finds. absurd (omega (arith, within, fresh.ops));
    found = λ marks ops held has small finds. absurd (omega (arith, has.1));
    counts = λ k ops found held small within finds last was. absurd (omega (arith, within, fresh.ops));
    at_end = λ held started small finds. absurd started;
    legal = tt;
    paid = λ p. record { faults = 0; counted = inl (let e = same p in omega (arith, e)); pay = tt };
    begins = tt;
    counted = λ e ops has is. absurd (omega (arith, has.1));
    off = λ k off. absurd (fresh.on k off);
  };
  few = omega (arith, fresh.ops);
  base = λ n. 0;
  based = λ ops found none small was. absurd (cc none);
  marks = λ started. absurd started;
  settled = λ started up. absurd started;
  finds = fresh.finds;
}

-- ENTRIES
plain_settles : (e : Entry) → is_plain e ≡ true → pairs.settles_none e ≡ true
plain_settles (Wrote i mark ops) plain = cc
plain_settles (Off ops) plain = cc
plain_settles (Found marks ops) plain = cc
plain_settles e plain = refl

no_found : (e : Entry) (marks : List (Instance × Mark)) (ops : ℕ) → is_plain e ≡ true → e ≡ Found marks ops → ⊥
no_found e marks ops plain is = let not_plain : is_plain (Found marks ops) ≡ true = subst (λ (x : Entry). is_plain x ≡ true) is plain in cc

module _ (c : Configuration) (cap : ℕ) (h : List Entry) (before : Part → PartTold) where
  abbrev PaidFor : DeviceTold → Clock → List Entry → Part → Type 0
  PaidFor d clock es p = IsPaid (is_of p d.fixed) c clock.worn (before p).faults (part_at p d).faults es

  paid_by : (d : DeviceTold) (clock : Clock) (e : Entry) → is_plain e ≡ true → Pays c before d clock h e
      → ((p : Part) → PaidFor d clock h p) → (p : Part) → PaidFor d clock (h ++ e ∷ []) p
  paid_by d clock (Ask caller r reply) plain pays paid = λ p. pays_free (is_of p d.fixed) c clock.worn (before p).faults (part_at p d).faults h
      (Ask caller r reply) refl (paid p)
  paid_by d clock (Pick block kind t ops) plain pays paid = λ p. pays_free (is_of p d.fixed) c clock.worn (before p).faults (part_at p d).faults h
      (Pick block kind t ops) refl (paid p)
  paid_by d clock (Wrote i mark ops) plain pays paid = cc
  paid_by d clock (Post block r given refused ops) plain pays paid = pays
  paid_by d clock (Off ops) plain pays paid = cc
  paid_by d clock (Found marks ops) plain pays paid = cc

  -- the state behind one entry more
  stepped : (P : State → Type 0) (e : Entry) → P (step c (after c h) e) → P (after c (h ++ e ∷ []))
  stepped P e is = subst P (sym (histories_step c h e)) is

  pub entry_keeps : (d : DeviceTold) (clock : Clock) (e : Entry) → HasStarted h → Keeps c cap h before d clock
      → is_plain e ≡ true → IsAllowed c cap (after c h) e → IsTimed d e
      → Pays c before d clock h e → Keeps c cap (h ++ e ∷ []) before d clock
  entry_keeps d clock e started keeps plain allowed timed pays =
      let most = most_pushed c cap h before d clock e keeps.device (most_of c cap h before d clock keeps.over) timed allowed
      (paid_by d clock e plain pays keeps.over.paid) (begins_push h e started keeps.over.begins)
      (λ marks ops held is small finds. absurd (no_found e marks ops plain is)) in
      let due : (n : ℕ) → count_due (h ++ e ∷ []) keeps.base n ≡ count_due h keeps.base n = λ n. due_plain h e keeps.base n (plain_settles e plain) in
      let marks : Pairs Allows c (after c (h ++ e ∷ [])) (count_due (h ++ e ∷ []) keeps.base) d.fixed.numbers d.slots =
      stepped (λ s. Pairs Allows c s (count_due (h ++ e ∷ []) keeps.base) d.fixed.numbers d.slots) e
      (pairs.pairs_due Allows c (step c (after c h) e) (count_due h keeps.base) (count_due (h ++ e ∷ []) keeps.base) d.fixed.numbers due d.slots
      (pairs.allows_entry c cap (after c h) (count_due h keeps.base) d.fixed.numbers e (plain_settles e plain) allowed d.slots
      (keeps.marks started))) in
      record {
        device = keeps.device;
        over = over_of c cap (h ++ e ∷ []) before d clock keeps.device most (count_due (h ++ e ∷ []) keeps.base) (λ now. marks) keeps.finds
            (λ k off. off_before h e (next_count k) (keeps.over.off k off));
        base = keeps.base;
        based = λ ops found is small was. keeps.based ops found (sym (found_plain h e (plain_settles e plain)) ∙ is) small was;
        marks = λ now. marks;
        settled = λ now up.
            stepped (λ s. Pairs Agrees c s (count_due (h ++ e ∷ []) keeps.base) d.fixed.numbers d.slots) e
            (pairs.pairs_due Agrees c (step c (after c h) e) (count_due h keeps.base) (count_due (h ++ e ∷ []) keeps.base) d.fixed.numbers due d.slots
            (pairs.agrees_entry c cap (after c h) (count_due h keeps.base) d.fixed.numbers e
            (plain_settles e plain) allowed d.slots (keeps.settled started up)));
        finds = keeps.finds;
        few = keeps.few;
      }

pub entries_keep : (d : DeviceTold) (clock : Clock) → EntriesKeep d clock
entries_keep d clock c cap h before e started keeps plain allowed timed pays =
    entry_keeps c cap h before d clock e started keeps plain allowed timed pays

-- CALLS
-- a call that makes no operation and adds no entry
module _ (c : Configuration) (cap : ℕ) (h : List Entry) (before : Part → PartTold) (old : DeviceTold)
    (clock : Clock) (new : DeviceTold) (clock_new : Clock)
    (keeps : Keeps c cap h before old clock) (goes : Goes old clock new clock_new) where
  pub call_keeps : HasStarted h ⊎ (new.ops ≡ old.ops) → ((k : ℕ) → clock_new.off_in k → clock.off_in k)
      → (HasStarted h → Pairs Allows c (after c h) (count_due h keeps.base) old.fixed.numbers new.slots)
      → (HasStarted h → new.started ≡ true → Pairs Agrees c (after c h) (count_due h keeps.base) old.fixed.numbers new.slots)
      → Keeps c cap h before new clock_new
  call_keeps started off allows agrees =
      let is = device_on c old new goes.fixed keeps.device in
      let numbers : new.fixed.numbers ≡ old.fixed.numbers = ap (λ (f : device.Fixed). f.numbers) goes.fixed in
      let due = count_due h keeps.base in
      let marks : HasStarted h
      → Pairs Allows c (after c h) due new.fixed.numbers new.slots = λ has. subst
      (λ ns. Pairs Allows c (after c h) due ns new.slots) (sym numbers) (allows has) in
      record {
        device = is;
        over = over_of c cap h before new clock_new is
            (most_called c cap h before old clock new clock_new keeps goes started) due marks goes.finds
            (λ k is_off. keeps.over.off k (off k is_off));
        base = keeps.base;
        based = base_called c cap h before old clock new clock_new keeps goes;
        marks = marks;
        settled = λ has up. subst (λ ns. Pairs Agrees c (after c h) due ns new.slots) (sym numbers) (agrees has up);
        finds = goes.finds;
        few = goes.few keeps.few;
      }

  -- one behind which an entry is added that has no price
  pub call_with : (e : Entry) → HasStarted h ⊎ (new.ops ≡ old.ops) → IsTimed new e → IsAllowed c cap (after c h) e
      → ((of : ℕ → Bool) (s : State) → price_for of c s e ≡ 0) → BeginsBefore (h ++ e ∷ [])
      → ((marks : List (Instance × Mark)) (ops : ℕ) (held : ℕ → Held) → e ≡ Found marks ops → ops < last_count
      → clock_new.may_find (After ops) held → Lists c marks (marks_in held))
      → ((k : ℕ) → clock_new.off_in k → HasOffAt (h ++ e ∷ []) (next_count k))
      → (base : ℕ → ℕ) → IsBase c (h ++ e ∷ []) base clock_new
      → Pairs Allows c (step c (after c h) e) (count_due (h ++ e ∷ []) base) old.fixed.numbers new.slots
      → (new.started ≡ true → Pairs Agrees c (step c (after c h) e) (count_due (h ++ e ∷ []) base) old.fixed.numbers new.slots)
      → Keeps c cap (h ++ e ∷ []) before new clock_new
  call_with e started timed allowed free begins news off base based allows agrees =
      let due = count_due (h ++ e ∷ []) base in
      let is = device_on c old new goes.fixed keeps.device in
      let numbers : new.fixed.numbers ≡ old.fixed.numbers = ap (λ (f : device.Fixed). f.numbers) goes.fixed in
      let most = most_called c cap h before old clock new clock_new keeps goes started in
      let pushed = most_pushed c cap h before new clock_new e is most timed allowed
      (λ p. pays_free (is_of p new.fixed) c clock_new.worn (before p).faults (part_at p new).faults h e (free (is_of p new.fixed) (after c h)) (most.paid p)) begins news in
      let marks : Pairs Allows c (after c (h ++ e ∷ [])) due new.fixed.numbers new.slots =
      stepped c cap h before (λ s. Pairs Allows c s due new.fixed.numbers new.slots) e
      (subst (λ ns. Pairs Allows c (step c (after c h) e) due ns new.slots) (sym numbers) allows) in
      record {
        device = is;
        over = over_of c cap (h ++ e ∷ []) before new clock_new is pushed due (λ now. marks) goes.finds off;
        base = base;
        based = based;
        marks = λ now. marks;
        settled = λ now up.
            stepped c cap h before (λ s. Pairs Agrees c s due new.fixed.numbers new.slots) e
            (subst (λ ns. Pairs Agrees c (step c (after c h) e) due ns new.slots) (sym numbers) (agrees up));
        finds = goes.finds;
        few = goes.few keeps.few;
      }

-- CALLS THAT LEAVE THE CLOCK
pub still : (old : DeviceTold) (clock : Clock) (new : DeviceTold) (clock_new : Clock) → new.fixed ≡ old.fixed
    → new.ops ≡ old.ops → ((p : Part) → (part_at p old).faults ≤ (part_at p new).faults)
    → SameClock clock clock_new
    → ((held : ℕ → Held) → clock_new.may_find (After new.ops) held → ArePossible new new.slots held)
    → Goes old clock new clock_new
still old clock new clock_new fixed ops faults same finds = record {
  fixed = fixed;
  ops = omega (arith, ops);
  few = λ small. omega (arith, ops, small);
  faults = faults;
  past = past_same old.ops clock clock_new same;
  cut = λ k held now within found. absurd (omega (arith, now, within, ops));
  finds = finds;
}
