-- What pays for the failed tries of a program.
use Rattle.std.specs.Prelude.{slice_get}
use Rattle.std.specs.List.{Contains, list_any}
use Rattle.std.proofs.Common.{◌≡◌, ◌⊎◌, ℕ, zero, suc, ◌+◌, ◌*◌, ◌≤◌, Bool, true, false, if◌then◌else◌, List, []}
use Rattle.std.proofs.Common.{◌∷◌, ◌++◌, length, Option, Some, None, refl, sym, ap, ◌∙◌, subst, inl, inr, arith}
use Rattle.std.proofs.lemmas.Bool.{cases_Bool}
use Rattle.block_machine.specs.nv_base.Count.{WereCounted, Rose}
use Rattle.memif.specs.Told.{DeviceTold, part_of_block}
use Rattle.memif.specs.Clock.{Clock}
use Rattle.block_machine.specs.Words.{Outcome, Entry, Ask, Pick, Wrote, Post, Off, Found, Configuration}
use Rattle.block_machine.specs.State.{State}
use Rattle.block_machine.specs.StartUp.{at_first}
use Rattle.block_machine.specs.Steps.{after_from}
use Rattle.promise_blocks.specs.Payment.{Worn, IsPaid, price_for}
use Rattle.promise_blocks.specs.OverDevice.{TellsAtMost, is_of}
use Rattle.job_programs.specs.Program as program
use Rattle.job_programs.specs.Program.{Program, next_in, is_failed, is_again, tried, settles}
use Rattle.job_programs.specs.Laws.{failed_of}
use Rattle.job_programs.specs.Failures.{failed_tries}
use Rattle.job_programs.proofs.Failures.{tries_are_counted}
use Rattle.nvm_device_laws.specs.Tries.{Counted, IsWornOut, ArePaidWith, tries_of_done, IsWornNext, AreTriesPaid, TriesBegin, TriesStayWith, is_post, counted_at, counted_from}
use Rattle.nvm_device_laws.proofs.Payments.{paid_on, no_price}

-- A PROGRAM THAT BEGINS
none_failed : (is : List ℕ) → failed_of is [] ≡ []
none_failed [] = refl
none_failed (i ∷ is) = refl

pub no_tries : (p : Program) → p.done ≡ [] → p.failures ≡ 0 → failed_tries p ≡ 0
no_tries p done failures =
    let none : length (failed_of p.indices p.done) ≡ 0 = ap
    (λ (os : List Outcome). length (failed_of p.indices os)) done ∙ ap length (none_failed p.indices) in
    let times : (p.retries + 1) * length (failed_of p.indices p.done) ≡ (p.retries + 1) * 0 = ap (λ (n : ℕ). (p.retries + 1) * n) none in
    omega (arith, times, failures)

paid_at_begin : (of : ℕ → Bool) (c : Configuration) (worn : Worn) (urgent : Bool) (before now : Counted) (h : List Entry) (p : Program)
    → p.done ≡ [] → p.failures ≡ 0 → IsPaid of c worn before.faults now.faults h → AreTriesPaid of c worn urgent before now h p
paid_at_begin of c worn urgent before now h p done failures paid =
    let none = no_tries p done failures in
    let same : paid.faults + failed_tries p ≡ paid.faults = omega (arith, none) in
    inl (paid.faults, subst (λ (n : ℕ). WereCounted n before.faults now.faults) (sym same) paid.counted, paid.pay)

pub tries_begin : (d : DeviceTold) (clock : Clock) → TriesBegin d clock
tries_begin d clock c urgent h before p done failures paid =
    let q = part_of_block d.fixed p.block in
    paid_at_begin (is_of q d.fixed) c clock.worn urgent (counted_from (before q)) (counted_at q d) h p done failures (paid q)

-- AN ENTRY MORE
free : (of : ℕ → Bool) (c : Configuration) (s : State) (e : Entry) → is_post e ≡ false → price_for of c s e ≡ 0
free of c s (Ask caller r reply) other = refl
free of c s (Pick block kind t ops) other = refl
free of c s (Wrote i mark ops) other = refl
free of c s (Post block r given refused ops) other = cc
free of c s (Off ops) other = refl
free of c s (Found marks ops) other = refl

module _ (of : ℕ → Bool) (c : Configuration) (worn : Worn) (urgent : Bool) (before now : Counted) (h : List Entry) (e : Entry) (other : is_post e ≡ false) where
  with_entry : (n : ℕ) → ArePaidWith of c worn before.faults now.faults h n → ArePaidWith of c worn before.faults now.faults (h ++ e ∷ []) n
  with_entry n (faults, counted, paid) =
      (faults, counted, no_price of c worn faults at_first h e (free of c (after_from c at_first h) e other) paid)

  paid_with : (p : Program) → AreTriesPaid of c worn urgent before now h p → AreTriesPaid of c worn urgent before now (h ++ e ∷ []) p
  paid_with p (inl paid) = inl (with_entry (failed_tries p) paid)
  paid_with p (inr (inl (paid, next))) = inr (inl (with_entry (tries_of_done p) paid, next))
  paid_with p (inr (inr worn_out)) = inr (inr worn_out)

pub tries_stay_with : (d : DeviceTold) (clock : Clock) → TriesStayWith d clock
tries_stay_with d clock c urgent h before p e other paid =
    let q = part_of_block d.fixed p.block in
    paid_with (is_of q d.fixed) c clock.worn urgent (counted_from (before q)) (counted_at q d) h e other p paid

-- ONE INSTANCE BEFORE THE OTHERS
stays_by : (t : Bool) (i : ℕ) (xs ys : List ℕ) (index : ℕ) → (Contains xs index → Contains ys index)
    → Contains (if t then i ∷ xs else xs) index → Contains (if t then i ∷ ys else ys) index
stays_by true i xs ys index more (zero, few, is_it) = (zero, omega arith, is_it)
stays_by true i xs ys index more (suc k, few, is_it) = let (n, less, at) = more (k, omega (arith, few), is_it) in
    (suc n, omega (arith, less), at)
stays_by false i xs ys index more has = more has

same_by : (t : Bool) (i : ℕ) (xs ys : List ℕ) → ys ≡ xs → (if t then i ∷ ys else ys) ≡ (if t then i ∷ xs else xs)
same_by true i xs ys same = ap (λ (zs : List ℕ). i ∷ zs) same
same_by false i xs ys same = same

now_by : (t : Bool) (i : ℕ) (ys : List ℕ) (index : ℕ) → Contains ys index → Contains (if t then i ∷ ys else ys) index
now_by true i ys index (n, less, is_it) = (suc n, omega (arith, less), is_it)
now_by false i ys index has = has

-- ON ANOTHER COUNT
fewer : (n m before now new : ℕ) → m ≤ n → now ≤ new → WereCounted n before now → WereCounted m before new
fewer n m before now new less grows (inl few) = inl (omega (arith, few, less, grows))
fewer n m before now new less grows (inr full) = inr (omega (arith, full, grows))

one_more : (n before now new : ℕ) → Rose now new → WereCounted n before now → WereCounted (n + 1) before new
one_more n before now new (inl rose) (inl few) = inl (omega (arith, rose, few))
one_more n before now new (inl rose) (inr full) = inr (omega (arith, rose, full))
one_more n before now new (inr (last, grows)) counted = inr (omega (arith, last, grows))

module _ (of : ℕ → Bool) (c : Configuration) (worn other : Worn) (urgent : Bool) (before now new : Counted) (h : List Entry)
    (ops : now.ops ≤ new.ops) (grows : now.faults ≤ new.faults)
    (more : (k n : ℕ) (b : Bool) → k ≤ now.ops → worn k n b → other k n b) (tells : TellsAtMost now.ops h) where
  with_on : (n m : ℕ) → m ≤ n → ArePaidWith of c worn before.faults now.faults h n → ArePaidWith of c other before.faults new.faults h m
  with_on n m less (faults, counted, paid) = (
    faults,
    fewer (faults + n) (faults + m) before.faults now.faults new.faults
        (omega (arith, less)) grows counted,
    paid_on of c worn other now.ops more faults at_first h tells paid,
  )

  with_one : (n m : ℕ) → m ≤ n + 1 → Rose now.faults new.faults → ArePaidWith of c worn before.faults now.faults h n
      → ArePaidWith of c other before.faults new.faults h m
  with_one n m less rose (faults, counted, paid) = (
    faults,
    fewer (faults + n + 1) (faults + m) before.faults new.faults new.faults (omega (arith, less)) (omega arith)
        (one_more (faults + n) before.faults now.faults new.faults rose counted),
    paid_on of c worn other now.ops more faults at_first h tells paid,
  )

  worn_on : (p : Program) (index : ℕ) → IsWornOut worn urgent now.ops p index → IsWornOut other urgent new.ops p index
  worn_on p index (writes, (moment, by_then, is)) = (writes, (moment, omega (arith, by_then, ops), more moment _ urgent by_then is))

  next_on : (p : Program) (next : Option ℕ) → IsWornNext worn urgent now.ops p next → IsWornNext other urgent new.ops p next
  next_on p (Some index) is = worn_on p index is
  next_on p None is = absurd is

  pub tries_stay : (p : Program) → AreTriesPaid of c worn urgent before now h p → AreTriesPaid of c other urgent before new h p
  tries_stay p (inl paid) = inl (with_on (failed_tries p) (failed_tries p) (omega arith) paid)
  tries_stay p (inr (inl (paid, next))) = inr
      (inl (with_on (tries_of_done p) (tries_of_done p) (omega arith) paid, next_on p (next_in p) next))
  tries_stay p (inr (inr (index, has, is))) = inr (inr (index, has, worn_on p index is))

  -- AN OUTCOME MORE
  -- of an instance that failed, and of one that didn't
  failed_stays : (is : List ℕ) (os : List Outcome) (o : Outcome) (index : ℕ) → Contains (failed_of is os) index
      → Contains (failed_of is (os ++ o ∷ [])) index
  failed_stays [] os o index has = has
  failed_stays (i ∷ is) [] o index (k, few, is_it) = absurd (omega (arith, few))
  failed_stays (i ∷ is) (x ∷ os) o index has = stays_by (is_failed x) i (failed_of is os)
      (failed_of is (os ++ o ∷ [])) index (λ more. failed_stays is os o index more) has

  fine_stays : (is : List ℕ) (os : List Outcome) (o : Outcome) → is_failed o ≡ false → failed_of is (os ++ o ∷ []) ≡ failed_of is os
  fine_stays [] os o fine = refl
  fine_stays (i ∷ []) [] o fine = rw fine refl
  fine_stays (i ∷ j ∷ is) [] o fine = rw fine refl
  fine_stays (i ∷ is) (x ∷ os) o fine = same_by (is_failed x) i (failed_of is os) (failed_of is (os ++ o ∷ [])) (fine_stays is os o fine)

  failed_now : (is : List ℕ) (os : List Outcome) (o : Outcome) (index : ℕ) → is_failed o ≡ true
      → slice_get is (length os) ≡ Some index → Contains (failed_of is (os ++ o ∷ [])) index
  failed_now [] os o index failed at = cc
  failed_now (i ∷ is) [] o index failed at = let same : i ≡ index = cc in rw failed (zero, omega arith, same)
  failed_now (i ∷ is) (x ∷ os) o index failed at = now_by (is_failed x) i (failed_of is (os ++ o ∷ [])) index
      (failed_now is os o index failed at)

  next_slice : (b : Bool) (o : Option ℕ) (index : ℕ) → (if b then None else o) ≡ Some index → o ≡ Some index
  next_slice true o index is = cc
  next_slice false o index is = is

  -- the instance that is next is worn out, and a try of it failed
  worn_failed : (p : Program) (o : Outcome) (index : ℕ) → next_in p ≡ Some index → is_failed o ≡ true
      → ArePaidWith of c other before.faults new.faults h (tries_of_done p)
      → IsWornOut other urgent new.ops p index → AreTriesPaid of c other urgent before new h (tried p o)
  worn_failed p o index at failed paid is = elim (cases_Bool (is_again o p.failures p.retries)) [
    | inl again ↦ rw again (inr (inl (paid, rw at is)))
    | inr done ↦ rw done (inr
        (inr (
          index,
          failed_now p.indices p.done o index failed
              (next_slice (list_any (settles p.kind) p.done) (slice_get p.indices (length p.done)) index at),
          is,
        )))
  ]

  -- one that failed at every try is worn out
  worn_stays : (p : Program) (o : Outcome) (index : ℕ) → Contains (failed_of p.indices p.done) index
      → IsWornOut other urgent new.ops p index → AreTriesPaid of c other urgent before new h (tried p o)
  worn_stays p o index has is = elim (cases_Bool (is_again o p.failures p.retries)) [
    | inl again ↦ rw again (inr (inr (index, has, is)))
    | inr done ↦ rw done (inr (inr (index, failed_stays p.indices p.done o index has, is)))
  ]

  next_worn : (p : Program) (index : ℕ) → next_in p ≡ Some index → IsWornNext worn urgent now.ops p (next_in p) → IsWornOut other urgent new.ops p index
  next_worn p index at is = worn_on p index (rw at at is)

  fine_again : (p : Program) (o : Outcome) → is_failed o ≡ false → is_again o p.failures p.retries ≡ false
  fine_again p o fine = rw fine refl

  tries_fine : (p : Program) (o : Outcome) → is_failed o ≡ false → AreTriesPaid of c worn urgent before now h p
      → AreTriesPaid of c other urgent before new h (tried p o)
  tries_fine p o fine paid =
      let rest : tries_of_done p + 0 ≡ (p.retries + 1) * length (failed_of p.indices (p.done ++ o ∷ [])) + 0 =
      ap (λ (xs : List ℕ). (p.retries + 1) * length xs + 0) (sym (fine_stays p.indices p.done o fine)) in
      by rest paid
    where
      by : tries_of_done p + 0 ≡ (p.retries + 1) * length (failed_of p.indices (p.done ++ o ∷ [])) + 0
          → AreTriesPaid of c worn urgent before now h p → AreTriesPaid of c other urgent before new h (tried p o)
      by rest (inl paid) = rw (fine_again p o fine)
          (inl (with_on (failed_tries p) ((p.retries + 1) * length (failed_of p.indices (p.done ++ o ∷ [])) + 0)
          (omega (arith, rest)) paid))
      by rest (inr (inl (paid, next))) = rw (fine_again p o fine)
          (inl (with_on (tries_of_done p) ((p.retries + 1) * length (failed_of p.indices (p.done ++ o ∷ [])) + 0)
          (omega (arith, rest)) paid))
      by rest (inr (inr (index, has, is))) = worn_stays p o index has (worn_on p index is)

  rose_failed : (p : Program) (o : Outcome) (index : ℕ) → next_in p ≡ Some index
      → program.after p o ≡ tried p o → is_failed o ≡ true → p.failures ≤ p.retries → Rose now.faults new.faults
      → AreTriesPaid of c worn urgent before now h p → AreTriesPaid of c other urgent before new h (tried p o)
  rose_failed p o index at same failed few rose (inl paid) =
      let most = subst (λ (q : Program). failed_tries q ≤ failed_tries p + (if is_failed o then 1 else 0)) same (tries_are_counted p o few).1 in
      let one : ◌≡◌ {A = ℕ} (if is_failed o then 1 else 0) 1 = ap (λ (b : Bool). if b then 1 else 0) failed in
      let less : failed_tries (tried p o) ≤ failed_tries p + 1 = omega (arith, most, one) in
      inl (with_one (failed_tries p) (failed_tries (tried p o)) less rose paid)
  rose_failed p o index at same failed few rose (inr (inl (paid, next))) =
      worn_failed p o index at failed (with_on (tries_of_done p) (tries_of_done p) (omega arith) paid) (next_worn p index at next)
  rose_failed p o index at same failed few rose (inr (inr (other_index, has, is))) =
      worn_stays p o other_index has (worn_on p other_index is)

  out_failed : (p : Program) (o : Outcome) (index : ℕ) → next_in p ≡ Some index → is_failed o ≡ true
      → IsWornOut other urgent new.ops p index → AreTriesPaid of c worn urgent before now h p → AreTriesPaid of c other urgent before new h (tried p o)
  out_failed p o index at failed out (inl paid) = worn_failed p o index at failed
      (with_on (failed_tries p) (tries_of_done p) (omega arith) paid) out
  out_failed p o index at failed out (inr (inl (paid, next))) = worn_failed p o index at failed
      (with_on (tries_of_done p) (tries_of_done p) (omega arith) paid) out
  out_failed p o index at failed out (inr (inr (other_index, has, is))) = worn_stays p o other_index has (worn_on p other_index is)

  pub tries_go_on : (p : Program) (o : Outcome) (index : ℕ) → next_in p ≡ Some index
      → program.after p o ≡ tried p o → p.failures ≤ p.retries
      → (is_failed o ≡ true → Rose now.faults new.faults ⊎ IsWornOut other urgent new.ops p index)
      → AreTriesPaid of c worn urgent before now h p → AreTriesPaid of c other urgent before new h (program.after p o)
  tries_go_on p o index at same few cause paid = subst (AreTriesPaid of c other urgent before new h) (sym same)
      (elim (cases_Bool (is_failed o)) [
        | inl failed ↦ elim (cause failed) [
          | inl rose ↦ rose_failed p o index at same failed few rose paid
          | inr out ↦ out_failed p o index at failed out paid
        ]
        | inr fine ↦ tries_fine p o fine paid
      ])
