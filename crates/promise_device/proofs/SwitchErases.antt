-- How often switches erase the first sector of a bank.
use Rattle.std.specs.Prelude.{IsTrue, ◌&&◌, ◌||◌, ◌==◌, not, nat_lt, if◌then◌else◌, count_by}
use Rattle.std.proofs.Common.{◌≡◌, ◌⊎◌, inl, inr, ◌↔◌, ◌<◌, ◌≤◌, ◌+◌, ◌-◌, ◌*◌, ◌/◌, ◌%◌, ◌++◌, ◌∷◌, ℕ, zero, suc, Bool, true, false, List, [], refl, sym, ap, ◌∙◌, subst, arith}
use Rattle.std.proofs.Math.Nat.{mod-lt}
use Rattle.std.proofs.lemmas.Bool.{false≢true}
use Rattle.std.proofs.lemmas.List.Sums.{sum_by_push}
use Rattle.std.proofs.lemmas.Nat.{div-add-mod', div-mul-add, mod-mul-add}
use Rattle.fls_model.specs.Op.{Op, Program}
use Rattle.fls_model.specs.Told.{Change}
use Rattle.fee_format.proofs.Tests.{eq_is, lt_is}
use Rattle.promise_device.specs.Making.{Making}
use Rattle.promise_device.specs.Wear.{is_failed, bank_of_op}
use Rattle.promise_device.specs.Generations.{bank_of_generation}
use Rattle.promise_device.specs.SwitchErases.{one_if, seals, SealsAreEven, erases_first, begins_switch, ends_switch, has_begun, begun_again}

pub test : (b : Bool) → (b ≡ true) ⊎ (b ≡ false)
test true = inl refl
test false = inr refl

-- THE GENERATIONS OF A BANK
-- the bank of the next generation
next_bank : (banks g : ℕ) → bank_of_generation banks (suc g) ≡ g % banks
next_bank banks g = ap (λ (n : ℕ). n % banks) (let same : suc g - 1 ≡ g = omega arith in same)

one_or_none : (b : Bool) → one_if b ≤ 1
one_or_none true = omega arith
one_or_none false = omega arith

-- so many whole rounds, and one more of the banks at the front
rounds : (n k g : ℕ) → k < n → seals n k g ≡ g / n + one_if (nat_lt k (g % n))
rounds n k zero inside =
    let all = div-add-mod' 0 n in
    let q : 0 / n ≡ 0 = small (0 / n) all in
    let r : 0 % n ≡ 0 = omega (arith, all) in
    sym at_none ∙ sym (λ i. q i + one_if (nat_lt k (r i)))
  where
    small : (q : ℕ) → q * n + 0 % n ≡ 0 → q ≡ 0
    small zero all = refl
    small (suc q) all = absurd (let one : suc q * n ≡ q * n + n = omega arith in omega (arith, inside, all, one))

    none : one_if (nat_lt k 0) ≡ 0
    none = elim (test (nat_lt k 0)) [ inl is ↦ absurd (let lt = (lt_is k 0).0 is in omega (arith, lt)) | inr other ↦ ap one_if other ]

    at_none : 0 + one_if (nat_lt k 0) ≡ 0
    at_none = omega (arith, none)
rounds n k (suc g) inside =
    let rest = rounds n k g inside in
    let all = div-add-mod' g n in
    let less : g % n < n = mod-lt g (omega (arith, inside)) in
    by (g / n) (g % n) (seals n k g) all less rest
  where
    by : (q r old : ℕ) → q * n + r ≡ g → r < n → old ≡ q + one_if (nat_lt k r) → one_if (k == bank_of_generation n (suc g)) + old ≡ suc g / n + one_if (nat_lt k (suc g % n))
    by q r old all less rest = elim (test (r + 1 == n)) [
      | inl end ↦
          let at : r + 1 ≡ n = (eq_is (r + 1) n).0 end in
          let one : (q + 1) * n ≡ q * n + n = omega arith in
          let whole : suc g ≡ (q + 1) * n + 0 = omega (arith, all, at, one) in
          let q' : suc g / n ≡ q + 1 = ap (λ (x : ℕ). x / n) whole ∙ div-mul-add (q + 1) n 0 (omega (arith, less)) in
          let r' : suc g % n ≡ 0 = ap (λ (x : ℕ). x % n) whole ∙ mod-mul-add (q + 1) n 0 (omega (arith, less)) in
          ap (λ (x : ℕ). one_if (k == x) + old) (next_bank n g ∙ ap (λ (x : ℕ). x % n) (sym all) ∙ mod-mul-add q n r less)
          ∙ at_end q r old at less rest
          ∙ sym (λ i. q' i + one_if (nat_lt k (r' i)))
      | inr within ↦
          let other : r + 1 ≡ n → ⊥ = λ e. (let is = (eq_is (r + 1) n).1 e in false≢true (sym within ∙ is)) in
          let lower : r + 1 < n = omega (arith, less, other) in
          let whole : suc g ≡ q * n + (r + 1) = omega (arith, all) in
          let q' : suc g / n ≡ q = ap (λ (x : ℕ). x / n) whole ∙ div-mul-add q n (r + 1) lower in
          let r' : suc g % n ≡ r + 1 = ap (λ (x : ℕ). x % n) whole ∙ mod-mul-add q n (r + 1) lower in
          ap (λ (x : ℕ). one_if (k == x) + old) (next_bank n g ∙ ap (λ (x : ℕ). x % n) (sym all) ∙ mod-mul-add q n r less)
          ∙ in_round q r old rest
          ∙ sym (λ i. q' i + one_if (nat_lt k (r' i)))
    ]
      where
        sums : (r : ℕ) (below here more : Bool) → IsTrue below ↔ (k < r) → IsTrue here ↔ (k ≡ r) → IsTrue more ↔ (k < r + 1) → one_if here + one_if below ≡ one_if more
        sums r true true more b h m = absurd (let lt = b.0 refl in let e = h.0 refl in omega (arith, lt, e))
        sums r true false true b h m = refl
        sums r true false false b h m = absurd (let lt = b.0 refl in false≢true (m.1 (omega (arith, lt))))
        sums r false true true b h m = refl
        sums r false true false b h m = absurd (let e = h.0 refl in false≢true (m.1 (omega (arith, e))))
        sums r false false true b h m = absurd (let lt = m.0 refl in let never : k < r → ⊥ = (λ x. false≢true (b.1 x)) in let ne : k ≡ r → ⊥ = (λ x. false≢true (h.1 x)) in omega (arith, lt, never, ne))
        sums r false false false b h m = refl

        in_round : (q r old : ℕ) → old ≡ q + one_if (nat_lt k r) → one_if (k == r) + old ≡ q + one_if (nat_lt k (r + 1))
        in_round q r old rest = let all = sums r (nat_lt k r) (k == r) (nat_lt k (r + 1)) (lt_is k r) (eq_is k r) (lt_is k (r + 1)) in omega (arith, rest, all)

        at_end : (q r old : ℕ) → r + 1 ≡ n → r < n → old ≡ q + one_if (nat_lt k r) → one_if (k == r) + old ≡ q + 1 + one_if (nat_lt k 0)
        at_end q r old at less rest =
            let all = sums r (nat_lt k r) (k == r) (nat_lt k (r + 1)) (lt_is k r) (eq_is k r) (lt_is k (r + 1)) in
            let within : nat_lt k (r + 1) ≡ true = (lt_is k (r + 1)).1 (omega (arith, inside, at)) in
            let one : one_if (nat_lt k (r + 1)) ≡ 1 = ap one_if within in
            let none : one_if (nat_lt k 0) ≡ 0 = elim (test (nat_lt k 0)) [ inl is ↦ absurd (let lt = (lt_is k 0).0 is in omega (arith, lt)) | inr other ↦ ap one_if other ] in
            omega (arith, rest, all, one, none)

pub seals_are_even : SealsAreEven
seals_are_even banks j k g one two =
    let a = rounds banks j g one in
    let b = rounds banks k g two in
    let most = one_or_none (nat_lt j (g % banks)) in
    omega (arith, a, b, most)

pub seals_next : (banks k g : ℕ) → seals banks k (g + 1 + 1) ≡ one_if (k == (g + 1) % banks) + seals banks k (g + 1)
seals_next banks k g =
    let same : g + 1 + 1 ≡ suc (g + 1) = omega arith in
    ap (seals banks k) same ∙ ap (λ (x : ℕ). one_if (k == x) + seals banks k (g + 1)) (next_bank banks (g + 1))

-- ONE OPERATION MORE
pub begun_push : (m : Making) (before : Bool) (xs : List Change) (x : Change) → has_begun m before (xs ++ x ∷ []) ≡ has_begun m (has_begun m before xs) (x ∷ [])
begun_push m before [] x = refl
begun_push m before (y ∷ ys) x = begun_push m (has_begun m before (y ∷ [])) ys x

pub again_push : (m : Making) (before : Bool) (xs : List Change) (x : Change) → begun_again m before (xs ++ x ∷ []) ≡ begun_again m before xs + one_if (has_begun m before xs && begins_switch m x.op)
again_push m before [] x = omega arith
again_push m before (y ∷ ys) x = let rest = again_push m (has_begun m before (y ∷ [])) ys x in omega (arith, rest)

module _ (m : Making) where
  abbrev firsts : ℕ → List Change → ℕ
  firsts k xs = count_by (λ x. erases_first m k x.op) xs

  abbrev failures : List Change → ℕ
  failures xs = count_by (λ x. is_failed x.answer) xs

  firsts_push : (k : ℕ) (xs : List Change) (x : Change) → firsts k (xs ++ x ∷ []) ≡ firsts k xs + one_if (erases_first m k x.op)
  firsts_push k xs x = sum_by_push (λ (y : Change). one_if (erases_first m k y.op)) xs x

  pub failures_push : (xs : List Change) (x : Change) → failures (xs ++ x ∷ []) ≡ failures xs + one_if (is_failed x.answer)
  failures_push xs x = sum_by_push (λ (y : Change). one_if (is_failed y.answer)) xs x

  -- where none has begun the next one is to come
  abbrev to_come : Bool → ℕ → ℕ → ℕ
  to_come begun k g = one_if (not begun && (k == g % m.banks))

  -- of bank k, where the active generation is g
  pub record AreFew (xs : List Change) (k g : ℕ) : Type 0 where
    pub few : firsts k xs + to_come (has_begun m false xs) k g ≤ seals m.banks k (g + 1) + failures xs + begun_again m false xs

  -- an erase of bank k's first sector begins a switch where it is of that bank
  none_begins : (k : ℕ) (op : Op) → begins_switch m op ≡ false → (IsTrue (erases_first m k op) → bank_of_op m.geometry m.banks op ≡ k) → erases_first m k op ≡ false
  none_begins k op none own = elim (test (erases_first m k op)) [
    | inr other ↦ other
    | inl is ↦ absurd (false≢true (sym none ∙ subst (λ (b : ℕ). erases_first m b op ≡ true) (sym (own is)) is))
  ]

  begun_by : (before failed begins ends : Bool) → Bool
  begun_by before failed begins ends = not failed && (begins || (not ends && before))

  -- neither begins a switch nor ends one
  stays_few : (before failed next : Bool) (k g : ℕ) → to_come (not failed && (false || (not false && before))) k g ≤ to_come before k g + one_if failed
  stays_few before true next k g = let most = one_or_none (k == g % m.banks) in omega (arith, most)
  stays_few true false next k g = omega arith
  stays_few false false next k g = omega arith

  pub goes_few : (xs : List Change) (x : Change) (k g : ℕ) → begins_switch m x.op ≡ false → ends_switch m x.op x.answer ≡ false → (IsTrue (erases_first m k x.op) → bank_of_op m.geometry m.banks x.op ≡ k) → AreFew xs k g → AreFew (xs ++ x ∷ []) k g
  goes_few xs x k g none still_on own are =
      let before = has_begun m false xs in
      let now : has_begun m false (xs ++ x ∷ []) ≡ (not (is_failed x.answer) && (false || (not false && before))) =
      begun_push m false xs x ∙ (λ i. not (is_failed x.answer) && (none i || (not (still_on i) && before))) in
      let come : to_come (has_begun m false (xs ++ x ∷ [])) k g ≡ to_come (not (is_failed x.answer) && (false || (not false && before))) k g = ap (λ (b : Bool). to_come b k g) now in
      let still = stays_few before (is_failed x.answer) true k g in
      let f = firsts_push k xs x in
      let f0 : one_if (erases_first m k x.op) ≡ 0 = ap one_if (none_begins k x.op none own) in
      let a = again_push m false xs x in
      let e = failures_push xs x in
      let few = are.few in
      record { few = omega (arith, come, still, f, f0, a, e, few) }

  -- one more erase of the first sector of the next bank
  begins_few_by : (before failed : Bool) (k g first : ℕ) (of : Bool) → first ≡ one_if of → (IsTrue of → IsTrue (k == g % m.banks))
      → first + to_come (not failed && (true || (not false && before))) k g ≤ to_come before k g + one_if failed + one_if (before && true)
  begins_few_by true true k g first of is next = let most = one_or_none (k == g % m.banks) in let one = one_or_none of in omega (arith, most, one, is)
  begins_few_by true false k g first of is next = let one = one_or_none of in omega (arith, one, is)
  begins_few_by false true k g first true is next = (let here : one_if (k == g % m.banks) ≡ 1 = ap one_if (next refl) in omega (arith, is, here))
  begins_few_by false true k g first false is next = omega (arith, is)
  begins_few_by false false k g first true is next = (let here : one_if (k == g % m.banks) ≡ 1 = ap one_if (next refl) in omega (arith, is, here))
  begins_few_by false false k g first false is next = omega (arith, is)

  pub begins_few : (xs : List Change) (x : Change) (k g : ℕ) → begins_switch m x.op ≡ true → ends_switch m x.op x.answer ≡ false → (IsTrue (erases_first m k x.op) → IsTrue (k == g % m.banks)) → AreFew xs k g → AreFew (xs ++ x ∷ []) k g
  begins_few xs x k g begins still_on next are =
      let before = has_begun m false xs in
      let now : has_begun m false (xs ++ x ∷ []) ≡ (not (is_failed x.answer) && (true || (not false && before))) =
      begun_push m false xs x ∙ (λ i. not (is_failed x.answer) && (begins i || (not (still_on i) && before))) in
      let come : to_come (has_begun m false (xs ++ x ∷ [])) k g ≡ to_come (not (is_failed x.answer) && (true || (not false && before))) k g = ap (λ (b : Bool). to_come b k g) now in
      let still = begins_few_by before (is_failed x.answer) k g (one_if (erases_first m k x.op)) (erases_first m k x.op) refl next in
      let f = firsts_push k xs x in
      let a : begun_again m false (xs ++ x ∷ []) ≡ begun_again m false xs + one_if (before && true) = again_push m false xs x ∙ ap (λ (b : Bool). begun_again m false xs + one_if (before && b)) begins in
      let e = failures_push xs x in
      let few = are.few in
      record { few = omega (arith, come, still, f, a, e, few) }

  -- behind a program the next generation is active
  none_more : (before : Bool) (k : ℕ) → one_if (before && false) ≡ 0
  none_more true k = refl
  none_more false k = refl

  pub sealed_few : (xs : List Change) (x : Change) (k g address : ℕ) (page : List ℕ) → x.op ≡ Program address page → AreFew xs k g → AreFew (xs ++ x ∷ []) k (g + 1)
  sealed_few xs x k g address page op are =
      let before = has_begun m false xs in
      let after = has_begun m false (xs ++ x ∷ []) in
      let come : to_come after k (g + 1) ≤ one_if (k == (g + 1) % m.banks) = either after in
      let more = seals_next m.banks k g in
      let f = firsts_push k xs x in
      let f0 : one_if (erases_first m k x.op) ≡ 0 = ap (λ (o : Op). one_if (erases_first m k o)) op in
      let a = again_push m false xs x in
      let e = failures_push xs x in
      let few = are.few in
      record { few = omega (arith, come, more, f, f0, a, e, few) }
    where
      either : (b : Bool) → to_come b k (g + 1) ≤ one_if (k == (g + 1) % m.banks)
      either true = omega arith
      either false = omega arith

  -- before all operations
  pub begins_none : (k g : ℕ) → g ≡ 0 → k < m.banks → AreFew [] k g
  begins_none k g none inside =
      let zeroth : g % m.banks ≡ 0 = ap (λ (n : ℕ). n % m.banks) none ∙ at_zero in
      let first : seals m.banks k (g + 1) ≡ one_if (k == 0 % m.banks) + 0 = ap (λ (n : ℕ). seals m.banks k (n + 1)) none ∙ ap (λ (x : ℕ). one_if (k == x) + 0) (next_bank m.banks 0) in
      let same : one_if (k == g % m.banks) ≡ one_if (k == 0 % m.banks) = ap (λ (n : ℕ). one_if (k == n % m.banks)) none in
      record { few = omega (arith, first, same) }
    where
      at_zero : 0 % m.banks ≡ 0
      at_zero = (let all = div-add-mod' 0 m.banks in omega (arith, all))

  pub few_at_end : (xs : List Change) (k g : ℕ) → AreFew xs k g → firsts k xs ≤ seals m.banks k g + 1 + failures xs + begun_again m false xs
  few_at_end xs k g are =
      let few = are.few in
      let same : g + 1 ≡ suc g = omega arith in
      let more : seals m.banks k (g + 1) ≡ one_if (k == bank_of_generation m.banks (suc g)) + seals m.banks k g = ap (seals m.banks k) same in
      let most = one_or_none (k == bank_of_generation m.banks (suc g)) in
      omega (arith, few, more, most)
