-- Runs that break the promise by what they say caused a failure or a cut.
use Rattle.std.specs.Prelude.{Contains, unwrap_or}
use Rattle.std.specs.Option.{option_map_or}
use Rattle.std.proofs.Common.{◌≡◌, ◌⊎◌, ◌+◌, ℕ, zero, suc, ◌<◌, ◌≤◌, Bool, true, false, IsTrue, List, [], ◌∷◌, ◌++◌, take, replicate, Option, Some, None, refl, sym, ap, subst, inl, inr, arith}
use Rattle.block_machine.specs.nv_base.Count.{WereCounted}
use Rattle.block_machine.specs.nv_base.Marks.{number_of}
use Rattle.block_machine.specs.Words.{NotOk}
use Rattle.block_machine.specs.State.{Job}
use Rattle.block_machine.specs.Blocks.{rank_of}
use Rattle.block_machine.specs.Results.{own_of, failed_set}
use Rattle.block_machine.specs.Steps.{after}
use Rattle.block_machine.specs.StartUp.{at_first}
use Rattle.promise_blocks.specs.Payment.{Worn, ArePaid, every_block}
use Rattle.fee_format.specs.declared.bank_head.BankHead.{BankHead}
use Rattle.fee_image.specs.RecordList.{IsTailBlank, IsClosed, end_of}
use Rattle.fee_image.specs.Image.{bank_in}
use Rattle.promise_device.specs.Making.{banks_of}
use Rattle.promise_device.specs.Image.{HasNoRoomFor}
use Rattle.promise_device.specs.Bridge.{may_be_closed, IsWornOut}
use Rattle.promise_run.specs.Run.{DueCut, CutsExplain}
use Rattle.promise_run.specs.Promise.{FailuresArePaid, making_of}
use Rattle.promise_run.proofs.WrongMarks.{only_zero}
use Rattle.promise_run.specs.Cases.{small, one, tried_twice, image_of, record_of, taken, off_without_a_cut, cut_within, cut_twice, failed_behind, beside_immediate, worn_but_roomy, worn_but_kept, worn_long_ago, worn_and_full}

keep_of : Option DueCut → ℕ
keep_of (Some p) = p.keep
keep_of None = 0

due_of : Option DueCut → ℕ
due_of (Some p) = p.due
due_of None = 0

first_of : List ℕ → ℕ
first_of (k ∷ ks) = k
first_of [] = 0

few_counted : (n m : ℕ) → m ≤ 1 → WereCounted n 0 m → n ≤ m
few_counted n m few (inl is) = omega (arith, is)
few_counted n m few (inr full) = omega (arith, full, few)

-- CUTS
none_counted : (n others : ℕ) → others ≡ suc n → WereCounted others 0 0 → ⊥
none_counted n others is counted = let few = few_counted others 0 (omega arith) counted in omega (arith, few, is)

pub no_off_without_a_cut : CutsExplain off_without_a_cut.course off_without_a_cut.history [] 0 0 → ⊥
no_off_without_a_cut (others, inl (p, rest, plan, due, keeps, more), counted) = cc plan
no_off_without_a_cut (others, inr (n, is, rest), counted) = none_counted n others is counted

-- a cut that lets another number of bytes be done than the step said isn't planned, nor is one that comes too soon
pub not_15 : CutsExplain (cut_within 1 15).course (cut_within 1 15).history (15 ∷ []) 0 0 → ⊥
unfolding keep_of first_of
not_15 (others, inl (p, rest, plan, due, keeps, more), counted) = let is : p.keep ≡ 16 = ap keep_of (sym plan) in let kept : 15 ≡ p.keep = ap first_of keeps in omega (arith, is, kept)
not_15 (others, inr (n, is, rest), counted) = none_counted n others is counted

pub just_16 : CutsExplain (cut_within 1 16).course (cut_within 1 16).history (16 ∷ []) 0 0
just_16 = (0, inl (_, [], refl, inl (omega arith), refl, (refl, refl)), inl (omega arith))

pub not_too_soon : CutsExplain (cut_within 2 16).course (cut_within 2 16).history (16 ∷ []) 0 0 → ⊥
unfolding due_of
not_too_soon (others, inl (p, rest, plan, inl due, keeps, more), counted) = let is : p.due ≡ 2 = ap due_of (sym plan) in omega (arith, is, due)
not_too_soon (others, inl (p, rest, plan, inr last, keeps, more), counted) = omega (arith, last)
not_too_soon (others, inr (n, is, rest), counted) = none_counted n others is counted

-- one plan is of one cut alone
pub not_twice : CutsExplain cut_twice.course cut_twice.history (16 ∷ 16 ∷ []) 0 0 → ⊥
not_twice (others, inl (p, rest, plan, due, keeps, inl (q, ks, none, soon, again, more)), counted) = cc none
not_twice (others, inl (p, rest, plan, due, keeps, inr (n, is, more)), counted) = none_counted n others is counted
not_twice (others, inr (n, is, more), counted) = none_counted n others is counted

-- THE WORN BANK
abbrev roomy : List ℕ
roomy = image_of 4294967295 (replicate 128 255)

all_blank : IsTailBlank (bank_in (banks_of (making_of small)) 2 0) roomy 2
all_blank zero low high = absurd (omega (arith, low))
all_blank (suc zero) low high = absurd (omega (arith, low))
all_blank (suc (suc zero)) low high = refl
all_blank (suc (suc (suc zero))) low high = refl
all_blank (suc (suc (suc (suc zero)))) low high = refl
all_blank (suc (suc (suc (suc (suc zero))))) low high = refl
all_blank (suc (suc (suc (suc (suc (suc zero)))))) low high = refl
all_blank (suc (suc (suc (suc (suc (suc (suc zero))))))) low high = refl
all_blank (suc (suc (suc (suc (suc (suc (suc (suc zero)))))))) low high = refl
all_blank (suc (suc (suc (suc (suc (suc (suc (suc (suc zero))))))))) low high = refl
all_blank (suc (suc (suc (suc (suc (suc (suc (suc (suc (suc q)))))))))) low high = absurd (omega (arith, high))

abbrev head : BankHead
head = record { format = 2; generation = 4294967295 }

abbrev Full : ℕ × BankHead → Type 0
Full x = IsClosed (bank_in (banks_of (making_of small)) x.1.format x.0) roomy (end_of (bank_in (banks_of (making_of small)) x.1.format x.0) roomy)
    ⊎ (10 < end_of (bank_in (banks_of (making_of small)) x.1.format x.0) roomy + 4)

not_full : Full (0, head) → ⊥
not_full (inl (inl other)) = other refl
not_full (inl (inr closed)) = closed all_blank
not_full (inr few) = let f : 10 < 6 = few in omega arith

same_pair : (x y : ℕ × BankHead) → Some x ≡ Some y → x ≡ y
same_pair x y is = cc

has_room : HasNoRoomFor 4 (making_of small) roomy → ⊥
has_room (k, h, active, why) =
    let same : (0, head) ≡ (k, h) = same_pair (0, head) (k, h) active in
    not_full (subst Full (sym same) why)

-- the job's one instance is 0
instance_is : (j : Job) (index : ℕ) → (after tried_twice taken).hand ≡ Some j → Contains (unwrap_or (failed_set (own_of tried_twice (after tried_twice taken) 2) j (NotOk, None)) []) index → index ≡ 0
instance_is j index hand has =
    let is : unwrap_or (after tried_twice taken).hand j ≡ j = ap (λ (o : Option Job). unwrap_or o j) hand in
    only_zero index (subst (λ (x : Job). Contains (unwrap_or (failed_set (own_of tried_twice (after tried_twice taken) 2) x (NotOk, None)) []) index) (sym is) has)

none_failed : (moment : ℕ) → IsTrue (may_be_closed (take moment [])) → ⊥
none_failed zero failed = cc failed
none_failed (suc n) failed = cc failed

not_worn : (moment index : ℕ) → moment ≤ 0 → index ≡ 0 → IsWornOut (making_of tried_twice) worn_but_roomy.flash moment (number_of (record { block = 2; index = index })) false → ⊥
not_worn moment index soon is worn =
    let there : IsWornOut (making_of tried_twice) worn_but_roomy.flash moment 128 false =
    subst (λ (i : ℕ). IsWornOut (making_of tried_twice) worn_but_roomy.flash moment (number_of (record { block = 2; index = i })) false) is worn in
    elim (there.full (record { first = _; entry = refl; last = _; exit = refl }) (omega (arith, soon))) [
      | inl full ↦ has_room full
      | inr (rose, failed) ↦ none_failed moment failed
    ]

-- nor is it behind a program that failed before the last erase: at each moment an erase follows, or none failed since
not_worn_by : (moment : ℕ) → moment ≤ 2 → IsWornOut (making_of tried_twice) worn_long_ago.flash moment 128 false → ⊥
not_worn_by zero soon worn = elim (worn.full (record { first = _; entry = refl; last = _; exit = refl }) (omega arith)) [ inl full ↦ has_room full | inr (rose, closed) ↦ cc closed ]
not_worn_by (suc zero) soon worn = let none = worn.no_erase (omega arith) in cc none
not_worn_by (suc (suc zero)) soon worn = elim (worn.full (record { first = _; entry = refl; last = _; exit = refl }) (omega arith)) [ inl full ↦ has_room full | inr (rose, closed) ↦ cc closed ]
not_worn_by (suc (suc (suc n))) soon worn = absurd (omega (arith, soon))

not_worn_long_ago : (moment index : ℕ) → moment ≤ 2 → index ≡ 0 → IsWornOut (making_of tried_twice) worn_long_ago.flash moment (number_of (record { block = 2; index = index })) false → ⊥
not_worn_long_ago moment index soon is worn = not_worn_by moment soon (subst (λ (i : ℕ). IsWornOut (making_of tried_twice) worn_long_ago.flash moment (number_of (record { block = 2; index = i })) false) is worn)

unpaid : (worn : Worn) (ops n : ℕ) → n ≤ 1 → ((moment index : ℕ) → moment ≤ ops → index ≡ 0 → worn moment (number_of (record { block = 2; index = index })) false → ⊥)
    → ArePaid every_block tried_twice worn n at_first (failed_behind [] ops []).history → ⊥
unpaid worn ops n is never (inr (none, rest)) = none
unpaid worn ops n is never (inl (p0, inr (none, rest))) = none
unpaid worn ops n is never (inl (p0, inl (p1, inr (none, rest)))) = none
unpaid worn ops n is never (inl (p0, inl (p1, inl (p2, inl (p3, rest))))) = omega (arith, p3, is)
unpaid worn ops n is never (inl (p0, inl (p1, inl (p2, inr ((j, hand, some, was), rest))))) =
    let standard : false ≡ (rank_of tried_twice j).immediate = ap (λ (o : Option Job). option_map_or (λ x. (rank_of tried_twice x).immediate) o false) hand in
    never was.moment was.index was.by_then (instance_is j was.index hand was.failed)
    (subst (λ (b : Bool). worn was.moment (number_of (record { block = 2; index = was.index })) b) (sym standard) was.is)

pub no_worn_but_roomy : FailuresArePaid worn_but_roomy → ⊥
no_worn_but_roomy paid = unpaid _ 0 paid.faults (few_counted paid.faults 1 (omega arith) paid.counted) not_worn paid.pay

pub no_worn_long_ago : FailuresArePaid worn_long_ago → ⊥
no_worn_long_ago paid = unpaid _ 2 paid.faults (few_counted paid.faults 1 (omega arith) paid.counted) not_worn_long_ago paid.pay

-- THE PAGES THAT ARE KEPT
-- four pages are free, which is room for an immediate write's record
abbrev kept : List ℕ
kept = image_of 4294967295 (record_of 77 one ++ replicate 64 255)

kept_blank : IsTailBlank (bank_in (banks_of (making_of (beside_immediate 0))) 2 0) kept 6
kept_blank zero low high = absurd (omega (arith, low))
kept_blank (suc zero) low high = absurd (omega (arith, low))
kept_blank (suc (suc zero)) low high = absurd (omega (arith, low))
kept_blank (suc (suc (suc zero))) low high = absurd (omega (arith, low))
kept_blank (suc (suc (suc (suc zero)))) low high = absurd (omega (arith, low))
kept_blank (suc (suc (suc (suc (suc zero))))) low high = absurd (omega (arith, low))
kept_blank (suc (suc (suc (suc (suc (suc zero)))))) low high = refl
kept_blank (suc (suc (suc (suc (suc (suc (suc zero))))))) low high = refl
kept_blank (suc (suc (suc (suc (suc (suc (suc (suc zero)))))))) low high = refl
kept_blank (suc (suc (suc (suc (suc (suc (suc (suc (suc zero))))))))) low high = refl
kept_blank (suc (suc (suc (suc (suc (suc (suc (suc (suc (suc q)))))))))) low high = absurd (omega (arith, high))

abbrev LacksFour : ℕ × BankHead → Type 0
LacksFour x = IsClosed (bank_in (banks_of (making_of (beside_immediate 0))) x.1.format x.0) kept (end_of (bank_in (banks_of (making_of (beside_immediate 0))) x.1.format x.0) kept)
    ⊎ (10 < end_of (bank_in (banks_of (making_of (beside_immediate 0))) x.1.format x.0) kept + 4)

has_four : LacksFour (0, head) → ⊥
has_four (inl (inl other)) = other refl
has_four (inl (inr closed)) = closed kept_blank
has_four (inr few) = let f : 10 < 10 = few in omega arith

has_kept : HasNoRoomFor 4 (making_of (beside_immediate 0)) kept → ⊥
has_kept (k, h, active, why) =
    let same : (0, head) ≡ (k, h) = same_pair (0, head) (k, h) active in
    has_four (subst LacksFour (sym same) why)

kept_instance : (j : Job) (index : ℕ) → (after (beside_immediate 0) taken).hand ≡ Some j → Contains (unwrap_or (failed_set (own_of (beside_immediate 0) (after (beside_immediate 0) taken) 2) j (NotOk, None)) []) index → index ≡ 0
kept_instance j index hand has =
    let is : unwrap_or (after (beside_immediate 0) taken).hand j ≡ j = ap (λ (o : Option Job). unwrap_or o j) hand in
    only_zero index (subst (λ (x : Job). Contains (unwrap_or (failed_set (own_of (beside_immediate 0) (after (beside_immediate 0) taken) 2) x (NotOk, None)) []) index) (sym is) has)

not_worn_for_it : (moment index : ℕ) → moment ≤ 0 → index ≡ 0 → IsWornOut (making_of (beside_immediate 0)) (worn_but_kept 0).flash moment (number_of (record { block = 2; index = index })) true → ⊥
not_worn_for_it moment index soon is worn =
    let there : IsWornOut (making_of (beside_immediate 0)) (worn_but_kept 0).flash moment 128 true =
    subst (λ (i : ℕ). IsWornOut (making_of (beside_immediate 0)) (worn_but_kept 0).flash moment (number_of (record { block = 2; index = i })) true) is worn in
    elim (there.full (record { first = _; entry = refl; last = _; exit = refl }) (omega (arith, soon))) [
      | inl full ↦ has_kept full
      | inr (rose, failed) ↦ none_failed moment failed
    ]

unpaid_at_once : (worn : Worn) (n : ℕ) → n ≤ 1 → ((moment index : ℕ) → moment ≤ 0 → index ≡ 0 → worn moment (number_of (record { block = 2; index = index })) true → ⊥)
    → ArePaid every_block (beside_immediate 0) worn n at_first (worn_but_kept 0).history → ⊥
unpaid_at_once worn n is never (inr (none, rest)) = none
unpaid_at_once worn n is never (inl (p0, inr (none, rest))) = none
unpaid_at_once worn n is never (inl (p0, inl (p1, inr (none, rest)))) = none
unpaid_at_once worn n is never (inl (p0, inl (p1, inl (p2, inl (p3, rest))))) = omega (arith, p3, is)
unpaid_at_once worn n is never (inl (p0, inl (p1, inl (p2, inr ((j, hand, some, was), rest))))) =
    let immediate : true ≡ (rank_of (beside_immediate 0) j).immediate = ap (λ (o : Option Job). option_map_or (λ x. (rank_of (beside_immediate 0) x).immediate) o false) hand in
    never was.moment was.index was.by_then (kept_instance j was.index hand was.failed)
    (subst (λ (b : Bool). worn was.moment (number_of (record { block = 2; index = was.index })) b) (sym immediate) was.is)

pub no_worn_but_kept : FailuresArePaid (worn_but_kept 0) → ⊥
no_worn_but_kept paid = unpaid_at_once _ paid.faults (few_counted paid.faults 1 (omega arith) paid.counted) not_worn_for_it paid.pay

-- a standard write's has none
pub kept_is_worn : FailuresArePaid (worn_but_kept 1)
kept_is_worn = record {
  faults = 0;
  counted = inl (omega arith);
  pay = inl (
    omega arith,
    inl (
      omega arith,
      inl (
        omega arith,
        inr (
          (
            _,
            refl,
            refl,
            record {
              index = 0;
              failed = (0, omega arith, refl);
              moment = 0;
              by_then = omega arith;
              is = record { last = (0, _, refl, refl); no_erase = λ few. refl; full = λ told few. inl (0, _, refl, inr (omega arith)) };
            },
          ),
          tt,
        ),
      ),
    ),
  );
}

pub full_is_worn : FailuresArePaid worn_and_full
full_is_worn = record {
  faults = 0;
  counted = inl (omega arith);
  pay = inl (
    omega arith,
    inl (
      omega arith,
      inl (
        omega arith,
        inr (
          (
            _,
            refl,
            refl,
            record {
              index = 0;
              failed = (0, omega arith, refl);
              moment = 0;
              by_then = omega arith;
              is = record { last = (0, _, refl, refl); no_erase = λ few. refl; full = λ told few. inl (0, _, refl, inr (omega arith)) };
            },
          ),
          tt,
        ),
      ),
    ),
  );
}
