-- A Post of a program's result is paid for, as its failed tries are.
use Rattle.std.specs.Prelude.{find, unwrap_or, IsSome}
use Rattle.std.specs.List.{Contains}
use Rattle.std.proofs.Common.{◌≡◌, ◌≢◌, ℕ, zero, suc, ◌+◌, ◌*◌, ◌-◌, ◌≤◌, Bool, true, false, if◌then◌else◌, ◌⊎◌, List, [], ◌∷◌}
use Rattle.std.proofs.Common.{◌++◌, length, None, refl, sym, ap, ◌∙◌, subst, inl, inr, arith}
use Rattle.std.proofs.lemmas.Bool.{cases_Bool, false≢true}
use Rattle.std.proofs.Math.Nat.{mul-le-mul_right}
use Rattle.block_machine.specs.nv_base.Marks.{number_of}
use Rattle.memif.specs.Told as device
use Rattle.memif.specs.Told.{DeviceTold, Part, First, Second, part_at, part_of_block, PartTold}
use Rattle.memif.specs.Clock.{Clock}
use Rattle.block_machine.specs.Words.{JobKind, ReadJob, WriteJob, RestoreJob, EraseJob, InvalidateJob, ReadAllJob}
use Rattle.block_machine.specs.Words.{WriteAllJob, Entry, Post, Configuration}
use Rattle.block_machine.specs.State.{State, Job}
use Rattle.block_machine.specs.Blocks.{desc_of, job_block, kind_of, rank_of}
use Rattle.block_machine.specs.StartUp.{at_first}
use Rattle.block_machine.specs.Steps.{step, after, after_from}
use Rattle.block_machine.specs.Results.{Answer, Own, own_of, result_of, open_sets, failed_set, same_answer, took_none, unwritten}
use Rattle.block_machine.specs.Prices.{device_tries}
use Rattle.promise_blocks.specs.Payment.{Worn, IsExcused, ArePaid, IsPaid, price_for}
use Rattle.promise_blocks.specs.OverDevice.{is_of}
use Rattle.job_programs.specs.Program.{Program, works, next_in}
use Rattle.job_programs.specs.Laws.{failed_of}
use Rattle.job_programs.specs.Failures.{failed_tries}
use Rattle.block_laws.proofs.FailedSets.{failed_sets_are_least}
use Rattle.job_programs.proofs.Failures.{failed_are_open, tries_are_priced}
use Rattle.nvm_device_laws.proofs.Payments.{pays_free}
use Rattle.nvm_device_laws.specs.Tries.{IsWornOut, IsWornNext, TriesArePaid, IsProgramOf, PostsArePaid}

-- an entry whose price so many faults more pay, and one that is excused
pay_more : (of : ℕ → Bool) (c : Configuration) (worn : Worn) (n m : ℕ) (s : State) (es : List Entry) (e : Entry)
    → price_for of c (after_from c s es) e ≤ m → ArePaid of c worn n s es → ArePaid of c worn (n + m) s (es ++ e ∷ [])
pay_more of c worn n m s [] e cheap paid = inl (omega (arith, cheap), tt)
pay_more of c worn n m s (x ∷ es) e cheap (inl (first, rest)) =
    let left : n - price_for of c s x + m ≡ n + m - price_for of c s x = omega (arith, first) in
    inl (
      omega (arith, first),
      subst (λ (k : ℕ). ArePaid of c worn k (step c s x) (es ++ e ∷ [])) left
          (pay_more of c worn (n - price_for of c s x) m (step c s x) es e cheap rest),
    )
pay_more of c worn n m s (x ∷ es) e cheap (inr (excused, rest)) = inr (excused, pay_more of c worn n m (step c s x) es e cheap rest)

pay_excused : (of : ℕ → Bool) (c : Configuration) (worn : Worn) (n : ℕ) (s : State) (es : List Entry) (e : Entry)
    → IsExcused c worn (after_from c s es) e → ArePaid of c worn n s es → ArePaid of c worn n s (es ++ e ∷ [])
pay_excused of c worn n s [] e excused paid = inr (excused, tt)
pay_excused of c worn n s (x ∷ es) e excused (inl (first, rest)) = inl
    (first, pay_excused of c worn (n - price_for of c s x) (step c s x) es e excused rest)
pay_excused of c worn n s (x ∷ es) e excused (inr (other, rest)) = inr (other, pay_excused of c worn n (step c s x) es e excused rest)

-- where one failed set is left open it is the least
least_is : (test : List ℕ → Bool) (xs failed : List ℕ) → Contains (xs ∷ []) failed → IsSome (find test (xs ∷ []))
    → unwrap_or (find test (xs ∷ [])) [] ≡ failed
least_is test xs failed (zero, few, is) some = elim (cases_Bool (test xs)) [
  | inl on ↦ rw on is
  | inr off ↦ absurd (false≢true (rw off at some))
]
least_is test xs failed (suc k, few, is) some = absurd (omega (arith, few))

least_by : (o : Own) (j : Job) (answer : Answer) (kind : JobKind) (failed : List ℕ) → kind ≢ ReadJob
    → works kind ≡ true → Contains (open_sets o j kind) failed
    → IsSome (find (λ xs. same_answer (result_of o j xs) answer) (open_sets o j kind))
    → unwrap_or (find (λ xs. same_answer (result_of o j xs) answer) (open_sets o j kind)) [] ≡ failed
least_by o j answer ReadJob failed writes at has some = absurd (writes refl)
least_by o j answer WriteJob failed writes at has some = least_is (λ xs. same_answer (result_of o j xs) answer)
    (if took_none j.taken then [] else unwritten o j) failed has some
least_by o j answer EraseJob failed writes at has some = least_is (λ xs. same_answer (result_of o j xs) answer)
    (if took_none j.taken then [] else unwritten o j) failed has some
least_by o j answer InvalidateJob failed writes at has some = least_is (λ xs. same_answer (result_of o j xs) answer)
    (if took_none j.taken then [] else unwritten o j) failed has some
least_by o j answer RestoreJob failed writes at has some = cc
least_by o j answer ReadAllJob failed writes at has some = cc
least_by o j answer WriteAllJob failed writes at has some = cc

module _ (c : Configuration)
    (s : State) (j : Job) (p : Program) (is : IsProgramOf c s j p) (over : next_in p ≡ None) where
  abbrev own : Own
  own = own_of c s (job_block j)

  abbrev failed : List ℕ
  failed = failed_of p.indices p.done

  is_open : Contains (open_sets own j (kind_of j)) failed
  is_open = failed_are_open own j p is.own is.shape is.kind is.works is.fits over is.took is.written

  explained : IsSome (failed_set own j (result_of own j failed))
      × (length (unwrap_or (failed_set own j (result_of own j failed)) []) ≤ length failed)
  explained = failed_sets_are_least c s j failed is_open

  tries : device_tries (desc_of c (job_block j)) (kind_of j) ≡ p.retries + 1
  tries = let kind = ap (device_tries (desc_of c (job_block j))) is.kind in let price = tries_are_priced
      (desc_of c (job_block j)) p.kind in let retries = is.retries in omega (arith, kind, price, retries)

  -- its price is at most its failed tries
  cheap : device_tries (desc_of c (job_block j)) (kind_of j) * length
      (unwrap_or (failed_set own j (result_of own j failed)) []) ≤ failed_tries p
  cheap =
      let times = mul-le-mul_right (p.retries + 1) explained.1 in
      let same : device_tries (desc_of c (job_block j)) (kind_of j) * length
      (unwrap_or (failed_set own j (result_of own j failed)) []) ≡ (p.retries + 1) * length
      (unwrap_or (failed_set own j (result_of own j failed)) []) =
      ap (λ (n : ℕ). n * length (unwrap_or (failed_set own j (result_of own j failed)) [])) tries in
      omega (arith, times, same)

  price : (of : ℕ → Bool) (ops : ℕ) → price_for of c s (Post (job_block j) (result_of own j failed).0 (result_of own j failed).1 0 ops) ≤ failed_tries p
  price of ops = elim (cases_Bool (of (job_block j))) [
    | inl on ↦ rw (on, is.hand) cheap
    | inr off ↦ rw off (omega arith)
  ]

  excuse : (worn : Worn) (bound ops index : ℕ) → bound ≤ ops → Contains failed index → IsWornOut worn (rank_of c j).immediate bound p index
      → IsExcused c worn s (Post (job_block j) (result_of own j failed).0 (result_of own j failed).1 0 ops)
  excuse worn bound ops index small has (writes, (moment, by_then, out)) =
      let kind : kind_of j ≢ ReadJob = λ same. writes (sym is.kind ∙ same) in
      let works_so : works (kind_of j) ≡ true = ap works is.kind ∙ is.works in
      let same : unwrap_or (failed_set own j (result_of own j failed)) [] ≡ failed = least_by own j
      (result_of own j failed) (kind_of j) failed kind works_so is_open explained.0 in (
        j,
        is.hand,
        is.writes writes,
        record {
          index = index;
          failed = subst (λ (xs : List ℕ). Contains xs index) (sym same) has;
          moment = moment;
          by_then = omega (arith, by_then, small);
          is = subst (λ (b : ℕ). worn moment (number_of (record { block = b; index = index })) (rank_of c j).immediate) is.block out;
        },
      )

-- the Post of a block of the other part
pays_other : (p q : Part) (f : device.Fixed) (block : ℕ) → part_of_block f block ≡ q → (q ≡ p → ⊥) → is_of p f block ≡ false
pays_other First First f block of other = absurd (other refl)
pays_other Second Second f block of other = absurd (other refl)
pays_other First Second f block of other = rw of refl
pays_other Second First f block of other = rw of refl

not_first : Second ≡ First → ⊥
not_first is = cc

not_second : First ≡ Second → ⊥
not_second is = cc

parts_apart : (p q : Part) → (q ≡ p) ⊎ (q ≡ p → ⊥)
parts_apart First First = inl refl
parts_apart Second Second = inl refl
parts_apart First Second = inr not_first
parts_apart Second First = inr not_second

abbrev PaidAt : (Part → PartTold) → DeviceTold → Clock → Configuration → Part → List Entry → Type 0
PaidAt before d clock c q es = IsPaid (is_of q d.fixed) c clock.worn (before q).faults (part_at q d).faults es

pub posts_are_paid : (d : DeviceTold) (clock : Clock) → PostsArePaid d clock
posts_are_paid d clock c cap h before j p r given is over answer keeps paid =
    subst (λ (a : Answer). (q : Part) → PaidAt before d clock c q (h ++ Post (job_block j) a.0 a.1 0 (device.ops_of d) ∷ [])) (sym answer)
    (λ q. elim (parts_apart q own) [
      | inl same ↦ subst (λ (x : Part). PaidAt before d clock c x (h ++ Post (job_block j) a.0 a.1 0 (device.ops_of d) ∷ [])) same (by paid)
      | inr other ↦
          let none : is_of q d.fixed (job_block j) ≡ false = pays_other q own d.fixed (job_block j) (ap (part_of_block d.fixed) (sym is.block)) other in
          pays_free (is_of q d.fixed) c clock.worn (before q).faults (part_at q d).faults h (Post (job_block j) a.0 a.1 0 (device.ops_of d)) (rw none refl) (keeps.over.paid q)
    ])
  where
    own : Part
    own = part_of_block d.fixed p.block

    a : Answer
    a = result_of (own_of c (after c h) (job_block j)) j (failed_of p.indices p.done)

    by : TriesArePaid c clock.worn (rank_of c j).immediate before d h p
        → PaidAt before d clock c own (h ++ Post (job_block j) a.0 a.1 0 (device.ops_of d) ∷ [])
    by (inl (faults, counted, pay)) = record {
      faults = faults + failed_tries p;
      counted = counted;
      pay = pay_more (is_of own d.fixed) c clock.worn faults (failed_tries p) at_first h (Post (job_block j) a.0 a.1 0 (device.ops_of d))
          (price c (after c h) j p is over (is_of own d.fixed) (device.ops_of d)) pay;
    }
    by (inr (inl (rest, next))) = absurd (subst (IsWornNext clock.worn (rank_of c j).immediate d.ops p) over next)
    by (inr (inr (index, has, out))) = record {
      faults = (keeps.over.paid own).faults;
      counted = (keeps.over.paid own).counted;
      pay = pay_excused (is_of own d.fixed) c clock.worn (keeps.over.paid own).faults at_first h (Post (job_block j) a.0 a.1 0 (device.ops_of d))
          (excuse c (after c h) j p is over clock.worn d.ops
          (device.ops_of d) index (omega arith) has out) (keeps.over.paid own).pay;
    }
