-- Where nothing fails no result is one of a failure.
use Rattle.std.specs.Prelude.{IsSome, unwrap_or}
use Rattle.std.specs.List.{list_all}
use Rattle.std.specs.Option.{option_map_or}
use Rattle.std.proofs.Common.{◌≡◌, ◌<◌, ◌≤◌, ◌-◌, ◌*◌, ℕ, zero, suc, true, IsTrue, List, [], ◌∷◌, length, Option, Some, None, refl, subst, inl, inr, arith}
use Rattle.std.proofs.lemmas.Bool.{and_parts}
use Rattle.std.proofs.lemmas.Bool.Decides.{leb_tells}
use Rattle.std.proofs.Math.Nat.{le-mul_of_pos_right}
use Rattle.block_machine.specs.nv_base.Count.{Rose, WereCounted}
use Rattle.block_machine.specs.Words.{ReqResult, JobKind, ReadJob, Entry, Ask, Pick, Wrote, Post, Off, Found, BlockDesc, Configuration}
use Rattle.block_machine.specs.State.{State, Job}
use Rattle.block_machine.specs.Blocks.{job_block, kind_of}
use Rattle.block_machine.specs.StartUp.{at_first}
use Rattle.block_machine.specs.Results.{own_of, failed_set}
use Rattle.block_machine.specs.Prices.{device_tries, faults_of}
use Rattle.block_machine.specs.Legal.{IsAllowed, IsLegal, IsLegalFrom, MayPost}
use Rattle.block_machine.specs.Steps.{step}
use Rattle.promise_blocks.specs.Payment.{Worn, IsExcused, price_for, ArePaid, IsPaid, every_block}
use Rattle.promise_run.specs.Completeness.{is_calm_entry, EachEntry, PostsWell}

-- NO FAULT PAYS
none_counted : (n a b : ℕ) → a ≤ b → ¬ Rose a b → WereCounted n a b → n ≤ 0
none_counted n a b less none counted = elim (leb_tells b a) [
  | inl same ↦ elim counted [ inl more ↦ let stays = same.1 in omega (arith, more, stays) | inr full ↦ absurd (none (inr (let stays = same.1 in omega (arith, full, stays), less))) ]
  | inr rose ↦ absurd (none (inl (let more = rose.1 in omega (arith, more))))
]

-- each operation has a try
some_tries : (d : BlockDesc) (kind : JobKind) → 0 < device_tries d kind
some_tries d ReadJob = omega arith
some_tries d kind = omega arith

-- so a failed set without a price is empty
no_set : (tries : ℕ) (failed : Option (List ℕ)) → 0 < tries → IsSome failed → tries * length (unwrap_or failed []) ≤ 0 → failed ≡ Some []
no_set tries None some is free = cc is
no_set tries (Some []) some is free = refl
no_set tries (Some (x ∷ xs)) some is free =
    let count : 0 < length (x ∷ xs) = omega arith in
    let less = le-mul_of_pos_right {m = length (x ∷ xs)} tries count in absurd (omega (arith, less, free, some))

module _ (c : Configuration) (cap : ℕ) (worn : Worn) where
  post_well : (s : State) (block : ℕ) (r : ReqResult) (given : Option (List ℕ)) (ops : ℕ) → MayPost c s block (r, given) 0 s.hand → option_map_or (λ j. faults_of (own_of c s (job_block j)) (r, given) j) s.hand 0 ≤ 0
      → (j : Job) → s.hand ≡ Some j → failed_set (own_of c s (job_block j)) j (r, given) ≡ Some []
  post_well s block r given ops may free j hand =
      let of_j = subst (λ (h : Option Job). MayPost c s block (r, given) 0 h) hand may in
      let price = subst (λ (h : Option Job). option_map_or (λ k. faults_of (own_of c s (job_block k)) (r, given) k) h 0 ≤ 0) hand free in
      elim of_j.results [
        | inl table ↦ no_set (device_tries (own_of c s (job_block j)).desc (kind_of j)) (failed_set (own_of c s (job_block j)) j (r, given)) (some_tries (own_of c s (job_block j)).desc (kind_of j)) table.1 price
        | inr copies ↦ let all = copies.each_try in absurd (omega (arith, all))
      ]

  well : (s : State) (e : Entry) → IsAllowed c cap s e → is_calm_entry e ≡ true → price_for every_block c s e ≤ 0 → PostsWell c worn s e
  well s (Post block r given zero ops) is calm free = inl (post_well s block r given ops is.1 free)
  well s (Post block r given (suc refused) ops) is calm free = absurd (cc calm)
  well s (Ask caller r reply) is calm free = tt
  well s (Pick block kind t ops) is calm free = tt
  well s (Wrote i mark ops) is calm free = tt
  well s (Off ops) is calm free = tt
  well s (Found marks ops) is calm free = tt

  excused : (s : State) (e : Entry) → IsExcused c worn s e → PostsWell c worn s e
  excused s (Post block r given refused ops) is = inr is
  excused s (Ask caller r reply) is = tt
  excused s (Pick block kind t ops) is = tt
  excused s (Wrote i mark ops) is = tt
  excused s (Off ops) is = tt
  excused s (Found marks ops) is = tt

  each_well : (n : ℕ) (s : State) (es : List Entry) → n ≤ 0 → IsLegalFrom c cap s es → IsTrue (list_all is_calm_entry es) → ArePaid every_block c worn n s es → EachEntry c (PostsWell c worn) s es
  each_well n s [] none legal calm paid = tt
  each_well n s (e ∷ es) none (is, rest) calm paid =
      let (here, further) = and_parts (is_calm_entry e) (list_all is_calm_entry es) calm in
      elim paid [
        | inl (few, more) ↦ (well s e is here (omega (arith, few, none)), each_well (n - price_for every_block c s e) (step c s e) es (omega (arith, none)) rest further more)
        | inr (was, more) ↦ (excused s e was, each_well n (step c s e) es none rest further more)
      ]

  pub calm_posts : (h : List Entry) (a b : ℕ) → a ≤ b → ¬ Rose a b → IsTrue (list_all is_calm_entry h) → IsLegal c cap h → IsPaid every_block c worn a b h → EachEntry c (PostsWell c worn) at_first h
  calm_posts h a b less none calm legal paid = each_well paid.faults at_first h (none_counted paid.faults a b less none paid.counted) legal calm paid.pay
