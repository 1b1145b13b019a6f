-- What a caller knows of what it did.
use Rattle.nvm_callers.proofs.Common.{◌≡◌, ℕ, zero, suc, ◌+◌, ◌<◌, ◌≤◌, ◌∙◌, List, [], ◌∷◌, ◌++◌, length, take, drop, refl, sym, ap, subst, arith, length-take, append-nil, take-append-le, drop-append-le, some, some-ne-none, some-injective, get_elem?, at_last, at_longer, Request, Reply, Entry, Ask, Configuration, Each, Ascend, Note, StartsWith, AllAgree, Has, WaitedFor, asks_of, gives, IsEntry, AreAt, AreAll, asks_by_number, Deed, AskDeed, StoreDeed, Await, requests_in, EachWait, requests_append, drop_all, HasWaited, NoneIsDone, AsksAreDone, StoresAreDone, WaitsAreDone, DeedsLast, DeedsHold}
use Rattle.nvm_callers.proofs.Waiting.{agree_before, at_take, inside_length, of_take, starts_again, waited_on}

-- NUMBERS
module _ (P : ℕ → Type 0) where
  pub each_on : (Q : ℕ → Type 0) (ks : List ℕ) → ((k : ℕ) → P k → Q k) → Each P ks → Each Q ks
  each_on Q [] turns each = tt
  each_on Q (k ∷ ks) turns each = (turns k each.0, each_on Q ks turns each.1)

  pub each_last : (ks : List ℕ) (n : ℕ) → Each P ks → P n → Each P (ks ++ n ∷ [])
  each_last [] n each is = (is, tt)
  each_last (k ∷ ks) n each is = (each.0, each_last ks n each.1 is)

  each_at : (ks : List ℕ) (i k : ℕ) → Each P ks → get_elem? ks i ≡ some k → P k
  each_at [] i k each at = absurd (some-ne-none k (sym at))
  each_at (x ∷ xs) zero k each at = subst P (some-injective x k at) each.0
  each_at (x ∷ xs) (suc i) k each at = each_at xs i k each.1 at

  pub each_take : (n : ℕ) (ks : List ℕ) → Each P ks → Each P (take n ks)
  each_take (suc n) (k ∷ ks) each = (each.0, each_take n ks each.1)
  each_take n ks each = tt

ascend_last : (ks : List ℕ) (n : ℕ) → Ascend ks → Each (λ k. k < n) ks → Ascend (ks ++ n ∷ [])
ascend_last [] n ascend below = (tt, tt)
ascend_last (k ∷ ks) n ascend below = (each_last (λ m. k < m) ks n ascend.0 below.0, ascend_last ks n ascend.1 below.1)

pub ascend_take : (n : ℕ) (ks : List ℕ) → Ascend ks → Ascend (take n ks)
ascend_take (suc n) (k ∷ ks) ascend = (each_take (λ m. k < m) n ks ascend.0, ascend_take n ks ascend.1)
ascend_take n ks ascend = tt

-- a number below the later ones is among the first
pub has_first : (n end : ℕ) (ks : List ℕ) (j : ℕ) → Each (λ k. end ≤ k) (drop n ks) → j < end → Has ks j → Has (take n ks) j
has_first zero end ks j later low (i, at) = let not = each_at (λ k. end ≤ k) ks i j later at in absurd (omega (arith, low, not))
has_first (suc n) end [] j later low (i, at) = absurd (some-ne-none j (sym at))
has_first (suc n) end (k ∷ ks) j later low (zero, at) = (zero, at)
has_first (suc n) end (k ∷ ks) j later low (suc i, at) = let rest = has_first n end ks j later low (i, at) in (suc rest.0, rest.1)

-- REQUESTS
-- a deed that is no request adds none
others_more : (ds : List Deed) (d : Deed) → requests_in (d ∷ []) ≡ [] → requests_in (ds ++ d ∷ []) ≡ requests_in ds
others_more ds d none = requests_append ds (d ∷ []) ∙ ap (λ (l : List Request). requests_in ds ++ l) none ∙ append-nil (requests_in ds)

module _ (caller : ℕ) where
  pub are_longer : (h seen : List Entry) (ks : List ℕ) (rs : List Request) → StartsWith h seen → AreAt seen caller ks rs → AreAt h caller ks rs
  are_longer h seen [] [] starts are = tt
  are_longer h seen (k ∷ ks) (r ∷ rs) starts are = (
    (are.0.0, subst (λ (l : List Entry). IsEntry l k (Ask caller r are.0.0)) (sym starts.1) (at_longer seen starts.0 k (Ask caller r are.0.0) are.0.1)),
    are_longer h seen ks rs starts are.1,
  )
  are_longer h seen [] (r ∷ rs) starts are = absurd are
  are_longer h seen (k ∷ ks) [] starts are = absurd are

  pub are_below : (seen : List Entry) (ks : List ℕ) (rs : List Request) → AreAt seen caller ks rs → Each (λ k. k < length seen) ks
  are_below seen [] [] are = tt
  are_below seen (k ∷ ks) (r ∷ rs) are = (inside_length seen k (Ask caller r are.0.0) are.0.1, are_below seen ks rs are.1)
  are_below seen ks rs are = absurd are

  are_last : (h : List Entry) (ks : List ℕ) (rs : List Request) (n : ℕ) (r : Request) (reply : Reply) → AreAt h caller ks rs → IsEntry h n (Ask caller r reply)
      → AreAt h caller (ks ++ n ∷ []) (rs ++ r ∷ [])
  are_last h [] [] n r reply are at = ((reply, at), tt)
  are_last h (k ∷ ks) (q ∷ rs) n r reply are at = (are.0, are_last h ks rs n r reply are.1 at)
  are_last h ks rs n r reply are at = absurd are

  pub are_as_many : (h : List Entry) (ks : List ℕ) (rs : List Request) → AreAt h caller ks rs → length ks ≡ length rs
  are_as_many h [] [] are = refl
  are_as_many h (k ∷ ks) (r ∷ rs) are = let rest = are_as_many h ks rs are.1 in omega (arith, rest)
  are_as_many h ks rs are = absurd are

  pub are_first : (n end : ℕ) (h : List Entry) (ks : List ℕ) (rs : List Request) → AreAt h caller ks rs → Each (λ k. k < end) (take n ks)
      → AreAt (take end h) caller (take n ks) (take n rs)
  are_first zero end h ks rs are low = tt
  are_first (suc n) end h [] [] are low = tt
  are_first (suc n) end h (k ∷ ks) (r ∷ rs) are low = (
    (are.0.0, at_take end h k (Ask caller r are.0.0) low.0 are.0.1),
    are_first n end h ks rs are.1 low.1,
  )
  are_first (suc n) end h [] (r ∷ rs) are low = absurd are
  are_first (suc n) end h (k ∷ ks) [] are low = absurd are

-- WAITS
module _ (P : ℕ → ℕ → Type 0) where
  -- what goes on for one goes on for each
  pub waits_on : (Q : ℕ → ℕ → Type 0) (most : ℕ) → ((block k : ℕ) → k ≤ most → P block k → Q block k) → (k : ℕ) (ds : List Deed) → k + length (requests_in ds) ≤ most → EachWait P k ds → EachWait Q k ds
  waits_on Q most turns k [] few all = tt
  waits_on Q most turns k (AskDeed line r ∷ ds) few all = waits_on Q most turns (k + 1) ds (omega (arith, few)) all
  waits_on Q most turns k (StoreDeed line block number content ∷ ds) few all = waits_on Q most turns k ds few all
  waits_on Q most turns k (Await line block ∷ ds) few all = (turns block k (omega (arith, few)) all.0, waits_on Q most turns k ds few all.1)

  -- a deed more, behind n requests
  pub waits_more : (d : Deed) (n k : ℕ) (ds : List Deed) → n ≡ k + length (requests_in ds) → EachWait P n (d ∷ []) → EachWait P k ds → EachWait P k (ds ++ d ∷ [])
  waits_more d n k [] at last all = subst (λ (m : ℕ). EachWait P m (d ∷ [])) (omega (arith, at)) last
  waits_more d n k (AskDeed line r ∷ ds) at last all = waits_more d n (k + 1) ds (omega (arith, at)) last all
  waits_more d n k (StoreDeed line block number content ∷ ds) at last all = waits_more d n k ds at last all
  waits_more d n k (Await line block ∷ ds) at last all = (all.0, waits_more d n k ds at last all.1)

  -- one of them
  pub wait_among : (block line n k : ℕ) (before after : List Deed) → n ≡ k + length (requests_in before) → EachWait P k (before ++ Await line block ∷ after) → P block n
  wait_among block line n k [] after at all = subst (P block) (omega (arith, at)) all.0
  wait_among block line n k (AskDeed l r ∷ ds) after at all = wait_among block line n (k + 1) ds after (omega (arith, at)) all
  wait_among block line n k (StoreDeed l b number content ∷ ds) after at all = wait_among block line n k ds after at all
  wait_among block line n k (Await l b ∷ ds) after at all = wait_among block line n k ds after at all.1

module _ (c : Configuration) (cap : ℕ) where
  -- a wait that was over stays so, also behind a request that comes later
  pub wait_asked : (own : List ℕ) (seen before : List Entry) (notes : List Note) (block k : ℕ) → StartsWith before seen → AllAgree gives before notes
      → k ≤ length own → HasWaited c cap own seen notes block k → HasWaited c cap (own ++ length before ∷ []) seen notes block k
  wait_asked own seen before notes block k starts agree few has = record {
    end = has.end;
    asked = subst (λ (l : List ℕ). Each (λ n. n < has.end) l) (sym (take-append-le k own (length before ∷ []) few)) has.asked;
    later = subst (λ (l : List ℕ). Each (λ n. has.end ≤ n) l) (sym (drop-append-le k own (length before ∷ []) few))
        (each_last (λ n. has.end ≤ n) (drop k own) (length before) has.later (has.waited.within before starts agree));
    waited = has.waited;
  }

  wait_seen : (own : List ℕ) (seen seen_new : List Entry) (notes notes_new : List Note) (block k : ℕ) → StartsWith seen_new seen → ((h : List Entry) → AllAgree gives h notes_new → AllAgree gives h notes)
      → HasWaited c cap own seen notes block k → HasWaited c cap own seen_new notes_new block k
  wait_seen own seen seen_new notes notes_new block k starts agrees has =
      record { end = has.end; asked = has.asked; later = has.later; waited = waited_on c cap block has.end seen seen_new notes notes_new has.waited starts agrees }

-- THE LAWS
pub none_is_done : NoneIsDone
none_is_done c cap seen notes caller = record { ascend = tt; at = tt; waits = tt }

pub asks_are_done : AsksAreDone
asks_are_done c cap own seen before notes caller deeds line r reply done starts agree =
    let e = Ask caller r reply in
    let onwards : StartsWith (before ++ e ∷ []) seen = starts_again (before ++ e ∷ []) before seen (e ∷ [], refl) starts in
    let many = are_as_many caller seen own (requests_in deeds) done.at in
    let below = are_below caller before own (requests_in deeds) (are_longer caller before seen own (requests_in deeds) starts done.at) in
    record {
      ascend = ascend_last own (length before) done.ascend below;
      at = subst (λ (l : List Request). AreAt (before ++ e ∷ []) caller (own ++ length before ∷ []) l) (sym (requests_append deeds (AskDeed line r ∷ [])))
          (are_last caller (before ++ e ∷ []) own (requests_in deeds) (length before) r reply (are_longer caller (before ++ e ∷ []) seen own (requests_in deeds) onwards done.at) (at_last before e (length before) refl));
      waits = waits_more (HasWaited c cap (own ++ length before ∷ []) (before ++ e ∷ []) notes) (AskDeed line r) (length (requests_in deeds)) 0 deeds (omega arith) tt
          (waits_on (HasWaited c cap own seen notes) (HasWaited c cap (own ++ length before ∷ []) (before ++ e ∷ []) notes) (length own)
          (λ block k few has. wait_seen c cap (own ++ length before ∷ []) seen (before ++ e ∷ []) notes notes block k onwards (λ h a. a) (wait_asked c cap own seen before notes block k starts agree few has))
          0 deeds (omega (arith, many)) done.waits);
    }

pub stores_are_done : StoresAreDone
stores_are_done c cap own seen notes caller deeds line block number content done = record {
  ascend = done.ascend;
  at = subst (λ (l : List Request). AreAt seen caller own l) (sym (others_more deeds (StoreDeed line block number content) refl)) done.at;
  waits = waits_more (HasWaited c cap own seen notes) (StoreDeed line block number content) (length (requests_in deeds)) 0 deeds (omega arith) tt done.waits;
}

pub deeds_last : DeedsLast
deeds_last c cap own seen seen_new notes more caller deeds done starts =
    let many = are_as_many caller seen own (requests_in deeds) done.at in
    record {
      ascend = done.ascend;
      at = are_longer caller seen_new seen own (requests_in deeds) starts done.at;
      waits = waits_on (HasWaited c cap own seen notes) (HasWaited c cap own seen_new (notes ++ more)) (length own)
          (λ b k few has. wait_seen c cap own seen seen_new notes (notes ++ more) b k starts (λ h a. agree_before h notes more a) has) 0 deeds (omega (arith, many)) done.waits;
    }

pub waits_are_done : WaitsAreDone
waits_are_done c cap own seen notes more caller deeds line block done (place, behind, waited) =
    let many = are_as_many caller seen own (requests_in deeds) done.at in
    let below = are_below caller seen own (requests_in deeds) done.at in
    let still = deeds_last c cap own seen seen notes more caller deeds done ([], sym (append-nil seen)) in
    record {
      ascend = done.ascend;
      at = subst (λ (l : List Request). AreAt seen caller own l) (sym (others_more deeds (Await line block) refl)) done.at;
      waits = waits_more (HasWaited c cap own seen (notes ++ more)) (Await line block) (length own) 0 deeds (omega (arith, many)) (
        record {
          end = place;
          asked = each_take (λ k. k < place) (length own) own (each_on (λ k. k < length seen) (λ k. k < place) own (λ k low. omega (arith, low, behind)) below);
          later = subst (λ (l : List ℕ). Each (λ k. place ≤ k) l) (sym (drop_all (length own) own (omega arith))) tt;
          waited = waited;
        },
        tt,
      ) still.waits;
    }

-- AT THE END
-- in a history that goes on from there each wait was over in time
module _ (c : Configuration) (cap : ℕ) (own : List ℕ) (seen : List Entry) (notes : List Note) (caller : ℕ) (rs : List Request) (h : List Entry)
    (starts : StartsWith h seen) (agree : AllAgree gives h notes) (ascend : Ascend own) (at : AreAt h caller own rs) (all : AreAll h caller own) where
  pub was_over : (block k : ℕ) → k ≤ length rs → HasWaited c cap own seen notes block k → WaitedFor caller block k h
  was_over block k few has =
      let asks : asks_of caller (take has.end h) ≡ take k rs = asks_by_number (take has.end h) caller (take k own) (take k rs) (record {
        ascend = ascend_take k own ascend;
        at = are_first caller k has.end h own rs at has.asked;
        all = λ j r reply is. let is_in = of_take has.end h j (Ask caller r reply) is in has_first k has.end own j has.later is_in.0 (all j r reply is_in.1);
      }) in
      record {
        entries = has.end;
        some = has.waited.some;
        within = has.waited.within h starts agree;
        asked = ap length asks ∙ omega (arith, length-take k rs, few);
        over = has.waited.over h starts agree;
      }

pub deeds_hold : DeedsHold
deeds_hold c cap own seen notes caller deeds h done starts agree all =
    let at = are_longer caller h seen own (requests_in deeds) starts done.at in record {
      asks = asks_by_number h caller own (requests_in deeds) (record { ascend = done.ascend; at = at; all = all });
      waits = waits_on (HasWaited c cap own seen notes) (λ block k. WaitedFor caller block k h) (length (requests_in deeds))
          (was_over c cap own seen notes caller (requests_in deeds) h starts agree done.ascend at all) 0 deeds (omega arith) done.waits;
    }
