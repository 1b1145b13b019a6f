-- What the driver may conclude from what came along with a store.
use Rattle.nvm_callers.proofs.Common.{slice_get, ◌≡◌, ◌==◌, inl, inr, ℕ, zero, suc, ◌<◌, ◌≤◌, ◌∙◌, Bool, true, List, [], ◌∷◌, ◌++◌, length, take, drop, Some, refl, sym, ap, subst, arith, length-take, cases_Bool, eqb-true, take-append_seam, dite, some, get_elem?, at_longer, Request, Entry, Ask, Configuration, Each, Ascend, AreAt, AreAll, asks_by_number, Step, StepKind, AskStep, StoreStep, AwaitStep, WaitedFor, program_of, asks_of, Deed, StoreDeed, requests_in, deeds_by, deeds_from, deeds_of, HasWaited, lt_of_not-le, dec_le, NotesTellMade, DeedsAreSteps}
use Rattle.std.specs.Prelude.{if◌then◌else◌}
use Rattle.nvm_callers.proofs.Waiting.{inside_length}
use Rattle.nvm_callers.proofs.Doing.{each_on, each_take, ascend_take, has_first, are_longer, are_below, are_as_many, are_first, waits_on, was_over}
use Rattle.nvm_callers.proofs.Ordering.{deeds_made_by}

-- NUMBERS BELOW ONE
-- the first of ascending numbers are below it
splits : (n : ℕ) (ks : List ℕ) → Ascend ks → (m : ℕ) × (m ≤ length ks) × Each (λ k. k < n) (take m ks) × Each (λ k. n ≤ k) (drop m ks)
splits n [] ascend = (0, omega arith, tt, tt)
splits n (k ∷ ks) ascend = dite (dec_le n k)
    (λ out. (0, omega arith, tt, (out, each_on (λ j. k < j) (λ j. n ≤ j) ks (λ j later. omega (arith, out, later)) ascend.0)))
    (λ low. let (m, few, first, rest) = splits n ks ascend.1 in (suc m, omega (arith, few), (lt_of_not-le low, first), rest))

-- where so many are below it, no more are the first
few_first : (most m n : ℕ) (ks : List ℕ) → Each (λ k. k < n) (take most ks) → Each (λ k. n ≤ k) (drop m ks) → most ≤ length ks → most ≤ m
few_first zero m n ks low high within = omega arith
few_first (suc most) m n [] low high within = absurd (omega (arith, within))
few_first (suc most) zero n (k ∷ ks) low high within = absurd (omega (arith, low.0, high.0))
few_first (suc most) (suc m) n (k ∷ ks) low high within = let rest = few_first most m n ks low.1 high (omega (arith, within)) in omega (arith, rest)

module _ (P : ℕ → Type 0) where
  each_take_take : (k m : ℕ) (ks : List ℕ) → Each P (take k ks) → Each P (take k (take m ks))
  each_take_take (suc k) (suc m) (x ∷ xs) each = (each.0, each_take_take k m xs each.1)
  each_take_take k m ks each = tt

  each_drop_take : (k m : ℕ) (ks : List ℕ) → Each P (drop k ks) → Each P (drop k (take m ks))
  each_drop_take zero m ks each = each_take P m ks each
  each_drop_take (suc k) (suc m) (x ∷ xs) each = each_drop_take k m xs each
  each_drop_take (suc k) m ks each = tt

pub notes_tell_made : NotesTellMade
notes_tell_made c cap all own seen notes caller deeds program note done starts every tells h (rest, is) (seen_in, agree) =
    let rs = requests_in deeds in
    let before = deeds_of c program in
    let at_all = are_longer caller all seen own rs starts done.at in
    let (m, few, first, later) = splits (length h) own done.ascend in
    let front : take (length h) all ≡ h = ap (λ (l : List Entry). take (length h) l) is ∙ take-append_seam h rest in
    let at_h : AreAt h caller (take m own) (take m rs) = subst (λ (l : List Entry). AreAt l caller (take m own) (take m rs)) front (are_first caller m (length h) all own rs at_all first) in
    let all_h : AreAll h caller (take m own) = λ j r reply here.
    has_first m (length h) own j later (inside_length h j (Ask caller r reply) here)
    (every j r reply (subst (λ (l : List Entry). get_elem? l j ≡ some (Ask caller r reply)) (sym is) (at_longer h rest j (Ask caller r reply) here))) in
    let ascend = ascend_take m own done.ascend in
    let most = length (requests_in before) in
    let at_note = are_longer caller h note.seen (take most own) (requests_in before) seen_in tells.at in
    let as_many = are_as_many caller h (take most own) (requests_in before) at_note in
    let within : most ≤ length own = omega (arith, as_many, length-take most own) in
    let many : most ≤ m = few_first most m (length h) own (are_below caller h (take most own) (requests_in before) at_note) later within in
    let same_many = are_as_many caller all own rs at_all in
    let asks : asks_of caller h ≡ take m rs = asks_by_number h caller (take m own) (take m rs) (record { ascend = ascend; at = at_h; all = all_h }) in
    let count : length (asks_of caller h) ≡ m = ap (λ (l : List Request). length l) asks ∙ omega (arith, length-take m rs, few, same_many) in
    deeds_made_by c caller program h (omega (arith, many, count))
    (waits_on (HasWaited c cap own note.seen note.notes) (λ block k. WaitedFor caller block k h) (length (take m rs))
    (λ block k low has. was_over c cap (take m own) note.seen note.notes caller (take m rs) h seen_in agree ascend at_h all_h block k low (record {
      end = has.end;
      asked = each_take_take (λ n. n < has.end) k m own has.asked;
      later = each_drop_take (λ n. has.end ≤ n) k m own has.later;
      waited = has.waited;
    })) 0 before (omega (arith, length-take m rs, few, same_many, many)) tells.waits)

-- DEEDS AND STEPS
-- a step has one deed at most
few_deeds : (c : Configuration) (acc : List Step) (line who : ℕ) (kind : StepKind) → length (deeds_by c acc line who kind) ≤ 1
few_deeds c acc line who (AskStep r) = omega arith
few_deeds c acc line who (StoreStep block content) = omega arith
few_deeds c acc line who (AwaitStep block) = omega arith
few_deeds c acc line who kind = omega arith

store_step : (c : Configuration) (acc : List Step) (line who l block number : ℕ) (content : List ℕ) (kind : StepKind) → deeds_by c acc line who kind ≡ StoreDeed l block number content ∷ [] → kind ≡ StoreStep block content
store_step c acc line who l block number content (StoreStep b bytes) is = cc
store_step c acc line who l block number content kind is = cc is

module _ (c : Configuration) (caller line block number : ℕ) (content : List ℕ) (after : List Deed) where
  abbrev this : Deed
  this = StoreDeed line block number content

  -- the step of a script that has its caller make this store, behind these deeds of it
  record IsIn (acc steps : List Step) (before : List Deed) : Type 0 where
    place : ℕ
    step : Step
    at : slice_get steps place ≡ Some step
    of : step.caller ≡ caller
    kind : step.kind ≡ StoreStep block content
    earlier : deeds_from c acc (program_of caller (take place steps)) ≡ before

  -- behind another step of the caller's, which has these deeds
  behind_own : (acc : List Step) (x : Step) (xs : List Step) (front : List Deed) → (x.caller == caller) ≡ true → IsIn (acc ++ x ∷ []) xs front → IsIn acc (x ∷ xs) (deeds_by c acc x.line x.caller x.kind ++ front)
  behind_own acc x xs front own found = record {
    place = suc found.place;
    step = found.step;
    at = found.at;
    of = found.of;
    kind = found.kind;
    earlier = ap (λ (b : Bool). deeds_from c acc (if b then x ∷ program_of caller (take found.place xs) else program_of caller (take found.place xs))) own
        ∙ ap (λ (l : List Deed). deeds_by c acc x.line x.caller x.kind ++ l) found.earlier;
  }

  own_step : (acc : List Step) (x : Step) (xs : List Step) (ds before rest : List Deed) → (x.caller == caller) ≡ true → deeds_by c acc x.line x.caller x.kind ≡ ds → length ds ≤ 1 → ds ++ rest ≡ before ++ this ∷ after
      → ((front : List Deed) → rest ≡ front ++ this ∷ after → IsIn (acc ++ x ∷ []) xs front) → IsIn acc (x ∷ xs) before
  own_step acc x xs [] before rest own by few is next = subst (λ (ds : List Deed). IsIn acc (x ∷ xs) (ds ++ before)) by (behind_own acc x xs before own (next before is))
  own_step acc x xs (d ∷ []) [] rest own by few is next =
      let same : d ≡ this = cc in record {
        place = 0;
        step = x;
        at = refl;
        of = eqb-true x.caller caller own;
        kind = store_step c acc x.line x.caller line block number content x.kind (by ∙ ap (λ (e : Deed). e ∷ []) same);
        earlier = refl;
      }
  own_step acc x xs (d ∷ []) (e ∷ front) rest own by few is next =
      let same : d ≡ e = cc in
      let later : rest ≡ front ++ this ∷ after = cc in
      subst (λ (ds : List Deed). IsIn acc (x ∷ xs) (ds ++ front)) (by ∙ ap (λ (y : Deed). y ∷ []) same) (behind_own acc x xs front own (next front later))
  own_step acc x xs (d ∷ e ∷ ds) before rest own by few is next = absurd (omega (arith, few))

  in_script : (acc steps : List Step) (before : List Deed) → deeds_from c acc (program_of caller steps) ≡ before ++ this ∷ after → IsIn acc steps before
  in_script acc [] [] is = cc is
  in_script acc [] (d ∷ before) is = cc is
  in_script acc (x ∷ xs) before is = elim (cases_Bool (x.caller == caller)) [
    | inl own ↦
        own_step acc x xs (deeds_by c acc x.line x.caller x.kind) before (deeds_from c (acc ++ x ∷ []) (program_of caller xs)) own refl (few_deeds c acc x.line x.caller x.kind) (rw own at is)
        (λ front rest. in_script (acc ++ x ∷ []) xs front rest)
    | inr other ↦
        let found = in_script acc xs before (rw other at is) in record {
          place = suc found.place;
          step = found.step;
          at = found.at;
          of = found.of;
          kind = found.kind;
          earlier = ap (λ (b : Bool). deeds_from c acc (if b then x ∷ program_of caller (take found.place xs) else program_of caller (take found.place xs))) other ∙ found.earlier;
        }
  ]

pub deeds_are_steps : DeedsAreSteps
deeds_are_steps c steps caller before after line block number content is =
    let found = in_script c caller line block number content after [] steps before is in
    record { place = found.place; step = found.step; at = found.at; of = found.of; kind = found.kind; earlier = found.earlier }
