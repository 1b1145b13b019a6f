-- Accepted jobs are posted where nothing is pending at the end.
use Rattle.std.specs.Prelude.{nat_lt, ◌==◌, ◌&&◌, not, is_none, IsSome, Contains}
use Rattle.std.specs.List.{list_all, list_any}
use Rattle.std.specs.Option.{option_and_then}
use Rattle.std.proofs.Common.{◌≡◌, ◌⊎◌, inl, inr, ℕ, ◌≤◌, ◌<◌, Bool, true, false, if◌then◌else◌, List, [], ◌∷◌, ◌++◌, length, Option, Some, None, refl, sym, ap, ◌∙◌, subst, arith, ne_eqb, eqb-true, append-nil}
use Rattle.std.proofs.lemmas.List.{append_assoc}
use Rattle.std.proofs.lemmas.Bool.{cases_Bool}
use Rattle.nvm_core.specs.nv_base.Result.{code_of}
use Rattle.nvm_core.specs.block_machine.Words.{ReqResult, Fine, NotOk, Pending, IntegrityFailed, BlockSkipped, Invalidated, Canceled, RedundancyFailed, Restored, Accepted, Refused, StatusIs, IndexIs, Entry, Ask, Pick, Wrote, Post, Off, Found, Configuration}
use Rattle.nvm_core.specs.block_machine.State.{Job, jobs_of}
use Rattle.nvm_core.specs.block_machine.Blocks.{status_of, is_pending}
use Rattle.nvm_core.specs.block_machine.Steps.{after}
use Rattle.nvm_core.specs.block_machine.Legal.{IsLegal}
use Rattle.nvm_core.proofs.block_laws.HistoryLaws.{beginnings_are_legal}
use Rattle.nvm_core.proofs.block_laws.PendingBlocks.{pending_have_jobs}
use Rattle.script_walks.specs.Walk.{is_at_rest}
use Rattle.nvm_shared.specs.StatusWords.{off_word, told_at, pending_block, gives_by, gives, is_found}
use Rattle.nvm_shared.specs.Statuses.{is_post_of, JobsHavePosts}
use Rattle.nvm_shared.proofs.WordsTold.{told_if}
use Rattle.nvm_shared.proofs.EntryStatuses.{own_at, entries_tell}

-- WHAT AN ENTRY GIVES
-- none, or PENDING
abbrev GivesPending : Option ℕ → Type 0
GivesPending o = (o ≡ None) ⊎ (o ≡ Some 2)

if_told : (status block id : ℕ) (told own : Bool) → (own ≡ true → status ≡ 2) → (block == id) ≡ own → GivesPending (gives_by (told_if told status block) id)
if_told status block id false own pending same = inl refl
if_told status block id true false pending same = inl (ap (λ (b : Bool). if b then Some status else None) same)
if_told status block id true true pending same = inr (ap (λ (b : Bool). if b then Some status else None) same ∙ ap Some (pending refl))

gives_pending : (id : ℕ) (e : Entry) → id < off_word → is_found e ≡ false → is_post_of id e ≡ false → GivesPending (gives e id)
gives_pending id (Ask caller r Accepted) low started posted = by (pending_block r)
  where
    by : (o : Option ℕ) → GivesPending (gives_by (option_and_then (told_at 2) o) id)
    by None = inl refl
    by (Some block) = if_told 2 block id (nat_lt block off_word) (block == id) (λ own. refl) refl
gives_pending id (Ask caller r (Refused why)) low started posted = inl refl
gives_pending id (Ask caller r (StatusIs status)) low started posted = inl refl
gives_pending id (Ask caller r (IndexIs index)) low started posted = inl refl
gives_pending id (Pick block kind t ops) low started posted = if_told 2 block id (nat_lt block off_word) (block == id) (λ own. refl) refl
gives_pending id (Wrote i mark ops) low started posted = inl refl
gives_pending id (Post block r given refused ops) low started posted = if_told (code_of r) block id (nat_lt block off_word) false (λ own. cc) posted
gives_pending id (Off ops) low started posted = inl (ap (λ (b : Bool). if b then Some 1 else None) (ne_eqb off_word id (λ same. absurd (omega (arith, low, same)))))
gives_pending id (Found marks ops) low started posted = cc

-- A PENDING BLOCK
code_pending : (r : ReqResult) → code_of r ≡ 2 → is_pending r ≡ true
code_pending Pending is = refl
code_pending Fine is = cc
code_pending NotOk is = cc
code_pending IntegrityFailed is = cc
code_pending BlockSkipped is = cc
code_pending Invalidated is = cc
code_pending Canceled is = cc
code_pending RedundancyFailed is = cc
code_pending Restored is = cc

first_of : (P : Entry → Bool) (e : Entry) (es : List Entry) → list_all P (e ∷ es) ≡ true → (P e ≡ true) × (list_all P es ≡ true)
first_of P e es all = elim (cases_Bool (P e)) [
  | inl on ↦ (on, rw on at all)
  | inr off ↦ let no_ : false ≡ true = rw off at all in cc
]

none_of : (P : Entry → Bool) (e : Entry) (es : List Entry) → list_any P (e ∷ es) ≡ false → (P e ≡ false) × (list_any P es ≡ false)
none_of P e es any = elim (cases_Bool (P e)) [
  | inl on ↦ let no_ : true ≡ false = rw on at any in cc
  | inr off ↦ (off, rw off at any)
]

not_true : (b : Bool) → not b ≡ true → b ≡ false
not_true false is = refl
not_true true is = cc

module _ (c : Configuration) (cap id : ℕ) (few : id ≤ length c.blocks) (low : id < off_word) where
  stays_pending : (h more : List Entry) → IsLegal c cap (h ++ more) → list_all (λ e. not (is_found e)) more ≡ true → list_any (is_post_of id) more ≡ false
      → code_of (status_of (after c h) id) ≡ 2 → code_of (status_of (after c (h ++ more)) id) ≡ 2
  stays_pending h [] legal started posted is = subst (λ (l : List Entry). code_of (status_of (after c l) id) ≡ 2) (sym (append-nil h)) is
  stays_pending h (e ∷ es) legal started posted is =
      let same : (h ++ e ∷ []) ++ es ≡ h ++ e ∷ es = append_assoc h (e ∷ []) es in
      let long : IsLegal c cap ((h ++ e ∷ []) ++ es) = subst (IsLegal c cap) (sym same) legal in
      let none = first_of (λ x. not (is_found x)) e es started in
      let other = none_of (is_post_of id) e es posted in
      let told = entries_tell c cap h e id (beginnings_are_legal c cap (h ++ e ∷ []) es long) few low in
      let next : code_of (status_of (after c (h ++ e ∷ [])) id) ≡ 2 = elim (gives_pending id e low (not_true (is_found e) none.0) other.0) [
        | inl nothing ↦ ap code_of (told.none nothing) ∙ is
        | inr pending ↦ told.some 2 pending
      ] in
      subst (λ (l : List Entry). code_of (status_of (after c l) id) ≡ 2) same (stays_pending (h ++ e ∷ []) es long none.1 other.1 next)

both_left : (a b : Bool) → (a && b) ≡ true → a ≡ true
both_left true b is = refl
both_left false b is = cc

no_jobs : (jobs : List Job) (none : Bool) → ((length jobs == 0) && none) ≡ true → (j : Job) → Contains jobs j → ⊥
no_jobs jobs none rest j (k, within, is) = let no_more : length jobs ≡ 0 = eqb-true (length jobs) 0 (both_left (length jobs == 0) none rest) in omega (arith, within, no_more)

no_sweep : {S : Type 0} (jobs : Bool) (o : Option S) → (jobs && is_none o) ≡ true → IsSome o → ⊥
no_sweep jobs None rest some = cc
no_sweep true (Some sw) rest some = cc
no_sweep false (Some sw) rest some = cc

at_rest : (c : Configuration) (cap : ℕ) (h : List Entry) (id : ℕ) → IsLegal c cap h → is_at_rest (after c h) ≡ true → code_of (status_of (after c h) id) ≡ 2 → ⊥
at_rest c most h id legal rest is = elim (pending_have_jobs c most h id legal (code_pending (status_of (after c h) id) is)) [
  | inl sweep ↦ no_sweep (length (jobs_of (after c h)) == 0) (after c h).sweep rest sweep.1
  | inr job ↦ no_jobs (jobs_of (after c h)) (is_none (after c h).sweep) rest job.0 job.1
]

pub jobs_have_posts : JobsHavePosts
jobs_have_posts c cap h more caller r id legal started rest block few low =
    let own : gives (Ask caller r Accepted) id ≡ Some 2 = ap (λ (o : Option ℕ). gives_by (option_and_then (told_at 2) o) id) block ∙ own_at 2 id low in
    let first = (entries_tell c cap h (Ask caller r Accepted) id (beginnings_are_legal c cap (h ++ Ask caller r Accepted ∷ []) more legal) few low).some 2 own in
    elim (cases_Bool (list_any (is_post_of id) more)) [
      | inl posted ↦ posted
      | inr not ↦ absurd (at_rest c cap (h ++ Ask caller r Accepted ∷ [] ++ more) id legal rest (stays_pending c cap id few low (h ++ Ask caller r Accepted ∷ []) more legal started not first))
    ]
