-- A Post with 0 of a job with a mark tells that each of its instances was written.
use Rattle.std.specs.Prelude.{find, cond, nat_le, filter, map, IsSome}
use Rattle.std.proofs.Common.{◌≡◌, ℕ, zero, suc, ◌==◌, ◌≤◌, ◌&&◌, not, Bool, true, false, if◌then◌else◌, List, [], ◌∷◌, length, Contains, refl, sym, ap, ◌∙◌, subst, inl, inr, arith, Option, Some, None}
use Rattle.std.proofs.lemmas.Bool.{cases_Bool}
use Rattle.std.proofs.lemmas.Bool.Decides.{nat_tests}
use Rattle.std.proofs.lemmas.List.{length-map}
use Rattle.block_machine.specs.nv_base.Result.{code_of}
use Rattle.block_machine.specs.Words.{Fine, NotOk, Mark, JobKind, WriteJob, EraseJob, InvalidateJob, WroteMark, Failed, BlockKind, Native, Redundant, Dataset, Configuration}
use Rattle.block_machine.specs.State.{State, Job}
use Rattle.block_machine.specs.Blocks.{desc_of, block_at, is_in, indices_by, indices_of, settled_at, job_block, kind_of, mark_by, mark_of}
use Rattle.block_machine.specs.ResultTable.{write_result}
use Rattle.block_machine.specs.Results.{Answer, Own, own_of, result_by, open_sets, same_answer, unwritten, took_none}
use Rattle.block_machine.specs.Legal.{IsPost}
use Rattle.block_laws.specs.Consistent.{Each}
use Rattle.block_laws.proofs.MarkCells.{in_from}

one_wrote : (p : Bool) → (code_of (write_result ((if p then Failed else WroteMark) ∷ [])) == code_of Fine) ≡ true → p ≡ false
one_wrote true is = cc
one_wrote false is = refl

two_wrote : (p q : Bool) → (code_of (write_result ((if p then Failed else WroteMark) ∷ (if q then Failed else WroteMark) ∷ [])) == code_of Fine) ≡ true → (p ≡ false) × (q ≡ false)
two_wrote true true is = cc
two_wrote true false is = cc
two_wrote false true is = cc
two_wrote false false is = (refl, refl)

all_wrote : (marks : List (ℕ × Mark)) (ws : List ℕ) → length marks ≤ 2 → (code_of (write_result (map (λ (x : ℕ × Mark). if is_in ws x.0 then Failed else WroteMark) marks)) == code_of Fine) ≡ true → Each (λ (x : ℕ × Mark). is_in ws x.0 ≡ false) marks
all_wrote [] ws few is = tt
all_wrote (x ∷ []) ws few is = (one_wrote (is_in ws x.0) is, tt)
all_wrote (x ∷ y ∷ []) ws few is = let (p, q) = two_wrote (is_in ws x.0) (is_in ws y.0) is in (p, (q, tt))
all_wrote (x ∷ y ∷ z ∷ rest) ws few is = absurd (omega (arith, few))

one_set : (test : Bool) (f : List ℕ) → IsSome (cond test (Some f) None) → test ≡ true
one_set true f some = refl
one_set false f some = cc

first : (p q : Bool) → (p && q) ≡ true → p ≡ true
first true q is = refl
first false q is = cc

-- of a write, an invalidate or an erase
fine_by : (o : Own) (j : Job) (kind : JobKind) (content : Option (List ℕ × ℕ)) (m : Mark) (given : Option (List ℕ)) → length o.marks ≤ 2 → mark_by kind content ≡ Some m
    → IsSome (find (λ failed. same_answer (result_by o j kind failed) (Fine, given)) (open_sets o j kind)) → Each (λ (x : ℕ × Mark). is_in (unwritten o j) x.0 ≡ false) o.marks
fine_by o j WriteJob content m given few takes some = elim (cases_Bool (took_none j.taken)) [
  | inl took ↦ let none = rw took at some in cc
  | inr not_it ↦ all_wrote o.marks (unwritten o j) few (first _ _ (one_set _ _ (rw not_it at some)))
]
fine_by o j EraseJob content m given few takes some = elim (cases_Bool (took_none j.taken)) [
  | inl took ↦ let none = rw took at some in cc
  | inr not_it ↦ all_wrote o.marks (unwritten o j) few (first _ _ (one_set _ _ (rw not_it at some)))
]
fine_by o j InvalidateJob content m given few takes some = elim (cases_Bool (took_none j.taken)) [
  | inl took ↦ let none = rw took at some in cc
  | inr not_it ↦ all_wrote o.marks (unwritten o j) few (first _ _ (one_set _ _ (rw not_it at some)))
]
fine_by o j kind content m given few takes some = cc

few_indices : (kind : BlockKind) (nv index : ℕ) → length (indices_by kind nv index) ≤ 2
few_indices Native nv index = omega arith
few_indices Redundant nv index = omega arith
few_indices Dataset nv index = elim (cases_Bool (nat_le nv index)) [
  | inl rom ↦ rw rom (omega arith)
  | inr stored ↦ rw stored (omega arith)
]

filtered_in : (written : List ℕ) (g : ℕ → Mark) (ns : List ℕ) (n : ℕ) → is_in ns n ≡ true → is_in written n ≡ false → is_in (filter (λ (k : ℕ). not (is_in written k)) (map (λ (x : ℕ × Mark). x.0) (map (λ (k : ℕ). (k, g k)) ns))) n ≡ true
filtered_in written g [] n has left = cc
filtered_in written g (x ∷ ns) n has left = elim (cases_Bool (x == n)) [
  | inl same ↦ let e : x ≡ n = grind (arith, nat_tests) in let off : is_in written x ≡ false = rw e left in rw (off, same) refl
  | inr other ↦ elim (cases_Bool (is_in written x)) [
    | inl on ↦ rw on (filtered_in written g ns n (rw other at has) left)
    | inr off ↦ rw (off, other) (filtered_in written g ns n (rw other at has) left)
  ]
]

each_at : (Q : ℕ → Type 0) (g : ℕ → Mark) (ns : List ℕ) (n k : ℕ) → Each (λ (x : ℕ × Mark). Q x.0) (map (λ (k : ℕ). (k, g k)) ns) → Contains ns n → Q n
each_at Q g [] n k each (i, within, is) = absurd (omega (arith, within))
each_at Q g (x ∷ ns) n k each (zero, within, is) = subst Q is each.0
each_at Q g (x ∷ ns) n k each (suc i, within, is) = each_at Q g ns n k each.1 (i, omega arith, is)

pub fine_written : (c : Configuration) (s : State) (j : Job) (m : Mark) (block : ℕ) (given : Option (List ℕ)) (refused index : ℕ) → mark_of j ≡ Some m → IsPost c s j block (Fine, given) refused → Contains (indices_of c s (job_block j)) index → is_in j.written index ≡ true
fine_written c s j m block given refused index takes post has = elim post.results [
  | inl (none, some) ↦
      let o = own_of c s (job_block j) in
      let g = λ (n : ℕ). settled_at s (record { block = job_block j; index = n }) in
      let ns = indices_of c s (job_block j) in
      let few : length o.marks ≤ 2 = let pair : ℕ → ℕ × Mark = λ n. (n, g n) in let e = length-map ns pair in let l = few_indices (desc_of c (job_block j)).kind (desc_of c (job_block j)).nv (block_at s (job_block j)).index in omega (arith, e, l) in
      let each = fine_by o j (kind_of j) j.content m given few takes some in
      let off : is_in (unwritten o j) index ≡ false = each_at (λ n. is_in (unwritten o j) n ≡ false) g ns index 0 each has in
      elim (cases_Bool (is_in j.written index)) [
        | inl on ↦ on
        | inr left ↦ let on : is_in (unwritten o j) index ≡ true = filtered_in j.written g ns index (in_from ns index has) left in let no_ : true ≡ false = sym on ∙ off in cc
      ]
  | inr copies ↦ let e : Fine ≡ NotOk = ap (λ (a : Answer). a.0) copies.fails in cc
]
