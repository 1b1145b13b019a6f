-- The turns that are left, counted.
use Rattle.std.specs.Prelude.{slice_get}
use Rattle.std.proofs.Common.{◌≡◌, ℕ, zero, suc, ◌+◌, ◌*◌, ◌≤◌, ◌==◌, ◌&&◌, min, Bool, true, false, if◌then◌else◌, List, [], ◌∷◌, length, drop, refl, sym, ap, ◌∙◌, Some, None, arith}
use Rattle.block_machine.specs.nv_base.Count.{last_count}
use Rattle.block_machine.specs.nv_base.declared.instance.Instance.{Instance}
use Rattle.block_machine.specs.nv_base.declared.job.DeviceOp.{DeviceOp}
use Rattle.block_machine.specs.nv_base.declared.job.JobStep.TheVariants.{Device}
use Rattle.block_machine.specs.nv_base.Marks.{number_of}
use Rattle.memif.specs.Told.{DeviceTold, Fixed, figures_at, most_of, is_open, IfElse}
use Rattle.job_programs.specs.Program.{Program}
use Rattle.nvm_figures.specs.declared.counted.AtWork.{AtWork}
use Rattle.nvm_figures.specs.Left.{tries_at, over_tries, most_at, stack_left}
use Rattle.nvm_figures.specs.AtWork.{IsAtWork, turns_behind, unstarted_at}
use Rattle.nvm_figures.proofs.Tries.{next_ahead}
use Rattle.nvm_figures.proofs.JobTurns.{step_is}

-- sums that stand still at their end
pub still_sum : (l a b : ℕ) → min (min (min (l + min a last_count) last_count + min b last_count) last_count + 1) last_count ≡ min (l + (a + b + 1)) last_count
still_sum l a b = omega arith

-- the turns of the copy that is behind this one, if there is one
abbrev pub behind_of : Fixed → Program → Bool → ℕ → ℕ
behind_of f p copies index = if copies && (index == 0) then (p.retries + 1) * most_at f p.block p.kind 1 else 0

rest_of : (f : Fixed) (p : Program) (copies : Bool) (indices : List ℕ) (n i : ℕ) → IfElse copies (indices ≡ 0 ∷ 1 ∷ []) (length indices ≤ 1) → slice_get indices n ≡ Some i
    → over_tries (most_at f p.block p.kind) p.retries (drop (suc n) indices) ≡ behind_of f p copies i
rest_of f p true indices n i is some = by indices n is some
  where
    by : (xs : List ℕ) (n : ℕ) → xs ≡ 0 ∷ 1 ∷ [] → slice_get xs n ≡ Some i → over_tries (most_at f p.block p.kind) p.retries (drop (suc n) xs) ≡ behind_of f p true i
    by xs zero e some =
        let got : Some 0 ≡ Some i = sym (ap (λ (ys : List ℕ). slice_get ys 0) e) ∙ some in
        let zero_is : i ≡ 0 = cc in
        rw (e, zero_is) (omega arith)
    by xs (suc zero) e some =
        let got : Some 1 ≡ Some i = sym (ap (λ (ys : List ℕ). slice_get ys 1) e) ∙ some in
        let one_is : i ≡ 1 = cc in
        rw (e, one_is) refl
    by xs (suc (suc n)) e some =
        let got : None ≡ Some i = sym (ap (λ (ys : List ℕ). slice_get ys (suc (suc n))) e) ∙ some in
        cc
rest_of f p false [] n i few some = cc
rest_of f p false (x ∷ []) zero i few some = refl
rest_of f p false (x ∷ []) (suc n) i few some = cc
rest_of f p false (x ∷ y ∷ xs) n i few some = absurd (omega (arith, few))

same_tries : (p : Program) (job : AtWork) → IsAtWork job p → (busy : Bool) → unstarted_at job busy ≡ tries_at p busy
same_tries p job is true = rw (is.failures, is.retries) refl
same_tries p job is false = rw (is.failures, is.retries) refl

both : (a c b e : ℕ) → a ≡ c → b ≡ e → a + b + 1 ≡ c + e + 1
both a c b e one two = rw (one, two) refl

pub turns_counted : (p : Program) (job : AtWork) (d : DeviceTold) (o : DeviceOp) (i : Instance) → IsAtWork job p → job.step ≡ Device o i
    → min (min (min (d.left + min (unstarted_at job (is_open d.stand) * most_of (figures_at d.fixed (number_of i)) o) last_count) last_count
    + min (turns_behind job d.fixed o i) last_count) last_count + 1) last_count
    ≡ min (stack_left (Some p) d) last_count
turns_counted p job d o i is at =
    let step = step_is p o i (is.step ∙ at) in
    let next = next_ahead p i.index step.next in
    let some : slice_get p.indices (length p.done) ≡ Some i.index = rw next.here at next.next in
    let block : i.block ≡ p.block = omega (arith, step.number) in
    let here = unstarted_at job (is_open d.stand) * most_of (figures_at d.fixed (number_of i)) o in
    let now : here ≡ tries_at p (is_open d.stand) * most_at d.fixed p.block p.kind i.index =
    rw (same_tries p job is (is_open d.stand), step.number, step.operation) refl in
    let later : turns_behind job d.fixed o i ≡ behind_of d.fixed p job.copies i.index = rw (block, step.operation, ← is.retries) refl in
    let rest = rest_of d.fixed p job.copies p.indices (length p.done) i.index is.copies some in
    let sum = both here (tries_at p (is_open d.stand) * most_at d.fixed p.block p.kind i.index) (turns_behind job d.fixed o i)
    (over_tries (most_at d.fixed p.block p.kind) p.retries (drop (suc (length p.done)) p.indices)) now (later ∙ sym rest) in
    still_sum d.left here (turns_behind job d.fixed o i) ∙ rw next.ahead (ap (λ (n : ℕ). min (d.left + n) last_count) sum)
