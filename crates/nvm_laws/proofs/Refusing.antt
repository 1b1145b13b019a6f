-- No refusal holds of an operation that the job in hand names.
use Rattle.std.proofs.Common.{◌≡◌, ◌≢◌, ◌≤◌, ℕ, ◌+◌, ◌*◌, Bool, true, false, if◌then◌else◌, List, length, Option, Some, None, refl, sym, ap, ◌∙◌, subst, IfSome}
use Rattle.std.proofs.lemmas.Bool.{eq-eqb}
use Rattle.block_machine.specs.nv_base.declared.instance.DeviceNumber.{DeviceNumber}
use Rattle.memif.specs.Told.{DeviceTold, is_open, length_of}
use Rattle.memif.specs.Calls.{length_refusal, refusal_of}
use Rattle.memif.specs.declared.answer.DeviceRefusal.TheVariants.{Busy, Uninit}
use Rattle.block_machine.specs.block_config.Lengths.{lengths_of}
use Rattle.block_machine.specs.Words.{Mark, Content, Invalid, Erased, JobKind, WriteJob}
use Rattle.block_machine.specs.Blocks.{desc_of, job_block, kind_of, mark_by, mark_of}
use Rattle.block_machine.specs.State.{Job}
use Rattle.nv_desk_copies.specs.nv_desk.Desk.{state_of}
use Rattle.nv_desk_copies.specs.nv_desk.Sound.{IsPendingJob}
use Rattle.nvm_laws.specs.Turns.{given_length, wish_for}
use Rattle.nvm_laws.specs.Calls.{RefusalsDontCome}
use Rattle.nvm_laws.proofs.Numbers.{length_is}
use Rattle.nvm_laws.proofs.Operations.{stored}

-- the length that is given is the number's
fits : (size : ℕ) (mark : Option Mark) → ((bytes : List ℕ) → mark ≡ Some (Content bytes) → length bytes ≡ size)
    → length_refusal (given_length size mark) (Some size) ≡ None
fits size None same = rw (eq-eqb size size refl) refl
fits size (Some (Content bytes)) same = rw (eq-eqb (length bytes) size (same bytes refl)) refl
fits size (Some Invalid) same = refl
fits size (Some Erased) same = refl

-- a content that is written is the job's
content_in : (kind : JobKind) (content : Option (List ℕ × ℕ)) (bytes : List ℕ) → mark_by kind content ≡ Some (Content bytes)
    → (x : List ℕ × ℕ) × (content ≡ Some x) × (x.0 ≡ bytes)
content_in WriteJob (Some x) bytes is = (x, refl, cc)
content_in WriteJob None bytes is = cc
content_in kind content bytes is = cc

-- a device that is up, with nothing open
none_holds : (d : DeviceTold) (n : ℕ) (size : Option ℕ) → is_open d.stand ≡ false → d.started ≡ true → length_refusal size (length_of d.fixed.numbers n) ≡ None
    → refusal_of d n size ≡ None
none_holds d n size closed up fits =
    ap (λ (t : Bool). if t then Some Busy else (if d.started then length_refusal size (length_of d.fixed.numbers n) else Some Uninit)) closed
    ∙ ap (λ (t : Bool). if t then length_refusal size (length_of d.fixed.numbers n) else Some Uninit) up ∙ fits

-- what holds of the job in hand
of_hand : (P : Job → Type 0) (o : Option Job) (j : Job) → o ≡ Some j → IfSome o P → P j
of_hand P o j is holds = subst (λ (x : Option Job). IfSome x P) is holds

of_content : (P : List ℕ × ℕ → Type 0) (o : Option (List ℕ × ℕ)) (x : List ℕ × ℕ) → o ≡ Some x → IfSome o P → P x
of_content P o x is holds = subst (λ (y : Option (List ℕ × ℕ)). IfSome y P) is holds

pub refusals_dont_come : RefusalsDontCome
refusals_dont_come desk h d op i names legal pending named known is numbers up closed =
    none_holds d (wish_for desk.config h names.job names.index).job.number (given_length size (mark_of names.job)) closed up
    (ap (λ (o : Option ℕ). length_refusal (given_length size (mark_of names.job)) o) number_is ∙ fits size (mark_of names.job) whole)
  where
    size : ℕ
    size = (desc_of desk.config (job_block names.job)).length

    number_is : length_of d.fixed.numbers (h.program.block * 64 + names.index) ≡ Some size
    number_is = ap (λ (xs : List (DeviceNumber × ℕ)). length_of xs (h.program.block * 64 + names.index)) numbers
        ∙ (ap (λ (b : ℕ). length_of (lengths_of desk.config) (b * 64 + names.index)) names.same_block
        ∙ length_is desk.config (job_block names.job) names.index legal
        (of_hand (λ (j : Job). job_block j ≢ 0) (state_of desk).hand names.job names.hand named)
        (of_hand (λ (j : Job). job_block j ≤ length desk.config.blocks) (state_of desk).hand names.job names.hand known)
        (stored desk.config (state_of desk) h d is names.job names.hand names.index names.next) names.small)

    whole : (bytes : List ℕ) → mark_of names.job ≡ Some (Content bytes) → length bytes ≡ size
    whole bytes marks =
        let (x, has, same) = content_in (kind_of names.job) names.job.content bytes marks in
        let own = of_hand (IsPendingJob desk.config (state_of desk)) (state_of desk).hand names.job names.hand pending in
        ap (λ (xs : List ℕ). length xs) (sym same)
        ∙ of_content (λ (y : List ℕ × ℕ). length y.0 ≡ size) names.job.content x has own.content
