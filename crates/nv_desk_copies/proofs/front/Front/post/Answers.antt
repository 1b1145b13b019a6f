use Rattle.std.specs.Prelude.{slice_set, if◌then◌else◌}
use Rattle.std.proofs.Common.{◌≡◌, ◌∙◌, ℕ, Bool, true, false, length, refl, sym, ap, Some, None}
use Rattle.block_machine.specs.Blocks.{job_block}
use Rattle.nv_desk.specs.Desk.{state_of}
use Rattle.nv_desk_copies.specs.Front.{Numbers}
use Rattle.nv_desk_copies.specs.Posts.{answer_of, reads_own}
use Rattle.nv_desk_copies.proofs.Sizes.{still_synchronized}
use Rattle.nv_desk_copies.proofs.front.Front.post.Goals as goal

some_noted : (t : Bool) (b x n : ℕ) (unread : Numbers) → Some x ≡ (if t then Some b else None)
    → slice_set unread x (Some n) ≡ (if t then slice_set unread b (Some n) else unread)
some_noted true b x n unread is = let same : x ≡ b = cc in ap (λ (k : ℕ). slice_set unread k (Some n)) same
some_noted false b x n unread is = cc

none_noted : (t : Bool) (b n : ℕ) (unread : Numbers) → None ≡ (if t then Some b else None) → unread ≡ (if t then slice_set unread b (Some n) else unread)
none_noted true b n unread is = cc
none_noted false b n unread is = refl

pub returns-in-Some-clause-unread : goal.returns-in-Some-clause-unread
returns-in-Some-clause-unread g c j hand =
    let front = c.args.self.now in
    let d = front.desk in
    let given = (answer_of d.config (state_of d) j c.args.answer c.args.source c.args.content.now).1 in
    c.note.ensures ∙ ap (λ (n : ℕ). slice_set front.unread c.in-Some.block (Some n)) c.len-number.ensures.count
    ∙ some_noted (reads_own j given) (job_block j) c.in-Some.block (length d.entries) front.unread (sym c.in-Some.is ∙ c.post-read.ensures.reads j hand)

pub returns-in_default-clause-unread : goal.returns-in_default-clause-unread
returns-in_default-clause-unread g c j hand =
    let front = c.args.self.now in
    let d = front.desk in
    let given = (answer_of d.config (state_of d) j c.args.answer c.args.source c.args.content.now).1 in
    none_noted (reads_own j given) (job_block j) (length d.entries) front.unread (sym c.in_default.is ∙ c.post-read.ensures.reads j hand)

pub returns-in-Some-clause-synchronized : goal.returns-in-Some-clause-synchronized
returns-in-Some-clause-synchronized g c = still_synchronized c.args.self.now.desk.config _ _ c.post-read.ensures.stays.sizes c.requires.synchronized

pub returns-in_default-clause-synchronized : goal.returns-in_default-clause-synchronized
returns-in_default-clause-synchronized g c = still_synchronized c.args.self.now.desk.config _ _ c.post-read.ensures.stays.sizes c.requires.synchronized
