-- What an entry leaves: the number of blocks, whether the manager is started, and, but for an Off, the power. A start-up leaves none of it.
use Rattle.std.specs.List.{enumerate_from}
use Rattle.std.proofs.Common.{◌≡◌, ◌+◌, ℕ, IsTrue, List, [], ◌∷◌, length, map, Option, Some, None, refl, sym, ◌∙◌, arith}
use Rattle.std.proofs.lemmas.List.{length-map, length-set}
use Rattle.std.proofs.lemmas.List.FromFn.{length-enumerate_from}
use Rattle.block_machine.specs.Words.{Request, SetIndex, SetProtection, SetLock, SetRam, PutRam, ReadAll, WriteAll, CancelWriteAll, Reply, Accepted, JobKind, ReqResult, Taken, Instance, Mark, Entry, Ask, Pick, Wrote, Post, Off, Found, BlockDesc, Configuration}
use Rattle.block_machine.specs.State.{State, Job}
use Rattle.block_machine.specs.Blocks.{asked_block, job_kind}
use Rattle.block_machine.specs.Next.{Next, PickJob, BeginSweep, PickMember, PostMember, EndSweep, next_of}
use Rattle.block_machine.specs.StartUp.{at_first, started_block}
use Rattle.block_machine.specs.Steps.{changed, changed_by, accepted_by, asked, picked, wrote, posted, posted_next, step, after, after_from}

pub record Stays (s t : State) : Type 0 where
  pub blocks : length t.blocks ≡ length s.blocks
  pub started : t.started ≡ s.started
  pub off : t.off ≡ s.off

same_stays : (s : State) → Stays s s
same_stays s = record { blocks = refl; started = refl; off = refl }

changed_stays : (c : Configuration) (s : State) (r : Request) → Stays s (changed c s r)
changed_stays c s (SetIndex block index) = record { blocks = length-set s.blocks block _; started = refl; off = refl }
changed_stays c s (SetProtection block on) = record { blocks = length-set s.blocks block _; started = refl; off = refl }
changed_stays c s (SetLock block on) = record { blocks = length-set s.blocks block _; started = refl; off = refl }
changed_stays c s (SetRam block on) = record { blocks = length-set s.blocks block _; started = refl; off = refl }
changed_stays c s (PutRam block content) = record { blocks = length-set s.blocks block _; started = refl; off = refl }
changed_stays c s ReadAll = record { blocks = length-set s.blocks 0 _; started = refl; off = refl }
changed_stays c s WriteAll = record { blocks = length-set s.blocks 0 _; started = refl; off = refl }
changed_stays c s CancelWriteAll = record { blocks = refl; started = refl; off = refl }
changed_stays c s r = same_stays s

accepted_stays : (c : Configuration) (s : State) (r : Request) (kind : Option JobKind) → Stays s (accepted_by c s r kind)
accepted_stays c s r (Some kind) = record { blocks = length-set s.blocks (asked_block r) _; started = refl; off = refl }
accepted_stays c s r None = changed_stays c s r

pub asked_stays : (c : Configuration) (s : State) (r : Request) (reply : Reply) → Stays s (asked c s r reply)
asked_stays c s r Accepted = accepted_stays c s r (job_kind r)
asked_stays c s r reply = same_stays s

pub picked_stays : (c : Configuration) (s : State) (t : Taken) (n : Next) → Stays s (picked c s t n)
picked_stays c s t (PickJob j) = record { blocks = refl; started = refl; off = refl }
picked_stays c s t (BeginSweep sw) = record { blocks = refl; started = refl; off = refl }
picked_stays c s t (PickMember sw id) = record { blocks = length-set s.blocks id _; started = refl; off = refl }
picked_stays c s t n = same_stays s

pub wrote_stays : (s : State) (i : Instance) (mark : Mark) (o : Option Job) → Stays s (wrote s i mark o)
wrote_stays s i mark None = same_stays s
wrote_stays s i mark (Some j) = record { blocks = refl; started = refl; off = refl }

next_stays : (c : Configuration) (s : State) (r : ReqResult) (given : Option (List ℕ)) (n : Next) → Stays s (posted_next c s r given n)
next_stays c s r given (PostMember sw id) = record { blocks = length-set s.blocks id _; started = refl; off = refl }
next_stays c s r given (EndSweep sw) = record { blocks = length-set s.blocks 0 _; started = refl; off = refl }
next_stays c s r given n = same_stays s

pub posted_stays : (c : Configuration) (s : State) (r : ReqResult) (given : Option (List ℕ)) (o : Option Job) → Stays s (posted c s r given o)
posted_stays c s r given (Some j) = record { blocks = length-set s.blocks _ _; started = refl; off = refl }
posted_stays c s r given None = next_stays c s r given (next_of c s)

-- THE NUMBER OF BLOCKS
-- the states of so many blocks, once it is started
abbrev pub IsSized : Configuration → State → Type 0
IsSized c s = IsTrue s.started → length s.blocks ≡ length c.blocks + 1

by_stays : (c : Configuration) (s t : State) → Stays s t → IsSized c s → IsSized c t
by_stays c s t stays sized on = stays.blocks ∙ sized (sym stays.started ∙ on)

enumerated : {A B : Type 0} (f : ℕ × A → B) (n : ℕ) (xs : List A) → length (map f (enumerate_from n xs)) ≡ length xs
enumerated f n xs = length-map (enumerate_from n xs) f ∙ length-enumerate_from n xs

changes_sized : (c : Configuration) (s : State) (e : Entry) → IsSized c s → IsSized c (changed_by c s e)
changes_sized c s (Ask caller r reply) sized = by_stays c s _ (asked_stays c s r reply) sized
changes_sized c s (Pick block kind t ops) sized = by_stays c s _ (picked_stays c s t (next_of c s)) sized
changes_sized c s (Wrote i mark ops) sized = by_stays c s _ (wrote_stays s i mark s.hand) sized
changes_sized c s (Post block r given refused ops) sized = by_stays c s _ (posted_stays c s r given s.hand) sized
changes_sized c s (Off ops) sized = sized
changes_sized c s (Found marks ops) sized = λ on. let all = enumerated (λ (x : ℕ × BlockDesc). started_block c marks x.0 x.1) 1 c.blocks in omega (arith, all)

from_sized : (c : Configuration) (s : State) (es : List Entry) → IsSized c s → IsSized c (after_from c s es)
from_sized c s [] sized = sized
from_sized c s (e ∷ es) sized = from_sized c (step c s e) es (changes_sized c s e sized)

pub is_sized : (c : Configuration) (h : List Entry) → IsSized c (after c h)
is_sized c h = from_sized c at_first h (λ on. absurd (cc on))
