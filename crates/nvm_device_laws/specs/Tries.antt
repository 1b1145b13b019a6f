-- The tries of the job in hand that failed, and what pays for them and for the Posts so far.
use Rattle.std.specs.Prelude.{◌≡◌, ◌≢◌, ◌⊎◌, ◌≤◌, ◌+◌, ◌*◌, ℕ, Bool, true, false, List, [], ◌∷◌, ◌++◌, length, IsSome, Option, Some, None}
use Rattle.std.specs.List.{Contains}
use Rattle.std.specs.Option.{option_map_or}
use Rattle.block_machine.specs.nv_base.Count.{WereCounted}
use Rattle.block_machine.specs.nv_base.Marks.{instance_of, number_of}
use Rattle.block_machine.specs.nv_base.declared.instance.DeviceNumber.{DeviceNumber}
use Rattle.block_machine.specs.block_config.Lengths.{lengths_of}
use Rattle.memif.specs.Told as device
use Rattle.memif.specs.Told.{DeviceTold, Fixed, Part, Open, Ended, part_at, part_of_block, PartTold}
use Rattle.memif.specs.Clock.{Clock}
use Rattle.memif.specs.declared.answer.JobResult.{JobResult}
use Rattle.block_machine.specs.Words.{ReqResult, ReadJob, Entry, Post, Configuration}
use Rattle.block_machine.specs.State.{State, Job}
use Rattle.block_machine.specs.Blocks.{desc_of, job_block, kind_of, mark_of, rank_of}
use Rattle.block_machine.specs.StartUp.{at_first}
use Rattle.block_machine.specs.Steps.{after}
use Rattle.block_machine.specs.Results.{own_of, own_indices, result_of, took_none}
use Rattle.promise_blocks.specs.Payment.{Worn, ArePaid, IsPaid}
use Rattle.promise_blocks.specs.OverDevice.{is_of}
use Rattle.job_programs.specs.Program as program
use Rattle.job_programs.specs.Program.{Program, works, retries_of, next_in}
use Rattle.job_programs.specs.Laws.{failed_of, Fit, Works}
use Rattle.job_programs.specs.Failures.{served_of, failed_tries}
use Rattle.nvm_device_laws.specs.Outcomes.{outcome_by}
use Rattle.nvm_device_laws.specs.Turn.{Keeps}

-- the job in hand is an immediate one, whose operations are urgent at the device
abbrev pub is_hand_urgent : Configuration → State → Bool
is_hand_urgent c s = option_map_or (λ j. (rank_of c j).immediate) s.hand false

-- the device was worn out for an instance of a program that is no read, and is of an urgent job or of another one, once at most
-- so many operations were made
abbrev pub IsWornOut : Worn → Bool → ℕ → Program → ℕ → Type 0
IsWornOut worn urgent ops p index = (p.kind ≢ ReadJob)
    × ((moment : ℕ) × (moment ≤ ops) × worn moment (number_of (record { block = p.block; index = index })) urgent)

-- so many faults were counted beside those that pay for a history
abbrev pub ArePaidWith : (ℕ → Bool) → Configuration → Worn → ℕ → ℕ → List Entry → ℕ → Type 0
ArePaidWith of c worn before now h n = (faults : ℕ) × WereCounted (faults + n) before now × ArePaid of c worn faults at_first h

-- the tries of the instances that failed at every try
abbrev pub tries_of_done : Program → ℕ
tries_of_done p = (p.retries + 1) * length (failed_of p.indices p.done)

-- the instance that is next, if there is one
abbrev pub IsWornNext : Worn → Bool → ℕ → Program → Option ℕ → Type 0
IsWornNext worn urgent ops p (Some index) = IsWornOut worn urgent ops p index
IsWornNext worn urgent ops p None = ⊥

-- the operations of a device, and the faults of one of its parts
pub record Counted : Type 0 where
  pub ops : ℕ
  pub faults : ℕ

abbrev pub counted_at : Part → DeviceTold → Counted
counted_at p d = record { ops = d.ops; faults = (part_at p d).faults }

abbrev pub counted_from : PartTold → Counted
counted_from p = record { ops = 0; faults = p.faults }

-- Each failed try of a program was counted beside what pays for the Posts of these blocks; or the device is worn out for the
-- instance that is next, and those of the others were; or it is for one that failed at every try.
abbrev pub AreTriesPaid : (ℕ → Bool) → Configuration → Worn → (urgent : Bool) → Counted → Counted → List Entry → Program → Type 0
AreTriesPaid of c worn urgent before now h p =
    ArePaidWith of c worn before.faults now.faults h (failed_tries p)
    ⊎ (ArePaidWith of c worn before.faults now.faults h (tries_of_done p) × IsWornNext worn urgent now.ops p (next_in p))
    ⊎ ((index : ℕ) × Contains (failed_of p.indices p.done) index × IsWornOut worn urgent now.ops p index)

-- so it is of a program's own part, and of the blocks of that
abbrev pub TriesArePaidAt : Fixed → Configuration → Worn → (urgent : Bool) → (Part → PartTold) → DeviceTold → List Entry → Program → Type 0
TriesArePaidAt f c worn urgent before now h p =
    let q = part_of_block f p.block in AreTriesPaid (is_of q f) c worn urgent (counted_from (before q)) (counted_at q now) h p

abbrev pub TriesArePaid : Configuration → Worn → (urgent : Bool) → (Part → PartTold) → DeviceTold → List Entry → Program → Type 0
TriesArePaid c worn urgent before now h p = TriesArePaidAt now.fixed c worn urgent before now h p

-- a program that begins has none
abbrev pub TriesBegin : DeviceTold → Clock → Type 0
TriesBegin d clock =
    (c : Configuration) (urgent : Bool) (h : List Entry) (before : Part → PartTold) (p : Program) → p.done ≡ [] → p.failures ≡ 0
    → ((q : Part) → IsPaid (is_of q d.fixed) c clock.worn (before q).faults (part_at q d).faults h) → TriesArePaid c clock.worn urgent before d h p

-- an entry that is no Post leaves them paid
abbrev pub is_post : Entry → Bool
is_post (Post block r given refused ops) = true
is_post e = false

abbrev pub TriesStayWith : DeviceTold → Clock → Type 0
TriesStayWith d clock =
    (c : Configuration) (urgent : Bool) (h : List Entry) (before : Part → PartTold) (p : Program) (e : Entry) → is_post e ≡ false
    → TriesArePaid c clock.worn urgent before d h p → TriesArePaid c clock.worn urgent before d (h ++ e ∷ []) p

-- a call of the device leaves them paid
abbrev pub TriesStay : DeviceTold → Clock → DeviceTold → Clock → Type 0
TriesStay old clock new clock_new =
    (c : Configuration) (cap : ℕ) (urgent : Bool) (h : List Entry) (before : Part → PartTold) (p : Program) → Keeps c cap h before old clock
    → TriesArePaid c clock.worn urgent before old h p → TriesArePaid c clock_new.worn urgent before new h p

-- and so does the end of the job that a program asked for
abbrev pub TriesGoOn : DeviceTold → Clock → DeviceTold → Clock → Type 0
TriesGoOn old clock new clock_new =
    (c : Configuration) (cap : ℕ) (urgent : Bool) (h : List Entry) (before : Part → PartTold) (p : Program) (j : device.Job) (index : ℕ) (x : DeviceNumber × ℕ)
    (r : JobResult) (given : List ℕ) → Keeps c cap h before old clock
    → old.stand ≡ Open j → new.stand ≡ Ended r given → next_in p ≡ Some index
    → j.number ≡ number_of (record { block = p.block; index = index }) → j.urgent ≡ urgent
    → Contains (lengths_of c) x → x.0.0 ≡ j.number → (instance_of x.0).block ≡ p.block
    → (p.kind ≡ ReadJob → j.mark ≡ None) → p.failures ≤ p.retries
    → TriesArePaid c clock.worn urgent before old h p
    → TriesArePaid c clock_new.worn urgent before new h (program.after p (outcome_by j.mark r))

-- THE POST
-- the program of the job in hand, at its end or on the way
pub record IsProgramOf (c : Configuration) (s : State) (j : Job) (p : Program) : Type 0 where
  pub hand : s.hand ≡ Some j
  pub block : p.block ≡ job_block j
  pub own : own_indices (own_of c s (job_block j)) ≡ p.indices
  pub shape : Works p.indices
  pub kind : kind_of j ≡ p.kind
  pub works : works p.kind ≡ true
  pub retries : p.retries ≡ retries_of (desc_of c (job_block j)) p.kind
  pub fits : Fit p.kind (own_of c s (job_block j)).marks p.done
  pub took : took_none j.taken ≡ false
  pub written : p.kind ≢ ReadJob → j.written ≡ served_of p.indices p.done
  pub writes : p.kind ≢ ReadJob → IsSome (mark_of j)

-- a Post of a program's result is paid for, as its failed tries are
abbrev pub PostsArePaid : DeviceTold → Clock → Type 0
PostsArePaid d clock =
    (c : Configuration) (cap : ℕ) (h : List Entry) (before : Part → PartTold) (j : Job) (p : Program) (r : ReqResult)
    (given : Option (List ℕ)) → IsProgramOf c (after c h) j p
    → next_in p ≡ None → (r, given) ≡ result_of (own_of c (after c h) (job_block j)) j (failed_of p.indices p.done)
    → Keeps c cap h before d clock
    → TriesArePaid c clock.worn (rank_of c j).immediate before d h p
    → (q : Part) → IsPaid (is_of q d.fixed) c clock.worn (before q).faults (part_at q d).faults (h ++ Post (job_block j) r given 0 (device.ops_of d) ∷ [])
