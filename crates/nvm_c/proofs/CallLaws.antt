-- What a call of C does, from what was done with its handle.
use Rattle.std.proofs.Common.{◌≢◌, ◌⊎◌, Ok, Err, inr, subst, ◌≡◌, ℕ, false, List, [], Option, None, Some, Result, IsSome, refl, sym, inl}
use Rattle.std.specs.Prelude.{IfSome, IsSomeAnd}
use Rattle.nvm.specs.block_machine.Legal.{HasStore}
use Rattle.nvm.specs.block_machine.Words.{Reply, Request}
use Rattle.nvm.specs.nv_desk.declared.ask.AskFault.{AskFault}
use Rattle.nvm.specs.block_config.Config.{Configuration}
use Rattle.nvm.specs.block_config.Reading.{meaning_of}
use Rattle.nvm.specs.block_config.declared.fault.ConfigFault.TheVariants.{Broken, Memory}
use Rattle.nvm.specs.fls_model.Told.{Told}
use Rattle.nvm.specs.nvm_flash.declared.device.MakeFault.{MakeFault}
use Rattle.lent_flash.specs.Flash.{flash_over}
use Rattle.lent_flash.specs.declared.lent.Lent.{Lent}
use Rattle.nvm_c.specs.Exports.{Goes, IsAsked, IsNotOpened, IsOpened, IsOpenedOver, IsStopped, fault_code}
use Rattle.nvm_c.specs.Held.{CanRun, IsHandedOn, Kept, Ran, kept_as, origin_of}
use Rattle.nvm_c.specs.Services.{answer_code, answer_value, brings_content, number_of, request_of}
use Rattle.nvm_c.specs.Unit.{UnitState, CameBack, ClosesWith}
use Rattle.nvm_c.specs.Work.{CanDo, Does, IsTaken, IsTaskOf, Serves, StaysDown}
use Rattle.nvm_c.specs.declared.services.Service.{Service}
use Rattle.nvm_c.specs.declared.services.Service.TheVariants as service
use Rattle.nvm_c.specs.declared.work.Task.{Task}
use Rattle.nvm_c.specs.declared.work.Outcome.{Outcome}
use Rattle.nvm_c.specs.declared.work.Outcome.TheVariants.{Asked, Closed, Down, NotOpened}
use Rattle.nvm_c.specs.declared.work.Task.TheVariants.{Ask}
use Rattle.nvm_c.specs.declared.work.UnitWork.TheVariants.{Open, Serve, Close}

-- nothing changed, and this is so of a state that stays
pub goes_same : (kept : Option Kept) (P : UnitState → UnitState → Type 0) → IsSome kept → ((s : UnitState) → P s s) → Goes kept kept P
goes_same None P is so = cc is
goes_same (Some k) P is so = (k.state, refl, so k.state)

-- what was done with a task is what was done with its request
taken_by : (r : Request) (task : Task) (answer : Result Reply AskFault) (s t : UnitState) → IsTaskOf r task → Does task (Asked answer) s t → IsTaken r answer s t
taken_by r (Ask kind content) answer s t is does = subst (λ (x : Request). IsTaken x answer s t) is does
taken_by r task answer s t is does = absurd is

-- each request keeps the rule on numbers of stores
keeps_stores : (c : Configuration) (v : Service) (block number : ℕ) (content : List ℕ) → HasStore c (request_of v block number content)
keeps_stores c service.SetDataIndex block number content = tt
keeps_stores c service.GetDataIndex block number content = tt
keeps_stores c service.SetBlockProtection block number content = tt
keeps_stores c service.SetRamBlockStatus block number content = tt
keeps_stores c service.ReadBlock block number content = tt
keeps_stores c service.WriteBlock block number content = refl
keeps_stores c service.RestoreBlockDefaults block number content = tt
keeps_stores c service.EraseNvBlock block number content = tt
keeps_stores c service.CancelWriteAll block number content = tt
keeps_stores c service.InvalidateNvBlock block number content = tt
keeps_stores c service.ReadAll block number content = tt
keeps_stores c service.WriteAll block number content = tt
keeps_stores c service.SetBlockLockStatus block number content = tt
keeps_stores c service.ReadPermanentRam block number content = tt
keeps_stores c service.WritePermanentRam block number content = inr refl
keeps_stores c service.RestorePermanentRam block number content = tt
keeps_stores c service.PutRam block number content = tt

-- a service that brings no content asks the same of any
pub same_request : (v : Service) (block number : ℕ) (content : List ℕ) → brings_content v ≡ false → request_of v block number [] ≡ request_of v block number content
same_request service.SetDataIndex block number content is = refl
same_request service.GetDataIndex block number content is = refl
same_request service.SetBlockProtection block number content is = refl
same_request service.SetRamBlockStatus block number content is = refl
same_request service.ReadBlock block number content is = refl
same_request service.WriteBlock block number content is = cc is
same_request service.RestoreBlockDefaults block number content is = refl
same_request service.EraseNvBlock block number content is = refl
same_request service.CancelWriteAll block number content is = refl
same_request service.InvalidateNvBlock block number content is = refl
same_request service.ReadAll block number content is = refl
same_request service.WriteAll block number content is = refl
same_request service.SetBlockLockStatus block number content is = refl
same_request service.ReadPermanentRam block number content is = refl
same_request service.WritePermanentRam block number content is = refl
same_request service.RestorePermanentRam block number content is = refl
same_request service.PutRam block number content is = cc is

can_do : (r : Request) (task : Task) (s : UnitState) → IsTaskOf r task → HasStore s.desk.config r → CanDo task s
can_do r (Ask kind content) s is has = subst (λ (x : Request). HasStore s.desk.config x) (sym is) has
can_do r task s is has = absurd is

pub can_ask : (kept : Option Kept) (v : Service) (block number : ℕ) (content : List ℕ) (task : Task) → IsSome kept → IsTaskOf (request_of v block number content) task → CanRun kept (Serve task)
can_ask None v block number content task is_open is = cc is_open
can_ask (Some k) v block number content task is_open is = can_do (request_of v block number content) task k.state is (keeps_stores k.state.desk.config v block number content)

asked_by : (k : Kept) (behind : Option Kept) (v : Service) (service block number : ℕ) (content : List ℕ) (task : Task) (answer : Result Reply AskFault) (code value : ℕ)
    → number_of v ≡ service → IsTaskOf (request_of v block number content) task → code ≡ answer_code answer → value ≡ answer_value answer → (s : Option UnitState) → behind ≡ kept_as (Some k) (Serve task) s
    → Serves (origin_of k).making (origin_of k).entry (Serve task) (Asked answer) (Some k.state) s → Goes (Some k) behind (IsAsked service block number content code value)
asked_by k behind v service block number content task answer code value is_number is_task is_code is_value None is does = absurd does
asked_by k behind v service block number content task answer code value is_number is_task is_code is_value (Some t) is does =
    let taken = taken_by (request_of v block number content) task answer k.state t is_task does in (
      t,
      is,
      inl (
        v,
        is_number,
        record {
          answer = answer;
          asks = taken.1;
          replies = taken.2;
          code_is = is_code;
          value_is = is_value;
        },
      ),
    )

-- a request was asked
pub asked : (kept behind : Option Kept) (v : Service) (service block number : ℕ) (content : List ℕ) (task : Task) (answer : Result Reply AskFault) (code value : ℕ)
    → IsSome kept → number_of v ≡ service → IsTaskOf (request_of v block number content) task → code ≡ answer_code answer → value ≡ answer_value answer → Ran kept (Serve task) (Asked answer) behind
    → Goes kept behind (IsAsked service block number content code value)
asked None behind v service block number content task answer code value is_open is_number is_task is_code is_value ran = cc is_open
asked (Some k) behind v service block number content task answer code value is_open is_number is_task is_code is_value ran =
    asked_by k behind v service block number content task answer code value is_number is_task is_code is_value ran.0 ran.1 ran.2

-- one that wasn't answered had a unit whose last start-up failed
down_by : (r : Request) (task : Task) (y : Outcome) (s t : UnitState) → IsTaskOf r task → Does task y s t → ((answer : Result Reply AskFault) → y ≡ Asked answer → ⊥) → StaysDown s t
down_by r (Ask kind content) (Asked answer) s t is does other = absurd (other answer refl)
down_by r (Ask kind content) Down s t is does other = does
down_by r (Ask kind content) y s t is does other = absurd does
down_by r task y s t is does other = absurd is

stayed_by : (k : Kept) (behind : Option Kept) (r : Request) (service block number : ℕ) (content : List ℕ) (task : Task) (y : Outcome) → IsTaskOf r task → ((answer : Result Reply AskFault) → y ≡ Asked answer → ⊥)
    → (s : Option UnitState) → behind ≡ kept_as (Some k) (Serve task) s → Serves (origin_of k).making (origin_of k).entry (Serve task) y (Some k.state) s → Goes (Some k) behind (IsAsked service block number content 5 0)
stayed_by k behind r service block number content task y is_task other None is does = absurd does
stayed_by k behind r service block number content task y is_task other (Some t) is does = (t, is, inr (refl, inr (inl (refl, down_by r task y k.state t is_task does other))))

-- a request wasn't answered
pub stayed_down : (kept behind : Option Kept) (v : Service) (service block number : ℕ) (content : List ℕ) (y : Outcome) → IsSome kept → IsHandedOn (request_of v block number content) kept y behind
    → ((answer : Result Reply AskFault) → y ≡ Asked answer → ⊥) → Goes kept behind (IsAsked service block number content 5 0)
stayed_down None behind v service block number content y is_open handed other = cc is_open
stayed_down (Some k) behind v service block number content y is_open handed other =
    stayed_by k behind (request_of v block number content) service block number content handed.0 y handed.1 other handed.2.0 handed.2.1 handed.2.2

closed_over : (k : Kept) (bytes : Option (List ℕ)) → CameBack (origin_of k).entry k.state bytes → IsSomeAnd bytes (ClosesWith k.flash k.state)
closed_over k None came = came
closed_over k (Some image) came = came k.flash k.cuts refl

-- WITHOUT A UNIT
pub not_opened : (kept behind : Option Kept) (c : Configuration) (flash : Told) (cuts : ℕ) (why : MakeFault) (lent : Lent) (code : ℕ) → kept ≡ None → code ≡ fault_code why
    → Ran kept (Open c flash cuts) (NotOpened why lent) behind → IsNotOpened c flash code lent.bytes
not_opened None behind c flash cuts why lent code none is_code ran = (why, ran.2.2.0, is_code, ran.2.2.1, ran.2.2.2)
not_opened (Some k) behind c flash cuts why lent code none is_code ran = cc none

pub stopped : (bytes back : Option (List ℕ)) (text : List ℕ) (c : Configuration) (flash : Told) (code : ℕ) → meaning_of text ≡ Ok c → IfSome bytes (λ b. flash ≡ flash_over b)
    → (code ≢ 0 → IsNotOpened c flash code back) → code ≢ 0 → IfSome bytes (λ b. IsStopped text b code back)
stopped None back text c flash code means over told failed = tt
stopped (Some b) back text c flash code means over told failed = inr (inl (c, means, subst (λ (f : Told). IsNotOpened c f code back) over (told failed)))

pub no_memory : (bytes back : Option (List ℕ)) (text : List ℕ) → back ≡ bytes → IfSome bytes (λ b. IsStopped text b 4 back)
no_memory None back text same = tt
no_memory (Some b) back text same = inr (inr (refl, same))

pub refused : (bytes : Option (List ℕ)) (text : List ℕ) (rule block : ℕ) → (Broken rule block ≡ Memory) ⊎ (meaning_of text ≡ Err (Broken rule block)) → IfSome bytes (λ b. IsStopped text b 1 bytes)
refused None text rule block why = tt
refused (Some b) text rule block (inl is) = cc is
refused (Some b) text rule block (inr is) = inl (Broken rule block, is, refl, refl)

-- a unit of the configuration of a text is opened over its bytes
pub opened : (bytes : Option (List ℕ)) (text : List ℕ) (c : Configuration) (flash : Told) (cuts code : ℕ) (behind : Option Kept) → meaning_of text ≡ Ok c → IfSome bytes (λ b. flash ≡ flash_over b)
    → (code ≡ 0 → IsSomeAnd behind (λ k. IsOpenedOver c flash cuts k)) → code ≡ 0 → IsSomeAnd behind (λ k. IfSome bytes (λ b. IsOpened text b cuts k))
opened bytes text c flash cuts code None means over told done = told done
opened None text c flash cuts code (Some k) means over told done = tt
opened (Some b) text c flash cuts code (Some k) means over told done = (c, means, subst (λ (f : Told). IsOpenedOver c f cuts k) over (told done))

-- of one that is closed
pub closed : (kept behind : Option Kept) (lent : Lent) → Ran kept Close (Closed lent) behind → IfSome kept (λ k. IsSomeAnd lent.bytes (ClosesWith k.flash k.state))
closed None behind lent ran = tt
closed (Some k) behind lent ran = closed_over k lent.bytes ran.2.1
