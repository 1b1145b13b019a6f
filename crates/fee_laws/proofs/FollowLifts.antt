-- From the banks and the bytes to a device.
use Rattle.std.specs.Prelude.{IfSome, IsSome}
use Rattle.std.proofs.Common.{◌≡◌, ◌≤◌, ◌*◌, ◌++◌, ◌∷◌, ℕ, Bool, true, false, List, [], length, Option, Some, None, refl, sym, ap, subst}
use Rattle.nv_base.specs.declared.geometry.Geometry.{Geometry}
use Rattle.nv_base.specs.declared.instance.DeviceNumber.{DeviceNumber}
use Rattle.fls_model.specs.declared.flash.FlashAnswer.{FlashAnswer}
use Rattle.fls_model.specs.declared.flash.FlashAnswer.TheVariants.{Done, Failed, Off}
use Rattle.fls_model.specs.Attach.{AreBytesOf}
use Rattle.fls_model.specs.Op.{Op, MayLeave}
use Rattle.fls_model.specs.Read.{IsRead}
use Rattle.fls_model.specs.Step.{IsStep, IsAsked, OffOrAsked, Leaves, HasCause}
use Rattle.fls_model.specs.Told.{Told, ToldBytes, bytes_now}
use Rattle.fls_jobs.specs.State.{FlsState}
use Rattle.fee_switch_laws.specs.fee_switch.Banks.{BanksState}
use Rattle.fee_switch_laws.specs.Shown.{layout_in}
use Rattle.promise_device.specs.Making.{Making}
use Rattle.fee_told.specs.fls_told.Clock.{change_of}
use Rattle.fee_told.proofs.ToldBytes.{before_told, both_left, now_at}
use Rattle.fee_laws.specs.Inside.{Parts}
use Rattle.fee_laws.specs.Turn.{IsOn, operated}
use Rattle.fee_laws.specs.Follows.{FollowsBytes, Follows}
use Rattle.fee_laws.proofs.Before.{each_now}
use Rattle.fee_laws.proofs.FollowStarts.{wide}

-- AN OPERATION
not_off : (answer : FlashAnswer) (s t : Told) → HasCause answer s t → t.off ≡ false → answer ≡ Off → ⊥
not_off Done s t cause on off = cc off
not_off Failed s t cause on off = cc off
not_off Off s t cause on off = (let h = cause.2 in cc (h, on))

-- done or failed, where the banks behind it follow the bytes that it left; that the power went off leaves nothing to know
pub operation_follows : (s : Parts) (f : FlsState) (b : BanksState) (op listed : Op) (answer : FlashAnswer) → s.started ≡ true → s.fls.flash.off ≡ false → IsStep op s.fls.flash answer f.flash
    → ((answer ≡ Off → ⊥) → (old new : List ℕ) → bytes_now s.fls.flash ≡ Some old → MayLeave op old new → Leaves op answer old new → FollowsBytes s.banks s.content s.operations old
    → FollowsBytes b s.content (s.operations ++ change_of listed s.fls.flash answer ∷ []) new)
    → Follows s → Follows (operated listed answer f b s)
operation_follows s f b op listed answer started power step goes follows = λ started' on.
    (let asked : IsAsked op s.fls.flash answer f.flash = subst (λ (x : Bool). OffOrAsked x op s.fls.flash answer f.flash) power step in
    each_now f.flash.bytes (FollowsBytes b s.content (s.operations ++ change_of listed s.fls.flash answer ∷ [])) (λ new at.
    (let before = before_told s.fls.flash.bytes f.flash.bytes op answer new asked.bytes at in
    let left = both_left s.fls.flash.bytes f.flash.bytes op answer before.0 new before.1 at asked.bytes in
    goes (not_off answer s.fls.flash f.flash asked.cause on) before.0 new before.1 left.0 left.1
    (now_at s.fls.flash.bytes (FollowsBytes s.banks s.content s.operations) before.0 before.1 (follows started power)))))

-- A READ
pub read_bytes : (address : ℕ) (s t : Told) (before into : List ℕ) (answer : FlashAnswer) → IsRead address s before answer into t → t.bytes ≡ s.bytes
read_bytes address s t before into Done read = ap (λ (x : Told). x.bytes) read.1
read_bytes address s t before into Failed read = ap (λ (x : Told). x.bytes) read.1
read_bytes address s t before into Off read = ap (λ (x : Told). x.bytes) read.1

pub read_off : (address : ℕ) (s t : Told) (before into : List ℕ) (answer : FlashAnswer) → IsRead address s before answer into t → s.off ≡ false → answer ≡ Off → ⊥
read_off address s t before into Done read power off = cc off
read_off address s t before into Failed read power off = cc off
read_off address s t before into Off read power off = (let h = read.2 in cc (h, power))

-- IN MEMORY
-- other banks, which follow the same bytes
pub memory_follows : (s : Parts) (f : FlsState) (b : BanksState) (content : List ℕ) → s.started ≡ true → s.fls.flash.off ≡ false → f.flash.bytes ≡ s.fls.flash.bytes
    → ((bytes : List ℕ) → bytes_now s.fls.flash ≡ Some bytes → FollowsBytes s.banks s.content s.operations bytes → FollowsBytes b content s.operations bytes)
    → Follows s → Follows (record s { fls = f; banks = b; content = content })
memory_follows s f b content started power same goes follows = λ started' on.
    subst (λ (o : Option ToldBytes). IfSome o (λ x. FollowsBytes b content s.operations x.now)) (sym same)
    (each_now s.fls.flash.bytes (FollowsBytes b content s.operations) (λ bytes at. goes bytes at (now_at s.fls.flash.bytes (FollowsBytes s.banks s.content s.operations) bytes at (follows started power))))

-- A DEVICE THAT IS ON
pub some_of : {A : Type 0} (o : Option A) → IsSome o → (x : A) × (o ≡ Some x)
some_of None some = cc some
some_of (Some x) some = (x, refl)

module _ (m : Making) (entry : Told) (s : Parts) (listed : List (DeviceNumber × ℕ)) (kept count : ℕ) (on : IsOn m entry s listed kept count) where
  pub are_bytes : (bytes : List ℕ) → bytes_now s.fls.flash ≡ Some bytes → AreBytesOf s.banks.geometry bytes
  are_bytes bytes at = subst (λ (g : Geometry). AreBytesOf g bytes) (sym on.sound.made_for.banks_geometry) (now_at s.fls.flash.bytes (AreBytesOf m.geometry) bytes at on.sound.made_for.bytes)

  pub all_pages : (bytes : List ℕ) → bytes_now s.fls.flash ≡ Some bytes → (layout_in s.banks).pages * (layout_in s.banks).page * s.banks.banks ≤ length bytes
  all_pages bytes at = wide s.banks on.banks bytes (are_bytes bytes at)
