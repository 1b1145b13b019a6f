-- The header of a job's record.
use Rattle.std.specs.Prelude.{take, IsTrue}
use Rattle.std.proofs.Common.{◌≡◌, ◌≢◌, ◌≤◌, ◌<◌, ◌^◌, ◌==◌, ℕ, true, List, [], ◌∷◌, Option, Some, refl, subst, arith}
use Rattle.std.proofs.lemmas.Bool.{cond_both, eqb-true, eq-eqb}
use Rattle.nv_base.specs.Lengths.{AreLengths}
use Rattle.nv_base.specs.declared.instance.DeviceNumber.{DeviceNumber}
use Rattle.nv_base.specs.declared.job.DeviceOp.{DeviceOp}
use Rattle.nv_base.specs.declared.job.DeviceOp.TheVariants.{Read, Write, Invalidate, Erase}
use Rattle.memif.specs.Told.{length_of}
use Rattle.fee_format.specs.RecHead.{IsLegalRecHead}
use Rattle.fee_format.specs.declared.rec_head.RecHead.{RecHead}
use Rattle.fee_format.specs.declared.rec_head.RecordKind.{RecordKind}
use Rattle.fee_format.specs.declared.rec_head.RecordKind.TheVariants as kind
use Rattle.fee_image.specs.Found.{fits}
use Rattle.fee_image.specs.May.{held_written}
use Rattle.fee_laws.specs.Inside.{mark_of}
use Rattle.fee_switch_laws.specs.fee_log.Log.{LogState}
use Rattle.fee_laws.specs.declared.job.FeeJob.{FeeJob}
use Rattle.fee_laws.specs.Record.{kind_of, head_of, IsLengthOf}

-- NUMBERS
pub record IsAmong (low n length : ℕ) : Type 0 where
  pub low_than : low < n
  pub high : n < 65535
  pub some : 1 ≤ length
  pub few : length ≤ 4096

more_than : (low between n length : ℕ) → low < between → IsAmong between n length → IsAmong low n length
more_than low between n length less is = record { low_than = let h = is.low_than in omega arith; high = is.high; some = is.some; few = is.few }

pub among : (low : ℕ) (ns : List (DeviceNumber × ℕ)) (n length : ℕ) → AreLengths low ns → length_of ns n ≡ Some length → IsAmong low n length
among low [] n length are is = cc is
among low (x ∷ xs) n length are is =
    cond_both (x.0.0 == n) (Some x.1) (length_of xs n) (λ (o : Option ℕ). o ≡ Some length → IsAmong low n length)
    (λ e is. (let same : x.1 ≡ length = cc is in let at : x.0.0 ≡ n = eqb-true x.0.0 n e in
    subst (λ (k : ℕ). IsAmong low n k) same (subst (λ (k : ℕ). IsAmong low k x.1) at (record { low_than = are.0; high = are.1; some = are.2; few = are.3 }))))
    (λ e is. more_than low x.0.0 n length are.0 (among x.0.0 xs n length are.4 is)) is

-- THE KIND
-- what isn't a read has one, and what has one is no read
pub has_kind : (op : DeviceOp) → op ≢ Read → (k : RecordKind) × (kind_of op ≡ Some k)
has_kind Read writes = absurd (writes refl)
has_kind Write writes = (kind.Content, refl)
has_kind Invalidate writes = (kind.Invalid, refl)
has_kind Erase writes = (kind.Erased, refl)

pub not_read : (op : DeviceOp) (k : RecordKind) → kind_of op ≡ Some k → op ≢ Read
not_read op k writes read = (let none : kind_of Read ≡ Some k = subst (λ (o : DeviceOp). kind_of o ≡ Some k) read writes in cc none)

pub same_kind : (P : RecordKind → Type 0) (a k : RecordKind) → Some a ≡ Some k → P a → P k
same_kind P a k is has = subst P (let same : a ≡ k = cc is in same) has

-- THE HEADER
abbrev pub head_with : RecordKind → DeviceNumber → ℕ → ℕ → RecHead
head_with kind number length count = record { number = number; kind = kind; length = length; count = count }

abbrev IsMarkOf : DeviceOp → ℕ → ℕ → DeviceNumber → List ℕ → RecordKind → Type 0
IsMarkOf op length count number content kind = mark_of op (take length content) ≡ Some (held_written (head_with kind number length count) (take length content)).mark

pub mark_is : (op : DeviceOp) (k : RecordKind) (number : DeviceNumber) (length count : ℕ) (content : List ℕ) → kind_of op ≡ Some k
    → mark_of op (take length content) ≡ Some (held_written (head_with k number length count) (take length content)).mark
mark_is Read k number length count content writes = cc writes
mark_is Write k number length count content writes = same_kind (IsMarkOf Write length count number content) kind.Content k writes refl
mark_is Invalidate k number length count content writes = same_kind (IsMarkOf Invalidate length count number content) kind.Invalid k writes refl
mark_is Erase k number length count content writes = same_kind (IsMarkOf Erase length count number content) kind.Erased k writes refl

pub legal_head : (op : DeviceOp) (k : RecordKind) (number : DeviceNumber) (length of count : ℕ) → kind_of op ≡ Some k → IsAmong 0 number.0 of → count < 2 ^ 32 → IsLengthOf op length of → IsLegalRecHead (head_with k number length count)
legal_head Read k number length of count writes is counted fit = cc writes
legal_head Write k number length of count writes is counted fit =
    let a = is.some in let b = is.few in
    same_kind (λ (x : RecordKind). IsLegalRecHead (head_with x number length count)) kind.Content k writes
    (record { number_low = is.low_than; number_high = is.high; kind = omega (arith, fit, a); length = omega (arith, fit, b); count = counted })
legal_head Invalidate k number length of count writes is counted fit =
    same_kind (λ (x : RecordKind). IsLegalRecHead (head_with x number length count)) kind.Invalid k writes
    (record { number_low = is.low_than; number_high = is.high; kind = fit; length = omega (arith, fit); count = counted })
legal_head Erase k number length of count writes is counted fit =
    same_kind (λ (x : RecordKind). IsLegalRecHead (head_with x number length count)) kind.Erased k writes
    (record { number_low = is.low_than; number_high = is.high; kind = fit; length = omega (arith, fit); count = counted })

eqb_same : (n : ℕ) → (n == n) ≡ true
eqb_same n = eq-eqb n n refl

pub head_fits : (op : DeviceOp) (k : RecordKind) (number : DeviceNumber) (length of count : ℕ) → kind_of op ≡ Some k → IsLengthOf op length of → IsTrue (fits number.0 of (head_with k number length count))
head_fits Read k number length of count writes fit = cc writes
head_fits Write k number length of count writes fit =
    same_kind (λ (x : RecordKind). IsTrue (fits number.0 of (head_with x number length count))) kind.Content k writes
    (subst (λ (n : ℕ). IsTrue (fits number.0 n (head_with kind.Content number length count))) fit (rw (eqb_same number.0, eqb_same length) refl))
head_fits Invalidate k number length of count writes fit = same_kind (λ (x : RecordKind). IsTrue (fits number.0 of (head_with x number length count))) kind.Invalid k writes (rw (eqb_same number.0) refl)
head_fits Erase k number length of count writes fit = same_kind (λ (x : RecordKind). IsTrue (fits number.0 of (head_with x number length count))) kind.Erased k writes (rw (eqb_same number.0) refl)

-- it stays where its number's place does
pub same_head : (log next : LogState) (kind : RecordKind) (j : FeeJob) → next.numbers ≡ log.numbers → next.places ≡ log.places → head_of next kind j ≡ head_of log kind j
same_head log next kind j numbers places = λ i. head_of (record log { numbers = numbers i; places = places i }) kind j
