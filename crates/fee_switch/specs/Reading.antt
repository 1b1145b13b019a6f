-- What reading a bank gives.
use Rattle.std.specs.Prelude.{◌≡◌, ℕ, true, min, List, IfSome}
use Rattle.nv_base.specs.declared.geometry.Geometry.{Geometry}
use Rattle.nv_base.specs.Geometry.{IsLegal, HasBanks, size_of_bank}
use Rattle.nv_base.specs.Count.{Rose}
use Rattle.fls_model.specs.declared.flash.FlashAnswer.{FlashAnswer}
use Rattle.fls_model.specs.declared.flash.FlashAnswer.TheVariants.{Done, Failed, Off}
use Rattle.fls_model.specs.Told.{Told}
use Rattle.fls_jobs.specs.Start.{IsIdle}
use Rattle.fls_jobs.specs.State.{FlsState}
use Rattle.fee_image.specs.Image.{layout_of, bank_in}
use Rattle.fee_log.specs.Load.{HasPages}

-- an idle driver of a flash of a legal geometry, which so many banks share
pub record IsShared (fls : FlsState) (g : Geometry) (banks : ℕ) : Type 0 where
  pub legal : IsLegal g
  pub geometry : fls.geometry ≡ g
  pub idle : IsIdle fls
  pub shared : HasBanks g banks

-- the room for what one read gives: a bank's bytes, and 4,096 at most
abbrev pub buffer_size : Geometry → ℕ → ℕ
buffer_size g banks = min (size_of_bank g banks) 4096

-- a failed read counts its fault, and while a cut stands nothing is read
abbrev pub IsAnswered : Told → FlashAnswer → Told → Type 0
IsAnswered s Done t = t ≡ s
IsAnswered s Failed t = Rose s.faults t.faults × (t ≡ record s { faults = t.faults })
IsAnswered s Off t = (s.off ≡ true) × (t ≡ s)

-- the pages of bank k from one on, as the flash has them, where it tells its bytes
abbrev pub ArePagesRead : Geometry → ℕ → ℕ → ℕ → Told → FlashAnswer → List ℕ → Told → Type 0
ArePagesRead g banks k from s Done into t = IfSome s.bytes (λ b. (format : ℕ) → HasPages (bank_in (layout_of g banks) format k) b.now from into) × IsAnswered s Done t
ArePagesRead g banks k from s answer into t = IsAnswered s answer t
