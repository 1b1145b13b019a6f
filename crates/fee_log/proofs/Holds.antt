-- What the bytes hold.
use Rattle.std.proofs.Common.{◌≡◌, ℕ, zero, suc, ◌≤◌, List, length, Some, None, refl, sym, ◌∙◌, subst, arith}
use Rattle.nv_base.specs.Pages.{record_pages_of}
use Rattle.fee_format.specs.declared.rec_head.RecHead.{RecHead}
use Rattle.fee_image.specs.Bank.{Bank}
use Rattle.fee_format.specs.Formats.{new_format}
use Rattle.fee_format.specs.RecHead.{IsLegalRecHead}
use Rattle.fee_image.specs.Image.{layout_of, bank_in}
use Rattle.fee_image.specs.Log.{Log, HoldsLog}
use Rattle.fee_image.specs.May.{May, MayCommit, exactly}
use Rattle.fee_image.specs.Step.{IsRecord}
use Rattle.fee_log.specs.declared.tail.Tail.{Tail}
use Rattle.fee_log.specs.declared.tail.Tail.TheVariants.{Open, Writes, Owes, Closed}
use Rattle.fee_log.specs.Laws.{MayFollow, LoadsHold, ErasedHolds, BeginsHold, GivenUpHolds, FlagsHold}
use Rattle.fee_log.specs.Load.{IsTailOf}
use Rattle.fee_log.specs.Log.{LogState, IsLogState, HasFormat, bank_of, pages_in, free_behind, log_of, tail_with, work_in, tail_begun}
use Rattle.fee_log.specs.Step.{given_up}
use Rattle.fee_log.proofs.Soundness.{legal_for}
use Rattle.fee_image.proofs.Logs.{erased_logs_hold, loaded_logs_hold, records_begin}
use Rattle.fee_image.proofs.Steps.{given_up_holds as logs_given_up}
use Rattle.fee_log.proofs.Follows.{given_up_follows}
use Rattle.fee_log.proofs.Loads.{loads_are_loaded}

-- STARTS
-- no record waits behind a load
loaded_follows : (may : May) (b : Bank) (bytes body : List ℕ) (tail : Tail) → IsTailOf b bytes tail → MayFollow may tail body
loaded_follows may b bytes body Open is = tt
loaded_follows may b bytes body (Writes h k) is = tt
loaded_follows may b bytes body (Owes h next) is = absurd is
loaded_follows may b bytes body Closed is = tt

pub loads_hold : LoadsHold
loads_hold s body bytes sound is size =
    let b = bank_of s in
    let loaded = loads_are_loaded b bytes s body is in
    let two : 2 ≤ pages_in s = omega (arith, sound.end_low, sound.end_high) in
    record {
      size = size;
      holds = subst (HoldsLog b s.numbers bytes (exactly b bytes)) (sym loaded.0) (loaded_logs_hold b s.numbers bytes (tail_with s.tail body) sound.geometry.page_low two loaded.1);
      follows = loaded_follows (exactly b bytes) b bytes body s.tail is.tail;
    }

pub erased_holds : ErasedHolds
erased_holds g banks bank numbers body bytes may sound size blank each = record {
  size = size;
  holds =
      erased_logs_hold (bank_in (layout_of g banks) new_format bank) numbers bytes may sound.geometry.page_low sound.end_high blank each;
  follows = tt;
}

-- A RECORD BEGINS
begins_at : (s : LogState) (tail : Tail) (head : RecHead) (before body bytes : List ℕ) (may : May)
    → IsLogState s → HasFormat s.format tail → IsLegalRecHead head → length body ≡ head.length → MayCommit may head body
    → work_in tail ≡ None
    → record_pages_of head.length s.geometry.page ≤ free_behind s.geometry.page (pages_in s) s.end tail
    → HoldsLog (bank_of s) s.numbers bytes may (log_of (record s { tail = tail }) before)
    → HoldsLog (bank_of s) s.numbers bytes may (log_of (record s { tail = tail_begun tail head }) body) × MayFollow may (tail_begun tail head) body
begins_at s Open head before body bytes may sound format legal size commit idle room holds =
    let is : IsRecord (bank_of s) s.end head body = record { format = format; legal = legal; size = size; room = omega (arith, room, sound.end_high) } in
    (records_begin (bank_of s) s.numbers bytes may (log_of (record s { tail = Open }) before) head body holds refl is commit, tt)
begins_at s (Writes h k) head before body bytes may sound format legal size commit idle room holds = cc
begins_at s (Owes h None) head before body bytes may sound format legal size commit idle room holds =
    (holds, (size, commit))
begins_at s (Owes h (Some next)) head before body bytes may sound format legal size commit idle room holds = cc
begins_at s Closed head before body bytes may sound format legal size commit idle room holds =
    absurd (omega (arith, room))

pub begins_hold : BeginsHold
begins_hold s head before body bytes may sound holds idle is room size commit =
    let legal : IsLegalRecHead head = legal_for s.numbers head sound.numbers is in
    let both = begins_at s s.tail head before body bytes may sound sound.format legal size commit idle room holds.holds in
    record { size = holds.size; holds = both.0; follows = both.1 }

-- A RECORD IS GIVEN UP
-- no record waits then, so that no content counts
module _ (s : LogState) where
  given : (tail : Tail) (may : May) (body after : List ℕ)
      → let up = given_up (record s { tail = tail }) in (log_of up body ≡ log_of up after) × MayFollow may up.tail after
  given Open may body after = (refl, tt)
  given (Writes h zero) may body after = (refl, tt)
  given (Writes h (suc zero)) may body after = (refl, tt)
  given (Writes h (suc (suc k))) may body after = (refl, tt)
  given (Owes h next) may body after = (refl, tt)
  given Closed may body after = (refl, tt)

pub given_up_holds : GivenUpHolds
given_up_holds s body after bytes may sound holds = record {
  size = holds.size;
  holds =
      subst (λ (l : Log). HoldsLog (bank_of s) s.numbers bytes may l)
      (sym (given_up_follows s body) ∙ (given s s.tail may body after).0)
      (logs_given_up (bank_of s) s.numbers bytes may (log_of s body) sound.geometry.page_low holds.holds);
  follows = (given s s.tail may body after).1;
}

pub flags_hold : FlagsHold
flags_hold s body bytes may number on holds = record { size = holds.size; holds = holds.holds; follows = holds.follows }
