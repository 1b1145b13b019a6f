-- What a job without room asks of the pages.
use Rattle.std.specs.Prelude.{◌&&◌, ◌/◌, if◌then◌else◌}
use Rattle.std.proofs.Common.{◌≡◌, ◌≢◌, ◌≤◌, ◌<◌, ◌+◌, ◌-◌, ℕ, Bool, true, false, refl, ap, ◌∙◌, subst, arith}
use Rattle.std.proofs.lemmas.Bool.{leb-false}
use Rattle.std.proofs.lemmas.Nat.{le-div}
use Rattle.std.proofs.Math.Nat.{div-mul-le_self}
use Rattle.nv_base.specs.Pages.{record_pages_of}
use Rattle.nv_base.specs.declared.job.DeviceOp.{DeviceOp}
use Rattle.nv_base.specs.declared.job.DeviceOp.TheVariants.{Read, Write, Invalidate, Erase}
use Rattle.fee_switch_laws.specs.Space.{free_pages, has_room}
use Rattle.fee_switch_laws.specs.fee_switch.Banks.{BanksState}
use Rattle.fee_laws.specs.declared.job.FeeJob.{FeeJob}
use Rattle.fee_laws.specs.Record.{IsLengthOf}
use Rattle.fee_laws.specs.Work.{pages_of_op, is_waiting, fits_in, begins_next, takes_append}

-- PAGES
more_body : (a b p : ℕ) → a ≤ b → 0 < p → (a + (p - 1)) / p ≤ (b + (p - 1)) / p
more_body a b p less some =
    let down = div-mul-le_self (a + (p - 1)) p in
    le-div ((a + (p - 1)) / p) (b + (p - 1)) p some (omega (arith, down, less))

-- a record takes no more than one of the full length
pub op_few : (p : ℕ) (op : DeviceOp) (length of : ℕ) → 0 < p → IsLengthOf op length of → pages_of_op p op length ≤ record_pages_of of p
op_few p Read length of some fits = omega arith
op_few p Write length of some fits = subst (λ (n : ℕ). record_pages_of length p ≤ record_pages_of n p) fits (omega arith)
op_few p Invalidate length of some fits = let less = more_body 0 of p (omega arith) some in omega (arith, less)
op_few p Erase length of some fits = let less = more_body 0 of p (omega arith) some in omega (arith, less)

-- and one at least, but a read
pub op_some : (p : ℕ) (op : DeviceOp) (length : ℕ) → op ≢ Read → 1 ≤ pages_of_op p op length
op_some p Read length writes = absurd (writes refl)
op_some p Write length writes = omega arith
op_some p Invalidate length writes = omega arith
op_some p Erase length writes = omega arith

-- ROOM
pub lacks : (urgent : Bool) (pages reserve free : ℕ) → has_room urgent pages reserve free ≡ false → free < pages + (if urgent then 0 else reserve)
lacks true pages reserve free full = let less = leb-false pages free full in omega (arith, less)
lacks false pages reserve free full = leb-false (pages + reserve) free full

-- an urgent write without room doesn't begin
none_by : (u : Bool) (pages reserve free : ℕ) (a w : Bool) → has_room u pages reserve free ≡ false → a && u && w && has_room u pages 0 free ≡ false
none_by false pages reserve free a w full = by_first a w (has_room false pages 0 free)
  where
    by_first : (x y z : Bool) → x && false && y && z ≡ false
    by_first true y z = refl
    by_first false y z = refl
none_by true pages reserve free a w full = ap (λ (x : Bool). a && true && w && x) full ∙ by_last a w
  where
    by_last : (x y : Bool) → x && true && y && false ≡ false
    by_last true true = refl
    by_last true false = refl
    by_last false y = refl

pub never_begins : (reserve : ℕ) (s : BanksState) (j : FeeJob) → fits_in reserve s j ≡ false → begins_next s j ≡ false
never_begins reserve s j full = none_by j.urgent (pages_of_op s.geometry.page j.op j.length) reserve (free_pages s) (takes_append s.course) (is_waiting s j) full
