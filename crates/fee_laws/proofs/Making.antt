-- A device that is made.
use Rattle.std.specs.Prelude.{IfSome}
use Rattle.std.proofs.Common.{◌≡◌, inl, inr, ◌≤◌, true, false, length, Option, Some, None, refl, ap, arith}
use Rattle.nv_base.specs.Geometry.{IsLegal}
use Rattle.nv_base.specs.Plan.{Planning}
use Rattle.nv_base.specs.declared.geometry.Geometry.{Geometry}
use Rattle.memif.specs.Told.{nothing_open}
use Rattle.fls_model.specs.Attach.{IsAttached, IsFilled, AreBytesOf}
use Rattle.fls_model.specs.Told.{Told, ToldBytes, IfBothTold}
use Rattle.fls_jobs.specs.Start.{IsIdle}
use Rattle.promise_device.specs.Making.{Making}
use Rattle.promise_device.proofs.Readings.{banks_attach_sound}
use Rattle.fee_told.specs.fls_told.Runs.{CountsCuts, IsMade, HasRun}
use Rattle.fee_told.proofs.Making.{runs_begin}
use Rattle.fee_told.specs.Device.{Device, told_of, flash_device}
use Rattle.fee_switch_laws.specs.fee_switch.Banks.{IsMade as AreMade}
use Rattle.fee_course.specs.declared.course.Course.{Course}
use Rattle.fee_switch_laws.specs.Space.{HasSpace}
use Rattle.fee_told.proofs.Whole.{unstarted_finds_now}
use Rattle.fee_laws.specs.Inside.{Parts, device_of, IsSound, ShowsCopies, is_copying}
use Rattle.fee_laws.specs.Parts.{fresh}
use Rattle.fee_laws.specs.Made.{IsMadeOf}
use Rattle.fee_laws.proofs.CallOrder.{at_rest}
use Rattle.fee_laws.specs.CallLaws.{NewIsSound}
use Rattle.fee_laws.proofs.Before.{some_told}

-- SIZES
pub filled_bytes : (g : Geometry) (x y : Option ToldBytes) → IfBothTold x y (IsFilled g) → IfSome y (λ b. AreBytesOf g b.now)
filled_bytes g (Some x) (Some y) both = both.are_bytes
filled_bytes g (Some x) None both = tt
filled_bytes g None (Some y) both = absurd both
filled_bytes g None None both = tt

-- CUTS
cuts_counted : (s t : Told) → t.planning.unplanned ≡ s.planning.unplanned → t.cuts ≡ s.cuts → s.planning.unplanned ≤ s.cuts → CountsCuts s t
cuts_counted s t unplanned cuts counted n (inl more) = inl (omega (arith, unplanned, cuts, more))
cuts_counted s t unplanned cuts counted n (inr big) = inr (omega (arith, unplanned, cuts, counted, big))

-- without a switch no target is told of
pub none_shows : (o : Option ToldBytes) (c : Option Course) (P : ToldBytes → Course → Type 0) → c ≡ None → IfSome o (λ b. IfSome c (P b))
none_shows None c P closed = tt
none_shows (Some b) None P closed = tt
none_shows (Some b) (Some c) P closed = cc closed

-- it is told of as it was where each fact on it stays
pub shown_as : (o : Option ToldBytes) (c : Option Course) (P Q : ToldBytes → Course → Type 0) → ((b : ToldBytes) (k : Course) → P b k → Q b k) → IfSome o (λ b. IfSome c (P b)) → IfSome o (λ b. IfSome c (Q b))
shown_as None c P Q stays shows = tt
shown_as (Some b) None P Q stays shows = tt
shown_as (Some b) (Some k) P Q stays shows = stays b k shows

module _ (m : Making) (entry : Told) (s : Parts) (legal : IsLegal m.geometry) (at : IsAttached m.geometry entry s.fls.flash) (space : HasSpace m.numbers m.geometry m.banks m.reserve) (made : AreMade s.banks m.geometry m.banks m.numbers) where
  abbrev d : Device
  d = device_of m entry (fresh s)

  -- the cuts that came without a plan are among the cuts
  counted : entry.planning.unplanned ≤ entry.cuts
  counted =
      let same : s.fls.flash.planning.unplanned ≡ entry.planning.unplanned = ap (λ (p : Planning). p.unplanned) at.planning in
      omega (arith, same, at.cuts, at.unplanned)

  is_made : IsMade (flash_device d)
  is_made = record { attaches = at; operations = refl; faults = refl; worn = λ n. refl }

  run_made : HasRun (flash_device d)
  run_made = runs_begin (flash_device d) is_made (banks_attach_sound m) (cuts_counted entry s.fls.flash (ap (λ (p : Planning). p.unplanned) at.planning) at.cuts counted)

  bytes : IfSome s.fls.flash.bytes (λ b. AreBytesOf m.geometry b.now)
  bytes = filled_bytes m.geometry entry.bytes s.fls.flash.bytes at.bytes

  pub made_sound : s.fls.geometry ≡ m.geometry → IsIdle s.fls → length s.content ≡ 4096 → IsSound m entry (fresh s) m.numbers m.reserve 0 false
  made_sound geometry idle room = record {
    made_for = record { geometry = geometry; idle = idle; banks_geometry = made.shape; shared = made.shared; numbers = made.configured; space = space; bytes = bytes; room = room; given = omega arith; ended = λ e. cc e };
    device = record {
      run = run_made;
      held = λ started. cc started;
      order = at_rest m entry (fresh s) made.course run_made.alike (unstarted_finds_now d refl (some_told m.geometry s.fls.flash.bytes legal bytes));
      faults = omega arith;
    };
    rests = λ unstarted. record { job = refl; course = made.course };
    works = λ started. cc started;
    room = λ started. cc started;
    copies = λ on told. none_shows s.fls.flash.bytes s.banks.course (λ b c. ShowsCopies m (fresh s) c b.now) made.course;
    cuts = record { before = counted; since = inl (let same : s.fls.flash.planning.unplanned ≡ entry.planning.unplanned = ap (λ (p : Planning). p.unplanned) at.planning in let cuts = at.cuts in omega arith) };
    worn = λ since e. cc e;
    seals = λ k x many at such. ap is_copying made.course;
    numbers = refl;
    reserve = refl;
    ops = refl;
    off = λ started. cc started;
  }

  rests_made : nothing_open (told_of d) ≡ true
  rests_made = refl

  pub made_of : IsMadeOf m entry d
  made_of = record { making = refl; told_entry = refl; made = is_made; started = refl; starts = refl; stand = refl; ops = refl; part = λ i. record { faults = 0; flash_faults = at.faults i; off = at.off i; planning = at.planning i }; rests = rests_made }

pub new_is_sound : NewIsSound
new_is_sound m entry s new = (
  made_sound m entry s new.legal new.attached new.space new.banks new.geometry new.idle new.room,
  made_of m entry s new.legal new.attached new.space new.banks,
)
