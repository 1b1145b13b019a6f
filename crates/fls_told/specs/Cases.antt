-- A device of one number over a flash of one page of 2 bytes.
use Rattle.std.specs.Prelude.{◌==◌, ℕ, Bool, true, false, List, [], ◌∷◌, Option, Some, None}
use Rattle.nv_base.specs.declared.mark.Mark.TheVariants.{Content}
use Rattle.nv_base.specs.Plan.{no_planning}
use Rattle.memif.specs.declared.answer.JobResult.TheVariants.{JobOk}
use Rattle.memif.specs.Told.{Slot, Ended}
use Rattle.fls_model.specs.declared.flash.FlashAnswer.TheVariants.{Done}
use Rattle.fls_model.specs.Op.{Program}
use Rattle.fls_model.specs.Told.{Told, Change}
use Rattle.promise_device.specs.Reading.{Reading}
use Rattle.fls_told.specs.Device.{FlashDevice}

-- an image is sound where its first byte is blank
abbrev pub begins_blank : List ℕ → Bool
begins_blank [] = true
begins_blank (x ∷ xs) = x == 255

abbrev pub reading : Reading
reading = record {
  geometry = record { page = 2; sector = 2; sectors = 1 };
  held = λ image n. record { mark = Content image; count = 1 };
  is_sound = begins_blank;
  is_last = λ n image. false;
  is_full = λ n urgent image. false;
  may_follow = λ n op. true;
  free = λ earlier image. 0;
  is_such = λ trait x. false;
}

abbrev pub sound : List ℕ
sound = 255 ∷ 255 ∷ []

abbrev pub unsound : List ℕ
unsound = 0 ∷ 255 ∷ []

-- its number holds the whole image
abbrev pub holds : List ℕ → List Slot
holds image = record { settled = record { mark = Content image; count = 1 }; doubts = [] } ∷ []

-- a flash that tells these bytes, or none
abbrev pub told_as : Option (List ℕ) → Told
told_as None = record { geometry = reading.geometry; bytes = None; ops = 0; faults = 0; cuts = 0; off = false; planning = no_planning }
told_as (Some image) = record { geometry = reading.geometry; bytes = Some (record { now = image; changes = None; room = 0 }); ops = 0; faults = 0; cuts = 0; off = false; planning = no_planning }

-- a device over it that asked for these operations, which left the bytes as they were
abbrev pub over : Option (List ℕ) → List Change → FlashDevice
over image operations = record {
  reading = reading;
  fixed = record { numbers = (record { 0 = 1 }, 2) ∷ []; figures = []; reserve = 0; own = 0; two = false };
  entry = told_as image;
  flash = told_as image;
  operations = operations;
  faults = 0;
  worn = λ n. None;
  starts = 0;
  started = false;
  slots = holds;
  stand = Ended JobOk [];
  switching = false;
  left = 0;
  ready = 0;
  wait = Some 0;
}

-- a program of what stands there
abbrev pub once : List ℕ → List Change
once image = record { op = Program 0 image; before = image; answer = Done } ∷ []
