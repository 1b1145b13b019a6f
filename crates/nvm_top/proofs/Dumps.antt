-- What `dump` writes and answers, from what its parts do.
use Rattle.std.proofs.Common.{◌≡◌, ◌≢◌, ℕ, List, [], ◌∷◌, Option, IfSome, refl, sym, ap, subst, inl, inr}
use Rattle.nvm_lines.specs.nv_streams.Sink.{Written}
use Rattle.nvm_flash.specs.nv_base.Count.{Rose}
use Rattle.nvm_flash.specs.nv_base.declared.geometry.Geometry.{Geometry}
use Rattle.nvm_flash.specs.nv_base.Geometry.{size_of}
use Rattle.nvm_flash.specs.block_config.Config.{Configuration}
use Rattle.nvm_flash.specs.fee_image.Image.{layout_of}
use Rattle.nvm_flash.specs.fls_model.Told.{Told}
use Rattle.nvm_lines.specs.declared.status.Status.{Status}
use Rattle.nvm_lines.specs.declared.status.Status.TheVariants as status
use Rattle.nvm_lines.specs.declared.stop.Stop.{Stop}
use Rattle.nvm_lines.specs.declared.stop.Stop.TheVariants as stop
use Rattle.nvm_top.specs.Dump.{IsImageOf, IsDump, DumpsFlash, DumpsBy}
use Rattle.nvm_lines.specs.Reading.{HasConfig}
use Rattle.nvm_top.specs.Ends.{ReadsBy}
use Rattle.nvm_lines.specs.Output.{Writes, IsReport}
use Rattle.nvm_top.specs.Play.{IsAttachStop, IsPlayEnd, IsBeforeStart}
use Rattle.nvm_lines.specs.Reading.{IsCheckStop}
use Rattle.nvm_lines.specs.Stop.{status_of, line_of, IsStop}
use Rattle.nvm_top.proofs.PlayLemmas.{report-by}
use Rattle.nvm_top.proofs.RunLines.{Writes-as, by_stop, read_line}

-- FROM THE ATTACH ON
stop_line : (g : Geometry) (banks : ℕ) (s t : Told) (why : Stop) → IsAttachStop (size_of g) s.bytes why → IsPlayEnd (size_of g) s t (status_of why) → why ≢ stop.Memory → DumpsFlash g banks s t (status_of why) (line_of why ∷ [])
stop_line g banks s t (stop.WrongSize found needed) is end other = (end.0, (found, is.0, ap (λ (n : ℕ). line_of (stop.WrongSize found n) ∷ []) is.1))
stop_line g banks s t stop.FlashFault is end other = (end, refl)
stop_line g banks s t stop.InUse is end other = (end.0, refl)
stop_line g banks s t stop.Memory is end other = absurd (other refl)
stop_line g banks s t _ is end other = absurd is

pub stopped-text : (g : Geometry) (banks : ℕ) (s t : Told) (why : Stop) (w w' : Written) (x : Status) → IsAttachStop (size_of g) s.bytes why → IsPlayEnd (size_of g) s t (status_of why) → Writes (IsStop why) w w' x → Writes (DumpsFlash g banks s t) w w' x
stopped-text g banks s t why w w' x stops end is =
    Writes-as (IsStop why) (DumpsFlash g banks s t) w w' x (λ y lines at. by_stop (DumpsFlash g banks s t) why y lines (stop_line g banks s t why stops end) at) is

pub read-text : (g : Geometry) (banks : ℕ) (s t : Told) (image : List ℕ) (w w' : Written) (x : Status) → IsImageOf g s.bytes image → Writes (IsDump (layout_of g banks) image) w w' x → Writes (DumpsFlash g banks s t) w w' x
read-text g banks s t image w w' x of is =
    Writes-as (IsDump (layout_of g banks) image) (DumpsFlash g banks s t) w w' x (λ y lines at. subst (λ (z : Status). DumpsFlash g banks s t z lines) (sym at.0) (image, of, at.1)) is

-- AS A WHOLE
pub configured-text : (left : Option (List ℕ)) (reads reads' : ℕ) (s t : Told) (c : Configuration) (w w' : Written) (x : Status) → IfSome left (λ bytes. HasConfig bytes c) → Writes (DumpsFlash c.geometry c.banks s t) w w' x → Writes (DumpsBy left reads reads' s t) w w' x
configured-text left reads reads' s t c w w' x has is = Writes-as (DumpsFlash c.geometry c.banks s t) (DumpsBy left reads reads' s t) w w' x (λ y lines at. inr (c, has, at)) is

-- where the configuration isn't read
pub unread-text : (left : Option (List ℕ)) (reads reads' : ℕ) (s t : Told) (why : Stop) (w w' : Written) (x : Status) → (why ≡ stop.ReadFault → Rose reads reads') → IsCheckStop left why → Writes (IsStop why) w w' x → Writes (DumpsBy left reads reads' s t) w w' x
unread-text left reads reads' s t why w w' x fault stops is =
    Writes-as (IsStop why) (DumpsBy left reads reads' s t) w w' x (λ y lines at. inl (by_stop (ReadsBy left reads reads') why y lines (read_line left reads reads' why fault stops) at)) is

-- CAUSES
before : (need : ℕ) (s t : Told) (x : Status) → IsPlayEnd need s t x → IsBeforeStart x → t ≡ s
before need s t status.WrongSize end is = end.1
before need s t status.FlashFault end is = absurd is
before need s t status.InUse end is = absurd is
before need s t status.Memory end is = absurd is
before need s t _ end is = absurd end

pub stopped-before : (need : ℕ) (s t : Told) (stop : Stop) (x : Status) → IsPlayEnd need s t (status_of stop) → IsReport (status_of stop) x → IsBeforeStart x → t ≡ s
stopped-before need s t stop x end reports = report-by (λ y. IsBeforeStart y → t ≡ s) (status_of stop) x (before need s t (status_of stop) end) (λ is. absurd is) (λ is. absurd is) reports

pub written-before : (s t : Told) (x : Status) → IsReport status.Ok x → IsBeforeStart x → t ≡ s
written-before s t x reports = report-by (λ y. IsBeforeStart y → t ≡ s) status.Ok x (λ is. absurd is) (λ is. absurd is) (λ is. absurd is) reports
