use Rattle.std.specs.Prelude.{◌↔◌, IsSomeAnd, IsTrue}
use Rattle.std.proofs.Common.{◌≡◌, ℕ, List, Option, ap, sym, ◌∙◌, subst}
use Rattle.nvm.specs.nv_base.declared.geometry.Geometry.{Geometry}
use Rattle.nvm.specs.block_config.Config.{Configuration}
use Rattle.nvm.specs.fls_model.Told.{bytes_now}
use Rattle.nvm.specs.nvm_flash.fee_image.Image.{layout_of}
use Rattle.nvm.specs.nvm_flash.fee_image.Sound.{IsSoundImage}
use Rattle.nvm.specs.nvm_flash.fee_told.Device.{Device}
use Rattle.nvm.specs.nvm_flash.promise_device.Making.{Making}
use Rattle.nvm_c.proofs.StandingMarks.{image_known}
use Rattle.nvm_c.proofs.unit_opening.holds_sound.Goals as goal

pub returns : goal.returns
returns g c =
    let making = g.O.Origin.making in
    let geometry : c.geometry.result ≡ making.geometry = c.geometry.ensures.value ∙ ap (λ (x : Configuration). x.geometry) c.config-config.ensures ∙ sym (ap (λ (m : Making). m.geometry) c.requires.made_for) in
    let banks : c.banks.result ≡ making.banks = c.banks.ensures.value ∙ ap (λ (x : Configuration). x.banks) c.config-config.ensures ∙ sym (ap (λ (m : Making). m.banks) c.requires.made_for) in
    let bytes : bytes_now c.inner-flash.result.now ≡ bytes_now c.args.stack.now.device.flash =
    sym c.inner-flash.ensures.bytes ∙ ap bytes_now c.flash.ensures.flash ∙ ap (λ (d : Device). bytes_now d.flash) c.device.ensures.device in
    image_known making g.O.Origin.entry c.args.stack.now.device c.is_sound.result c.requires.made.device
    (subst (λ (o : Option (List ℕ)). IsSomeAnd o (λ bytes. IsTrue c.is_sound.result ↔ IsSoundImage (layout_of making.geometry making.banks) bytes)) bytes
    (subst (λ (n : ℕ). IsSomeAnd (bytes_now c.inner-flash.result.now) (λ bytes. IsTrue c.is_sound.result ↔ IsSoundImage (layout_of making.geometry n) bytes)) banks
    (subst (λ (x : Geometry). IsSomeAnd (bytes_now c.inner-flash.result.now) (λ bytes. IsTrue c.is_sound.result ↔ IsSoundImage (layout_of x c.banks.result) bytes)) geometry c.is_sound.ensures)))
