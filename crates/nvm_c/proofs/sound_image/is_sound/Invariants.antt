use Rattle.std.specs.Prelude.{IsSomeAnd}
use Rattle.nvm.specs.fls_model.Told.{bytes_now}
use Rattle.nvm.specs.nvm_flash.fee_image.Image.{layout_of}
use Rattle.nvm_c.proofs.SoundImages.{AreSoundBelow}
use Rattle.nvm_c.proofs.sound_image.is_sound.Given as goal

abbrev pub invariant-loop-bank : goal.invariant-loop-bank
invariant-loop-bank l = IsSomeAnd (bytes_now l.fn.flash) (λ bytes. AreSoundBelow l.bank (layout_of l.fn.geometry l.fn.banks) bytes)
