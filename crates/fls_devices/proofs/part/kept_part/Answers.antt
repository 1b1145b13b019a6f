use Rattle.std.proofs.Common.{◌++◌, ap, ◌∙◌, take, drop, length, replicate, List, ℕ}
use Rattle.fls_devices.proofs.Parts.{kept_taken}
use Rattle.fls_devices.proofs.part.kept_part.Goals as goal

pub returns : goal.returns
returns c =
    ap (λ (l : List ℕ). take (length c.args.page.now) (l ++ drop c.min-count.result (replicate 256 255))) c.copy_from_slice.ensures.after
    ∙ kept_taken c.args.keep c.min-count.result c.args.page.now c.requires c.min-count.ensures
