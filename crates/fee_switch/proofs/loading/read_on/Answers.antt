use Rattle.std.proofs.Common.{◌≡◌, ◌*◌, ℕ, List, ◌∙◌, ap, subst, drop, length-append, arith}
use Rattle.std.proofs.lemmas.List.{length-take, length-drop}
use Rattle.fls_jobs.specs.State.{FlsState}
use Rattle.fee_image.specs.Image.{Layout, layout_of, bank_in}
use Rattle.fee_log.specs.Load.{HasPages}
use Rattle.fee_switch.specs.Start.{GoesOn}
use Rattle.fee_switch.proofs.Starts.{told_both, layout_same}
use Rattle.fee_switch.proofs.loading.read_on.Goals as goal

pub loop-done-preserved : goal.loop-done-preserved
loop-done-preserved g c =
    let i = c.loop-done.invariant in
    let loop = c.loop-done in
    let n = c.pages_next-count.result * c.args.geometry.page in
    let l = layout_of c.args.geometry c.args.banks in
    let read = rw c.in-Done.is at c.read_pages.ensures.read in
    let look = c.look_on.ensures in
    let told : loop.fls.flash ≡ c.args.fls.now.flash = ap (λ (f : FlsState). f.flash) i.fls in
    let same = layout_same loop.log c.args.geometry c.args.banks (i.shape.geometry ∙ c.requires.log_geometry) (i.shape.banks ∙ c.requires.log_banks) in
    let step = λ (bytes : List ℕ). subst (λ (x : Layout). ((format : ℕ) → HasPages (bank_in x format c.args.bank) bytes loop.done c.read_pages.new.into) → GoesOn x bytes c.args.bank loop.coming loop.log c.look_on.result c.look_on.new.log) same (look.seen bytes) in
    record {
      inside = c.pages_next-count.ensures.inside;
      fls = c.read_pages.ensures.same ∙ (λ k. record loop.fls { flash = read.1 k; result = c.read_pages.new.fls.result }) ∙ ap (λ (f : FlsState). record f { result = c.read_pages.new.fls.result }) i.fls;
      size = omega (arith, length-append c.read_pages.new.into (drop n loop.buffer), length-drop n loop.buffer, c.read_pages.ensures.size, length-take n loop.buffer, i.size, c.requires.size, c.pages_next-count.ensures.room);
      shape = record { geometry = look.shape.geometry ∙ i.shape.geometry; banks = look.shape.banks ∙ i.shape.banks; numbers = look.shape.numbers ∙ i.shape.numbers };
      coming = look.coming;
      none = λ e. (let p = look.none e in let q = i.none p.0 in (q.0, p.1 ∙ q.1));
      seen = told_both c.args.fls.now.flash.bytes (λ b. (format : ℕ) → HasPages (bank_in l format c.args.bank) b.now loop.done c.read_pages.new.into) (λ b. GoesOn l b.now c.args.bank c.args.coming.now c.args.log.now loop.coming loop.log)
          (λ b. GoesOn l b.now c.args.bank c.args.coming.now c.args.log.now c.look_on.result c.look_on.new.log) (λ b pages goes first comes. step b.now pages first (goes first comes)) (rw told at read.0) i.seen;
    }
