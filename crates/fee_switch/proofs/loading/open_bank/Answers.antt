use Rattle.std.proofs.Common.{◌≤◌, ◌*◌, length, arith}
use Rattle.std.proofs.Math.Nat.{mul-le-mul_right}
use Rattle.fee_image.specs.Image.{layout_of, bank_in}
use Rattle.fee_switch.proofs.Starts.{none_comes, it_comes, it_stays, bank_begun}
use Rattle.fee_switch.proofs.loading.open_bank.Goals as goal

pub returns-in_err-head-clause-seen : goal.returns-in_err-head-clause-seen
returns-in_err-head-clause-seen c all pages =
    let two : 2 * c.args.geometry.page ≤ length c.args.bytes.now = omega (arith, c.requires.size, mul-le-mul_right c.args.geometry.page c.requires.two) in
    rw c.from_residual.ensures (none_comes (layout_of c.args.geometry c.args.banks) c.args.bank all c.args.bytes.now c.args.first two (pages 1) c.in_err-head.ensures)

pub returns-else-comes_first-clause-seen : goal.returns-else-comes_first-clause-seen
returns-else-comes_first-clause-seen c all pages =
    let two : 2 * c.args.geometry.page ≤ length c.args.bytes.now = omega (arith, c.requires.size, mul-le-mul_right c.args.geometry.page c.requires.two) in
    it_stays (layout_of c.args.geometry c.args.banks) c.args.bank all c.args.bytes.now c.args.first two (pages 1) c.in_ok-head.head c.in_ok-head.ensures (rw c.if-comes_first.false at (c.comes_first.ensures c.args.bank))

pub returns-then-comes_first-clause-seen : goal.returns-then-comes_first-clause-seen
returns-then-comes_first-clause-seen c all pages =
    let l = layout_of c.args.geometry c.args.banks in
    let head = c.in_ok-head.head in
    let b = bank_in l head.format c.args.bank in
    let two : 2 * c.args.geometry.page ≤ length c.args.bytes.now = omega (arith, c.requires.size, mul-le-mul_right c.args.geometry.page c.requires.two) in
    let of = bank_begun c.args.log.now c.load_start-load.new.self c.args.geometry c.args.banks c.args.bank head.format c.load_start-load.ensures.log c.requires.log_geometry c.requires.log_banks in (
      it_comes l c.args.bank all c.args.bytes.now c.args.first two (pages 1) head c.in_ok-head.ensures (rw c.if-comes_first.true at (c.comes_first.ensures c.args.bank)),
      c.load_pages-load.ensures.seen b all of (pages head.format) (c.load_start-load.ensures.begins b all of),
    )
