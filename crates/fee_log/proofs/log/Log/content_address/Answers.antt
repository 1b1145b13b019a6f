use Rattle.std.proofs.Common.{◌+◌, arith}
use Rattle.nv_base.proofs.Shapes.{pages_lie_inside}
use Rattle.nv_base.specs.Pages.{body_pages_of}
use Rattle.fee_image.proofs.Bodies.{bodies_have_room}
use Rattle.fee_log.proofs.log.Log.content_address.Goals as goal

pub returns-clause-inside : goal.returns-clause-inside
returns-clause-inside c =
    let i = c.self.inside in
    rw (← c.self.view_is, c.page_address.ensures.value)
    (λ length fit.
    let inside = pages_lie_inside i.geometry i.banks i.bank (c.args.at + 2) (body_pages_of length i.geometry.page) c.self.invariant.geometry c.self.invariant.shared c.self.invariant.bank (omega (arith, fit)) in
    let room = bodies_have_room length i.geometry.page (omega (arith, c.self.invariant.geometry.page_low)) in
    omega (arith, inside, room))
