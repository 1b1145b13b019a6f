use Rattle.std.proofs.Common.{◌≡◌, ◌∙◌, sym, subst, Option, Some, None}
use Rattle.block_machine.specs.State.{Job}
use Rattle.nv_desk.specs.Places.{AreHeld}
use Rattle.nv_desk.proofs.Dropping.{hand_dropped, none_dropped}
use Rattle.nv_desk.proofs.drop_jobs.drop_hand.Goals as goal

pub returns : goal.returns
returns c c' waiting held is =
    let same : held ≡ Some c.in-Some.job = sym (c.in-Some.ensures.job ∙ is.agree.hand) in
    hand_dropped c' c.args.jobs.now c.end.new.self waiting c.in-Some.job c.args.places.now c.put.new.self
    (subst (λ (o : Option Job). AreHeld c' c.args.jobs.now waiting o c.args.places.now) same is)
    (c.in-Some.ensures.agrees c' waiting held is.agree) c.in-Some.ensures.places (rw (c.block-block.ensures, c.into_content.ensures) at c.put.ensures)

pub returns-in_default : goal.returns-in_default
returns-in_default c c' waiting held is =
    let same : held ≡ None = sym (c.in_default.ensures.job ∙ is.agree.hand) in
    none_dropped c' c.args.jobs.now c.end.new.self waiting c.args.places.now
    (subst (λ (o : Option Job). AreHeld c' c.args.jobs.now waiting o c.args.places.now) same is)
    (c.in_default.ensures.agrees c' waiting held is.agree) c.in_default.ensures.places
