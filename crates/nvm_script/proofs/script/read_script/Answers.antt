use Rattle.std.proofs.Common.{◌≡◌, ◌+◌, ap, ◌∙◌, arith, rules}
use Rattle.nvm_script.specs.Cut.{cut_at}
use Rattle.nvm_script.specs.Line.{without_return}
use Rattle.nvm_script.specs.Script.{Follows, IsWrong}
use Rattle.nvm_script.proofs.OwnerLaws.{Owns-empty}
use Rattle.nvm_script.proofs.ScriptLaws.{later-cut, IsScript-on, IsFirstWrong-on, IsFirstWrong-here}
use Rattle.nvm_script.proofs.script.read_script.Goals as goal

pub loop-rest-init : goal.loop-rest-init
loop-rest-init c =
    record {
      owners = rw (c.new-steps.ensures, c.in_ok-owners.ensures, c.blocks-2.ensures.count) (Owns-empty c.args.config.now);
      count = rw c.new-steps.ensures (omega arith);
      within = search rules;
      script = λ steps h. rw later-cut (rw (c.new-steps.ensures, c.cut.ensures.after) at h);
      wrong = λ k h. rw later-cut (rw (c.new-steps.ensures, c.cut.ensures.after) at h);
    }

pub returns-then-not-branch-clause-line : goal.returns-then-not-branch-clause-line
returns-then-not-branch-clause-line c =
    let line : c.without_return-line.result.now ≡ without_return (cut_at 10 c.in-Some.text.now).0 = c.without_return-line.ensures ∙ ap without_return c.cut-in-Some.ensures.before in
    let wrong : IsWrong c.args.config.now c.args.mode (c.loop-rest.number + 1) (without_return (cut_at 10 c.in-Some.text.now).0) c.loop-rest.steps = rw (← line) (rw c.if-not-branch.true at c.in_ok-add_line.ensures.line) in
    let here = IsFirstWrong-here c.args.config.now c.args.mode (c.loop-rest.number + 1) c.in-Some.text.now c.loop-rest.steps wrong in
    c.loop-rest.invariant.wrong (c.loop-rest.number + 1) (rw c.in-Some.is here)

pub loop-rest-preserved : goal.loop-rest-preserved
loop-rest-preserved c =
    let line : c.without_return-line.result.now ≡ without_return (cut_at 10 c.in-Some.text.now).0 = c.without_return-line.ensures ∙ ap without_return c.cut-in-Some.ensures.before in
    let follows : Follows c.args.config.now c.args.mode (c.loop-rest.number + 1) (without_return (cut_at 10 c.in-Some.text.now).0) c.loop-rest.steps c.add_line.new.steps = rw (← line) (rw c.if-not-branch.false at c.in_ok-add_line.ensures.line) in
    let here = rw c.in-Some.is at c.loop-rest.invariant.within in
    record {
      owners = c.in_ok-add_line.ensures.owners;
      count = omega (arith, c.in_ok-add_line.ensures.count);
      within = search rules;
      script = λ steps h.
          c.loop-rest.invariant.script steps
          (rw c.in-Some.is (IsScript-on c.args.config.now c.args.mode (c.loop-rest.number + 1) c.in-Some.text.now c.loop-rest.steps c.add_line.new.steps steps follows (rw c.cut-in-Some.ensures.after at h)));
      wrong = λ k h.
          c.loop-rest.invariant.wrong k
          (rw c.in-Some.is (IsFirstWrong-on c.args.config.now c.args.mode (c.loop-rest.number + 1) c.in-Some.text.now c.loop-rest.steps c.add_line.new.steps k follows (rw c.cut-in-Some.ensures.after at h)));
    }
