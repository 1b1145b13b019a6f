use Rattle.std.proofs.Common.{◌≡◌, ◌+◌, ◌||◌, true, false, ap, ◌∙◌, sym, arith, rules, is_some, refl, List, ℕ, option_to_list, ◌++◌, append_assoc}
use Rattle.nvm_script.specs.Cut.{cut_at}
use Rattle.nvm_script.specs.Line.{without_return}
use Rattle.nvm_script.specs.Script.{lines_of, later_lines}
use Rattle.nvm_script.proofs.ScriptLaws.{lines_left, later-cut}
use Rattle.uds_script.specs.Requests.{is_idle, request_of, requests_in}
use Rattle.uds_script.proofs.RequestLaws.{requests_on, wrong_on, wrong_here}
use Rattle.uds_script.proofs.requests.read_requests.Goals as goal

pub loop-rest-init : goal.loop-rest-init
loop-rest-init c = record {
  count = rw c.new-requests.ensures (omega arith);
  within = search rules;
  requests = rw (later-cut, c.new-requests.ensures, c.cut_line.ensures.after) refl;
  right = rw (later-cut, c.cut_line.ensures.after) refl;
}

pub returns-then-not-branch-clause-line : goal.returns-then-not-branch-clause-line
returns-then-not-branch-clause-line c =
    let line : c.without_return.result.now ≡ without_return (cut_at 10 c.in-Some.text.now).0 = c.without_return.ensures ∙ ap without_return c.cut_line-in-Some.ensures.before in
    let wrong : (is_idle (without_return (cut_at 10 c.in-Some.text.now).0) || is_some (request_of (without_return (cut_at 10 c.in-Some.text.now).0))) ≡ false = rw (← line) (sym c.in_ok-add_request.ensures.right ∙ c.if-not-branch.true) in
    c.loop-rest.invariant.right ∙ rw c.in-Some.is (wrong_here (c.loop-rest.number + 1) c.in-Some.text.now wrong)

pub loop-rest-preserved : goal.loop-rest-preserved
loop-rest-preserved c =
    let line : c.without_return.result.now ≡ without_return (cut_at 10 c.in-Some.text.now).0 = c.without_return.ensures ∙ ap without_return c.cut_line-in-Some.ensures.before in
    let right : (is_idle (without_return (cut_at 10 c.in-Some.text.now).0) || is_some (request_of (without_return (cut_at 10 c.in-Some.text.now).0))) ≡ true = rw (← line) (sym c.in_ok-add_request.ensures.right ∙ c.if-not-branch.false) in
    let here = rw c.in-Some.is at c.loop-rest.invariant.within in
    let here_requests : requests_in (later_lines c.args.input.now) ≡ c.loop-rest.requests ++ requests_in (lines_of c.in-Some.text.now) = rw c.in-Some.is at c.loop-rest.invariant.requests in
    record {
      count = omega (arith, c.in_ok-add_request.ensures.count);
      within = search rules;
      requests = rw (c.in_ok-add_request.ensures.adds, line, c.cut_line-in-Some.ensures.after)
          (here_requests ∙ ap (λ (l : List (List ℕ)). c.loop-rest.requests ++ l) (requests_on c.in-Some.text.now)
          ∙ sym (append_assoc c.loop-rest.requests (option_to_list (request_of (without_return (cut_at 10 c.in-Some.text.now).0))) (requests_in (lines_left (cut_at 10 c.in-Some.text.now).1))));
      right = c.loop-rest.invariant.right ∙ rw (c.in-Some.is, c.cut_line-in-Some.ensures.after) (wrong_on (c.loop-rest.number + 1) c.in-Some.text.now right);
    }
