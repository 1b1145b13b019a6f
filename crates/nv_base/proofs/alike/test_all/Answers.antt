use Rattle.std.specs.Prelude.{◌&&◌, ◌==◌}
use Rattle.std.specs.List.{list_all}
use Rattle.std.proofs.Common.{◌/◌, Bool, length, refl, sym, ap, ◌∙◌}
use Rattle.nv_base.proofs.Runs.{all_by_runs}
use Rattle.nv_base.proofs.alike.test_all.Goals as goal

pub returns-then-runs_are : goal.returns-then-runs_are
returns-then-runs_are c =
    let xs = c.args.bytes.now in
    let both = all_by_runs c.args.value (length xs / 64) xs _ _ c.runs_are.result c.rest_is.result c.as_chunks.ensures.front c.as_chunks.ensures.back c.runs_are.ensures c.rest_is.ensures in
    ap (λ (first : Bool). first && c.rest_is.result) (sym c.if-runs_are.true) ∙ both

pub returns-else-runs_are : goal.returns-else-runs_are
returns-else-runs_are c =
    let xs = c.args.bytes.now in
    let last = list_all (λ b. b == c.args.value) c.as_chunks.result.1.now in
    let both = all_by_runs c.args.value (length xs / 64) xs _ _ c.runs_are.result last c.as_chunks.ensures.front c.as_chunks.ensures.back c.runs_are.ensures refl in
    c.if-runs_are.false ∙ ap (λ (first : Bool). first && last) (sym c.if-runs_are.false) ∙ both
