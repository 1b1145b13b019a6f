use Rattle.std.specs.Prelude.{◌==◌}
use Rattle.std.proofs.Common.{◌≡◌, ◌↔◌, ℕ, ◌+◌, Bool, true, IsTrue, List, take, length, replicate, sym, ap, ◌∙◌, arith}
use Rattle.std.proofs.lemmas.Bool.Decides.{Decides-eqb}
use Rattle.std.proofs.lemmas.List.{take_all}
use Rattle.std.proofs.lemmas.Slice.Eq.{slice_eq-Decides}
use Rattle.fee_format.proofs.Tests.{eq_is}
use Rattle.fee_format.proofs.alike.is_alike.Goals as goal

-- nothing stands behind the first ones
all_tested : (n value : ℕ) (bytes shortest rest : List ℕ) (empty test : Bool) → shortest ≡ take n bytes → length rest + n ≡ length bytes → empty ≡ (length rest == 0) → empty ≡ true
    → IsTrue test ↔ (shortest ≡ replicate n value) → IsTrue test ↔ (bytes ≡ replicate (length bytes) value)
all_tested n value bytes shortest rest empty test cut sum is holds tests =
    let none : length rest ≡ 0 = (eq_is (length rest) 0).0 (sym is ∙ holds) in
    let size : n ≡ length bytes = omega (arith, none, sum) in
    let all : shortest ≡ bytes = cut ∙ take_all n bytes (omega (arith, size)) in
    (λ t. sym all ∙ tests.0 t ∙ ap (λ (k : ℕ). replicate k value) size, λ same. tests.1 (all ∙ same ∙ ap (λ (k : ℕ). replicate k value) (sym size)))

pub returns-in-Some : goal.returns-in-Some
returns-in-Some g c =
    let cases = c.in-Some.ensures.cases in
    all_tested g.row.SHORTEST c.args.value c.args.bytes.now c.in-Some.shortest.now c.in-Some.rest.now c.is_empty.result c.eq.result cases.0 cases.2 c.is_empty.ensures c.if-is_empty.true
    (slice_eq-Decides Decides-eqb c.in-Some.shortest.now (replicate g.row.SHORTEST c.args.value) c.eq.result c.eq.ensures)
