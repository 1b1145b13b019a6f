use Rattle.std.proofs.Common.{◌≡◌, List, ℕ, All, length, replicate, refl, sym, subst}
use Rattle.std.proofs.lemmas.List.Elements.{All-replicate}
use Rattle.std.proofs.lemmas.Slice.Eq.{bytes_eq-Decides}
use Rattle.nv_base.proofs.Runs.{same_as_alike, alike_from_all}
use Rattle.nv_base.proofs.alike.all_are.Goals as goal

pub returns-clause-list : goal.returns-clause-list
returns-clause-list c =
    let xs = c.args.bytes.now in
    rw (c.test_all.ensures, ← same_as_alike xs (length xs) c.args.value refl) (bytes_eq-Decides xs (replicate (length xs) c.args.value))

pub returns-clause-each : goal.returns-clause-each
returns-clause-each c =
    let xs = c.args.bytes.now in
    let list = returns-clause-list c in (
      λ yes. subst (λ (l : List ℕ). All (λ b. b ≡ c.args.value) l) (sym (list.0 yes)) (All-replicate (λ b. b ≡ c.args.value) (length xs) c.args.value refl),
      λ all. list.1 (alike_from_all xs c.args.value all),
    )
