-- What the device of a configuration makes of its work at most.
use Rattle.std.specs.Prelude.{if◌then◌else◌}
use Rattle.std.specs.Option.{option_map_or}
use Rattle.std.proofs.Common.{◌≡◌, ◌≤◌, ℕ, true, Option, Some, None, refl, sym, ap, ◌∙◌, arith}
use Rattle.memif_fee_ea.specs.fee_core.nv_base.Marks.{number_of, instance_of}
use Rattle.nvm_core.specs.block_config.Config.{Configuration}
use Rattle.nvm_core.specs.block_config.Lengths.{lengths_of}
use Rattle.nvm_core.specs.block_config.Rules.{IsLegalConfig}
use Rattle.memif_fee_ea.specs.fee_core.memif.Told.{Figures, figures_at, length_of, most_of, no_figures}
use Rattle.nvm_core.specs.block_machine.Words.{JobKind, ReadJob, WriteJob, RestoreJob, EraseJob, InvalidateJob, ReadAllJob, WriteAllJob}
use Rattle.memif_fee_ea.specs.fee_core.fee_told.Figures.{figures_for}
use Rattle.nvm_core.specs.job_programs.Program.{operation, works}
use Rattle.promise_run.specs.JobTurns.{try_on, pages_on}
use Rattle.promise_run.specs.Operations.{costs_of}
use Rattle.nvm_flash.specs.Turns.{fixed_by}
use Rattle.nvm_flash.specs.Costs.{CostsAreFigures, ReadsTakeOne}
use Rattle.nvm_flash.proofs.JobTurns.{switch_is, figures_are, try_is, none_at, pages_at}

number_is : (n : ℕ) → n ≡ number_of (instance_of (record { 0 = n }))
number_is n = omega arith

pages_is : (c : Configuration) (n : ℕ) → (figures_at (fixed_by c) n).pages ≡ pages_on c (instance_of (record { 0 = n }))
pages_is c n = ap (λ (k : ℕ). (figures_at (fixed_by c) k).pages) (number_is n) ∙ pages_at c (instance_of (record { 0 = n }))

working : (c : Configuration) → IsLegalConfig c → c.eeprom ≡ None → (kind : JobKind) (n : ℕ) → works kind ≡ true → most_of (figures_at (fixed_by c) n) (operation kind) ≡ try_on c kind (instance_of (record { 0 = n }))
working c legal one kind n on =
    ap (λ (k : ℕ). most_of (figures_at (fixed_by c) k) (operation kind)) (number_is n)
    ∙ try_is c legal one (instance_of (record { 0 = n })).block kind on (instance_of (record { 0 = n })).index

most_is : (c : Configuration) → IsLegalConfig c → c.eeprom ≡ None → (kind : JobKind) (n : ℕ) → (if works kind then most_of (figures_at (fixed_by c) n) (operation kind) else 0) ≡ try_on c kind (instance_of (record { 0 = n }))
most_is c legal one ReadJob n = working c legal one ReadJob n refl
most_is c legal one WriteJob n = working c legal one WriteJob n refl
most_is c legal one EraseJob n = working c legal one EraseJob n refl
most_is c legal one InvalidateJob n = working c legal one InvalidateJob n refl
most_is c legal one RestoreJob n = sym (none_at (length_of (lengths_of c) (number_of (instance_of (record { 0 = n })))))
most_is c legal one ReadAllJob n = sym (none_at (length_of (lengths_of c) (number_of (instance_of (record { 0 = n })))))
most_is c legal one WriteAllJob n = sym (none_at (length_of (lengths_of c) (number_of (instance_of (record { 0 = n })))))

pub costs_are_figures : CostsAreFigures
costs_are_figures c legal one = λ i. record {
  switch = switch_is c legal one i;
  pages = λ n. pages_is c n i;
  most = λ kind n. most_is c legal one kind n i;
  reserve = (costs_of c).reserve;
}

pub reads_take_one : ReadsTakeOne
reads_take_one c n =
    let is : (figures_at (fixed_by c) n).read ≡ (option_map_or (figures_for c.geometry.page (fixed_by c).own) (length_of (lengths_of c) n) no_figures).read = ap (λ (f : Figures). f.read) (figures_are (figures_for c.geometry.page (fixed_by c).own) (lengths_of c) n) in
    let one = by (length_of (lengths_of c) n) in omega (arith, is, one)
  where
    by : (o : Option ℕ) → (option_map_or (figures_for c.geometry.page (fixed_by c).own) o no_figures).read ≤ 1
    by None = omega arith
    by (Some length) = omega arith
