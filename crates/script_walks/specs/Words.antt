-- The words of the steps of a script, from one place.
pub use Rattle.nvm_script.specs.declared.step.Step.{Step}
pub use Rattle.nvm_script.specs.declared.step.StepKind.{StepKind}
pub use Rattle.nvm_script.specs.declared.step.StepKind.TheVariants.{Ask as AskStep, Store, Turn, Drain, Restart, Cut, CutSecond, Refuse, Await}
