use Rattle.drawer_spec.specs.Turns.{Roomy}
use Rattle.drawer_io.proofs.run.Given as goal

abbrev pub invariant-loop : goal.invariant-loop
invariant-loop l = Roomy l.carried.drawer
