use Rattle.tray.specs.Check.{after_run}
use Rattle.tray_check.proofs.refusal_of.Goals as goal

pub returns-in-WrongKind : goal.returns-in-WrongKind
unfolding after_run
returns-in-WrongKind c = rw (c.in-WrongKind.is, c.from.ensures)

pub returns-in-WrongKey : goal.returns-in-WrongKey
unfolding after_run
returns-in-WrongKey c = rw (c.in-WrongKey.is, c.from-in-WrongKey.ensures)
