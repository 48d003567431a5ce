-- The two laws of a record noted, as a set that the check applies by itself: so an edit of the test in `note` is refused at the way out that is false
-- then, and not because an answer has the old number in its name.
use Rattle.fold_merge.specs.Folding.Keeping.{noted-room, noted-full}

pub ruleset noting = (noted-room, noted-full)
