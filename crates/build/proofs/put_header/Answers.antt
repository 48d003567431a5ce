-- `build::put_header` meets its contract: four bytes and a number, one right after the other.
use Rattle.std.proofs.Common.{◌∙◌}
use Rattle.build.specs.Answers.{header_is}
use Rattle.build.proofs.put_header.Goals as goal

pub returns : goal.returns
returns c = c.write.ensures ∙ header_is _ _ _ _ c.requires
