-- `index_scan::selector::may_follow` meets its contract: the marks and the order are computed as numbers.
use Rattle.index.specs.Scan.Code.Select.{follow-is, follow-falls, follow-not}
use Rattle.index_scan.proofs.selector.may_follow.Goals as goal
use Rattle.index_scan.proofs.selector.may_follow.Goals.{else-v-marked-via-then-v-marked+else-last-e, else-v-marked-via-else-v-marked}

pub returns-then-last-e : goal.returns-then-last-e
returns-then-last-e c = follow-is _ _ _ _ c.from.ensures c.from-2.ensures c.if-v-marked.true c.requires c.if-last-e.true

pub returns : goal.returns
returns c =
    elim c.else-v-marked.branch [
      | else-v-marked-via-then-v-marked+else-last-e w ↦ follow-falls _ _ _ _ c.from.ensures c.from-2.ensures w.if-v-marked.true w.if-last-e.false
      | else-v-marked-via-else-v-marked w ↦ follow-not _ _ _ _ c.from.ensures c.from-2.ensures w.if-v-marked.false
    ]
