use Rattle.walk.specs.Code.{spot_of}
use Rattle.next.specs.Next.{Inner, Outer, passed_by}
use Rattle.next.proofs.next.first_from.Given as goal

abbrev pub invariant-loop-s : goal.invariant-loop-s
invariant-loop-s l = Inner l.t l.index.bytes.now l.index.size l.index.segments (passed_by l.here (spot_of l.from)) l.g l.places l.s

-- the selector and the places as those of a cursor there
abbrev pub invariant-loop-g : goal.invariant-loop-g
invariant-loop-g l =
    Outer l.t l.index.bytes.now l.index.segments (passed_by l.here (spot_of l.from)) (record { segment = record { 0 = l.g }; selector = l.low; places = l.places }) l.g
