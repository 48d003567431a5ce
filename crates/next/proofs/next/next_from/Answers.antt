-- The current selector is a placeholder, or names a record, or loses the walk.
use Rattle.std.proofs.Common.{refl, sym, ap, ◌∙◌, arith}
use Rattle.answers.specs.Seek.{seek_told}
use Rattle.walk.specs.Walk.{walk_from}
use Rattle.walk.specs.Code.Turns.{selector-is, named-run}
use Rattle.next.specs.Next.{visible_visit, walks, passed-gap, passed-record, next-gap, next-record, next-lost}
use Rattle.next.specs.Code.{count-inside, inside-run, beyond-run, told-lost}
use Rattle.next.proofs.next.next_from.Goals as goal
use Rattle.next.proofs.next.next_from.Goals.{then-index-r-via-then-index-r, then-index-r-via-else-index-r+then-count_of-from, then-v-ne63+else-index-r+else-count_of-from, else-v-ne63}

pub count_of-requires : goal.count_of-requires
count_of-requires c = count-inside c.requires.going _ c.if-index-r.false

pub returns-then-index-r : goal.returns-then-index-r
returns-then-index-r c =
    let w = walks c.requires.going in
    let from = c.args.from.now in
    told-lost w c.from-then-index-r.ensures
    (next-lost w from c.requires.inside.0 c.requires.inside.1 (selector-is w _ _ refl c.selectors_at.ensures.value c.from.ensures) c.if-v-ne63.true
    (elim c.then-index-r.branch [
      | then-index-r-via-then-index-r b ↦ named-run w _ from.places b.if-index-r.true
      | then-index-r-via-else-index-r+then-count_of-from b ↦ beyond-run w _ from.places b.if-index-r.false c.from-i.ensures b.count_of.ensures b.if-count_of-from.true
    ]))

pub first_from-requires-clause-here_bound : goal.first_from-requires-clause-here_bound
first_from-requires-clause-here_bound c = λ n.
    elim c.if-v-ne63.branch [
      | then-v-ne63+else-index-r+else-count_of-from b ↦ (omega (arith, c.requires.going.few, b.if-index-r.false), rw (sym b.from-i.ensures) (omega (arith, b.if-count_of-from.false, b.count_of.type_inv)))
      | else-v-ne63 b ↦ absurd (n (omega (arith, b.if-v-ne63.false)))
    ]

pub returns : goal.returns
returns c =
    let w = walks c.requires.going in
    let from = c.args.from.now in
    let read = selector-is w _ _ refl c.selectors_at.ensures.value c.from.ensures in
    c.first_from.ensures
    ∙ ap (seek_told _)
    (elim c.if-v-ne63.branch [
      | then-v-ne63+else-index-r+else-count_of-from b ↦
          ap (λ e. walk_from c.args.t.now c.args.index.now.bytes.now visible_visit e 0) (sym (passed-record _ b.if-v-ne63.true refl))
          ∙ next-record w from c.requires.inside.0 c.requires.inside.1 read b.if-v-ne63.true
          (inside-run w _ from.places b.if-index-r.false b.from-i.ensures b.count_of.ensures b.if-count_of-from.false)
      | else-v-ne63 b ↦
          ap (λ e. walk_from c.args.t.now c.args.index.now.bytes.now visible_visit e 0) (sym (passed-gap _ (omega (arith, b.if-v-ne63.false))))
          ∙ next-gap w from c.requires.inside.0 c.requires.inside.1 read (omega (arith, b.if-v-ne63.false))
    ])
