use Rattle.std.proofs.Common.{ℕ, List, ap, ◌∙◌, arith}
use Rattle.tray.specs.Run.{record_at}
use Rattle.tray.proofs.Tray.head.Goals as goal

pub key_at-requires : goal.key_at-requires
key_at-requires c = omega (arith, c.run-run.ensures.records, c.requires.p_bound)

pub kind_at-requires : goal.kind_at-requires
kind_at-requires c = omega (arith, c.run-run.ensures.records, c.requires.p_bound)

pub returns : goal.returns
returns c =
    let p = c.args.p.0 in
    let e = c.run-run.ensures.bytes in
    record {
      key = c.key_at.ensures ∙ ap (λ (s : List ℕ). (record_at s p).key) e;
      kind = c.kind_at.ensures ∙ ap (λ (s : List ℕ). (record_at s p).kind) e;
    }
