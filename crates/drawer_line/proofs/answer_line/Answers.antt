-- `drawer_line::answer_line` meets its contract: a well formed line is heard as its frame, any other is ignored.
use Rattle.std.proofs.Common.{sym, ◌∙◌, arith}
use Rattle.drawer_spec.specs.Turns.{formed-known, decoded, line-heard, line-bad}
use Rattle.drawer_line.proofs.answer_line.Goals as goal

pub decode-requires-clause-line_value : goal.decode-requires-clause-line_value
decode-requires-clause-line_value g c = (formed-known c.args.line.now (sym c.formed.ensures ∙ c.if-formed.true)).digits

pub decode-requires-clause-line_in_bounds : goal.decode-requires-clause-line_in_bounds
decode-requires-clause-line_in_bounds g c = omega (arith, (formed-known c.args.line.now (sym c.formed.ensures ∙ c.if-formed.true)).short)

pub shared_ref_as_front-answer_frame : goal.shared_ref_as_front-answer_frame
shared_ref_as_front-answer_frame g c = omega (arith, (formed-known c.args.line.now (sym c.formed.ensures ∙ c.if-formed.true)).short)

pub answer_frame-requires : goal.answer_frame-requires
answer_frame-requires g c =
    let front = decoded c.args.line.now c.args.frame.now (sym c.formed.ensures ∙ c.if-formed.true) (omega arith) c.decode.ensures in
    (omega arith, (c.requires, (front.some, front.short)))

pub returns-then-formed : goal.returns-then-formed
returns-then-formed g c =
    let yes = sym c.formed.ensures ∙ c.if-formed.true in
    line-heard c.args.line.now yes (decoded c.args.line.now c.args.frame.now yes (omega arith) c.decode.ensures).is c.answer_frame.ensures

pub returns-else-formed : goal.returns-else-formed
returns-else-formed g c = line-bad c.args.line.now (sym c.formed.ensures ∙ c.if-formed.false) c.put_bad.ensures
