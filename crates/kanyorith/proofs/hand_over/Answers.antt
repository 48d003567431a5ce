-- A way out for each answer.
use Rattle.std.proofs.Common.{◌≡◌, Ok, Result, rules}
use Rattle.refusal.specs.declared.Refusal.{Refusal}
use Rattle.answers.specs.declared.Stand.{Stand}
use Rattle.answers.specs.declared.Stand.TheVariants.{Found, End}
use Rattle.kanyorith.specs.Code.{sought-found, sought-end, sought-refused}
use Rattle.kanyorith.proofs.hand_over.Goals as goal

pub returns-in-Ok-Found : goal.returns-in-Ok-Found
returns-in-Ok-Found c =
    let a = c.in-Ok-Found.is in
    let b = c.in-Ok-Found.field-0-is in
    let e : ◌≡◌ {A = Result Stand Refusal} c.args.s.now (Ok (Found c.in-Ok-Found.n c.in-Ok-Found.p c.in-Ok-Found.c)) = search rules in
    sought-found e c.put_cursor.ensures

pub returns-in-Ok-End : goal.returns-in-Ok-End
returns-in-Ok-End c =
    let a = c.in-Ok-End.is in
    let b = c.in-Ok-End.field-0-is in
    let e : ◌≡◌ {A = Result Stand Refusal} c.args.s.now (Ok (End c.in-Ok-End.c)) = search rules in
    sought-end e c.put_cursor-in-Ok-End.ensures

pub returns-in-Err : goal.returns-in-Err
returns-in-Err c = sought-refused c.in-Err.is c.refuse.ensures
