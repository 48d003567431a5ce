-- A way out for each answer.
use Rattle.std.proofs.Common.{◌≡◌, Ok, Some, None, rules}
use Rattle.answers.specs.Get.{Value}
use Rattle.kanyorith.specs.Code.{get-found, get_absent, get_refused}
use Rattle.kanyorith.proofs.kanyorith_get.Goals as goal

pub returns-in-Ok-Some : goal.returns-in-Ok-Some
returns-in-Ok-Some c =
    let a = c.in-Ok-Some.is in
    let b = c.in-Ok-Some.field-0-is in
    let e : ◌≡◌ {A = Value} c.get.result (Ok (Some c.in-Ok-Some.v)) = search rules in
    get-found _ _ _ _ c.get.ensures e

pub returns-in-Ok-None : goal.returns-in-Ok-None
returns-in-Ok-None c =
    let a = c.in-Ok-None.is in
    let b = c.in-Ok-None.field-0-is in
    let e : ◌≡◌ {A = Value} c.get.result (Ok None) = search rules in
    get_absent _ _ _ _ c.get.ensures e

pub returns-in-Err : goal.returns-in-Err
returns-in-Err c = get_refused _ _ _ _ c.get.ensures c.in-Err.is c.refuse.ensures
