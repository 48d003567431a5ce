-- Number and figure of each call's answer, as its caller gets them (docs/RULES.md, "Refusals by number"): without a refusal the number is 0, and
-- the figure is what the call answers: records, segments, bytes written, records listed; at get 1 for found and 0 for absent; at seek, next and
-- page 1 where a record is left and 0 at the end.
pub mod Laws
use Rattle.std.specs.Prelude.{ℕ, Ok, Err, Result, Some, None}
use Rattle.refusal.specs.declared.Refusal.{Refusal}
use Rattle.refusal.specs.declared.Verdict.{Verdict}
use Rattle.refusal.specs.Table.{told, verdict_of}
use Rattle.answers.specs.declared.Stand.{Stand}
use Rattle.answers.specs.declared.Stand.TheVariants.{Found, End}
use Rattle.answers.specs.declared.Rest.{Rest}
use Rattle.answers.specs.declared.Rest.TheVariants.{More, End as RestEnd}
use Rattle.answers.specs.Get.{Value}

-- check tray, check index, build, sheet and fold answer a number
unfoldable pub count_told : Result ℕ Refusal → Verdict
count_told (Ok n) = told 0 n
count_told (Err r) = verdict_of r

unfoldable pub get_told : Value → Verdict
get_told (Ok (Some v)) = told 0 1
get_told (Ok None) = told 0 0
get_told (Err r) = verdict_of r

unfoldable pub seek_told : Result Stand Refusal → Verdict
seek_told (Ok (Found run place c)) = told 0 1
seek_told (Ok (End c)) = told 0 0
seek_told (Err r) = verdict_of r

unfoldable pub page_told : Result Rest Refusal → Verdict
page_told (Ok (More c)) = told 0 1
page_told (Ok (RestEnd c)) = told 0 0
page_told (Err r) = verdict_of r
