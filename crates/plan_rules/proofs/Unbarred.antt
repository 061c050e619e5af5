-- A stop bars no other calls.
use Rattle.std.proofs.Common.{true, false, ◌&&◌, Option, refl, sym, ap, ◌∙◌}
use Rattle.std.specs.Bool.{then_some}
use Rattle.plan_types.specs.declared.call.Call.TheVariants.{Claim, Give, SetPose, Stop, Resume, Advance}
use Rattle.plan_types.specs.declared.answer.Refusal.{Refusal}
use Rattle.plan_types.specs.declared.answer.Refusal.TheVariants.{Stopped}
use Rattle.plan_types.specs.declared.answer.Answer.TheVariants.{Done}
use Rattle.plan_rules.specs.Refusals as refusals
use Rattle.plan_rules.specs.Refusals.{◌or◌}
use Rattle.plan_rules.specs.Reply.{answer_by}
use Rattle.plan_rules.specs.Laws.{StopBarsNoOthers}

pub stop_bars_no_others : StopBarsNoOthers
stop_bars_no_others t s m (Claim z) open_to stop resume = cc
stop_bars_no_others t s m (Give z) open_to stop resume = cc
stop_bars_no_others t s m (Advance p) open_to stop resume = cc
stop_bars_no_others t s m (SetPose p) stands stop resume =
    ap (λ (r : Option Refusal). answer_by (refusals.lacks_pose t m p or r
    or refusals.first_zone t (refusals.unowned_by_pose t s m p) or refusals.first_zone t (refusals.plate_under_pose t s m p)
    or refusals.jump t s m p or refusals.first_zone t (refusals.opens_onto_plate t s p) or refusals.worn s) Done)
    (ap (λ b. then_some (b && true) Stopped) stands ∙ sym (ap (λ b. then_some (b && false) Stopped) stands))
stop_bars_no_others t s m Stop open_to stop resume = absurd (stop refl)
stop_bars_no_others t s m Resume open_to stop resume = absurd (resume refl)
stop_bars_no_others t s m c open_to stop resume = refl
