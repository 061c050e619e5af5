-- A call that is done isn't refused; inquiries.
use Rattle.std.proofs.Common.{◌≡◌, not, Option, Some, None, refl, sym, ap, ◌∙◌}
use Rattle.std.specs.Bool.{then_some}
use Rattle.cell_types.specs.declared.answer.Refusal.{Refusal}
use Rattle.cell_types.specs.declared.answer.Answer.TheVariants.{Done}
use Rattle.cell_rules.specs.Reply.{done_unless}
use Rattle.plan_types.specs.declared.call.Call.{Call as PlanCall}
use Rattle.plan_types.specs.declared.call.Call.TheVariants.{Inquire as DoInquire}
use Rattle.plan_types.specs.declared.answer.Answer.TheVariants.{Shown as IsShown}
use Rattle.plan_types.specs.declared.answer.Refusal.TheVariants.{NotParty}
use Rattle.plan_rules.specs.declared.state.ZoneState.{ZoneState as PlanZoneState}
use Rattle.plan_rules.specs.Reply.{accepted, answer_by, reply as plan_reply}
use Rattle.plan_cell.specs.Numbers.{machine_number, zone_number}
use Rattle.plan_cell.specs.CellPlan.{cell_table}
use Rattle.plan_cell.specs.Mapping.{plan_state}
use Rattle.plan_cell.specs.Laws.{InquiriesAreAlike}
use Rattle.plan_cell.proofs.Names.{there, zone_is}

pub unrefused : (r : Option Refusal) → done_unless r ≡ Done → r ≡ None
unrefused None e = refl
unrefused (Some r) e = cc

pub the_call : (a d : PlanCall) → Some a ≡ Some d → a ≡ d
the_call a d e = cc

pub inquiries_are_alike : InquiriesAreAlike
inquiries_are_alike s m z d is =
    ap (plan_reply cell_table (plan_state s) (machine_number m)) (sym (the_call (DoInquire (zone_number z)) d is))
    ∙ ap (λ b. answer_by (then_some (not b) NotParty) (accepted (plan_state s) (DoInquire (zone_number z)))) (there z)
    ∙ ap (λ (v : PlanZoneState). IsShown v.owner v.flag v.posture) (zone_is s z)
