-- Where the way of a plate leads.
use Rattle.std.proofs.Common.{◌≡◌, ℕ, ◌<◌, true, nat_eq, nat_lt, Option, Some, None, subst, ltb-true}
use Rattle.std.proofs.lemmas.Bool.{eqb-true}
use Rattle.plan_types.specs.declared.posture.Posture.{Posture}
use Rattle.plan_types.specs.declared.posture.Posture.TheVariants.{Closed, Moving, OpenIn, OpenOut}
use Rattle.plan_types.specs.declared.table.Way.{Way}
use Rattle.plan_types.specs.declared.table.Transfer.{Transfer}
use Rattle.plan_types.specs.Table.{PlanTable, zone_count, place_count, host_of, guest_of, keeper_of, transfer_of, transfer_by, zone_row, is_place_of}
use Rattle.plan_types.specs.Plan.{IsPlan, leads}
use Rattle.plan_rules.proofs.lemmas.Zones.{both_true, some_is}

pub record Leads (t : PlanTable) (way : Transfer) : Type 0 where
  pub from : way.from < place_count t
  pub from_giver : keeper_of t way.from ≡ way.giver
  pub to : way.to < place_count t
  pub to_receiver : keeper_of t way.to ≡ way.receiver

leads_by : (t : PlanTable) (g r : ℕ) (w : Option Way) (way : Transfer) → leads t g r w ≡ true → transfer_by g r w ≡ Some way → Leads t way
leads_by t g r None way e is = cc
leads_by t g r (Some w) way e is =
    let x : Transfer = record { giver = g; receiver = r; from = w.from; to = w.to } in
    let both = both_true (is_place_of t w.from g) (is_place_of t w.to r) e in
    let from = both_true (nat_lt w.from (place_count t)) (nat_eq (keeper_of t w.from) g) both.0 in
    let to = both_true (nat_lt w.to (place_count t)) (nat_eq (keeper_of t w.to) r) both.1 in
    let found : Leads t x = record { from = ltb-true _ _ from.0; from_giver = eqb-true _ _ from.1; to = ltb-true _ _ to.0; to_receiver = eqb-true _ _ to.1 } in
    subst (Leads t) (some_is x way is) found

pub way_leads : (t : PlanTable) → IsPlan t → (z : ℕ) (q : Posture) (way : Transfer) → z < zone_count t → transfer_of t z q ≡ Some way → Leads t way
way_leads t p z Closed way l is = cc
way_leads t p z Moving way l is = cc
way_leads t p z OpenIn way l is = leads_by t (guest_of t z) (host_of t z) (zone_row t z).inward way (p.inward_to_host z l) is
way_leads t p z OpenOut way l is = leads_by t (host_of t z) (guest_of t z) (zone_row t z).outward way (p.outward_to_guest z l) is
