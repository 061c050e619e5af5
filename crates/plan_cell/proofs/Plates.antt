-- A give, or a take, that the cell does is done by its plan. No two ways lead into one place, so no plate is on its way
-- to the place that another zone leads to.
use Rattle.std.proofs.Common.{◌≡◌, ℕ, ◌+◌, Bool, true, false, ◌&&◌, ◌||◌, not, nat_eq, nat_lt, List, set, Option, Some, None, refl, sym, ap, ap₂, ◌∙◌, if◌then◌else◌, arith}
use Rattle.std.specs.Prelude.{option_map}
use Rattle.std.specs.Bool.{then_some}
use Rattle.cell_types.specs.declared.machine.Machine.{Machine}
use Rattle.cell_types.specs.declared.zone.Zone.{Zone}
use Rattle.cell_types.specs.declared.zone.Zone.TheVariants.{Z1, Z2, Z3, Z4, Z5, Z6}
use Rattle.cell_types.specs.declared.zone.Transfer.{Transfer}
use Rattle.cell_types.specs.declared.posture.Posture.{Posture}
use Rattle.cell_types.specs.declared.call.Call.TheVariants.{Give, Take}
use Rattle.cell_types.specs.declared.answer.Refusal.TheVariants.{PlaceFull}
use Rattle.cell_types.specs.declared.answer.Answer.TheVariants.{Done}
use Rattle.cell_types.specs.Same.{same_machine, same_zone}
use Rattle.cell_types.proofs.lemmas.SameLemmas.{one_zone}
use Rattle.cell_types.specs.Tables.{transfer_of}
use Rattle.cell_rules.specs.declared.zones.ZoneState.{ZoneState}
use Rattle.cell_rules.specs.ZoneMap.{put_zone}
use Rattle.cell_rules.specs.ModelState.{ModelState, zone_at, is_full}
use Rattle.cell_rules.specs.Refusals as cell
use Rattle.cell_rules.specs.Reply as cell_reply
use Rattle.cell_rules.proofs.lemmas.Tables.{all_zones, all_postures, from_zones, from_postures}
use Rattle.cell_rules.proofs.lemmas.DoneCalls.{none_or, none_then}
use Rattle.cell_rules.proofs.lemmas.Transfers.{give_finds}
use Rattle.plan_types.specs.declared.answer.Refusal.TheVariants.{PlaceFull as IsFull, NoPlate as HasNone}
use Rattle.plan_types.specs.declared.call.Call.TheVariants.{Give as DoGive, Take as DoTake}
use Rattle.plan_types.specs.Table as table
use Rattle.plan_types.specs.Below.{sum_below}
use Rattle.plan_rules.specs.declared.state.ZoneState.{ZoneState as PlanZoneState}
use Rattle.plan_rules.specs.declared.state.State.{State as PlanState}
use Rattle.plan_rules.specs.State.{zone_at as plan_zone_at, is_full as plan_is_full, posture_at as plan_posture_at, one_if, leads_to, is_coming, coming}
use Rattle.plan_rules.specs.Refusals as plan
use Rattle.plan_rules.specs.Reply as plan_reply
use Rattle.plan_cell.specs.Numbers.{machine_number, zone_number, place_number, plan_posture}
use Rattle.plan_cell.specs.CellPlan.{cell_table}
use Rattle.plan_cell.specs.Mapping.{plan_zone, plan_state}
use Rattle.plan_cell.proofs.Alone.{alone, ten}
use Rattle.plan_cell.proofs.Names.{same_numbers, zone_is, full_is, way_is, plan_transfer, other_alike, zones_put, places_put}
use Rattle.plan_cell.proofs.Alike.{Alike, alike_by, no_refusal, posture_alike, is_party, is_owner, is_clear, is_fresh, goes_on, take_free}

-- ---- no plate comes from another zone

abbrev leads_elsewhere : Option Transfer → Option Transfer → Bool
leads_elsewhere (Some a) (Some b) = not (nat_eq (place_number a.to) (place_number b.to))
leads_elsewhere (Some a) None = true
leads_elsewhere None b = true

abbrev way_test : Zone → Zone → Posture → Posture → Bool
way_test x z q r = same_zone x z || leads_elsewhere (transfer_of x q) (transfer_of z r)

ways_apart : all_zones (λ x. all_zones (λ z. all_postures (λ q. all_postures (λ r. way_test x z q r)))) ≡ true
ways_apart = refl

way_apart : (x z : Zone) (q r : Posture) → way_test x z q r ≡ true
way_apart x z q r =
    from_postures (λ r. way_test x z q r) (from_postures (λ q. all_postures (λ r. way_test x z q r)) (from_zones (λ z. all_postures (λ q. all_postures (λ r. way_test x z q r)))
    (from_zones (λ x. all_zones (λ z. all_postures (λ q. all_postures (λ r. way_test x z q r)))) ways_apart x) z) q) r

not_false : (b : Bool) → not b ≡ true → b ≡ false
not_false true e = cc
not_false false e = refl

elsewhere : (o : Option Transfer) (row : Transfer) → leads_elsewhere o (Some row) ≡ true → leads_to (option_map plan_transfer o) (place_number row.to) ≡ false
elsewhere None row e = refl
elsewhere (Some a) row e = not_false (nat_eq (place_number a.to) (place_number row.to)) e

and_none : (a b : Bool) → b ≡ false → (a && b) ≡ false
and_none true b e = e
and_none false b e = refl

other_or : (a b : Bool) → (a || b) ≡ true → a ≡ false → b ≡ true
other_or true b e f = cc
other_or false b e f = e

not_coming : (s : ModelState) (z : Zone) (r : Posture) (row : Transfer) → transfer_of z r ≡ Some row → (zone_at s z).flag ≡ false → (x : Zone)
    → is_coming cell_table (plan_zone (zone_at s x)) (place_number row.to) (zone_number x) ≡ false
not_coming s z r row is clear x =
    let q = (zone_at s x).posture in
    let p = place_number row.to in
    let At : Bool → Type 0 = λ b. same_zone x z ≡ b → is_coming cell_table (plan_zone (zone_at s x)) p (zone_number x) ≡ false in
    let by : (b : Bool) → At b = λ b. elim b as At [
      | true ↦ λ e.
          let flag : (zone_at s x).flag ≡ false = ap (λ y. (zone_at s y).flag) (one_zone x z e) ∙ clear in
          ap (λ f. f && leads_to (table.transfer_of cell_table (zone_number x) (plan_posture q)) p) flag
      | false ↦ λ e.
          let test : leads_elsewhere (transfer_of x q) (Some row) ≡ true = ap (leads_elsewhere (transfer_of x q)) (sym is) ∙ other_or (same_zone x z) (leads_elsewhere (transfer_of x q) (transfer_of z r)) (way_apart x z q r) e in
          and_none (zone_at s x).flag (leads_to (table.transfer_of cell_table (zone_number x) (plan_posture q)) p) (ap (λ o. leads_to o p) (way_is x q) ∙ elsewhere (transfer_of x q) row test)
    ] in
    by (same_zone x z) refl

six : (f : ℕ → ℕ) → f 0 ≡ 0 → f 1 ≡ 0 → f 2 ≡ 0 → f 3 ≡ 0 → f 4 ≡ 0 → f 5 ≡ 0 → sum_below f 6 ≡ 0
six f a b c d e g = omega (arith, a, b, c, d, e, g)

pub not_taken : (s : ModelState) (z : Zone) (r : Posture) (row : Transfer) → transfer_of z r ≡ Some row → (zone_at s z).flag ≡ false → is_full s row.to ≡ false
    → plan.is_taken cell_table (plan_state s) (place_number row.to) ≡ false
not_taken s z r row is clear empty =
    let none = not_coming s z r row is clear in
    let p = place_number row.to in
    let comes : coming cell_table (plan_state s) p ≡ 0 = six (λ y. one_if (is_coming cell_table (plan_zone_at (plan_state s) y) p y))
    (ap one_if (none Z1)) (ap one_if (none Z2)) (ap one_if (none Z3)) (ap one_if (none Z4)) (ap one_if (none Z5)) (ap one_if (none Z6)) in
    ap₂ (λ b n. nat_lt 0 (one_if b + n)) (full_is s row.to ∙ empty) comes

-- ---- a give

some_if : (b : Bool) (row : Transfer) → (if b then Some (plan_transfer row) else None) ≡ option_map plan_transfer (if b then Some row else None)
some_if true row = refl
some_if false row = refl

given_by_alike : (m : Machine) (o : Option Transfer) → plan.given_by (machine_number m) (option_map plan_transfer o) ≡ option_map plan_transfer (cell.given_by m o)
given_by_alike m None = refl
given_by_alike m (Some row) = ap (λ b. if b then Some (plan_transfer row) else None) (same_numbers row.giver m) ∙ some_if (same_machine row.giver m) row

way_at : (s : ModelState) (z : Zone) → table.transfer_of cell_table (zone_number z) (plan_posture_at (plan_state s) (zone_number z)) ≡ option_map plan_transfer (transfer_of z (zone_at s z).posture)
way_at s z = ap (table.transfer_of cell_table (zone_number z)) (posture_alike s z) ∙ way_is z (zone_at s z).posture

pub given_alike : (s : ModelState) (m : Machine) (z : Zone) → plan.transfer_given cell_table (plan_state s) (machine_number m) (zone_number z) ≡ option_map plan_transfer (cell.transfer_given s m z)
given_alike s m z = ap (plan.given_by (machine_number m)) (way_at s z) ∙ given_by_alike m (transfer_of z (zone_at s z).posture)

kept_if : (b : Bool) (r row : Transfer) → (if b then Some r else None) ≡ Some row → Some r ≡ Some row
kept_if true r row e = e
kept_if false r row e = cc

given_from : (m : Machine) (o : Option Transfer) (row : Transfer) → cell.given_by m o ≡ Some row → o ≡ Some row
given_from m None row e = cc
given_from m (Some r) row e = kept_if (same_machine r.giver m) r row e

give_free : (s : ModelState) (m : Machine) (z : Zone) → cell.give_refusal s m z ≡ None → plan.give_refusal cell_table (plan_state s) (machine_number m) (zone_number z) ≡ None
give_free s m z e =
    let way = cell.transfer_given s m z in
    let r1 = cell.not_party m z in
    let r2 = cell.◌or◌ r1 (cell.while_stopped s) in
    let r3 = cell.◌or◌ r2 (cell.not_owner s m z) in
    let r4 = cell.◌or◌ r3 (cell.plate_in_zone s z) in
    let r5 = cell.◌or◌ r4 (cell.wrong_way way) in
    let r6 = cell.◌or◌ r5 (cell.nothing_to_give s way) in
    let r7 = cell.◌or◌ r6 (cell.no_room s way) in
    let h7 = none_or r7 (cell.worn s) e in
    let h6 = none_or r6 (cell.no_room s way) h7.0 in
    let h5 = none_or r5 (cell.nothing_to_give s way) h6.0 in
    let h4 = none_or r4 (cell.wrong_way way) h5.0 in
    let h3 = none_or r3 (cell.plate_in_zone s z) h4.0 in
    let h2 = none_or r2 (cell.not_owner s m z) h3.0 in
    let h1 = none_or r1 (cell.while_stopped s) h2.0 in
    let found = give_finds s m z e in
    let row = found.row in
    let S = plan_state s in
    let is : plan.transfer_given cell_table S (machine_number m) (zone_number z) ≡ Some (plan_transfer row) = given_alike s m z ∙ ap (option_map plan_transfer) found.way in
    let room : cell.no_room s (Some row) ≡ None = ap (cell.no_room s) (sym found.way) ∙ h6.1 in
    let empty : is_full s row.to ≡ false = none_then (is_full s row.to) PlaceFull room in
    let free = not_taken s z (zone_at s z).posture row (given_from m (transfer_of z (zone_at s z).posture) row found.way) found.clear empty in
    let plate : plan_is_full S (place_number row.from) ≡ true = full_is s row.from ∙ found.there in
    no_refusal _ _ (no_refusal _ _ (no_refusal _ _ (no_refusal _ _ (no_refusal _ _ (no_refusal _ _ (no_refusal _ _
    (is_party m z h1.0) (goes_on s h1.1)) (is_owner s m z h2.1)) (is_clear s z h3.1))
    (ap plan.wrong_way is))
    (ap (plan.nothing_to_give S) is ∙ ap (λ b. then_some (not b) HasNone) plate))
    (ap (plan.no_room cell_table S) is ∙ ap (λ b. then_some b IsFull) free))
    (is_fresh s h7.1)

emptied_alike : (s : ModelState) (o : Option Transfer) → plan_reply.emptied (plan_state s).full (option_map plan_transfer o) ≡ (plan_state (record s { full = cell_reply.emptied s.full o })).full
emptied_alike s None = refl
emptied_alike s (Some row) = places_put s false row.from

filled_alike : (s : ModelState) (o : Option Transfer) → plan_reply.filled (plan_state s).full (option_map plan_transfer o) ≡ (plan_state (record s { full = cell_reply.filled s.full o })).full
filled_alike s None = refl
filled_alike s (Some row) = places_put s true row.to

abbrev with_both : ModelState → List PlanZoneState → List Bool → PlanState
with_both s zones full = record { zones = zones; full = full; stamp = s.stamp + 1; stopped = s.stopped }

pub give_alike : (s : ModelState) (m : Machine) (z : Zone) → cell.give_refusal s m z ≡ None → cell_reply.reply s m (Give z) ≡ Done → Alike s m (Give z) (DoGive (zone_number z))
give_alike s m z e done =
    let v : ZoneState = record (zone_at s z) { owner = Some (cell_reply.other_party m z); flag = true } in
    let to = Some (plan_reply.other_party cell_table (machine_number m) (zone_number z)) in
    let zones : plan_reply.with_owner cell_table (plan_state s) (zone_number z) to true ≡ (plan_state (record s { zones = put_zone s.zones z v })).zones =
    (alone (plan_state s) (zone_number z)).owner to true (ten z) refl
    ∙ ap₂ (λ (u : PlanZoneState) (o : ℕ). set (plan_state s).zones (zone_number z) (record u { owner = Some o; flag = true })) (zone_is s z) (other_alike m z) ∙ zones_put s v z in
    let places = ap (plan_reply.emptied (plan_state s).full) (given_alike s m z) ∙ emptied_alike s (cell.transfer_given s m z) in
    alike_by s m (Give z) (DoGive (zone_number z)) (give_free s m z e) refl done (ap₂ (with_both s) zones places)

pub take_alike : (s : ModelState) (m : Machine) (z : Zone) → cell.take_refusal s m z ≡ None → cell_reply.reply s m (Take z) ≡ Done → Alike s m (Take z) (DoTake (zone_number z))
take_alike s m z e done =
    let v : ZoneState = record (zone_at s z) { flag = false } in
    let zones : set (plan_state s).zones (zone_number z) (record (plan_zone_at (plan_state s) (zone_number z)) { flag = false }) ≡ (plan_state (record s { zones = put_zone s.zones z v })).zones =
    ap (λ (u : PlanZoneState). set (plan_state s).zones (zone_number z) (record u { flag = false })) (zone_is s z) ∙ zones_put s v z in
    let places = ap (plan_reply.filled (plan_state s).full) (way_at s z) ∙ filled_alike s (transfer_of z (zone_at s z).posture) in
    alike_by s m (Take z) (DoTake (zone_number z)) (take_free s m z e) refl done (ap₂ (with_both s) zones places)
