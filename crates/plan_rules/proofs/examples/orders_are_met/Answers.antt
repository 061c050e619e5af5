use Rattle.std.proofs.Common.{refl}
use Rattle.plan_rules.proofs.examples.orders_are_met.Goals as goal

pub returns : goal.returns
returns c = record {
  claim = record { party = (refl, refl); stopped = (refl, refl); stopped_too = (refl, refl); mine = (refl, refl); held = (refl, refl); shut = (refl, refl) };
  give = record { party = (refl, refl); stopped = (refl, refl); owner = (refl, refl); owner_too = (refl, refl); plate = (refl, refl); way = (refl, refl); no_plate = (refl, refl); full = (refl, refl) };
  yield = record { party = (refl, refl); owner = (refl, refl); owner_too = (refl, refl); plate = (refl, refl); shut = (refl, refl) };
  take = record { party = (refl, refl); owner = (refl, refl); no_plate = (refl, refl) };
  release = record { party = (refl, refl); owner = (refl, refl); owner_too = (refl, refl); plate = (refl, refl); shut = (refl, refl) };
  pose = record { own = (refl, refl); stopped = (refl, refl); owner = (refl, refl); plate = (refl, refl); jump = (refl, refl); full = (refl, refl) };
  stop = record { party = (refl, refl); party_worn = (refl, refl); stopped = (refl, refl) };
  resume = record { party = (refl, refl); not_stopped = (refl, refl) };
}
