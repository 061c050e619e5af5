use Rattle.std.proofs.Common.{refl}
use Rattle.plan_document.proofs.zones.plain_in.Goals as goal

pub returns : goal.returns
returns c = record {
  keys = c.in_ok-check_keys.ensures.known;
  name = c.in_ok-name.ensures;
  host = c.in_ok-host.ensures;
  guest = c.in_ok-guest.ensures;
  inward = c.in_ok-inward.ensures;
  outward = c.in_ok-outward.ensures;
  space = refl;
  joins = refl;
}
