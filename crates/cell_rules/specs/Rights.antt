-- What a machine keeps while others make the events, and refusals that its calls then never get.
use Rattle.std.specs.Prelude.{◌≡◌, ◌≢◌, Bool, false, ◌&&◌, List, Option, IsTrue}
use Rattle.cell_rules.specs.Types.{Machine, Press, Zone, Z3, Place, Call, Give, Yield, Take, Release, SetPose}
use Rattle.cell_rules.specs.Types.{Advance, Answer, Refused, NotOwner, Event, host_of, same_machine, same_zone}
use Rattle.cell_rules.specs.Types.{keeper_of}
use Rattle.cell_rules.specs.ModelState.{ModelState, zone_at, is_full}
use Rattle.cell_rules.specs.History.{after, Holds, posture_by_events}

-- from one history to a longer one a machine keeps each zone that it held, with owner, flag and posture; its own
-- places; and the postures of the zones that it hosts
pub record KeepsItsOwn (s : ModelState) (m : Machine) (before now : List Event) : Type 0 where
  pub held : (z : Zone) → Holds s before m z → Holds s now m z
  pub zone : (z : Zone) → Holds s before m z → zone_at (after s now) z ≡ zone_at (after s before) z
  pub places : (p : Place) → keeper_of p ≡ m → is_full (after s now) p ≡ is_full (after s before) p
  pub postures : (z : Zone) → host_of z ≡ m → posture_by_events s now z ≡ posture_by_events s before z

-- the zones that a call needs: the zone that it names, unless it is a claim or an inquiry; for a pose the machine's own
-- zones; for the press's work z3
abbrev pub needs : Machine → Call → Zone → Bool
needs m (Give y) z = same_zone y z
needs m (Yield y) z = same_zone y z
needs m (Take y) z = same_zone y z
needs m (Release y) z = same_zone y z
needs m (SetPose p) z = same_machine (host_of z) m
needs m Advance z = same_machine m Press && same_zone Z3 z
needs m _ z = false

-- the answer doesn't say that a zone belongs to another machine, or to nobody
abbrev pub NamesNoOwner : Answer → Type 0
NamesNoOwner a = (owner : Option Machine) → a ≢ Refused (NotOwner owner)

-- if a machine held each zone that its call needs, no refusal names another owner
abbrev pub IsNeverDisowned : ModelState → Machine → Call → Answer → List Event → Type 0
IsNeverDisowned s m c a before = ((z : Zone) → IsTrue (needs m c z) → Holds s before m z) → NamesNoOwner a
