-- A state with another stamp, and an interlock that goes on where another has ended.
use Rattle.std.specs.Prelude.{◌≡◌, ◌≢◌, ◌≤◌, ◌<◌, ℕ, Bool, true, ◌&&◌, not, if◌then◌else◌, List}
use Rattle.cell_rules.specs.Types.{Machine, Zone, Place, Call, Event, Refused, Worn, host_of, same_machine}
use Rattle.cell_rules.specs.Types.{same_posture, keeper_of}
use Rattle.cell_rules.specs.ModelState.{ModelState, model_state, zone_at, is_full, last_stamp}
use Rattle.cell_rules.specs.Sound.{IsSound, implies}
use Rattle.cell_rules.specs.Refusals.{owns, posture_at}
use Rattle.cell_rules.specs.Reply.{reply, next}
use Rattle.cell_rules.specs.History.{after, IsLegal}
use Rattle.cell_rules.specs.Seen.{Waits}

-- the same zones, places and stop, with another stamp
abbrev pub restamped : ModelState → ℕ → ModelState
restamped s stamp = model_state s.zones s.full stamp s.stopped

-- All that a stamp does is to wear. A state with another stamp is as sound. If the stamp isn't the last, a call that
-- was not worn has the same answer, and leaves the same state but for the stamp. No call is worn below the last stamp.
pub record StampsOnlyWear (s : ModelState) : Type 0 where
  pub sound : (stamp : ℕ) → stamp ≤ last_stamp → IsSound s → IsSound (restamped s stamp)
  pub answer : (stamp : ℕ) (m : Machine) (c : Call) → stamp < last_stamp → reply s m c ≢ Refused Worn
      → reply (restamped s stamp) m c ≡ reply s m c
  pub next : (stamp : ℕ) (m : Machine) (c : Call) → stamp < last_stamp → reply s m c ≢ Refused Worn
      → next (restamped s stamp) m c ≡ restamped (next s m c) (next (restamped s stamp) m c).stamp
  pub unworn : (m : Machine) (c : Call) → IsSound s → s.stamp < last_stamp → reply s m c ≢ Refused Worn

-- what a machine knows of two states is the same: the zones that it owns in the first, with owner, flag and posture;
-- the postures of the zones that it hosts; its own places
pub record IsSameFor (m : Machine) (s t : ModelState) : Type 0 where
  pub owned : (z : Zone) → owns s m z ≡ true → zone_at t z ≡ zone_at s z
  pub hosted : (z : Zone) → host_of z ≡ m → posture_at t z ≡ posture_at s z
  pub places : (p : Place) → keeper_of p ≡ m → is_full t p ≡ is_full s p

-- So it is while others make the events, and with another stamp: the state at the end of an interlock is the same for a
-- machine that has seen all its own events.
abbrev pub EndsAreSame : Type 0
EndsAreSame =
    (opening : ModelState) (m : Machine) (seen history : List Event) (stamp : ℕ) → IsSound opening
    → IsLegal opening history
    → Waits m seen history → IsSameFor m (after opening seen) (restamped (after opening history) stamp)

-- the test of one zone, and of one place
abbrev pub same_flag : Bool → Bool → Bool
same_flag a b = if a then b else not b

abbrev pub is_same_zone : Machine → ModelState → ModelState → Zone → Bool
is_same_zone m s t z =
    implies
    (owns s m z)
    (owns t m z && same_flag (zone_at t z).flag (zone_at s z).flag && same_posture (posture_at t z) (posture_at s z))
    && implies (same_machine (host_of z) m) (same_posture (posture_at t z) (posture_at s z))

abbrev pub is_same_place : Machine → ModelState → ModelState → Place → Bool
is_same_place m s t p = implies (same_machine (keeper_of p) m) (same_flag (is_full t p) (is_full s p))
