-- Places that are cut: of such a place there are exits, at which its ways start, and there may be more entries than the
-- place itself, at which its ways end; each of these may be on a word of its own. Its keeper fills an exit to lend the
-- plate there, and empties an entry to let one in.
use Rattle.std.specs.Prelude.{◌≡◌, ◌⊎◌, ℕ, ◌+◌, ◌-◌, ◌<◌, ◌≤◌, Bool, true, false, ◌||◌, nat_eq, nat_lt, nat_le, Some}
use Rattle.std.specs.Prelude.{List, ◌++◌, length, map, get_or, option_map, if◌then◌else◌, ⊤}
use Rattle.std.specs.List.{list_any}
use Rattle.plan_types.specs.declared.posture.Posture.{Posture}
use Rattle.plan_types.specs.declared.table.Way.{Way}
use Rattle.plan_types.specs.declared.table.PlanZone.{PlanZone}
use Rattle.plan_types.specs.declared.table.Transfer.{Transfer}
use Rattle.plan_types.specs.declared.call.Call.{Call}
use Rattle.plan_types.specs.declared.call.Call.TheVariants.{Advance}
use Rattle.plan_types.specs.declared.answer.Answer.{Answer}
use Rattle.plan_types.specs.declared.answer.Answer.TheVariants.{Refused}
use Rattle.plan_types.specs.declared.answer.Refusal.TheVariants.{NoPlate, PlaceFull}
use Rattle.plan_types.specs.Table.{PlanTable, zone_count, place_count, place_row, keeper_of, is_source, is_sink}
use Rattle.plan_types.specs.Table.{transfer_of}
use Rattle.plan_rules.specs.declared.state.State.{State}
use Rattle.plan_rules.specs.State.{is_full}
use Rattle.plan_words.specs.Group.{past}

-- a plan, and the plan with places cut: places keep their numbers; after them come the exits, and then the entries. Of
-- each the place that it belongs to
pub record Cut : Type 0 where
  pub plan : PlanTable
  pub cut : PlanTable
  pub exits : List ℕ
  pub entries : List ℕ

abbrev pub is_cut : Cut → ℕ → Bool
is_cut c p = list_any (nat_eq p) (c.exits ++ c.entries)

-- the plan's place that a place of the cut plan is, or belongs to
abbrev pub place_of : Cut → ℕ → ℕ
place_of c q =
    if nat_lt q (place_count c.plan) then q else get_or (c.exits ++ c.entries) (q - place_count c.plan) past

abbrev pub exits_end : Cut → ℕ
exits_end c = place_count c.plan + length c.exits

abbrev pub IsExit : Cut → ℕ → ℕ → Type 0
IsExit c q p = (place_count c.plan ≤ q) × (q < exits_end c) × (place_of c q ≡ p)

-- a place itself is an entry of it
abbrev pub IsEntry : Cut → ℕ → ℕ → Type 0
IsEntry c q p =
    ((q < place_count c.plan) ⊎ (exits_end c ≤ q)) × (q < exits_end c + length c.entries) × (place_of c q ≡ p)

-- a way from an exit to an entry is one between their places
abbrev pub whole_way : Cut → Way → Way
whole_way c w = record { from = place_of c w.from; to = place_of c w.to }

abbrev pub whole_zone : Cut → PlanZone → PlanZone
whole_zone c row = record {
  host = row.host;
  guest = row.guest;
  joins = row.joins;
  inward = option_map (whole_way c) row.inward;
  outward = option_map (whole_way c) row.outward;
}

pub record IsCut (c : Cut) : Type 0 where
  pub machines : c.cut.machines ≡ c.plan.machines
  pub poses : c.cut.poses ≡ c.plan.poses
  pub zones : c.plan.zones ≡ map (whole_zone c) c.cut.zones
  pub places : place_count c.cut ≡ exits_end c + length c.entries
  pub owners : (q : ℕ) → q < place_count c.cut → place_of c q < place_count c.plan
  pub keeper : (q : ℕ) → q < place_count c.cut → keeper_of c.cut q ≡ keeper_of c.plan (place_of c q)
  pub uncut : (p : ℕ) → p < place_count c.plan → is_cut c p ≡ false → place_row c.cut p ≡ place_row c.plan p
  -- no plate comes from outside to a place that is cut, or goes there: its advances are its keeper's alone
  pub inside : (p : ℕ) → p < place_count c.plan → is_cut c p ≡ true
      → (is_source c.plan p ≡ false) × (is_sink c.plan p ≡ false)
  -- exits are sources; entries of a place that is cut are sinks, and sources too if there are several
  pub exit : (q p : ℕ) → IsExit c q p → is_source c.cut q ≡ true
  pub entry : (q p : ℕ) → IsEntry c q p → is_cut c p ≡ true → is_sink c.cut q ≡ true
  pub several : (q p : ℕ) → IsEntry c q p → list_any (nat_eq p) c.entries ≡ true → is_source c.cut q ≡ true
  -- ways start at exits, and at places that aren't cut; and end at entries
  pub starts : (z : ℕ) (q : Posture) (way : Transfer) → z < zone_count c.cut → transfer_of c.cut z q ≡ Some way
      → (way.from < exits_end c) × (way.from < place_count c.plan → is_cut c way.from ≡ false)
  pub ends : (z : ℕ) (q : Posture) (way : Transfer) → z < zone_count c.cut → transfer_of c.cut z q ≡ Some way
      → IsEntry c way.to (place_of c way.to)

-- ---- how full places are

-- exits and entries, in a state of the cut plan, say of a state of the plan: a place that isn't cut is as it is there;
-- all entries of a place with a plate are full, and one alone is ever empty; an exit is full only while its place has
-- the plate, and one alone
pub record StandsFor (c : Cut) (there whole : State) : Type 0 where
  pub zones : there.zones ≡ whole.zones
  pub there_long : length there.full ≡ exits_end c + length c.entries
  pub whole_long : length whole.full ≡ place_count c.plan
  pub uncut : (p : ℕ) → p < place_count c.plan → is_cut c p ≡ false → is_full there p ≡ is_full whole p
  pub full : (e p : ℕ) → IsEntry c e p → is_full whole p ≡ true → is_full there e ≡ true
  pub one_open : (e f p : ℕ) → is_cut c p ≡ true → IsEntry c e p → IsEntry c f p → is_full there e ≡ false
      → is_full there f ≡ false → e ≡ f
  pub lent : (q p : ℕ) → IsExit c q p → is_full there q ≡ true → is_full whole p ≡ true
  pub one_lent : (q r p : ℕ) → IsExit c q p → IsExit c r p → is_full there q ≡ true → is_full there r ≡ true → q ≡ r

-- ---- what a keeper does in turn

-- it lends the plate of a place to an exit, while the place has it, and no exit has
pub record MayLend (c : Cut) (there whole : State) (p : ℕ) : Type 0 where
  pub has : is_full whole p ≡ true
  pub lent_nowhere : (q : ℕ) → IsExit c q p → is_full there q ≡ false

-- it opens an entry once the plate has left, and while the others are shut
pub record MayOpen (c : Cut) (there whole : State) (q p : ℕ) : Type 0 where
  pub left : is_full whole p ≡ false
  pub others_shut : (e : ℕ) → IsEntry c e p → ¬ (e ≡ q) → is_full there e ≡ true

abbrev pub IsInTurn : Cut → State → State → Call → Type 0
IsInTurn c there whole (Advance q) =
    ((p : ℕ) → IsExit c q p → is_full there q ≡ false → MayLend c there whole p)
    × ((p : ℕ) → IsEntry c q p → is_cut c p ≡ true → is_full there q ≡ true → MayOpen c there whole q p)
IsInTurn c there whole _ = ⊤

-- ---- what the calls of the cut plan are in the plan

-- the plan knows nothing of these calls: an advance of an exit, an entry, or a place that is cut
abbrev pub is_inner : Cut → Call → Bool
is_inner c (Advance q) = nat_le (place_count c.plan) q || is_cut c q
is_inner c _ = false

-- a keeper has a plate, and hasn't lent it to an exit
pub record IsUnlent (c : Cut) (there whole : State) (m : ℕ) : Type 0 where
  pub exit : ℕ
  pub place : ℕ
  pub is : IsExit c exit place
  pub keeper : keeper_of c.plan place ≡ m
  pub has : is_full whole place ≡ true
  pub empty : is_full there exit ≡ false

-- a place has no plate, and its keeper hasn't opened an entry
pub record IsShut (c : Cut) (there whole : State) : Type 0 where
  pub entry : ℕ
  pub place : ℕ
  pub is : IsEntry c entry place
  pub cut : is_cut c place ≡ true
  pub left : is_full whole place ≡ false
  pub full : is_full there entry ≡ true

-- a call is answered as by the plan; or a keeper's give is refused before it has lent the plate, or a plate is refused
-- at an entry that is shut
abbrev pub IsAnsweredFor : Cut → State → State → ℕ → Answer → Answer → Type 0
IsAnsweredFor c there whole m answer of_plan =
    (answer ≡ of_plan)
    ⊎ ((answer ≡ Refused NoPlate) × IsUnlent c there whole m)
    ⊎ ((answer ≡ Refused PlaceFull) × IsShut c there whole)
