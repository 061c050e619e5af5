-- Laws of the scripts of histories: they are answered as the histories say.
use Rattle.std.specs.Prelude.{◌≡◌, ◌⊎◌, ℕ, ◌<◌, ◌≤◌, false, List, ◌++◌, length, All, Some, Ok, IsTrue, ⊤}
use Rattle.std.specs.List.{list_all}
use Rattle.csv_rows.specs.ScriptEnd.{max_records}
use Rattle.csv_rows.specs.declared.script_end.Outcome.TheVariants.{Clean}
use Rattle.plan_types.specs.Table.{machine_of, place_count, watch}
use Rattle.plan_types.specs.declared.call.Call.{Call}
use Rattle.plan_types.specs.declared.call.Call.TheVariants.{Claim, Give, Yield, Take, Release, Inquire, SetPose, Stop}
use Rattle.plan_types.specs.declared.call.Call.TheVariants.{Resume, Advance}
use Rattle.plan_types.specs.declared.answer.Event.{Event}
use Rattle.plan_rules.specs.declared.state.State.{State}
use Rattle.plan_rules.specs.History.{IsLegal}
use Rattle.plan_rules.specs.Sound.{IsStart}
use Rattle.plan_rules.specs.State.{is_full}
use Rattle.plan_text.specs.Calls.{caller_of, own_pose}
use Rattle.plan_text.specs.Histories.{answer_lines, event_row, script_of}
use Rattle.plan_text.specs.Named.{Named}
use Rattle.plan_text.specs.Names.{is_name, name_in, number_in}
use Rattle.plan_text.specs.Requests.{request_of}
use Rattle.plan_text.specs.Script.{script_answers, script_start, start_line}

-- each machine, zone, pose and place has a name, and none has that of another: of poses none of the same machine, and
-- no machine has that of the watch
pub record AreToldApart (n : Named) : Type 0 where
  pub spelled_machines : IsTrue (list_all is_name n.machines)
  pub spelled_zones : IsTrue (list_all is_name n.zones)
  pub spelled_poses : IsTrue (list_all is_name n.poses)
  pub spelled_places : IsTrue (list_all is_name n.places)
  pub machines : (m : ℕ) → m < length n.machines → caller_of n (name_in n.machines m) ≡ Some m
  pub zones : (z : ℕ) → z < length n.zones → number_in n.zones (name_in n.zones z) ≡ Some z
  pub poses : (p : ℕ) → p < length n.poses → own_pose n (machine_of n.plan p) (name_in n.poses p) ≡ Some p
  pub places : (p : ℕ) → p < length n.places → number_in n.places (name_in n.places p) ≡ Some p

-- a machine or the watch
abbrev pub IsCaller : Named → ℕ → Type 0
IsCaller n machine = (machine ≡ watch) ⊎ (machine < length n.machines)

-- a call about a zone, a pose or a place that has a name; the pose is the machine's own
abbrev pub IsOwnCall : Named → ℕ → Call → Type 0
IsOwnCall n machine (Claim zone) = zone < length n.zones
IsOwnCall n machine (Give zone) = zone < length n.zones
IsOwnCall n machine (Yield zone) = zone < length n.zones
IsOwnCall n machine (Take zone) = zone < length n.zones
IsOwnCall n machine (Release zone) = zone < length n.zones
IsOwnCall n machine (Inquire zone) = zone < length n.zones
IsOwnCall n machine (SetPose pose) = (pose < length n.poses) × (machine_of n.plan pose ≡ machine)
IsOwnCall n machine Stop = ⊤
IsOwnCall n machine Resume = ⊤
IsOwnCall n machine (Advance place) = place < length n.places

abbrev pub IsOwnEvent : Named → Event → Type 0
IsOwnEvent n e = IsCaller n e.machine × IsOwnCall n e.machine e.call

-- a start by a plan: no place is full that the plan doesn't have
pub record IsStartOf (n : Named) (s : State) : Type 0 where
  pub start : IsStart s
  pub places : (place : ℕ) → place_count n.plan ≤ place → is_full s place ≡ false

-- a script has the start and is answered clean, with the line of each event
pub record IsAnswered (n : Named) (s : State) (history : List Event) : Type 0 where
  pub start : script_start n (script_of n s history) ≡ Ok s
  pub text : (script_answers n (script_of n s history)).text ≡ start_line s ++ answer_lines n 1 s history
  pub clean : (script_answers n (script_of n s history)).outcome ≡ Clean

-- the record of an event has the event's caller and call
abbrev pub EventsAreRead : Type 0
EventsAreRead =
    (n : Named) (e : Event) → AreToldApart n → IsOwnEvent n e
    → request_of n (event_row n e) ≡ Some (record { machine = e.machine; call = e.call })

-- so the script of each legal history from a start is answered, if it has no more events than a script may have records
abbrev pub HistoriesAreAnswered : Type 0
HistoriesAreAnswered =
    (n : Named) (s : State) (history : List Event) → AreToldApart n → IsStartOf n s → IsLegal n.plan s history
    → All (IsOwnEvent n) history → length history ≤ max_records → IsAnswered n s history

-- the start that a script has is a start by the plan
abbrev pub StartsAreOfPlans : Type 0
StartsAreOfPlans = (n : Named) (script : List ℕ) (s : State) → script_start n script ≡ Ok s → IsStartOf n s
