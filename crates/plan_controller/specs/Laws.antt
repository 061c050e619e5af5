-- Laws of every place of a program, of every sensor, and of whatever answers and steps name.
use Rattle.std.specs.Prelude.{◌≡◌, ◌≢◌, ℕ, ◌+◌, ◌*◌, ◌^◌, ◌<◌, ◌≤◌, Bool, true, false, List, [], ◌∷◌, length, map}
use Rattle.std.specs.Prelude.{Option, Some, None}
use Rattle.plan_types.specs.declared.posture.Posture.{Posture}
use Rattle.plan_types.specs.declared.call.Call.{Call}
use Rattle.plan_types.specs.declared.answer.Answer.TheVariants.{Done, Shown, Refused}
use Rattle.plan_types.specs.declared.answer.Refusal.{Refusal}
use Rattle.plan_types.specs.declared.answer.Refusal.TheVariants as refusal
use Rattle.plan_drives.specs.declared.line.Line.TheVariants as line
use Rattle.plan_controller.specs.declared.faults.Faults.{Faults}
use Rattle.plan_controller.specs.declared.faults.Mendable.{Mendable}
use Rattle.plan_controller.specs.declared.faults.Mendable.TheVariants.{Held, Shut, NotOwner, PlateInZone, NoPlate}
use Rattle.plan_controller.specs.declared.faults.Mendable.TheVariants.{PlaceFull, WrongWay, Stopped}
use Rattle.plan_controller.specs.declared.step.Step.TheVariants.{Do, Await, Run}
use Rattle.plan_controller.specs.declared.outcome.Outcome.TheVariants.{Stays, GoesOn, Stops}
use Rattle.plan_controller.specs.Examples.{refusal_leads, Answered, Silent}
use Rattle.plan_controller.specs.Faults.{all_mendable, has, mendable, with_one}
use Rattle.plan_controller.specs.Steps.{after_call, after_inquiry, line_of, shows}
use Rattle.plan_controller.specs.Turns.{Control, next_place, step_in}

-- the place after a place is the next one, and after the last the first
pub record PlacesGoRound (c : Control) : Type 0 where
  pub next_step : c.place + 1 < length c.steps → next_place c ≡ c.place + 1
  pub last_step : c.place + 1 ≡ length c.steps → next_place c ≡ 0

-- Sensor i of 32 has bit i, whatever the others show: those below it make `low`, and those past it `high`.
pub record SensorsHaveBits (i low high : ℕ) : Type 0 where
  pub shown : i < 32 → low < 2 ^ i → shows ((high * 2 + 1) * 2 ^ i + low) i ≡ true
  pub not_shown : low < 2 ^ i → shows (high * 2 * 2 ^ i + low) i ≡ false
  pub past_last : (sensors : ℕ) → 32 ≤ i → shows sensors i ≡ false

-- an inquiry leads its machine on if that owns the zone, whichever it is; and else it stays
pub record OwnersGoOn (m : ℕ) (plate : Bool) (q : Posture) : Type 0 where
  pub mine : after_inquiry m (Some (Shown (Some m) plate q)) ≡ GoesOn
  pub others : (other : ℕ) → other ≢ m → after_inquiry m (Some (Shown (Some other) plate q)) ≡ Stays
  pub nobodys : after_inquiry m (Some (Shown None plate q)) ≡ Stays
  pub of_call : (owner : Option ℕ) (faults : Faults) → after_call (Some (Shown owner plate q)) faults ≡ Stays

-- a refusal that names something is one to wait for, whatever it names
pub record NamesAreWaitedFor : Type 0 where
  pub held : (m : ℕ) → refusal_leads (refusal.Held m) Stays
  pub shut : (q : Posture) → refusal_leads (refusal.Shut q) Stays
  pub not_owner : (owner : Option ℕ) → refusal_leads (refusal.NotOwner owner) Stays
  pub plate_in_zone : (z : ℕ) → refusal_leads (refusal.PlateInZone z) Stays
  -- and one fault of a line
  pub by_machine : (m : ℕ) → mendable (refusal.Held m) ≡ Some Held
  pub by_posture : (q : Posture) → mendable (refusal.Shut q) ≡ Some Shut
  pub by_owner : (owner : Option ℕ) → mendable (refusal.NotOwner owner) ≡ Some NotOwner
  pub by_zone : (z : ℕ) → mendable (refusal.PlateInZone z) ≡ Some PlateInZone

-- of the refusals that others' calls may mend, those stop a machine at a line that are faults there, whatever they
-- name; and the others always
pub record FaultsStop (r : Refusal) (faults : Faults) : Type 0 where
  pub fault : (kind : Mendable) → mendable r ≡ Some kind → has faults kind ≡ true
      → after_call (Some (Refused r)) faults ≡ Stops r
  pub no_fault : (kind : Mendable) → mendable r ≡ Some kind → has faults kind ≡ false
      → after_call (Some (Refused r)) faults ≡ Stays
  pub never : mendable r ≡ None → after_call (Some (Refused r)) faults ≡ Stops r
  pub done : after_call (Some Done) faults ≡ GoesOn
  pub not_made : after_call None faults ≡ Stays

-- so a turn ends at a call
pub record CallsEnd (c : Control) (call : Call) (faults : Faults) (r : Refusal) (kind : Mendable) (motors : ℕ)
    (now : Control) : Type 0 where
  pub fault : has faults kind ≡ true → now ≡ record c { stopped = Some r }
  pub no_fault : has faults kind ≡ false → now ≡ c
  pub off : motors ≡ 0

abbrev pub FaultsStopTurns : Type 0
FaultsStopTurns =
    (c : Control) (call : Call) (faults : Faults) (r : Refusal) (kind : Mendable) (read motors : ℕ) (now : Control)
    → c.stopped ≡ None → step_in c ≡ Some (Do call faults) → mendable r ≡ Some kind
    → Answered c call (Some (Refused r)) (Some read) motors now → CallsEnd c call faults r kind motors now

-- which of all refusals that others' calls may mend are faults
abbrev pub each : Faults → List Bool
each f = map (has f) all_mendable

-- faults with one more have that one, and else the same
pub record FaultsGrow (f : Faults) : Type 0 where
  pub as_they_are : each f
      ≡ f.held ∷ f.shut ∷ f.not_owner ∷ f.plate_in_zone ∷ f.no_plate ∷ f.place_full ∷ f.wrong_way ∷ f.stopped ∷ []
  pub held : each (with_one f Held)
      ≡ true ∷ f.shut ∷ f.not_owner ∷ f.plate_in_zone ∷ f.no_plate ∷ f.place_full ∷ f.wrong_way ∷ f.stopped ∷ []
  pub shut : each (with_one f Shut)
      ≡ f.held ∷ true ∷ f.not_owner ∷ f.plate_in_zone ∷ f.no_plate ∷ f.place_full ∷ f.wrong_way ∷ f.stopped ∷ []
  pub not_owner : each (with_one f NotOwner)
      ≡ f.held ∷ f.shut ∷ true ∷ f.plate_in_zone ∷ f.no_plate ∷ f.place_full ∷ f.wrong_way ∷ f.stopped ∷ []
  pub plate_in_zone : each (with_one f PlateInZone)
      ≡ f.held ∷ f.shut ∷ f.not_owner ∷ true ∷ f.no_plate ∷ f.place_full ∷ f.wrong_way ∷ f.stopped ∷ []
  pub no_plate : each (with_one f NoPlate)
      ≡ f.held ∷ f.shut ∷ f.not_owner ∷ f.plate_in_zone ∷ true ∷ f.place_full ∷ f.wrong_way ∷ f.stopped ∷ []
  pub place_full : each (with_one f PlaceFull)
      ≡ f.held ∷ f.shut ∷ f.not_owner ∷ f.plate_in_zone ∷ f.no_plate ∷ true ∷ f.wrong_way ∷ f.stopped ∷ []
  pub wrong_way : each (with_one f WrongWay)
      ≡ f.held ∷ f.shut ∷ f.not_owner ∷ f.plate_in_zone ∷ f.no_plate ∷ f.place_full ∷ true ∷ f.stopped ∷ []
  pub stopped : each (with_one f Stopped)
      ≡ f.held ∷ f.shut ∷ f.not_owner ∷ f.plate_in_zone ∷ f.no_plate ∷ f.place_full ∷ f.wrong_way ∷ true ∷ []

-- a step's line has its call, its zone and its motors
pub record LinesAreOfSteps : Type 0 where
  pub call : (c : Call) (faults : Faults) → line_of (Do c faults) ≡ line.Do c
  pub zone : (z : ℕ) → line_of (Await z) ≡ line.Await z
  pub motors : (motors until : ℕ) → line_of (Run motors until) ≡ line.Run motors

-- at a run whose sensor doesn't show yet exactly its motors are on, and the machine stays; once it shows, all are off,
-- and the machine goes on
pub record RunsUntil (c : Control) (run until read motors : ℕ) (now : Control) : Type 0 where
  pub not_yet : shows read until ≡ false → (motors ≡ run) × (now.place ≡ c.place)
  pub ended : shows read until ≡ true → (motors ≡ 0) × (now.place ≡ next_place c)

abbrev pub RunsAreDriven : Type 0
RunsAreDriven =
    (c : Control) (run until read motors : ℕ) (now : Control) → c.stopped ≡ None → step_in c ≡ Some (Run run until)
    → Silent c (Some read) motors now → RunsUntil c run until read motors now
