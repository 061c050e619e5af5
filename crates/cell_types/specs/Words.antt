-- The words of scripts and reports.
use Rattle.std.specs.Prelude.{ℕ, List, Option, codes}
use Rattle.std.specs.List.{find}
use Rattle.std.specs.Str.{bytes_eq}
use Rattle.cell_types.specs.declared.machine.Machine.{Machine}
use Rattle.cell_types.specs.declared.machine.Machine.TheVariants.{Feed, Table as TableMachine, Robot, Press, Deposit}
use Rattle.cell_types.specs.declared.machine.Machine.TheVariants.{Crane as CraneMachine, Watch}
use Rattle.cell_types.specs.declared.zone.Zone.{Zone}
use Rattle.cell_types.specs.declared.zone.Zone.TheVariants.{Z1, Z2, Z3, Z4, Z5, Z6}
use Rattle.cell_types.specs.declared.place.Place.{Place}
use Rattle.cell_types.specs.declared.place.Place.TheVariants.{FeedEntry, FeedEnd, Table, Arm1, PressIn, PressOut, Arm2}
use Rattle.cell_types.specs.declared.place.Place.TheVariants.{DepEntry, DepEnd, Crane}
use Rattle.cell_types.specs.declared.posture.Posture.{Posture}
use Rattle.cell_types.specs.declared.posture.Posture.TheVariants.{Closed, Moving, OpenIn, OpenOut}
use Rattle.cell_types.specs.declared.pose.Pose.{Pose}
use Rattle.cell_types.specs.declared.pose.Pose.TheVariants.{Turning, Loading, Unloading, Travelling, Middle, Low, Top}
use Rattle.cell_types.specs.declared.pose.Pose.TheVariants.{Running, Landing, Halted, Offering, Standing}

abbrev pub machine_word : Machine → List ℕ
machine_word Feed = codes "feed"
machine_word TableMachine = codes "table"
machine_word Robot = codes "robot"
machine_word Press = codes "press"
machine_word Deposit = codes "deposit"
machine_word CraneMachine = codes "crane"
machine_word Watch = codes "watch"

abbrev pub zone_word : Zone → List ℕ
zone_word Z1 = codes "z1"
zone_word Z2 = codes "z2"
zone_word Z3 = codes "z3"
zone_word Z4 = codes "z4"
zone_word Z5 = codes "z5"
zone_word Z6 = codes "z6"

abbrev pub place_word : Place → List ℕ
place_word FeedEntry = codes "p1"
place_word FeedEnd = codes "p2"
place_word Table = codes "p3"
place_word Arm1 = codes "p4"
place_word PressIn = codes "p5"
place_word PressOut = codes "p6"
place_word Arm2 = codes "p7"
place_word DepEntry = codes "p8"
place_word DepEnd = codes "p9"
place_word Crane = codes "p10"

abbrev pub posture_word : Posture → List ℕ
posture_word Closed = codes "closed"
posture_word Moving = codes "moving"
posture_word OpenIn = codes "openin"
posture_word OpenOut = codes "openout"

abbrev pub pose_word : Pose → List ℕ
pose_word Turning = codes "turning"
pose_word Loading = codes "loading"
pose_word Unloading = codes "unloading"
pose_word Travelling = codes "travelling"
pose_word Middle = codes "middle"
pose_word Low = codes "low"
pose_word Top = codes "top"
pose_word Running = codes "running"
pose_word Landing = codes "landing"
pose_word Halted = codes "halted"
pose_word Offering = codes "offering"
pose_word Standing = codes "standing"

-- the first of some values that has this word
abbrev pub named : {X : Type 0} → (X → List ℕ) → List X → List ℕ → Option X
named word_of all word = find (λ x. bytes_eq (word_of x) word) all
