-- All values of each of the types that are finite.
use Rattle.std.specs.Prelude.{List, [], ◌∷◌}
use Rattle.cell_types.specs.declared.machine.Machine.{Machine}
use Rattle.cell_types.specs.declared.machine.Machine.TheVariants.{Feed, Table as TableMachine, Robot, Press, Deposit}
use Rattle.cell_types.specs.declared.machine.Machine.TheVariants.{Crane as CraneMachine, Watch}
use Rattle.cell_types.specs.declared.zone.Zone.{Zone}
use Rattle.cell_types.specs.declared.zone.Zone.TheVariants.{Z1, Z2, Z3, Z4, Z5, Z6}
use Rattle.cell_types.specs.declared.place.Place.{Place}
use Rattle.cell_types.specs.declared.place.Place.TheVariants.{FeedEntry, FeedEnd, Table, Arm1, PressIn, PressOut, Arm2}
use Rattle.cell_types.specs.declared.place.Place.TheVariants.{DepEntry, DepEnd, Crane}
use Rattle.cell_types.specs.declared.posture.Posture.{Posture}
use Rattle.cell_types.specs.declared.posture.Posture.TheVariants.{Closed, Moving, OpenIn, OpenOut}
use Rattle.cell_types.specs.declared.pose.Pose.{Pose}
use Rattle.cell_types.specs.declared.pose.Pose.TheVariants.{Turning, Loading, Unloading, Travelling, Middle, Low, Top}
use Rattle.cell_types.specs.declared.pose.Pose.TheVariants.{Running, Landing, Halted, Offering, Standing}

abbrev pub all_machines : List Machine
all_machines = Feed ∷ TableMachine ∷ Robot ∷ Press ∷ Deposit ∷ CraneMachine ∷ Watch ∷ []

abbrev pub all_zones : List Zone
all_zones = Z1 ∷ Z2 ∷ Z3 ∷ Z4 ∷ Z5 ∷ Z6 ∷ []

abbrev pub all_places : List Place
all_places = FeedEntry ∷ FeedEnd ∷ Table ∷ Arm1 ∷ PressIn ∷ PressOut ∷ Arm2 ∷ DepEntry ∷ DepEnd ∷ Crane ∷ []

abbrev pub all_postures : List Posture
all_postures = Closed ∷ Moving ∷ OpenIn ∷ OpenOut ∷ []

abbrev pub all_poses : List Pose
all_poses =
    Turning ∷ Loading ∷ Unloading ∷ Travelling ∷ Middle ∷ Low ∷ Top ∷ Running ∷ Landing ∷ Halted ∷ Offering
    ∷ Standing ∷ []
