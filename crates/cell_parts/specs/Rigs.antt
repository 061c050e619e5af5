-- How the parts of the machines behave. Only the belts note events.
use Rattle.cell_sensors.specs.Names.{Scale, RobotScales}
use Rattle.cell_sensors.specs.declared.sense.FeedSense.{FeedSense}
use Rattle.cell_sensors.specs.declared.sense.TableSense.{TableSense}
use Rattle.cell_sensors.specs.declared.sense.RobotSense.{RobotSense}
use Rattle.cell_sensors.specs.declared.sense.PressSense.{PressSense}
use Rattle.cell_sensors.specs.declared.sense.DepositSense.{DepositSense}
use Rattle.cell_sensors.specs.declared.sense.CraneSense.{CraneSense}
use Rattle.cell_devices.specs.declared.act.FeedAct.{FeedAct}
use Rattle.cell_devices.specs.declared.act.TableAct.{TableAct}
use Rattle.cell_devices.specs.declared.act.RobotAct.{RobotAct}
use Rattle.cell_devices.specs.declared.act.PressAct.{PressAct}
use Rattle.cell_devices.specs.declared.act.DepositAct.{DepositAct}
use Rattle.cell_devices.specs.declared.act.CraneAct.{CraneAct}
use Rattle.cell_control.specs.Rigs.{Rig}
use Rattle.cell_parts.specs.declared.axis.Axis.{Axis}
use Rattle.cell_parts.specs.declared.belt.Belt.{Belt}
use Rattle.cell_parts.specs.declared.plant.TablePlant.{TablePlant}
use Rattle.cell_parts.specs.declared.plant.RobotPlant.{RobotPlant}
use Rattle.cell_parts.specs.declared.plant.CranePlant.{CranePlant}
use Rattle.cell_parts.specs.Plant.{set_feed, set_table, set_robot, set_press, set_deposit, set_crane, moved_belt}
use Rattle.cell_parts.specs.Plant.{moved_table, moved_robot, moved_press, moved_crane, noted_by_feed}
use Rattle.cell_parts.specs.Plant.{noted_by_deposit}
use Rattle.cell_parts.specs.Shows.{FeedShows, TableShows, RobotShows, PressShows, DepositShows, CraneShows}

abbrev pub feed_rig : Rig Belt FeedSense FeedAct
feed_rig = record { shows = FeedShows; notes = noted_by_feed; set = set_feed; moves = moved_belt }

abbrev pub table_rig : Scale → Rig TablePlant TableSense TableAct
table_rig scale = record { shows = TableShows scale; notes = λ t e. t; set = set_table; moves = moved_table }

abbrev pub robot_rig : RobotScales → Rig RobotPlant RobotSense RobotAct
robot_rig scales = record { shows = RobotShows scales; notes = λ r e. r; set = set_robot; moves = moved_robot }

abbrev pub press_rig : Rig Axis PressSense PressAct
press_rig = record { shows = PressShows; notes = λ a e. a; set = set_press; moves = moved_press }

abbrev pub deposit_rig : Rig Belt DepositSense DepositAct
deposit_rig = record { shows = DepositShows; notes = noted_by_deposit; set = set_deposit; moves = moved_belt }

abbrev pub crane_rig : Scale → Rig CranePlant CraneSense CraneAct
crane_rig scale = record { shows = CraneShows scale; notes = λ c e. c; set = set_crane; moves = moved_crane }
