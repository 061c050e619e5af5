-- The module of a plan, line by line and whole: of a lift between two floors, and of two gates.
use Rattle.std.specs.Prelude.{◌≡◌, [], ◌∷◌, ◌++◌, codes}
use Rattle.plan_motors.specs.Examples.{cabin, fan, lower_gate}
use Rattle.plan_text.specs.Names.{Text}
use Rattle.plan_header.specs.HeaderExamples.{gates, lift, presses}
use Rattle.plan_header.specs.Modules as python
use Rattle.plan_header.specs.declared.python.TheConstants.{MODULE}

pub record ModuleLines : Type 0 where
  pub zones : python.names_listed (codes "zones") lift.zones
      ≡ codes "    zones=(\n" ++ codes "        \"lower\",\n" ++ codes "        \"upper\",\n" ++ codes "    ),\n"
  pub none : python.names_listed (codes "places") [] ≡ codes "    places=(\n    ),\n"
  pub third : python.name_item lift.machines 2 ≡ codes "        \"high\",\n"
  -- a pose has the name of its own machine
  pub pose : python.pose_item lift 4 ≡ codes "        (\"lift\", \"load_high\"),\n"
  pub right_pose : python.pose_item presses 2 ≡ codes "        (\"right\", \"right_moves\"),\n"
  pub motor : python.motor_item lift (codes "hoist" ∷ codes "gate" ∷ []) (cabin ∷ lower_gate ∷ []) 0
      ≡ codes "        (\"hoist\", 891, 297),\n"
  pub second : python.motor_item lift (codes "hoist" ∷ codes "gate" ∷ []) (cabin ∷ lower_gate ∷ []) 1
      ≡ codes "        (\"gate\", 3, 2),\n"

abbrev pub gates_bytes : Text
gates_bytes =
    codes "\n    3, 2, 2, 4, 1, 0, 0, 0," ++ codes "\n    0, 0, 0, 0, 2, 1, 0, 0,"
    ++ codes "\n    0, 0, 0, 0, 1, 0, 0, 0," ++ codes "\n    0, 0, 0, 0, 0, 0, 0, 0,"
    ++ codes "\n    2, 0, 0, 0, 0, 0, 0, 0," ++ codes "\n    0, 0, 0, 0, 1, 1, 0, 2,"

abbrev pub module_end : Text
module_end =
    codes "    plan=BYTES,\n)\n" ++ codes "\nif __name__ == \"__main__\":\n    raise SystemExit(PLANT.main())\n"

-- the module of the gates, whole
pub record WholeModules : Type 0 where
  pub whole : python.module_text gates [] []
      ≡ MODULE.now ++ gates_bytes ++ codes "\n))\n\nPLANT = Plant(\n"
      ++ codes "    machines=(\n        \"lake\",\n        \"lock\",\n        \"sea\",\n    ),\n"
      ++ codes "    zones=(\n        \"east\",\n        \"west\",\n    ),\n"
      ++ codes "    places=(\n        \"first\",\n        \"second\",\n        \"quay\",\n        \"pier\",\n    ),\n"
      ++ codes "    poses=(\n        (\"lock\", \"travel\"),\n        (\"sea\", \"tide\"),\n    ),\n"
      ++ codes "    motors=(\n    ),\n" ++ module_end
  pub with_motors : python.names_of_parts gates (codes "fan" ∷ []) (fan ∷ [])
      ≡ python.poses_listed gates ++ python.motors_listed gates (codes "fan" ∷ []) (fan ∷ [])
      ++ module_end
