-- What the documents of a plant's two words have: a press with a door and a gate, each with a pose that opens it, and a
-- loader at both. The door is on the first word, with the places, and the gate on the second one.
use Rattle.std.specs.Prelude.{◌≡◌, ℕ, false, List, [], ◌∷◌, codes, Some, None}
use Rattle.plan_text.specs.Names.{Text}
use Rattle.plan_words.specs.Group.{Group}
use Rattle.plan_document.specs.declared.fault.RowOf.TheVariants.{Zone}
use Rattle.plan_document.specs.OnWord.{texts_on}
use Rattle.plan_document.specs.Texts.{DocumentTexts, HazardTexts, MachineTexts, MotorTexts, PoseTexts, PostureTexts}
use Rattle.plan_document.specs.Texts.{ZoneTexts}

abbrev pub of_zone : Text → Text → PostureTexts
of_zone zone posture = record { zone = zone; posture = posture }

abbrev pub pose : Text → Text → PoseTexts
pose name zone = record { name = name; gives = of_zone zone (codes "openin") ∷ []; after_moving = false }

-- a zone of the press and the loader, with a plate's way if it is the door
abbrev pub zone_row : ℕ → Text → ZoneTexts
zone_row at name = record {
  at = Zone at;
  space = None;
  joins = false;
  name = name;
  host = codes "press";
  guest = codes "loader";
  inward = Some (record { from = codes "hand"; to = codes "die" });
  outward = None;
}

-- the loader's program has lines of either zone, and lines of none; no zone is named `attic`
abbrev pub loader : List Text → List Text → MachineTexts
loader places program = record {
  name = codes "loader";
  places = places;
  sources = places;
  sinks = [];
  poses = [];
  sensors = codes "ready" ∷ [];
  program = program;
}

abbrev pub press : List Text → List PoseTexts → List Text → MachineTexts
press places poses program = record {
  name = codes "press";
  places = places;
  sources = [];
  sinks = [];
  poses = poses;
  sensors = [];
  program = program;
}

abbrev pub arm : List PostureTexts → List Text → MotorTexts
arm holds full = record {
  name = codes "arm";
  machine = codes "loader";
  holds = holds;
  stands = [];
  full = full;
  empty = [];
}

abbrev pub crushed : HazardTexts
crushed = record { name = codes "arm crushed"; first = codes "arm"; second = codes "ram" }

abbrev pub plant : DocumentTexts
plant = record {
  machines =
      loader (codes "hand" ∷ [])
      (codes "claim door" ∷ codes "await ready" ∷ codes "give door" ∷ codes "claim gate" ∷ codes "await gate"
      ∷ codes "run arm until ready" ∷ codes "release gate" ∷ codes "advance hand" ∷ codes "claim attic" ∷ [])
      ∷ press (codes "die" ∷ []) (pose (codes "load") (codes "door") ∷ pose (codes "lift") (codes "gate") ∷ [])
      (codes "pose lift" ∷ codes "pose load" ∷ codes "take door or stop on held" ∷ []) ∷ [];
  zones = zone_row 0 (codes "door") ∷ zone_row 1 (codes "gate") ∷ [];
  motors =
      arm (of_zone (codes "door") (codes "any") ∷ of_zone (codes "gate") (codes "moving") ∷ []) (codes "hand" ∷ []) ∷ [];
  hazards = crushed ∷ [];
}

-- the words: the door with its pose and the places, and the gate with its pose
abbrev pub with_door : Group
with_door = record { zones = 0 ∷ []; poses = 0 ∷ []; places = 0 ∷ 1 ∷ [] }

abbrev pub with_gate : Group
with_gate = record { zones = 1 ∷ []; poses = 1 ∷ []; places = [] }

pub record WordsHaveTheirRows : Type 0 where
  pub door : texts_on plant with_door ≡ record {
    machines =
        loader (codes "hand" ∷ [])
        (codes "claim door" ∷ codes "await ready" ∷ codes "give door" ∷ codes "run arm until ready"
        ∷ codes "advance hand" ∷ codes "claim attic" ∷ [])
        ∷ press (codes "die" ∷ []) (pose (codes "load") (codes "door") ∷ [])
        (codes "pose load" ∷ codes "take door or stop on held" ∷ []) ∷ [];
    zones = zone_row 0 (codes "door") ∷ [];
    motors = arm (of_zone (codes "door") (codes "any") ∷ []) (codes "hand" ∷ []) ∷ [];
    hazards = crushed ∷ [];
  }
  pub gate : texts_on plant with_gate ≡ record {
    machines =
        loader []
        (codes "await ready" ∷ codes "claim gate" ∷ codes "await gate" ∷ codes "run arm until ready"
        ∷ codes "release gate" ∷ codes "claim attic" ∷ [])
        ∷ press [] (pose (codes "lift") (codes "gate") ∷ []) (codes "pose lift" ∷ []) ∷ [];
    zones = zone_row 1 (codes "gate") ∷ [];
    motors = arm (of_zone (codes "gate") (codes "moving") ∷ []) [] ∷ [];
    hazards = crushed ∷ [];
  }
