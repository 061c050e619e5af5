-- Motors of the press and of the lift, and what is said of them, written out.
use Rattle.std.specs.Prelude.{◌≡◌, ℕ, ◌-◌, Bool, true, false, [], ◌∷◌, ◌++◌, replicate, Option, Some, None}
use Rattle.plan_types.specs.declared.posture.Posture.{Posture}
use Rattle.plan_types.specs.declared.posture.Posture.TheVariants.{Closed, Moving, OpenIn, OpenOut}
use Rattle.plan_types.specs.Table.{PlanTable, plan_table}
use Rattle.plan_types.specs.Examples.{press_table, lift_table, roads_table, rack_table, counted, wide_table, zone, pose}
use Rattle.plan_rules.specs.declared.state.ZoneState.{ZoneState}
use Rattle.plan_rules.specs.State.{free_zone}
use Rattle.plan_motors.specs.declared.motor.ZoneNeed.{ZoneNeed}
use Rattle.plan_motors.specs.declared.motor.Motor.{Motor}
use Rattle.plan_motors.specs.declared.motor.Hazard.{Hazard}
use Rattle.plan_motors.specs.declared.exclusion.Cause.TheVariants.{Zone, Place}
use Rattle.plan_motors.specs.declared.fault.MotorFault.TheVariants.{NoSuchMachine, ForeignZone, NotHeld, ForeignPlace}
use Rattle.plan_motors.specs.declared.fault.MotorFault.TheVariants.{NeverPermitted, NoSuchFirst, NoSuchSecond}
use Rattle.plan_motors.specs.declared.fault.MotorFault.TheVariants.{TooManyMotors}
use Rattle.plan_motors.specs.Motor.{no_need}
use Rattle.plan_motors.specs.Exclusion.{cause, zone_for, state_for}
use Rattle.plan_motors.specs.Faults.{first_fault}
use Rattle.plan_motors.specs.Mask.{mask_of, pattern_of, IsMaskOf, allows}

abbrev pub owned : Option ℕ → Posture → ZoneState
owned owner posture = record { owner = owner; flag = false; posture = posture }

abbrev pub held : Option Posture → ZoneNeed
held posture = record { holds = true; posture = posture }

abbrev pub hosted : Posture → ZoneNeed
hosted posture = record { holds = false; posture = Some posture }

-- a motor by what it needs of the first two zones and of the first two places
abbrev pub motor : ℕ → ZoneNeed → ZoneNeed → Option Bool → Option Bool → Motor
motor machine y z p q = record {
  machine = machine;
  zones = y ∷ z ∷ replicate 8 no_need;
  places = p ∷ q ∷ replicate 14 None;
}

-- a motor that needs something of one zone, or of one place
abbrev pub at_zone : ℕ → ℕ → ZoneNeed → Motor
at_zone machine z need = record {
  machine = machine;
  zones = replicate z no_need ++ need ∷ replicate (9 - z) no_need;
  places = replicate 16 None;
}

abbrev pub at_place : ℕ → ℕ → Bool → Motor
at_place machine p full = record {
  machine = machine;
  zones = replicate 10 no_need;
  places = replicate p None ++ Some full ∷ replicate (15 - p) None;
}

-- a motor that needs something else of each of eight zones and three places; and of those past them, which no plan of
-- eight zones has
abbrev pub choosy : ℕ → Motor
choosy machine = record {
  machine = machine;
  zones =
      no_need ∷ held None ∷ hosted Closed ∷ hosted Moving ∷ held (Some OpenIn) ∷ held (Some OpenOut) ∷ hosted OpenIn
      ∷ held (Some Moving) ∷ held None ∷ hosted OpenOut ∷ [];
  places = None ∷ Some true ∷ Some false ∷ replicate 13 (Some true);
}

-- machine 1 hosts the first zone, and is the guest at the second
abbrev pub chain_table : PlanTable
chain_table =
    plan_table 3 (zone 1 0 None None ∷ zone 2 1 None None ∷ [])
    (pose 1 false (Some Moving) None ∷ pose 1 false (Some OpenIn) None ∷ pose 2 false None (Some OpenOut)
    ∷ pose 2 false None (Some OpenIn) ∷ []) (0 ∷ 1 ∷ 2 ∷ [])

abbrev pub hazard : ℕ → ℕ → Hazard
hazard a b = record { first = a; second = b }

-- the press's ram; the loader's arm in the press, driven or not, and on its way there with a plate; a valve that needs
-- the empty die; a heater that runs while the press is closed, held or not
abbrev pub ram : Motor
ram = motor 1 (held (Some Moving)) no_need None None

abbrev pub arm : Motor
arm = motor 0 (held None) no_need None None

abbrev pub loading_arm : Motor
loading_arm = motor 0 (held (Some OpenIn)) no_need (Some true) None

abbrev pub valve : Motor
valve = motor 1 no_need no_need None (Some false)

abbrev pub heater : Motor
heater = motor 1 (hosted Closed) no_need None (Some true)

-- a fan that the press runs while it moves, held or not
abbrev pub fan : Motor
fan = motor 1 (hosted Moving) no_need None None

-- the lift's cabin; the gates of its two floors
abbrev pub cabin : Motor
cabin = motor 0 (held (Some Moving)) (held (Some Moving)) None None

abbrev pub lower_gate : Motor
lower_gate = motor 1 (held None) no_need None None

abbrev pub upper_gate : Motor
upper_gate = motor 2 no_need (held None) None None

-- which zone, or place, keeps two motors apart in every sound state, if one does
pub record CausesAreRight : Type 0 where
  pub ram_and_arm : cause press_table ram arm ≡ Some (Zone 0)
  pub arm_and_ram : cause press_table arm ram ≡ Some (Zone 0)
  pub arm_and_heater : cause press_table arm heater ≡ Some (Zone 0)
  pub valve_and_heater : cause press_table valve heater ≡ Some (Place 1)
  pub ram_and_valve : cause press_table ram valve ≡ None
  pub arm_alone : cause press_table arm arm ≡ None
  pub fan_and_arm : cause press_table fan arm ≡ Some (Zone 0)
  -- the state that permits the fan is sound: who hosts a zone that moves owns it
  pub fan_alone : cause press_table fan fan ≡ None
  pub fan_owner : (zone_for press_table fan fan 0).owner ≡ Some 1
  pub cabin_and_lower_gate : cause lift_table cabin lower_gate ≡ Some (Zone 0)
  pub cabin_and_upper_gate : cause lift_table cabin upper_gate ≡ Some (Zone 1)
  -- only the lift's poses keep its gates apart
  pub gates : cause lift_table lower_gate upper_gate ≡ None
  pub heater_and_valve : cause press_table heater valve ≡ Some (Place 1)
  -- postures of a hosted zone, held by nobody: two of them, and the same one twice
  pub heater_and_fan : cause press_table heater fan ≡ Some (Zone 0)
  pub fan_and_ram : cause press_table fan ram ≡ None
  pub second_zone : cause lift_table cabin (at_zone 0 1 (hosted Closed)) ≡ Some (Zone 1)
  -- the last zone, and the last place
  pub eighth_zone : cause (counted 8 3) (at_zone 0 7 (held None)) (at_zone 1 7 (held None)) ≡ Some (Zone 7)
  pub sixteenth_place : cause (counted 0 16) (at_place 0 15 true) (at_place 0 15 false) ≡ Some (Place 15)
  -- no zone, and no place, of the plan
  pub ninth_zone : cause (counted 8 3) (at_zone 0 8 (held None)) (at_zone 1 8 (held None)) ≡ None
  pub fourth_place : cause (counted 8 3) (at_place 0 3 true) (at_place 0 3 false) ≡ None

-- the states that permit both, where no zone and no place keeps two motors apart
pub record StatesForBoth : Type 0 where
  pub gates : state_for lift_table lower_gate upper_gate ≡ record {
    zones = owned (Some 1) OpenIn ∷ owned (Some 2) OpenIn ∷ replicate 8 free_zone;
    full = replicate 16 false;
    stamp = 0;
    stopped = false;
  }
  pub fan_and_valve : (state_for press_table fan valve).zones ≡ owned (Some 1) Moving ∷ replicate 9 free_zone
  pub heater_alone : (state_for press_table heater heater).zones ≡ owned None Closed ∷ replicate 9 free_zone
  pub places : (state_for press_table loading_arm (at_place 1 1 true)).full ≡ true ∷ true ∷ replicate 14 false
  pub empty_place : (state_for press_table valve loading_arm).full ≡ true ∷ false ∷ replicate 14 false

-- the bits of the press's word: its zone's owner in 0 and 1, the posture in 3 and 4, the hand in 5, the die in 6
pub record MasksAreRight : Type 0 where
  pub ram_mask : mask_of press_table ram ≡ 0x1B
  pub ram_pattern : pattern_of press_table ram ≡ 0x09
  pub arm_mask : mask_of press_table arm ≡ 0x03
  pub arm_pattern : pattern_of press_table arm ≡ 0x02
  pub loading_mask : mask_of press_table loading_arm ≡ 0x3B
  pub loading_pattern : pattern_of press_table loading_arm ≡ 0x32
  pub heater_mask : mask_of press_table heater ≡ 0x58
  pub heater_pattern : pattern_of press_table heater ≡ 0x40
  pub upper_mask : mask_of lift_table upper_gate ≡ 0x60
  pub upper_pattern : pattern_of lift_table upper_gate ≡ 0x40
  -- five bits of each of eight zones, from bit 0, and three places, from bit 40; by the host, the guest and a stranger
  pub choosy_mask : mask_of (wide_table 8 3) (choosy 1) ≡ 0x6DE37BC6060
  pub host_pattern : pattern_of (wide_table 8 3) (choosy 1) ≡ 0x24C33140020
  pub guest_pattern : pattern_of (wide_table 8 3) (choosy 0) ≡ 0x25435240040
  pub stranger_pattern : pattern_of (wide_table 8 3) (choosy 2) ≡ 0x25C37340060
  pub eighth_mask : mask_of (wide_table 8 2) (at_zone 1 7 (held None)) ≡ 0x1800000000
  pub sixteenth_mask : mask_of (counted 0 16) (at_place 0 15 false) ≡ 0x8000
  -- a host of one zone that is the guest at the next
  pub chain_pattern : pattern_of chain_table (motor 1 (held (Some Moving)) (held (Some OpenOut)) None None) ≡ 0xE5
  -- zones of three and of four bits: a rack that opens, roads that move, and gates
  pub rack_mask : mask_of rack_table (motor 0 (held (Some OpenIn)) (held None) None None) ≡ 0x1F
  pub rack_pattern : pattern_of rack_table (motor 0 (held (Some OpenIn)) (held None) None None) ≡ 0x15
  pub shut_rack : pattern_of rack_table (motor 0 (hosted Closed) no_need None None) ≡ 0
  pub shut_rack_mask : mask_of rack_table (motor 0 (hosted Closed) no_need None None) ≡ 0x4
  pub roads_mask : mask_of roads_table (motor 0 (held (Some Moving)) (hosted OpenIn) None None) ≡ 0xCF
  pub roads_pattern : pattern_of roads_table (motor 0 (held (Some Moving)) (hosted OpenIn) None None) ≡ 0x85
  -- a posture that the zone never has: its owner would have the spare code
  pub never_mask : mask_of rack_table (motor 0 (hosted Moving) no_need None None) ≡ 0x7
  pub never_pattern : pattern_of rack_table (motor 0 (hosted Moving) no_need None None) ≡ 0x7
  pub is_mask : IsMaskOf press_table ram (record { mask = 0x1B; pattern = 0x09 })
  pub other_mask : ¬ IsMaskOf press_table ram (record { mask = 0x03; pattern = 0x09 })
  pub other_pattern : ¬ IsMaskOf press_table ram (record { mask = 0x1B; pattern = 0x01 })
  -- a word has the bits of the mask as the pattern says, and any others
  pub allowed : allows (record { mask = 0x1B; pattern = 0x09 }) 0xFFED ≡ true
  pub not_allowed : allows (record { mask = 0x1B; pattern = 0x09 }) 0xFFEF ≡ false
  pub not_moving : allows (record { mask = 0x1B; pattern = 0x09 }) 0x01 ≡ false

-- motors and hazards that don't fit the press, and the first fault of each
pub record FirstFaults : Type 0 where
  pub none : first_fault press_table (ram ∷ arm ∷ []) (hazard 0 1 ∷ []) ≡ None
  pub machine : first_fault press_table (ram ∷ motor 2 no_need no_need None None ∷ []) [] ≡ Some (NoSuchMachine 1)
  pub zone : first_fault press_table (motor 1 no_need (held None) None None ∷ []) [] ≡ Some (ForeignZone 0 1)
  pub loose : first_fault press_table (motor 0 (hosted OpenIn) no_need None None ∷ []) [] ≡ Some (NotHeld 0 0)
  pub place : first_fault press_table (motor 1 no_need no_need (Some true) None ∷ []) [] ≡ Some (ForeignPlace 0 0)
  pub never : first_fault press_table (motor 0 (held (Some Moving)) no_need None None ∷ []) [] ≡ Some (NeverPermitted 0)
  pub first : first_fault press_table (ram ∷ []) (hazard 1 0 ∷ []) ≡ Some (NoSuchFirst 0)
  pub second : first_fault press_table (ram ∷ []) (hazard 0 0 ∷ hazard 0 1 ∷ []) ≡ Some (NoSuchSecond 1)
  -- later motors, zones and places, to the last ones that a motor names
  pub third_motor : first_fault press_table (ram ∷ arm ∷ motor 7 no_need no_need None None ∷ []) []
      ≡ Some (NoSuchMachine 2)
  pub eighth_zone : first_fault press_table (at_zone 1 7 (held None) ∷ []) [] ≡ Some (ForeignZone 0 7)
  pub tenth_zone : first_fault press_table (ram ∷ at_zone 1 9 (held None) ∷ []) [] ≡ Some (ForeignZone 1 9)
  pub tenth_posture : first_fault press_table (ram ∷ arm ∷ at_zone 1 9 (hosted Moving) ∷ []) [] ≡ Some (ForeignZone 2 9)
  pub second_loose : first_fault lift_table (cabin ∷ motor 2 no_need (hosted OpenIn) None None ∷ []) []
      ≡ Some (NotHeld 1 1)
  pub second_place : first_fault press_table (ram ∷ motor 0 no_need no_need None (Some false) ∷ []) []
      ≡ Some (ForeignPlace 1 1)
  pub sixteenth_place : first_fault press_table (ram ∷ arm ∷ at_place 1 15 true ∷ []) [] ≡ Some (ForeignPlace 2 15)
  pub second_never : first_fault press_table (ram ∷ motor 0 (held (Some Closed)) no_need None None ∷ []) []
      ≡ Some (NeverPermitted 1)
  pub later_first : first_fault press_table (ram ∷ []) (hazard 0 0 ∷ hazard 0 0 ∷ hazard 7 0 ∷ [])
      ≡ Some (NoSuchFirst 2)
  pub first_second : first_fault press_table (ram ∷ arm ∷ []) (hazard 1 2 ∷ []) ≡ Some (NoSuchSecond 0)
  pub most_motors : first_fault press_table (replicate 64 ram) (hazard 0 63 ∷ []) ≡ None
  pub too_many : first_fault press_table (replicate 65 ram) [] ≡ Some TooManyMotors

-- the order of faults: each motor has more than one, and lacks that of the row before it
pub record FaultsInOrder : Type 0 where
  pub many : first_fault press_table (replicate 65 (choosy 7)) (hazard 65 65 ∷ []) ≡ Some TooManyMotors
  pub machine : first_fault press_table (choosy 7 ∷ []) (hazard 1 1 ∷ []) ≡ Some (NoSuchMachine 0)
  pub zone : first_fault press_table (choosy 0 ∷ []) (hazard 1 1 ∷ []) ≡ Some (ForeignZone 0 1)
  -- the same zone twice, then an earlier zone before a later one
  pub same_zone : first_fault press_table (at_zone 1 1 (hosted Moving) ∷ []) [] ≡ Some (ForeignZone 0 1)
  pub loose : first_fault press_table (motor 0 (hosted Moving) (held None) (Some true) (Some true) ∷ []) []
      ≡ Some (NotHeld 0 0)
  pub place : first_fault press_table (motor 0 (held (Some Moving)) no_need None (Some true) ∷ []) (hazard 1 1 ∷ [])
      ≡ Some (ForeignPlace 0 1)
  pub never : first_fault press_table (motor 0 (held (Some Moving)) no_need None None ∷ choosy 7 ∷ []) (hazard 2 2 ∷ [])
      ≡ Some (NeverPermitted 0)
  pub first : first_fault press_table (ram ∷ []) (hazard 1 1 ∷ []) ≡ Some (NoSuchFirst 0)
  pub second : first_fault press_table (ram ∷ []) (hazard 0 1 ∷ hazard 1 0 ∷ []) ≡ Some (NoSuchSecond 0)
