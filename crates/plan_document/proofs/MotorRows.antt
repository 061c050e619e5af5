-- What the rows of motors and hazards say, in examples, and of which TOML they are read.
use Rattle.std.proofs.Common.{◌≡◌, ◌≢◌, ◌∙◌, ◌&&◌, false, true, not, List, [], ◌∷◌, codes, None, refl, sym, ap, subst, arith, string_bytes}
use Rattle.std.specs.Prelude.{String}
use Rattle.std.specs.declared.alloc.Global.{Global}
use Rattle.std.specs.List.{AllZip, list_all}
use Rattle.toml.specs.Data.{Members, get_member, member, table}
use Rattle.plan_motors.specs.declared.motor.Hazard.{Hazard}
use Rattle.plan_motors.specs.declared.motor.Motor.{Motor}
use Rattle.plan_text.specs.Answers.{posture_of}
use Rattle.plan_text.specs.Names.{is_name}
use Rattle.plan_document.specs.declared.document.Document.{Document}
use Rattle.plan_document.specs.declared.document.HazardRow.{HazardRow}
use Rattle.plan_document.specs.declared.document.MotorRow.{MotorRow}
use Rattle.plan_document.specs.declared.document.PostureRow.{PostureRow}
use Rattle.plan_document.specs.declared.resolving.ProgrammedPlan.{ProgrammedPlan}
use Rattle.plan_document.specs.Keys.{has_only, hazard_keys, motor_keys}
use Rattle.plan_document.specs.MotorExamples.{HazardsAreIn, HazardsAreRead, MotorsAreIn, MotorsAreMet, MotorsAreRead, NeedsAreMade, PlacesAreNeeded, PlansHaveMotors, RowsAreOfMotors, ZonesAreNeeded, lettered}
use Rattle.plan_document.specs.Motors.{IsHazardOf, IsMotorOf, held_need, is_known, is_listed, is_under_one}
use Rattle.plan_document.specs.Names.{hazard_names, is_title, motor_names}
use Rattle.plan_document.specs.PlanExamples.{letters}
use Rattle.plan_document.specs.Postures.{given, gives_zone}
use Rattle.plan_document.specs.Reading.{ArePostures, IsHazardIn, IsMotorIn, items_at}
use Rattle.plan_document.specs.Saying.{IsPlanOf}
use Rattle.plan_document.proofs.PlanRows.{are_apart, fourth, impossible, lost, nobody, sixth, two, unless}
use Rattle.plan_document.proofs.ReadingRows.{no_text, same_members}

needs_made : NeedsAreMade
needs_made = record { any = refl; posture = refl; no_word = refl; held = refl; stands = refl; none = refl }

zones_needed : (row : MotorRow) (motor : Motor) (a b : PostureRow) (is : IsMotorOf lettered row motor) → ZonesAreNeeded row motor a b is
zones_needed row motor a b is = record {
  held = λ n x. is.zones.each 2 (omega arith) ∙ rw (n.holds, n.stands, x.zone, x.posture) refl;
  any = λ n x. is.zones.each 9 (omega arith) ∙ rw (n.holds, n.stands, x.zone, x.posture) refl;
  stands = λ n x. is.zones.each 2 (omega arith) ∙ rw (n.holds, n.stands, x.zone, x.posture) refl;
  other = λ n x. is.zones.each 1 (omega arith) ∙ rw (n.holds, n.stands, x.zone) refl;
  first = λ n x y. is.zones.each 2 (omega arith) ∙ rw (n.holds, n.stands, x.zone, x.posture) refl;
  second = λ n x y. is.zones.each 3 (omega arith) ∙ rw (n.holds, n.stands, x.zone, y.zone, y.posture) refl;
  twice = λ n x y.
      let both : true ≡ is_under_one (given held_need letters row.holds.items 2) (given posture_of letters row.stands.items 2) = sym (is.zones.apart 2 (omega arith)) in
      let h : true ≡ false = both ∙ rw (n.holds, n.stands, x.zone, x.posture, y.zone, y.posture) refl in
      impossible (sym h);
  any_stands = λ n x.
      let known : true ≡ list_all (gives_zone posture_of letters) row.stands.items = sym is.zones.stands_known in
      let h : true ≡ false = known ∙ rw (n.stands, x.zone, x.posture) refl in
      impossible (sym h);
  no_zone = λ n x.
      let known : true ≡ list_all (gives_zone held_need letters) row.holds.items = sym is.zones.holds_known in
      let h : true ≡ false = known ∙ rw (n.holds, x.zone) refl in
      impossible (sym h);
}

places_needed : (row : MotorRow) (motor : Motor) (a b : String Global) (is : IsMotorOf lettered row motor) → PlacesAreNeeded row motor a b is
places_needed row motor a b is = record {
  full = λ n x. is.places.each 1 (omega arith) ∙ rw (n.full, n.empty, x) refl;
  empty = λ n x. is.places.each 1 (omega arith) ∙ rw (n.full, n.empty, x) refl;
  other = λ n x. is.places.each 2 (omega arith) ∙ rw (n.full, n.empty, x) refl;
  two = λ n x y. (is.places.each 1 (omega arith) ∙ rw (n.full, n.empty, x) refl, is.places.each 9 (omega arith) ∙ rw (n.full, n.empty, x, y) refl);
  twice = λ n x y.
      let both : true ≡ not (is_listed letters row.full.items 1 && is_listed letters row.empty.items 1) = sym (is.places.apart 1 (omega arith)) in
      let h : true ≡ false = both ∙ rw (n.full, n.empty, x, y) refl in
      impossible (sym h);
  no_place = λ n x.
      let known : true ≡ list_all (is_known letters) row.full.items = sym is.places.full_known in
      let h : true ≡ false = known ∙ rw (n.full, x) refl in
      impossible (sym h);
}

motors_read : (row : MotorRow) (motor : Motor) (is : IsMotorOf lettered row motor) → MotorsAreRead row motor is
motors_read row motor is = record {
  machine = fourth (string_bytes row.machine) motor.machine is.machine;
  no_machine = nobody (string_bytes row.machine) motor.machine is.machine;
  zones = λ a b. zones_needed row motor a b is;
  places = λ a b. places_needed row motor a b is;
}

hazards_read : (row : HazardRow) (hazard : Hazard) (is : IsHazardOf letters row hazard) → HazardsAreRead row hazard is
hazards_read row hazard is = record {
  first = fourth (string_bytes row.first) hazard.first is.first;
  second = sixth (string_bytes row.second) hazard.second is.second;
  no_first = nobody (string_bytes row.first) hazard.first is.first;
  no_second = nobody (string_bytes row.second) hazard.second is.second;
}

no_row : {A B : Type 0} (R : A → B → Type 0) (xs : List A) (ys : List B) (a : A) → AllZip R xs ys → xs ≡ a ∷ [] → ys ≢ []
no_row R xs ys a all left right =
    subst (λ zs. AllZip R (a ∷ []) zs) right (subst (λ zs. AllZip R zs ys) left all)

only : {A B : Type 0} (R : A → B → Type 0) (xs : List A) (ys : List B) (a : A) (x : B) → AllZip R xs ys → xs ≡ a ∷ [] → ys ≡ x ∷ [] → R a x
only R xs ys a x all left right =
    let h : AllZip R (a ∷ []) (x ∷ []) = subst (λ zs. AllZip R (a ∷ []) zs) right (subst (λ zs. AllZip R zs ys) left all) in
    h.0

motors_of_plans : (d : Document) (p : ProgrammedPlan) (is : IsPlanOf d p) (a b : MotorRow) (h : HazardRow) (motors : d.motors.items ≡ a ∷ b ∷ []) (hazards : d.hazards.items ≡ h ∷ []) → PlansHaveMotors d p is a b h motors hazards
motors_of_plans d p is a b h motors hazards = record {
  names = is.motors.named_motors ∙ ap motor_names motors;
  titles = is.motors.named_hazards ∙ ap hazard_names hazards;
  motors_apart = are_apart p.motors.names is.motors.distinct_motors;
  motor_lost = λ motor. lost (IsMotorOf p.named) d.motors.items p.motors.motors.items a b motor is.motors.motors motors;
  hazard_lost = no_row (IsHazardOf p.motors.names) d.hazards.items p.motors.hazards.items h is.motors.hazards hazards;
  each = λ first second all. two (IsMotorOf p.named) d.motors.items p.motors.motors.items a b first second is.motors.motors motors all;
  hazard = λ one all. only (IsHazardOf p.motors.names) d.hazards.items p.motors.hazards.items h one is.motors.hazards hazards all;
  no_name = unless is_name p.motors.names _ is.motors.spelled_motors refl;
  no_title = unless is_title p.motors.hazard_names _ is.motors.spelled_hazards refl;
  fit = is.motors.fit;
}

motors_in : (members : Members) (row : MotorRow) (is : IsMotorIn (table members) row) → MotorsAreIn members row is
motors_in members row is =
    let same : members ≡ is.members = same_members members is.members is.is_table in
    record {
      name = ap (get_member (codes "name")) same ∙ is.name;
      machine = ap (get_member (codes "machine")) same ∙ is.machine;
      holds = subst (λ ms. ArePostures (get_member (codes "holds") ms) row.holds.items) (sym same) is.holds;
      stands = subst (λ ms. ArePostures (get_member (codes "stands") ms) row.stands.items) (sym same) is.stands;
      full = ap (items_at (codes "full")) same ∙ is.full;
      empty = ap (items_at (codes "empty")) same ∙ is.empty;
    }

hazards_in : (members : Members) (row : HazardRow) (is : IsHazardIn (table members) row) → HazardsAreIn members row is
hazards_in members row is =
    let same : members ≡ is.members = same_members members is.members is.is_table in
    record {
      name = ap (get_member (codes "name")) same ∙ is.name;
      motors = ap (get_member (codes "motors")) same ∙ is.motors;
    }

no_first : (row : PostureRow) → ArePostures None (row ∷ []) → ⊥
no_first row e = cc

rows_in : RowsAreOfMotors
rows_in = record {
  motors = motors_in;
  hazards = hazards_in;
  no_motor = λ text row is. no_text text is.members is.is_table;
  no_hazard = λ text row is. no_text text is.members is.is_table;
  unknown = λ value members row is. impossible (ap (has_only motor_keys) (same_members (member (codes "motors") value members) is.members is.is_table) ∙ is.keys);
  unknown_too = λ value members row is. impossible (ap (has_only hazard_keys) (same_members (member (codes "holds") value members) is.members is.is_table) ∙ is.keys);
  absent = no_first;
  document = λ members d is. (is.motors, is.hazards);
}

pub motor_rows : MotorsAreMet
motor_rows = record {
  needs = needs_made;
  motors = motors_read;
  hazards = hazards_read;
  plans = motors_of_plans;
  rows = rows_in;
}
