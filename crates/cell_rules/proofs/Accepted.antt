-- More that holds if a yield, a release, a pose or an advance isn't refused.
use Rattle.cell_rules.proofs.Names.{◌≡◌, None, Machine, Zone, Pose}
use Rattle.cell_rules.specs.ModelState.{ModelState}
use Rattle.cell_rules.specs.Refusals
use Rattle.cell_rules.proofs.lemmas.DoneCalls.{none_at, yield_conditions, release_conditions, pose_conditions}

pub yield_out_of_use : (s : ModelState) (m : Machine) (z : Zone) → Refusals.yield_refusal s m z ≡ None → Refusals.in_use s m z ≡ None
yield_out_of_use s m z e = none_at (yield_conditions s m z) e 4

pub release_out_of_use : (s : ModelState) (m : Machine) (z : Zone) → Refusals.release_refusal s m z ≡ None → Refusals.in_use s m z ≡ None
release_out_of_use s m z e = none_at (release_conditions s m z) e 4

pub pose_fits : (s : ModelState) (m : Machine) (p : Pose) → Refusals.pose_refusal s m p ≡ None
    → (Refusals.jump s m p ≡ None) × (Refusals.first_zone (Refusals.opens_onto_plate s m p) ≡ None) × (Refusals.runs_onto_plate s m p ≡ None)
pose_fits s m p e = let none = none_at (pose_conditions s m p) e in (none 4, none 5, none 6)
