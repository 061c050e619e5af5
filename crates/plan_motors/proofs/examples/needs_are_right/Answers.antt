use Rattle.std.proofs.Common.{refl}
use Rattle.plan_motors.proofs.PartRows.{parts_are_right}
use Rattle.plan_motors.proofs.NeedRows.{permits_are_right, bad_answers}
use Rattle.plan_motors.proofs.examples.needs_are_right.Goals as goal

pub returns-clause-needs : goal.returns-clause-needs
returns-clause-needs c = record { held_by_it = refl; held_by_other = refl; held_by_nobody = refl; held_moving = refl; held_at_rest = refl; held_moving_by_other = refl; hosted_of_nobody = refl; hosted_of_guest = refl; hosted_otherwise = refl; unneeded = refl; full = refl; not_full = refl; empty = refl; not_empty = refl; unneeded_place = refl; tenth_zone = refl; no_eleventh_zone = refl; sixteenth_place = refl; no_seventeenth_place = refl }

pub returns-clause-states : goal.returns-clause-states
returns-clause-states c = permits_are_right

pub returns-clause-shown : goal.returns-clause-shown
returns-clause-shown c = bad_answers

pub returns-clause-answers : goal.returns-clause-answers
returns-clause-answers c = record { by_zone = refl; by_place = refl; by_none = refl; never_by_zone = refl; never_by_place = refl; never_by_poses = refl; perhaps = refl }

pub returns-clause-parts : goal.returns-clause-parts
returns-clause-parts c = parts_are_right
