-- The laws of `hazards_tell`.
use Rattle.std.proofs.Common.{◌≡◌, ◌≢◌, ℕ, false, ◌∷◌, length, nat_eq, refl, ap, arith}
use Rattle.std.proofs.lemmas.Bool.{eqb-true, false_from_ne_true}
use Rattle.plan_types.specs.declared.posture.Posture.{Posture}
use Rattle.plan_types.specs.declared.posture.Posture.TheVariants.{Closed, Moving, OpenIn, OpenOut}
use Rattle.plan_types.specs.Same.{same_posture}
use Rattle.plan_rules.specs.State.{zone_at}
use Rattle.plan_app.specs.Hazards.{line_if, motors_text}
use Rattle.plan_app.specs.HazardLaws.{FindingsTell, HazardsTell, LeadsTell, PlacesTell, VerdictsTell, ZonesTell}

verdicts-tell : VerdictsTell
verdicts-tell = record { zone = λ n z. refl; place = λ n p. refl; poses = λ n m. refl; possible = λ n s. refl }

not_zero : (k : ℕ) → k ≢ 0 → nat_eq k 0 ≡ false
not_zero k some = false_from_ne_true (nat_eq k 0) (λ is. some (eqb-true k 0 is))

open_one : (p : Posture) → p ≢ Closed → same_posture p Closed ≡ false
open_one Closed differ = absurd (differ refl)
open_one Moving differ = refl
open_one OpenIn differ = refl
open_one OpenOut differ = refl

zones-tell : ZonesTell
zones-tell = record {
  held = λ n s z m owned. rw owned refl;
  free = λ n s z none differ. rw (none, open_one (zone_at s z).posture differ) refl;
  rests = λ n s z none closed. rw (none, closed) refl;
}

places-tell : PlacesTell
places-tell = record {
  full = λ n s p is. rw is refl;
  empty = λ n s p is. rw is refl;
  one = λ s p is. rw is refl;
  zero = λ s p is. rw is refl;
  start = λ n s some. rw (not_zero (length n.places) some) refl;
  no_places = λ n s none. rw none refl;
}

leads-tell : LeadsTell
leads-tell = record {
  unsought = λ n ps begun v. refl;
  never = λ n ps begun v. refl;
  large = λ n ps begun v limit turns. refl;
  turns = λ n ps begun v turns. refl;
  at_once = λ n ps begun. refl;
  calls = λ n ps begun first more.
      rw (not_zero (length (first ∷ more)) (λ is. absurd (omega (arith, is)))) refl;
}

findings-tell : FindingsTell
unfolding motors_text
findings-tell = record {
  line = λ n ps titles start findings k f there. ap (line_if n ps titles start k) there;
  no_finding = λ n ps titles start findings k none. ap (line_if n ps titles start k) none;
  all = λ n ps titles start findings. refl;
  motors = λ n ps motors titles start findings some. rw (not_zero (length motors) some) refl;
  no_motor = λ n ps titles start findings. refl;
}

pub hazards-tell : HazardsTell
hazards-tell = record {
  verdicts = verdicts-tell;
  zones = zones-tell;
  places = places-tell;
  leads = leads-tell;
  findings = findings-tell;
}
