-- The lift's gates, kept apart by its poses; and literal poses.
use Rattle.std.proofs.Common.{◌≡◌, ℕ, zero, suc, ◌<◌, inl, inr, Bool, true, false, ◌&&◌, is_none, List, [], ◌∷◌, replicate, refl, arith, IsTrue}
use Rattle.plan_types.specs.declared.posture.Posture.{Posture}
use Rattle.plan_types.specs.declared.posture.Posture.TheVariants.{Closed, Moving, OpenIn, OpenOut}
use Rattle.plan_types.specs.Table.{is_hosted, posture_of}
use Rattle.plan_types.specs.Plan.{IsPlan}
use Rattle.plan_types.specs.Examples.{lift_table}
use Rattle.plan_types.proofs.lemmas.Checked.{is_plan}
use Rattle.plan_rules.specs.State.{posture_at}
use Rattle.plan_rules.specs.Sound.{implies}
use Rattle.plan_rules.specs.Examples.{lift_start}
use Rattle.plan_rules.specs.Laws.{EveryLegalHistoryIsLawful}
use Rattle.plan_motors.specs.declared.poses.Leads.{Leads}
use Rattle.plan_motors.specs.Exclusion.{state_for}
use Rattle.plan_motors.specs.Poses.{fits_in, leads_on, matters, LeadOn, posture_after, after_poses, CanTake, CanTakeAll, LeadsFurther, AreFound, LeadsByMoving, AreLeads, LeadSomewhere, IsApartByPoses}
use Rattle.plan_motors.specs.Examples.{lower_gate, upper_gate}
use Rattle.plan_motors.specs.PoseExamples.{postures, like_start, GatesAreApart, PosesLeadOn, PosesAreTaken, PosturesAreOf}
use Rattle.plan_motors.proofs.lemmas.Excluding.{state_shown}
use Rattle.plan_motors.proofs.Posing.{apart, never_from}
use Rattle.plan_motors.proofs.Leading.{at_first}

two : (P : ℕ → Type 0) → P 0 → P 1 → (z : ℕ) → z < 2 → P z
two P a b zero l = a
two P a b (suc zero) l = b
two P a b (suc (suc z)) l = absurd (omega arith)

no : false ≡ true → ⊥
no e = cc

lift : IsPlan lift_table
lift = is_plan lift_table refl

abbrev none_found : List Bool
none_found = replicate 10 false

abbrev both_found : List Bool
both_found = true ∷ true ∷ replicate 8 false

none_further : (p : ℕ) → p < 5 → ¬ LeadsFurther lift_table lower_gate upper_gate 0 none_found false p
none_further zero l x = no (x.well 0 (omega arith))
none_further (suc zero) l x = let e : true ≡ false = x.at_any_time in cc
none_further (suc (suc zero)) l x = let e : true ≡ false = x.at_any_time in cc
none_further (suc (suc (suc zero))) l x = let e : true ≡ false = x.at_any_time in cc
none_further (suc (suc (suc (suc zero)))) l x = let e : true ≡ false = x.at_any_time in cc
none_further (suc (suc (suc (suc (suc p))))) l x = absurd (omega arith)

none_by_moving : (p : ℕ) → LeadsByMoving lift_table lower_gate upper_gate 0 none_found p → IsTrue false
none_by_moving zero x = x.waits
none_by_moving (suc zero) x = x.leads 1 (omega arith)
none_by_moving (suc (suc zero)) x = x.leads 0 (omega arith)
none_by_moving (suc (suc (suc zero))) x = x.leads 1 (omega arith)
none_by_moving (suc (suc (suc (suc zero)))) x = x.leads 0 (omega arith)
none_by_moving (suc (suc (suc (suc (suc p))))) x = absurd (omega (arith, x.there))

travels : (q : ℕ → Posture) → CanTake lift_table 0 0 q
travels q = record { there = omega arith; own = refl; moves = λ w. absurd (no w) }

moving_found : AreFound lift_table lower_gate upper_gate 0 true both_found
moving_found = record {
  all = λ p l x. x.further (two (λ z. IsTrue (implies (matters lift_table 0 both_found z) (is_none (posture_of lift_table p z)))) refl refl);
  lead = λ q lead. record {
    poses = 0 ∷ [];
    taken = (travels q, tt);
    arrived = two (λ z. IsTrue (implies (matters lift_table 0 [] z) (leads_on lift_table lower_gate upper_gate true z (posture_after lift_table 0 z (q z))))) refl refl;
  };
}

abbrev leads : Leads
leads = record { any = none_found; by_moving = false; any_moving = both_found }

leads_found : AreLeads lift_table lower_gate upper_gate 0 leads
leads_found = record {
  danger = record { all = none_further; lead = at_first lift_table lower_gate upper_gate 0 false };
  by_moving = none_by_moving;
  from_moving = λ e. absurd (no e);
  moving = moving_found;
}

nowhere : LeadSomewhere lift_table lower_gate upper_gate 0 leads (λ z. posture_at lift_start z) → ⊥
nowhere (inl lead) = no (lead 0 (omega arith))
nowhere (inr x) = no x.0

by_poses : EveryLegalHistoryIsLawful → IsApartByPoses lift_table lower_gate upper_gate lift_start 0
by_poses laws = apart laws lift_table lower_gate upper_gate 0 leads lift_start lift leads_found nowhere

-- ---- no poses lead to both gates
abbrev Safe : (ℕ → Posture) → Type 0
Safe q = (fits_in lift_table lower_gate upper_gate 0 (q 0) && fits_in lift_table lower_gate upper_gate 1 (q 1)) ≡ false

safe_after : (p : ℕ) (q : ℕ → Posture) → CanTake lift_table 0 p q → Safe (λ y. posture_after lift_table p y (q y))
safe_after zero q x = refl
safe_after (suc zero) q x = refl
safe_after (suc (suc zero)) q x = refl
safe_after (suc (suc (suc zero))) q x = refl
safe_after (suc (suc (suc (suc zero)))) q x = refl
safe_after (suc (suc (suc (suc (suc p))))) q x = absurd (omega (arith, x.there))

none_lead : (poses : List ℕ) (q : ℕ → Posture) → Safe q → CanTakeAll lift_table 0 poses q
    → LeadOn lift_table lower_gate upper_gate 0 [] false (after_poses lift_table poses q) → ⊥
none_lead [] q safe taken lead = differ _ _ safe (lead 0 (omega arith)) (lead 1 (omega arith))
  where
    differ : (a b : Bool) → (a && b) ≡ false → a ≡ true → b ≡ true → ⊥
    differ true true e f g = cc
    differ true false e f g = cc
    differ false b e f g = cc
none_lead (p ∷ poses) q safe taken lead = none_lead poses (λ y. posture_after lift_table p y (q y)) (safe_after p q taken.0) taken.1 lead

pub gates_are_apart : EveryLegalHistoryIsLawful → GatesAreApart
gates_are_apart laws = record {
  not_by_zones = λ k. let x = state_shown lift_table lower_gate upper_gate lift refl in k (state_for lift_table lower_gate upper_gate) x.0.sound x.1 x.2;
  by_poses = by_poses laws;
  never = never_from lift_table lower_gate upper_gate lift_start 0 (by_poses laws);
  no_danger = λ k. none_lead k.poses (λ z. Closed) refl k.taken k.arrived;
}

abbrev On : Bool → (ℕ → Posture) → ℕ → Type 0
On moving q z = IsTrue (implies (matters lift_table 0 [] z) (leads_on lift_table lower_gate upper_gate moving z (q z)))

pub poses_lead_on : PosesLeadOn
poses_lead_on = record {
  fits = refl;
  shut = refl;
  moves = refl;
  both_open = two (On false (postures OpenIn OpenOut)) refl refl;
  upper_shut = λ k. no (k 1 (omega arith));
  lower_shut = λ k. no (k 0 (omega arith));
  both_move = two (On true (postures Moving Moving)) refl refl;
  lower_moves = λ k. no (k 1 (omega arith));
  upper_moves = λ k. no (k 0 (omega arith));
}

loads : CanTake lift_table 0 4 (λ y. posture_after lift_table 0 y Closed)
loads = record { there = omega arith; own = refl; moves = λ w. two (λ z. IsTrue (is_hosted lift_table z 0) → posture_after lift_table 0 z Closed ≡ Moving) (λ h. refl) (λ h. refl) }

pub poses_are_taken : PosesAreTaken
poses_are_taken = record {
  travels = travels (λ z. Closed);
  loads = record { there = omega arith; own = refl; moves = λ w z l h. refl };
  of_other = λ k. absurd (omega (arith, k.own));
  past_end = λ k. absurd (omega (arith, k.there));
  at_rest = λ k. let e : Closed ≡ Moving = k.moves refl 0 (omega arith) refl in cc;
  upper_rests = λ k. let e : Closed ≡ Moving = k.moves refl 1 (omega arith) refl in cc;
  lower_rests = λ k. let e : Closed ≡ Moving = k.moves refl 0 (omega arith) refl in cc;
  no_zone_of_floor = two (λ z. IsTrue (is_hosted lift_table z 1) → Closed ≡ Moving) (λ h. absurd (no h)) (λ h. absurd (no h));
  in_turn = (travels (λ z. Closed), (loads, (travels _, tt)));
  not_in_turn = λ k. let e : Closed ≡ Moving = k.1.1.0.moves refl 0 (omega arith) refl in cc;
  not_first = λ k. let e : Closed ≡ Moving = k.0.moves refl 0 (omega arith) refl in cc;
  upper_opens = refl;
  lower_shuts = refl;
  given = refl;
  left = refl;
}

pub postures_are_of : PosturesAreOf
postures_are_of = record {
  start = two (λ z. posture_at like_start z ≡ posture_at lift_start z) refl refl;
  other = λ k. let e : OpenIn ≡ Closed = k 0 (omega arith) in cc;
  second_zone = λ k. let e : OpenIn ≡ Closed = k 1 (omega arith) in cc;
}
