-- Each call goes to the group of its zone or pose.
use Rattle.std.proofs.Common.{ℕ, ◌+◌, ◌<◌, refl, ap, arith}
use Rattle.plan_types.specs.declared.call.Call.{Call}
use Rattle.plan_types.specs.declared.call.Call.TheVariants.{Claim, Give, Yield, Take, Release, SetPose, Inquire, Stop, Resume, Advance}
use Rattle.plan_types.specs.Table.{PlanTable, zone_count, pose_count, place_count}
use Rattle.plan_words.specs.Groups.{group_of, number_in, looks_at, touches}
use Rattle.plan_words.specs.Route.{group_of_zone, group_of_pose, group_of_place, CallsAreRouted}
use Rattle.plan_words.proofs.Tables.{Found, number_found}
use Rattle.plan_words.proofs.Grouping.{has_zone, has_pose, has_place, labels_below, label_for_at_most}

zone_there : (t : PlanTable) (z : ℕ) → z < zone_count t → Found (group_of t (group_of_zone t z)).zones z (number_in (group_of t (group_of_zone t z)).zones z)
zone_there t z l = let h = has_zone t (group_of_zone t z) z l refl in number_found (group_of t (group_of_zone t z)).zones z (h.0, (h.1, h.2))

pose_there : (t : PlanTable) (p : ℕ) → p < pose_count t → Found (group_of t (group_of_pose t p)).poses p (number_in (group_of t (group_of_pose t p)).poses p)
pose_there t p l = let h = has_pose t (group_of_pose t p) p l refl in number_found (group_of t (group_of_pose t p)).poses p (h.0, (h.1, h.2))

place_there : (t : PlanTable) (p : ℕ) → p < place_count t → Found (group_of t (group_of_place t p)).places p (number_in (group_of t (group_of_place t p)).places p)
place_there t p l = let h = has_place t (group_of_place t p) p l refl in number_found (group_of t (group_of_place t p)).places p (h.0, (h.1, h.2))

zone_word : (t : PlanTable) (z : ℕ) → z < zone_count t → group_of_zone t z < zone_count t + 1
zone_word t z l = let h = labels_below t z l in omega (arith, h)

pub calls_are_routed : CallsAreRouted
calls_are_routed t (Claim z) l = let f = zone_there t z l in record { group = zone_word t z l; in_group = f.0; back = ap (λ n. let c : Call = Claim n in c) f.1 }
calls_are_routed t (Give z) l = let f = zone_there t z l in record { group = zone_word t z l; in_group = f.0; back = ap (λ n. let c : Call = Give n in c) f.1 }
calls_are_routed t (Yield z) l = let f = zone_there t z l in record { group = zone_word t z l; in_group = f.0; back = ap (λ n. let c : Call = Yield n in c) f.1 }
calls_are_routed t (Take z) l = let f = zone_there t z l in record { group = zone_word t z l; in_group = f.0; back = ap (λ n. let c : Call = Take n in c) f.1 }
calls_are_routed t (Release z) l = let f = zone_there t z l in record { group = zone_word t z l; in_group = f.0; back = ap (λ n. let c : Call = Release n in c) f.1 }
calls_are_routed t (SetPose p) l = let f = pose_there t p l in record { group = label_for_at_most t (looks_at t p); in_group = f.0; back = ap (λ n. let c : Call = SetPose n in c) f.1 }
calls_are_routed t (Inquire z) l = let f = zone_there t z l in record { group = zone_word t z l; in_group = f.0; back = ap (λ n. let c : Call = Inquire n in c) f.1 }
calls_are_routed t Stop l = record { group = omega arith; in_group = tt; back = refl }
calls_are_routed t Resume l = record { group = omega arith; in_group = tt; back = refl }
calls_are_routed t (Advance p) l = let f = place_there t p l in record { group = label_for_at_most t (touches t p); in_group = f.0; back = ap (λ n. let c : Call = Advance n in c) f.1 }
