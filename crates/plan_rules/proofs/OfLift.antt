-- What each law says of a lift: the law, with the lift's numbers.
use Rattle.std.proofs.Common.{◌≡◌, ℕ, ◌+◌, ◌<◌, true, false, List, [], ◌∷◌, ◌++◌, refl, sym, ap, ◌∙◌, subst, arith}
use Rattle.std.proofs.lemmas.List.{append-nil}
use Rattle.plan_types.specs.declared.posture.Posture.TheVariants.{OpenOut}
use Rattle.plan_types.specs.declared.call.Call.TheVariants.{Claim, Give, Yield, Take, Release, SetPose, Inquire}
use Rattle.plan_types.specs.declared.answer.Refusal.TheVariants.{NotParty, PlateInZone, Stopped}
use Rattle.plan_types.specs.declared.answer.Answer.TheVariants.{Done, Refused}
use Rattle.plan_types.specs.declared.answer.Event.{Event}
use Rattle.plan_types.specs.Examples.{lift_table, lift_zones, lift_poses}
use Rattle.plan_rules.proofs.Changes.{has_no_ends}
use Rattle.plan_types.proofs.lemmas.Checked.{is_plan}
use Rattle.plan_rules.specs.declared.state.State.{State}
use Rattle.plan_rules.specs.Sound.{is_open}
use Rattle.plan_rules.specs.LiftLaws.{LiftHolders, LiftCounts, LiftRights, LiftPoses, LiftHandovers, LiftStops, LiftReplies, LiftHistories, LawsOfLift, HoldsZone}
use Rattle.plan_rules.proofs.lemmas.Zones.{owner_is}
use Rattle.plan_rules.proofs.Holders.{owned_as}

holders : (s : State) (h : List Event) → LiftHolders s h
holders s h = record {
  alone = λ law a b. let e : 0 ≡ 2 = law.alone 0 2 1 a b in absurd (omega arith);
  alone_past_the_end = λ law a b. let e : 3 ≡ 4 = law.alone 3 4 9 a b in absurd (omega arith);
  stranger = λ law a. let e : false ≡ true = law.party 1 1 (omega arith) a in cc;
  far_stranger = λ law a. let e : false ≡ true = law.party 9 1 (omega arith) a in cc;
  owner = λ law a. owner_is _ 2 ((law.owner 2 1).0 a);
  holder = λ law e. (law.owner 2 1).1 (owned_as _ 2 2 e);
  holder_past_the_end = λ law e. (law.owner 4 9).1 (owned_as _ 4 4 e);
  moves = λ law e. law.moves 1 (omega arith) e;
  guest = λ law a closed. let e : false ≡ true = sym (ap is_open closed) ∙ law 1 (omega arith) a in cc;
  guest_stands = λ law a moves. let e : false ≡ true = sym (ap is_open moves) ∙ law 1 (omega arith) a in cc;
}

counts : (s : State) (h : List Event) → LiftCounts s h
counts s h = record {
  plates = λ law three. law (has_no_ends 3 lift_zones lift_poses (0 ∷ 1 ∷ 2 ∷ [])) ∙ three;
  stamp = λ law five. law ∙ ap (λ n. s.stamp + n) five;
  posture = λ law e. law 1 (omega arith) ∙ e;
  one_plate = λ law. law.one_plate_a_place 2;
  zone = λ law. law.zone_is_lawful 1 (omega arith);
  last_stamp = λ law. law.stamp_in_range;
}

rights : (s : State) (before more : List Event) → LiftRights s before more
rights s before more = record {
  held = λ law none held. law.held 2 1 (omega arith) none held;
  zone = λ law none held. law.zone 2 1 (omega arith) none held;
  place = λ law none. law.places 2 (omega arith) none;
  posture = λ law none. law.posture 1 (omega arith) none;
}

poses : (s : State) (before rest : List Event) (m : ℕ) → LiftPoses s before rest m
poses s before rest m = record {
  changes = λ law other.
      let r = law.changes before rest m 2 refl 1 OpenOut (omega arith) refl other in
      (sym r.0, subst (λ n. HoldsZone s before n 1) (sym r.0) r.1);
  own = λ law. sym (law.own before rest m 4 refl).1;
  past_the_end = λ law. let e : 5 < 5 = (law.own before rest m 5 refl).0 in absurd (omega arith);
  no_jump = λ law. law.no_jump before rest 0 2 refl refl 1 (omega arith) refl;
  all_held = λ law. law.all_held before rest 0 0 0 refl refl 1 (omega arith) refl;
  all_clear = λ law. law.all_clear before rest 0 0 0 refl refl 1 (omega arith) refl;
  opens_onto_empty = λ law other.
      law.opens_onto_empty before rest 0 4 refl 1 (record { giver = 2; receiver = 0; from = 2; to = 0 }) (omega arith) refl other refl;
}

handovers : (s : State) (before rest : List Event) (m : ℕ) → LiftHandovers s before rest m
handovers s before rest m = record {
  give = λ law. (law.give before rest m 1 refl).1;
  yield = λ law. (law.yield before rest m 1 refl).1;
  take = λ law. (law.take before rest m 1 refl).1;
  release = λ law. (law.release before rest m 1 refl).1;
  owner = λ law. (law.take before rest m 1 refl).2;
  no_zone = λ law. let e : 2 < 2 = (law.give before rest m 2 refl).0 in absurd (omega arith);
}

stops : (s : State) (before rest : List Event) (m : ℕ) → LiftStops s before rest m
stops s before rest m = record {
  marked = λ law. law.mark.0;
  by_mark = λ law. law.mark.1;
  claim = λ law stopped. let e : true ≡ false = law.barred before rest m (Claim 1) refl stopped in cc;
  give = λ law stopped. let e : true ≡ false = law.barred before rest m (Give 1) refl stopped in cc;
  moves = λ law stopped. law.stands before rest m 0 1 refl stopped refl;
  stop = λ law. law.stop before rest m refl;
  resume = λ law. law.resume before rest m refl;
}

replies : (s : State) (m : ℕ) → LiftReplies s m
replies s m = record {
  take = λ law. law lift_table s m (Take 1) refl (λ e. cc) (λ e. cc);
  yield = λ law. law lift_table s m (Yield 1) refl (λ e. cc) (λ e. cc);
  release = λ law. law lift_table s m (Release 1) refl (λ e. cc) (λ e. cc);
  inquire = λ law. law lift_table s m (Inquire 1) refl (λ e. cc) (λ e. cc);
  opens = λ law. law lift_table s m (SetPose 2) refl (λ e. cc) (λ e. cc);
  plate = λ law sound e. law.cause lift_table s m (Yield 1) (PlateInZone 1) sound e;
  other_zone = λ law sound e. let f : false ≡ true = law.cause lift_table s m (Yield 1) (PlateInZone 0) sound e in cc;
  party = λ law sound e. let f : false ≡ true = law.cause lift_table s 2 (Claim 1) NotParty sound e in cc;
  stopped = λ law sound e d.
      let r = law.first lift_table s m (Claim 1) Stopped sound e in
      let f : Done ≡ Refused r.answered = sym d ∙ r.answer in
      cc;
  refused = λ law sound e. law.first lift_table s m (Give 1) (PlateInZone 1) sound e;
  flagged = λ law sound e d.
      let r = law.first lift_table s m (Release 1) (PlateInZone 1) sound e in
      let f : Done ≡ Refused r.answered = sym d ∙ r.answer in
      cc;
}

histories : (s : State) (before more : List Event) → LiftHistories s before more
histories s before more = record {
  whole = λ law sound legal. law lift_table s before (is_plan lift_table refl) sound legal before [] (sym (append-nil before));
  shorter = λ law sound legal. law lift_table s (before ++ more) (is_plan lift_table refl) sound legal before more refl;
  rights = λ law. law.right_lasts before more refl;
}

pub laws_of_lift : LawsOfLift
laws_of_lift = record {
  laws = λ s before rest m. record {
    holders = holders s before;
    counts = counts s before;
    rights = rights s before rest;
    poses = poses s before rest m;
    handovers = handovers s before rest m;
    stops = stops s before rest m;
    replies = replies s m;
    histories = histories s before rest;
  };
  barred = record { claim = refl; give = refl; moves = refl; opens = refl; no_pose = refl; yield = refl; take = refl; release = refl; inquire = refl; stop = refl; resume = refl };
}
