-- A press with two robots.
use Rattle.std.proofs.Common.{◌≡◌, ℕ, true, false, [], ◌∷◌, Option, Some, None, inr, refl, ap, unwrap_or, arith}
use Rattle.std.proofs.lemmas.List.Elements.{All-nil, All-cons}
use Rattle.plan_types.specs.declared.call.Call.TheVariants.{Claim}
use Rattle.plan_types.specs.SpaceExamples.{robots_table}
use Rattle.plan_rules.specs.Laws.{done}
use Rattle.plan_rules.specs.History.{IsLoss, Holds}
use Rattle.plan_rules.specs.SpaceExamples.{HistoriesOfRobots, SpacesPass, SpacesUnsound, RobotsAreMet, robots_start, claiming, loading, taking, unloading, leaving, claimed_state, given_state, taken_state, free_state, both_claim}
use Rattle.plan_rules.proofs.Literal.{legal_by}

histories : HistoriesOfRobots
histories = record {
  claims = legal_by robots_table robots_start claiming refl;
  claimed = refl;
  loads = legal_by robots_table claimed_state loading refl;
  given = refl;
  takes = legal_by robots_table given_state taking refl;
  taken = refl;
  unloads = legal_by robots_table taken_state unloading refl;
  free = refl;
  leaves = legal_by robots_table free_state leaving refl;
  left = refl;
}

pass : SpacesPass
pass = record { claim = refl; by_other_guest = refl; give = refl; give_back = refl; by_stranger = refl; release = refl; yield = refl; past_the_end = refl; plates = refl; count = refl; cause = refl; pose = refl }

same_owner : (m n : ℕ) → ◌≡◌ {A = Option ℕ} (Some m) (Some n) → m ≡ n
same_owner m n e = ap (λ (o : Option ℕ). unwrap_or o m) e

unsound : SpacesUnsound
unsound = record {
  owners = λ sound. let e : 2 ≡ 0 = same_owner 2 0 (sound.zone_is_of_space 1 (omega arith)).owner in absurd (omega arith);
  free_beside = λ sound. let e : ◌≡◌ {A = Option ℕ} None (Some 1) = (sound.zone_is_of_space 1 (omega arith)).owner in cc;
  moves_alone = λ sound. let e : true ≡ false = (sound.zone_is_of_space 1 (omega arith)).motion in cc;
  two_plates = λ sound. let e : 0 ≡ 1 = sound.one_plate_a_space 0 1 (omega arith) (omega arith) refl refl refl in absurd (omega arith);
  stranger = λ sound. let e : false ≡ true = (sound.zone_is_lawful 0 (omega arith)).owner_is_party in cc;
}

loader_holds : Holds robots_table robots_start both_claim 0 0
loader_holds = inr (record { before = []; gain = done 0 (Claim 0); since = done 2 (Claim 1) ∷ []; split = refl; gained = refl; kept = All-cons (λ x. ¬ IsLoss robots_table x 0 0) (done 2 (Claim 1)) [] (λ e. cc) (All-nil (λ x. ¬ IsLoss robots_table x 0 0)) })

unloader_holds : Holds robots_table robots_start both_claim 2 1
unloader_holds = inr (record { before = done 0 (Claim 0) ∷ []; gain = done 2 (Claim 1); since = []; split = refl; gained = refl; kept = All-nil (λ x. ¬ IsLoss robots_table x 2 1) })

pub robots_are_met : RobotsAreMet
robots_are_met = record {
  histories = histories;
  spaces = pass;
  unsound = unsound;
  two_at_a_time = λ law. let e : 0 ≡ 2 = law 0 2 0 1 (omega arith) (omega arith) refl loader_holds unloader_holds in absurd (omega arith);
}
