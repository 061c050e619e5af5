-- The upper zone of a lift breaks the laws.
use Rattle.std.proofs.Common.{◌≡◌, ℕ, true, false, [], ◌∷◌, Some, inl, inr, IsTrue, refl, sym, ap, ◌∙◌, arith}
use Rattle.std.proofs.lemmas.List.Elements.{All-nil}
use Rattle.plan_types.specs.declared.posture.Posture.TheVariants.{Closed, Moving, OpenIn, OpenOut}
use Rattle.plan_types.specs.declared.call.Call.TheVariants.{Claim, Give}
use Rattle.plan_types.specs.declared.call.Call.TheVariants.{SetPose}
use Rattle.plan_types.specs.Examples.{lift_table, lift_zones, lift_poses}
use Rattle.plan_rules.proofs.Changes.{has_no_ends}
use Rattle.plan_rules.specs.declared.state.State.{State}
use Rattle.plan_rules.specs.declared.state.ZoneState.{ZoneState}
use Rattle.plan_rules.specs.Refusals.{owns}
use Rattle.plan_rules.specs.History.{IsLoss, is_resume, Holds, IsStopped}
use Rattle.plan_rules.specs.Laws.{done, HasZone}
use Rattle.plan_rules.specs.OrderExamples.{interior}
use Rattle.plan_rules.specs.StateExamples.{upper}
use Rattle.plan_rules.specs.BrokenLift.{halted, inward, LiftBroken}
use Rattle.plan_rules.proofs.Breaking.{no_event}

owned : (s : State) (m : ℕ) → owns s m 1 ≡ true → Holds lift_table s [] m 1
owned s m e = inl (e, All-nil (λ x. ¬ IsLoss lift_table x m 1))

unowned : (s : State) (m : ℕ) → owns s m 1 ≡ false → Holds lift_table s [] m 1 → ⊥
unowned s m e (inl held) = let t : true ≡ false = sym held.0 ∙ e in cc
unowned s m e (inr held) = no_event held.before held.gain held.since held.split

claimed : (s : State) → Holds lift_table s (done 2 (Claim 1) ∷ []) 2 1
claimed s = inr (record { before = []; gain = done 2 (Claim 1); since = []; split = refl; gained = refl; kept = All-nil (λ x. ¬ IsLoss lift_table x 2 1) })

stopped : IsStopped (halted upper true) []
stopped = inl (refl, All-nil (λ e. ¬ IsTrue (is_resume e)))

same_owner : (m n : ℕ) → Some m ≡ Some n → m ≡ n
same_owner m n e = cc

anothers : HasZone lift_table (halted upper true) [] 0 1 → ⊥
anothers has = let e : ◌≡◌ {A = ℕ} 2 0 = same_owner 2 0 has.2 in absurd (omega arith)

pub lift : LiftBroken
lift = record {
  party = λ law. let e : false ≡ true = law.party 1 1 (omega arith) (owned (halted (interior (Some 1) OpenOut true) true) 1 refl) in cc;
  owner = λ law. let e : false ≡ true = (law.owner 2 1).0 (claimed (halted (inward 0) true)) in cc;
  moves = λ law. unowned (halted (interior (Some 2) Moving true) true) 0 refl (law.moves 1 (omega arith) refl);
  changes = λ law. let e : 0 ≡ 2 = (law.changes [] [] 2 2 refl 1 OpenOut (omega arith) refl (λ e. cc)).0 in absurd (omega arith);
  guest = λ law. let e : false ≡ true = law 1 (omega arith) (owned (halted (interior (Some 2) Closed true) true) 2 refl) in cc;
  plates = λ law. let e : 3 ≡ 4 = law (has_no_ends 3 lift_zones lift_poses (0 ∷ 1 ∷ 2 ∷ [])) in absurd (omega arith);
  stamp = λ law. let e : 9 ≡ 10 = law in absurd (omega arith);
  by_events = λ law. let e : Closed ≡ OpenOut = law 1 (omega arith) in cc;
  sound = λ law. let e : false ≡ true = (law.zone_is_lawful 1 (omega arith)).owner_is_party in cc;
  right_to_zone = λ law. let e : false ≡ true = ap (λ (v : ZoneState). v.flag) (law.zone 2 1 (omega arith) refl (claimed (halted (inward 0) true))) in cc;
  right_to_place = λ law. let e : true ≡ false = law.places 0 (omega arith) refl in cc;
  right_to_posture = λ law. let e : Closed ≡ OpenOut = law.posture 1 (omega arith) refl in cc;
  own_pose = λ law. let e : 0 ≡ 2 = (law.own [] [] 2 2 refl).1 in absurd (omega arith);
  no_jump = λ law. let e : OpenIn ≡ Moving = law.no_jump [] [] 0 2 refl refl 1 (omega arith) refl in cc;
  all_held = λ law. let e : ◌≡◌ {A = ℕ} 2 0 = same_owner 2 0 (law.all_held [] [] 0 0 0 refl refl 1 (omega arith) refl) in absurd (omega arith);
  all_clear = λ law. let e : true ≡ false = law.all_clear [] [] 0 0 0 refl refl 1 (omega arith) refl in cc;
  opens_onto_empty = λ law. let e : 1 ≡ 0 = law.opens_onto_empty [] [] 0 4 refl 1 (record { giver = 2; receiver = 0; from = 2; to = 0 }) (omega arith) refl (λ e. cc) refl in absurd (omega arith);
  give = λ law. anothers (law.give [] [] 0 1 refl);
  yield = λ law. anothers (law.yield [] [] 0 1 refl);
  take = λ law. anothers (law.take [] [] 0 1 refl);
  release = λ law. anothers (law.release [] [] 0 1 refl);
  barred_give = λ law. let e : true ≡ false = law.barred [] [] 2 (Give 1) refl stopped in cc;
  barred_pose = λ law. let e : true ≡ false = law.barred [] [] 0 (SetPose 0) refl stopped in cc;
  stands = λ law. law.stands [] [] 0 0 1 refl stopped refl;
}
