-- Laws of the holders of zones, for one legal history from a sound opening.
use Rattle.std.proofs.Common.{◌≡◌, ℕ, inl, inr, true, List, ◌∷◌, Option, Some, sym, ap, ◌∙◌, ◌↔◌, IsTrue, subst, unwrap_or}
use Rattle.plan_types.specs.declared.posture.Posture.TheVariants.{Moving}
use Rattle.plan_types.specs.declared.call.Call.TheVariants.{SetPose}
use Rattle.plan_types.specs.declared.answer.Event.{Event}
use Rattle.plan_types.specs.Same.{same_posture}
use Rattle.plan_types.specs.Table.{PlanTable, host_of, guest_of}
use Rattle.plan_types.specs.Plan.{IsPlan}
use Rattle.plan_rules.specs.declared.state.ZoneState.{ZoneState}
use Rattle.plan_rules.specs.declared.state.State.{State}
use Rattle.plan_rules.specs.State.{owner_of, posture_at}
use Rattle.plan_rules.specs.Sound.{IsSound, is_entrant, is_open}
use Rattle.plan_rules.specs.Refusals.{owns}
use Rattle.plan_rules.specs.History.{after, IsLegal, Holds}
use Rattle.plan_rules.specs.Laws.{OneHolder, OneAtATime, MoverIsHost, GuestOnlyWhileOpen, done}
use Rattle.plan_rules.proofs.lemmas.Puts.{nat_eq-self}
use Rattle.plan_rules.proofs.lemmas.Zones.{implied, owner_is}
use Rattle.plan_rules.proofs.lemmas.Spaces.{shared_owner}
use Rattle.plan_rules.proofs.lemmas.DoneCalls.{pose_done}
use Rattle.plan_rules.proofs.lemmas.Soundness.{done_none, posed_zone}
use Rattle.plan_rules.proofs.Histories.{sound-after, legal-left, replies_done}
use Rattle.plan_rules.proofs.Holders.{holds_iff_owns, owned_as}
use Rattle.plan_rules.proofs.Changes.{posture-after}

one_owner : (o : Option ℕ) (a b : ℕ) → o ≡ Some a → o ≡ Some b → a ≡ b
one_owner o a b e f = ap (λ (x : Option ℕ). unwrap_or x a) (sym e ∙ f)

pub one_holder : (t : PlanTable) (s : State) → IsPlan t → IsSound t s → (h : List Event) → IsLegal t s h → OneHolder t s h
one_holder t s p k h l =
    let owner : (m z : ℕ) → Holds t s h m z ↔ IsTrue (owns (after t s h) m z) = λ m z. holds_iff_owns t s h m z p k l in
    let is = λ (m z : ℕ) (held : Holds t s h m z). owner_is (owner_of (after t s h) z) m ((owner m z).0 held) in
    record {
      alone = λ m n z held also. one_owner (owner_of (after t s h) z) m n (is m z held) (is n z also);
      party = λ m z there held. subst (λ o. is_entrant t z o ≡ true) (is m z held) ((sound-after t s h p k).zone_is_lawful z there).owner_is_party;
      owner = owner;
    }

pub one_at_a_time : (t : PlanTable) (s : State) → IsPlan t → IsSound t s → (h : List Event) → IsLegal t s h → OneAtATime t s h
one_at_a_time t s p k h l m n y z ly lz same held also =
    let is = owner_is (owner_of (after t s h) y) m ((holds_iff_owns t s h m y p k l).0 held) in
    let and = owner_is (owner_of (after t s h) z) n ((holds_iff_owns t s h n z p k l).0 also) in
    one_owner (owner_of (after t s h) y) m n is (shared_owner t (after t s h) y z (sound-after t s h p k) ly lz same ∙ and)

pub mover_is_host : (t : PlanTable) (s : State) → IsPlan t → IsSound t s → (h : List Event) → IsLegal t s h → MoverIsHost t s h
mover_is_host t s p k h l = record {
  moves = λ z there moves.
      (holds_iff_owns t s h (host_of t z) z p k l).1
      (implied (same_posture (posture_at (after t s h) z) Moving) (owns (after t s h) (host_of t z) z) ((sound-after t s h p k).zone_is_lawful z there).moving_belongs_to_host
      (ap (λ q. same_posture q Moving) (posture-after t s h z p k l there ∙ moves)));
  changes = λ before rest m q split z r there gives other.
      let now = after t s before in
      let f = pose_done t now m q (done_none _ _ (replies_done t s h before m (SetPose q) rest l split)) in
      elim (posed_zone t now m q z p f there) [
        | inl same ↦ absurd (other (sym (ap (λ (v : ZoneState). v.posture) same) ∙ ap (λ o. unwrap_or o (posture_at now z)) gives))
        | inr x ↦ (x.host, (holds_iff_owns t s before m z p k (legal-left t s before (done m (SetPose q) ∷ rest) (subst (IsLegal t s) split l))).1 (owned_as (owner_of now z) m m x.owner ∙ nat_eq-self m))
      ];
}

pub guest_only_while_open : (t : PlanTable) (s : State) → IsPlan t → IsSound t s → (h : List Event) → IsLegal t s h → GuestOnlyWhileOpen t s h
guest_only_while_open t s p k h l z there held =
    ap is_open (sym (posture-after t s h z p k l there))
    ∙ implied (owns (after t s h) (guest_of t z) z) (is_open (posture_at (after t s h) z)) ((sound-after t s h p k).zone_is_lawful z there).guest_only_while_open ((holds_iff_owns t s h (guest_of t z) z p k l).0 held)
