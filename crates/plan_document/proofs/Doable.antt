-- Which calls are never done, by the rules of plans.
use Rattle.std.proofs.Common.{◌≡◌, ◌≢◌, ◌∙◌, ◌<◌, ◌⊎◌, inl, inr, ℕ, Bool, true, false, ◌&&◌, ◌||◌, nat_eq, Option, Some, None, refl, sym, ap, nat_lt, if◌then◌else◌}
use Rattle.std.proofs.lemmas.Bool.{eq-eqb, eqb-true, lt-ltb, ltb-true}
use Rattle.plan_types.specs.declared.posture.Posture.{Posture}
use Rattle.plan_types.specs.declared.posture.Posture.TheVariants.{Closed, Moving, OpenIn, OpenOut}
use Rattle.plan_types.specs.declared.table.Transfer.{Transfer}
use Rattle.plan_types.specs.declared.call.Call.{Call}
use Rattle.plan_types.specs.declared.call.Call.TheVariants.{Claim, Give, Yield, Take, Release, SetPose, Inquire, Stop, Resume, Advance}
use Rattle.plan_types.specs.declared.answer.Answer.TheVariants.{Done}
use Rattle.plan_types.specs.Table.{PlanTable, guest_of, has_end, has_pose, host_of, is_party, is_place_of, is_sink, is_source}
use Rattle.plan_types.specs.Table.{keeper_of, machine_of, place_count, pose_count, transfer_of, zone_count}
use Rattle.plan_rules.specs.declared.state.State.{State}
use Rattle.plan_rules.specs.State.{owner_of, posture_at}
use Rattle.plan_rules.specs.Sound.{IsSound}
use Rattle.plan_rules.specs.Refusals.{given_by}
use Rattle.plan_rules.specs.Reply.{reply}
use Rattle.plan_rules.specs.DoneLaws.{KeepsEnd}
use Rattle.plan_rules.proofs.lemmas.DoneCalls.{claim_done, give_done, yield_done, take_done, release_done, pose_done, advance_done}
use Rattle.plan_rules.proofs.lemmas.Soundness.{done_none, plate_comes}
use Rattle.plan_document.specs.Laws.{AcceptedLinesHaveReasons, GivesThrough, HasZone, TakesThrough}
use Rattle.plan_document.proofs.Theirs.{guest_is_party, host_is_party}
use Rattle.plan_document.specs.Saying.{is_from, is_to, may_be_done}

-- ---- ways

-- a way in some posture is the way inward or the one outward
through : (t : PlanTable) (z : ℕ) (test : Option Transfer → Bool) → test None ≡ false → (q : Posture) → test (transfer_of t z q) ≡ true
    → (test (transfer_of t z OpenIn) || test (transfer_of t z OpenOut)) ≡ true
through t z test none Closed e = absurd (cc)
through t z test none Moving e = absurd (cc)
through t z test none OpenIn e = rw e refl
through t z test none OpenOut e = either (test (transfer_of t z OpenIn)) (test (transfer_of t z OpenOut)) e
  where
    either : (a b : Bool) → b ≡ true → (a || b) ≡ true
    either true b e = refl
    either false b e = e

given : (m : ℕ) (o : Option Transfer) (way : Transfer) → given_by m o ≡ Some way → is_from m o ≡ true
given m None way e = absurd (cc)
given m (Some w) way e = by (nat_eq w.giver m) refl e
  where
    by : (own : Bool) → nat_eq w.giver m ≡ own → (if own then Some w else None) ≡ Some way → nat_eq w.giver m ≡ true
    by true is e = is
    by false is e = absurd (cc)

taken : (m : ℕ) (o : Option Transfer) (way : Transfer) (owner : Option ℕ) → o ≡ Some way → owner ≡ Some way.receiver → owner ≡ Some m → is_to m o ≡ true
taken m o way owner is receiver own =
    let same : Some way.receiver ≡ Some m = sym receiver ∙ own in
    let e : way.receiver ≡ m = cc in
    ap (is_to m) is ∙ eq-eqb way.receiver m e

-- ---- calls that are done

-- what is done may be a line
pub done_may_be : (t : PlanTable) (m : ℕ) (c : Call) (s : State) → IsSound t s → reply t s m c ≡ Done → may_be_done t m c ≡ true
done_may_be t m (Claim z) s k e = (claim_done t s m z (done_none _ _ e)).caller.is
done_may_be t m (Yield z) s k e = (yield_done t s m z (done_none _ _ e)).holder.caller.is
done_may_be t m (Release z) s k e = (release_done t s m z (done_none _ _ e)).holder.caller.is
done_may_be t m (Give z) s k e =
    let d = give_done t s m z (done_none _ _ e) in
    through t z (is_from m) refl (posture_at s z) (given m (transfer_of t z (posture_at s z)) d.way d.is)
done_may_be t m (Take z) s k e =
    let d = take_done t s m z (done_none _ _ e) in
    let c = plate_comes t s z k d.holder.caller.there d.plate in
    through t z (is_to m) refl (posture_at s z)
    (taken m (transfer_of t z (posture_at s z)) c.way (owner_of s z) c.is c.receiver d.holder.owner)
done_may_be t m (SetPose p) s k e =
    let d = pose_done t s m p (done_none _ _ e) in
    let there : nat_lt p (pose_count t) ≡ true = lt-ltb _ _ d.there in
    rw (there, eq-eqb (machine_of t p) m d.machine) refl
done_may_be t m (Inquire z) s k e = refl
done_may_be t m Stop s k e = refl
done_may_be t m Resume s k e = refl
done_may_be t m (Advance p) s k e =
    let d = advance_done t s m p (done_none _ _ e) in
    rw (lt-ltb p (place_count t) d.there, eq-eqb (keeper_of t p) m d.keeper) d.ends

pub never_done : (t : PlanTable) (m : ℕ) (c : Call) → may_be_done t m c ≡ false → (s : State) → IsSound t s → reply t s m c ≢ Done
never_done t m c never s k done = let may = done_may_be t m c s k done in cc

-- ---- reasons

two_ways : (a b : Bool) → (a || b) ≡ true → (a ≡ true) ⊎ (b ≡ true)
two_ways true b e = inl refl
two_ways false b e = inr e

gives_way : (t : PlanTable) (m z : ℕ) (q : Posture) (o : Option Transfer) → transfer_of t z q ≡ o → is_from m o ≡ true → GivesThrough t m z
gives_way t m z q None is e = absurd (cc)
gives_way t m z q (Some way) is e = (q, way, is, eqb-true way.giver m e)

takes_way : (t : PlanTable) (m z : ℕ) (q : Posture) (o : Option Transfer) → transfer_of t z q ≡ o → is_to m o ≡ true → TakesThrough t m z
takes_way t m z q None is e = absurd (cc)
takes_way t m z q (Some way) is e = (q, way, is, eqb-true way.receiver m e)

both : (a b : Bool) → (a && b) ≡ true → (a ≡ true) × (b ≡ true)
both true b e = (refl, e)
both false b e = absurd (cc)

has_zone : (t : PlanTable) (m z : ℕ) → is_party t m z ≡ true → HasZone t m z
has_zone t m z e =
    let p = both (nat_lt z (zone_count t)) _ e in
    let own = two_ways (nat_eq m (host_of t z)) (nat_eq m (guest_of t z)) p.1 in (
      ltb-true z (zone_count t) p.0,
      elim own [ inl h ↦ inl (sym (eqb-true m (host_of t z) h)) | inr g ↦ inr (sym (eqb-true m (guest_of t z) g)) ],
    )

party : (t : PlanTable) (m z : ℕ) → HasZone t m z → is_party t m z ≡ true
party t m z has =
    elim has.1 [ inl h ↦ host_is_party t m z has.0 h | inr g ↦ guest_is_party t m z has.0 g ]

own_poses : (t : PlanTable) (m p : ℕ) → has_pose t m p ≡ true → (p < pose_count t) × (machine_of t p ≡ m)
own_poses t m p e =
    let h = both (nat_lt p (pose_count t)) (nat_eq (machine_of t p) m) e in
    (ltb-true p (pose_count t) h.0, eqb-true (machine_of t p) m h.1)

keeps_end : (t : PlanTable) (m p : ℕ) → has_end t m p ≡ true → KeepsEnd t m p
keeps_end t m p e =
    let h = both (is_place_of t p m) (is_source t p || is_sink t p) e in
    let own = both (nat_lt p (place_count t)) (nat_eq (keeper_of t p) m) h.0 in
    (ltb-true p (place_count t) own.0, eqb-true (keeper_of t p) m own.1, two_ways (is_source t p) (is_sink t p) h.1)

one_end : (a b : Bool) → (a ≡ true) ⊎ (b ≡ true) → (a || b) ≡ true
one_end true b one = refl
one_end false b one = elim one [ inl e ↦ absurd (cc) | inr e ↦ e ]

has_its_end : (t : PlanTable) (m p : ℕ) → KeepsEnd t m p → has_end t m p ≡ true
has_its_end t m p k =
    rw (lt-ltb p (place_count t) k.0, eq-eqb (keeper_of t p) m k.1) (one_end (is_source t p) (is_sink t p) k.2)

pub lines_have_reasons : AcceptedLinesHaveReasons
lines_have_reasons t m = record {
  claims = has_zone t m;
  yields = has_zone t m;
  releases = has_zone t m;
  gives = λ z e. elim (two_ways (is_from m (transfer_of t z OpenIn)) (is_from m (transfer_of t z OpenOut)) e) [
    | inl i ↦ gives_way t m z OpenIn (transfer_of t z OpenIn) refl i
    | inr o ↦ gives_way t m z OpenOut (transfer_of t z OpenOut) refl o
  ];
  takes = λ z e. elim (two_ways (is_to m (transfer_of t z OpenIn)) (is_to m (transfer_of t z OpenOut)) e) [
    | inl i ↦ takes_way t m z OpenIn (transfer_of t z OpenIn) refl i
    | inr o ↦ takes_way t m z OpenOut (transfer_of t z OpenOut) refl o
  ];
  advances = keeps_end t m;
  may_advance = has_its_end t m;
  poses = own_poses t m;
  may_claim = party t m;
  may_yield = party t m;
  may_release = party t m;
  may_give = λ z g. through t z (is_from m) refl g.0 (ap (is_from m) g.2 ∙ eq-eqb g.1.giver m g.3);
  may_take = λ z g. through t z (is_to m) refl g.0 (ap (is_to m) g.2 ∙ eq-eqb g.1.receiver m g.3);
  may_pose = λ p l is. rw (lt-ltb p (pose_count t) l, eq-eqb (machine_of t p) m is) refl;
  may_inquire = λ z. refl;
  may_stop = refl;
  may_resume = refl;
}
