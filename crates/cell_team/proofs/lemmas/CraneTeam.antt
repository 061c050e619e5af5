-- The crane is never refused.
use Rattle.cell_team.proofs.Names.{◌≡◌, ℕ, ℤ, Bool, true, false, if◌then◌else◌, [], ◌∷◌, Option, Some, None, refl, sym, ap, ◌∙◌, subst, ⊤, Machine, Feed, Crane, Z5, Z6, FeedEntry, Posture, Closed, Moving, OpenIn, Call, Inquire, PlaceFull, Done, Shown, transfer_of, same_posture, Scale, has, ModelState, is_full, IsSound, implies, is_owned_by, is_received_by, owns, owner_of, posture_at, given_by, reply, changed, filled, IsStartState, owned_as, take_owned, full-foreign, Never, first_step}
use Rattle.cell_team.proofs.Names.{crane_start, crane_steps, CraneStep, CraneProgress}
use Rattle.cell_types.specs.declared.place.Place.TheVariants.{Crane as OnCrane}
use Rattle.cell_belts_crane.specs.Names.{row_at, row_of, step_after_inquiry, after_done, is_done}
use Rattle.cell_belts_crane.specs.declared.crane.CraneStep.TheVariants.{RaiseToFetch, AwaitPlate, ReleaseDeposit, ClaimFeed, TakePlate, GivePlate}
use Rattle.cell_belts_crane.proofs.lemmas.CraneFacts as known
use Rattle.cell_control.proofs.lemmas.Facts as facts
use Rattle.cell_control.specs.Keeping.{unposed}
use Rattle.cell_control.specs.declared.share.Share.TheVariants.{Lent, Any}
use Rattle.cell_control.proofs.lemmas.SharedZones.{AreSure, AreShared}
use Rattle.cell_belts_crane.specs.CraneProgram.{keeps_at, zones_at}
use Rattle.cell_team.proofs.Waiting.{Heeds, none_only, unless, claim_in, take_own, give_only, release_only}
use Rattle.cell_team.proofs.lemmas.Shares.{shared_foreign, unowned, clear_of}
use Rattle.cell_team.proofs.lemmas.Reaching.{KnowingMore, asks_no_yield}

-- what the step keeps, if nobody hands over an empty zone
pub record MoreAt (s : CraneStep) (z : ModelState) : Type 0 where
  pub shares : AreShared Crane z (zones_at s)
  pub plate : implies (keeps_at s).plate (is_full z OnCrane) ≡ true

abbrev pub CraneMore : CraneProgress → ModelState → Type 0
CraneMore p z = MoreAt p.step z

-- after a drive, or after switching the magnet
done_drive : (s : CraneStep) (p : CraneProgress) (z : ModelState) → (row_at s p).call ≡ None → MoreAt s z → CraneMore (row_at s p).next z
done_drive RaiseToFetch p z e k = record { shares = k.shares; plate = k.plate }
done_drive _ p z e k = first_of (assumption, cc)

drive_on : (b : Bool) (p : CraneProgress) (z : ModelState) → (row_of p).call ≡ None → CraneMore p z → CraneMore (if b then after_done p else p) z
drive_on true p z e k = done_drive p.step p z e k
drive_on false p z e k = k

-- after a call that is done
abbrev AfterCall : ModelState → Option Call → CraneStep → Type 0
AfterCall z None s = ⊤
AfterCall z (Some c) s = reply z Crane c ≡ Done → MoreAt s (changed z Crane c)

after_call : (s : CraneStep) (p : CraneProgress) (z : ModelState) → IsSound z → AreSure Crane z (zones_at s) → MoreAt s z → AfterCall z (row_at s p).call (row_at s p).next.step
after_call AwaitPlate p z sound f k = λ d. cc
after_call TakePlate p z sound f k = λ d. record { shares = ((take_owned z Crane Z5 d, refl), k.shares.1); plate = ap (λ q. has (filled z.full (transfer_of Z5 q)) OnCrane) f.0.1 }
after_call ReleaseDeposit p z sound f k = λ d. record { shares = (tt, k.shares.1); plate = k.plate }
after_call ClaimFeed p z sound f k = λ d. record { shares = (tt, (refl, tt)); plate = k.plate }
after_call GivePlate p z sound f k = λ d. record { shares = (tt, (λ o. cc, tt)); plate = refl }
after_call _ p z sound f k = tt

-- after an inquiry that showed this
at_deposit : (z : ModelState) (o : Option Machine) (f : Bool) (q : Posture) → facts.Stands z Z5 o f q → MoreAt AwaitPlate z → MoreAt (step_after_inquiry AwaitPlate o f) z
at_deposit z (Some Crane) true q s k = record { shares = ((ap (λ x. is_owned_by x Crane) s.owner, s.flag), k.shares.1); plate = refl }
at_deposit z o f q s k = k

shown_call : (s : CraneStep) (p : CraneProgress) (c : Call) (z : ModelState) (o : Option Machine) (f : Bool) (q : Posture) → (row_at s p).call ≡ Some c → reply z Crane c ≡ Shown o f q → MoreAt s z → MoreAt (step_after_inquiry s o f) z
shown_call AwaitPlate p (Inquire Z5) z o f q e d k = at_deposit z o f q (facts.stands z Crane Z5 o f q d) k
shown_call AwaitPlate p c z o f q e d k = cc
shown_call s p c z o f q e d k = k

pub crane-more : (points : Scale) (gives : ℕ → ℤ → Type 0) → KnowingMore (crane_steps points gives) known.CraneKnows CraneMore
crane-more points gives = record {
  foreign = λ p z n c apart sound polite k. record {
    shares = shared_foreign Crane n c z (zones_at p.step) (known.crane_firm p.step) apart sound polite k.shares;
    plate = ap (λ b. implies (keeps_at p.step).plate b) (full-foreign z n c OnCrane sound apart) ∙ k.plate;
  };
  after_drive = λ p r act z e d k. drive_on (is_done p.step r.high act) p z e k;
  after_done = λ p z c e d sound f k. subst (λ o. AfterCall z o (row_of p).next.step) e (after_call p.step p z sound f k) d;
  after_inquiry = λ p z c o f q e d sound known k. shown_call p.step p c z o f q e d k;
}

begins : (loaded : Bool) (z : ModelState) → is_full z OnCrane ≡ loaded → AreShared Crane z ((Z5, unposed Any) ∷ (Z6, unposed Lent) ∷ []) → MoreAt (first_step loaded) z
begins true z e k = record { shares = k; plate = e }
begins false z e k = record { shares = k; plate = refl }

pub crane_begins : (z : ModelState) → IsStartState z → CraneMore (crane_start z) z
crane_begins z k = begins (is_full z OnCrane) z refl (subst (λ x. AreShared Crane x ((Z5, unposed Any) ∷ (Z6, unposed Lent) ∷ [])) (sym k.same) (tt, (λ o. cc, tt)))

pub never_yields : (s : CraneStep) (p : CraneProgress) → asks_no_yield (row_at s p).call ≡ true
never_yields AwaitPlate p = refl
never_yields _ p = refl

-- ---- what it asks

-- the crane receives nothing in the feed belt's zone
only_gives : (q : Posture) → is_received_by (Some Crane) (transfer_of Z6 q) ≡ false
only_gives Closed = refl
only_gives _ = refl

-- while the crane owns z6, feed doesn't
others : (z : ModelState) → owns z Crane Z6 ≡ true → owns z Feed Z6 ≡ false
others z own = owned_as (owner_of z Z6) Crane Feed own

abbrev pub FeedHasRoom : ModelState → Type 0
FeedHasRoom z = posture_at z Z6 ≡ OpenIn → owns z Feed Z6 ≡ false → is_full z FeedEntry ≡ false

heeds_at : (s : CraneStep) (p : CraneProgress) (z : ModelState) → IsSound z → FeedHasRoom z → AreSure Crane z (zones_at s) → MoreAt s z → Heeds (row_at s p).waits z Crane (row_at s p).call
heeds_at AwaitPlate p z sound space f k = none_only Never
heeds_at TakePlate p z sound space f k = take_own z Crane Z5 refl k.shares.0.0 k.shares.0.1
heeds_at ReleaseDeposit p z sound space f k = release_only z Crane Z5 refl k.shares.0.0 k.shares.0.1 (ap (λ q. same_posture q Moving) f.0.1) refl
heeds_at ClaimFeed p z sound space f k = claim_in z Crane Z6 refl (unowned z Crane Z6 (posture_at z Z6) sound refl (only_gives (posture_at z Z6)) k.shares.1.0)
heeds_at GivePlate p z sound space f k =
    let own : owns z Crane Z6 ≡ true = f.1.0.0 in
    let opens : posture_at z Z6 ≡ OpenIn = f.1.0.1 in
    give_only Never z Crane Z6 _ refl own (clear_of z Crane Z6 OpenIn sound opens refl own) (ap (λ q. given_by Crane (transfer_of Z6 q)) opens)
    k.plate (unless Never (is_full z FeedEntry) PlaceFull (space opens (others z own)))
heeds_at _ p z sound space f k = tt

pub crane_heeds : (p : CraneProgress) (z : ModelState) → IsSound z → FeedHasRoom z → known.CraneKnows p z → CraneMore p z → Heeds (row_of p).waits z Crane (row_of p).call
crane_heeds p z sound space f k = heeds_at p.step p z sound space f k
