-- The deposit belt is never refused, and leaves room for a plate of the robot.
use Rattle.cell_team.proofs.Names.{◌≡◌, Bool, true, false, not, if◌then◌else◌, [], ◌∷◌, Option, Some, None, refl, sym, ap, ◌∙◌, subst, ⊤, ◌||◌, then_some, Deposit, Z4, Z5, DepEntry, DepEnd, Closed, Moving, OpenIn, OpenOut, Landing, Running, Offering, Call, Claim, Give, Take, PlaceFull, Done, transfer_of, same_posture, has, ModelState, is_full, IsSound, owns, posture_at, given_by, runs_onto_plate, reply, changed, emptied, filled, IsStartState, take_owned, and_left, and_right}
use Rattle.cell_team.proofs.Names.{and_both, full-foreign, UntilRoom, deposit_start, deposit_steps, DepositStep, DepositProgress}
use Rattle.cell_belts_crane.specs.Names.{with_plates, by_plates}
use Rattle.cell_belts_crane.specs.declared.deposit.DepositStep.TheVariants.{ClaimEntry, PoseLanding, ReleaseEntry, TakePlate, StartRun, RunIn, RunOut, MoveOn, PoseOffering, GivePlate, ClaimBack, ClaimExit}
use Rattle.cell_belts_crane.specs.BeltShares.{are_there}
use Rattle.cell_belts_crane.specs.DepositProgram.{row_at, row_of, keeps_at, zones_at, after_done}
use Rattle.cell_belts_crane.proofs.lemmas.DepositFacts as known
use Rattle.cell_control.specs.Keeping.{unposed}
use Rattle.cell_control.specs.declared.share.Share.TheVariants.{Clear}
use Rattle.cell_control.proofs.lemmas.SharedZones.{AreSure, AreShared}
use Rattle.cell_team.proofs.Waiting.{Heeds, Clears, HasRoom, may, has_room, first_claim, claim_back, take_back, give_only, release_only, pose_only, advance_only}
use Rattle.cell_team.proofs.lemmas.Shares.{shared_foreign, no_both, unowned, free_of, claimed_clear, noted_empty, noted_full}
use Rattle.cell_team.proofs.lemmas.Reaching.{KnowingMore, asks_no_yield}

-- what the step keeps, if nobody hands over an empty zone
pub record MoreAt (s : DepositStep) (entry last : Bool) (z : ModelState) : Type 0 where
  pub shares : AreShared Deposit z (zones_at s)
  pub plates : are_there (keeps_at s).plates entry last ≡ true
  pub entry_noted : is_full z DepEntry ≡ entry
  pub last_noted : is_full z DepEnd ≡ last

abbrev pub DepositMore : DepositProgress → ModelState → Type 0
DepositMore p z = MoreAt p.step p.entry p.last z

-- after a drive
done_drive : (s : DepositStep) (p : DepositProgress) (z : ModelState) → (row_at s p).call ≡ None → MoreAt s p.entry p.last z → DepositMore (row_at s p).next z
done_drive RunIn p z e k = record { shares = k.shares; plates = k.plates; entry_noted = k.entry_noted; last_noted = k.last_noted }
done_drive RunOut p z e k = record { shares = k.shares; plates = k.plates; entry_noted = k.entry_noted; last_noted = k.last_noted }
done_drive _ p z e k = cc

drive_on : (b : Bool) (p : DepositProgress) (z : ModelState) → (row_of p).call ≡ None → DepositMore p z → DepositMore (if b then p else after_done p) z
drive_on true p z e k = k
drive_on false p z e k = done_drive p.step p z e k

at_choice : (entry last : Bool) (p : DepositProgress) (z : ModelState) → AreShared Deposit z ((Z4, unposed Clear) ∷ (Z5, unposed Clear) ∷ []) → is_full z DepEntry ≡ entry → is_full z DepEnd ≡ last → MoreAt (by_plates (with_plates p entry last)) entry last z
at_choice entry true p z k e l = record { shares = k; plates = refl; entry_noted = e; last_noted = l }
at_choice true false p z k e l = record { shares = k; plates = refl; entry_noted = e; last_noted = l }
at_choice false false p z k e l = record { shares = k; plates = refl; entry_noted = e; last_noted = l }

-- a plate comes to the entry, and one leaves the end
abbrev OnBelt : ModelState → Bool → Bool → Type 0
OnBelt z entry last = (is_full z DepEntry ≡ entry) × (is_full z DepEnd ≡ last)

taken_in : (z : ModelState) → posture_at z Z4 ≡ OpenIn → OnBelt (changed z Deposit (Take Z4)) true (is_full z DepEnd)
taken_in z opens = (ap (λ q. has (filled z.full (transfer_of Z4 q)) DepEntry) opens, ap (λ q. has (filled z.full (transfer_of Z4 q)) DepEnd) opens)

given_out : (z : ModelState) → posture_at z Z5 ≡ OpenOut → OnBelt (changed z Deposit (Give Z5)) (is_full z DepEntry) false
given_out z opens = (ap (λ q. has (emptied z.full (given_by Deposit (transfer_of Z5 q))) DepEntry) opens, ap (λ q. has (emptied z.full (given_by Deposit (transfer_of Z5 q))) DepEnd) opens)

-- after a call that is done
abbrev AfterCall : ModelState → Option Call → DepositProgress → Type 0
AfterCall z None q = ⊤
AfterCall z (Some c) q = reply z Deposit c ≡ Done → DepositMore q (changed z Deposit c)

after_call : (s : DepositStep) (p : DepositProgress) (z : ModelState) → IsSound z → AreSure Deposit z (zones_at s) → MoreAt s p.entry p.last z → AfterCall z (row_at s p).call (row_at s p).next
after_call ClaimEntry p z sound f k = λ d. record { shares = ((refl, claimed_clear z Deposit Z4 sound d), k.shares.1); plates = refl; entry_noted = k.entry_noted; last_noted = k.last_noted }
after_call ClaimExit p z sound f k = λ d. at_choice p.entry p.last p (changed z Deposit (Claim Z5)) (k.shares.0, ((refl, claimed_clear z Deposit Z5 sound d), tt)) k.entry_noted k.last_noted
after_call ReleaseEntry p z sound f k = λ d. record { shares = (λ o. cc, k.shares.1); plates = k.plates; entry_noted = k.entry_noted; last_noted = k.last_noted }
after_call TakePlate p z sound f k = λ d.
    let places = taken_in z f.0.1 in
    record { shares = ((take_owned z Deposit Z4 d, refl), k.shares.1); plates = and_right (not p.entry) (not p.last) k.plates; entry_noted = places.0; last_noted = places.1 ∙ k.last_noted }
after_call RunIn p z sound f k = tt
after_call RunOut p z sound f k = tt
after_call MoveOn p z sound f k = λ d. record { shares = k.shares; plates = refl; entry_noted = refl; last_noted = refl }
after_call GivePlate p z sound f k = λ d.
    let places = given_out z f.1.0.1 in
    record { shares = (k.shares.0, (λ o. cc, tt)); plates = refl; entry_noted = places.0 ∙ k.entry_noted; last_noted = places.1 }
after_call ClaimBack p z sound f k = λ d. at_choice p.entry p.last p (changed z Deposit (Claim Z5)) (k.shares.0, ((refl, claimed_clear z Deposit Z5 sound d), tt)) k.entry_noted k.last_noted
after_call _ p z sound f k = λ d. record { shares = k.shares; plates = k.plates; entry_noted = k.entry_noted; last_noted = k.last_noted }

pub deposit-more : KnowingMore deposit_steps known.DepositKnows DepositMore
deposit-more = record {
  foreign = λ p z n c apart sound polite k. record {
    shares = shared_foreign Deposit n c z (zones_at p.step) (known.deposit_firm p.step) apart sound polite k.shares;
    plates = k.plates;
    entry_noted = full-foreign z n c DepEntry sound apart ∙ k.entry_noted;
    last_noted = full-foreign z n c DepEnd sound apart ∙ k.last_noted;
  };
  after_drive = λ p s act z e d k. drive_on act.belt p z e k;
  after_done = λ p z c e d sound f k. subst (λ o. AfterCall z o (row_of p).next) e (after_call p.step p z sound f k) d;
  after_inquiry = λ p z c owner flag posture e d sound f k. k;
}

pub deposit_begins : (z : ModelState) → IsStartState z → DepositMore (deposit_start z) z
deposit_begins z k = subst (λ x. DepositMore (deposit_start x) x) (sym k.same) (record { shares = ((λ o. cc, refl), ((λ o. cc, refl), tt)); plates = refl; entry_noted = refl; last_noted = refl })

pub never_yields : (s : DepositStep) (p : DepositProgress) → asks_no_yield (row_at s p).call ≡ true
never_yields ClaimEntry p = refl
never_yields _ p = refl

-- ---- what it asks

clears : (z : ModelState) → AreShared Deposit z ((Z4, unposed Clear) ∷ (Z5, unposed Clear) ∷ []) → Clears z Deposit
clears z k Z4 e = k.0
clears z k Z5 e = k.1.0
clears z k y e = cc

room : (z : ModelState) → is_full z DepEntry ≡ false → HasRoom z Deposit Landing
room z empty Z4 e = empty
room z empty y e = cc

runs_clear : (z : ModelState) → is_full z DepEnd ≡ false → runs_onto_plate z Deposit Running ≡ None
runs_clear z empty = ap (λ b. then_some (b || false) PlaceFull) empty

heeds_at : (s : DepositStep) (p : DepositProgress) (z : ModelState) → IsSound z → AreSure Deposit z (zones_at s) → MoreAt s p.entry p.last z → Heeds (row_at s p).waits z Deposit (row_at s p).call
heeds_at ClaimEntry p z sound f k = let mine = unowned z Deposit Z4 Closed sound k.shares.0.1 refl k.shares.0.0 in first_claim z Deposit Z4 refl refl mine (free_of z Z4 sound k.shares.0.1 mine)
heeds_at ClaimExit p z sound f k = let mine = unowned z Deposit Z5 Closed sound k.shares.1.0.1 refl k.shares.1.0.0 in first_claim z Deposit Z5 refl refl mine (free_of z Z5 sound k.shares.1.0.1 mine)
heeds_at PoseLanding p z sound f k = pose_only z Deposit Landing refl (clears z k.shares) refl (room z (noted_empty _ _ k.entry_noted (and_left (not p.entry) (not p.last) k.plates))) refl
heeds_at ReleaseEntry p z sound f k = release_only z Deposit Z4 refl k.shares.0.0 k.shares.0.1 (ap (λ q. same_posture q Moving) f.0.1) refl
heeds_at TakePlate p z sound f k = take_back z Deposit Z4 refl k.shares.0
heeds_at StartRun p z sound f k = pose_only z Deposit Running refl (clears z k.shares) refl (has_room z Deposit Running refl) (runs_clear z (noted_empty _ _ k.last_noted (and_right p.entry (not p.last) k.plates)))
heeds_at RunIn p z sound f k = tt
heeds_at RunOut p z sound f k = tt
heeds_at MoveOn p z sound f k =
    advance_only z Deposit (DepEntry, DepEnd) refl refl (and_both _ _ (ap (λ q. same_posture q Moving) f.0.1) (ap (λ q. same_posture q Moving) f.1.0.1))
    (noted_full _ _ k.entry_noted (and_left p.entry (not p.last) k.plates)) (noted_empty _ _ k.last_noted (and_right p.entry (not p.last) k.plates))
heeds_at PoseOffering p z sound f k = pose_only z Deposit Offering refl (clears z k.shares) refl (has_room z Deposit Offering refl) refl
heeds_at GivePlate p z sound f k = give_only UntilRoom z Deposit Z5 _ refl k.shares.1.0.0 k.shares.1.0.1 (ap (λ q. given_by Deposit (transfer_of Z5 q)) f.1.0.1) (noted_full _ _ k.last_noted k.plates) (may UntilRoom _ _ refl)
heeds_at ClaimBack p z sound f k = claim_back z Deposit Z5 refl refl (unowned z Deposit Z5 OpenOut sound f.1.0.1 refl k.shares.1.0)

pub deposit_heeds : (p : DepositProgress) (z : ModelState) → IsSound z → known.DepositKnows p z → DepositMore p z → Heeds (row_of p).waits z Deposit (row_of p).call
deposit_heeds p z sound f k = heeds_at p.step p z sound f k

-- while the robot may give a plate, the belt's entry is empty
room_at : (s : DepositStep) (entry last : Bool) (z : ModelState) → MoreAt s entry last z → posture_at z Z4 ≡ OpenIn → owns z Deposit Z4 ≡ false → is_full z DepEntry ≡ false
room_at ClaimEntry entry last z k opens away = let shut : posture_at z Z4 ≡ Closed = k.shares.0.1 in cc
room_at TakePlate entry last z k opens away = noted_empty _ _ k.entry_noted (and_left (not entry) (not last) k.plates)
room_at _ entry last z k opens away = no_both (owns z Deposit Z4) _ k.shares.0.0 away

pub deposit_room : (p : DepositProgress) (z : ModelState) → DepositMore p z → posture_at z Z4 ≡ OpenIn → owns z Deposit Z4 ≡ false → is_full z DepEntry ≡ false
deposit_room p z k opens away = room_at p.step p.entry p.last z k opens away
