-- The robot is never refused.
use Rattle.cell_team.proofs.Names.{◌≡◌, ◌+◌, ◌&&◌, Bool, true, false, not, if◌then◌else◌, [], ◌∷◌, Option, Some, None, refl, sym, ap, ◌∙◌, subst, arith, ⊤, ◌||◌, Machine, Robot, Deposit, Z2, Z3, Z4, Arm1, Arm2, PressIn, PressOut, DepEntry, Posture, Closed, Moving, OpenIn, OpenOut, Call, Give, Take, Release, Inquire, PlaceFull, Done, Shown, transfer_of, same_posture, has, ModelState, zone_at, is_full, one_if, IsSound, is_owned_by, is_open, is_received_by, owns, owner_of, posture_at}
use Rattle.cell_team.proofs.Names.{given_by, reply, changed, emptied, filled, IsStartState, owned_as, take_owned, and_left, implied, full-foreign, Never, robot_steps, RobotStep, RobotProgress}
use Rattle.cell_sensors.specs.Names.{RobotScales}
use Rattle.cell_robot.specs.Names.{RobotGauges, row_at, row_of, step_after_inquiry, after_done, is_done, robot_start}
use Rattle.cell_robot.specs.declared.robot.RobotStep.TheVariants.{TurnToTable, AwaitPlate, TakePlate, ReleaseTable, TurnToLoad, ClaimPress, InspectPress, ReleasePress, GiveToPress, TurnToUnload, AwaitForged, TakeForged, ReleaseUnloaded, TurnToDeposit, ClaimDeposit, GiveToDeposit}
use Rattle.cell_control.specs.Keeping.{unposed}
use Rattle.cell_control.specs.declared.share.Share.TheVariants.{Lent, Any}
use Rattle.cell_control.proofs.lemmas.SharedZones.{AreSure, AreShared}
use Rattle.cell_robot.specs.RobotKeeps.{zones_at, has_plates}
use Rattle.cell_robot.proofs.lemmas.RobotFacts as known
use Rattle.cell_control.proofs.lemmas.Facts as facts
use Rattle.cell_team.proofs.Waiting.{Heeds, none_only, unless, claim_in, take_own, give_only, release_only}
use Rattle.cell_team.proofs.lemmas.Shares.{shared_foreign, no_both, unowned, clear_of, noted_full}
use Rattle.cell_team.proofs.InsidePress.{inside, inside-changed, inside-foreign, none_inside}
use Rattle.cell_team.proofs.lemmas.Reaching.{KnowingMore, asks_no_yield}

-- the notes agree with the arms' places, and with the plates that the robot brought into the press and hasn't fetched
pub record Noted (first second fed : Bool) (z : ModelState) : Type 0 where
  pub arm1 : is_full z Arm1 ≡ first
  pub arm2 : is_full z Arm2 ≡ second
  pub press : inside z ≡ one_if fed

pub record MoreAt (s : RobotStep) (first second fed : Bool) (z : ModelState) : Type 0 where
  pub shares : AreShared Robot z (zones_at s)
  pub plates : has_plates s first second fed ≡ true
  pub noted : Noted first second fed z

abbrev pub RobotMore : RobotProgress → ModelState → Type 0
RobotMore p z = MoreAt p.step p.notes.arm1 p.notes.arm2 p.notes.fed z

-- after a drive, or after switching a magnet
done_drive : (s : RobotStep) (p : RobotProgress) (z : ModelState) → (row_at s p).call ≡ None → MoreAt s p.notes.arm1 p.notes.arm2 p.notes.fed z → RobotMore (row_at s p).next z
done_drive TurnToTable p z e k = record { shares = k.shares; plates = k.plates; noted = k.noted }
done_drive _ p z e k = first_of (assumption, cc)

drive_on : (b : Bool) (p : RobotProgress) (z : ModelState) → (row_of p).call ≡ None → RobotMore p z → RobotMore (if b then after_done p else p) z
drive_on true p z e k = done_drive p.step p z e k
drive_on false p z e k = k

-- at the first step of a group
at_choice : (first second fed : Bool) (z : ModelState) → AreShared Robot z ((Z2, unposed Any) ∷ (Z3, unposed Lent) ∷ (Z4, unposed Lent) ∷ []) → Noted first second fed z
    → MoreAt (if second then TurnToDeposit else (if fed then TurnToUnload else (if first then TurnToLoad else TurnToTable))) first second fed z
at_choice first true fed z k n = record { shares = k; plates = refl; noted = n }
at_choice first false true z k n = record { shares = k; plates = refl; noted = n }
at_choice true false false z k n = record { shares = k; plates = refl; noted = n }
at_choice false false false z k n = record { shares = k; plates = refl; noted = n }

-- ---- the notes after a plate was taken or given

fed_is : (fed b : Bool) → fed ≡ b → one_if fed ≡ one_if b
fed_is fed b e = ap one_if e

module _ (z : ModelState) (sound : IsSound z) (first second fed : Bool) (n : Noted first second fed z) where
  took_table : posture_at z Z2 ≡ OpenOut → reply z Robot (Take Z2) ≡ Done → Noted true second fed (changed z Robot (Take Z2))
  took_table opens d =
      let moved = inside-changed z Robot (Take Z2) sound d in
      let was = n.press in
      record { arm1 = ap (λ q. has (filled z.full (transfer_of Z2 q)) Arm1) opens; arm2 = ap (λ q. has (filled z.full (transfer_of Z2 q)) Arm2) opens ∙ n.arm2; press = omega (arith, moved, was) }

  gave_press : posture_at z Z3 ≡ OpenIn → reply z Robot (Give Z3) ≡ Done → fed ≡ false → Noted false second true (changed z Robot (Give Z3))
  gave_press opens d none =
      let moved = inside-changed z Robot (Give Z3) sound d in
      let was = n.press ∙ fed_is fed false none in
      record { arm1 = ap (λ q. has (emptied z.full (given_by Robot (transfer_of Z3 q))) Arm1) opens; arm2 = ap (λ q. has (emptied z.full (given_by Robot (transfer_of Z3 q))) Arm2) opens ∙ n.arm2; press = omega (arith, moved, was) }

  took_press : posture_at z Z3 ≡ OpenOut → reply z Robot (Take Z3) ≡ Done → fed ≡ true → Noted first true false (changed z Robot (Take Z3))
  took_press opens d one =
      let moved = inside-changed z Robot (Take Z3) sound d in
      let was = n.press ∙ fed_is fed true one in
      record { arm1 = ap (λ q. has (filled z.full (transfer_of Z3 q)) Arm1) opens ∙ n.arm1; arm2 = ap (λ q. has (filled z.full (transfer_of Z3 q)) Arm2) opens; press = omega (arith, moved, was) }

  gave_deposit : posture_at z Z4 ≡ OpenIn → reply z Robot (Give Z4) ≡ Done → Noted first false fed (changed z Robot (Give Z4))
  gave_deposit opens d =
      let moved = inside-changed z Robot (Give Z4) sound d in
      let was = n.press in
      record { arm1 = ap (λ q. has (emptied z.full (given_by Robot (transfer_of Z4 q))) Arm1) opens ∙ n.arm1; arm2 = ap (λ q. has (emptied z.full (given_by Robot (transfer_of Z4 q))) Arm2) opens; press = omega (arith, moved, was) }

  -- while the robot has brought no plate, there is none in the press or in its zone
  nothing : fed ≡ false → (is_full z PressIn ≡ false) × (is_full z PressOut ≡ false) × ((zone_at z Z3).flag ≡ false)
  nothing none = none_inside (is_full z PressIn) (is_full z PressOut) (zone_at z Z3).flag (n.press ∙ fed_is fed false none)

not_fed : (first fed : Bool) → (first && not fed) ≡ true → fed ≡ false
not_fed first false e = refl
not_fed true true e = cc
not_fed false true e = cc

-- ---- after a call that is done
abbrev AfterCall : ModelState → Option Call → RobotProgress → Type 0
AfterCall z None q = ⊤
AfterCall z (Some c) q = reply z Robot c ≡ Done → RobotMore q (changed z Robot c)

after_call : (s : RobotStep) (p : RobotProgress) (z : ModelState) → IsSound z → AreSure Robot z (zones_at s) → MoreAt s p.notes.arm1 p.notes.arm2 p.notes.fed z → AfterCall z (row_at s p).call (row_at s p).next
after_call AwaitPlate p z sound f k = λ d. cc
after_call TakePlate p z sound f k = λ d. record { shares = ((take_owned z Robot Z2 d, refl), k.shares.1); plates = refl; noted = took_table z sound _ _ _ k.noted f.0.1 d }
after_call ReleaseTable p z sound f k = λ d. at_choice p.notes.arm1 p.notes.arm2 p.notes.fed (changed z Robot (Release Z2)) (tt, k.shares.1) (record { arm1 = k.noted.arm1; arm2 = k.noted.arm2; press = k.noted.press })
after_call ClaimPress p z sound f k = λ d. record { shares = (tt, (refl, k.shares.1.1)); plates = k.plates; noted = record { arm1 = k.noted.arm1; arm2 = k.noted.arm2; press = k.noted.press } }
after_call InspectPress p z sound f k = λ d. cc
after_call ReleasePress p z sound f k = λ d. record { shares = (tt, (λ o. cc, k.shares.1.1)); plates = k.plates; noted = record { arm1 = k.noted.arm1; arm2 = k.noted.arm2; press = k.noted.press } }
after_call GiveToPress p z sound f k = λ d. at_choice false p.notes.arm2 true (changed z Robot (Give Z3)) (tt, (λ o. cc, k.shares.1.1)) (gave_press z sound _ _ _ k.noted f.1.0.1 d (not_fed p.notes.arm1 p.notes.fed k.plates))
after_call AwaitForged p z sound f k = λ d. cc
after_call TakeForged p z sound f k = λ d. record { shares = (tt, ((take_owned z Robot Z3 d, refl), k.shares.1.1)); plates = refl; noted = took_press z sound _ _ _ k.noted f.1.0.1 d k.plates }
after_call ReleaseUnloaded p z sound f k = λ d. at_choice p.notes.arm1 p.notes.arm2 p.notes.fed (changed z Robot (Release Z3)) (tt, (λ o. cc, k.shares.1.1)) (record { arm1 = k.noted.arm1; arm2 = k.noted.arm2; press = k.noted.press })
after_call ClaimDeposit p z sound f k = λ d. record { shares = (tt, (k.shares.1.0, (refl, tt))); plates = k.plates; noted = record { arm1 = k.noted.arm1; arm2 = k.noted.arm2; press = k.noted.press } }
after_call GiveToDeposit p z sound f k = λ d. at_choice p.notes.arm1 false p.notes.fed (changed z Robot (Give Z4)) (tt, (k.shares.1.0, (λ o. cc, tt))) (gave_deposit z sound _ _ _ k.noted f.1.1.0.1 d)
after_call _ p z sound f k = tt

-- ---- after an inquiry that showed this
at_table : (z : ModelState) (o : Option Machine) (f : Bool) (q : Posture) (first second fed : Bool) → facts.Stands z Z2 o f q → MoreAt AwaitPlate first second fed z → MoreAt (step_after_inquiry AwaitPlate o f q) first second fed z
at_table z (Some Robot) true q first second fed s k = record { shares = ((ap (λ x. is_owned_by x Robot) s.owner, s.flag), k.shares.1); plates = refl; noted = k.noted }
at_table z o f q first second fed s k = k

before_press : (z : ModelState) (o : Option Machine) (f : Bool) (q : Posture) (first second fed : Bool) → MoreAt InspectPress first second fed z → MoreAt (step_after_inquiry InspectPress o f q) first second fed z
before_press z o f OpenIn first second fed k = record { shares = k.shares; plates = k.plates; noted = k.noted }
before_press z o f q first second fed k = record { shares = k.shares; plates = k.plates; noted = k.noted }

at_press : (z : ModelState) (o : Option Machine) (f : Bool) (q : Posture) (first second fed : Bool) → facts.Stands z Z3 o f q → MoreAt AwaitForged first second fed z → MoreAt (step_after_inquiry AwaitForged o f q) first second fed z
at_press z (Some Robot) true q first second fed s k = record { shares = (tt, ((ap (λ x. is_owned_by x Robot) s.owner, s.flag), k.shares.1.1)); plates = k.plates; noted = k.noted }
at_press z o f q first second fed s k = k

asked : (a c : Call) → Some a ≡ Some c → c ≡ a
asked a c e = cc

shown_call : (s : RobotStep) (p : RobotProgress) (c : Call) (z : ModelState) (o : Option Machine) (f : Bool) (q : Posture) (first second fed : Bool) → (row_at s p).call ≡ Some c → reply z Robot c ≡ Shown o f q → MoreAt s first second fed z → MoreAt (step_after_inquiry s o f q) first second fed z
shown_call AwaitPlate p c z o f q a b g e d k = at_table z o f q a b g (facts.stands z Robot Z2 o f q (subst (λ a. reply z Robot a ≡ Shown o f q) (asked (Inquire Z2) c e) d)) k
shown_call InspectPress p c z o f q a b g e d k = before_press z o f q a b g k
shown_call AwaitForged p c z o f q a b g e d k = at_press z o f q a b g (facts.stands z Robot Z3 o f q (subst (λ a. reply z Robot a ≡ Shown o f q) (asked (Inquire Z3) c e) d)) k
shown_call s p c z o f q a b g e d k = k

pub robot-more : (points : RobotScales) (gives : RobotGauges) → KnowingMore (robot_steps points gives) known.RobotKnows RobotMore
robot-more points gives = record {
  foreign = λ p z n c apart sound polite k. record {
    shares = shared_foreign Robot n c z (zones_at p.step) (known.robot_firm p.step) apart sound polite k.shares;
    plates = k.plates;
    noted = record {
      arm1 = full-foreign z n c Arm1 sound apart ∙ k.noted.arm1;
      arm2 = full-foreign z n c Arm2 sound apart ∙ k.noted.arm2;
      press = inside-foreign z n c sound apart ∙ k.noted.press;
    };
  };
  after_drive = λ p r act z e d k. drive_on (is_done p.step r.retracted act) p z e k;
  after_done = λ p z c e d sound f k. subst (λ o. AfterCall z o (row_of p).next) e (after_call p.step p z sound f k) d;
  after_inquiry = λ p z c o f q e d sound known k. shown_call p.step p c z o f q p.notes.arm1 p.notes.arm2 p.notes.fed e d k;
}

-- at a start at most one place of the press is full
one_of : (a b : Bool) → (a && b) ≡ false → one_if a + one_if b + one_if false ≡ one_if (a || b)
one_of true true e = cc
one_of true false e = refl
one_of false true e = refl
one_of false false e = refl

pub robot_begins : (z : ModelState) → IsStartState z → RobotMore (robot_start z) z
robot_begins z k =
    let At : ModelState → Type 0 = λ x. (is_full x PressIn && is_full x PressOut) ≡ false → RobotMore (robot_start x) x in
    subst At (sym k.same) (λ e. at_choice _ _ _ _ (tt, (λ o. cc, (λ o. cc, tt))) (record { arm1 = refl; arm2 = refl; press = one_of _ _ e })) k.start.one_in_press_at_most

pub never_yields : (s : RobotStep) (p : RobotProgress) → asks_no_yield (row_at s p).call ≡ true
never_yields AwaitPlate p = refl
never_yields _ p = refl

-- ---- what it asks

-- the robot receives nothing in the deposit belt's zone
only_gives : (q : Posture) → is_received_by (Some Robot) (transfer_of Z4 q) ≡ false
only_gives Closed = refl
only_gives _ = refl

-- a zone that is only lent to it, and has no plate, isn't its own
without_plate : (own flag : Bool) → (own ≡ true → flag ≡ true) → flag ≡ false → own ≡ false
without_plate true flag k e = no_both flag _ (k refl) e
without_plate false flag k e = refl

-- a zone that it owns is open
open_stands : (q : Posture) → is_open q ≡ true → same_posture q Moving ≡ false
open_stands Closed e = cc
open_stands Moving e = cc
open_stands OpenIn e = refl
open_stands OpenOut e = refl

-- while the robot owns z4, the deposit belt doesn't
others : (z : ModelState) → owns z Robot Z4 ≡ true → owns z Deposit Z4 ≡ false
others z own = owned_as (owner_of z Z4) Robot Deposit own

abbrev pub DepositHasRoom : ModelState → Type 0
DepositHasRoom z = posture_at z Z4 ≡ OpenIn → owns z Deposit Z4 ≡ false → is_full z DepEntry ≡ false

heeds_at : (s : RobotStep) (p : RobotProgress) (z : ModelState) → IsSound z → DepositHasRoom z → AreSure Robot z (zones_at s) → MoreAt s p.notes.arm1 p.notes.arm2 p.notes.fed z → Heeds (row_at s p).waits z Robot (row_at s p).call
heeds_at AwaitPlate p z sound space f k = none_only Never
heeds_at TakePlate p z sound space f k = take_own z Robot Z2 refl k.shares.0.0 k.shares.0.1
heeds_at ReleaseTable p z sound space f k = release_only z Robot Z2 refl k.shares.0.0 k.shares.0.1 (ap (λ q. same_posture q Moving) f.0.1) refl
heeds_at ClaimPress p z sound space f k =
    claim_in z Robot Z3 refl (without_plate (owns z Robot Z3) (zone_at z Z3).flag k.shares.1.0 (nothing z sound _ _ _ k.noted (not_fed p.notes.arm1 p.notes.fed k.plates)).2)
heeds_at InspectPress p z sound space f k = none_only Never
heeds_at ReleasePress p z sound space f k =
    release_only z Robot Z3 refl f.1.0.0 (nothing z sound _ _ _ k.noted (not_fed p.notes.arm1 p.notes.fed k.plates)).2
    (open_stands (posture_at z Z3) (implied (owns z Robot Z3) (is_open (posture_at z Z3)) (sound.guest_only_while_open Z3) f.1.0.0)) refl
heeds_at GiveToPress p z sound space f k =
    let none = nothing z sound _ _ _ k.noted (not_fed p.notes.arm1 p.notes.fed k.plates) in
    give_only Never z Robot Z3 _ refl f.1.0.0 none.2 (ap (λ q. given_by Robot (transfer_of Z3 q)) f.1.0.1)
    (noted_full _ _ k.noted.arm1 (and_left p.notes.arm1 (not p.notes.fed) k.plates)) (unless Never (is_full z PressIn) PlaceFull none.0)
heeds_at AwaitForged p z sound space f k = none_only Never
heeds_at TakeForged p z sound space f k = take_own z Robot Z3 refl k.shares.1.0.0 k.shares.1.0.1
heeds_at ReleaseUnloaded p z sound space f k = release_only z Robot Z3 refl k.shares.1.0.0 k.shares.1.0.1 (ap (λ q. same_posture q Moving) f.1.0.1) refl
heeds_at ClaimDeposit p z sound space f k = claim_in z Robot Z4 refl (unowned z Robot Z4 (posture_at z Z4) sound refl (only_gives (posture_at z Z4)) k.shares.1.1.0)
heeds_at GiveToDeposit p z sound space f k =
    let own : owns z Robot Z4 ≡ true = f.1.1.0.0 in
    let opens : posture_at z Z4 ≡ OpenIn = f.1.1.0.1 in
    give_only Never z Robot Z4 _ refl own (clear_of z Robot Z4 OpenIn sound opens refl own) (ap (λ q. given_by Robot (transfer_of Z4 q)) opens)
    (noted_full _ _ k.noted.arm2 k.plates) (unless Never (is_full z DepEntry) PlaceFull (space opens (others z own)))
heeds_at _ p z sound space f k = tt

pub robot_heeds : (p : RobotProgress) (z : ModelState) → IsSound z → DepositHasRoom z → known.RobotKnows p z → RobotMore p z → Heeds (row_of p).waits z Robot (row_of p).call
robot_heeds p z sound space f k = heeds_at p.step p z sound space f k
