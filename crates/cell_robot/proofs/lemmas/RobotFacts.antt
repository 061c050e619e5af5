-- What the robot knows of the state at each step of its program.
use Rattle.std.proofs.Common.{◌≡◌, Bool, true, false, if◌then◌else◌, List, Option, Some, None, refl, ap, subst}
use Rattle.std.specs.Prelude.{⊤}
use Rattle.cell_rules.specs.Types.{Machine, Robot, Zone, Z2, Z3, Z4, Posture, OpenIn, OpenOut, Call, Give, Release, Inquire, Done, Shown, Event, transfer_of}
use Rattle.cell_rules.specs.Names.{ModelState, IsSound, is_owned_by, is_open, is_received_by, is_of_some_pose, owns, posture_at, next, reply, changed, after, IsLegal}
use Rattle.cell_control.specs.Names.{IsReached, HoldsIn}
use Rattle.cell_control.proofs.lemmas.StepLemmas.{Knowing, reached_knows}
use Rattle.cell_control.proofs.lemmas.Facts.{found, Stands, stands, handed, entered, posed}
use Rattle.cell_control.specs.declared.share.ZoneShare.{ZoneShare}
use Rattle.cell_control.proofs.lemmas.SharedZones.{AreSure, AreFirm, are_sure_same, foreign_same}
use Rattle.cell_devices.specs.declared.act.RobotAct.{RobotAct}
use Rattle.cell_robot.specs.RobotKeeps.{zones_at}
use Rattle.cell_sensors.specs.Names.{RobotScales}
use Rattle.cell_robot.specs.Names.{RobotGauges, choice, row_at, row_of, step_after_inquiry, notes_at, after_done, is_done, arm1_zone, arm2_zone, robot_steps}
use Rattle.cell_robot.specs.declared.robot.RobotStep.{RobotStep}
use Rattle.cell_robot.specs.declared.robot.RobotStep.TheVariants.{TurnToTable, AwaitPlate, ReachTable, LeaveTable, TakePlate, ReleaseTable, TurnToLoad, ClaimPress, InspectPress, ReleasePress, ReachToLoad, LeaveLoaded, GiveToPress, TurnToUnload, AwaitForged, ReachToUnload, LeaveUnloaded, TakeForged, ReleaseUnloaded, TurnToDeposit, ClaimDeposit, ReachDeposit, LeaveDeposit, GiveToDeposit}
use Rattle.cell_robot.specs.declared.robot.RobotNotes.{RobotNotes}
use Rattle.cell_robot.specs.declared.robot.RobotProgress.{RobotProgress}
use Rattle.cell_robot.specs.RobotProgram.{RobotDemands}

-- what no other machine changes of what the step keeps
abbrev pub RobotKnows : RobotProgress → ModelState → Type 0
RobotKnows p z = AreSure Robot z (zones_at p.step)

-- the first step of a group needs to know nothing
by_notes : (first second fed : Bool) (z : ModelState) → AreSure Robot z (zones_at (if second then TurnToDeposit else (if fed then TurnToUnload else (if first then TurnToLoad else TurnToTable))))
by_notes first true fed z = ((tt, tt), ((tt, tt), ((tt, tt), tt)))
by_notes first false true z = ((tt, tt), ((tt, tt), ((tt, tt), tt)))
by_notes true false false z = ((tt, tt), ((tt, tt), ((tt, tt), tt)))
by_notes false false false z = ((tt, tt), ((tt, tt), ((tt, tt), tt)))

pub at_choice : (notes : RobotNotes) (z : ModelState) → AreSure Robot z (zones_at (choice notes))
at_choice notes z = by_notes notes.arm1 notes.arm2 notes.fed z

-- after a drive, or after switching a magnet
done_drive : (s : RobotStep) (p : RobotProgress) (z : ModelState) → (row_at s p).call ≡ None → AreSure Robot z (zones_at s) → RobotKnows (row_at s p).next z
done_drive TurnToTable p z e k = k
done_drive _ p z e k = first_of (assumption, cc)

drive_on : (b : Bool) (p : RobotProgress) (z : ModelState) → (row_of p).call ≡ None → RobotKnows p z → RobotKnows (if b then after_done p else p) z
drive_on true p z e k = done_drive p.step p z e k
drive_on false p z e k = k

-- a plate comes to the robot from the table or the press only while that zone is open outward
table_gives : (q : Posture) → is_received_by (Some Robot) (transfer_of Z2 q) ≡ true → q ≡ OpenOut
table_gives OpenOut e = refl
table_gives _ e = cc

press_gives : (q : Posture) → is_received_by (Some Robot) (transfer_of Z3 q) ≡ true → q ≡ OpenOut
press_gives OpenOut e = refl
press_gives _ e = cc

-- the deposit belt opens its zone to the robot only inward
deposit_opens : (q : Posture) → is_open q ≡ true → is_of_some_pose Z4 q ≡ true → q ≡ OpenIn
deposit_opens OpenIn e f = refl
deposit_opens _ e f = cc

-- after a call that is done
abbrev AfterCall : ModelState → Option Call → List (Zone × ZoneShare) → Type 0
AfterCall z None zones = ⊤
AfterCall z (Some c) zones = reply z Robot c ≡ Done → AreSure Robot (changed z Robot c) zones

after_call : (s : RobotStep) (p : RobotProgress) (z : ModelState) → IsSound z → AreSure Robot z (zones_at s) → AfterCall z (row_at s p).call (zones_at (row_at s p).next.step)
after_call AwaitPlate p z sound k = λ d. cc
after_call TakePlate p z sound k = λ d. ((k.0.0, k.0.1), k.1)
after_call ReleaseTable p z sound k = λ d. at_choice (row_at ReleaseTable p).next.notes (changed z Robot (Release Z2))
after_call ClaimPress p z sound k = λ d. (k.0, ((refl, tt), k.1.1))
after_call InspectPress p z sound k = λ d. cc
after_call ReleasePress p z sound k = λ d. (k.0, ((tt, tt), k.1.1))
after_call GiveToPress p z sound k = λ d. at_choice (row_at GiveToPress p).next.notes (changed z Robot (Give Z3))
after_call AwaitForged p z sound k = λ d. cc
after_call TakeForged p z sound k = λ d. (k.0, ((k.1.0.0, k.1.0.1), k.1.1))
after_call ReleaseUnloaded p z sound k = λ d. at_choice (row_at ReleaseUnloaded p).next.notes (changed z Robot (Release Z3))
after_call ClaimDeposit p z sound k = λ d. (k.0, (k.1.0, ((refl, deposit_opens (posture_at z Z4) (entered z Z4 Robot d refl) (posed z Z4 sound)), tt)))
after_call GiveToDeposit p z sound k = λ d. at_choice (row_at GiveToDeposit p).next.notes (changed z Robot (Give Z4))
after_call _ p z sound k = tt

done_call : (p : RobotProgress) (c : Call) (z : ModelState) → (row_of p).call ≡ Some c → reply z Robot c ≡ Done → IsSound z → RobotKnows p z → RobotKnows (row_of p).next (changed z Robot c)
done_call p c z e d sound k = subst (λ o. AfterCall z o (zones_at (row_of p).next.step)) e (after_call p.step p z sound k) d

-- after an inquiry that showed this
at_table : (z : ModelState) (o : Option Machine) (f : Bool) (q : Posture) → IsSound z → Stands z Z2 o f q → AreSure Robot z (zones_at (step_after_inquiry AwaitPlate o f q))
at_table z (Some Robot) true q sound k = ((ap (λ x. is_owned_by x Robot) k.owner, table_gives (posture_at z Z2) (handed z Z2 Robot sound k.owner k.flag)), ((tt, tt), ((tt, tt), tt)))
at_table z o f q sound k = ((tt, tt), ((tt, tt), ((tt, tt), tt)))

before_press : (z : ModelState) (o : Option Machine) (f : Bool) (q : Posture) → owns z Robot Z3 ≡ true → Stands z Z3 o f q → AreSure Robot z (zones_at (step_after_inquiry InspectPress o f q))
before_press z o f OpenIn own k = ((tt, tt), ((own, k.posture), ((tt, tt), tt)))
before_press z o f q own k = ((tt, tt), ((own, tt), ((tt, tt), tt)))

at_press : (z : ModelState) (o : Option Machine) (f : Bool) (q : Posture) → IsSound z → Stands z Z3 o f q → AreSure Robot z (zones_at (step_after_inquiry AwaitForged o f q))
at_press z (Some Robot) true q sound k = ((tt, tt), ((ap (λ x. is_owned_by x Robot) k.owner, press_gives (posture_at z Z3) (handed z Z3 Robot sound k.owner k.flag)), ((tt, tt), tt)))
at_press z o f q sound k = ((tt, tt), ((tt, tt), ((tt, tt), tt)))

asked : (a c : Call) → Some a ≡ Some c → c ≡ a
asked a c e = cc

shown_call : (s : RobotStep) (p : RobotProgress) (c : Call) (z : ModelState) (o : Option Machine) (f : Bool) (q : Posture) → (row_at s p).call ≡ Some c → reply z Robot c ≡ Shown o f q → IsSound z → AreSure Robot z (zones_at s) → AreSure Robot z (zones_at (step_after_inquiry s o f q))
shown_call AwaitPlate p c z o f q e d sound k = at_table z o f q sound (stands z Robot Z2 o f q (subst (λ a. reply z Robot a ≡ Shown o f q) (asked (Inquire Z2) c e) d))
shown_call InspectPress p c z o f q e d sound k = before_press z o f q k.1.0.0 (stands z Robot Z3 o f q (subst (λ a. reply z Robot a ≡ Shown o f q) (asked (Inquire Z3) c e) d))
shown_call AwaitForged p c z o f q e d sound k = at_press z o f q sound (stands z Robot Z3 o f q (subst (λ a. reply z Robot a ≡ Shown o f q) (asked (Inquire Z3) c e) d))
shown_call s p c z o f q e d sound k = k

-- its postures are of zones that it holds
pub robot_firm : (s : RobotStep) → AreFirm Robot (zones_at s)
robot_firm ReachTable = (refl, (refl, (refl, tt)))
robot_firm _ = (refl, (refl, (refl, tt)))

pub robot-knowing : (points : RobotScales) (gives : RobotGauges) → Knowing (robot_steps points gives) RobotKnows
robot-knowing points gives = record {
  foreign = λ p z n c apart sound k. are_sure_same Robot z (next z n c) (foreign_same Robot n c z apart sound) (zones_at p.step) (robot_firm p.step) k;
  after_drive = λ p r act z e d k. drive_on (is_done p.step r.retracted act) p z e k;
  after_done = λ p z c e d sound k. done_call p c z e d sound k;
  after_inquiry = λ p z c o f q e d sound k. shown_call p.step p c z o f q e d sound k;
  same_for = λ p z w same k. are_sure_same Robot z w same (zones_at p.step) (robot_firm p.step) k;
}

-- so in each step the robot holds the zones of its arms
pub first_holds : (s : RobotStep) (o : ModelState) (h : List Event) → IsLegal o h → AreSure Robot (after o h) (zones_at s) → HoldsIn Robot o h (arm1_zone s)
first_holds ReachTable o h legal k = found o h Robot Z2 OpenOut legal k.0
first_holds LeaveTable o h legal k = found o h Robot Z2 OpenOut legal k.0
first_holds ReachToLoad o h legal k = found o h Robot Z3 OpenIn legal k.1.0
first_holds LeaveLoaded o h legal k = found o h Robot Z3 OpenIn legal k.1.0
first_holds _ o h legal k = tt

pub second_holds : (s : RobotStep) (o : ModelState) (h : List Event) → IsLegal o h → AreSure Robot (after o h) (zones_at s) → HoldsIn Robot o h (arm2_zone s)
second_holds ReachToUnload o h legal k = found o h Robot Z3 OpenOut legal k.1.0
second_holds LeaveUnloaded o h legal k = found o h Robot Z3 OpenOut legal k.1.0
second_holds ReachDeposit o h legal k = found o h Robot Z4 OpenIn legal k.1.1.0
second_holds LeaveDeposit o h legal k = found o h Robot Z4 OpenIn legal k.1.1.0
second_holds _ o h legal k = tt

pub meets-demands : (points : RobotScales) (gives : RobotGauges) (opening : ModelState) (seen : List Event) (p : RobotProgress) (act : RobotAct) → IsSound opening → IsLegal opening seen → IsReached (robot_steps points gives) opening seen p → RobotDemands p.step act opening seen
meets-demands points gives opening seen p act sound legal r =
    let known = reached_knows (robot_steps points gives) RobotKnows (robot-knowing points gives) (λ z. at_choice (notes_at z) z) opening seen p sound legal r in
    record { arm1 = λ on. first_holds p.step opening seen legal known; arm2 = λ on. second_holds p.step opening seen legal known }
