-- The invariant of the crane's side: it holds in every state of a run.
use Rattle.cell_plant.proofs.Names.{◌≡◌, ℤ, pos, ◌<ℤ◌, ◌≤ℤ◌, Bool, true, false, not, ◌&&◌, ◌||◌, ◌⊎◌, inl, inr, Option, Some, None, Result, Ok, refl, sym, ap, ◌∙◌, if◌then◌else◌, arith, ⊤, ints, clamps, Machine, Crane, Call, Reply, Scale, IsNear, IsReading, CraneSense, DrivesTo, Motor, Off, Plus, Minus, CraneAct, ModelState, is_full, changed, LineFault, Turned, Turns, CtlFault, row_at, row_of, step_after_inquiry, after_done}
use Rattle.cell_plant.proofs.Names.{first_step, crane_start, is_done, gripper_stop, Senses, Acts, crane_steps, CraneStep, RaiseToFetch, TravelToDeposit, AwaitPlate, LowerToPlate, GripPlate, RaiseWithPlate, TravelToFeed, ClaimFeed, LowerToFeed, DropPlate, RaiseFromFeed, CraneProgress, CraneReading, is_off, travels, travel_for, CraneKnows, crane_begins, crane-knowing, act_or_rest, Keeping, turn_tells, IsAxisScale, IsWithin}
use Rattle.cell_plant.proofs.Names.{crane_end, gripper_end, crane_at_start, moved_to, moved_axis, set_axis, set_crane, crane_rig, IsOn, IsGripperDown, IsOverDeposit, IsOverFeed, LetsGo, CraneMayLetGo, DrivesPast, ErrandDemands, Axis, CranePlant, gripper_start, CraneShows, TravelsHigh, CraneHasDeposit, CraneHasFeed}
use Rattle.cell_control.proofs.lemmas.SharedZones.{AreSure}
use Rattle.cell_belts_crane.specs.CraneProgram.{zones_at}
use Rattle.cell_types.specs.declared.place.Place.TheVariants.{Crane as OnCrane}
use Rattle.cell_plant.specs.Errands.{errand_of}
use Rattle.cell_plant.proofs.Magnets.{still_on}
use Rattle.cell_plant.proofs.Stops.{reading_near, StopsWithin, not_on, off_within, driven_within}
use Rattle.cell_plant.proofs.WithinLemmas.{moved_within}

-- how high the gripper is at a step: high enough to travel, close above the feed belt, or anywhere
pub data Level : Type 0 where
  Up : Level
  Close : Level
  Any : Level

abbrev level_of : CraneStep → Level
level_of LowerToPlate = Any
level_of GripPlate = Any
level_of RaiseWithPlate = Any
level_of LowerToFeed = Any
level_of DropPlate = Close
level_of RaiseFromFeed = Any
level_of _ = Up

abbrev IsAt : Level → ℤ → Type 0
IsAt Up h = pos 850 ≤ℤ h
IsAt Close h = (pos 250 ≤ℤ h) × (h ≤ℤ pos 350)
IsAt Any h = ⊤

-- after its motor's command it will stay there
abbrev IsToldAt : Level → Axis → Type 0
IsToldAt Up g = (pos 850 ≤ℤ g.position) × (g.motor ≡ Minus → pos 900 <ℤ g.position)
IsToldAt Close g = ((pos 250 ≤ℤ g.position) × (g.position ≤ℤ pos 350)) × (g.motor ≡ Off)
IsToldAt Any g = ⊤

level_off : (l : Level) (g : Axis) → g.motor ≡ Off → IsAt l g.position → IsToldAt l g
level_off Up g e k = (k, λ m. cc)
level_off Close g e k = (k, e)
level_off Any g e k = tt

level_told : (l : Level) (g : Axis) → IsToldAt l g → IsAt l g.position
level_told Up g k = k.0
level_told Close g k = k.0
level_told Any g k = tt

up_moved : (m : Motor) (h : ℤ) → pos 850 ≤ℤ h → (m ≡ Minus → pos 900 <ℤ h) → pos 850 ≤ℤ moved_to gripper_end h m
up_moved Off h a b = a
up_moved Plus h a b = omega (arith, ints, clamps)
up_moved Minus h a b = let over = b refl in omega (arith, ints, clamps)

level_moved : (l : Level) (g : Axis) → IsToldAt l g → IsAt l (moved_axis gripper_end g).position
level_moved Up g k = up_moved g.motor g.position k.0 k.1
level_moved Close g k = rw k.1 k.0
level_moved Any g k = tt

-- the crane's position at a step
pub data Stand : Type 0 where
  OverDeposit : Stand
  OverFeed : Stand
  Anywhere : Stand

abbrev stand_of : CraneStep → Stand
stand_of AwaitPlate = OverDeposit
stand_of LowerToPlate = OverDeposit
stand_of GripPlate = OverDeposit
stand_of RaiseWithPlate = OverDeposit
stand_of ClaimFeed = OverFeed
stand_of LowerToFeed = OverFeed
stand_of DropPlate = OverFeed
stand_of RaiseFromFeed = OverFeed
stand_of _ = Anywhere

abbrev IsOver : Stand → ℤ → Type 0
IsOver OverDeposit x = x ≤ℤ pos 10
IsOver OverFeed x = pos 1990 ≤ℤ x
IsOver Anywhere x = ⊤

abbrev IsToldOver : Stand → Axis → Type 0
IsToldOver OverDeposit a = (a.position ≤ℤ pos 10) × (a.motor ≡ Off)
IsToldOver OverFeed a = (pos 1990 ≤ℤ a.position) × (a.motor ≡ Off)
IsToldOver Anywhere a = ⊤

stand_off : (p : Stand) (a : Axis) → a.motor ≡ Off → IsOver p a.position → IsToldOver p a
stand_off OverDeposit a e k = (k, e)
stand_off OverFeed a e k = (k, e)
stand_off Anywhere a e k = tt

stand_told : (p : Stand) (a : Axis) → IsToldOver p a → IsOver p a.position
stand_told OverDeposit a k = k.0
stand_told OverFeed a k = k.0
stand_told Anywhere a k = tt

stand_moved : (p : Stand) (a : Axis) → IsToldOver p a → IsOver p (moved_axis crane_end a).position
stand_moved OverDeposit a k = rw k.1 k.0
stand_moved OverFeed a k = rw k.1 k.0
stand_moved Anywhere a k = tt

-- what its step knows of the interlock; its magnet is as last commanded, gripper and crane are where the step needs
-- them, and it travels only in steps that travel
pub record CraneHas (Height : Level → Axis → Type 0) (Place : Stand → Axis → Type 0) (z : ModelState) (p : CraneProgress) (c : CranePlant) : Type 0 where
  pub knows : CraneKnows p z
  pub magnet : c.magnet ≡ p.magnet
  pub gripper_within : IsWithin gripper_end c.gripper.position
  pub travel_within : IsWithin crane_end c.travel.position
  pub level : Height (level_of p.step) c.gripper
  pub stand : Place (stand_of p.step) c.travel
  pub travelling : IsOn c.travel → travels p.step ≡ true

-- between turns, and after its motors' commands
abbrev pub CraneInv : ModelState → CraneProgress → CranePlant → Type 0
CraneInv = CraneHas (λ l g. IsAt l g.position) (λ s a. IsOver s a.position)

abbrev pub CraneTold : ModelState → CraneProgress → CranePlant → Type 0
CraneTold = CraneHas IsToldAt IsToldOver

-- at the start
first_level : (loaded : Bool) → IsAt (level_of (first_step loaded)) gripper_start
first_level true = omega (arith, ints)
first_level _ = omega (arith, ints)

first_stand : (loaded : Bool) (x : ℤ) → IsOver (stand_of (first_step loaded)) x
first_stand true x = tt
first_stand false x = tt

pub crane-start : (s : ModelState) → CraneInv s (crane_start s) (crane_at_start s)
crane-start s = record {
  knows = crane_begins s;
  magnet = refl;
  gripper_within = omega (arith, ints);
  travel_within = omega (arith, ints);
  level = first_level (is_full s OnCrane);
  stand = first_stand (is_full s OnCrane) (pos 0);
  travelling = λ on. absurd (on refl);
}

-- a step that asks leaves it where it is, and switches no magnet
asks_there : (s : CraneStep) (p : CraneProgress) (c : Call) (h x : ℤ) → (row_at s p).call ≡ Some c
    → (IsAt (level_of s) h → IsAt (level_of (row_at s p).next.step) h) × (IsOver (stand_of s) x → IsOver (stand_of (row_at s p).next.step) x) × (p.magnet ≡ (row_at s p).next.magnet)
asks_there AwaitPlate p c h x e = assumption
asks_there s p c h x e = first_of (assumption, cc)

shows_there : (s : CraneStep) (o : Option Machine) (f : Bool) (h x : ℤ)
    → (IsAt (level_of s) h → IsAt (level_of (step_after_inquiry s o f)) h) × (IsOver (stand_of s) x → IsOver (stand_of (step_after_inquiry s o f)) x)
shows_there AwaitPlate (Some Crane) true h x = assumption
shows_there s o f h x = assumption

-- the gripper is driven
done_level : (s : CraneStep) (p : CraneProgress) (h read tol : ℤ) (m : Motor) → (row_at s p).call ≡ None → IsNear read h tol → DrivesTo (gripper_stop s) tol read m → m ≡ Off → IsAt (level_of s) h → IsAt (level_of (row_at s p).next.step) h
done_level RaiseWithPlate p h read tol m e near drives off k = let there = drives.off.0 off in omega (arith, ints)
done_level LowerToFeed p h read tol m e near drives off k = let there = drives.off.0 off in omega (arith, ints)
done_level RaiseFromFeed p h read tol m e near drives off k = let there = drives.off.0 off in omega (arith, ints)
done_level s p h read tol m e near drives off k = first_of (assumption, cc)

stays_level : (s : CraneStep) (p : CraneProgress) (g : Axis) (read tol : ℤ) (m : Motor) → (row_at s p).call ≡ None → tol ≤ℤ pos 10 → IsNear read g.position tol → DrivesTo (gripper_stop s) tol read m → IsAt (level_of s) g.position → IsToldAt (level_of s) (set_axis g m)
stays_level RaiseToFetch p g read tol m e small near drives k = (k, λ minus. let above = drives.minus.0 minus in omega (arith, ints))
stays_level TravelToDeposit p g read tol m e small near drives k = level_off Up (set_axis g m) drives k
stays_level TravelToFeed p g read tol m e small near drives k = level_off Up (set_axis g m) drives k
stays_level s p g read tol m e small near drives k = first_of (assumption, cc)

-- the travel is driven
at_switch : (high at : Bool) (on : Motor) → high ≡ true → (if high then (if at then Off else on) else Off) ≡ Off → (on ≡ Off → ⊥) → at ≡ true
at_switch high at on e f g = grind arith

done_stand : (s : CraneStep) (p : CraneProgress) (x : ℤ) (high : Bool) (sense : CraneSense) (m : Motor) → (row_at s p).call ≡ None → m ≡ travel_for s high sense → m ≡ Off → (travels s ≡ true → high ≡ true)
    → (sense.deposit ≡ true → x ≤ℤ pos 10) → (sense.feed ≡ true → pos 1990 ≤ℤ x) → IsOver (stand_of s) x → IsOver (stand_of (row_at s p).next.step) x
done_stand TravelToDeposit p x high sense m e drives off h d f k = d (at_switch high sense.deposit Minus (h refl) (sym drives ∙ off) (λ q. cc))
done_stand TravelToFeed p x high sense m e drives off h d f k = f (at_switch high sense.feed Plus (h refl) (sym drives ∙ off) (λ q. cc))
done_stand s p x high sense m e drives off h d f k = first_of (assumption, cc)

stays_stand : (s : CraneStep) (p : CraneProgress) (a : Axis) (high : Bool) (sense : CraneSense) (m : Motor) → (row_at s p).call ≡ None → m ≡ travel_for s high sense → IsOver (stand_of s) a.position → IsToldOver (stand_of s) (set_axis a m)
stays_stand RaiseToFetch p a high sense m e drives k = tt
stays_stand s p a high sense m e drives k = first_of (assumption, cc)

-- a step that switches a magnet is done in its turn
both_off : (a b : Motor) → (is_off a && is_off b) ≡ true → (a ≡ Off) × (b ≡ Off)
both_off a b e = grind arith

not_both : (a b : Motor) → a ≡ Off → b ≡ Off → (is_off a && is_off b) ≡ false → ⊥
not_both a b e f g = grind arith

stays_magnet : (s : CraneStep) (p : CraneProgress) (high : Bool) (sense : CraneSense) (tol read : ℤ) (act : CraneAct) → (row_at s p).call ≡ None → act.travel ≡ travel_for s high sense → DrivesTo (gripper_stop s) tol read act.height → is_done s high act ≡ false → (row_at s p).next.magnet ≡ p.magnet
stays_magnet GripPlate p high sense tol read act e travel height stays = absurd (not_both act.travel act.height travel height stays)
stays_magnet s p high sense tol read act e travel height stays = first_of (assumption, search not_both)

-- what a done step says of its motors
done_when : (t high : Bool) (a b : Motor) → ((not t || high) && (is_off a && is_off b)) ≡ true → ((t ≡ true → high ≡ true) × ((a ≡ Off) × (b ≡ Off)))
done_when t high a b e = grind arith

gripper_near : (points : Scale) (c : CranePlant) (s : CraneSense) (r : CraneReading) → IsAxisScale gripper_end points → IsWithin gripper_end c.gripper.position → CraneShows points c s → Senses points (IsReading points) s (Ok r) → IsNear r.gripper c.gripper.position points.tol
gripper_near points c s r k within shows senses = reading_near gripper_end points c.gripper.position s.gripper r.gripper k within shows.raw senses.near

-- only a step that travels commands the travel
told_travels : (s : CraneStep) (high : Bool) (sense : CraneSense) (m : Motor) → m ≡ travel_for s high sense → (m ≡ Off → ⊥) → travels s ≡ true
told_travels TravelToDeposit high sense m e on = refl
told_travels s high sense m e on = first_of (assumption, search)

-- with its motors off it stays where it is
at_rest : (y : ModelState) (p q : CraneProgress) (c : CranePlant) → {z : ModelState} → CraneInv z p c → CraneKnows q y → p.magnet ≡ q.magnet → IsAt (level_of q.step) c.gripper.position → IsOver (stand_of q.step) c.travel.position
    → CraneTold y q (set_crane c (record { travel = Off; height = Off; magnet = p.magnet }))
at_rest y p q c i knows magnet level stand = search (level_off, stand_off, not_on)

module _ (points : Scale) (axis : IsAxisScale gripper_end points) where
  drive : (b : Bool) (z : ModelState) (p : CraneProgress) (c : CranePlant) (s : CraneSense) (r : CraneReading) (act : CraneAct) → is_done p.step r.high act ≡ b → (row_of p).call ≡ None → CraneShows points c s → Senses points (IsReading points) s (Ok r) → Acts points p r act → CraneInv z p c
      → CraneKnows (if b then after_done p else p) z → CraneTold z (if b then after_done p else p) (set_crane c act)
  drive true z p c s r act b e shows senses acts i knows =
      let off = done_when (travels p.step) r.high act.travel act.height b in
      let near = gripper_near points c s r axis i.gripper_within shows senses in
      record {
        knows = knows;
        magnet = acts.magnet;
        gripper_within = i.gripper_within;
        travel_within = i.travel_within;
        level = level_off (level_of (row_of p).next.step) (set_axis c.gripper act.height) off.1.1 (done_level p.step p c.gripper.position r.gripper points.tol act.height e near acts.height off.1.1 i.level);
        stand = stand_off (stand_of (row_of p).next.step) (set_axis c.travel act.travel) off.1.0
            (done_stand p.step p c.travel.position r.high s act.travel e (acts.travel ∙ ap (λ x. travel_for p.step r.high x) senses.switches) off.1.0 off.0 (λ d. shows.deposit.0 d) (λ f. shows.feed.0 f) i.stand);
        travelling = λ on. absurd (on off.1.0);
      }
  drive false z p c s r act b e shows senses acts i knows =
      record {
        knows = knows;
        magnet = acts.magnet ∙ stays_magnet p.step p r.high r.sense points.tol r.gripper act e acts.travel acts.height b;
        gripper_within = i.gripper_within;
        travel_within = i.travel_within;
        level = stays_level p.step p c.gripper r.gripper points.tol act.height e axis.scale.coarsest (gripper_near points c s r axis i.gripper_within shows senses) acts.height i.level;
        stand = stays_stand p.step p c.travel r.high r.sense act.travel e acts.travel i.stand;
        travelling = told_travels p.step r.high r.sense act.travel acts.travel;
      }

  pub crane-keeping : Keeping (crane_steps points (IsReading points)) (crane_rig points) CraneInv CraneTold
  crane-keeping = record {
    foreign = λ z p b n c apart sound i. assumption ((crane-knowing points (IsReading points)).foreign p z n c apart sound i.knows);
    rests = λ z p b i. at_rest z p p b i i.knows refl i.level i.stand;
    after_done = λ z p b c e d sound i.
        let there = asks_there p.step p c b.gripper.position b.travel.position e in
        at_rest (changed z Crane c) p (after_done p) b i ((crane-knowing points (IsReading points)).after_done p z c e d sound i.knows) there.2 (there.0 i.level) (there.1 i.stand);
    after_inquiry = λ z p b c o f q e d sound i.
        let there = shows_there p.step o f b.gripper.position b.travel.position in
        at_rest z p (record p { step = step_after_inquiry p.step o f }) b i ((crane-knowing points (IsReading points)).after_inquiry p z c o f q e d sound i.knows) refl (there.0 i.level) (there.1 i.stand);
    after_drive = λ z p b s r act e shows senses acts i. drive (is_done p.step r.high act) z p b s r act refl e shows senses acts i ((crane-knowing points (IsReading points)).after_drive p r act z e acts i.knows);
    told = λ z p b i. assumption (level_told (level_of p.step) b.gripper i.level, stand_told (stand_of p.step) b.travel i.stand);
    moves = λ z p b i. search (arith, ints, moved_within, level_moved, stand_moved);
  }

-- where its gripper may be down, and why it is driven at each step
down_at : (s : CraneStep) (z : ModelState) (c : CranePlant) → AreSure Crane z (zones_at s) → IsAt (level_of s) c.gripper.position → IsOver (stand_of s) c.travel.position → IsGripperDown c
    → (IsOverDeposit c × CraneHasDeposit z) ⊎ (IsOverFeed c × CraneHasFeed z)
down_at LowerToPlate z c k level stand down = inl (omega (arith, ints), k.0)
down_at GripPlate z c k level stand down = inl (omega (arith, ints), k.0)
down_at RaiseWithPlate z c k level stand down = inl (omega (arith, ints), k.0)
down_at LowerToFeed z c k level stand down = inr (omega (arith, ints), k.1.0)
down_at DropPlate z c k level stand down = inr (omega (arith, ints), k.1.0)
down_at RaiseFromFeed z c k level stand down = inr (omega (arith, ints), k.1.0)
down_at s z c k level stand down = absurd (omega (arith, ints))

pub gripper-down : (z : ModelState) (p : CraneProgress) (c : CranePlant) → CraneInv z p c → IsGripperDown c → (IsOverDeposit c × CraneHasDeposit z) ⊎ (IsOverFeed c × CraneHasFeed z)
gripper-down z p c i down = down_at p.step z c i.knows i.level i.stand down

errand_met : (s : CraneStep) (z : ModelState) → AreSure Crane z (zones_at s) → ErrandDemands (errand_of s) z
errand_met LowerToPlate z k = k.0
errand_met RaiseWithPlate z k = k.0
errand_met LowerToFeed z k = k.1.0
errand_met RaiseFromFeed z k = k.1.0
errand_met s z k = tt

pub gripper-driven : (z : ModelState) (p : CraneProgress) (c : CranePlant) → CraneInv z p c → ErrandDemands (errand_of p.step) z
gripper-driven z p c i = errand_met p.step z i.knows

-- it travels only with its gripper up
high_at : (s : CraneStep) (h : ℤ) → travels s ≡ true → IsAt (level_of s) h → pos 850 ≤ℤ h
high_at TravelToDeposit h e k = k
high_at TravelToFeed h e k = k
high_at s h e k = cc

pub travels-high : (z : ModelState) (p : CraneProgress) (c : CranePlant) → CraneInv z p c → TravelsHigh c
travels-high z p c i on down = let high = high_at p.step c.gripper.position (i.travelling on) i.level in omega (arith, ints)

-- No turn drives it on past an end: its travel by the switches, its gripper by its reading.
abbrev DrivesOut : CranePlant → Type 0
DrivesOut c = DrivesPast crane_end c.travel ⊎ DrivesPast gripper_end c.gripper

off_stays : (c : CranePlant) (m : Bool) → ¬ DrivesOut (set_crane c (record { travel = Off; height = Off; magnet = m }))
off_stays c m (inl past) = off_within crane_end (set_axis c.travel Off) refl past
off_stays c m (inr past) = off_within gripper_end (set_axis c.gripper Off) refl past

stays_first : (s : CraneStep) (high : Bool) (x : CraneSense) → travel_for s high x ≡ Minus → x.deposit ≡ true → ⊥
stays_first TravelToDeposit high x e at = grind arith
stays_first s high x e at = grind arith

stays_last : (s : CraneStep) (high : Bool) (x : CraneSense) → travel_for s high x ≡ Plus → x.feed ≡ true → ⊥
stays_last TravelToDeposit high x e at = grind arith
stays_last s high x e at = grind arith

travel_stays : (points : Scale) (c : CranePlant) (s : CraneStep) (high : Bool) (x : CraneSense) (m : Motor) → CraneShows points c x → m ≡ travel_for s high x → ¬ DrivesPast crane_end (set_axis c.travel m)
travel_stays points c s high x m shows e (inl past) =
    let first : c.travel.position ≡ pos 0 = past.0 in
    stays_first s high x (sym e ∙ past.1) (shows.deposit.1 (omega (arith, ints)))
travel_stays points c s high x m shows e (inr past) =
    let last : c.travel.position ≡ pos 2000 = past.0 in
    stays_last s high x (sym e ∙ past.1) (shows.feed.1 (omega (arith, ints)))

stops_within : (s : CraneStep) → StopsWithin gripper_end (gripper_stop s)
stops_within RaiseToFetch = omega (arith, ints)
stops_within s = omega (arith, ints)

-- Its magnet drops a plate only close above the feed belt.
abbrev LetsGoThere : CranePlant → CraneAct → Type 0
LetsGoThere c act = LetsGo c.magnet act.magnet → CraneMayLetGo (set_crane c act)

lets_go_at : (s : CraneStep) (p : CraneProgress) (c : CranePlant) (act : CraneAct) → c.magnet ≡ p.magnet → act.magnet ≡ (row_at s p).next.magnet → IsAt (level_of s) c.gripper.position → IsOver (stand_of s) c.travel.position → LetsGoThere c act
lets_go_at GripPlate p c act was is level stand go = let off = go.1 in cc
lets_go_at DropPlate p c act was is level stand go = (stand, level)
lets_go_at s p c act was is level stand go = absurd (still_on act.magnet c.magnet (is ∙ sym was) go)

module _ (points : Scale) (axis : IsAxisScale gripper_end points) (z : ModelState) (p : CraneProgress) (c : CranePlant) (i : CraneInv z p c) (s : CraneSense) (shows : CraneShows points c s) where
  acts_within : (r : CraneReading) (act : CraneAct) → Senses points (IsReading points) s (Ok r) → Acts points p r act → ¬ DrivesOut (set_crane c act)
  acts_within r act senses acts (inl past) = travel_stays points c p.step r.high s act.travel shows (acts.travel ∙ ap (λ x. travel_for p.step r.high x) senses.switches) past
  acts_within r act senses acts (inr past) = driven_within gripper_end points c.gripper (gripper_stop p.step) r.gripper act.height axis (gripper_near points c s r axis i.gripper_within shows senses) (stops_within p.step) acts.height past

  -- so in no turn is an axis driven on past an end, and no turn drops a plate
  pub crane-ends : (same : Type 0) (asks : Call → Result Reply LineFault → Type 0) (stopped : Option CtlFault) (w : Turned CraneProgress CraneAct) → Turns (crane_steps points (IsReading points)) same asks stopped p s w
      → ¬ DrivesOut (set_crane c (act_or_rest ((crane_steps points (IsReading points)).rest p) w.result))
  crane-ends same asks stopped w k = turn_tells (crane_steps points (IsReading points)) same asks p s (λ act. ¬ DrivesOut (set_crane c act)) (off_stays c p.magnet) (λ r act e senses drives. acts_within r act senses drives) stopped w k

  pub crane-lets-go : (same : Type 0) (asks : Call → Result Reply LineFault → Type 0) (stopped : Option CtlFault) (w : Turned CraneProgress CraneAct) → Turns (crane_steps points (IsReading points)) same asks stopped p s w
      → LetsGoThere c (act_or_rest ((crane_steps points (IsReading points)).rest p) w.result)
  crane-lets-go same asks stopped w k =
      turn_tells (crane_steps points (IsReading points)) same asks p s (λ act. LetsGoThere c act) (λ go. absurd (still_on p.magnet c.magnet (sym i.magnet) go))
      (λ r act e senses drives. lets_go_at p.step p c act i.magnet drives.magnet i.level i.stand) stopped w k
