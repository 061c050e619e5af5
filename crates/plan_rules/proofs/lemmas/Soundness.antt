-- Each call keeps a sound state sound.
use Rattle.std.proofs.Common.{◌≡◌, ℕ, ◌+◌, ◌<◌, ◌≤◌, ◌⊎◌, inl, inr, Bool, true, false, ◌&&◌, ◌||◌, not, nat_eq, List, length, get_or, set, Option, Some, None, refl, sym, ap, ◌∙◌, subst, arith, unwrap_or, if◌then◌else◌}
use Rattle.std.proofs.lemmas.Bool.{eqb-true}
use Rattle.std.proofs.lemmas.List.{length-set}
use Rattle.plan_types.specs.declared.posture.Posture.{Posture}
use Rattle.plan_types.specs.declared.posture.Posture.TheVariants.{Moving}
use Rattle.plan_types.specs.declared.table.Transfer.{Transfer}
use Rattle.plan_types.specs.declared.call.Call.{Call}
use Rattle.plan_types.specs.declared.call.Call.TheVariants.{Claim, Give, Yield, Take, Release, SetPose, Inquire, Stop, Resume, Advance}
use Rattle.plan_types.specs.declared.answer.Refusal.{Refusal}
use Rattle.plan_types.specs.declared.answer.Refusal.TheVariants.{Shut}
use Rattle.plan_types.specs.declared.answer.Answer.{Answer}
use Rattle.plan_types.specs.declared.answer.Answer.TheVariants.{Done, Shown, Refused}
use Rattle.plan_types.specs.Same.{same_posture, one_posture}
use Rattle.plan_types.specs.Table.{PlanTable, zone_count, place_count, host_of, guest_of, transfer_of, posture_of, is_moving_pose, space_of, same_space}
use Rattle.plan_types.specs.Plan.{IsPlan, is_alike}
use Rattle.plan_rules.specs.declared.state.ZoneState.{ZoneState}
use Rattle.plan_rules.specs.declared.state.State.{State}
use Rattle.plan_rules.specs.State.{zone_at, owner_of, posture_at, is_full, one_if, leads_to, is_coming, coming, space_has_plate, free_zone}
use Rattle.plan_rules.specs.Sound.{IsSound, IsLawfulZone, implies, is_open, is_received_by}
use Rattle.plan_rules.specs.Refusals.{owns, posture_with, is_concerned, transfer_given}
use Rattle.plan_rules.specs.Refusals as refusals
use Rattle.plan_rules.specs.Reply.{reply, refusal, changed, next, next_by, answer_by, accepted, other_party, handed, with_owner, posed, all_posed, emptied, filled}
use Rattle.plan_rules.proofs.lemmas.Below.{sum_below_same}
use Rattle.plan_rules.proofs.lemmas.Puts.{nat_eq-self, put_cases, zone_at-posed}
use Rattle.plan_rules.proofs.lemmas.Zones.{implied, owner_is, lawful_owned, lawful_free, lawful_taken, lawful_posed, implies_none, implies_any, implies_from, open_not_moving, free_is_clear, free_is_still, other_is_party, Gives, gives_way}
use Rattle.plan_rules.proofs.lemmas.Spaces.{by_same, apart_by, first_inside, one_host, one_guest, party_enters, shared_owner, shared_motion, clear_zone, handed_here, handed_other, zone_at-handed, handed_sum}
use Rattle.plan_types.proofs.lemmas.Spaces.{named}
use Rattle.plan_rules.proofs.lemmas.DoneCalls.{none_then, claim_done, give_done, yield_done, take_done, release_done, pose_done, advance_done, stop_done, resume_done, Poses}
use Rattle.plan_rules.proofs.lemmas.Advancing.{one_at_most}
use Rattle.plan_rules.proofs.lemmas.Plates.{coming_in, plates_given, plates_taken, plates_advanced, no_plates}
use Rattle.plan_rules.proofs.lemmas.Ways.{way_leads}

-- a call that is Done isn't refused
pub done_none : (r : Option Refusal) (a : Answer) → answer_by r a ≡ Done → r ≡ None
done_none None a e = refl
done_none (Some x) a e = cc

-- a zone of the plan is one of the state's
pub in_ten : (t : PlanTable) (s : State) (z : ℕ) → IsPlan t → IsSound t s → z < zone_count t → z < length s.zones
in_ten t s z p k l = let few = p.zones_at_most in let ten = k.has_ten_zones in omega arith

pub in_sixteen : (t : PlanTable) (s : State) (q : ℕ) → IsPlan t → IsSound t s → q < place_count t → q < length s.full
in_sixteen t s q p k l = let few = p.places_at_most in let all = k.has_sixteen_places in omega arith

-- ---- a space gets another owner

first_only : (a b : Bool) → (a || b) ≡ true → b ≡ false → a ≡ true
first_only true b e f = refl
first_only false true e f = cc
first_only false false e f = cc

second_only : (a b : Bool) → (a || b) ≡ true → a ≡ false → b ≡ true
second_only true b e f = cc
second_only false b e f = e

-- the zone that gets a plate, where none was in its space
is_there : (t : PlanTable) (s : State) (z x : ℕ) → space_has_plate t s z ≡ false → x < zone_count t → space_of t z ≡ space_of t x → (nat_eq x z || (zone_at s x).flag) ≡ true → x ≡ z
is_there t s z x clear l same e = eqb-true x z (first_only (nat_eq x z) (zone_at s x).flag e (clear_zone t s z clear x l (sym same)))

one_by : (t : PlanTable) (s : State) (z x y : ℕ) (b : Bool) → IsSound t s → space_has_plate t s z ≡ false → x < zone_count t → y < zone_count t → space_of t x ≡ space_of t y
    → (nat_eq x z || (zone_at s x).flag) ≡ true → (nat_eq y z || (zone_at s y).flag) ≡ true → same_space t z x ≡ b → x ≡ y
one_by t s z x y true k clear lx ly same fx fy here =
    let to_x = by_same t z x here in
    is_there t s z x clear lx to_x fx ∙ sym (is_there t s z y clear ly (to_x ∙ same) fy)
one_by t s z x y false k clear lx ly same fx fy apart =
    let apart_y : same_space t z y ≡ false = ap (nat_eq (space_of t z)) (sym same) ∙ apart in
    k.one_plate_a_space x y lx ly same (second_only (nat_eq x z) (zone_at s x).flag fx (apart_by t z x apart)) (second_only (nat_eq y z) (zone_at s y).flag fy (apart_by t z y apart_y))

one_after : (t : PlanTable) (s : State) (z : ℕ) (plate : Bool) → IsSound t s → (plate ≡ true → space_has_plate t s z ≡ false) → (x y : ℕ) → x < zone_count t → y < zone_count t → space_of t x ≡ space_of t y
    → ((plate && nat_eq x z) || (zone_at s x).flag) ≡ true → ((plate && nat_eq y z) || (zone_at s y).flag) ≡ true → x ≡ y
one_after t s z true k clear x y lx ly same fx fy = one_by t s z x y (same_space t z x) k (clear refl) lx ly same fx fy refl
one_after t s z false k clear x y lx ly same fx fy = k.one_plate_a_space x y lx ly same fx fy

abbrev Becomes : PlanTable → State → ℕ → Option ℕ → Bool → ℕ → Type 0
Becomes t s z o plate y = IsLawfulZone t y (record { owner = o; flag = (plate && nat_eq y z) || (zone_at s y).flag; posture = posture_at s y })

handed_lawful : (t : PlanTable) (s : State) (z : ℕ) (o : Option ℕ) (plate : Bool) (y : ℕ) (b : Bool) → IsSound t s → y < zone_count t → same_space t z y ≡ b
    → (space_of t z ≡ space_of t y → Becomes t s z o plate y) → IsLawfulZone t y (handed t s z o plate y)
handed_lawful t s z o plate y true k l here lawful = subst (IsLawfulZone t y) (sym (handed_here t s z o plate y here)) (lawful (by_same t z y here))
handed_lawful t s z o plate y false k l apart lawful = subst (IsLawfulZone t y) (sym (handed_other t s z o plate y apart)) (k.zone_is_lawful y l)

-- the state after it is sound, if the zones of the space are lawful, and at most one plate is at each place or comes to it
handed_keeps : (t : PlanTable) (s : State) (z : ℕ) (o : Option ℕ) (plate : Bool) (full : List Bool) → IsPlan t → IsSound t s → z < zone_count t → s.stamp < 1048575 → length full ≡ 16
    → ((y : ℕ) → y < zone_count t → space_of t z ≡ space_of t y → Becomes t s z o plate y)
    → (plate ≡ true → space_has_plate t s z ≡ false)
    → ((q : ℕ) → one_if (get_or full q false) + coming_in t (with_owner t s z o plate) q ≤ 1)
    → IsSound t (record s { zones = with_owner t s z o plate; full = full; stamp = s.stamp + 1 })
handed_keeps t s z o plate full p k l less sixteen lawful clear most =
    let small : s.stamp + 1 ≤ 1048575 = omega arith in
    let few = p.zones_at_most in
    let at : (y : ℕ) → y < zone_count t → get_or (with_owner t s z o plate) y free_zone ≡ handed t s z o plate y = λ y m. zone_at-handed t s z o plate y (omega (arith, few, m)) in
    record {
      stamp_in_range = small;
      has_ten_zones = refl;
      has_sixteen_places = sixteen;
      zone_is_lawful = λ y m. subst (IsLawfulZone t y) (sym (at y m)) (handed_lawful t s z o plate y (same_space t z y) k m refl (lawful y m));
      zone_is_of_space = λ y m.
          let f = space_of t y in
          let inside = first_inside t y m in
          let of = k.zone_is_of_space y m in
          record {
            owner = ap (λ (v : ZoneState). v.owner) (at y m)
                ∙ ap (λ x. if same_space t z y then o else x) of.owner
                ∙ ap (λ n. if nat_eq (space_of t z) n then o else owner_of s f) (sym (named t y))
                ∙ sym (ap (λ (v : ZoneState). v.owner) (at f inside));
            motion = ap (λ (v : ZoneState). same_posture v.posture Moving) (at y m) ∙ of.motion ∙ sym (ap (λ (v : ZoneState). same_posture v.posture Moving) (at f inside));
          };
      one_plate_a_space = λ x y lx ly same fx fy.
          one_after t s z plate k clear x y lx ly same
          (sym (ap (λ (v : ZoneState). v.flag) (at x lx)) ∙ fx) (sym (ap (λ (v : ZoneState). v.flag) (at y ly)) ∙ fy);
      one_plate_a_place = most;
    }

-- without a plate more, as many come to each place as before
coming_same : (t : PlanTable) (s : State) (z q : ℕ) (o : Option ℕ) → IsPlan t → coming_in t (with_owner t s z o false) q ≡ coming t s q
coming_same t s z q o p =
    let few = p.zones_at_most in
    sum_below_same (λ y. one_if (is_coming t (zone_at s y) q y)) (λ y. one_if (is_coming t (get_or (with_owner t s z o false) y free_zone) q y)) (zone_count t)
    (λ y l. ap (λ v. one_if (is_coming t v q y)) (zone_at-handed t s z o false y (omega (arith, few, l))))

most_same : (t : PlanTable) (s : State) (z : ℕ) (o : Option ℕ) → IsPlan t → IsSound t s → (q : ℕ) → one_if (is_full s q) + coming_in t (with_owner t s z o false) q ≤ 1
most_same t s z o p k q = let e = coming_same t s z q o p in let most = k.one_plate_a_place q in omega (arith, e, most)

never : {A : Type 0} → false ≡ true → A
never e = cc

either_of : (a b : Bool) → (a || b) ≡ true → (a ≡ true) ⊎ (b ≡ true)
either_of true b e = inl refl
either_of false b e = inr e

-- of the zones of a space, a party of one is the guest of this one alone
guest_here : (t : PlanTable) (m y z : ℕ) → IsPlan t → y < zone_count t → z < zone_count t → space_of t z ≡ space_of t y → (nat_eq m (host_of t z) || nat_eq m (guest_of t z)) ≡ true
    → nat_eq m (guest_of t y) ≡ true → y ≡ z
guest_here t m y z p ly lz same party guest =
    elim (either_of (nat_eq m (host_of t z)) (nat_eq m (guest_of t z)) party) [
      | inl host ↦ absurd (p.host_is_not_guest y ly (one_host t y z p ly lz (sym same) ∙ sym (eqb-true m (host_of t z) host) ∙ eqb-true m (guest_of t y) guest))
      | inr other ↦ one_guest t y z p ly lz (sym same) (sym (eqb-true m (guest_of t y) guest) ∙ eqb-true m (guest_of t z) other)
    ]

implies_by : (a b : Bool) → (a ≡ true → b ≡ true) → implies a b ≡ true
implies_by true b f = f refl
implies_by false b f = refl

-- it finds its own zone open
opens_to : (t : PlanTable) (s : State) (m y z : ℕ) → IsPlan t → y < zone_count t → z < zone_count t → space_of t z ≡ space_of t y → (nat_eq m (host_of t z) || nat_eq m (guest_of t z)) ≡ true
    → implies (nat_eq m (guest_of t z)) (is_open (posture_at s z)) ≡ true → implies (nat_eq m (guest_of t y)) (is_open (posture_at s y)) ≡ true
opens_to t s m y z p ly lz same party opens =
    implies_by (nat_eq m (guest_of t y)) (is_open (posture_at s y)) (λ guest.
    let here = guest_here t m y z p ly lz same party guest in
    ap (λ x. is_open (posture_at s x)) here ∙ implied (nat_eq m (guest_of t z)) (is_open (posture_at s z)) opens (ap (λ x. nat_eq m (guest_of t x)) (sym here) ∙ guest))

claim_keeps : (t : PlanTable) (s : State) (m z : ℕ) → IsPlan t → IsSound t s → refusals.claim_refusal t s m z ≡ None → IsSound t (changed t s m (Claim z))
claim_keeps t s m z p k e =
    let d = claim_done t s m z e in
    let l = d.caller.there in
    handed_keeps t s z (Some m) false s.full p k l d.fresh k.has_sixteen_places
    (λ y ly same.
    let free = shared_owner t s y z k ly l (sym same) ∙ d.free in
    let was = k.zone_is_lawful y ly in
    lawful_owned t y m (zone_at s y).flag (posture_at s y) (party_enters t m z y l same d.caller.party)
    (implies_none (zone_at s y).flag _ (free_is_clear t y (zone_at s y) was free))
    (opens_to t s m y z p ly l same d.caller.party (implies_from (nat_eq m (guest_of t z)) (is_open (posture_at s z)) d.opens))
    (free_is_still t y (zone_at s y) was free))
    (λ n. never n) (most_same t s z (Some m) p k)

yield_keeps : (t : PlanTable) (s : State) (m z : ℕ) → IsPlan t → IsSound t s → refusals.yield_refusal t s m z ≡ None → IsSound t (changed t s m (Yield z))
yield_keeps t s m z p k e =
    let d = yield_done t s m z e in
    let l = d.holder.caller.there in
    let o = other_party t m z in
    handed_keeps t s z (Some o) false s.full p k l d.holder.fresh k.has_sixteen_places
    (λ y ly same.
    lawful_owned t y o (zone_at s y).flag (posture_at s y) (party_enters t o z y l same (other_is_party t m z))
    (implies_none (zone_at s y).flag _ (clear_zone t s z d.clear y ly (sym same)))
    (opens_to t s o y z p ly l same (other_is_party t m z) (implies_any _ (is_open (posture_at s z)) d.opens))
    (shared_motion t s y z k ly l (sym same) ∙ open_not_moving (posture_at s z) d.opens))
    (λ n. never n) (most_same t s z (Some o) p k)

release_keeps : (t : PlanTable) (s : State) (m z : ℕ) → IsPlan t → IsSound t s → refusals.release_refusal t s m z ≡ None → IsSound t (changed t s m (Release z))
release_keeps t s m z p k e =
    let d = release_done t s m z e in
    let l = d.holder.caller.there in
    handed_keeps t s z None false s.full p k l d.holder.fresh k.has_sixteen_places
    (λ y ly same. lawful_free t y (zone_at s y).flag (posture_at s y) (clear_zone t s z d.clear y ly (sym same))
    (shared_motion t s y z k ly l (sym same) ∙ none_then (same_posture (posture_at s z) Moving) (Shut Moving) d.still))
    (λ n. never n) (most_same t s z None p k)

-- ---- plates

received : (t : PlanTable) (m z : ℕ) (q : Posture) (way : Transfer) → Gives t m z q way → is_received_by (Some (other_party t m z)) (transfer_of t z q) ≡ true
received t m z q way g = ap (is_received_by (Some (other_party t m z))) g.is ∙ ap (λ x. nat_eq (other_party t m z) x) g.receiver ∙ nat_eq-self (other_party t m z)

give_keeps : (t : PlanTable) (s : State) (m z : ℕ) → IsPlan t → IsSound t s → refusals.give_refusal t s m z ≡ None → IsSound t (changed t s m (Give z))
give_keeps t s m z p k e =
    let d = give_done t s m z e in
    let l = d.holder.caller.there in
    let few = p.zones_at_most in
    let o = other_party t m z in
    let g = gives_way t m z (posture_at s z) d.way (p.host_is_not_guest z l) d.is in
    let leads = way_leads t p z (posture_at s z) d.way l g.is in
    let places : emptied s.full (transfer_given t s m z) ≡ set s.full d.way.from false = ap (emptied s.full) d.is in
    let arrives = received t m z (posture_at s z) d.way g in
    handed_keeps t s z (Some o) true (emptied s.full (transfer_given t s m z)) p k l d.holder.fresh (ap length places ∙ length-set s.full d.way.from false ∙ k.has_sixteen_places)
    (λ y ly same.
    lawful_owned t y o (nat_eq y z || (zone_at s y).flag) (posture_at s y) (party_enters t o z y l same (other_is_party t m z))
    (implies_by (nat_eq y z || (zone_at s y).flag) (is_received_by (Some o) (transfer_of t y (posture_at s y))) (λ flag.
    ap (λ x. is_received_by (Some o) (transfer_of t x (posture_at s x))) (is_there t s z y d.clear ly same flag) ∙ arrives))
    (opens_to t s o y z p ly l same (other_is_party t m z) (implies_any _ (is_open (posture_at s z)) g.opens))
    (shared_motion t s y z k ly l (sym same) ∙ open_not_moving (posture_at s z) g.opens))
    (λ _. d.clear)
    (λ q. subst (λ full. one_if (get_or full q false) + coming_in t (with_owner t s z (Some o) true) q ≤ 1) (sym places)
    (plates_given t s z q (with_owner t s z (Some o) true) d.way (in_sixteen t s d.way.from p k leads.from)
    (handed_sum t s z (Some o) true (λ y f r. one_if (f && leads_to (transfer_of t y r) q)) (zone_count t) k.has_ten_zones l few)
    (clear_zone t s z d.clear z l refl) g.is (no_plates _ d.room) (k.one_plate_a_place q)))

-- a plate in a zone has its way
pub record Comes (t : PlanTable) (s : State) (z : ℕ) : Type 0 where
  pub way : Transfer
  pub is : transfer_of t z (posture_at s z) ≡ Some way
  pub receiver : owner_of s z ≡ Some way.receiver

comes_by : (o : Option ℕ) (tr : Option Transfer) → is_received_by o tr ≡ true → (way : Transfer) × (tr ≡ Some way) × (o ≡ Some way.receiver)
comes_by o None e = cc
comes_by o (Some way) e = (way, refl, owner_is o way.receiver e)

pub plate_comes : (t : PlanTable) (s : State) (z : ℕ) → IsSound t s → z < zone_count t → (zone_at s z).flag ≡ true → Comes t s z
plate_comes t s z k l flag =
    let found = comes_by (owner_of s z) (transfer_of t z (posture_at s z)) (implied _ _ (k.zone_is_lawful z l).flag_has_transfer flag) in
    record { way = found.0; is = found.1; receiver = found.2 }

-- a zone keeps its owner and its posture while a plate is taken from it, and so do the others; no zone gets a plate
abbrev Taken : State → ℕ → List ZoneState
Taken s z = set s.zones z (record (zone_at s z) { flag = false })

taken_same : (s : State) (z : ℕ) → z < length s.zones → (y : ℕ) → ((get_or (Taken s z) y free_zone).owner ≡ owner_of s y) × ((get_or (Taken s z) y free_zone).posture ≡ posture_at s y)
taken_same s z l y =
    put_cases (λ x u. (u.owner ≡ owner_of s x) × (u.posture ≡ posture_at s x)) s.zones (record (zone_at s z) { flag = false }) free_zone z l (refl, refl) (λ x ne. (refl, refl)) y

taken_flag : (s : State) (z : ℕ) → z < length s.zones → (y : ℕ) → (get_or (Taken s z) y free_zone).flag ≡ true → (zone_at s y).flag ≡ true
taken_flag s z l y =
    put_cases (λ x u. u.flag ≡ true → (zone_at s x).flag ≡ true) s.zones (record (zone_at s z) { flag = false }) free_zone z l (λ e. never e) (λ x ne e. e) y

take_keeps : (t : PlanTable) (s : State) (m z : ℕ) → IsPlan t → IsSound t s → refusals.take_refusal t s m z ≡ None → IsSound t (changed t s m (Take z))
take_keeps t s m z p k e =
    let d = take_done t s m z e in
    let l = d.holder.caller.there in
    let inside = in_ten t s z p k l in
    let v : ZoneState = record (zone_at s z) { flag = false } in
    let c = plate_comes t s z k l d.plate in
    let small : s.stamp + 1 ≤ 1048575 = let less = d.holder.fresh in omega arith in
    let places : filled s.full (transfer_of t z (posture_at s z)) ≡ set s.full c.way.to true = ap (filled s.full) c.is in
    record {
      stamp_in_range = small;
      has_ten_zones = length-set s.zones z v ∙ k.has_ten_zones;
      has_sixteen_places = ap length places ∙ length-set s.full c.way.to true ∙ k.has_sixteen_places;
      zone_is_lawful = λ y m.
          put_cases (λ x u. x < zone_count t → IsLawfulZone t x u) s.zones v free_zone z inside (λ _. lawful_taken t z (zone_at s z) (k.zone_is_lawful z l)) (λ x ne. k.zone_is_lawful x) y m;
      zone_is_of_space = λ y m.
          let at_y = taken_same s z inside y in
          let at_f = taken_same s z inside (space_of t y) in
          let of = k.zone_is_of_space y m in
          record {
            owner = at_y.0 ∙ of.owner ∙ sym at_f.0;
            motion = ap (λ q. same_posture q Moving) at_y.1 ∙ of.motion ∙ sym (ap (λ q. same_posture q Moving) at_f.1);
          };
      one_plate_a_space = λ x y lx ly same fx fy. k.one_plate_a_space x y lx ly same (taken_flag s z inside x fx) (taken_flag s z inside y fy);
      one_plate_a_place = λ q. subst (λ full. one_if (get_or full q false) + coming_in t (set s.zones z v) q ≤ 1) (sym places)
          (plates_taken t s z q v c.way l inside d.plate refl c.is (k.one_plate_a_place q));
    }

-- ---- poses

-- a pose leaves a zone, or its machine hosts it, owns it, and it has no plate
pub record Poised (t : PlanTable) (s : State) (m z : ℕ) : Type 0 where
  pub host : host_of t z ≡ m
  pub owner : owner_of s z ≡ Some m
  pub clear : (zone_at s z).flag ≡ false

unless_not : (a b : Bool) → (a && not b) ≡ false → a ≡ true → b ≡ true
unless_not true true e f = refl
unless_not true false e f = cc
unless_not false b e f = cc

pub unless : (a b : Bool) → (a && b) ≡ false → a ≡ true → b ≡ false
unless true b e f = e
unless false b e f = cc

pub some_or_none : (o : Option Posture) → (o ≡ None) ⊎ ((q : Posture) × (o ≡ Some q))
some_or_none None = inl refl
some_or_none (Some q) = inr (q, refl)

unchanged : (a b c : Bool) → a ≡ true → (a && (b || not c)) ≡ false → c ≡ true
unchanged true true c e f = cc
unchanged true false true e f = refl
unchanged true false false e f = cc
unchanged false b c e f = cc

pub posed_zone : (t : PlanTable) (s : State) (m p z : ℕ) → IsPlan t → Poses t s m p → z < zone_count t → (posed t s p z ≡ zone_at s z) ⊎ Poised t s m z
posed_zone t s m p z k d l =
    let few = k.zones_at_most in
    let ten : z < 10 = omega arith in
    let by_host : host_of t z ≡ m → (posed t s p z ≡ zone_at s z) ⊎ Poised t s m z = λ host.
    let At : Bool → Type 0 = λ b. is_concerned t s m p z ≡ b → (posed t s p z ≡ zone_at s z) ⊎ Poised t s m z in
    let by : (b : Bool) → At b = λ b. elim b as At [
      | true ↦ λ e. inr (record { host = host; owner = owner_is (owner_of s z) m (unless_not _ _ (d.owned z l) e); clear = clear_zone t s z (unless _ _ (d.clear z l) e) z l refl })
      | false ↦ λ e.
          let own : nat_eq (host_of t z) m ≡ true = ap (nat_eq (host_of t z)) (sym host) ∙ nat_eq-self (host_of t z) in
          let same = one_posture _ _ (unchanged (nat_eq (host_of t z) m) (is_moving_pose t p) (same_posture (posture_with t s p z) (posture_at s z)) own e) in
          inl (ap (λ (q : Posture). record (zone_at s z) { posture = q }) same)
    ] in
    by (is_concerned t s m p z) refl in
    elim (some_or_none (posture_of t p z)) [
      | inl e ↦ inl (ap (λ (o : Option Posture). record (zone_at s z) { posture = unwrap_or o (posture_at s z) }) e)
      | inr q ↦ by_host ((k.pose_of_host p z q.0 d.there ten q.1).1 ∙ d.machine)
    ]

posed_lawful : (t : PlanTable) (s : State) (m p z : ℕ) → IsPlan t → IsSound t s → Poses t s m p → z < zone_count t → IsLawfulZone t z (posed t s p z)
posed_lawful t s m p z k h d l =
    elim (posed_zone t s m p z k d l) [
      | inl e ↦ subst (IsLawfulZone t z) (sym e) (h.zone_is_lawful z l)
      | inr x ↦ lawful_posed t z (zone_at s z) (posture_with t s p z) l (k.host_is_not_guest z l) (x.owner ∙ ap (λ (n : ℕ). Some n) (sym x.host)) x.clear
    ]

pub posed_coming : (t : PlanTable) (s : State) (m p z q : ℕ) → IsPlan t → Poses t s m p → z < zone_count t → is_coming t (posed t s p z) q z ≡ is_coming t (zone_at s z) q z
posed_coming t s m p z q k d l =
    elim (posed_zone t s m p z k d l) [
      | inl e ↦ ap (λ v. is_coming t v q z) e
      | inr x ↦ ap (λ b. b && leads_to (transfer_of t z (posture_with t s p z)) q) x.clear ∙ sym (ap (λ b. b && leads_to (transfer_of t z (posture_at s z)) q) x.clear)
    ]

pub zone_after_pose : (t : PlanTable) (s : State) (p z : ℕ) → IsPlan t → z < zone_count t → get_or (all_posed t s p) z free_zone ≡ posed t s p z
zone_after_pose t s p z k l = let few = k.zones_at_most in zone_at-posed t s p z (omega arith)

-- a space moves as a whole
alike_by : (a b : Bool) → (if a then b else not b) ≡ true → b ≡ a
alike_by true true e = refl
alike_by true false e = cc
alike_by false true e = cc
alike_by false false e = refl

alike_motion : (a b : Option Posture) (q r : Posture) → is_alike a b ≡ true → same_posture r Moving ≡ same_posture q Moving → same_posture (unwrap_or b r) Moving ≡ same_posture (unwrap_or a q) Moving
alike_motion None None q r e f = f
alike_motion (Some x) (Some y) q r e f = alike_by (same_posture x Moving) (same_posture y Moving) e
alike_motion None (Some y) q r e f = cc
alike_motion (Some x) None q r e f = cc

pose_keeps : (t : PlanTable) (s : State) (m p : ℕ) → IsPlan t → IsSound t s → refusals.pose_refusal t s m p ≡ None → IsSound t (changed t s m (SetPose p))
pose_keeps t s m p k h e =
    let d = pose_done t s m p e in
    let small : s.stamp + 1 ≤ 1048575 = let less = d.fresh in omega arith in
    record {
      stamp_in_range = small;
      has_ten_zones = refl;
      has_sixteen_places = h.has_sixteen_places;
      zone_is_of_space = λ z l.
          let f = space_of t z in
          let inside = first_inside t z l in
          let of = h.zone_is_of_space z l in
          let at_z = zone_after_pose t s p z k l in
          let at_f = zone_after_pose t s p f k inside in
          record {
            owner = ap (λ (v : ZoneState). v.owner) at_z ∙ of.owner ∙ sym (ap (λ (v : ZoneState). v.owner) at_f);
            motion = ap (λ (v : ZoneState). same_posture v.posture Moving) at_z
                ∙ alike_motion (posture_of t p f) (posture_of t p z) (posture_at s f) (posture_at s z) (k.space_moves_whole p z d.there l) of.motion
                ∙ sym (ap (λ (v : ZoneState). same_posture v.posture Moving) at_f);
          };
      one_plate_a_space = λ x y lx ly same fx fy.
          h.one_plate_a_space x y lx ly same
          (sym (ap (λ (v : ZoneState). v.flag) (zone_after_pose t s p x k lx)) ∙ fx) (sym (ap (λ (v : ZoneState). v.flag) (zone_after_pose t s p y k ly)) ∙ fy);
      zone_is_lawful = λ z l. subst (IsLawfulZone t z) (sym (zone_after_pose t s p z k l)) (posed_lawful t s m p z k h d l);
      one_plate_a_place = λ q.
          let same : coming_in t (all_posed t s p) q ≡ coming t s q = sum_below_same (λ z. one_if (is_coming t (zone_at s z) q z)) (λ z. one_if (is_coming t (get_or (all_posed t s p) z free_zone) q z)) (zone_count t)
          (λ z l. ap one_if (ap (λ v. is_coming t v q z) (zone_after_pose t s p z k l) ∙ posed_coming t s m p z q k d l)) in
          subst (λ n. one_if (is_full s q) + n ≤ 1) (sym same) (h.one_plate_a_place q);
    }

-- ---- advances

advance_keeps : (t : PlanTable) (s : State) (m p : ℕ) → IsPlan t → IsSound t s → refusals.advance_refusal t s m p ≡ None → IsSound t (changed t s m (Advance p))
advance_keeps t s m p plan k e =
    let d = advance_done t s m p e in
    let l = in_sixteen t s p plan k d.there in
    let full = not (is_full s p) in
    let small : s.stamp + 1 ≤ 1048575 = let less = d.fresh in omega arith in
    record {
      stamp_in_range = small;
      has_ten_zones = k.has_ten_zones;
      has_sixteen_places = length-set s.full p full ∙ k.has_sixteen_places;
      zone_is_lawful = k.zone_is_lawful;
      zone_is_of_space = λ z l. let of = k.zone_is_of_space z l in record { owner = of.owner; motion = of.motion };
      one_plate_a_space = k.one_plate_a_space;
      one_plate_a_place = λ q. plates_advanced t s p q full l (k.one_plate_a_place q) (one_at_most t s m p d k (is_full s p) refl);
    }

-- ---- any call

-- the stamp alone grows, and the plant is stopped or goes on
stamped : (t : PlanTable) (s : State) (b : Bool) → IsSound t s → s.stamp < 1048575 → IsSound t (record s { stamp = s.stamp + 1; stopped = b })
stamped t s b h less =
    let small : s.stamp + 1 ≤ 1048575 = omega arith in
    record {
      stamp_in_range = small;
      has_ten_zones = h.has_ten_zones;
      has_sixteen_places = h.has_sixteen_places;
      zone_is_lawful = h.zone_is_lawful;
      zone_is_of_space = λ z l. let of = h.zone_is_of_space z l in record { owner = of.owner; motion = of.motion };
      one_plate_a_space = h.one_plate_a_space;
      one_plate_a_place = h.one_plate_a_place;
    }

shown_is : (r : Option Refusal) (s : State) (z : ℕ) → answer_by r (accepted s (Inquire z)) ≡ Done → ⊥
shown_is None s z e = cc
shown_is (Some x) s z e = cc

pub never_done : {A : Type 0} (t : PlanTable) (s : State) (m z : ℕ) → reply t s m (Inquire z) ≡ Done → A
never_done t s m z e = absurd (shown_is (refusal t s m (Inquire z)) s z e)

pub changed_keeps : (t : PlanTable) (s : State) (m : ℕ) (c : Call) → IsPlan t → IsSound t s → reply t s m c ≡ Done → IsSound t (changed t s m c)
changed_keeps t s m (Claim z) p h e = claim_keeps t s m z p h (done_none _ _ e)
changed_keeps t s m (Give z) p h e = give_keeps t s m z p h (done_none _ _ e)
changed_keeps t s m (Yield z) p h e = yield_keeps t s m z p h (done_none _ _ e)
changed_keeps t s m (Take z) p h e = take_keeps t s m z p h (done_none _ _ e)
changed_keeps t s m (Release z) p h e = release_keeps t s m z p h (done_none _ _ e)
changed_keeps t s m (SetPose q) p h e = pose_keeps t s m q p h (done_none _ _ e)
changed_keeps t s m (Inquire z) p h e = never_done t s m z e
changed_keeps t s m Stop p h e = stamped t s true h (stop_done s m (done_none _ _ e)).fresh
changed_keeps t s m Resume p h e = stamped t s false h (resume_done s m (done_none _ _ e)).fresh
changed_keeps t s m (Advance q) p h e = advance_keeps t s m q p h (done_none _ _ e)

next_by_keeps : (a : Answer) (t : PlanTable) (s : State) (m : ℕ) (c : Call) → IsSound t s → (a ≡ Done → IsSound t (changed t s m c)) → IsSound t (next_by a t s m c)
next_by_keeps Done t s m c h k = k refl
next_by_keeps (Refused r) t s m c h k = h
next_by_keeps (Shown o f q) t s m c h k = h

pub next_keeps : (t : PlanTable) (s : State) (m : ℕ) (c : Call) → IsPlan t → IsSound t s → IsSound t (next t s m c)
next_keeps t s m c p h = next_by_keeps (reply t s m c) t s m c h (changed_keeps t s m c p h)
