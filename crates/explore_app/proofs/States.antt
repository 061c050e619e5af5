-- States that are the same by the program's `==` are one.
use Rattle.std.proofs.Common.{◌≡◌, ◌∙◌, nat_eq, Bool, true, false, ◌&&◌, Option, Some, None, refl, ap, eqb-true}
use Rattle.std.proofs.Math.Bool.{beq}
use Rattle.std.proofs.lemmas.Bool.{and_parts}
use Rattle.std.specs.Cmp.{booleans_Decides}
use Rattle.std.specs.Option.{option_eq}
use Rattle.cell_types.specs.Same.{same_machine, same_posture, one_machine, one_posture}
use Rattle.cell_rules.specs.Types.{Machine, Posture}
use Rattle.cell_rules.specs.Names.{ModelState, PlaceSet, ZoneMap, model_state, place_set, zone_map}
use Rattle.cell_rules.specs.declared.zones.ZoneState.{ZoneState}

-- ---- the test of each part

abbrev same_zone : ZoneState → ZoneState → Bool
same_zone a b = option_eq same_machine a.owner b.owner && (beq a.flag b.flag && same_posture a.posture b.posture)

abbrev same_zones : ZoneMap → ZoneMap → Bool
same_zones a b =
    same_zone a.at_z1 b.at_z1
    && (same_zone a.at_z2 b.at_z2
    && (same_zone a.at_z3 b.at_z3
    && (same_zone a.at_z4 b.at_z4
    && (same_zone a.at_z5 b.at_z5 && same_zone a.at_z6 b.at_z6))))

abbrev same_places : PlaceSet → PlaceSet → Bool
same_places a b =
    beq a.feed_entry b.feed_entry
    && (beq a.feed_end b.feed_end
    && (beq a.table b.table
    && (beq a.arm1 b.arm1
    && (beq a.press_in b.press_in
    && (beq a.press_out b.press_out && (beq a.arm2 b.arm2 && (beq a.dep_entry b.dep_entry && (beq a.dep_end b.dep_end && beq a.crane b.crane))))))))

abbrev pub same_states : ModelState → ModelState → Bool
same_states a b = nat_eq a.stamp b.stamp && (beq a.stopped b.stopped && (same_zones a.zones b.zones && same_places a.full b.full))

-- ---- what passes is the same

flag_from : (a b : Bool) → beq a b ≡ true → a ≡ b
flag_from a b = (booleans_Decides a b).0

owner_from : (a b : Option Machine) → option_eq same_machine a b ≡ true → a ≡ b
owner_from None None e = refl
owner_from None (Some b) e = cc
owner_from (Some a) None e = cc
owner_from (Some a) (Some b) e = ap Some (one_machine a b e)

zone_from : (a b : ZoneState) → same_zone a b ≡ true → a ≡ b
zone_from a b e =
    let o = and_parts _ _ e in
    let f = and_parts _ _ o.1 in
    let with : Option Machine → Bool → Posture → ZoneState = λ owner flag posture. record { owner = owner; flag = flag; posture = posture } in
    ap (λ x. with x a.flag a.posture) (owner_from a.owner b.owner o.0)
    ∙ ap (λ x. with b.owner x a.posture) (flag_from a.flag b.flag f.0)
    ∙ ap (λ x. with b.owner b.flag x) (one_posture a.posture b.posture f.1)

zones_from : (a b : ZoneMap) → same_zones a b ≡ true → a ≡ b
zones_from a b e =
    let p = and_parts _ _ e in
    let q = and_parts _ _ p.1 in
    let r = and_parts _ _ q.1 in
    let s = and_parts _ _ r.1 in
    let t = and_parts _ _ s.1 in
    ap (λ x. zone_map x a.at_z2 a.at_z3 a.at_z4 a.at_z5 a.at_z6) (zone_from a.at_z1 b.at_z1 p.0)
    ∙ ap (λ x. zone_map b.at_z1 x a.at_z3 a.at_z4 a.at_z5 a.at_z6) (zone_from a.at_z2 b.at_z2 q.0)
    ∙ ap (λ x. zone_map b.at_z1 b.at_z2 x a.at_z4 a.at_z5 a.at_z6) (zone_from a.at_z3 b.at_z3 r.0)
    ∙ ap (λ x. zone_map b.at_z1 b.at_z2 b.at_z3 x a.at_z5 a.at_z6) (zone_from a.at_z4 b.at_z4 s.0)
    ∙ ap (λ x. zone_map b.at_z1 b.at_z2 b.at_z3 b.at_z4 x a.at_z6) (zone_from a.at_z5 b.at_z5 t.0)
    ∙ ap (λ x. zone_map b.at_z1 b.at_z2 b.at_z3 b.at_z4 b.at_z5 x) (zone_from a.at_z6 b.at_z6 t.1)

places_from : (a b : PlaceSet) → same_places a b ≡ true → a ≡ b
places_from a b e =
    let p = and_parts _ _ e in
    let q = and_parts _ _ p.1 in
    let r = and_parts _ _ q.1 in
    let s = and_parts _ _ r.1 in
    let t = and_parts _ _ s.1 in
    let u = and_parts _ _ t.1 in
    let v = and_parts _ _ u.1 in
    let w = and_parts _ _ v.1 in
    let x = and_parts _ _ w.1 in
    ap (λ y. place_set y a.feed_end a.table a.arm1 a.press_in a.press_out a.arm2 a.dep_entry a.dep_end a.crane) (flag_from a.feed_entry b.feed_entry p.0)
    ∙ ap (λ y. place_set b.feed_entry y a.table a.arm1 a.press_in a.press_out a.arm2 a.dep_entry a.dep_end a.crane) (flag_from a.feed_end b.feed_end q.0)
    ∙ ap (λ y. place_set b.feed_entry b.feed_end y a.arm1 a.press_in a.press_out a.arm2 a.dep_entry a.dep_end a.crane) (flag_from a.table b.table r.0)
    ∙ ap (λ y. place_set b.feed_entry b.feed_end b.table y a.press_in a.press_out a.arm2 a.dep_entry a.dep_end a.crane) (flag_from a.arm1 b.arm1 s.0)
    ∙ ap (λ y. place_set b.feed_entry b.feed_end b.table b.arm1 y a.press_out a.arm2 a.dep_entry a.dep_end a.crane) (flag_from a.press_in b.press_in t.0)
    ∙ ap (λ y. place_set b.feed_entry b.feed_end b.table b.arm1 b.press_in y a.arm2 a.dep_entry a.dep_end a.crane) (flag_from a.press_out b.press_out u.0)
    ∙ ap (λ y. place_set b.feed_entry b.feed_end b.table b.arm1 b.press_in b.press_out y a.dep_entry a.dep_end a.crane) (flag_from a.arm2 b.arm2 v.0)
    ∙ ap (λ y. place_set b.feed_entry b.feed_end b.table b.arm1 b.press_in b.press_out b.arm2 y a.dep_end a.crane) (flag_from a.dep_entry b.dep_entry w.0)
    ∙ ap (λ y. place_set b.feed_entry b.feed_end b.table b.arm1 b.press_in b.press_out b.arm2 b.dep_entry y a.crane) (flag_from a.dep_end b.dep_end x.0)
    ∙ ap (λ y. place_set b.feed_entry b.feed_end b.table b.arm1 b.press_in b.press_out b.arm2 b.dep_entry b.dep_end y) (flag_from a.crane b.crane x.1)

pub states_from : (a b : ModelState) → same_states a b ≡ true → a ≡ b
states_from a b e =
    let p = and_parts _ _ e in
    let q = and_parts _ _ p.1 in
    let r = and_parts _ _ q.1 in
    ap (λ x. model_state a.zones a.full x a.stopped) (eqb-true a.stamp b.stamp p.0)
    ∙ ap (λ x. model_state a.zones a.full b.stamp x) (flag_from a.stopped b.stopped q.0)
    ∙ ap (λ x. model_state x a.full b.stamp b.stopped) (zones_from a.zones b.zones r.0)
    ∙ ap (λ x. model_state b.zones x b.stamp b.stopped) (places_from a.full b.full r.1)
