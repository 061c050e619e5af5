use Rattle.cell_word.proofs.Names.{◌≡◌, ℕ, true, false, List, refl, sym, ap, ◌∙◌, [], ◌∷◌, flat_map, Zone, Z3, Place, PressIn, PressOut, OpenIn, same_zone, transfer_of, checked}
use Rattle.cell_word.specs.Guards as guards
use Rattle.cell_word.proofs.Trying.{InTurn, by_parts_to, ends, past, refused_by}
use Rattle.cell_word.proofs.pose_guards.require_room_inside.Goals as goal

-- the press has two places inside z3
pressed : (w : ℕ) (z : Zone) → same_zone z Z3 ≡ true
    → InTurn w (guards.room_guards z PressIn ∷ []) (checked w (guards.room_guards z PressOut)) (checked w (guards.opening_guards z OpenIn))
pressed w Z3 e = by_parts_to w (guards.room_guards Z3 PressIn ∷ []) (guards.room_guards Z3 PressOut)
pressed w z e = cc

-- any other zone has at most one, where its plates go
elsewhere : (z : Zone) → same_zone z Z3 ≡ false → guards.inner_places z ≡ guards.end_of (transfer_of z OpenIn)
elsewhere Z3 e = cc
elsewhere z e = refl

pub returns-in_err-require_room : goal.returns-in_err-require_room
returns-in_err-require_room c = refused_by (pressed c.args.at.word c.args.at.zone (sym c.eq.ensures ∙ c.if-eq.true)) c.require_room.ensures c.in_err-require_room.was c.from_residual.ensures.1

pub returns-then-eq : goal.returns-then-eq
returns-then-eq c = ends (past (pressed c.args.at.word c.args.at.zone (sym c.eq.ensures ∙ c.if-eq.true)) c.require_room.ensures c.in_ok-require_room.was) c.require_room-then-eq.ensures

pub returns-in-Some : goal.returns-in-Some
returns-in-Some c =
    let w = c.args.at.word in
    let z = c.args.at.zone in
    c.require_room-in-Some.ensures
    ∙ sym (ap (λ (places : List Place). checked w (flat_map (guards.room_guards z) places)) (elsewhere z (sym c.eq.ensures ∙ c.if-eq.false) ∙ ap guards.end_of (sym c.transfer.ensures ∙ c.in-Some.is)))

pub returns-in-None : goal.returns-in-None
returns-in-None c =
    let w = c.args.at.word in
    let z = c.args.at.zone in
    sym (ap (λ (places : List Place). checked w (flat_map (guards.room_guards z) places)) (elsewhere z (sym c.eq.ensures ∙ c.if-eq.false) ∙ ap guards.end_of (sym c.transfer.ensures ∙ c.in-None.is)))
