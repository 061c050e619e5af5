-- Laws of the holders of zones, for one legal history from a sound opening.
use Rattle.cell_rules.proofs.Names.{◌≡◌, true, ◌||◌, is_none, List, sym, ap, ◌∙◌, ◌↔◌, IsTrue, subst, Machine, Robot, Press, Zone, Z3, Moving, Event, host_of, guest_of, same_posture, ModelState, IsSound, is_owned_by, is_open, owns, owner_of, posture_at, after, IsLegal, Holds, Moves, OneHolder, MoverIsHost, GuestOnlyWhileOpen}
use Rattle.cell_rules.proofs.lemmas.Tables.{implied}
use Rattle.cell_rules.proofs.lemmas.Histories.{sound-after}
use Rattle.cell_rules.proofs.lemmas.Holders.{owner_is}
use Rattle.cell_rules.proofs.lemmas.HoldsLemmas.{holds_iff_owns}
use Rattle.cell_rules.proofs.lemmas.Postures.{posture-after}

pub one_holder : (s : ModelState) → IsSound s → (h : List Event) → IsLegal s h → OneHolder s h
one_holder s k h l =
    let owner : (m : Machine) (z : Zone) → Holds s h m z ↔ IsTrue (owns (after s h) m z) = λ m z. holds_iff_owns s h m z l in
    let is = λ (m : Machine) (z : Zone) (held : Holds s h m z). owner_is (owner_of (after s h) z) m ((owner m z).0 held) in
    record {
      alone = λ m n z held also. let one = is m z held in let other = is n z also in cc;
      party = λ m z held. subst (λ o. (is_none o || is_owned_by o (host_of z) || is_owned_by o (guest_of z)) ≡ true) (is m z held) ((sound-after s h k).owner_is_party z);
      owner = owner;
    }

pub mover_is_host : (s : ModelState) → IsSound s → (h : List Event) → IsLegal s h → MoverIsHost s h
mover_is_host s k h l =
    let hosts : (z : Zone) → Moves s h z → Holds s h (host_of z) z = λ z moves.
    (holds_iff_owns s h (host_of z) z l).1
    (implied (same_posture (posture_at (after s h) z) Moving) (owns (after s h) (host_of z) z) ((sound-after s h k).moving_belongs_to_host z) (ap (λ p. same_posture p Moving) (posture-after s h z l ∙ moves))) in
    record {
      host = hosts;
      press = λ moves held. let one : Press ≡ Robot = (one_holder s k h l).alone Press Robot Z3 (hosts Z3 moves) held in cc;
    }

pub guest_only_while_open : (s : ModelState) → IsSound s → (h : List Event) → IsLegal s h → GuestOnlyWhileOpen s h
guest_only_while_open s k h l z held =
    ap is_open (sym (posture-after s h z l))
    ∙ implied (owns (after s h) (guest_of z) z) (is_open (posture_at (after s h) z)) ((sound-after s h k).guest_only_while_open z) ((holds_iff_owns s h (guest_of z) z l).0 held)
