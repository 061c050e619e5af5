-- Each call is refused by the first of its conditions, and these give its causes.
use Rattle.cell_rules.proofs.Names.{◌≡◌, ◌≤◌, ℕ, Bool, true, false, ◌&&◌, not, nat_lt, Option, Some, None, option_map, is_none, List, [], ◌∷◌, refl, ap, ◌∙◌, option_eq, Machine, Feed, Watch, Zone, Z1, Z6, Transfer, Place, FeedEnd, Posture, Moving, Refusal, NotParty, AlreadyMine, NoPlate, PlaceFull, WrongWay, Worn, Stopped, NotStopped, InUse, number_of, guest_of, transfer_of, same_machine, same_zone, same_place, same_posture, one_place}
use Rattle.cell_rules.proofs.Names.{NoPose, Call, Claim, Give, Yield, Take, Release, SetPose, Advance, Stop, Resume, way_of, ModelState, zone_at, is_full, has, is_party, owner_of, posture_at, owns, given_by, transfer_given, is_shut, parties_of, gift_of, is_stranger, is_in_use, on_way, claim_cause, give_cause, yield_cause, take_cause, release_cause, stop_cause, resume_cause, order_of}
use Rattle.cell_rules.specs.Refusals
use Rattle.cell_rules.specs.Causes.{is_cause}
use Rattle.cell_rules.proofs.lemmas.Tables.{and_left, and_right, machines, zones, postures, holds3}
use Rattle.cell_rules.proofs.Chains.{Line, line, chain, numbers, Tells, First, is_among, told_by, first_by}
use Rattle.cell_rules.proofs.lemmas.Tellings.{plain, names_owner, names_zone, names_holder, names_posture, names_moving, worn_at}

-- a call's refusal has its cause, and is in the call's order
pub record TellsRight (causes : Refusal → Bool) (order : List ℕ) (o : Option Refusal) : Type 0 where
  pub cause : (r : Refusal) → o ≡ Some r → causes r ≡ true
  pub first : (r : Refusal) → causes r ≡ true → First order o r

-- the order names every refusal that has a cause
abbrev pub AllNamed : (Refusal → Bool) → List ℕ → Type 0
AllNamed causes order = (r : Refusal) → causes r ≡ true → is_among (number_of r) order ≡ true

pub by_lines : (causes : Refusal → Bool) (ls : List (Line causes)) → AllNamed causes (numbers ls) → TellsRight causes (numbers ls) (chain None ls)
by_lines causes ls named = record { cause = told_by causes ls; first = λ r k. first_by causes ls r k (named r k) }

pub named : (s : ModelState) (m : Machine) (c : Call) → AllNamed (is_cause s m c) (order_of c)
named s m (Claim z) NotParty k = refl
named s m (Give z) NotParty k = refl
named s m (Yield z) NotParty k = refl
named s m (Take z) NotParty k = refl
named s m (Release z) NotParty k = refl
named s m (SetPose p) NoPose k = refl
named s m Advance NoPose k = refl
named s m Stop NotParty k = refl
named s m Resume NotParty k = refl
named s m _ _ k = cc

-- ---- the zone's parties, and what is given in it

stranger : (m : Machine) (z : Zone) → is_stranger m z ≡ not (is_party m z)
stranger m Z1 = refl
stranger m _ = refl

guest : (m : Machine) (z : Zone) → same_machine m (parties_of z).1 ≡ same_machine m (guest_of z)
guest m Z1 = refl
guest m _ = refl

abbrev same_way : Option (Place × Place) → Option (Place × Place) → Bool
same_way a b = option_eq (λ x y. same_place x.0 y.0 && same_place x.1 y.1) a b

one_way : (a b : Option (Place × Place)) → same_way a b ≡ true → a ≡ b
one_way None None e = refl
one_way None (Some y) e = cc
one_way (Some x) None e = cc
one_way (Some x) (Some y) e =
    let from = one_place x.0 y.0 (and_left (same_place x.0 y.0) (same_place x.1 y.1) e) in
    let to = one_place x.1 y.1 (and_right (same_place x.0 y.0) (same_place x.1 y.1) e) in
    ap (λ p. Some (p, x.1)) from ∙ ap (λ q. Some (y.0, q)) to

abbrev gift_test : Machine → Zone → Posture → Bool
gift_test m z q = same_way (gift_of m z q) (option_map way_of (given_by m (transfer_of z q)))

gift_is : (m : Machine) (z : Zone) (q : Posture) → gift_of m z q ≡ option_map way_of (given_by m (transfer_of z q))
gift_is m z q = one_way (gift_of m z q) (option_map way_of (given_by m (transfer_of z q))) (holds3 machines zones postures gift_test refl m z q)

in_use : (s : ModelState) (m : Machine) (z : Zone) → is_in_use s m z ≡ (same_machine m Feed && same_zone z Z1 && same_posture (posture_at s Z6) Moving && is_full s FeedEnd)
in_use s Feed Z1 = refl
in_use s _ _ = refl

none_map : (row : Option Transfer) → is_none (option_map way_of row) ≡ is_none row
none_map None = refl
none_map (Some row) = refl

to_give : (causes : Refusal → Bool) (s : ModelState) (row : Option Transfer) → causes NoPlate ≡ on_way (option_map way_of row) (λ way. not (has s.full way.0)) → Tells causes (7, Refusals.nothing_to_give s row)
to_give causes s None same = plain causes NoPlate false refl same
to_give causes s (Some row) same = plain causes NoPlate (not (is_full s row.from)) refl same

to_fill : (causes : Refusal → Bool) (s : ModelState) (row : Option Transfer) → causes PlaceFull ≡ on_way (option_map way_of row) (λ way. has s.full way.1) → Tells causes (8, Refusals.no_room s row)
to_fill causes s None same = plain causes PlaceFull false refl same
to_fill causes s (Some row) same = plain causes PlaceFull (is_full s row.to) refl same

-- ---- the calls

pub claim_tells : (s : ModelState) (m : Machine) (z : Zone) → s.stamp ≤ 1048575 → TellsRight (claim_cause s m z) (1 ∷ 14 ∷ 3 ∷ 2 ∷ 4 ∷ 13 ∷ []) (Refusals.claim_refusal s m z)
claim_tells s m z small =
    let causes = claim_cause s m z in
    let lines : List (Line causes) =
    line (plain causes NotParty (not (is_party m z)) refl (stranger m z))
    ∷ line (plain causes Stopped s.stopped refl refl)
    ∷ line (plain causes AlreadyMine (owns s m z) refl refl)
    ∷ line (names_holder causes (owner_of s z) m (λ o. refl))
    ∷ line (names_posture causes (posture_at s z) (same_machine m (guest_of z)) (λ p. ap (λ b. b && same_posture (posture_at s z) p && is_shut p) (guest m z)))
    ∷ line (plain causes Worn (not (nat_lt s.stamp 1048575)) refl (worn_at s.stamp small))
    ∷ [] in
    by_lines causes lines (named s m (Claim z))

pub give_tells : (s : ModelState) (m : Machine) (z : Zone) → s.stamp ≤ 1048575 → TellsRight (give_cause s m z) (1 ∷ 14 ∷ 5 ∷ 6 ∷ 9 ∷ 7 ∷ 8 ∷ 13 ∷ []) (Refusals.give_refusal s m z)
give_tells s m z small =
    let causes = give_cause s m z in
    let row = transfer_given s m z in
    let way = gift_is m z (posture_at s z) in
    let lines : List (Line causes) =
    line (plain causes NotParty (not (is_party m z)) refl (stranger m z))
    ∷ line (plain causes Stopped s.stopped refl refl)
    ∷ line (names_owner causes (owner_of s z) (not (owns s m z)) (λ o. refl))
    ∷ line (names_zone causes z (zone_at s z).flag (λ y. refl))
    ∷ line (plain causes WrongWay (is_none row) refl (ap is_none way ∙ none_map row))
    ∷ line (to_give causes s row (ap (λ o. on_way o (λ w. not (has s.full w.0))) way))
    ∷ line (to_fill causes s row (ap (λ o. on_way o (λ w. has s.full w.1)) way))
    ∷ line (plain causes Worn (not (nat_lt s.stamp 1048575)) refl (worn_at s.stamp small))
    ∷ [] in
    by_lines causes lines (named s m (Give z))

pub yield_tells : (s : ModelState) (m : Machine) (z : Zone) → s.stamp ≤ 1048575 → TellsRight (yield_cause s m z) (1 ∷ 5 ∷ 6 ∷ 4 ∷ 16 ∷ 13 ∷ []) (Refusals.yield_refusal s m z)
yield_tells s m z small =
    let causes = yield_cause s m z in
    let lines : List (Line causes) =
    line (plain causes NotParty (not (is_party m z)) refl (stranger m z))
    ∷ line (names_owner causes (owner_of s z) (not (owns s m z)) (λ o. refl))
    ∷ line (names_zone causes z (zone_at s z).flag (λ y. refl))
    ∷ line (names_posture causes (posture_at s z) true (λ p. refl))
    ∷ line (plain causes InUse (same_machine m Feed && same_zone z Z1 && same_posture (posture_at s Z6) Moving && is_full s FeedEnd) refl (in_use s m z))
    ∷ line (plain causes Worn (not (nat_lt s.stamp 1048575)) refl (worn_at s.stamp small))
    ∷ [] in
    by_lines causes lines (named s m (Yield z))

pub take_tells : (s : ModelState) (m : Machine) (z : Zone) → s.stamp ≤ 1048575 → TellsRight (take_cause s m z) (1 ∷ 5 ∷ 7 ∷ 13 ∷ []) (Refusals.take_refusal s m z)
take_tells s m z small =
    let causes = take_cause s m z in
    let lines : List (Line causes) =
    line (plain causes NotParty (not (is_party m z)) refl (stranger m z))
    ∷ line (names_owner causes (owner_of s z) (not (owns s m z)) (λ o. refl))
    ∷ line (plain causes NoPlate (not (zone_at s z).flag) refl refl)
    ∷ line (plain causes Worn (not (nat_lt s.stamp 1048575)) refl (worn_at s.stamp small))
    ∷ [] in
    by_lines causes lines (named s m (Take z))

pub release_tells : (s : ModelState) (m : Machine) (z : Zone) → s.stamp ≤ 1048575 → TellsRight (release_cause s m z) (1 ∷ 5 ∷ 6 ∷ 4 ∷ 16 ∷ 13 ∷ []) (Refusals.release_refusal s m z)
release_tells s m z small =
    let causes = release_cause s m z in
    let lines : List (Line causes) =
    line (plain causes NotParty (not (is_party m z)) refl (stranger m z))
    ∷ line (names_owner causes (owner_of s z) (not (owns s m z)) (λ o. refl))
    ∷ line (names_zone causes z (zone_at s z).flag (λ y. refl))
    ∷ line (names_moving causes (same_posture (posture_at s z) Moving) refl (refl, refl, refl))
    ∷ line (plain causes InUse (same_machine m Feed && same_zone z Z1 && same_posture (posture_at s Z6) Moving && is_full s FeedEnd) refl (in_use s m z))
    ∷ line (plain causes Worn (not (nat_lt s.stamp 1048575)) refl (worn_at s.stamp small))
    ∷ [] in
    by_lines causes lines (named s m (Release z))

pub stop_tells : (s : ModelState) (m : Machine) → s.stamp ≤ 1048575 → TellsRight (stop_cause s m) (1 ∷ 14 ∷ 13 ∷ []) (Refusals.stop_refusal s m)
stop_tells s m small =
    let causes = stop_cause s m in
    let lines : List (Line causes) =
    line (plain causes NotParty (not (same_machine m Watch)) refl refl)
    ∷ line (plain causes Stopped s.stopped refl refl)
    ∷ line (plain causes Worn (not (nat_lt s.stamp 1048575)) refl (worn_at s.stamp small))
    ∷ [] in
    by_lines causes lines (named s m Stop)

pub resume_tells : (s : ModelState) (m : Machine) → s.stamp ≤ 1048575 → TellsRight (resume_cause s m) (1 ∷ 15 ∷ 13 ∷ []) (Refusals.resume_refusal s m)
resume_tells s m small =
    let causes = resume_cause s m in
    let lines : List (Line causes) =
    line (plain causes NotParty (not (same_machine m Watch)) refl refl)
    ∷ line (plain causes NotStopped (not s.stopped) refl refl)
    ∷ line (plain causes Worn (not (nat_lt s.stamp 1048575)) refl (worn_at s.stamp small))
    ∷ [] in
    by_lines causes lines (named s m Resume)
