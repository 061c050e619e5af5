-- Tests whether two refusals, or two rows of transfers, are the same.
use Rattle.cell_word.proofs.Names.{◌≡◌, Bool, true, false, ◌&&◌, not, Option, Some, None, refl, ap, Machine, Transfer, Refusal, NotParty, Held, AlreadyMine, Shut, NotOwner, PlateInZone, NoPlate, PlaceFull, WrongWay, Jump, NotAtWork, NoPose, Worn, InUse, Stopped, NotStopped, same_machine, same_zone, same_place, same_posture, one_machine, one_zone, one_place, one_posture, and_left, and_right}

abbrev pub same_bool : Bool → Bool → Bool
same_bool b true = b
same_bool b false = not b

pub one_bool : (a b : Bool) → same_bool a b ≡ true → a ≡ b
one_bool true true e = refl
one_bool false false e = refl
one_bool _ _ e = cc

abbrev pub same_refusal : Refusal → Refusal → Bool
same_refusal NotParty NotParty = true
same_refusal AlreadyMine AlreadyMine = true
same_refusal NoPlate NoPlate = true
same_refusal PlaceFull PlaceFull = true
same_refusal WrongWay WrongWay = true
same_refusal Jump Jump = true
same_refusal NotAtWork NotAtWork = true
same_refusal NoPose NoPose = true
same_refusal Worn Worn = true
same_refusal InUse InUse = true
same_refusal Stopped Stopped = true
same_refusal NotStopped NotStopped = true
same_refusal (Held m) (Held n) = same_machine m n
same_refusal (Shut p) (Shut q) = same_posture p q
same_refusal (NotOwner None) (NotOwner None) = true
same_refusal (NotOwner (Some m)) (NotOwner (Some n)) = same_machine m n
same_refusal (PlateInZone y) (PlateInZone z) = same_zone y z
same_refusal _ _ = false

one_refusal : (a b : Refusal) → same_refusal a b ≡ true → a ≡ b
one_refusal (Held m) (Held n) e = ap Held (one_machine m n e)
one_refusal (Shut p) (Shut q) e = ap Shut (one_posture p q e)
one_refusal (NotOwner None) (NotOwner None) e = refl
one_refusal (NotOwner (Some m)) (NotOwner (Some n)) e = ap (λ (x : Machine). NotOwner (Some x)) (one_machine m n e)
one_refusal (PlateInZone y) (PlateInZone z) e = ap PlateInZone (one_zone y z e)
one_refusal _ NotParty e = cc
one_refusal _ _ e = cc

abbrev pub same_answer : Option Refusal → Option Refusal → Bool
same_answer None None = true
same_answer (Some a) (Some b) = same_refusal a b
same_answer _ _ = false

pub one_answer : (a b : Option Refusal) → same_answer a b ≡ true → a ≡ b
one_answer None None e = refl
one_answer (Some a) (Some b) e = ap Some (one_refusal a b e)
one_answer _ _ e = cc

abbrev pub same_transfer : Transfer → Transfer → Bool
same_transfer a b = same_machine a.giver b.giver && (same_machine a.receiver b.receiver && (same_place a.from b.from && same_place a.to b.to))

one_transfer : (a b : Transfer) → same_transfer a b ≡ true → a ≡ b
one_transfer a b e =
    let rest = and_right _ _ e in
    let places = and_right _ _ rest in
    let giver = one_machine a.giver b.giver (and_left _ _ e) in
    let receiver = one_machine a.receiver b.receiver (and_left _ _ rest) in
    let start = one_place a.from b.from (and_left _ _ places) in
    let end = one_place a.to b.to (and_right _ _ places) in
    λ i. record { giver = giver i; receiver = receiver i; from = start i; to = end i }

abbrev pub same_row : Option Transfer → Option Transfer → Bool
same_row None None = true
same_row (Some a) (Some b) = same_transfer a b
same_row _ _ = false

pub one_row : (a b : Option Transfer) → same_row a b ≡ true → a ≡ b
one_row None None e = refl
one_row (Some a) (Some b) e = ap Some (one_transfer a b e)
one_row _ _ e = cc
