-- The cause of each condition of a call.
use Rattle.cell_rules.proofs.Names.{◌≡◌, ◌≤◌, ℕ, Bool, true, false, ◌&&◌, ◌||◌, not, nat_eq, nat_lt, Option, Some, None, is_some, get_or, List, [], ◌∷◌, refl, sym, ap, ◌∙◌, arith, then_some, option_eq, same_Some, Machine, Zone, Posture, Closed, Moving, OpenIn, OpenOut}
use Rattle.cell_rules.proofs.Names.{Refusal, NotParty, Held, AlreadyMine, Shut, NotOwner, PlateInZone, NoPlate, PlaceFull, WrongWay, Jump, NotAtWork, NoPose, Worn, Stopped, NotStopped, InUse, number_of, same_machine, same_zone, same_posture, one_machine, one_posture, is_open, is_shut, held_by}
use Rattle.cell_rules.proofs.lemmas.Tables.{never, and_left, and_right, and_both}
use Rattle.cell_rules.proofs.lemmas.Holders.{same_machine-self, same_zone-self}
use Rattle.cell_rules.proofs.Chains.{Tells}

-- a passed test refuses
pub passed_then : (b : Bool) (r q : Refusal) → then_some b r ≡ Some q → (b ≡ true) × (r ≡ q)
passed_then true r q e = (refl, same_Some r q e)
passed_then false r q e = cc

pub some_then : (b : Bool) (r : Refusal) → b ≡ true → is_some (then_some b r) ≡ true
some_then b r e = ap (λ x. is_some (then_some x r)) e

-- ---- a refusal that names nothing: its number is its own

abbrev pub is_plain : Refusal → Bool
is_plain (Held _) = false
is_plain (Shut _) = false
is_plain (NotOwner _) = false
is_plain (PlateInZone _) = false
is_plain _ = true

abbrev is_plain_number : ℕ → Bool
is_plain_number n = not (nat_eq n 2 || nat_eq n 4 || nat_eq n 5 || nat_eq n 6)

plain_by_number : (r : Refusal) → is_plain r ≡ is_plain_number (number_of r)
plain_by_number NotParty = refl
plain_by_number _ = refl

-- the plain refusals by their numbers, with another for each number that isn't one of theirs
abbrev plains : List Refusal
plains =
    Worn ∷ NotParty ∷ Worn ∷ AlreadyMine ∷ Worn ∷ Worn ∷ Worn ∷ NoPlate ∷ PlaceFull ∷ WrongWay ∷ Jump ∷ NotAtWork ∷ NoPose ∷ Worn ∷ Stopped ∷ NotStopped ∷ InUse ∷ []

plain_at : (r : Refusal) → is_plain r ≡ true → get_or plains (number_of r) Worn ≡ r
plain_at (Held o) p = absurd (never (sym p))
plain_at (Shut q) p = absurd (never (sym p))
plain_at (NotOwner o) p = absurd (never (sym p))
plain_at (PlateInZone z) p = absurd (never (sym p))
plain_at _ p = refl

alone : (a b : Refusal) → is_plain a ≡ true → number_of b ≡ number_of a → a ≡ b
alone a b p e = sym (plain_at a p) ∙ ap (λ n. get_or plains n Worn) (sym e) ∙ plain_at b (plain_by_number b ∙ ap is_plain_number e ∙ sym (plain_by_number a) ∙ p)

pub plain : (cause : Refusal → Bool) (a : Refusal) (b : Bool) → is_plain a ≡ true → cause a ≡ b → Tells cause (number_of a, then_some b a)
plain cause a b p same = record {
  told = λ r e. let h = passed_then b a r e in (ap number_of (sym h.1), ap cause (sym h.1) ∙ same ∙ h.0);
  found = λ r n k. some_then b a (sym same ∙ ap cause (alone a r p n) ∙ k);
}

-- ---- refusals that name something

option_same : (o : Option Machine) → option_eq same_machine o o ≡ true
option_same None = refl
option_same (Some m) = same_machine-self m

abbrev is_mine : Option Machine → Machine → Bool
is_mine o m = option_eq same_machine o (Some m)

found_owner : (cause : Refusal → Bool) (own : Option Machine) (b : Bool) → ((o : Option Machine) → cause (NotOwner o) ≡ (b && option_eq same_machine own o)) → (r : Refusal) → number_of r ≡ 5 → cause r ≡ true → b ≡ true
found_owner cause own b same (NotOwner o) n k = and_left b (option_eq same_machine own o) (sym (same o) ∙ k)
found_owner cause own b same _ n k = absurd (never (sym (ap (λ i. nat_eq i 5) n)))

pub names_owner : (cause : Refusal → Bool) (own : Option Machine) (b : Bool) → ((o : Option Machine) → cause (NotOwner o) ≡ (b && option_eq same_machine own o)) → Tells cause (5, then_some b (NotOwner own))
names_owner cause own b same = record {
  told = λ r e. let h = passed_then b (NotOwner own) r e in (ap number_of (sym h.1), ap cause (sym h.1) ∙ same own ∙ and_both b (option_eq same_machine own own) h.0 (option_same own));
  found = λ r n k. some_then b (NotOwner own) (found_owner cause own b same r n k);
}

found_plate : (cause : Refusal → Bool) (z : Zone) (b : Bool) → ((y : Zone) → cause (PlateInZone y) ≡ (same_zone y z && b)) → (r : Refusal) → number_of r ≡ 6 → cause r ≡ true → b ≡ true
found_plate cause z b same (PlateInZone y) n k = and_right (same_zone y z) b (sym (same y) ∙ k)
found_plate cause z b same _ n k = absurd (never (sym (ap (λ i. nat_eq i 6) n)))

pub names_zone : (cause : Refusal → Bool) (z : Zone) (b : Bool) → ((y : Zone) → cause (PlateInZone y) ≡ (same_zone y z && b)) → Tells cause (6, then_some b (PlateInZone z))
names_zone cause z b same = record {
  told = λ r e. let h = passed_then b (PlateInZone z) r e in (ap number_of (sym h.1), ap cause (sym h.1) ∙ same z ∙ and_both (same_zone z z) b (same_zone-self z) h.0);
  found = λ r n k. some_then b (PlateInZone z) (found_plate cause z b same r n k);
}

told_held : (cause : Refusal → Bool) (own : Option Machine) (m : Machine) → ((o : Machine) → cause (Held o) ≡ (is_mine own o && not (same_machine o m))) → (r : Refusal) → held_by own m ≡ Some r → (number_of r ≡ 2) × (cause r ≡ true)
told_held cause None m same r e = cc
told_held cause (Some o) m same r e =
    let h = passed_then (not (same_machine o m)) (Held o) r e in
    (ap number_of (sym h.1), ap cause (sym h.1) ∙ same o ∙ and_both (same_machine o o) (not (same_machine o m)) (same_machine-self o) h.0)

held_other : (own : Option Machine) (o m : Machine) → is_mine own o ≡ true → not (same_machine o m) ≡ true → is_some (held_by own m) ≡ true
held_other None o m e f = cc
held_other (Some n) o m e f = some_then (not (same_machine n m)) (Held n) (ap (λ x. not (same_machine x m)) (one_machine n o e) ∙ f)

found_held : (cause : Refusal → Bool) (own : Option Machine) (m : Machine) → ((o : Machine) → cause (Held o) ≡ (is_mine own o && not (same_machine o m))) → (r : Refusal) → number_of r ≡ 2 → cause r ≡ true → is_some (held_by own m) ≡ true
found_held cause own m same (Held o) n k =
    let both = sym (same o) ∙ k in
    held_other own o m (and_left (is_mine own o) (not (same_machine o m)) both) (and_right (is_mine own o) (not (same_machine o m)) both)
found_held cause own m same _ n k = absurd (never (sym (ap (λ i. nat_eq i 2) n)))

pub names_holder : (cause : Refusal → Bool) (own : Option Machine) (m : Machine) → ((o : Machine) → cause (Held o) ≡ (is_mine own o && not (same_machine o m))) → Tells cause (2, held_by own m)
names_holder cause own m same = record { told = told_held cause own m same; found = found_held cause own m same }

pub same_posture-self : (q : Posture) → same_posture q q ≡ true
same_posture-self Closed = refl
same_posture-self _ = refl

shut_is : (q : Posture) → is_shut q ≡ not (is_open q)
shut_is Closed = refl
shut_is _ = refl

found_shut : (cause : Refusal → Bool) (q : Posture) (b : Bool) → ((p : Posture) → cause (Shut p) ≡ (b && same_posture q p && is_shut p)) → (r : Refusal) → number_of r ≡ 4 → cause r ≡ true → (b && not (is_open q)) ≡ true
found_shut cause q b same (Shut p) n k =
    let all = sym (same p) ∙ k in
    let front = and_left (b && same_posture q p) (is_shut p) all in
    and_both b (not (is_open q)) (and_left b (same_posture q p) front)
    (ap (λ x. not (is_open x)) (one_posture q p (and_right b (same_posture q p) front)) ∙ sym (shut_is p) ∙ and_right (b && same_posture q p) (is_shut p) all)
found_shut cause q b same _ n k = absurd (never (sym (ap (λ i. nat_eq i 4) n)))

pub names_posture : (cause : Refusal → Bool) (q : Posture) (b : Bool) → ((p : Posture) → cause (Shut p) ≡ (b && same_posture q p && is_shut p)) → Tells cause (4, then_some (b && not (is_open q)) (Shut q))
names_posture cause q b same = record {
  told = λ r e.
      let h = passed_then (b && not (is_open q)) (Shut q) r e in (
        ap number_of (sym h.1),
        ap cause (sym h.1) ∙ same q ∙ and_both (b && same_posture q q) (is_shut q) (and_both b (same_posture q q) (and_left b (not (is_open q)) h.0) (same_posture-self q)) (shut_is q ∙ and_right b (not (is_open q)) h.0),
      );
  found = λ r n k. some_then (b && not (is_open q)) (Shut q) (found_shut cause q b same r n k);
}

-- only a zone that moves
found_moving : (cause : Refusal → Bool) (b : Bool) → cause (Shut Moving) ≡ b → (cause (Shut Closed) ≡ false) × (cause (Shut OpenIn) ≡ false) × (cause (Shut OpenOut) ≡ false) → (r : Refusal) → number_of r ≡ 4 → cause r ≡ true → b ≡ true
found_moving cause b same others (Shut Moving) n k = sym same ∙ k
found_moving cause b same others (Shut Closed) n k = absurd (never (sym k ∙ others.0))
found_moving cause b same others (Shut OpenIn) n k = absurd (never (sym k ∙ others.1))
found_moving cause b same others (Shut OpenOut) n k = absurd (never (sym k ∙ others.2))
found_moving cause b same others _ n k = absurd (never (sym (ap (λ i. nat_eq i 4) n)))

pub names_moving : (cause : Refusal → Bool) (b : Bool) → cause (Shut Moving) ≡ b → (cause (Shut Closed) ≡ false) × (cause (Shut OpenIn) ≡ false) × (cause (Shut OpenOut) ≡ false) → Tells cause (4, then_some b (Shut Moving))
names_moving cause b same others = record {
  told = λ r e. let h = passed_then b (Shut Moving) r e in (ap number_of (sym h.1), ap cause (sym h.1) ∙ same ∙ h.0);
  found = λ r n k. some_then b (Shut Moving) (found_moving cause b same others r n k);
}

-- ---- the last stamp

pub worn_at : (n : ℕ) → n ≤ 1048575 → nat_eq n 1048575 ≡ not (nat_lt n 1048575)
worn_at n small = grind arith
