-- What holds of the two parties of a zone.
use Rattle.cell_word.proofs.Names.{◌≡◌, ℕ, Bool, Option, Some, Result, List, [], ◌∷◌, refl, sym, ap, ◌∙◌, Machine, Zone, Z1, Closed, Moving, Refusal, AlreadyMine, Held, Shut, guest_of, transfer_of, same_machine, other_party, machine_of, opposite, is_guest, giving_posture, owner_is, row_given, row_received, owner_becomes, when, posture_is, guard, checked, Guard, Party, Host}
use Rattle.cell_word.specs.Guards as guards

pub given_by_party : (z : Zone) (s : Party) → transfer_of z (giving_posture s) ≡ row_given (machine_of z s) z
given_by_party Z1 Host = refl
given_by_party _ Host = refl
given_by_party _ _ = refl

pub received_by_party : (z : Zone) (s : Party) → transfer_of z (giving_posture (opposite s)) ≡ row_received (machine_of z s) z
received_by_party Z1 Host = refl
received_by_party _ Host = refl
received_by_party _ _ = refl

pub other_of_party : (z : Zone) (s : Party) → other_party (machine_of z s) z ≡ machine_of z (opposite s)
other_of_party Z1 Host = refl
other_of_party _ Host = refl
other_of_party _ _ = refl

-- the other party of a zone, of its host and of its guest
pub other_is : (m : Machine) (z : Zone) (s : Party) → m ≡ machine_of z s → other_party m z ≡ machine_of z (opposite s)
other_is m z s e = ap (λ m. other_party m z) e ∙ other_of_party z s

pub guest_by_party : (z : Zone) (s : Party) → same_machine (machine_of z s) (guest_of z) ≡ is_guest s
guest_by_party Z1 Host = refl
guest_by_party _ Host = refl
guest_by_party _ _ = refl

pub guest_is : (m : Machine) (z : Zone) (s : Party) → m ≡ machine_of z s → same_machine m (guest_of z) ≡ is_guest s
guest_is m z s e = ap (λ m. same_machine m (guest_of z)) e ∙ guest_by_party z s

by_party : (z : Zone) (s : Party) (o : Option Machine) → owner_becomes (machine_of z s) z o ≡ owner_is z o
by_party Z1 Host o = refl
by_party _ Host o = refl
by_party _ _ o = refl

-- what a party writes for the owner
pub owner_by : (m : Machine) (z : Zone) (s : Party) (o : Option Machine) → m ≡ machine_of z s → owner_becomes m z o ≡ owner_is z o
owner_by m z s o e = ap (λ m. owner_becomes m z o) e ∙ by_party z s o

-- ---- guards that name a party, by the machine that it is
pub held_as : {q : Result (Unit {0}) Refusal} (w : ℕ) (m : Machine) (z : Zone) (s : Party) → m ≡ machine_of z s → q ≡ checked w (guards.held_guards z s) → q ≡ checked w (guards.unowned z ∷ guards.anothers z (other_party m z) ∷ [])
held_as w m z s is e = e ∙ ap (λ o. checked w (guards.unowned z ∷ guards.anothers z o ∷ [])) (sym (other_is m z s is))

pub held_and_clear_as : {q : Result (Unit {0}) Refusal} (w : ℕ) (m : Machine) (z : Zone) (s : Party) → m ≡ machine_of z s → q ≡ checked w (guards.held_and_clear_guards z s) → q ≡ checked w (guards.unowned z ∷ guards.anothers z (other_party m z) ∷ guards.plate_in z ∷ [])
held_and_clear_as w m z s is e = e ∙ ap (λ o. checked w (guards.unowned z ∷ guards.anothers z o ∷ guards.plate_in z ∷ [])) (sym (other_is m z s is))

abbrev pub entering : Zone → Machine → Machine → Bool → List Guard
entering z m o is_guest =
    guard (owner_is z (Some m)) AlreadyMine ∷ guard (owner_is z (Some o)) (Held o)
    ∷ guard (when is_guest (posture_is z Closed)) (Shut Closed) ∷ guard (when is_guest (posture_is z Moving)) (Shut Moving) ∷ []

pub entering_as : {q : Result (Unit {0}) Refusal} (w : ℕ) (m : Machine) (z : Zone) (s : Party) → m ≡ machine_of z s → q ≡ checked w (guards.entering_guards z s) → q ≡ checked w (entering z m (other_party m z) (same_machine m (guest_of z)))
entering_as w m z s is e =
    let same : checked w (entering z m (other_party m z) (same_machine m (guest_of z))) ≡ checked w (guards.entering_guards z s) = λ i. checked w (entering z (is i) (other_is m z s is i) (guest_is m z s is i)) in
    e ∙ sym same
