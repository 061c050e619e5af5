-- No two refusals have the same word.
use Rattle.std.proofs.Common.{ℕ, ◌≡◌, List, [], ◌∷◌, ◌++◌, map, Some, None, refl, ◌↔◌}
use Rattle.cell_types.specs.declared.machine.Machine.TheVariants.{Feed}
use Rattle.cell_types.specs.declared.posture.Posture.TheVariants.{Closed}
use Rattle.cell_types.specs.declared.zone.Zone.TheVariants.{Z1}
use Rattle.cell_types.specs.declared.answer.Refusal.{Refusal}
use Rattle.cell_types.specs.declared.answer.Refusal.TheVariants.{NotParty, Held, AlreadyMine, Shut, NotOwner, PlateInZone, NoPlate, PlaceFull, WrongWay, Jump, NotAtWork, NoPose, Worn, Stopped, NotStopped, InUse}
use Rattle.cell_types.specs.Answers.{refusal_word}
use Rattle.cell_types.specs.Everything.{all_machines, all_postures, all_zones}
use Rattle.cell_types.specs.Words.{named}
use Rattle.cell_types.proofs.WordLemmas.{read_by}

abbrev pub refusals : List Refusal
refusals =
    NotParty ∷ map Held all_machines ++ AlreadyMine ∷ map Shut all_postures ++ NotOwner None ∷ map (λ m. NotOwner (Some m)) all_machines
    ++ map PlateInZone all_zones ++ NoPlate ∷ PlaceFull ∷ WrongWay ∷ Jump ∷ NotAtWork ∷ NoPose ∷ Worn ∷ Stopped ∷ NotStopped ∷ InUse ∷ []

found : (r : Refusal) → named refusal_word refusals (refusal_word r) ≡ Some r
found (Held Feed) = refl
found (Held _) = refl
found (Shut Closed) = refl
found (Shut _) = refl
found (NotOwner None) = refl
found (NotOwner (Some Feed)) = refl
found (NotOwner _) = refl
found (PlateInZone Z1) = refl
found _ = refl

pub refusal_read : (word : List ℕ) (r : Refusal) → (named refusal_word refusals word ≡ Some r) ↔ (word ≡ refusal_word r)
refusal_read = read_by refusal_word refusals found
