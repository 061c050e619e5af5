-- What the crane knows at its step tells that it is in step, and the other way round.
use Rattle.cell_resume.proofs.Names.{◌≡◌, Bool, true, refl, ap, ◌∙◌, option_map, ℕ, ℤ, false, if◌then◌else◌, Option, Some, Machine, Crane, Scale, ModelState, is_full, implies, and_left, and_right, and_both, first_step, crane_start, crane_steps, CraneStep, CraneProgress, KnowingMore, one_flag, own_flag}
use Rattle.cell_types.specs.declared.place.Place.TheVariants.{Crane as OnCrane}
use Rattle.cell_control.specs.Keeping.{are_kept}
use Rattle.cell_control.proofs.lemmas.SharedZones.{all_kept_of, of_all_kept}
use Rattle.cell_belts_crane.specs.Names.{row_at, step_after_inquiry, after_done, is_done}
use Rattle.cell_belts_crane.specs.CraneProgram.{number_at, keeps_at, zones_at, in_step}
use Rattle.cell_belts_crane.specs.declared.crane.CraneStep.TheVariants.{AwaitPlate, GripPlate, DropPlate}
use Rattle.cell_belts_crane.proofs.lemmas.CraneFacts.{CraneKnows}
use Rattle.cell_belts_crane.proofs.lemmas.StepNumbers.{crane_found}
use Rattle.cell_team.proofs.lemmas.CraneTeam as team
use Rattle.cell_resume.specs.CraneKeeps.{progress_at}
use Rattle.cell_resume.proofs.CraneResumes.{crane_resumable}

-- ---- the magnet

abbrev pub MagnetSo : CraneProgress → ModelState → Type 0
MagnetSo p z = (keeps_at p.step).magnet ≡ p.magnet

next_magnet : (s : CraneStep) (p : CraneProgress) → (keeps_at s).magnet ≡ p.magnet → (keeps_at (row_at s p).next.step).magnet ≡ (row_at s p).next.magnet
next_magnet GripPlate p k = refl
next_magnet DropPlate p k = refl
next_magnet _ p k = k

drive_magnet : (b : Bool) (p : CraneProgress) (z : ModelState) → MagnetSo p z → MagnetSo (if b then after_done p else p) z
drive_magnet true p z k = next_magnet p.step p k
drive_magnet false p z k = k

looked : (s : CraneStep) (o : Option Machine) (f : Bool) → (keeps_at (step_after_inquiry s o f)).magnet ≡ (keeps_at s).magnet
looked AwaitPlate (Some Crane) true = refl
looked AwaitPlate o f = refl
looked s o f = refl

pub magnet_kept : (points : Scale) (gives : ℕ → ℤ → Type 0) → KnowingMore (crane_steps points gives) CraneKnows MagnetSo
magnet_kept points gives = record {
  foreign = λ p z n c apart sound polite k. k;
  after_drive = λ p r act z e d k. drive_magnet (is_done p.step r.high act) p z k;
  after_done = λ p z c e d sound f k. next_magnet p.step p k;
  after_inquiry = λ p z c o f q e d sound knows k. looked p.step o f ∙ k;
}

first_magnet : (loaded : Bool) → (keeps_at (first_step loaded)).magnet ≡ loaded
first_magnet true = refl
first_magnet false = refl

pub magnet_begins : (z : ModelState) → MagnetSo (crane_start z) z
magnet_begins z = first_magnet (is_full z OnCrane)

-- ---- both ways

pub crane_knows : (points : Scale) (gives : ℕ → ℤ → Type 0) → (p : CraneProgress) (z : ModelState) → in_step p z ≡ true → CraneKnows p z × team.CraneMore p z
crane_knows points gives p z e =
    let rest = and_right (are_kept (zones_at p.step) Crane z) _ e in
    ((crane_resumable points gives).enters p z e, record { shares = (all_kept_of (zones_at p.step) Crane z (and_left _ _ e)).1; plate = and_left _ _ rest })

pub crane_magnets : (p : CraneProgress) (z : ModelState) → in_step p z ≡ true → MagnetSo p z
crane_magnets p z e =
    one_flag _ _ (and_right (implies (keeps_at p.step).plate (is_full z OnCrane)) _ (and_right (are_kept (zones_at p.step) Crane z) _ e))

pub crane_stands : (p : CraneProgress) (z : ModelState) → CraneKnows p z × team.CraneMore p z → MagnetSo p z → in_step p z ≡ true
crane_stands p z k m =
    and_both _ _ (of_all_kept (zones_at p.step) Crane z k.0 k.1.shares) (and_both _ _ k.1.plate (own_flag _ _ m))

-- ---- its number

abbrev noted : CraneStep → Bool → CraneProgress
noted step magnet = record { step = step; magnet = magnet }

pub leads_back : (p : CraneProgress) (z : ModelState) → in_step p z ≡ true → progress_at (number_at p.step) ≡ Some p
leads_back p z e =
    ap (option_map (λ s. noted s (keeps_at s).magnet)) (crane_found p.step) ∙ ap (λ m. Some (noted p.step m)) (crane_magnets p z e)
