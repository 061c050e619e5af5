-- The bits of a line's faults.
use Rattle.std.proofs.Common.{◌≡◌, ◌∙◌, ◌≤◌, ◌+◌, ◌*◌, ◌/◌, ◌%◌, ◌^◌, ℕ, Bool, true, false, nat_eq, if◌then◌else◌, refl, sym, ap, arith}
use Rattle.plan_controller.specs.declared.faults.Faults.{Faults}
use Rattle.plan_controller.specs.declared.faults.Mendable.{Mendable}
use Rattle.plan_controller.specs.declared.faults.Mendable.TheVariants.{Held, Shut, NotOwner, PlateInZone, NoPlate}
use Rattle.plan_controller.specs.declared.faults.Mendable.TheVariants.{PlaceFull, WrongWay, Stopped}
use Rattle.plan_controller.specs.Faults.{has}
use Rattle.plan_controller.proofs.lemmas.Kinds.{same_faults}
use Rattle.plan_c.specs.Numbers.{faults_number, mendable_number}

abbrev pub of : Bool → ℕ
of true = 1
of false = 0

pub small : (b : Bool) → of b ≤ 1
small true = omega arith
small false = omega arith

weighs : (b : Bool) (value : ℕ) → (if b then value else 0) ≡ of b * value
weighs true value = omega arith
weighs false value = omega arith

is_one : (b : Bool) → nat_eq (of b) 1 ≡ b
is_one true = refl
is_one false = refl

pub summed : (f : Faults) → faults_number f
    ≡ of f.held * 4 + of f.shut * 16 + of f.not_owner * 32 + of f.plate_in_zone * 64 + of f.no_plate * 128 + of f.place_full * 256
    + of f.wrong_way * 512 + of f.stopped * 16384
summed f = omega (arith, weighs f.held 4, weighs f.shut 16, weighs f.not_owner 32, weighs f.plate_in_zone 64, weighs f.no_plate 128, weighs f.place_full 256, weighs f.wrong_way 512, weighs f.stopped 16384)

as_one : (n : ℕ) (b : Bool) → n ≡ of b → nat_eq n 1 ≡ b
as_one n b e = ap (λ k. nat_eq k 1) e ∙ is_one b

-- each fault by its bit
pub bits : (f : Faults) (kind : Mendable) → nat_eq (faults_number f / 2 ^ mendable_number kind % 2) 1 ≡ has f kind
bits f Held = as_one (faults_number f / 4 % 2) f.held (omega (arith, summed f, small f.held))
bits f Shut = as_one (faults_number f / 16 % 2) f.shut (omega (arith, summed f, small f.held, small f.shut))
bits f NotOwner = as_one (faults_number f / 32 % 2) f.not_owner (omega (arith, summed f, small f.held, small f.shut, small f.not_owner))
bits f PlateInZone =
    as_one (faults_number f / 64 % 2) f.plate_in_zone (omega (arith, summed f, small f.held, small f.shut, small f.not_owner, small f.plate_in_zone))
bits f NoPlate =
    as_one (faults_number f / 128 % 2) f.no_plate
    (omega (arith, summed f, small f.held, small f.shut, small f.not_owner, small f.plate_in_zone, small f.no_plate))
bits f PlaceFull =
    as_one (faults_number f / 256 % 2) f.place_full
    (omega (arith, summed f, small f.held, small f.shut, small f.not_owner, small f.plate_in_zone, small f.no_plate, small f.place_full))
bits f WrongWay =
    as_one (faults_number f / 512 % 2) f.wrong_way
    (omega (arith, summed f, small f.held, small f.shut, small f.not_owner, small f.plate_in_zone, small f.no_plate, small f.place_full, small f.wrong_way))
bits f Stopped =
    as_one (faults_number f / 16384 % 2) f.stopped
    (omega (arith, summed f, small f.held, small f.shut, small f.not_owner, small f.plate_in_zone, small f.no_plate, small f.place_full, small f.wrong_way, small f.stopped))

-- so what has the bits of faults is them
pub read : (n : ℕ) (f : Faults) → n ≡ faults_number f → (kind : Mendable) → nat_eq (n / 2 ^ mendable_number kind % 2) 1 ≡ has f kind
read n f e kind = ap (λ k. nat_eq (k / 2 ^ mendable_number kind % 2) 1) e ∙ bits f kind

pub one_number : (a b : Faults) → faults_number a ≡ faults_number b → a ≡ b
one_number a b e = same_faults a b (λ kind. sym (bits a kind) ∙ read (faults_number a) b e kind)
