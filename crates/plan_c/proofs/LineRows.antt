-- The numbers of faults, and the rows of literal steps.
use Rattle.std.proofs.Common.{◌≡◌, ◌<◌, ◌≤◌, ℕ, Some, refl, ap, arith}
use Rattle.plan_types.specs.declared.call.Call.{Call}
use Rattle.plan_types.specs.declared.call.Call.TheVariants.{Claim, Give, Yield, Take, Release, SetPose, Inquire, Stop, Resume, Advance}
use Rattle.plan_types.specs.declared.answer.Refusal.{Refusal}
use Rattle.plan_types.specs.declared.answer.Refusal.TheVariants as refusal
use Rattle.plan_controller.specs.declared.faults.Faults.{Faults}
use Rattle.plan_controller.specs.declared.faults.Mendable.{Mendable}
use Rattle.plan_controller.specs.declared.faults.Mendable.TheVariants.{Held, Shut, NotOwner, PlateInZone, NoPlate}
use Rattle.plan_controller.specs.declared.faults.Mendable.TheVariants.{PlaceFull, WrongWay, Stopped}
use Rattle.plan_controller.specs.declared.step.Step.TheVariants.{Do, Await, Run}
use Rattle.plan_controller.specs.Faults.{mendable}
use Rattle.plan_c.specs.LineExamples.{FaultsHaveNumbers, LinesAreMet, NoRow, row}
use Rattle.plan_c.specs.Numbers.{faults_number, mendable_number, verb_number}
use Rattle.plan_c.specs.Replies.{refusal_number}
use Rattle.plan_c.specs.declared.line.ProgramLine.{ProgramLine}
use Rattle.plan_c.proofs.FaultBits.{bits, one_number, small, summed}

-- ---- numbers

number : (own kind : Mendable) → Some own ≡ Some kind → mendable_number own ≡ mendable_number kind
number own kind e = let same : own ≡ kind = cc in ap mendable_number same

of_refusals : (r : Refusal) (kind : Mendable) → mendable r ≡ Some kind → refusal_number r ≡ mendable_number kind
of_refusals (refusal.Held machine) kind e = number Held kind e
of_refusals (refusal.Shut posture) kind e = number Shut kind e
of_refusals (refusal.NotOwner owner) kind e = number NotOwner kind e
of_refusals (refusal.PlateInZone zone) kind e = number PlateInZone kind e
of_refusals refusal.NoPlate kind e = number NoPlate kind e
of_refusals refusal.PlaceFull kind e = number PlaceFull kind e
of_refusals refusal.WrongWay kind e = number WrongWay kind e
of_refusals refusal.Stopped kind e = number Stopped kind e
of_refusals refusal.NotParty kind e = absurd (cc)
of_refusals refusal.AlreadyMine kind e = absurd (cc)
of_refusals refusal.Jump kind e = absurd (cc)
of_refusals refusal.NoPose kind e = absurd (cc)
of_refusals refusal.Worn kind e = absurd (cc)
of_refusals refusal.NotStopped kind e = absurd (cc)

pub faults_have_numbers : FaultsHaveNumbers
faults_have_numbers = record {
  kinds = refl;
  of_refusals = of_refusals;
  none = refl;
  held = refl;
  shut = refl;
  not_owner = refl;
  plate_in_zone = refl;
  no_plate = refl;
  place_full = refl;
  wrong_way = refl;
  stopped = refl;
  all = refl;
  bits = bits;
  one_number = one_number;
}

-- ---- rows

a_verb : (c : Call) → verb_number c ≤ 11
a_verb (Claim z) = omega arith
a_verb (Give z) = omega arith
a_verb (Yield z) = omega arith
a_verb (Take z) = omega arith
a_verb (Release z) = omega arith
a_verb (SetPose p) = omega arith
a_verb (Inquire z) = omega arith
a_verb Stop = omega arith
a_verb Resume = omega arith
a_verb (Advance p) = omega arith

waits : NoRow (row 0 16 7 0 4)
waits (Do c f) e = omega (arith, ap (λ (l : ProgramLine). l.kind) e, a_verb c)
waits (Await z) e = omega (arith, ap (λ (l : ProgramLine). l.faults) e)
waits (Run motors until) e = omega (arith, ap (λ (l : ProgramLine). l.faults) e)

runs : NoRow (row 5 17 0 31 4)
runs (Do c f) e = omega (arith, ap (λ (l : ProgramLine). l.kind) e, a_verb c)
runs (Await z) e = omega (arith, ap (λ (l : ProgramLine). l.faults) e)
runs (Run motors until) e = omega (arith, ap (λ (l : ProgramLine). l.faults) e)

-- a call whose faults have no such number
no_faults_of : (kind object n : ℕ) → kind < 16 → ((f : Faults) → n ≡ faults_number f → ⊥) → NoRow (row 0 kind object 0 n)
no_faults_of kind object n call never (Do c f) e = never f (ap (λ (l : ProgramLine). l.faults) e)
no_faults_of kind object n call never (Await z) e = omega (arith, ap (λ (l : ProgramLine). l.kind) e, call)
no_faults_of kind object n call never (Run motors until) e = omega (arith, ap (λ (l : ProgramLine). l.kind) e, call)

one : (f : Faults) → 1 ≡ faults_number f → ⊥
one f e = omega (arith, e, summed f)

two : (f : Faults) → 2 ≡ faults_number f → ⊥
two f e = omega (arith, e, summed f)

bit_10 : (f : Faults) → 1024 ≡ faults_number f → ⊥
bit_10 f e = omega (arith, e, summed f, small f.held, small f.shut, small f.not_owner, small f.plate_in_zone, small f.no_plate, small f.place_full, small f.wrong_way)

bit_11 : (f : Faults) → 2048 ≡ faults_number f → ⊥
bit_11 f e = omega (arith, e, summed f, small f.held, small f.shut, small f.not_owner, small f.plate_in_zone, small f.no_plate, small f.place_full, small f.wrong_way)

held_and_13 : (f : Faults) → 8196 ≡ faults_number f → ⊥
held_and_13 f e = omega (arith, e, summed f, small f.held, small f.shut, small f.not_owner, small f.plate_in_zone, small f.no_plate, small f.place_full, small f.wrong_way)

bit_15 : (f : Faults) → 32768 ≡ faults_number f → ⊥
bit_15 f e =
    omega (arith, e, summed f, small f.held, small f.shut, small f.not_owner, small f.plate_in_zone, small f.no_plate, small f.place_full, small f.wrong_way, small f.stopped)

pub lines_are_met : LinesAreMet
lines_are_met = record {
  claim = refl;
  if_held = refl;
  pose = refl;
  stop = refl;
  await = refl;
  run = refl;
  waits = waits;
  runs = runs;
  bit_0 = no_faults_of 1 3 1 (omega arith) one;
  bit_11 = no_faults_of 1 3 2048 (omega arith) bit_11;
  not_party = no_faults_of 1 3 2 (omega arith) two;
  jump = no_faults_of 6 3 1024 (omega arith) bit_10;
  worn = no_faults_of 1 3 8196 (omega arith) held_and_13;
  not_stopped = no_faults_of 1 3 32768 (omega arith) bit_15;
}
