use Rattle.std.proofs.Common.{◌∙◌}
use Rattle.plan_controller.specs.declared.faults.Mendable.TheVariants.{Held, Shut, NotOwner, PlateInZone, NoPlate}
use Rattle.plan_controller.specs.declared.faults.Mendable.TheVariants.{PlaceFull, WrongWay, Stopped}
use Rattle.plan_c.proofs.FaultBits.{read}
use Rattle.plan_c.proofs.faults.faults_in.Goals as goal

pub returns : goal.returns
returns c = λ f is.
    let n = c.args.bits in
    λ i. record {
      held = (c.has_bit.ensures ∙ read n f is Held) i;
      shut = (c.has_bit-2.ensures ∙ read n f is Shut) i;
      not_owner = (c.has_bit-3.ensures ∙ read n f is NotOwner) i;
      plate_in_zone = (c.has_bit-4.ensures ∙ read n f is PlateInZone) i;
      no_plate = (c.has_bit-5.ensures ∙ read n f is NoPlate) i;
      place_full = (c.has_bit-6.ensures ∙ read n f is PlaceFull) i;
      wrong_way = (c.has_bit-7.ensures ∙ read n f is WrongWay) i;
      stopped = (c.has_bit-8.ensures ∙ read n f is Stopped) i;
    }
