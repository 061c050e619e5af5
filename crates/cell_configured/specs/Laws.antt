-- Laws of configured cells: what has been seen of one, by its five points and curves.
use Rattle.std.specs.Prelude.{◌≡◌, List, [], ◌∷◌, Result}
use Rattle.cell_sensors.specs.Names.{Curved, IsOnCurve, Scale, pairs_of}
use Rattle.cell_notes.specs.declared.run_record.RunRecord.{RunRecord}
use Rattle.cell_notes.specs.declared.schedule.Turn.{Turn}
use Rattle.cell_plant.specs.Machines.{CellGauges}
use Rattle.cell_plant.specs.Names.{SeesBeginning, SeesRun}
use Rattle.cell_plant.specs.declared.frame.Frame.{Frame}
use Rattle.cell_plant.specs.declared.observer.SeenFault.{SeenFault}
use Rattle.cell_config.specs.declared.configuration.Config.{Config}
use Rattle.cell_configured.specs.Seen.{SeesConfigured, SeesItsBeginning}

-- the five points and curves of a configuration
pub record HasFive (config : Config) (p q r s t : Scale) (a b c d e : Curved) : Type 0 where
  pub points : config.points ≡ p ∷ q ∷ r ∷ s ∷ t ∷ []
  pub curves : config.curves ≡ a ∷ b ∷ c ∷ d ∷ e ∷ []

-- each potentiometer reads the curve in its place
abbrev pub on_five : Curved → Curved → Curved → Curved → Curved → CellGauges
on_five a b c d e = record {
  arm1 = IsOnCurve (pairs_of a);
  arm2 = IsOnCurve (pairs_of b);
  rotation = IsOnCurve (pairs_of c);
  turn = IsOnCurve (pairs_of d);
  gripper = IsOnCurve (pairs_of e);
}

-- a run that is seen is one from the configuration's start, by its points and curves, whatever they are
abbrev pub RunsAreSeen : {W E : Type 0} → (W → Frame → Result (Unit {0}) E → W → Type 0) → Type 0
RunsAreSeen {W = W} sees =
    (config : Config) (p q r s t : Scale) (a b c d e : Curved) → HasFive config p q r s t a b c d e
    → (turns : List Turn) (w v : W) (run : RunRecord) → SeesConfigured sees config turns w v run
    → SeesRun sees (record { arm1 = p; arm2 = q; rotation = r; turn = s; gripper = t }) (on_five a b c d e) config.start
    turns w v run

abbrev pub BeginningsAreSeen : {W E : Type 0} → (W → Frame → Result (Unit {0}) E → W → Type 0) → Type 0
BeginningsAreSeen {W = W} {E = E} sees =
    (config : Config) (p q r s t : Scale) (a b c d e : Curved) → HasFive config p q r s t a b c d e
    → (turns : List Turn) (w v : W) (fault : SeenFault E) → SeesItsBeginning sees config turns w v fault
    → SeesBeginning sees (record { arm1 = p; arm2 = q; rotation = r; turn = s; gripper = t }) (on_five a b c d e)
    config.start turns w v fault
