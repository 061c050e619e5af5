-- Which refusals literal lines name, and that their words are those of answers.
use Rattle.std.specs.Prelude.{◌≡◌, true, [], ◌∷◌, ◌++◌, codes, map, Some, None}
use Rattle.plan_types.specs.declared.answer.Refusal.{Refusal}
use Rattle.plan_controller.specs.declared.faults.Faults.{Faults}
use Rattle.plan_controller.specs.declared.faults.Mendable.{Mendable}
use Rattle.plan_controller.specs.declared.faults.Mendable.TheVariants.{PlateInZone}
use Rattle.plan_controller.specs.Faults.{all_mendable, mendable, no_faults}
use Rattle.plan_text.specs.Answers.{refusal_text}
use Rattle.plan_text.specs.Named.{Named}
use Rattle.plan_text.specs.Names.{Text}
use Rattle.plan_document.specs.Refusals.{AreFaults, fault_of, fault_word}
use Rattle.plan_document.specs.Saying.{HasFaults, words_in}

pub record FaultWords : Type 0 where
  pub words : map fault_word all_mendable
      ≡ codes "held" ∷ codes "shut" ∷ codes "notowner" ∷ codes "platein" ∷ codes "noplate" ∷ codes "placefull"
      ∷ codes "wrongway" ∷ codes "stopped" ∷ []
  pub read : fault_of (codes "platein") ≡ Some PlateInZone
  pub unknown : fault_of (codes "plate") ≡ None
  pub always : fault_of (codes "worn") ≡ None
  -- an answer begins with the word of its refusal
  pub answers : (n : Named) (r : Refusal) (fault : Mendable) → mendable r ≡ Some fault
      → (rest : Text) × (refusal_text n r ≡ fault_word fault ++ rest)

-- what words name
pub record FaultsAreNamed (f : Faults) : Type 0 where
  pub held : AreFaults (codes "held" ∷ []) f → f ≡ record no_faults { held = true }
  pub shut : AreFaults (codes "shut" ∷ []) f → f ≡ record no_faults { shut = true }
  pub not_owner : AreFaults (codes "notowner" ∷ []) f → f ≡ record no_faults { not_owner = true }
  pub plate_in_zone : AreFaults (codes "platein" ∷ []) f → f ≡ record no_faults { plate_in_zone = true }
  pub no_plate : AreFaults (codes "noplate" ∷ []) f → f ≡ record no_faults { no_plate = true }
  pub place_full : AreFaults (codes "placefull" ∷ []) f → f ≡ record no_faults { place_full = true }
  pub wrong_way : AreFaults (codes "wrongway" ∷ []) f → f ≡ record no_faults { wrong_way = true }
  pub stopped : AreFaults (codes "stopped" ∷ []) f → f ≡ record no_faults { stopped = true }
  pub three : AreFaults (words_in (codes "shut stopped held")) f
      → f ≡ record no_faults { held = true; shut = true; stopped = true }
  pub unknown : AreFaults (words_in (codes "held closed")) f → ⊥
  pub always : AreFaults (words_in (codes "notparty held")) f → ⊥
  pub twice : AreFaults (words_in (codes "held shut held")) f → ⊥
  pub two_blanks : AreFaults (words_in (codes "held  shut")) f → ⊥
  pub no_word : AreFaults (words_in []) f → ⊥

-- after a call
pub record FaultsAreSaid (f : Faults) : Type 0 where
  pub bare : HasFaults (codes "give above") (codes "give above") f → f ≡ no_faults
  pub named : HasFaults (codes "give above or stop on shut held") (codes "give above") f
      → f ≡ record no_faults { held = true; shut = true }
  pub none : HasFaults (codes "give above or stop on") (codes "give above") f → ⊥
  pub blank : HasFaults (codes "give above or stop on ") (codes "give above") f → ⊥
  pub other_words : HasFaults (codes "give above or stops on held") (codes "give above") f → ⊥

pub record FaultsAreMet : Type 0 where
  pub words : FaultWords
  pub named : (f : Faults) → FaultsAreNamed f
  pub said : (f : Faults) → FaultsAreSaid f
