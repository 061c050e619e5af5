-- The turns of a machine of a plant on several words, one after another.
use Rattle.std.specs.Prelude.{◌≡◌, ℕ, length, Some, None}
use Rattle.plan_controller.specs.Turns.{Turns, IsCareful, ArePermitted, AreRunning}
use Rattle.plan_workers.specs.declared.plant_worker.PlantWorkTurn.{PlantWorkTurn}
use Rattle.plan_workers.specs.PlantTurns.{AsksOneWord, IsSameProgram, OnEachLine, OnEachWord}
use Rattle.plan_workers.specs.PlantTurns.{asked_on, control_on, sensors_on, whole}
use Rattle.plan_workers.specs.PlantWorks.{AtPlantWork}
use Rattle.plan_workers.specs.Turning.{Ways, GateOf, HasWorkedBy}
use Rattle.plan_workers.specs.Works.{ReadsThenDrives}

module _ {L D : Type 0} (w : Ways L D) where
  -- A turn of a machine at work in a plant: its sensors are read once, its controller takes a turn over the lines of
  -- all words, and the motors of this turn are given once. On each word that is a turn of the word's controller, and
  -- each motor is permitted there by all that the word's line has seen
  pub record TakesPlantTurn (before now : AtPlantWork L D) : Type 0 where
    pub turn : PlantWorkTurn
    pub devices : ReadsThenDrives w.reads w.drives before.devices turn.sensors turn.taken.motors now.devices
    pub turns : Turns (whole before.control) ((now.lines ≡ before.lines) × (turn.taken.asked ≡ None))
        (λ call answer. AsksOneWord w.asks before.lines now.lines before.control call answer turn.taken.asked)
        turn.sensors turn.taken.motors (whole now.control)
    pub on_words : OnEachWord before.lines now.lines (λ word l m. Turns (control_on word before.control)
        ((m ≡ l) × (asked_on word turn.taken.asked ≡ None))
        (λ call answer. w.asks l call answer m × (asked_on word turn.taken.asked ≡ Some (call, answer)))
        (sensors_on word before.control turn.sensors) turn.taken.motors (control_on word now.control))
    pub program : IsSameProgram before.control now.control
    pub careful : IsCareful (whole before.control) turn.sensors turn.taken.motors (whole now.control)
    pub each_word : length now.lines ≡ length before.lines
    pub own : OnEachWord before.lines now.lines (λ _ l m. w.machine m ≡ w.machine l)
    pub table : OnEachWord before.lines now.lines (λ _ l m. w.table m ≡ w.table l)
    pub opening : OnEachWord before.lines now.lines (λ _ l m. w.opening m ≡ w.opening l)
    pub running : OnEachLine now.lines (λ word l. AreRunning (w.table l) (w.opening l) (w.seen l)
        (control_on word now.control) turn.taken.motors)
    pub permitted : OnEachLine now.lines (λ word l. ArePermitted (w.table l) (w.opening l) (w.seen l)
        (control_on word now.control) turn.taken.motors)

  -- it has worked by such turns
  abbrev pub HasWorkedOnWords : GateOf → ℕ → AtPlantWork L D → AtPlantWork L D → ℕ → Type 0
  HasWorkedOnWords gate limit first last took = HasWorkedBy TakesPlantTurn gate limit first last took
