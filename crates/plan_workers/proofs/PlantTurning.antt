-- A machine's turns on several words, one by one.
use Rattle.std.proofs.Common.{◌≡◌, ℕ, ◌<◌, List, [], ◌∷◌, length, Option, sym, ◌∙◌, subst}
use Rattle.std.specs.Prelude.{slice_index_or}
use Rattle.plan_types.specs.declared.call.Call.{Call}
use Rattle.plan_types.specs.declared.answer.Answer.{Answer}
use Rattle.plan_workers.specs.PlantTurning.{TakesPlantTurn, HasWorkedOnWords}
use Rattle.plan_workers.specs.PlantTurns.{IsSameProgram, OnEachWord, PlantControl, control_on, sensors_on}
use Rattle.plan_workers.specs.PlantWorks.{AtPlantWork}
use Rattle.plan_workers.specs.Turning.{Ways, GateOf, AreTakenBy, last_of}
use Rattle.plan_workers.proofs.Passing.{after_turn}

pub program_on : (first before now : PlantControl) → IsSameProgram first before → IsSameProgram before now → IsSameProgram first now
program_on first before now f g = record { machine = g.machine ∙ f.machine; words = g.words ∙ f.words; steps = g.steps ∙ f.steps }

-- what each line is still after some turns, it is after one more
pub each_on : {L A : Type 0} (f : L → A) (first before now : List L) → length before ≡ length first → OnEachWord first before (λ _ l m. f m ≡ f l) → OnEachWord before now (λ _ l m. f m ≡ f l) → OnEachWord first now (λ _ l m. f m ≡ f l)
each_on f first before now many earlier later = λ w l low. later w l (subst (λ n. w < n) (sym many) low) ∙ earlier w l low

-- what a line keeps in a call, the line of each word keeps in a machine's work
module _ {L D : Type 0} (ways : Ways L D) (Keeps : L → L → Type 0) (again : (l : L) → Keeps l l) (on : (l m n : L) → Keeps l m → Keeps m n → Keeps l n) (asked : (l m : L) (c : Call) (a : Option Answer) → ways.asks l c a m → Keeps l m) where
  in_turn : (before now : AtPlantWork L D) → TakesPlantTurn ways before now → OnEachWord before.lines now.lines (λ _ l m. Keeps l m)
  in_turn before now t w l low =
      let old = slice_index_or before.lines w l in
      let new = slice_index_or now.lines w l in
      after_turn (control_on w before.control) (control_on w now.control) _ _ t.turn.taken.motors (Keeps old new)
      (λ e. subst (λ m. Keeps old m) (sym e.0) (again old)) (λ call a k. asked old new call a k.0) (sensors_on w before.control t.turn.sensors) (t.on_words w l low)

  in_turns : (first : AtPlantWork L D) (turns : List (AtPlantWork L D)) → AreTakenBy (TakesPlantTurn ways) first turns → OnEachWord first.lines (last_of first turns).lines (λ _ l m. Keeps l m)
  in_turns first [] k w l low = again (slice_index_or first.lines w l)
  in_turns first (now ∷ later) k w l low =
      on (slice_index_or first.lines w l) (slice_index_or now.lines w l) (slice_index_or (last_of now later).lines w l) (in_turn first now k.0 w l low)
      (in_turns now later k.1 w l (subst (λ n. w < n) (sym k.0.each_word) low))

  pub work_keeps : (gate : GateOf) (limit took : ℕ) (first last : AtPlantWork L D) → HasWorkedOnWords ways gate limit first last took → OnEachWord first.lines last.lines (λ _ l m. Keeps l m)
  work_keeps gate limit took first last k =
      subst (λ (x : AtPlantWork L D). OnEachWord first.lines x.lines (λ _ l m. Keeps l m)) k.come.is_last (in_turns first k.come.turns k.come.taken)
