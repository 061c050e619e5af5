-- The lines of a start's screen, whatever their numbers are, and which lines a screen has.
use Rattle.std.specs.Prelude.{◌≡◌, ℕ, true, false, List, [], ◌∷◌, ◌++◌, codes, map, Option, Some, None}
use Rattle.std.specs.Fmt.{decimal}
use Rattle.std.specs.List.{concat}
use Rattle.cell_rules.specs.Types.{Machine, Feed, Table, Robot, Press, Deposit, Crane, Watch, Call, Answer}
use Rattle.cell_rules.specs.Types.{all_places, answer_text, call_text, flag_word, machine_word}
use Rattle.cell_rules.specs.Names.{ModelState, is_full, plates_of, reply}
use Rattle.cell_config.specs.Letters.{letter_word}
use Rattle.cell_notes.specs.ByMachine.{at_machine}
use Rattle.cell_notes.specs.declared.schedule.Turn.{Turn}
use Rattle.cell_explorer.specs.declared.walk.Walk.{Walk}
use Rattle.cell_liveness.specs.declared.answers.Plates.{Plates}
use Rattle.explore_app.specs.declared.bound.Bound.{Bound}
use Rattle.explore_app.specs.declared.ending.Ending.{Ending}
use Rattle.explore_app.specs.declared.ending.Ending.TheVariants.{Refusal, Standstill}
use Rattle.explore_app.specs.declared.liveness.Liveness.TheVariants.{Within}
use Rattle.explore_app.specs.declared.step.Step.{Step}
use Rattle.explore_app.specs.Bounds.{Text}
use Rattle.explore_app.specs.Liveness.{going_line, liveness_of, liveness_of_each, machines_line}
use Rattle.explore_app.specs.Rings.{going_on_line, is_about, party_awaited, refused_line, ring_line, ring_lines}
use Rattle.explore_app.specs.Rings.{waiting_line}
use Rattle.explore_app.specs.Screens.{ending_line, ending_screen, free_line, free_screen, plates_line, schedule_key}
use Rattle.explore_app.specs.Screens.{start_key}
use Rattle.explore_app.specs.Starving.{round_line, round_lines, round_screen, stem_line, weak_line, weak_screen}

-- the words for a bound, between these texts
abbrev pub between : Text → ℕ → ℕ → Text → Text
between before plain helped after =
    before ++ (codes "k * " ++ (decimal plain ++ (codes " + k * k * " ++ (decimal helped ++ (codes " steps"
    ++ after)))))

-- each number stands in its line as the decimal that `{}` writes
pub record LinesByNumber : Type 0 where
  pub plates : (s : ModelState) (n : ℕ) → plates_of s ≡ n
      → plates_line s ≡ codes "# plates " ++ (decimal n ++ codes "\n")
  pub free : (n : ℕ) → free_line n
      ≡ codes "# no standstill in any schedule before the last stamp: " ++ (decimal n ++ codes " situations\n")
  pub standstill : (n : ℕ) → ending_line Standstill n
      ≡ codes "# a standstill after " ++ (decimal n ++ codes " turns, and no fewer\n")
  pub refusal : (n : ℕ) → ending_line Refusal n
      ≡ codes "# a refusal that stops a machine after " ++ (decimal n ++ codes " turns, and no fewer\n")
  pub stem : (n : ℕ) → stem_line n
      ≡ codes "# no plate moves any more, if after " ++ (decimal n ++ codes " turns these go on for ever:\n")
  pub weak : (plain helped : ℕ) → weak_line (Some (record { plain = plain; helped = helped }))
      ≡ between (codes "# a plate moves within ") plain helped (codes " of each weakly fair schedule\n")
  pub going : (plain helped : ℕ) → going_line (Within (record { plain = plain; helped = helped }))
      ≡ between (codes "# plates go on: a plate moves within ") plain helped (codes " of a fair schedule\n")
  pub machines : (plain helped : ℕ) → machines_line (Within (record { plain = plain; helped = helped }))
      ≡ between (codes "# each machine moves a plate within ") plain helped (codes "\n")

-- what a machine asks, and what it is answered
abbrev pub asked : Call → Answer → Text
asked c a = codes ": " ++ (call_text c ++ (codes ": " ++ (answer_text a ++ codes "\n")))

-- the lines of machines, and the keys
pub record LinesByMachine : Type 0 where
  pub waits : (m party : Machine) (c : Call) (a : Answer) → party_awaited m c a ≡ Some party
      → waiting_line m c a
      ≡ codes "# " ++ (machine_word m ++ (codes " waits for " ++ (machine_word party ++ asked c a)))
  pub waits_for_nobody : (m : Machine) (c : Call) (a : Answer) → party_awaited m c a ≡ None
      → waiting_line m c a ≡ codes "# " ++ (machine_word m ++ (codes " waits for nobody" ++ asked c a))
  pub refused : (m : Machine) (c : Call) (a : Answer)
      → refused_line m c a ≡ codes "# " ++ (machine_word m ++ (codes " is refused" ++ asked c a))
  pub goes_on : (m : Machine) (c : Call) (a : Answer)
      → going_on_line m c a ≡ codes "# " ++ (machine_word m ++ (codes " goes on" ++ asked c a))
  pub start : (s : ModelState) → start_key s
      ≡ codes "start = \"" ++ (concat (map (λ place. flag_word (is_full s place)) all_places) ++ codes "\"\n")
  pub schedule : (turns : List Turn) → schedule_key turns
      ≡ codes "schedule = \"" ++ (concat (map (λ t. letter_word t.busy t.machine) turns) ++ codes "\"\n")

-- of an ending, each machine that it is about has its line, in the machines' order; no other machine has one
pub record RingsByMachine (walk : Walk) : Type 0 where
  pub all : (e : Ending) → ring_lines e walk
      ≡ concat (ring_line e walk Feed ∷ ring_line e walk Table ∷ ring_line e walk Robot ∷ ring_line e walk Press
      ∷ ring_line e walk Deposit ∷ ring_line e walk Crane ∷ ring_line e walk Watch ∷ [])
  pub waits : (m : Machine) (c : Call) → (at_machine walk.next m).call ≡ Some c
      → is_about Standstill (at_machine walk.next m).prospect ≡ true
      → ring_line Standstill walk m ≡ waiting_line m c (reply walk.end.state m c)
  pub refused : (m : Machine) (c : Call) → (at_machine walk.next m).call ≡ Some c
      → is_about Refusal (at_machine walk.next m).prospect ≡ true
      → ring_line Refusal walk m ≡ refused_line m c (reply walk.end.state m c)
  pub other : (e : Ending) (m : Machine) → is_about e (at_machine walk.next m).prospect ≡ false
      → ring_line e walk m ≡ []
  pub silent : (e : Ending) (m : Machine) → (at_machine walk.next m).call ≡ None → ring_line e walk m ≡ []

-- of a round, each turn has its line, however many there are
pub record RoundsByTurn (m : Machine) (c : Call) (walk : Walk) : Type 0 where
  pub all : (round : List Step) → round_lines round ≡ concat (map round_line round)
  pub goes_on : round_line (record { machine = m; call = c; goes_on = true; walk = walk })
      ≡ going_on_line m c (reply walk.end.state m c)
  pub waits : round_line (record { machine = m; call = c; goes_on = false; walk = walk })
      ≡ waiting_line m c (reply walk.end.state m c)

-- which lines a screen has
pub record ScreensByLine (s : ModelState) : Type 0 where
  pub free : (n : ℕ) (p : Plates) → free_screen s n p
      ≡ concat (plates_line s ∷ free_line n ∷ going_line (liveness_of p.any) ∷ machines_line (liveness_of_each p)
      ∷ start_key s ∷ [])
  pub ending : (e : Ending) (n : ℕ) (walk : Walk) (turns : List Turn) → ending_screen s e n walk turns
      ≡ concat (plates_line s ∷ ending_line e n ∷ ring_lines e walk ∷ start_key s ∷ schedule_key turns ∷ [])
  pub starving : (n : ℕ) (round : List Step) (turns : List Turn) → round_screen s n round turns
      ≡ concat (plates_line s ∷ stem_line n ∷ round_lines round ∷ start_key s ∷ schedule_key turns ∷ [])
  pub weak : (b : Option Bound) → weak_screen s b ≡ concat (plates_line s ∷ weak_line b ∷ start_key s ∷ [])
