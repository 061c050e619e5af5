-- The screen of what an exploration has found.
use Rattle.std.proofs.Common.{◌≡◌, ℕ, true, false, List, length, Result, Ok, Err, IfOk, String, Global, string_bytes, inl, inr, sym}
use Rattle.cell_types.specs.declared.machine.Machine.{Machine}
use Rattle.cell_notes.specs.declared.schedule.Turn.{Turn}
use Rattle.cell_explorer.specs.declared.walk.Walk.{Walk}
use Rattle.explore_app.specs.declared.ending.Ending.{Ending}
use Rattle.cell_rules.specs.ModelState.{ModelState}
use Rattle.cell_config.specs.Settings.{Settings}
use Rattle.cell_explorer.specs.declared.exploring.Explored.{Explored}
use Rattle.cell_explorer.specs.declared.exploring.Explored.TheVariants.{Free, Standstill, Refusal}
use Rattle.cell_explorer.specs.Explored.{NoneEnds, ComeTo, LeadsToStandstill, LeadsToRefusal, IsShortest}
use Rattle.cell_explorer.specs.Explored.{IfFree, IfStandstill, IfRefusal, IfEnd}
use Rattle.cell_liveness.specs.declared.answers.Plates.{Plates}
use Rattle.explore_app.specs.declared.screen.Screen.{Screen}
use Rattle.explore_app.specs.declared.screen.Screen.TheVariants as screen
use Rattle.explore_app.specs.Bounds.{Text}
use Rattle.explore_app.specs.Liveness.{any_starves}
use Rattle.explore_app.specs.Schedules.{LeadsToEnding}
use Rattle.explore_app.specs.Screens.{ComesTo, GoOnWithin, MayStarve, Shows, ShowsEnding, ShowsFree, ShowsGoing, IsScreenOf, ending_screen, free_screen}

is_free_screen : (given : Settings) (n : ℕ) (found : Screen) → NoneEnds given.start → ComeTo given.start n → ShowsGoing given.start n found → IsScreenOf given found
is_free_screen given n (screen.Free text) free counted shown = record { situations = n; free = free; counted = counted; shown = shown }
is_free_screen given n (screen.Warning text) free counted shown = inl (record { situations = n; free = free; counted = counted; shown = shown })

pub is_screen : (given : Settings) (found : Explored) (told : Screen) → IfFree found (λ _. NoneEnds given.start) → IfFree found (ComeTo given.start) → IfStandstill found (LeadsToStandstill given.start) → IfRefusal found (LeadsToRefusal given.start)
    → IfEnd found (IsShortest given.start) → Shows given found told → IsScreenOf given told
is_screen given (Free n) told free counted stands refused shortest shown = is_free_screen given n told free counted shown
is_screen given (Standstill way) (screen.Free text) free counted stands refused shortest shown = absurd shown
is_screen given (Standstill way) (screen.Warning text) free counted stands refused shortest shown =
    inr (inl (record { way = way.items; leads = stands; shortest = shortest; shown = shown }))
is_screen given (Refusal way) (screen.Free text) free counted stands refused shortest shown = absurd shown
is_screen given (Refusal way) (screen.Warning text) free counted stands refused shortest shown =
    inr (inr (record { way = way.items; leads = refused; shortest = shortest; shown = shown }))

-- the same of an answer
pub is_answer : {E : Type 0} (given : Settings) (found : Explored) (r : Result Screen E) → IfFree found (λ _. NoneEnds given.start) → IfFree found (ComeTo given.start) → IfStandstill found (LeadsToStandstill given.start)
    → IfRefusal found (LeadsToRefusal given.start) → IfEnd found (IsShortest given.start) → IfOk r (Shows given found) → IfOk r (IsScreenOf given)
is_answer given found (Ok told) free counted stands refused shortest shown = is_screen given found told free counted stands refused shortest shown
is_answer given found (Err e) free counted stands refused shortest shown = tt

-- a walk's screen shows where its turns lead
pub shows_ending : (given : Settings) (e : Ending) (way : List Machine) (walk : Walk) (text : Text) → ComesTo given.start way walk
    → (schedule : List Turn) × (LeadsToEnding given e walk schedule × (text ≡ ending_screen given.start e (length way) walk schedule)) → ShowsEnding given e way text
shows_ending given e way walk text come shown = record { walk = walk; comes_to = come; schedule = shown.0; leads = shown.1.0; shown = shown.1.1 }

-- a free start's screen
pub shows_free : (s : ModelState) (n : ℕ) (plates : Plates) (text : Text) (starve : _) → GoOnWithin s plates → MayStarve s plates → starve ≡ any_starves plates → text ≡ free_screen s n plates → ShowsFree s n starve text
shows_free s n plates text starve go_on starving is shown =
    record { plates = plates; go_on = go_on; starving = starving; starve_so = sym is; shown = shown }
