-- A turn of a round, after turns from a start.
use Rattle.std.proofs.Common.{◌≡◌, ◌<◌, ◌+◌, ◌∙◌, ◌++◌, ◌∷◌, [], List, length, take, get_or, All, Bool, true, false, Some, None, Result, Ok, Err, IfOk, ℕ, inl, inr, append-nil, append_assoc, refl, sym, ap, subst}
use Rattle.std.proofs.lemmas.Grind.{flat_map-append}
use Rattle.std.proofs.lemmas.List.{take_more}
use Rattle.std.proofs.lemmas.List.Elements.{All-append, All-cons, All-nil}
use Rattle.cell_rules.specs.Types.{Machine, Feed, Table, Robot, Press, Deposit, Crane, Watch, Call}
use Rattle.cell_rules.specs.ModelState.{ModelState}
use Rattle.cell_config.specs.Settings.{Settings}
use Rattle.cell_notes.specs.ByMachine.{at_machine, values_of}
use Rattle.cell_notes.specs.declared.by_machine.ByMachine.{ByMachine}
use Rattle.cell_explorer.specs.Calls.{call_of}
use Rattle.cell_explorer.specs.Columns.{cell_columns}
use Rattle.cell_explorer.specs.Walks.{next_turn}
use Rattle.cell_explorer.specs.declared.walk.NextTurn.{NextTurn}
use Rattle.cell_explorer.specs.declared.walk.Walk.{Walk}
use Rattle.cell_liveness.specs.Starving.{IsStarving}
use Rattle.explore_app.specs.Bounds.{Text}
use Rattle.cell_notes.specs.declared.schedule.Turn.{Turn}
use Rattle.cell_liveness.specs.GoingOn.{PlatesGoOn}
use Rattle.explore_app.specs.declared.screen.Screen.{Screen}
use Rattle.explore_app.specs.declared.screen.Screen.TheVariants.{Free, Warning}
use Rattle.explore_app.specs.Schedules.{LeadsTo}
use Rattle.explore_app.specs.Screens.{ComesTo, IsScreenOf, warning_of}
use Rattle.explore_app.specs.declared.step.Step.{Step}
use Rattle.explore_app.specs.Starving.{Asking, IsRound, IsRoundTurn, IsStarvingScreenOf, ShowsCircle, ShowsRound, Starves, TellsBound, asking, asking_after, asking_if, going_after, going_step, going_turn, going_turns, is_idle, is_of_round, round_screen, weak_screen}

pub value_at : {T : Type 0} (f : Machine → T) (m : Machine) → at_machine (values_of f) m ≡ f m
value_at f Feed = refl
value_at f Table = refl
value_at f Robot = refl
value_at f Press = refl
value_at f Deposit = refl
value_at f Crane = refl
value_at f Watch = refl

pub all_more : {X : Type 0} (P : X → Type 0) (xs new : List X) (x : X) → All P xs → P x → new ≡ xs ++ x ∷ [] → All P new
all_more P xs new x so_far here is = subst (All P) (sym is) (All-append P xs (x ∷ []) so_far (All-cons P x [] here (All-nil P)))

next_is : {T : Type 0} (next : ByMachine T) (f : Machine → T) (m : Machine) (n : T) → n ≡ at_machine next m → next ≡ values_of f → n ≡ f m
next_is next f m n at made = at ∙ ap (λ b. at_machine b m) made ∙ value_at f m

-- a machine that asks after a walk, and goes on or waits
pub round_turn : (s : ModelState) (way : List Machine) (m : Machine) (call : Call) (goes_on : Bool) (walk : Walk) (n : NextTurn) → ComesTo s way walk → n ≡ at_machine walk.next m → n.call ≡ Some call → is_of_round goes_on n.prospect ≡ true
    → IsRoundTurn s (record { machine = m; call = call; goes_on = goes_on; walk = walk })
round_turn s way m call goes_on walk n come at asked of =
    let is = next_is walk.next (next_turn cell_columns walk.end) m n at come.next in
    record { way = way; comes_to = come; asks = ap (λ (n : NextTurn). n.call) (sym is) ∙ asked; is_of = ap (λ (n : NextTurn). is_of_round goes_on n.prospect) (sym is) ∙ of }

-- ---- what the turns of a round ask

pub going_more : (steps new : List Step) (step : Step) → new ≡ steps ++ step ∷ [] → going_turns new ≡ going_turns steps ++ going_turn step
going_more steps new step is = ap going_turns is ∙ flat_map-append going_turn steps (step ∷ []) ∙ ap (λ l. going_turns steps ++ l) (append-nil (going_turn step))

-- a turn that asks after a walk
pub asks_there : (s : ModelState) (way : List Machine) (m : Machine) (call : Call) (goes_on : Bool) (walk : Walk) (n : NextTurn) → ComesTo s way walk → n ≡ at_machine walk.next m → n.call ≡ Some call
    → going_step (Some (record { machine = m; call = call; goes_on = goes_on; walk = walk })) ≡ going_after goes_on s way m
asks_there s way m call false walk n come at asked = refl
asks_there s way m call true walk n come at asked =
    let is = next_is walk.next (next_turn cell_columns walk.end) m n at come.next in
    ap (asking_if m walk.end) (sym (ap (λ (n : NextTurn). n.call) (sym is) ∙ asked)) ∙ ap (λ here. asking_if m here (call_of cell_columns m here)) come.end

-- one turn more
pub asking_more : (s : ModelState) (way ms : List Machine) (m : Machine) → asking s way (ms ++ m ∷ []) ≡ asking s way ms ++ asking_after s (way ++ ms) m
asking_more s way [] m = append-nil (asking_after s way m) ∙ ap (λ w. asking_after s w m) (sym (append-nil way))
asking_more s way (n ∷ ns) m =
    ap (λ l. asking_after s way n ++ l) (asking_more s (way ++ n ∷ []) ns m ∙ ap (λ w. asking s (way ++ n ∷ []) ns ++ asking_after s w m) (append_assoc way (n ∷ []) ns))
    ∙ sym (append_assoc (asking_after s way n) (asking s (way ++ n ∷ []) ns) (asking_after s (way ++ n ∷ ns) m))

pub turn_more : (s : ModelState) (stem cycle way : List Machine) (i : ℕ) (d : Machine) (before between after : List Asking) → i < length cycle → way ≡ stem ++ take i cycle → before ≡ asking s stem (take i cycle)
    → between ≡ before → after ≡ between ++ asking_after s way (get_or cycle i d) → after ≡ asking s stem (take (i + 1) cycle)
turn_more s stem cycle way i d before between after h here so_far same is =
    let m = get_or cycle i d in
    is ∙ ap (λ w. between ++ asking_after s w m) here ∙ ap (λ l. l ++ asking_after s (stem ++ take i cycle) m) (same ∙ so_far)
    ∙ sym (asking_more s stem (take i cycle) m) ∙ sym (ap (asking s stem) (take_more cycle i d h))

pub way_more : (stem cycle way new : List Machine) (i : ℕ) (d : Machine) → i < length cycle → way ≡ stem ++ take i cycle → new ≡ way ++ get_or cycle i d ∷ [] → new ≡ stem ++ take (i + 1) cycle
way_more stem cycle way new i d h here is =
    is ∙ ap (λ w. w ++ get_or cycle i d ∷ []) here ∙ append_assoc stem (take i cycle) (get_or cycle i d ∷ []) ∙ sym (ap (λ l. stem ++ l) (take_more cycle i d h))

-- ---- what a screen of how plates starve tells

module _ (given : Settings) (stem cycle : List Machine) (walk : Walk) (leads : IsStarving given.start None None stem cycle) (come : ComesTo given.start stem walk) where
  starves : (still : Bool) → is_idle walk cycle ≡ still → Starves given.start (length stem) still
  starves still idle = record { stem = stem; cycle = cycle; leads = leads; long = refl; walk = walk; comes_to = come; idle = idle }

  pub tells_still : is_idle walk cycle ≡ true → (found : Screen) → IsScreenOf given found → IsStarvingScreenOf given (warning_of found)
  tells_still idle (Free text) is = inl (record { turns = length stem; starves = starves true idle; screen = Free text; is_screen = is; shown = refl })
  tells_still idle (Warning text) is = inl (record { turns = length stem; starves = starves true idle; screen = Warning text; is_screen = is; shown = refl })

  tells_circle : is_idle walk cycle ≡ false → (found : Screen) → ShowsCircle given stem cycle walk found → IsStarvingScreenOf given found
  unfolding starves
  tells_circle idle (Free text) shown = absurd shown
  tells_circle idle (Warning text) shown = inr (record { turns = length stem; starves = starves false idle; shown = shown })

  pub tells_round : {E : Type 0} (r : Result Screen E) → is_idle walk cycle ≡ false → IfOk r (ShowsCircle given stem cycle walk) → IfOk r (IsStarvingScreenOf given)
  tells_round (Ok found) idle k = tells_circle idle found k
  tells_round (Err e) idle k = tt

-- a circle is shown by a text
pub shows_circle : (given : Settings) (stem cycle : List Machine) (walk : Walk) (round : List Step) (schedule : List Turn) (text : Text) → IsRound given.start stem cycle round → LeadsTo given walk.end schedule
    → text ≡ round_screen given.start (length stem) round schedule → ShowsRound given stem cycle walk text
shows_circle given stem cycle walk round schedule text is leads shown = record { round = round; is_round = is; schedule = schedule; leads = leads; shown = shown }

-- where no circle is known
pub shows_bound : (s : ModelState) (plain helped : ℕ) (text : Text) → PlatesGoOn s None None plain helped → text ≡ weak_screen s (Some (record { plain = plain; helped = helped })) → TellsBound s text
shows_bound s plain helped text go_on shown = record { bound = Some (record { plain = plain; helped = helped }); go_on = go_on; shown = shown }

pub shows_unknown : (s : ModelState) (text : Text) → text ≡ weak_screen s None → TellsBound s text
shows_unknown s text shown = record { bound = None; go_on = tt; shown = shown }
