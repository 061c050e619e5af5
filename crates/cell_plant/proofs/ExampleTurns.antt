-- The turns of the examples, each by its machine's program, and two literal runs of them.
use Rattle.cell_plant.proofs.Names.{◌≡◌, List, [], ◌∷◌, Bool, true, false, inr, Some, None, Result, Ok, refl, sym, subst, Machine, Feed, Press, Watch, Call, Stop, Done, Reply, Settled, same_machine, FeedSense, PressSense, Minus, ModelState, LineFault, Rig, Steps, step_after_reply, Performed, PerformsCall, at_rest, turned, FeedProgress, PressProgress, Side, side_of, side_set, side_moved, Answers, Takes, at, driven_at, feed_at_start, PressShows, Axis}
use Rattle.cell_plant.proofs.Names.{Belt, FeedShows, steps_of, rig_of, CellState, Sides, side_in, sides_at_start, Step, TakesTurn, IsRun, asks, turn_of, schedule, steps, opening, at_first, at_entered, at_press_stopped, at_last, watch_noting, WatchProgress, IsPassedOver, cell_of, claims_entry, finds_busy, is_refused, finds_no_room, stops_cell, resumes_cell, watch_finds_busy, passes, press_falls, falls, falls_to, belt_waits, waits}
use Rattle.cell_notes.specs.Asks.{TurnCall}
use Rattle.cell_parts.specs.Names.{CellScales}
use Rattle.cell_plant.proofs.Deciding.{so, both, same_truth, at_most, is_true}

-- a machine asks once, and is answered
pub takes_call : {S Sense Reading Act State : Type 0} → (t : Steps S Sense Reading Act) (rig : Rig State Sense Act) (busy : Bool) (z y : ModelState) (p : S) (part : State) (c : Call) (r : Result Reply LineFault) (set : Side S State) (sense : Sense) (reading : Reading)
    → rig.shows part sense → t.senses sense (Ok reading) → (t.row p).call ≡ Some c → Answers z t.machine busy c r y → set ≡ side_set t rig (side_of p None part) (Some (c, r)) (turned p (at_rest (t.rest p) (step_after_reply t p r))) → Takes t rig busy z (side_of p None part) (Some (c, r)) y set
takes_call {S = S} {Act = Act} t rig busy z y p part c r set sense reading shows senses call answers is =
    let done : Performed S Act = at_rest (t.rest p) (step_after_reply t p r) in
    let asked : TurnCall = Some (c, r) in
    record {
      sense = sense;
      shows = shows;
      turned = turned p done;
      row = (
        done,
        record {
          sensed = Ok reading;
          senses = senses;
          performs = subst (λ o. PerformsCall t o ((y ≡ z) × (asked ≡ None)) (λ d x. Answers z t.machine busy d x y × (asked ≡ Some (d, x))) p reading done) (sym call) (r, (answers, refl), refl);
        },
        refl,
      );
      is = is;
    }

-- what the feed belt's barrier shows with the plate at its end, and the press's switches at its top
abbrev plate_seen : FeedSense
plate_seen = record { barrier = true }

abbrev at_top : PressSense
at_top = record { bottom = false; middle = false; top = true }

shows_plate : FeedShows (feed_at_start opening) plate_seen
shows_plate = record { barrier = (λ e. inr (so (both (at_most _ _) (at_most _ _)) refl), λ k. refl) }

shows_top : PressShows (at 1000) at_top
shows_top = record {
  bottom = so (same_truth (is_true _) (at_most _ _)) refl;
  middle = so (same_truth (is_true _) (both (at_most _ _) (at_most _ _))) refl;
  top = so (same_truth (is_true _) (at_most _ _)) refl;
}

-- further down they show nothing
abbrev below_top : PressSense
below_top = record { bottom = false; middle = false; top = false }

shows_below : PressShows (driven_at 980 Minus) below_top
shows_below = record {
  bottom = so (same_truth (is_true _) (at_most _ _)) refl;
  middle = so (same_truth (is_true _) (both (at_most _ _) (at_most _ _))) refl;
  top = so (same_truth (is_true _) (at_most _ _)) refl;
}

-- sides that differ in one machine's only
feed_apart : (a : Sides) (x : Side FeedProgress Belt) (n : Machine) → same_machine Feed n ≡ false → side_in (record a { feed = x }) n ≡ side_in a n
feed_apart a x Feed e = cc
feed_apart a x _ e = refl

press_apart : (a : Sides) (x : Side PressProgress Axis) (n : Machine) → same_machine Press n ≡ false → side_in (record a { press = x }) n ≡ side_in a n
press_apart a x Press e = cc
press_apart a x _ e = refl

pub watch_apart : (a : Sides) (x : Side WatchProgress (Unit {0})) (n : Machine) → same_machine Watch n ≡ false → side_in (record a { watch = x }) n ≡ side_in a n
watch_apart a x Watch e = cc
watch_apart a x _ e = refl

pub passed_press : IsPassedOver at_press_stopped (passes Press at_press_stopped)
passed_press = record { not_taken = refl; asked = refl; set = refl; moved = refl }

-- a run in which the watch stops the cell at once
abbrev pub stopped_first : CellState
stopped_first = cell_of (record opening { stamp = 1; stopped = true }) (record (sides_at_start opening) { watch = side_of (watch_noting true) None tt })

abbrev pub one_stop : List Step
one_stop = asks Watch Stop (Ok (Settled Done 1)) stopped_first ∷ []

module _ (c : CellScales) where
  abbrev pub TakesBy : (m : Machine) → Bool → CellState → Step → Type 0
  TakesBy m busy w s = Takes (steps_of c m) (rig_of c m) busy w.interlock (w.side m) s.asked s.set.interlock (s.set.side m)

  abbrev pub OthersStay : Machine → CellState → CellState → Type 0
  OthersStay m w v = (n : Machine) → same_machine m n ≡ false → v.side n ≡ w.side n

  -- a turn that moves no other machine's part
  pub turn_by : (m : Machine) (busy : Bool) (w : CellState) (s : Step)
      → s.taken ≡ true → TakesBy m busy w s → OthersStay m w s.set → s.moved.side m ≡ side_moved (rig_of c m) (s.set.side m) → OthersStay m s.set s.moved → s.moved.interlock ≡ s.set.interlock → TakesTurn c m busy w s
  turn_by m busy w s taken takes others_set moved others_moved interlock = record {
    taken = taken;
    takes = takes;
    others_set = others_set;
    moved = moved;
    others_moved = others_moved;
    interlock = interlock;
  }

  pub turn_done : TakesTurn c Feed false at_first claims_entry
  turn_done = turn_by Feed _ _ _ refl (takes_call (steps_of c Feed) (rig_of c Feed) _ _ _ _ _ _ _ _ _ _ shows_plate refl refl (refl, refl, refl, refl) refl) (feed_apart _ _) refl (λ n e. refl) refl

  pub turn_busy : TakesTurn c Press true at_entered finds_busy
  turn_busy = turn_by Press _ _ _ refl (takes_call (steps_of c Press) (rig_of c Press) _ _ _ _ _ _ _ _ _ _ shows_top refl refl (refl, refl, refl, refl) refl) (λ n e. refl) refl (λ n e. refl) refl

  pub turn_refused : TakesTurn c Feed false at_entered is_refused
  turn_refused = turn_by Feed _ _ _ refl (takes_call (steps_of c Feed) (rig_of c Feed) _ _ _ _ _ _ _ _ _ _ shows_plate refl refl (refl, refl, refl, refl) refl) (λ n e. refl) refl (λ n e. refl) refl

  pub turn_no_room : TakesTurn c Press false at_entered finds_no_room
  turn_no_room = turn_by Press _ _ _ refl (takes_call (steps_of c Press) (rig_of c Press) _ _ _ _ _ _ _ _ _ _ shows_top refl refl (refl, refl) refl) (press_apart _ _) refl (λ n e. refl) refl

  pub turn_meanwhile : TakesTurn c Feed false (belt_waits (driven_at 980 Minus)) waits
  turn_meanwhile = turn_by Feed _ _ _ refl (takes_call (steps_of c Feed) (rig_of c Feed) _ _ _ _ _ _ _ _ _ _ shows_plate refl refl (refl, refl, refl, refl) refl) (λ n e. refl) refl (λ n e. refl) refl

  drives_down : TakesBy Press false (press_falls (at 1000)) (falls_to (driven_at 980 Minus))
  drives_down = record {
    sense = at_top;
    shows = shows_top;
    turned = _;
    row = (Ok (_, record { press = Minus }), record { sensed = Ok at_top; senses = refl; performs = ((refl, refl), (record { press = Minus }, refl, refl)) }, refl);
    is = refl;
  }

  drives_further : TakesBy Press false (press_falls (driven_at 980 Minus)) (falls (driven_at 980 Minus) (driven_at 960 Minus))
  drives_further = record {
    sense = below_top;
    shows = shows_below;
    turned = _;
    row = (Ok (_, record { press = Minus }), record { sensed = Ok below_top; senses = refl; performs = ((refl, refl), (record { press = Minus }, refl, refl)) }, refl);
    is = refl;
  }

  pub turn_down : TakesTurn c Press false (press_falls (at 1000)) (falls_to (driven_at 980 Minus))
  turn_down = turn_by Press _ _ _ refl drives_down (press_apart _ _) refl (press_apart _ _) refl

  pub turn_further : TakesTurn c Press false (press_falls (driven_at 980 Minus)) (falls (driven_at 980 Minus) (driven_at 960 Minus))
  turn_further = turn_by Press _ _ _ refl drives_further (λ n e. refl) refl (press_apart _ _) refl

  pub turn_stops : TakesTurn c Watch false at_press_stopped stops_cell
  turn_stops = turn_by Watch _ _ _ refl (takes_call (steps_of c Watch) (rig_of c Watch) _ _ _ _ _ _ _ _ _ _ tt refl refl (refl, refl, refl, refl) refl) (watch_apart _ _) refl (λ n e. refl) refl

  pub turn_resumes : TakesTurn c Watch false at_last resumes_cell
  turn_resumes = turn_by Watch _ _ _ refl (takes_call (steps_of c Watch) (rig_of c Watch) _ _ _ _ _ _ _ _ _ _ tt refl refl (refl, refl, refl, refl) refl) (watch_apart _ _) refl (λ n e. refl) refl

  pub turn_watch_busy : TakesTurn c Watch true at_last watch_finds_busy
  turn_watch_busy = turn_by Watch _ _ _ refl (takes_call (steps_of c Watch) (rig_of c Watch) _ _ _ _ _ _ _ _ _ _ tt refl refl (refl, refl, refl, refl) refl) (λ n e. refl) refl (λ n e. refl) refl

  -- the literal run
  pub literal_run : IsRun c at_first schedule steps
  literal_run = (refl, (turn_done, (refl, (turn_busy, (refl, (turn_refused, (refl, (turn_no_room, (refl, (passed_press, (refl, (turn_stops, tt))))))))))))

  turn_stops_first : TakesTurn c Watch false at_first (asks Watch Stop (Ok (Settled Done 1)) stopped_first)
  turn_stops_first = turn_by Watch _ _ _ refl (takes_call (steps_of c Watch) (rig_of c Watch) _ _ _ _ _ _ _ _ _ _ tt refl refl (refl, refl, refl, refl) refl) (watch_apart _ _) refl (λ n e. refl) refl

  pub one_stop_run : IsRun c at_first (turn_of Watch ∷ []) one_stop
  one_stop_run = (refl, (turn_stops_first, tt))
