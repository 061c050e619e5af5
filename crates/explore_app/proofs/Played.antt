-- What a seeker has kept of the run that it was shown, and what a schedule's last turn is.
use Rattle.std.proofs.Common.{◌≡◌, ◌∙◌, true, Option, IfSome, List, [], ◌∷◌, ◌++◌, append-nil, append_assoc, Some, None, Result, Ok, Err, IfOk, unwrap_or, get_or, refl, sym, ap, subst}
use Rattle.std.specs.Option.{option_to_list}
use Rattle.std.specs.List.{flat_map}
use Rattle.cell_rules.specs.Types.{Call, Machine}
use Rattle.cell_rules.specs.Names.{ModelState}
use Rattle.cell_notes.specs.Names.{at_machine}
use Rattle.cell_notes.specs.declared.schedule.Turn.{Turn}
use Rattle.cell_parts.specs.Axes.{CellScales}
use Rattle.cell_plant.specs.Names.{CellGauges, CellState, IsRunBy, IsShown, SeesBeginning, Step, cell_at_start, frames_after, frames_of, on_curves}
use Rattle.cell_plant.specs.declared.frame.Frame.{Frame}
use Rattle.cell_plant.specs.declared.observer.SeenFault.{SeenFault}
use Rattle.cell_plant.specs.declared.observer.SeenFault.TheVariants.{Observer}
use Rattle.cell_config.specs.Configured.{in_order}
use Rattle.cell_config.specs.Settings.{Settings}
use Rattle.cell_explorer.specs.declared.walk.NextTurn.{NextTurn}
use Rattle.cell_explorer.specs.declared.walk.Walk.{Walk}
use Rattle.explore_app.specs.declared.ending.Ending.{Ending}
use Rattle.explore_app.specs.declared.schedule.AskSeeker.{AskSeeker}
use Rattle.explore_app.specs.declared.schedule.Played.{Played}
use Rattle.explore_app.specs.declared.schedule.SeekEnd.{SeekEnd}
use Rattle.explore_app.specs.declared.schedule.SeekEnd.TheVariants.{Asked}
use Rattle.explore_app.specs.Rings.{is_about}
use Rattle.explore_app.specs.Schedules.{EndsAsking, EndsWith, IfNoted, LeadsToEnding, NotesFrame, WasAsked}

-- as the seeker says it of one frame
abbrev pub Sees : AskSeeker → Frame → Result (Unit {0}) SeekEnd → AskSeeker → Type 0
Sees old f result new = IfNoted result (NotesFrame old.turns.items f new.turns.items new.last)

abbrev turns_in : List Frame → List Turn
turns_in frames = flat_map (λ (f : Frame). option_to_list f.turn) frames

-- after frames it has their turns, and the last of them
record HasKept (w v : AskSeeker) (frames : List Frame) : Type 0 where
  turns : v.turns.items ≡ w.turns.items ++ turns_in frames
  before : List Frame
  last : Frame
  ends : frames ≡ before ++ last ∷ []
  kept : v.last ≡ Some last

has_kept : (w v : AskSeeker) (f : Frame) (fs : List Frame) → IsShown Sees w (f ∷ fs) (Err Asked) v → HasKept w v (f ∷ fs)
has_kept w v f [] k = record { turns = k.0 ∙ ap (λ l. w.turns.items ++ l) (sym (append-nil (option_to_list f.turn))); before = []; last = f; ends = refl; kept = k.1 }
has_kept w v f (g ∷ fs) k =
    let u = k.0 in
    let first : u.turns.items ≡ w.turns.items ++ option_to_list f.turn = k.1.0.0 in
    let rest = has_kept u v g fs k.1.1 in
    record {
      turns = rest.turns ∙ ap (λ l. l ++ turns_in (g ∷ fs)) first ∙ append_assoc w.turns.items (option_to_list f.turn) (turns_in (g ∷ fs));
      before = f ∷ rest.before;
      last = rest.last;
      ends = ap (λ l. f ∷ l) rest.ends;
      kept = rest.kept;
    }

-- the turns of a run's frames are those of its schedule
turns_of_frames : (c : CellScales) (gives : CellGauges) (w : CellState) (ts : List Turn) (ss : List Step) → IsRunBy c gives w ts ss → turns_in (frames_after ts ss) ≡ ts
turns_of_frames c gives w [] [] k = refl
turns_of_frames c gives w (t ∷ ts) (s ∷ ss) k = ap (λ l. t ∷ l) (turns_of_frames c gives s.moved ts ss k.1.1)
turns_of_frames c gives w [] (s ∷ ss) k = absurd k
turns_of_frames c gives w (t ∷ ts) [] k = absurd k

-- so a run of the turns that it has ends with the frame that it has
pub ends_with : (given : Settings) (trial : List Turn) (w v : AskSeeker) (turns : List Turn) (last : Frame) → w.turns.items ≡ [] → turns ≡ v.turns.items → v.last ≡ Some last
    → ((c : CellScales) × ((given.points ≡ in_order c) × SeesBeginning Sees c (on_curves given.curves) given.start trial w v (Observer Asked))) → EndsWith given turns last
ends_with given trial w v turns last begins same there k =
    let seen = k.1.1 in
    let kept = has_kept w v _ (frames_after seen.taken seen.steps) seen.seen in
    let taken : seen.taken ≡ turns =
    sym (same ∙ kept.turns ∙ ap (λ l. l ++ turns_in (frames_of given.start seen.taken seen.steps)) begins ∙ turns_of_frames k.0 (on_curves given.curves) (cell_at_start given.start) seen.taken seen.steps seen.run) in
    let is_last : kept.last ≡ last = ap (λ o. unwrap_or o last) (sym kept.kept ∙ there) in
    record {
      scales = k.0;
      fits = k.1.0;
      steps = seen.steps;
      run = subst (λ ts. IsRunBy k.0 (on_curves given.curves) (cell_at_start given.start) ts seen.steps) taken seen.run;
      before = kept.before;
      ends = subst (λ ts. frames_of given.start ts seen.steps ≡ kept.before ++ last ∷ []) taken (kept.ends ∙ ap (λ f. kept.before ++ f ∷ []) is_last);
    }

pub if_played : {E : Type 0} (given : Settings) (trial : List Turn) (w v : AskSeeker) (fault : SeenFault SeekEnd) (r : Result Played E) → fault ≡ Observer Asked → w.turns.items ≡ [] → IfOk r (λ p. p.turns ≡ v.turns) → IfOk r (λ p. v.last ≡ Some p.last)
    → ((c : CellScales) × ((given.points ≡ in_order c) × SeesBeginning Sees c (on_curves given.curves) given.start trial w v fault)) → IfOk r (λ p. EndsWith given p.turns.items p.last)
if_played given trial w v fault (Ok p) is begins same there k =
    ends_with given trial w v p.turns.items p.last begins (ap (λ t. t.items) same) there
    (subst (λ f. (c : CellScales) × ((given.points ≡ in_order c) × SeesBeginning Sees c (on_curves given.curves) given.start trial w v f)) is k)
if_played given trial w v fault (Err e) is begins same there k = tt

-- ---- a machine that asks in the last turn

-- it is one that the ending is about
pub ends_asking : (given : Settings) (e : Ending) (walk : Walk) (ts new : List Turn) (end : Option Frame) (last : Frame) (m : Machine) (next : NextTurn) (call : Call) → new ≡ ts → end ≡ Some last → EndsWith given ts last → next ≡ at_machine walk.next m
    → next.call ≡ Some call → is_about e next.prospect ≡ true → WasAsked last m call walk.end → IfSome end (EndsAsking given e walk new)
ends_asking given e walk ts new end last m next call same is played at asks about answered =
    let asking : EndsAsking given e walk ts last =
    record {
      played = played;
      machine = m;
      about = ap (λ (n : NextTurn). is_about e n.prospect) (sym at) ∙ about;
      call = call;
      asks = ap (λ (n : NextTurn). n.call) (sym at) ∙ asks;
      answered = answered;
    } in
    subst (λ o. IfSome o (EndsAsking given e walk new)) (sym is) (subst (λ l. EndsAsking given e walk l last) (sym same) asking)

pub still_asking : (given : Settings) (e : Ending) (walk : Walk) (ts new : List Turn) (before end : Option Frame) → new ≡ ts → end ≡ before → IfSome before (EndsAsking given e walk ts) → IfSome end (EndsAsking given e walk new)
still_asking given e walk ts new before end same is asking = subst (λ o. IfSome o (EndsAsking given e walk new)) (sym is) (subst (λ l. IfSome before (EndsAsking given e walk l)) (sym same) asking)

-- ---- no turns

one_frame : (f last : Frame) (before : List Frame) → f ∷ [] ≡ before ++ last ∷ [] → last ≡ f
one_frame f last [] e = sym (ap (λ fs. get_or fs 0 f) e)
one_frame f last (g ∷ []) e = absurd (let lie : f ∷ [] ≡ g ∷ last ∷ [] = e in cc)
one_frame f last (g ∷ h ∷ before) e = absurd (let lie : f ∷ [] ≡ g ∷ h ∷ (before ++ last ∷ []) = e in cc)

asks_nothing : (c : CellScales) (gives : CellGauges) (s : ModelState) (steps : List Step) (before : List Frame) (last : Frame) → IsRunBy c gives (cell_at_start s) [] steps → frames_of s [] steps ≡ before ++ last ∷ [] → last.asked ≡ None
asks_nothing c gives s [] before last run e = ap (λ (f : Frame). f.asked) (one_frame _ last before e)
asks_nothing c gives s (x ∷ xs) before last run e = absurd run

pub some_turn : (given : Settings) (e : Ending) (walk : Walk) → ¬ LeadsToEnding given e walk []
some_turn given e walk led =
    let p = led.asked.played in
    let nothing = asks_nothing p.scales (on_curves given.curves) given.start p.steps p.before led.last p.run p.ends in
    let asked = led.asked.answered.1 in
    let lie = sym nothing ∙ asked in cc
