-- The examples of frames, and of films that are wrong.
use Rattle.cell_plant.proofs.Names.{◌≡◌, ◌≢◌, pos, Bool, true, false, List, [], ◌∷◌, ◌++◌, append-nil, append_assoc, length, Option, Some, None, is_some, Result, Ok, Err, refl, sym, ap, ◌∙◌, subst, FeedStep, ClaimExit, came_back, is_busy_reply, Turn, PlantState, starts, IsShown, Frame, FrameExamples, WrongFilms, ShownExamples, Fails}
use Rattle.cell_plant.specs.FrameExamples.{Keeps}
use Rattle.cell_plant.proofs.Deciding.{not_so, same_number, equals, true_false, false_true}

-- the first, second and third frame of a film
abbrev first : List Frame → Frame
first [] = starts
first (f ∷ fs) = f

abbrev second : List Frame → Frame
second [] = starts
second (f ∷ fs) = first fs

abbrev third : List Frame → Frame
third [] = starts
third (f ∷ fs) = second fs

abbrev is_at_exit : FeedStep → Bool
is_at_exit ClaimExit = true
is_at_exit _ = false

abbrev is_busy : Option Turn → Bool
is_busy None = false
is_busy (Some t) = t.busy

wrong : WrongFilms
wrong = record {
  state_before = λ e. not_so (same_number 1 0) refl (ap (λ fs. (second fs).state.stamp) e);
  step_before = λ e. true_false (ap (λ fs. is_at_exit (second fs).steps.feed) e);
  asks_nothing = λ e. true_false (ap (λ fs. is_some (second fs).asked) e);
  told_as_refused = λ e. true_false (ap (λ fs. came_back is_busy_reply (third fs).asked) e);
  told_as_free = λ e. true_false (ap (λ fs. is_busy (third fs).turn) e);
  start_left_out = λ e. not_so (same_number 1 0) refl (ap (λ (fs : List Frame). length fs) e);
  frame_left_out = λ e. not_so (same_number 7 6) refl (ap (λ (fs : List Frame). length fs) e);
  frame_twice = λ e. not_so (same_number 2 3) refl (ap (λ (fs : List Frame). length fs) e);
  frames_swapped = λ e. false_true (ap (λ fs. is_some (first fs).turn) e);
}

-- an observer that keeps all, from what it has kept
keeps_on : (kept frames now : List Frame) (result : Result (Unit {0}) (Unit {0})) → IsShown Keeps kept frames result now → (result ≡ Ok tt) × (now ≡ kept ++ frames)
keeps_on kept [] now result k = (k.0, k.1 ∙ sym (append-nil kept))
keeps_on kept (f ∷ []) now result k = k
keeps_on kept (f ∷ g ∷ fs) now result k =
    let more = keeps_on k.0 (g ∷ fs) now result k.1.1 in
    (more.0, more.1 ∙ ap (λ x. x ++ g ∷ fs) k.1.0.1 ∙ append_assoc kept (f ∷ []) (g ∷ fs))

can_keep_on : (kept frames : List Frame) → IsShown Keeps kept frames (Ok tt) (kept ++ frames)
can_keep_on kept [] = (refl, append-nil kept)
can_keep_on kept (f ∷ []) = (refl, refl)
can_keep_on kept (f ∷ g ∷ fs) = (kept ++ f ∷ [], ((refl, refl), subst (λ x. IsShown Keeps (kept ++ f ∷ []) (g ∷ fs) (Ok tt) x) (append_assoc kept (f ∷ []) (g ∷ fs)) (can_keep_on (kept ++ f ∷ []) (g ∷ fs))))

fails_first : (frames now : List Frame) → IsShown Fails [] frames (Err tt) now → (f : Frame) × (frames ≡ f ∷ []) × (now ≡ [])
fails_first [] now k = let wrong : Err tt ≡ Ok tt = k.0 in cc
fails_first (f ∷ []) now k = (f, refl, k.1)
fails_first (f ∷ g ∷ fs) now k = let wrong : Ok tt ≡ Err tt = k.1.0.0 in cc

never_errs : (result : Result (Unit {0}) (Unit {0})) → result ≡ Err tt → result ≢ Ok tt
never_errs result e k = let wrong : Err tt ≡ Ok tt = sym e ∙ k in cc

shown : ShownExamples
shown = record {
  keeps_all = λ frames now k. (keeps_on [] frames now (Ok tt) k).1;
  can_keep = λ frames. can_keep_on [] frames;
  never_fails = λ frames now k. never_errs (Err tt) refl (keeps_on [] frames now (Err tt) k).0;
  fails_at_once = fails_first;
  turn_is_left = λ e. cc;
  no_turn_is_left = λ k. k refl;
  fails_last = tt;
}

pub frame_examples : FrameExamples
frame_examples = record {
  literal = refl;
  no_turn = refl;
  falls = refl;
  apart = refl;
  axes_are_apart = λ e. not_so (equals (pos 5) (pos 2)) refl (ap (λ (p : PlantState). p.table.lift.position) e);
  status_apart = refl;
  statuses = λ w. record {
    feed = refl;
    table = refl;
    robot = refl;
    press = refl;
    deposit = refl;
    crane = refl;
    watch = refl;
  };
  wrong = wrong;
  shown = shown;
}
