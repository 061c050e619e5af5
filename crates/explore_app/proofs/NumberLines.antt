-- The lines of screens, whatever their numbers are.
use Rattle.std.proofs.Common.{◌≡◌, ℕ, Bool, true, false, if◌then◌else◌, List, [], ◌∷◌, ◌++◌, append_assoc, append-nil, codes, map, Option, Some, None, refl, ap, ◌∙◌}
use Rattle.std.specs.Fmt.{decimal}
use Rattle.std.specs.List.{concat, flat_map}
use Rattle.cell_rules.specs.Types.{Machine, Call, all_places, answer_text, call_text, flag_word, machine_word}
use Rattle.cell_rules.specs.Names.{ModelState, is_full}
use Rattle.cell_config.specs.Letters.{letter_word}
use Rattle.cell_notes.specs.ByMachine.{at_machine}
use Rattle.cell_notes.specs.declared.schedule.Turn.{Turn}
use Rattle.cell_explorer.specs.declared.walk.Walk.{Walk}
use Rattle.explore_app.specs.declared.bound.Bound.{Bound}
use Rattle.explore_app.specs.declared.ending.Ending.{Ending}
use Rattle.explore_app.specs.declared.ending.Ending.TheVariants as ending
use Rattle.explore_app.specs.Bounds.{Text, bound_words}
use Rattle.explore_app.specs.Liveness.{going_line, going_lines, machines_line}
use Rattle.explore_app.specs.LinesByNumber.{LinesByMachine, LinesByNumber, RingsByMachine, RoundsByTurn, ScreensByLine, between}
use Rattle.explore_app.specs.Rings.{asked_words, ending_words, going_on_line, is_about, line_if, name_words, party_word, refused_line, waiting_line}
use Rattle.explore_app.specs.Screens.{digits_of, ending_head, ending_line, ending_screen, free_line, free_screen, letters_of, plates_line, schedule_key, start_key, turns_words}
use Rattle.explore_app.specs.Starving.{round_head, round_line, round_screen, stem_line, weak_line, weak_screen}

-- in whatever order the pieces are joined
bound_shape : (before p h after : List ℕ) → before ++ (codes "k * " ++ p ++ codes " + k * k * " ++ h ++ codes " steps") ++ after ≡ before ++ (codes "k * " ++ (p ++ (codes " + k * k * " ++ (h ++ (codes " steps" ++ after)))))
bound_shape before p h after = simp append_assoc

pub within : (before after : Text) (b : Bound) → before ++ bound_words b ++ after ≡ between before b.plain b.helped after
unfolding bound_words
within before after b = bound_shape before (decimal b.plain) (decimal b.helped) after

pub lines : LinesByNumber
unfolding going_line machines_line ending_words ending_line free_line plates_line stem_line turns_words weak_line
lines = record {
  plates = λ s n is. ap (λ m. codes "# plates " ++ (decimal m ++ codes "\n")) is;
  free = λ n. refl;
  standstill = λ n. refl;
  refusal = λ n. refl;
  stem = λ n. refl;
  weak = λ plain helped. within (codes "# a plate moves within ") (codes " of each weakly fair schedule\n") (record { plain = plain; helped = helped });
  going = λ plain helped. within (codes "# plates go on: a plate moves within ") (codes " of a fair schedule\n") (record { plain = plain; helped = helped });
  machines = λ plain helped. within (codes "# each machine moves a plate within ") (codes "\n") (record { plain = plain; helped = helped });
}

-- ---- machines and keys

-- a list in one piece is its pieces
in_pieces : {X : Type 0} (f : X → List ℕ) (xs : List X) → flat_map f xs ≡ concat (map f xs)
in_pieces f [] = refl
in_pieces f (x ∷ xs) = ap (λ l. f x ++ l) (in_pieces f xs)

digit : (b : Bool) → (if b then 49 else 48) ∷ [] ≡ flag_word b
digit true = refl
digit false = refl

digits_in_pieces : {X : Type 0} (f : X → Bool) (xs : List X) → map (λ x. if f x then 49 else 48) xs ≡ concat (map (λ x. flag_word (f x)) xs)
digits_in_pieces f [] = refl
digits_in_pieces f (x ∷ xs) = ap (λ l. (if f x then 49 else 48) ∷ l) (digits_in_pieces f xs) ∙ ap (λ l. l ++ concat (map (λ y. flag_word (f y)) xs)) (digit (f x))

abbrev answered : List ℕ → List ℕ → List ℕ
answered c a = codes ": " ++ c ++ codes ": " ++ a ++ codes "\n"

waits_shape : (head m p c a : List ℕ) → head ++ m ++ codes " waits for " ++ p ++ answered c a ≡ head ++ (m ++ (codes " waits for " ++ (p ++ (codes ": " ++ (c ++ (codes ": " ++ (a ++ codes "\n")))))))
waits_shape head m p c a = simp append_assoc

does_shape : (head m does c a : List ℕ) → head ++ m ++ does ++ answered c a ≡ head ++ (m ++ (does ++ (codes ": " ++ (c ++ (codes ": " ++ (a ++ codes "\n"))))))
does_shape head m does c a = simp append_assoc

pub machines : LinesByMachine
unfolding asked_words digits_of going_on_line letters_of name_words refused_line schedule_key start_key waiting_line
machines = record {
  waits = λ m party c a is. ap (λ o. name_words m ++ codes " waits for " ++ party_word o ++ asked_words c a) is ∙ waits_shape (codes "# ") (machine_word m) (machine_word party) (call_text c) (answer_text a);
  waits_for_nobody = λ m c a is. ap (λ o. name_words m ++ codes " waits for " ++ party_word o ++ asked_words c a) is ∙ waits_shape (codes "# ") (machine_word m) (codes "nobody") (call_text c) (answer_text a);
  refused = λ m c a. does_shape (codes "# ") (machine_word m) (codes " is refused") (call_text c) (answer_text a);
  goes_on = λ m c a. does_shape (codes "# ") (machine_word m) (codes " goes on") (call_text c) (answer_text a);
  start = λ s. ap (λ l. codes "start = \"" ++ l ++ codes "\"\n") (digits_in_pieces (is_full s) all_places);
  schedule = λ turns. ap (λ l. codes "schedule = \"" ++ l ++ codes "\"\n") (in_pieces (λ (t : Turn). letter_word t.busy t.machine) turns);
}

-- ---- endings and rounds

no_line : (e : Ending) (s : ModelState) (m : Machine) (call : Option Call) → line_if e s m call false ≡ []
no_line e s m None = refl
no_line e s m (Some c) = refl

its_line : (e : Ending) (s : ModelState) (m : Machine) (call : Option Call) (c : Call) (about : Bool) → call ≡ Some c → about ≡ true → line_if e s m call about ≡ line_if e s m (Some c) true
its_line e s m call c about asks is = ap (λ o. line_if e s m o about) asks ∙ ap (line_if e s m (Some c)) is

pub rings : (walk : Walk) → RingsByMachine walk
rings walk = record {
  all = λ e. refl;
  waits = λ m c asks about. its_line ending.Standstill walk.end.state m (at_machine walk.next m).call c (is_about ending.Standstill (at_machine walk.next m).prospect) asks about;
  refused = λ m c asks about. its_line ending.Refusal walk.end.state m (at_machine walk.next m).call c (is_about ending.Refusal (at_machine walk.next m).prospect) asks about;
  other = λ e m about. ap (line_if e walk.end.state m (at_machine walk.next m).call) about ∙ no_line e walk.end.state m (at_machine walk.next m).call;
  silent = λ e m none. ap (λ o. line_if e walk.end.state m o (is_about e (at_machine walk.next m).prospect)) none;
}

pub rounds : (m : Machine) (c : Call) (walk : Walk) → RoundsByTurn m c walk
rounds m c walk = record { all = in_pieces round_line; goes_on = refl; waits = refl }

-- ---- screens

pub screens : (s : ModelState) → ScreensByLine s
unfolding ending_head ending_screen free_screen going_lines round_head round_screen weak_screen
screens s = record {
  free = λ n p. simp (append_assoc, append-nil);
  ending = λ e n walk turns. simp (append_assoc, append-nil);
  starving = λ n round turns. simp (append_assoc, append-nil);
  weak = λ b. simp (append_assoc, append-nil);
}
