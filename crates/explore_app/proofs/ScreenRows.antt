-- The examples of screens, and what screens and lines say.
use Rattle.std.proofs.Common.{◌≡◌, ◌∙◌, ◌⊎◌, ◌||◌, ℕ, ◌+◌, true, false, List, [], ◌∷◌, ◌++◌, Some, Ok, Err, String, Global, codes, length, string_bytes, inl, inr, refl, sym, ap, subst}
use Rattle.std.proofs.Math.Bool.{or-true}
use Rattle.std.proofs.Math.Seq.{take-length}
use Rattle.text_io.specs.Output.{WrotePrefix}
use Rattle.cell_config.specs.Configured.{Says}
use Rattle.cell_config.specs.Settings.{Settings, settings_of}
use Rattle.cell_config.specs.declared.fault.ConfigFault.{ConfigFault}
use Rattle.std.specs.Fmt.{digits}
use Rattle.cell_rules.specs.ModelState.{ModelState}
use Rattle.cell_explorer.specs.Calls.{call_of}
use Rattle.cell_explorer.specs.Columns.{cell_columns}
use Rattle.cell_explorer.specs.Situations.{prospect_of}
use Rattle.cell_explorer.specs.Walks.{next_turn}
use Rattle.cell_notes.specs.ByMachine.{values_of}
use Rattle.cell_notes.specs.declared.schedule.Turn.{Turn}
use Rattle.cell_plant.specs.declared.frame.MachineSteps.{MachineSteps}
use Rattle.cell_explorer.specs.declared.situation.Situation.{Situation}
use Rattle.explore_app.specs.Schedules.{LeadsTo}
use Rattle.explore_app.proofs.Played.{some_turn}
use Rattle.explore_app.specs.declared.tally.Tally.{Tally}
use Rattle.explore_app.specs.Bounds.{Text, bound_words}
use Rattle.explore_app.specs.Liveness.{going_line, going_lines, liveness_of, liveness_of_each, machines_line, may_starve}
use Rattle.explore_app.specs.Rings.{asked_words, ending_words, going_on_line, name_words, refused_line, waiting_line}
use Rattle.explore_app.specs.ScreenExamples.{EachIsMet, RequestsAreMet, ScreensAreMet}
use Rattle.explore_app.specs.declared.screen.Screen.TheVariants.{Free, Warning}
use Rattle.explore_app.specs.declared.request.Question.TheVariants.{Standstill}
use Rattle.explore_app.specs.Served.{AnswerFails}
use Rattle.explore_app.specs.Screens.{IsScreenOf, TellsGoing, TellsRefusal, TellsStandstill, TellsTrouble, digits_of, ending_head, ending_line, ending_screen, free_line, free_screen, letters_of, plates_line, schedule_key, start_key, turns_words}
use Rattle.explore_app.specs.Starving.{IsStarvingScreenOf, TellsBound, TellsRound, TellsStill, is_of_round, round_head, round_screen, stem_line, weak_line, weak_screen}
use Rattle.explore_app.specs.Starts.{starts_with}
use Rattle.explore_app.specs.Tallies as tallies
use Rattle.explore_app.specs.Tallies.{AreLines, Finding, IsTally, more_lines, no_lines, of_both, of_none, of_one, both_tallies, found_words, free_words, going_words, no_tally, refused_words, situations_words, standing_words, starving_words, tally_line, tally_of, unknown_words, within_words}
use Rattle.explore_app.specs.Tellings.{AnswersTell, EndingsTell, FindingsTell, IsPlayed, ScreensTell, StarvingTells, TellingsAreWhole, TextsTell}

-- ---- the examples

pub screens-met : ScreensAreMet
unfolding digits bound_words going_line going_lines machines_line asked_words ending_words going_on_line name_words refused_line waiting_line digits_of ending_head ending_line ending_screen free_line free_screen letters_of plates_line schedule_key start_key turns_words round_head round_screen stem_line weak_line weak_screen
screens-met = record {
  free = refl;
  standstill = λ walk. refl;
  refusal = λ walk. refl;
  starving = λ walk. refl;
  weak = refl;
  going = λ walk. refl;
  no_turn_is_idle = λ walk. refl;
  waiting_is_idle = λ walk. refl;
  acting_is_not = λ walk. refl;
}

-- one start's turns to its end
abbrev ends_after : ℕ → ℕ → Tally
ends_after turns refused = record no_tally { starts = 1; refused = refused; fewest_turns = turns; most_turns = turns }

pub each-met : EachIsMet
unfolding digits bound_words found_words free_words going_words refused_words situations_words standing_words starving_words tally_line unknown_words within_words tallies.turns_words
each-met = record { slowest = refl; unknown = λ reason. refl; starve = λ reason stem cycle. refl; starving_plates_warn = λ stem cycle. refl; starving_machine_warns = λ reason stem cycle. refl; each_warns = λ p e. ap (λ l. may_starve (liveness_of p.any) || may_starve l) e ∙ or-true (may_starve (liveness_of p.any)); any_warns = λ p e. ap (λ l. may_starve l || may_starve (liveness_of_each p)) e; unknown_warns_not = λ reason. refl; going_warns_not = refl; zones = refl; parties = refl; owner_awaited = refl; stuck = λ way e. ap (λ n. tally_line 0 (ends_after n 0)) e; stopped = λ way e. ap (λ n. tally_line 4 (ends_after n 1)) e; bounded = refl; fewest = refl; both = refl; counted = refl }

pub requests-met : RequestsAreMet
requests-met = record {
  no_name = refl;
  nothing = refl;
  all = refl;
  starve = refl;
  help = refl;
  help_of_all = refl;
  help_of_starve = refl;
  help_of_other_word = refl;
  version = refl;
  other_word = refl;
  word_more = refl;
}

-- ---- what is said

one_screen : (given : Settings) (text : String Global) → IsScreenOf given (Warning text) → (¬ TellsGoing given.start true (string_bytes text)) → (¬ TellsStandstill given (string_bytes text)) → (¬ TellsRefusal given (string_bytes text)) → ⊥
one_screen given text (inl k) a b c = a k
one_screen given text (inr (inl k)) a b c = b k
one_screen given text (inr (inr k)) a b c = c k

one_starving : (given : Settings) (text : String Global) → IsStarvingScreenOf given (Warning text) → (¬ TellsStill given (string_bytes text)) → (¬ TellsRound given (string_bytes text)) → ⊥
one_starving given text (inl k) a b = a k
one_starving given text (inr k) a b = b k

screens : (given : Settings) (text : String Global) → ScreensTell given text
screens given text = record {
  free_tells_freedom = λ k. k;
  freedom_is_no_warning = λ k. k;
  warning_tells_one_of_three = one_screen given text;
  starving_warns = λ k. inl k;
  standstill_warns = λ k. inr (inl k);
  refusal_warns = λ k. inr (inr k);
  free = λ situations k. k;
  starving = λ situations k. k;
  standstill = λ way k. k;
  standstill_is_a_warning = λ way k. k;
  refusal = λ way k. k;
  refusal_is_a_warning = λ way k. k;
}

texts : (s : ModelState) (text : Text) → TextsTell s text
texts s text = record {
  freedom_is_found = λ starve k. (k.situations, k.free, k.counted, k.shown);
  freedom_is_shown = λ situations starve k. (k.plates, k.go_on, k.starving, k.starve_so, k.shown);
  walk_is_taken = λ way walk k. (k.asks, k.end, k.next ∙ ap (λ at. values_of (next_turn cell_columns at)) k.end);
  someone_moves = λ plates k. k.any;
  each_moves = λ plates k. (k.feed, k.table, k.robot, k.press, k.deposit, k.crane);
  someone_starves = λ plates k. k.any;
  each_starves = λ plates k. (k.feed, k.table, k.robot, k.press, k.deposit, k.crane);
}

-- the steps that a frame shows
played : (given : Settings) (at : Situation) (schedule : List Turn) (led : LeadsTo given at schedule) → IsPlayed given at schedule
played given at schedule led =
    let p = led.played in
    let there = led.there.steps in (
      p.scales,
      p.fits,
      p.steps,
      p.run,
      p.before,
      led.last,
      p.ends,
      ap (λ (s : MachineSteps). s.feed) there,
      ap (λ (s : MachineSteps). s.table) there,
      ap (λ (s : MachineSteps). s.robot) there,
      ap (λ (s : MachineSteps). s.press) there,
      ap (λ (s : MachineSteps). s.deposit) there,
      ap (λ (s : MachineSteps). s.crane) there,
      led.there.state,
    )

endings : (given : Settings) (text : Text) → EndingsTell given text
endings given text = record {
  standstill_is_found = λ k. (k.way, k.leads, k.shortest, k.shown);
  refusal_is_found = λ k. (k.way, k.leads, k.shortest, k.shown);
  ending_is_shown = λ e way k. (k.walk, k.comes_to, k.schedule, k.leads, k.shown);
  schedule_leads = λ e walk schedule k. record { last = k.last; played = k.asked.played; there = k.there };
  schedule_is_played = played given;
  no_empty_schedule = some_turn given;
  machine_asks = λ e walk schedule k. (k.asked.machine, k.asked.call, k.asked.answered.0, k.asked.asks, k.asked.about, k.asked.answered.1);
}

starving : (given : Settings) (text : String Global) → StarvingTells given text
starving given text = record {
  free_tells_bound = λ k. (k.bound, k.go_on, k.shown);
  bound_is_no_warning = λ k. k;
  warning_tells_one_of_two = one_starving given text;
  still_warns = λ k. inl k;
  round_warns = λ k. inr k;
  circle = λ turns still k. (k.stem, k.cycle, k.leads, k.long, k.walk, k.comes_to, k.idle);
  still = λ k. (k.turns, k.starves, k.screen, k.is_screen, k.shown);
  round = λ k. (k.turns, k.starves, k.shown);
  circle_is_a_warning = λ stem cycle walk k. k;
  circle_is_shown = λ stem cycle walk k. k;
  shown = λ stem cycle walk k. (k.round, k.is_round.turns, k.is_round.whole, k.schedule, k.leads, k.shown);
  turn = λ step k. (k.way, k.comes_to, subst (λ at. call_of cell_columns step.machine at ≡ Some step.call) k.comes_to.end k.asks, subst (λ at. is_of_round step.goes_on (prospect_of cell_columns step.machine at) ≡ true) k.comes_to.end k.is_of);
}

findings : (s : ModelState) → FindingsTell s
findings s = record {
  free = λ situations k. (k.free, k.situations);
  standstill = λ way k. (k.standstill, k.shortest);
  refusal = λ way k. (k.refusal, k.shortest);
  liveness = λ liveness k. k;
}

a_tally : (plates : ℕ) (starts : List ModelState) (t : Tally) → IsTally plates starts t
    → ((starts ≡ []) × (t ≡ no_tally))
    ⊎ (((f : Finding plates) × (starts ≡ f.start ∷ []) × (t ≡ tally_of f.found f.liveness))
    ⊎ ((some : List ModelState) × (others : List ModelState) × (a : Tally) × (b : Tally) × IsTally plates some a × IsTally plates others b × (starts ≡ some ++ others) × (t ≡ both_tallies a b)))
a_tally plates _ _ of_none = inl (refl, refl)
a_tally plates _ _ (of_one f) = inr (inl (f, refl, refl))
a_tally plates _ _ (of_both some others a b k l) = inr (inr (some, others, a, b, k, l, refl, refl))

a_text : (count : ℕ) (text : Text) → AreLines count text
    → ((count ≡ 0) × (text ≡ []))
    ⊎ ((n : ℕ) × (t : Tally) × (before : Text) × (count ≡ n + 1) × AreLines n before × IsTally n (starts_with n) t × (text ≡ before ++ tally_line n t))
a_text _ _ no_lines = inl (refl, refl)
a_text _ _ (more_lines n t text k l) = inr (n, t, text, refl, k, l, refl)

other_text : (bytes text : Text) → AnswerFails Standstill bytes (Some []) (Some text) → (¬ ((fault : ConfigFault) × Says bytes (Err fault))) → (¬ WrotePrefix (Some []) (Some text) (codes "fault memory\n"))
    → (¬ WrotePrefix (Some []) (Some text) (codes "fault the simulated cell doesn't come to it\n"))
    → (settings : Settings) × (settings_of bytes ≡ Ok settings) × (whole : Text) × (TellsTrouble settings whole ⊎ TellsGoing settings.start false whole) × WrotePrefix (Some []) (Some text) whole
other_text bytes text (inl k) a b c = absurd (a (k.0, k.1.0))
other_text bytes text (inr (inl k)) a b c = absurd (b k)
other_text bytes text (inr (inr (inl k))) a b c = absurd (c k)
other_text bytes text (inr (inr (inr (inl k)))) a b c = (k.1.0.settings, k.1.0.said, k.0, inl k.1.0.tells, k.1.1)
other_text bytes text (inr (inr (inr (inr k)))) a b c = (k.1.0.settings, k.1.0.said, k.0, inr k.1.0.tells, k.1.1)

all_written : (text : Text) → WrotePrefix (Some []) (Some text) text
all_written text = (length text, sym (take-length text))

answers : (bytes text : Text) → AnswersTell bytes text
answers bytes text = record {
  standstill = λ k. (k.1.settings, k.1.said, subst (λ (t : Text). TellsGoing k.1.settings.start false t) (sym k.2) k.1.tells);
  starving = λ k. (k.1.settings, k.1.said, subst (λ (t : Text). TellsBound k.1.settings.start t) (sym k.2) k.1.tells);
  listed = λ lines k. subst (AreLines lines) (sym k.2) k.1;
  nothing_lost = λ lines k. let e = k.2 in cc;
  well = λ question rest k. k.well refl;
  fails = λ question rest k. k.failed refl;
  reads = λ question exit rest new k. k.taken;
  warns = λ settings said k. inr (inr (inr (inl (text, (record { settings = settings; said = said; tells = k }, all_written text)))));
  warns_of_round = λ settings said k. inr (inr (inr (inl (text, (record { settings = settings; said = said; tells = inr k }, all_written text)))));
  warns_of_still = λ settings said k. inr (inr (inr (inl (text, (record { settings = settings; said = said; tells = inl k }, all_written text)))));
  other = other_text bytes text;
}

pub tellings-whole : TellingsAreWhole
tellings-whole = record {
  screens = screens;
  texts = texts;
  endings = endings;
  starving = starving;
  findings = findings;
  tallies = record { finding = λ plates f. (f.is_start, f.has, f.was_found, f.moves, f.unasked); tally = a_tally; lines = a_text };
  answers = answers;
}
