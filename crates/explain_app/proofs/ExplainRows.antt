-- The examples of explanations.
use Rattle.std.proofs.Common.{◌≡◌, ◌≤◌, ℕ, zero, suc, List, [], ◌∷◌, ◌++◌, length, take, codes, slice_index, Option, Some, Result, Ok, Err, refl, ap, arith}
use Rattle.std.proofs.lemmas.List.{length-append}
use Rattle.std.specs.Io.KnownBytes.{Keeps}
use Rattle.std.specs.Fmt.{digits}
use Rattle.clap.proofs.OnLiterals.{clap_on_literals}
use Rattle.text_io.specs.Input.{TakesAtMost}
use Rattle.csv_rows.specs.declared.script_end.Outcome.{Outcome}
use Rattle.csv_rows.specs.declared.script_end.Outcome.TheVariants as outcome
use Rattle.csv_rows.specs.declared.script_end.ScriptFault.{ScriptFault}
use Rattle.cell_config.specs.ConfigWords.{config_fault_text}
use Rattle.cell_config.specs.Settings.{Settings, settings_of}
use Rattle.cell_config.specs.declared.fault.ConfigFault.{ConfigFault}
use Rattle.cell_replay.specs.Script.{script_outcome}
use Rattle.cell_replay.specs.declared.fault.ReplayFault.{ReplayFault}
use Rattle.cell_replay.specs.declared.fault.ReplayFault.TheVariants.{Read, Write, Memory}
use Rattle.cell_words.specs.Words.{mode_of}
use Rattle.cell_words.specs.declared.words.Mode.TheVariants.{Sim, Run}
use Rattle.explain_app.specs.Explained.{IsTextOfOutcome, IsTextOfSettings, LeavesUnsaid, SaysOfConfig, SaysOfScript}
use Rattle.explain_app.specs.Explained.{WroteUnder, config_heading, script_heading}
use Rattle.explain_app.specs.declared.verdict.Verdict.TheVariants.{Taken, Refused}
use Rattle.explain_app.specs.ExplainExamples.{ExplanationsAreMet, OfConfig, OfScript, StatusesTell}

-- ---- what is written

abbrev third : List ℕ
third = 9 ∷ []

abbrev both : List ℕ
both = 2 ∷ 3 ∷ []

abbrev second : List ℕ
second = 3 ∷ []

not_second : (n : ℕ) → second ≡ take n both → ⊥
not_second zero e = cc
not_second (suc n) e = cc

few : (bytes : List ℕ) → length bytes ≤ 1 → 7 ∷ 8 ∷ 9 ∷ [] ≡ bytes ++ third → ⊥
few bytes h e = let all = ap length e in omega (arith, h, all, length-append bytes third)

abbrev later : List ℕ
later = 2 ∷ []

abbrev pair : List ℕ
pair = 1 ∷ 2 ∷ []

not_later : (n : ℕ) → later ≡ take n pair → ⊥
not_later zero e = cc
not_later (suc n) e = cc

not_left : (fault : ReplayFault) → LeavesUnsaid (λ text. text ≡ both) fault (Some []) (Some second) → ⊥
not_left Read k = cc
not_left Memory k = cc
not_left Write k = not_second k.1.1.0 (let text = k.1.0 in let written = k.1.1.1 in cc)

other_record : (words : List ℕ) → codes "record 2, x" ≡ codes "record 1, " ++ words → ⊥
other_record words e = let seventh : slice_index (codes "record 2, x") 7 ≡ slice_index (codes "record 1, " ++ words) 7 = ap (λ l. slice_index l 7) e in omega (arith, seventh)

other_config : (words : List ℕ) → codes "config kind: x" ≡ codes "config missing: " ++ words → ⊥
other_config words e = let seventh : slice_index (codes "config kind: x") 7 ≡ slice_index (codes "config missing: " ++ words) 7 = ap (λ l. slice_index l 7) e in omega (arith, seventh)

-- ---- which words ask

nothing : OfScript []
unfolding clap_on_literals
nothing = (refl, refl)

replay : OfScript (codes "replay" ∷ [])
unfolding clap_on_literals
replay = (refl, refl)

sim_is : mode_of (codes "explain" ∷ codes "sim" ∷ []) ≡ Sim
unfolding clap_on_literals
sim_is = refl

run_is : mode_of (codes "explain" ∷ codes "run" ∷ []) ≡ Run 1000 8
unfolding clap_on_literals
run_is = refl

sim : OfConfig (codes "sim" ∷ [])
unfolding clap_on_literals
sim = (refl, λ e. let is = sim_is in cc)

run : OfConfig (codes "run" ∷ [])
unfolding clap_on_literals
run = (refl, λ e. let is = run_is in cc)

no_script : OfScript (codes "sim" ∷ []) → ⊥
no_script k = let is = sim_is in let e = k.1 in cc

no_config : OfConfig (codes "replay" ∷ []) → ⊥
no_config k = k.1 replay.1

no_word_of_script : OfScript (codes "go" ∷ []) → ⊥
unfolding clap_on_literals
no_word_of_script k = let e = k.0 in cc

no_word : OfConfig (codes "go" ∷ []) → ⊥
unfolding clap_on_literals
no_word k = let e = k.0 in cc

pub explanations-met : ExplanationsAreMet
unfolding digits
explanations-met = record {
  no_start = refl;
  bad_start = refl;
  bad_row = refl;
  any_row = λ number. refl;
  long = refl;
  missing = refl;
  headed = (1 ∷ [], refl);
  other_heading = λ k. let e = k.1 in cc;
  no_heading = λ k. let e = k.1 in cc;
  old_lost = λ k. let e = k.1 in cc;
  script_taken = (refl, refl);
  told_of_taken = λ k. let e = k.1 in cc;
  taken_as_refused = λ k. let e = k.0 in cc;
  script_refused = (refl, (codes "x", refl));
  other_record = λ k. other_record k.1.0 k.1.1;
  refused_as_taken = λ k. let e = k.0 in cc;
  config_refused = (refl, (codes "x", refl));
  other_config = λ k. other_config k.1.0 k.1.1;
  missing_as_taken = λ k. let e = k.0 in cc;
  told_of_settings = λ settings k. let e = k.1 in cc;
  settings_as_refused = λ settings k. let e = k.0 in cc;
  text_of_taken = λ k. k;
  text_of_settings = λ settings k. k;
  text_of_other = λ k. other_record k.0 k.1;
  text_of_config = λ k. other_config k.0 k.1;
  nothing_read = refl;
  told_of_unread = λ k. cc;
  told_without_memory = λ k. cc;
  told_in_part = (pair, (refl, (1, refl)));
  told_other = λ k. not_later k.1.1.0 (let text = k.1.0 in let written = k.1.1.1 in cc);
  silent = record { status = omega arith; words = λ e. omega (arith, e); silent = λ e. refl; told = λ e. cc; failed = λ e. cc; taken = (7 ∷ 8 ∷ [], omega arith, refl) };
  told = record { status = omega arith; words = λ e. omega (arith, e); silent = λ e. cc; told = λ e. refl; failed = λ e. cc; taken = (7 ∷ 8 ∷ [], omega arith, refl) };
  failed = record { status = omega arith; words = λ e. omega (arith, e); silent = λ e. cc; told = λ e. cc; failed = λ e. (Write, (both, (refl, (1, refl)))); taken = (7 ∷ 8 ∷ [], omega arith, refl) };
  no_words = λ k. k.words refl;
  no_status = λ k. let at = k.status in omega (arith, at);
  not_silent = λ k. let e = k.silent refl in cc;
  not_told = λ k. let e = k.told refl in cc;
  not_failed = λ k. not_left (k.failed refl).0 (k.failed refl).1;
  taken_too_much = λ k. few k.taken.0 k.taken.1 k.taken.2;
  nothing_asked = nothing;
  replay_asked = replay;
  sim_asked = sim;
  run_asked = run;
  sim_of_script = no_script;
  replay_of_config = no_config;
  other_word = no_word;
  other_word_of_script = no_word_of_script;
}

-- ---- by the exit status

script_text : (o : Outcome) (text : List ℕ) → IsTextOfOutcome o text → (fault : ScriptFault) × (o ≡ outcome.Refused fault) × (words : List ℕ) × (text ≡ script_heading fault ++ words)
script_text outcome.Clean text k = absurd k
script_text (outcome.Refused fault) text k = (fault, refl, k.0, k.1)

config_text : (o : Result Settings ConfigFault) (text : List ℕ) → IsTextOfSettings o text → (fault : ConfigFault) × (o ≡ Err fault) × (words : List ℕ) × (text ≡ config_heading fault ++ words)
config_text (Ok settings) text k = absurd k
config_text (Err fault) text k = (fault, refl, k.0, k.1)

script_taken : (o : Outcome) (old new : Option (List ℕ)) → SaysOfScript o Taken old new → (o ≡ outcome.Clean) × Keeps old new
script_taken outcome.Clean old new k = (refl, k.1)
script_taken (outcome.Refused fault) old new k = let e : Taken ≡ Refused = k.0 in cc

script_refused : (o : Outcome) (text : List ℕ) → SaysOfScript o Refused (Some []) (Some text) → (fault : ScriptFault) × (o ≡ outcome.Refused fault) × (words : List ℕ) × (text ≡ script_heading fault ++ words)
script_refused outcome.Clean text k = let e : Refused ≡ Taken = k.0 in cc
script_refused (outcome.Refused fault) text k = (fault, refl, k.1.0, k.1.1)

config_taken : (o : Result Settings ConfigFault) (old new : Option (List ℕ)) → SaysOfConfig o Taken old new → (settings : Settings) × (o ≡ Ok settings) × Keeps old new
config_taken (Ok settings) old new k = (settings, refl, k.1)
config_taken (Err fault) old new k = let e : Taken ≡ Refused = k.0 in cc

config_refused : (o : Result Settings ConfigFault) (text : List ℕ) → SaysOfConfig o Refused (Some []) (Some text) → (fault : ConfigFault) × (o ≡ Err fault) × (words : List ℕ) × (text ≡ config_fault_text fault ++ codes ": " ++ words)
config_refused (Ok settings) text k = let e : Refused ≡ Taken = k.0 in cc
config_refused (Err fault) text k = (fault, refl, k.1.0, k.1.1)

-- the same of any output
script_told : (o : Outcome) (old new : Option (List ℕ)) → SaysOfScript o Refused old new → (fault : ScriptFault) × (o ≡ outcome.Refused fault) × WroteUnder (script_heading fault) old new
script_told outcome.Clean old new k = let e : Refused ≡ Taken = k.0 in cc
script_told (outcome.Refused fault) old new k = (fault, refl, k.1)

config_told : (o : Result Settings ConfigFault) (old new : Option (List ℕ)) → SaysOfConfig o Refused old new → (fault : ConfigFault) × (o ≡ Err fault) × WroteUnder (config_heading fault) old new
config_told (Ok settings) old new k = let e : Refused ≡ Taken = k.0 in cc
config_told (Err fault) old new k = (fault, refl, k.1)

all_taken : (most : ℕ) (bytes : List ℕ) → TakesAtMost (Some bytes) (Some []) most → length bytes ≤ most
all_taken most bytes k = let h = k.1 in let all : length bytes ≡ length (k.0 ++ []) = ap length k.2 in omega (arith, h, all, length-append k.0 [])

pub statuses-tell : StatusesTell
statuses-tell = record {
  script_taken = λ bytes rest old new k. script_taken (script_outcome bytes) old new (k.silent refl);
  script_refused = λ bytes text rest k. script_refused (script_outcome bytes) text (k.told refl);
  script_told = λ bytes rest old new k. script_told (script_outcome bytes) old new (k.told refl);
  script_untold = λ input rest old new k. k.failed refl;
  script_taken_off = λ exit bytes old new k. all_taken 4194305 bytes k.taken;
  config_taken = λ bytes rest old new k. config_taken (settings_of bytes) old new (k.silent refl);
  config_refused = λ bytes text rest k. config_refused (settings_of bytes) text (k.told refl);
  config_told = λ bytes rest old new k. config_told (settings_of bytes) old new (k.told refl);
  config_untold = λ input rest old new k. k.failed refl;
  config_taken_off = λ exit bytes old new k. all_taken 2097153 bytes k.taken;
  text_of_script = λ bytes text k. script_text (script_outcome bytes) text k;
  text_of_config = λ bytes text k. config_text (settings_of bytes) text k;
}
