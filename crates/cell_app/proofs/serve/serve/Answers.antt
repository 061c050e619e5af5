use Rattle.std.proofs.Common.{◌≡◌, inl, inr, sym, ◌∙◌}
use Rattle.cell_replay.specs.Script.{max_bytes_read}
use Rattle.cell_config.specs.Settings.{max_bytes_read as config_bytes_read}
use Rattle.program_shell.proofs.lemmas.Exits.{is_at_most_two, is_below, is_well, not_refused}
use Rattle.program_shell.proofs.lemmas.Serving.{nothing_taken, served}
use Rattle.cell_words.proofs.lemmas.Asked.{help_asked, no_room, run_asked, version_untaken}
use Rattle.cell_words.specs.Words.{mode_of, texts_of}
use Rattle.cell_words.specs.declared.words.Mode.TheVariants.{Replay, Sim, Run}
use Rattle.cell_app.specs.Served.{ReplayFails, RunFails, SimFails, WasReplayed, WasRun, WasSimulated}
use Rattle.cell_app.proofs.ServeLemmas.{fewer_taken, not_asked, replay_unread, run_unread, sim_unread}
use Rattle.cell_app.proofs.serve.serve.Goals as goal

pub returns-then-asks_for_version : goal.returns-then-asks_for_version
returns-then-asks_for_version g c =
    let words = texts_of c.args.words.now in
    let asked = sym c.asks_for_version.ensures ∙ c.if-asks_for_version.true in
    record {
      status = is_at_most_two c.print_version.result _ c.status.ensures;
      replay = λ k. version_untaken words asked k.0;
      simulation = λ k. version_untaken words asked k.0;
      run = λ turns tries k. version_untaken words asked k.0;
      version = λ k. rw c.status.ensures c.print_version.ensures.printed;
      taken = λ k. inr (inr asked);
      refused = λ k. version_untaken words asked k;
      read = nothing_taken _ max_bytes_read;
    }

pub returns-in-Ok-Replay : goal.returns-in-Ok-Replay
returns-in-Ok-Replay g c =
    let is : mode_of (texts_of c.args.words.now) ≡ Replay = sym c.in-Ok-Replay.ensures.mode ∙ c.in-Ok-Replay.field-0-is in
    let exit = c.serve_replay.result in let ended = c.serve_replay.ensures in
    record {
      status = is_at_most_two exit _ c.status-in-Ok-Replay.ensures;
      replay = λ k. served WasReplayed ReplayFails max_bytes_read exit _ c.status-in-Ok-Replay.ensures _ _ _ _ ended.status ended.well ended.failed ended.read;
      simulation = λ k. let lie : Replay ≡ Sim = sym is ∙ k.1 in cc;
      run = λ turns tries k. let lie : Replay ≡ Run turns tries = sym is ∙ k.1 in cc;
      version = λ k. not_asked (texts_of c.args.words.now) c.asks_for_version.result c.asks_for_version.ensures c.if-asks_for_version.false k;
      taken = λ k. inl c.in-Ok-Replay.ensures.taken;
      refused = λ k. is_below exit _ c.status-in-Ok-Replay.ensures ended.status;
      read = ended.read;
    }

pub returns-in-Ok-Sim : goal.returns-in-Ok-Sim
returns-in-Ok-Sim g c =
    let is : mode_of (texts_of c.args.words.now) ≡ Sim = sym c.in-Ok-Sim.ensures.mode ∙ c.in-Ok-Sim.field-0-is in
    let exit = c.serve_sim.result in let ended = c.serve_sim.ensures in
    record {
      status = is_at_most_two exit _ c.status-in-Ok-Sim.ensures;
      replay = λ k. let lie : Sim ≡ Replay = sym is ∙ k.1 in cc;
      simulation = λ k. served WasSimulated SimFails config_bytes_read exit _ c.status-in-Ok-Sim.ensures _ _ _ _ ended.status ended.well ended.failed ended.read;
      run = λ turns tries k. let lie : Sim ≡ Run turns tries = sym is ∙ k.1 in cc;
      version = λ k. not_asked (texts_of c.args.words.now) c.asks_for_version.result c.asks_for_version.ensures c.if-asks_for_version.false k;
      taken = λ k. inl c.in-Ok-Sim.ensures.taken;
      refused = λ k. is_below exit _ c.status-in-Ok-Sim.ensures ended.status;
      read = fewer_taken _ _ ended.read;
    }

pub returns-in-Ok-Run : goal.returns-in-Ok-Run
returns-in-Ok-Run g c =
    let words = texts_of c.args.words.now in
    let has_turns = c.in-Ok-Run.turns in let has_tries = c.in-Ok-Run.tries in
    let is : mode_of words ≡ Run has_turns has_tries = sym c.in-Ok-Run.ensures.mode ∙ c.in-Ok-Run.field-0-is in
    let exit = c.serve_run.result in let ended = c.serve_run.ensures in
    record {
      status = is_at_most_two exit _ c.status-in-Ok-Run.ensures;
      replay = λ k. let lie : Run has_turns has_tries ≡ Replay = sym is ∙ k.1 in cc;
      simulation = λ k. let lie : Run has_turns has_tries ≡ Sim = sym is ∙ k.1 in cc;
      run = λ turns tries k.
          let same = run_asked words c.in-Ok-Run.field-0 has_turns has_tries turns tries c.in-Ok-Run.field-0-is c.in-Ok-Run.ensures.mode k in
          rw (sym same.0, sym same.1)
          (served (WasRun has_turns has_tries) (RunFails has_turns has_tries) config_bytes_read exit _ c.status-in-Ok-Run.ensures _ _ _ _ ended.status ended.well ended.failed ended.read);
      version = λ k. not_asked (texts_of c.args.words.now) c.asks_for_version.result c.asks_for_version.ensures c.if-asks_for_version.false k;
      taken = λ k. inl c.in-Ok-Run.ensures.taken;
      refused = λ k. is_below exit _ c.status-in-Ok-Run.ensures ended.status;
      read = fewer_taken _ _ ended.read;
    }

pub returns-in-Err : goal.returns-in-Err
returns-in-Err g c =
    let exit = c.refuse.result in
    let is = c.status-in-Err.ensures in
    let none = no_room _ c.in-Err.error c.in-Err.ensures.refused in
    record {
      status = is_at_most_two exit _ is;
      replay = λ k. replay_unread exit _ is (c.refuse.ensures.memory (none k.0)) _ _ _ (c.refuse.ensures.line (none k.0));
      simulation = λ k. sim_unread exit _ is (c.refuse.ensures.memory (none k.0)) _ _ _ (c.refuse.ensures.line (none k.0));
      run = λ turns tries k. run_unread exit _ is (c.refuse.ensures.memory (none k.0)) _ _ _ (c.refuse.ensures.line (none k.0)) turns tries;
      version = λ k. not_asked (texts_of c.args.words.now) c.asks_for_version.result c.asks_for_version.ensures c.if-asks_for_version.false k;
      taken = λ k. inr (inl (help_asked _ c.in-Err.error c.in-Err.ensures.refused (c.refuse.ensures.help (is_well exit _ is k))));
      refused = λ k. is_below exit _ is (not_refused exit (c.refuse.ensures.memory (none k)));
      read = nothing_taken _ max_bytes_read;
    }
