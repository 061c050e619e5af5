use Rattle.std.proofs.Common.{◌≡◌, ◌++◌, take, string_bytes}
use Rattle.std.specs.List.{flat_map}
use Rattle.cell_config.specs.Letters.{letter_word}
use Rattle.explore_app.proofs.screen.push_letters.Given as goal

abbrev pub invariant-turns : goal.invariant-turns
invariant-turns l = string_bytes l.text ≡ string_bytes l.initial.text ++ flat_map (λ turn. letter_word turn.busy turn.machine) (take l.turn-index l.schedule)
