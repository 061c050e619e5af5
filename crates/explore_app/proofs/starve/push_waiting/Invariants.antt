use Rattle.std.proofs.Common.{◌≡◌, All}
use Rattle.explore_app.specs.Starving.{IsRoundTurn, going_turns}
use Rattle.explore_app.proofs.starve.push_waiting.Given as goal

abbrev pub invariant-machines : goal.invariant-machines
invariant-machines l = All (IsRoundTurn l.start) l.round.items × (going_turns l.round.items ≡ going_turns l.initial.round.items)
