use Rattle.std.proofs.Common.{◌≡◌, ◌++◌, All, take}
use Rattle.explore_app.specs.Starving.{IsRoundTurn, asking, going_turns}
use Rattle.explore_app.proofs.starve.round_of.Given as goal

abbrev pub invariant-turns : goal.invariant-turns
invariant-turns l =
    All (IsRoundTurn l.start) l.round.items × (l.way.items ≡ l.stem ++ take l.machine-index l.cycle)
    × (going_turns l.round.items ≡ asking l.start l.stem (take l.machine-index l.cycle))
