use Rattle.std.proofs.Common.{sym, ◌∙◌}
use Rattle.std.proofs.lemmas.Option.{same_Some}
use Rattle.cell_interlock.proofs.rules.CellRulesRules.unpack.Goals as goal

pub returns : goal.returns
returns c state sound e = same_Some c.in-Some.state state (sym c.in-Some.is ∙ (c.unpack.ensures.some state).1 (sound, e))
