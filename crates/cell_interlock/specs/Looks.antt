-- The engine's look, by the rules of the cell, as the cell's.
use Rattle.cell_types.specs.declared.machine.Machine.{Machine}
use Rattle.cell_types.specs.declared.call.Call.{Call}
use Rattle.cell_types.specs.declared.answer.Answer.{Answer}
use Rattle.cell_types.specs.declared.answer.Event.{Event}
use Rattle.cell_rules.specs.ModelState.{ModelState}
use Rattle.word_interlock.specs.declared.tries.Look.{Look as EngineLook}
use Rattle.word_interlock.specs.declared.tries.Look.TheVariants.{Settled as EngineSettled, Pending as EnginePending}
use Rattle.cell_interlock.specs.declared.rules.CellRules.{CellRules}
use Rattle.cell_interlock.specs.declared.tries.Look.{Look}
use Rattle.cell_interlock.specs.declared.tries.Look.TheVariants.{Settled, Pending}
use Rattle.cell_interlock.specs.Engine.{pass_from, try_from}

abbrev pub look_from : EngineLook CellRules ModelState Machine Call Answer Event → Look
look_from (EngineSettled answer stamp p) = Settled answer stamp (pass_from p)
look_from (EnginePending t) = Pending (try_from t)
