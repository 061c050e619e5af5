use Rattle.std.proofs.Common.{◌∙◌, ap, sym}
use Rattle.std.proofs.lemmas.List.{take_all}
use Rattle.history_app.proofs.Lines.{text_of, text_of_all}
use Rattle.history_app.specs.Scripts.{opening_row}
use Rattle.history_app.proofs.scripts.script_of.Goals as goal

pub returns : goal.returns
returns c =
    c.events.invariant
    ∙ ap (text_of (opening_row c.args.opening.now c.args.events.now)) (take_all c.events.event-index c.args.events.now c.events-test.false)
    ∙ sym (text_of_all c.args.opening.now c.args.events.now)
