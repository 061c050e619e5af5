use Rattle.std.proofs.Common.{All, ◌++◌, append-nil, refl, sym, ap, subst, ◌∙◌}
use Rattle.std.proofs.lemmas.List.{take_all}
use Rattle.std.proofs.lemmas.List.Elements.{All-nil}
use Rattle.explore_app.specs.Starving.{IsRoundTurn, asking, going_turns}
use Rattle.explore_app.proofs.Starved.{turn_more, way_more}
use Rattle.explore_app.proofs.starve.round_of.Goals as goal

pub turns-preserved : goal.turns-preserved
turns-preserved c =
    let i = c.turns.machine-index in (
      c.push_turns.ensures.turns,
      way_more c.args.stem.now c.args.cycle.now c.turns.way.items c.push.new.self.items i _ c.turns-test.true c.turns.invariant.1 c.in_ok-push.ensures.items,
      turn_more c.args.start.now c.args.stem.now c.args.cycle.now c.as_slice.result.now i _ _ _ _ c.turns-test.true (c.as_slice.ensures.value ∙ c.turns.invariant.1) c.turns.invariant.2 refl c.in_ok-push_turns.ensures.going,
    )

pub turns-init : goal.turns-init
turns-init c = (
  subst (All (IsRoundTurn c.args.start.now)) (sym c.new-round.ensures.items) (All-nil (IsRoundTurn c.args.start.now)),
  c.in_ok-extend_from_slice.ensures.items ∙ ap (λ l. l ++ c.args.stem.now) c.new-way.ensures.items ∙ sym (append-nil c.args.stem.now),
  ap going_turns c.new-round.ensures.items,
)

pub returns : goal.returns
returns c = record {
  turns = c.turns.invariant.0;
  whole = c.turns.invariant.2 ∙ ap (asking c.args.start.now c.args.stem.now) (take_all c.turns.machine-index c.args.cycle.now c.turns-test.false);
}
