use Rattle.std.proofs.Common.{◌≡◌, ◌+◌, drop}
use Rattle.plan_words.specs.Plant.{first_room}
use Rattle.plan_words.proofs.plant.PlantTables.first_room.Given as goal

abbrev pub invariant-loop-word : goal.invariant-loop-word
invariant-loop-word l =
    (l.before ≡ l.word-index) × (l.before + first_room l.self l.label (drop l.word-index l.words) ≡ first_room l.self l.label l.words)
