use Rattle.std.proofs.Common.{◌≡◌, ◌++◌, ℕ, List, ◌∙◌, ap}
use Rattle.std.proofs.lemmas.List.{append_assoc}
use Rattle.plan_picture.specs.Pictures as spec
use Rattle.plan_header.proofs.lemmas.Lines.{three_parts}
use Rattle.plan_picture.proofs.zones.push_zone.Goals as goal

first_two : (old one two a b : List ℕ) → one ≡ old ++ a → two ≡ one ++ b → two ≡ old ++ (a ++ b)
first_two old one two a b first second = second ∙ ap (λ l. l ++ b) first ∙ append_assoc old a b

pub returns : goal.returns
returns c =
    let s = c.args.shown.now in
    let zone = c.args.zone in
    three_parts c.push_over.result _ _ _ _ (spec.zone_title s zone ++ spec.parties_part s zone) (spec.ways_part s zone ++ spec.ends_part s zone) (spec.space_part s zone ++ spec.word_title s zone)
    (first_two _ _ _ (spec.zone_title s zone) (spec.parties_part s zone) c.in_ok-push_zone_title.ensures c.in_ok-push_parties.ensures)
    (first_two _ _ _ (spec.ways_part s zone) (spec.ends_part s zone) c.in_ok-push_ways.ensures c.in_ok-push_ends.ensures)
    c.push_over.ensures
