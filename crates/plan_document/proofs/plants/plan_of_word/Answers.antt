use Rattle.std.proofs.Common.{◌∙◌, ap, map}
use Rattle.plan_words.specs.Group.{Group}
use Rattle.plan_words.specs.Plant.{word_at}
use Rattle.plan_document.specs.OnWord.{machines_from, names_on, picked}
use Rattle.plan_document.specs.Names.{place_names, zone_names}
use Rattle.plan_document.specs.Texts.{machine_texts, zone_texts}
use Rattle.plan_document.proofs.Parted.{texts_by}
use Rattle.plan_document.proofs.plants.plan_of_word.Goals as goal

pub returns : goal.returns
returns c =
    let d = c.args.document.now in
    let g : Group = (word_at c.args.words.now c.args.word).group in
    record {
      rows = texts_by d c.in_ok-part.part g c.in_ok-zones.zones c.in_ok-places.places
          (c.in_ok-zones.ensures ∙ ap (λ names. names_on names c.zones.result.now) c.requires.zones ∙ ap (names_on (zone_names d.zones.items)) c.zones.ensures.zones)
          (c.in_ok-places.ensures ∙ ap (λ names. names_on names c.places.result.now) c.requires.places ∙ ap (names_on (place_names d.machines.items)) c.places.ensures.places)
          (c.in_ok-part.ensures.machines ∙ ap (λ poses. machines_from c.in_ok-zones.zones c.in_ok-places.places poses 0 (map machine_texts d.machines.items)) c.poses.ensures.poses)
          (c.in_ok-part.ensures.zones ∙ ap (picked (map zone_texts d.zones.items)) c.zones-2.ensures.zones)
          c.in_ok-part.ensures.motors c.in_ok-part.ensures.hazards;
      says = c.in_ok-plan.ensures;
    }
