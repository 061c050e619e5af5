-- What the feed belt knows at its step tells that it is in step, and the other way round.
use Rattle.cell_resume.proofs.Names.{◌≡◌, true, Feed, ModelState, and_left, and_both, FeedProgress, own_flag}
use Rattle.cell_control.proofs.lemmas.SharedZones.{all_kept_of, of_all_kept}
use Rattle.cell_belts_crane.specs.FeedProgram.{zones_at, in_step}
use Rattle.cell_belts_crane.proofs.lemmas.FeedFacts.{FeedKnows}
use Rattle.cell_team.proofs.lemmas.FeedTeam as team
use Rattle.cell_resume.proofs.FeedResumes.{feed_resumable}

pub feed_knows : (p : FeedProgress) (z : ModelState) → in_step p z ≡ true → FeedKnows p z × team.FeedMore p z
feed_knows p z e = (feed_resumable.enters p z e, (all_kept_of (zones_at p.step) Feed z (and_left _ _ e)).1)

pub feed_stands : (p : FeedProgress) (z : ModelState) → FeedKnows p z × team.FeedMore p z → in_step p z ≡ true
feed_stands p z k =
    and_both _ _ (of_all_kept (zones_at p.step) Feed z k.0.facts k.1) (and_both _ _ k.0.plates (and_both _ _ (own_flag _ _ k.0.entry_noted) (own_flag _ _ k.0.last_noted)))
