-- The feed belt may go on at each step that is in step with a state.
use Rattle.cell_resume.proofs.Names.{◌≡◌, Bool, true, refl, pos, false, sym, ◌∙◌, Feed, Z6, Z1, FeedEntry, FeedEnd, Moving, is_full, one_if, same_flag, after, and_left, and_right, seen_held, seen_in, feed_steps, IsResumable, one_flag}
use Rattle.cell_rules.proofs.lemmas.Conserved.{plates-kept}
use Rattle.cell_control.specs.Keeping.{are_kept}
use Rattle.cell_control.proofs.lemmas.SharedZones.{all_kept_of}
use Rattle.cell_belts_crane.specs.BeltShares.{are_there}
use Rattle.cell_belts_crane.specs.FeedProgram.{keeps_at, zones_at, in_step}
use Rattle.cell_belts_crane.proofs.lemmas.FeedFacts.{FeedKnows, feed-knowing, feed_begins, drives_at}

one_is_full : (b : Bool) → pos (one_if b) ≡ pos 1 → b ≡ true
one_is_full true e = refl
one_is_full false e = cc

pub feed_resumable : IsResumable feed_steps in_step FeedKnows
feed_resumable = record {
  begins = feed_begins;
  enters = λ p z e.
      let rest = and_right (are_kept (zones_at p.step) Feed z) _ e in
      let noted = and_right (are_there (keeps_at p.step).plates p.entry p.last) _ rest in
      record {
        facts = (all_kept_of (zones_at p.step) Feed z (and_left _ _ e)).0;
        plates = and_left _ _ rest;
        entry_noted = one_flag _ _ (and_left _ _ noted);
        last_noted = one_flag _ _ (and_right (same_flag (is_full z FeedEntry) p.entry) _ noted);
      };
  knowing = feed-knowing;
  demands = λ p reading act opening seen asks drives sound legal k on.
      let z = after opening seen in
      let at = drives_at p.step p z asks k in
      record {
        entry = seen_held opening seen Feed Z6 legal at.0.0;
        moves = seen_in opening seen Z6 Moving legal at.0.1;
        exit = λ one. seen_held opening seen Feed Z1 legal (at.1 (one_is_full _ (sym ((plates-kept opening seen sound legal).at_place FeedEnd) ∙ one)));
      };
}
