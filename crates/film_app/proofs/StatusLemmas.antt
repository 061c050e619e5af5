-- What exit statuses say.
use Rattle.std.proofs.Common.{◌∙◌, ℕ, List, [], ◌∷◌, length, Option, Some, inl, inr, refl, sym, ap, subst}
use Rattle.cell_picture.specs.Pictures.{IsPictureOf}
use Rattle.film_app.specs.Loops.{IsLoopOf, LoopFails}
use Rattle.film_app.specs.Pages.{FilmFails, IsFilmOf, max_turns, page_text}
use Rattle.film_app.specs.Statuses.{FailsBy, StatusesTell}

film_failed : (bytes : List ℕ) (old new : Option (List ℕ)) → FilmFails bytes old new → FailsBy bytes (IsFilmOf bytes) old new
film_failed bytes old new (inl k) refused memory written = refused k.0 k.1.0 k.1.1
film_failed bytes old new (inr (inl k)) refused memory written = memory k
film_failed bytes old new (inr (inr k)) refused memory written = written k.0 k.1.0 k.1.1

loop_failed : (bytes : List ℕ) (old new : Option (List ℕ)) → LoopFails bytes old new → FailsBy bytes (IsLoopOf bytes) old new
loop_failed bytes old new (inl k) refused memory written = refused k.0 k.1.0 k.1.1
loop_failed bytes old new (inr (inl k)) refused memory written = memory k
loop_failed bytes old new (inr (inr k)) refused memory written = written k.0 k.1.0 k.1.1

pub statuses-tell : StatusesTell
unfolding max_turns
statuses-tell = record {
  filmed = λ bytes text rest k.
      let w = k.well refl in
      let film = w.1.0 in
      let run = film.shown.shown in
      (film.settings, film.said, (film.shown.scales, film.shown.fits, run.steps, run.run, w.1.1 ∙ film.page ∙ ap (λ lines. page_text lines (length film.settings.schedule)) run.shown));
  looped = λ bytes text rest k.
      let w = k.well refl in
      let loop = w.1.0 in
      let seen = loop.seen in
      (loop.settings, loop.said, (seen.scales, seen.fits, seen.steps, seen.run, subst (λ frames. IsPictureOf frames text) seen.seen (subst (IsPictureOf loop.frames) (sym w.1.1) loop.picture)));
  page = λ config text k.
      let shown = k.1.0 in
      let run = shown.shown in
      (shown.scales, shown.fits, run.steps, run.run, k.1.1 ∙ ap (λ lines. page_text lines (length config.schedule.items)) run.shown);
  picture = λ config text k.
      let seen = k.1.0 in
      (seen.scales, seen.fits, seen.steps, seen.run, subst (λ frames. IsPictureOf frames text) seen.seen k.1.1);
  film_failed = λ bytes rest old new k. film_failed bytes old new (k.failed refl);
  loop_failed = λ bytes rest old new k. loop_failed bytes old new (k.failed refl);
  film_lost = λ bytes k. film_failed bytes (Some (7 ∷ [])) (Some []) k (λ fault says w. let e = w.1 in cc) (λ w. let e = w.1 in cc) (λ text is w. let e = w.1 in cc);
  loop_lost = λ bytes k. loop_failed bytes (Some (7 ∷ [])) (Some []) k (λ fault says w. let e = w.1 in cc) (λ w. let e = w.1 in cc) (λ text is w. let e = w.1 in cc);
}
