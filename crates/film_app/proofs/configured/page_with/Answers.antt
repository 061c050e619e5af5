use Rattle.film_app.specs.Pages.{page_text}
use Rattle.film_app.proofs.Shown.{page_made}
use Rattle.film_app.proofs.configured.page_with.Goals as goal

pub returns : goal.returns
unfolding page_text
returns c = page_made _ _ _ _ _ _ _ _ c.in_ok-page.ensures.ok c.in_ok-push_str.ensures.bytes c.in_ok-push_cut.ensures c.in_ok-push_str-2.ensures.bytes
