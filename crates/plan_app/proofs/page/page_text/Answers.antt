use Rattle.plan_app.specs.Pages.{page_text}
use Rattle.plan_app.proofs.Paging.{page_made}
use Rattle.plan_app.proofs.page.page_text.Goals as goal

pub returns : goal.returns
unfolding page_text
returns c =
    page_made _ _ _ _ _ _ _ _ _ _ c.in_ok-page.ensures.ok c.in_ok-push_data.ensures c.in_ok-push_str.ensures.bytes c.in_ok-push_film.ensures
    (rw c.plan.ensures at (rw c.tail_of.ensures at c.in_ok-push_str-2.ensures.bytes))
