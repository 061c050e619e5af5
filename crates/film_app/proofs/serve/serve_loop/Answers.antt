use Rattle.film_app.proofs.Looping.{looped}
use Rattle.film_app.proofs.serve.serve_loop.Goals as goal

pub returns : goal.returns
returns g c =
    looped _ _ _ _ c.in-Ok.ensures.taken c.status-2.result c.in-Ok.config c.as_bytes.result.now c.in-Ok.ensures.says
    (rw c.as_bytes.ensures.value c.in-Ok-loop_configured.ensures) (rw c.status-2.ensures c.print.ensures.printed)
