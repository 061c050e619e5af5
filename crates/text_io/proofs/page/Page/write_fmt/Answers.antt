use Rattle.std.proofs.Common.{Option, Some, None, IfSome}
use Rattle.std.proofs.lemmas.Result.{on_ok_weaker}
use Rattle.std.proofs.lemmas.Fmt.{contents_after_writes}
use Rattle.text_io.proofs.page.Page.write_fmt.Goals as goal

where_some : {A : Type 0} (o : Option A) (P Q : A → Type 0) → ((x : A) → P x → Q x) → IfSome o P → IfSome o Q
where_some None P Q f h = tt
where_some (Some x) P Q f h = f x h

-- calls that each append their text append it all
pub returns : goal.returns
returns g c = on_ok_weaker _ (where_some _ _ _ (λ bytes. contents_after_writes _ (λ page. page) (λ _ _ _ added. added) c.args.self.now bytes c.write_fmt.new.self)) c.write_fmt.ensures.writes
