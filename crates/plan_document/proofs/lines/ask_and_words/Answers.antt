use Rattle.std.proofs.Common.{◌∙◌, Option, Some, None, MatchOption, IfSome, codes, sym, append_assoc}
use Rattle.std.proofs.lemmas.Str.Pattern.{split_text_parts}
use Rattle.plan_document.proofs.lines.ask_and_words.Goals as goal

found_so : {X : Type 0} (o : Option X) (A : Type 0) (P Q : X → Type 0) → MatchOption o A P → ((x : X) → P x → Q x) → IfSome o Q
found_so None A P Q m step = tt
found_so (Some x) A P Q m step = step x m

pub returns : goal.returns
returns c =
    found_so c.split_once.result _ _ _ (split_text_parts (codes " or stop on ") c.args.line.now c.split_once.result c.split_once.ensures.cases)
    (λ x e. e ∙ sym (append_assoc x.0.now (codes " or stop on ") x.1.now))
