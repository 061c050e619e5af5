use Rattle.std.proofs.Common.{◌≡◌, true, false, Option, None, Some, List, ℕ, is_some, sym, subst, Bor, nat_eq}
use Rattle.std.proofs.lemmas.Str.Pattern.{starts_text}
use Rattle.std.specs.List.{starts_with}
use Rattle.std.specs.Option.{MatchOption}
use Rattle.std.specs.Str.{IsCharBoundary}
use Rattle.std.specs.Str.Pattern.{FindsTextPrefix, StripsPrefix}
use Rattle.plan_header.proofs.numbered.after.Goals as goal

begun_at : (s n : List ℕ) (k : ℕ) → FindsTextPrefix n s (Some k) → IsCharBoundary s k
begun_at s n k h = subst (IsCharBoundary s) (sym h.0) h.2

begun : (s n : List ℕ) (r : Option (Bor (List ℕ)))
    → MatchOption r (FindsTextPrefix n s None) (λ x. StripsPrefix (FindsTextPrefix n) s x.now)
    → is_some r ≡ starts_with nat_eq s n
begun s n None lacks = starts_text false n s lacks
begun s n (Some x) h = starts_text true n s (h.0, h.1, begun_at s n h.0 h.1)

pub returns-clause-begins : goal.returns-clause-begins
returns-clause-begins c = begun c.args.text.now c.args.prefix.now c.strip_prefix.result c.strip_prefix.ensures.cases
