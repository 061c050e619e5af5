-- The laws of `counts_tell`.
use Rattle.std.proofs.Common.{◌≡◌, ◌≢◌, ℕ, ◌++◌, [], codes, nat_eq, refl, ap, ◌∙◌}
use Rattle.std.proofs.Common.{if◌then◌else◌}
use Rattle.std.proofs.lemmas.Bool.{eqb-true, false_from_ne_true}
use Rattle.std.proofs.lemmas.List.{append_assoc, append-nil}
use Rattle.std.specs.Fmt.{decimal, digits}
use Rattle.plan_text.specs.Names.{Text}
use Rattle.plan_app.specs.CountLaws.{CountsTell, SituationsAreCounted, ThingsAreCounted, TurnsAreCounted}
use Rattle.plan_app.specs.Screens.{count_line, free_line}
use Rattle.plan_app.specs.Words.{counted}

one_thing : (kind : Text) → counted 1 kind ≡ codes "1 " ++ (kind ++ [])
unfolding digits
one_thing kind = refl

one-of : (n : ℕ) (kind : Text) → n ≡ 1 → counted n kind ≡ codes "1 " ++ kind
one-of n kind e = ap (λ k. counted k kind) e ∙ one_thing kind ∙ ap (λ k. codes "1 " ++ k) (append-nil kind)

others-of : (n : ℕ) (kind : Text) → n ≢ 1 → counted n kind ≡ decimal n ++ (codes " " ++ (kind ++ codes "s"))
others-of n kind several =
    ap (λ b. decimal n ++ (codes " " ++ (kind ++ (if b then [] else codes "s"))))
    (false_from_ne_true (nat_eq n 1) (λ is. several (eqb-true n 1 is)))

things-counted : ThingsAreCounted
things-counted = record { one = one-of; others = others-of }

one_turn : count_line 1 ≡ codes "a standstill after 1 turn, and no fewer\n"
unfolding digits
one_turn = refl

one_situation : free_line 1 ≡ codes "no standstill in any order of turns before the last stamp: 1 situation\n"
unfolding digits
one_situation = refl

turns-counted : TurnsAreCounted
turns-counted = record {
  one = λ n e. ap count_line e ∙ one_turn;
  others = λ n several.
      ap (λ t. codes "a standstill after " ++ (t ++ codes ", and no fewer\n")) (others-of n (codes "turn") several)
      ∙ ap (λ t. codes "a standstill after " ++ t) (append_assoc (decimal n) (codes " turns") (codes ", and no fewer\n"));
  whole = λ n ps opening turns waiting. refl;
}

situations-counted : SituationsAreCounted
situations-counted = record {
  one = λ n e. ap free_line e ∙ one_situation;
  others = λ n several.
      ap (λ t. codes "no standstill in any order of turns before the last stamp: " ++ (t ++ codes "\n"))
      (others-of n (codes "situation") several)
      ∙ ap (λ t. codes "no standstill in any order of turns before the last stamp: " ++ t)
      (append_assoc (decimal n) (codes " situations") (codes "\n"));
}

pub counts-tell : CountsTell
counts-tell = record { things = things-counted; turns = turns-counted; situations = situations-counted }
