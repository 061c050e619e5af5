use Rattle.std.proofs.Common.{◌≡◌, ◌≤◌, ◌-◌, ◌∙◌, ℕ, List, [], ◌∷◌, length, get_or, take, drop, ap, arith}
use Rattle.std.proofs.lemmas.List.{take_all}
use Rattle.std.specs.Borrow.{Bor}
use Rattle.program_shell.specs.Words.{texts_of}
use Rattle.plan_app.specs.Requests.{wanted_after, wanted_with}
use Rattle.plan_app.proofs.request.wanted_after.Goals as goal

-- what comes after two words
after : (word : List ℕ) (rest : List (Bor (List ℕ))) (none : Bor (List ℕ)) → 2 ≤ length rest
    → wanted_with word (get_or rest 0 none).now (get_or rest 1 none).now (texts_of (take (length rest - 2) (drop 2 rest)))
    ≡ wanted_after word (texts_of rest)
after word [] none few = absurd (omega (arith, few))
after word (x ∷ []) none few = absurd (omega (arith, few))
after word (x ∷ y ∷ more) none few =
    let count : length (x ∷ y ∷ more) - 2 ≡ length more = omega arith in
    let all : length more ≤ length more = omega arith in
    ap (λ n. wanted_with word x.now y.now (texts_of (take n more))) count
    ∙ ap (λ m. wanted_with word x.now y.now (texts_of m)) (take_all (length more) more all)

pub returns-in-len2-up : goal.returns-in-len2-up
returns-in-len2-up c = c.wanted_with.ensures ∙ after c.args.word.now c.args.rest.now _ c.in-len2-up.len_at_least
