-- On a word that is stopped nothing that a stop bars is done.
use Rattle.std.proofs.Common.{◌≡◌, ℕ, [], ◌∷◌, ◌++◌, refl, sym, ap, ◌∙◌}
use Rattle.plan_types.specs.declared.answer.Event.{Event}
use Rattle.plan_types.specs.Table.{PlanTable}
use Rattle.plan_rules.specs.Laws.{done}
use Rattle.plan_rules.proofs.lemmas.Lawful.{every_history}
use Rattle.std.proofs.lemmas.List.{append-nil}
use Rattle.plan_words.specs.Run.{Word, IsLaidOut, events_of}
use Rattle.plan_words.specs.Stops.{StoppedWordsBar}
use Rattle.plan_words.proofs.OneTable.{own_then}

pub stopped_words_bar : (t : PlanTable) (count : ℕ) (words : ℕ → Word) → IsLaidOut t count words → StoppedWordsBar t count words
stopped_words_bar t count words is states whole h x w legal l stopped answered =
    let n = x.word in
    let u = (words n).table in
    let e = x.event in
    let is_done : e ≡ done e.machine e.call = ap (λ a. let y : Event = record { machine = e.machine; call = e.call; answer = a } in y) answered in
    let split : events_of (h ++ x ∷ []) n ≡ events_of h n ++ done e.machine e.call ∷ [] = own_then h x n refl ∙ ap (λ y. events_of h n ++ y ∷ []) is_done in
    let lawful = every_history u (states n) (events_of (h ++ x ∷ []) n) (is.plan n l) (w.sound n l) (legal n l) (events_of (h ++ x ∷ []) n) [] (sym (append-nil (events_of (h ++ x ∷ []) n))) in
    lawful.stopped_until_resumed.barred (events_of h n) [] e.machine e.call split stopped
