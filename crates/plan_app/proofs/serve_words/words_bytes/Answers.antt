use Rattle.std.proofs.Common.{inr}
use Rattle.plan_app.proofs.serve_words.words_bytes.Goals as goal

pub returns-clause-words : goal.returns-clause-words
returns-clause-words g c = λ well. rw (c.split_at.ensures.front, c.plan_length.ensures.length) at (c.words_document.ensures.words well)

pub returns-clause-failed : goal.returns-clause-failed
returns-clause-failed g c = λ failed. inr (rw (c.split_at.ensures.front, c.plan_length.ensures.length) at (c.words_document.ensures.failed failed))
