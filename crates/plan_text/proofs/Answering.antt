-- What the answers to records come to, record by record.
use Rattle.std.proofs.Common.{ℕ, ◌≡◌, ◌<◌, ◌+◌, ◌++◌, List, [], ◌∷◌, Some, None, Result, Ok, Err, IfOk, refl, sym, ◌∙◌, ap, append_assoc, arith}
use Rattle.std.specs.Prelude.{nat_lt, true}
use Rattle.std.proofs.lemmas.Bool.Decides.{nat_tests}
use Rattle.plan_types.specs.Table.{PlanTable}
use Rattle.plan_types.specs.declared.answer.Answer.{Answer}
use Rattle.plan_rules.specs.declared.state.State.{State}
use Rattle.plan_rules.specs.Reply.{next, reply}
use Rattle.plan_text.specs.Named.{Named}
use Rattle.plan_text.specs.Answers.{answer_text}
use Rattle.csv_rows.specs.Rows.{Row}
use Rattle.csv_rows.specs.ScriptEnd.{max_records}
use Rattle.csv_rows.specs.declared.script_end.ScriptFault.TheVariants.{Long}
use Rattle.csv_rows.specs.declared.script_end.Outcome.TheVariants.{Clean, Refused}
use Rattle.plan_text.specs.Requests.{request_of}
use Rattle.plan_text.specs.Script.{Answers, answers_of, ends, line_of, row_refused, with_text}
use Rattle.plan_text.specs.declared.request.Request.{Request}

pub with_text-twice : (a b : List ℕ) (x : Answers) → with_text (a ++ b) x ≡ with_text a (with_text b x)
with_text-twice a b x = ap (λ (t : List ℕ). record { text = t; outcome = x.outcome }) (append_assoc a b x.text)

below : (done : ℕ) → done < max_records → nat_lt done max_records ≡ true
below done h = grind (arith, nat_tests)

pub answers_of-none : (n : Named) (done : ℕ) (s : State) → answers_of n done s [] ≡ ends Clean
unfolding answers_of
answers_of-none n done s = refl

pub answers_of-bad : (n : Named) (done : ℕ) (s : State) (row : Row) (rows : List Row) → done < max_records → request_of n row ≡ None
    → answers_of n done s (row ∷ rows) ≡ row_refused n (done + 1) row
unfolding answers_of
answers_of-bad n done s row rows few bad = rw (below done few, bad) refl

pub answers_of-more : (n : Named) (done : ℕ) (s : State) (row : Row) (rows : List Row) (r : Request) → done < max_records → request_of n row ≡ Some r
    → answers_of n done s (row ∷ rows)
    ≡ with_text (line_of (done + 1) (next n.plan s r.machine r.call).stamp (answer_text n (reply n.plan s r.machine r.call)))
    (answers_of n (done + 1) (next n.plan s r.machine r.call) rows)
unfolding answers_of
answers_of-more n done s row rows r few good = rw (below done few, good) refl

pub answers_of-long : (n : Named) (s : State) (row : Row) (rows : List Row) → answers_of n 65536 s (row ∷ rows) ≡ ends (Refused Long)
unfolding answers_of
answers_of-long n s row rows = refl

pub ok_more : {A E : Type 0} (r : Result A E) (P Q : A → Type 0) → IfOk r P → ((a : A) → P a → Q a) → IfOk r Q
ok_more (Ok a) P Q p more = more a p
ok_more (Err e) P Q p more = tt

-- one more record is answered
pub one_answered : (n : Named) (p : PlanTable) (done : ℕ) (s s2 : State) (row : Row) (rest rest2 : List Row) (r : Request) (answer : Answer) (text text2 : List ℕ) (whole : Answers)
    → done < max_records → p ≡ n.plan → request_of n row ≡ Some r → answer ≡ reply p s r.machine r.call → s2 ≡ next p s r.machine r.call
    → text2 ≡ text ++ line_of (done + 1) s2.stamp (answer_text n answer) → rest ≡ row ∷ rest2
    → whole ≡ with_text text (answers_of n done s rest) → whole ≡ with_text text2 (answers_of n (done + 1) s2 rest2)
one_answered n p done s s2 row rest rest2 r answer text text2 whole few is good said after line split before =
    let line2 : List ℕ = line_of (done + 1) (next n.plan s r.machine r.call).stamp (answer_text n (reply n.plan s r.machine r.call)) in
    let more : Answers = answers_of n (done + 1) (next n.plan s r.machine r.call) rest2 in
    before
    ∙ ap (λ rows. with_text text (answers_of n done s rows)) split
    ∙ ap (with_text text) (answers_of-more n done s row rest2 r few good)
    ∙ sym (with_text-twice text line2 more)
    ∙ rw (line, after, said, is) refl

-- no further record is answered
pub ended : (n : Named) (done : ℕ) (s : State) (rest : List Row) (text : List ℕ) (whole last : Answers)
    → answers_of n done s rest ≡ last → whole ≡ with_text text (answers_of n done s rest) → (a : Answers) → a ≡ with_text text last → a ≡ whole
ended n done s rest text whole last is before a said = said ∙ ap (with_text text) (sym is) ∙ sym before
