use Rattle.plan_app.specs.Asked.{IsAsked, IsNoPlan}
use Rattle.plan_app.specs.Input.{document_in}
use Rattle.plan_app.proofs.Failures.{by_fault, by_plan}
use Rattle.plan_app.proofs.serve.serve_bytes.Goals as goal

pub returns-in-Ok-clause-reported : goal.returns-in-Ok-clause-reported
returns-in-Ok-clause-reported g c =
    let is : IsAsked c.args.word (document_in c.args.bytes.now) c.in-Ok.plan = rw (c.split_at.ensures.front, c.plan_length.ensures.length) at c.in-Ok.ensures.plan in
    λ most request well. (c.in-Ok.plan, is, rw (c.split_at.ensures.back, c.plan_length.ensures.length) at (c.serve_plan.ensures.reported most request well))

pub returns-in-Ok-clause-answered : goal.returns-in-Ok-clause-answered
returns-in-Ok-clause-answered g c =
    let is : IsAsked c.args.word (document_in c.args.bytes.now) c.in-Ok.plan = rw (c.split_at.ensures.front, c.plan_length.ensures.length) at c.in-Ok.ensures.plan in
    λ request well. (c.in-Ok.plan, is, rw (c.split_at.ensures.back, c.plan_length.ensures.length) at (c.serve_plan.ensures.answered request well))

pub returns-in-Ok-clause-free : goal.returns-in-Ok-clause-free
returns-in-Ok-clause-free g c =
    let is : IsAsked c.args.word (document_in c.args.bytes.now) c.in-Ok.plan = rw (c.split_at.ensures.front, c.plan_length.ensures.length) at c.in-Ok.ensures.plan in
    λ most request well. (c.in-Ok.plan, is, rw (c.split_at.ensures.back, c.plan_length.ensures.length) at (c.serve_plan.ensures.free most request well))

pub returns-in-Ok-clause-paged : goal.returns-in-Ok-clause-paged
returns-in-Ok-clause-paged g c =
    let is : IsAsked c.args.word (document_in c.args.bytes.now) c.in-Ok.plan = rw (c.split_at.ensures.front, c.plan_length.ensures.length) at c.in-Ok.ensures.plan in
    λ most request well. (c.in-Ok.plan, is, rw (c.split_at.ensures.back, c.plan_length.ensures.length) at (c.serve_plan.ensures.paged most request well))

pub returns-in-Ok-clause-header : goal.returns-in-Ok-clause-header
returns-in-Ok-clause-header g c =
    let is : IsAsked c.args.word (document_in c.args.bytes.now) c.in-Ok.plan = rw (c.split_at.ensures.front, c.plan_length.ensures.length) at c.in-Ok.ensures.plan in
    λ request well. (c.in-Ok.plan, is, c.serve_plan.ensures.header request well)

pub returns-in-Ok-clause-python : goal.returns-in-Ok-clause-python
returns-in-Ok-clause-python g c =
    let is : IsAsked c.args.word (document_in c.args.bytes.now) c.in-Ok.plan = rw (c.split_at.ensures.front, c.plan_length.ensures.length) at c.in-Ok.ensures.plan in
    λ request well. (c.in-Ok.plan, is, c.serve_plan.ensures.python request well)

pub returns-in-Ok-clause-picture : goal.returns-in-Ok-clause-picture
returns-in-Ok-clause-picture g c =
    let is : IsAsked c.args.word (document_in c.args.bytes.now) c.in-Ok.plan = rw (c.split_at.ensures.front, c.plan_length.ensures.length) at c.in-Ok.ensures.plan in
    λ request well. (c.in-Ok.plan, is, c.serve_plan.ensures.picture request well)

pub returns-in-Ok-clause-ran : goal.returns-in-Ok-clause-ran
returns-in-Ok-clause-ran g c =
    let is : IsAsked c.args.word (document_in c.args.bytes.now) c.in-Ok.plan = rw (c.split_at.ensures.front, c.plan_length.ensures.length) at c.in-Ok.ensures.plan in
    λ turns request well. (c.in-Ok.plan, is, rw (c.split_at.ensures.back, c.plan_length.ensures.length) at (c.serve_plan.ensures.ran turns request well))

pub returns-in-Ok-clause-shown : goal.returns-in-Ok-clause-shown
returns-in-Ok-clause-shown g c =
    let is : IsAsked c.args.word (document_in c.args.bytes.now) c.in-Ok.plan = rw (c.split_at.ensures.front, c.plan_length.ensures.length) at c.in-Ok.ensures.plan in
    λ turns request well. (c.in-Ok.plan, is, rw (c.split_at.ensures.back, c.plan_length.ensures.length) at (c.serve_plan.ensures.shown turns request well))

pub returns-in-Ok-clause-failed : goal.returns-in-Ok-clause-failed
returns-in-Ok-clause-failed g c =
    let is : IsAsked c.args.word (document_in c.args.bytes.now) c.in-Ok.plan = rw (c.split_at.ensures.front, c.plan_length.ensures.length) at c.in-Ok.ensures.plan in
    λ failed. by_plan c.args.word c.args.request c.args.bytes.now c.in-Ok.plan _ _ is (rw (c.split_at.ensures.back, c.plan_length.ensures.length) at (c.serve_plan.ensures.failed failed))

pub returns-in-Err-clause-failed : goal.returns-in-Err-clause-failed
returns-in-Err-clause-failed g c =
    let none : IsNoPlan c.args.word (document_in c.args.bytes.now) c.in-Err.fault = rw (c.split_at.ensures.front, c.plan_length.ensures.length) at c.in-Err.ensures.fault in
    λ failed. by_fault c.args.word c.args.request c.args.bytes.now c.in-Err.fault _ _ none c.refuse_asked.ensures.line
