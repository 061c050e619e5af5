use Rattle.std.proofs.Common.{◌≡◌, ◌∙◌, ◌+◌, ap, arith, filter}
use Rattle.std.specs.List.{range_with_len}
use Rattle.plan_document.specs.OnWord.{has_number}
use Rattle.plan_document.proofs.Parted.{passed_more}
use Rattle.plan_document.proofs.parts.pose_numbers.Goals as goal

pub loop-nth-preserved : goal.loop-nth-preserved
loop-nth-preserved c =
    passed_more (λ k. has_number c.args.numbers.now (c.args.first + k)) c.loop-nth.nth c.loop-nth.own.items c.push_if.new.numbers.items c.is_among.result c.is_among.ensures c.loop-nth.invariant c.in_ok-push_if.ensures

pub returns : goal.returns
returns c =
    let all : c.loop-nth.nth ≡ c.args.count = omega arith in
    c.loop-nth.invariant ∙ ap (λ n. filter (λ k. has_number c.args.numbers.now (c.args.first + k)) (range_with_len 0 n)) all
