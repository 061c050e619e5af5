use Rattle.std.proofs.Common.{◌≡◌, ap, sym, ◌∙◌}
use Rattle.word_interlock.specs.Views.{pass_of, view_of}
use Rattle.word_interlock.specs.Rule.{after_load}
use Rattle.word_interlock.proofs.Meeting.{seat_at, more_at}
use Rattle.word_interlock.proofs.interlock.Interlock.meet.Goals as goal

pub of-requires : goal.of-requires
of-requires g c =
    let met = c.meet_seats-right_seat.ensures.met _ _ c.into_seat-left_seat.ensures.own c.into_seat.ensures.own in
    record {
      own = (after_load (view_of c.args.left) met.1, seat_at g.R.Rules.book c.args.self.now.rules _ (view_of c.args.left) _ met.0 met.1 met.2 met.4 (sym c.actor-left_actor.ensures));
    }

pub of-requires-2 : goal.of-requires-2
of-requires-2 g c =
    let met = c.meet_seats-right_seat.ensures.met _ _ c.into_seat-left_seat.ensures.own c.into_seat.ensures.own in
    record {
      own = (after_load (view_of c.args.right) met.1, seat_at g.R.Rules.book c.args.self.now.rules _ (view_of c.args.right) _ met.0 met.1 met.3 met.5 (sym c.actor-right_actor.ensures));
    }

pub returns : goal.returns
returns g c =
    let r = c.args.self.now.rules in let b = g.R.Rules.book r in
    let met = c.meet_seats-right_seat.ensures.met _ _ c.into_seat-left_seat.ensures.own c.into_seat.ensures.own in
    let p = after_load (view_of c.args.left) met.1 in let q = after_load (view_of c.args.right) met.1 in
    let tables = c.meet_seats-right_seat.ensures.tables in let left_table = c.into_seat-left_seat.ensures.table in
    let right_is_left : c.args.left.table ≡ c.args.right.table = c.requires.same_interlock.0 ∙ sym c.requires.same_interlock.1 in
    let x : c.of.result ≡ pass_of c.args.left.table p = c.of.ensures p met.4 ∙ ap (λ t. pass_of t p) (tables.0 ∙ left_table) in
    let y : c.of-2.result ≡ pass_of c.args.right.table q = c.of-2.ensures q met.5 ∙ ap (λ t. pass_of t q) (tables.1 ∙ (left_table ∙ right_is_left)) in
    let k = more_at b r c.args.left c.of.result met.0 met.1 met.2 x in
    let l = more_at b r c.args.right c.of-2.result met.0 met.1 met.3 y in
    record { left = k.0; right = l.0; same = ap (λ v. v.seen) x ∙ sym (ap (λ v. v.seen) y); left_moments = ap (λ v. v.moments) x; right_moments = ap (λ v. v.moments) y; left_load = k.1.0; right_load = l.1.0; left_exchanges = k.1.1; right_exchanges = l.1.1 }
