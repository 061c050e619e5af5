use Rattle.word_interlock.proofs.Meeting.{left_seat, right_seat, left_at, right_at}
use Rattle.word_interlock.proofs.interlock.Interlock.meet_seats.Goals as goal

pub returns-clause-met : goal.returns-clause-met
returns-clause-met g c p q is_l is_r =
    let r = c.args.self.now.rules in let b = g.R.Rules.book r in let told = c.sync.ensures.gathered in let joined = c.join.ensures.both in
    let cut_l = c.split_first.ensures.others in let cut_r = c.split_first.ensures.first in (
      c.sync.result,
      told.0,
      left_at b r p q _ _ _ _ _ _ _ is_l is_r joined told cut_l cut_r,
      right_at b r p q _ _ _ _ _ _ _ is_l is_r joined told cut_l cut_r,
      left_seat b r p q _ _ _ _ _ _ _ is_l is_r joined told cut_l cut_r,
      right_seat b r p q _ _ _ _ _ _ _ is_l is_r joined told cut_l cut_r,
    )
