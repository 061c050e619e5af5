-- The examples of rights, of an order of refusals, of states, and of laws.
use Rattle.cell_rules.proofs.Names.{◌≡◌, true, false, Option, Some, None, List, [], ◌∷◌, refl, ap, arith, inl, inr, Machine, Press, Robot, Zone, Z3, PressIn, Middle, Call, Give, Yield, Take, Release, SetPose, Advance, Holds, posture_by_events, needs}
use Rattle.cell_rules.specs.declared.zones.ZoneState.{ZoneState}
use Rattle.cell_rules.specs.Examples.{opened, closed, claimed, by_robot, Disowns, Examples}
use Rattle.cell_rules.proofs.lemmas.Puts.{each_zone}
use Rattle.cell_rules.proofs.StateExamplesMet.{sound_examples, start_examples}
use Rattle.cell_rules.proofs.LawExamplesMet.{law_examples}
use Rattle.cell_rules.proofs.BreaksMet.{break_examples}
use Rattle.cell_rules.proofs.ReplyTableMet.{reply_table}
use Rattle.cell_rules.proofs.SecondWordsMet.{second_words}
use Rattle.cell_rules.proofs.StateTablesMet.{state_tables}
use Rattle.cell_rules.proofs.HistoryTablesMet.{history_tables}

-- the press holds z3 by its claim, and the robot by its own
has_claimed : Holds opened (claimed ∷ []) Press Z3
has_claimed = inr (record { before = []; gain = claimed; since = []; split = refl; gained = refl; kept = λ k d h. absurd (omega (arith, h)) })

robot_has_claimed : Holds closed (by_robot ∷ []) Robot Z3
robot_has_claimed = inr (record { before = []; gain = by_robot; since = []; split = refl; gained = refl; kept = λ k d h. absurd (omega (arith, h)) })

-- what needs z3 alone is disowned by a refusal for an owner
disowns : (c : Call) (owner : Option Machine) → ((z : Zone) → needs Press c z ≡ true → Holds opened (claimed ∷ []) Press z) → Disowns c owner
disowns c owner held f = f held owner refl

pub examples_are_met : Examples
examples_are_met = record {
  keeping = record {
    zone_lost = λ f. let e = ap (λ (v : ZoneState). v.owner) (f.zone Z3 has_claimed) in cc;
    plate_moved = λ f. let e = f.places PressIn refl in cc;
    posture_changed = λ f. let e = f.postures Z3 refl in cc;
    zone_changed = λ f. let e = ap (λ (v : ZoneState). v.posture) (f.zone Z3 robot_has_claimed) in cc;
  };
  disowning = record {
    give = disowns (Give Z3) None (each_zone _ (λ e. cc) (λ e. cc) (λ e. has_claimed) (λ e. cc) (λ e. cc) (λ e. cc));
    yield = disowns (Yield Z3) None (each_zone _ (λ e. cc) (λ e. cc) (λ e. has_claimed) (λ e. cc) (λ e. cc) (λ e. cc));
    take = disowns (Take Z3) None (each_zone _ (λ e. cc) (λ e. cc) (λ e. has_claimed) (λ e. cc) (λ e. cc) (λ e. cc));
    release = disowns (Release Z3) None (each_zone _ (λ e. cc) (λ e. cc) (λ e. has_claimed) (λ e. cc) (λ e. cc) (λ e. cc));
    pose = disowns (SetPose Middle) None (each_zone _ (λ e. cc) (λ e. cc) (λ e. has_claimed) (λ e. cc) (λ e. cc) (λ e. cc));
    advance = disowns Advance None (each_zone _ (λ e. cc) (λ e. cc) (λ e. has_claimed) (λ e. cc) (λ e. cc) (λ e. cc));
    named_owner = disowns (Release Z3) (Some Robot) (each_zone _ (λ e. cc) (λ e. cc) (λ e. has_claimed) (λ e. cc) (λ e. cc) (λ e. cc));
  };
  order = refl;
  sound = sound_examples;
  starts = start_examples;
  laws = law_examples;
  states = state_tables;
  histories = history_tables;
  breaks = break_examples;
  second = second_words;
  replies = reply_table;
}
