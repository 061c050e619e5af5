-- The examples of histories that break a law.
use Rattle.cell_rules.proofs.Names.{◌≡◌, ℕ, true, false, List, [], ◌∷◌, ◌++◌, length, inl, inr, refl, ap, arith, Machine, Feed, Robot, Press, Deposit, Watch, Zone, Z1, Z3, Z6, Moving, OpenIn, Loading, Travelling, Middle, Top, Landing, Entry, Event, Claim, ModelState, empty, Holds, owns, IsStopped, NeverResumes}
use Rattle.cell_types.specs.declared.machine.Machine.TheVariants.{Table as TableMachine, Crane as CraneMachine}
use Rattle.cell_rules.specs.LawExamples.{unused, only, HolderExamples, CountExamples, BeltExamples, FittingExamples, StopExamples, AuditExamples, LawExamples}
use Rattle.cell_rules.specs.StateExamples.{cell_with, free_in, held_in}
use Rattle.cell_rules.specs.Laws.{done}
use Rattle.cell_rules.proofs.lemmas.HoldsLemmas.{holds_by_test}

-- at first a machine holds what it owns
unheld : (s : ModelState) (m : Machine) (z : Zone) → owns s m z ≡ false → ¬ Holds s [] m z
unheld s m z none held = let e = (holds_by_test s [] m z).0 held in cc

claimed : (s : ModelState) → Holds s (only Robot (Claim Z3)) Robot Z3
claimed s = inr (record { before = []; gain = done Robot (Claim Z3); since = []; split = refl; gained = refl; kept = λ k d h. absurd (omega (arith, h)) })

no_split : (before since : List Event) (e : Event) → [] ≡ before ++ e ∷ since → ⊥
no_split [] since e f = cc
no_split (x ∷ before) since e f = cc

never : NeverResumes []
never k d h = absurd (omega (arith, h))

running : (s : ModelState) → s.stopped ≡ false → ¬ IsStopped s []
running s none f = elim f [ inl k ↦ let e = k.0 in cc | inr g ↦ no_split g.before g.since g.stop g.split ]

holders : HolderExamples
holders = record {
  moves_unheld = λ f. unheld (cell_with Z3 (free_in Moving) empty) Press Z3 refl (f.host Z3 refl);
  robot_in_moving_press = λ f. f.press refl (claimed (cell_with Z3 (held_in Press Moving) empty));
  guest_in_closed_zone = λ f. let e = f Z3 (inl (refl, λ k d h. absurd (omega (arith, h)))) in cc;
  gives_unheld = λ f. unheld unused Press Z3 refl (f.give [] [] Press Z3 refl).0;
  yields_unheld = λ f. unheld unused Press Z3 refl (f.yield [] [] Press Z3 refl).0;
  takes_unheld = λ f. unheld unused Press Z3 refl (f.take [] [] Press Z3 refl).0;
  releases_unheld = λ f. unheld unused Press Z3 refl (f.release [] [] Press Z3 refl).0;
}

counts : CountExamples
counts = record {
  plate_from_nowhere = λ f. let e = f.in_transfer Z3 in cc;
  change_without_stamp = λ f. let e : 0 ≡ 1 = f in omega (arith, e);
  pose_without_posture = λ f. let e = f Z3 in cc;
}

belts : BeltExamples
belts = record {
  feed = λ f. let e = f.feed refl refl in cc;
  entry = λ f. let e = f.entry refl in cc;
  end = λ f. let e = f.end refl in cc;
}

fitting : FittingExamples
fitting = record {
  jumps = λ f. let e = f.no_jump [] [] Press Top refl refl refl Z3 refl in cc;
  opens_onto_plate = λ f. let e = f.opens_onto_empty [] [] TableMachine Loading refl Z1 _ refl (λ same. cc) refl in cc;
  opens_onto_forged = λ f. let e = (f.press_opens_empty [] [] Press Middle refl refl (λ same. cc)).1 in cc;
  poses_unheld = λ f. unheld unused Feed Z6 refl (f.pose_by_holder [] [] Feed Landing refl Z6 OpenIn refl (λ same. cc));
  feed_stands = λ f. let e = f.feed_works_running [] [] refl in cc;
  entry_stands = λ f. let e = (f.deposit_works_running [] [] refl).0 in cc;
  end_stands = λ f. let e = (f.deposit_works_running [] [] refl).1 in cc;
  forges_unheld = λ f. unheld unused Press Z3 refl (f.press_works_closed [] [] refl).0;
  forges_open = λ f. let e = (f.press_works_closed [] [] refl).1 in cc;
  second_zone_stands = λ f. let e = (f.table [] [] Loading refl (λ same. cc)).1 in cc;
  first_zone_stands = λ f. let e = (f.table [] [] Loading refl (λ same. cc)).0 in cc;
  press_jumps = λ f. let e = f.press [] [] Top refl (λ same. cc) in cc;
}

stops : StopExamples
stops = record {
  claims_while_stopped = λ f. let e = f.barred [] [] Feed (Claim Z6) refl (inl (refl, never)) in cc;
  stops_twice = λ f. (f.stop [] [] _ refl).1 (inl (refl, never));
  resumes_unstopped = λ f. running unused refl (f.resume [] [] _ refl).1;
}

-- a fact of each machine, from one proof for each
each_machine : (P : Machine → Type 0) → P Feed → P TableMachine → P Robot → P Press → P Deposit → P CraneMachine → P Watch → (m : Machine) → P m
each_machine P a _ _ _ _ _ _ Feed = a
each_machine P _ a _ _ _ _ _ TableMachine = a
each_machine P _ _ a _ _ _ _ Robot = a
each_machine P _ _ _ a _ _ _ Press = a
each_machine P _ _ _ _ a _ _ Deposit = a
each_machine P _ _ _ _ _ a _ CraneMachine = a
each_machine P _ _ _ _ _ _ a Watch = a

pub audits : AuditExamples
audits = record {
  accepted = record {
    legal = (refl, tt);
    own = each_machine _ refl refl refl refl refl refl refl;
    noted = each_machine _ refl refl refl refl refl refl refl;
    ends = refl;
  };
  illegal = λ a. let e = a.legal.0 in cc;
  not_noted = λ a. let e : 1 ≡ 0 = ap length (a.noted Press) in omega (arith, e);
  other_stamp = λ a. let e : 1 ≡ 2 = ap stamps_in (a.noted Press) in omega (arith, e);
  other_end = λ a. let e : 1 ≡ 0 = ap (λ (s : ModelState). s.stamp) a.ends in omega (arith, e);
}
  where
    stamps_in : List Entry → ℕ
    stamps_in [] = 0
    stamps_in (e ∷ es) = e.stamp

pub law_examples : LawExamples
law_examples = record { holders = holders; counts = counts; belts = belts; fitting = fitting; stops = stops; audits = audits }
