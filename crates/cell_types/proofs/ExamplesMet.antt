-- The examples of words and tables, computed.
use Rattle.std.proofs.Common.{◌≡◌, true, refl}
use Rattle.cell_types.specs.declared.answer.Refusal.{Refusal}
use Rattle.cell_types.specs.declared.answer.Refusal.TheVariants.{NotParty, Held, AlreadyMine, Shut, NotOwner, PlateInZone, NoPlate, PlaceFull, WrongWay, Jump, NotAtWork, NoPose, Worn, Stopped, NotStopped, InUse}
use Rattle.cell_types.specs.Refusals.{number_of}
use Rattle.cell_types.specs.Numbers.{is_same_but}
use Rattle.cell_types.specs.WordExamples.{WordExamples}
use Rattle.cell_types.specs.TableExamples.{TableExamples}

pub words_are_met : WordExamples
words_are_met = record {
  names = record {
    machines = refl;
    zones = refl;
    places = refl;
    postures = refl;
    poses = refl;
    found = refl;
    not_found = refl;
    shorter_is_another = refl;
    first_of_two = refl;
  };
  refusals = record { plain = refl; held = refl; shut = refl; free = refl; not_owner = refl; plate_in_zone = refl };
  answers = record {
    free = refl;
    owners = refl;
    flags = refl;
    done = refl;
    shown = refl;
    shown_free = refl;
    shown_to_crane = refl;
    shown_moving = refl;
    refused = refl;
    refused_plainly = refl;
  };
  calls = record {
    verbs = refl;
    texts = refl;
    fields = refl;
    claims = refl;
    gives = refl;
    yields = refl;
    takes = refl;
    releases = refl;
    inquiries = refl;
    poses = refl;
  };
}

numbered : (a b : Refusal) → is_same_but a b ≡ true → number_of a ≡ number_of b
numbered NotParty NotParty e = refl
numbered (Held _) (Held _) e = refl
numbered AlreadyMine AlreadyMine e = refl
numbered (Shut _) (Shut _) e = refl
numbered (NotOwner _) (NotOwner _) e = refl
numbered (PlateInZone _) (PlateInZone _) e = refl
numbered NoPlate NoPlate e = refl
numbered PlaceFull PlaceFull e = refl
numbered WrongWay WrongWay e = refl
numbered Jump Jump e = refl
numbered NotAtWork NotAtWork e = refl
numbered NoPose NoPose e = refl
numbered Worn Worn e = refl
numbered Stopped Stopped e = refl
numbered NotStopped NotStopped e = refl
numbered InUse InUse e = refl
numbered _ _ e = cc

pub tables_are_met : TableExamples
tables_are_met = record {
  ways = record {
    hosts = refl;
    guests = refl;
    keepers = refl;
    ways = refl;
    inward = refl;
    outward = refl;
    no_way_while_closed = refl;
    no_way_while_moving = refl;
    no_way_against_the_ring = refl;
    works = refl;
  };
  poses = record {
    turning = refl;
    loading = refl;
    unloading = refl;
    travelling = refl;
    middle = refl;
    low = refl;
    top = refl;
    feed_running = refl;
    feed_landing = refl;
    feed_halted = refl;
    running = refl;
    landing = refl;
    offering = refl;
    standing = refl;
    halted = refl;
    counted = refl;
  };
  same = record {
    machine = refl;
    zone = refl;
    place = refl;
    posture = refl;
    pose = refl;
    refusals = numbered;
    journals = λ j. refl;
  };
}
