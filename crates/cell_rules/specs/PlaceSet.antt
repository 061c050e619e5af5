-- Sets of the ten places. A set is read by membership, and changed by insertion and removal alone.
use Rattle.std.specs.Prelude.{Bool, true, false}
use Rattle.cell_rules.specs.Types.{Place, FeedEntry, FeedEnd, Arm1, PressIn, PressOut, Arm2, DepEntry, DepEnd}
use Rattle.cell_types.specs.declared.place.Place.TheVariants.{Table}
use Rattle.cell_types.specs.declared.place.Place.TheVariants.{Crane}

pub record PlaceSet : Type 0 where
  pub feed_entry : Bool
  pub feed_end : Bool
  pub table : Bool
  pub arm1 : Bool
  pub press_in : Bool
  pub press_out : Bool
  pub arm2 : Bool
  pub dep_entry : Bool
  pub dep_end : Bool
  pub crane : Bool

abbrev pub place_set : Bool → Bool → Bool → Bool → Bool → Bool → Bool → Bool → Bool → Bool → PlaceSet
place_set a b c d e f g h i j = record {
  feed_entry = a;
  feed_end = b;
  table = c;
  arm1 = d;
  press_in = e;
  press_out = f;
  arm2 = g;
  dep_entry = h;
  dep_end = i;
  crane = j;
}

-- membership
abbrev pub has : PlaceSet → Place → Bool
has places FeedEntry = places.feed_entry
has places FeedEnd = places.feed_end
has places Table = places.table
has places Arm1 = places.arm1
has places PressIn = places.press_in
has places PressOut = places.press_out
has places Arm2 = places.arm2
has places DepEntry = places.dep_entry
has places DepEnd = places.dep_end
has places Crane = places.crane

-- insertion if the bit is true, removal if it is false
abbrev pub put_place : PlaceSet → Place → Bool → PlaceSet
put_place places FeedEntry b = record places { feed_entry = b }
put_place places FeedEnd b = record places { feed_end = b }
put_place places Table b = record places { table = b }
put_place places Arm1 b = record places { arm1 = b }
put_place places PressIn b = record places { press_in = b }
put_place places PressOut b = record places { press_out = b }
put_place places Arm2 b = record places { arm2 = b }
put_place places DepEntry b = record places { dep_entry = b }
put_place places DepEnd b = record places { dep_end = b }
put_place places Crane b = record places { crane = b }

abbrev pub insert_place : PlaceSet → Place → PlaceSet
insert_place places p = put_place places p true

abbrev pub remove_place : PlaceSet → Place → PlaceSet
remove_place places p = put_place places p false

abbrev pub empty : PlaceSet
empty = place_set false false false false false false false false false false
