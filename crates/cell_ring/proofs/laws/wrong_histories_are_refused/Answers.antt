use Rattle.cell_ring.proofs.Names.{◌≡◌, ◌≢◌, IsTrue, true, false, arith, refl, [], ◌∷◌, ◌++◌, ◌+◌, Give, Z1, OpenIn}
use Rattle.cell_rules.specs.Types.{Feed}
use Rattle.cell_rules.specs.Names.{done, empty}
use Rattle.cell_ring.specs.Lap.{Position, FeedEntry, FeedEnd, BeltToTable, Table, TableToArm, Arm1, ArmToPress, PressIn, PressOut, PressToArm, Arm2, ArmToBelt, DepEntry, DepEnd, BeltToCrane, Crane, CraneToBelt, next_position, lap, is_take}
use Rattle.cell_ring.specs.Plates.{has_plate}
use Rattle.cell_ring.specs.Following.{plate_moves, moves_of, arrivals, position_after}
use Rattle.cell_ring.specs.Arriving.{forgings, deliveries}
use Rattle.cell_ring.specs.OneLap.{one_plate, one_lap, onto_table, into_press, out_of_press, onto_deposit}
use Rattle.cell_ring.specs.WrongHistories.{advances, at_end, in_zone}
use Rattle.cell_ring.proofs.laws.wrong_histories_are_refused.Goals as goal

differ : ¬ (true ≡ false)
differ e = cc

differ_too : ¬ (false ≡ true)
differ_too e = cc

others : (q : Position) → q ≢ FeedEntry → q ≢ next_position FeedEntry → has_plate at_end q ≡ has_plate one_plate q
others FeedEntry a b = absurd (a refl)
others FeedEnd a b = absurd (b refl)
others BeltToTable a b = refl
others Table a b = refl
others TableToArm a b = refl
others Arm1 a b = refl
others ArmToPress a b = refl
others PressIn a b = refl
others PressOut a b = refl
others PressToArm a b = refl
others Arm2 a b = refl
others ArmToBelt a b = refl
others DepEntry a b = refl
others DepEnd a b = refl
others BeltToCrane a b = refl
others Crane a b = refl
others CraneToBelt a b = refl

entry_and_end : FeedEnd ≢ FeedEntry
entry_and_end e = cc

table_and_entry : Table ≢ FeedEntry
table_and_entry e = cc

table_and_end : Table ≢ next_position FeedEntry
table_and_end e = cc

many : plate_moves (advances 172) ≡ 172
many = refl

on_way_room : (p : Position) → IsTrue (is_take (lap p).call) → IsTrue (has_plate (in_zone OpenIn empty) p) → has_plate (in_zone OpenIn empty) (next_position p) ≡ false
on_way_room BeltToTable t h = refl
on_way_room FeedEntry t h = refl
on_way_room FeedEnd t h = absurd (differ_too t)
on_way_room Table t h = refl
on_way_room TableToArm t h = refl
on_way_room Arm1 t h = refl
on_way_room ArmToPress t h = refl
on_way_room PressIn t h = refl
on_way_room PressOut t h = refl
on_way_room PressToArm t h = refl
on_way_room Arm2 t h = refl
on_way_room ArmToBelt t h = refl
on_way_room DepEntry t h = refl
on_way_room DepEnd t h = refl
on_way_room BeltToCrane t h = refl
on_way_room Crane t h = refl
on_way_room CraneToBelt t h = refl

pub returns : goal.returns
returns c = record {
  on_way = record { counted = refl; room = on_way_room };
  on_no_way = λ k. let lie : 0 ≡ 1 = k.counted in omega (arith, lie);
  table_is_full = λ k. differ (k.room BeltToTable refl refl);
  not_again = λ k.
      let none : forgings (position_after FeedEntry one_lap) (advances 172) ≡ 0 = refl in
      let n = (k one_lap (advances 172) refl (omega (arith, many)) FeedEntry refl).0 in omega (arith, none);
  undelivered = λ k.
      let h = onto_table ++ into_press ++ out_of_press ++ advances 172 in
      let moves : plate_moves h ≡ 182 = refl in
      let none : deliveries FeedEntry h ≡ 0 = refl in
      let n = (k [] h refl (omega (arith, moves)) FeedEntry refl).1 in omega (arith, none);
  unforged = λ k.
      let h = onto_deposit ++ advances 172 in
      let moves : plate_moves h ≡ 175 = refl in
      let none : forgings Arm2 h ≡ 0 = refl in
      let n = (k [] h refl (omega (arith, moves)) Arm2 refl).0 in omega (arith, none);
  stays = λ k.
      let moves : plate_moves (advances 16) ≡ 16 = refl in
      let n = k.while_one_stays FeedEnd refl refl in omega (arith, moves);
  once = λ k.
      let h = done Feed (Give Z1) ∷ advances 17 in
      let moves : plate_moves h ≡ 18 = refl in
      let own : moves_of FeedEnd h ≡ 1 = refl in
      let n = k.often FeedEnd 2 refl (omega (arith, moves)) in omega (arith, own);
  not_everywhere = λ k.
      let h = onto_table ++ into_press ++ out_of_press ++ onto_deposit ++ advances 4 in
      let moves : plate_moves h ≡ 17 = refl in
      let none : arrivals FeedEntry h FeedEntry ≡ 0 = refl in
      let n = k.everywhere FeedEntry FeedEntry 1 refl (omega (arith, moves)) in omega (arith, none);
  not_there = λ k. differ_too (k.there FeedEntry refl);
  no_plate_moves = λ k. let lie : 1 ≡ 0 = k.counted in omega (arith, lie);
  comes_up = λ k. let lie : 0 + 0 ≡ 16 + 1 = k.gap FeedEnd FeedEntry refl refl entry_and_end in omega (arith, lie);
  goes_on = record { there = refl; room = refl; gone = refl; come = refl; others = others };
  none_goes = λ k. differ_too k.there;
  no_room = λ k. differ k.room;
  not_gone = λ k. differ k.gone;
  lost = λ k. differ_too k.come;
  another = λ k. differ (k.others Table table_and_entry table_and_end);
}
