-- A pose and an advance are refused by the first of their conditions, and these give their causes.
use Rattle.cell_rules.proofs.Names.{◌≡◌, ◌≤◌, ℕ, Bool, true, false, cond, ◌&&◌, ◌||◌, not, nat_lt, Option, Some, None, option_map, List, [], ◌∷◌, filter, is_none, refl, sym, ap, ◌∙◌, subst, then_some, option_eq, and-true, and-false, Machine, Feed, Press, Deposit, Zone, Z1, Z2, Z3, Z4, Z5, Z6, Place, FeedEntry, FeedEnd, PressIn, PressOut, DepEntry, DepEnd, Posture, Pose, Turning, Loading, Unloading, Travelling, Middle, Low, Top}
use Rattle.cell_rules.proofs.Names.{Running, Landing, Halted, Offering, Standing, Refusal, NotOwner, PlateInZone, NoPlate, PlaceFull, Jump, NotAtWork, NoPose, Worn, Stopped, same_machine, same_zone, same_pose, own_move_of, SetPose, Advance, ModelState, is_full, owner_of, owns, zones_posed, is_changed, is_owned_as, on_zone, lowest, ◌or◌, first_zone, has_plate, jumps, is_moving, lacks_room, pose_cause, advance_cause, order_of}
use Rattle.cell_types.specs.declared.machine.Machine.TheVariants.{Table as TableMachine}
use Rattle.cell_rules.specs.Refusals
use Rattle.cell_rules.proofs.Chains.{Line, line, Tells, head_on}
use Rattle.cell_rules.proofs.lemmas.Tellings.{plain, names_owner, names_zone, worn_at}
use Rattle.cell_rules.proofs.Causing.{TellsRight, AllNamed, by_lines, named}

-- ---- the machine doesn't have the pose, or has no work

pub lacks : (causes : Refusal → Bool) (ns : List ℕ) → causes NoPose ≡ true → AllNamed causes (12 ∷ ns) → TellsRight causes (12 ∷ ns) (Some NoPose)
lacks causes ns here named = record {
  cause = λ r e. cc;
  first = λ r k. record { answered = NoPose; is = refl; stands = head_on 12 _ ns (named r k) };
}

-- ---- rows of alternatives

or_assoc : (a b c : Option Refusal) → a or b or c ≡ a or (b or c)
or_assoc None b c = refl
or_assoc (Some r) b c = refl

-- from the right
pub from_right : (Zone → Option Refusal) → Option Refusal
from_right f = f Z1 or (f Z2 or (f Z3 or (f Z4 or (f Z5 or (f Z6 or None)))))

six_right : (a b c d e g : Option Refusal) → a or b or c or d or e or g ≡ a or (b or (c or (d or (e or (g or None)))))
six_right None None None None None None = refl
six_right _ _ _ _ _ _ = refl

-- ---- the zones of a pose

pub rows_refusal : (Zone × Posture → Bool) → (Zone → Bool) → (Zone → Refusal) → List (Zone × Posture) → Option Refusal
rows_refusal concerns fails make [] = None
rows_refusal concerns fails make (row ∷ rows) = then_some (concerns row && fails row.0) (make row.0) or rows_refusal concerns fails make rows

abbrev pub made : (Zone → Refusal) → Option (Zone × Posture) → Option Refusal
made make o = option_map (λ row. make row.0) o

lowest_row : (concerns : Zone × Posture → Bool) (fails : Zone → Bool) (make : Zone → Refusal) (rows : List (Zone × Posture)) → rows_refusal concerns fails make rows ≡ made make (lowest fails (filter concerns rows))
unfolding rows_refusal
lowest_row concerns fails make [] = refl
lowest_row concerns fails make (row ∷ rows) =
    let rest = rows_refusal concerns fails make rows in
    let those = filter concerns rows in
    let more : rest ≡ made make (lowest fails those) = lowest_row concerns fails make rows in
    let Fails : Bool → Type 0 = λ b. (then_some b (make row.0) or rest) ≡ made make (cond b (Some row) (lowest fails those)) in
    let by_failing : (b : Bool) → Fails b = λ b. elim b as Fails [
      | true ↦ refl
      | false ↦ more
    ] in
    let Concerned : Bool → Type 0 = λ b. (then_some (b && fails row.0) (make row.0) or rest) ≡ made make (lowest fails (cond b (row ∷ those) those)) in
    let by_concern : (b : Bool) → Concerned b = λ b. elim b as Concerned [
      | true ↦ by_failing (fails row.0)
      | false ↦ more
    ] in
    by_concern (concerns row)

tells_owner : (causes : Refusal → Bool) (s : ModelState) (row : Option (Zone × Posture)) → ((o : Option Machine) → causes (NotOwner o) ≡ on_zone row (λ z. is_owned_as s z o)) → Tells causes (5, made (λ z. NotOwner (owner_of s z)) row)
tells_owner causes s None same = names_owner causes None false same
tells_owner causes s (Some row) same = names_owner causes (owner_of s row.0) true same

tells_plate : (causes : Refusal → Bool) (row : Option (Zone × Posture)) → ((y : Zone) → causes (PlateInZone y) ≡ on_zone row (λ z. same_zone y z)) → Tells causes (6, made PlateInZone row)
tells_plate causes None same = names_zone causes Z1 false (λ y. same y ∙ sym (and-false (same_zone y Z1)))
tells_plate causes (Some row) same = names_zone causes row.0 true (λ y. same y ∙ sym (and-true (same_zone y row.0)))

-- ---- a pose

abbrev pub order : List ℕ
order = 12 ∷ 14 ∷ 5 ∷ 6 ∷ 10 ∷ 8 ∷ 13 ∷ []

abbrev pub unowned_rows : ModelState → Machine → Pose → Option Refusal
unowned_rows s m p = rows_refusal (is_changed s) (λ z. not (owns s m z)) (λ z. NotOwner (owner_of s z)) (zones_posed m p)

abbrev pub plate_rows : ModelState → Machine → Pose → Option Refusal
plate_rows s m p = rows_refusal (is_changed s) (has_plate s) PlateInZone (zones_posed m p)

abbrev pub no_room : ModelState → Machine → Pose → Option Refusal
no_room s m p = first_zone (Refusals.opens_onto_plate s m p) or Refusals.runs_onto_plate s m p

alike : {a s b c d a1 s1 b1 c1 d1 e1 : Option Refusal} (o r w : Option Refusal) → a ≡ a1 → s ≡ s1 → b ≡ b1 → c ≡ c1 → d ≡ d1 → o or r ≡ e1 → a or s or b or c or d or o or r or w ≡ a1 or s1 or b1 or c1 or d1 or e1 or w
alike {a = a} {s = s} {b = b} {c = c} {d = d} o r w ka ks kb kc kd ke = ap (λ x. x or w) (or_assoc (a or s or b or c or d) o r) ∙ (cc)

abbrev posed_lines : ModelState → Machine → Pose → Option Refusal
posed_lines s m p =
    let those = filter (is_changed s) (zones_posed m p) in
    None or then_some (is_moving p && s.stopped) Stopped or made (λ z. NotOwner (owner_of s z)) (lowest (λ z. not (owns s m z)) those) or made PlateInZone (lowest (has_plate s) those)
    or then_some (jumps s m p) Jump or then_some (lacks_room s m p) PlaceFull or Refusals.worn s

-- a pose that the machine has
pose_by : (s : ModelState) (m : Machine) (p : Pose) → s.stamp ≤ 1048575 → Refusals.lacks_pose m p ≡ None → pose_cause s m p NoPose ≡ false → Refusals.moves_while_stopped s p ≡ then_some (is_moving p && s.stopped) Stopped
    → from_right (Refusals.unowned_by_pose s m p) ≡ unowned_rows s m p → from_right (Refusals.plate_under_pose s m p) ≡ plate_rows s m p → Refusals.jump s m p ≡ then_some (jumps s m p) Jump
    → no_room s m p ≡ then_some (lacks_room s m p) PlaceFull → TellsRight (pose_cause s m p) order (Refusals.pose_refusal s m p)
unfolding from_right
pose_by s m p small has has_zones barred unowned plate jump room =
    let causes = pose_cause s m p in
    let those = filter (is_changed s) (zones_posed m p) in
    let f = Refusals.unowned_by_pose s m p in
    let g = Refusals.plate_under_pose s m p in
    let un = six_right (f Z1) (f Z2) (f Z3) (f Z4) (f Z5) (f Z6) ∙ unowned ∙ lowest_row (is_changed s) (λ z. not (owns s m z)) (λ z. NotOwner (owner_of s z)) (zones_posed m p) in
    let pl = six_right (g Z1) (g Z2) (g Z3) (g Z4) (g Z5) (g Z6) ∙ plate ∙ lowest_row (is_changed s) (has_plate s) PlateInZone (zones_posed m p) in
    let same : Refusals.pose_refusal s m p ≡ posed_lines s m p =
    alike (first_zone (Refusals.opens_onto_plate s m p)) (Refusals.runs_onto_plate s m p) (Refusals.worn s) has barred un pl jump room in
    let lines : List (Line causes) =
    line (plain causes NoPose false refl has_zones)
    ∷ line (plain causes Stopped (is_moving p && s.stopped) refl refl)
    ∷ line (tells_owner causes s (lowest (λ z. not (owns s m z)) those) (λ o. refl))
    ∷ line (tells_plate causes (lowest (has_plate s) those) (λ y. refl))
    ∷ line (plain causes Jump (jumps s m p) refl refl)
    ∷ line (plain causes PlaceFull (lacks_room s m p) refl refl)
    ∷ line (plain causes Worn (not (nat_lt s.stamp 1048575)) refl (worn_at s.stamp small))
    ∷ [] in
    subst (TellsRight causes order) (sym same) (by_lines causes lines (named s m (SetPose p)))

-- ---- whether there is no room, as one test

abbrev opening : ModelState → Machine → Pose → Zone → Bool
opening s m p z = Refusals.opens s m p z && Refusals.is_blocked s z

abbrev running : ModelState → Machine → Pose → Bool
running s m p = same_pose p Running && ((same_machine m Deposit && is_full s DepEnd) || (same_machine m Feed && is_full s FeedEnd && not (owns s Feed Z1)))

seven_tests : (a b c d e g h : Bool) (r : Refusal) → then_some a r or then_some b r or then_some c r or then_some d r or then_some e r or then_some g r or then_some h r ≡ then_some (a || b || c || d || e || g || h) r
seven_tests false false false false false false h r = refl
seven_tests _ _ _ _ _ _ _ _ = refl

any_test : ModelState → Machine → Pose → Bool
any_test s m p = opening s m p Z1 || opening s m p Z2 || opening s m p Z3 || opening s m p Z4 || opening s m p Z5 || opening s m p Z6 || running s m p

room_by : (s : ModelState) (m : Machine) (p : Pose) → any_test s m p ≡ lacks_room s m p → no_room s m p ≡ then_some (lacks_room s m p) PlaceFull
unfolding any_test
room_by s m p same =
    seven_tests (opening s m p Z1) (opening s m p Z2) (opening s m p Z3) (opening s m p Z4) (opening s m p Z5) (opening s m p Z6) (running s m p) PlaceFull
    ∙ ap (λ b. then_some b PlaceFull) same

or_false : (b : Bool) → (b || false) ≡ b
or_false true = refl
or_false false = refl

-- a zone that the machine doesn't host gets no other posture
stays : (x y : Bool) → (x && not x && y) ≡ false
stays true y = refl
stays false y = refl

-- ---- the poses of each machine
pub pose_tells : (s : ModelState) (m : Machine) (p : Pose) → s.stamp ≤ 1048575 → TellsRight (pose_cause s m p) order (Refusals.pose_refusal s m p)
unfolding from_right rows_refusal any_test
pose_tells s TableMachine Turning k = pose_by s TableMachine Turning k refl refl refl refl refl refl (room_by s TableMachine Turning (simp (stays, or_false)))
pose_tells s TableMachine Loading k = pose_by s TableMachine Loading k refl refl refl refl refl (simp and-true) (room_by s TableMachine Loading (simp (stays, or_false)))
pose_tells s TableMachine Unloading k = pose_by s TableMachine Unloading k refl refl refl refl refl (simp and-true) (room_by s TableMachine Unloading (simp (stays, or_false)))
pose_tells s Press Travelling k = pose_by s Press Travelling k refl refl refl refl refl refl (room_by s Press Travelling (simp (stays, or_false)))
pose_tells s Press Middle k = pose_by s Press Middle k refl refl refl refl refl (simp and-true) (room_by s Press Middle (simp (stays, or_false)))
pose_tells s Press Low k = pose_by s Press Low k refl refl refl refl refl (simp and-true) (room_by s Press Low (simp (stays, or_false)))
pose_tells s Press Top k = pose_by s Press Top k refl refl refl refl refl (simp and-true) (room_by s Press Top (simp (stays, or_false)))
pose_tells s Feed Running k = pose_by s Feed Running k refl refl refl refl refl refl (room_by s Feed Running (simp stays))
pose_tells s Feed Landing k = pose_by s Feed Landing k refl refl refl refl refl refl (room_by s Feed Landing (simp (stays, or_false)))
pose_tells s Feed Halted k = pose_by s Feed Halted k refl refl refl refl refl refl (room_by s Feed Halted (simp (stays, or_false)))
pose_tells s Deposit Running k = pose_by s Deposit Running k refl refl refl refl refl refl (room_by s Deposit Running (simp (stays, or_false)))
pose_tells s Deposit Landing k = pose_by s Deposit Landing k refl refl refl refl refl refl (room_by s Deposit Landing (simp (stays, or_false)))
pose_tells s Deposit Offering k = pose_by s Deposit Offering k refl refl refl refl refl refl (room_by s Deposit Offering (simp (stays, or_false)))
pose_tells s Deposit Standing k = pose_by s Deposit Standing k refl refl refl refl refl refl (room_by s Deposit Standing (simp (stays, or_false)))
pose_tells s Deposit Halted k = pose_by s Deposit Halted k refl refl refl refl refl refl (room_by s Deposit Halted (simp (stays, or_false)))
pose_tells s m p k = lacks (pose_cause s m p) (14 ∷ 5 ∷ 6 ∷ 10 ∷ 8 ∷ 13 ∷ []) refl (named s m (SetPose p))

-- ---- an advance

work_tells : (s : ModelState) (m : Machine) (a b : Place) → s.stamp ≤ 1048575 → own_move_of m ≡ Some (a, b) → advance_cause s m NoPose ≡ false → ((o : Option Machine) → advance_cause s m (NotOwner o) ≡ (same_machine m Press && not (owns s Press Z3) && option_eq same_machine (owner_of s Z3) o))
    → advance_cause s m NotAtWork ≡ not (Refusals.is_at_work s m) → advance_cause s m NoPlate ≡ not (is_full s a) → advance_cause s m PlaceFull ≡ is_full s b → TellsRight (advance_cause s m) (12 ∷ 5 ∷ 11 ∷ 7 ∷ 8 ∷ 13 ∷ []) (Refusals.advance_refusal s m)
work_tells s m a b small way none owner idle from to =
    let causes = advance_cause s m in
    let lines : List (Line causes) =
    line (plain causes NoPose false refl none)
    ∷ line (names_owner causes (owner_of s Z3) (same_machine m Press && not (owns s Press Z3)) owner)
    ∷ line (plain causes NotAtWork (not (Refusals.is_at_work s m)) refl idle)
    ∷ line (plain causes NoPlate (not (is_full s a)) refl from)
    ∷ line (plain causes PlaceFull (is_full s b) refl to)
    ∷ line (plain causes Worn (not (nat_lt s.stamp 1048575)) refl (worn_at s.stamp small))
    ∷ [] in
    let Row : Option (Place × Place) → Type 0 = λ w. TellsRight causes (order_of Advance)
    (then_some (is_none w) NoPose or Refusals.press_unowned s m or Refusals.not_at_work s m or Refusals.nothing_to_work s w or Refusals.no_room_for_work s w or Refusals.worn s) in
    subst Row (sym way) (by_lines causes lines (named s m Advance))

pub advance_tells : (s : ModelState) (m : Machine) → s.stamp ≤ 1048575 → TellsRight (advance_cause s m) (12 ∷ 5 ∷ 11 ∷ 7 ∷ 8 ∷ 13 ∷ []) (Refusals.advance_refusal s m)
advance_tells s Feed k = work_tells s Feed FeedEntry FeedEnd k refl refl (λ o. refl) refl refl refl
advance_tells s Deposit k = work_tells s Deposit DepEntry DepEnd k refl refl (λ o. refl) refl refl refl
advance_tells s Press k = work_tells s Press PressIn PressOut k refl refl (λ o. refl) refl refl refl
advance_tells s m k = lacks (advance_cause s m) (5 ∷ 11 ∷ 7 ∷ 8 ∷ 13 ∷ []) refl (named s m Advance)
