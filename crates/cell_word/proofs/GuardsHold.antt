-- On a sound state's word the guards of each machine and call are its refusals, in their order.
use Rattle.cell_word.proofs.Names.{◌≡◌, ℕ, ◌*◌, ◌^◌, ◌≤◌, Bool, true, false, ◌&&◌, not, nat_eq, nat_lt, Option, Some, None, unwrap_or, refl, sym, ap, ap₂, ◌∙◌, arith, bit_or, and_parts, nat_tests, then_some, option_or, Machine, Feed, Zone, Z1, Transfer, Posture, Closed, OpenIn, Pose, Call, Claim, Give, Yield, Take, Release, SetPose, Inquire, Refusal, PlaceFull, Worn}
use Rattle.cell_word.proofs.Names.{transfer_of, posture_of, same_posture, ModelState, last_stamp, IsSound, refusal, order_of, all_bools, bools, machines, holds2, packed, stands, first_refusal, guards_of, numbers_of, is_ordered}
use Rattle.cell_types.specs.declared.pose.Pose.TheVariants.{Turning}
use Rattle.cell_rules.specs.Refusals
use Rattle.cell_word.specs.Guards as guards
use Rattle.cell_word.proofs.SameAnswer.{one_answer}
use Rattle.cell_word.proofs.Windows.{and_or, and_zero}
use Rattle.cell_word.proofs.Seen.{mark_window, mark_shown, stamp_shown}
use Rattle.cell_word.proofs.Possible.{calls}
use Rattle.cell_word.proofs.Looking.{looks, Part, nothing_yet, with_rest, part_of, all_parts, from_parts, window, shows, first_seen, all_seen, row_seen, stamp_if, part_test, call_window, all_calls_tested}

-- ---- the stamp
abbrev is_last : ℕ → Bool
is_last stamp = not (nat_lt stamp last_stamp)

last_if : (worn : Bool) → is_last (stamp_if worn) ≡ worn
last_if true = refl
last_if false = refl

at_last : (n : ℕ) → n ≤ 1048575 → nat_eq (n * 2 ^ 40) (1048575 * 2 ^ 40) ≡ not (nat_lt n 1048575)
at_last n h = grind (arith, nat_tests)

worn_seen : (s : ModelState) → IsSound s → stands (packed s) guards.worn.pattern ≡ is_last s.stamp
worn_seen s sound = ap (λ n. nat_eq n (1048575 * 2 ^ 40)) (stamp_shown s sound) ∙ at_last s.stamp sound.stamp_in_range

worn_alike : (rest : Option Refusal) (b c : Bool) → b ≡ c → option_or rest (then_some b Worn) ≡ option_or rest (then_some c Worn)
worn_alike rest b c e = ap (λ b. option_or rest (then_some b Worn)) e

restamped : (s : ModelState) (n : ℕ) (m : Machine) (c : Call) → is_last n ≡ is_last s.stamp → refusal (record s { stamp = n }) m c ≡ refusal s m c
restamped s n m (Inquire z) e = refl
restamped s n m _ e = worn_alike _ (is_last n) (is_last s.stamp) e

-- ---- a call is refused by what it looks at
abbrev looked_at : ModelState → ℕ → Machine → Call → ModelState
looked_at s stamp m c = (with_rest (part_of (looks m c).0 (looks m c).1 s nothing_yet) s.stopped stamp).1

-- a gift, by the posture of its zone
abbrev give_by : ModelState → Machine → Zone → Option Refusal → Option Refusal → Option Refusal
give_by s m z nothing room =
    option_or
    (option_or (option_or (option_or (option_or (option_or (option_or (Refusals.not_party m z) (Refusals.while_stopped s)) (Refusals.not_owner s m z)) (Refusals.plate_in_zone s z)) (Refusals.wrong_way (Refusals.transfer_given s m z))) nothing) room)
    (Refusals.worn s)

abbrev gift : Machine → Zone → Posture → Option Transfer
gift m z q = Refusals.given_by m (transfer_of z q)

ends_in : (s : ModelState) (k : ℕ) (m : Machine) (z : Zone) (q : Posture)
    → (Refusals.nothing_to_give (looked_at s k m (Give z)) (gift m z q) ≡ Refusals.nothing_to_give s (gift m z q)) × (Refusals.no_room (looked_at s k m (Give z)) (gift m z q) ≡ Refusals.no_room s (gift m z q))
ends_in s k Feed Z1 Closed = (refl, refl)
ends_in s k _ Z1 Closed = (refl, refl)
ends_in s k _ _ Closed = (refl, refl)
ends_in s k _ _ _ = (refl, refl)

give_in : (s : ModelState) (k : ℕ) (m : Machine) (z : Zone) (nothing room : Option Refusal) → give_by (looked_at s k m (Give z)) m z nothing room ≡ give_by (record s { stamp = k }) m z nothing room
give_in s k Feed Z1 nothing room = refl
give_in s k _ Z1 nothing room = refl
give_in s k _ _ nothing room = refl

posture_in : (s : ModelState) (k : ℕ) (m : Machine) (z : Zone) → Refusals.posture_at (looked_at s k m (Give z)) z ≡ Refusals.posture_at s z
posture_in s k Feed Z1 = refl
posture_in s k _ Z1 = refl
posture_in s k _ _ = refl

-- a pose, by the zones to which it gives a posture
abbrev opening : Option Posture → Posture → Bool → Option Refusal
opening None q full = None
opening (Some r) q full = then_some ((same_posture r OpenIn && not (same_posture q OpenIn)) && full) PlaceFull

opens_by : (o : Option Posture) (q : Posture) (full : Bool) → then_some ((same_posture (unwrap_or o q) OpenIn && not (same_posture q OpenIn)) && full) PlaceFull ≡ opening o q full
opens_by None OpenIn full = refl
opens_by None _ full = refl
opens_by (Some r) q full = refl

abbrev pose_by : ModelState → Machine → Pose → (Zone → Option Refusal) → Option Refusal
pose_by s m p opens =
    option_or
    (option_or (option_or (option_or (option_or (option_or (option_or (Refusals.lacks_pose m p) (Refusals.moves_while_stopped s p)) (Refusals.first_zone (Refusals.unowned_by_pose s m p))) (Refusals.first_zone (Refusals.plate_under_pose s m p))) (Refusals.jump s m p)) (Refusals.first_zone opens)) (Refusals.runs_onto_plate s m p))
    (Refusals.worn s)

abbrev opened : ModelState → Machine → Pose → Zone → Option Refusal
opened s m p z = opening (posture_of m p z) (Refusals.posture_at s z) (Refusals.is_blocked s z)

pose_is : (s : ModelState) (m : Machine) (p : Pose) → Refusals.pose_refusal s m p ≡ pose_by s m p (opened s m p)
pose_is s m p = λ i. pose_by s m p (λ z. opens_by (posture_of m p z) (Refusals.posture_at s z) (Refusals.is_blocked s z) i)

pose_in : (s : ModelState) (k : ℕ) (m : Machine) (p : Pose) → (let t = looked_at s k m (SetPose p) in pose_by t m p (opened t m p)) ≡ pose_by (record s { stamp = k }) m p (opened s m p)
pose_in s k Feed Turning = refl
pose_in s k _ Turning = refl
pose_in s k _ _ = refl

refused_in : (s : ModelState) (k : ℕ) (c : Call) (m : Machine) → refusal (looked_at s k m c) m c ≡ refusal (record s { stamp = k }) m c
refused_in s k (Give z) m =
    let t = looked_at s k m (Give z) in
    let ends = ends_in s k m z (Refusals.posture_at s z) in
    ap (λ q. give_by t m z (Refusals.nothing_to_give t (gift m z q)) (Refusals.no_room t (gift m z q))) (posture_in s k m z)
    ∙ ap₂ (give_by t m z) ends.0 ends.1
    ∙ give_in s k m z _ _
refused_in s k (SetPose p) m = pose_is (looked_at s k m (SetPose p)) m p ∙ pose_in s k m p ∙ sym (pose_is (record s { stamp = k }) m p)
refused_in s k (Claim Z1) Feed = refl
refused_in s k (Yield Z1) Feed = refl
refused_in s k (Take Z1) Feed = refl
refused_in s k (Release Z1) Feed = refl
refused_in s k _ Feed = refl
refused_in s k _ _ = refl

-- ---- the guards of a call are its refusals
pub guards_hold : (s : ModelState) → IsSound s → (m : Machine) (c : Call) → first_refusal (packed s) (guards_of m c) ≡ refusal s m c
guards_hold s sound m c =
    let w = packed s in
    let row = guards_of m c in
    let zs = (looks m c).0 in
    let ps = (looks m c).1 in
    let worn = is_last s.stamp in
    let x = part_of zs ps s nothing_yet in
    let test = λ (x : Part). all_bools (λ stopped. all_bools (part_test m c x stopped)) in
    let tests = and_parts (all_seen (call_window m c) row) (all_parts zs ps test nothing_yet) (all_calls_tested m c) in
    row_seen w (call_window m c) worn row (worn_seen s sound) tests.0
    ∙ ap (λ v. first_seen v worn row) (and_or w (window zs ps 0) mark_window ∙ ap₂ bit_or (shows zs ps s sound 0 nothing_yet (and_zero w)) (mark_shown s sound))
    ∙ one_answer _ _ (holds2 bools bools (part_test m c x) (from_parts zs ps test nothing_yet tests.1 s sound) s.stopped worn)
    ∙ refused_in s (stamp_if worn) c m
    ∙ restamped s (stamp_if worn) m c (last_if worn)

-- and they are in the order of the refusals
abbrev ordered_test : Machine → Call → Bool
ordered_test m c = is_ordered (order_of c) (numbers_of (guards_of m c))

pub guards_ordered : (m : Machine) (c : Call) → ordered_test m c ≡ true
guards_ordered = holds2 machines calls ordered_test refl
