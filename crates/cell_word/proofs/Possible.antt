-- A call that writes something is Done on some state.
use Rattle.cell_word.proofs.Names.{◌≡◌, ℕ, Bool, true, false, ◌||◌, ◌&&◌, nat_eq, nat_lt, ◌<◌, ◌^◌, Option, Some, None, is_some, refl, eqb-true, ltb-true, if◌then◌else◌, ◌≢◌, IsTrue, list_all, and_parts, Machine, Press, Zone, Place, Transfer, Posture, Closed, Moving, OpenIn, OpenOut, Call, Claim, Give, Yield, Take, Release, SetPose, Advance, Inquire, Stop, Resume, Answer, Done, Shown, Refused, host_of, transfer_of, same_machine}
use Rattle.cell_word.proofs.Names.{own_move_of, put_zone, map_zones, PlaceSet, empty, insert_place, ModelState, model_state, IsSound, implies, is_sound, given_by, reply, has_call, ZoneState, and_left, and_right, implied, Finite, Passed, passed, all_zones, from_zones, all_poses, from_poses, machines, holds2, sound_by_test, stamp_bit, bits_of, IsOffStamp, row_given, written, received_by, Pattern}
use Rattle.std.specs.Prelude.{List, [], ◌∷◌}
use Rattle.cell_rules.specs.Names.{everywhere, free_zone}

-- ---- a test of all calls
abbrev each : (Call → Bool) → (Zone → Call) → Bool
each P call = all_zones (λ z. P (call z))

abbrev about_zones : List (Zone → Call)
about_zones = Claim ∷ Give ∷ Yield ∷ Take ∷ Release ∷ Inquire ∷ []

abbrev all_others : (Call → Bool) → Bool
all_others P = all_poses (λ p. P (SetPose p)) && list_all P (Advance ∷ Stop ∷ Resume ∷ [])

abbrev pub all_calls : (Call → Bool) → Bool
all_calls P = list_all (each P) about_zones && all_others P

about_each : (P : Call → Bool) → all_calls P ≡ true → Passed (each P) about_zones
about_each P e = passed (each P) about_zones (and_left (list_all (each P) about_zones) (all_others P) e)

pub from_calls : (P : Call → Bool) → all_calls P ≡ true → (c : Call) → P c ≡ true
from_calls P e (Claim z) = from_zones (λ z. P (Claim z)) (about_each P e).0 z
from_calls P e (Give z) = from_zones (λ z. P (Give z)) (about_each P e).1.0 z
from_calls P e (Yield z) = from_zones (λ z. P (Yield z)) (about_each P e).1.1.0 z
from_calls P e (Take z) = from_zones (λ z. P (Take z)) (about_each P e).1.1.1.0 z
from_calls P e (Release z) = from_zones (λ z. P (Release z)) (about_each P e).1.1.1.1.0 z
from_calls P e (Inquire z) = from_zones (λ z. P (Inquire z)) (about_each P e).1.1.1.1.1.0 z
from_calls P e (SetPose p) = from_poses (λ p. P (SetPose p)) (and_left _ _ (and_right (list_all (each P) about_zones) (all_others P) e)) p
from_calls P e _ = assumption (passed P (Advance ∷ Stop ∷ Resume ∷ []) (and_right (all_poses (λ p. P (SetPose p))) _ (and_right (list_all (each P) about_zones) (all_others P) e)))

abbrev pub calls : Finite Call
calls = record { all = all_calls; holds = from_calls }

-- ---- states in which a call finds what it needs
abbrev at : Option Machine → Bool → Posture → ZoneState
at o f q = record { owner = o; flag = f; posture = q }

abbrev with_zone : Zone → ZoneState → PlaceSet → ModelState
with_zone z v full = model_state (put_zone (everywhere free_zone) z v) full 0 false

-- inward if there is such a row, and else outward
abbrev way_of : Option Transfer → Posture
way_of row = if is_some row then OpenIn else OpenOut

abbrev start_of : Option Transfer → PlaceSet
start_of None = empty
start_of (Some row) = insert_place empty row.from

abbrev hosting : Machine → Posture → PlaceSet → ModelState
hosting m q full = model_state (map_zones (λ z v. if same_machine (host_of z) m then at (Some m) false q else v) (everywhere free_zone)) full 0 false

abbrev begun : Option (Place × Place) → PlaceSet
begun None = empty
begun (Some way) = insert_place empty way.0

abbrev example : Machine → Call → ModelState
example m (Claim z) = with_zone z (at None false (way_of (transfer_of z OpenIn))) empty
example m (Give z) = with_zone z (at (Some m) false (way_of (given_by m (transfer_of z OpenIn)))) (start_of (row_given m z))
example m (Yield z) = with_zone z (at (Some m) false (way_of (transfer_of z OpenIn))) empty
example m (Take z) = with_zone z (at (Some m) true (way_of (received_by m (transfer_of z OpenIn)))) empty
example m (Release z) = with_zone z (at (Some m) false (way_of (transfer_of z OpenIn))) empty
example m (SetPose p) = hosting m Moving empty
example m Advance = hosting m (if same_machine m Press then Closed else Moving) (begun (own_move_of m))
example m (Inquire z) = hosting m Closed empty
example m Stop = model_state (everywhere free_zone) empty 0 false
example m Resume = model_state (everywhere free_zone) empty 0 true

abbrev is_done : Answer → Bool
is_done Done = true
is_done (Shown _ _ _) = false
is_done (Refused _) = false

done : (a : Answer) → is_done a ≡ true → a ≡ Done
done Done e = refl
done _ e = cc

abbrev writes_nothing : Pattern → Bool
writes_nothing p = nat_eq p.mask 0 && nat_eq p.wanted 0

abbrev may_be_done : ModelState → Machine → Call → Bool
may_be_done s m c = is_sound s && is_done (reply s m c)

abbrev possible_test : Machine → Call → Bool
possible_test m c = writes_nothing (written m c) || may_be_done (example m c) m c

untouched : (p : Pattern) (b d : Bool) → writes_nothing p ≡ b → (b || d) ≡ true → (d ≡ true → ⊥) → ◌≡◌ {A = ℕ × ℕ} (p.mask, p.wanted) (0, 0)
untouched p true d e test never =
    let none = and_parts (nat_eq p.mask 0) (nat_eq p.wanted 0) e in
    λ i. (eqb-true p.mask 0 none.0 i, eqb-true p.wanted 0 none.1 i)
untouched p false d e test never = absurd (never test)

pub never_written : (m : Machine) (c : Call) → ((s : ModelState) → IsSound s → reply s m c ≢ Done) → ◌≡◌ {A = ℕ × ℕ} ((written m c).mask, (written m c).wanted) (0, 0)
never_written m c never =
    let s = example m c in
    untouched (written m c) (writes_nothing (written m c)) (may_be_done s m c) refl (holds2 machines calls possible_test refl m c)
    (λ e. let both = and_parts (is_sound s) (is_done (reply s m c)) e in never s (sound_by_test s both.0) (done (reply s m c) both.1))

-- no call writes into the stamp, or above the mark
abbrev is_off_stamp : ℕ → Bool
is_off_stamp n = nat_lt n 0x2000000000000000 && nat_eq (bits_of n stamp_bit 20) 0

off_stamp : (n : ℕ) → is_off_stamp n ≡ true → IsOffStamp n
off_stamp n e =
    let both = and_parts (nat_lt n 0x2000000000000000) (nat_eq (bits_of n stamp_bit 20) 0) e in
    (ltb-true n 0x2000000000000000 both.0, eqb-true (bits_of n stamp_bit 20) 0 both.1)

abbrev off_test : Machine → Call → Bool
off_test m c = is_off_stamp (written m c).mask && is_off_stamp (written m c).wanted

pub written_off : (m : Machine) (c : Call) → IsOffStamp (written m c).mask × IsOffStamp (written m c).wanted
written_off m c =
    let off = and_parts (is_off_stamp (written m c).mask) (is_off_stamp (written m c).wanted) (holds2 machines calls off_test refl m c) in
    (off_stamp (written m c).mask off.0, off_stamp (written m c).wanted off.1)

-- a call of the first version writes below the stamp
abbrev low_test : Machine → Call → Bool
low_test m c = implies (has_call c) (nat_lt (written m c).mask 0x10000000000 && nat_lt (written m c).wanted 0x10000000000)

pub written_low : (m : Machine) (c : Call) → IsTrue (has_call c) → ((written m c).mask < 2 ^ 40) × ((written m c).wanted < 2 ^ 40)
written_low m c old =
    let low = and_parts (nat_lt (written m c).mask 0x10000000000) (nat_lt (written m c).wanted 0x10000000000) (implied (has_call c) _ (holds2 machines calls low_test refl m c) old) in
    (ltb-true (written m c).mask 0x10000000000 low.0, ltb-true (written m c).wanted 0x10000000000 low.1)
