-- The row of a call on a word, and plans of which no row is missing.
use Rattle.std.specs.Prelude.{◌≡◌, ℕ, ◌+◌, ◌*◌, ◌/◌, ◌%◌, ◌<◌, ◌≤◌, ◌^◌, Bool, true, false, Some, List, length}
use Rattle.std.specs.Prelude.{get_or, IsTrue}
use Rattle.std.specs.Option.{option_eq}
use Rattle.plan_types.specs.declared.posture.Posture.TheVariants.{OpenIn}
use Rattle.plan_types.specs.declared.call.Call.{Call}
use Rattle.plan_types.specs.declared.call.Call.TheVariants.{Claim, Give, Yield, Take, Release, SetPose, Inquire, Stop}
use Rattle.plan_types.specs.declared.call.Call.TheVariants.{Resume, Advance}
use Rattle.plan_types.specs.declared.answer.Answer.TheVariants.{Done}
use Rattle.plan_types.specs.Same.{same_posture}
use Rattle.plan_types.specs.Table.{PlanTable, zone_count, place_count, posture_of}
use Rattle.plan_rules.specs.declared.state.State.{State}
use Rattle.plan_rules.specs.State.{one_if, last_stamp}
use Rattle.plan_rules.specs.Sound.{IsLawfulZone}
use Rattle.plan_rules.specs.Reply.{reply}
use Rattle.plan_word.specs.declared.layout.Field.{Field}
use Rattle.plan_word.specs.declared.layout.Field.TheVariants.{Zone, Place, Stamp, Stop as StopField}
use Rattle.plan_word.specs.Layout.{Counts, counts_of, width_of}
use Rattle.plan_word.specs.OfPlan.{IsOfPlan}
use Rattle.plan_word.specs.Packed.{zone_code, held, packed}
use Rattle.plan_word.specs.Reading.{told}
use Rattle.plan_compiled.specs.declared.covering.Span.{Span}
use Rattle.plan_compiled.specs.declared.part.Part.{Part}
use Rattle.plan_compiled.specs.declared.right.Asked.{Asked}
use Rattle.plan_compiled.specs.Row.{Row, no_row}
use Rattle.plan_compiled.specs.Alone.{zone_alone}
use Rattle.plan_compiled.specs.Needs.{Fits, zone_fits, place_fits, stop_fits}
use Rattle.plan_compiled.specs.Rows.{matches, part_in}

-- a machine has 162 slots: 16 for each call about a zone, 64 for poses, one for a stop and one for a resume, 16 for
-- advances
abbrev pub own_slot : Call → ℕ
own_slot (Claim z) = z
own_slot (Give z) = 16 + z
own_slot (Yield z) = 32 + z
own_slot (Take z) = 48 + z
own_slot (Release z) = 64 + z
own_slot (SetPose p) = 80 + p
own_slot (Inquire z) = 145
own_slot Stop = 144
own_slot Resume = 145
own_slot (Advance p) = 146 + p

abbrev pub slot : ℕ → Call → ℕ
slot m call = 162 * m + own_slot call

abbrev pub row_at : List Row → ℕ → Row
row_at rows i = get_or rows i no_row

-- where a call's rows begin
abbrev pub first_row : List ℕ → ℕ → Call → ℕ
first_row starts m call = get_or starts (slot m call) 0

-- a row of a call of a machine
pub record IsRowOf (rows : List Row) (m : ℕ) (call : Call) (i : ℕ) : Type 0 where
  pub there : i < length rows
  pub machine : (row_at rows i).machine ≡ m
  pub call_is : (row_at rows i).call ≡ call

-- of the rows from a call's first one on, up to the first one of another call and at most sixteen, one matches the word
pub record HasRow (rows : List Row) (starts : List ℕ) (w m : ℕ) (call : Call) : Type 0 where
  pub begins : slot m call < length starts
  pub tried : ℕ
  pub few : tried < 16
  pub own : (k : ℕ) → k ≤ tried → IsRowOf rows m call (first_row starts m call + k)
  pub is_met : IsTrue (matches (row_at rows (first_row starts m call + tried)).part w)

-- a call has its row wherever it is done, with a stamp left
abbrev pub HasRows : PlanTable → List Row → List ℕ → ℕ → Call → Type 0
HasRows t rows starts m call =
    (s : State) → IsOfPlan t s → s.stamp < last_stamp → reply t s m call ≡ Done
    → HasRow rows starts (packed t s) m call

-- and so have all calls
abbrev pub IsComplete : PlanTable → List Row → List ℕ → Type 0
IsComplete t rows starts = (m : ℕ) (call : Call) → HasRows t rows starts m call

-- some first rows of a call, at most sixteen
pub record AreOwnRows (rows : List Row) (starts : List ℕ) (m : ℕ) (call : Call) (span : Span) : Type 0 where
  pub few : span.count ≤ 16
  pub within : span.first + span.count ≤ length rows
  pub begins : 0 < span.count → slot m call < length starts
  pub first : 0 < span.count → span.first ≡ first_row starts m call
  pub own : (k : ℕ) → k < span.count → IsRowOf rows m call (span.first + k)

-- the calls about a zone
pub record HasZoneRows (t : PlanTable) (rows : List Row) (starts : List ℕ) (m z : ℕ) : Type 0 where
  pub claim : HasRows t rows starts m (Claim z)
  pub give : HasRows t rows starts m (Give z)
  pub yield : HasRows t rows starts m (Yield z)
  pub take : HasRows t rows starts m (Take z)
  pub release : HasRows t rows starts m (Release z)

abbrev pub HasAllZoneRows : PlanTable → List Row → List ℕ → ℕ → ℕ → Type 0
HasAllZoneRows t rows starts m n = (z : ℕ) → z < n → HasZoneRows t rows starts m z

abbrev pub HasPoseRows : PlanTable → List Row → List ℕ → ℕ → ℕ → Type 0
HasPoseRows t rows starts m n = (p : ℕ) → p < n → HasRows t rows starts m (SetPose p)

abbrev pub HasPlaceRows : PlanTable → List Row → List ℕ → ℕ → ℕ → Type 0
HasPlaceRows t rows starts m n = (p : ℕ) → p < n → HasRows t rows starts m (Advance p)

pub record HasWatchRows (t : PlanTable) (rows : List Row) (starts : List ℕ) (m : ℕ) : Type 0 where
  pub stop : HasRows t rows starts m Stop
  pub resume : HasRows t rows starts m Resume

-- the calls of a machine
pub record HasMachineRows (t : PlanTable) (rows : List Row) (starts : List ℕ) (m : ℕ) : Type 0 where
  pub zones : HasAllZoneRows t rows starts m (zone_count t)
  pub poses : HasPoseRows t rows starts m 64
  pub watch : HasWatchRows t rows starts m
  pub places : HasPlaceRows t rows starts m (place_count t)

-- ---- what is tested of a call
-- a pose opens a zone inward
abbrev pub opens : PlanTable → ℕ → ℕ → Bool
opens t p z = option_eq same_posture (posture_of t p z) (Some OpenIn)

-- two zones that a pose opens are one
abbrev pub AreNotTwo : PlanTable → ℕ → ℕ → ℕ → Type 0
AreNotTwo t p y z = opens t p y ≡ true → opens t p z ≡ true → y ≡ z

abbrev pub OpensOne : PlanTable → ℕ → Type 0
OpensOne t p = (y : ℕ) → y < zone_count t → (z : ℕ) → z < zone_count t → AreNotTwo t p y z

-- if the call is a pose, it opens at most one zone inward
abbrev pub OpensOneAtMost : PlanTable → Call → Type 0
OpensOneAtMost t (SetPose p) = OpensOne t p
OpensOneAtMost t _ = IsTrue true

-- a number that a field has in a state that fits
abbrev pub FitsNumber : PlanTable → Asked → Field → ℕ → Type 0
FitsNumber t a (Zone z) n =
    IsLawfulZone t z (zone_alone t z n) × (zone_code t z (zone_alone t z n) ≡ n)
    × IsTrue (zone_fits t a.machine a.call a.room z (zone_alone t z n))
FitsNumber t a (Place q) n = (full : Bool) × (n ≡ one_if full) × IsTrue (place_fits t a.machine a.call a.room q full)
FitsNumber t a Stamp n = ⊥
FitsNumber t a StopField n = (stopped : Bool) × (n ≡ one_if stopped) × IsTrue (stop_fits t a.call stopped)

-- a row of some consecutive ones matches a number of a field
pub record MatchesAt (c : Counts) (rows : List Row) (span : Span) (f : Field) (n k : ℕ) : Type 0 where
  pub there : k < span.count
  pub is_met : IsTrue (matches (part_in c (row_at rows (span.first + k)).part f) n)

-- sets of at most eight such rows, each a number with a bit for each row
abbrev pub HasBit : ℕ → ℕ → Type 0
HasBit x k = x / 2 ^ k % 2 ≡ 1

abbrev pub HasSet : List Bool → ℕ → Type 0
HasSet sets x = IsTrue (get_or sets x false)

-- each set has become one whose rows match a number of a field
abbrev pub Narrows : Counts → List Row → Span → Field → ℕ → List Bool → List Bool → Type 0
Narrows c rows span f n sets next =
    (x : ℕ) → x < 256 → HasSet sets x
    → (y : ℕ) × (y < 256) × HasSet next y × ((k : ℕ) → k < 8 → HasBit y k → HasBit x k × MatchesAt c rows span f n k)

abbrev pub Steps : PlanTable → Asked → Counts → List Row → Span → Field → List Bool → List Bool → Type 0
Steps t a c rows span f sets next = (n : ℕ) → n < 32 → FitsNumber t a f n → Narrows c rows span f n sets next

-- the row looks at no bit of the stamp, and at none above the word's width
pub record LooksAtFields (c : Counts) (p : Part) : Type 0 where
  pub mask : told c p.mask Stamp ≡ 0
  pub wanted : told c p.wanted Stamp ≡ 0
  pub within : p.wanted < 2 ^ width_of c

abbrev pub LookAtFields : Counts → List Row → ℕ → ℕ → Type 0
LookAtFields c rows first n = (k : ℕ) → k < n → LooksAtFields c (row_at rows (first + k)).part

-- a set that is left where a state fits: its rows match the first zones and the first places
pub record LeavesSet (t : PlanTable) (rows : List Row) (span : Span) (sets : List Bool) (n m : ℕ) (s : State)
    : Type 0 where
  pub set : ℕ
  pub few : set < 256
  pub left : HasSet sets set
  pub zones : (k : ℕ) → k < 8 → HasBit set k → (z : ℕ) → z < n
      → MatchesAt (counts_of t) rows span (Zone z) (held t s (Zone z)) k
  pub places : (k : ℕ) → k < 8 → HasBit set k → (q : ℕ) → q < m
      → MatchesAt (counts_of t) rows span (Place q) (held t s (Place q)) k

abbrev pub LeavesRows : PlanTable → Asked → List Row → Span → List Bool → ℕ → ℕ → Type 0
LeavesRows t a rows span sets n m =
    (s : State) → IsOfPlan t s → Fits t a.machine a.call a.room s → LeavesSet t rows span sets n m s

-- wherever a state fits, one of the rows matches its word
abbrev pub Covers : PlanTable → Asked → List Row → Span → Type 0
Covers t a rows span =
    (s : State) → IsOfPlan t s → Fits t a.machine a.call a.room s
    → (k : ℕ) × (k < span.count) × IsTrue (matches (row_at rows (span.first + k)).part (packed t s))

abbrev pub CoversRoom : PlanTable → List Row → Span → ℕ → Call → Bool → Type 0
CoversRoom t rows span m call room = Covers t (record { machine = m; call = call; room = room }) rows span
