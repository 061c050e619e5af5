-- No machine is stopped by a refusal: before it, all machines had come to steps of theirs.
use Rattle.cell_team.proofs.Names.{◌≡◌, Bool, true, false, ◌||◌, if◌then◌else◌, List, [], ◌∷◌, ◌++◌, Ok, Err, refl, sym, subst, Refusal, Worn, Refused, Event, IsReading, ModelState, after, IsLegal, own_events, IsStartState, Program, Reached, event, legal-left, legal-right, own-append, fault_of, Steps, waits_out, CellScales, crane_steps, deposit_steps, feed_steps, near_lines, robot_steps, Team, robot_points, programs_of, program_with_stops, HasCome, HaveCome, is_worn, IsHeeded, AreHeeded}
use Rattle.cell_team.proofs.Names.{IsStoppedBy, AreUnstopped, NoMachineIsStopped}
use Rattle.cell_control.specs.declared.fault.CtlFault.TheVariants as fault
use Rattle.cell_table_press.specs.Names.{press_steps, table_steps}
use Rattle.cell_team.proofs.lemmas.Together.{none-refused}

-- by the first of its events a program has come to some step
first_part : {S : Type 0} → (p : Program S) (s t : S) (a b : List Event) → Reached p s (a ++ b) t → (u : S) × Reached p s a u
first_part p s t [] b r = (s, (0, refl))
first_part p s t (e ∷ a) b r =
    let rest = first_part p r.1 t a b r.5 in
    (rest.0, (r.0, r.1, r.2, r.3, r.4, rest.1))

came_before : {S Sense Reading Act : Type 0} → (t : Steps S Sense Reading Act) (opening : ModelState) (before more : List Event) (p : S) → HasCome t opening (before ++ more) p → (q : S) × HasCome t opening before q
came_before t opening before more p r =
    first_part (program_with_stops t) (t.start opening) p (own_events before t.machine) (own_events more t.machine)
    (subst (λ h. Reached (program_with_stops t) (t.start opening) h p) (own-append before more t.machine) r)

-- so all machines had come to steps of theirs at each point of a history
pub team_before : (c : CellScales) (opening : ModelState) (before more : List Event) (team : Team) → HaveCome (programs_of c) opening (before ++ more) team → (was : Team) × HaveCome (programs_of c) opening before was
team_before c opening before more team by =
    let feed = came_before feed_steps opening before more team.feed by.feed in
    let table = came_before (table_steps c.turn (IsReading c.turn)) opening before more team.table by.table in
    let robot = came_before (robot_steps (robot_points c) (near_lines (robot_points c))) opening before more team.robot by.robot in
    let press = came_before press_steps opening before more team.press by.press in
    let deposit = came_before deposit_steps opening before more team.deposit by.deposit in
    let crane = came_before (crane_steps c.gripper (IsReading c.gripper)) opening before more team.crane by.crane in (
      record { feed = feed.0; table = table.0; robot = robot.0; press = press.0; deposit = deposit.0; crane = crane.0 },
      record { feed = feed.1; table = table.1; robot = robot.1; press = press.1; deposit = deposit.1; crane = crane.1 },
    )

-- a call that is heeded stops its machine only as worn
worn_fault : (r : Refusal) (x : Refusal) → is_worn r ≡ true → fault_of r ≡ fault.Refused x → ⊥
worn_fault Worn x w e = cc
worn_fault _ x w e = cc

not_stopped : {S : Type 0} → (b : Bool) (p : S) (r x : Refusal) → (b || is_worn r) ≡ true → (if b then Ok p else Err (fault_of r)) ≡ Err (fault.Refused x) → ⊥
not_stopped true p r x h e = cc
not_stopped false p r x h e = let same : fault_of r ≡ fault.Refused x = cc in worn_fault r x h same

unstopped : {S Sense Reading Act : Type 0} → (t : Steps S Sense Reading Act) (opening : ModelState) (history : List Event) (p : S) (x : Refusal) → IsLegal opening history → (s : IsStoppedBy t opening history p (fault.Refused x)) → IsHeeded t (after opening s.before) p → ⊥
unstopped t opening history p x legal s heeded =
    let answer = (legal-right opening s.before (event t.machine s.call (Refused s.refusal) ∷ s.rest) (subst (IsLegal opening) s.split legal)).0 in
    not_stopped (waits_out t p s.refusal) p s.refusal x (heeded s.call s.refusal s.asks (sym answer)) s.stops

module _ (c : CellScales) (opening : ModelState) (history : List Event) (team : Team) (start : IsStartState opening) (legal : IsLegal opening history) (by : HaveCome (programs_of c) opening history team) where
  -- before an event
  module _ (before rest : List Event) (e : Event) (split : history ≡ before ++ e ∷ rest) where
    was : (was : Team) × HaveCome (programs_of c) opening before was
    was = team_before c opening before (e ∷ rest) team (subst (λ h. HaveCome (programs_of c) opening h team) split by)

    legal_before : IsLegal opening before
    legal_before = legal-left opening before (e ∷ rest) (subst (IsLegal opening) split legal)

    heed : (at : Team) → HaveCome (programs_of c) opening before at → AreHeeded (programs_of c) (after opening before) at
    heed at k = none-refused c opening before at start legal_before k

  all_unstopped : AreUnstopped (programs_of c) opening history
  all_unstopped = record {
    feed = λ p r s. let k = was s.before s.rest _ s.split in unstopped feed_steps opening history p r legal s (heed s.before s.rest _ s.split (record k.0 { feed = p }) (record { feed = s.come; table = k.1.table; robot = k.1.robot; press = k.1.press; deposit = k.1.deposit; crane = k.1.crane })).feed;
    table = λ p r s. let k = was s.before s.rest _ s.split in unstopped (table_steps c.turn (IsReading c.turn)) opening history p r legal s (heed s.before s.rest _ s.split (record k.0 { table = p }) (record { feed = k.1.feed; table = s.come; robot = k.1.robot; press = k.1.press; deposit = k.1.deposit; crane = k.1.crane })).table;
    robot = λ p r s. let k = was s.before s.rest _ s.split in unstopped (robot_steps (robot_points c) (near_lines (robot_points c))) opening history p r legal s (heed s.before s.rest _ s.split (record k.0 { robot = p }) (record { feed = k.1.feed; table = k.1.table; robot = s.come; press = k.1.press; deposit = k.1.deposit; crane = k.1.crane })).robot;
    press = λ p r s. let k = was s.before s.rest _ s.split in unstopped press_steps opening history p r legal s (heed s.before s.rest _ s.split (record k.0 { press = p }) (record { feed = k.1.feed; table = k.1.table; robot = k.1.robot; press = s.come; deposit = k.1.deposit; crane = k.1.crane })).press;
    deposit = λ p r s. let k = was s.before s.rest _ s.split in unstopped deposit_steps opening history p r legal s (heed s.before s.rest _ s.split (record k.0 { deposit = p }) (record { feed = k.1.feed; table = k.1.table; robot = k.1.robot; press = k.1.press; deposit = s.come; crane = k.1.crane })).deposit;
    crane = λ p r s. let k = was s.before s.rest _ s.split in unstopped (crane_steps c.gripper (IsReading c.gripper)) opening history p r legal s (heed s.before s.rest _ s.split (record k.0 { crane = p }) (record { feed = k.1.feed; table = k.1.table; robot = k.1.robot; press = k.1.press; deposit = k.1.deposit; crane = s.come })).crane;
  }

pub none-stopped : NoMachineIsStopped
none-stopped c opening history team start legal by = all_unstopped c opening history team start legal by
