-- Where an interlock has ended, the next one may open, and each machine may go on there.
use Rattle.std.proofs.Common.{◌≡◌, ℕ, suc, ◌+◌, ◌<◌, inl, inr, ◌⊎◌, Bool, true, false, ◌&&◌, nat_eq, nat_lt, cond, List, [], ◌∷◌, ◌++◌, length, map, Option, refl, sym, ap, ◌∙◌, subst, arith, IsTrue, All}
use Rattle.std.proofs.lemmas.Bool.{cases_Bool, ltb-true}
use Rattle.std.proofs.lemmas.List.{length-map}
use Rattle.std.proofs.lemmas.List.Elements.{All-nil, All-cons}
use Rattle.plan_types.specs.declared.answer.Event.{Event}
use Rattle.plan_types.specs.Table.{PlanTable}
use Rattle.plan_rules.specs.declared.state.State.{State}
use Rattle.plan_rules.specs.History.{after, is_done, own_events}
use Rattle.plan_rules.proofs.lemmas.Lawful.{every_history}
use Rattle.plan_drives.specs.Course.{is_done_by, IsAt, Stays}
use Rattle.plan_drives.specs.Facts.{OpensByPoses}
use Rattle.plan_drives.specs.InStep.{IsInStep}
use Rattle.plan_drives.proofs.lemmas.Going.{courses_go_on, in_step, opens_later}
use Rattle.plan_controller.specs.Steps.{line_of}
use Rattle.plan_controller.specs.Turns.{Control, IsCareful, program_in, next_place}
use Rattle.plan_controller.proofs.lemmas.Leading.{begins_anywhere, in_step_goes_on}
use Rattle.plan_interlock.specs.Book.{plan_book, plan_of}
use Rattle.plan_interlock.specs.BookKept.{plan_is_rule_book}
use Rattle.word_interlock.specs.History.{IsLegal as IsLegalBy, after as after_by, Waits}
use Rattle.word_interlock.specs.Bunches.{AllHavePart, HasPart, IsEnd}
use Rattle.word_interlock.specs.Views.{view_of}
use Rattle.word_interlock.proofs.lemmas.Histories.{sound-after}
use Rattle.plan_workers.specs.declared.record.PlanRecorded.{PlanRecorded}
use Rattle.plan_workers.specs.declared.rounds.PlanMachine.{PlanMachine}
use Rattle.plan_workers.specs.declared.run.PlanJob.{PlanJob}
use Rattle.plan_workers.specs.Lines.{legal_here}
use Rattle.plan_workers.specs.Works.{AtWork}
use Rattle.plan_workers.specs.Turning.{AreTaken, GateOf, HasWorked, Ways, last_of}
use Rattle.plan_workers.specs.Jobs.{IsReady, PlanInterlockView}
use Rattle.plan_workers.specs.Recording.{HasRecorded, HaveRecorded}
use Rattle.plan_workers.specs.Closing.{Passes}
use Rattle.plan_workers.specs.Renewing.{AreReadyAt, MayAllGoOn, MayGoOn, fresh_pass, given_back, jobs_from, left_by, restamped}
use Rattle.plan_workers.proofs.Asking.{sees_others}
use Rattle.plan_workers.proofs.Closing.{after_here}

-- ---- a state with stamp 0

pub restamped_sound : (t : PlanTable) (s : State) → (plan_book t).is_sound s → (plan_book t).is_sound (restamped s)
restamped_sound t s k = (
  k.0,
  record {
    sound = record {
      stamp_in_range = omega arith;
      has_ten_zones = k.1.sound.has_ten_zones;
      has_sixteen_places = k.1.sound.has_sixteen_places;
      zone_is_lawful = k.1.sound.zone_is_lawful;
      zone_is_of_space = λ z l. record { owner = (k.1.sound.zone_is_of_space z l).owner; motion = (k.1.sound.zone_is_of_space z l).motion };
      one_plate_a_space = k.1.sound.one_plate_a_space;
      one_plate_a_place = k.1.sound.one_plate_a_place;
    };
    plan = k.1.plan;
    postures_told = k.1.postures_told;
    no_more_zones = k.1.no_more_zones;
    no_more_plates = k.1.no_more_plates;
  },
)

restamped_step : (t : PlanTable) (s : State) (c : Control) → IsInStep t s c.machine (program_in c) c.place → IsInStep t (restamped s) c.machine (program_in c) c.place
restamped_step t s c k = record { line = k.line; known = record { is_so = record { zones = k.known.is_so.zones; places = k.known.is_so.places }; own = k.known.own } }

-- ---- others' events leave a machine where it is

own_head : (b : Bool) (e : Event) (own : List Event) → cond b (e ∷ own) own ≡ [] → (b ≡ false) × (own ≡ [])
own_head true e own h = cc
own_head false e own h = (refl, h)

differ : (b : Bool) → b ≡ false → b ≡ true → ⊥
differ true e f = cc
differ false e f = cc

others_stay : (others : List Event) (m : ℕ) → own_events others m ≡ [] → Stays others m
others_stay [] m none = All-nil (λ e. ¬ IsTrue (is_done_by m e))
others_stay (x ∷ xs) m none =
    let apart = own_head (nat_eq x.machine m) x (own_events xs m) none in
    All-cons (λ e. ¬ IsTrue (is_done_by m e)) x xs (differ (is_done_by m x) (ap (λ b. b && is_done x) apart.0)) (others_stay xs m apart.1)

at_the_end : (t : PlanTable) (s : State) (m : ℕ) (seen history : List Event) (c : Control) → c.machine ≡ m → Waits (plan_book t) m seen history → IsAt t s seen c.machine (program_in c) c.place
    → IsAt t s history c.machine (program_in c) c.place
at_the_end t s m seen history c own w at =
    let sees = sees_others t m seen history w in
    let still : Stays sees.others c.machine = subst (Stays sees.others) (sym own) (others_stay sees.others m sees.none_own) in
    subst (λ h. IsAt t s h c.machine (program_in c) c.place) (sym sees.split) ((courses_go_on t s seen c.machine (program_in c)).stays c.place sees.others at still)

-- ---- a machine's turns leave it at a step of its program, or at the beginning

abbrev pub IsInProgram : Control → Type 0
IsInProgram c = (c.place ≡ 0) ⊎ (c.place < length c.steps)

next_in_program : (c now : Control) → now.place ≡ next_place c → now.steps ≡ c.steps → IsInProgram now
next_in_program c now on same =
    elim (cases_Bool (nat_lt (c.place + 1) (length c.steps))) [
      | inl less ↦
          let place : now.place ≡ c.place + 1 = on ∙ ap (λ b. cond b (c.place + 1) 0) less in
          inr (subst (λ k. k < length now.steps) (sym place) (subst (λ xs. c.place + 1 < length xs) (sym same) (ltb-true (c.place + 1) (length c.steps) less)))
      | inr last ↦ inl (on ∙ ap (λ b. cond b (c.place + 1) 0) last)
    ]

stays_in_program : (c now : Control) → now.place ≡ c.place → now.steps ≡ c.steps → IsInProgram c → IsInProgram now
stays_in_program c now still same (inl first) = inl (still ∙ first)
stays_in_program c now still same (inr less) = inr (subst (λ k. k < length now.steps) (sym still) (subst (λ xs. c.place < length xs) (sym same) less))

turn_in_program : (c now : Control) (sensors : Option ℕ) (motors : ℕ) → IsCareful c sensors motors now → IsInProgram c → IsInProgram now
turn_in_program c now sensors motors k here =
    elim k.one_step [
      | inl still ↦ stays_in_program c now still k.program here
      | inr on ↦ next_in_program c now on k.program
    ]

module _ {L D : Type 0} (w : Ways L D) where
  turns_in_program : (first : AtWork L D) (turns : List (AtWork L D)) → AreTaken w first turns → IsInProgram first.control → IsInProgram (last_of first turns).control
  turns_in_program first [] k here = here
  turns_in_program first (now ∷ later) k here =
      turns_in_program now later k.1 (turn_in_program first.control now.control k.0.turn.sensors k.0.turn.taken.motors k.0.careful here)

  pub work_in_program : (gate : GateOf) (limit took : ℕ) (first last : AtWork L D) → HasWorked w gate limit first last took → IsInProgram first.control → IsInProgram last.control
  work_in_program gate limit took first last k here = subst (λ (x : AtWork L D). IsInProgram x.control) k.come.is_last (turns_in_program first k.come.turns k.come.taken here)

-- ---- the end of an interlock

pub end_sound : (t : PlanTable) (opening end : State) (history : List Event) → (plan_book t).is_sound opening → end ≡ after_by (plan_book t) opening history → (plan_book t).is_sound end
end_sound t opening end history sound reached = subst (plan_book t).is_sound (sym reached) (sound-after (plan_book t) (plan_is_rule_book t) opening history sound)

module _ (t : PlanTable) (opening end : State) (history : List Event) (sound : (plan_book t).is_sound opening) (by_poses : OpensByPoses t opening) (legal : IsLegalBy (plan_book t) opening history)
    (reached : end ≡ after_by (plan_book t) opening history) where
  end_is : after t opening history ≡ end
  end_is = sym (reached ∙ after_here t opening history)

  pub end_by_poses : OpensByPoses t end
  end_by_poses = subst (OpensByPoses t) end_is (opens_later every_history t opening history sound.0 sound.1.sound by_poses (legal_here t opening history legal))

  step_at_end : (c : Control) → c.place < length c.steps → IsAt t opening history c.machine (program_in c) c.place → IsInStep t end c.machine (program_in c) c.place
  step_at_end c less at =
      let lines : length (program_in c) ≡ length c.steps = length-map c.steps line_of in
      subst (λ s. IsInStep t s c.machine (program_in c) c.place) end_is
      (in_step every_history t opening history c.machine (program_in c) c.place sound.0 sound.1.sound by_poses (legal_here t opening history legal) (omega (arith, lines, less)) at)

  pub may_go_on : (m : ℕ) (seen : List Event) (c : Control) → c.machine ≡ m → Waits (plan_book t) m seen history → IsAt t opening seen c.machine (program_in c) c.place → IsInProgram c → MayGoOn t end m c
  may_go_on m seen c own w at here = record {
    own = own;
    place = elim here [
      | inl first ↦ inl first
      | inr less ↦ inr (subst (λ k. IsInStep t end k (program_in c) c.place) own (step_at_end c less (at_the_end t opening m seen history c own w at)))
    ];
  }

-- ---- several passes that have come back

module _ {D : Type 0} where
  abbrev pub views_of : List (PlanRecorded D) → Passes
  views_of backs = map (λ back. view_of back.worked.pass) backs

  pub parts_of : (t : PlanTable) (opening : State) (history : List Event) (others : Passes) (backs : List (PlanRecorded D)) → AllHavePart (plan_book t) opening history (given_back others backs)
      → AllHavePart (plan_book t) opening history (views_of backs) × AllHavePart (plan_book t) opening history others
  parts_of t opening history others [] parts = (tt, parts)
  parts_of t opening history others (back ∷ later) parts =
      let rest = parts_of t opening history (view_of back.worked.pass ∷ others) later parts in
      ((rest.1.0, rest.0), rest.1.1)

  pub given_more : (others : Passes) (backs : List (PlanRecorded D)) (back : PlanRecorded D) → given_back others (backs ++ back ∷ []) ≡ view_of back.worked.pass ∷ given_back others backs
  given_more others [] back = refl
  given_more others (x ∷ xs) back = given_more (view_of x.worked.pass ∷ others) xs back

-- ---- the machines of a plan, from one interlock to the next

module _ {D : Type 0} (reads : D → Option ℕ → D → Type 0) (drives : D → ℕ → D → Type 0) (gate : ℕ → GateOf) (turns : ℕ) (i : PlanInterlockView) where
  abbrev t : PlanTable
  t = plan_of i.rules

  abbrev pub job_of : ℕ → PlanMachine D → PlanJob D
  job_of m x = record { pass = fresh_pass i m; controller = x.controller; devices = x.devices }

  -- who goes to work by a new pass is in place
  ready : (s : State) (m : ℕ) (x : PlanMachine D) → i.opening ≡ restamped s → MayGoOn t s m x.controller → IsReady i (job_of m x)
  ready s m x opens k = record {
    own = record { table = refl; plan = refl };
    in_place = record {
      own = k.own;
      at = elim k.place [
        | inl first ↦ begins_anywhere t i.opening [] x.controller first
        | inr step ↦
            let here = subst (λ n. IsInStep t s n (program_in x.controller) x.controller.place) (sym k.own) step in
            in_step_goes_on t i.opening [] x.controller (subst (λ o. IsInStep t o x.controller.machine (program_in x.controller) x.controller.place) (sym opens) (restamped_step t s x.controller here))
            (All-nil (λ e. ¬ IsTrue (is_done_by x.controller.machine e)))
      ];
    };
  }

  pub all_ready : (s : State) (m : ℕ) (machines : List (PlanMachine D)) → i.opening ≡ restamped s → MayAllGoOn t s m machines → All (λ job. IsReady i job) (jobs_from i m machines)
  all_ready s m [] opens k = All-nil (λ job. IsReady i job)
  all_ready s m (x ∷ later) opens k = All-cons (λ job. IsReady i job) (job_of m x) (jobs_from i (m + 1) later) (ready s m x opens k.0) (all_ready s (m + 1) later opens k.1)

  abbrev pub Recorded : ℕ → List (PlanMachine D) → List (PlanRecorded D) → Type 0
  Recorded m machines backs = HaveRecorded reads drives i gate turns (jobs_from i m machines) backs

  pub first_recorded : (m : ℕ) (x : PlanMachine D) (later : List (PlanMachine D)) (back : PlanRecorded D) (backs : List (PlanRecorded D)) → Recorded m (x ∷ later) (back ∷ backs)
      → HasRecorded reads drives i gate turns (job_of m x) back
  first_recorded m x later back backs k = k 0 (job_of m x) back (omega arith)

  pub later_recorded : (m : ℕ) (x : PlanMachine D) (later : List (PlanMachine D)) (back : PlanRecorded D) (backs : List (PlanRecorded D)) → Recorded m (x ∷ later) (back ∷ backs) → Recorded (m + 1) later backs
  later_recorded m x later back backs k = λ n job b few. k (suc n) job b (omega (arith, few))

  pub jobs_many : (m : ℕ) (machines : List (PlanMachine D)) → length (jobs_from i m machines) ≡ length machines
  jobs_many m [] = refl
  jobs_many m (x ∷ later) = ap suc (jobs_many (m + 1) later)

  -- what comes back is of this interlock
  pub same_tables : (m : ℕ) (machines : List (PlanMachine D)) (backs : List (PlanRecorded D)) → length backs ≡ length machines → Recorded m machines backs → All (λ back. back.worked.pass.table ≡ i.table) backs
  same_tables m [] [] many k = All-nil (λ back. back.worked.pass.table ≡ i.table)
  same_tables m [] (back ∷ backs) many k = absurd (omega (arith, many))
  same_tables m (x ∷ later) [] many k = absurd (omega (arith, many))
  same_tables m (x ∷ later) (back ∷ backs) many k =
      All-cons (λ b. b.worked.pass.table ≡ i.table) back backs (first_recorded m x later back backs k).same.table
      (same_tables (m + 1) later backs (omega (arith, many)) (later_recorded m x later back backs k))

  module _ (s end : State) (history : List Event) (opens : i.opening ≡ restamped s) (sound : (plan_book t).is_sound i.opening) (by_poses : OpensByPoses t i.opening) (legal : IsLegalBy (plan_book t) i.opening history)
      (reached : end ≡ after_by (plan_book t) i.opening history) where
    begins_in_program : (m : ℕ) (c : Control) → MayGoOn t s m c → IsInProgram c
    begins_in_program m c k =
        elim k.place [
          | inl first ↦ inl first
          | inr step ↦ let lines : length (program_in c) ≡ length c.steps = length-map c.steps line_of in let less = step.line in inr (omega (arith, lines, less))
        ]

    one_goes_on : (m : ℕ) (x : PlanMachine D) (back : PlanRecorded D) → HasRecorded reads drives i gate turns (job_of m x) back → MayGoOn t s m x.controller
        → HasPart (plan_book t) i.opening history (view_of back.worked.pass) → MayGoOn t end m back.worked.controller
    one_goes_on m x back k may part =
        let c = back.worked.controller in
        let actor : back.worked.pass.actor ≡ m = k.same.actor in
        let worked = work_in_program _ _ _ _ _ _ k.worked (begins_in_program m x.controller may) in
        let here : IsInProgram c = subst IsInProgram (sym k.control) worked in
        let at = subst (λ o. IsAt t o back.worked.pass.seen c.machine (program_in c) c.place) part.opened k.in_place.at in
        let waits = subst (λ n. Waits (plan_book t) n back.worked.pass.seen history) actor part.seen in
        may_go_on t i.opening end history sound by_poses legal reached m back.worked.pass.seen c (k.in_place.own ∙ actor) waits at here

    pub all_go_on : (m : ℕ) (machines : List (PlanMachine D)) (backs : List (PlanRecorded D)) → length backs ≡ length machines → Recorded m machines backs → MayAllGoOn t s m machines
        → AllHavePart (plan_book t) i.opening history (views_of backs) → MayAllGoOn t end m (map left_by backs)
    all_go_on m machines [] many k may parts = tt
    all_go_on m [] (back ∷ backs) many k may parts = absurd (omega (arith, many))
    all_go_on m (x ∷ later) (back ∷ backs) many k may parts = (
      one_goes_on m x back (first_recorded m x later back backs k) may.0 parts.0,
      all_go_on (m + 1) later backs (omega (arith, many)) (later_recorded m x later back backs k) may.1 parts.1,
    )

  pub opens_soundly : (s : State) → i.opening ≡ restamped s → (plan_book t).is_sound s → (plan_book t).is_sound i.opening
  opens_soundly s opens sound = subst (plan_book t).is_sound (sym opens) (restamped_sound t s sound)

  pub opens_by_poses : (s : State) → i.opening ≡ restamped s → OpensByPoses t s → OpensByPoses t i.opening
  opens_by_poses s opens by_poses = subst (OpensByPoses t) (sym opens) by_poses

  -- at the end of a round all are ready for the next one
  pub ready_after : (s end : State) (machines : List (PlanMachine D)) (backs : List (PlanRecorded D)) (others : Passes) → i.opening ≡ restamped s → AreReadyAt t s machines → length backs ≡ length machines
      → Recorded 0 machines backs → IsEnd (plan_book t) i.opening (given_back others backs) end → AreReadyAt t end (map left_by backs)
  ready_after s end machines backs others opens k many recorded ended =
      let h = ended.history in
      let sound = opens_soundly s opens k.sound in
      let by_poses = opens_by_poses s opens k.by_poses in
      let parts = parts_of t i.opening h others backs ended.parts in record {
        sound = end_sound t i.opening end h sound ended.reached;
        by_poses = end_by_poses t i.opening end h sound by_poses ended.lawful.legal ended.reached;
        all = length-map backs left_by ∙ (many ∙ k.all);
        each = all_go_on s end h opens sound by_poses ended.lawful.legal ended.reached 0 machines backs many recorded k.each parts.0;
      }
