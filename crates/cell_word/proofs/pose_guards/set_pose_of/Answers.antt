use Rattle.cell_word.proofs.Names.{◌≡◌, ℕ, Result, Ok, Option, is_none, List, [], ◌∷◌, ◌++◌, refl, sym, ap, ap₂, subst, ◌∙◌, Machine, Zone, Pose, Posture, SetPose, Refusal, NoPose, when, anything, both, guard, first_refusal, unless, Pattern, Guard}
use Rattle.std.proofs.Common.{append_assoc}
use Rattle.cell_word.specs.Changes as changes
use Rattle.cell_word.specs.Guards as guards
use Rattle.cell_word.proofs.Trying.{by_parts, InTurn, ends, past, refused_by}
use Rattle.cell_word.proofs.pose_guards.set_pose_of.Goals as goal

abbrev parts : Machine → Pose → Option (Zone × Posture) → Option (Zone × Posture) → List (List Guard)
parts m p one other =
    (guard (when (is_none one) anything) NoPose ∷ [])
    ∷ (guards.moves_while_stopped p ∷ [])
    ∷ (guards.on_posed guards.owner_guards one ++ (guards.on_posed guards.owner_guards other ++ (guards.on_posed guards.plate_guards one ++ guards.on_posed guards.plate_guards other)))
    ∷ (guards.on_posed (guards.jump_guards m p) one ++ (guards.on_posed (guards.jump_guards m p) other ++ (guards.on_posed guards.opening_guards one ++ (guards.on_posed guards.opening_guards other ++ guards.run_guards m p))))
    ∷ (guards.worn ∷ [])
    ∷ []

regrouped : (a b c d e f g h i j : List Guard) → a ++ b ++ c ++ d ++ e ++ f ++ g ++ h ++ i ++ j ≡ (a ++ (b ++ (c ++ d))) ++ ((e ++ (f ++ (g ++ (h ++ i)))) ++ j)
regrouped a b c d e f g h i j = simp append_assoc refl

-- the row of a pose, part by part, by the zones that it gives a posture
row_is : (w : ℕ) (m : Machine) (p : Pose) (one other : Option (Zone × Posture)) (written : Pattern) → one ≡ guards.posed_at m p (guards.hosted_zones m).0 → other ≡ guards.posed_at m p (guards.hosted_zones m).1
    → InTurn w (parts m p one other) (Ok written) (unless (first_refusal w (guards.pose_guards m p)) written)
row_is w m p one other written first second =
    record {
      is = ap₂ (λ a b. unless (first_refusal w (guards.pose_guards_at m p a b)) written) (sym first) (sym second)
          ∙ ap (λ (row : List Guard). unless (first_refusal w (guard (when (is_none one) anything) NoPose ∷ guards.moves_while_stopped p ∷ row)) written)
          (regrouped (guards.on_posed guards.owner_guards one) (guards.on_posed guards.owner_guards other) (guards.on_posed guards.plate_guards one) (guards.on_posed guards.plate_guards other)
          (guards.on_posed (guards.jump_guards m p) one) (guards.on_posed (guards.jump_guards m p) other) (guards.on_posed guards.opening_guards one) (guards.on_posed guards.opening_guards other)
          (guards.run_guards m p) (guards.worn ∷ []))
          ∙ (by_parts w (parts m p one other) written).is;
    }

-- the row if the zones are known
row_at : (w : ℕ) (m : Machine) (p : Pose) (zones : Option Zone × Option Zone) (one other : Option (Zone × Posture)) → zones ≡ guards.hosted_zones m → one ≡ guards.posed_at m p zones.0 → other ≡ guards.posed_at m p zones.1
    → InTurn w (parts m p one other) (Ok (changes.written m (SetPose p))) (unless (first_refusal w (guards.pose_guards m p)) (changes.written m (SetPose p)))
row_at w m p zones one other hosts first second =
    row_is w m p one other (changes.written m (SetPose p)) (first ∙ ap (λ h. guards.posed_at m p h.0) hosts) (second ∙ ap (λ h. guards.posed_at m p h.1) hosts)

-- the machine by its other name
by_name : (w : ℕ) (p : Pose) {m n : Machine} {r : Result Pattern Refusal} → m ≡ n → r ≡ unless (first_refusal w (guards.pose_guards m p)) (changes.written m (SetPose p)) → r ≡ unless (first_refusal w (guards.pose_guards n p)) (changes.written n (SetPose p))
by_name w p {m} {n} {r} same answers = subst (λ x. r ≡ unless (first_refusal w (guards.pose_guards x p)) (changes.written x (SetPose p))) same answers

pub returns-in_err-require_pose : goal.returns-in_err-require_pose
returns-in_err-require_pose g c = by_name c.args.word c.args.pose c.MACHINE-machine.ensures (refused_by (row_at _ _ _ _ _ _ c.hosted_zones-one.ensures c.posed_at-one.ensures c.posed_at-other.ensures) (c.require_pose.ensures c.args.word) c.in_err-require_pose.was c.from_residual.ensures.1)

pub returns-in_err-require_running_to_move : goal.returns-in_err-require_running_to_move
returns-in_err-require_running_to_move g c = by_name c.args.word c.args.pose c.MACHINE-machine.ensures (refused_by (past (row_at _ _ _ _ _ _ c.hosted_zones-one.ensures c.posed_at-one.ensures c.posed_at-other.ensures) (c.require_pose.ensures c.args.word) c.in_ok-require_pose.was) c.require_running_to_move.ensures c.in_err-require_running_to_move.was c.from_residual-in_err-require_running_to_move.ensures.1)

pub returns-in_err-require_owned_clear_zones : goal.returns-in_err-require_owned_clear_zones
returns-in_err-require_owned_clear_zones g c = by_name c.args.word c.args.pose c.MACHINE-machine.ensures (refused_by (past (past (row_at _ _ _ _ _ _ c.hosted_zones-one.ensures c.posed_at-one.ensures c.posed_at-other.ensures) (c.require_pose.ensures c.args.word) c.in_ok-require_pose.was) c.require_running_to_move.ensures c.in_ok-require_running_to_move.was) c.require_owned_clear_zones.ensures c.in_err-require_owned_clear_zones.was c.from_residual-in_err-require_owned_clear_zones.ensures.1)

pub returns-in_err-require_allowed_pose : goal.returns-in_err-require_allowed_pose
returns-in_err-require_allowed_pose g c = by_name c.args.word c.args.pose c.MACHINE-machine.ensures (refused_by (past (past (past (row_at _ _ _ _ _ _ c.hosted_zones-one.ensures c.posed_at-one.ensures c.posed_at-other.ensures) (c.require_pose.ensures c.args.word) c.in_ok-require_pose.was) c.require_running_to_move.ensures c.in_ok-require_running_to_move.was) c.require_owned_clear_zones.ensures c.in_ok-require_owned_clear_zones.was) c.require_allowed_pose.ensures c.in_err-require_allowed_pose.was c.from_residual-in_err-require_allowed_pose.ensures.1)

pub returns-in_err-require_stamp : goal.returns-in_err-require_stamp
returns-in_err-require_stamp g c = by_name c.args.word c.args.pose c.MACHINE-machine.ensures (refused_by (past (past (past (past (row_at _ _ _ _ _ _ c.hosted_zones-one.ensures c.posed_at-one.ensures c.posed_at-other.ensures) (c.require_pose.ensures c.args.word) c.in_ok-require_pose.was) c.require_running_to_move.ensures c.in_ok-require_running_to_move.was) c.require_owned_clear_zones.ensures c.in_ok-require_owned_clear_zones.was) c.require_allowed_pose.ensures c.in_ok-require_allowed_pose.was) c.require_stamp.ensures c.in_err-require_stamp.was c.from_residual-in_err-require_stamp.ensures.1)

pub returns : goal.returns
returns g c =
    let first = c.posed_at-one.ensures ∙ ap (λ h. guards.posed_at c.MACHINE-machine.result c.args.pose h.0) c.hosted_zones-one.ensures in
    let second = c.posed_at-other.ensures ∙ ap (λ h. guards.posed_at c.MACHINE-machine.result c.args.pose h.1) c.hosted_zones-one.ensures in
    let written = c.and.ensures ∙ ap₂ both (c.posture_pattern.ensures ∙ ap changes.posture_pattern first) (c.posture_pattern-2.ensures ∙ ap changes.posture_pattern second) in
    by_name c.args.word c.args.pose c.MACHINE-machine.ensures (ends (past (past (past (past (past (row_at _ _ _ _ _ _ c.hosted_zones-one.ensures c.posed_at-one.ensures c.posed_at-other.ensures) (c.require_pose.ensures c.args.word) c.in_ok-require_pose.was) c.require_running_to_move.ensures c.in_ok-require_running_to_move.was) c.require_owned_clear_zones.ensures c.in_ok-require_owned_clear_zones.was) c.require_allowed_pose.ensures c.in_ok-require_allowed_pose.was) c.require_stamp.ensures c.in_ok-require_stamp.was) (ap Ok written))
