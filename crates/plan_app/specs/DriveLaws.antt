-- What each line says of motors that programs run, for all machines, lines, motors, zones and places.
use Rattle.std.specs.Prelude.{◌≡◌, ◌≢◌, ◌+◌, ℕ, Bool, true, false, List, [], ◌++◌, codes, flat_map, length}
use Rattle.std.specs.Prelude.{is_none, slice_get, Option, Some, None}
use Rattle.std.specs.Fmt.{decimal}
use Rattle.std.specs.Global.{Vec}
use Rattle.std.specs.List.{list_all, list_any, range_with_len}
use Rattle.plan_types.specs.declared.call.Call.{Call}
use Rattle.plan_types.specs.declared.posture.Posture.{Posture}
use Rattle.plan_drives.specs.declared.undriven.Lack.TheVariants.{NoSuchMotor, OtherMachine, NotHeld, NotInPosture}
use Rattle.plan_drives.specs.declared.undriven.Lack.TheVariants.{NotFilled}
use Rattle.plan_drives.specs.declared.undriven.Undriven.{Undriven}
use Rattle.plan_controller.specs.declared.step.Step.{Step}
use Rattle.plan_controller.specs.declared.faults.Faults.{Faults}
use Rattle.plan_controller.specs.declared.step.Step.TheVariants.{Do, Await, Run}
use Rattle.plan_text.specs.Answers.{posture_word}
use Rattle.plan_text.specs.Named.{Named}
use Rattle.plan_text.specs.Names.{Text, name_in}
use Rattle.plan_app.specs.Drives.{drive_line, drive_lines, drives_text, is_run, lack_text, runs_motors, undriven_line}

-- what a motor lacks, by the number of a machine, a zone or a place
pub record LacksTell : Type 0 where
  pub no_motor : (n : Named) → lack_text n NoSuchMotor ≡ codes "is no motor of the plan\n"
  pub other : (n : Named) (m : ℕ)
      → lack_text n (OtherMachine m) ≡ codes "is a motor of " ++ (name_in n.machines m ++ codes "\n")
  pub held : (n : Named) (z : ℕ)
      → lack_text n (NotHeld z)
      ≡ codes "needs to hold " ++ (name_in n.zones z ++ codes "; here it may be another's\n")
  pub posture : (n : Named) (z : ℕ) (needed known : Posture)
      → lack_text n (NotInPosture z needed (Some known))
      ≡ codes "needs " ++ (name_in n.zones z ++ (codes " " ++ (posture_word needed ++ (codes "; here it is "
      ++ (posture_word known ++ codes "\n")))))
  pub unknown : (n : Named) (z : ℕ) (needed : Posture)
      → lack_text n (NotInPosture z needed None)
      ≡ codes "needs " ++ (name_in n.zones z ++ (codes " " ++ (posture_word needed
      ++ codes "; here its posture isn't known\n")))
  pub empty : (n : Named) (p : ℕ) (known : Bool)
      → lack_text n (NotFilled p true (Some known))
      ≡ codes "needs " ++ (name_in n.places p ++ codes " full; here it is empty\n")
  pub maybe_empty : (n : Named) (p : ℕ)
      → lack_text n (NotFilled p true None)
      ≡ codes "needs " ++ (name_in n.places p ++ codes " full; here it may be empty\n")
  pub full : (n : Named) (p : ℕ) (known : Bool)
      → lack_text n (NotFilled p false (Some known))
      ≡ codes "needs " ++ (name_in n.places p ++ codes " empty; here it is full\n")
  pub maybe_full : (n : Named) (p : ℕ)
      → lack_text n (NotFilled p false None)
      ≡ codes "needs " ++ (name_in n.places p ++ codes " empty; here it may be full\n")

-- the lines of a program are counted from one
pub record LinesTell : Type 0 where
  pub line : (n : Named) (motors : List Text) (m : ℕ) (u : Undriven)
      → undriven_line n motors m u
      ≡ (name_in n.machines m ++ (codes ", line " ++ (decimal (u.line + 1) ++ (codes ": "
      ++ (name_in motors u.motor ++ codes " "))))) ++ lack_text n u.lack
  -- of each machine the line that it has
  pub undriven : (n : Named) (motors : List Text) (drives : List (Option Undriven)) (m : ℕ) (u : Undriven)
      → slice_get drives m ≡ Some (Some u) → drive_line n motors drives m ≡ undriven_line n motors m u
  pub driven : (n : Named) (motors : List Text) (drives : List (Option Undriven)) (m : ℕ)
      → slice_get drives m ≡ Some None → drive_line n motors drives m ≡ []
  pub no_program : (n : Named) (motors : List Text) (drives : List (Option Undriven)) (m : ℕ)
      → slice_get drives m ≡ None → drive_line n motors drives m ≡ []
  pub all : (n : Named) (motors : List Text) (drives : List (Option Undriven))
      → drive_lines n motors drives
      ≡ flat_map (drive_line n motors drives) (range_with_len 0 (length n.machines))

-- which steps run motors, and what is said where none does, where all are permitted, and else
pub record RunsTell : Type 0 where
  pub runs : (motors until : ℕ) → motors ≢ 0 → is_run (Run motors until) ≡ true
  pub waits : (motors until : ℕ) → motors ≡ 0 → is_run (Run motors until) ≡ false
  pub awaits : (z : ℕ) → is_run (Await z) ≡ false
  pub calls : (call : Call) (faults : Faults) → is_run (Do call faults) ≡ false
  pub program : (program : Vec Step) → runs_motors program ≡ list_any is_run program.items
  pub none : (n : Named) (motors : List Text) (programs : List (Vec Step)) (drives : List (Option Undriven))
      → list_any runs_motors programs ≡ false → drives_text n motors programs drives ≡ []
  pub permitted : (n : Named) (motors : List Text) (programs : List (Vec Step)) (drives : List (Option Undriven))
      → list_any runs_motors programs ≡ true → list_all is_none drives ≡ true
      → drives_text n motors programs drives
      ≡ codes "drives: each motor is permitted where its program runs it\n"
  pub some : (n : Named) (motors : List Text) (programs : List (Vec Step)) (drives : List (Option Undriven))
      → list_any runs_motors programs ≡ true → list_all is_none drives ≡ false
      → drives_text n motors programs drives ≡ drive_lines n motors drives

pub record DrivesTell : Type 0 where
  pub lacks : LacksTell
  pub lines : LinesTell
  pub runs : RunsTell
