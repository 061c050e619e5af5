-- The words of all steps, and what the program's words ask for, in literal text.
use Rattle.std.specs.Prelude.{◌≡◌, ℕ, List, [], ◌∷◌, ◌++◌, codes, map, Option, Some, None}
use Rattle.film_app.specs.Fields.{by_commas}
use Rattle.film_app.specs.Served.{request_of}
use Rattle.cell_belts_crane.specs.FeedProgram as feed_program
use Rattle.cell_belts_crane.specs.DepositProgram as deposit_program
use Rattle.cell_belts_crane.specs.CraneProgram as crane_program
use Rattle.cell_robot.specs.RobotKeeps as robot_program
use Rattle.cell_table_press.specs.PressProgram as press_program
use Rattle.cell_table_press.specs.TableProgram as table_program
use Rattle.film_app.specs.declared.request.Request.{Request}
use Rattle.film_app.specs.declared.request.Request.TheVariants.{Film, Loop, Help, Version}

-- each machine's steps, in the order of its round
pub record StepsAreMet : Type 0 where
  pub feed :
      by_commas (map feed_program.word_at feed_program.steps)
      ≡ codes "claim entry,pose landing,release entry,take plate,start in,run in,move on,claim exit,"
      ++ codes "start out,run out,halt,give plate"
  pub table :
      by_commas (map table_program.word_at table_program.steps)
      ≡ codes "claim entry,claim exit,leave for loading,move to loading,pose loading,release entry,"
      ++ codes "take plate,leave for unloading,move to unloading,pose unloading,give plate,claim back"
  pub robot :
      by_commas (map robot_program.word_at robot_program.steps)
      ≡ codes "turn to table,await plate,reach table,grip plate,leave table,take plate,"
      ++ codes "release table,turn to load,claim press,inspect press,release press,reach to load,"
      ++ codes "drop in press,leave loaded,give to press,turn to unload,await forged,reach to unload,"
      ++ codes "grip forged,leave unloaded,take forged,release unloaded,turn to deposit,"
      ++ codes "claim deposit,reach deposit,drop on deposit,leave deposit,give to deposit"
  pub press :
      by_commas (map press_program.word_at press_program.steps)
      ≡ codes "claim first,leave for middle,move to middle,pose middle,release interior,take plate,"
      ++ codes "leave for top,move to top,pose top,forge,leave for bottom,move to bottom,pose low,"
      ++ codes "give plate,claim back"
  pub deposit :
      by_commas (map deposit_program.word_at deposit_program.steps)
      ≡ codes "claim entry,claim exit,pose landing,release entry,take plate,start run,run in,"
      ++ codes "run out,move on,pose offering,give plate,claim back"
  pub crane :
      by_commas (map crane_program.word_at crane_program.steps)
      ≡ codes "raise to fetch,travel to deposit,await plate,lower to plate,grip plate,"
      ++ codes "raise with plate,take plate,release deposit,travel to feed,claim feed,lower to feed,"
      ++ codes "drop plate,raise from feed,give plate"

-- these words after the program's name ask for this
abbrev pub asked_after_name : List (List ℕ) → Option Request
asked_after_name words = request_of (codes "film" ∷ words)

pub record RequestsAreMet : Type 0 where
  pub no_name : request_of [] ≡ None
  pub nothing : asked_after_name [] ≡ Some Film
  pub loop : asked_after_name (codes "--loop" ∷ []) ≡ Some Loop
  pub help : asked_after_name (codes "--help" ∷ []) ≡ Some Help
  pub help_of_word : asked_after_name (codes "--loop" ∷ codes "--help" ∷ []) ≡ Some Help
  pub help_of_other_word : asked_after_name (codes "--all" ∷ codes "--help" ∷ []) ≡ None
  pub version : asked_after_name (codes "--version" ∷ []) ≡ Some Version
  pub other_word : asked_after_name (codes "--loops" ∷ []) ≡ None
  pub word_more : asked_after_name (codes "--loop" ∷ codes "--loop" ∷ []) ≡ None
