-- Fields and lines of a film, and its page, whatever their numbers are.
use Rattle.std.specs.Prelude.{◌≡◌, ◌<◌, ◌≤◌, ℕ, suc, pos, negsuc, true, false, List, [], ◌++◌, codes}
use Rattle.std.specs.Prelude.{Some, Ok}
use Rattle.std.specs.Fmt.{decimal, digits}
use Rattle.cell_types.specs.Answers.{answer_text}
use Rattle.cell_rules.specs.Types.{Answer, Settled, Busy, flag_word}
use Rattle.cell_rules.specs.Names.{ModelState}
use Rattle.cell_word.specs.Layout.{packed}
use Rattle.cell_devices.specs.declared.motor.Motor.TheVariants.{Plus, Minus}
use Rattle.cell_parts.specs.declared.belt.Belt.{Belt}
use Rattle.cell_parts.specs.declared.plant.CranePlant.{CranePlant}
use Rattle.cell_parts.specs.declared.plant.RobotPlant.{RobotPlant}
use Rattle.cell_parts.specs.declared.plant.TablePlant.{TablePlant}
use Rattle.film_app.specs.Fields.{axis_text, belt_text, crane_text, plate_text, reply_text, robot_text, table_text}
use Rattle.film_app.specs.Fields.{word_text}
use Rattle.film_app.specs.Lines.{Fields, changes_text, is_same, turn_line}
use Rattle.film_app.specs.Pages.{cut_line, page_text}
use Rattle.film_app.specs.declared.page_head.TheConstants.{PAGE_HEAD}
use Rattle.film_app.specs.declared.page_tail.TheConstants.{PAGE_TAIL}

pub record FieldsByNumber : Type 0 where
  pub drives_up : (n : ℕ) → axis_text (record { position = pos n; motor = Plus }) ≡ decimal n ++ codes "+"
  pub drives_down : (n : ℕ) → axis_text (record { position = pos n; motor = Minus }) ≡ decimal n ++ codes "-"
  pub below_nought : (n : ℕ) → axis_text (record { position = negsuc n; motor = Plus })
      ≡ codes "-" ++ (decimal (suc n) ++ codes "+")
  pub plate : (n : ℕ) → plate_text (Some (pos n)) ≡ decimal n
  pub plate_below_nought : (n : ℕ) → plate_text (Some (negsuc n)) ≡ codes "-" ++ decimal (suc n)
  pub belt : (b : Belt) → belt_text b
      ≡ plate_text b.entry ++ (codes "," ++ (plate_text b.last ++ (codes "," ++ flag_word b.runs)))
  pub table : (t : TablePlant) → table_text t ≡ axis_text t.lift ++ (codes "," ++ axis_text t.turn)
  pub robot : (r : RobotPlant) → robot_text r
      ≡ axis_text r.arm1 ++ (codes "," ++ (axis_text r.arm2 ++ (codes "," ++ (axis_text r.rotation
      ++ (codes "," ++ (flag_word r.magnet1 ++ (codes "," ++ flag_word r.magnet2)))))))
  pub crane : (c : CranePlant) → crane_text c
      ≡ axis_text c.travel ++ (codes "," ++ (axis_text c.gripper ++ (codes "," ++ flag_word c.magnet)))
  pub word : (s : ModelState) → word_text s ≡ digits 16 false (packed s)
  pub settled : (answer : Answer) (stamp : ℕ) → reply_text (Ok (Settled answer stamp)) ≡ answer_text answer
  pub busy : (lost stamp : ℕ) → reply_text (Ok (Busy lost stamp)) ≡ codes "busy"
  pub same_line : (letter : List ℕ) (old new : Fields) → is_same old new ≡ true
      → turn_line letter old new ≡ letter ++ []
  pub changed_line : (letter : List ℕ) (old new : Fields) → is_same old new ≡ false
      → turn_line letter old new ≡ letter ++ (codes ";" ++ changes_text old new)
  pub uncut : (turns : ℕ) → turns ≤ 100000 → cut_line turns ≡ []
  pub cut : (turns : ℕ) → 100000 < turns → cut_line turns ≡ codes "cut " ++ (decimal turns ++ codes "\n")
  pub page : (lines : List ℕ) (turns : ℕ) → page_text lines turns
      ≡ PAGE_HEAD.now ++ (lines ++ (cut_line turns ++ PAGE_TAIL.now))
