-- Elements and parts of pictures, whole: of a press and its loader.
use Rattle.std.specs.Prelude.{◌≡◌, false, true, [], ◌∷◌, ◌++◌, codes}
use Rattle.plan_types.specs.Examples.{open_press_table, press_table, through_table}
use Rattle.plan_motors.specs.declared.exclusion.Cause.TheVariants.{Zone}
use Rattle.plan_motors.specs.declared.verdict.Verdict.TheVariants.{Excluded}
use Rattle.plan_motors.specs.Examples.{arm, hazard, ram}
use Rattle.plan_text.specs.Named.{Named, named}
use Rattle.plan_picture.specs.Elements.{circle, escaped, label, level, slanted, upright}
use Rattle.plan_picture.specs.Pictures as picture
use Rattle.plan_picture.specs.Pictures.{found_by}
use Rattle.plan_picture.specs.Scenes as at
use Rattle.plan_picture.specs.Scenes.{Scene}

abbrev pub press_plan : Named
press_plan =
    named press_table (codes "loader" ∷ codes "press" ∷ []) (codes "interior" ∷ []) (codes "hand" ∷ codes "die" ∷ []) []

abbrev pub press : Scene
press = record {
  named = press_plan;
  motors = ram ∷ arm ∷ [];
  motor_names = codes "ram" ∷ codes "arm_in_press" ∷ [];
  hazards = hazard 0 1 ∷ [];
  hazard_names = codes "arm & ram" ∷ [];
  words = press_plan ∷ [];
  word = 0;
  says_word = false;
}

-- of a plan without motors
abbrev pub only_word : Named → Scene
only_word plan = record {
  named = plan;
  motors = [];
  motor_names = [];
  hazards = [];
  hazard_names = [];
  words = plan ∷ [];
  word = 0;
  says_word = false;
}

-- the press again, whose loader fills its hand from outside and empties it there
abbrev pub open_press : Scene
open_press = only_word (record press_plan { plan = open_press_table })

-- a loader that fills its hand from outside, and empties its tray there
abbrev pub through : Scene
through =
    only_word (named through_table (codes "loader" ∷ codes "press" ∷ []) (codes "interior" ∷ [])
    (codes "hand" ∷ codes "tray" ∷ codes "die" ∷ []) [])

-- a plant on two words: the press, with its motors and its hazard, on each
abbrev pub two_words : Scene
two_words = record press { words = press_plan ∷ press_plan ∷ []; says_word = true }

pub record ElementsAreMet : Type 0 where
  pub entities : escaped (codes "a<b>&\"c' ~") ≡ codes "a&lt;b&gt;&amp;&quot;c&#39; ~"
  pub others :
      escaped (codes " !#$%()*+,-./0123456789:;=?@ABCDEFGHIJKLMNOPQRSTUVWXYZ[\\]^_`abcdefghijklmnopqrstuvwxyz{|}~")
      ≡ codes " !#$%()*+,-./0123456789:;=?@ABCDEFGHIJKLMNOPQRSTUVWXYZ[\\]^_`abcdefghijklmnopqrstuvwxyz{|}~"
  pub unprintable : escaped (31 ∷ 32 ∷ 126 ∷ 127 ∷ 195 ∷ []) ≡ codes "? ~??"
  pub upright : upright (codes "way") 328 274 370
      ≡ codes "<line class=\"way\" x1=\"328\" y1=\"274\" x2=\"328\" y2=\"370\"/>\n"
  pub level : level (codes "source") 270 2 32
      ≡ codes "<line class=\"source\" x1=\"2\" y1=\"270\" x2=\"32\" y2=\"270\"/>\n"
  pub circle : circle (codes "guest") 310 248 7 ≡ codes "<circle class=\"guest\" cx=\"310\" cy=\"248\" r=\"7\"/>\n"
  -- a name of 12 letters fits 112 pixels at 13 a letter, one of 16 doesn't
  pub short : label (codes "danger") 462 298 13 112 (codes "arm_in_press")
      ≡ codes "<text class=\"danger\" x=\"462\" y=\"298\" font-size=\"13\">arm_in_press</text>\n"
  pub long : label (codes "danger") 462 298 13 112 (codes "left_arm_at_rack")
      ≡ codes "<text class=\"danger\" x=\"462\" y=\"298\" font-size=\"11\">left_arm_at_rack</text>\n"
  pub slanted : slanted (codes "hazard") 450 220 15 280 (codes "a & b")
      ≡ codes "<text class=\"hazard\" transform=\"translate(450 220) rotate(-45)\" font-size=\"15\">a &amp; b</text>\n"

-- the machine, its place and its motor; the zone; the hazard
pub record PartsAreMet : Type 0 where
  pub machine : picture.machine_part press 1
      ≡ codes "<rect class=\"lane\" x=\"20\" y=\"326\" width=\"810\" height=\"82\"/>\n"
      ++ (codes "<rect class=\"machine\" x=\"20\" y=\"326\" width=\"260\" height=\"82\"/>\n"
      ++ codes "<text class=\"name\" x=\"30\" y=\"352\" font-size=\"22\">press</text>\n")
  pub place : picture.place_part press 1
      ≡ codes "<circle class=\"place\" cx=\"38\" cy=\"370\" r=\"5\"/>\n"
      ++ codes "<text class=\"place\" x=\"52\" y=\"374\" font-size=\"13\">die</text>\n"
  pub both : picture.place_part open_press 0
      ≡ codes "<circle class=\"place\" cx=\"38\" cy=\"274\" r=\"5\"/>\n"
      ++ (codes "<text class=\"place\" x=\"52\" y=\"278\" font-size=\"13\">hand</text>\n"
      ++ (codes "<line class=\"source\" x1=\"2\" y1=\"270\" x2=\"32\" y2=\"270\"/>\n"
      ++ codes "<line class=\"sink\" x1=\"32\" y1=\"278\" x2=\"2\" y2=\"278\"/>\n"))
  pub source : picture.place_part through 0
      ≡ codes "<circle class=\"place\" cx=\"38\" cy=\"274\" r=\"5\"/>\n"
      ++ (codes "<text class=\"place\" x=\"52\" y=\"278\" font-size=\"13\">hand</text>\n"
      ++ codes "<line class=\"source\" x1=\"2\" y1=\"270\" x2=\"32\" y2=\"270\"/>\n")
  pub sink : picture.place_part through 1
      ≡ codes "<circle class=\"place\" cx=\"38\" cy=\"294\" r=\"5\"/>\n"
      ++ (codes "<text class=\"place\" x=\"52\" y=\"298\" font-size=\"13\">tray</text>\n"
      ++ codes "<line class=\"sink\" x1=\"32\" y1=\"298\" x2=\"2\" y2=\"298\"/>\n")
  pub motor : picture.motor_part press 0
      ≡ codes "<circle class=\"motor\" cx=\"38\" cy=\"390\" r=\"5\"/>\n"
      ++ codes "<text class=\"motor\" x=\"52\" y=\"394\" font-size=\"13\">ram</text>\n"
  pub title : picture.zone_title press 0
      ≡ codes "<text class=\"zone\" transform=\"translate(310 220) rotate(-45)\" font-size=\"15\">interior</text>\n"
  pub parties : picture.parties_part press 0
      ≡ codes "<line class=\"zone\" x1=\"310\" y1=\"344\" x2=\"310\" y2=\"248\"/>\n"
      ++ ((codes "<rect class=\"host\" x=\"303\" y=\"337\" width=\"14\" height=\"14\"/>\n"
      ++ codes "<text class=\"party\" x=\"352\" y=\"348\" font-size=\"13\">press</text>\n")
      ++ (codes "<circle class=\"guest\" cx=\"310\" cy=\"248\" r=\"7\"/>\n"
      ++ codes "<text class=\"party\" x=\"352\" y=\"252\" font-size=\"13\">loader</text>\n"))
  pub ways : picture.ways_part press 0
      ≡ codes "<line class=\"way\" x1=\"328\" y1=\"274\" x2=\"328\" y2=\"370\"/>\n"
      ++ codes "<line class=\"way\" x1=\"342\" y1=\"370\" x2=\"342\" y2=\"274\"/>\n"
  pub ends : picture.ends_part press 0
      ≡ codes "<text class=\"end\" x=\"352\" y=\"278\" font-size=\"13\">hand</text>\n"
      ++ codes "<text class=\"end\" x=\"352\" y=\"374\" font-size=\"13\">die</text>\n"
  pub hazard : picture.hazard_part press (found_by press_plan (Excluded (Zone 0)) ∷ []) 0
      ≡ codes "<text class=\"hazard\" transform=\"translate(450 220) rotate(-45)\" font-size=\"15\">arm &amp; ram"
      ++ (codes "</text>\n<text class=\"kept\" transform=\"translate(474 220) rotate(-45)\" font-size=\"13\">kept apart"
      ++ (codes " by interior</text>\n<line class=\"hazard\" x1=\"450\" y1=\"390\" x2=\"450\" y2=\"294\"/>\n"
      ++ (codes "<text class=\"danger\" x=\"462\" y=\"394\" font-size=\"13\">ram</text>\n"
      ++ codes "<text class=\"danger\" x=\"462\" y=\"298\" font-size=\"13\">arm_in_press</text>\n")))
  pub head : picture.head (at.width press) (at.height press)
      ≡ codes "<svg xmlns=\"http://www.w3.org/2000/svg\" width=\"810\" height=\"492\" viewBox=\"0 0 810 492\" "
      ++ codes "font-family=\"monospace\">\n"

-- of the second word: a place, the zone's name and its word, and a way; the line before its columns; and where the
-- hazards begin
pub record WordsAreMet : Type 0 where
  pub place : picture.place_part (at.on_word two_words 1) 1
      ≡ codes "<circle class=\"place\" cx=\"38\" cy=\"410\" r=\"5\"/>\n"
      ++ codes "<text class=\"place\" x=\"52\" y=\"414\" font-size=\"13\">die</text>\n"
  pub title : picture.zone_title (at.on_word two_words 1) 0
      ≡ codes "<text class=\"zone\" transform=\"translate(450 220) rotate(-45)\" font-size=\"15\">interior</text>\n"
  pub word : picture.word_title (at.on_word two_words 1) 0
      ≡ codes "<text class=\"word\" transform=\"translate(498 220) rotate(-45)\" font-size=\"13\">word 1</text>\n"
  pub ways : picture.ways_part (at.on_word two_words 1) 0
      ≡ codes "<line class=\"way\" x1=\"468\" y1=\"294\" x2=\"468\" y2=\"410\"/>\n"
      ++ codes "<line class=\"way\" x1=\"482\" y1=\"410\" x2=\"482\" y2=\"294\"/>\n"
  pub line : picture.word_line (at.on_word two_words 1)
      ≡ codes "<line class=\"word\" x1=\"432\" y1=\"226\" x2=\"432\" y2=\"452\"/>\n"
  pub hazard : picture.hazard_title two_words 0
      ≡ codes "<text class=\"hazard\" transform=\"translate(590 220) rotate(-45)\" font-size=\"15\">arm &amp; ram"
      ++ codes "</text>\n"
  -- the picture of a plan has none of these
  pub no_word : picture.word_title press 0 ≡ []
  pub no_line : picture.word_line press ≡ []
