-- The refusals that a line of a program names: they stop its machine, though others' calls may mend them.
use Rattle.std.specs.Prelude.{◌≡◌, List, codes, find, Option, is_some, IsTrue}
use Rattle.std.specs.List.{list_all, list_any}
use Rattle.std.specs.Str.{bytes_eq}
use Rattle.plan_controller.specs.declared.faults.Faults.{Faults}
use Rattle.plan_controller.specs.declared.faults.Mendable.{Mendable}
use Rattle.plan_controller.specs.declared.faults.Mendable.TheVariants.{Held, Shut, NotOwner, PlateInZone, NoPlate}
use Rattle.plan_controller.specs.declared.faults.Mendable.TheVariants.{PlaceFull, WrongWay, Stopped}
use Rattle.plan_controller.specs.Faults.{all_mendable, has}
use Rattle.plan_text.specs.Names.{Text}
use Rattle.plan_document.specs.Names.{AreDistinct}

-- the first word of its answer
abbrev pub fault_word : Mendable → Text
fault_word Held = codes "held"
fault_word Shut = codes "shut"
fault_word NotOwner = codes "notowner"
fault_word PlateInZone = codes "platein"
fault_word NoPlate = codes "noplate"
fault_word PlaceFull = codes "placefull"
fault_word WrongWay = codes "wrongway"
fault_word Stopped = codes "stopped"

abbrev pub fault_of : Text → Option Mendable
fault_of word = find (λ fault. bytes_eq word (fault_word fault)) all_mendable

-- each word is that of such a refusal, none stands twice, and the refusals whose words stand there are the faults
pub record AreFaults (words : List Text) (faults : Faults) : Type 0 where
  pub known : IsTrue (list_all (λ word. is_some (fault_of word)) words)
  pub named : (fault : Mendable) → has faults fault ≡ list_any (λ word. bytes_eq word (fault_word fault)) words
  pub once : AreDistinct words
