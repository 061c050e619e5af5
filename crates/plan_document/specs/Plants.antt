-- What a document says of a plant on several words: each word has the plan of its own document.
use Rattle.std.specs.Prelude.{◌≡◌, ℕ, List, length, Some, slice_get, IsTrue}
use Rattle.std.specs.List.{AllZip, list_all}
use Rattle.toml.specs.Parse.{parse_document}
use Rattle.toml.specs.Data.{Members}
use Rattle.plan_types.specs.declared.table.PlanPose.{PlanPose}
use Rattle.plan_types.specs.Table.{PlanTable}
use Rattle.plan_text.specs.Names.{Text}
use Rattle.plan_text.specs.Answers.{posture_of}
use Rattle.plan_words.specs.Plant.{PlantWords, IsOnWords, word_at}
use Rattle.plan_document.specs.declared.document.Document.{Document}
use Rattle.plan_document.specs.declared.document.PoseRow.{PoseRow}
use Rattle.plan_document.specs.declared.plant_programs.PlantLines.{PlantLines}
use Rattle.plan_document.specs.declared.plants.ProgrammedPlant.{ProgrammedPlant}
use Rattle.plan_document.specs.declared.plants.WordPlans.{WordPlans}
use Rattle.plan_document.specs.declared.resolving.ProgrammedPlan.{ProgrammedPlan}
use Rattle.plan_document.specs.Names.{AreDistinct, all_poses, machine_names, place_names, zone_names}
use Rattle.plan_document.specs.OnWord.{texts_on}
use Rattle.plan_document.specs.PlantPrograms.{ArePlantPrograms}
use Rattle.plan_document.specs.Postures.{AreGivenBelow}
use Rattle.plan_document.specs.Reading.{IsDocumentIn}
use Rattle.plan_document.specs.Saying.{IsPlanOf, IsZoneOf, has_ends, place_rows}
use Rattle.plan_document.specs.Texts.{document_texts}

-- a pose in a plant's table: as in a plan's, but of forty zones
pub record IsPlantPoseOf (zones : List Text) (row : ℕ × PoseRow) (pose : PlanPose) : Type 0 where
  pub machine : pose.machine ≡ row.0
  pub after_moving : pose.after_moving ≡ row.1.after_moving
  pub gives : AreGivenBelow 40 posture_of zones row.1.gives.items pose.gives

-- each table of the plant has a row for each row of the document, and each name in it is looked up
pub record IsPlantTableOf (d : Document) (t : PlanTable) : Type 0 where
  pub distinct_machines : AreDistinct (machine_names d.machines.items)
  pub distinct_zones : AreDistinct (zone_names d.zones.items)
  pub distinct_places : AreDistinct (place_names d.machines.items)
  pub machines : t.machines ≡ length d.machines.items
  pub zones : AllZip (IsZoneOf (machine_names d.machines.items) (place_names d.machines.items)) d.zones.items t.zones
  pub poses : AllZip (IsPlantPoseOf (zone_names d.zones.items)) (all_poses d.machines.items) t.poses
  pub places : t.places ≡ place_rows d.machines.items
  pub ends : IsTrue (list_all has_ends d.machines.items)

-- a plan is that of a document which has the rows of one word
pub record IsWordPlanBy (d : Document) (words : PlantWords) (word : ℕ) (part : Document) (plan : ProgrammedPlan)
    : Type 0 where
  pub rows : document_texts part ≡ texts_on (document_texts d) (word_at words word).group
  pub says : IsPlanOf part plan

abbrev pub IsWordPlanOf : Document → PlantWords → ℕ → ProgrammedPlan → Type 0
IsWordPlanOf d words word plan = (part : Document) × IsWordPlanBy d words word part plan

-- each word has the plan of its document
abbrev pub AreWordPlansOf : Document → PlantWords → List ProgrammedPlan → Type 0
AreWordPlansOf d words plans =
    (word : ℕ) (plan : ProgrammedPlan) → slice_get plans word ≡ Some plan → IsWordPlanOf d words word plan

-- the same with these documents
pub record AreWordPlansBy (d : Document) (words : PlantWords) (made : WordPlans) : Type 0 where
  pub count : length made.documents.items ≡ length made.plans.items
  pub plans : (word : ℕ) (part : Document) (plan : ProgrammedPlan) → slice_get made.documents.items word ≡ Some part
      → slice_get made.plans.items word ≡ Some plan → IsWordPlanBy d words word part plan

abbrev pub AreMadeFor : PlantLines → Type 0
AreMadeFor lines = AreWordPlansBy lines.document.now lines.words.now lines.made.now

-- the plant of a document: it is laid out on words, each has its plan, and each machine's program asks by them
pub record IsPlantOf (d : Document) (plant : ProgrammedPlant) : Type 0 where
  pub table : IsPlantTableOf d plant.words.plant
  pub laid_out : IsOnWords plant.words
  pub count : length plant.plans.items ≡ length plant.words.words
  pub plans : AreWordPlansOf d plant.words plant.plans.items
  pub programs : ArePlantPrograms d plant.words plant.plans.items plant.programs

-- the plant that the rows in a table say, and that which bytes say
pub record IsPlantOfTable (members : Members) (plant : ProgrammedPlant) : Type 0 where
  pub document : Document
  pub rows : IsDocumentIn members document
  pub says : IsPlantOf document plant

pub record IsPlantIn (bytes : List ℕ) (plant : ProgrammedPlant) : Type 0 where
  pub members : Members
  pub is_toml : parse_document bytes ≡ Some members
  pub says : IsPlantOfTable members plant
