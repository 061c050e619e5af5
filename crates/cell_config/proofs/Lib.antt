pub mod lemmas
mod Names
mod Tests
mod LetterLemmas
mod Turns
mod SettingsLemmas
mod MeasuredLemmas
mod CurveChoices
mod AxisScales
mod SectionOrder
mod ConfigRows
mod PartRows
mod SectionRows
mod Refusals
mod AllRead
