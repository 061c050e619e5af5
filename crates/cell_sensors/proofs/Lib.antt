pub mod lemmas
mod Rounding
mod CurveLemmas
mod CurveNeighbours
mod CurveParts
mod CurveReadings
mod CurveReads
mod CurveFaultLemmas
mod LineCurve
mod ReadingFigures
mod FaultFigures
mod CurveFigures
mod LineFigures
mod SenseFigures
mod EdgeFigures
