-- The refusals by their numbers on the list, and what a result of the code says in the terms of `Verdict` and `Answer`.
use Rattle.std.specs.Prelude.{ℕ, List, [], ◌∷◌, Result, Ok, Err}
use Rattle.base.specs.Answer.{Verdict, accepts, refuses, Answer, figures, refusal}
use Rattle.base.specs.declared.refusal.Refusal.{Refusal}
use Rattle.base.specs.declared.refusal.Refusal.TheVariants.{ShortBuffer, LongSheet, NoLine, WrongLetter, LineLength, NotNumber, TableLine, RowLine, Count, CarNumber, NumberHeld, UnknownType, GradeOrStick, ReadingCount, ReadingsDiffer, Level, WaterLevel, Temperature, Density, Content, Density20, NotWritable, ReadingsSpan, GivenError, LevelTerm, ReportTemperature, NoSuchDensity, TapeCount, TapeReading, NotHeld, ProbeNumber, ProbeTenths, TypesClash, HeldTwice, TooMany}

abbrev pub refusal_number : Refusal → ℕ
refusal_number ShortBuffer = 1
refusal_number LongSheet = 2
refusal_number NoLine = 3
refusal_number WrongLetter = 4
refusal_number LineLength = 5
refusal_number NotNumber = 6
refusal_number TableLine = 7
refusal_number RowLine = 8
refusal_number Count = 9
refusal_number CarNumber = 10
refusal_number NumberHeld = 11
refusal_number UnknownType = 12
refusal_number GradeOrStick = 13
refusal_number ReadingCount = 14
refusal_number ReadingsDiffer = 15
refusal_number Level = 16
refusal_number WaterLevel = 17
refusal_number Temperature = 18
refusal_number Density = 19
refusal_number Content = 20
refusal_number Density20 = 21
refusal_number NotWritable = 22
refusal_number ReadingsSpan = 23
refusal_number GivenError = 24
refusal_number LevelTerm = 25
refusal_number ReportTemperature = 26
refusal_number NoSuchDensity = 27
refusal_number TapeCount = 28
refusal_number TapeReading = 29
refusal_number NotHeld = 30
refusal_number ProbeNumber = 31
refusal_number ProbeTenths = 32
refusal_number TypesClash = 33
refusal_number HeldTwice = 34
refusal_number TooMany = 35

-- a test's result as a verdict
abbrev pub verdict_told : {A : Type 0} → Result A Refusal → Verdict
verdict_told (Ok a) = accepts
verdict_told (Err r) = refuses (refusal_number r)

-- an operation's result as an answer, by the figures that a value is shown as
abbrev pub told : {A : Type 0} → (A → List ℕ) → Result A Refusal → Answer
told shown (Ok a) = figures (shown a)
told shown (Err r) = refusal (refusal_number r)

-- one that gives one figure
abbrev pub figure_told : Result ℕ Refusal → Answer
figure_told = told (λ n. n ∷ [])
