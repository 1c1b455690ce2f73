-- What a place of a train holds beside the number, by the car's answer.
use Rattle.std.specs.Prelude.{ℕ, Result, Ok, Err}
use Rattle.base.specs.declared.refusal.Refusal.{Refusal}
use Rattle.car.specs.declared.Figures.{Figures}
use Rattle.entering.specs.declared.Load.{Load}

abbrev pub load_as : ℕ → Result Figures Refusal → Load
load_as grade (Ok f) = record { grade = grade; gross = f.gross; net = f.net }
load_as grade (Err r) = record { grade = 0; gross = 0; net = 0 }
