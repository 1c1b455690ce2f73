-- What inner functions ask for; it is no part of what a table means.
use Rattle.std.specs.Prelude.{ℕ, ◌≡◌, List}
use Rattle.base.specs.Answer.{accepts}
use Rattle.table.specs.Table.{tables_verdict}
use Rattle.table.specs.Layout.{tables_of}
use Rattle.table.specs.declared.Directory.{Directory}
use Rattle.table.specs.declared.Tables.{Tables}

-- tables to which neither 7 nor 8 applies
pub record Good (d : Directory) (levels capacities : List ℕ) : Type 0 where
  pub accepted : tables_verdict (tables_of d levels capacities) ≡ accepts

abbrev pub GoodTables : Tables → Type 0
GoodTables t = Good (record { count = t.count; types = t.types; rows = t.rows }) t.levels.now t.capacities.now
