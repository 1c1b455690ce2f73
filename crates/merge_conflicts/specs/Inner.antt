-- What inner functions tell that compare two sheets; it is no part of what a merged sheet means.
use Rattle.std.specs.Prelude.{ℕ, zero, suc, ◌+◌, Bool, true, not, ◌&&◌, List, eqb, get_or, take}
use Rattle.base.specs.Numbers.{member}
use Rattle.table.specs.Table.{Row, Table, unknown, rows_of}
use Rattle.table.specs.declared.Tables.{Tables}
use Rattle.merge_spec.specs.Merge.{same_rows}

-- n numbers of xs from `at` on are those of ys from `at'` on
abbrev pub same_run : List ℕ → List ℕ → ℕ → ℕ → ℕ → Bool
same_run xs ys at at' zero = true
same_run xs ys at at' (suc n) = eqb (get_or xs at 0) (get_or ys at' 0) && same_run xs ys (at + 1) (at' + 1) n

-- a type of these rows has others among the tables us
abbrev pub table_differs : ℕ → List Row → List Table → Bool
table_differs kind rows us = not (unknown kind us) && not (same_rows rows (rows_of kind us))

-- a type is among those of u and not of t
abbrev pub only_there : Tables → Tables → ℕ → Bool
only_there t u kind = not (member kind (take t.count t.types)) && member kind (take u.count u.types)
