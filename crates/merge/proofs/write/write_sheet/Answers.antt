-- `merge::write::write_sheet` meets its contract: the tables, the cars, then E.
use Prim.Native.Nat.{ℕ, ◌+◌}
use mathlib.Core.Path.{◌≡◌, ap, ◌∙◌}
use mathlib.Core.List.{List}
use Rattle.base.specs.Buffer.{put}
use Rattle.reading.specs.declared.letter.Line.{Line}
use Rattle.reading.specs.Letter.{width_of}
use Rattle.line.specs.Writing.{line_of}
use Rattle.grammar.specs.Grammar.{e_line}
use Rattle.merge_write.specs.Inner.{car_lines, tables_text}
use lib.ListN.{length}
use Rattle.merge.proofs.Fitting.{end_room, parts-length, parts_at, parts_laid}
use native.Mathlib.Omega.{arith}
use Rattle.merge.proofs.write.write_sheet.Goals as goal

pub append_line-requires : goal.append_line-requires
append_line-requires c =
    let l = parts-length (tables_text c.args.first.now c.args.second.now c.args.tables.now) (car_lines c.args.first.now c.args.second.now c.args.cars.now) (length c.args.cars.now) in
    rw c.end_line.ensures (end_room (length c.args.cars.now) _ _ c.requires.sixty (omega (arith, l, c.requires.space, c.write_cars-last.ensures.0, c.write_tables-behind.ensures.0, c.write_cars-last.auto.out, c.write_tables-behind.auto.out)))

pub returns : goal.returns
returns c =
    let out₂ : List ℕ = c.write_cars-last.new.out in
    let at₂ : ℕ = c.write_cars-last.result in
    let e₃ : c.append_line.new.out ≡ put out₂ at₂ (line_of (e_line (length c.args.cars.now))) = c.append_line.ensures.1 ∙ ap (λ (l : Line). put out₂ at₂ (line_of l)) c.end_line.ensures in
    let p₃ : c.append_line.result ≡ at₂ + 11 = c.append_line.ensures.0 ∙ ap (λ (l : Line). at₂ + width_of l.letter) c.end_line.ensures in (
      parts_at (tables_text c.args.first.now c.args.second.now c.args.tables.now) (car_lines c.args.first.now c.args.second.now c.args.cars.now) (length c.args.cars.now) c.args.out.now c.requires.space c.write_tables-behind.new.out out₂ c.append_line.new.out c.write_tables-behind.result at₂ c.append_line.result
          c.write_tables-behind.ensures.1 c.write_tables-behind.ensures.0 c.write_cars-last.ensures.1 c.write_cars-last.ensures.0 e₃ p₃,
      parts_laid (tables_text c.args.first.now c.args.second.now c.args.tables.now) (car_lines c.args.first.now c.args.second.now c.args.cars.now) (length c.args.cars.now) c.args.out.now c.requires.space c.write_tables-behind.new.out out₂ c.append_line.new.out c.write_tables-behind.result at₂ c.append_line.result
          c.write_tables-behind.ensures.1 c.write_tables-behind.ensures.0 c.write_cars-last.ensures.1 c.write_cars-last.ensures.0 e₃ p₃,
    )
