-- `merge::whole_sheet` meets its contract: of a whole sheet few lines stand behind the tables.
use borrow.Author.Rules.{rules}
use Rattle.merge.proofs.Answers.{few_read}
use Rattle.merge.proofs.whole_sheet.Goals as goal

pub overflow_add-result : goal.overflow_add-result
overflow_add-result c =
    let a = c.args in
    let few = few_read a.text.now a.contents a.levels.now a.capacities.now a.fields.now c.requires.0 c.requires.1 in
    search (rules, few)
