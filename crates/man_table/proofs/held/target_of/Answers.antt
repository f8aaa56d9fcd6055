-- `man_table::held::target_of` meets its contract: each return is one case of `target_of`.
use Rattle.man_table.proofs.Tables.{target_full, target_held, target_new}
use borrow.Author.Rules.{rules}
use Rattle.man_table.proofs.held.target_of.Goals as goal

pub returns-then-lived-eq8 : goal.returns-then-lived-eq8
returns-then-lived-eq8 c = search (rules, target_full)

pub returns-in-Some : goal.returns-in-Some
returns-in-Some c = search (rules, target_held)

pub returns-else-lived-eq8 : goal.returns-else-lived-eq8
returns-else-lived-eq8 c = search (rules, target_new)
