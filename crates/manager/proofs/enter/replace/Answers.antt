-- `manager::enter::replace` meets its contract: a place of those held is the same place of the eight.
use Rattle.man_table.proofs.Tables.{replaced}
use borrow.Author.Rules.{rules}
use Rattle.manager.proofs.enter.replace.Goals as goal

pub returns-then-place-n : goal.returns-then-place-n
returns-then-place-n c = search (rules, replaced)
