-- `man_table::held::free_room` meets its contract.
use Rattle.man_table.proofs.Searches.{free_here, freeing_more, freeing_none}
use borrow.Author.Rules.{rules}
use Rattle.man_table.proofs.held.free_room.Goals as goal

pub loop-k-init : goal.loop-k-init
loop-k-init c = freeing_none _

pub returns-then-not-uses_room : goal.returns-then-not-uses_room
returns-then-not-uses_room c = search (rules, free_here)

pub loop-k-preserved : goal.loop-k-preserved
loop-k-preserved c = search (rules, freeing_more)
