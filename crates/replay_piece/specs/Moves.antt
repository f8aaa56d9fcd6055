-- Which plans are carried out by value, and what such a plan comes to: for the functions inside, the contract of `replay_piece` does not know of it.
use Rattle.std.specs.Prelude.{Bool, true, false}
use Rattle.codec.specs.Bytes.{Bytes}
use Rattle.con_rec.specs.Record.{end_of}
use Rattle.man_table.specs.Sweep.{end_here}
use Rattle.manager.specs.Plan.{plan_done}
use Rattle.replay_piece.specs.Piece.{run_with}
use Rattle.replay_piece.specs.Whole.{shown}
use Rattle.replay_piece.specs.Types.{Entry, Plan, Run, Shows}

-- a change that enters a connection, or puts one that has ended
abbrev pub entry_moves : Entry → Bool
entry_moves Entry.Nowhere = false
entry_moves (Entry.At k c) = end_here (end_of c) false
entry_moves (Entry.New c) = true

-- a plan is carried out by value where it is such a change or a walk; where values are shown, always
abbrev pub moves : Shows → Plan → Bool
moves Shows.Lines (Plan.Change c) = entry_moves c.entry
moves Shows.Lines (Plan.Walk t n) = true
moves Shows.Values plan = true

-- a plan carried out: the line and the run after it
abbrev pub moved_line : Run → Shows → Plan → Bytes → Bytes → Bytes → Bytes
moved_line r shows plan b store output = shown shows r.progress.number b r.manager (plan_done plan r.manager store output)

abbrev pub moved_run : Run → Shows → Plan → Bytes → Bytes → Bytes → Run
moved_run r shows plan b store output =
    run_with (plan_done plan r.manager store output).done r.progress (moved_line r shows plan b store output)
