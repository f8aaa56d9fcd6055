-- `manager::change::entered` meets its contract: each arm is one entry.
use native.Mathlib.Omega.{arith}
use mathlib.Core.Path.{refl}
use Rattle.laws.proofs.Answers.{told}
use Rattle.laws.proofs.Picks.{below, not_below}
use lib.ListN.{length}
use Rattle.man_table.specs.Table.{live}
use Rattle.man_table.proofs.Tables.{live_length}
use Rattle.manager.specs.Change.{entered_at}
use Rattle.manager.proofs.change.entered.Goals as goal

pub returns-then-lived-lt8 : goal.returns-then-lived-lt8
unfolding entered_at
returns-then-lived-lt8 c =
    let a = c.args in
    let e = live_length _ _ c.lived.ensures in
    told (λ x. entered_at a.m x a.number) refl c.in-New.is
    (below _ _ (length (live a.m)) 8 (omega arith) c.insert.ensures)

pub returns-in-Nowhere : goal.returns-in-Nowhere
unfolding entered_at
returns-in-Nowhere c =
    let a = c.args in
    told (λ x. entered_at a.m x a.number) refl c.in-Nowhere.is refl

pub returns-in-At : goal.returns-in-At
unfolding entered_at
returns-in-At c =
    let a = c.args in
    told (λ x. entered_at a.m x a.number) refl c.in-At.is c.replace.ensures

pub returns-else-lived-lt8 : goal.returns-else-lived-lt8
unfolding entered_at
returns-else-lived-lt8 c =
    let a = c.args in
    let e = live_length _ _ c.lived.ensures in
    told (λ x. entered_at a.m x a.number) refl c.in-New.is
    (not_below _ _ (length (live a.m)) 8 (omega arith) refl)
