-- `manager::change_reply::reply_change` meets its contract: the store, the node, and its connection's own answer.
use mathlib.Core.Path.{◌∙◌}
use Rattle.laws.proofs.Answers.{told}
use Rattle.laws.proofs.Picks.{is, is_not}
use Rattle.manager.specs.Calls.{reply_at, reply_from}
use Rattle.manager.proofs.Parts.{effect_parts}
use Rattle.man_table.proofs.Places.{found_held}
use Rattle.laws.proofs.Clauses.{value_store}
use Rattle.manager.proofs.change_reply.reply_change.Goals as goal

pub returns-in_default : goal.returns-in_default
unfolding reply_from
returns-in_default c =
    let other = rw c.in_default.is at c.as_mut_array.ensures.cases in
    value_store (effect_parts (is_not _ _ _ _ other (rw c.same.ensures)))

pub returns-in_default-find : goal.returns-in_default-find
unfolding reply_from
returns-in_default-find c =
    let a = c.args in
    let whole = rw c.in-Some.is at c.as_mut_array.ensures.cases in
    value_store (effect_parts
    (is _ _ _ _ whole.long
    (told (λ x. reply_at x a.m a.seq a.cmd a.payload.now a.store.now) c.find.ensures c.in_default-find.is
    (rw (c.same-in_default-find.ensures, whole.same)))))

pub returns : goal.returns
unfolding reply_from
returns c =
    let a = c.args in
    let whole = rw c.in-Some.is at c.as_mut_array.ensures.cases in
    let e = c.find.ensures in
    let f = c.in-Some-find.is in
    let d = c.connection_at.ensures ∙ found_held a.m _ _ a.source e f in
    value_store (effect_parts
    (is _ _ _ _ whole.long
    (told (λ x. reply_at x a.m a.seq a.cmd a.payload.now a.store.now) e f
    (rw (c.replied_as.ensures, c.reply_in.ensures.value, c.reply_in.ensures.store_after, whole.same, d)))))
