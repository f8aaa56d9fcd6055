-- `man_value::object_of` meets its contract: the node's connection.
use mathlib.Core.Path.{◌∙◌, ap}
use Rattle.laws.proofs.Answers.{told}
use Rattle.con_rec.specs.declared.SdoClientConnection.{SdoClientConnection}
use Rattle.man_table.proofs.Places.{found_held}
use Rattle.man_table.specs.Table.{live}
use Rattle.man_value.specs.Value.{object_at}
use Rattle.man_value.proofs.object_of.Goals as goal

pub returns : goal.returns
returns c =
    let a = c.args in
    let e = c.find.ensures in
    let f = c.in_ok-k.was in
    told (λ x. object_at x (live a.m)) e f
    (ap (λ (d : SdoClientConnection). d.job.pending_read) (c.connection_at.ensures ∙ found_held a.m _ _ a.node e f))
