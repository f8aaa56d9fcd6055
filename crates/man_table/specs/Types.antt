-- The types that the table's definitions speak of, under one name.
pub use Rattle.codec.specs.declared.refusal.Refusal.{Refusal}
pub use Rattle.con_rec.specs.declared.End.{End}
pub use Rattle.con_rec.specs.declared.Now.{Now}
pub use Rattle.con_rec.specs.declared.Outgoing.{Outgoing}
pub use Rattle.con_rec.specs.declared.Reason.{Reason}
pub use Rattle.con_rec.specs.declared.SdoClientConnection.{SdoClientConnection}
pub use Rattle.con_rec.specs.declared.SdoClientConnectionState.{SdoClientConnectionState}
pub use Rattle.con_rec.specs.declared.Step.{Step}
pub use Rattle.man_table.specs.declared.types.Ends.{Ends}
pub use Rattle.man_table.specs.declared.types.SdoClientManager.{SdoClientManager}
pub use Rattle.man_table.specs.declared.types.Entry.{Entry}
pub use Rattle.man_table.specs.declared.types.Turn.{Turn}
pub use Rattle.man_table.specs.declared.types.Walk.{Walk}
pub use Rattle.man_table.specs.declared.types.Walked.{Walked}
