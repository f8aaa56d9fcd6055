-- The code's own types, under one name for the definitions.
pub use Rattle.codec.specs.declared.command.CommandId.{CommandId}
pub use Rattle.codec.specs.declared.command.SdoCommand.{SdoCommand}
pub use Rattle.codec.specs.declared.command.Segmentation.{Segmentation}
pub use Rattle.codec.specs.declared.sequence.ReceiveConnState.{ReceiveConnState}
pub use Rattle.codec.specs.declared.sequence.SendConnState.{SendConnState}
pub use Rattle.codec.specs.declared.sequence.SequenceLayerHeader.{SequenceLayerHeader}
pub use Rattle.con_rec.specs.declared.Message.{Message}
pub use Rattle.con_rec.specs.declared.Mode.{Mode}
pub use Rattle.con_rec.specs.declared.Outgoing.{Outgoing}
pub use Rattle.con_rec.specs.declared.Reason.{Reason}
pub use Rattle.con_rec.specs.declared.SdoClientConnection.{SdoClientConnection}
pub use Rattle.con_rec.specs.declared.SdoClientConnectionState.{SdoClientConnectionState}
pub use Rattle.con_rec.specs.declared.SdoJob.{SdoJob}
pub use Rattle.codec.specs.declared.dcf.Transfer.{Transfer}
pub use Rattle.con_rec.specs.declared.Waiting.{Waiting}
