-- The types that the replay's definitions speak of, under one name.
pub use Rattle.codec.specs.declared.command.CommandId.{CommandId}
pub use Rattle.codec.specs.declared.command.SdoCommand.{SdoCommand}
pub use Rattle.codec.specs.declared.refusal.Refusal.{Refusal}
pub use Rattle.codec.specs.declared.sequence.SequenceLayerHeader.{SequenceLayerHeader}
pub use Rattle.con_rec.specs.declared.Mode.{Mode}
pub use Rattle.con_rec.specs.declared.Now.{Now}
pub use Rattle.manager.specs.declared.types.Answer.{Answer}
pub use Rattle.manager.specs.declared.types.Done.{Done}
pub use Rattle.manager.specs.declared.types.Plan.{Plan}
pub use Rattle.man_table.specs.declared.types.SdoClientManager.{SdoClientManager}
pub use Rattle.man_table.specs.declared.types.Turn.{Turn}
pub use Rattle.replay_record.specs.declared.plan.Choices.{Choices}
pub use Rattle.replay_record.specs.declared.plan.RecordPlan.{RecordPlan}
pub use Rattle.replay_record.specs.declared.gather.Gathered.{Gathered}
pub use Rattle.replay_record.specs.declared.record.Operation.{Operation}
pub use Rattle.replay_record.specs.declared.record.Record.{Record}
pub use Rattle.replay_record.specs.declared.record.Use.{Use}
