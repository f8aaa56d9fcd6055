-- The types that the definitions of a piece speak of, under one name.
pub use Rattle.codec.specs.declared.refusal.Refusal.{Refusal}
pub use Rattle.con_rec.specs.declared.Mode.{Mode}
pub use Rattle.con_rec.specs.declared.SdoClientConnection.{SdoClientConnection}
pub use Rattle.man_table.specs.declared.types.Entry.{Entry}
pub use Rattle.man_table.specs.declared.types.SdoClientManager.{SdoClientManager}
pub use Rattle.manager.specs.declared.types.Answer.{Answer}
pub use Rattle.manager.specs.declared.types.Change.{Change}
pub use Rattle.manager.specs.declared.types.Done.{Done}
pub use Rattle.manager.specs.declared.types.Plan.{Plan}
pub use Rattle.replay_record.specs.declared.plan.RecordPlan.{RecordPlan}
pub use Rattle.replay_piece.specs.declared.types.LastValue.{LastValue}
pub use Rattle.replay_piece.specs.declared.types.Progress.{Progress}
pub use Rattle.replay_piece.specs.declared.types.Run.{Run}
pub use Rattle.replay_piece.specs.declared.types.Settings.{Settings}
pub use Rattle.replay_piece.specs.declared.types.Shows.{Shows}
