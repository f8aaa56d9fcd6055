-- The types that the definitions of lines speak of, under one name.
pub use Rattle.codec.specs.declared.refusal.Refusal.{Refusal}
pub use Rattle.con_rec.specs.declared.End.{End}
pub use Rattle.con_rec.specs.declared.Reason.{Reason}
pub use Rattle.manager.specs.declared.types.Answer.{Answer}
pub use Rattle.man_table.specs.declared.types.Ends.{Ends}
pub use Rattle.manager.specs.declared.types.SentTo.{SentTo}
