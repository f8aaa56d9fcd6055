-- The number of each refusal (document 01, "Numbers that refuse").
use Rattle.std.specs.Prelude.{ℕ}
use Rattle.codec.specs.declared.refusal.Refusal.{Refusal}

abbrev pub refusal_number : Refusal → ℕ
refusal_number Refusal.BufferTooShort = 1
refusal_number Refusal.InvalidEnumValue = 2
refusal_number Refusal.SdoInvalidCommandPayload = 3
refusal_number Refusal.Busy = 4
refusal_number Refusal.DcfTooShort = 5
refusal_number Refusal.TableFull = 6
refusal_number Refusal.NoRoom = 7
refusal_number Refusal.DeadlineRange = 8
refusal_number Refusal.WrongStore = 9
refusal_number Refusal.BadRecord = 10
refusal_number Refusal.ShortRecord = 11
