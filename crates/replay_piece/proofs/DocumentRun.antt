-- The replay as a whole prints what document 01 says, and `values` the line of a read: computed.
use mathlib.Core.Path.{refl}
use Rattle.laws.specs.Pick.{among, pick}
use Rattle.codec.specs.Bytes.{part_at, placed}
use Rattle.codec.specs.Command.{command_bytes, command_head}
use Rattle.codec.specs.Dcf.{dcf_step}
use Rattle.codec.specs.Writing.{buffer_after}
use Rattle.connection.specs.Ask.{ask_of, given}
use Rattle.con_rec.specs.Deadline.{deadline_of}
use Rattle.con_reply.specs.Reply.{reply_of, room_for}
use Rattle.connection.specs.Start.{start_dcf, start_read, start_write, started}
use Rattle.connection.specs.Tick.{tick_of}
use Rattle.manager.specs.Calls.{called, reply_from, seat_in, start_of, turn_of}
use Rattle.manager.specs.Change.{change_done, entered_at, number_after}
use Rattle.man_table.specs.Table.{free_room, target_of}
use Rattle.man_table.specs.Walk.{walk_of}
use Rattle.replay_line.specs.Line.{answer_text, end_text, line_with, operation_text, record_text}
use Rattle.replay_line.specs.Text.{decimal, front, hex, hex_digits, power}
use Rattle.replay_line.specs.Value.{object_text, place_text, value_line}
use Rattle.replay_record.specs.Gather.{gathered_with, more_gathered}
use Rattle.replay_record.specs.Record.{operation_of, record_read}
use Rattle.replay_record.specs.Request.{record_asks}
use Rattle.replay_piece.specs.Document.{AsDocument, ValuesShown}
use Rattle.replay_piece.specs.Whole.{first, lines_from, next}

pub as_document : AsDocument
unfolding pick among placed part_at command_bytes command_head walk_of dcf_step buffer_after ask_of given deadline_of reply_of room_for start_dcf start_read start_write
    started tick_of reply_from seat_in start_of target_of turn_of free_room called change_done entered_at number_after
    answer_text end_text line_with operation_text record_text decimal front hex hex_digits power gathered_with more_gathered operation_of record_read record_asks
    first lines_from next AsDocument
as_document = (refl, refl, refl)

pub values_shown : ValuesShown
unfolding pick among placed part_at command_bytes command_head walk_of dcf_step buffer_after ask_of given deadline_of reply_of room_for start_dcf start_read start_write
    started tick_of reply_from seat_in start_of target_of turn_of free_room called change_done entered_at number_after
    decimal front hex hex_digits power object_text place_text value_line gathered_with more_gathered operation_of record_read record_asks
    first lines_from next ValuesShown
values_shown = (refl, refl, refl, refl)
