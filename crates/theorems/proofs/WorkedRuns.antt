-- Jobs run by the calls, computed: P7, P8, P9, a write, and P8 repaired; and with body: several parts, a node that was used before, a run that is disturbed.
use Rattle.std.specs.Prelude.{Some, None, Ok, Err}
use Prim.Native.Nat.{ℕ}
use mathlib.Core.Path.{◌≡◌, refl}
use mathlib.Core.List.{[], ◌∷◌, map}
use lib.ListN.{length, replicate}
use Rattle.laws.specs.Pick.{among, pick}
use Rattle.codec.specs.Bytes.{part_at, placed}
use Rattle.codec.specs.Dcf.{dcf_step, sent_as}
use Rattle.codec.specs.Writing.{buffer_after}
use Rattle.codec_salvage.specs.Salvage.{output_after, repaired, salvaged, told_of}
use Rattle.connection.specs.Ask.{ask_of, given}
use Rattle.con_rec.specs.Deadline.{deadline_of}
use Rattle.con_reply.specs.Reply.{reply_of, room_for}
use Rattle.connection.specs.Start.{start_dcf, start_read, start_write, started}
use Rattle.connection.specs.Tick.{tick_of}
use Rattle.manager.specs.Calls.{called, loads, reads, reply_from, seat_in, start_of, starts, turn_of, writes}
use Rattle.manager.specs.Change.{change_done, entered_at, number_after}
use Rattle.man_table.specs.Table.{free_room, store_size, target_of}
use Rattle.theorems.specs.Edges.{first, p7, p8, second}
use Rattle.theorems.specs.Types.{Answer, Mode, Reason, Refusal, Segmentation}
use Rattle.theorems.specs.Run.{next, reached, starting}
use Rattle.theorems.specs.Worked.{by_turns, call, disturbed, early, handed_by, ran, rounds, sent_kinds, silent, straddling, uploaded, used, worked}

pub works :
    map worked (loads Mode.Repository p7 ∷ loads Mode.Repository p8 ∷ loads Mode.Repository (0 ∷ 0 ∷ 0 ∷ 0 ∷ []) ∷ writes Mode.Repository 0x2100 1 (1 ∷ 4 ∷ []) ∷ loads Mode.Repository (repaired p8) ∷ [])
    ≡ record { answer = Answer.Nothing; got = first ∷ second ∷ []; brought = []; outcome = Some Reason.Complete; figure = 2 }
    ∷ record { answer = Answer.Nothing; got = first ∷ []; brought = []; outcome = Some Reason.Cut; figure = 1 }
    ∷ record { answer = Answer.Nothing; got = []; brought = []; outcome = Some Reason.Complete; figure = 0 }
    ∷ record { answer = Answer.Nothing; got = first ∷ []; brought = []; outcome = Some Reason.Complete; figure = 1 }
    ∷ record { answer = Answer.Nothing; got = first ∷ []; brought = []; outcome = Some Reason.Complete; figure = 1 }
    ∷ []
unfolding pick among placed dcf_step buffer_after ask_of given deadline_of reply_of room_for start_dcf start_read start_write started
    tick_of reply_from seat_in start_of target_of turn_of free_room called change_done entered_at number_after repaired
works = refl

-- P8 repaired, with the rest of the output as it was, and each refusal
pub repair_works :
    (output_after p8 (replicate 15 9) ≡ 1 ∷ 0 ∷ 0 ∷ 0 ∷ 0x00 ∷ 0x21 ∷ 1 ∷ 2 ∷ 0 ∷ 0 ∷ 0 ∷ 1 ∷ 4 ∷ 9 ∷ 9 ∷ [])
    × (salvaged p8 (replicate 15 9)
    ∷ salvaged p7 (replicate 20 9)
    ∷ salvaged (1 ∷ 0 ∷ 0 ∷ []) []
    ∷ salvaged (replicate 4097 0) []
    ∷ salvaged p8 (replicate 12 9)
    ∷ []
    ≡ Ok (record { old_count = 2; new_count = 1; length = 13; dropped = 6; first_dropped = Some 13 })
    ∷ Ok (record { old_count = 2; new_count = 2; length = 20; dropped = 0; first_dropped = None })
    ∷ Err Refusal.DcfTooShort
    ∷ Err Refusal.NoRoom
    ∷ Err Refusal.BufferTooShort
    ∷ [])
unfolding pick buffer_after repaired told_of salvaged output_after
repair_works = (refl, refl)

-- 3,000 bytes in three parts; a job on a node that was used before; one that is disturbed; a read in segments; and a node that answers no more
pub works_on :
    (differs : length {A = ℕ} [] ≡ store_size → ⊥)
    → ran [] (writes Mode.Repository 0x2100 1 (replicate 3000 7)) (rounds 4 0)
    ∷ ran used (loads Mode.Repository p7) (rounds 4 0)
    ∷ ran [] (loads Mode.Repository p7) (disturbed differs)
    ∷ ran [] (reads Mode.Repository 0x2100 1) uploaded
    ∷ ran [] (loads Mode.Repository p7) silent
    ∷ []
    ≡ record { answer = Answer.Nothing; got = sent_as 0x2100 1 (replicate 3000 7) ∷ []; brought = []; outcome = Some Reason.Complete; figure = 1 }
    ∷ record { answer = Answer.Nothing; got = first ∷ second ∷ []; brought = []; outcome = Some Reason.Complete; figure = 2 }
    ∷ record { answer = Answer.Nothing; got = first ∷ second ∷ []; brought = []; outcome = Some Reason.Complete; figure = 2 }
    ∷ record {
      answer = Answer.Nothing;
      got = sent_as 0x2100 1 [] ∷ [];
      brought = 1 ∷ 2 ∷ 3 ∷ 4 ∷ 5 ∷ [];
      outcome = Some Reason.Complete;
      figure = 0;
    }
    ∷ record { answer = Answer.Nothing; got = first ∷ second ∷ []; brought = []; outcome = Some Reason.Timeout; figure = 1 }
    ∷ []
unfolding pick among placed dcf_step buffer_after ask_of given deadline_of reply_of room_for start_dcf start_read start_write started
    tick_of reply_from seat_in start_of target_of turn_of free_room called change_done entered_at number_after
works_on differs = refl

-- A table of 1,450 bytes for node 5 in published and for node 6 in repository mode, both at once: here its Complete follows an Initiate, there an Expedited.
-- And the job that is disturbed, in published mode: the duplicate has an empty Complete sent.
pub straddles :
    (differs : length {A = ℕ} [] ≡ store_size → ⊥)
    → sent_kinds 5 [] (straddling Mode.Published) (call (starts 6 (straddling Mode.Repository) early) ∷ by_turns 3 0)
    ∷ sent_kinds 6 (call (starts 5 (straddling Mode.Published) early) ∷ []) (straddling Mode.Repository) (by_turns 3 0)
    ∷ sent_kinds 5 [] (loads Mode.Published p7) (disturbed differs)
    ∷ []
    ≡ ((Segmentation.Expedited, 0) ∷ (Segmentation.Initiate, 1452) ∷ (Segmentation.Complete, 2) ∷ [])
    ∷ ((Segmentation.Expedited, 0) ∷ (Segmentation.Expedited, 1452) ∷ (Segmentation.Complete, 2) ∷ [])
    ∷ ((Segmentation.Expedited, 0) ∷ (Segmentation.Expedited, 6) ∷ (Segmentation.Complete, 0) ∷ (Segmentation.Expedited, 4) ∷ [])
    ∷ []
unfolding pick among placed dcf_step buffer_after ask_of given deadline_of reply_of room_for start_dcf start_read start_write started
    tick_of reply_from seat_in start_of target_of turn_of free_room called change_done entered_at number_after
straddles differs = refl

-- the read in segments: its value is handed out after its last reply, and nothing before
pub hands_out :
    handed_by (next (reached (replicate 32768 0) []) (starting 5 (reads Mode.Repository 0x2100 1) early)) uploaded
    ≡ None ∷ None ∷ None ∷ None ∷ None ∷ None ∷ None ∷ Some (1 ∷ 2 ∷ 3 ∷ 4 ∷ 5 ∷ []) ∷ []
unfolding pick among part_at placed dcf_step buffer_after ask_of given deadline_of reply_of room_for start_dcf start_read start_write started
    tick_of reply_from seat_in start_of target_of turn_of free_room called change_done entered_at number_after
hands_out = refl
