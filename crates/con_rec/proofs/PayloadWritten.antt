-- A payload is written by which command it goes with: a few octets, or a part of a transfer. A part is written in two: what falls
-- on the four bytes ahead, and what falls on the data.
use Rattle.std.specs.Prelude.{Result, Ok}
use Prim.Native.Nat.{ℕ, ◌+◌, ◌-◌, ◌≤◌}
use native.Mathlib.Omega.{arith}
use mathlib.Core.Path.{◌≡◌, refl, sym, ap, ◌∙◌}
use mathlib.Core.List.{[], ◌++◌}
use lib.ListN.{length, take, drop, length-append}
use Rattle.laws.proofs.Lists.{take_drop_append}
use Rattle.codec.specs.Bytes.{Bytes}
use Rattle.codec.specs.Dcf.{sent_as}
use Rattle.codec.specs.Writing.{written, buffer_after, put_answer, put_buffer}
use Rattle.codec.proofs.WrittenBytes.{put_fits, put_front, placed_more, write_placed}
use Rattle.codec.specs.declared.refusal.Refusal.{Refusal}
use Rattle.con_rec.specs.Payload.{bytes_from, payload_from}
use Rattle.con_rec.specs.Types.{Message, Transfer}

-- an answer and an output as they are after a write
abbrev pub Writes : Bytes → Bytes → Result ℕ Refusal → Bytes → Type 0
Writes bytes output answer after = (answer ≡ written bytes output) × (after ≡ buffer_after bytes output)

module _ (output : Bytes) {answer : Result ℕ Refusal} {after : Bytes} where
  pub octets_written : (bytes octets : Bytes) → octets ≡ bytes → answer ≡ put_answer output 0 octets → after ≡ put_buffer output 0 octets
      → Writes bytes output answer after
  octets_written bytes octets e f g = let p = put_front output octets in rw (← e) (f ∙ p.0, g ∙ p.1)

  -- what the message was found to be takes its place
  pub found_written : (room : Bytes) {m found : Message} → m ≡ found → Writes (payload_from room found) output answer after
      → Writes (payload_from room m) output answer after
  found_written room e w = rw e w

module _ (t : Transfer) (room : Bytes) (from n : ℕ) (octets head own rest : Bytes) (k m j : ℕ)
    (eo : octets ≡ sent_as t.index t.sub_index [])
    (eh : head ≡ take n (drop from octets))
    (ew : own ≡ take t.len (drop t.start room))
    (ek : k ≡ from - 4) (em : m ≡ 4 - from) (ej : j ≡ n - m)
    (er : rest ≡ take j (drop k own)) where
  in_two : bytes_from room t from n ≡ head ++ rest
  in_two =
      take_drop_append n from (sent_as t.index t.sub_index []) (take t.len (drop t.start room))
      ∙ rw (eh, er, eo, ew, ej, ek, em)

  length_in_two : length (bytes_from room t from n) ≡ length head + length rest
  length_in_two = ap length in_two ∙ length-append head rest

  pub part_written : (output first after : Bytes) → length head + length rest ≤ length output → length first ≡ length output
      → first ≡ put_buffer output 0 head → after ≡ put_buffer first (length head) rest
      → Writes (bytes_from room t from n) output (Ok (length head + length rest)) after
  part_written output first after h same ef ea =
      let l = length_in_two in
      let f : first ≡ _ = ef ∙ put_fits output head 0 (omega arith) in
      let e : after ≡ _ = ea ∙ put_fits first rest (length head) (omega arith) in
      write_placed _ output _ after (sym l) h (rw (e, f, in_two) (placed_more output head rest (length head) refl))
