-- A reply that stores puts its payload within the room: the decision was taken by the room's length. So it leaves that length.
use Prim.Native.Nat.{ℕ, ◌+◌, ◌≤◌}
use mathlib.Core.Path.{◌≡◌, refl}
use lib.ListN.{length}
use Rattle.codec.specs.Bytes.{Bytes}
use Rattle.codec.proofs.WrittenBytes.{placed_length}
use Rattle.connection.specs.Types.{SdoClientConnection as Connection, SdoCommand, SequenceLayerHeader}
use Rattle.con_reply.specs.Reply.{reply_of, room_after}
use Rattle.con_reply.specs.declared.reply.Decision.{Decision}
use Rattle.con_reply.proofs.ReplyCases.{reply_by_lem}

abbrev pub StoresWithin : ℕ → Bytes → Decision → Type 0
StoresWithin n room (Decision.Keeps c) = Unit {0}
StoresWithin n room (Decision.Stores c from) = from + n ≤ length room
StoresWithin n room Decision.NoRoom = Unit {0}

after_length : (payload room : Bytes) (x : Decision) → StoresWithin (length payload) room x
    → length (room_after x payload room) ≡ length room
after_length payload room (Decision.Keeps d) h = refl
after_length payload room (Decision.Stores d from) h = placed_length room from payload h
after_length payload room Decision.NoRoom h = refl

module _ (seq : SequenceLayerHeader) (cmd : SdoCommand) (payload : Bytes) (c : Connection) (room : Bytes) where
  pub stores_within : StoresWithin (length payload) room (reply_of seq cmd payload c room)
  stores_within =
      reply_by_lem seq cmd payload c room (StoresWithin (length payload) room) tt tt tt (λ h. tt)
      (λ h.
      record {
        out_of_place = tt;
        opened = λ e. tt;
        refused = tt;
        sent = λ e. tt;
        uploads = λ e. tt;
        bad = tt;
        more = λ never from within. within;
        last = λ never from within. within;
        full = λ never. tt;
      })

  pub replied_room : length (room_after (reply_of seq cmd payload c room) payload room) ≡ length room
  replied_room = after_length payload room (reply_of seq cmd payload c room) stores_within
