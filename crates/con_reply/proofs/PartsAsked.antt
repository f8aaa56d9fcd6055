-- What ask gives one after another for a loaded transfer, each command acknowledged by a reply before the next ask, is exactly the parts
-- of its total, in the job's mode. Assumes an Established connection with the transfer loaded and nothing outstanding,
-- replies with no abort mark, and a deadline that fits.
use Rattle.std.specs.Prelude.{Option, Some, None, Result}
use Rattle.codec.specs.declared.refusal.Refusal.{Refusal}
use Rattle.codec.specs.declared.sequence.SequenceLayerHeader.{SequenceLayerHeader}
use Rattle.codec.specs.declared.dcf.Transfer.{Transfer}
use Rattle.con_rec.specs.declared.Outgoing.{Outgoing}
use Rattle.con_rec.specs.declared.Step.{Step}
use Rattle.codec.specs.declared.command.SdoCommand.{SdoCommand}
use Prim.Native.Nat.{ℕ, zero, suc, ◌+◌, ◌-◌, ◌*◌, ◌<◌, ◌%◌}
use native.Mathlib.Omega.{arith}
use mathlib.Core.Path.{◌≡◌, refl, ◌∙◌, ap}
use mathlib.Core.Bool.{false}
use mathlib.Core.List.{List, [], ◌∷◌, ◌++◌}
use lib.ListN.{length}
use borrow.Author.Tests.{eq-eqb, ne_eqb, lt-leb}
use Rattle.laws.specs.Pick.{pick}
use Rattle.codec.specs.Bytes.{Bytes}
use Rattle.connection.specs.Ask.{with_offset, waiting_for, given, given_at, ask_free, ask_in, ask_first, ask_later, ask_of}
use Rattle.con_rec.specs.Commands.{first_command, later_command}
use Rattle.con_rec.specs.Deadline.{retries_of, deadline_of}
use Rattle.con_rec.specs.Parts.{total, part_length}
use Rattle.con_rec.specs.PartsOf.{Part, first_of, later_count, later_of, later_parts, part_of, parts_of}
use Rattle.con_rec.specs.Record.{updated}
use Rattle.con_reply.specs.AsksGive.{acknowledged, acknowledgement, asks_give, taken_to, number_of, parts_by, stepped_to}
use Rattle.con_reply.specs.Reply.{cleared, replied, reply_in, reply_sent, reply_to, reply_of}
use Rattle.connection.specs.Types.{
  Now,
  Outgoing,
  SdoClientConnection as Connection,
  SdoClientConnectionState as State,
  SdoCommand,
  SequenceLayerHeader,
  Transfer,
}
use Rattle.con_reply.specs.declared.reply.Decision.{Decision}

-- the number that an acknowledged connection has last received
abbrev next : Connection → ℕ
next c = (c.last_received_sequence_number + 1) % 64

-- so many later parts are needed for the bytes that remain
abbrev Needed : ℕ → ℕ → Type 0
Needed zero rest = Unit {0}
Needed (suc k) rest = k * 1452 < rest

needed : (k rest : ℕ) → k ≡ later_count rest → Needed k rest
needed zero rest e = tt
needed (suc k) rest e = omega arith

one_fewer_lem : (k rest : ℕ) → k * 1452 < rest → Needed k (rest - part_length rest)
one_fewer_lem zero rest h = tt
one_fewer_lem (suc k) rest h = omega arith

later_number : (k rest : ℕ) → length (later_parts k rest) ≡ k
later_number zero rest = refl
later_number (suc k) rest = ap suc (later_number k (rest - part_length rest))

-- a connection that waits for the reply to a part of its transfer
record Part-sent (c : Connection) (t : Transfer) (o : Outgoing) : Type 0 where
  downloads : c.state ≡ State.DownloadInProgress
  waits : c.waiting.last_sent_command ≡ Some o
  has : c.job.loaded ≡ Some t

-- the connection after a part is given
abbrev sent_by : Now → ℕ → Connection → ℕ → Outgoing → Connection
sent_by n due c m o =
    updated c State.DownloadInProgress c.transaction_id ((c.send_sequence_number + 1) % 64)
    c.last_received_sequence_number (with_offset c.job m) (waiting_for o due (retries_of n.retries)) c.outcome

module _ (cmd : SdoCommand) (room : Bytes) (unmarked : cmd.header.is_aborted ≡ false) where
  -- ---- a reply with the right numbers is accepted, and with bytes yet to send it only clears the command
  accepted : (o : Outgoing) (seq : SequenceLayerHeader) (c : Connection)
      → seq.receive_sequence_number ≡ o.send → seq.send_sequence_number ≡ next c
      → reply_to (Some o) seq cmd [] c room
      ≡ reply_in c.state seq cmd.header.segmentation (cleared c seq.send_sequence_number) 0 room
  unfolding pick
  accepted o seq c e f =
      rw (eq-eqb _ _ e, ne_eqb seq.send_sequence_number c.last_received_sequence_number (λ z. omega arith), eq-eqb _ _ f, unmarked)

  more_to_send : (t : Transfer) (c : Connection) → c.job.offset < total t → reply_sent (Some t) room c ≡ c
  unfolding pick
  more_to_send t c h = rw (lt-leb (total t) c.job.offset h)

  clears : (t : Transfer) (o : Outgoing) (c : Connection) → Part-sent c t o → c.job.offset < total t
      → acknowledged cmd room c ≡ cleared c (next c)
  unfolding reply_of
  clears t o c p h =
      ap (λ (d : Decision). taken_to (replied d) c)
      (ap (λ (x : Option Outgoing). reply_to x (acknowledgement c) cmd [] c room) p.waits
      ∙ accepted o (acknowledgement c) c (ap number_of p.waits) refl
      ∙ ap (λ (s : State). reply_in s (acknowledgement c) cmd.header.segmentation (cleared c (next c)) 0 room) p.downloads
      ∙ ap Decision.Keeps
      (ap (λ (x : Option Transfer). reply_sent x room (cleared c (next c))) p.has ∙ more_to_send t (cleared c (next c)) h))

  module _ (n : Now) (due : ℕ) (fits : deadline_of n.time n.timeout ≡ Some due) (t : Transfer) where
    -- ---- what ask gives
    abbrev went : Connection → ℕ → Outgoing → Result Step Refusal
    went c m o = given_at (Some due) c n State.DownloadInProgress m o

    gives : (c : Connection) (m : ℕ) (o : Outgoing) → given c n State.DownloadInProgress m o ≡ went c m o
    unfolding given
    gives c m o = ap (λ (x : Option ℕ). given_at x c n State.DownloadInProgress m o) fits

    first_given : (c : Connection) → c.waiting.last_sent_command ≡ None → c.state ≡ State.Established
        → c.job.loaded ≡ Some t → ask_of c n ≡ went c (part_length (total t)) (first_command c t)
    unfolding ask_of
    first_given c e f g =
        ap (λ (x : Option Outgoing). ask_free x c n) e
        ∙ ap (λ (s : State). ask_in s c n) f
        ∙ ap (λ (x : Option Transfer). ask_first x c n) g
        ∙ gives c (part_length (total t)) (first_command c t)

    later_given : (c : Connection) → c.waiting.last_sent_command ≡ None → c.state ≡ State.DownloadInProgress
        → c.job.loaded ≡ Some t
        → ask_of c n ≡ went c (c.job.offset + part_length (total t - c.job.offset)) (later_command c t c.job.offset)
    unfolding ask_of
    later_given c e f g =
        ap (λ (x : Option Outgoing). ask_free x c n) e
        ∙ ap (λ (s : State). ask_in s c n) f
        ∙ ap (λ (x : Option Transfer). ask_later x c n) g
        ∙ gives c (c.job.offset + part_length (total t - c.job.offset)) (later_command c t c.job.offset)

    -- one ask more, by what it gives
    one_ask : (k : ℕ) (c : Connection) (m : ℕ) (o : Outgoing) → ask_of c n ≡ went c m o
        → asks_give (suc k) n cmd room c ≡ part_of o ∷ asks_give k n cmd room (acknowledged cmd room (sent_by n due c m o))
    one_ask k c m o e = ap (λ (s : Result Step Refusal). parts_by s ++ asks_give k n cmd room (acknowledged cmd room (stepped_to s c))) e

    -- ---- the later parts
    later_gives : (k rest : ℕ) (o : Outgoing) (c : Connection) → Part-sent c t o → total t - c.job.offset ≡ rest → Needed k rest
        → asks_give k n cmd room (acknowledged cmd room c) ≡ later_parts k rest
    later_gives zero rest o c p e h = refl
    later_gives (suc k) rest o c p e h =
        let d : Connection = cleared c (next c) in
        let m : ℕ = c.job.offset in
        let q : Outgoing = later_command d t m in
        let after : Connection = sent_by n due d (m + part_length (total t - m)) q in
        ap (asks_give (suc k) n cmd room) (clears t o c p (omega arith))
        ∙ one_ask k d _ q (later_given d refl p.downloads p.has)
        ∙ ap (λ (r : ℕ). later_of r ∷ asks_give k n cmd room (acknowledged cmd room after)) e
        ∙ ap (λ (l : List Part). later_of rest ∷ l)
        (later_gives k (rest - part_length rest) q after (record { downloads = refl; waits = refl; has = p.has }) (omega arith)
        (one_fewer_lem k rest h))

pub asks_give_lem : (c : Connection) (t : Transfer) (n : Now) (due : ℕ) (cmd : SdoCommand) (room : Bytes)
    → deadline_of n.time n.timeout ≡ Some due → cmd.header.is_aborted ≡ false
    → c.waiting.last_sent_command ≡ None → c.state ≡ State.Established
    → c.job.loaded ≡ Some t
    → asks_give (length (parts_of c.job.mode (total t))) n cmd room c ≡ parts_of c.job.mode (total t)
asks_give_lem c t n due cmd room fits unmarked e f g =
    ap (λ (m : ℕ). asks_give (suc m) n cmd room c) (later_number (later_count rest) rest)
    ∙ one_ask cmd room unmarked n due fits t (later_count rest) c (part_length (total t)) (first_command c t)
    (first_given cmd room unmarked n due fits t c e f g)
    ∙ ap (λ (l : List Part). first_of c.job.mode (total t) ∷ l)
    (later_gives cmd room unmarked n due fits t (later_count rest) rest (first_command c t)
    (sent_by n due c (part_length (total t)) (first_command c t)) (record { downloads = refl; waits = refl; has = g })
    refl (needed (later_count rest) rest refl))
  where
    rest : ℕ
    rest = total t - part_length (total t)
