-- Ask and tick alone give commands, and the output behind what they give is as it was.
use Prim.Native.Nat.{ℕ, ◌≤◌}
use native.Mathlib.Omega.{arith}
use mathlib.Core.Path.{◌≡◌, ◌∙◌, ap, subst}
use lib.ListN.{length, drop, get_or}
use lib.Seq.{drop_at}
use borrow.Author.Tests.{le-leb}
use Rattle.laws.specs.Pick.{pick}
use Rattle.codec.specs.Bytes.{Bytes}
use Rattle.codec.specs.Writing.{buffer_after}
use Rattle.con_rec.specs.Commands.{command_of}
use Rattle.con_rec.specs.Parts.{most}
use Rattle.con_rec.specs.Payload.{payload_of}
use Rattle.manager.specs.Calls.{After, Call, called, output_size, replies, starts, turns}
use Rattle.manager.proofs.ValueCases.{value_by_lem}
use Rattle.man_table.specs.Table.{blank, live, room_in}
use Rattle.theorems.specs.Run.{Host, Lends, another, made, own, reached}
use Rattle.theorems.specs.Sizes.{IsTurn, Sizes}
use Rattle.theorems.specs.Sound.{Reached, Sound}
use Rattle.theorems.specs.Types.{Answer, Outgoing, SdoClientManager as Manager}
use Rattle.theorems.proofs.AllReached.{all_sound}
use Rattle.theorems.proofs.Cases.{Of, Shown, reply_by_lem, turn_by}
use Rattle.theorems.proofs.StartBy.{start_by}
use Rattle.theorems.proofs.WalkSteps.{WalkSized, walk_sized}
use Rattle.theorems.proofs.WrongStore.{wrong_store}

module _ (output : Bytes) (x : Call) where
  abbrev SizedFor : Bytes → Answer → Type 0
  SizedFor out Answer.Nothing = Unit {0}
  SizedFor out (Answer.Sent s) =
      IsTurn x
      × (s.command.header.segment_size ≤ most)
      × (drop s.command.header.segment_size out ≡ drop s.command.header.segment_size output)
  SizedFor out (Answer.Value part) = Unit {0}
  SizedFor out (Answer.Refused r) = Unit {0}

  abbrev SizedAs : Shown
  SizedAs k store out a es = SizedFor out a

fills : (output room : Bytes) (o : Outgoing) → output_size ≤ length output → (length (payload_of room o) ≡ (command_of o).header.segment_size)
    → (command_of o).header.segment_size ≤ most
    → drop (command_of o).header.segment_size (buffer_after (payload_of room o) output) ≡ drop (command_of o).header.segment_size output
unfolding buffer_after pick
fills output room o long is few =
    let fits : length (payload_of room o) ≤ length output = omega arith in
    rw (le-leb (length (payload_of room o)) (length output) fits)
    (drop_at (payload_of room o) (drop (length (payload_of room o)) output) (command_of o).header.segment_size is
    ∙ ap (λ (n : ℕ). drop n output) is)

call_sizes : (m : Manager) (store output : Bytes) → Sound m store → (x : Call) → Of (SizedAs output x) (called m store output x)
call_sizes m store output sound (starts node job n) =
    start_by m node job n store output (SizedAs output (starts node job n)) (λ r e. tt) (λ r e k f. tt) (λ k d long at e. tt)
    (λ d long unheld few e. tt) (λ r e f unheld few. tt)
call_sizes m store output sound (turns t n) =
    turn_by t m n store output (SizedAs output (turns t n)) (λ r. tt) (λ l long fits e. tt)
    (λ k o l long fits e.
    let z = subst (WalkSized store) e (walk_sized t n store (live m) sound.each) in
    (tt, z.1, fills output (room_in store (get_or l k blank)) o fits z.0 z.1))
call_sizes m store output sound (replies node seq cmd payload) =
    reply_by_lem m node seq cmd payload store output (SizedAs output (replies node seq cmd payload)) (λ r. tt) (λ unheld. tt)
    (λ k d long at e. value_by_lem (SizedFor output (replies node seq cmd payload) output) tt (λ part. tt) d)

pub sizes : Sizes
unfolding Sizes Reached
sizes lent events x s e =
    subst (SizedFor x.output x.call (made host x).output) e (go x.lends)
  where
    host : Host
    host = reached lent events

    go : (l : Lends)
        → let a : After = made host (record { call = x.call; lends = l; output = x.output }) in
        SizedFor x.output x.call a.output a.done.answer
    go own = call_sizes host.manager host.store x.output (all_sound lent events) x.call
    go (another store differs) = rw (wrong_store host.manager store x.output x.call differs) tt
