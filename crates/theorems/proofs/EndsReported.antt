-- The ends that a call reports are at most eight, and ascending: they are those of a table in order.
use Rattle.std.specs.Prelude.{All, Option, Some, None}
use Rattle.std.proofs.lemmas.List.Elements.{All-cons, All-nil, All-head, All-tail, length_all_zip}
use Rattle.std.specs.List.{AllZip}
use Rattle.std.proofs.lemmas.List.Kept.{AllPairs-cons}
use Rattle.theorems.proofs.AllLists.{pairs_none, pairs_head, pairs_tail}
use Prim.Native.Nat.{suc, ◌≤◌, ◌<◌}
use native.Mathlib.Omega.{arith}
use mathlib.Core.Path.{◌≡◌, subst}
use mathlib.Core.List.{List, [], ◌∷◌}
use lib.ListN.{length, set}
use Rattle.codec.specs.Bytes.{Bytes}
use Rattle.con_rec.specs.Record.{end_with}
use Rattle.manager.specs.Calls.{Call, called, replies, starts, turns}
use Rattle.man_table.specs.Sweep.{ends_in, with_end}
use Rattle.man_table.specs.Table.{live, held_at, room_in}
use Rattle.man_table.specs.Walk.{Walking, stopped, through, walk_list}
use Rattle.theorems.specs.Reports.{Ascending, Reports}
use Rattle.theorems.specs.Run.{Host, Lends, another, made, own, reached, reported}
use Rattle.theorems.specs.Sound.{Before, Ordered, Reached, Sound}
use Rattle.theorems.specs.Types.{End, Now, Reason, SdoClientConnection as Connection, SdoClientManager as Manager, Turn}
use Rattle.theorems.proofs.Cases.{Shown, reply_by_lem, turn_by}
use Rattle.theorems.proofs.NodeAndRoom.{Same, replied_same}
use Rattle.theorems.proofs.OrderedTables.{ordered_each}
use Rattle.theorems.proofs.AllReached.{all_sound}
use Rattle.theorems.proofs.SoundCalls.{few_set, ordered_set}
use Rattle.theorems.proofs.StartBy.{start_by}
use Rattle.theorems.proofs.WrongStore.{wrong_store}
use Rattle.theorems.proofs.WalkSteps.{WalkBy, walk_same}

-- ---- the ends of a table in order
ends_few : (l : List Connection) → length (ends_in l) ≤ length l
ends_few [] = omega arith
ends_few (c ∷ l) = go c.outcome (ends_few l)
  where
    go : (x : Option Reason) → length (ends_in l) ≤ length l → length (with_end (end_with c x) (ends_in l)) ≤ suc (length l)
    go None h = omega arith
    go (Some why) h = omega arith

ends_behind : (c : Connection) (l : List Connection) → All (Before c) l → All (λ (d : End). c.target_node_id < d.node) (ends_in l)
ends_behind c [] a = All-nil (λ (d : End). c.target_node_id < d.node)
ends_behind c (x ∷ l) a = go x.outcome (ends_behind c l (All-tail (Before c) x l a))
  where
    go : (o : Option Reason) → All (λ (d : End). c.target_node_id < d.node) (ends_in l)
        → All (λ (d : End). c.target_node_id < d.node) (with_end (end_with x o) (ends_in l))
    go None h = h
    go (Some why) h = All-cons (λ (d : End). c.target_node_id < d.node) _ (ends_in l) (All-head (Before c) x l a).0 h

none_ascend : Ascending []
none_ascend = pairs_none (λ (d e : End). d.node < e.node)

ends_ascend : (l : List Connection) → Ordered l → Ascending (ends_in l)
ends_ascend [] o = none_ascend
ends_ascend (c ∷ l) o = go c.outcome (ends_ascend l (pairs_tail Before c l o))
  where
    go : (x : Option Reason) → Ascending (ends_in l) → Ascending (with_end (end_with c x) (ends_in l))
    go None h = h
    go (Some why) h = AllPairs-cons (λ (d e : End). d.node < e.node) _ (ends_in l) (ends_behind c l (pairs_head Before c l o)) h

-- ---- the calls
abbrev Told : List End → Type 0
Told es = (length es ≤ 8) × Ascending es

none_told : Told []
none_told = (omega arith, none_ascend)

module _ (m : Manager) (store : Bytes) (sound : Sound m store) where
  told : (l : List Connection) → AllZip Same (live m) l → Told (ends_in l)
  told l e =
      (omega (arith, ends_few l, length_all_zip Same (live m) l e, sound.few), ends_ascend l (ordered_each (live m) l e sound.ordered))

  walked : (t : Turn) (n : Now) (w : Walking) → walk_list t n (live m) ≡ w → WalkBy Same (live m) w
  walked t n w e = subst (WalkBy Same (live m)) e (walk_same t n (live m))

  abbrev Reported : Shown
  Reported k s out x es = Told es

  call_told : (output : Bytes) (x : Call) → Told (reported (called m store output x))
  call_told output (starts node job n) =
      start_by m node job n store output Reported (λ r e. none_told) (λ r e k f. none_told)
      (λ k d long at e. none_told) (λ d long none few e. none_told) (λ r e f none few. none_told)
  call_told output (turns t n) =
      turn_by t m n store output Reported (λ r. none_told) (λ l long fits e. told l (walked t n (through l) e))
      (λ k o l long fits e. told l (walked t n (stopped k o l) e).0)
  call_told output (replies node seq cmd payload) =
      reply_by_lem m node seq cmd payload store output Reported (λ r. none_told) (λ none. none_told)
      (λ k d long at e. (
        omega (arith, ends_few (set (live m) k d), few_set m store sound k d),
        ends_ascend (set (live m) k d)
            (ordered_set m store sound k d (replied_same seq cmd payload (held_at m k) (room_in store (held_at m k)) d e)),
      ))

pub reports : Reports
unfolding Reports Reached
reports lent earlier x = go x.lends
  where
    host : Host
    host = reached lent earlier

    go : (l : Lends) → Told (reported (made host (record { call = x.call; lends = l; output = x.output })))
    go own = call_told host.manager host.store (all_sound lent earlier) x.output x.call
    go (another store differs) = rw (wrong_store host.manager store x.output x.call differs) none_told
