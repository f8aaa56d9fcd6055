-- What a sound table is made of: a list of connections that are fit for their rooms, in order, after those that ended were removed.
use Rattle.std.specs.Prelude.{All, Option, Some, None}
use Rattle.std.proofs.lemmas.List.Elements.{All-cons, All-nil, All-head, All-tail}
use Prim.Native.Nat.{ℕ, suc, ◌+◌, ◌≤◌}
use native.Mathlib.Omega.{arith}
use mathlib.Core.Path.{◌≡◌, refl, sym, ◌∙◌, ap, subst}
use mathlib.Core.List.{List, [], ◌∷◌}
use lib.Dec.{eqb}
use lib.ListN.{length, take, drop, length-append, take-append-drop}
use borrow.Author.Tests.{eqb-false}
use Rattle.codec.specs.Bytes.{Bytes}
use Rattle.con_reply.specs.Consistent.{Consistent, is_ended}
use Rattle.con_reply.proofs.StepSound.{other_room}
use Rattle.con_rec.specs.Record.{end_of, end_with}
use Rattle.laws.proofs.Choices.{decided}
use Rattle.manager.specs.Calls.{number_of}
use Rattle.man_table.specs.Sweep.{running, unless_end}
use Rattle.man_table.specs.Table.{insert_in, live, place_in, room_in, table_of}
use Rattle.theorems.specs.Sound.{Ordered, Sane, Slotted, Sound}
use Rattle.theorems.specs.Types.{End, Reason, SdoClientConnection as Connection, SdoClientManager as Manager}
use Rattle.manager.proofs.WalkCalls.{live_table}
use Rattle.theorems.proofs.NodeAndRoom.{Same}
use Rattle.theorems.proofs.OrderedTables.{ordered_running}

-- of a connection that may have ended
pub record Fit (store : Bytes) (c : Connection) : Type 0 where
  pub slotted : Slotted c.room
  pub consistent : Consistent c (room_in store c)

pub fit_in : (c d : Connection) (store : Bytes) (room : Bytes) → Same c d → Slotted c.room → length room ≡ length (room_in store d)
    → Consistent d room → Fit store d
fit_in c d store room s slot e i = record { slotted = rw s.1 slot; consistent = other_room d room (room_in store d) e i }

-- ---- a list that a table holds
pub sound_table : (l : List Connection) (t : ℕ) (store : Bytes) → length l ≤ 8 → Ordered l → All (Sane store) l → t ≤ 255
    → Sound (table_of l t) store
sound_table l t store few o s n =
    let back : l ≡ live (table_of l t) = sym (live_table l t) in
    record {
      is = ap (λ (k : List Connection). table_of k t) back;
      few = subst (λ (k : List Connection). length k ≤ 8) back few;
      ordered = subst Ordered back o;
      each = subst (All (Sane store)) back s;
      number = n;
    }

-- ---- the sweep
running_few : (l : List Connection) → length (running l) ≤ length l
running_few [] = omega arith
running_few (c ∷ l) = go (end_of c) (running_few l)
  where
    go : (x : Option End) → length (running l) ≤ length l → length (unless_end x c (running l)) ≤ suc (length l)
    go None h = omega arith
    go (Some e) h = omega arith

pub sane_of : (store : Bytes) (c : Connection) → c.outcome ≡ None → Fit store c → Sane store c
sane_of store c e f =
    record {
      slotted = f.slotted;
      runs = e;
      opened = sym f.consistent.ends ∙ ap is_ended e;
      consistent = f.consistent;
    }

running_sane : (store : Bytes) (l : List Connection) → All (Fit store) l → All (Sane store) (running l)
running_sane store [] a = All-nil (Sane store)
running_sane store (c ∷ l) a = go c.outcome refl (running_sane store l (All-tail (Fit store) c l a))
  where
    go : (x : Option Reason) → c.outcome ≡ x → All (Sane store) (running l) → All (Sane store) (unless_end (end_with c x) c (running l))
    go None e r = All-cons (Sane store) c (running l) (sane_of store c e (All-head (Fit store) c l a)) r
    go (Some why) e r = r

pub swept_sound : (l : List Connection) (t : ℕ) (store : Bytes) → length l ≤ 8 → Ordered l → All (Fit store) l → t ≤ 255
    → Sound (table_of (running l) t) store
swept_sound l t store few o f n =
    sound_table (running l) t store (omega (arith, running_few l)) (ordered_running l o) (running_sane store l f) n

-- ---- the transaction number
pub number_next : (m : Manager) → m.next_transaction_id ≤ 255 → number_of m ≤ 255
number_next m h =
    decided (λ (t : ℕ). t ≤ 255) (eqb m.next_transaction_id 255) 1 (m.next_transaction_id + 1) (λ e. omega arith)
    (λ e. let ne = eqb-false m.next_transaction_id 255 e in omega arith)

pub insert_length : (d : Connection) (l : List Connection) → length (insert_in d l) ≡ suc (length l)
insert_length d l =
    let k : ℕ = place_in d.target_node_id l in
    let both : length (take k l) + length (drop k l) ≡ length l =
    sym (length-append (take k l) (drop k l)) ∙ ap length (take-append-drop k l) in
    length-append (take k l) (d ∷ drop k l) ∙ omega arith
