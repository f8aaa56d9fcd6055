-- Every call leaves a neat manager neat, with any store.
use Rattle.std.specs.Prelude.{All, Option, Some, None}
use Rattle.std.proofs.lemmas.List.Elements.{All-cons, All-nil, All-set}
use Prim.Native.Nat.{ℕ}
use mathlib.Core.Path.{◌≡◌, refl, sym, ap, subst}
use mathlib.Core.List.{List, [], ◌∷◌}
use lib.ListN.{set}
use Rattle.codec.specs.Bytes.{Bytes}
use Rattle.con_rec.specs.Record.{end_with}
use Rattle.man_table.specs.Sweep.{running, unless_end}
use Rattle.man_table.specs.Table.{held_at, insert_in, live, place_in, room_in, table_of}
use Rattle.manager.specs.Calls.{Call, called, number_of, replies, starts, turns}
use Rattle.manager.proofs.WalkCalls.{live_table}
use Rattle.theorems.specs.InPlace.{Neat, Runs}
use Rattle.theorems.specs.Types.{Reason, SdoClientConnection as Connection, SdoClientManager as Manager}
use Rattle.theorems.specs.Untouched.{stepped}
use Rattle.theorems.proofs.AllLists.{all_insert}
use Rattle.theorems.proofs.Cases.{Shown, reply_by_lem, turn_by}
use Rattle.theorems.proofs.JobStarts.{started_runs}
use Rattle.theorems.proofs.StartBy.{fresh, start_by}

neat_table : (l : List Connection) (number : ℕ) → All Runs l → Neat (table_of l number)
neat_table l number a =
    let back : l ≡ live (table_of l number) = sym (live_table l number) in
    record { is = ap (λ (k : List Connection). table_of k number) back; each = subst (All Runs) back a }

-- what a sweep leaves
running_runs : (l : List Connection) → All Runs (running l)
running_runs [] = All-nil Runs
running_runs (c ∷ l) = go c.outcome refl (running_runs l)
  where
    go : (x : Option Reason) → c.outcome ≡ x → All Runs (running l) → All Runs (unless_end (end_with c x) c (running l))
    go None e r = All-cons Runs c (running l) e r
    go (Some why) e r = r

pub swept_neat : (l : List Connection) (number : ℕ) → Neat (table_of (running l) number)
swept_neat l number = neat_table (running l) number (running_runs l)

module _ (m : Manager) (neat : Neat m) (store output : Bytes) where
  abbrev Leaves : Shown
  Leaves k s out x es = Neat k

  counts_neat : Neat (stepped m)
  counts_neat =
      record {
        is =
            ap (λ (k : Manager). record { connections = k.connections; count = k.count; next_transaction_id = number_of m }) neat.is;
        each = neat.each;
      }

  inserted : (d : Connection) → Runs d → Neat (table_of (insert_in d (live m)) (number_of m))
  inserted d r =
      neat_table (insert_in d (live m)) (number_of m) (all_insert Runs (live m) (place_in d.target_node_id (live m)) d r neat.each)

  pub call_neat : (x : Call) → Neat (called m store output x).done.manager
  call_neat (starts node job n) =
      start_by m node job n store output Leaves (λ r e. neat) (λ r e k f. counts_neat)
      (λ k d long at e.
      neat_table (set (live m) k d) (number_of m)
      (All-set Runs (live m) k d (started_runs job (held_at m k) d (number_of m) n (room_in store (held_at m k)) e) neat.each))
      (λ d long none few e. inserted d (started_runs job (fresh m node) d (number_of m) n (room_in store (fresh m node)) e))
      (λ r e f none few. inserted (fresh m node) refl)
  call_neat (turns t n) =
      turn_by t m n store output Leaves (λ r. neat) (λ l long fits e. swept_neat l m.next_transaction_id)
      (λ k o l long fits e. swept_neat l m.next_transaction_id)
  call_neat (replies node seq cmd payload) =
      reply_by_lem m node seq cmd payload store output Leaves (λ r. neat) (λ none. neat)
      (λ k d long at e. swept_neat (set (live m) k d) m.next_transaction_id)
