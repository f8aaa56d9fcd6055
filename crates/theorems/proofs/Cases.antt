-- What each call comes to, case by case: to show something of a call it is enough to show it of each case.
use Rattle.std.specs.Prelude.{All, Option, Some, None, Ok, MatchOption}
use Rattle.std.proofs.lemmas.List.Elements.{All-cons, All-nil}
use Prim.Native.Nat.{ℕ, ◌≤◌, ◌<◌}
use native.Mathlib.Omega.{arith}
use mathlib.Core.Path.{◌≡◌, refl, sym, ◌∙◌, ap, subst}
use mathlib.Core.List.{List, [], ◌∷◌}
use lib.Dec.{ltb, eqb}
use lib.ListN.{length, get_or, set, take}
use lib.Seq.{take-append_seam}
use borrow.Author.Tests.{eqb-true, eqb-false, ltb-false}
use Rattle.codec.specs.Bytes.{Bytes}
use Rattle.codec.specs.Writing.{buffer_after}
use Rattle.con_rec.specs.Payload.{payload_of}
use Rattle.con_reply.specs.Reply.{replied, reply_of, room_after}
use Rattle.laws.proofs.Choices.{decided}
use Rattle.manager.specs.Calls.{After, Effect, called, carried_out, output_size, replies, reply_at, reply_by, reply_from, sent_to, turn_of, turns, walked_to, with_room}
use Rattle.manager.specs.Change.{putting, same}
use Rattle.manager.specs.Value.{value_of}
use Rattle.manager.proofs.ValueCases.{value_by_lem}
use Rattle.manager.proofs.PlanCalls.{put_done, same_done}
use Rattle.man_table.specs.Sweep.{ends_in, ends_of, running}
use Rattle.man_table.specs.Table.{blank, find_in, live, one_further, store_size, table_of, held_at, room_in}
use Rattle.man_table.specs.Walk.{Walking, refused, stopped, through, walk_list}
use Rattle.theorems.specs.Run.{reported}
use Rattle.theorems.specs.Story.{Story, gave_to, unless_refused}
use Rattle.theorems.specs.Types.{
  Answer,
  Decision,
  End,
  Entry,
  Now,
  Outgoing,
  Refusal,
  SdoClientConnection as Connection,
  SdoClientManager as Manager,
  SdoCommand,
  SequenceLayerHeader,
  Turn,
}

-- what is shown of a call: of the manager, the store and the output after it, its answer and the ends that it reports
abbrev pub Shown : Type 1
Shown = Manager → Bytes → Bytes → Answer → List End → Type 0

abbrev pub Of : Shown → After → Type 0
Of P a = P a.done.manager a.store a.output a.done.answer (reported a)

-- ---- a report holds its ends
ends_told : (l : List End) → take (ends_of l).count (ends_of l).list ≡ l
ends_told l = take-append_seam l _

-- ---- where a node is found, and that it is not
abbrev pub At : ℕ → List Connection → ℕ → Type 0
At node l k = ((get_or l k blank).target_node_id ≡ node) × (k < length l)

abbrev pub OtherNode : ℕ → Connection → Type 0
OtherNode node c = c.target_node_id ≡ node → ⊥

abbrev pub Absent : ℕ → List Connection → Type 0
Absent node l = All (OtherNode node) l

abbrev pub FoundAs : ℕ → List Connection → Option ℕ → Type 0
FoundAs node l f = MatchOption f (Absent node l) (At node l)

further : (node : ℕ) (c : Connection) (l : List Connection) → OtherNode node c → (f : Option ℕ) → FoundAs node l f
    → FoundAs node (c ∷ l) (one_further f)
further node c l ne (Some k) h = (h.0, omega (arith, h.1))
further node c l ne None h = All-cons (OtherNode node) c l ne h

pub found_as : (node : ℕ) (l : List Connection) → FoundAs node l (find_in node l)
found_as node [] = All-nil (OtherNode node)
found_as node (c ∷ l) =
    let rest = found_as node l in
    decided (FoundAs node (c ∷ l)) (eqb c.target_node_id node) (Some 0) _
    (λ h. (eqb-true _ _ h, omega arith)) (λ h. further node c l (eqb-false _ _ h) (find_in node l) rest)

-- ---- tick and ask
module _ (t : Turn) (m : Manager) (n : Now) (store output : Bytes) (P : Shown)
    (refuses : (r : Refusal) → P m store output (Answer.Refused r) [])
    (passes : (l : List Connection) → length store ≡ store_size → output_size ≤ length output → walk_list t n (live m) ≡ through l
    → P (table_of (running l) m.next_transaction_id) store output Answer.Nothing (ends_in l))
    (stops : (k : ℕ) (o : Outgoing) (l : List Connection) → length store ≡ store_size → output_size ≤ length output
    → walk_list t n (live m) ≡ stopped k o l
    → P (table_of (running l) m.next_transaction_id) store (buffer_after (payload_of (room_in store (get_or l k blank)) o) output)
    (sent_to (get_or l k blank) o) (ends_in l)) where
  walked : length store ≡ store_size → output_size ≤ length output → (w : Walking) → walk_list t n (live m) ≡ w
      → Of P (walked_to w m store output)
  walked long fits (refused r) e = refuses r
  walked long fits (through l) e = subst (P _ _ _ _) (sym (ends_told (ends_in l))) (passes l long fits e)
  walked long fits (stopped k o l) e = subst (P _ _ _ _) (sym (ends_told (ends_in l))) (stops k o l long fits e)

  pub turn_by : Of P (called m store output (turns t n))
  unfolding called turn_of
  turn_by =
      decided (Of P) (eqb (length store) store_size) _ _
      (λ e.
      decided (Of P) (ltb (length output) output_size) _ _ (λ f. refuses Refusal.BufferTooShort)
      (λ f. walked (eqb-true _ _ e) (ltb-false _ _ f) (walk_list t n (live m)) refl))
      (λ e. refuses Refusal.WrongStore)

-- ---- reply
module _ (m : Manager) (node : ℕ) (seq : SequenceLayerHeader) (cmd : SdoCommand) (payload store output : Bytes) (P : Shown)
    (refuses : (r : Refusal) → P m store output (Answer.Refused r) [])
    (unknown : Absent node (live m) → P m store output Answer.Nothing [])
    (answers : (k : ℕ) (d : Connection) → length store ≡ store_size → At node (live m) k
    → replied (reply_of seq cmd payload (held_at m k) (room_in store (held_at m k))) ≡ Ok d
    → P (table_of (running (set (live m) k d)) m.next_transaction_id)
    (with_room store (held_at m k)
    (room_after (reply_of seq cmd payload (held_at m k) (room_in store (held_at m k))) payload (room_in store (held_at m k))))
    output (value_of d) (ends_in (set (live m) k d))) where
  abbrev Replies : Effect → Type 0
  Replies e = Of P (carried_out m e output)

  left : (x : Answer) → P m store output x [] → Replies (record { change = same x; store = store })
  left x h = rw (same_done m x) h

  module _ (long : length store ≡ store_size) (k : ℕ) (at : At node (live m) k) where
    answered : (d : Connection) (x : Decision) → reply_of seq cmd payload (held_at m k) (room_in store (held_at m k)) ≡ x
        → replied x ≡ Ok d
        → Replies (record {
          change = putting (Entry.At k d) (value_of d);
          store = with_room store (held_at m k) (room_after x payload (room_in store (held_at m k)));
        })
    answered d x e f =
        rw (put_done m k d (value_of d), ends_told (ends_in (set (live m) k d)), ← e) (answers k d long at (ap replied e ∙ f))

    decides : (x : Decision) → reply_of seq cmd payload (held_at m k) (room_in store (held_at m k)) ≡ x
        → Replies (reply_by x k (held_at m k) payload store)
    decides (Decision.Keeps d) e = answered d (Decision.Keeps d) e refl
    decides (Decision.Stores d from) e = answered d (Decision.Stores d from) e refl
    decides Decision.NoRoom e = left (Answer.Refused Refusal.NoRoom) (refuses Refusal.NoRoom)

  found : length store ≡ store_size → (f : Option ℕ) → FoundAs node (live m) f → Replies (reply_at f m seq cmd payload store)
  found long None h = left Answer.Nothing (unknown h)
  found long (Some k) h = decides long k h (reply_of seq cmd payload (held_at m k) (room_in store (held_at m k))) refl

  pub reply_by_lem : Of P (called m store output (replies node seq cmd payload))
  unfolding called reply_from
  reply_by_lem =
      decided Replies (eqb (length store) store_size) _ _
      (λ e. found (eqb-true _ _ e) (find_in node (live m)) (found_as node (live m)))
      (λ e. left (Answer.Refused Refusal.WrongStore) (refuses Refusal.WrongStore))

-- ---- what a reply answers gives no command, and is no refusal
pub gives_none : (node : ℕ) (output : Bytes) (d : Connection) → gave_to node output (value_of d) ≡ None
gives_none node output = value_by_lem (λ (a : Answer). gave_to node output a ≡ None) refl (λ part. refl)

pub not_refused : (s t : Story) (d : Connection) → t ≡ unless_refused (value_of d) s t
not_refused s t = value_by_lem (λ (a : Answer). t ≡ unless_refused a s t) refl (λ part. refl)
