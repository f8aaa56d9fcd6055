-- What a refusal leaves, of any manager and store; and that a read leaves the store.
use mathlib.Core.Path.{◌≡◌, refl, subst}
use mathlib.Core.List.{List, []}
use Rattle.laws.specs.Pick.{pick}
use Rattle.codec.specs.Bytes.{Bytes}
use Rattle.manager.specs.Calls.{Call, called, reads, replies, starts, turns}
use Rattle.manager.specs.Value.{value_of}
use Rattle.manager.proofs.LentRoom.{put_back}
use Rattle.manager.proofs.ValueCases.{value_by_lem}
use Rattle.man_table.specs.Table.{held_at}
use Rattle.theorems.specs.Run.{reported}
use Rattle.theorems.specs.Types.{Answer, End, Refusal, SdoClientConnection as Connection, SdoClientManager as Manager}
use Rattle.theorems.specs.Untouched.{ReadsLeaveStore, Untouched, refused_by}
use Rattle.theorems.proofs.Cases.{Of, Shown, reply_by_lem, turn_by}
use Rattle.theorems.proofs.StartBy.{fresh, start_by}

-- what an answer says of what is left: of a refusal all, of others nothing
abbrev Says : (Refusal → Manager) → Bytes → Bytes → Shown
Says M store output k s out Answer.Nothing es = Unit {0}
Says M store output k s out (Answer.Sent x) es = Unit {0}
Says M store output k s out (Answer.Value part) es = Unit {0}
Says M store output k s out (Answer.Refused r) es = (k ≡ M r) × (s ≡ store) × (out ≡ output) × (es ≡ [])

says_value : (M : Refusal → Manager) (store output : Bytes) (k : Manager) (s out : Bytes) (es : List End) (d : Connection)
    → Says M store output k s out (value_of d) es
says_value M store output k s out es = value_by_lem (λ (a : Answer). Says M store output k s out a es) tt (λ part. tt)

module _ (m : Manager) (store output : Bytes) where
  call_says : (x : Call) → Of (Says (refused_by m x) store output) (called m store output x)
  unfolding pick
  call_says (starts node job n) =
      start_by m node job n store output (Says (refused_by m (starts node job n)) store output)
      (λ r e. (rw e refl, refl, refl, refl)) (λ r e k f. (rw (e, f) refl, refl, refl, refl)) (λ k d long at e. tt)
      (λ d long none few e. tt) (λ r e f none few. (rw (e, f) refl, refl, refl, refl))
  call_says (turns t n) =
      turn_by t m n store output (Says (λ (r : Refusal). m) store output) (λ r. (refl, refl, refl, refl)) (λ l long fits e. tt)
      (λ k o l long fits e. tt)
  call_says (replies node seq cmd payload) =
      reply_by_lem m node seq cmd payload store output (Says (λ (r : Refusal). m) store output) (λ r. (refl, refl, refl, refl))
      (λ none. tt) (λ k d long at e. says_value (λ (r : Refusal). m) store output _ _ output _ d)

pub untouched : Untouched
unfolding Untouched
untouched m store output x r e =
    subst
    (λ (y : Answer).
    Says (refused_by m x) store output (called m store output x).done.manager (called m store output x).store (called m store output x).output y
    (reported (called m store output x)))
    e (call_says m store output x)

-- a read puts back the bytes of its room
pub reads_leave_store : ReadsLeaveStore
unfolding ReadsLeaveStore
reads_leave_store m store output node mode index sub now =
    start_by m node (reads mode index sub) now store output
    (λ (k : Manager) (after out : Bytes) (x : Answer) (es : List End). after ≡ store) (λ r e. refl) (λ r e k f. refl)
    (λ k d long at e. put_back store long (held_at m k)) (λ d long unheld few e. put_back store long (fresh m node)) (λ r e f unheld few. refl)
