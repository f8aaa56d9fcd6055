-- Every manager that any calls made of a new one is sound.
use native.Mathlib.Omega.{arith}
use mathlib.Core.Path.{refl, sym, subst}
use mathlib.Core.List.{List, [], ◌∷◌}
use Rattle.std.proofs.lemmas.List.Elements.{All-nil}
use Rattle.theorems.proofs.AllLists.{pairs_none}
use Rattle.codec.specs.Bytes.{Bytes}
use Rattle.manager.specs.Calls.{Call, called, replies, starts, turns}
use Rattle.man_table.specs.Table.{new_manager}
use Rattle.man_table.specs.Walk.{stopped, through}
use Rattle.theorems.specs.Run.{Event, Host, Lends, another, next, own, run}
use Rattle.theorems.specs.Sound.{Before, Reached, Sane, Sound}
use Rattle.theorems.specs.Types.{Answer, End, SdoClientManager as Manager}
use Rattle.theorems.proofs.Cases.{reply_by_lem, turn_by}
use Rattle.theorems.proofs.SoundCalls.{reply_sound, turn_sound, walked_sound}
use Rattle.theorems.proofs.SoundStarts.{start_sound}
use Rattle.theorems.proofs.WrongStore.{nothing_happened}

pub call_sound : (x : Call) (m : Manager) (store output : Bytes) → Sound m store
    → Sound (called m store output x).done.manager (called m store output x).store
call_sound (starts node job n) m store output s = start_sound m store s node job n output
call_sound (turns t n) m store output s =
    turn_by t m n store output (λ (k : Manager) (st out : Bytes) (x : Answer) (es : List End). Sound k st) (λ r. s)
    (λ l long fits e. walked_sound m store s l (turn_sound m store s t n (through l) e))
    (λ k o l long fits e. walked_sound m store s l (turn_sound m store s t n (stopped k o l) e).0)
call_sound (replies node seq cmd payload) m store output s =
    reply_by_lem m node seq cmd payload store output (λ (k : Manager) (st out : Bytes) (x : Answer) (es : List End). Sound k st) (λ r. s)
    (λ unheld. s) (reply_sound m store s node seq cmd payload)

pub new_sound : (store : Bytes) → Sound new_manager store
new_sound store = record { is = refl; few = omega arith; ordered = pairs_none Before; each = All-nil (Sane store); number = omega arith }

pub event_sound : (h : Host) (x : Event) → Sound h.manager h.store → Sound (next h x).manager (next h x).store
event_sound h x s = go x.lends
  where
    go : (l : Lends)
        → let after : Host = next h (record { call = x.call; lends = l; output = x.output }) in Sound after.manager after.store
    go own = call_sound x.call h.manager h.store x.output s
    go (another store differs) =
        subst (λ (k : Host). Sound k.manager k.store) (sym (nothing_happened h x.call store x.output differs)) s

pub run_sound : (events : List Event) (h : Host) → Sound h.manager h.store → Sound (run h events).manager (run h events).store
run_sound [] h s = s
run_sound (x ∷ xs) h s = run_sound xs (next h x) (event_sound h x s)

pub all_sound : Reached
unfolding Reached
all_sound lent events = run_sound events _ (new_sound lent)
