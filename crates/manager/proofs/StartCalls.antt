-- A start by its seat: the store has its size where a job goes to a connection, and what the connection makes of the job is the call's.
use Rattle.std.specs.Prelude.{Result, Ok, Err}
use Prim.Native.Nat.{ℕ}
use mathlib.Core.Path.{◌≡◌, refl, sym, ap, ◌∙◌}
use lib.Dec.{eqb}
use lib.ListN.{length}
use borrow.Author.Tests.{eqb-true}
use Rattle.laws.proofs.Picks.{is, is_not}
use Rattle.codec.specs.Bytes.{Bytes}
use Rattle.man_table.specs.Table.{room_in, store_size, target_of}
use Rattle.manager.specs.Calls.{Effect, Job, number_of, reads, seat_in, seat_of, start_job, start_of, start_at, started_as, started_store}
use Rattle.laws.proofs.Choices.{decided}
use Rattle.manager.proofs.LentRoom.{put_back}
use Rattle.manager.specs.Change.{same}
use Rattle.manager.specs.Types.{Answer, Change, Entry, Mode, Now, Refusal, SdoClientConnection, SdoClientManager}

module _ (t : Entry) (store : Bytes) where
  pub seat_long : (s : Result SdoClientConnection Refusal) → s ≡ seat_of t → length store ≡ 32768 → s ≡ seat_in t (length store)
  unfolding seat_in
  seat_long s e h = is _ _ _ _ h e

  pub seat_other : (length store ≡ 32768 → ⊥) → Err Refusal.WrongStore ≡ seat_in t (length store)
  unfolding seat_in
  seat_other h = is_not _ _ _ _ h refl

module _ (t : Entry) (store : Bytes) (s : Result SdoClientConnection Refusal) (e : s ≡ seat_in t (length store)) where
  module _ (m : SdoClientManager) (node : ℕ) (job : Job) (n : Now) (f : t ≡ target_of m node) where
    -- the call by its seat
    by : (x : Result SdoClientConnection Refusal) → s ≡ x → start_at x t m job n store ≡ start_of m node job n store
    unfolding start_of
    by x g = rw (← g, e, f)

    pub start_refused : (r : Refusal) (c : Change) → s ≡ Err r → c ≡ same (Answer.Refused r)
        → (c ≡ (start_of m node job n store).change) × (store ≡ (start_of m node job n store).store)
    start_refused r c g h =
        let x = by (Err r) g in (h ∙ ap (λ (a : Effect). a.change) x, ap (λ (a : Effect). a.store) x)

    pub start_on_lem : (c : SdoClientConnection) (number : ℕ) (a : Result SdoClientConnection Refusal) (r : Change) (after : Bytes) → s ≡ Ok c
        → number ≡ number_of m → a ≡ start_job job c number n (room_in store c) → r ≡ started_as a t
        → after ≡ started_store (start_job job c number n (room_in store c)) job c store
        → (r ≡ (start_of m node job n store).change) × (after ≡ (start_of m node job n store).store)
    start_on_lem c number a r after g v w h q =
        let x = by (Ok c) g in (
          h ∙ rw (w, v) (ap (λ (a : Effect). a.change) x),
          q ∙ rw v (ap (λ (a : Effect). a.store) x),
        )

-- a read puts nothing into the store
pub read_keeps : (m : SdoClientManager) (node : ℕ) (mode : Mode) (index sub : ℕ) (n : Now) (store : Bytes) → store ≡ (start_of m node (reads mode index sub) n store).store
unfolding start_of seat_in
read_keeps m node mode index sub n store =
    decided (λ (s : Result SdoClientConnection Refusal). store ≡ (start_at s (target_of m node) m (reads mode index sub) n store).store) (eqb (length store) store_size) _ _
    (λ e. seated (eqb-true _ _ e) (seat_of (target_of m node))) (λ e. refl)
  where
    begun : length store ≡ store_size → (c : SdoClientConnection) (a : Result SdoClientConnection Refusal) → store ≡ started_store a (reads mode index sub) c store
    begun long c (Ok d) = sym (put_back store long c)
    begun long c (Err r) = refl

    seated : length store ≡ store_size → (s : Result SdoClientConnection Refusal) → store ≡ (start_at s (target_of m node) m (reads mode index sub) n store).store
    seated long (Ok c) = begun long c (start_job (reads mode index sub) c (number_of m) n (room_in store c))
    seated long (Err r) = refl
