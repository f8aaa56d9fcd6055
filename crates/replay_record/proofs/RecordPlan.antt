-- What a record asks for, by what was read of it: the plan, the store, the gather's bytes and the output together. And a plan carried out is what comes
-- of the request.
use Rattle.std.specs.Prelude.{Result}
use Prim.Native.Nat.{ℕ, ◌≤◌, ◌<◌}
use mathlib.Core.Path.{◌≡◌, refl, subst}
use mathlib.Core.List.{[]}
use lib.ListN.{length}
use Rattle.laws.proofs.Answers.{told}
use Rattle.laws.proofs.Picks.{below, not_below}
use Rattle.codec.specs.Bytes.{Bytes}
use Rattle.manager.proofs.PlanCalls.{plan_calls, same_done}
use Rattle.manager.specs.Plan.{plan_done, plan_of}
use Rattle.replay_record.specs.Gather.{already_gathered, gather_size}
use Rattle.replay_record.specs.Record.{record_read}
use Rattle.replay_record.specs.Request.{Asked, Request, answers, asked_plan, calls, granted, read_asks, record_asks, refuses_with, request_plan, use_call}
use Rattle.replay_record.specs.Types.{Choices, Mode, Now, Record, RecordPlan, Refusal, SdoClientManager, Use}

-- the four parts, by what the record is found to ask for
module _ (m : SdoClientManager) (store output : Bytes) where
  abbrev pub Plans : Asked → RecordPlan → Bytes → Bytes → Bytes → Type 0
  Plans x p s g o =
      record {
        value : p ≡ (asked_plan m store output x).plan;
        store_after : s ≡ (asked_plan m store output x).store;
        gather_after : g ≡ (asked_plan m store output x).gather;
        output_after : o ≡ (asked_plan m store output x).output;
      }

  pub plans : {x y : Asked} {p : RecordPlan} {s g o : Bytes} → x ≡ y → Plans x p s g o → Plans y p s g o
  plans {p = p} {s = s} {g = g} {o = o} e h = subst (λ (z : Asked). Plans z p s g o) e h

  -- a plan carried out is what comes of the request
  pub plan_grants : (x : Request)
      → plan_done (request_plan m store output x).plan m (request_plan m store output x).store (request_plan m store output x).output
      ≡ granted m store output x
  plan_grants (calls x) = plan_calls m store output x
  plan_grants (answers a) = rw (same_done m a)

-- operations 1, 3 and 4 look at no output
pub use_plan : (u : Use) (mode : Mode) (r : Record) (m : SdoClientManager) (n : Now) (bytes store output : Bytes)
    → ((plan_of m store [] (use_call u mode r n bytes)).plan ≡ (plan_of m store output (use_call u mode r n bytes)).plan)
    × (((plan_of m store [] (use_call u mode r n bytes)).store ≡ (plan_of m store output (use_call u mode r n bytes)).store)
    × (output ≡ (plan_of m store output (use_call u mode r n bytes)).output))
unfolding plan_of
use_plan Use.Write mode r m n bytes store output = (refl, (refl, refl))
use_plan Use.Dcf mode r m n bytes store output = (refl, (refl, refl))
use_plan Use.Reply mode r m n bytes store output = (refl, (refl, refl))

-- by the gather buffer, and by what was read
module _ (gathered : ℕ) (b : Bytes) (choices : Choices) (gather : Bytes) where
  pub unread : length gather < gather_size
      → refuses_with Refusal.BufferTooShort (already_gathered gathered) gather ≡ record_asks gathered b choices gather
  unfolding record_asks
  unread h = below _ _ _ _ h refl

  pub reads : {read arm : Result Record Refusal} → gather_size ≤ length gather → read ≡ record_read b → read ≡ arm
      → read_asks arm (already_gathered gathered) b choices gather ≡ record_asks gathered b choices gather
  unfolding record_asks
  reads h e f = not_below _ _ _ _ h (told (λ x. read_asks x (already_gathered gathered) b choices gather) e f refl)
